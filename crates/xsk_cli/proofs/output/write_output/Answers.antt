use Rattle.std.proofs.Common.{◌≤◌, ◌∙◌, [], refl, subst, sym}
use Rattle.xsk_io.specs.Bay.{Adds, Moment}
use Rattle.xsk_io.specs.declared.bay.Kind.TheVariants.{Open, Write}
use Rattle.xsk_io.specs.declared.bay.Stream.TheVariants.{Output}
use Rattle.xsk_io.proofs.Steps.{Adds-none, IsOffered-earlier, Rose-earlier}
use Rattle.xsk_cli.proofs.Counting.{but_its_own, never_falls_by, none_of_it, unchanged_then}
use Rattle.xsk_cli.proofs.Outputs.{front_in, opened_only, Rewritten-then, whole_in}
use Rattle.xsk_cli.specs.Cause.{Unchanged}
use Rattle.xsk_cli.specs.Streams.{IsTold}
use Rattle.xsk_cli.proofs.output.write_output.Goals as goal

pub returns-in-Err-clause-failed : goal.returns-in-Err-clause-failed
returns-in-Err-clause-failed g c =
    let old : Moment = g.B.Bay.moment c.args.bay.now in
    let e = c.in-Err.ensures in
    (refl, e.opened, e.failed, e.cause, subst (λ o. Adds (old.offers (Output c.args.port)) o []) (sym (e.offers (Output c.args.port))) (Adds-none (old.offers (Output c.args.port))))

pub returns-in-Err-clause-asked : goal.returns-in-Err-clause-asked
returns-in-Err-clause-asked g c = c.open.ensures.name

pub returns-in-Err-clause-others : goal.returns-in-Err-clause-others
returns-in-Err-clause-others g c kind stream other = but_its_own Open (Output c.args.port) _ _ c.open.ensures.counts kind stream other

pub returns-in-Err-clause-rewritten : goal.returns-in-Err-clause-rewritten
returns-in-Err-clause-rewritten g c =
    let e = c.open.ensures in
    opened_only (Output c.args.port) (g.B.Bay.moment c.args.bay.now) (g.B.Bay.moment c.open.new.self) e.opened_others e.other_names e.left e.held_others e.offers e.counts e.never_falls

pub returns-in-Ok-write_whole-clause-written : goal.returns-in-Ok-write_whole-clause-written
returns-in-Ok-write_whole-clause-written g c =
    let old : Moment = g.B.Bay.moment c.args.bay.now in
    let mid : Moment = g.B.Bay.moment c.open.new.self in
    let new : Moment = g.B.Bay.moment c.write_whole.new.bay in
    let stream = Output c.args.port in
    let e = c.in-Ok.ensures in
    let w = c.in-Ok-write_whole.ensures in
    record {
      open_now = c.write_whole.ensures.opened stream ∙ e.opened;
      whole = whole_in (mid.held stream) (new.held stream) c.args.text.now e.emptied w.whole;
      offered = IsOffered-earlier _ _ _ _ (subst (λ o. Adds (old.offers stream) o []) (sym (c.open.ensures.offers stream)) (Adds-none (old.offers stream))) c.write_whole.ensures.offered;
      unchanged = unchanged_then old.faults mid.faults new.faults (none_of_it Open stream _ _ c.open.ensures.counts e.no_fault) (none_of_it Write stream _ _ c.write_whole.ensures.counts w.no_fault);
    }

pub returns-in-Ok-write_whole-clause-asked : goal.returns-in-Ok-write_whole-clause-asked
returns-in-Ok-write_whole-clause-asked g c = subst (λ a. IsTold a c.args.name.now) (sym (c.write_whole.ensures.names (Output c.args.port))) c.open.ensures.name

pub returns-in-Ok-write_whole-clause-rewritten : goal.returns-in-Ok-write_whole-clause-rewritten
returns-in-Ok-write_whole-clause-rewritten g c =
    let old : Moment = g.B.Bay.moment c.args.bay.now in
    let mid : Moment = g.B.Bay.moment c.open.new.self in
    let new : Moment = g.B.Bay.moment c.write_whole.new.bay in
    let e = c.open.ensures in
    let w = c.write_whole.ensures in
    Rewritten-then (Output c.args.port) old mid new
    (opened_only (Output c.args.port) old mid e.opened_others e.other_names e.left e.held_others e.offers e.counts e.never_falls)
    w.opened w.names w.left w.held_others w.other_offers (never_falls_by Write (Output c.args.port) mid.faults new.faults w.counts w.never_falls)

pub returns-in-Err-write_whole-clause-failed : goal.returns-in-Err-write_whole-clause-failed
returns-in-Err-write_whole-clause-failed g c =
    let old : Moment = g.B.Bay.moment c.args.bay.now in
    let mid : Moment = g.B.Bay.moment c.open.new.self in
    let new : Moment = g.B.Bay.moment c.write_whole.new.bay in
    let stream = Output c.args.port in
    let e = c.in-Ok.ensures in
    let w = c.in-Err-write_whole.ensures in
    let low : old.faults Write stream ≤ mid.faults Write stream = never_falls_by Open stream old.faults mid.faults c.open.ensures.counts c.open.ensures.never_falls Write stream in (
      refl,
      c.write_whole.ensures.opened stream ∙ e.opened,
      front_in (mid.held stream) (new.held stream) c.args.text.now e.emptied w.part,
      Rose-earlier _ _ _ low w.cause,
      IsOffered-earlier _ _ _ _ (subst (λ o. Adds (old.offers stream) o []) (sym (c.open.ensures.offers stream)) (Adds-none (old.offers stream))) c.write_whole.ensures.offered,
    )

pub returns-in-Err-write_whole-clause-asked : goal.returns-in-Err-write_whole-clause-asked
returns-in-Err-write_whole-clause-asked g c = subst (λ a. IsTold a c.args.name.now) (sym (c.write_whole.ensures.names (Output c.args.port))) c.open.ensures.name

pub returns-in-Err-write_whole-clause-others : goal.returns-in-Err-write_whole-clause-others
returns-in-Err-write_whole-clause-others g c kind stream other =
    let opened : Unchanged (g.B.Bay.moment c.args.bay.now).faults (g.B.Bay.moment c.open.new.self).faults = none_of_it Open (Output c.args.port) _ _ c.open.ensures.counts c.in-Ok.ensures.no_fault in
    but_its_own Write (Output c.args.port) _ _ c.write_whole.ensures.counts kind stream other ∙ opened kind stream

pub returns-in-Err-write_whole-clause-rewritten : goal.returns-in-Err-write_whole-clause-rewritten
returns-in-Err-write_whole-clause-rewritten g c =
    let old : Moment = g.B.Bay.moment c.args.bay.now in
    let mid : Moment = g.B.Bay.moment c.open.new.self in
    let new : Moment = g.B.Bay.moment c.write_whole.new.bay in
    let e = c.open.ensures in
    let w = c.write_whole.ensures in
    Rewritten-then (Output c.args.port) old mid new
    (opened_only (Output c.args.port) old mid e.opened_others e.other_names e.left e.held_others e.offers e.counts e.never_falls)
    w.opened w.names w.left w.held_others w.other_offers (never_falls_by Write (Output c.args.port) mid.faults new.faults w.counts w.never_falls)
