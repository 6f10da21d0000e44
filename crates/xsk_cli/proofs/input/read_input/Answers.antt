use Rattle.std.proofs.Common.{◌≤◌, ◌∙◌, refl, subst, sym}
use Rattle.xsk_io.specs.Bay.{Moment}
use Rattle.xsk_io.specs.declared.bay.Kind.TheVariants.{Open, Read}
use Rattle.xsk_io.specs.declared.bay.Stream.TheVariants.{Input}
use Rattle.xsk_cli.proofs.Counting.{but_its_own, never_falls_by, none_of_it, unchanged_then}
use Rattle.xsk_cli.proofs.Reading.{asked_only, kept_by, Touched-then, unread_fails, unread_others}
use Rattle.xsk_cli.specs.Cause.{NoOthers}
use Rattle.xsk_cli.specs.Streams.{IsTold}
use Rattle.xsk_cli.specs.Steps.{FailsReading, read_status}
use Rattle.xsk_cli.proofs.input.read_input.Goals as goal

pub returns-in-Err-clause-failed : goal.returns-in-Err-clause-failed
returns-in-Err-clause-failed g c = (refl, c.in-Err.ensures.opened, c.open.ensures.left (Input c.args.port), c.in-Err.ensures.cause)

pub returns-in-Err-clause-asked : goal.returns-in-Err-clause-asked
returns-in-Err-clause-asked g c = c.open.ensures.name

pub returns-in-Err-clause-others : goal.returns-in-Err-clause-others
returns-in-Err-clause-others g c kind stream other = but_its_own Open (Input c.args.port) _ _ c.open.ensures.counts kind stream other

pub returns-in-Err-clause-touched : goal.returns-in-Err-clause-touched
returns-in-Err-clause-touched g c =
    let e = c.open.ensures in
    asked_only (Input c.args.port) (g.B.Bay.moment c.args.bay.now) (g.B.Bay.moment c.open.new.self) e.opened_others e.other_names e.left e.held_others e.offers e.counts e.never_falls

pub returns-in-Ok-read_whole-clause-read : goal.returns-in-Ok-read_whole-clause-read
returns-in-Ok-read_whole-clause-read g c =
    let old : Moment = g.B.Bay.moment c.args.bay.now in
    let mid : Moment = g.B.Bay.moment c.open.new.self in
    let new : Moment = g.B.Bay.moment c.read_whole.new.bay in
    let stream = Input c.args.port in
    let e = c.in-Ok.ensures in
    let r = c.in-Ok-read_whole.ensures in
    record {
      open_now = c.read_whole.ensures.opened stream ∙ e.opened;
      all = subst (λ l. IsTold l c.in-Ok-read_whole.bytes.items) (c.open.ensures.left stream) r.whole;
      short = r.within;
      at_end = r.end;
      unchanged = unchanged_then old.faults mid.faults new.faults (none_of_it Open stream _ _ c.open.ensures.counts e.no_fault)
          (none_of_it Read stream _ _ c.read_whole.ensures.counts (kept_by c.read_whole.result c.in-Ok-read_whole.bytes c.in-Ok-read_whole.is c.read_whole.ensures.no_fault));
    }

pub returns-in-Ok-read_whole-clause-asked : goal.returns-in-Ok-read_whole-clause-asked
returns-in-Ok-read_whole-clause-asked g c = subst (λ a. IsTold a c.args.name.now) (sym (c.read_whole.ensures.names (Input c.args.port))) c.open.ensures.name

pub returns-in-Ok-read_whole-clause-touched : goal.returns-in-Ok-read_whole-clause-touched
returns-in-Ok-read_whole-clause-touched g c =
    let old : Moment = g.B.Bay.moment c.args.bay.now in
    let mid : Moment = g.B.Bay.moment c.open.new.self in
    let new : Moment = g.B.Bay.moment c.read_whole.new.bay in
    let e = c.open.ensures in
    let r = c.read_whole.ensures in
    Touched-then (Input c.args.port) old mid new
    (asked_only (Input c.args.port) old mid e.opened_others e.other_names e.left e.held_others e.offers e.counts e.never_falls)
    r.opened r.names r.left_others r.held r.offers (never_falls_by Read (Input c.args.port) mid.faults new.faults r.counts r.never_falls)

pub returns-in-Err-read_whole-clause-failed : goal.returns-in-Err-read_whole-clause-failed
returns-in-Err-read_whole-clause-failed g c =
    let old : Moment = g.B.Bay.moment c.args.bay.now in
    let mid : Moment = g.B.Bay.moment c.open.new.self in
    let new : Moment = g.B.Bay.moment c.read_whole.new.bay in
    let stream = Input c.args.port in
    let r = c.read_whole.ensures in
    let low : old.faults Read stream ≤ mid.faults Read stream = never_falls_by Open stream old.faults mid.faults c.open.ensures.counts c.open.ensures.never_falls Read stream in
    subst (FailsReading c.args.most c.args.port old new) (sym c.unread.ensures)
    (unread_fails c.args.most c.args.port old mid new c.read_whole.result c.in-Err-read_whole.error c.in-Err-read_whole.is (r.opened stream ∙ c.in-Ok.ensures.opened) (c.open.ensures.left stream) r.too_long low r.cause)

pub returns-in-Err-read_whole-clause-asked : goal.returns-in-Err-read_whole-clause-asked
returns-in-Err-read_whole-clause-asked g c = subst (λ a. IsTold a c.args.name.now) (sym (c.read_whole.ensures.names (Input c.args.port))) c.open.ensures.name

pub returns-in-Err-read_whole-clause-others : goal.returns-in-Err-read_whole-clause-others
returns-in-Err-read_whole-clause-others g c =
    let old : Moment = g.B.Bay.moment c.args.bay.now in
    let mid : Moment = g.B.Bay.moment c.open.new.self in
    let new : Moment = g.B.Bay.moment c.read_whole.new.bay in
    subst (λ failure. NoOthers old.faults new.faults (read_status failure)) (sym c.unread.ensures)
    (unread_others c.args.port old.faults mid.faults new.faults c.read_whole.result c.in-Err-read_whole.error c.in-Err-read_whole.is (none_of_it Open (Input c.args.port) _ _ c.open.ensures.counts c.in-Ok.ensures.no_fault) c.read_whole.ensures.counts c.read_whole.ensures.no_fault)

pub returns-in-Err-read_whole-clause-touched : goal.returns-in-Err-read_whole-clause-touched
returns-in-Err-read_whole-clause-touched g c =
    let old : Moment = g.B.Bay.moment c.args.bay.now in
    let mid : Moment = g.B.Bay.moment c.open.new.self in
    let new : Moment = g.B.Bay.moment c.read_whole.new.bay in
    let e = c.open.ensures in
    let r = c.read_whole.ensures in
    Touched-then (Input c.args.port) old mid new
    (asked_only (Input c.args.port) old mid e.opened_others e.other_names e.left e.held_others e.offers e.counts e.never_falls)
    r.opened r.names r.left_others r.held r.offers (never_falls_by Read (Input c.args.port) mid.faults new.faults r.counts r.never_falls)
