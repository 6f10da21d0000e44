use Rattle.std.proofs.Common.{rules, length, map, sym, ◌∙◌, subst}
use Rattle.std.proofs.lemmas.List.{length-map}
use Rattle.xsk_io.specs.Bay.{GrowsByPart, IsOffered, Moment}
use Rattle.xsk_io.proofs.Steps.{IsOffered-earlier, Rose-earlier, Same-then}
use Rattle.xsk_io.specs.declared.bay.Kind.TheVariants.{Write}
use Rattle.xsk_io.specs.declared.bay.Stream.TheVariants.{Input, Output, Report}
use Rattle.xsk_cli.specs.Streams.{AreWritten}
use Rattle.xsk_cli.specs.Steps.{written_in}
use Rattle.xsk_cli.proofs.Counting.{but_its_own, never_falls_by, never_falls_then, none_of_it, unchanged_then}
use Rattle.xsk_cli.proofs.Writing.{still_written}
use Rattle.xsk_cli.proofs.output.write_texts.Goals as goal

pub returns-in-Err-clause-failed : goal.returns-in-Err-clause-failed
returns-in-Err-clause-failed g c =
    let old : Moment = g.B.Bay.moment c.args.bay.now in
    let mid : Moment = g.B.Bay.moment c.write_outputs.new.bay in
    let new : Moment = g.B.Bay.moment c.write_whole.new.bay in
    let names = map (λ name. name.now) c.args.names.now in
    let n = length c.args.names.now in
    let are : AreWritten names (written_in (g.L.Leaves.sent c.args.left.now) c.args.texts.now).outputs n n old mid =
    c.in_ok-write_outputs.ensures.written in
    let still : AreWritten names (written_in (g.L.Leaves.sent c.args.left.now) c.args.texts.now).outputs n n old new = still_written names (written_in (g.L.Leaves.sent c.args.left.now) c.args.texts.now).outputs n n old mid new are c.write_whole.ensures.opened c.write_whole.ensures.names
    (λ port. c.write_whole.ensures.held_others (Output port) (λ e. cc)) (λ port. c.write_whole.ensures.other_offers (Output port) (λ e. cc)) in
    let offered : IsOffered (old.offers Report) (new.offers Report) (length (written_in (g.L.Leaves.sent c.args.left.now) c.args.texts.now).report) = search (rules, IsOffered-earlier) in
    let part : GrowsByPart (old.held Report) (new.held Report) (written_in (g.L.Leaves.sent c.args.left.now) c.args.texts.now).report = search rules in
    (subst (λ k. AreWritten names (written_in (g.L.Leaves.sent c.args.left.now) c.args.texts.now).outputs k k old new) (sym (length-map c.args.names.now (λ name. name.now))) still, part, offered)

pub returns-in-Ok-clause-written : goal.returns-in-Ok-clause-written
returns-in-Ok-clause-written g c =
    let old : Moment = g.B.Bay.moment c.args.bay.now in
    let mid : Moment = g.B.Bay.moment c.write_outputs.new.bay in
    let new : Moment = g.B.Bay.moment c.write_whole.new.bay in
    let names = map (λ name. name.now) c.args.names.now in
    let n = length c.args.names.now in
    let are : AreWritten names (written_in (g.L.Leaves.sent c.args.left.now) c.args.texts.now).outputs n n old mid =
    c.in_ok-write_outputs.ensures.written in
    let still : AreWritten names (written_in (g.L.Leaves.sent c.args.left.now) c.args.texts.now).outputs n n old new = still_written names (written_in (g.L.Leaves.sent c.args.left.now) c.args.texts.now).outputs n n old mid new are c.write_whole.ensures.opened c.write_whole.ensures.names
    (λ port. c.write_whole.ensures.held_others (Output port) (λ e. cc)) (λ port. c.write_whole.ensures.other_offers (Output port) (λ e. cc)) in
    still

pub returns-in-Err-clause-opened : goal.returns-in-Err-clause-opened
returns-in-Err-clause-opened g c port = c.write_whole.ensures.opened (Input port) ∙ c.write_outputs.ensures.opened port

pub returns-in-Err-clause-asked : goal.returns-in-Err-clause-asked
returns-in-Err-clause-asked g c port = c.write_whole.ensures.names (Input port) ∙ c.write_outputs.ensures.asked port

pub returns-in-Err-clause-left : goal.returns-in-Err-clause-left
returns-in-Err-clause-left g c = Same-then _ _ _ c.write_outputs.ensures.left c.write_whole.ensures.left

pub returns-in-Err-clause-falls : goal.returns-in-Err-clause-falls
returns-in-Err-clause-falls g c = never_falls_then _ _ _ c.write_outputs.ensures.falls (never_falls_by Write Report _ _ c.write_whole.ensures.counts c.write_whole.ensures.never_falls)

pub returns-in-Ok-clause-opened : goal.returns-in-Ok-clause-opened
returns-in-Ok-clause-opened g c port = c.write_whole.ensures.opened (Input port) ∙ c.write_outputs.ensures.opened port

pub returns-in-Ok-clause-asked : goal.returns-in-Ok-clause-asked
returns-in-Ok-clause-asked g c port = c.write_whole.ensures.names (Input port) ∙ c.write_outputs.ensures.asked port

pub returns-in-Ok-clause-left : goal.returns-in-Ok-clause-left
returns-in-Ok-clause-left g c = Same-then _ _ _ c.write_outputs.ensures.left c.write_whole.ensures.left

pub returns-in-Ok-clause-falls : goal.returns-in-Ok-clause-falls
returns-in-Ok-clause-falls g c = never_falls_then _ _ _ c.write_outputs.ensures.falls (never_falls_by Write Report _ _ c.write_whole.ensures.counts c.write_whole.ensures.never_falls)

pub returns-in-Err-clause-others : goal.returns-in-Err-clause-others
returns-in-Err-clause-others g c kind stream other = but_its_own Write Report _ _ c.write_whole.ensures.counts kind stream other ∙ c.in_ok-write_outputs.ensures.unchanged kind stream

pub returns-in-Ok-clause-unchanged : goal.returns-in-Ok-clause-unchanged
returns-in-Ok-clause-unchanged g c = unchanged_then _ _ _ c.in_ok-write_outputs.ensures.unchanged (none_of_it Write Report _ _ c.write_whole.ensures.counts c.in-Ok.ensures.no_fault)

pub returns-in-Err-clause-cause : goal.returns-in-Err-clause-cause
returns-in-Err-clause-cause g c = Rose-earlier _ _ _ (c.write_outputs.ensures.falls Write Report) c.in-Err.ensures.cause
