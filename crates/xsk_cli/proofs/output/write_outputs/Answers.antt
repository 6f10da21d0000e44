use Rattle.std.proofs.Common.{rules, ◌<◌, length, map, [], get_or, ap, sym, ◌∙◌, subst, arith}
use Rattle.xsk_io.specs.Bay.{IsOffered, Moment}
use Rattle.xsk_io.proofs.Steps.{Adds-then, Same-then}
use Rattle.xsk_io.specs.declared.bay.Stream.TheVariants.{Input, Output, Report}
use Rattle.xsk_cli.specs.Cause.{NoOthers}
use Rattle.xsk_cli.specs.Steps.{CanBeLaid, FailsOutput, outputs_in, write_status}
use Rattle.xsk_cli.specs.Streams.{IsTold}
use Rattle.xsk_cli.proofs.Counting.{err_is, never_falls_then, no_others_then, unchanged_then}
use Rattle.xsk_cli.proofs.Outputs.{write_more, writing_fails}
use Rattle.xsk_cli.proofs.Reading.{told_name, known_name}
use Rattle.xsk_cli.proofs.output.write_outputs.Goals as goal

pub write_next-requires-clause-known : goal.write_next-requires-clause-known
write_next-requires-clause-known g c =
    let below : c.loop-port.port < length c.args.names.now = search rules in
    omega (arith, below, c.requires.outputs, ap (λ left. length (outputs_in (g.L.Leaves.sent left) c.args.outputs.now)) c.loop-port.invariant.kept)

pub write_next-requires-clause-laid : goal.write_next-requires-clause-laid
write_next-requires-clause-laid g c = subst (λ left. CanBeLaid (g.L.Leaves.sent left) c.args.outputs.now) (sym c.loop-port.invariant.kept) c.requires.laid

pub returns-in_err-write_next-clause-failed : goal.returns-in_err-write_next-clause-failed
returns-in_err-write_next-clause-failed g c =
    let old : Moment = g.B.Bay.moment c.args.bay.now in
    let mid : Moment = g.B.Bay.moment c.loop-port.bay in
    let new : Moment = g.B.Bay.moment c.write_next.new.bay in
    let port = c.loop-port.port in
    let names = map (λ name. name.now) c.args.names.now in
    let texts = outputs_in (g.L.Leaves.sent c.args.left.now) c.args.outputs.now in
    let below : port < length c.args.names.now = search rules in
    let told : IsTold (new.asked (Output port)) (get_or names port []) = told_name (λ name. name.now) c.args.names.now port _ (new.asked (Output port)) below c.write_next.ensures.asked in
    let fails = writing_fails names texts port old mid new c.loop-port.invariant.are c.write_next.ensures.rewritten told c.in_err-write_next.field-0.0 (known_name (λ name. name.now) c.args.names.now port below)
    (subst (λ left. FailsOutput port (get_or (outputs_in (g.L.Leaves.sent left) c.args.outputs.now) port []) mid new c.in_err-write_next.field-0.0) c.loop-port.invariant.kept (search rules)) in
    search (rules, fails)

pub returns-in_err-write_next-clause-report : goal.returns-in_err-write_next-clause-report
returns-in_err-write_next-clause-report g c = c.write_next.ensures.rewritten.held Report (λ e. cc) ∙ c.loop-port.invariant.report

pub returns-in_err-write_next-clause-unoffered : goal.returns-in_err-write_next-clause-unoffered
returns-in_err-write_next-clause-unoffered g c = Adds-then _ _ _ [] [] c.loop-port.invariant.unoffered (c.write_next.ensures.rewritten.offers Report (λ e. cc))

pub returns-in_err-write_next-clause-opened : goal.returns-in_err-write_next-clause-opened
returns-in_err-write_next-clause-opened g c n = c.write_next.ensures.rewritten.opened (Input n) (λ e. cc) ∙ c.loop-port.invariant.opened n

pub returns-in_err-write_next-clause-asked : goal.returns-in_err-write_next-clause-asked
returns-in_err-write_next-clause-asked g c n = c.write_next.ensures.rewritten.asked (Input n) (λ e. cc) ∙ c.loop-port.invariant.asked n

pub returns-in_err-write_next-clause-left : goal.returns-in_err-write_next-clause-left
returns-in_err-write_next-clause-left g c = Same-then _ _ _ c.loop-port.invariant.left c.write_next.ensures.rewritten.left

pub returns-in_err-write_next-clause-falls : goal.returns-in_err-write_next-clause-falls
returns-in_err-write_next-clause-falls g c = never_falls_then _ _ _ c.loop-port.invariant.falls c.write_next.ensures.rewritten.falls

pub returns-in_err-write_next-clause-others : goal.returns-in_err-write_next-clause-others
returns-in_err-write_next-clause-others g c =
    let old : Moment = g.B.Bay.moment c.args.bay.now in
    let new : Moment = g.B.Bay.moment c.write_next.new.bay in
    err_is (λ failure. NoOthers old.faults new.faults (write_status failure)) c.from_residual.result c.in_err-write_next.field-0.0 (search rules)
    (no_others_then old.faults _ new.faults (write_status c.in_err-write_next.field-0.0) c.loop-port.invariant.unchanged c.in_err-write_next.ensures.others)

pub loop-port-preserved : goal.loop-port-preserved
loop-port-preserved g c =
    let old : Moment = g.B.Bay.moment c.args.bay.now in
    let mid : Moment = g.B.Bay.moment c.loop-port.bay in
    let new : Moment = g.B.Bay.moment c.write_next.new.bay in
    let port = c.loop-port.port in
    let names = map (λ name. name.now) c.args.names.now in
    let texts = outputs_in (g.L.Leaves.sent c.args.left.now) c.args.outputs.now in
    let below : port < length c.args.names.now = search rules in
    let told : IsTold (new.asked (Output port)) (get_or names port []) = told_name (λ name. name.now) c.args.names.now port _ (new.asked (Output port)) below c.write_next.ensures.asked in
    record {
      are = write_more names texts port old mid new c.loop-port.invariant.are c.write_next.ensures.rewritten told c.in_ok-write_next.ensures.written.open_now
          (subst (λ left. IsTold (new.held (Output port)) (get_or (outputs_in (g.L.Leaves.sent left) c.args.outputs.now) port [])) c.loop-port.invariant.kept c.in_ok-write_next.ensures.written.whole)
          (subst (λ left. IsOffered (mid.offers (Output port)) (new.offers (Output port)) (length (get_or (outputs_in (g.L.Leaves.sent left) c.args.outputs.now) port []))) c.loop-port.invariant.kept c.in_ok-write_next.ensures.written.offered);
      kept = c.write_next.ensures.kept ∙ c.loop-port.invariant.kept;
      report = c.write_next.ensures.rewritten.held Report (λ e. cc) ∙ c.loop-port.invariant.report;
      unoffered = Adds-then _ _ _ [] [] c.loop-port.invariant.unoffered (c.write_next.ensures.rewritten.offers Report (λ e. cc));
      opened = λ n. c.write_next.ensures.rewritten.opened (Input n) (λ e. cc) ∙ c.loop-port.invariant.opened n;
      asked = λ n. c.write_next.ensures.rewritten.asked (Input n) (λ e. cc) ∙ c.loop-port.invariant.asked n;
      left = Same-then _ _ _ c.loop-port.invariant.left c.write_next.ensures.rewritten.left;
      unchanged = unchanged_then _ _ _ c.loop-port.invariant.unchanged c.in_ok-write_next.ensures.written.unchanged;
      falls = never_falls_then _ _ _ c.loop-port.invariant.falls c.write_next.ensures.rewritten.falls;
    }
