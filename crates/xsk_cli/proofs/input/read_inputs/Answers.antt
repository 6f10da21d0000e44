use Rattle.std.proofs.Common.{rules, ◌<◌, ◌+◌, length, map, [], ◌∷◌, get_or, sym, ap, ◌∙◌, subst}
use Rattle.std.proofs.lemmas.List.{map-append}
use Rattle.xsk_io.proofs.Steps.{Same-then}
use Rattle.xsk_io.specs.declared.bay.Stream.TheVariants.{Input, Report}
use Rattle.xsk_cli.specs.Cause.{NoOthers}
use Rattle.xsk_cli.specs.Steps.{FailsReading, HaveRead, read_status}
use Rattle.xsk_io.specs.Bay.{Moment}
use Rattle.xsk_cli.specs.Streams.{IsTold}
use Rattle.xsk_cli.specs.declared.failure.ReadFailure.TheVariants.{OutOfMemory}
use Rattle.xsk_cli.proofs.Counting.{err_is, never_falls_then, no_others_then, unchanged_then}
use Rattle.xsk_cli.proofs.Reading.{read_more, reading_fails, ends_at_once, answer_ends, told_name, known_name}
use Rattle.xsk_cli.proofs.input.read_inputs.Goals as goal

pub returns-in_err-inputs-clause-failed : goal.returns-in_err-inputs-clause-failed
returns-in_err-inputs-clause-failed g c plan e same =
    let now : Moment = g.B.Bay.moment c.args.bay.now in
    answer_ends c.from_residual.result OutOfMemory plan now now (search rules) (ends_at_once plan now c.requires.closed)

pub returns-in_err-bytes-clause-failed : goal.returns-in_err-bytes-clause-failed
returns-in_err-bytes-clause-failed g c plan e same =
    let old : Moment = g.B.Bay.moment c.args.bay.now in
    let mid : Moment = g.B.Bay.moment c.loop-port.bay in
    let new : Moment = g.B.Bay.moment c.read_input.new.bay in
    let port = c.loop-port.port in
    let names = map (λ name. name.now) c.args.names.now in
    let bytes = map (λ bytes. bytes.items) c.loop-port.inputs.items in
    let below : port < length c.args.names.now = search rules in
    let told : IsTold (new.asked (Input port)) (get_or names port []) = told_name (λ name. name.now) c.args.names.now port _ (new.asked (Input port)) below c.read_input.ensures.asked in
    let known : port < length names = known_name (λ name. name.now) c.args.names.now port below in
    answer_ends c.from_residual-in_err-bytes.result c.in_err-bytes.field-0.0 plan old new (search rules)
    (reading_fails plan bytes port old mid new (subst (λ n. HaveRead n plan.inputs bytes port old mid) (sym same) (subst (λ ns. HaveRead c.args.most ns bytes port old mid) (sym e) c.loop-port.invariant.have)) (subst (λ ns. port < length ns) (sym e) known) c.read_input.ensures.touched
    (subst (λ ns. IsTold (new.asked (Input port)) (get_or ns port [])) (sym e) told) c.in_err-bytes.field-0.0 (subst (λ n. FailsReading n port mid new c.in_err-bytes.field-0.0) (sym same) (search rules)))

pub returns-in_err-bytes-clause-report : goal.returns-in_err-bytes-clause-report
returns-in_err-bytes-clause-report g c = c.read_input.ensures.touched.held Report (λ e. cc) ∙ c.loop-port.invariant.have.report

pub returns-in_err-bytes-clause-offers : goal.returns-in_err-bytes-clause-offers
returns-in_err-bytes-clause-offers g c = Same-then _ _ _ c.loop-port.invariant.have.offers c.read_input.ensures.touched.offers

pub returns-in_err-bytes-clause-falls : goal.returns-in_err-bytes-clause-falls
returns-in_err-bytes-clause-falls g c = never_falls_then _ _ _ c.loop-port.invariant.falls c.read_input.ensures.touched.falls

pub returns-in_err-bytes-clause-others : goal.returns-in_err-bytes-clause-others
returns-in_err-bytes-clause-others g c =
    let old : Moment = g.B.Bay.moment c.args.bay.now in
    let new : Moment = g.B.Bay.moment c.read_input.new.bay in
    err_is (λ failure. NoOthers old.faults new.faults (read_status failure)) c.from_residual-in_err-bytes.result c.in_err-bytes.field-0.0 (search rules)
    (no_others_then old.faults _ new.faults (read_status c.in_err-bytes.field-0.0) c.loop-port.invariant.unchanged c.in_err-bytes.ensures.others)

pub loop-port-preserved : goal.loop-port-preserved
loop-port-preserved g c =
    let old : Moment = g.B.Bay.moment c.args.bay.now in
    let mid : Moment = g.B.Bay.moment c.loop-port.bay in
    let new : Moment = g.B.Bay.moment c.read_input.new.bay in
    let port = c.loop-port.port in
    let names = map (λ name. name.now) c.args.names.now in
    let bytes = map (λ bytes. bytes.items) c.loop-port.inputs.items in
    let below : port < length c.args.names.now = search rules in
    let told : IsTold (new.asked (Input port)) (get_or names port []) = told_name (λ name. name.now) c.args.names.now port _ (new.asked (Input port)) below c.read_input.ensures.asked in
    record {
      have = subst (λ bs. HaveRead c.args.most names bs (port + 1) old new)
          (sym (ap (map (λ bytes. bytes.items)) c.push_reserved.ensures.items ∙ map-append (λ bytes. bytes.items) c.loop-port.inputs.items (c.in_ok-bytes.bytes ∷ [])))
          (read_more c.args.most names bytes port old mid new c.loop-port.invariant.have c.read_input.ensures.touched told c.in_ok-bytes.bytes.items
          c.in_ok-bytes.ensures.read.open_now c.in_ok-bytes.ensures.read.all c.in_ok-bytes.ensures.read.short c.in_ok-bytes.ensures.read.at_end);
      unchanged = unchanged_then _ _ _ c.loop-port.invariant.unchanged c.in_ok-bytes.ensures.read.unchanged;
      falls = never_falls_then _ _ _ c.loop-port.invariant.falls c.read_input.ensures.touched.falls;
      count = search rules;
      room = search rules;
    }
