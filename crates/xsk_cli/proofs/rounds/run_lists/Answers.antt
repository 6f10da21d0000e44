use Rattle.std.proofs.Common.{rules, List, length, Err, ◌≡◌, ◌++◌, [], ap, refl, subst, sym, ◌∙◌, arith, append-nil, true, false, not}
use Rattle.std.specs.Prelude.{Bool, IfErr, if◌then◌else◌}
use Rattle.std.proofs.lemmas.List.FromFn.{length-map-range_with_len}
use Rattle.xsk_model.specs.Config.{Config, IsRegular}
use Rattle.xsk_turns.specs.declared.disposal.DriverCounters.{DriverCounters}
use Rattle.xsk_machine.specs.Sent.{SentShown}
use Rattle.xsk_sim.specs.Journal.{journal_of}
use Rattle.xsk_sim.specs.declared.simulation.Unended.TheVariants.{Stalled as StalledOn}
use Rattle.xsk_socket.specs.Regular.{regular_of}
use Rattle.xsk_stats.specs.Report.{report_text}
use Rattle.xsk_socket.proofs.Accepted.{fits}
use Rattle.xsk_cli.specs.Outcome.{rules_by}
use Rattle.xsk_cli.specs.Steps.{FailsRunning, IsExplained, lists_in, sim_failure}
use Rattle.xsk_cli.specs.declared.failure.RunFailure.TheVariants.{OutOfMemory as NoMemory}
use Rattle.xsk_cli.proofs.Running.{ended_under, explained_under, failed_under, unasked}
use Rattle.xsk_cli.proofs.rounds.run_lists.Goals as goal

pub chain_of-requires-clause-sockets : goal.chain_of-requires-clause-sockets
chain_of-requires-clause-sockets c =
    let sockets = (fits c.args.terms.layout.now c.requires.accepted).sockets in
    record { some = omega (arith, sockets); few = omega (arith, sockets) }

pub returns-in_err-sent-clause-failed : goal.returns-in_err-sent-clause-failed
returns-in_err-sent-clause-failed c =
    let error = c.in_err-sent.field-0.0 in
    let gives = c.from_residual-in_err-sent.ensures in
    let is : c.from_residual-in_err-sent.result ≡ Err (sim_failure error) = search (rules, gives) in
    subst (λ r. IfErr r (FailsRunning c.args.terms.layout.now c.args.terms.programs.now c.args.terms.wire c.args.terms.manner c.args.terms.order c.args.terms.telling (lists_in c.args.lists.now))) (sym is)
    (failed_under _ c.in_ok-chain.chain c.args.terms.layout.now c.args.terms.programs.now c.args.terms.wire c.args.terms.manner c.args.terms.order c.in_ok-config.config c.args.lists.now c.in_ok-config.frames.items (lists_in c.args.lists.now)
    c.in_ok-config.ensures.config c.requires.listed c.in_ok-config.ensures.frames (c.in_ok-chain.ensures.rules ∙ ap (rules_by c.args.terms.layout.now.sockets) c.as_slice.ensures.value)
    _ c.args.terms.telling error (unasked c.args.terms.telling.why c.if-not-telling-2.true) (λ round stalls. c.in_err-sent.ensures.stalled round (ap Err stalls)))

pub returns-then-not-telling-2-clause-ended : goal.returns-then-not-telling-2-clause-ended
returns-then-not-telling-2-clause-ended c =
    let layout = c.args.terms.layout.now in
    let left = c.in_ok-sent.sent in
    let ended = c.in_ok-sent.ensures.ended in
    let run = ended.0 in
    let is = ended.2 in
    let text = c.in_ok-text.ensures ∙ ap (report_text c.in_ok-shared.shared) c.figures.ensures ∙ ap (λ (k : Config). report_text k left.figures) (c.in_ok-shared.ensures ∙ c.in_ok-config.ensures.config) ∙ ap (report_text (regular_of layout)) (sym is.figures) in (
      run,
      ended_under _ c.in_ok-chain.chain layout c.args.terms.programs.now c.args.terms.wire c.args.terms.manner c.args.terms.order c.in_ok-config.config c.args.lists.now c.in_ok-config.frames.items (lists_in c.args.lists.now)
          c.in_ok-config.ensures.config c.requires.listed c.in_ok-config.ensures.frames (c.in_ok-chain.ensures.rules ∙ ap (rules_by layout.sockets) c.as_slice.ensures.value)
          _ run ended.1,
      is,
      subst (λ (asked : Bool). c.in_ok-text.text.items ≡ report_text (regular_of layout) run.figures ++ (if asked then journal_of run.pairs run.log else [])) (sym (unasked c.args.terms.telling.journal c.if-not-telling.true)) (text ∙ sym (append-nil _)),
    )

pub returns-in_err-text-in-Ok-clause-failed : goal.returns-in_err-text-in-Ok-clause-failed
returns-in_err-text-in-Ok-clause-failed c =
    let gives = c.from_residual-in_err-text-in-Ok.ensures in
    let is : c.from_residual-in_err-text-in-Ok.result ≡ Err NoMemory = search (rules, gives) in
    subst (λ r. IfErr r (FailsRunning c.args.terms.layout.now c.args.terms.programs.now c.args.terms.wire c.args.terms.manner c.args.terms.order c.args.terms.telling (lists_in c.args.lists.now))) (sym is) tt

pub returns-in-Ok-clause-ended : goal.returns-in-Ok-clause-ended
returns-in-Ok-clause-ended c =
    let layout = c.args.terms.layout.now in
    let run = c.in-Ok.run' in
    let same = c.into_sent.ensures.sent in
    let text = c.in_ok-text-in-Ok.ensures ∙ ap (λ (k : Config). report_text k run.figures ++ (if c.args.terms.telling.journal then journal_of run.pairs run.log else [])) (c.in_ok-shared.ensures ∙ c.in_ok-config.ensures.config) in (
      run,
      ended_under _ c.in_ok-chain.chain layout c.args.terms.programs.now c.args.terms.wire c.args.terms.manner c.args.terms.order c.in_ok-config.config c.args.lists.now c.in_ok-config.frames.items (lists_in c.args.lists.now)
          c.in_ok-config.ensures.config c.requires.listed c.in_ok-config.ensures.frames (c.in_ok-chain.ensures.rules ∙ ap (rules_by layout.sockets) c.as_slice.ensures.value)
          _ run c.in-Ok.ensures.ended,
      record { pairs = sym c.into_sent.ensures.pairs; lists = ap (λ (s : SentShown). s.lists) (sym same); figures = ap (λ (s : SentShown). s.figures) (sym same) },
      text,
    )

-- the object is one of the configuration, and each driver has counters
pub explain-requires-clause-regular : goal.explain-requires-clause-regular
explain-requires-clause-regular c =
    let counters = c.in-Err-Stalled.counters in
    let told : c.in-Err-Stalled.field-0 ≡ StalledOn c.in-Err-Stalled.round c.in-Err-Stalled.object counters = search rules in
    let on = c.in-Err-Stalled.ensures.stalled c.in-Err-Stalled.round c.in-Err-Stalled.object counters (ap Err told) in
    subst IsRegular (sym on.run.config) c.in_ok-config.ensures.regular

pub explain-requires-clause-drivers : goal.explain-requires-clause-drivers
explain-requires-clause-drivers c =
    let counters = c.in-Err-Stalled.counters in
    let told : c.in-Err-Stalled.field-0 ≡ StalledOn c.in-Err-Stalled.round c.in-Err-Stalled.object counters = search rules in
    let on = c.in-Err-Stalled.ensures.stalled c.in-Err-Stalled.round c.in-Err-Stalled.object counters (ap Err told) in
    let count = ap length on.counted ∙ length-map-range_with_len _ 0 (length c.in_ok-config.config.pairs) in
    ap length c.as_slice-in-Err-Stalled.ensures.value ∙ count ∙ sym (ap (λ (k : Config). length k.pairs) on.run.config)

pub returns-in-Err-Stalled-clause-failed : goal.returns-in-Err-Stalled-clause-failed
returns-in-Err-Stalled-clause-failed c =
    let round = c.in-Err-Stalled.round in
    let object = c.in-Err-Stalled.object in
    let counters = c.in-Err-Stalled.counters in
    let told : c.in-Err-Stalled.field-0 ≡ StalledOn round object counters = search rules in
    explained_under _ c.in_ok-chain.chain c.args.terms.layout.now c.args.terms.programs.now c.args.terms.wire c.args.terms.manner c.args.terms.order c.in_ok-config.config c.args.lists.now c.in_ok-config.frames.items (lists_in c.args.lists.now)
    c.in_ok-config.ensures.config c.requires.listed c.in_ok-config.ensures.frames (c.in_ok-chain.ensures.rules ∙ ap (rules_by c.args.terms.layout.now.sockets) c.as_slice.ensures.value)
    _ c.args.terms.telling round object counters.items c.explain.result (c.in-Err-Stalled.ensures.stalled round object counters (ap Err told))
    (subst (λ (ks : List DriverCounters). IsExplained c.args.terms.telling round object ks c.explain.result) c.as_slice-in-Err-Stalled.ensures.value c.explain.ensures)
