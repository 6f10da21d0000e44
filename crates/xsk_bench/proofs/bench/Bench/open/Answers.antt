use Rattle.std.proofs.Common.{List, [], refl, sym, subst}
use Rattle.xsk_umem.specs.PacketList.{PacketList}
use Rattle.xsk_model.specs.Config.{Config, IsLawful}
use Rattle.xsk_model.specs.Opening.{AreFrames}
use Rattle.xsk_prog.specs.declared.rule.Verdict.{Verdict}
use Rattle.xsk_turns.specs.Workers.{AreGiven}
use Rattle.xsk_driver.specs.Asking.{IsAnswer}
use Rattle.xsk_machine.specs.Workers.{setting_with}
use Rattle.xsk_bench.specs.Played.{HasPlayed}
use Rattle.xsk_bench.specs.declared.play.Play.{Play}
use Rattle.xsk_bench.proofs.Beginning.{bench_opened}
use Rattle.xsk_bench.proofs.bench.Bench.open.Goals as goal

pub opened-requires-clause-lawful : goal.opened-requires-clause-lawful
opened-requires-clause-lawful g c = subst IsLawful (sym c.config-config.ensures.value) c.config-config.ensures.steady.regular.lawful

pub opened-requires-clause-frames : goal.opened-requires-clause-frames
opened-requires-clause-frames g c = subst (λ (k : Config). AreFrames k.geometry c.args.frames.items) (sym c.config-config.ensures.value) c.requires.frames

pub returns-clause-opened : goal.returns-clause-opened
returns-clause-opened g c =
    let By = IsAnswer g.F.Fn c.args.chain.now in
    let config = c.config-config.result.now in
    let traffic = c.config-config.ensures.value in
    let play : Play = record { checked = c.in_ok-checked.checked; seats = c.in_ok-seats.seats; room = c.args.room } in
    subst (λ (k : Config). (verdicts : List (List Verdict)) × AreGiven By (setting_with k c.args.wire c.args.traffic.now.packets verdicts)
    × HasPlayed (setting_with k c.args.wire c.args.traffic.now.packets verdicts) c.args.frames.items [] play) traffic
    (subst (λ (ps : List PacketList). (verdicts : List (List Verdict)) × AreGiven By (setting_with config c.args.wire ps verdicts)
    × HasPlayed (setting_with config c.args.wire ps verdicts) c.args.frames.items [] play) c.packets.ensures.value
    (bench_opened By c.args.wire config config c.packets.result.now c.args.frames.items play refl
    c.geometry-geometry.ensures.lawful c.ports-ports.ensures.lawful (subst IsLawful (sym traffic) c.config-config.ensures.steady.regular.lawful)
    (subst (λ (k : Config). AreFrames k.geometry c.args.frames.items) (sym traffic) c.requires.frames)
    c.in_ok-checked.ensures.config c.in_ok-checked.ensures.state c.in_ok-checked.ensures.log.0 c.in_ok-checked.ensures.log.1 c.in_ok-seats.ensures.count c.in_ok-seats.ensures.seated))

pub invariant_of-result : goal.invariant_of-result
invariant_of-result g c =
    let config = c.config-config.result.now in
    let traffic = c.config-config.ensures.value in
    let made = bench_opened (IsAnswer g.F.Fn c.args.chain.now) c.args.wire config config c.packets.result.now c.args.frames.items _ refl
    c.geometry-geometry.ensures.lawful c.ports-ports.ensures.lawful (subst IsLawful (sym traffic) c.config-config.ensures.steady.regular.lawful)
    (subst (λ (k : Config). AreFrames k.geometry c.args.frames.items) (sym traffic) c.requires.frames)
    c.in_ok-checked.ensures.config c.in_ok-checked.ensures.state c.in_ok-checked.ensures.log.0 c.in_ok-checked.ensures.log.1 c.in_ok-seats.ensures.count c.in_ok-seats.ensures.seated in
    record { setting = setting_with config c.args.wire c.packets.result.now made.0; frames = c.args.frames.items; history = []; played = made.2 }
