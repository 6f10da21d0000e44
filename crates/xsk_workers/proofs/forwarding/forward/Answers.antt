use Rattle.std.proofs.Common.{◌≡◌, List, length, refl, sym, ap, subst, ◌∙◌}
use Rattle.xsk_umem.specs.Frame.{Frame}
use Rattle.xsk_model.specs.Config.{Config, IsRegular}
use Rattle.xsk_table.specs.View.{Basis}
use Rattle.xsk_turns.specs.Workers.{AreGiven, Setting, ruled_by}
use Rattle.xsk_driver.specs.Asking.{IsAnswer}
use Rattle.xsk_prog.specs.Chain.{rules_of}
use Rattle.xsk_machine.specs.Workers.{kept_in, setting_by, HasGiven}
use Rattle.xsk_workers.specs.Forwarded.{HasForwarded, OutcomeShown}
use Rattle.xsk_workers.specs.Hands.{SuitHands}
use Rattle.xsk_workers.proofs.Ruling.{forwards_as_ruled}
use Rattle.xsk_workers.proofs.forwarding.forward.Goals as goal

pub split-requires-clause-regular : goal.split-requires-clause-regular
split-requires-clause-regular g c =
    let own : c.config-own.result.now ≡ c.args.config = c.config-own.ensures ∙ ap (λ (x : Basis). x.config) c.in-Ok.ensures.setup in
    subst IsRegular (sym own) c.requires.regular

pub split-requires-clause-lists : goal.split-requires-clause-lists
split-requires-clause-lists g c =
    let own : c.config-own.result.now ≡ c.args.config = c.config-own.ensures ∙ ap (λ (x : Basis). x.config) c.in-Ok.ensures.setup in
    c.requires.lists ∙ ap (λ (k : Config). k.ports) (sym own)

pub drivers_for-requires-clause-regular : goal.drivers_for-requires-clause-regular
drivers_for-requires-clause-regular g c =
    let own : c.config-own.result.now ≡ c.args.config = c.config-own.ensures ∙ ap (λ (x : Basis). x.config) c.in-Ok.ensures.setup in
    subst IsRegular (sym own) c.requires.regular

pub drivers_for-requires-clause-lists : goal.drivers_for-requires-clause-lists
drivers_for-requires-clause-lists g c =
    let own : c.config-own.result.now ≡ c.args.config = c.config-own.ensures ∙ ap (λ (x : Basis). x.config) c.in-Ok.ensures.setup in
    c.requires.lists ∙ ap (λ (k : Config). k.ports) (sym own)

pub run_drivers-requires-clause-suit : goal.run_drivers-requires-clause-suit
run_drivers-requires-clause-suit g c κs within =
    let own : c.config-own.result.now ≡ c.args.config = c.config-own.ensures ∙ ap (λ (x : Basis). x.config) c.in-Ok.ensures.setup in
    subst (SuitHands c.args.hands) (sym own) c.requires.suit

pub run_drivers-requires-clause-regular : goal.run_drivers-requires-clause-regular
run_drivers-requires-clause-regular g c κs within =
    let own : c.config-own.result.now ≡ c.args.config = c.config-own.ensures ∙ ap (λ (x : Basis). x.config) c.in-Ok.ensures.setup in
    subst IsRegular (sym own) c.requires.regular

pub run_drivers-requires-clause-new : goal.run_drivers-requires-clause-new
run_drivers-requires-clause-new g c κs within = c.in_ok-drivers.ensures.new c.args.manner

pub end-requires-clause-regular : goal.end-requires-clause-regular
end-requires-clause-regular g c = subst (λ (x : Basis). IsRegular x.config) (sym c.in-Ok.ensures.setup) c.requires.regular

pub end-requires-clause-gathered : goal.end-requires-clause-gathered
end-requires-clause-gathered g c =
    let s : Setting = setting_by c.config-own.result.now c.args.wire c.args.manner c.args.packets.now (kept_in c.in_ok-drivers.drivers.items) in
    (c.args.hands, s, c.config-own.ensures, c.in_ok-ran.ensures)

pub returns-clause-pairs : goal.returns-clause-pairs
returns-clause-pairs g c = c.end.ensures.pairs ∙ ap (λ (x : Basis). length x.config.pairs) c.in-Ok.ensures.setup

pub returns-clause-under : goal.returns-clause-under
returns-clause-under g c =
    let verdicts = kept_in c.in_ok-drivers.drivers.items in
    let by : Config → Setting = λ k. setting_by k c.args.wire c.args.manner c.args.packets.now verdicts in
    let own : c.config-own.result.now ≡ c.args.config = c.config-own.ensures ∙ ap (λ (x : Basis). x.config) c.in-Ok.ensures.setup in
    let forwarded : HasForwarded c.args.hands (by c.args.config) c.args.frames.items c.end.result =
    subst (λ (k : Config). HasForwarded c.args.hands (by k) c.args.frames.items c.end.result) own
    (subst (λ (x : Basis). HasForwarded c.args.hands (by c.config-own.result.now) x.frames c.end.result) c.in-Ok.ensures.setup
    (c.end.ensures.forwarded c.args.hands (by c.config-own.result.now) c.config-own.ensures refl c.requires.unchanged c.in_ok-ran.ensures)) in
    record {
      verdicts = verdicts;
      once = subst (λ (k : Config). HasGiven g.F.Fn k c.args.packets.now verdicts c.args.chain.now c.drivers_for.new.chain) own c.in_ok-drivers.ensures.once;
      asked = subst (λ (k : Config). AreGiven (IsAnswer g.F.Fn c.args.chain.now) (by k)) own (c.in_ok-drivers.ensures.asked c.args.manner);
      forwarded = forwarded;
    }

pub returns-clause-forwarded : goal.returns-clause-forwarded
returns-clause-forwarded g c exact =
    let verdicts = kept_in c.in_ok-drivers.drivers.items in
    let by : Config → Setting = λ k. setting_by k c.args.wire c.args.manner c.args.packets.now verdicts in
    let own : c.config-own.result.now ≡ c.args.config = c.config-own.ensures ∙ ap (λ (x : Basis). x.config) c.in-Ok.ensures.setup in
    let asked : AreGiven (IsAnswer g.F.Fn c.args.chain.now) (by c.args.config) =
    subst (λ (k : Config). AreGiven (IsAnswer g.F.Fn c.args.chain.now) (by k)) own (c.in_ok-drivers.ensures.asked c.args.manner) in
    let forwarded : HasForwarded c.args.hands (by c.args.config) c.args.frames.items c.end.result =
    subst (λ (k : Config). HasForwarded c.args.hands (by k) c.args.frames.items c.end.result) own
    (subst (λ (x : Basis). HasForwarded c.args.hands (by c.config-own.result.now) x.frames c.end.result) c.in-Ok.ensures.setup
    (c.end.ensures.forwarded c.args.hands (by c.config-own.result.now) c.config-own.ensures refl c.requires.unchanged c.in_ok-ran.ensures)) in
    forwards_as_ruled c.args.hands g.F.Fn c.args.chain.now (by c.args.config) c.args.frames.items c.end.result exact asked forwarded
