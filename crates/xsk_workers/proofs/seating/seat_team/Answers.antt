use Rattle.std.proofs.Common.{arith, ◌≡◌, ◌<◌, ◌-◌, ◌∙◌, ℕ, [], ◌∷◌, length, ap, subst, sym, false}
use Rattle.xsk_model.specs.Config.{Config, callers_of}
use Rattle.xsk_model.specs.Entry.{own}
use Rattle.xsk_model.specs.Rings.{caller_of}
use Rattle.xsk_turns.specs.AppTurns.{pair_of}
use Rattle.xsk_turns.specs.Workers.{Setting}
use Rattle.xsk_table.specs.Held.{Holder}
use Rattle.xsk_workers.specs.Shown.{seat_with}
use Rattle.xsk_workers.specs.Hands.{team_seat}
use Rattle.xsk_workers.specs.Terms.{setting_over}
use Rattle.xsk_workers.proofs.seating.seat_team.Goals as goal

pub side_pair-requires-clause-app : goal.side_pair-requires-clause-app
side_pair-requires-clause-app g c =
    let k = c.args.source.terms.config.now in
    let pairs : length c.pairs.result.now ≡ length k.pairs = ap length c.pairs.ensures.value in
    let few : c.caller-who.result < callers_of k = subst (λ (x : Config). c.caller-who.result < callers_of x) c.requires.unused.2 c.caller-who.ensures.few in
    omega (arith, few, pairs, c.requires.app, c.caller-who.ensures.caller)

pub side_pair-requires-2-clause-app : goal.side_pair-requires-2-clause-app
side_pair-requires-2-clause-app g c =
    let k = c.args.source.terms.config.now in
    let pairs : length c.pairs.result.now ≡ length k.pairs = ap length c.pairs.ensures.value in
    let few : c.caller-who.result < callers_of k = subst (λ (x : Config). c.caller-who.result < callers_of x) c.requires.unused.2 c.caller-who.ensures.few in
    omega (arith, few, pairs, c.requires.app, c.caller-who.ensures.caller)

pub new-requires-clause-unused : goal.new-requires-clause-unused
new-requires-clause-unused g c = ap (own c.args.pass.who) c.requires.unused.1

pub new-requires-in-Ok : goal.new-requires-in-Ok
new-requires-in-Ok g c =
    let same : c.in-Ok.ends.pass ≡ c.args.pass = c.in-Ok.ensures.ok.0 in
    let k = c.args.source.terms.config.now in
    let who = c.caller-who.result in
    let pairs : length c.pairs.result.now ≡ length k.pairs = ap length c.pairs.ensures.value in
    let app = who - length c.pairs.result.now in
    let caller : who ≡ caller_of k app = omega (arith, pairs, c.requires.app, c.caller-who.ensures.caller) in (
      c.caller-who.ensures.caller ∙ sym (ap (λ (p : Holder). p.who) same),
      ap (λ (p : Holder). p.view.setup.config) same ∙ c.requires.unused.2,
      (app, caller, ap (λ (n : ℕ). n ∷ c.side_pair-2.result ∷ []) c.side_pair.ensures.pair ∙ ap (λ (n : ℕ). pair_of k app 0 ∷ n ∷ []) c.side_pair-2.ensures.pair),
    )

pub returns-in-Ok : goal.returns-in-Ok
returns-in-Ok g c =
    let s : Setting = setting_over c.args.source.terms g.V.Verdicts.verdicts in
    ap team_seat c.new-in-Ok.ensures ∙ ap (λ (p : Holder). seat_with s p false) c.in-Ok.ensures.ok.0
