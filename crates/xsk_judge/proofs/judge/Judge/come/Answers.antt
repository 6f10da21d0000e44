use Rattle.std.proofs.Common.{rules, ◌≡◌, ℕ, Some, subst, sym}
use Rattle.std.specs.Prelude.{IfErr}
use Rattle.std.proofs.lemmas.Result.{IfErr-weaker}
use Rattle.xsk_model.specs.declared.call.Ring.{Ring}
use Rattle.xsk_model.specs.declared.call.Ring.TheVariants.{Rx, Tx}
use Rattle.xsk_side.specs.Setting.{pair_of}
use Rattle.xsk_judge.specs.Kept.{strays_at}
use Rattle.xsk_judge.specs.Judging.{AreNew, CanCome, given_in}
use Rattle.xsk_judge.specs.Refusing.{Stops}
use Rattle.xsk_judge.proofs.judge.Judge.come.Goals as goal

pub complete-requires-clause-sent : goal.complete-requires-clause-sent
complete-requires-clause-sent c f t is = c.requires.kind.sent f t (subst (λ xs. given_in xs f ≡ Some (Tx t)) (search rules) is)

pub returns-in-Rx-clause-denied : goal.returns-in-Rx-clause-denied
returns-in-Rx-clause-denied c =
    let s = c.args.setting.now in let kept = c.args.self.now in let es = c.args.entries.now in
    let frames : c.as_mut_slice-frames.result.now ≡ kept.frames = search rules in
    let told = subst
    (λ xs. IfErr c.receive.result (λ denial. (AreNew s xs (Rx c.in-Rx.socket) es → ⊥)
    × ((strays : ℕ) → Stops s xs (Rx c.in-Rx.socket) c.args.first c.args.line c.args.at c.args.skipped strays es denial))) frames c.receive.ensures.denied in
    subst
    (λ (r : Ring). IfErr c.receive.result (λ denial. (CanCome s kept r es → ⊥)
    × Stops s kept.frames r c.args.first c.args.line c.args.at c.args.skipped (strays_at kept (pair_of s r)) es denial)) (sym c.in-Rx.is)
    (IfErr-weaker c.receive.result
    (λ denial. (AreNew s kept.frames (Rx c.in-Rx.socket) es → ⊥)
    × ((strays : ℕ) → Stops s kept.frames (Rx c.in-Rx.socket) c.args.first c.args.line c.args.at c.args.skipped strays es denial))
    (λ denial. (CanCome s kept (Rx c.in-Rx.socket) es → ⊥)
    × Stops s kept.frames (Rx c.in-Rx.socket) c.args.first c.args.line c.args.at c.args.skipped (strays_at kept (pair_of s (Rx c.in-Rx.socket))) es denial)
    (λ denial h. (λ can. h.0 can.0, h.1 (strays_at kept (pair_of s (Rx c.in-Rx.socket))))) told)
