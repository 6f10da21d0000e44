use Rattle.std.proofs.Common.{sym, arith}
use Rattle.std.proofs.lemmas.Bool.{eq-eqb, eqb-true}
use Rattle.xsk_recording.proofs.Entries.{place-missed, place-empty, place-found}
use Rattle.xsk_recording.proofs.words.behind_place.Goals as goal

pub returns-in_err-end : goal.returns-in_err-end
returns-in_err-end c =
    rw c.from_residual.ensures (sym (place-missed c.args.text.now (λ k below space. c.in_err-end.ensures k (omega arith) below (eq-eqb _ _ space))))

pub returns-then-end-eq0 : goal.returns-then-end-eq0
returns-then-end-eq0 c =
    let first = rw c.if-end-eq0.true at c.in_ok-end.ensures in
    sym (place-empty c.args.text.now first.0.high (eqb-true _ 32 first.1))

pub returns : goal.returns
returns c =
    let first = c.in_ok-end.ensures in
    place-found c.args.text.now c.in_ok-end.end first.0.high c.if-end-eq0.false (λ k below space. first.0.before k (omega arith) below (eq-eqb _ _ space)) (eqb-true _ 32 first.1)
