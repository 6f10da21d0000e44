use Rattle.std.proofs.Common.{sym, ap, ◌∙◌, List, ℕ}
use Rattle.xsk_audit.specs.Reading.{word_at}
use Rattle.xsk_audit.proofs.Texts.{timed-text}
use Rattle.xsk_audit.proofs.Misses.{no-number, no-space, other-text}
use Rattle.xsk_audit.proofs.auditing.round_before.Goals as goal

pub returns-in_err-round-clause-none : goal.returns-in_err-round-clause-none
returns-in_err-round-clause-none c = rw c.from_residual.ensures (no-number c.args.line.now c.args.text.now c.in_err-round.ensures)

pub returns-in_err-rest-clause-none : goal.returns-in_err-rest-clause-none
returns-in_err-rest-clause-none c =
    rw c.from_residual-in_err-rest.ensures
    (no-space c.args.line.now c.args.text.now c.in_ok-round.rest.now c.in_ok-round.round c.in_ok-round.ensures (c.in_err-rest.ensures ∙ ap (λ (w : List ℕ). word_at w c.in_ok-round.rest.now) c.as_slice.ensures))

pub returns-then-eq : goal.returns-then-eq
returns-then-eq c = record {
  some = timed-text c.args.line.now c.in_ok-round.round c.in_ok-round.rest.now c.in_ok-rest.rest.now c.args.text.now c.in_ok-round.ensures (c.in_ok-rest.ensures ∙ ap (λ (w : List ℕ). word_at w c.in_ok-round.rest.now) c.as_slice.ensures) (sym c.eq.ensures ∙ c.if-eq.true);
  none = tt;
}

pub returns-else-eq-clause-none : goal.returns-else-eq-clause-none
returns-else-eq-clause-none c =
    other-text c.args.line.now c.args.text.now c.in_ok-round.rest.now c.in_ok-rest.rest.now c.in_ok-round.round c.in_ok-round.ensures
    (c.in_ok-rest.ensures ∙ ap (λ (w : List ℕ). word_at w c.in_ok-round.rest.now) c.as_slice.ensures) (sym c.eq.ensures ∙ c.if-eq.false)
