use Rattle.std.proofs.Common.{◌∙◌, sym, ap, arith}
use Rattle.std.specs.Prelude.{◌==◌}
use Rattle.xsk_recording.proofs.Ends.{no-bytes, some-bytes, end-begun, end-called, end-empty, end-header, at-end}
use Rattle.xsk_recording.proofs.reading.Reading.verdict.Goals as goal

pub returns-then-not-is_empty-clause-is : goal.returns-then-not-is_empty-clause-is
returns-then-not-is_empty-clause-is c = λ text r stands are sound.
    rw c.missing.ensures (end-begun c.args.self.now text r stands
    (rw (← c.self.view_is) (some-bytes c.self.inside.begun.items c.is_empty.result (c.is_empty.ensures ∙ ap (λ n. n == 0) c.self.inside.begun.ok.0) c.if-not-is_empty.true)) sound)

pub returns-then-is_begun-clause-is : goal.returns-then-is_begun-clause-is
returns-then-is_begun-clause-is c = λ text r stands are sound.
    rw c.called.ensures (end-called c.args.self.now text r c.args.calls stands
    (rw (← c.self.view_is) (no-bytes c.self.inside.begun.items c.is_empty.result (c.is_empty.ensures ∙ ap (λ n. n == 0) c.self.inside.begun.ok.0) c.if-not-is_empty.false))
    (sym c.is_begun.ensures ∙ c.if-is_begun.true) are sound)

pub returns-then-self-eq0-clause-is : goal.returns-then-self-eq0-clause-is
returns-then-self-eq0-clause-is c = λ text r stands are sound.
    end-empty c.args.self.now text r stands
    (rw (← c.self.view_is) (no-bytes c.self.inside.begun.items c.is_empty.result (c.is_empty.ensures ∙ ap (λ n. n == 0) c.self.inside.begun.ok.0) c.if-not-is_empty.false))
    (rw (← c.self.view_is) c.if-self-eq0.true)

pub returns-clause-is : goal.returns-clause-is
returns-clause-is c = λ text r stands are sound.
    rw c.missing-2.ensures (end-header c.args.self.now text r stands
    (rw (← c.self.view_is) (no-bytes c.self.inside.begun.items c.is_empty.result (c.is_empty.ensures ∙ ap (λ n. n == 0) c.self.inside.begun.ok.0) c.if-not-is_empty.false))
    (sym c.is_begun.ensures ∙ c.if-is_begun.false) (rw (← c.self.view_is) (omega (arith, c.if-self-eq0.false))) sound)

pub returns-then-is_begun-clause-end : goal.returns-then-is_begun-clause-end
returns-then-is_begun-clause-end c = rw c.called.ensures (at-end c.args.calls)
