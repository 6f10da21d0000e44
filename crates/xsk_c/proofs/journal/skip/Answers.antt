use Rattle.std.proofs.Common.{◌≡◌, ◌+◌, ℕ, List, [], ◌∷◌, ◌++◌, length, sym, ap, ◌∙◌, arith, append_assoc, length-append}
use Rattle.xsk_model.specs.Entry.{Entry}
use Rattle.xsk_log.specs.Left.{left_of}
use Rattle.xsk_c.proofs.Behind.{past_one}
use Rattle.xsk_c.proofs.journal.skip.Goals as goal

pub loop-call-preserved : goal.loop-call-preserved
loop-call-preserved c =
    let l = c.loop-call in
    let now = left_of l.lines in
    let later = left_of c.write_next-caller.new.self in
    let counted : length (left_of c.args.lines.now) ≡ length l.invariant.past + length now = ap length l.invariant.left ∙ length-append l.invariant.past now in
    let one = past_one l.lines.pairs c.write_next-caller.result now later l.line c.write_next-caller.new.out c.write_next-caller.ensures.next
    (omega (arith, counted, l.invariant.passed, c.loop-call-test.true, c.requires)) in
    record {
      pairs = c.write_next-caller.ensures.pairs ∙ l.invariant.pairs;
      past = l.invariant.past ++ one.0 ∷ [];
      left = l.invariant.left ∙ ap (λ (es : List Entry). l.invariant.past ++ es) one.1 ∙ sym (append_assoc l.invariant.past (one.0 ∷ []) later);
      passed = length-append l.invariant.past (one.0 ∷ []) ∙ ap (λ (n : ℕ). n + 1) l.invariant.passed;
    }
