use Rattle.std.proofs.Common.{◌≡◌, ◌+◌, ◌≤◌, ℕ, List, [], ◌∷◌, ◌++◌, length, take, drop, sym, ap, ◌∙◌, arith, rules, append_assoc, length-append}
use Rattle.xsk_model.specs.Entry.{Entry}
use Rattle.xsk_log.specs.Left.{left_of}
use Rattle.xsk_log.specs.Line.{line_of}
use Rattle.xsk_c.specs.Journal.{lines_of}
use Rattle.xsk_c.proofs.Behind.{taken, one_more, put_behind}
use Rattle.xsk_c.proofs.journal.put_lines.Goals as goal

pub loop-call-preserved : goal.loop-call-preserved
loop-call-preserved c =
    let l = c.loop-call in
    let pairs = c.args.lines.now.pairs in
    let told = l.invariant.told in
    let later = left_of c.write_next.new.self in
    let first = taken l.lines.pairs c.in-Some._caller (left_of l.lines) later l.line c.write_next.new.out c.in-Some.ensures.next in
    let e : Entry = first.0 in
    let text = lines_of pairs told in
    let here = c.bytes.result.now in
    let line : here ≡ line_of pairs e = c.bytes.ensures.value ∙ first.2 ∙ ap (λ (n : ℕ). line_of n e) l.invariant.pairs in
    let again : c.bytes-in-loop-call.result.now ≡ line_of pairs e = c.bytes-in-loop-call.ensures.value ∙ first.2 ∙ ap (λ (n : ℕ). line_of n e) l.invariant.pairs in
    let same : here ≡ c.bytes-in-loop-call.result.now = line ∙ sym again in
    let more : lines_of pairs (told ++ e ∷ []) ≡ text ++ c.bytes-in-loop-call.result.now =
    one_more pairs told e ∙ ap (λ (b : List ℕ). text ++ b) (sym again) in
    let put : c.put_line.new.out ≡ take l.at l.out ++ here ++ drop (l.at + length here) l.out = search rules in
    let fits : l.at + length here ≤ length l.out = search rules in
    let room : length l.out ≡ length c.args.out.now = search rules in
    record {
      pairs = c.write_next.ensures.pairs ∙ l.invariant.pairs;
      told = told ++ e ∷ [];
      left = l.invariant.left ∙ ap (λ (es : List Entry). told ++ es) first.1 ∙ sym (append_assoc told (e ∷ []) later);
      count = length-append told (e ∷ []) ∙ ap (λ (n : ℕ). n + 1) l.invariant.count;
      at = ap (λ (n : ℕ). n + length c.bytes-in-loop-call.result.now) l.invariant.at ∙ sym (length-append text c.bytes-in-loop-call.result.now) ∙ ap length (sym more);
      text =
          put ∙ ap (λ (b : List ℕ). take l.at l.out ++ b ++ drop (l.at + length b) l.out) same
          ∙ ap (λ (o : List ℕ). take l.at o ++ c.bytes-in-loop-call.result.now ++ drop (l.at + length c.bytes-in-loop-call.result.now) o) l.invariant.text
          ∙ put_behind text c.bytes-in-loop-call.result.now c.args.out.now l.at l.invariant.at
          ∙ ap (λ (t : List ℕ). t ++ drop (l.at + length c.bytes-in-loop-call.result.now) c.args.out.now) (sym more);
      room = omega (arith, fits, ap length same, room);
    }
