use Rattle.std.proofs.Common.{◌≡◌, ◌+◌, ℕ, suc, List, ◌∷◌, length, drop, slice_get, sym, ap, ◌∙◌, arith}
use Rattle.xsk_model.specs.Entry.{Entry}
use Rattle.xsk_log.specs.Left.{left_of}
use Rattle.xsk_log.specs.Line.{line_of}
use Rattle.xsk_log.specs.declared.entries.Noted.{Noted}
use Rattle.xsk_why.specs.KeptWaits.{shown}
use Rattle.xsk_why.specs.Waiting.{waits_from}
use Rattle.xsk_why.proofs.Noting.{drop_end, here, log_count, taken_line, waits_more}
use Rattle.xsk_why.proofs.waits.waits_in.Goals as goal

pub loop-i-preserved : goal.loop-i-preserved
loop-i-preserved c =
    let l = c.loop-i in
    let log = c.args.plain.now.log in
    let pairs = length c.args.plain.now.config.pairs in
    let later : List Entry = left_of c.write_next.new.self in
    let first = taken_line l.lines.pairs c.in-Some.who (left_of l.lines) later l.line c.write_next.new.out c.in-Some.ensures.next in
    let e : Entry = first.0 in
    let is : drop l.i log ≡ e ∷ later = sym l.invariant.left ∙ first.1 in
    let at = here log l.i e later is in
    let on : l.i + 1 ≡ suc l.i = omega arith in
    let noted = c.entry.ensures e (ap (λ (es : List Entry). slice_get es l.i) c.log-log.ensures.entries ∙ at.0) in
    let line : c.bytes.result.now ≡ line_of pairs e = c.bytes.ensures.value ∙ first.3 ∙ ap (λ (n : ℕ). line_of n e) l.invariant.pairs in
    let next = c.in_ok-note.ensures pairs e first.2 (sym (ap (λ (n : Noted). n.ask) noted)) (sym (ap (λ (n : Noted). n.answer) noted)) line in
    record {
      pairs = c.write_next.ensures.pairs ∙ l.invariant.pairs;
      left = sym (ap (λ (k : ℕ). drop k log) on ∙ at.1);
      waits = waits_more pairs (shown l.waits.items) (shown c.note.new.waits.items) log l.i e later is next l.invariant.waits;
    }

pub returns : goal.returns
returns c =
    let l = c.loop-i in
    let log = c.args.plain.now.log in
    let count = c.len-i-end.ensures ∙ log_count c.log-log.result.now ∙ ap (length {A = Entry}) c.log-log.ensures.entries in
    let none = drop_end log l.i (omega (arith, count, c.loop-i-test.false)) in
    sym (ap (waits_from (length c.args.plain.now.config.pairs) (shown l.waits.items)) none) ∙ l.invariant.waits
