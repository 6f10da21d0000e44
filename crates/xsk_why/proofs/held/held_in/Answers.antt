use Rattle.std.proofs.Common.{[], ◌≡◌, ℕ, ◌+◌, suc, List, ◌∷◌, length, drop, slice_get, sym, ap, ◌∙◌, arith, true}
use Rattle.std.specs.List.{fold}
use Rattle.xsk_model.specs.Entry.{Entry, own}
use Rattle.xsk_model.specs.Object.{taken}
use Rattle.xsk_model.specs.Own.{had_step}
use Rattle.xsk_log.specs.Left.{left_of}
use Rattle.xsk_log.specs.declared.entries.Noted.{Noted}
use Rattle.xsk_why.specs.KeptFrames.{had_by, is_submit}
use Rattle.xsk_why.proofs.Having.{brings_none, first_left, held_more, passed}
use Rattle.xsk_why.proofs.Noting.{drop_end, here, log_count}
use Rattle.xsk_why.proofs.held.held_in.Goals as goal

pub loop-i-preserved : goal.loop-i-preserved
loop-i-preserved c =
    let l = c.loop-i in
    let log = c.args.plain.now.log in
    let count = c.len-i-end.ensures ∙ log_count c.log-log.result.now ∙ ap (length {A = Entry}) c.log-log.ensures.entries in
    let first = first_left log l.i (omega (arith, count, c.loop-i-test.true)) in
    let e : Entry = first.0 in
    let later : List Entry = first.1 in
    let at = here log l.i e later first.2 in
    let left : left_of l.lines ≡ e ∷ later = l.invariant.left ∙ first.2 in
    let noted = c.entry.ensures e (ap (λ (es : List Entry). slice_get es l.i) c.log-log.ensures.entries ∙ at.0) in
    let none : is_submit c.entry.result.ask ≡ true → taken e.reply ≡ [] = λ is.
    brings_none c.log-log.result.now l.i e (ap (λ (es : List Entry). slice_get es l.i) c.log-log.ensures.entries ∙ at.0)
    (sym (ap (λ (n : Noted). is_submit n.ask) noted) ∙ is) in
    let next = c.in_ok-note_items.ensures e later left (sym (ap (λ (n : Noted). n.who) noted)) (sym (ap (λ (n : Noted). n.ask) noted)) none in
    let on : l.i + 1 ≡ suc l.i = omega arith in
    record {
      left = passed _ _ _ _ _ _ e later c.write_next.ensures.next left ∙ sym (ap (λ (k : ℕ). drop k log) on ∙ at.1);
      held = held_more log l.i e later l.held.items c.note_items.new.held.items first.2 next l.invariant.held;
    }

pub returns : goal.returns
returns c w =
    let l = c.loop-i in
    let log = c.args.plain.now.log in
    let count = c.len-i-end.ensures ∙ log_count c.log-log.result.now ∙ ap (length {A = Entry}) c.log-log.ensures.entries in
    let none = drop_end log l.i (omega (arith, count, c.loop-i-test.false)) in
    sym (ap (λ (es : List Entry). fold had_step (had_by w l.held.items) (own w es)) none) ∙ l.invariant.held w
