use Rattle.std.proofs.Common.{◌≡◌, ◌∙◌, ◌+◌, ◌-◌, sym, ap, arith, true, false, List, [], ◌∷◌, length, length-append}
use Rattle.xsk_umem.specs.declared.batch.XdpDesc.{XdpDesc}
use Rattle.xsk_lines.specs.Reading.{begins_item}
use Rattle.xsk_recording.specs.Line.{entries_at}
use Rattle.xsk_recording.proofs.Entries.{front_of, entries-ended, entries-failed, entries-next, entries-full}
use Rattle.xsk_recording.proofs.words.read_entries.Goals as goal

pub returns-then-not-begins_item : goal.returns-then-not-begins_item
returns-then-not-begins_item c =
    let l = c.loop-entry in
    let none : begins_item l.rest.now ≡ false = sym c.begins_item.ensures ∙ c.if-not-begins_item.true in
    sym (entries-ended l.entries.items (32 - l._entry) l.rest.now none) ∙ l.invariant.1

pub returns-in_default : goal.returns-in_default
returns-in_default c =
    let l = c.loop-entry in
    let begins : begins_item l.rest.now ≡ true = sym c.begins_item.ensures ∙ c.if-not-begins_item.false in
    sym (entries-failed l.entries.items l._entry l.rest.now c.loop-entry-test.true begins c.in_default.ensures) ∙ l.invariant.1

pub loop-entry-preserved : goal.loop-entry-preserved
loop-entry-preserved c =
    let l = c.loop-entry in
    let begins : begins_item l.rest.now ≡ true = sym c.begins_item.ensures ∙ c.if-not-begins_item.false in (
      ap (λ (xs : List XdpDesc). length xs) c.in_ok-push.ensures.items ∙ length-append l.entries.items (c.in-Some.entry ∷ []) ∙ ap (λ n. n + 1) l.invariant.0,
      ap (λ (front : List XdpDesc). front_of front (entries_at (32 - (l._entry + 1)) c.in-Some.later.now)) c.in_ok-push.ensures.items
          ∙ sym (entries-next l.entries.items l._entry l.rest.now c.in-Some.entry c.in-Some.later.now c.loop-entry-test.true begins c.in-Some.ensures)
          ∙ l.invariant.1,
    )

pub returns : goal.returns
returns c =
    let l = c.loop-entry in
    let all : l._entry ≡ 32 = omega (arith, c.loop-entry-test.false, c.loop-entry.auto._entry-end) in
    sym (entries-full l.entries.items l.rest.now) ∙ (rw all at l.invariant.1)
