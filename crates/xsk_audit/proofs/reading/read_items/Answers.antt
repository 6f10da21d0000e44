use Rattle.std.proofs.Common.{◌≡◌, ◌∙◌, ◌+◌, ◌-◌, sym, ap, arith, true, false, List, [], ◌∷◌, length, length-append}
use Rattle.xsk_umem.specs.declared.batch.Item.{Item}
use Rattle.xsk_audit.specs.Reading.{begins_item, items_at, frameless}
use Rattle.xsk_audit.proofs.Items.{front_of, items-ended, items-failed, items-next, items-last}
use Rattle.xsk_audit.proofs.reading.read_items.Goals as goal

pub returns-then-not-begins_item : goal.returns-then-not-begins_item
returns-then-not-begins_item c =
    let l = c.loop-item in
    let none : begins_item l.rest.now ≡ false = sym c.begins_item.ensures ∙ c.if-not-begins_item.true in
    sym (items-ended l.items (32 - l._item) l.rest.now none) ∙ l.invariant.1

pub returns-in_default : goal.returns-in_default
returns-in_default c =
    let l = c.loop-item in
    let begins : begins_item l.rest.now ≡ true = sym c.begins_item.ensures ∙ c.if-not-begins_item.false in
    sym (items-failed l.items l._item l.rest.now c.loop-item-test.true begins c.in_default.ensures) ∙ l.invariant.1

pub loop-item-preserved : goal.loop-item-preserved
loop-item-preserved c =
    let l = c.loop-item in
    let begins : begins_item l.rest.now ≡ true = sym c.begins_item.ensures ∙ c.if-not-begins_item.false in (
      ap (λ (xs : List Item). length xs) c.push.ensures ∙ length-append l.items (frameless c.in-Some.desc ∷ []) ∙ ap (λ n. n + 1) l.invariant.0,
      ap (λ (front : List Item). front_of front (items_at (32 - (l._item + 1)) c.in-Some.later.now)) c.push.ensures
          ∙ sym (items-next l.items l._item l.rest.now c.in-Some.desc c.in-Some.later.now c.loop-item-test.true begins c.in-Some.ensures)
          ∙ l.invariant.1,
    )

pub returns : goal.returns
returns c =
    let l = c.loop-item in
    let all : l._item ≡ 32 = omega (arith, c.loop-item-test.false, c.loop-item.auto._item-end) in
    items-last l.items l.rest.now c.begins_item-2.result c.begins_item-2.ensures ∙ (rw all at l.invariant.1)
