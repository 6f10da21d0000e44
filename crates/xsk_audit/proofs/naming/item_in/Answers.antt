use Rattle.std.proofs.Common.{◌≡◌, ◌∙◌, sym, true, false}
use Rattle.xsk_audit.specs.Reading.{begins_item}
use Rattle.xsk_audit.proofs.Named.{item-none, item-read}
use Rattle.xsk_audit.proofs.naming.item_in.Goals as goal

pub returns-then-not-begins_item : goal.returns-then-not-begins_item
returns-then-not-begins_item c =
    let none : begins_item c.args.text.now ≡ false = sym c.begins_item.ensures ∙ c.if-not-begins_item.true in
    sym (item-none c.args.geometry.now c.args.frame c.args.text.now none)

pub returns-in-Some : goal.returns-in-Some
returns-in-Some c =
    let begins : begins_item c.args.text.now ≡ true = sym c.begins_item.ensures ∙ c.if-not-begins_item.false in
    c.lies_in.ensures ∙ sym (item-read c.args.geometry.now c.args.frame c.args.text.now _ begins c.in-Some.ensures)

pub returns-in-None : goal.returns-in-None
returns-in-None c =
    let begins : begins_item c.args.text.now ≡ true = sym c.begins_item.ensures ∙ c.if-not-begins_item.false in
    sym (item-read c.args.geometry.now c.args.frame c.args.text.now _ begins c.in-None.ensures)
