use Rattle.std.proofs.Common.{rules, ◌≡◌, List, ◌++◌, length, sym, ap, subst, ◌∙◌, arith, length-append}
use mathlib.Core.Option.{some}
use lib.ListN.{get_elem?}
use Rattle.std.specs.Prelude.{Option}
use Rattle.std.specs.Mem.Slots.{slots_items}
use Rattle.xsk_umem.specs.Frame.{Frame}
use Rattle.xsk_umem.specs.Frames.{Frames}
use Rattle.xsk_table.specs.Opening.{list_of}
use Rattle.xsk_table.proofs.Ending.{home_more, one_slot}
use Rattle.xsk_table.proofs.closing.bring_home.Goals as goal

pub loop-number-preserved : goal.loop-number-preserved
loop-number-preserved c =
    let inv = c.loop-number.invariant in
    let n = c.loop-number.number in
    let x = c.take.result in
    let xs = slots_items c.args.closed.slots in
    let at : get_elem? xs n ≡ some x = subst (λ (l : List (Option Frame)). get_elem? l n ≡ some x) inv.same.0 c.take.ensures.value in
    let items = ap (λ (q : Frames). q.items) c.put_back.ensures in
    record {
      items = items ∙ ap (λ l. l ++ list_of x) inv.items ∙ sym (home_more xs n x at);
      few = let few = inv.few in omega (arith, ap (length {A = Frame}) items, length-append c.loop-number.home.items (list_of x), one_slot x);
      limit = ap (λ (q : Frames). q.limit) c.put_back.ensures ∙ inv.limit;
      same = (c.take.ensures.others.0 ∙ inv.same.0, c.take.ensures.others.2 ∙ inv.same.1);
      filled = search rules;
      emptied = search rules;
    }
