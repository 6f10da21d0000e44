use Rattle.std.proofs.Common.{◌≡◌, ◌+◌, length, refl, ap, ◌∙◌, arith, List}
use Rattle.xsk_umem.specs.declared.batch.Item.{Item}
use Rattle.xsk_turns.specs.Turns.{moved}
use Rattle.xsk_driver.proofs.Loops.{gathers_one, gathers_all, limits_after}
use Rattle.xsk_driver.proofs.machine.Machine.gather_all.Goals as goal

pub loop-item-preserved : goal.loop-item-preserved
loop-item-preserved c =
    let before = c.args.self.now in
    let count : length c.loop-item.items ≡ length c.pop_front.new.self + 1 = ap (λ (is : List Item). length is) c.in-Some.ensures.some ∙ omega arith in (
      limits_after before c.loop-item.self c.gather.new.self c.loop-item.invariant.0 c.gather.ensures.limits,
      gathers_one before c.loop-item.self c.gather.new.self c.args.class c.args.items.now c.loop-item.items c.pop_front.new.self c.in-Some.item
          c.in-Some.ensures.some c.requires.within c.gather.ensures.leaves c.loop-item.invariant.1,
      c.gather.ensures.outbox ∙ c.loop-item.invariant.2,
      omega (arith, count, c.loop-item.invariant.3, c.gather.ensures.few),
    )

pub returns-clause-leaves : goal.returns-clause-leaves
returns-clause-leaves c =
    let t = c.loop-item.invariant.1 in
    record {
      seat = t.seat;
      notes = ap moved t.notes;
      keeps = gathers_all c.args.self.now c.loop-item.self c.args.class c.args.items.now c.loop-item.items (c.in_default.ensures.empty.0 refl) t;
    }
