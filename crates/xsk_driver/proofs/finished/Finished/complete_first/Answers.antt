use Rattle.std.proofs.Common.{◌≡◌, ◌≤◌, ◌∷◌, ◌∙◌, sym, ap, length, List, subst, arith, rules, All, sum}
use Rattle.std.proofs.lemmas.List.Elements.{All-tail}
use Rattle.xsk_umem.specs.declared.batch.Item.{Item}
use Rattle.xsk_driver.proofs.Packing.{sum_later}
use Rattle.xsk_driver.proofs.finished.Finished.complete_first.Goals as goal

pub invariant_of-self : goal.invariant_of-self
invariant_of-self c =
    let split : c.self.inside.lengths.items ≡ c.unwrap-length.result ∷ c.pop_front.new.self.items = search rules in (
      sum_later c.unwrap-length.result c.pop_front.new.self.items c.self.inside.items.items (ap sum (sym split) ∙ c.self.invariant.0) ∙ ap (λ (is : List Item). length is) (sym c.send.ensures.queue),
      All-tail (λ n. n ≤ 18) c.unwrap-length.result c.pop_front.new.self.items (subst (All (λ n. n ≤ 18)) split c.self.invariant.1),
      omega (arith, c.send.ensures.capacity, c.self.invariant.2),
      omega (arith, c.pop_front.ensures.capacity, c.self.invariant.3),
    )
