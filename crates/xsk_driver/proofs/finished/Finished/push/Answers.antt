use Rattle.std.proofs.Common.{◌≡◌, ℕ, ◌+◌, ◌≤◌, List, ◌++◌, [], ◌∷◌, length, sym, ◌∙◌, ap, arith, subst, rules, length-append, All, sum}
use Rattle.std.specs.VecDeque.{deque_len}
use Rattle.std.proofs.lemmas.List.Elements.{All-push}
use Rattle.std.proofs.lemmas.List.Sums.{sum_by-append}
use Rattle.xsk_umem.specs.declared.batch.Item.{Item}
use Rattle.xsk_driver.specs.Finished.{cut_by}
use Rattle.xsk_driver.proofs.Packing.{cut_count, cut_push, sum_few}
use Rattle.xsk_driver.proofs.finished.Finished.push.Goals as goal

pub append-requires : goal.append-requires
append-requires c =
    let count : length c.self.inside.lengths.items ≡ length c.args.self.now =
    sym (cut_count c.self.inside.lengths.items c.self.inside.items.items) ∙ ap (λ (ps : List (List Item)). length ps) c.self.view_is in
    omega (arith, count, c.requires.room, c.requires.few, c.self.invariant.0, c.self.invariant.2, sum_few c.self.inside.lengths.items 18 c.self.invariant.1)

pub push_back_reserved-requires : goal.push_back_reserved-requires
push_back_reserved-requires c =
    let count : length c.self.inside.lengths.items ≡ length c.args.self.now =
    sym (cut_count c.self.inside.lengths.items c.self.inside.items.items) ∙ ap (λ (ps : List (List Item)). length ps) c.self.view_is in
    let here : deque_len c.self.inside.lengths ≡ length c.self.inside.lengths.items = search rules in
    omega (arith, here, count, c.requires.room, c.self.invariant.3)

pub invariant_of-self : goal.invariant_of-self
invariant_of-self c =
    let lengths : List ℕ = c.self.inside.lengths.items in
    let count : length c.append.new.queue.items ≡ length c.self.inside.items.items + length (c.args.items.now ++ c.args.last ∷ []) =
    ap (λ (is : List Item). length is) c.append.ensures.queue ∙ length-append c.self.inside.items.items (c.args.items.now ++ c.args.last ∷ []) in
    let one : length (c.args.items.now ++ c.args.last ∷ []) ≡ length c.args.items.now + 1 = length-append c.args.items.now (c.args.last ∷ []) in
    let longer : sum (lengths ++ (c.len-length.result + 1) ∷ []) ≡ sum lengths + sum ((c.len-length.result + 1) ∷ []) = sum_by-append (λ x. x) lengths ((c.len-length.result + 1) ∷ []) in (
      ap sum c.push_back_reserved.ensures.items ∙ omega (arith, longer, count, one, c.self.invariant.0, c.len-length.ensures.value),
      subst (All (λ n. n ≤ 18)) (sym c.push_back_reserved.ensures.items) (All-push (λ n. n ≤ 18) lengths (c.len-length.result + 1) c.self.invariant.1 (omega (arith, c.requires.few, c.len-length.ensures.value))),
      omega (arith, c.append.ensures.capacity, c.self.invariant.2),
      omega (arith, c.push_back_reserved.ensures.capacity, c.self.invariant.3),
    )

pub returns-clause-packets : goal.returns-clause-packets
returns-clause-packets c =
    let lengths : List ℕ = c.self.inside.lengths.items in
    let items : List Item = c.self.inside.items.items in
    let one : length (c.args.items.now ++ c.args.last ∷ []) ≡ length c.args.items.now + 1 = length-append c.args.items.now (c.args.last ∷ []) in
    ap (λ (ns : List ℕ). cut_by ns c.append.new.queue.items) c.push_back_reserved.ensures.items
    ∙ ap (cut_by (lengths ++ (c.len-length.result + 1) ∷ [])) c.append.ensures.queue
    ∙ cut_push lengths items (c.args.items.now ++ c.args.last ∷ []) (c.len-length.result + 1) c.self.invariant.0 (omega (arith, one, c.len-length.ensures.value))
    ∙ ap (λ (ps : List (List Item)). ps ++ (c.args.items.now ++ c.args.last ∷ []) ∷ []) c.self.view_is
