use Rattle.std.proofs.Common.{rules, ◌≡◌, [], ◌∷◌}
use Rattle.std.specs.Vec.Iter.{into_iter_items, into_iter_len}
use Rattle.std.proofs.lemmas.List.{nil_from_length}
use Rattle.xsk_workers.proofs.Lists.{one_back, all_out}
use Rattle.xsk_workers.proofs.crew.join_all.Goals as goal

pub loop-handle-preserved : goal.loop-handle-preserved
loop-handle-preserved g c =
    let seat = g.W.Turns.seat in
    let h = c.in-Some.handle in
    let rest = into_iter_items c.next.new.self in
    let first : into_iter_items c.loop-handle.handle-iterator ≡ h ∷ rest = search rules in
    let same : seat c.join.result ≡ seat h.promise.member.value = search rules in (
      one_back (λ x. seat x.promise.member.value) seat c.loop-handle.done.items c.push_reserved.new.self.items (into_iter_items c.loop-handle.handle-iterator) rest _ h c.join.result first c.push_reserved.ensures.items same
          c.loop-handle.invariant.0,
      search rules,
      search rules,
    )

pub returns-clause-seats : goal.returns-clause-seats
returns-clause-seats g c =
    let none : into_iter_items c.loop-handle.handle-iterator ≡ [] =
    nil_from_length (into_iter_items c.loop-handle.handle-iterator) (let zero : into_iter_len c.loop-handle.handle-iterator ≡ 0 = c.in-None.ensures.steps.0 in search (rules, zero)) in
    all_out g.W.Turns.seat (λ x. g.W.Turns.seat x.promise.member.value) c.loop-handle.done.items (into_iter_items c.loop-handle.handle-iterator) _ none c.loop-handle.invariant.0
