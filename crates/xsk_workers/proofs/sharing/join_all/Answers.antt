use Rattle.std.proofs.Common.{rules, ◌≡◌, [], ◌∷◌, map, ap, subst}
use Rattle.std.specs.Vec.Iter.{into_iter_items, into_iter_len}
use Rattle.std.proofs.lemmas.List.{nil_from_length}
use Rattle.xsk_lock.specs.Held.{Belongs}
use Rattle.xsk_workers.proofs.Lists.{All-rest, All-first}
use Rattle.xsk_workers.proofs.Dealt.{one_joined, all_joined}
use Rattle.xsk_workers.proofs.sharing.join_all.Goals as goal

pub loop-handle-preserved : goal.loop-handle-preserved
loop-handle-preserved g c =
    let was = c.loop-handle.invariant in
    let lock = c.args.common.now.lock.now in
    let h = c.in-Some.handle in
    let left = into_iter_items c.loop-handle.handle-iterator in
    let rest = into_iter_items c.next.new.self in
    let first : left ≡ h ∷ rest = search rules in
    record {
      all = one_joined lock c.loop-handle.own c.join.new.hand h.promise.hand.value c.join-hand.result [] _ (map (λ x. x.promise.hand.value) rest) (ap (map (λ x. x.promise.hand.value)) first)
          (record { belongs = c.join.ensures.belongs; off = c.join.ensures.off }) c.join.ensures.mine c.join-hand.ensures.mine was.all;
      lock = All-rest (λ x. x.promise.lock.value ≡ lock) h left rest first was.lock;
    }

pub join-requires-clause-belongs : goal.join-requires-clause-belongs
join-requires-clause-belongs g c =
    let was = c.loop-handle.invariant in
    let lock = c.args.common.now.lock.now in
    let left = into_iter_items c.loop-handle.handle-iterator in
    let first : left ≡ c.in-Some.handle ∷ into_iter_items c.next.new.self = search rules in
    let of : c.in-Some.handle.promise.lock.value ≡ lock = All-first (λ x. x.promise.lock.value ≡ lock) c.in-Some.handle left (into_iter_items c.next.new.self) first was.lock in
    (was.all.free.belongs, subst (λ l. Belongs l c.join-hand.result) of c.join-hand.ensures.free.belongs)

pub returns-clause-all : goal.returns-clause-all
returns-clause-all g c =
    let left = into_iter_items c.loop-handle.handle-iterator in
    let none : left ≡ [] = nil_from_length left (let zero : into_iter_len c.loop-handle.handle-iterator ≡ 0 = c.in-None.ensures.steps.0 in search (rules, zero)) in
    all_joined c.args.common.now.lock.now c.loop-handle.own _ (ap (map (λ x. x.promise.hand.value)) none) c.loop-handle.invariant.all
