use Rattle.std.proofs.Common.{rules, ◌≡◌, [], ◌∷◌, ◌++◌, map, All, refl, sym, ap, subst, ◌∙◌}
use Rattle.std.specs.Vec.Iter.{into_iter_items, into_iter_len}
use Rattle.std.proofs.lemmas.List.{nil_from_length, map-append}
use Rattle.std.proofs.lemmas.List.Elements.{All-nil}
use Rattle.xsk_workers.specs.Sharing.{IsFree, AreAll, Stays}
use Rattle.xsk_workers.proofs.Lists.{All-first, All-more}
use Rattle.xsk_workers.proofs.Dealt.{one_started, one_joined, one_ran, all_started}
use Rattle.xsk_workers.proofs.sharing.fn.run_all.scope.Goals as goal

pub loop-hand-init : goal.loop-hand-init
loop-hand-init g c =
    let lock = c.captures.common.now.lock.now in
    let none = c.requires.room.0 in
    let all : into_iter_items c.into_iter-hand-iterator.result ≡ c.captures.others.items = search rules in
    record {
      can = tt;
      ends = tt;
      all = subst (λ l. AreAll lock c.captures.own l (into_iter_items c.into_iter-hand-iterator.result)) (sym (ap (map (λ h. h.promise.hand.value)) none))
          (subst (λ l. AreAll lock c.captures.own [] l) (sym all) c.requires.all);
      lock = subst (λ l. All (λ h. h.promise.lock.value ≡ lock) l) (sym none) (All-nil (λ h. h.promise.lock.value ≡ lock));
      room = search rules;
    }

pub loop-hand-preserved-then-refused : goal.loop-hand-preserved-then-refused
loop-hand-preserved-then-refused g c =
    let was = c.loop-hand.invariant in
    let lock = c.captures.common.now.lock.now in
    let x = c.in-Some.hand in
    let left = into_iter_items c.loop-hand.hand-iterator in
    let first : left ≡ x ∷ into_iter_items c.next.new.self = search rules in
    record {
      can = tt;
      ends = tt;
      all = one_joined lock c.loop-hand.own c.join.new.hand x x _ left _ first (record { belongs = c.join.ensures.belongs; off = c.join.ensures.off }) c.join.ensures.mine refl was.all;
      lock = was.lock;
      room = search rules;
    }

pub loop-hand-preserved-in-Ok : goal.loop-hand-preserved-in-Ok
loop-hand-preserved-in-Ok g c =
    let was = c.loop-hand.invariant in
    let lock = c.captures.common.now.lock.now in
    let x = c.in-Some.hand in
    let h = c.in-Ok.handle in
    let left = into_iter_items c.loop-hand.hand-iterator in
    let rest = into_iter_items c.next.new.self in
    let started = c.loop-hand.handles.items in
    let first : left ≡ x ∷ rest = search rules in
    let noted : c.of-in-loop-hand.result.value ≡ x = search rules in
    let noted_lock : c.of.result.value ≡ lock = search rules in
    let told : h.promise.hand.value ≡ x = ap (λ p. p.hand.value) c.in-Ok.ensures.ok ∙ noted in
    let is : h.promise.lock.value ≡ lock = ap (λ p. p.lock.value) c.in-Ok.ensures.ok ∙ noted_lock in
    let more : map (λ y. y.promise.hand.value) c.push_reserved.new.self.items ≡ map (λ y. y.promise.hand.value) started ++ x ∷ [] =
    ap (map (λ y. y.promise.hand.value)) c.push_reserved.ensures.items ∙ map-append (λ y. y.promise.hand.value) started (h ∷ []) ∙ ap (λ y. map (λ z. z.promise.hand.value) started ++ y ∷ []) told in
    record {
      can = tt;
      ends = tt;
      all = one_started lock c.loop-hand.own x _ _ left rest first more was.all;
      lock = All-more (λ y. y.promise.lock.value ≡ lock) started c.push_reserved.new.self.items h c.push_reserved.ensures.items was.lock is;
      room = search rules;
    }

pub loop-hand-preserved : goal.loop-hand-preserved
loop-hand-preserved g c =
    let was = c.loop-hand.invariant in
    let lock = c.captures.common.now.lock.now in
    let x = c.in-Some.hand in
    let left = into_iter_items c.loop-hand.hand-iterator in
    let rest = into_iter_items c.next.new.self in
    let first : left ≡ x ∷ rest = search rules in
    let came : Stays lock x c.job-hand.result = subst (λ v. Stays v.0.now.lock.now v.2 c.job-hand.result) c.in-Err.ensures.err c.job-hand.ensures in
    record {
      can = tt;
      ends = tt;
      all = one_joined lock c.loop-hand.own c.join-in-Err.new.hand x c.job-hand.result _ left rest first (record { belongs = c.join-in-Err.ensures.belongs; off = c.join-in-Err.ensures.off }) c.join-in-Err.ensures.mine came.mine was.all;
      lock = was.lock;
      room = search rules;
    }

pub join-requires : goal.join-requires
join-requires g c =
    let lock = c.captures.common.now.lock.now in
    let x = c.in-Some.hand in
    let left = into_iter_items c.loop-hand.hand-iterator in
    let first : left ≡ x ∷ into_iter_items c.next.new.self = search rules in
    let free : IsFree lock x = All-first (IsFree lock) x left _ first c.loop-hand.invariant.all.are_waiting in
    record {
      belongs = (c.loop-hand.invariant.all.free.belongs, free.belongs);
      off = (c.loop-hand.invariant.all.free.off, free.off);
    }

pub spawn_with-requires-clause-runs : goal.spawn_with-requires-clause-runs
spawn_with-requires-clause-runs g c κs within =
    let lock = c.captures.common.now.lock.now in
    let x = c.in-Some.hand in
    let left = into_iter_items c.loop-hand.hand-iterator in
    let first : left ≡ x ∷ into_iter_items c.next.new.self = search rules in
    let free : IsFree lock x = All-first (IsFree lock) x left _ first c.loop-hand.invariant.all.are_waiting in
    search (rules, free)

pub job-hand-requires : goal.job-hand-requires
job-hand-requires g c =
    let lock = c.captures.common.now.lock.now in
    let x = c.in-Some.hand in
    let left = into_iter_items c.loop-hand.hand-iterator in
    let first : left ≡ x ∷ into_iter_items c.next.new.self = search rules in
    let free : IsFree lock x = All-first (IsFree lock) x left _ first c.loop-hand.invariant.all.are_waiting in
    let known = subst (λ v. IsFree v.0.now.lock.now v.2) (sym c.in-Err.ensures.err) free in
    let on = subst (λ v. g.T.Lanes.is_on v.0.now.shared.now v.0.now.lock.now.name) (sym c.in-Err.ensures.err) c.requires.on in
    let lanes = subst (λ v. v.0.now.whole.lanes ≡ g.T.Lanes.lanes_in v.0.now.lock.now.name) (sym c.in-Err.ensures.err) c.requires.lanes in
    search (rules, known, on, lanes)

pub join_all-requires : goal.join_all-requires
join_all-requires g c =
    let was = c.loop-hand.invariant in
    let lock = c.captures.common.now.lock.now in
    let left = into_iter_items c.loop-hand.hand-iterator in
    let none : left ≡ [] = nil_from_length left (let zero : into_iter_len c.loop-hand.hand-iterator ≡ 0 = c.in-None.ensures.steps.0 in search (rules, zero)) in
    record {
      all = all_started lock c.run-own.result _ left none (one_ran lock c.loop-hand.own c.run-own.result _ left c.run-own.ensures.stays.free c.run-own.ensures.stays.mine was.all);
      lock = was.lock;
    }
