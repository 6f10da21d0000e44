use Rattle.std.proofs.Common.{rules, tests, length, ◌≡◌, [], ◌∷◌, ◌++◌, append-nil, map, All, refl, sym, ◌∙◌, ap, subst}
use Rattle.std.specs.Vec.Iter.{into_iter_items, into_iter_len}
use Rattle.std.proofs.lemmas.List.{nil_from_length}
use Rattle.xsk_table.specs.Held.{Board}
use Rattle.xsk_workers.specs.Crew.{IsSeatOn}
use Rattle.xsk_workers.proofs.Lists.{left_over, one_started, All-rest, All-first, All-more}
use Rattle.xsk_workers.proofs.Seats.{still_on, all_on}
use Rattle.xsk_workers.proofs.crew.fn.run_in_scope.scope.Goals as goal

pub loop-worker-preserved-then-not-is_empty : goal.loop-worker-preserved-then-not-is_empty
loop-worker-preserved-then-not-is_empty g c =
    let was = c.loop-worker.invariant in
    let b = c.crew.inside.shared.value in
    let seat = g.W.Turns.seat in
    let w = c.in-Some.worker in
    let first : into_iter_items c.loop-worker.worker-iterator ≡ w ∷ into_iter_items c.next.new.self = search rules in (
      tt,
      tt,
      left_over (λ h. seat h.promise.member.value) seat c.loop-worker.handles.items c.loop-worker.unrun.items c.push_reserved.new.self.items
          (into_iter_items c.loop-worker.worker-iterator) (into_iter_items c.next.new.self) _ w w first c.push_reserved.ensures.items refl was.2,
      All-rest (λ x. IsSeatOn b (seat x)) w _ _ first was.3,
      search rules,
      search rules,
      search rules,
      was.7,
      All-more (λ x. IsSeatOn b (seat x)) _ _ w c.push_reserved.ensures.items was.8 (All-first (λ x. IsSeatOn b (seat x)) w _ _ first was.3),
    )

pub spawn_with-requires-clause-keeps : goal.spawn_with-requires-clause-keeps
spawn_with-requires-clause-keeps g c κs within =
    let seat = g.W.Turns.seat in
    let noted : c.of.result.value ≡ c.in-Some.worker = search rules in
    λ r same. same ∙ ap seat (sym noted)

pub loop-worker-preserved-in-Ok : goal.loop-worker-preserved-in-Ok
loop-worker-preserved-in-Ok g c =
    let was = c.loop-worker.invariant in
    let b = c.crew.inside.shared.value in
    let seat = g.W.Turns.seat in
    let w = c.in-Some.worker in
    let h = c.in-Ok.handle in
    let first : into_iter_items c.loop-worker.worker-iterator ≡ w ∷ into_iter_items c.next.new.self = search rules in
    let noted : c.of.result.value ≡ w = search rules in
    let told : seat h.promise.member.value ≡ seat w = ap (λ p. seat p.member.value) c.in-Ok.ensures.ok ∙ ap seat noted in
    let zero : length c.loop-worker.unrun.items ≡ 0 = search (rules, tests) in
    let none = nil_from_length c.loop-worker.unrun.items zero in (
      tt,
      tt,
      one_started (λ x. seat x.promise.member.value) seat c.loop-worker.handles.items c.push_reserved-in-Ok.new.self.items c.loop-worker.unrun.items
          (into_iter_items c.loop-worker.worker-iterator) (into_iter_items c.next.new.self) _ w h first c.push_reserved-in-Ok.ensures.items told none was.2,
      All-rest (λ x. IsSeatOn b (seat x)) w _ _ first was.3,
      search rules,
      search rules,
      search rules,
      was.7,
      was.8,
    )

pub job-worker-requires : goal.job-worker-requires
job-worker-requires g c =
    let was = c.loop-worker.invariant in
    let b = c.crew.inside.shared.value in
    let seat = g.W.Turns.seat in
    let w = c.in-Some.worker in
    let first : into_iter_items c.loop-worker.worker-iterator ≡ w ∷ into_iter_items c.next.new.self = search rules in
    let on : IsSeatOn b (seat w) = All-first (λ x. IsSeatOn b (seat x)) w _ _ first was.3 in
    let board : b ≡ c.captures.shared.now = search rules in
    (search rules, (search rules, (search rules, (search rules, subst (λ v. IsSeatOn v.1.now (seat v.4)) (sym c.in-Err.ensures.err) (subst (λ (x : Board). IsSeatOn x (seat w)) board on)))))

pub loop-worker-preserved : goal.loop-worker-preserved
loop-worker-preserved g c =
    let was = c.loop-worker.invariant in
    let b = c.crew.inside.shared.value in
    let seat = g.W.Turns.seat in
    let w = c.in-Some.worker in
    let v = c.job-worker.result in
    let first : into_iter_items c.loop-worker.worker-iterator ≡ w ∷ into_iter_items c.next.new.self = search rules in
    let on : IsSeatOn b (seat w) = All-first (λ x. IsSeatOn b (seat x)) w _ _ first was.3 in
    let same : seat v ≡ seat w = c.job-worker.ensures ∙ ap (λ x. seat x.4) c.in-Err.ensures.err in (
      tt,
      tt,
      left_over (λ h. seat h.promise.member.value) seat c.loop-worker.handles.items c.loop-worker.unrun.items c.push_reserved-in-Err.new.self.items
          (into_iter_items c.loop-worker.worker-iterator) (into_iter_items c.next.new.self) _ w v first c.push_reserved-in-Err.ensures.items same was.2,
      All-rest (λ x. IsSeatOn b (seat x)) w _ _ first was.3,
      search rules,
      search rules,
      search rules,
      was.7,
      All-more (λ x. IsSeatOn b (seat x)) _ _ v c.push_reserved-in-Err.ensures.items was.8 (still_on b (seat w) (seat v) same on),
    )

pub finish-requires : goal.finish-requires
finish-requires g c =
    let board : c.crew.inside.shared.value ≡ c.captures.shared.now = search rules in
    subst (λ (x : Board). All (λ w. IsSeatOn x (g.W.Turns.seat w)) c.loop-worker.unrun.items) board c.loop-worker.invariant.8

pub gather-requires-clause-none : goal.gather-requires-clause-none
gather-requires-clause-none g c κs within = c.loop-worker.invariant.7

pub returns : goal.returns
returns g c =
    let seat = g.W.Turns.seat in
    let handles = c.loop-worker.handles.items in
    let unrun = c.loop-worker.unrun.items in
    let none : into_iter_items c.loop-worker.worker-iterator ≡ [] =
    nil_from_length (into_iter_items c.loop-worker.worker-iterator) (let zero : into_iter_len c.loop-worker.worker-iterator ≡ 0 = c.in-None.ensures.steps.0 in search (rules, zero)) in
    let all : map (λ h. seat h.promise.member.value) handles ++ map seat unrun ≡ map seat c.crew.inside.workers.items =
    sym (append-nil (map (λ h. seat h.promise.member.value) handles ++ map seat unrun)) ∙ ap (λ l. (map (λ h. seat h.promise.member.value) handles ++ map seat unrun) ++ map seat l) (sym none) ∙ c.loop-worker.invariant.2 in
    let end_seats : map seat c.gather.result.items ≡ map seat c.crew.inside.workers.items = c.gather.ensures ∙ ap (λ l. map (λ h. seat h.promise.member.value) handles ++ l) c.finish.ensures.seats ∙ all in
    let seats : c.captures.crew.seats ≡ map seat c.crew.inside.workers.items = search rules in
    let board : c.crew.inside.shared.value ≡ c.captures.shared.now = search rules in
    record {
      seats = end_seats ∙ sym seats;
      belong = subst (λ (x : Board). All (λ w. IsSeatOn x (seat w)) c.gather.result.items) board
          (all_on seat c.crew.inside.shared.value c.gather.result.items c.crew.inside.workers.items end_seats (search rules));
    }
