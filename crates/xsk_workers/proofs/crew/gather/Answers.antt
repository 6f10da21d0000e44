use Rattle.std.proofs.Common.{rules, ◌≡◌, [], ◌∷◌, ◌++◌, map, refl, ap, ◌∙◌}
use Rattle.std.specs.Vec.Iter.{into_iter_items, into_iter_len}
use Rattle.std.proofs.lemmas.List.{nil_from_length}
use Rattle.xsk_workers.proofs.Lists.{one_back, all_out}
use Rattle.xsk_workers.proofs.crew.gather.Goals as goal

pub loop-worker-init : goal.loop-worker-init
loop-worker-init g c =
    let seat = g.W.Turns.seat in
    let handles = c.args.handles.items in
    let all : into_iter_items c.into_iter-worker-iterator.result ≡ c.args.unrun.items = search rules in
    let come : map seat c.join_all.new.done.items ≡ map (λ h. seat h.promise.member.value) handles =
    c.join_all.ensures.seats ∙ ap (λ l. map seat l ++ map (λ h. seat h.promise.member.value) handles) c.requires.none in (
      ap (λ l. l ++ map seat (into_iter_items c.into_iter-worker-iterator.result)) come ∙ ap (λ l. map (λ h. seat h.promise.member.value) handles ++ map seat l) all,
      search rules,
    )

pub loop-worker-preserved : goal.loop-worker-preserved
loop-worker-preserved g c =
    let seat = g.W.Turns.seat in
    let w = c.in-Some.worker in
    let rest = into_iter_items c.next.new.self in
    let first : into_iter_items c.loop-worker.worker-iterator ≡ w ∷ rest = search rules in (
      one_back seat seat c.loop-worker.done.items c.push_reserved.new.self.items (into_iter_items c.loop-worker.worker-iterator) rest _ w w first c.push_reserved.ensures.items refl c.loop-worker.invariant.0,
      search rules,
    )

pub returns : goal.returns
returns g c =
    let none : into_iter_items c.loop-worker.worker-iterator ≡ [] =
    nil_from_length (into_iter_items c.loop-worker.worker-iterator) (let zero : into_iter_len c.loop-worker.worker-iterator ≡ 0 = c.in-None.ensures.steps.0 in search (rules, zero)) in
    all_out g.W.Turns.seat g.W.Turns.seat c.loop-worker.done.items (into_iter_items c.loop-worker.worker-iterator) _ none c.loop-worker.invariant.0
