use Rattle.std.proofs.Common.{rules, ◌≡◌, ℕ, ◌+◌, ◌<◌, Some, None, [], ◌∷◌, ◌++◌, length, set, map, get_or, sym, ap, subst, ◌∙◌, arith, length-append}
use Rattle.std.specs.Vec.Iter.{into_iter_items}
use Rattle.xsk_model.specs.Config.{callers_of, classes_of}
use Rattle.xsk_model.specs.Entry.{own}
use Rattle.xsk_turns.specs.Statistics.{capped}
use Rattle.xsk_table.specs.Held.{Holder}
use Rattle.xsk_workers.specs.Forwarded.{packets_in}
use Rattle.xsk_workers.specs.Gathering.{HaveRunFrom, AreGiven, AreSent, IsSentOf, AreFiguresOf, IsFiguresOf, calls_in}
use Rattle.xsk_workers.proofs.Calls.{calls_none, calls_more, capped_sum}
use Rattle.xsk_workers.proofs.Gathering.{given_none, kept_none, given_more, sent_more, figures_more, has_room}
use Rattle.xsk_workers.proofs.forwarding.give_back.Goals as goal

pub loop-member-init : goal.loop-member-init
loop-member-init g c =
    let b = c.args.shared.now in
    let taken = c.requires.taken in
    let all : c.args.members.items ≡ into_iter_items c.into_iter-member-iterator.result = search rules in (
      λ hands s have. (
        subst (HaveRunFrom g.W.Leaves.pass g.W.Leaves.leaves b hands s 0) all have.run,
        given_none b hands s c.args.passes.now taken,
        subst (AreSent s 0 c.args.passes.now) (sym (ap (map packets_in) c.requires.none.1)) (kept_none (IsSentOf s) s c.args.passes.now),
        subst (AreFiguresOf s 0 c.args.passes.now) (sym c.requires.none.0) (kept_none (IsFiguresOf s) s c.args.passes.now),
      ),
      (let count : length (into_iter_items c.into_iter-member-iterator.result) ≡ callers_of b.setup.config = sym (ap length all) ∙ c.requires.run.2.count in omega (arith, count)),
      ap capped (sym (calls_none 0 c.args.passes.now (λ w below. taken.gone w (omega (arith, below, taken.length_is))))),
      c.requires.room.0,
      c.requires.room.1,
    )

pub leave-pass-requires : goal.leave-pass-requires
leave-pass-requires g c =
    let b = c.args.shared.now in
    let n : ℕ = length c.loop-member.yielded in
    let m = c.in-Some.member in
    let hands = c.requires.run.0 in
    let s = c.requires.run.1 in
    let was = c.loop-member.invariant.0 hands s c.requires.run.2 in
    let config = ap (λ k. length k.pairs) c.requires.run.2.config in
    let first : into_iter_items c.loop-member.member-iterator ≡ m ∷ into_iter_items c.next.new.self = search rules in
    let run : HaveRunFrom g.W.Leaves.pass g.W.Leaves.leaves b hands s n (m ∷ into_iter_items c.next.new.self) = subst (HaveRunFrom g.W.Leaves.pass g.W.Leaves.leaves b hands s n) first was.0 in
    record {
      room = λ left is.
          has_room s n c.loop-member.passes c.loop-member.kept c.args.classes left (own n (g.W.Leaves.pass m).view.seen) (run.0.left left is) was.2 was.3
          (omega (arith, c.loop-member.invariant.3, config)) (omega (arith, c.loop-member.invariant.4, config));
    }

pub give-requires-clause-place : goal.give-requires-clause-place
give-requires-clause-place g c =
    let b = c.args.shared.now in
    let n : ℕ = length c.loop-member.yielded in
    let m = c.in-Some.member in
    let rest = into_iter_items c.next.new.self in
    let first : into_iter_items c.loop-member.member-iterator ≡ m ∷ rest = search rules in
    let remain : n + length (m ∷ rest) ≡ callers_of b.setup.config = subst (λ l. n + length l ≡ callers_of b.setup.config) first c.loop-member.invariant.1 in
    let known : n < callers_of b.setup.config = omega (arith, remain) in
    let hands = c.requires.run.0 in
    let s = c.requires.run.1 in
    let all = c.loop-member.invariant.0 hands s c.requires.run.2 in
    let run : HaveRunFrom g.W.Leaves.pass g.W.Leaves.leaves b hands s n (m ∷ rest) = subst (HaveRunFrom g.W.Leaves.pass g.W.Leaves.leaves b hands s n) first all.0 in
    let who : c.leave-pass.result.0.who ≡ n = ap (λ (p : Holder). p.who) c.leave-pass.ensures.pass ∙ run.0.who in
    (omega (arith, who, known, all.1.length_is), subst (λ (k : ℕ). get_or c.loop-member.passes k None ≡ None) (sym who) (all.1.gone n (omega arith) known))

pub give-requires-clause-rests : goal.give-requires-clause-rests
give-requires-clause-rests g c = ap (λ (p : Holder). p.view.flight) c.leave-pass.ensures.pass ∙ c.leave-pass.ensures.rests

pub loop-member-preserved : goal.loop-member-preserved
loop-member-preserved g c =
    let b = c.args.shared.now in
    let n : ℕ = length c.loop-member.yielded in
    let m = c.in-Some.member in
    let p : Holder = g.W.Leaves.pass m in
    let left = c.leave-pass.ensures.kept.0 in
    let is = c.leave-pass.ensures.kept.1 in
    let keeps = c.leave-pass.ensures.kept.2 in
    let rest = into_iter_items c.next.new.self in
    let first : into_iter_items c.loop-member.member-iterator ≡ m ∷ rest = search rules in
    let count : length (c.loop-member.yielded ++ m ∷ []) ≡ n + 1 = length-append c.loop-member.yielded (m ∷ []) in
    let remain : n + length (m ∷ rest) ≡ callers_of b.setup.config = subst (λ l. n + length l ≡ callers_of b.setup.config) first c.loop-member.invariant.1 in
    let known : n < callers_of b.setup.config = omega (arith, remain) in
    let hands = c.requires.run.0 in
    let t = c.requires.run.1 in
    let all = c.loop-member.invariant.0 hands t c.requires.run.2 in
    let ran : HaveRunFrom g.W.Leaves.pass g.W.Leaves.leaves b hands t n (m ∷ rest) = subst (HaveRunFrom g.W.Leaves.pass g.W.Leaves.leaves b hands t n) first all.0 in
    let who : p.who ≡ n = ran.0.who in
    let passes : c.give.new.self ≡ set c.loop-member.passes n (Some p) =
    c.give.ensures ∙ ap (λ (q : Holder). set c.loop-member.passes q.who (Some q)) c.leave-pass.ensures.pass
    ∙ ap (λ (k : ℕ). set c.loop-member.passes k (Some p)) who in
    let empty : get_or c.loop-member.passes n None ≡ None = all.1.gone n (omega arith) known in
    let more : calls_in 0 (set c.loop-member.passes n (Some p)) ≡ calls_in 0 c.loop-member.passes + length (own p.who p.view.seen) =
    calls_more 0 n c.loop-member.passes p p.who (omega (arith, who)) (omega (arith, all.1.length_is, known)) empty in (
      λ hands s have.
          let was = c.loop-member.invariant.0 hands s have in
          let run : HaveRunFrom g.W.Leaves.pass g.W.Leaves.leaves b hands s n (m ∷ rest) = subst (HaveRunFrom g.W.Leaves.pass g.W.Leaves.leaves b hands s n) first was.0 in
          let stands = run.0.left left is in
          let given = given_more b hands s n c.loop-member.passes p known was.1 run.0.table run.0.setup run.0.whole in
          let sent = sent_more b hands s n c.loop-member.passes p known was.1 (map packets_in c.loop-member.kept.sent.items) left stands was.2 in
          let classes : c.args.classes ≡ classes_of s.config = c.requires.classes ∙ ap classes_of (sym have.config) in
          let figures = figures_more b hands s n c.loop-member.passes p known was.1 c.args.classes c.loop-member.kept.figures.items left classes stands was.3 in (
            subst (λ k. HaveRunFrom g.W.Leaves.pass g.W.Leaves.leaves b hands s k rest) (sym count) run.1,
            subst (λ k. AreGiven b hands s k c.give.new.self) (sym count) (subst (AreGiven b hands s (n + 1)) (sym passes) given),
            subst (λ k. AreSent s k c.give.new.self (map packets_in c.leave-pass.new.kept.sent.items)) (sym count)
                (subst (λ ps. AreSent s (n + 1) ps (map packets_in c.leave-pass.new.kept.sent.items)) (sym passes)
                (subst (AreSent s (n + 1) (set c.loop-member.passes n (Some p))) (sym keeps.sent) sent)),
            subst (λ k. AreFiguresOf s k c.give.new.self c.leave-pass.new.kept.figures.items) (sym count)
                (subst (λ ps. AreFiguresOf s (n + 1) ps c.leave-pass.new.kept.figures.items) (sym passes)
                (subst (AreFiguresOf s (n + 1) (set c.loop-member.passes n (Some p))) (sym keeps.figures) figures)),
          ),
      omega (arith, remain, count),
      c.saturating_add-calls.ensures ∙ capped_sum c.loop-member.calls c.leave-pass.result.1 (calls_in 0 c.loop-member.passes) (length (own p.who p.view.seen)) c.loop-member.invariant.2 c.leave-pass.ensures.calls
          ∙ ap capped (sym (ap (calls_in 0) passes ∙ more)),
      omega (arith, c.loop-member.invariant.3, keeps.room.0),
      omega (arith, c.loop-member.invariant.4, keeps.room.1),
    )
