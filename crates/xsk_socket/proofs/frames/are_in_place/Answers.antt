use Rattle.std.proofs.Common.{◌<◌, length, refl, sym, ap, ◌∙◌, arith}
use Rattle.xsk_umem.specs.Frames.{Frames}
use Rattle.xsk_socket.specs.InPlace.{IsInPlace}
use Rattle.xsk_socket.proofs.AllFrames.{turned_length, one_turned, all_turned, stays, ceases, not_true}
use Rattle.xsk_socket.proofs.frames.are_in_place.Goals as goal
use Rattle.xsk_socket.proofs.frames.are_in_place.Goals.{then-not-is_in_place, else-not-is_in_place}

pub unreachable-requires : goal.unreachable-requires
unreachable-requires c =
    let same = turned_length c.args.chunk c.args.frames.now c.loop-number.number c.loop-number.all c.loop-number.frames c.loop-number.invariant in
    absurd (omega (arith, same, ap length (c.in_default.ensures.empty.0 refl), c.len-number-end.ensures.value, c.loop-number-test.true))

pub push_back-requires : goal.push_back-requires
push_back-requires c =
    let same = turned_length c.args.chunk c.args.frames.now c.loop-number.number c.loop-number.all c.loop-number.frames c.loop-number.invariant in
    omega (arith, same, ap length c.in-Some.ensures.some, c.len-number-end.ensures.room, c.loop-number.invariant.limit, c.pop_front.ensures.limit)

pub loop-number-preserved : goal.loop-number-preserved
loop-number-preserved c =
    let more : c.loop-number.number < length c.args.frames.now.items = omega (arith, c.len-number-end.ensures.value, c.loop-number-test.true) in
    let now = c.pop_front.new.self in
    let Holds : Type 0 = IsInPlace c.args.chunk c.loop-number.number c.in-Some.frame in
    one_turned c.args.chunk c.args.frames.now c.loop-number.number c.loop-number.all c.if-not-is_in_place.all c.loop-number.frames c.push_back.new.self c.in-Some.frame now.items c.loop-number.invariant more
    c.in-Some.ensures.some (ap (λ (q : Frames). q.items) c.push_back.ensures) (ap (λ (q : Frames). q.limit) c.push_back.ensures ∙ c.pop_front.ensures.limit ∙ c.loop-number.invariant.limit)
    (elim c.if-not-is_in_place.branch [
      | then-not-is_in_place w ↦ ceases c.loop-number.all c.if-not-is_in_place.all Holds (λ p. not_true (sym w.if-not-is_in_place.true ∙ c.is_in_place.ensures.1 p)) w.all-is
      | else-not-is_in_place w ↦ stays c.loop-number.all c.if-not-is_in_place.all Holds (c.is_in_place.ensures.0 w.if-not-is_in_place.false) w.all-is
    ])

pub returns-clause-in_place : goal.returns-clause-in_place
returns-clause-in_place c =
    (all_turned c.args.chunk c.args.frames.now c.loop-number.number c.loop-number.all c.loop-number.frames c.loop-number.invariant (omega (arith, c.len-number-end.ensures.value, c.loop-number-test.false))).1
