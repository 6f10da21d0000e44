use Rattle.std.specs.Prelude.{codes}
use Rattle.xsk_side.specs.Own.{room_of}
use Rattle.xsk_judge.specs.declared.known.Spot.TheVariants.{On}
use Rattle.xsk_judge.specs.Stands.{calls_of}
use Rattle.xsk_hints.specs.Told.{count_line, tally_line, tally_in}
use Rattle.xsk_hints.proofs.Texts.{after, as_told, on_ok}
use Rattle.xsk_hints.proofs.rings.push_made.Goals as goal

pub returns : goal.returns
returns c lines stands notes =
    let s = c.args.setting.now in
    let r = c.args.ring in
    let room = as_told (count_line r (codes ": places reserved and not filled at the end: ")) _ _ c.room-room.result (room_of r (calls_of lines)) (c.room-room.ensures lines stands) c.in_ok-push_count.ensures in
    let before = after _ _ _ _ _ (c.in_ok-push_oddities.ensures lines notes) room in
    on_ok c.push_tally.result _ _
    (λ is. after _ _ _ _ _ before (as_told (tally_line r (codes ": frames on it at the end: ")) _ _ c.tally_at-frames.result (tally_in s lines (On r)) (c.tally_at-frames.ensures lines stands) is))
    c.push_tally.ensures
