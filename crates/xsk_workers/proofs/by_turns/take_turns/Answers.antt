use Rattle.std.proofs.Common.{rules, ◌≡◌, ◌<◌, length, ◌∙◌, ap}
use Rattle.std.specs.List.{slice_index_or}
use Rattle.std.proofs.Math.Seq.{map-set_same}
use Rattle.std.proofs.lemmas.List.Elements.{AllWithin-more_set, All-set}
use Rattle.xsk_workers.specs.Crew.{IsSeatOn}
use Rattle.xsk_workers.proofs.Seats.{still_on}
use Rattle.xsk_workers.proofs.by_turns.take_turns.Goals as goal

pub loop-i-preserved : goal.loop-i-preserved
loop-i-preserved g c =
    let was = c.loop-i.invariant in
    let seat = g.W.Turns.seat in
    let old = c.index_mut-member.result.now in
    let items = c.loop-i.members.items in
    let at : old ≡ slice_index_or items c.loop-i.i old = search rules in
    let low : c.loop-i.i < length items = search rules in
    let both = c.and-together.ensures.ended.0 in
    let on : IsSeatOn c.args.shared.now (seat c.take_turn-pace.new.member) = still_on c.args.shared.now (seat old) (seat c.take_turn-pace.new.member) c.take_turn-pace.ensures.seat (search rules) in (
      All-set (λ w. IsSeatOn c.args.shared.now (seat w)) items c.loop-i.i c.take_turn-pace.new.member on was.0,
      map-set_same seat items c.loop-i.i c.take_turn-pace.new.member old (c.take_turn-pace.ensures.seat ∙ ap seat at) ∙ was.1,
      search rules,
      λ e. AllWithin-more_set items c.loop-i.i c.take_turn-pace.new.member low g.W.Turns.has_run (was.3 (both e).0) (c.take_turn-pace.ensures.whole (both e).1),
    )
