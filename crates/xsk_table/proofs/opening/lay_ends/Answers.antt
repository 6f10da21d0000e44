use Rattle.std.proofs.Common.{rules, ◌+◌, ◌<◌, sym, subst, arith}
use Rattle.xsk_model.specs.Rings.{places_of}
use Rattle.xsk_table.specs.View.{Basis}
use Rattle.xsk_table.specs.Opening.{AreFirst}
use Rattle.xsk_table.proofs.FirstEnds.{first_more, width_more, base_small}
use Rattle.xsk_table.proofs.opening.lay_ends.Goals as goal

pub loop-place-preserved : goal.loop-place-preserved
loop-place-preserved c =
    let inv = c.loop-place.invariant in
    let lt : c.loop-place.place < places_of c.args.config.now = subst (λ n. c.loop-place.place < n) c.ring_places-places.ensures.value c.loop-place-test.true in (
      width_more c.args.config.now c.loop-place.place c.loop-place.base c.place_width-base.result lt inv.0 c.place_width-base.ensures.value,
      omega (arith, inv.1, c.place_width-base.ensures.few),
      search rules,
      search rules,
      λ frames opened.
          let k : Basis = record { config = c.args.config.now; first = c.args.first; frames = frames } in
          let more = first_more k c.args.who c.loop-place.place c.loop-place.base _ _ _ inv.0 (base_small c.args.config.now c.loop-place.base c.loop-place.place opened.config lt inv.1)
          c.mask_at.ensures (λ r has at. c.count_at-count.ensures frames r opened has at) (inv.4 frames opened) in
          subst (AreFirst k c.args.who (c.loop-place.place + 1)) (sym c.push_reserved.ensures.items) more,
    )
