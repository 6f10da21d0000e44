use Rattle.std.proofs.Common.{◌≡◌, arith, append-nil, ◌∷◌, ◌++◌, [], length, sym, ap, ◌∙◌, rules, Some, List, ◌-◌}
use Rattle.std.proofs.lemmas.List.Elements.{All-push}
use Rattle.xsk_umem.specs.Frame.{Frame}
use Rattle.xsk_umem.specs.declared.batch.Item.{Item}
use Rattle.xsk_turns.specs.Counters.{raised}
use Rattle.xsk_turns.specs.Turns.{whole_in}
use Rattle.xsk_turns.proofs.Counts.{raised_none}
use Rattle.xsk_driver.specs.Groups.{IsWholeFrame}
use Rattle.xsk_driver.proofs.Loops.{takes_one, whole_kept, whole_none}
use Rattle.xsk_driver.proofs.machine.keep_frames.Goals as goal
use Rattle.xsk_driver.proofs.machine.keep_frames.Goals.{in_default-via-in-None-1, in_default-via-in-Some-frame+else-bytes-chunk}

pub loop-item-preserved-in-Some : goal.loop-item-preserved-in-Some
loop-item-preserved-in-Some c =
    let has : c.in-Some.item.frame ≡ Some c.in-Some-frame.frame = c.in-Some-frame.is in
    let whole : length c.in-Some-frame.frame.bytes ≡ c.args.chunk = search rules in
    let one : whole_in c.args.chunk c.in-Some.item.frame ≡ c.in-Some-frame.frame ∷ [] = ap (whole_in c.args.chunk) has ∙ whole_kept c.args.chunk c.in-Some-frame.frame whole in
    let pushed : c.push_back_reserved.new.self.items ≡ c.loop-item.spare.items ++ c.in-Some-frame.frame ∷ [] = c.push_back_reserved.ensures.items ∙ ap (λ (f : Frame). c.loop-item.spare.items ++ f ∷ []) c.in-Some-frame.frame-is in (
      c.push_back_reserved.ensures.capacity ∙ c.loop-item.invariant.0,
      search rules,
      rw pushed (All-push (IsWholeFrame c.args.chunk) c.loop-item.spare.items c.in-Some-frame.frame c.loop-item.invariant.2 whole),
      takes_one c.args.chunk c.args.spare.now.items c.loop-item.spare.items c.push_back_reserved.new.self.items c.args.invalid.now c.loop-item.invalid c.loop-item.invalid c.args.items.now c.loop-item.items c.pop_front.new.self c.in-Some.item
          c.in-Some.ensures.some (pushed ∙ ap (λ (fs : List Frame). c.loop-item.spare.items ++ fs) (sym one))
          (sym (raised_none c.loop-item.invalid) ∙ ap (λ (fs : List Frame). raised c.loop-item.invalid (1 - length fs)) (sym one)) c.loop-item.invariant.3,
    )

pub loop-item-preserved : goal.loop-item-preserved
loop-item-preserved c =
    let none : whole_in c.args.chunk c.in-Some.item.frame ≡ [] = elim c.in_default.branch [
      | in_default-via-in-None-1 w ↦ search rules
      | in_default-via-in-Some-frame+else-bytes-chunk w ↦ ap (whole_in c.args.chunk) w.in-Some-frame.is ∙ whole_none c.args.chunk w.in-Some-frame.frame (search rules)
    ] in (
      c.loop-item.invariant.0,
      omega (arith, c.loop-item.invariant.1, ap (λ (is : List Item). length is) c.in-Some.ensures.some),
      c.loop-item.invariant.2,
      takes_one c.args.chunk c.args.spare.now.items c.loop-item.spare.items c.loop-item.spare.items c.args.invalid.now c.loop-item.invalid c.raise.new.counter c.args.items.now c.loop-item.items c.pop_front.new.self c.in-Some.item
          c.in-Some.ensures.some (sym (append-nil c.loop-item.spare.items) ∙ ap (λ (fs : List Frame). c.loop-item.spare.items ++ fs) (sym none))
          (c.raise.ensures ∙ ap (λ (fs : List Frame). raised c.loop-item.invalid (1 - length fs)) (sym none)) c.loop-item.invariant.3,
    )
