-- The laws of the object on one thread.
use Rattle.std.proofs.Common.{◌≡◌, ◌≤◌, Option, Some, None, List, [], ◌∷◌, length, map, flat_map, refl, sym, ap, subst, arith, length-append}
use Rattle.xsk_umem.specs.Frame.{Frame}
use Rattle.xsk_umem.specs.declared.batch.Item.{Item}
use Rattle.xsk_model.specs.Numbers.{number_of, numbers}
use Rattle.xsk_model.specs.Holders.{out_numbers}
use Rattle.xsk_model.specs.Object.{RingState}
use Rattle.xsk_model.specs.History.{state_after}
use Rattle.xsk_model.specs.declared.call.Call.TheVariants.{Reserve, Submit, Peek, Release, Swap, Look}
use Rattle.xsk_model.proofs.Opened.{fresh-frames}
use Rattle.xsk_model.proofs.Places.{is_ring-self}
use Rattle.xsk_model.proofs.Theorems.{legal_within_ring, few_in_rings}
use Rattle.xsk_plain.specs.Engine.{Part, seen, frames_of, frames_in, frames_out}
use Rattle.xsk_plain.specs.Laws.{LegalCanPerform, FewFramesOut, FreshAreFrames}
use Rattle.xsk_plain.proofs.Follows.{part_shown}

pub legal_can_perform : LegalCanPerform
legal_can_perform frames h engine who (Reserve r n) history shows legal = legal.known
legal_can_perform frames h engine who (Submit r items) history shows legal = (
  legal.known,
  subst (λ (p : Part). length items ≤ p.room) (sym (part_shown engine.config (state_after engine.config frames h) engine.rings r shows.rings))
      (legal_within_ring engine.config frames h who (Submit r items) r history legal (is_ring-self r)),
)
legal_can_perform frames h engine who (Peek r n) history shows legal = (legal.known, legal.counted.0, legal.counted.1)
legal_can_perform frames h engine who (Release r n) history shows legal = (
  legal.known,
  subst (λ (p : Part). n ≤ p.held) (sym (part_shown engine.config (state_after engine.config frames h) engine.rings r shows.rings))
      (legal_within_ring engine.config frames h who (Release r n) r history legal (is_ring-self r)),
)
legal_can_perform frames h engine who (Swap m value) history shows legal = legal.known
legal_can_perform frames h engine who (Look m) history shows legal = legal.known

-- ---- frames

count_frame : (frame : Option Frame) → length (frames_of frame) ≡ length (number_of frame)
count_frame None = refl
count_frame (Some frame) = refl

count_items : (items : List Item) → length (frames_in items) ≡ length (numbers items)
count_items [] = refl
count_items (item ∷ items) =
    omega (arith, length-append (frames_of item.frame) (frames_in items), length-append (number_of item.frame) (numbers items), count_frame item.frame, count_items items)

count_rings : (rings : List RingState) → length (frames_out (map seen rings)) ≡ length (flat_map out_numbers rings)
count_rings [] = refl
count_rings (ring ∷ rings) =
    omega (arith, length-append (frames_in ring.out) (frames_out (map seen rings)), length-append (numbers ring.out) (flat_map out_numbers rings), count_items ring.out, count_rings rings)

pub few_frames_out : FewFramesOut
few_frames_out frames h engine history shows =
    let few = few_in_rings engine.config frames h history in
    let same : length (frames_out (map seen (state_after engine.config frames h).rings)) ≡ length (frames_out engine.rings) = ap (λ (ps : List Part). length (frames_out ps)) shows.rings in
    omega (arith, few, same, count_rings (state_after engine.config frames h).rings)

pub fresh_are_frames : FreshAreFrames
fresh_are_frames = fresh-frames
