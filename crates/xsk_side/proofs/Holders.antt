-- After each history each frame has one holder.
use Rattle.std.proofs.Common.{◌≡◌, ℕ, ◌+◌, ◌≤◌, false, List, refl, ap, arith, ⊎_elim}
use Rattle.std.specs.Prelude.{is_some}
use Rattle.xsk_model.specs.declared.call.Ring.{Ring}
use Rattle.xsk_model.specs.declared.call.Ring.TheVariants.{Fill}
use Rattle.xsk_model.specs.Rings.{is_ring}
use Rattle.xsk_side.specs.Setting.{Setting}
use Rattle.xsk_side.specs.Entries.{times}
use Rattle.xsk_side.specs.Object.{Entry, ring_at}
use Rattle.xsk_side.specs.Own.{has_frame, source_of}
use Rattle.xsk_side.specs.Possible.{own}
use Rattle.xsk_side.specs.Laws.{Holder, By, In, held_by, HasOneHolder, OneHolder}
use Rattle.xsk_side.specs.declared.call.Party.TheVariants.{Program, Kernel}
use Rattle.xsk_side.proofs.Lists.{number}
use Rattle.xsk_side.proofs.Rings.{same_or}
use Rattle.xsk_side.proofs.Frames.{IsFrameSound, frames_sound, positive}

few : (s : Setting) (h : List Entry) (f : ℕ) → IsFrameSound s h f → (x : Holder) → held_by s h f x ≤ 1
few s h f sound (By Program) = omega (arith, sound.place.alone (Fill 0))
few s h f sound (By Kernel) = omega (arith, sound.place.alone (Fill 0))
few s h f sound (In r) = omega (arith, sound.place.alone r)

only : (s : Setting) (h : List Entry) (f : ℕ) → IsFrameSound s h f → (x y : Holder) → 1 ≤ held_by s h f x → 1 ≤ held_by s h f y → y ≡ x
only s h f sound (By Program) (By Program) a b = refl
only s h f sound (By Program) (By Kernel) a b = absurd (omega (arith, a, b, sound.place.alone (Fill 0)))
only s h f sound (By Program) (In r) a b = absurd (omega (arith, a, b, sound.place.alone r))
only s h f sound (By Kernel) (By Program) a b = absurd (omega (arith, a, b, sound.place.alone (Fill 0)))
only s h f sound (By Kernel) (By Kernel) a b = refl
only s h f sound (By Kernel) (In r) a b = absurd (omega (arith, a, b, sound.place.alone r))
only s h f sound (In r) (By Program) a b = absurd (omega (arith, a, b, sound.place.alone r))
only s h f sound (In r) (By Kernel) a b = absurd (omega (arith, a, b, sound.place.alone r))
only s h f sound (In r) (In q) a b = ⊎_elim
    (λ (e : q ≡ r). ap In e)
    (λ (e : is_ring q r ≡ false). absurd (omega (arith, a, b, sound.place.apart q r e)))
    (same_or q r)

held_once : (s : Setting) (h : List Entry) (f : ℕ) → IsFrameSound s h f → (x : Holder) → 1 ≤ held_by s h f x → HasOneHolder s h f
held_once s h f sound x some = record {
  holder = x;
  once = omega (arith, some, few s h f sound x);
  no_other = λ y one. only s h f sound x y some (omega (arith, one));
  few = few s h f sound;
}

pub one_holder : OneHolder
one_holder s h f legal =
    let sound = frames_sound s h f legal in
    ⊎_elim
    (λ (a : 1 ≤ number (has_frame s f (own Program h)) + number (is_some (source_of s (own Kernel h) f))). ⊎_elim
    (λ (p : 1 ≤ number (has_frame s f (own Program h))). held_once s h f sound (By Program) p)
    (λ (k : 1 ≤ number (is_some (source_of s (own Kernel h) f))). held_once s h f sound (By Kernel) k)
    (positive (number (has_frame s f (own Program h))) (number (is_some (source_of s (own Kernel h) f))) a))
    (λ (b : (r : Ring) × (1 ≤ times s f (ring_at r h).out)). held_once s h f sound (In b.0) b.1)
    sound.place.somewhere
