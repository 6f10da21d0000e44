-- FILL and TX: at least so many places are free as the program knows for certain.
use Rattle.std.proofs.Common.{◌≡◌, ℕ, ◌+◌, ◌-◌, ◌≤◌, true, false, List, [], ◌∷◌, length, refl, sym, ap, ◌∙◌, subst, arith, length-append, length-drop, ⊎_elim}
use Rattle.xsk_model.specs.declared.call.Ring.{Ring}
use Rattle.xsk_model.specs.declared.call.Ring.TheVariants.{Fill, Comp, Rx, Tx}
use Rattle.xsk_model.specs.Rings.{is_ring}
use Rattle.xsk_model.proofs.Places.{is_ring-self}
use Rattle.xsk_side.specs.Setting.{Setting, size_of}
use Rattle.xsk_side.specs.Object.{Entry, RingState, ring_of, ring_at, ring_after, producer, consumer, is_made, free, Replies}
use Rattle.xsk_side.specs.Own.{room_of}
use Rattle.xsk_side.specs.Legal.{HasRole, IsCounted}
use Rattle.xsk_side.specs.Possible.{IsHistory, own}
use Rattle.xsk_side.specs.Local.{sure_of, sure_after}
use Rattle.xsk_side.specs.declared.call.Party.{Party}
use Rattle.xsk_side.specs.declared.call.Party.TheVariants.{Program, Kernel}
use Rattle.xsk_side.specs.declared.call.Answer.TheVariants.{Granted, Full, Refused}
use Rattle.xsk_side.specs.declared.call.Call.{Call}
use Rattle.xsk_side.specs.declared.call.Call.TheVariants.{Reserve, Free, Submit, Peek, Release, Cancel}
use Rattle.xsk_side.proofs.Lists.{length-front}
use Rattle.xsk_side.proofs.Rings.{entry, same_or, ring_here, ring_else, is_true, is_false, filled, HasRoom, has_room, rings_sound}

-- whose call may take places of FILL and TX
pub made_producer : (r : Ring) → is_made r ≡ true → producer r ≡ Program
made_producer r h = is_true (is_made r) Program Kernel h

pub made_consumer : (r : Ring) → is_made r ≡ true → consumer r ≡ Kernel
made_consumer r h = is_true (is_made r) Kernel Program h

pub unmade_producer : (r : Ring) → is_made r ≡ false → producer r ≡ Kernel
unmade_producer r h = is_false (is_made r) Program Kernel h

pub unmade_consumer : (r : Ring) → is_made r ≡ false → consumer r ≡ Program
unmade_consumer r h = is_false (is_made r) Kernel Program h

pub two_parties : Kernel ≡ Program → ⊥
two_parties h = cc

-- a Cancel gives up no more than is reserved
abbrev MayCancel : RingState → Call → Type 0
MayCancel ring (Reserve r n answer) = Unit {0}
MayCancel ring (Free r n places) = Unit {0}
MayCancel ring (Submit r es) = Unit {0}
MayCancel ring (Peek r n es) = Unit {0}
MayCancel ring (Release r n) = Unit {0}
MayCancel ring (Cancel r n) = n ≤ ring.room

may_cancel : (s : Setting) (past : List Entry) (who : Party) (call : Call) → is_made (ring_of call) ≡ true → HasRole who call → IsCounted s (own who past) call
    → (ring_at (ring_of call) past).room ≡ room_of (ring_of call) (own (producer (ring_of call)) past) → MayCancel (ring_at (ring_of call) past) call
may_cancel s past who (Reserve r n answer) made role counted is = tt
may_cancel s past who (Free r n places) made role counted is = tt
may_cancel s past who (Submit r es) made role counted is = tt
may_cancel s past who (Peek r n es) made role counted is = tt
may_cancel s past who (Release r n) made role counted is = tt
may_cancel s past who (Cancel (Fill d) n) made role counted is = subst (λ k. n ≤ k) (ap (λ w. room_of (Fill d) (own w past)) role ∙ sym is) counted
may_cancel s past who (Cancel (Comp d) n) made role counted is = absurd (cc)
may_cancel s past who (Cancel (Rx k) n) made role counted is = absurd (cc)
may_cancel s past who (Cancel (Tx k) n) made role counted is = subst (λ x. n ≤ x) (ap (λ w. room_of (Tx k) (own w past)) role ∙ sym is) counted

-- what the call leaves of the certain places, by the program's call or the kernel's
abbrev sure_by : Party → ℕ → Call → ℕ
sure_by Program sure call = sure_after sure call
sure_by Kernel sure call = sure

pub made_out : (ring : RingState) (r : Ring) (n : ℕ) → is_made r ≡ true → ring_after ring (Cancel r n) ≡ record ring { room = ring.room - n }
made_out ring (Fill d) n h = refl
made_out ring (Comp d) n h = absurd (cc)
made_out ring (Rx k) n h = absurd (cc)
made_out ring (Tx k) n h = refl

sure_here : (who : Party) (call : Call) (ring : RingState) (size sure : ℕ) → is_made (ring_of call) ≡ true → HasRole who call → HasRoom ring call
    → MayCancel ring call → Replies size ring call → filled ring ≤ size → sure ≤ free size ring → sure_by who sure call ≤ free size (ring_after ring call)
sure_here Program (Reserve r n Granted) ring size sure made role has may reply within h = omega (arith, reply, h, within)
sure_here Program (Reserve r n (Full told)) ring size sure made role has may reply within h = omega (arith, reply.0)
sure_here Program (Reserve r n Refused) ring size sure made role has may reply within h = omega (arith, h)
sure_here Program (Free r n places) ring size sure made role has may reply within h = omega (arith, h, reply.0)
sure_here Program (Submit r es) ring size sure made role has may reply within h = omega (arith, h, has, length-append ring.out es)
sure_here Program (Peek r n es) ring size sure made role has may reply within h =
    omega (arith, h, length-append ring.held es, length-drop (length es) ring.out, length-front es ring.out reply.1)
sure_here Program (Release r n) ring size sure made role has may reply within h = omega (arith, h, length-drop n ring.held)
sure_here Program (Cancel r n) ring size sure made role has may reply within h =
    subst (λ x. sure + n ≤ free size x) (sym (made_out ring r n made)) (omega (arith, h, may, within))
sure_here Kernel (Reserve r n answer) ring size sure made role has may reply within h = absurd (two_parties (role ∙ made_producer r made))
sure_here Kernel (Free r n places) ring size sure made role has may reply within h = h
sure_here Kernel (Submit r es) ring size sure made role has may reply within h = omega (arith, h, has, length-append ring.out es)
sure_here Kernel (Peek r n es) ring size sure made role has may reply within h =
    omega (arith, h, length-append ring.held es, length-drop (length es) ring.out, length-front es ring.out reply.1)
sure_here Kernel (Release r n) ring size sure made role has may reply within h = omega (arith, h, length-drop n ring.held)
sure_here Kernel (Cancel r n) ring size sure made role has may reply within h = absurd (two_parties role)

sure_own_here : (s : Setting) (past : List Entry) (who : Party) (call : Call)
    → sure_of s (ring_of call) (own Program (entry who call ∷ past)) ≡ sure_by who (sure_of s (ring_of call) (own Program past)) call
sure_own_here s past Program call =
    let sure = sure_of s (ring_of call) (own Program past) in is_true (is_ring (ring_of call) (ring_of call)) (sure_after sure call) sure (is_ring-self (ring_of call))
sure_own_here s past Kernel call = refl

sure_own_else : (s : Setting) (past : List Entry) (who : Party) (call : Call) (r : Ring) → is_ring r (ring_of call) ≡ false
    → sure_of s r (own Program (entry who call ∷ past)) ≡ sure_of s r (own Program past)
sure_own_else s past Program call r off =
    let sure = sure_of s r (own Program past) in is_false (is_ring r (ring_of call)) (sure_after sure call) sure off
sure_own_else s past Kernel call r off = refl

pub sure_sound : (s : Setting) (h : List Entry) (r : Ring) → IsHistory s h → is_made r ≡ true → sure_of s r (own Program h) ≤ free (size_of s r) (ring_at r h)
sure_sound s [] r legal made = omega arith
sure_sound s (e ∷ past) r legal made =
    let q = ring_of e.call in
    ⊎_elim
    (λ (is : r ≡ q).
    let sound = rings_sound s past legal.0 q in
    let q_made : is_made q ≡ true = subst (λ x. is_made x ≡ true) is made in
    subst (λ x. sure_of s x (own Program (e ∷ past)) ≤ free (size_of s x) (ring_at x (e ∷ past))) (sym is)
    (subst (λ ring. sure_of s q (own Program (e ∷ past)) ≤ free (size_of s q) ring) (sym (ring_here past e.who e.call))
    (subst (λ k. k ≤ free (size_of s q) (ring_after (ring_at q past) e.call)) (sym (sure_own_here s past e.who e.call))
    (sure_here e.who e.call (ring_at q past) (size_of s q) (sure_of s q (own Program past)) q_made legal.1.role
    (has_room s past e.who e.call legal.1.role legal.1.counted sound.room)
    (may_cancel s past e.who e.call q_made legal.1.role legal.1.counted sound.room)
    legal.2 sound.within (sure_sound s past q legal.0 q_made)))))
    (λ (off : is_ring r q ≡ false).
    subst (λ ring. sure_of s r (own Program (e ∷ past)) ≤ free (size_of s r) ring) (sym (ring_else r past e.who e.call off))
    (subst (λ k. k ≤ free (size_of s r) (ring_at r past)) (sym (sure_own_else s past e.who e.call r off)) (sure_sound s past r legal.0 made)))
    (same_or r q)
