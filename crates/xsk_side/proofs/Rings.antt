-- The rings of a history: room and held entries are those that the producer's and the consumer's own calls leave, and all fits the size.
use Rattle.std.proofs.Common.{◌≡◌, ℕ, ◌+◌, ◌-◌, ◌≤◌, ◌⊎◌, Bool, true, false, cond, List, [], ◌∷◌, ◌++◌, length, drop, map, refl, sym, ap, ◌∙◌, subst, arith, length-append, length-drop, ⊎_elim, inl, inr}
use Rattle.std.proofs.lemmas.List.{map-append}
use Rattle.std.proofs.lemmas.Bool.{cases_Bool}
use Rattle.xsk_umem.specs.declared.batch.XdpDesc.{XdpDesc}
use Rattle.xsk_model.specs.declared.call.Ring.{Ring}
use Rattle.xsk_model.specs.declared.call.Ring.TheVariants.{Fill, Comp, Rx, Tx}
use Rattle.xsk_model.specs.Rings.{is_ring}
use Rattle.xsk_model.proofs.Places.{is_ring-self, is_ring-true}
use Rattle.xsk_side.specs.Setting.{Setting, size_of}
use Rattle.xsk_side.specs.Entries.{last, but_last}
use Rattle.xsk_side.specs.Object.{Entry, RingState, ring_of, ring_at, ring_after, producer, consumer, is_made, granted, Replies}
use Rattle.xsk_side.specs.Own.{Held, fresh, entry_of, touch, room_of, room_after, held_of, held_after}
use Rattle.xsk_side.specs.Legal.{IsLegal, HasRole, IsCounted}
use Rattle.xsk_side.specs.Possible.{IsHistory, own, is_party}
use Rattle.xsk_side.specs.declared.call.Party.{Party}
use Rattle.xsk_side.specs.declared.call.Party.TheVariants.{Program, Kernel}
use Rattle.xsk_side.specs.declared.call.Answer.TheVariants.{Granted, Full, Refused}
use Rattle.xsk_side.specs.declared.call.Call.{Call}
use Rattle.xsk_side.specs.declared.call.Call.TheVariants.{Reserve, Free, Submit, Peek, Release, Cancel}
use Rattle.xsk_side.proofs.Lists.{last-and_before, drop-map, but_last-map, length-front}

abbrev pub entry : Party → Call → Entry
entry who call = record { who = who; call = call }

-- ---- a call on the ring, and one on another

pub same_or : (r q : Ring) → (r ≡ q) ⊎ (is_ring r q ≡ false)
same_or r q = ⊎_elim (λ h. inl (is_ring-true r q h)) (λ h. inr h) (cases_Bool (is_ring r q))

pub ring_here : (past : List Entry) (who : Party) (call : Call)
    → ring_at (ring_of call) (entry who call ∷ past) ≡ ring_after (ring_at (ring_of call) past) call
ring_here past who call =
    ap (λ b. cond b (ring_after (ring_at (ring_of call) past) call) (ring_at (ring_of call) past)) (is_ring-self (ring_of call))

pub ring_else : (r : Ring) (past : List Entry) (who : Party) (call : Call) → is_ring r (ring_of call) ≡ false
    → ring_at r (entry who call ∷ past) ≡ ring_at r past
ring_else r past who call h = ap (λ b. cond b (ring_after (ring_at r past) call) (ring_at r past)) h

-- ---- held entries and room, by the ends' own calls

pub record IsRingSound (s : Setting) (h : List Entry) (r : Ring) : Type 0 where
  pub held : (ring_at r h).held ≡ map entry_of (held_of s r (own (consumer r) h))
  pub room : (ring_at r h).room ≡ room_of r (own (producer r) h)
  pub within : length (ring_at r h).out + length (ring_at r h).held + (ring_at r h).room ≤ size_of s r

entries-touch : (s : Setting) (es : List XdpDesc) (held : List Held) → map entry_of (map (touch s es) held) ≡ map entry_of held
entries-touch s es [] = refl
entries-touch s es (h ∷ held) = ap (λ hs. h.entry ∷ hs) (entries-touch s es held)

entries-fresh : (es : List XdpDesc) → map entry_of (map fresh es) ≡ es
entries-fresh [] = refl
entries-fresh (e ∷ es) = ap (λ xs. e ∷ xs) (entries-fresh es)

-- a call on another ring leaves the held entries, whoever made it
pub held-else : (s : Setting) (r : Ring) (held : List Held) (call : Call) → is_ring r (ring_of call) ≡ false
    → map entry_of (held_after s r held call) ≡ map entry_of held
held-else s r held (Reserve q n answer) h = refl
held-else s r held (Free q n places) h = refl
held-else s r held (Submit q es) h = entries-touch s es held
held-else s r held (Peek q n es) h = ap (λ b. map entry_of (cond b (held ++ map fresh es) held)) h
held-else s r held (Release q n) h = ap (λ b. map entry_of (cond b (drop n held) held)) h
held-else s r held (Cancel q n) h = ap (λ b. map entry_of (cond b (but_last n held) held)) h

pub either : {X : Type 0} (w : Bool) (x : X) → cond w x x ≡ x
either true x = refl
either false x = refl

pub both_true : {X : Type 0} (w b : Bool) (x y z : X) → w ≡ true → b ≡ true → cond w (cond b x y) z ≡ x
both_true w b x y z h k = ap (λ v. cond v (cond b x y) z) h ∙ ap (λ v. cond v x y) k

pub is_false : {X : Type 0} (w : Bool) (x y : X) → w ≡ false → cond w x y ≡ y
is_false w x y h = ap (λ v. cond v x y) h

pub party_is : (w who : Party) → who ≡ w → is_party w who ≡ true
party_is Program Program h = refl
party_is Program Kernel h = absurd (cc)
party_is Kernel Program h = absurd (cc)
party_is Kernel Kernel h = refl

held_either : (s : Setting) (es : List XdpDesc) (held : List Held) (w : Bool) → map entry_of held ≡ map entry_of (cond w (map (touch s es) held) held)
held_either s es held true = sym (entries-touch s es held)
held_either s es held false = refl

pub not_kernel : (who : Party) → who ≡ Program → is_party Kernel who ≡ false
not_kernel Program h = refl
not_kernel Kernel h = absurd (cc)

put_back_here : (s : Setting) (who : Party) (r : Ring) (n : ℕ) (ring : RingState) (held : List Held) → who ≡ Program → ring.held ≡ map entry_of held
    → is_made r ≡ false
    → but_last n ring.held ≡ map entry_of (cond (is_party Program who) (held_after s r held (Cancel r n)) held)
put_back_here s who r n ring held role is made =
    ap (but_last n) is
    ∙ but_last-map entry_of n held
    ∙ ap (map entry_of) (sym (both_true (is_party Program who) (is_ring r r) (but_last n held) held held (party_is Program who role) (is_ring-self r)))

-- of a call on the ring itself
held-here : (s : Setting) (who : Party) (call : Call) (ring : RingState) (held : List Held) → HasRole who call → ring.held ≡ map entry_of held
    → (ring_after ring call).held ≡ map entry_of (cond (is_party (consumer (ring_of call)) who) (held_after s (ring_of call) held call) held)
held-here s who (Reserve r n answer) ring held role is = is ∙ ap (map entry_of) (sym (either (is_party (consumer r) who) held))
held-here s who (Free r n places) ring held role is = is ∙ ap (map entry_of) (sym (either (is_party (consumer r) who) held))
held-here s who (Submit r es) ring held role is = is ∙ held_either s es held (is_party (consumer r) who)
held-here s who (Peek r n es) ring held role is =
    ap (λ hs. hs ++ es) is
    ∙ ap (λ xs. map entry_of held ++ xs) (sym (entries-fresh es))
    ∙ sym (map-append entry_of held (map fresh es))
    ∙ ap (map entry_of) (sym (both_true (is_party (consumer r) who) (is_ring r r) (held ++ map fresh es) held held (party_is (consumer r) who role) (is_ring-self r)))
held-here s who (Release r n) ring held role is =
    ap (drop n) is
    ∙ drop-map entry_of n held
    ∙ ap (map entry_of) (sym (both_true (is_party (consumer r) who) (is_ring r r) (drop n held) held held (party_is (consumer r) who role) (is_ring-self r)))
held-here s who (Cancel (Fill d) n) ring held role is = is ∙ ap (map entry_of) (sym (is_false (is_party Kernel who) (held_after s (Fill d) held (Cancel (Fill d) n)) held (not_kernel who role)))
held-here s who (Cancel (Comp d) n) ring held role is = put_back_here s who (Comp d) n ring held role is refl
held-here s who (Cancel (Rx k) n) ring held role is = put_back_here s who (Rx k) n ring held role is refl
held-here s who (Cancel (Tx k) n) ring held role is = is ∙ ap (map entry_of) (sym (is_false (is_party Kernel who) (held_after s (Tx k) held (Cancel (Tx k) n)) held (not_kernel who role)))

held-cond : (s : Setting) (r : Ring) (b : Bool) (call : Call) (mine : List Call)
    → held_of s r (cond b (call ∷ mine) mine) ≡ cond b (held_after s r (held_of s r mine) call) (held_of s r mine)
held-cond s r true call mine = refl
held-cond s r false call mine = refl

entries_either : (s : Setting) (r : Ring) (held : List Held) (call : Call) (w : Bool) → is_ring r (ring_of call) ≡ false
    → map entry_of (cond w (held_after s r held call) held) ≡ map entry_of held
entries_either s r held call true h = held-else s r held call h
entries_either s r held call false h = refl

pub held_step : (s : Setting) (past : List Entry) (who : Party) (call : Call) (r : Ring) → HasRole who call
    → (ring_at r past).held ≡ map entry_of (held_of s r (own (consumer r) past))
    → (ring_at r (entry who call ∷ past)).held ≡ map entry_of (held_of s r (own (consumer r) (entry who call ∷ past)))
held_step s past who call r role is = ⊎_elim
    (λ (e : r ≡ ring_of call). subst
    (λ q. (ring_at q past).held ≡ map entry_of (held_of s q (own (consumer q) past))
    → (ring_at q (entry who call ∷ past)).held ≡ map entry_of (held_of s q (own (consumer q) (entry who call ∷ past))))
    (sym e)
    (λ here. ap (λ (ring : RingState). ring.held) (ring_here past who call)
    ∙ held-here s who call (ring_at (ring_of call) past) (held_of s (ring_of call) (own (consumer (ring_of call)) past)) role here
    ∙ ap (map entry_of) (sym (held-cond s (ring_of call) (is_party (consumer (ring_of call)) who) call (own (consumer (ring_of call)) past))))
    is)
    (λ (e : is_ring r (ring_of call) ≡ false). ap (λ (ring : RingState). ring.held) (ring_else r past who call e)
    ∙ is
    ∙ sym (entries_either s r (held_of s r (own (consumer r) past)) call (is_party (consumer r) who) e)
    ∙ ap (map entry_of) (sym (held-cond s r (is_party (consumer r) who) call (own (consumer r) past))))
    (same_or r (ring_of call))

-- ---- room

room-cond : (r : Ring) (b : Bool) (call : Call) (mine : List Call)
    → room_of r (cond b (call ∷ mine) mine) ≡ cond b (cond (is_ring r (ring_of call)) (room_after (room_of r mine) call) (room_of r mine)) (room_of r mine)
room-cond r true call mine = refl
room-cond r false call mine = refl

room-else : (w b : Bool) (x y : ℕ) → b ≡ false → cond w (cond b x y) y ≡ y
room-else true b x y h = is_false b x y h
room-else false b x y h = refl

pub is_true : {X : Type 0} (w : Bool) (x y : X) → w ≡ true → cond w x y ≡ x
is_true w x y h = ap (λ v. cond v x y) h

-- whoever calls, the ring's room is that which its producer's own calls leave
room-here : (who : Party) (call : Call) (ring : RingState) (room : ℕ) → HasRole who call → ring.room ≡ room
    → (ring_after ring call).room ≡ cond (is_party (producer (ring_of call)) who) (room_after room call) room
room-here who (Reserve r n answer) ring room role is =
    ap (λ k. k + granted answer n) is ∙ sym (is_true (is_party (producer r) who) (room + granted answer n) room (party_is (producer r) who role))
room-here who (Free r n places) ring room role is = is ∙ sym (either (is_party (producer r) who) room)
room-here who (Submit r es) ring room role is =
    ap (λ k. k - length es) is ∙ sym (is_true (is_party (producer r) who) (room - length es) room (party_is (producer r) who role))
room-here who (Peek r n es) ring room role is = is ∙ sym (either (is_party (producer r) who) room)
room-here who (Release r n) ring room role is = is ∙ sym (either (is_party (producer r) who) room)
room-here who (Cancel (Fill d) n) ring room role is = ap (λ k. k - n) is ∙ sym (is_true (is_party Program who) (room - n) room (party_is Program who role))
room-here who (Cancel (Comp d) n) ring room role is = is ∙ sym (is_false (is_party Kernel who) (room - n) room (not_kernel who role))
room-here who (Cancel (Rx k) n) ring room role is = is ∙ sym (is_false (is_party Kernel who) (room - n) room (not_kernel who role))
room-here who (Cancel (Tx k) n) ring room role is = ap (λ k. k - n) is ∙ sym (is_true (is_party Program who) (room - n) room (party_is Program who role))

pub room_step : (past : List Entry) (who : Party) (call : Call) (r : Ring) → HasRole who call
    → (ring_at r past).room ≡ room_of r (own (producer r) past)
    → (ring_at r (entry who call ∷ past)).room ≡ room_of r (own (producer r) (entry who call ∷ past))
room_step past who call r role is = ⊎_elim
    (λ (e : r ≡ ring_of call). subst
    (λ q. (ring_at q past).room ≡ room_of q (own (producer q) past)
    → (ring_at q (entry who call ∷ past)).room ≡ room_of q (own (producer q) (entry who call ∷ past)))
    (sym e)
    (λ here. let q = ring_of call in let mine = own (producer q) past in
    ap (λ (ring : RingState). ring.room) (ring_here past who call)
    ∙ room-here who call (ring_at q past) (room_of q mine) role here
    ∙ ap (λ b. cond (is_party (producer q) who) (cond b (room_after (room_of q mine) call) (room_of q mine)) (room_of q mine)) (sym (is_ring-self q))
    ∙ sym (room-cond q (is_party (producer q) who) call mine))
    is)
    (λ (e : is_ring r (ring_of call) ≡ false). let mine = own (producer r) past in
    ap (λ (ring : RingState). ring.room) (ring_else r past who call e)
    ∙ is
    ∙ sym (room-else (is_party (producer r) who) (is_ring r (ring_of call)) (room_after (room_of r mine) call) (room_of r mine) e)
    ∙ sym (room-cond r (is_party (producer r) who) call mine))
    (same_or r (ring_of call))

-- ---- the size

abbrev pub filled : RingState → ℕ
filled ring = length ring.out + length ring.held + ring.room

-- what a call submits has room
abbrev pub HasRoom : RingState → Call → Type 0
HasRoom ring (Reserve r n answer) = Unit {0}
HasRoom ring (Free r n places) = Unit {0}
HasRoom ring (Submit r es) = length es ≤ ring.room
HasRoom ring (Peek r n es) = Unit {0}
HasRoom ring (Release r n) = Unit {0}
HasRoom ring (Cancel r n) = Unit {0}

back_fits : (ring : RingState) (n size : ℕ) → filled ring ≤ size
    → length (last n ring.held ++ ring.out) + length (but_last n ring.held) + ring.room ≤ size
back_fits ring n size within =
    omega (
      arith,
      within,
      length-append (last n ring.held) ring.out,
      length-append (but_last n ring.held) (last n ring.held),
      ap length (last-and_before n ring.held),
    )

fits_here : (ring : RingState) (size : ℕ) (call : Call) → filled ring ≤ size → Replies size ring call → HasRoom ring call → filled (ring_after ring call) ≤ size
fits_here ring size (Reserve r n Granted) within reply has = omega (arith, reply, within)
fits_here ring size (Reserve r n (Full told)) within reply has = omega (arith, within)
fits_here ring size (Reserve r n Refused) within reply has = omega (arith, within)
fits_here ring size (Free r n places) within reply has = within
fits_here ring size (Submit r es) within reply has = omega (arith, within, has, length-append ring.out es)
fits_here ring size (Peek r n es) within reply has =
    omega (arith, within, length-append ring.held es, length-drop (length es) ring.out, length-front es ring.out reply.1)
fits_here ring size (Release r n) within reply has = omega (arith, within, length-drop n ring.held)
fits_here ring size (Cancel (Fill d) n) within reply has = omega (arith, within)
fits_here ring size (Cancel (Comp d) n) within reply has = back_fits ring n size within
fits_here ring size (Cancel (Rx k) n) within reply has = back_fits ring n size within
fits_here ring size (Cancel (Tx k) n) within reply has = omega (arith, within)

pub has_room : (s : Setting) (past : List Entry) (who : Party) (call : Call) → HasRole who call → IsCounted s (own who past) call
    → (ring_at (ring_of call) past).room ≡ room_of (ring_of call) (own (producer (ring_of call)) past) → HasRoom (ring_at (ring_of call) past) call
has_room s past who (Reserve r n answer) role counted is = tt
has_room s past who (Free r n places) role counted is = tt
has_room s past who (Submit r es) role counted is = subst (λ k. length es ≤ k) (ap (λ w. room_of r (own w past)) role ∙ sym is) counted
has_room s past who (Peek r n es) role counted is = tt
has_room s past who (Release r n) role counted is = tt
has_room s past who (Cancel r n) role counted is = tt

within_step : (s : Setting) (past : List Entry) (who : Party) (call : Call) (r : Ring) → IsLegal s who (own who past) call
    → Replies (size_of s (ring_of call)) (ring_at (ring_of call) past) call → ((q : Ring) → IsRingSound s past q)
    → filled (ring_at r (entry who call ∷ past)) ≤ size_of s r
within_step s past who call r legal reply sound = ⊎_elim
    (λ (e : r ≡ ring_of call). let q = ring_of call in subst
    (λ x. filled (ring_at x (entry who call ∷ past)) ≤ size_of s x)
    (sym e)
    (subst (λ ring. filled ring ≤ size_of s q) (sym (ring_here past who call))
    (fits_here (ring_at q past) (size_of s q) call (sound q).within reply (has_room s past who call legal.role legal.counted (sound q).room))))
    (λ (e : is_ring r (ring_of call) ≡ false). subst (λ ring. filled ring ≤ size_of s r) (sym (ring_else r past who call e)) (sound r).within)
    (same_or r (ring_of call))

pub rings_sound : (s : Setting) (h : List Entry) → IsHistory s h → (r : Ring) → IsRingSound s h r
rings_sound s [] legal r = record { held = refl; room = refl; within = omega arith }
rings_sound s (e ∷ past) legal r =
    let sound = rings_sound s past legal.0 in
    record {
      held = held_step s past e.who e.call r legal.1.role (sound r).held;
      room = room_step past e.who e.call r legal.1.role (sound r).room;
      within = within_step s past e.who e.call r legal.1 legal.2 sound;
    }

-- what a Submit fills was reserved
pub submit_has_room : (s : Setting) (past : List Entry) (who : Party) (r : Ring) (es : List XdpDesc) → IsHistory s past
    → IsLegal s who (own who past) (Submit r es) → length es ≤ (ring_at r past).room
submit_has_room s past who r es legal now = has_room s past who (Submit r es) now.role now.counted (rings_sound s past legal r).room
