-- What holds after each entry of a history, and that one more legal entry keeps it.
use Rattle.std.proofs.Common.{◌≡◌, ◌≢◌, ℕ, ◌+◌, ◌-◌, ◌<◌, ◌≤◌, true, false, cond, List, [], ◌∷◌, ◌++◌, length, get_or, set, All, flat_map, sym, ap, subst, ◌∙◌, ⊎_elim, arith, append_assoc, append-nil, get_or-set_same, get_or-set_other}
use Rattle.std.proofs.lemmas.Bool.{cases_Bool, cases_eq}
use Rattle.xsk_umem.specs.declared.batch.Item.{Item}
use Rattle.xsk_model.specs.Config.{Config, HasRing, size_of, callers_of}
use Rattle.xsk_model.specs.Numbers.{times, numbers, without}
use Rattle.xsk_model.specs.Rings.{place, places_of, producer, consumer}
use Rattle.xsk_model.specs.Object.{RingState, State, ring_at, had_by, had_after, reply_at, call_ring, ring_after, rings_after, submitted, taken, after}
use Rattle.xsk_model.specs.Entry.{Told, Entry, told, own, all_told}
use Rattle.xsk_model.specs.Own.{had_of, is_on, granted, released, room_step, held_step, submitted_step, peeked_step, room_of, held_of, submitted_of, peeked_of}
use Rattle.xsk_model.specs.Legal.{IsLegal, IsItemOn}
use Rattle.xsk_model.specs.Holders.{holders, out_numbers}
use Rattle.xsk_model.specs.declared.call.Ring.{Ring}
use Rattle.xsk_model.specs.declared.call.Call.{Call}
use Rattle.xsk_model.specs.declared.call.Call.TheVariants.{Reserve, Submit, Peek, Release, Swap, Look}
use Rattle.xsk_model.proofs.Counting.{times-append, times-without, times-flat_map-set}
use Rattle.xsk_model.proofs.Places.{is_ring-true, place_below}
use Rattle.xsk_model.proofs.Folds.{own-push_same, own-push_other, had_of-push, part_of_own-push, part_of_own-push_other, part_of_all-push}
use Rattle.xsk_model.proofs.Moves.{ring_reply, reply_at-on, ring_after-room, ring_after-held, ring_after-out, ring_after-within, ring_after-all, ring_at-after_same, ring_at-after_other, rings_count, not_producer, not_consumer}

-- a ring after past entries, where `first` is what was out at the opening
pub record IsRingSound (c : Config) (first : List Item) (r : Ring) (ring : RingState) (past : List Entry) : Type 0 where
  pub room : ring.room ≡ room_of r (own (producer c r) past)
  pub held : length ring.held ≡ held_of r (own (consumer c r) past)
  pub within : length ring.out + length ring.held + ring.room ≤ size_of c r
  pub order : peeked_of r (all_told past) ++ ring.out ≡ first ++ submitted_of r (all_told past)
  pub items : All (IsItemOn c.geometry r) ring.out
  pub peeked : peeked_of r (all_told past) ≡ peeked_of r (own (consumer c r) past)
  pub given : submitted_of r (all_told past) ≡ submitted_of r (own (producer c r) past)

-- ---- one ring, one entry

pub order_moves : (p o q t u o' first : List Item) → p ++ o ≡ first ++ q → t ++ o' ≡ o ++ u → (p ++ t) ++ o' ≡ first ++ (q ++ u)
order_moves p o q t u o' first h k =
    append_assoc p t o' ∙ ap (λ x. p ++ x) k ∙ sym (append_assoc p o u) ∙ ap (λ x. x ++ u) h ∙ append_assoc first q u

module _ (c : Config) (s : State) (past : List Entry) (e : Entry) (r : Ring) (legal : IsLegal c (own e.who past) e.who e.call)
    (reply : e.reply ≡ reply_at c s e.call) (on : is_on r e.call ≡ true) where
  replies : e.reply ≡ ring_reply (size_of c r) (ring_at c s r) e.call
  replies = reply ∙ reply_at-on c s e.call r on

  room_pushed : room_of r (own (producer c r) (past ++ e ∷ [])) ≡ room_of r (own (producer c r) past) + granted e.call e.reply - length (submitted e.call)
  room_pushed = part_of_own-push room_step r 0 (producer c r) past e on
      (λ other.
      let idle = not_producer c (own e.who past) e.who e.call r legal.role on other in
      omega (arith, ap length idle.0, idle.1 e.reply))

  held_pushed : held_of r (own (consumer c r) (past ++ e ∷ [])) ≡ held_of r (own (consumer c r) past) + length (taken e.reply) - released e.call
  held_pushed = part_of_own-push held_step r 0 (consumer c r) past e on
      (λ other.
      let idle = not_consumer c s (own e.who past) e.who e.call r legal.role on other in
      omega (arith, ap length idle.0, ap (λ x. length (taken x)) reply, idle.1))

  peeked_pushed : peeked_of r (own (consumer c r) (past ++ e ∷ [])) ≡ peeked_of r (own (consumer c r) past) ++ taken e.reply
  peeked_pushed = part_of_own-push peeked_step r [] (consumer c r) past e on
      (λ other.
      let idle = not_consumer c s (own e.who past) e.who e.call r legal.role on other in
      ap (λ x. peeked_of r (own (consumer c r) past) ++ x) (ap taken reply ∙ idle.0) ∙ append-nil (peeked_of r (own (consumer c r) past)))

  given_pushed : submitted_of r (own (producer c r) (past ++ e ∷ [])) ≡ submitted_of r (own (producer c r) past) ++ submitted e.call
  given_pushed = part_of_own-push submitted_step r [] (producer c r) past e on
      (λ other.
      let idle = not_producer c (own e.who past) e.who e.call r legal.role on other in
      ap (λ x. submitted_of r (own (producer c r) past) ++ x) idle.0 ∙ append-nil (submitted_of r (own (producer c r) past)))

  all_peeked : peeked_of r (all_told (past ++ e ∷ [])) ≡ peeked_of r (all_told past) ++ taken e.reply
  all_peeked = part_of_all-push peeked_step r [] past e ∙ ap (λ b. cond b (peeked_of r (all_told past) ++ taken e.reply) (peeked_of r (all_told past))) on

  all_given : submitted_of r (all_told (past ++ e ∷ [])) ≡ submitted_of r (all_told past) ++ submitted e.call
  all_given = part_of_all-push submitted_step r [] past e ∙ ap (λ b. cond b (submitted_of r (all_told past) ++ submitted e.call) (submitted_of r (all_told past))) on

-- a Submit has no more items than the room of its ring, and they are items of this ring
pub few_items : (c : Config) (past : List Entry) (who : ℕ) (call : Call) (r : Ring) (room : ℕ) → IsLegal c (own who past) who call → is_on r call ≡ true
    → room ≡ room_of r (own (producer c r) past) → length (submitted call) ≤ room
few_items c past who (Reserve q n) r room legal on h = omega arith
few_items c past who (Submit q items) r room legal on h =
    let one : r ≡ q = is_ring-true r q on in
    let mine : room_of r (own (producer c r) past) ≡ room_of q (own who past) =
    ap (λ p. room_of p (own (producer c p) past)) one ∙ ap (λ w. room_of q (own w past)) (sym legal.role) in
    omega (arith, legal.counted.2, h, mine)
few_items c past who (Peek q n) r room legal on h = omega arith
few_items c past who (Release q n) r room legal on h = omega arith
few_items c past who (Swap m value) r room legal on h = omega arith
few_items c past who (Look m) r room legal on h = omega arith

lawful_items : (c : Config) (mine : List Told) (who : ℕ) (call : Call) (r : Ring) → IsLegal c mine who call → is_on r call ≡ true
    → All (IsItemOn c.geometry r) (submitted call)
lawful_items c mine who (Reserve q n) r legal on = λ k d h. absurd (omega arith)
lawful_items c mine who (Submit q items) r legal on =
    subst (λ p. All (IsItemOn c.geometry p) items) (sym (is_ring-true r q on)) legal.items
lawful_items c mine who (Peek q n) r legal on = λ k d h. absurd (omega arith)
lawful_items c mine who (Release q n) r legal on = λ k d h. absurd (omega arith)
lawful_items c mine who (Swap m value) r legal on = λ k d h. absurd (omega arith)
lawful_items c mine who (Look m) r legal on = λ k d h. absurd (omega arith)

-- the call is on the ring
ring_on : (c : Config) (s : State) (first : List Item) (past : List Entry) (e : Entry) (r : Ring) → IsLegal c (own e.who past) e.who e.call
    → e.reply ≡ reply_at c s e.call → is_on r e.call ≡ true → IsRingSound c first r (ring_at c s r) past
    → IsRingSound c first r (ring_after (size_of c r) (ring_at c s r) e.call) (past ++ e ∷ [])
ring_on c s first past e r legal reply on h =
    let same = replies c s past e r legal reply on in
    record {
      room =
          let moved = ring_after-room (size_of c r) (ring_at c s r) e.call in
          omega (arith, moved, h.room, room_pushed c s past e r legal reply on, ap (granted e.call) same);
      held =
          let moved = ring_after-held (size_of c r) (ring_at c s r) e.call in
          omega (arith, moved, h.held, held_pushed c s past e r legal reply on, ap (λ x. length (taken x)) same);
      within = ring_after-within (size_of c r) (ring_at c s r) e.call (few_items c past e.who e.call r (ring_at c s r).room legal on h.room) h.within;
      order =
          let moved = ring_after-out (size_of c r) (ring_at c s r) e.call in
          let kept = order_moves (peeked_of r (all_told past)) (ring_at c s r).out (submitted_of r (all_told past)) (taken e.reply) (submitted e.call)
          (ring_after (size_of c r) (ring_at c s r) e.call).out first h.order (ap (λ x. taken x ++ (ring_after (size_of c r) (ring_at c s r) e.call).out) same ∙ moved) in
          ap (λ x. x ++ (ring_after (size_of c r) (ring_at c s r) e.call).out) (all_peeked c s past e r legal reply on)
          ∙ kept ∙ ap (λ x. first ++ x) (sym (all_given c s past e r legal reply on));
      items = ring_after-all (IsItemOn c.geometry r) (size_of c r) (ring_at c s r) e.call (lawful_items c (own e.who past) e.who e.call r legal on) h.items;
      peeked = all_peeked c s past e r legal reply on ∙ ap (λ x. x ++ taken e.reply) h.peeked ∙ sym (peeked_pushed c s past e r legal reply on);
      given = all_given c s past e r legal reply on ∙ ap (λ x. x ++ submitted e.call) h.given ∙ sym (given_pushed c s past e r legal reply on);
    }

-- the call is not on the ring
ring_off : (c : Config) (first : List Item) (past : List Entry) (e : Entry) (r : Ring) (ring : RingState) → is_on r e.call ≡ false
    → IsRingSound c first r ring past → IsRingSound c first r ring (past ++ e ∷ [])
ring_off c first past e r ring off h =
    let all_peeked : peeked_of r (all_told (past ++ e ∷ [])) ≡ peeked_of r (all_told past) =
    part_of_all-push peeked_step r [] past e ∙ ap (λ b. cond b (peeked_of r (all_told past) ++ taken e.reply) (peeked_of r (all_told past))) off in
    let all_given : submitted_of r (all_told (past ++ e ∷ [])) ≡ submitted_of r (all_told past) =
    part_of_all-push submitted_step r [] past e ∙ ap (λ b. cond b (submitted_of r (all_told past) ++ submitted e.call) (submitted_of r (all_told past))) off in
    record {
      room = h.room ∙ sym (part_of_own-push_other room_step r 0 (producer c r) past e off);
      held = h.held ∙ sym (part_of_own-push_other held_step r 0 (consumer c r) past e off);
      within = h.within;
      order = ap (λ x. x ++ ring.out) all_peeked ∙ h.order ∙ ap (λ x. first ++ x) (sym all_given);
      items = h.items;
      peeked = all_peeked ∙ h.peeked ∙ sym (part_of_own-push_other peeked_step r [] (consumer c r) past e off);
      given = all_given ∙ h.given ∙ sym (part_of_own-push_other submitted_step r [] (producer c r) past e off);
    }

pub ring_sound : (c : Config) (s : State) (first : List Item) (past : List Entry) (e : Entry) (r : Ring) → HasRing c r → length s.rings ≡ places_of c
    → IsLegal c (own e.who past) e.who e.call → e.reply ≡ reply_at c s e.call → IsRingSound c first r (ring_at c s r) past
    → IsRingSound c first r (ring_at c (after c s e.who e.call) r) (past ++ e ∷ [])
ring_sound c s first past e r has len legal reply h =
    let within : place c r < length s.rings = omega (arith, place_below c r has) in
    ⊎_elim
    (λ (on : is_on r e.call ≡ true).
    subst (λ ring. IsRingSound c first r ring (past ++ e ∷ [])) (sym (ring_at-after_same c s e.who e.call r has legal.known within on))
    (ring_on c s first past e r legal reply on h))
    (λ (off : is_on r e.call ≡ false).
    subst (λ ring. IsRingSound c first r ring (past ++ e ∷ [])) (sym (ring_at-after_other c s e.who e.call r has legal.known off))
    (ring_off c first past e r (ring_at c s r) off h))
    (cases_Bool (is_on r e.call))

-- ---- frames

pub had_sound : (c : Config) (s : State) (past : List Entry) (e : Entry) (w : ℕ) → length s.had ≡ callers_of c → e.who < callers_of c
    → e.reply ≡ reply_at c s e.call → ((k : ℕ) → had_by s k ≡ had_of (own k past))
    → had_by (after c s e.who e.call) w ≡ had_of (own w (past ++ e ∷ []))
had_sound c s past e w len below reply h =
    let within : e.who < length s.had = omega arith in
    let now : List ℕ = had_after (had_by s e.who) e.call (reply_at c s e.call) in
    ⊎_elim
    (λ (one : e.who ≡ w).
    ap (λ k. get_or (set s.had e.who now) k []) (sym one) ∙ get_or-set_same s.had e.who now [] within
    ∙ ap (λ had. had_after had e.call (reply_at c s e.call)) (h e.who ∙ ap (λ k. had_of (own k past)) one)
    ∙ ap (had_after (had_of (own w past)) e.call) (sym reply)
    ∙ sym (had_of-push (own w past) (told e)) ∙ ap had_of (sym (own-push_same w past e one)))
    (λ (other : e.who ≡ w → ⊥).
    let apart : w ≢ e.who = λ p. other (sym p) in
    get_or-set_other s.had e.who w now [] apart ∙ h w ∙ ap had_of (sym (own-push_other w past e other)))
    (cases_eq e.who w)

pub holders_sound : (n : ℕ) (c : Config) (s : State) (past : List Entry) (who : ℕ) (call : Call) → length s.rings ≡ places_of c → length s.had ≡ callers_of c
    → IsLegal c (own who past) who call → had_by s who ≡ had_of (own who past)
    → times n (holders (after c s who call)) ≡ times n (holders s)
holders_sound n c s past who call rings len legal h =
    let within : who < length s.had = omega (arith, legal.caller) in
    let now : List ℕ = had_after (had_by s who) call (reply_at c s call) in
    let callers = times-flat_map-set n (λ (had : List ℕ). had) s.had who now [] within in
    let ring = rings_count n c s call legal.known rings in
    let mine = times-append n (without (numbers (submitted call)) (had_by s who)) (numbers (taken (reply_at c s call))) in
    let less = times-without n (numbers (submitted call)) (had_by s who) in
    let has = legal.frames n in
    let link = ap (times n) h in
    let before = times-append n (flat_map (λ (had : List ℕ). had) s.had) (flat_map out_numbers s.rings) in
    let later = times-append n (flat_map (λ (had : List ℕ). had) (set s.had who now)) (flat_map out_numbers (rings_after c s.rings (call_ring call) call)) in
    omega (arith, callers, ring, mine, less, has, link, before, later)
