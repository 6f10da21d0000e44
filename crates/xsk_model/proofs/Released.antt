-- What a ring holds and what is out in it are all its items without those that were released.
use Rattle.std.proofs.Common.{◌≡◌, ℕ, ◌+◌, ◌<◌, ◌≤◌, Bool, true, false, cond, nat_le, List, [], ◌∷◌, ◌++◌, length, take, drop, refl, sym, ap, subst, ◌∙◌, ⊎_elim, arith, append_assoc, append-nil, length-append, length-take, length-drop, take-append-drop}
use Rattle.std.proofs.lemmas.Bool.{cases_Bool, le-leb}
use Rattle.xsk_umem.specs.Frame.{Frame}
use Rattle.xsk_umem.specs.declared.batch.Item.{Item}
use Rattle.xsk_model.specs.Config.{Config, HasRing, size_of}
use Rattle.xsk_model.specs.Rings.{place, producer, consumer}
use Rattle.xsk_model.specs.Object.{RingState, State, ring_at, free, peek_reply, reply_at, ring_after, submitted, taken, IsWithinRing}
use Rattle.xsk_model.specs.Entry.{Told, Entry, own, all_told}
use Rattle.xsk_model.specs.Own.{is_on, part_of, released, released_step, submitted_step, given_step, peeked_step, released_of, submitted_of, given_of, peeked_of, room_of}
use Rattle.xsk_model.specs.Legal.{IsLegal}
use Rattle.xsk_model.specs.Opening.{IsOpened, opening}
use Rattle.xsk_model.specs.History.{IsHistory, state_after}
use Rattle.xsk_model.specs.declared.call.Ring.{Ring}
use Rattle.xsk_model.specs.declared.call.Call.{Call}
use Rattle.xsk_model.specs.declared.call.Call.TheVariants.{Reserve, Submit, Peek, Release, Swap, Look}
use Rattle.xsk_model.specs.declared.call.Reply.TheVariants.{Granted, Full, Items}
use Rattle.xsk_model.proofs.Places.{place_below}
use Rattle.xsk_model.proofs.Folds.{own-append, part_of-append, part_of_own-push, part_of_own-push_other, part_of_all-push}
use Rattle.xsk_model.proofs.Moves.{cond-held, cond-out, ring_at-after_same, ring_at-after_other, not_consumer}
use Rattle.xsk_model.proofs.Sound.{IsRingSound, order_moves}
use Rattle.xsk_model.proofs.Opened.{opening-ring}
use Rattle.xsk_model.proofs.Histories.{history_sound}
use Rattle.xsk_model.proofs.Counts.{given-submitted, within_ring}
use Rattle.xsk_model.proofs.Along.{Keeps, along}
use Rattle.xsk_model.proofs.Theorems.{counts_agree, left_over}

-- ---- one call

-- what a call lets go of a ring: as many items as it releases, from the front of what is held
pub record LetsGo (ring now : RingState) (call : Call) : Type 0 where
  pub items : List Item
  pub count : length items ≡ released call
  pub rest : items ++ (now.held ++ now.out) ≡ (ring.held ++ ring.out) ++ submitted call

lets_nothing : (ring now : RingState) (call : Call) → now.held ≡ ring.held → now.out ≡ ring.out → submitted call ≡ [] → released call ≡ 0 → LetsGo ring now call
lets_nothing ring now call held out none zero =
    record {
      items = [];
      count = sym zero;
      rest =
          ap (λ x. x ++ now.out) held ∙ ap (λ x. ring.held ++ x) out ∙ sym (append-nil (ring.held ++ ring.out))
          ∙ ap (λ x. (ring.held ++ ring.out) ++ x) (sym none);
    }

lets_go : (size : ℕ) (ring : RingState) (call : Call) → IsWithinRing ring call → LetsGo ring (ring_after size ring call) call
lets_go size ring (Reserve r n) within =
    lets_nothing ring (ring_after size ring (Reserve r n)) (Reserve r n)
    (cond-held (nat_le n (free size ring)) ring n) (cond-out (nat_le n (free size ring)) ring n) refl refl
lets_go size ring (Submit r items) within = record { items = []; count = refl; rest = sym (append_assoc ring.held ring.out items) }
lets_go size ring (Peek r n) within =
    record {
      items = [];
      count = refl;
      rest =
          append_assoc ring.held (take n ring.out) (drop n ring.out) ∙ ap (λ x. ring.held ++ x) (take-append-drop n ring.out)
          ∙ sym (append-nil (ring.held ++ ring.out));
    }
lets_go size ring (Release r n) within =
    record {
      items = take n ring.held;
      count = omega (arith, length-take n ring.held, within);
      rest =
          sym (append_assoc (take n ring.held) (drop n ring.held) ring.out) ∙ ap (λ x. x ++ ring.out) (take-append-drop n ring.held)
          ∙ sym (append-nil (ring.held ++ ring.out));
    }
lets_go size ring (Swap m value) within = lets_nothing ring ring (Swap m value) refl refl refl refl
lets_go size ring (Look m) within = lets_nothing ring ring (Look m) refl refl refl refl

-- ---- one entry

-- a ring's items that are gone, where `first` is what was out at the opening
pub record IsDrained (c : Config) (first : List Item) (r : Ring) (ring : RingState) (past : List Entry) : Type 0 where
  pub gone : List Item
  pub count : length gone ≡ released_of r (own (consumer c r) past)
  pub rest : gone ++ (ring.held ++ ring.out) ≡ first ++ submitted_of r (all_told past)

drained_on : (c : Config) (s : State) (first : List Item) (past : List Entry) (e : Entry) (r : Ring) → IsLegal c (own e.who past) e.who e.call
    → is_on r e.call ≡ true → IsRingSound c first r (ring_at c s r) past → IsDrained c first r (ring_at c s r) past
    → IsDrained c first r (ring_after (size_of c r) (ring_at c s r) e.call) (past ++ e ∷ [])
drained_on c s first past e r legal on sound h =
    let now : RingState = ring_after (size_of c r) (ring_at c s r) e.call in
    let goes : LetsGo (ring_at c s r) now e.call =
    lets_go (size_of c r) (ring_at c s r) e.call (within_ring c first past e.who e.call r (ring_at c s r) legal on sound) in
    let more : released_of r (own (consumer c r) (past ++ e ∷ [])) ≡ released_of r (own (consumer c r) past) + released e.call =
    part_of_own-push released_step r 0 (consumer c r) past e on
    (λ other. omega (arith, (not_consumer c s (own e.who past) e.who e.call r legal.role on other).1)) in
    let given : submitted_of r (all_told (past ++ e ∷ [])) ≡ submitted_of r (all_told past) ++ submitted e.call =
    part_of_all-push submitted_step r [] past e
    ∙ ap (λ b. cond b (submitted_of r (all_told past) ++ submitted e.call) (submitted_of r (all_told past))) on in
    record {
      gone = h.gone ++ goes.items;
      count = omega (arith, length-append h.gone goes.items, h.count, goes.count, more);
      rest =
          order_moves h.gone ((ring_at c s r).held ++ (ring_at c s r).out) (submitted_of r (all_told past)) goes.items (submitted e.call)
          (now.held ++ now.out) first h.rest goes.rest
          ∙ ap (λ x. first ++ x) (sym given);
    }

drained_off : (c : Config) (first : List Item) (past : List Entry) (e : Entry) (r : Ring) (ring : RingState) → is_on r e.call ≡ false
    → IsDrained c first r ring past → IsDrained c first r ring (past ++ e ∷ [])
drained_off c first past e r ring off h =
    let given : submitted_of r (all_told (past ++ e ∷ [])) ≡ submitted_of r (all_told past) =
    part_of_all-push submitted_step r [] past e
    ∙ ap (λ b. cond b (submitted_of r (all_told past) ++ submitted e.call) (submitted_of r (all_told past))) off in
    record {
      gone = h.gone;
      count = h.count ∙ sym (part_of_own-push_other released_step r 0 (consumer c r) past e off);
      rest = h.rest ∙ ap (λ x. first ++ x) (sym given);
    }

-- ---- a history

abbrev AllDrained : Config → List Frame → State → List Entry → Type 0
AllDrained c frames s past = (r : Ring) → HasRing c r → IsDrained c (ring_at c (opening c frames) r).out r (ring_at c s r) past

keeps_drained : (c : Config) (frames : List Frame) → Keeps c frames (AllDrained c frames)
keeps_drained c frames s past e sound legal reply h r has =
    let first : List Item = (ring_at c (opening c frames) r).out in
    let within : place c r < length s.rings = omega (arith, sound.rings, place_below c r has) in
    ⊎_elim
    (λ (on : is_on r e.call ≡ true).
    subst (λ ring. IsDrained c first r ring (past ++ e ∷ [])) (sym (ring_at-after_same c s e.who e.call r has legal.known within on))
    (drained_on c s first past e r legal on (sound.ring r has) (h r has)))
    (λ (off : is_on r e.call ≡ false).
    subst (λ ring. IsDrained c first r ring (past ++ e ∷ [])) (sym (ring_at-after_other c s e.who e.call r has legal.known off))
    (drained_off c first past e r (ring_at c s r) off (h r has)))
    (cases_Bool (is_on r e.call))

none_held : (held : List Item) → length held ≡ 0 → held ≡ []
none_held [] h = refl
none_held (item ∷ held) h = absurd (omega (arith, h))

opening_drained : (c : Config) (frames : List Frame) → IsOpened c frames → AllDrained c frames (opening c frames) []
opening_drained c frames opened r has =
    let ring : RingState = ring_at c (opening c frames) r in
    let held : ring.held ≡ [] = none_held ring.held (opening-ring c frames opened r has).held in
    record { gone = []; count = refl; rest = ap (λ x. x ++ ring.out) held ∙ sym (append-nil ring.out) }

-- what is left of a list behind its front
pub held_out : (c : Config) (frames : List Frame) (h : List Entry) (r : Ring) → IsHistory c frames h → HasRing c r
    → (ring_at c (state_after c frames h) r).held ++ (ring_at c (state_after c frames h) r).out
    ≡ drop (released_of r (own (consumer c r) h)) ((ring_at c (opening c frames) r).out ++ submitted_of r (own (producer c r) h))
held_out c frames h r history has =
    let ring : RingState = ring_at c (state_after c frames h) r in
    let first : List Item = (ring_at c (opening c frames) r).out in
    let drained = along (AllDrained c frames) c frames h history (keeps_drained c frames) (opening_drained c frames history.opened) r has in
    let given = ((history_sound c frames h history).ring r has).given in
    left_over drained.gone (ring.held ++ ring.out) (first ++ submitted_of r (own (producer c r) h)) (released_of r (own (consumer c r) h))
    (drained.rest ∙ ap (λ x. first ++ x) given) drained.count

-- ---- counts

more_number : (b : Bool) (n x : ℕ) → cond b (n + x) n ≡ n + cond b (0 + x) 0
more_number true n x = omega arith
more_number false n x = omega arith

number_from : (f : Told → ℕ) (r : Ring) (n : ℕ) (mine : List Told)
    → part_of (λ k t. k + f t) r n mine ≡ n + part_of (λ k t. k + f t) r 0 mine
number_from f r n [] = omega arith
number_from f r n (t ∷ mine) =
    omega (
      arith,
      number_from f r (cond (is_on r t.call) (n + f t) n) mine,
      number_from f r (cond (is_on r t.call) (0 + f t) 0) mine,
      more_number (is_on r t.call) n (f t),
    )

more_items : (b : Bool) (xs new rest : List Item) → cond b (xs ++ new) xs ++ rest ≡ xs ++ (cond b ([] ++ new) [] ++ rest)
more_items true xs new rest = append_assoc xs new rest
more_items false xs new rest = refl

items_from : (f : Told → List Item) (r : Ring) (xs : List Item) (mine : List Told)
    → part_of (λ ys t. ys ++ f t) r xs mine ≡ xs ++ part_of (λ ys t. ys ++ f t) r [] mine
items_from f r xs [] = sym (append-nil xs)
items_from f r xs (t ∷ mine) =
    items_from f r (cond (is_on r t.call) (xs ++ f t) xs) mine
    ∙ more_items (is_on r t.call) xs (f t) (part_of (λ ys u. ys ++ f u) r [] mine)
    ∙ ap (λ ys. xs ++ ys) (sym (items_from f r (cond (is_on r t.call) ([] ++ f t) []) mine))

pub given_more : (r : Ring) (who : ℕ) (past later : List Entry) → given_of r (own who (past ++ later)) ≡ given_of r (own who past) + given_of r (own who later)
given_more r who past later =
    ap (given_of r) (own-append who past later) ∙ part_of-append given_step r 0 (own who past) (own who later)
    ∙ number_from (λ t. length (submitted t.call)) r (given_of r (own who past)) (own who later)

pub released_more : (r : Ring) (who : ℕ) (past later : List Entry) → released_of r (own who (past ++ later)) ≡ released_of r (own who past) + released_of r (own who later)
released_more r who past later =
    ap (released_of r) (own-append who past later) ∙ part_of-append released_step r 0 (own who past) (own who later)
    ∙ number_from (λ t. released t.call) r (released_of r (own who past)) (own who later)

pub submitted_more : (r : Ring) (who : ℕ) (past later : List Entry) → submitted_of r (own who (past ++ later)) ≡ submitted_of r (own who past) ++ submitted_of r (own who later)
submitted_more r who past later =
    ap (submitted_of r) (own-append who past later) ∙ part_of-append submitted_step r [] (own who past) (own who later)
    ∙ items_from (λ t. submitted t.call) r (submitted_of r (own who past)) (own who later)

pub peeked_more : (r : Ring) (who : ℕ) (past later : List Entry) → peeked_of r (own who (past ++ later)) ≡ peeked_of r (own who past) ++ peeked_of r (own who later)
peeked_more r who past later =
    ap (peeked_of r) (own-append who past later) ∙ part_of-append peeked_step r [] (own who past) (own who later)
    ∙ items_from (λ t. taken t.reply) r (peeked_of r (own who past)) (own who later)

-- ---- a Peek that finds items

peek_some : (n : ℕ) (out : List Item) → 1 ≤ length out → peek_reply n out ≡ Items (take n out)
peek_some n [] some = absurd (omega arith)
peek_some n (item ∷ out) some = refl

-- what is out, by the owners' own entries
out_by_own : (c : Config) (frames : List Frame) (h : List Entry) (r : Ring) → IsHistory c frames h → HasRing c r
    → (ring_at c (state_after c frames h) r).out
    ≡ drop (length (peeked_of r (own (consumer c r) h))) ((ring_at c (opening c frames) r).out ++ submitted_of r (own (producer c r) h))
out_by_own c frames h r history has =
    let ring = (history_sound c frames h history).ring r has in
    let first : List Item = (ring_at c (opening c frames) r).out in
    left_over (peeked_of r (all_told h)) (ring_at c (state_after c frames h) r).out (first ++ submitted_of r (own (producer c r) h))
    (length (peeked_of r (own (consumer c r) h))) (ring.order ∙ ap (λ x. first ++ x) ring.given) (ap length ring.peeked)

pub finds_items : (c : Config) (frames : List Frame) (seen later : List Entry) (r : Ring) (n : ℕ) → IsHistory c frames (seen ++ later) → HasRing c r
    → length (peeked_of r (own (consumer c r) (seen ++ later))) < length (ring_at c (opening c frames) r).out + given_of r (own (producer c r) seen)
    → reply_at c (state_after c frames (seen ++ later)) (Peek r n)
    ≡ Items (take n (drop (length (peeked_of r (own (consumer c r) (seen ++ later)))) ((ring_at c (opening c frames) r).out ++ submitted_of r (own (producer c r) (seen ++ later)))))
finds_items c frames seen later r n history has more =
    let first : List Item = (ring_at c (opening c frames) r).out in
    let all : List Item = first ++ submitted_of r (own (producer c r) (seen ++ later)) in
    let peeked : ℕ = length (peeked_of r (own (consumer c r) (seen ++ later))) in
    let some : 1 ≤ length (drop peeked all) =
    omega (
      arith,
      more,
      length-drop peeked all,
      length-append first (submitted_of r (own (producer c r) (seen ++ later))),
      given-submitted r (own (producer c r) (seen ++ later)),
      given_more r (producer c r) seen later,
    ) in
    ap (peek_reply n) (out_by_own c frames (seen ++ later) r history has) ∙ peek_some n (drop peeked all) some

-- ---- a Reserve that is granted

pub finds_room : (c : Config) (frames : List Frame) (seen later : List Entry) (r : Ring) (n : ℕ) → IsHistory c frames (seen ++ later) → HasRing c r
    → length (ring_at c (opening c frames) r).out + given_of r (own (producer c r) (seen ++ later)) + room_of r (own (producer c r) (seen ++ later)) + n
    ≤ size_of c r + released_of r (own (consumer c r) seen)
    → reply_at c (state_after c frames (seen ++ later)) (Reserve r n) ≡ Granted
finds_room c frames seen later r n history has enough =
    let ring : RingState = ring_at c (state_after c frames (seen ++ later)) r in
    let room = ((history_sound c frames (seen ++ later) history).ring r has).room in
    let counts = counts_agree c frames (seen ++ later) r history has in
    let places : n ≤ free (size_of c r) ring = omega (arith, enough, room, counts, released_more r (consumer c r) seen later) in
    ap (λ b. cond b Granted (Full (free (size_of c r) ring))) (le-leb n (free (size_of c r) ring) places)
