-- Placing an item: a step takes the empty slot of its frame, which writes the second word of the entry where it has one,
-- and the write of the address word brings it home with the frame.
use Rattle.std.proofs.Common.{◌≡◌, ℕ, ◌+◌, ◌%◌, ◌<◌, ◌≤◌, suc, zero, false, List, [], ◌∷◌, ◌++◌, length, get_or, set, refl, ap, sym, ◌∙◌, arith, subst, ◌⊎◌, inl, inr, ⊎_elim, append_assoc, length-append}
use Rattle.std.specs.Prelude.{Option, Some, None}
use mathlib.Core.Option.{some, none, some-injective, some-ne-none}
use mathlib.Core.Option as maybe
use lib.ListN.{get_elem?}
use lib.Seq.{set-get_or}
use Rattle.std.proofs.lemmas.List.{length-set}
use Rattle.atomic_table.specs.Table.{State, Act, step, Allows, Valid, homes_after, carried_after, rest}
use Rattle.atomic_table.proofs.Lists.{one_turn, set_here}
use Rattle.xsk_umem.specs.Frame.{Frame}
use Rattle.xsk_umem.specs.declared.batch.Item.{Item}
use Rattle.xsk_model.specs.Config.{Config, IsConfig, HasRing, size_of, callers_of}
use Rattle.xsk_model.specs.Numbers.{times, numbers}
use Rattle.xsk_model.specs.Rings as rings
use Rattle.xsk_model.specs.Rings.{is_ring}
use Rattle.xsk_model.specs.Marks.{HasMark}
use Rattle.xsk_model.specs.Object.{RingState}
use Rattle.xsk_model.specs.Entry.{Told, own}
use Rattle.xsk_model.specs.Own.{had_of, given_of}
use Rattle.xsk_model.specs.Legal.{IsItemOn}
use Rattle.xsk_model.specs.declared.call.Ring.{Ring}
use Rattle.xsk_model.specs.declared.call.Mark.{Mark}
use Rattle.xsk_model.proofs.Roles.{two_owners}
use Rattle.xsk_table.specs.Words.{second_word}
use Rattle.xsk_table.specs.Layout.{entry_words, words_of, Word, producer, consumer, mark, HasWord, word_at}
use Rattle.xsk_table.specs.View.{Basis, Flight, idle, placing, writing, taking, fetching, View}
use Rattle.xsk_table.specs.Rule.{at, entry_of, second_of, opened, given, released, Lies, Written, nothing, written, standing, lying, aloft, Homes, IsHome, AllHome, HasAll, RingHolds, Rule}
use Rattle.xsk_table.specs.Plays.{Seated, Purpose, IsPlacing, CanPlace, IsFirst, with_slot, without_slot, Lifted, lifts, Placed, places, IsTaken, PutIn}
use Rattle.xsk_table.proofs.WordRows.{SameWords, same_words, write_here, write_else, write_other_ring, write_no_mark, other_ring, ring_word, place_in}
use Rattle.xsk_table.proofs.Changed.{ring_now, flight_of}
use Rattle.xsk_table.proofs.Slots.{numbers-last, IsFree, Has, has_one, free_one, homes_put, put_else, vacant_else, takes_of, gives_of, taken_homes, taken_slots, given_homes, gives_valid, given_slots, had_once, is_frame, vacant_had}
use Rattle.xsk_table.proofs.Knowing.{numbers_are, known, given_seen, room_seen, flight_here, flight_then}
use Rattle.xsk_table.proofs.Shifting.{shifted}
use Rattle.xsk_table.proofs.RingSteps.{place_below, lies_write, lies_at, written_here, written_else, half_here, half_else}
use Rattle.xsk_table.proofs.Submitting.{home-append}

-- ---- a ring with one item more

at_end : (l : List Item) (x y : Item) (j : ℕ) → get_elem? (l ++ x ∷ []) j ≡ some y → ((j < length l) × (get_elem? l j ≡ some y)) ⊎ ((j ≡ length l) × (x ≡ y))
at_end [] x y zero e = inr (refl, some-injective x y e)
at_end [] x y (suc j) e = absurd (some-ne-none y (sym e))
at_end (z ∷ l) x y zero e = inl (omega arith, e)
at_end (z ∷ l) x y (suc j) e = ⊎_elim
    (λ (t : (j < length l) × (get_elem? l j ≡ some y)). let lt = t.0 in inl (omega arith, t.1))
    (λ (t : (j ≡ length l) × (x ≡ y)). inr (ap suc t.0, t.1))
    (at_end l x y j e)

standing_more : (q : RingState) (items : List Item) (x : Item) → standing q (items ++ x ∷ []) ≡ standing q items ++ x ∷ []
standing_more q items x = ap (λ l. q.held ++ l) (sym (append_assoc q.out items (x ∷ []))) ∙ sym (append_assoc q.held (q.out ++ items) (x ∷ []))

standing_len : (q : RingState) (items : List Item) → length (standing q items) ≡ length q.held + (length q.out + length items)
standing_len q items = length-append q.held (q.out ++ items) ∙ ap (λ n. length q.held + n) (length-append q.out items)

-- two counts less than a ring apart have two places
places_differ : (a b n : ℕ) → 0 < n → a < b → b < a + n → a % n ≡ b % n → ⊥
places_differ a b n enough lt near e = let is = one_turn a b n (omega arith) near e in omega arith

pub entries_differ : (c : Config) (r : Ring) (a b : ℕ) → 0 < size_of c r → a < b → b < a + size_of c r → entry_of c r a ≡ entry_of c r b → ⊥
entries_differ c r a b enough lt near e = places_differ a b (size_of c r) enough lt near (ap place_in e)

seconds_differ : (c : Config) (r : Ring) (a b : ℕ) → 0 < size_of c r → a < b → b < a + size_of c r → second_of c r a ≡ second_of c r b → ⊥
seconds_differ c r a b enough lt near e = places_differ a b (size_of c r) enough lt near (ap place_in e)

pub whole_ring : (k : Basis) (words : List ℕ) (r : Ring) (q : RingState) (a b : ℕ) (items : List Item) (x : Item) → IsConfig k.config → HasRing k.config r → length words ≡ words_of k.config
    → IsItemOn k.config.geometry r x → a ≡ b + length q.held + length q.out → length q.out + length q.held + q.room ≤ size_of k.config r
    → RingHolds k words r q a b (record { whole = items; half = x ∷ [] })
    → RingHolds k (set words (word_at k.config (entry_of k.config r (k.first + (a + length items)))) x.desc.addr) r q a b (record { whole = items ++ x ∷ []; half = [] })
whole_ring k words r q a b items x config has wide lawful counts room ok =
    let c = k.config in
    let new : ℕ = k.first + (a + length items) in
    let size : ℕ = size_of c r in
    let below : new % size < size = place_below c r new config has in
    let some_size : 0 < size = omega arith in
    let word : Word = entry_of c r new in
    let words' = set words (word_at c word) x.desc.addr in
    let fits : length items + 1 ≤ q.room = ok.within in
    record {
      producer_is = write_else c words word x.desc.addr config (has, below) (producer r) has (λ e. cc) ∙ ok.producer_is;
      consumer_is = write_else c words word x.desc.addr config (has, below) (consumer r) has (λ e. cc) ∙ ok.consumer_is;
      within = omega (arith, length-append items (x ∷ []));
      entries = λ j y there. ⊎_elim
          (λ (t : (j < length (standing q items)) × (get_elem? (standing q items) j ≡ some y)).
          let lt = t.0 in
          let far : k.first + b + j < new = omega (arith, standing_len q items) in
          let near : new < k.first + b + j + size = omega (arith, standing_len q items) in
          lies_write c words r (k.first + b + j) y word x.desc.addr config has (has, below) (entries_differ c r (k.first + b + j) new some_size far near) (λ e. cc) (ok.entries j y t.1))
          (λ (t : (j ≡ length (standing q items)) × (x ≡ y)).
          let is = t.0 in
          let count : new ≡ k.first + b + j = omega (arith, standing_len q items) in
          lies_at c words' r new (k.first + b + j) y count (subst (λ (z : Item). Lies c words' r new z) t.1 (record {
            address = write_here c words word x.desc.addr config (has, below) wide;
            other = λ two. write_else c words word x.desc.addr config (has, below) (second_of c r new) (has, below, two) (λ e. cc) ∙ ok.half x refl two;
            lawful = lawful;
          })))
          (at_end (standing q items) x y j (subst (λ (l : List Item). get_elem? l j ≡ some y) (standing_more q items x) there));
      half = λ y there. absurd (some-ne-none y (sym there));
    }

-- where entries have one word, nothing of an item is written before its address
pub half_ring : (k : Basis) (words : List ℕ) (r : Ring) (q : RingState) (a b : ℕ) (items : List Item) (x : Item) → entry_words r ≡ 1 → length items + 1 ≤ q.room
    → RingHolds k words r q a b (record { whole = items; half = [] }) → RingHolds k words r q a b (record { whole = items; half = x ∷ [] })
half_ring k words r q a b items x one room ok = record {
  producer_is = ok.producer_is;
  consumer_is = ok.consumer_is;
  within = room;
  entries = ok.entries;
  half = λ y there two. absurd (omega arith);
}

within_list : (l : List Item) (i : ℕ) (x : Item) → get_elem? l i ≡ some x → i < length l
within_list [] i x e = absurd (some-ne-none x (sym e))
within_list (y ∷ l) zero x e = omega arith
within_list (y ∷ l) (suc i) x e = let h = within_list l i x e in omega arith

-- where they have two, the second is written first
second_ring : (k : Basis) (words : List ℕ) (r : Ring) (q : RingState) (a b : ℕ) (items : List Item) (x : Item) → IsConfig k.config → HasRing k.config r → length words ≡ words_of k.config
    → entry_words r ≡ 2 → a ≡ b + length q.held + length q.out → length q.out + length q.held + q.room ≤ size_of k.config r → length items + 1 ≤ q.room
    → RingHolds k words r q a b (record { whole = items; half = [] })
    → RingHolds k (set words (word_at k.config (second_of k.config r (k.first + (a + length items)))) (second_word x.desc)) r q a b (record { whole = items; half = x ∷ [] })
second_ring k words r q a b items x config has wide two counts room fits ok =
    let c = k.config in
    let new : ℕ = k.first + (a + length items) in
    let size : ℕ = size_of c r in
    let below : new % size < size = place_below c r new config has in
    let some_size : 0 < size = omega arith in
    let word : Word = second_of c r new in
    let there : HasWord c word = (has, below, two) in
    let value : ℕ = second_word x.desc in
    record {
      producer_is = write_else c words word value config there (producer r) has (λ e. cc) ∙ ok.producer_is;
      consumer_is = write_else c words word value config there (consumer r) has (λ e. cc) ∙ ok.consumer_is;
      within = fits;
      entries = λ j y at_j.
          let lt = within_list (standing q items) j y at_j in
          let far : k.first + b + j < new = omega (arith, standing_len q items) in
          let near : new < k.first + b + j + size = omega (arith, standing_len q items) in
          lies_write c words r (k.first + b + j) y word value config has there (λ e. cc) (seconds_differ c r (k.first + b + j) new some_size far near) (ok.entries j y at_j);
      half = λ y at_0 again. write_here c words word value config there wide ∙ ap (λ (z : Item). second_word z.desc) (some-injective x y at_0);
    }

-- ---- flights that place

placing_written : (r : Ring) (f : Flight) → IsPlacing r f → written r f ≡ record { whole = lying f; half = [] }
placing_written r idle h = refl
placing_written r (placing s items) h = ap (λ x. written r (placing x items)) h ∙ written_here r items
placing_written r (writing s items x) h = absurd h
placing_written r (taking s items) h = absurd h
placing_written r (fetching s x left) h = absurd h

placing_else : (r r' : Ring) (f : Flight) → IsPlacing r f → is_ring r' r ≡ false → written r' f ≡ nothing
placing_else r r' idle h off = refl
placing_else r r' (placing s items) h off = ap (λ y. written r' (placing y items)) h ∙ written_else r r' items off
placing_else r r' (writing s items y) h off = absurd h
placing_else r r' (taking s items) h off = absurd h
placing_else r r' (fetching s y left) h off = absurd h

placing_aloft : (r : Ring) (f : Flight) → IsPlacing r f → aloft f ≡ lying f
placing_aloft r idle h = refl
placing_aloft r (placing s items) h = refl
placing_aloft r (writing s items x) h = absurd h
placing_aloft r (taking s items) h = absurd h
placing_aloft r (fetching s x left) h = absurd h

has_last : (mine : List Told) (items : List Item) (x : Item) → HasAll (items ++ x ∷ []) mine → Has x.frame mine
has_last mine items x all = has_one x.frame mine (λ n. omega (arith, all n, numbers-last n items x))

free_last : (mine : List Told) (items : List Item) (x : Item) → HasAll (items ++ x ∷ []) mine → ((n : ℕ) → times n (had_of mine) ≤ 1) → IsFree x.frame items
free_last mine items x all once = free_one x.frame items mine (λ n. omega (arith, all n, numbers-last n items x)) once

-- ---- the slot is taken

-- by a step that writes words of its ring at most, and leaves the ring as it was
lifts_by : (id : ℕ) (me : Seated) (a : Purpose) → CanPlace a me.0 → IsPlacing a.ring me.0.flight → (s : State (Option Frame) View) (rule : Rule a.setup s) → get_elem? s.views id ≡ some me.0 → (words' : List ℕ) → length words' ≡ length s.words
    → ((r' : Ring) → HasRing a.setup.config r' → is_ring r' a.ring ≡ false → SameWords a.setup.config s.words words' r')
    → ((m : Mark) → HasMark a.setup.config m → at a.setup.config words' (mark m) ≡ at a.setup.config s.words (mark m))
    → (RingHolds a.setup s.words a.ring (ring_now a.setup s rule a.ring) (given a.setup a.ring rule.log) (released a.setup a.ring rule.log) (record { whole = lying me.0.flight; half = [] })
    → RingHolds a.setup words' a.ring (ring_now a.setup s rule a.ring) (given a.setup a.ring rule.log) (released a.setup a.ring rule.log) (record { whole = lying me.0.flight; half = a.item ∷ [] }))
    → (w : View) × (act : Act (Option Frame)) × Valid s.homes me.1 act × Rule a.setup (record { words = words'; homes = homes_after s.homes me.1 act; views = set s.views id w }) × Lifted a me (w, carried_after me.1 act)
lifts_by id me a can is_placing s rule at_id words' words_len words_same marks_same ring_stays =
    let k = a.setup in
    let c = k.config in
    let r = a.ring in
    let who = a.who in
    let v = me.0 in
    let x = a.item in
    let f = x.frame in
    let items = lying v.flight in
    let config = rule.legal.opened.config in
    let caller : who < callers_of c = subst (λ (n : ℕ). n < callers_of c) (sym can.role) (two_owners c r config can.ring).0 in
    let kn = known k s rule id who v at_id can.one caller in
    let all : HasAll (items ++ x ∷ []) (own who rule.log) = subst (HasAll (items ++ x ∷ [])) (sym kn.mine) can.has in
    let has : Has f (own who rule.log) = has_last (own who rule.log) items x all in
    let free : IsFree f items = free_last (own who rule.log) items x all (had_once k s rule who) in
    let up : aloft v.flight ≡ items = placing_aloft r v.flight is_placing in
    let up_now : aloft (flight_of k s rule who) ≡ items = ap aloft kn.flight ∙ up in
    let fl' : Flight = writing r items x in
    let then : written r (flight_of k s rule (rings.producer c r)) ≡ record { whole = items; half = [] } = ap (written r) (flight_here k s rule who v kn r can.ring can.role) ∙ placing_written r v.flight is_placing in
    let afterwards : written r (get_or (set rule.flights who fl') (rings.producer c r) idle) ≡ record { whole = items; half = x ∷ [] } = ap (written r) (flight_then k s rule who v kn r can.ring fl' can.role) ∙ half_here r items x in
    let lies : AllHome s.homes items = subst (λ (g : Flight). AllHome s.homes (lying g)) kn.flight (rule.lie who) in
    let did = shifted k s rule id who r v at_id can.one can.alone caller kn can.ring words' fl' f (λ _. none) has words_len words_same marks_same
    (λ r' has' off. half_else r r' items x off ∙ sym (placing_else r r' v.flight is_placing off))
    (subst (λ (l : Written). RingHolds k words' r (ring_now k s rule r) (given k r rule.log) (released k r rule.log) l) (sym afterwards)
    (ring_stays (subst (λ (l : Written). RingHolds k s.words r (ring_now k s rule r) (given k r rule.log) (released k r rule.log) l) then (rule.rings r can.ring))))
    (can.ring, can.role, all)
    (put_else s.homes f (λ _. none) items free lies)
    (λ n lt no_mine before. vacant_else s.homes n f (λ _. none) (let t = numbers-last n items x in omega arith)
    (before (ap (λ l. times n (numbers l)) up ∙ (let t = numbers-last n items x in omega arith)))) in
    let w : View = record v { flight = fl' } in (
      w,
      takes_of f None,
      vacant_had k s rule who f has (subst (λ (l : List Item). IsFree f l) (sym up_now) free) me.1,
      subst (λ (h : Homes). Rule k record { words = words'; homes = h; views = set s.views id w }) (sym (taken_homes s.homes me.1 f None)) did,
      record { view = refl; slots = taken_slots s.homes me.1 f None },
    )

-- by a look, where entries have one word
pub lifts_look : (slots id : ℕ) (me : Seated) (a : Purpose) (word : ℕ) → entry_words a.ring ≡ 1 → CanPlace a me.0 → IsPlacing a.ring me.0.flight
    → Allows (Rule a.setup) slots id me word (λ n. n) (lifts a (step slots word 0 0 none) me)
lifts_look slots id me a word one can is_placing s rule wide at_id small =
    let k = a.setup in
    let r = a.ring in
    let who = a.who in
    let v = me.0 in
    let config = rule.legal.opened.config in
    let caller : who < callers_of k.config = subst (λ (n : ℕ). n < callers_of k.config) (sym can.role) (two_owners k.config r config can.ring).0 in
    let kn = known k s rule id who v at_id can.one caller in
    let room : length (lying v.flight) + 1 ≤ (ring_now k s rule r).room = subst (λ (n : ℕ). length (lying v.flight) + 1 ≤ n) (sym (room_seen k s rule who v kn r can.ring can.role)) can.room in
    let t = lifts_by id me a can is_placing s rule at_id s.words refl (λ r' has' off. same_words k.config s.words r') (λ m has'. refl)
    (half_ring k s.words r (ring_now k s rule r) (given k r rule.log) (released k r rule.log) (lying v.flight) a.item one room) in
    (t.0, t.1, t.2, subst (λ (ws : List ℕ). Rule k record { words = ws; homes = homes_after s.homes me.1 t.1; views = set s.views id t.0 }) (sym (set-get_or s.words word 0)) t.3, t.4)

-- by the write of the second word, where they have two
pub lifts_store : (slots id : ℕ) (me : Seated) (a : Purpose) (word new : ℕ) → entry_words a.ring ≡ 2 → new ≡ second_word a.item.desc → CanPlace a me.0 → IsPlacing a.ring me.0.flight
    → word ≡ word_at a.setup.config (second_of a.setup.config a.ring (a.setup.first + (opened a.setup a.ring + given_of a.ring (own a.who me.0.seen) + length (lying me.0.flight))))
    → Allows (Rule a.setup) slots id me word (λ _. new) (λ _. lifts a (step slots word new 0 none) me new)
lifts_store slots id me a word new two new_is can is_placing at_word s rule wide at_id small =
    let k = a.setup in
    let c = k.config in
    let r = a.ring in
    let who = a.who in
    let v = me.0 in
    let items = lying v.flight in
    let config = rule.legal.opened.config in
    let caller : who < callers_of c = subst (λ (n : ℕ). n < callers_of c) (sym can.role) (two_owners c r config can.ring).0 in
    let kn = known k s rule id who v at_id can.one caller in
    let room : length items + 1 ≤ (ring_now k s rule r).room = subst (λ (n : ℕ). length items + 1 ≤ n) (sym (room_seen k s rule who v kn r can.ring can.role)) can.room in
    let nums = numbers_are k s rule r can.ring in
    let given_is = given_seen k s rule who v kn r can.ring can.role in
    let count : ℕ = k.first + (given k r rule.log + length items) in
    let spot : Word = second_of c r count in
    let there : HasWord c spot = (can.ring, place_below c r count config can.ring, two) in
    let value : ℕ = second_word a.item.desc in
    let is_word : word_at c spot ≡ word = ap (λ n. word_at c (second_of c r (k.first + (n + length items)))) given_is ∙ sym at_word in
    let t = lifts_by id me a can is_placing s rule at_id (set s.words (word_at c spot) value) (length-set s.words _ _)
    (λ r' has' off. write_other_ring c s.words spot value config there r' has' (other_ring r' r off))
    (λ m has'. write_no_mark c s.words spot value config there m has' (ring_word r))
    (second_ring k s.words r (ring_now k s rule r) (given k r rule.log) (released k r rule.log) items a.item config can.ring rule.words_len two nums.counts nums.within room) in
    let P : ℕ × ℕ → Type 0 = λ z. Rule k record { words = set s.words z.0 z.1; homes = homes_after s.homes me.1 t.1; views = set s.views id t.0 } in
    (t.0, t.1, t.2, subst P (λ i. (is_word i, sym new_is i)) t.3, t.4)

-- ---- the address is written

home_placed : (homes : Homes) (f : Option Frame) → ((g : Frame) → f ≡ Some g → g.number < length homes) → IsHome (homes_put homes f (λ _. some f)) f
home_placed homes None lt = tt
home_placed homes (Some f) lt = set_here homes f.number (some (Some f)) (lt f refl)

has_number : (mine : List Told) (f : Option Frame) (g : Frame) → f ≡ Some g → Has f mine → 0 < times g.number (had_of mine)
has_number mine f g e h = let P : Option Frame → Type 0 = λ t. Has t mine in subst P e h

pub writes_keep : (slots id : ℕ) (me : Seated) (a : Purpose) (word new : ℕ) → CanPlace a me.0 → me.0.flight ≡ writing a.ring (lying me.0.flight) a.item → IsFirst a.item.frame a.item.frame me.1 → new ≡ a.item.desc.addr
    → word ≡ word_at a.setup.config (entry_of a.setup.config a.ring (a.setup.first + (opened a.setup a.ring + given_of a.ring (own a.who me.0.seen) + length (lying me.0.flight))))
    → Allows (Rule a.setup) slots id me word (λ _. new) (λ _. places a (step slots word new 0 none) me new)
writes_keep slots id me a word new can writes first new_is at_word s rule wide at_id small =
    let k = a.setup in
    let c = k.config in
    let r = a.ring in
    let who = a.who in
    let v = me.0 in
    let x = a.item in
    let f = x.frame in
    let items = lying v.flight in
    let config = rule.legal.opened.config in
    let caller : who < callers_of c = subst (λ (n : ℕ). n < callers_of c) (sym can.role) (two_owners c r config can.ring).0 in
    let kn = known k s rule id who v at_id can.one caller in
    let q : RingState = ring_now k s rule r in
    let nums = numbers_are k s rule r can.ring in
    let given_is = given_seen k s rule who v kn r can.ring can.role in
    let all : HasAll (items ++ x ∷ []) (own who rule.log) = subst (HasAll (items ++ x ∷ [])) (sym kn.mine) can.has in
    let has : Has f (own who rule.log) = has_last (own who rule.log) items x all in
    let free : IsFree f items = free_last (own who rule.log) items x all (had_once k s rule who) in
    let up : aloft v.flight ≡ items ++ x ∷ [] = ap aloft writes in
    let fl' : Flight = placing r (items ++ x ∷ []) in
    let then : written r (flight_of k s rule (rings.producer c r)) ≡ record { whole = items; half = x ∷ [] } = ap (written r) (flight_here k s rule who v kn r can.ring can.role ∙ writes) ∙ half_here r items x in
    let afterwards : written r (get_or (set rule.flights who fl') (rings.producer c r) idle) ≡ record { whole = items ++ x ∷ []; half = [] } =
    ap (written r) (flight_then k s rule who v kn r can.ring fl' can.role) ∙ written_here r (items ++ x ∷ []) in
    let ok : RingHolds k s.words r q (given k r rule.log) (released k r rule.log) (record { whole = items; half = x ∷ [] }) =
    subst (λ (l : Written). RingHolds k s.words r q (given k r rule.log) (released k r rule.log) l) then (rule.rings r can.ring) in
    let count : ℕ = k.first + (given k r rule.log + length items) in
    let spot : Word = entry_of c r count in
    let there : HasWord c spot = (can.ring, place_below c r count config can.ring) in
    let words' = set s.words (word_at c spot) x.desc.addr in
    let lies : AllHome s.homes items = subst (λ (g : Flight). AllHome s.homes (lying g)) kn.flight (rule.lie who) in
    let wide' = rule.homes_len in
    let put : Frame → maybe.Option (Option Frame) = λ _. some f in
    let did = shifted k s rule id who r v at_id can.one can.alone caller kn can.ring words' fl' f put has (length-set s.words _ _)
    (λ r' has' off. write_other_ring c s.words spot x.desc.addr config there r' has' (other_ring r' r off))
    (λ m has'. write_no_mark c s.words spot x.desc.addr config there m has' (ring_word r))
    (λ r' has' off. written_else r r' (items ++ x ∷ []) off ∙ sym (ap (written r') writes ∙ half_else r r' items x off))
    (subst (λ (l : Written). RingHolds k words' r q (given k r rule.log) (released k r rule.log) l) (sym afterwards)
    (whole_ring k s.words r q (given k r rule.log) (released k r rule.log) items x config can.ring rule.words_len can.lawful nums.counts nums.within ok))
    (can.ring, can.role, all)
    (home-append (homes_put s.homes f put) items (x ∷ []) (put_else s.homes f put items free lies)
    (home_placed s.homes f (λ g e. let l = is_frame k s rule who g.number (has_number (own who rule.log) f g e has) in omega arith), tt))
    (λ n lt no_mine before. vacant_else s.homes n f put (let t = numbers-last n items x in omega arith)
    (before (ap (λ l. times n (numbers l)) up ∙ no_mine))) in
    let w : View = record v { flight = fl' } in
    let is_word : word_at c spot ≡ word = ap (λ n. word_at c (entry_of c r (k.first + (n + length items)))) given_is ∙ sym at_word in (
      w,
      gives_of f,
      gives_valid s.homes me.1 f,
      subst (λ (t : ℕ × ℕ × Homes). Rule k record { words = set s.words t.0 t.1; homes = t.2; views = set s.views id w })
          (λ i. (is_word i, sym new_is i, sym (given_homes s.homes me.1 f f first) i)) did,
      record { view = refl; slots = given_slots s.homes me.1 f },
    )

-- the same, where the frame was moved into the slot that was taken last
pub writes_first : (slots id : ℕ) (me old : Seated) (a : Purpose) (f : Frame) (n word : ℕ) → CanPlace a old.0 → old.0.flight ≡ writing a.ring (lying old.0.flight) a.item → a.item.frame ≡ Some f → n ≡ f.number → me ≡ (old.0, (n, Some f) ∷ rest old.1)
    → word ≡ word_at a.setup.config (entry_of a.setup.config a.ring (a.setup.first + (opened a.setup a.ring + given_of a.ring (own a.who old.0.seen) + length (lying old.0.flight))))
    → Allows (Rule a.setup) slots id me word (λ _. a.item.desc.addr) (λ _. places a (step slots word a.item.desc.addr 0 none) me a.item.desc.addr)
writes_first slots id me old a f n word can writes is number moved at_word =
    let P : Seated → Type 0 = λ m. Allows (Rule a.setup) slots id m word (λ _. a.item.desc.addr) (λ _. places a (step slots word a.item.desc.addr 0 none) m a.item.desc.addr) in
    let now : Seated = (old.0, (f.number, Some f) ∷ rest old.1) in
    let first : IsFirst a.item.frame a.item.frame now.1 = subst (λ (g : Option Frame). IsFirst g g now.1) (sym is) refl in
    subst P (sym (moved ∙ (λ i. (old.0, (number i, Some f) ∷ rest old.1)))) (writes_keep slots id now a word a.item.desc.addr can writes first refl at_word)

pub placed_moved : (a : Purpose) (me old m' : Seated) (f : Frame) (n : ℕ) → a.item.frame ≡ Some f → me ≡ (old.0, (n, Some f) ∷ rest old.1) → Placed a me m' → Placed a old m'
placed_moved a me old m' f n is moved did = record {
  view = did.view ∙ ap (λ (m : Seated). record m.0 { flight = placing a.ring (lying m.0.flight ++ a.item ∷ []) }) moved;
  slots = did.slots ∙ ap (λ g. without_slot g me.1) is ∙ ap (λ (m : Seated). rest m.1) moved ∙ ap (λ g. without_slot g old.1) (sym is);
}

-- an item may still be placed once its slot is taken
pub can_write : (a : Purpose) (m m' : Seated) → CanPlace a m.0 → Lifted a m m' → CanPlace a m'.0 × (m'.0.flight ≡ writing a.ring (lying m'.0.flight) a.item)
can_write a m m' can did =
    let P : View → Type 0 = λ v. CanPlace a v × (v.flight ≡ writing a.ring (lying v.flight) a.item) in
    subst P (sym did.view) (record { one = can.one; alone = can.alone; ring = can.ring; role = can.role; lawful = can.lawful; room = can.room; has = can.has }, refl)

taken_is : (f : Option Frame) (slots slots' : List (ℕ × Option Frame)) → slots' ≡ with_slot f None slots → IsTaken f slots'
taken_is None slots slots' e = tt
taken_is (Some f) slots slots' e = (None, e ∙ ap (λ l. (f.number, None) ∷ l) (sym (ap rest e)))

pub taken_lifted : (a : Purpose) (m m' : Seated) → Lifted a m m' → IsTaken a.item.frame m'.1
taken_lifted a m m' did = taken_is a.item.frame m.1 m'.1 did.slots

pub gone : (f value : Option Frame) (slots : List (ℕ × Option Frame)) → without_slot f (with_slot f value slots) ≡ slots
gone None value slots = refl
gone (Some f) value slots = refl

pub put_in : (a : Purpose) (m m' m'' : Seated) → Lifted a m m' → Placed a m' m'' → PutIn a.ring a.item m m''
put_in a m m' m'' up down = record {
  view = down.view ∙ ap (λ (v : View). record v { flight = placing a.ring (lying v.flight ++ a.item ∷ []) }) up.view;
  slots = down.slots ∙ ap (without_slot a.item.frame) up.slots ∙ gone a.item.frame None m.1;
}
