-- Fetching an item: the read of the address word takes the frame's slot, and the read of the second word, or another
-- look, gives it home, empty.
use Rattle.std.proofs.Common.{◌≡◌, ◌≢◌, ℕ, ◌+◌, ◌<◌, ◌≤◌, List, [], ◌∷◌, ◌++◌, length, get_or, set, refl, ap, sym, ◌∙◌, arith, subst, append_assoc, length-append, get_or-set_other}
use Rattle.std.specs.Prelude.{Option, Some, None, slice_index}
use mathlib.Core.Option.{some, none}
use mathlib.Core.Option as maybe
use lib.ListN.{get_elem?}
use lib.Seq.{set-get_or}
use Rattle.atomic_table.specs.Table.{State, step, Allows, Valid, carried_after}
use Rattle.xsk_umem.specs.Frame.{Frame}
use Rattle.xsk_umem.specs.declared.batch.Item.{Item}
use Rattle.xsk_model.specs.Config.{HasRing, callers_of}
use Rattle.xsk_model.specs.Numbers.{times, numbers}
use Rattle.xsk_model.specs.Rings as rings
use Rattle.xsk_model.specs.Rings.{is_ring}
use Rattle.xsk_model.specs.Object.{RingState}
use Rattle.xsk_model.specs.Entry.{Told, own}
use Rattle.xsk_model.specs.Own.{had_of, released_of, held_of}
use Rattle.xsk_model.specs.declared.call.Ring.{Ring}
use Rattle.xsk_model.proofs.Roles.{two_owners}
use Rattle.xsk_table.specs.Words.{second_word}
use Rattle.xsk_table.specs.Layout.{entry_words, word_at}
use Rattle.xsk_table.specs.View.{Basis, Flight, idle, taking, fetching, View}
use Rattle.xsk_table.specs.Rule.{entry_of, second_of, Lies, AreLast, given, released, written, lying, aloft, Homes, IsHome, AllHome, HasAll, IsInFlight, RingHolds, Rule}
use Rattle.xsk_table.specs.Plays.{Seated, Purpose, still, emptied, IsFirst, Fetched, fetches, Settled, settles, reads}
use Rattle.xsk_table.proofs.WordRows.{same_words}
use Rattle.xsk_table.proofs.Changed.{now, ring_now, flight_of}
use Rattle.xsk_table.proofs.Slots.{numbers-cons, IsFree, Has, has_one, free_one, homes_put, put_else, vacant_else, vacant_here, takes_of, gives_of, taken_homes, taken_slots, given_homes, gives_valid, given_slots, had_once}
use Rattle.xsk_table.proofs.Knowing.{known, released_seen, held_seen}
use Rattle.xsk_table.proofs.RingSteps.{lies_at}
use Rattle.xsk_table.proofs.Shifting.{shifted}
use Rattle.xsk_table.proofs.Peeking.{lying_still, aloft_still, written_still, flies_still}

has_first : (mine : List Told) (x : Item) (left : List Item) → HasAll (x ∷ left) mine → Has x.frame mine
has_first mine x left all = has_one x.frame mine (λ n. omega (arith, all n, numbers-cons n x left))

has_rest : (mine : List Told) (x : Item) (left : List Item) → HasAll (x ∷ left) mine → HasAll left mine
has_rest mine x left all n = omega (arith, all n, numbers-cons n x left)

free_left : (mine : List Told) (x : Item) (left : List Item) → HasAll (x ∷ left) mine → ((n : ℕ) → times n (had_of mine) ≤ 1) → IsFree x.frame left
free_left mine x left all once = free_one x.frame left mine (λ n. omega (arith, all n, numbers-cons n x left)) once

valid_is : (homes : Homes) (slots : List (ℕ × Option Frame)) (f : Option Frame) → IsHome homes f → Valid homes slots (takes_of f f)
valid_is homes slots None h = tt
valid_is homes slots (Some f) h = h

abbrev list_head : Item → List Item → Item
list_head d [] = d
list_head d (x ∷ xs) = x

abbrev list_tail : List Item → List Item
list_tail [] = []
list_tail (x ∷ xs) = xs

stands_at : (done left more : List Item) (x : Item) → get_elem? ((done ++ x ∷ left) ++ more) (length done) ≡ some x
stands_at [] left more x = refl
stands_at (y ∷ done) left more x = stands_at done left more x

-- the item lies in the entry of its count
lies_first : (k : Basis) (s : State (Option Frame) View) (rule : Rule k s) (id who : ℕ) (v : View) (r : Ring) (x : Item) (left : List Item) (count : ℕ) → get_elem? s.views id ≡ some v → v.callers ≡ who ∷ [] → who < callers_of k.config
    → HasRing k.config r → who ≡ rings.consumer k.config r → AreLast (x ∷ left) (ring_now k s rule r).held → count + length (x ∷ left) ≡ released_of r (own who v.seen) + held_of r (own who v.seen)
    → Lies k.config s.words r (k.first + count) x
lies_first k s rule id who v r x left count at_id one caller has_ring role last at_count =
    let c = k.config in
    let kn = known k s rule id who v at_id one caller in
    let q : RingState = ring_now k s rule r in
    let done = last.0 in
    let held_done = last.1 in
    let held_is = held_seen k s rule who v kn r has_ring role in
    let released_is = released_seen k s rule who v kn r has_ring role in
    let more : List Item = q.out ++ (written r (flight_of k s rule (rings.producer c r))).whole in
    let there : get_elem? (q.held ++ more) (length done) ≡ some x = subst (λ (h : List Item). get_elem? (h ++ more) (length done) ≡ some x) (sym held_done) (stands_at done left more x) in
    let spot : k.first + released k r rule.log + length done ≡ k.first + count = omega (arith, ap length held_done, length-append done (x ∷ left)) in
    lies_at c s.words r (k.first + released k r rule.log + length done) (k.first + count) x spot ((rule.rings r has_ring).entries (length done) x there)

-- the read of the address word
pub fetches_keep : (slots id : ℕ) (me : Seated) (a : Purpose) (x : Item) (left : List Item) (word : ℕ) → me.0.callers ≡ a.who ∷ [] → me.0.others ≡ [] → HasRing a.setup.config a.ring → a.who ≡ rings.consumer a.setup.config a.ring
    → me.0.flight ≡ taking a.ring (x ∷ left) → (count : ℕ) → count + length (x ∷ left) ≡ emptied a me.0 → word ≡ word_at a.setup.config (entry_of a.setup.config a.ring (a.setup.first + count))
    → a.who < callers_of a.setup.config
    → Allows (Rule a.setup) slots id me word (λ n. n) (fetches a (step slots word 0 0 none) me)
fetches_keep slots id me a x left word one nobody has_ring role flies count at_count at_word caller s rule wide at_id small =
    let k = a.setup in
    let c = k.config in
    let r = a.ring in
    let who = a.who in
    let v = me.0 in
    let f = x.frame in
    let config = rule.legal.opened.config in
    let kn = known k s rule id who v at_id one caller in
    let flight = kn.flight ∙ flies in
    let q : RingState = ring_now k s rule r in
    let flying = subst (IsInFlight k (now k s rule) (own who rule.log) who) flight (rule.in_flight who caller) in
    let all = flying.2 in
    let done = flying.3.0 in
    let held_done = flying.3.1 in
    let has : Has f (own who rule.log) = has_first (own who rule.log) x left all in
    let free : IsFree f left = free_left (own who rule.log) x left all (had_once k s rule who) in
    let lies : AllHome s.homes (x ∷ left) = subst (λ (g : Flight). AllHome s.homes (lying g)) flight (rule.lie who) in
    let fl' : Flight = fetching r x left in
    let not_mine : rings.producer c r ≢ who = λ same. (two_owners c r config has_ring).2 (same ∙ role) in
    let ok = rule.rings r has_ring in
    let first : Lies c s.words r (k.first + count) x = lies_first k s rule id who v r x left count at_id one caller has_ring role flying.3 at_count in
    let found_is : slice_index s.words word ≡ x.desc.addr = ap (λ n. get_or s.words n 0) at_word ∙ first.address in
    let did = shifted k s rule id who r v at_id one nobody caller kn has_ring s.words fl' f (λ _. none) has refl
    (λ r' has' off. same_words c s.words r') (λ m has'. refl)
    (λ r' has' off. sym (ap (written r') flies))
    (subst (λ (g : Flight). RingHolds k s.words r q (given k r rule.log) (released k r rule.log) (written r g)) (sym (get_or-set_other rule.flights who (rings.producer c r) fl' idle not_mine)) ok)
    (has_ring, role, all, (done, held_done))
    (put_else s.homes f (λ _. none) left free lies.1)
    (λ n lt no_mine before. vacant_else s.homes n f (λ _. none) (let t = numbers-cons n x left in omega arith)
    (before (ap (λ (g : Flight). times n (numbers (aloft g))) flies ∙ no_mine))) in
    let w : View = record v { flight = fl' } in (
      w,
      takes_of f f,
      valid_is s.homes me.1 f lies.0,
      subst (λ (t : List ℕ × Homes). Rule k record { words = t.0; homes = t.1; views = set s.views id w }) (λ i. (sym (set-get_or s.words word 0) i, sym (taken_homes s.homes me.1 f f) i)) did,
      λ x' left' flies'.
          let same : x ∷ left ≡ x' ∷ left' = ap lying (sym flies ∙ flies') in
          let P : Item × List Item → Type 0 = λ t. Fetched a t.0 t.1 me (slice_index s.words word) (w, carried_after me.1 (takes_of f f)) in
          subst P (λ i. (list_head x (same i), list_tail (same i))) (record { found_is = found_is; lawful = first.lawful; view = refl; slots = taken_slots s.homes me.1 f f }),
    )

-- the look that gives the slot home
pub settles_keep : (slots id : ℕ) (me : Seated) (a : Purpose) (x : Item) (left : List Item) (word : ℕ) → me.0.callers ≡ a.who ∷ [] → me.0.others ≡ [] → HasRing a.setup.config a.ring → a.who ≡ rings.consumer a.setup.config a.ring
    → me.0.flight ≡ fetching a.ring x left → IsFirst x.frame None me.1 → a.who < callers_of a.setup.config
    → Allows (Rule a.setup) slots id me word (λ n. n) (settles a (step slots word 0 0 none) me)
settles_keep slots id me a x left word one nobody has_ring role flies first caller s rule wide at_id small =
    let k = a.setup in
    let c = k.config in
    let r = a.ring in
    let who = a.who in
    let v = me.0 in
    let f = x.frame in
    let config = rule.legal.opened.config in
    let kn = known k s rule id who v at_id one caller in
    let flight = kn.flight ∙ flies in
    let flying = subst (IsInFlight k (now k s rule) (own who rule.log) who) flight (rule.in_flight who caller) in
    let all = flying.2 in
    let done = flying.3.0 in
    let held_done = flying.3.1 in
    let has : Has f (own who rule.log) = has_first (own who rule.log) x left all in
    let free : IsFree f left = free_left (own who rule.log) x left all (had_once k s rule who) in
    let lies : AllHome s.homes left = subst (λ (g : Flight). AllHome s.homes (lying g)) flight (rule.lie who) in
    let fl' = still r left in
    let not_mine : rings.producer c r ≢ who = λ same. (two_owners c r config has_ring).2 (same ∙ role) in
    let put : Frame → maybe.Option (Option Frame) = λ _. some None in
    let wide' = rule.homes_len in
    let did = shifted k s rule id who r v at_id one nobody caller kn has_ring s.words fl' f put has refl
    (λ r' has' off. same_words c s.words r') (λ m has'. refl)
    (λ r' has' off. written_still r r' left ∙ sym (ap (written r') flies))
    (subst (λ (g : Flight). RingHolds k s.words r (ring_now k s rule r) (given k r rule.log) (released k r rule.log) (written r g)) (sym (get_or-set_other rule.flights who (rings.producer c r) fl' idle not_mine)) (rule.rings r has_ring))
    (flies_still k (now k s rule) (own who rule.log) who r left has_ring role (has_rest (own who rule.log) x left all) (done ++ x ∷ [], held_done ∙ sym (append_assoc done (x ∷ []) left)))
    (subst (AllHome (homes_put s.homes f put)) (sym (lying_still r left)) (put_else s.homes f put left free lies))
    (λ n lt no_mine before. vacant_here s.homes n f (omega arith)
    (λ no_number. before (ap (λ (g : Flight). times n (numbers (aloft g))) flies
    ∙ (let t = numbers-cons n x left in let l = ap (λ m. times n (numbers m)) (aloft_still r left) in omega arith)))) in
    let w : View = record v { flight = fl' } in (
      w,
      gives_of f,
      gives_valid s.homes me.1 f,
      subst (λ (t : List ℕ × Homes). Rule k record { words = t.0; homes = t.1; views = set s.views id w })
          (λ i. (sym (set-get_or s.words word 0) i, sym (given_homes s.homes me.1 f None first) i)) did,
      λ x' left' flies'.
          let same : x ∷ left ≡ x' ∷ left' = ap aloft (sym flies ∙ flies') in
          let P : Item × List Item → Type 0 = λ t. Settled a t.0 t.1 me (w, carried_after me.1 (gives_of f)) in
          subst P (λ i. (list_head x (same i), list_tail (same i))) (record { view = refl; slots = given_slots s.homes me.1 f }),
    )

-- the read of the second word, which gives it home too
pub reads_keep : (slots id : ℕ) (me : Seated) (a : Purpose) (x : Item) (left : List Item) (word : ℕ) → entry_words a.ring ≡ 2 → me.0.callers ≡ a.who ∷ [] → me.0.others ≡ [] → HasRing a.setup.config a.ring → a.who ≡ rings.consumer a.setup.config a.ring
    → me.0.flight ≡ fetching a.ring x left → IsFirst x.frame None me.1 → (count : ℕ) → count + length (x ∷ left) ≡ emptied a me.0 → word ≡ word_at a.setup.config (second_of a.setup.config a.ring (a.setup.first + count))
    → a.who < callers_of a.setup.config
    → Allows (Rule a.setup) slots id me word (λ n. n) (reads a (step slots word 0 0 none) me)
reads_keep slots id me a x left word two one nobody has_ring role flies first count at_count at_word caller s rule wide at_id small =
    let t = settles_keep slots id me a x left word one nobody has_ring role flies first caller s rule wide at_id small in
    let k = a.setup in
    let r = a.ring in
    let who = a.who in
    let kn = known k s rule id who me.0 at_id one caller in
    let flying = subst (IsInFlight k (now k s rule) (own who rule.log) who) (kn.flight ∙ flies) (rule.in_flight who caller) in
    let lies : Lies k.config s.words r (k.first + count) x = lies_first k s rule id who me.0 r x left count at_id one caller has_ring role flying.3 at_count in
    let found_is : slice_index s.words word ≡ second_word x.desc = ap (λ n. get_or s.words n 0) at_word ∙ lies.other two in (
      t.0,
      t.1,
      t.2,
      t.3,
      λ x' left' flies'.
          let same : x ∷ left ≡ x' ∷ left' = ap aloft (sym flies ∙ flies') in
          (t.4 x' left' flies', found_is ∙ (λ i. second_word (list_head x (same i)).desc)),
    )
