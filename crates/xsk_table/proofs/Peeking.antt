-- The look of a Peek keeps the rule, and so does a look at any word where all that the Peek asks for is known to be out.
use Rattle.std.proofs.Common.{◌≡◌, ◌≢◌, ℕ, ◌+◌, ◌≤◌, suc, zero, List, [], ◌∷◌, ◌++◌, length, get_or, set, take, drop, min, refl, ap, sym, ◌∙◌, arith, subst, get_or-set_other, length-take, length-append, take-append-drop}
use Rattle.std.specs.Prelude.{slice_index, Option}
use mathlib.Core.Option.{some, none}
use lib.ListN.{get_elem?}
use lib.Seq.{set-get_or}
use Rattle.atomic_table.specs.Table.{State, step, keeps, Allows}
use Rattle.xsk_umem.specs.Frame.{Frame}
use Rattle.xsk_umem.specs.declared.batch.Item.{Item}
use Rattle.xsk_model.specs.Config.{HasRing, size_of}
use Rattle.xsk_model.specs.Numbers.{times, numbers}
use Rattle.xsk_model.specs.Rings as rings
use Rattle.xsk_model.specs.Object as object
use Rattle.xsk_model.specs.Object.{RingState, ring_at, ring_after, peek_reply, reply_at, taken, had_after}
use Rattle.xsk_model.specs.Entry.{Told, own, told}
use Rattle.xsk_model.specs.Own.{is_on, had_of}
use Rattle.xsk_model.specs.declared.call.Ring.{Ring}
use Rattle.xsk_model.specs.declared.call.Call.TheVariants.{Peek}
use Rattle.xsk_model.specs.declared.call.Reply.{Reply}
use Rattle.xsk_model.proofs.Counting.{times-append, numbers-append}
use Rattle.xsk_model.proofs.Folds.{own-push_same, had_of-push}
use Rattle.xsk_model.proofs.Moves.{taken-peek}
use Rattle.xsk_model.proofs.Roles.{two_owners}
use Rattle.xsk_table.specs.Words.{used_of}
use Rattle.xsk_table.specs.Layout.{producer, word_at}
use Rattle.xsk_table.proofs.Counts.{used_is}
use Rattle.xsk_table.specs.View.{Basis, Flight, idle, View}
use Rattle.xsk_table.specs.Rule.{wrapped, nothing, given, released, written, lying, aloft, AllHome, Homes, HasAll, AreLast, IsInFlight, RingHolds, Rule}
use Rattle.xsk_table.specs.Known.{out_after}
use Rattle.xsk_table.specs.Plays.{Seated, Purpose, IsReady, Extends, HasItems, peeks, gives, still, items_reply, emptied, entry}
use Rattle.xsk_table.proofs.WordRows.{same_words, ring_size}
use Rattle.xsk_table.proofs.Changed.{Change, now, ring_now}
use Rattle.xsk_table.proofs.Knowing.{known, legal_now, numbers_are, released_seen, held_seen}
use Rattle.xsk_table.proofs.Adding.{later, ring_here, adds, acts}
use Rattle.xsk_table.proofs.Growing.{given_grows}
use Rattle.xsk_table.proofs.RingSteps.{peek_ring}

home-take : (homes : Homes) (xs : List Item) (n : ℕ) → AllHome homes xs → AllHome homes (take n xs)
home-take homes [] zero h = tt
home-take homes [] (suc n) h = tt
home-take homes (x ∷ xs) zero h = tt
home-take homes (x ∷ xs) (suc n) h = (h.0, home-take homes xs n h.1)

home-drop : (homes : Homes) (xs : List Item) (n : ℕ) → AllHome homes xs → AllHome homes (drop n xs)
home-drop homes [] zero h = tt
home-drop homes [] (suc n) h = tt
home-drop homes (x ∷ xs) zero h = h
home-drop homes (x ∷ xs) (suc n) h = home-drop homes xs n h.1

reply_is : (out : List Item) (n : ℕ) → 1 ≤ n → peek_reply n out ≡ items_reply (take n out)
reply_is out zero h = absurd (omega arith)
reply_is [] (suc n) h = refl
reply_is (x ∷ xs) (suc n) h = refl

pub lying_still : (r : Ring) (items : List Item) → lying (still r items) ≡ items
lying_still r [] = refl
lying_still r (x ∷ xs) = refl

pub aloft_still : (r : Ring) (items : List Item) → aloft (still r items) ≡ items
aloft_still r [] = refl
aloft_still r (x ∷ xs) = refl

pub written_still : (r r' : Ring) (items : List Item) → written r' (still r items) ≡ nothing
written_still r r' [] = refl
written_still r r' (x ∷ xs) = refl

pub flies_still : (k : Basis) (s : object.State) (mine : List Told) (who : ℕ) (r : Ring) (items : List Item) → HasRing k.config r → who ≡ rings.consumer k.config r → HasAll items mine
    → AreLast items (ring_at k.config s r).held → IsInFlight k s mine who (still r items)
flies_still k s mine who r [] has role all last = tt
flies_still k s mine who r (x ∷ xs) has role all last = (has, role, all, last)

module _ (a : Purpose) (s : State (Option Frame) View) (rule : Rule a.setup s) (id : ℕ) (v : View) (at : get_elem? s.views id ≡ some v) (ready : IsReady a (Peek a.ring a.count) v)
    (rests : v.flight ≡ idle) where
  -- the items that it gets
  abbrev got : List Item
  got = take a.count (ring_now a.setup s rule a.ring).out

  abbrev reply_now : Reply
  reply_now = reply_at a.setup.config (now a.setup s rule) (Peek a.ring a.count)

  abbrev seen_then : View
  seen_then = record v { seen = rule.log ++ entry a.who (Peek a.ring a.count) reply_now ∷ []; flight = still a.ring got }

  -- the rule afterwards with the words as they were, and what the call tells
  did : Rule a.setup (record { words = s.words; homes = s.homes; views = set s.views id seen_then }) × Extends a.setup a.who (Peek a.ring a.count) (items_reply got) v seen_then
  did =
      let k = a.setup in
      let c = k.config in
      let r = a.ring in
      let who = a.who in
      let call = Peek r a.count in
      let kn = known k s rule id who v at ready.one ready.legal.caller in
      let legal = legal_now k s rule who call v kn ready.legal in
      let has = legal.known in
      let role = legal.role in
      let config = rule.legal.opened.config in
      let q : RingState = ring_now k s rule r in
      let items = got in
      let reply = reply_now in
      let reply_items : reply ≡ items_reply items = reply_is q.out a.count legal.counted.0 in
      let e = entry who call reply in
      let fl' = still r items in
      let is_idle = kn.flight ∙ rests in
      let not_mine : rings.producer c r ≢ who = λ same. (two_owners c r config has).2 (same ∙ role) in
      let ok : RingHolds k s.words r q (given k r rule.log) (released k r rule.log) (written r (get_or (set rule.flights who fl') (rings.producer c r) idle)) =
      subst (λ (f : Flight). RingHolds k s.words r q (given k r rule.log) (released k r rule.log) (written r f)) (sym (get_or-set_other rule.flights who (rings.producer c r) fl' idle not_mine)) (rule.rings r has) in
      let had : had_of (own who (rule.log ++ e ∷ [])) ≡ had_of (own who rule.log) ++ numbers items =
      ap had_of (own-push_same who rule.log e refl) ∙ had_of-push (own who rule.log) (told e) ∙ ap (λ l. had_of (own who rule.log) ++ numbers l) (taken-peek a.count q.out) in
      let all : HasAll items (own who (rule.log ++ e ∷ [])) = λ n. subst (λ (l : List ℕ). times n (numbers items) ≤ times n l) (sym had) (omega (arith, times-append n (had_of (own who rule.log)) (numbers items))) in
      let last : AreLast items (ring_at c (later k s rule e legal) r).held = (q.held, ap (λ (z : RingState). z.held) (ring_here k s rule e legal r has (λ r'. refl))) in
      let ch : Change k s rule who (λ r'. is_on r' call) s.words s.homes (rule.log ++ e ∷ []) fl' = adds k s rule e legal r has (λ r'. refl) s.words fl' refl refl
      (λ r' has' off. same_words c s.words r') (λ m has'. refl) (λ m. refl)
      (λ r' has' off. written_still r r' items ∙ sym (ap (written r') is_idle))
      (peek_ring k s.words r q (size_of c r) (given k r rule.log) (released k r rule.log) a.count _ ok)
      (flies_still k (later k s rule e legal) (own who (rule.log ++ e ∷ [])) who r items has role all last)
      (home-drop s.homes q.out a.count (rule.outs r has))
      (subst (AllHome s.homes) (sym (lying_still r items)) (home-take s.homes q.out a.count (rule.outs r has)))
      (λ n none_out none_mine. let t = times-append n (numbers items) (numbers (drop a.count q.out)) in let u = ap (times n) (sym (numbers-append items (drop a.count q.out)) ∙ ap numbers (take-append-drop a.count q.out)) in
      let l = ap (λ m. times n (numbers m)) (aloft_still r items) in (omega arith, ap (λ (f : Flight). times n (numbers (aloft f))) is_idle)) in
      let done = acts k s rule id who call v s.words fl' at ready.one ready.alone kn legal ch in
      (done.0, subst (λ (t : Reply). Extends k who call t v seen_then) reply_items done.1)

  -- what came into the ring is what the caller has released and holds, and what is out
  total : given a.setup a.ring rule.log ≡ emptied a v + length (ring_now a.setup s rule a.ring).out
  total =
      let kn = known a.setup s rule id a.who v at ready.one ready.legal.caller in
      let has = ready.legal.known in
      let counts = (numbers_are a.setup s rule a.ring has).counts in
      let released_is = released_seen a.setup s rule a.who v kn a.ring has ready.legal.role in
      let held_is = held_seen a.setup s rule a.who v kn a.ring has ready.legal.role in
      omega arith

  -- the items out before and after it
  left : length (ring_now a.setup s rule a.ring).out ≡ length got + out_after a.setup (rule.log ++ entry a.who (Peek a.ring a.count) reply_now ∷ []) a.ring
  left =
      let k = a.setup in
      let out = (ring_now k s rule a.ring).out in
      let kn = known k s rule id a.who v at ready.one ready.legal.caller in
      let legal = legal_now k s rule a.who (Peek a.ring a.count) v kn ready.legal in
      ap (length {A = Item}) (sym (take-append-drop a.count out)) ∙ length-append got (drop a.count out)
      ∙ ap (λ (x : RingState). length got + length x.out) (sym (ring_here k s rule (entry a.who (Peek a.ring a.count) reply_now) legal a.ring legal.known (λ r. refl)))

pub peeks_keep : (slots id : ℕ) (me : Seated) (a : Purpose) (word : ℕ) → IsReady a (Peek a.ring a.count) me.0 → me.0.flight ≡ idle → word ≡ word_at a.setup.config (producer a.ring)
    → Allows (Rule a.setup) slots id me word (λ n. n) (peeks a (step slots word 0 0 none) me)
peeks_keep slots id me a word ready rests at_word s rule wide at small =
    let k = a.setup in
    let r = a.ring in
    let v = me.0 in
    let has = ready.legal.known in
    let q : RingState = ring_now k s rule r in
    let done = did a s rule id v at ready rests in
    let w : View = seen_then a s rule id v at ready rests in
    let items = got a s rule id v at ready rests in
    let found_is : slice_index s.words word ≡ wrapped k (given k r rule.log) = ap (λ n. get_or s.words n 0) at_word ∙ (rule.rings r has).producer_is in
    let within = (numbers_are k s rule r has).within in
    let size = ring_size k.config r rule.legal.opened.config has in
    let most : size_of k.config r ≤ 2048 = size.most in
    let all = total a s rule id v at ready rests in
    let apart = used_is (k.first + given k r rule.log) (k.first + emptied a v) (omega arith) (omega arith) in
    let out_len : used_of (wrapped k (given k r rule.log)) (wrapped k (emptied a v)) ≡ length q.out = apart ∙ omega arith in
    let found_len : used_of (slice_index s.words word) (wrapped k (emptied a v)) ≡ length q.out = ap (λ n. used_of n (wrapped k (emptied a v))) found_is ∙ out_len in (
      w,
      keeps,
      tt,
      subst (λ (ws : List ℕ). Rule k record { words = ws; homes = s.homes; views = set s.views id w }) (sym (set-get_or s.words word 0)) done.0,
      record {
        items = items;
        extends = done.1;
        count = length-take a.count q.out ∙ ap (λ n. min a.count n) (sym found_len);
        left = found_len ∙ left a s rule id v at ready rests;
        small = rw found_is (omega arith);
        slots = refl;
        flight = refl;
      },
    )

-- the items that are known to be out are out
pub gives_keep : (slots id : ℕ) (me : Seated) (a : Purpose) (word : ℕ) → IsReady a (Peek a.ring a.count) me.0 → me.0.flight ≡ idle → HasItems a me.0
    → Allows (Rule a.setup) slots id me word (λ n. n) (gives a (step slots word 0 0 none) me)
gives_keep slots id me a word ready rests there s rule wide at small =
    let k = a.setup in
    let r = a.ring in
    let v = me.0 in
    let out = (ring_now k s rule r).out in
    let done = did a s rule id v at ready rests in
    let w : View = seen_then a s rule id v at ready rests in
    let all = total a s rule id v at ready rests in
    let more = given_grows k r rule.log v.seen (rule.seats id v at).seen in (
      w,
      keeps,
      tt,
      subst (λ (ws : List ℕ). Rule k record { words = ws; homes = s.homes; views = set s.views id w }) (sym (set-get_or s.words word 0)) done.0,
      record { items = got a s rule id v at ready rests; extends = done.1; count = omega (arith, length-take a.count out); slots = refl; flight = refl },
    )
