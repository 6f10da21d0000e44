-- The look of a Reserve keeps the rule, and so does a look at any word where the Reserve is known to be granted.
use Rattle.std.proofs.Common.{◌≡◌, ℕ, ◌+◌, ◌≤◌, Bool, true, false, cond, nat_le, leb-true, leb-false, List, [], ◌∷◌, ◌++◌, length, get_or, set, refl, ap, sym, ◌∙◌, arith, subst}
use Rattle.std.specs.Prelude.{slice_index, Option}
use mathlib.Core.Option.{some, none}
use lib.ListN.{get_elem?}
use lib.Seq.{set-get_or}
use Rattle.atomic_table.specs.Table.{State, step, keeps, Allows}
use Rattle.xsk_umem.specs.Frame.{Frame}
use Rattle.xsk_model.specs.Config.{size_of}
use Rattle.xsk_model.specs.Numbers.{times, numbers}
use Rattle.xsk_model.specs.Object.{RingState, free, ring_after, reserve_reply, reply_at}
use Rattle.xsk_model.specs.Own.{is_on, granted}
use Rattle.xsk_model.specs.declared.call.Ring.{Ring}
use Rattle.xsk_model.specs.declared.call.Call.TheVariants.{Reserve}
use Rattle.xsk_model.specs.declared.call.Reply.{Reply}
use Rattle.xsk_model.specs.declared.call.Reply.TheVariants.{Granted, Full}
use Rattle.xsk_model.proofs.Moves.{cond-out}
use Rattle.xsk_table.specs.Words.{used_of}
use Rattle.xsk_table.specs.Layout.{consumer, word_at}
use Rattle.xsk_table.proofs.Counts.{used_is}
use Rattle.xsk_table.specs.View.{Flight, idle, View}
use Rattle.xsk_table.specs.Rule.{wrapped, nothing, given, released, written, aloft, AllHome, RingHolds, Rule}
use Rattle.xsk_table.specs.Known.{free_after}
use Rattle.xsk_table.specs.Plays.{Seated, Purpose, IsReady, Extends, HasRoom, reserves, grants, filled, entry}
use Rattle.xsk_table.proofs.WordRows.{same_words, ring_size}
use Rattle.xsk_table.proofs.Changed.{Change, now, ring_now}
use Rattle.xsk_table.proofs.Knowing.{known, legal_now, numbers_are, given_seen, room_seen, flight_here, flight_then}
use Rattle.xsk_table.proofs.Adding.{adds, acts, ring_here}
use Rattle.xsk_table.proofs.Growing.{released_grows}
use Rattle.xsk_table.proofs.RingSteps.{reserve_ring}

-- what a Reserve leaves free
left_by : (r : Ring) (b : Bool) (size n : ℕ) (q : RingState) → nat_le n (free size q) ≡ b
    → free size q ≡ free size (cond b (record q { room = q.room + n }) q) + granted (Reserve r n) (cond b Granted (Full (free size q)))
left_by r true size n q e = let le = leb-true n (free size q) e in omega arith
left_by r false size n q e = omega arith

pub granted_by : (n places : ℕ) → n ≤ places → reserve_reply n places ≡ Granted
granted_by n places le = by_test (nat_le n places) refl
  where
    by_test : (b : Bool) → nat_le n places ≡ b → cond b Granted (Full places) ≡ Granted
    by_test true e = refl
    by_test false e = absurd (let lt = leb-false n places e in omega arith)

module _ (a : Purpose) (s : State (Option Frame) View) (rule : Rule a.setup s) (id : ℕ) (v : View) (at : get_elem? s.views id ≡ some v) (ready : IsReady a (Reserve a.ring a.count) v)
    (rests : v.flight ≡ idle) where
  -- the object's reply
  abbrev reply_now : Reply
  reply_now = reply_at a.setup.config (now a.setup s rule) (Reserve a.ring a.count)

  abbrev seen_then : View
  seen_then = record v { seen = rule.log ++ entry a.who (Reserve a.ring a.count) reply_now ∷ []; flight = idle }

  -- the rule afterwards with the words as they were, and what the call tells
  did : Rule a.setup (record { words = s.words; homes = s.homes; views = set s.views id seen_then }) × Extends a.setup a.who (Reserve a.ring a.count) reply_now v seen_then
  did =
      let k = a.setup in
      let c = k.config in
      let r = a.ring in
      let who = a.who in
      let call = Reserve r a.count in
      let kn = known k s rule id who v at ready.one ready.legal.caller in
      let legal = legal_now k s rule who call v kn ready.legal in
      let has = legal.known in
      let role = legal.role in
      let q : RingState = ring_now k s rule r in
      let e = entry who call reply_now in
      let ok : RingHolds k s.words r q (given k r rule.log) (released k r rule.log) nothing =
      subst (λ (f : Flight). RingHolds k s.words r q (given k r rule.log) (released k r rule.log) (written r f)) (flight_here k s rule who v kn r has role ∙ rests) (rule.rings r has) in
      let out_is : (ring_after (size_of c r) q call).out ≡ q.out = cond-out (nat_le a.count (free (size_of c r) q)) q a.count in
      let ch : Change k s rule who (λ r'. is_on r' call) s.words s.homes (rule.log ++ e ∷ []) idle = adds k s rule e legal r has (λ r'. refl) s.words idle refl refl
      (λ r' has' off. same_words c s.words r') (λ m has'. refl) (λ m. refl)
      (λ r' has' off. sym (ap (written r') (kn.flight ∙ rests)))
      (subst (λ (f : Flight). RingHolds k s.words r (ring_after (size_of c r) q call) (given k r rule.log + 0) (released k r rule.log + 0) (written r f)) (sym (flight_then k s rule who v kn r has idle role))
      (reserve_ring k s.words r q (size_of c r) (given k r rule.log) (released k r rule.log) a.count ok))
      tt (subst (AllHome s.homes) (sym out_is) (rule.outs r has)) tt
      (λ n none_out none_mine. (ap (λ l. times n (numbers l)) (sym out_is) ∙ none_out, ap (λ (f : Flight). times n (numbers (aloft f))) (kn.flight ∙ rests))) in
      acts k s rule id who call v s.words idle at ready.one ready.alone kn legal ch

  -- what the caller has given and reserved is what was released and all that the ring holds
  total : filled a v ≡ released a.setup a.ring rule.log + length (ring_now a.setup s rule a.ring).held + length (ring_now a.setup s rule a.ring).out + (ring_now a.setup s rule a.ring).room
  total =
      let kn = known a.setup s rule id a.who v at ready.one ready.legal.caller in
      let has = ready.legal.known in
      let nums = numbers_are a.setup s rule a.ring has in
      let given_is = given_seen a.setup s rule a.who v kn a.ring has ready.legal.role in
      let room_is = room_seen a.setup s rule a.who v kn a.ring has ready.legal.role in
      let counts = nums.counts in
      omega arith

  -- the free places before and after it
  left : free (size_of a.setup.config a.ring) (ring_now a.setup s rule a.ring) ≡ free_after a.setup (rule.log ++ entry a.who (Reserve a.ring a.count) reply_now ∷ []) a.ring + granted (Reserve a.ring a.count) reply_now
  left =
      let k = a.setup in
      let size : ℕ = size_of k.config a.ring in
      let q : RingState = ring_now k s rule a.ring in
      let kn = known k s rule id a.who v at ready.one ready.legal.caller in
      let legal = legal_now k s rule a.who (Reserve a.ring a.count) v kn ready.legal in
      left_by a.ring (nat_le a.count (free size q)) size a.count q refl
      ∙ ap (λ (x : RingState). free size x + granted (Reserve a.ring a.count) reply_now) (sym (ring_here k s rule (entry a.who (Reserve a.ring a.count) reply_now) legal a.ring legal.known (λ r. refl)))

pub reserves_keep : (slots id : ℕ) (me : Seated) (a : Purpose) (word : ℕ) → IsReady a (Reserve a.ring a.count) me.0 → me.0.flight ≡ idle → word ≡ word_at a.setup.config (consumer a.ring)
    → Allows (Rule a.setup) slots id me word (λ n. n) (reserves a (step slots word 0 0 none) me)
reserves_keep slots id me a word ready rests at_word s rule wide at small =
    let k = a.setup in
    let r = a.ring in
    let v = me.0 in
    let has = ready.legal.known in
    let q : RingState = ring_now k s rule r in
    let places : ℕ = free (size_of k.config r) q in
    let done = did a s rule id v at ready rests in
    let w : View = seen_then a s rule id v at ready rests in
    let found_is : slice_index s.words word ≡ wrapped k (released k r rule.log) = ap (λ n. get_or s.words n 0) at_word ∙ (rule.rings r has).consumer_is in
    let nums = numbers_are k s rule r has in
    let size = ring_size k.config r rule.legal.opened.config has in
    let most : size_of k.config r ≤ 2048 = size.most in
    let within = nums.within in
    let all = total a s rule id v at ready rests in
    let apart = used_is (k.first + filled a v) (k.first + released k r rule.log) (omega arith) (omega arith) in (
      w,
      keeps,
      tt,
      subst (λ (ws : List ℕ). Rule k record { words = ws; homes = s.homes; views = set s.views id w }) (sym (set-get_or s.words word 0)) done.0,
      record {
        free = places;
        extends = done.1;
        left = left a s rule id v at ready rests;
        found_is = ap (λ n. places + used_of (wrapped k (filled a v)) n) found_is ∙ ap (λ n. places + n) apart ∙ omega arith;
        small = rw found_is (omega arith);
        slots = refl;
        flight = refl;
      },
    )

-- the places that are known to be free are free
pub grants_keep : (slots id : ℕ) (me : Seated) (a : Purpose) (word : ℕ) → IsReady a (Reserve a.ring a.count) me.0 → me.0.flight ≡ idle → HasRoom a me.0
    → Allows (Rule a.setup) slots id me word (λ n. n) (grants a (step slots word 0 0 none) me)
grants_keep slots id me a word ready rests room s rule wide at small =
    let k = a.setup in
    let r = a.ring in
    let v = me.0 in
    let done = did a s rule id v at ready rests in
    let w : View = seen_then a s rule id v at ready rests in
    let all = total a s rule id v at ready rests in
    let more = released_grows k r rule.log v.seen (rule.seats id v at).seen in
    let granted_is : reply_now a s rule id v at ready rests ≡ Granted = granted_by a.count (free (size_of k.config r) (ring_now k s rule r)) (omega arith) in (
      w,
      keeps,
      tt,
      subst (λ (ws : List ℕ). Rule k record { words = ws; homes = s.homes; views = set s.views id w }) (sym (set-get_or s.words word 0)) done.0,
      record { extends = subst (λ (t : Reply). Extends k a.who (Reserve r a.count) t v w) granted_is done.1; slots = refl; flight = refl },
    )
