-- The raise of the producer keeps the rule.
use Rattle.std.proofs.Common.{◌≡◌, ℕ, ◌+◌, List, [], ◌∷◌, ◌++◌, length, set, refl, ap, sym, ◌∙◌, arith, subst}
use mathlib.Core.Option.{none}
use Rattle.std.proofs.lemmas.List.{length-set}
use Rattle.atomic_table.specs.Table.{step, keeps, Allows}
use Rattle.xsk_umem.specs.declared.batch.Item.{Item}
use Rattle.xsk_model.specs.Config.{size_of}
use Rattle.xsk_model.specs.Numbers.{times, numbers}
use Rattle.xsk_model.specs.Object.{RingState, ring_after}
use Rattle.xsk_model.specs.Entry.{own}
use Rattle.xsk_model.specs.Own.{is_on, given_of}
use Rattle.xsk_model.specs.declared.call.Call.TheVariants.{Submit}
use Rattle.xsk_model.specs.declared.call.Reply.TheVariants.{Submitted}
use Rattle.xsk_model.proofs.Counting.{times-append, numbers-append}
use Rattle.xsk_table.specs.Layout.{producer, word_at}
use Rattle.xsk_table.specs.View.{Flight, idle, placing, View}
use Rattle.xsk_table.specs.Rule.{wrapped, opened, given, released, Written, written, lying, aloft, AllHome, Homes, RingHolds, Rule}
use Rattle.xsk_table.specs.Plays.{Seated, Purpose, IsReady, Ended, submits, entry}
use Rattle.xsk_table.proofs.WordRows.{write_other_ring, write_no_mark, other_ring, ring_word}
use Rattle.xsk_table.proofs.Changed.{Change, ring_now}
use Rattle.xsk_table.proofs.Knowing.{known, legal_now, given_seen, flight_here, flight_then}
use Rattle.xsk_table.proofs.Adding.{adds, acts}
use Rattle.xsk_table.proofs.RingSteps.{submit_ring, written_here, written_else}

pub home-append : (homes : Homes) (xs ys : List Item) → AllHome homes xs → AllHome homes ys → AllHome homes (xs ++ ys)
home-append homes [] ys h i = i
home-append homes (x ∷ xs) ys h i = (h.0, home-append homes xs ys h.1 i)

pub submits_keep : (slots id : ℕ) (me : Seated) (a : Purpose) (items : List Item) (word new : ℕ) → IsReady a (Submit a.ring items) me.0 → me.0.flight ≡ placing a.ring items → word ≡ word_at a.setup.config (producer a.ring)
    → new ≡ wrapped a.setup (opened a.setup a.ring + given_of a.ring (own a.who me.0.seen) + length items)
    → Allows (Rule a.setup) slots id me word (λ _. new) (λ _. submits a (step slots word new 0 none) me new)
submits_keep slots id me a items word new ready flies at_word new_is s rule wide at small =
    let k = a.setup in
    let c = k.config in
    let r = a.ring in
    let who = a.who in
    let v = me.0 in
    let call = Submit r items in
    let kn = known k s rule id who v at ready.one ready.legal.caller in
    let legal = legal_now k s rule who call v kn ready.legal in
    let has = legal.known in
    let role = legal.role in
    let config = rule.legal.opened.config in
    let q : RingState = ring_now k s rule r in
    let e = entry who call Submitted in
    let is : new ≡ wrapped k (given k r rule.log + length items) = new_is ∙ ap (λ n. wrapped k (n + length items)) (sym (given_seen k s rule who v kn r has role)) in
    let words' = set s.words (word_at c (producer r)) new in
    let ok : RingHolds k s.words r q (given k r rule.log) (released k r rule.log) (record { whole = items; half = [] }) =
    subst (λ (l : Written). RingHolds k s.words r q (given k r rule.log) (released k r rule.log) l) (ap (written r) (flight_here k s rule who v kn r has role ∙ flies) ∙ written_here r items) (rule.rings r has) in
    let lies : AllHome s.homes items = subst (λ (f : Flight). AllHome s.homes (lying f)) (kn.flight ∙ flies) (rule.lie who) in
    let ch : Change k s rule who (λ r'. is_on r' call) words' s.homes (rule.log ++ e ∷ []) idle = adds k s rule e legal r has (λ r'. refl) words' idle refl (length-set s.words _ _)
    (λ r' has' off. write_other_ring c s.words (producer r) new config has r' has' (other_ring r' r off))
    (λ m has'. write_no_mark c s.words (producer r) new config has m has' (ring_word r))
    (λ m. refl)
    (λ r' has' off. sym (ap (written r') (kn.flight ∙ flies) ∙ written_else r r' items off))
    (subst (λ (f : Flight). RingHolds k words' r (ring_after (size_of c r) q call) (given k r rule.log + length items) (released k r rule.log + 0) (written r f)) (sym (flight_then k s rule who v kn r has idle role))
    (submit_ring k s.words r q (size_of c r) (given k r rule.log) (released k r rule.log) new items config has rule.words_len is ok))
    tt (home-append s.homes q.out items (rule.outs r has) lies) tt
    (λ n none_out none_mine. let t = times-append n (numbers q.out) (numbers items) in let u = ap (times n) (numbers-append q.out items) in
    (omega arith, ap (λ (f : Flight). times n (numbers (aloft f))) (kn.flight ∙ flies) ∙ omega arith)) in
    let did = acts k s rule id who call v words' idle at ready.one ready.alone kn legal ch in
    let w : View = record v { seen = rule.log ++ e ∷ []; flight = idle } in (
      w,
      keeps,
      tt,
      subst (λ (i : ℕ). Rule k record { words = set s.words i new; homes = s.homes; views = set s.views id w }) (sym at_word) did.0,
      λ items' flies'. let same : items ≡ items' = ap lying (sym flies ∙ flies') in
          subst (λ (l : List Item). Ended a (Submit r l) Submitted me (w, me.1)) same (record { extends = did.1; slots = refl; flight = refl }),
    )
