-- The raise of the consumer keeps the rule.
use Rattle.std.proofs.Common.{◌≡◌, ◌≢◌, ℕ, ◌+◌, ◌≤◌, [], ◌∷◌, ◌++◌, length, get_or, set, refl, ap, sym, ◌∙◌, subst, get_or-set_other}
use mathlib.Core.Option.{none}
use Rattle.std.proofs.lemmas.List.{length-set}
use Rattle.atomic_table.specs.Table.{step, keeps, Allows}
use Rattle.xsk_model.specs.Config.{size_of}
use Rattle.xsk_model.specs.Numbers.{times, numbers}
use Rattle.xsk_model.specs.Rings as rings
use Rattle.xsk_model.specs.Object.{RingState}
use Rattle.xsk_model.specs.Entry.{own}
use Rattle.xsk_model.specs.Own.{is_on, released_of}
use Rattle.xsk_model.specs.declared.call.Call.TheVariants.{Release}
use Rattle.xsk_model.specs.declared.call.Reply.TheVariants.{Released}
use Rattle.xsk_model.proofs.Roles.{two_owners}
use Rattle.xsk_table.specs.Layout.{consumer, word_at}
use Rattle.xsk_table.specs.View.{Flight, idle, View}
use Rattle.xsk_table.specs.Rule.{wrapped, given, released, written, aloft, RingHolds, Rule}
use Rattle.xsk_table.specs.Plays.{Seated, Purpose, IsReady, releases, entry}
use Rattle.xsk_table.proofs.WordRows.{write_other_ring, write_no_mark, other_ring, ring_word}
use Rattle.xsk_table.proofs.Changed.{Change, ring_now}
use Rattle.xsk_table.proofs.Knowing.{known, legal_now, released_seen, held_seen}
use Rattle.xsk_table.proofs.Adding.{adds, acts}
use Rattle.xsk_table.proofs.RingSteps.{release_ring}

pub releases_keep : (slots id : ℕ) (me : Seated) (a : Purpose) (word new : ℕ) → IsReady a (Release a.ring a.count) me.0 → me.0.flight ≡ idle → word ≡ word_at a.setup.config (consumer a.ring)
    → new ≡ wrapped a.setup (released_of a.ring (own a.who me.0.seen) + a.count)
    → Allows (Rule a.setup) slots id me word (λ _. new) (λ _. releases a (step slots word new 0 none) me new)
releases_keep slots id me a word new ready rests at_word new_is s rule wide at small =
    let k = a.setup in
    let c = k.config in
    let r = a.ring in
    let who = a.who in
    let v = me.0 in
    let call = Release r a.count in
    let kn = known k s rule id who v at ready.one ready.legal.caller in
    let legal = legal_now k s rule who call v kn ready.legal in
    let has = legal.known in
    let role = legal.role in
    let config = rule.legal.opened.config in
    let q : RingState = ring_now k s rule r in
    let e = entry who call Released in
    let is : new ≡ wrapped k (released k r rule.log + a.count) = new_is ∙ ap (λ n. wrapped k (n + a.count)) (sym (released_seen k s rule who v kn r has role)) in
    let le : a.count ≤ length q.held = subst (λ (n : ℕ). a.count ≤ n) (sym (held_seen k s rule who v kn r has role)) ready.legal.counted.2 in
    let words' = set s.words (word_at c (consumer r)) new in
    let not_mine : rings.producer c r ≢ who = λ same. (two_owners c r config has).2 (same ∙ role) in
    let ok : RingHolds k s.words r q (given k r rule.log) (released k r rule.log) (written r (get_or (set rule.flights who idle) (rings.producer c r) idle)) =
    subst (λ (f : Flight). RingHolds k s.words r q (given k r rule.log) (released k r rule.log) (written r f)) (sym (get_or-set_other rule.flights who (rings.producer c r) idle idle not_mine)) (rule.rings r has) in
    let ch : Change k s rule who (λ r'. is_on r' call) words' s.homes (rule.log ++ e ∷ []) idle = adds k s rule e legal r has (λ r'. refl) words' idle refl (length-set s.words _ _)
    (λ r' has' off. write_other_ring c s.words (consumer r) new config has r' has' (other_ring r' r off))
    (λ m has'. write_no_mark c s.words (consumer r) new config has m has' (ring_word r))
    (λ m. refl)
    (λ r' has' off. sym (ap (written r') (kn.flight ∙ rests)))
    (release_ring k s.words r q (size_of c r) (given k r rule.log) (released k r rule.log) a.count new _ config has rule.words_len le is ok)
    tt (rule.outs r has) tt
    (λ n none_out none_mine. (none_out, ap (λ (f : Flight). times n (numbers (aloft f))) (kn.flight ∙ rests))) in
    let did = acts k s rule id who call v words' idle at ready.one ready.alone kn legal ch in
    let w : View = record v { seen = rule.log ++ e ∷ []; flight = idle } in (
      w,
      keeps,
      tt,
      subst (λ (i : ℕ). Rule k record { words = set s.words i new; homes = s.homes; views = set s.views id w }) (sym at_word) did.0,
      record { extends = did.1; slots = refl; flight = refl },
    )
