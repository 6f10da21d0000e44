-- A pass that places and fetches items.
use Rattle.std.proofs.Common.{◌≡◌, ℕ, ◌+◌, ◌-◌, ◌*◌, ◌%◌, ◌^◌, ◌<◌, ◌≤◌, List, [], ◌∷◌, ◌++◌, length, get_or, ap, sym, ◌∙◌, arith, subst, Option, length-append}
use Rattle.std.specs.Prelude.{All}
use Rattle.std.proofs.Math.Seq.{get_or-append_seam}
use Rattle.xsk_umem.specs.Frame.{Frame}
use Rattle.xsk_umem.specs.Batch.{blank}
use Rattle.xsk_umem.specs.declared.batch.Item.{Item}
use Rattle.xsk_model.specs.Config.{HasRing, size_of}
use Rattle.xsk_model.specs.Numbers.{times, numbers}
use Rattle.xsk_model.specs.Entry.{own}
use Rattle.xsk_model.specs.Legal.{IsItemOn, IsLegal}
use Rattle.xsk_model.specs.declared.call.Ring.{Ring}
use Rattle.xsk_model.specs.declared.call.Call.TheVariants.{Submit}
use Rattle.xsk_model.proofs.Counting.{times-append, numbers-append}
use Rattle.xsk_table.specs.Layout.{entry_words, ring_base, marks_base, words_of}
use Rattle.xsk_table.proofs.Rows.{base_within}
use Rattle.xsk_table.specs.View.{Basis, Flight, placing, taking, View}
use Rattle.xsk_table.specs.Rule.{wrapped, lying}
use Rattle.xsk_table.specs.Plays.{ask_for, ask_item, CanPlace, PutIn, still, emptied}
use Rattle.xsk_table.specs.Held.{AreLeft, EndHolds, PassHolds}
use Rattle.xsk_table.specs.declared.end.End.{End}
use Rattle.xsk_table.proofs.Slots.{numbers-cons, numbers-last}
use Rattle.xsk_table.proofs.Peeking.{lying_still}
use Rattle.xsk_table.proofs.Holding.{still_taking}

-- the first of the items that follow may be placed
pub can_place : (v : View) (who : ℕ) (r : Ring) (x : Item) (more rest : List Item) → v.callers ≡ who ∷ [] → v.others ≡ [] → rest ≡ x ∷ more
    → IsLegal v.setup.config (own who v.seen) who (Submit r (lying v.flight ++ rest)) → CanPlace (ask_item v.setup who r x) v
can_place v who r x more rest one nobody is legal' =
    let items = lying v.flight in
    let legal = subst (λ (l : List Item). IsLegal v.setup.config (own who v.seen) who (Submit r (items ++ l))) is legal' in
    let all : All (IsItemOn v.setup.config.geometry r) (items ++ x ∷ more) = legal.items in
    let long : length items < length (items ++ x ∷ more) = omega (arith, length-append items (x ∷ more)) in
    let there : get_or (items ++ x ∷ more) (length items) blank ≡ x = get_or-append_seam items x more blank in
    record {
      one = one;
      alone = nobody;
      ring = legal.known;
      role = legal.role;
      lawful = subst (IsItemOn v.setup.config.geometry r) there (all (length items) blank long);
      room = let h = legal.counted.2 in omega (arith, length-append items (x ∷ more));
      has = λ n. omega (
        arith,
        legal.frames n,
        ap (times n) (numbers-append items (x ∷ more)),
        times-append n (numbers items) (numbers (x ∷ more)),
        numbers-cons n x more,
        numbers-last n items x,
      );
    }

placing_taking : (r s : Ring) (xs ys : List Item) → placing r xs ≡ taking s ys → ⊥
placing_taking r s xs ys e = cc

-- a pass that has placed an item
pub pass_placed : (v w : View) (slots slots' : List (ℕ × Option Frame)) (who : ℕ) (ends : List End) (flying : ℕ) (r : Ring) (x : Item)
    → PassHolds v slots who ends flying → PutIn r x (v, slots) (w, slots') → PassHolds w slots' who ends (flying + 1)
pass_placed v w slots slots' who ends flying r x ok did =
    let P : View → Type 0 = λ u. PassHolds u slots' who ends (flying + 1) in
    let f = ok.flying_is in
    subst P (sym did.view) record {
      one = ok.one;
      alone = ok.alone;
      few = ok.few;
      ends_hold = ok.ends_hold;
      flying_is = omega (arith, length-append (lying v.flight) (x ∷ []));
      slots_are = did.slots ∙ ok.slots_are;
      left = λ s items is. absurd (placing_taking r s (lying v.flight ++ x ∷ []) items is);
      history = ok.history;
    }

back : (a b n : ℕ) → n ≤ b → n < 2 ^ 32 → ((a + b) % 2 ^ 32 + (2 ^ 32 - n)) % 2 ^ 32 ≡ (a + (b - n)) % 2 ^ 32
back a b n le lt = omega arith

-- the count of the next item
pub next_position : (v : View) (slots : List (ℕ × Option Frame)) (who : ℕ) (ends : List End) (flying : ℕ) (r : Ring) (x : Item) (left : List Item) (e : End)
    → PassHolds v slots who ends flying → EndHolds v.setup who (own who v.seen) r e → v.flight ≡ taking r (x ∷ left) → flying < 2 ^ 32
    → (count : ℕ) × (count + length (lying v.flight) ≡ emptied (ask_for v.setup who r 0) v) × ((e.far + (2 ^ 32 - flying)) % 2 ^ 32 ≡ wrapped v.setup count)
next_position v slots who ends flying r x left e ok end flies small =
    let all : ℕ = emptied (ask_for v.setup who r 0) v in
    let t = ok.left r (x ∷ left) flies in
    let held = t.2 in
    let len = ap (λ (f : Flight). length (lying f)) flies in
    let count = ok.flying_is in
    let far : e.far ≡ wrapped v.setup all = (end.empties t.1).1 in
    let le : flying ≤ all = omega arith in
    (all - flying, omega arith, ap (λ n. (n + (2 ^ 32 - flying)) % 2 ^ 32) far ∙ back v.setup.first all flying le small)

-- a pass that has fetched an item
pub pass_fetched : (v w : View) (slots slots' : List (ℕ × Option Frame)) (who : ℕ) (ends : List End) (flying : ℕ) (r : Ring) (x : Item) (left : List Item)
    → PassHolds v slots who ends flying → v.flight ≡ taking r (x ∷ left) → w ≡ record v { flight = still r left } → slots' ≡ slots → PassHolds w slots' who ends (flying - 1)
pass_fetched v w slots slots' who ends flying r x left ok flies now same =
    let P : View → Type 0 = λ u. PassHolds u slots' who ends (flying - 1) in
    let count = ok.flying_is in
    let len = ap (λ (f : Flight). length (lying f)) flies in
    let left_len = ap (length {A = Item}) (lying_still r left) in
    subst P (sym now) record {
      one = ok.one;
      alone = ok.alone;
      few = ok.few;
      ends_hold = ok.ends_hold;
      flying_is = omega arith;
      slots_are = same ∙ ok.slots_are;
      history = ok.history;
      left = λ s items is. let t = still_taking r s left items is in let h = ok.left r (x ∷ left) flies in
          subst (λ (y : Ring). AreLeft v.setup.config who (own who v.seen) y items) t.0 (h.0, h.1, (let le = h.2 in let e = ap (length {A = Item}) t.1 in omega arith));
    }

-- a ring's entries lie among the words
pub entries_within : (k : Basis) (who : ℕ) (r : Ring) (e : End) (words : ℕ) → HasRing k.config r → e.base ≡ ring_base k.config r → e.mask + 1 ≡ size_of k.config r → words ≡ words_of k.config
    → e.base + (32 + entry_words r * (e.mask + 1)) ≤ words
entries_within k who r e words has base mask is =
    let within = base_within k.config r has in
    let n : ℕ = entry_words r * size_of k.config r in
    let m : ℕ = marks_base k.config in
    let b : ℕ = ring_base k.config r in
    let le : e.base + (32 + n) ≤ words = omega arith in
    subst (λ (t : ℕ). e.base + (32 + entry_words r * t) ≤ words) (sym mask) le
