-- What a ring's words stand for after a step on it.
use Rattle.std.proofs.Common.{◌≡◌, ℕ, ◌+◌, ◌%◌, ◌<◌, ◌≤◌, suc, zero, Bool, false, cond, nat_le, List, [], ◌∷◌, ◌++◌, length, set, take, drop, refl, ap, sym, ◌∙◌, arith, subst, append_assoc, append-nil, take-append-drop}
use mathlib.Core.Option.{some, some-ne-none}
use lib.ListN.{get_elem?}
use Rattle.xsk_umem.specs.declared.batch.Item.{Item}
use Rattle.xsk_model.specs.Config.{Config, IsConfig, HasRing, size_of}
use Rattle.xsk_model.specs.Rings.{is_ring}
use Rattle.xsk_model.specs.Object.{RingState, free, ring_after}
use Rattle.xsk_model.specs.declared.call.Ring.{Ring}
use Rattle.xsk_model.specs.declared.call.Call.TheVariants.{Reserve, Submit, Peek, Release}
use Rattle.xsk_model.proofs.Places.{is_ring-self}
use Rattle.xsk_model.proofs.Moves.{cond-held, cond-out}
use Rattle.xsk_table.specs.Layout.{words_of, Word, producer, consumer, HasWord, word_at}
use Rattle.xsk_table.specs.View.{Basis, placing, writing}
use Rattle.xsk_table.specs.Rule.{wrapped, entry_of, second_of, Lies, Written, nothing, written, standing, RingHolds}
use Rattle.xsk_table.proofs.WordRows.{ring_size, write_here, write_else}

-- ---- what a Submit has written

pub written_here : (r : Ring) (items : List Item) → written r (placing r items) ≡ record { whole = items; half = [] }
written_here r items = ap (λ b. cond b (record { whole = items; half = [] }) nothing) (is_ring-self r)

pub written_else : (r r' : Ring) (items : List Item) → is_ring r' r ≡ false → written r' (placing r items) ≡ nothing
written_else r r' items off = ap (λ b. cond b (record { whole = items; half = [] }) nothing) off

pub half_here : (r : Ring) (items : List Item) (x : Item) → written r (writing r items x) ≡ record { whole = items; half = x ∷ [] }
half_here r items x = ap (λ b. cond b (record { whole = items; half = x ∷ [] }) nothing) (is_ring-self r)

pub half_else : (r r' : Ring) (items : List Item) (x : Item) → is_ring r' r ≡ false → written r' (writing r items x) ≡ nothing
half_else r r' items x off = ap (λ b. cond b (record { whole = items; half = x ∷ [] }) nothing) off

-- ---- entries

pub place_below : (c : Config) (r : Ring) (count : ℕ) → IsConfig c → HasRing c r → count % size_of c r < size_of c r
place_below c r count config has = let size = ring_size c r config has in let n : ℕ = size_of c r in let least : 2 ≤ n = size.least in omega arith

-- a write of another word leaves an item where it lies
pub lies_write : (c : Config) (words : List ℕ) (r : Ring) (count : ℕ) (x : Item) (w : Word) (n : ℕ) → IsConfig c → HasRing c r → HasWord c w
    → (entry_of c r count ≡ w → ⊥) → (second_of c r count ≡ w → ⊥) → Lies c words r count x → Lies c (set words (word_at c w) n) r count x
lies_write c words r count x w n config has there first other l =
    let below = place_below c r count config has in
    record {
      address = write_else c words w n config there (entry_of c r count) (has, below) first ∙ l.address;
      other = λ two. write_else c words w n config there (second_of c r count) (has, below, two) other ∙ l.other two;
      lawful = l.lawful;
    }

pub lies_at : (c : Config) (words : List ℕ) (r : Ring) (count count' : ℕ) (x : Item) → count ≡ count' → Lies c words r count x → Lies c words r count' x
lies_at c words r count count' x e l = subst (λ (n : ℕ). Lies c words r n x) e l

module _ {A : Type 0} where
  at_drop : (l m : List A) (n j i : ℕ) (x : A) → i ≡ n + j → n ≤ length l → get_elem? (drop n l ++ m) j ≡ some x → get_elem? (l ++ m) i ≡ some x
  at_drop l m zero j i x e lt at_j = subst (λ (h : ℕ). get_elem? (l ++ m) h ≡ some x) (let z : j ≡ i = omega arith in z) at_j
  at_drop [] m (suc n) j i x e lt at_j = absurd (omega arith)
  at_drop (y ∷ l) m (suc n) j zero x e lt at_j = absurd (omega arith)
  at_drop (y ∷ l) m (suc n) j (suc i) x e lt at_j = at_drop l m n j i x (omega arith) (omega arith) at_j

-- a ring whose items stand as before
pub ring_like : (k : Basis) (words : List ℕ) (r : Ring) (q q' : RingState) (a a' b b' : ℕ) (w : Written) → a' ≡ a → b' ≡ b → standing q' w.whole ≡ standing q w.whole → length w.whole + length w.half ≤ q'.room
    → RingHolds k words r q a b w → RingHolds k words r q' a' b' w
ring_like k words r q q' a a' b b' w ea eb same within ok =
    let P : ℕ × ℕ → Type 0 = λ t. RingHolds k words r q' t.0 t.1 w in
    subst P (λ i. (sym ea i, sym eb i)) record {
      producer_is = ok.producer_is;
      consumer_is = ok.consumer_is;
      within = within;
      entries = λ j x there. ok.entries j x (subst (λ (l : List Item). get_elem? l j ≡ some x) same there);
      half = ok.half;
    }

-- ---- calls

pub reserve_ring : (k : Basis) (words : List ℕ) (r : Ring) (q : RingState) (size a b n : ℕ) → RingHolds k words r q a b nothing
    → RingHolds k words r (ring_after size q (Reserve r n)) (a + 0) (b + 0) nothing
reserve_ring k words r q size a b n ok =
    let t : Bool = nat_le n (free size q) in
    ring_like k words r q (ring_after size q (Reserve r n)) a (a + 0) b (b + 0) nothing (omega arith) (omega arith)
    (λ i. cond-held t q n i ++ (cond-out t q n i ++ [])) (omega arith) ok

pub peek_ring : (k : Basis) (words : List ℕ) (r : Ring) (q : RingState) (size a b n : ℕ) (w : Written) → RingHolds k words r q a b w
    → RingHolds k words r (ring_after size q (Peek r n)) (a + 0) (b + 0) w
peek_ring k words r q size a b n w ok =
    let whole : take n q.out ++ drop n q.out ≡ q.out = take-append-drop n q.out in
    let same : standing (ring_after size q (Peek r n)) w.whole ≡ standing q w.whole = append_assoc q.held (take n q.out) (drop n q.out ++ w.whole)
    ∙ ap (λ m. q.held ++ m) (sym (append_assoc (take n q.out) (drop n q.out) w.whole) ∙ ap (λ m. m ++ w.whole) whole) in
    ring_like k words r q (ring_after size q (Peek r n)) a (a + 0) b (b + 0) w (omega arith) (omega arith) same ok.within ok

pub release_ring : (k : Basis) (words : List ℕ) (r : Ring) (q : RingState) (size a b n v : ℕ) (w : Written) → IsConfig k.config → HasRing k.config r → length words ≡ words_of k.config
    → n ≤ length q.held → v ≡ wrapped k (b + n) → RingHolds k words r q a b w
    → RingHolds k (set words (word_at k.config (consumer r)) v) r (ring_after size q (Release r n)) (a + 0) (b + n) w
release_ring k words r q size a b n v w config has wide le is ok =
    let c = k.config in
    let P : ℕ → Type 0 = λ m. RingHolds k (set words (word_at c (consumer r)) v) r (ring_after size q (Release r n)) m (b + n) w in
    subst P (let z : a ≡ a + 0 = omega arith in z) record {
      producer_is = write_else c words (consumer r) v config has (producer r) has (λ e. cc) ∙ ok.producer_is;
      consumer_is = write_here c words (consumer r) v config has wide ∙ is;
      within = ok.within;
      entries = λ j x there. lies_at c _ r (k.first + b + (n + j)) (k.first + (b + n) + j) x (omega arith)
          (lies_write c words r (k.first + b + (n + j)) x (consumer r) v config has has (λ e. cc) (λ e. cc)
          (ok.entries (n + j) x (at_drop q.held (q.out ++ w.whole) n j (n + j) x refl le there)));
      half = λ x there two. write_else c words (consumer r) v config has (second_of c r (k.first + (a + length w.whole))) (has, place_below c r (k.first + (a + length w.whole)) config has, two) (λ e. cc) ∙ ok.half x there two;
    }

pub submit_ring : (k : Basis) (words : List ℕ) (r : Ring) (q : RingState) (size a b v : ℕ) (items : List Item) → IsConfig k.config → HasRing k.config r → length words ≡ words_of k.config
    → v ≡ wrapped k (a + length items) → RingHolds k words r q a b (record { whole = items; half = [] })
    → RingHolds k (set words (word_at k.config (producer r)) v) r (ring_after size q (Submit r items)) (a + length items) (b + 0) nothing
submit_ring k words r q size a b v items config has wide is ok =
    let c = k.config in
    let same : standing (ring_after size q (Submit r items)) [] ≡ standing q items = ap (λ l. q.held ++ l) (append-nil (q.out ++ items)) in
    let P : ℕ → Type 0 = λ m. RingHolds k (set words (word_at c (producer r)) v) r (ring_after size q (Submit r items)) (a + length items) m nothing in
    subst P (let z : b ≡ b + 0 = omega arith in z) record {
      producer_is = write_here c words (producer r) v config has wide ∙ is;
      consumer_is = write_else c words (producer r) v config has (consumer r) has (λ e. cc) ∙ ok.consumer_is;
      within = omega arith;
      entries = λ j x there. lies_write c words r (k.first + b + j) x (producer r) v config has has (λ e. cc) (λ e. cc) (ok.entries j x (subst (λ (l : List Item). get_elem? l j ≡ some x) same there));
      half = λ x there. absurd (some-ne-none x (sym there));
    }
