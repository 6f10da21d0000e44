-- The words of rings and marks don't meet.
use Rattle.std.proofs.Common.{◌≡◌, ◌≢◌, ℕ, ◌+◌, ◌-◌, ◌*◌, ◌<◌, ◌≤◌, suc, zero, List, [], ◌∷◌, ◌++◌, length, map, take, get_or, refl, sym, ap, ap₂, ◌∙◌, arith, subst, Option, Some, None, ⊎_elim, ◌⊎◌, true, false, length-append, length-take}
use Rattle.std.specs.Prelude.{IsSome, unwrap_or}
use Rattle.std.specs.List.{sum}
use Rattle.std.proofs.lemmas.Bool.{cases_Bool}
use Rattle.std.proofs.lemmas.List.{length-map, get_or-map}
use Rattle.std.proofs.lemmas.List.Sums.{sum_by_more_le}
use Rattle.std.proofs.Math.Seq.{get_or-take, take-take}
use Rattle.xsk_model.specs.Config.{Config, IsConfig, HasRing, size_of, socket_at}
use Rattle.xsk_model.specs.Rings.{is_ring, place, places_of}
use Rattle.xsk_model.specs.Marks.{mark_place, mark_places_of}
use Rattle.xsk_model.specs.declared.config.PairInfo.{PairInfo}
use Rattle.xsk_model.specs.declared.config.SocketInfo.{SocketInfo}
use Rattle.xsk_model.specs.declared.call.Ring.{Ring}
use Rattle.xsk_model.specs.declared.call.Ring.TheVariants.{Fill, Comp, Rx, Tx}
use Rattle.xsk_model.proofs.Places.{is_ring-true, place_below, places_apart}
use Rattle.xsk_model.proofs.Few.{ports_few, apps_few}
use Rattle.xsk_model.proofs.MarkPlaces.{mark_place_below, mark_place_injective}
use Rattle.xsk_table.specs.Layout.{OwnWords, entry_words, width_of, width_or_none, fill_width, comp_width, rx_width, tx_width, widths_of, ring_base, marks_base, words_of, Word, producer, consumer, entry, second, mark, HasWord, word_at}
use Rattle.xsk_model.proofs.InRow.{in_first, in_second, in_third, in_fourth}

-- ---- widths by place

pub length-widths_of : (c : Config) → length (widths_of c) ≡ places_of c
length-widths_of c =
    omega (
      arith,
      length-append (map fill_width c.pairs ++ map comp_width c.pairs ++ map rx_width c.sockets) (map tx_width c.sockets),
      length-append (map fill_width c.pairs ++ map comp_width c.pairs) (map rx_width c.sockets),
      length-append (map fill_width c.pairs) (map comp_width c.pairs),
      length-map c.pairs fill_width,
      length-map c.pairs comp_width,
      length-map c.sockets rx_width,
      length-map c.sockets tx_width,
    )

abbrev no_pair : PairInfo
no_pair = record { port = 0; queue = 0; fill = 0; comp = 0 }

module _ (c : Config) where
  fill_width_at : (d : ℕ) → d < length c.pairs → get_or (widths_of c) d 0 ≡ fill_width (get_or c.pairs d no_pair)
  fill_width_at d h =
      in_first (map fill_width c.pairs) (map comp_width c.pairs) (map rx_width c.sockets) (map tx_width c.sockets) d (omega (arith, h, length-map c.pairs fill_width))
      ∙ get_or-map fill_width c.pairs d no_pair 0 h

  comp_width_at : (d : ℕ) → d < length c.pairs → get_or (widths_of c) (length c.pairs + d) 0 ≡ comp_width (get_or c.pairs d no_pair)
  comp_width_at d h =
      in_second (map fill_width c.pairs) (map comp_width c.pairs) (map rx_width c.sockets) (map tx_width c.sockets) (length c.pairs + d) d
      (omega (arith, h, length-map c.pairs comp_width)) (omega (arith, length-map c.pairs fill_width))
      ∙ get_or-map comp_width c.pairs d no_pair 0 h

  rx_width_at : (s : ℕ) → s < length c.sockets → get_or (widths_of c) (2 * length c.pairs + s) 0 ≡ rx_width (socket_at c.sockets s)
  rx_width_at s h =
      in_third (map fill_width c.pairs) (map comp_width c.pairs) (map rx_width c.sockets) (map tx_width c.sockets) (2 * length c.pairs + s) s
      (omega (arith, h, length-map c.sockets rx_width)) (omega (arith, length-map c.pairs fill_width, length-map c.pairs comp_width))
      ∙ get_or-map rx_width c.sockets s (socket_at [] s) 0 h

  tx_width_at : (s : ℕ) → s < length c.sockets → get_or (widths_of c) (2 * length c.pairs + length c.sockets + s) 0 ≡ tx_width (socket_at c.sockets s)
  tx_width_at s h =
      in_fourth (map fill_width c.pairs) (map comp_width c.pairs) (map rx_width c.sockets) (map tx_width c.sockets) (2 * length c.pairs + length c.sockets + s) s
      (omega (arith, length-map c.pairs fill_width, length-map c.pairs comp_width, length-map c.sockets rx_width))
      ∙ get_or-map tx_width c.sockets s (socket_at [] s) 0 h

width_some : (size : Option ℕ) → IsSome size → width_or_none size ≡ 32 + 2 * unwrap_or size 0
width_some None h = absurd (cc)
width_some (Some size) h = refl

pub width_at : (c : Config) (r : Ring) → HasRing c r → get_or (widths_of c) (place c r) 0 ≡ width_of c r
width_at c (Fill d) h = fill_width_at c d h
width_at c (Comp d) h = comp_width_at c d h
width_at c (Rx s) h = rx_width_at c s h.0 ∙ width_some (socket_at c.sockets s).rx h.1
width_at c (Tx s) h = tx_width_at c s h.0 ∙ width_some (socket_at c.sockets s).tx h.1

-- ---- sums of widths

sum_before : (ws : List ℕ) (i j : ℕ) → i < j → j ≤ length ws → sum (take i ws) + get_or ws i 0 ≤ sum (take j ws)
sum_before ws i j lt le =
    let within : i < length (take j ws) = omega (arith, length-take j ws) in
    let first : take i (take j ws) ≡ take i ws = take-take i j ws (omega arith) in
    let there : get_or (take j ws) i 0 ≡ get_or ws i 0 = get_or-take j ws i 0 lt in
    let whole = sum_by_more_le (λ (x : ℕ). x) (take j ws) i 0 within in
    subst (λ (n : ℕ). n ≤ sum (take j ws)) (λ k. sum (first k) + there k) whole

-- a ring ends where the next one begins, or before
base_before : (c : Config) (r s : Ring) → HasRing c r → HasRing c s → place c r < place c s → ring_base c r + width_of c r ≤ ring_base c s
base_before c r s h k lt =
    let before = sum_before (widths_of c) (place c r) (place c s) lt (omega (arith, length-widths_of c, place_below c s k)) in
    subst (λ (n : ℕ). ring_base c r + n ≤ ring_base c s) (width_at c r h) before

pub base_within : (c : Config) (r : Ring) → HasRing c r → ring_base c r + width_of c r ≤ marks_base c
base_within c r h =
    let whole = sum_by_more_le (λ (x : ℕ). x) (widths_of c) (place c r) 0 (omega (arith, length-widths_of c, place_below c r h)) in
    subst (λ (n : ℕ). ring_base c r + n ≤ marks_base c) (width_at c r h) whole

-- words of two rings are apart
pub rings_apart : (c : Config) (r s : Ring) (x y : ℕ) → HasRing c r → HasRing c s → is_ring r s ≡ false → x < width_of c r → y < width_of c s → ring_base c r + x ≢ ring_base c s + y
rings_apart c r s x y h k off lx ly e =
    let apart : place c r ≢ place c s = places_apart c r s h k off in
    let a : ℕ = ring_base c r in
    let b : ℕ = ring_base c s in
    let m : ℕ = width_of c r in
    let n : ℕ = width_of c s in
    let p : ℕ = place c r in
    let q : ℕ = place c s in
    ⊎_elim
    (λ (lt : p < q). let before : a + m ≤ b = base_before c r s h k lt in omega arith)
    (λ (gt : q < p). let before : b + n ≤ a = base_before c s r k h gt in omega arith)
    (let which : (p < q) ⊎ (q < p) = grind arith in which)

-- so words at one place are words of one ring
same_ring : (c : Config) (r s : Ring) (x y : ℕ) → HasRing c r → HasRing c s → x < width_of c r → y < width_of c s → ring_base c r + x ≡ ring_base c s + y → r ≡ s
same_ring c r s x y h k lx ly e = ⊎_elim
    (λ (is : is_ring r s ≡ true). is_ring-true r s is)
    (λ (off : is_ring r s ≡ false). absurd (rings_apart c r s x y h k off lx ly e))
    (cases_Bool (is_ring r s))

-- ---- words

-- how far a word is from its ring's first
pub entry_within : (r : Ring) (size i : ℕ) → i < size → 32 + entry_words r * i < 32 + entry_words r * size
entry_within (Fill d) size i h = omega arith
entry_within (Comp d) size i h = omega arith
entry_within (Rx s) size i h = omega arith
entry_within (Tx s) size i h = omega arith

pub second_within : (r : Ring) (size i : ℕ) → i < size → entry_words r ≡ 2 → 33 + entry_words r * i < 32 + entry_words r * size
second_within r size i h two = subst (λ (m : ℕ). 33 + m * i < 32 + m * size) (sym two) (omega arith)

same_entry : (r : Ring) (i j : ℕ) → entry_words r * i ≡ entry_words r * j → i ≡ j
same_entry (Fill d) i j e = omega arith
same_entry (Comp d) i j e = omega arith
same_entry (Rx s) i j e = omega arith
same_entry (Tx s) i j e = omega arith

odd_even : (r : Ring) (i j : ℕ) → entry_words r ≡ 2 → 32 + entry_words r * i ≡ 33 + entry_words r * j → ⊥
odd_even r i j two = subst (λ (m : ℕ). 32 + m * i ≡ 33 + m * j → ⊥) (sym two) (λ e. omega arith)

-- a ring's words stand before the marks'
below_marks : (c : Config) (r : Ring) (x : ℕ) → HasRing c r → x < width_of c r → (y : ℕ) → ring_base c r + x ≡ marks_base c + y → ⊥
below_marks c r x h lt y e =
    let a : ℕ = ring_base c r in
    let b : ℕ = marks_base c in
    let n : ℕ = width_of c r in
    let within : a + n ≤ b = base_within c r h in
    let lt' : x < n = lt in
    let e' : a + x ≡ b + y = e in
    omega arith

-- a count's word is no entry's
module _ (c : Config) (r s : Ring) (h : HasRing c r) (k : HasRing c s) where
  counts_apart : ring_base c r + 8 ≡ ring_base c s + 24 → ⊥
  counts_apart e =
      let is = same_ring c r s 8 24 h k (omega arith) (omega arith) e in
      let same : ring_base c r ≡ ring_base c s = ap (ring_base c) is in
      omega arith

  before_entries : (x y : ℕ) → x < 32 → 32 ≤ y → y < width_of c s → ring_base c r + x ≡ ring_base c s + y → ⊥
  before_entries x y lx ly lt e =
      let n : ℕ = width_of c r in
      let is = same_ring c r s x y h k (omega arith) lt e in
      let same : ring_base c r ≡ ring_base c s = ap (ring_base c) is in
      omega arith

  entries_apart : (i j : ℕ) → i < size_of c r → j < size_of c s → entry_words s ≡ 2 → ring_base c r + (32 + entry_words r * i) ≡ ring_base c s + (33 + entry_words s * j) → ⊥
  entries_apart i j li lj two e =
      let is = same_ring c r s _ _ h k (entry_within r (size_of c r) i li) (second_within s (size_of c s) j lj two) e in
      let same : ring_base c r ≡ ring_base c s = ap (ring_base c) is in
      let words : entry_words r * j ≡ entry_words s * j = ap (λ q. entry_words q * j) is in
      odd_even r i j (ap entry_words is ∙ two) (omega arith)

  same_place : (x i j : ℕ) → x + entry_words r * i < width_of c r → x + entry_words s * j < width_of c s → ring_base c r + (x + entry_words r * i) ≡ ring_base c s + (x + entry_words s * j) → (r ≡ s) × (i ≡ j)
  same_place x i j li lj e =
      let is = same_ring c r s _ _ h k li lj e in
      let same : ring_base c r ≡ ring_base c s = ap (ring_base c) is in
      let words : entry_words r * j ≡ entry_words s * j = ap (λ q. entry_words q * j) is in
      (is, same_entry r i j (omega arith))

-- how far a word is from the first of its ring, or of the marks
abbrev offset : Config → Word → ℕ
offset c (producer r) = 8
offset c (consumer r) = 24
offset c (entry r i) = 32 + entry_words r * i
offset c (second r i) = 33 + entry_words r * i
offset c (mark m) = 8 * mark_place c m + 7

within : (c : Config) (r : Ring) (i : ℕ) → HasWord c (entry r i) → 32 + entry_words r * i < width_of c r
within c r i h = entry_within r (size_of c r) i h.1

within_second : (c : Config) (r : Ring) (i : ℕ) → HasWord c (second r i) → 33 + entry_words r * i < width_of c r
within_second c r i h = second_within r (size_of c r) i h.1 h.2

pub same_word : (c : Config) (v w : Word) → IsConfig c → HasWord c v → HasWord c w → word_at c v ≡ word_at c w → v ≡ w
same_word c (producer r) (producer s) config h k e = ap producer (same_ring c r s 8 8 h k (omega arith) (omega arith) e)
same_word c (producer r) (consumer s) config h k e = absurd (counts_apart c r s h k e)
same_word c (producer r) (entry s j) config h k e = absurd (before_entries c r s h k.0 8 _ (omega arith) (omega arith) (within c s j k) e)
same_word c (producer r) (second s j) config h k e = absurd (before_entries c r s h k.0 8 _ (omega arith) (omega arith) (within_second c s j k) e)
same_word c (producer r) (mark m) config h k e = absurd (below_marks c r 8 h (omega arith) (offset c (mark m)) e)
same_word c (consumer r) (producer s) config h k e = absurd (counts_apart c s r k h (sym e))
same_word c (consumer r) (consumer s) config h k e = ap consumer (same_ring c r s 24 24 h k (omega arith) (omega arith) e)
same_word c (consumer r) (entry s j) config h k e = absurd (before_entries c r s h k.0 24 _ (omega arith) (omega arith) (within c s j k) e)
same_word c (consumer r) (second s j) config h k e = absurd (before_entries c r s h k.0 24 _ (omega arith) (omega arith) (within_second c s j k) e)
same_word c (consumer r) (mark m) config h k e = absurd (below_marks c r 24 h (omega arith) (offset c (mark m)) e)
same_word c (entry r i) (producer s) config h k e = absurd (before_entries c s r k h.0 8 _ (omega arith) (omega arith) (within c r i h) (sym e))
same_word c (entry r i) (consumer s) config h k e = absurd (before_entries c s r k h.0 24 _ (omega arith) (omega arith) (within c r i h) (sym e))
same_word c (entry r i) (entry s j) config h k e = let t = same_place c r s h.0 k.0 32 i j (within c r i h) (within c s j k) e in ap₂ entry t.0 t.1
same_word c (entry r i) (second s j) config h k e = absurd (entries_apart c r s h.0 k.0 i j h.1 k.1 k.2 e)
same_word c (entry r i) (mark m) config h k e = absurd (below_marks c r _ h.0 (within c r i h) (offset c (mark m)) e)
same_word c (second r i) (producer s) config h k e = absurd (before_entries c s r k h.0 8 _ (omega arith) (omega arith) (within_second c r i h) (sym e))
same_word c (second r i) (consumer s) config h k e = absurd (before_entries c s r k h.0 24 _ (omega arith) (omega arith) (within_second c r i h) (sym e))
same_word c (second r i) (entry s j) config h k e = absurd (entries_apart c s r k.0 h.0 j i k.1 h.1 h.2 (sym e))
same_word c (second r i) (second s j) config h k e = let t = same_place c r s h.0 k.0 33 i j (within_second c r i h) (within_second c s j k) e in ap₂ second t.0 t.1
same_word c (second r i) (mark m) config h k e = absurd (below_marks c r _ h.0 (within_second c r i h) (offset c (mark m)) e)
same_word c (mark m) (producer s) config h k e = absurd (below_marks c s 8 k (omega arith) (offset c (mark m)) (sym e))
same_word c (mark m) (consumer s) config h k e = absurd (below_marks c s 24 k (omega arith) (offset c (mark m)) (sym e))
same_word c (mark m) (entry s j) config h k e = absurd (below_marks c s _ k.0 (within c s j k) (offset c (mark m)) (sym e))
same_word c (mark m) (second s j) config h k e = absurd (below_marks c s _ k.0 (within_second c s j k) (offset c (mark m)) (sym e))
same_word c (mark m) (mark n) config h k e = ap mark (mark_place_injective c m n config h k (omega arith))

pub few_words : (c : Config) → IsConfig c → (places_of c ≤ 256) × (mark_places_of c ≤ 776)
few_words c h = (omega (arith, h.few, h.pairs_few), omega (arith, h.few, h.pairs_few, apps_few c h, ports_few c h))

word_below : (c : Config) (w : Word) → IsConfig c → HasWord c w → word_at c w < words_of c
word_below c (producer r) config h = let within = base_within c r h in omega arith
word_below c (consumer r) config h = let within = base_within c r h in omega arith
word_below c (entry r i) config h = let within = base_within c r h.0 in let lt = entry_within r (size_of c r) i h.1 in let a : ℕ = entry_words r * i in let b : ℕ = entry_words r * size_of c r in omega arith
word_below c (second r i) config h = let within = base_within c r h.0 in let lt = second_within r (size_of c r) i h.1 h.2 in let a : ℕ = entry_words r * i in let b : ℕ = entry_words r * size_of c r in omega arith
word_below c (mark m) config h = let lt = mark_place_below c m config h in omega arith

pub own_words : OwnWords
own_words c v w config h k = (word_below c v config h, same_word c v w config h k)

-- what is read within a list hangs on no default
pub any_default : {X : Type 0} (xs : List X) (i : ℕ) (d e : X) → i < length xs → get_or xs i d ≡ get_or xs i e
any_default [] i d e h = absurd (omega arith)
any_default (x ∷ xs) zero d e h = refl
any_default (x ∷ xs) (suc i) d e h = any_default xs i d e (omega arith)

-- the widths at a place
module _ (c : Config) (p : ℕ) (pairs : List PairInfo) (sockets : List SocketInfo) (d : SocketInfo) (pairs_are : pairs ≡ c.pairs) (sockets_are : sockets ≡ c.sockets) where
  pub rx_width_here : 2 * length pairs ≤ p → p < 2 * length pairs + length sockets → width_or_none (get_or sockets (p - 2 * length pairs) d).rx ≡ get_or (widths_of c) p 0
  rx_width_here le lt =
      let s : ℕ = p - 2 * length pairs in
      let pairs_len : length pairs ≡ length c.pairs = ap length pairs_are in
      let sockets_len : length sockets ≡ length c.sockets = ap length sockets_are in
      let at : p ≡ 2 * length c.pairs + s = omega arith in
      let below : s < length c.sockets = omega arith in
      sym (ap (λ i. get_or (widths_of c) i 0) at ∙ rx_width_at c s below ∙ ap rx_width (any_default c.sockets s (socket_at [] s) d below ∙ ap (λ l. get_or l s d) (sym sockets_are)))

  pub tx_width_here : 2 * length pairs + length sockets ≤ p → p < places_of c → width_or_none (get_or sockets (p - 2 * length pairs - length sockets) d).tx ≡ get_or (widths_of c) p 0
  tx_width_here le lt =
      let s : ℕ = p - 2 * length pairs - length sockets in
      let pairs_len : length pairs ≡ length c.pairs = ap length pairs_are in
      let sockets_len : length sockets ≡ length c.sockets = ap length sockets_are in
      let at : p ≡ 2 * length c.pairs + length c.sockets + s = omega arith in
      let below : s < length c.sockets = omega arith in
      sym (ap (λ i. get_or (widths_of c) i 0) at ∙ tx_width_at c s below ∙ ap tx_width (any_default c.sockets s (socket_at [] s) d below ∙ ap (λ l. get_or l s d) (sym sockets_are)))
