-- The words of a new table, word by word.
use Rattle.std.proofs.Common.{◌≡◌, ◌≢◌, ℕ, ◌+◌, ◌-◌, ◌*◌, ◌%◌, ◌^◌, ◌<◌, ◌≤◌, suc, zero, List, [], ◌∷◌, ◌++◌, length, get_or, set, replicate, refl, sym, ap, ◌∙◌, arith, subst, ⊎_elim, Some, length-append, take}
use Rattle.std.specs.Prelude.{All, slice_get, slice_index}
use Rattle.std.proofs.lemmas.Bool.{cases_eq}
use Rattle.std.proofs.lemmas.Option.{get_or_from_slice_get}
use Rattle.std.proofs.lemmas.List.{length-set, length-replicate, get_or_append_left, get_or-append_right}
use Rattle.xsk_umem.specs.Geometry.{base_of}
use Rattle.xsk_model.specs.Config.{Config, IsConfig, IsLawful, HasRing, size_of, pool_of, pair_at, map_of}
use Rattle.xsk_model.specs.declared.config.PairInfo.{PairInfo}
use Rattle.xsk_model.specs.Marks.{HasMark, mark_place, mark_places_of}
use Rattle.xsk_model.specs.Homes.{first_mark}
use Rattle.xsk_model.specs.declared.call.Ring.{Ring}
use Rattle.xsk_model.specs.declared.call.Ring.TheVariants.{Fill, Comp, Rx, Tx}
use Rattle.xsk_model.specs.declared.call.Mark.{Mark}
use Rattle.xsk_model.specs.declared.call.Mark.TheVariants.{NeedFill, NeedTx, Kick, RxDone, Gone, TxDone, Cell, Closing, Acked, Bounced}
use Rattle.xsk_table.specs.Layout.{width_of, ring_base, marks_base, words_of, Word, producer, consumer, mark, HasWord, word_at}
use Rattle.xsk_table.proofs.Rows.{base_within, own_words}
use Rattle.xsk_table.specs.Rule.{at, entry_of}
use Rattle.xsk_table.specs.Opening.{first_count, ArePooled, WordsOpen, IsOfFill, IsOfCell, Spares, SparesBelow, AreCells, IsFilled}
use Rattle.xsk_table.proofs.WordRows.{ring_size, divides, write_here, write_else}
use Rattle.xsk_table.proofs.RingSteps.{place_below}
use Rattle.xsk_table.proofs.Placing.{entries_differ}

-- one write more of the words that may differ
pub spares_set : (c : Config) (old words : List ℕ) (w : Word) (n : ℕ) (In : Word → Type 0) → IsConfig c → HasWord c w → In w → Spares c In old words → Spares c In old (set words (word_at c w) n)
spares_set c old words w n In config has is h = (
  length-set words (word_at c w) n ∙ h.0,
  λ v there off. write_else c words w n config has v there (λ e. off (subst In (sym e) is)) ∙ h.1 v there off,
)

pub spares_none : (c : Config) (words : List ℕ) (In : Word → Type 0) → Spares c In words words
spares_none c words In = (refl, λ v there off. refl)

pool_fits : (c : Config) (d : ℕ) → IsLawful c → d < length c.pairs → pool_of c ≤ size_of c (Fill d)
pool_fits c d lawful h = let fits : All (λ (p : PairInfo). pool_of c ≤ p.fill) c.pairs = lawful.fits in fits d (pair_at [] 0) h

pub fill_word : (c : Config) (d base size first j : ℕ) → IsConfig c → d < length c.pairs → base ≡ ring_base c (Fill d) → size ≡ size_of c (Fill d)
    → base + 32 + ((first + j) % 2 ^ 32) % size ≡ word_at c (entry_of c (Fill d) (first + j))
fill_word c d base size first j config h base_is size_is =
    let n : ℕ = size_of c (Fill d) in
    let same : ((first + j) % 2 ^ 32) % size ≡ (first + j) % n = ap (λ m. ((first + j) % 2 ^ 32) % m) size_is ∙ divides n (first + j) (ring_size c (Fill d) config h) in
    let p : ℕ = (first + j) % n in
    let b : ℕ = ring_base c (Fill d) in
    omega arith

-- one frame more in a FILL ring
pub pooled_more : (c : Config) (old words : List ℕ) (first d j spot v : ℕ) → IsConfig c → IsLawful c → d < length c.pairs → length old ≡ words_of c → j < pool_of c
    → spot ≡ word_at c (entry_of c (Fill d) (first + j)) → v ≡ base_of c.geometry (d * pool_of c + j)
    → Spares c (IsOfFill d) old words → at c words (producer (Fill d)) ≡ (first + pool_of c) % 2 ^ 32 → ArePooled c first d j words
    → Spares c (IsOfFill d) old (set words spot v) × (at c (set words spot v) (producer (Fill d)) ≡ (first + pool_of c) % 2 ^ 32) × ArePooled c first d (j + 1) (set words spot v)
pooled_more c old words first d j spot v config lawful h wide lt spot_is v_is spares head pooled =
    let r = Fill d in
    let w : Word = entry_of c r (first + j) in
    let there : HasWord c w = (h, place_below c r (first + j) config h) in
    let fits = pool_fits c d lawful h in
    let size = ring_size c r config h in
    let n : ℕ = size_of c r in
    let least : 2 ≤ n = size.least in
    let P : ℕ → Type 0 = λ i. Spares c (IsOfFill d) old (set words i v) × (at c (set words i v) (producer r) ≡ (first + pool_of c) % 2 ^ 32) × ArePooled c first d (j + 1) (set words i v) in
    subst P (sym spot_is) (
      spares_set c old words w v (IsOfFill d) config there refl spares,
      write_else c words w v config there (producer r) h (λ e. cc) ∙ head,
      λ i below. ⊎_elim
          (λ (e : i ≡ j). ap (λ m. at c (set words (word_at c w) v) (entry_of c r (first + m))) e ∙ write_here c words w v config there (spares.0 ∙ wide) ∙ v_is ∙ ap (λ m. base_of c.geometry (d * pool_of c + m)) (sym e))
          (λ (off : i ≢ j).
          let lower : i < j = omega arith in
          write_else c words w v config there (entry_of c r (first + i)) (h, place_below c r (first + i) config h)
          (entries_differ c r (first + i) (first + j) (omega arith) (omega arith) (omega arith)) ∙ pooled i lower)
          (cases_eq i j),
    )

-- the producer word before them
pub pooled_none : (c : Config) (old : List ℕ) (first d spot v : ℕ) → IsConfig c → d < length c.pairs → length old ≡ words_of c → spot ≡ ring_base c (Fill d) + 8 → v ≡ (first + pool_of c) % 2 ^ 32
    → Spares c (IsOfFill d) old (set old spot v) × (at c (set old spot v) (producer (Fill d)) ≡ (first + pool_of c) % 2 ^ 32) × ArePooled c first d 0 (set old spot v)
pooled_none c old first d spot v config h wide spot_is v_is =
    let P : ℕ → Type 0 = λ i. Spares c (IsOfFill d) old (set old i v) × (at c (set old i v) (producer (Fill d)) ≡ (first + pool_of c) % 2 ^ 32) × ArePooled c first d 0 (set old i v) in
    subst P (sym spot_is) (
      spares_set c old old (producer (Fill d)) v (IsOfFill d) config h refl (spares_none c old (IsOfFill d)),
      write_here c old (producer (Fill d)) v config h wide ∙ v_is,
      λ i below. absurd (omega arith),
    )

pub fill_below : (c : Config) (row : List ℕ) (d first j spot : ℕ) → IsConfig c → d < length c.pairs → length row ≡ words_of c → spot ≡ word_at c (entry_of c (Fill d) (first + j)) → spot < length row
fill_below c row d first j spot config h wide is =
    let w : Word = entry_of c (Fill d) (first + j) in
    let there : HasWord c w = (h, place_below c (Fill d) (first + j) config h) in
    let lt = (own_words c w w config there there).0 in
    omega arith

-- one cell more
pub cells_more : (c : Config) (old words : List ℕ) (port i spot v : ℕ) → IsConfig c → port < c.ports → i < length (map_of c port) → length old ≡ words_of c → spot ≡ word_at c (mark (Cell port i)) → slice_get (map_of c port) i ≡ Some v
    → Spares c (IsOfCell port) old words → AreCells c port i words → Spares c (IsOfCell port) old (set words spot v) × AreCells c port (i + 1) (set words spot v)
cells_more c old words port i spot v config h lt wide spot_is v_is spares cells =
    let w : Word = mark (Cell port i) in
    let there : HasWord c w = (h, lt) in
    let value : v ≡ slice_index (map_of c port) i = sym (get_or_from_slice_get (map_of c port) i v 0 v_is) in
    let P : ℕ → Type 0 = λ n. Spares c (IsOfCell port) old (set words n v) × AreCells c port (i + 1) (set words n v) in
    subst P (sym spot_is) (
      spares_set c old words w v (IsOfCell port) config there (i, refl) spares,
      λ k below. ⊎_elim
          (λ (e : k ≡ i). ap (λ m. at c (set words (word_at c w) v) (mark (Cell port m))) e ∙ write_here c words w v config there (spares.0 ∙ wide) ∙ value ∙ ap (slice_index (map_of c port)) (sym e))
          (λ (off : k ≢ i).
          let lower : k < i = omega arith in
          write_else c words w v config there (mark (Cell port k)) (h, (let z : k < length (map_of c port) = omega arith in z)) (λ e. off (cc)) ∙ cells k lower)
          (cases_eq k i),
    )

-- ---- all pairs, and all ports

pub spares_below : (c : Config) (In : ℕ → Word → Type 0) (n : ℕ) (old words words' : List ℕ) → Spares c (In n) words words' → SparesBelow c In n old words → SparesBelow c In (n + 1) old words'
spares_below c In n old words words' h g = (h.0 ∙ g.0, λ w there off. h.1 w there (off n (omega arith)) ∙ g.1 w there (λ i lt. off i (omega arith)))

other_fill : (d e : ℕ) → d ≢ e → Fill d ≡ Fill e → ⊥
other_fill d e off is = off (cc)

filled_stays : (c : Config) (first d e : ℕ) (words words' : List ℕ) → IsConfig c → d < length c.pairs → d ≢ e → Spares c (IsOfFill e) words words' → IsFilled c first d words → IsFilled c first d words'
filled_stays c first d e words words' config h off spares filled = (
  spares.1 (producer (Fill d)) h (other_fill d e off) ∙ filled.0,
  λ j lt. spares.1 (entry_of c (Fill d) (first + j)) (h, place_below c (Fill d) (first + j) config h) (other_fill d e off) ∙ filled.1 j lt,
)

pub filled_more : (c : Config) (first e : ℕ) (words words' : List ℕ) → IsConfig c → e < length c.pairs → Spares c (IsOfFill e) words words' → IsFilled c first e words'
    → ((d : ℕ) → d < e → IsFilled c first d words) → (d : ℕ) → d < e + 1 → IsFilled c first d words'
filled_more c first e words words' config h spares now before d lt = ⊎_elim
    (λ (is : d ≡ e). subst (λ m. IsFilled c first m words') (sym is) now)
    (λ (off : d ≢ e). filled_stays c first d e words words' config (omega arith) off spares (before d (omega arith)))
    (cases_eq d e)

other_cell : (p q i j : ℕ) → p ≢ q → Cell p i ≡ Cell q j → ⊥
other_cell p q i j off is = off (cc)

pub celled_more : (c : Config) (q : ℕ) (words words' : List ℕ) → q < c.ports → Spares c (IsOfCell q) words words' → AreCells c q (length (map_of c q)) words'
    → ((p : ℕ) → p < q → AreCells c p (length (map_of c p)) words) → (p : ℕ) → p < q + 1 → AreCells c p (length (map_of c p)) words'
celled_more c q words words' h spares now before p lt = ⊎_elim
    (λ (is : p ≡ q). subst (λ m. AreCells c m (length (map_of c m)) words') (sym is) now)
    (λ (off : p ≢ q). λ i below. spares.1 (mark (Cell p i)) ((let z : p < c.ports = omega arith in z), below) (λ is. other_cell p q i is.0 off is.1) ∙ before p (omega arith) i below)
    (cases_eq p q)

-- ---- the whole

get_or-replicate : (n i x : ℕ) → i < n → get_or (replicate n x) i 0 ≡ x
get_or-replicate zero i x h = absurd (omega arith)
get_or-replicate (suc n) zero x h = refl
get_or-replicate (suc n) (suc i) x h = get_or-replicate n i x (omega arith)

get_or-same : (n i x : ℕ) → get_or (replicate n x) i x ≡ x
get_or-same zero i x = refl
get_or-same (suc n) zero x = refl
get_or-same (suc n) (suc i) x = get_or-same n i x

length-zeros : (n x : ℕ) → length (replicate n x) ≡ n
length-zeros n x = length-replicate n x

module _ (c : Config) (first : ℕ) (blank filled words : List ℕ) (config : IsConfig c) (small : first < 2 ^ 32) (blank_is : blank ≡ replicate (marks_base c) first ++ replicate (8 * mark_places_of c) 0)
    (pairs : SparesBelow c IsOfFill (length c.pairs) blank filled) (fills : (d : ℕ) → d < length c.pairs → IsFilled c first d filled)
    (ports : SparesBelow c IsOfCell c.ports filled words) (cells : (p : ℕ) → p < c.ports → AreCells c p (length (map_of c p)) words) where
  ring_blank : (r : Ring) (x : ℕ) → HasRing c r → x < width_of c r → get_or blank (ring_base c r + x) 0 ≡ first
  ring_blank r x h lt =
      let within = base_within c r h in
      let b : ℕ = ring_base c r in
      let n : ℕ = width_of c r in
      let m : ℕ = marks_base c in
      let below : b + x < m = omega arith in
      ap (λ l. get_or l (b + x) 0) blank_is
      ∙ get_or_append_left (replicate m first) (replicate (8 * mark_places_of c) 0) 0 (b + x) (omega (arith, length-replicate m first))
      ∙ get_or-replicate m (b + x) first below

  mark_blank : (m : Mark) → at c blank (mark m) ≡ 0
  mark_blank m =
      let b : ℕ = marks_base c in
      let y : ℕ = 8 * mark_place c m + 7 in
      ap (λ l. get_or l (b + y) 0) blank_is
      ∙ get_or-append_right (replicate b first) (replicate (8 * mark_places_of c) 0) b (b + y) 0 (length-replicate b first) (omega arith)
      ∙ get_or-same (8 * mark_places_of c) (b + y - b) 0

  no_fill : (r : Ring) → ((d : ℕ) → r ≡ Fill d → ⊥) → HasRing c r → at c filled (producer r) ≡ first
  no_fill r off h = pairs.1 (producer r) h (λ d lt is. off d is) ∙ ring_blank r 8 h (omega arith)

  plain : first ≡ (first + 0) % 2 ^ 32
  plain = omega arith

  producer_open : (r : Ring) → HasRing c r → at c filled (producer r) ≡ (first + first_count c r) % 2 ^ 32
  producer_open (Fill d) h = (fills d h).0
  producer_open (Comp d) h = no_fill (Comp d) (λ e is. cc) h ∙ plain
  producer_open (Rx s) h = no_fill (Rx s) (λ e is. cc) h ∙ plain
  producer_open (Tx s) h = no_fill (Tx s) (λ e is. cc) h ∙ plain

  no_cell : (m : Mark) → ((p i : ℕ) → m ≡ Cell p i → ⊥) → HasMark c m → at c words (mark m) ≡ 0
  no_cell m off h = ports.1 (mark m) h (λ p lt is. off p is.0 is.1) ∙ pairs.1 (mark m) h (λ d lt is. is) ∙ mark_blank m

  mark_open : (m : Mark) → HasMark c m → at c words (mark m) ≡ first_mark c m
  mark_open (NeedFill d) h = no_cell (NeedFill d) (λ p i is. cc) h
  mark_open (NeedTx s) h = no_cell (NeedTx s) (λ p i is. cc) h
  mark_open (Kick d) h = no_cell (Kick d) (λ p i is. cc) h
  mark_open (RxDone d) h = no_cell (RxDone d) (λ p i is. cc) h
  mark_open (Gone d) h = no_cell (Gone d) (λ p i is. cc) h
  mark_open (TxDone a) h = no_cell (TxDone a) (λ p i is. cc) h
  mark_open (Cell port index) h = cells port h.0 index h.1
  mark_open (Closing s) h = no_cell (Closing s) (λ p i is. cc) h
  mark_open (Acked s) h = no_cell (Acked s) (λ p i is. cc) h
  mark_open (Bounced d) h = no_cell (Bounced d) (λ p i is. cc) h

  pub words_open : WordsOpen c first words
  words_open = record {
    wide = ports.0 ∙ pairs.0 ∙ ap (length {A = ℕ}) blank_is ∙ length-append (replicate (marks_base c) first) (replicate (8 * mark_places_of c) 0) ∙ omega (arith, length-replicate (marks_base c) first, length-zeros (8 * mark_places_of c) 0);
    producers = λ r h. ports.1 (producer r) h (λ p lt is. is) ∙ producer_open r h;
    consumers = λ r h. ports.1 (consumer r) h (λ p lt is. is) ∙ pairs.1 (consumer r) h (λ d lt is. is) ∙ ring_blank r 24 h (omega arith);
    entries = λ d h j lt. ports.1 (entry_of c (Fill d) (first + j)) (h, place_below c (Fill d) (first + j) config h) (λ p below is. is) ∙ (fills d h).1 j lt;
    marks = mark_open;
  }

take_row : (row more : List ℕ) → take (length row) (row ++ more) ≡ row
take_row [] [] = refl
take_row [] (y ∷ more) = refl
take_row (x ∷ row) more = ap (λ l. x ∷ l) (take_row row more)

-- what is written through a slice of all is all
pub written_back : (row more : List ℕ) (n : ℕ) → n ≡ length row → take n (row ++ more) ≡ row
written_back row more n e = ap (λ m. take m (row ++ more)) e ∙ take_row row more
