-- Writes of words, and the sizes of rings.
use Rattle.std.proofs.Common.{◌≡◌, ℕ, ◌+◌, ◌-◌, ◌*◌, ◌/◌, ◌%◌, ◌^◌, ◌<◌, ◌≤◌, true, false, List, length, set, refl, sym, ap, ◌∙◌, arith, subst, ⊎_elim, Option, Some, None}
use Rattle.std.proofs.lemmas.Bool.{cases_lt}
use Rattle.std.proofs.lemmas.Nat.{pow-add}
use Rattle.std.proofs.Math.Pow.{pow_mono}
use Rattle.std.proofs.Math.Nat.{add-mul-mod_self_right, mul_assoc}
use Rattle.std.proofs.lemmas.List.{get_or-set_same, get_or-set_other}
use Rattle.xsk_model.specs.Config.{Config, IsConfig, IsRingSize, IsBound, IsServed, HasRing, size_of, pair_at, socket_at}
use Rattle.xsk_model.specs.Rings.{is_ring}
use Rattle.xsk_model.specs.Marks.{HasMark}
use Rattle.xsk_model.specs.declared.call.Ring.{Ring}
use Rattle.xsk_model.specs.declared.call.Ring.TheVariants.{Fill, Comp, Rx, Tx}
use Rattle.xsk_model.specs.declared.call.Mark.{Mark}
use Rattle.xsk_model.proofs.Places.{is_ring-self}
use Rattle.xsk_model.proofs.RingSizes.{some_size}
use Rattle.xsk_table.specs.Layout.{entry_words, words_of, Word, producer, consumer, entry, second, mark, HasWord, word_at}
use Rattle.xsk_table.proofs.Rows.{own_words}
use Rattle.xsk_table.specs.Rule.{at}

-- ---- sizes

pub ring_size : (c : Config) (r : Ring) → IsConfig c → HasRing c r → IsRingSize (size_of c r)
ring_size c (Fill d) config h =
    let served : IsServed c.sockets (pair_at c.pairs d) = config.served d (record { port = 0; queue = 0; fill = 0; comp = 0 }) h in served.fill
ring_size c (Comp d) config h =
    let served : IsServed c.sockets (pair_at c.pairs d) = config.served d (record { port = 0; queue = 0; fill = 0; comp = 0 }) h in served.comp
ring_size c (Rx s) config h =
    let bound : IsBound c.ports c.queues c.pairs (socket_at c.sockets s) = config.bound s (record { port = 0; queue = 0; rx = None; tx = None }) h.0 in
    some_size (socket_at c.sockets s).rx h.1 bound.rx
ring_size c (Tx s) config h =
    let bound : IsBound c.ports c.queues c.pairs (socket_at c.sockets s) = config.bound s (record { port = 0; queue = 0; rx = None; tx = None }) h.0 in
    some_size (socket_at c.sockets s).tx h.1 bound.tx

-- a ring's size divides 2 ^ 32
divides_by : (size part n : ℕ) → part * size ≡ 2 ^ 32 → (n % 2 ^ 32) % size ≡ n % size
divides_by size part n is =
    let q : ℕ = n / 2 ^ 32 in
    let whole : n % 2 ^ 32 + q * part * size ≡ n = ap (λ m. n % 2 ^ 32 + m) (mul_assoc q part size ∙ ap (λ m. q * m) is) ∙ omega arith in
    sym (add-mul-mod_self_right (n % 2 ^ 32) (q * part) size) ∙ ap (λ m. m % size) whole

power_small : (k : ℕ) → 2 ^ k ≤ 2048 → k ≤ 11
power_small k h = ⊎_elim
    (λ (lt : k < 12). omega arith)
    (λ (le : 12 ≤ k). absurd (let more : 2 ^ 12 ≤ 2 ^ k = pow_mono le in let n : ℕ = 2 ^ k in omega arith))
    (cases_lt k 12)

pub divides : (size n : ℕ) → IsRingSize size → (n % 2 ^ 32) % size ≡ n % size
divides size n h =
    let k = h.power.0 in
    let few : k ≤ 11 = power_small k (subst (λ m. m ≤ 2048) h.power.1 h.most) in
    let part : 2 ^ (32 - k) * size ≡ 2 ^ 32 = ap (λ m. 2 ^ (32 - k) * m) h.power.1 ∙ sym (pow-add 2 (32 - k) k) ∙ ap (λ m. 2 ^ m) (let z : 32 - k + k ≡ 32 = omega arith in z) in
    divides_by size (2 ^ (32 - k)) n part

-- ---- writes

-- the ring of a word
abbrev pub ring_of_word : Word → Option Ring
ring_of_word (producer r) = Some r
ring_of_word (consumer r) = Some r
ring_of_word (entry r i) = Some r
ring_of_word (second r i) = Some r
ring_of_word (mark m) = None

-- the words of a ring are as they were
pub record SameWords (c : Config) (words words' : List ℕ) (r : Ring) : Type 0 where
  pub producer_is : at c words' (producer r) ≡ at c words (producer r)
  pub consumer_is : at c words' (consumer r) ≡ at c words (consumer r)
  pub entries : (i : ℕ) → i < size_of c r → at c words' (entry r i) ≡ at c words (entry r i)
  pub seconds : (i : ℕ) → i < size_of c r → entry_words r ≡ 2 → at c words' (second r i) ≡ at c words (second r i)

some_ring : (r s : Ring) → Some r ≡ Some s → r ≡ s
some_ring r s e = cc

pub other_ring : (r s : Ring) → is_ring r s ≡ false → Some s ≡ Some r → ⊥
other_ring r s off e =
    let same : s ≡ r = some_ring s r e in
    let itself : is_ring r s ≡ true = subst (λ q. is_ring r q ≡ true) (sym same) (is_ring-self r) in
    cc

module _ (c : Config) (words : List ℕ) (w : Word) (n : ℕ) (config : IsConfig c) (has : HasWord c w) where
  pub write_here : length words ≡ words_of c → at c (set words (word_at c w) n) w ≡ n
  write_here wide = get_or-set_same words (word_at c w) n 0 (let lt = (own_words c w w config has has).0 in omega arith)

  pub write_else : (v : Word) → HasWord c v → (v ≡ w → ⊥) → at c (set words (word_at c w) n) v ≡ at c words v
  write_else v there apart = get_or-set_other words (word_at c w) (word_at c v) n 0 (λ e. apart ((own_words c v w config there has).1 e))

  apart_by : (v : Word) → (ring_of_word w ≡ ring_of_word v → ⊥) → v ≡ w → ⊥
  apart_by v off e = off (ap ring_of_word (sym e))

  pub write_other_ring : (r : Ring) → HasRing c r → (ring_of_word w ≡ Some r → ⊥) → SameWords c words (set words (word_at c w) n) r
  write_other_ring r there off = record {
    producer_is = write_else (producer r) there (apart_by (producer r) off);
    consumer_is = write_else (consumer r) there (apart_by (consumer r) off);
    entries = λ i lt. write_else (entry r i) (there, lt) (apart_by (entry r i) off);
    seconds = λ i lt two. write_else (second r i) (there, lt, two) (apart_by (second r i) off);
  }

  pub write_no_mark : (m : Mark) → HasMark c m → (ring_of_word w ≡ None → ⊥) → at c (set words (word_at c w) n) (mark m) ≡ at c words (mark m)
  write_no_mark m there off = write_else (mark m) there (apart_by (mark m) off)

pub same_words : (c : Config) (words : List ℕ) (r : Ring) → SameWords c words words r
same_words c words r = record { producer_is = refl; consumer_is = refl; entries = λ i lt. refl; seconds = λ i lt two. refl }

-- the place of an entry in its ring
abbrev pub place_in : Word → ℕ
place_in (producer r) = 0
place_in (consumer r) = 0
place_in (entry r i) = i
place_in (second r i) = i
place_in (mark m) = 0

pub ring_word : (r : Ring) → Some r ≡ None → ⊥
ring_word r e = cc
