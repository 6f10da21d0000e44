-- A block at the front of bytes passes its checks, and is read in one way.
use Rattle.std.proofs.Common.{◌≡◌, ℕ, ◌+◌, ◌≤◌, true, false, List, [], ◌++◌, length, take, drop, Some, None, refl, sym, ap, subst, ◌∙◌, arith, inl, inr, ltb}
use Rattle.std.specs.Prelude.{eqb, ◌%◌, ◌<◌}
use Rattle.std.proofs.lemmas.Bool.{le-ltb, ne_eqb}
use Rattle.std.proofs.lemmas.Bool.Decides.{eqb_tells}
use Rattle.std.proofs.lemmas.List.{take_at, drop_at, length-append, take-append-le, drop-append-le, length-drop}
use Rattle.byteorder.specs.Numbers.{big_from-take, little_from-take}
use Rattle.xsk_pcap.specs.declared.endianness.Endianness.{Endianness}
use Rattle.xsk_pcap.specs.declared.endianness.Endianness.TheVariants.{Little, Big}
use Rattle.xsk_pcapng.specs.declared.reading.BadPcapng.{BadPcapng}
use Rattle.xsk_pcap.specs.Numbers.{number_in}
use Rattle.xsk_pcapng.specs.Blocks.{kind_in, total_in, last_in, link_in, interface_in, captured_in, least, padded, IsBlock, MayStand}
use Rattle.xsk_pcapng.specs.Pcapng.{length_refusal, interface_refusal, packet_refusal, kind_refusal, content_refusal, block_refusal}

-- ---- fields at the front

pub number_in-append : (order : Endianness) (n : ℕ) (xs ys : List ℕ) → n ≤ length xs → number_in order n (xs ++ ys) ≡ number_in order n xs
number_in-append Little n xs ys long =
    sym (little_from-take 0 n n (xs ++ ys) (omega arith)) ∙ ap (number_in Little n) (take-append-le n xs ys long) ∙ little_from-take 0 n n xs (omega arith)
number_in-append Big n xs ys long =
    sym (big_from-take 0 n n (xs ++ ys) (omega arith)) ∙ ap (number_in Big n) (take-append-le n xs ys long) ∙ big_from-take 0 n n xs (omega arith)

pub total_in-append : (order : Endianness) (block more : List ℕ) → 8 ≤ length block → total_in order (block ++ more) ≡ total_in order block
total_in-append order block more long =
    ap (number_in order 4) (drop-append-le 4 block more (omega arith)) ∙ number_in-append order 4 (drop 4 block) more (omega (arith, length-drop 4 block))

pub least_12 : (kind : ℕ) → 12 ≤ least kind
least_12 kind = grind arith

pub IsBlock-long : (order : Endianness) (block : List ℕ) → IsBlock order block → 12 ≤ length block
IsBlock-long order block is = omega (arith, least_12 (kind_in order block), is.long)

-- ---- a block that stands there passes

interface_none : (order : Endianness) (ports at interfaces : ℕ) (block : List ℕ) → link_in order block ≡ 1 → interfaces < ports → interface_refusal order ports at interfaces block ≡ None
interface_none order ports at interfaces block link port = grind arith

packet_none : (order : Endianness) (at interfaces : ℕ) (block : List ℕ) → interface_in order block < interfaces → captured_in order block ≤ 262144 → 32 + padded (captured_in order block) ≤ length block
    → packet_refusal order at interfaces block ≡ None
packet_none order at interfaces block interface short within = grind arith

kind_none : (order : Endianness) (ports at interfaces : ℕ) (block : List ℕ) → MayStand order ports at interfaces block → kind_refusal order ports at interfaces block ≡ None
kind_none order ports at interfaces block may =
    elim (eqb_tells (kind_in order block) 0x0a0d0d0a) [
      | inl s ↦ rw (s.0, may.one_section s.1) refl
      | inr s ↦ elim (eqb_tells (kind_in order block) 1) [
        | inl i ↦ rw (s.0, i.0) (interface_none order ports at interfaces block (may.ethernet i.1) (may.port i.1))
        | inr i ↦ elim (eqb_tells (kind_in order block) 6) [
          | inl p ↦ rw (s.0, i.0, ne_eqb (kind_in order block) 2 may.no_obsolete, ne_eqb (kind_in order block) 3 may.no_simple, p.0) (packet_none order at interfaces block (may.interface p.1) (may.short p.1) (may.within p.1))
          | inr p ↦ rw (s.0, i.0, ne_eqb (kind_in order block) 2 may.no_obsolete, ne_eqb (kind_in order block) 3 may.no_simple, p.0) refl
        ]
      ]
    ]

pub content_none : (order : Endianness) (ports at interfaces : ℕ) (block : List ℕ) → IsBlock order block → MayStand order ports at interfaces block → content_refusal order ports at interfaces block ≡ None
content_none order ports at interfaces block is may =
    let long : ltb (length block) (least (kind_in order block)) ≡ false = le-ltb (length block) (least (kind_in order block)) is.long in
    let last : eqb (last_in order block) (length block) ≡ true = grind (arith, is.last) in
    rw (last, long) (kind_none order ports at interfaces block may)

pub length_none : (order : Endianness) (at : ℕ) (bytes : List ℕ) → 12 ≤ total_in order bytes → total_in order bytes % 4 ≡ 0 → total_in order bytes ≤ length bytes → length_refusal order at bytes ≡ None
length_none order at bytes long multiple within = grind arith

pub block_none : (order : Endianness) (ports at interfaces : ℕ) (block more : List ℕ) → IsBlock order block → MayStand order ports at interfaces block → block_refusal order ports at interfaces (block ++ more) ≡ None
block_none order ports at interfaces block more is may =
    let long = IsBlock-long order block is in
    let total : total_in order (block ++ more) ≡ length block = total_in-append order block more (omega arith) ∙ is.total in
    let none : length_refusal order at (block ++ more) ≡ None =
    length_none order at (block ++ more) (omega (arith, long, total)) (ap (λ (n : ℕ). n % 4) total ∙ is.multiple) (omega (arith, total, length-append block more)) in
    let front : take (total_in order (block ++ more)) (block ++ more) ≡ block = take_at block more (total_in order (block ++ more)) (sym total) in
    rw (none, front) (content_none order ports at interfaces block is may)

-- ---- one block at one front

pub front_unique : (order : Endianness) (b c x y : List ℕ) → IsBlock order b → IsBlock order c → b ++ x ≡ c ++ y → (b ≡ c) × (x ≡ y)
front_unique order b c x y is_b is_c e =
    let long_b = IsBlock-long order b is_b in
    let long_c = IsBlock-long order c is_c in
    let same : length b ≡ length c =
    sym (total_in-append order b x (omega arith) ∙ is_b.total) ∙ ap (total_in order) e ∙ total_in-append order c y (omega arith) ∙ is_c.total in (
      sym (take_at b x (length b) refl) ∙ ap (take (length b)) e ∙ take_at c y (length b) (sym same),
      sym (drop_at b x (length b) refl) ∙ ap (drop (length b)) e ∙ drop_at c y (length b) (sym same),
    )

-- no block that may stand here does
abbrev pub EndsAt : Endianness → ℕ → ℕ → ℕ → List ℕ → Type 0
EndsAt order ports at interfaces rest = (block more : List ℕ) → IsBlock order block → MayStand order ports at interfaces block → block ++ more ≡ rest → ⊥

pub EndsAt-nil : (order : Endianness) (ports at interfaces : ℕ) → EndsAt order ports at interfaces []
EndsAt-nil order ports at interfaces block more is may e = absurd (omega (arith, IsBlock-long order block is, ap length e, length-append block more))

pub EndsAt-refused : (order : Endianness) (ports at interfaces : ℕ) (rest : List ℕ) (refusal : BadPcapng) → block_refusal order ports at interfaces rest ≡ Some refusal → EndsAt order ports at interfaces rest
EndsAt-refused order ports at interfaces rest refusal fails block more is may e =
    let none : block_refusal order ports at interfaces rest ≡ None = subst (λ (t : List ℕ). block_refusal order ports at interfaces t ≡ None) e (block_none order ports at interfaces block more is may) in
    let P = sym none ∙ fails in
    absurd cc
