-- A capture is read in one way.
use Rattle.std.proofs.Common.{◌≡◌, ℕ, ◌+◌, ◌-◌, false, List, [], ◌∷◌, ◌++◌, length, take, drop, map, Some, None, refl, sym, ap, subst, ◌∙◌, append_assoc, arith, inl, inr, ltb}
use Rattle.std.specs.Prelude.{IsTrue, eqb, ◌⊎◌}
use Rattle.std.specs.List.{flat_map, AllByRecursion}
use Rattle.std.proofs.lemmas.Bool.{or_cases, eqb-true, le-ltb}
use Rattle.std.proofs.lemmas.Option.{same_Some}
use Rattle.std.proofs.lemmas.List.{take_at, drop_at, length-append}
use Rattle.xsk_pcap.specs.declared.endianness.Endianness.{Endianness}
use Rattle.xsk_pcap.specs.declared.endianness.Endianness.TheVariants.{Little, Big}
use Rattle.xsk_pcap.specs.declared.reading.BadCapture.{BadCapture}
use Rattle.xsk_pcap.specs.Numbers.{field}
use Rattle.xsk_pcap.specs.Capture.{Header, header_bytes, is_magic, Record, record_bytes, IsShort, AreRecords, Begins, captured_in, order_of, header_refusal, record_refusal}
use Rattle.xsk_pcap.proofs.Fields.{number_in-field}

-- ---- a record at the front

-- the captured length in a record
pub captured_in-record : (order : Endianness) (r : Record) (rest : List ℕ) → IsShort r.packet → captured_in order (record_bytes order r ++ rest) ≡ length r.packet
captured_in-record Little r rest short = number_in-field Little 4 (length r.packet) (field Little 4 r.original ++ (r.packet ++ rest)) (omega arith)
captured_in-record Big r rest short = number_in-field Big 4 (length r.packet) (field Big 4 r.original ++ (r.packet ++ rest)) (omega arith)

-- what stands behind a record's header
pub drop_16-record : (order : Endianness) (r : Record) (rest : List ℕ) → drop 16 (record_bytes order r ++ rest) ≡ r.packet ++ rest
drop_16-record Little r rest = refl
drop_16-record Big r rest = refl

pub length-record : (order : Endianness) (r : Record) (rest : List ℕ) → length (record_bytes order r ++ rest) ≡ 16 + length (r.packet ++ rest)
length-record Little r rest = omega arith
length-record Big r rest = omega arith

-- no record begins here
abbrev pub EndsAt : Endianness → List ℕ → Type 0
EndsAt order rest = (r : Record) (more : List ℕ) → IsShort r.packet → record_bytes order r ++ more ≡ rest → ⊥

pub EndsAt-nil : (order : Endianness) → EndsAt order []
EndsAt-nil order r more short e = absurd (omega (arith, ap length e, length-record order r more))

-- a record that stands there passes
record_refusal-record : (order : Endianness) (offset : ℕ) (r : Record) (more : List ℕ) → IsShort r.packet → record_refusal order offset (record_bytes order r ++ more) ≡ None
record_refusal-record order offset r more short =
    let bytes = record_bytes order r ++ more in
    let long = length-record order r more in
    let all = length-append r.packet more in
    let is = captured_in-record order r more short in
    let a : ltb (length bytes) 16 ≡ false = le-ltb (length bytes) 16 (omega arith) in
    let b : ltb 262144 (captured_in order bytes) ≡ false = le-ltb 262144 (captured_in order bytes) (omega arith) in
    let d : ltb (length bytes - 16) (captured_in order bytes) ≡ false = le-ltb (length bytes - 16) (captured_in order bytes) (omega arith) in
    rw (a, b, d) refl

pub EndsAt-refused : (order : Endianness) (offset : ℕ) (rest : List ℕ) (refusal : BadCapture) → record_refusal order offset rest ≡ Some refusal → EndsAt order rest
EndsAt-refused order offset rest refusal fails r more short e =
    let none : record_refusal order offset rest ≡ None = subst (λ (t : List ℕ). record_refusal order offset t ≡ None) e (record_refusal-record order offset r more short) in
    let P = sym none ∙ fails in
    absurd cc

-- two records at one front have one packet and one rest
pub front_unique : (order : Endianness) (r s : Record) (x y : List ℕ) → IsShort r.packet → IsShort s.packet → record_bytes order r ++ x ≡ record_bytes order s ++ y → (r.packet ≡ s.packet) × (x ≡ y)
front_unique order r s x y short_r short_s e =
    let same : length r.packet ≡ length s.packet = sym (captured_in-record order r x short_r) ∙ ap (captured_in order) e ∙ captured_in-record order s y short_s in
    let tail : r.packet ++ x ≡ s.packet ++ y = sym (drop_16-record order r x) ∙ ap (drop 16) e ∙ drop_16-record order s y in (
      sym (take_at r.packet x (length r.packet) refl) ∙ ap (take (length r.packet)) tail ∙ take_at s.packet y (length r.packet) (sym same),
      sym (drop_at r.packet x (length r.packet) refl) ∙ ap (drop (length r.packet)) tail ∙ drop_at s.packet y (length r.packet) (sym same),
    )

-- ---- all records

abbrev pub packets_of : List Record → List (List ℕ)
packets_of rs = map (λ r. r.packet) rs

-- each of the records is short enough
pub short_of : {order : Endianness} {bytes : List ℕ} {packets : List (List ℕ)} (are : AreRecords order bytes packets) → AllByRecursion IsShort (packets_of are.records)
short_of are = subst (AllByRecursion IsShort) (sym are.packets_are) are.short

records_unique : (order : Endianness) (rs ss : List Record) (x y : List ℕ) → AllByRecursion IsShort (packets_of rs) → AllByRecursion IsShort (packets_of ss) → EndsAt order x → EndsAt order y
    → flat_map (record_bytes order) rs ++ x ≡ flat_map (record_bytes order) ss ++ y → (packets_of rs ≡ packets_of ss) × (x ≡ y)
records_unique order [] [] x y short_r short_s end_x end_y e = (refl, e)
records_unique order [] (s ∷ ss) x y short_r short_s end_x end_y e =
    absurd (end_x s (flat_map (record_bytes order) ss ++ y) short_s.0 (sym (append_assoc (record_bytes order s) (flat_map (record_bytes order) ss) y) ∙ sym e))
records_unique order (r ∷ rs) [] x y short_r short_s end_x end_y e =
    absurd (end_y r (flat_map (record_bytes order) rs ++ x) short_r.0 (sym (append_assoc (record_bytes order r) (flat_map (record_bytes order) rs) x) ∙ e))
records_unique order (r ∷ rs) (s ∷ ss) x y short_r short_s end_x end_y e =
    let regrouped = sym (append_assoc (record_bytes order r) (flat_map (record_bytes order) rs) x) ∙ e ∙ append_assoc (record_bytes order s) (flat_map (record_bytes order) ss) y in
    let first = front_unique order r s (flat_map (record_bytes order) rs ++ x) (flat_map (record_bytes order) ss ++ y) short_r.0 short_s.0 regrouped in
    let others = records_unique order rs ss x y short_r.1 short_s.1 end_x end_y first.1 in
    (ap (λ (p : List ℕ). p ∷ packets_of rs) first.0 ∙ ap (λ (ps : List (List ℕ)). s.packet ∷ ps) others.0, others.1)

-- ---- the file header

magic_cases : (m : ℕ) → IsTrue (is_magic m) → (m ≡ 0xa1b2c3d4) ⊎ (m ≡ 0xa1b23c4d)
magic_cases m h =
    elim (or_cases (eqb m 0xa1b2c3d4) (eqb m 0xa1b23c4d) h) [
      | inl a ↦ inl (eqb-true m 0xa1b2c3d4 a)
      | inr b ↦ inr (eqb-true m 0xa1b23c4d b)
    ]

abbrev with_magic : Header → ℕ → Header
with_magic h m = record { magic = m; zone = h.zone; figures = h.figures; snaplen = h.snaplen }

-- a header shows its byte order
pub order_of-header : (order : Endianness) (h : Header) (tail : List ℕ) → IsTrue (is_magic h.magic) → order_of (header_bytes order h ++ tail) ≡ Some order
order_of-header Little h tail magic =
    elim (magic_cases h.magic magic) [
      | inl e ↦ subst (λ (m : ℕ). order_of (header_bytes Little (with_magic h m) ++ tail) ≡ Some Little) (sym e) refl
      | inr e ↦ subst (λ (m : ℕ). order_of (header_bytes Little (with_magic h m) ++ tail) ≡ Some Little) (sym e) refl
    ]
order_of-header Big h tail magic =
    elim (magic_cases h.magic magic) [
      | inl e ↦ subst (λ (m : ℕ). order_of (header_bytes Big (with_magic h m) ++ tail) ≡ Some Big) (sym e) refl
      | inr e ↦ subst (λ (m : ℕ). order_of (header_bytes Big (with_magic h m) ++ tail) ≡ Some Big) (sym e) refl
    ]

-- and passes its checks
header_refusal-header : (order : Endianness) (h : Header) (tail : List ℕ) → IsTrue (is_magic h.magic) → header_refusal (header_bytes order h ++ tail) ≡ None
header_refusal-header Little h tail magic =
    let long : ltb (length (header_bytes Little h ++ tail)) 24 ≡ false = le-ltb (length (header_bytes Little h ++ tail)) 24 (omega arith) in
    let order = order_of-header Little h tail magic in
    rw (long, order) refl
header_refusal-header Big h tail magic =
    let long : ltb (length (header_bytes Big h ++ tail)) 24 ≡ false = le-ltb (length (header_bytes Big h ++ tail)) 24 (omega arith) in
    let order = order_of-header Big h tail magic in
    rw (long, order) refl

pub drop_24-header : (order : Endianness) (h : Header) (tail : List ℕ) → drop 24 (header_bytes order h ++ tail) ≡ tail
drop_24-header Little h tail = refl
drop_24-header Big h tail = refl

-- ---- the beginning of a capture

pub Begins-order : {bytes rest : List ℕ} {packets : List (List ℕ)} (order : Endianness) → Begins order bytes packets rest → order_of bytes ≡ Some order
Begins-order {bytes} {rest} order b = subst (λ (t : List ℕ). order_of t ≡ Some order) b.whole (order_of-header order b.header (b.body ++ rest) b.magic)

pub Begins-passes : {bytes rest : List ℕ} {packets : List (List ℕ)} (order : Endianness) → Begins order bytes packets rest → header_refusal bytes ≡ None
Begins-passes {bytes} {rest} order b = subst (λ (t : List ℕ). header_refusal t ≡ None) b.whole (header_refusal-header order b.header (b.body ++ rest) b.magic)

-- what stands behind the file header
pub Begins-body : {bytes rest : List ℕ} {packets : List (List ℕ)} (order : Endianness) (b : Begins order bytes packets rest) → drop 24 bytes ≡ b.body ++ rest
Begins-body {bytes} {rest} order b = ap (drop 24) (sym b.whole) ∙ drop_24-header order b.header (b.body ++ rest)

unique_at : (order : Endianness) (bytes x y : List ℕ) (ps qs : List (List ℕ)) → Begins order bytes ps x → Begins order bytes qs y → EndsAt order x → EndsAt order y → (ps ≡ qs) × (x ≡ y)
unique_at order bytes x y ps qs b d end_x end_y =
    let e : b.body ++ x ≡ d.body ++ y = sym (Begins-body order b) ∙ Begins-body order d in
    let regrouped = ap (λ (t : List ℕ). t ++ x) b.records.bytes_are ∙ e ∙ ap (λ (t : List ℕ). t ++ y) (sym d.records.bytes_are) in
    let u = records_unique order b.records.records d.records.records x y (short_of b.records) (short_of d.records) end_x end_y regrouped in
    (sym b.records.packets_are ∙ u.0 ∙ d.records.packets_are, u.1)

-- two beginnings that go as far as they can are one
pub Begins-unique : (o q : Endianness) (bytes x y : List ℕ) (ps qs : List (List ℕ)) → Begins o bytes ps x → Begins q bytes qs y → EndsAt o x → EndsAt q y → (o ≡ q) × (ps ≡ qs) × (x ≡ y)
Begins-unique o q bytes x y ps qs b d end_x end_y =
    let same : o ≡ q = same_Some o q (sym (Begins-order o b) ∙ Begins-order q d) in
    let d' : Begins o bytes qs y = subst (λ (z : Endianness). Begins z bytes qs y) (sym same) d in
    let end' : EndsAt o y = subst (λ (z : Endianness). EndsAt z y) (sym same) end_y in
    let u = unique_at o bytes x y ps qs b d' end_x end' in
    (same, u.0, u.1)
