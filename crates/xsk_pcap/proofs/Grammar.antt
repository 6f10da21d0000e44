-- What the reader has seen of a capture is a beginning of one.
use Rattle.std.proofs.Common.{◌≡◌, ℕ, ◌-◌, ◌≤◌, List, [], ◌∷◌, ◌++◌, length, take, drop, refl, sym, ap, subst, ◌∙◌, append_assoc, arith}
use Rattle.std.specs.List.{flat_map, AllByRecursion}
use Rattle.std.proofs.lemmas.List.{append-nil, length-take, length-drop, map-append, take-append-drop}
use Rattle.std.proofs.lemmas.List.Concat.{flat_map-append}
use Rattle.xsk_pcap.specs.declared.endianness.Endianness.{Endianness}
use Rattle.xsk_pcap.specs.Numbers.{field, number_in}
use Rattle.xsk_pcap.specs.Capture.{Header, header_bytes, Record, record_bytes, IsShort, AreRecords, Begins, captured_in}
use Rattle.xsk_pcap.specs.Steps.{PassesHeader, BeginsRecord}
use Rattle.xsk_pcap.proofs.Fields.{IsBytes, cut_2, cut_4}

-- ---- the file header

fields_of : (order : Endianness) (a b c d e f g rest : List ℕ) → (((((((a ++ b) ++ c) ++ d) ++ e) ++ f) ++ g) ++ rest) ≡ a ++ (b ++ (c ++ (d ++ (e ++ (f ++ (g ++ rest))))))
fields_of order a b c d e f g rest = simp append_assoc

pub begins_header : (order : Endianness) (bytes : List ℕ) → PassesHeader order bytes → IsBytes bytes → Begins order bytes [] (drop 24 bytes)
begins_header order bytes passes fits =
    let long = passes.long in
    let magic = cut_4 order 0 4 bytes refl (omega arith) fits in
    let major = subst (λ (n : ℕ). field order 2 n ++ drop 6 bytes ≡ drop 4 bytes) passes.major (cut_2 order 4 6 bytes refl (omega arith) fits) in
    let minor = subst (λ (n : ℕ). field order 2 n ++ drop 8 bytes ≡ drop 6 bytes) passes.minor (cut_2 order 6 8 bytes refl (omega arith) fits) in
    let zone = cut_4 order 8 12 bytes refl (omega arith) fits in
    let figures = cut_4 order 12 16 bytes refl (omega arith) fits in
    let snaplen = cut_4 order 16 20 bytes refl (omega arith) fits in
    let link = subst (λ (n : ℕ). field order 4 n ++ drop 24 bytes ≡ drop 20 bytes) passes.link (cut_4 order 20 24 bytes refl (omega arith) fits) in
    let header : Header = record { magic = number_in order 4 bytes; zone = number_in order 4 (drop 8 bytes); figures = number_in order 4 (drop 12 bytes); snaplen = number_in order 4 (drop 16 bytes) } in
    let regrouped = fields_of order (field order 4 header.magic) (field order 2 2) (field order 2 4) (field order 4 header.zone) (field order 4 header.figures) (field order 4 header.snaplen) (field order 4 1) (drop 24 bytes) in
    record {
      header = header;
      magic = passes.magic;
      body = [];
      records = record { records = []; short = tt; packets_are = refl; bytes_are = refl };
      whole = regrouped ∙ rw (link, snaplen, figures, zone, minor, major) magic;
    }

-- ---- a record

pub begins_record : (order : Endianness) (bytes : List ℕ) (captured : ℕ) → 16 ≤ length bytes → captured ≡ captured_in order bytes → captured ≤ 262144 → captured ≤ length bytes - 16 → IsBytes bytes
    → BeginsRecord order bytes (take captured (drop 16 bytes)) (drop captured (drop 16 bytes))
begins_record order bytes captured long is short whole fits =
    let packet = take captured (drop 16 bytes) in
    let rest = drop captured (drop 16 bytes) in
    let len : length packet ≡ captured = omega (arith, length-take captured (drop 16 bytes), length-drop 16 bytes) in
    let seconds = cut_4 order 0 4 bytes refl (omega arith) fits in
    let fraction = cut_4 order 4 8 bytes refl (omega arith) fits in
    let size = cut_4 order 8 12 bytes refl (omega arith) fits in
    let size' = subst (λ (n : ℕ). field order 4 n ++ drop 12 bytes ≡ drop 8 bytes) (sym (len ∙ is)) size in
    let original = cut_4 order 12 16 bytes refl (omega arith) fits in
    let of : Record = record { seconds = number_in order 4 bytes; fraction = number_in order 4 (drop 4 bytes); original = number_in order 4 (drop 12 bytes); packet = packet } in
    let regrouped : record_bytes order of ++ rest ≡ field order 4 of.seconds ++ (field order 4 of.fraction ++ (field order 4 (length packet) ++ (field order 4 of.original ++ (packet ++ rest)))) = simp append_assoc in
    record {
      of = of;
      short = omega arith;
      packet_is = refl;
      whole = regrouped ∙ rw (take-append-drop captured (drop 16 bytes), original, size', fraction) seconds;
    }

-- ---- one record more

AllByRecursion-push : {X : Type 0} (P : X → Type 0) (xs : List X) (x : X) → AllByRecursion P xs → P x → AllByRecursion P (xs ++ x ∷ [])
AllByRecursion-push P [] x all one = (one, tt)
AllByRecursion-push P (y ∷ ys) x all one = (all.0, AllByRecursion-push P ys x all.1 one)

AreRecords-push : (order : Endianness) (body : List ℕ) (packets : List (List ℕ)) (of : Record) → AreRecords order body packets → IsShort of.packet → AreRecords order (body ++ record_bytes order of) (packets ++ of.packet ∷ [])
AreRecords-push order body packets of are short = record {
  records = are.records ++ of ∷ [];
  short = AllByRecursion-push IsShort packets of.packet are.short short;
  packets_are = map-append (λ (r : Record). r.packet) are.records (of ∷ []) ∙ ap (λ (ps : List (List ℕ)). ps ++ of.packet ∷ []) are.packets_are;
  bytes_are =
      flat_map-append (record_bytes order) are.records (of ∷ [])
      ∙ ap (λ (t : List ℕ). flat_map (record_bytes order) are.records ++ t) (append-nil (record_bytes order of))
      ∙ ap (λ (t : List ℕ). t ++ record_bytes order of) are.bytes_are;
}

pub Begins-push : (order : Endianness) (bytes : List ℕ) (packets : List (List ℕ)) (rest packet more : List ℕ) → Begins order bytes packets rest → BeginsRecord order rest packet more → Begins order bytes (packets ++ packet ∷ []) more
Begins-push order bytes packets rest packet more begins next = record {
  header = begins.header;
  magic = begins.magic;
  body = begins.body ++ record_bytes order next.of;
  records = subst (λ (p : List ℕ). AreRecords order (begins.body ++ record_bytes order next.of) (packets ++ p ∷ [])) next.packet_is (AreRecords-push order begins.body packets next.of begins.records next.short);
  whole =
      ap (λ (t : List ℕ). header_bytes order begins.header ++ t) (append_assoc begins.body (record_bytes order next.of) more ∙ ap (λ (t : List ℕ). begins.body ++ t) next.whole)
      ∙ begins.whole;
}
