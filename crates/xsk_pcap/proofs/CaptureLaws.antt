-- The laws of captures.
use Rattle.std.proofs.Common.{◌≡◌, ℕ, ◌+◌, ◌-◌, List, [], ◌∷◌, ◌++◌, length, map, Some, refl, sym, ap, ◌∙◌, arith, inl, inr}
use Rattle.std.specs.List.{flat_map}
use Rattle.std.proofs.lemmas.List.{append-nil}
use Rattle.std.proofs.lemmas.Option.{same_Some}
use Rattle.xsk_pcap.specs.declared.endianness.Endianness.{Endianness}
use Rattle.xsk_pcap.specs.declared.endianness.Endianness.TheVariants.{Little}
use Rattle.xsk_pcap.specs.declared.reading.BadCapture.{BadCapture}
use Rattle.xsk_pcap.specs.declared.reading.BadCapture.TheVariants.{OutOfMemory}
use Rattle.xsk_pcap.specs.Capture.{header_bytes, record_bytes, IsCapture, record_refusal, header_refusal, FailsAtRecord, IsRefused, IsCause}
use Rattle.xsk_pcap.specs.Written.{written_header, written_records, all_packets}
use Rattle.xsk_pcap.specs.Laws.{OneReading, OneRefusal, RefusedIsNoCapture, WrittenReadsBack}
use Rattle.xsk_pcap.proofs.Unique.{EndsAt, EndsAt-nil, EndsAt-refused, Begins-passes, Begins-unique}

-- ---- one reading

pub one_reading : OneReading
one_reading bytes some others a b =
    (Begins-unique a.0 b.0 bytes [] [] some others a.1 b.1 (EndsAt-nil a.0) (EndsAt-nil b.0)).1

ends : {bytes : List ℕ} {refusal : BadCapture} (f : FailsAtRecord bytes refusal) → EndsAt f.order f.rest
ends {bytes} {refusal} f = EndsAt-refused f.order (length bytes - length f.rest) f.rest refusal f.fails

header_or_record : {A : Type 0} {bytes : List ℕ} {a b : BadCapture} → header_refusal bytes ≡ Some a → FailsAtRecord bytes b → A
header_or_record e f = let none = sym (Begins-passes f.order f.begins) ∙ e in absurd cc

one_record : (bytes : List ℕ) (a b : BadCapture) → FailsAtRecord bytes a → FailsAtRecord bytes b → a ≡ b
one_record bytes a b f g =
    let u = Begins-unique f.order g.order bytes f.rest g.rest f.packets g.packets f.begins g.begins (ends f) (ends g) in
    let same : record_refusal f.order (length bytes - length f.rest) f.rest ≡ record_refusal g.order (length bytes - length g.rest) g.rest =
    ap (λ (o : Endianness). record_refusal o (length bytes - length f.rest) f.rest) u.0 ∙ ap (λ (r : List ℕ). record_refusal g.order (length bytes - length r) r) u.2 in
    same_Some a b (sym f.fails ∙ same ∙ g.fails)

pub one_refusal : OneRefusal
one_refusal bytes a b (inl p) (inl q) = same_Some a b (sym p ∙ q)
one_refusal bytes a b (inl p) (inr g) = header_or_record p g
one_refusal bytes a b (inr f) (inl q) = header_or_record q f
one_refusal bytes a b (inr f) (inr g) = one_record bytes a b f g

pub refused_is_no_capture : RefusedIsNoCapture
refused_is_no_capture bytes refusal packets (inl p) capture = let none = sym (Begins-passes capture.0 capture.1) ∙ p in absurd cc
refused_is_no_capture bytes refusal packets (inr f) capture =
    let u = Begins-unique f.order capture.0 bytes f.rest [] f.packets packets f.begins capture.1 (ends f) (EndsAt-nil capture.0) in
    absurd (omega (arith, f.more, ap length u.2))

-- ---- what a reader answers

pub refused_once : (bytes : List ℕ) (cause refusal : BadCapture) → IsCause bytes cause → IsRefused bytes refusal → cause ≡ refusal
refused_once bytes cause refusal (inl why) refused = one_refusal bytes cause refusal why refused
refused_once bytes cause refusal (inr memory) refused = absurd (refused_is_no_capture bytes refusal memory.1 refused memory.2)

pub accepted_but_for_memory : (bytes : List ℕ) (cause : BadCapture) (packets : List (List ℕ)) → IsCause bytes cause → IsCapture bytes packets → cause ≡ OutOfMemory
accepted_but_for_memory bytes cause packets (inl why) capture = absurd (refused_is_no_capture bytes cause packets why capture)
accepted_but_for_memory bytes cause packets (inr memory) capture = memory.0

-- ---- what is written reads back

pub packets_of-written_records : (k : ℕ) (packets : List (List ℕ)) → map (λ r. r.packet) (written_records k packets) ≡ packets
packets_of-written_records k [] = refl
packets_of-written_records k (p ∷ ps) = ap (λ (qs : List (List ℕ)). p ∷ qs) (packets_of-written_records (k + 1) ps)

pub written_reads_back : WrittenReadsBack
written_reads_back lists writable =
    let records = written_records 0 (all_packets lists) in
    let body = flat_map (record_bytes Little) records in (
      Little,
      record {
        header = written_header;
        magic = refl;
        body = body;
        records = record { records = records; short = writable.each; packets_are = packets_of-written_records 0 (all_packets lists); bytes_are = refl };
        whole = ap (λ (t : List ℕ). header_bytes Little written_header ++ t) (append-nil body);
      },
    )
