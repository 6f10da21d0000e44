-- A list's packets behind the headers of a capture.
use Rattle.std.proofs.Common.{◌≡◌, ℕ, ◌+◌, ◌≤◌, List, [], ◌∷◌, ◌++◌, length, min, refl, sym, ap, ◌∙◌, arith}
use Rattle.std.specs.List.{AllByRecursion}
use Rattle.std.proofs.lemmas.List.{append-nil}
use Rattle.xsk_umem.specs.Span.{laid_from}
use Rattle.xsk_pcap.specs.declared.endianness.Endianness.TheVariants.{Little}
use Rattle.xsk_pcap.specs.Capture.{header_bytes, IsShort}
use Rattle.xsk_pcap.specs.Written.{header_of, written_header, text_of, written, IsWritable}

-- headers and short packets are records
laid_records : (number : ℕ) (packets : List (List ℕ)) → AllByRecursion IsShort packets → laid_from (λ k len. header_of k (min len 4294967295)) number packets ≡ text_of number packets
laid_records number [] short = refl
laid_records number (p ∷ ps) short =
    let few : length p ≤ 262144 = short.0 in
    let size : min (length p) 4294967295 ≡ length p = omega (arith, few) in
    rw size (ap (λ (text : List ℕ). header_of number (length p) ++ p ++ text) (laid_records (number + 1) ps short.1))

pub laid_written : (packets : List (List ℕ)) → IsWritable (packets ∷ [])
    → header_bytes Little written_header ++ laid_from (λ k len. header_of k (min len 4294967295)) 0 packets ≡ written (packets ∷ [])
laid_written packets writable =
    let each : AllByRecursion IsShort packets = rw append-nil at writable.each in
    ap (λ (text : List ℕ). header_bytes Little written_header ++ text) (laid_records 0 packets each)
    ∙ ap (λ (ps : List (List ℕ)). header_bytes Little written_header ++ text_of 0 ps) (sym (append-nil packets))
