-- Writing a capture, list by list.
use Rattle.std.proofs.Common.{◌≡◌, ℕ, ◌+◌, ◌*◌, ◌≤◌, List, [], ◌∷◌, ◌++◌, length, drop, map, Some, refl, sym, ap, subst, ◌∙◌, append_assoc, arith}
use Rattle.std.specs.Prelude.{slice_get}
use Rattle.std.specs.List.{concat, AllByRecursion}
use Rattle.std.proofs.lemmas.List.{append-nil, length-append, take_at, drop_at, map-append, drop_more}
use Rattle.std.proofs.lemmas.List.Concat.{flat_map-append}
use Rattle.std.proofs.lemmas.Option.{slice_get_within, get_or_from_slice_get}
use Rattle.xsk_pcap.specs.declared.endianness.Endianness.TheVariants.{Little}
use Rattle.xsk_pcap.specs.Capture.{header_bytes, record_bytes, IsShort, captured_in}
use Rattle.xsk_pcap.specs.Written.{written_header, written_record, text_of, all_packets, written, IsWritable}
use Rattle.xsk_pcap.specs.Kept.{packets_in, cut_into, lists_in, IsKept}
use Rattle.xsk_pcap.proofs.Unique.{captured_in-record, length-record}

-- ---- the records of a list

-- the packets from place i on
pub drop_slice_get : (xs : List (List ℕ)) (i : ℕ) (x : List ℕ) → slice_get xs i ≡ Some x → drop i xs ≡ x ∷ drop (i + 1) xs
drop_slice_get xs i x e =
    drop_more xs i x (slice_get_within xs i x e) ∙ ap (λ (y : List ℕ). y ∷ drop (i + 1) xs) (get_or_from_slice_get xs i x x e)

pub length-text_of : (k : ℕ) (packets : List (List ℕ)) → length (text_of k packets) ≡ 16 * length packets + length (concat packets)
length-text_of k [] = refl
length-text_of k (p ∷ ps) =
    omega (arith, length-record Little (written_record k p) (text_of (k + 1) ps), length-append p (text_of (k + 1) ps), length-append p (concat ps), length-text_of (k + 1) ps)

-- one record more
pub text_of-next : (text : List ℕ) (number i : ℕ) (packets : List (List ℕ)) (packet : List ℕ) → slice_get packets i ≡ Some packet
    → text ++ text_of (number + i) (drop i packets) ≡ (text ++ record_bytes Little (written_record (number + i) packet)) ++ text_of (number + (i + 1)) (drop (i + 1) packets)
text_of-next text number i packets packet e =
    let k : number + i + 1 ≡ number + (i + 1) = omega arith in
    ap (λ (ps : List (List ℕ)). text ++ text_of (number + i) ps) (drop_slice_get packets i packet e)
    ∙ ap (λ (j : ℕ). text ++ (record_bytes Little (written_record (number + i) packet) ++ text_of j (drop (i + 1) packets))) k
    ∙ sym (append_assoc text (record_bytes Little (written_record (number + i) packet)) (text_of (number + (i + 1)) (drop (i + 1) packets)))

-- the room that one record more takes is there
pub room_for_next : (text all : List ℕ) (number i capacity : ℕ) (packets : List (List ℕ)) (packet : List ℕ) → slice_get packets i ≡ Some packet
    → text ++ text_of (number + i) (drop i packets) ≡ all → length all ≤ capacity → length text + 16 + length packet ≤ capacity
room_for_next text all number i capacity packets packet e so_far room =
    let rest = drop (i + 1) packets in
    let is = ap (λ (ps : List (List ℕ)). length (text_of (number + i) ps)) (drop_slice_get packets i packet e) in
    omega (arith, ap length so_far, is, length-append text (text_of (number + i) (drop i packets)), length-text_of (number + i) (packet ∷ rest), length-append packet (concat rest))

-- ---- what a capture keeps

text_of-append : (k : ℕ) (ps qs : List (List ℕ)) → text_of k (ps ++ qs) ≡ text_of k ps ++ text_of (k + length ps) qs
text_of-append k [] qs = ap (λ (j : ℕ). text_of j qs) (omega arith)
text_of-append k (p ∷ ps) qs =
    let j : k + 1 + length ps ≡ k + length (p ∷ ps) = omega arith in
    ap (λ (t : List ℕ). record_bytes Little (written_record k p) ++ t) (text_of-append (k + 1) ps qs ∙ ap (λ (n : ℕ). text_of (k + 1) ps ++ text_of n qs) j)
    ∙ sym (append_assoc (record_bytes Little (written_record k p)) (text_of (k + 1) ps) (text_of (k + length (p ∷ ps)) qs))

all_packets-push : (lists : List (List (List ℕ))) (list : List (List ℕ)) → all_packets (lists ++ list ∷ []) ≡ all_packets lists ++ list
all_packets-push lists list = flat_map-append (λ l. l) lists (list ∷ []) ∙ ap (λ (ps : List (List ℕ)). all_packets lists ++ ps) (append-nil list)

pub written-push : (lists : List (List (List ℕ))) (list : List (List ℕ)) → written (lists ++ list ∷ []) ≡ written lists ++ text_of (length (all_packets lists)) list
written-push lists list =
    ap (λ (ps : List (List ℕ)). header_bytes Little written_header ++ text_of 0 ps) (all_packets-push lists list)
    ∙ ap (λ (t : List ℕ). header_bytes Little written_header ++ t) (text_of-append 0 (all_packets lists) list)
    ∙ ap (λ (n : ℕ). header_bytes Little written_header ++ (text_of 0 (all_packets lists) ++ text_of n list)) (omega arith)
    ∙ sym (append_assoc (header_bytes Little written_header) (text_of 0 (all_packets lists)) (text_of (length (all_packets lists)) list))

packets_in-text_of : (k : ℕ) (packets : List (List ℕ)) → AllByRecursion IsShort packets → packets_in (length packets) (text_of k packets) ≡ packets
packets_in-text_of k [] short = refl
packets_in-text_of k (p ∷ ps) short =
    let rest = text_of (k + 1) ps in
    let captured : captured_in Little (record_bytes Little (written_record k p) ++ rest) ≡ length p = captured_in-record Little (written_record k p) rest short.0 in
    rw (captured, take_at p rest (length p) refl, drop_at p rest (length p) refl, packets_in-text_of (k + 1) ps short.1) refl

cut_into-all : (lists : List (List (List ℕ))) → cut_into (map length lists) (all_packets lists) ≡ lists
cut_into-all [] = refl
cut_into-all (l ∷ ls) = rw (take_at l (all_packets ls) (length l) refl, drop_at l (all_packets ls) (length l) refl, cut_into-all ls) refl

lists_in-written : (lists : List (List (List ℕ))) → IsWritable lists → lists_in (written lists) (map length lists) (length (all_packets lists)) ≡ lists
lists_in-written lists writable =
    ap (cut_into (map length lists)) (packets_in-text_of 0 (all_packets lists) writable.each) ∙ cut_into-all lists

-- what is kept of lists shows them
IsKept-lists : (text counts : List ℕ) (number : ℕ) (lists : List (List (List ℕ))) → text ≡ written lists → counts ≡ map length lists → number ≡ length (all_packets lists) → IsWritable lists
    → (lists_in text counts number ≡ lists) × IsKept text counts number
IsKept-lists text counts number lists t c n writable =
    let is : lists_in text counts number ≡ lists = rw (t, c, n) (lists_in-written lists writable) in (
      is,
      record {
        text_is = t ∙ ap written (sym is);
        counts_are = c ∙ ap (map length) (sym is);
        number_is = n ∙ ap (λ (ls : List (List (List ℕ))). length (all_packets ls)) (sym is);
        writable = subst IsWritable (sym is) writable;
      },
    )

-- one list more
pub IsKept-push : (text counts text' counts' : List ℕ) (number n : ℕ) (old : List (List (List ℕ))) (list : List (List ℕ)) → lists_in text counts number ≡ old → IsKept text counts number → IsWritable (old ++ list ∷ [])
    → text' ≡ text ++ text_of number list → counts' ≡ counts ++ n ∷ [] → n ≡ length list
    → (lists_in text' counts' (number + n) ≡ old ++ list ∷ []) × IsKept text' counts' (number + n)
IsKept-push text counts text' counts' number n old list shown kept writable grown counted len =
    let text_is : text' ≡ written (old ++ list ∷ []) =
    grown ∙ ap (λ (t : List ℕ). t ++ text_of number list) (kept.text_is ∙ ap written shown)
    ∙ ap (λ (k : ℕ). written old ++ text_of k list) (kept.number_is ∙ ap (λ (ls : List (List (List ℕ))). length (all_packets ls)) shown) ∙ sym (written-push old list) in
    let counts_are : counts' ≡ map length (old ++ list ∷ []) =
    counted ∙ ap (λ (cs : List ℕ). cs ++ n ∷ []) (kept.counts_are ∙ ap (map length) shown) ∙ ap (λ (k : ℕ). map length old ++ k ∷ []) len ∙ sym (map-append length old (list ∷ [])) in
    let number_is : number + n ≡ length (all_packets (old ++ list ∷ [])) =
    omega (arith, kept.number_is, ap (λ (ls : List (List (List ℕ))). length (all_packets ls)) shown, len, ap length (all_packets-push old list), length-append (all_packets old) list) in
    IsKept-lists text' counts' (number + n) (old ++ list ∷ []) text_is counts_are number_is writable

-- ---- what a list that may be added has

pub AllByRecursion-last : (P : List ℕ → Type 0) (xs ys : List (List ℕ)) → AllByRecursion P (xs ++ ys) → AllByRecursion P ys
AllByRecursion-last P [] ys all = all
AllByRecursion-last P (x ∷ xs) ys all = AllByRecursion-last P xs ys all.1

length-concat_last : (xs ys : List (List ℕ)) → length (concat ys) ≤ length (concat (xs ++ ys))
length-concat_last [] ys = omega arith
length-concat_last (x ∷ xs) ys = omega (arith, length-append x (concat (xs ++ ys)), length-concat_last xs ys)

pub record FitsBehind (lists : List (List (List ℕ))) (list : List (List ℕ)) : Type 0 where
  pub short : AllByRecursion IsShort list
  pub packets : length (all_packets lists) + length list ≤ 65536
  pub bytes : length (concat list) ≤ 33554432

pub fits_behind : (lists : List (List (List ℕ))) (list : List (List ℕ)) → IsWritable (lists ++ list ∷ []) → FitsBehind lists list
fits_behind lists list writable =
    let all = all_packets-push lists list in
    record {
      short = AllByRecursion-last IsShort (all_packets lists) list (subst (AllByRecursion IsShort) all writable.each);
      packets = omega (arith, writable.packets, ap length all, length-append (all_packets lists) list);
      bytes = omega (arith, writable.bytes, ap (λ (ps : List (List ℕ)). length (concat ps)) all, length-concat_last (all_packets lists) list);
    }
