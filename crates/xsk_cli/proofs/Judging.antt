-- The inputs' captures, judged one after another.
use Rattle.std.proofs.Common.{◌≡◌, ℕ, ◌+◌, ◌<◌, ◌≤◌, List, [], ◌∷◌, ◌++◌, length, map, get_or, refl, sym, ap, ◌∙◌, subst, arith, length-append, None}
use Rattle.std.specs.Prelude.{sum_by, Result, Err, IfErr}
use Rattle.std.specs.List.{concat, flat_map}
use Rattle.std.proofs.lemmas.List.{map-append, length-map, get_or-map}
use Rattle.std.proofs.lemmas.List.Sums.{sum_by-append}
use Rattle.std.proofs.Math.Seq.{get_or-append_seam}
use Rattle.std.proofs.lemmas.Bool.Decides.{nat_tests}
use Rattle.xsk_umem.specs.PacketList.{PacketList}
use Rattle.xsk_pcap.specs.Capture.{IsCapture, Record, record_bytes, header_bytes}
use Rattle.xsk_pcap.specs.declared.endianness.Endianness.{Endianness}
use Rattle.xsk_pcap.proofs.Unique.{length-record}
use Rattle.xsk_cli.specs.Format.{most_input}
use Rattle.xsk_cli.specs.declared.format.Format.TheVariants.{Pcap}
use Rattle.xsk_cli.specs.Judged.{bytes_of, AreShort, AreCaptures, packets_in, bytes_in, excess_of}
use Rattle.xsk_cli.specs.Outcome.{listed}
use Rattle.xsk_cli.specs.Steps.{AreUntaken, IsRefusal, lists_in}
use Rattle.xsk_cli.specs.declared.failure.RunFailure.{RunFailure}
use Rattle.xsk_cli.specs.declared.failure.RunFailure.TheVariants.{BadCapture as Bad, TooMuch as Excessive, Stalled as Stalls, Explained, OutOfMemory as NoMemory, NotLegal as Breaks, Reasoned, BadPcapng as BadFile}
use Rattle.xsk_cli.proofs.Ports.{push_each, small_sum}

-- the first inputs are captures, and these are the lists of their packets
pub record HaveTaken (inputs : List (List ℕ)) (lists : List PacketList) (n : ℕ) : Type 0 where
  pub count : length lists ≡ n
  pub each : (port : ℕ) → port < n → IsCapture (bytes_of inputs port) (get_or (lists_in lists) port [])
  pub bare : lists ≡ map listed (lists_in lists)

pub taken_more : (inputs : List (List ℕ)) (lists : List PacketList) (list : PacketList) (n : ℕ) → HaveTaken inputs lists n → IsCapture (bytes_of inputs n) list.packets → list ≡ listed list.packets
    → HaveTaken inputs (lists ++ list ∷ []) (n + 1)
taken_more inputs lists list n have is bare =
    let packets : PacketList → List (List ℕ) = λ (l : PacketList). l.packets in
    let parts : lists_in (lists ++ list ∷ []) ≡ lists_in lists ++ list.packets ∷ [] = map-append packets lists (list ∷ []) in
    record {
      count = length-append lists (list ∷ []) ∙ ap (λ k. k + 1) have.count;
      each = subst (λ ls. (port : ℕ) → port < n + 1 → IsCapture (bytes_of inputs port) (get_or ls port [])) (sym parts)
          (push_each (λ port ps. IsCapture (bytes_of inputs port) ps) [] (lists_in lists) list.packets n (length-map lists packets ∙ have.count) have.each is);
      bare =
          ap (λ ls. ls ++ list ∷ []) have.bare ∙ ap (λ l. map listed (lists_in lists) ++ l ∷ []) bare
          ∙ sym (map-append listed (lists_in lists) (list.packets ∷ [])) ∙ ap (map listed) (sym parts);
    }

pub refusal_makes : (inputs : List (List ℕ)) (lists : List PacketList) (n : ℕ) (failure : RunFailure) → HaveTaken inputs lists n → n < length inputs → AreShort (most_input Pcap) inputs (length inputs)
    → IsRefusal n (bytes_of inputs n) failure → AreUntaken inputs failure
refusal_makes inputs lists n (Bad at cause) have known short h =
    subst (λ k. AreUntaken inputs (Bad k cause)) (sym h.0)
    (short, record { known = known; before = λ lower l. (get_or (lists_in lists) lower [], have.each lower l); refused = h.1; check = h.2 })
refusal_makes inputs lists n (Excessive excess) have known short h = absurd h
refusal_makes inputs lists n (Stalls round) have known short h = absurd h
refusal_makes inputs lists n (Explained round text) have known short h = absurd h
refusal_makes inputs lists n (Breaks line) have known short h = absurd h
refusal_makes inputs lists n (Reasoned line text) have known short h = absurd h
refusal_makes inputs lists n NoMemory have known short h = tt
refusal_makes inputs lists n (BadFile cause) have known short h = absurd h

-- ---- sizes

length-records : (order : Endianness) (records : List Record) → length (concat (map (λ (r : Record). r.packet) records)) ≤ length (flat_map (record_bytes order) records)
length-records order [] = omega arith
length-records order (r ∷ records) =
    let rest : List ℕ = flat_map (record_bytes order) records in
    omega (arith, length-record order r rest, length-append r.packet rest, length-append r.packet (concat (map (λ (r : Record). r.packet) records)), length-records order records)

-- a capture has no more captured bytes than bytes
length-captured : (bytes : List ℕ) (packets : List (List ℕ)) → IsCapture bytes packets → length (concat packets) ≤ length bytes
length-captured bytes packets h =
    let b = h.1 in
    let records = b.records in
    omega (
      arith,
      length-records h.0 records.records,
      ap (λ (ps : List (List ℕ)). length (concat ps)) records.packets_are,
      ap length records.bytes_are,
      ap length b.whole,
      length-append (header_bytes h.0 b.header) (b.body ++ []),
      length-append b.body [],
    )

-- so all of them have few
pub bytes_small : (inputs : List (List ℕ)) (lists : List (List (List ℕ))) → AreCaptures inputs lists → AreShort (most_input Pcap) inputs (length inputs) → length inputs ≤ 4 → bytes_in lists ≤ 138412128
bytes_small inputs lists captures short few =
    let sum = small_sum (λ (packets : List (List ℕ)). length (concat packets)) [] lists
    (λ i h.
    let known : i < length inputs = omega (arith, h, captures.count) in
    omega (arith, length-captured (bytes_of inputs i) (get_or lists i []) (captures.each i known), short i known)) in
    omega (arith, sum, captures.count, few)

-- ---- limits

pub limits_of : (lists : List (List (List ℕ))) → excess_of lists ≡ None → (packets_in lists ≤ 65536) × (bytes_in lists ≤ 33554432)
limits_of lists h = (grind (arith, nat_tests, h), grind (arith, nat_tests, h))

-- ---- sums over lists

pub packets_of : (lists : List PacketList) → sum_by (λ (list : PacketList). length list.packets) lists ≡ packets_in (lists_in lists)
packets_of [] = refl
packets_of (list ∷ lists) =
    sum_by-append (λ (l : PacketList). length l.packets) (list ∷ []) lists ∙ ap (λ n. (0 + length list.packets) + n) (packets_of lists)
    ∙ sym (sum_by-append (λ (packets : List (List ℕ)). length packets) (list.packets ∷ []) (lists_in lists))

pub bytes_of_lists : (lists : List PacketList) → sum_by (λ (list : PacketList). length (concat list.packets)) lists ≡ bytes_in (lists_in lists)
bytes_of_lists [] = refl
bytes_of_lists (list ∷ lists) =
    sum_by-append (λ (l : PacketList). length (concat l.packets)) (list ∷ []) lists ∙ ap (λ n. (0 + length (concat list.packets)) + n) (bytes_of_lists lists)
    ∙ sym (sum_by-append (λ (packets : List (List ℕ)). length (concat packets)) (list.packets ∷ []) (lists_in lists))

-- ---- the bytes that the code has

pub text_at : {X : Type 0} (text : X → List ℕ) (xs : List X) (port : ℕ) (d : X) (bytes : List ℕ) → port < length xs → bytes ≡ text (get_or xs port d) → bytes ≡ bytes_of (map text xs) port
text_at text xs port d bytes known is = is ∙ sym (get_or-map text xs port d [] known)

-- of a list that is taken element by element, the text at the next place
pub text_next : {X : Type 0} (text : X → List ℕ) (before : List X) (x : X) (after all : List X) (port : ℕ) → before ++ x ∷ after ≡ all → port ≡ length before → (port < length all) × (text x ≡ bytes_of (map text all) port)
text_next text before x after all port is at =
    let known : port < length all = omega (arith, at, ap length is, length-append before (x ∷ after)) in
    let here : x ≡ get_or all port x = sym (get_or-append_seam before x after x) ∙ ap (λ xs. get_or xs (length before) x) is ∙ ap (λ n. get_or all n x) (sym at) in
    (known, text_at text all port x (text x) known (ap text here))

pub short_all : {X : Type 0} (most : ℕ) (text : X → List ℕ) (xs : List X) → AreShort most (map text xs) (length xs) → AreShort most (map text xs) (length (map text xs))
short_all most text xs short = subst (AreShort most (map text xs)) (sym (length-map xs text)) short

-- an answer with such a failure
pub answer_untaken : {A : Type 0} (answer : Result A RunFailure) (failure : RunFailure) (inputs : List (List ℕ)) → answer ≡ Err failure → AreUntaken inputs failure → IfErr answer (AreUntaken inputs)
answer_untaken answer failure inputs is untaken = subst (λ r. IfErr r (AreUntaken inputs)) (sym is) untaken
