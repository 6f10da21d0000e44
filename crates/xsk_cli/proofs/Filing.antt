-- The one file of all ports: what is read of it, and what is written.
use Rattle.std.proofs.Common.{◌≡◌, ℕ, zero, suc, ◌+◌, ◌*◌, ◌<◌, ◌≤◌, List, [], ◌∷◌, ◌++◌, length, map, get_or, take, drop, slice_get, Some, refl, sym, ap, ◌∙◌, arith, inl, inr}
use Rattle.std.specs.List.{concat, range_with_len, AllByRecursion}
use Rattle.std.proofs.lemmas.Bool.Decides.{eqb_tells}
use Rattle.std.proofs.lemmas.List.{append-nil, drop_all, drop_more, get_or-drop, get_or-map, length-append, length-drop, length-map, length-take, take_more}
use Rattle.std.proofs.lemmas.List.Concat.{flat_map-append}
use Rattle.std.proofs.lemmas.List.FromFn.{length-map-range_with_len}
use Rattle.std.proofs.lemmas.List.Sums.{sum_by-append}
use Rattle.std.proofs.lemmas.Option.{get_or_from_slice_get, slice_get_within}
use Rattle.xsk_umem.specs.PacketList.{PacketList}
use Rattle.xsk_pcap.specs.Written.{written, all_packets}
use Rattle.xsk_pcap.specs.declared.endianness.Endianness.{Endianness}
use Rattle.xsk_pcap.specs.declared.reading.BadCapture.TheVariants.{OutOfMemory as NoCause}
use Rattle.xsk_pcapng.specs.Blocks.{kind_in, captured_in, Arrival, arrivals_of, arrivals_in, packets_at}
use Rattle.xsk_pcapng.specs.Pcapng.{IsPcapng, IsRefused, IsCause, lists_of}
use Rattle.xsk_pcapng.specs.Written.{written as written_file}
use Rattle.xsk_pcapng.specs.declared.reading.BadPcapng.{BadPcapng as FileCause}
use Rattle.xsk_pcapng.specs.declared.reading.BadPcapng.TheVariants.{OutOfMemory as NoFileCause}
use Rattle.xsk_pcapng.proofs.Fits.{read_fits}
use Rattle.xsk_cli.specs.Format.{HasBadCapture, HasBadFile, files_of, joined, outputs_of}
use Rattle.xsk_cli.specs.Judged.{bytes_in}
use Rattle.xsk_cli.specs.Steps.{lists_in}
use Rattle.xsk_cli.specs.Words.{format_in, ports_in}
use Rattle.xsk_cli.specs.declared.format.Format.{Format}
use Rattle.xsk_cli.specs.declared.format.Format.TheVariants.{Pcap, Pcapng}
use Rattle.xsk_cli.specs.declared.words.Work.{Work}
use Rattle.xsk_cli.proofs.Ports.{same_map}

-- ---- want of memory is no check

no_check_in : (format : Format) (inputs : List (List ℕ)) (port : ℕ) → HasBadCapture format inputs port NoCause → ⊥
no_check_in Pcap inputs port h = h.check refl
no_check_in Pcapng inputs port h = h

pub no_check : (work : Work) (inputs : List (List ℕ)) (port : ℕ) → HasBadCapture (format_in work) inputs port NoCause → ⊥
no_check work inputs port h = no_check_in (format_in work) inputs port h

no_file_check_in : (format : Format) (ports : ℕ) (inputs : List (List ℕ)) → HasBadFile format ports inputs NoFileCause → ⊥
no_file_check_in Pcap ports inputs h = h
no_file_check_in Pcapng ports inputs h = h.check refl

pub no_file_check : (work : Work) (inputs : List (List ℕ)) → HasBadFile (format_in work) (ports_in work) inputs NoFileCause → ⊥
no_file_check work inputs h = no_file_check_in (format_in work) (ports_in work) inputs h

-- ---- what is refused

-- what is taken from the end of a list of one
pub only_one : {X : Type 0} (all rest : List X) (x : X) → length all ≡ 1 → all ≡ rest ++ x ∷ [] → get_or all 0 x ≡ x
only_one all [] x one is = ap (λ xs. get_or xs 0 x) is
only_one all (y ∷ ys) x one is = absurd (omega (arith, one, ap length is, length-append ys (x ∷ [])))

pub file_refusal : (ports : ℕ) (bytes : List ℕ) (cause : FileCause) → IsCause ports bytes cause → (cause ≡ NoFileCause → ⊥) → IsRefused ports bytes cause × (cause ≡ NoFileCause → ⊥)
file_refusal ports bytes cause (inl refused) check = (refused, check)
file_refusal ports bytes cause (inr memory) check = absurd (check memory.0)

-- ---- the packets of each port

split_all : {X : Type 0} (P : X → Type 0) (xs ys : List X) → AllByRecursion P (xs ++ ys) → AllByRecursion P xs × AllByRecursion P ys
split_all P [] ys all = (tt, all)
split_all P (x ∷ xs) ys all = let rest = split_all P xs ys all.1 in ((all.0, rest.0), rest.1)

pub each_of_all : (P : List ℕ → Type 0) (lists : List (List (List ℕ))) → AllByRecursion P (all_packets lists) → (port : ℕ) → port < length lists → AllByRecursion P (get_or lists port [])
each_of_all P [] all port below = absurd (omega (arith, below))
each_of_all P (list ∷ lists) all zero below = (split_all P list (all_packets lists) all).0
each_of_all P (list ∷ lists) all (suc port) below = each_of_all P lists (split_all P list (all_packets lists) all).1 port (omega (arith, below))

-- ---- sizes

abbrev bytes_to : List Arrival → ℕ
bytes_to [] = 0
bytes_to (a ∷ arrivals) = length a.packet + bytes_to arrivals

bytes_both : (some others : List Arrival) → bytes_to (some ++ others) ≡ bytes_to some + bytes_to others
bytes_both [] others = omega arith
bytes_both (a ∷ some) others = omega (arith, bytes_both some others)

bytes_at : (i : ℕ) (arrivals : List Arrival) → length (concat (packets_at i arrivals)) ≤ bytes_to arrivals
bytes_at i [] = omega arith
bytes_at i (a ∷ arrivals) =
    elim (eqb_tells a.interface i) [
      | inl e ↦ rw e.0 (omega (arith, length-append a.packet (concat (packets_at i arrivals)), bytes_at i arrivals))
      | inr e ↦ rw e.0 (omega (arith, bytes_at i arrivals))
    ]

block_bytes : (order : Endianness) (block : List ℕ) → bytes_to (arrivals_of order block) ≤ length block
block_bytes order block =
    elim (eqb_tells (kind_in order block) 6) [
      | inl p ↦ rw p.0 (omega (arith, length-take (captured_in order block) (drop 28 block), length-drop 28 block))
      | inr p ↦ rw p.0 (omega arith)
    ]

blocks_bytes : (order : Endianness) (blocks : List (List ℕ)) → bytes_to (arrivals_in order blocks) ≤ length (concat blocks)
blocks_bytes order [] = omega arith
blocks_bytes order (b ∷ blocks) =
    omega (arith, bytes_both (arrivals_of order b) (arrivals_in order blocks), block_bytes order b, blocks_bytes order blocks, length-append b (concat blocks))

lists_bytes : (n : ℕ) (arrivals : List Arrival) → bytes_to arrivals ≤ 67108864 → bytes_in (lists_of n arrivals) ≤ n * 67108864
lists_bytes zero arrivals few = omega arith
lists_bytes (suc n) arrivals few =
    omega (
      arith,
      few,
      sum_by-append (λ (packets : List (List ℕ)). length (concat packets)) (lists_of n arrivals) (packets_at n arrivals ∷ []),
      bytes_at n arrivals,
      lists_bytes n arrivals few,
    )

-- the packets of few ports have few bytes together
pub file_small : (ports : ℕ) (bytes : List ℕ) (lists : List (List (List ℕ))) → IsPcapng ports bytes lists → ports ≤ 4 → length bytes ≤ 67108864 → bytes_in lists ≤ 268435456
file_small ports bytes lists file few short =
    let arrivals = arrivals_in file.order file.blocks in
    let within : bytes_to arrivals ≤ 67108864 = omega (arith, blocks_bytes file.order file.blocks, ap length file.begins.whole, length-append (concat file.blocks) [], short) in
    omega (arith, few, lists_bytes ports arrivals within, ap bytes_in file.lists_are)

pub count_file : (ports : ℕ) (bytes : List ℕ) (lists : List PacketList) → IsPcapng ports bytes (lists_in lists) → length lists ≡ ports
count_file ports bytes lists file = sym (length-map lists (λ (l : PacketList). l.packets)) ∙ (read_fits ports bytes (lists_in lists) file).0

-- ---- what is written

-- the same of each port gives the same texts
pub same_texts : (format : Format) (f g : ℕ → List (List (List ℕ))) (n : ℕ) → ((port : ℕ) → port < n → f port ≡ g port) → outputs_of format f (range_with_len 0 n) ≡ outputs_of format g (range_with_len 0 n)
same_texts Pcap f g n each = same_map (λ port. written (f port)) (λ port. written (g port)) 0 n (λ port h. ap written (each port (omega (arith, h))))
same_texts Pcapng f g n each =
    ap (λ lists. written_file lists ∷ []) (same_map (λ port. all_packets (f port)) (λ port. all_packets (g port)) 0 n (λ port h. ap all_packets (each port (omega (arith, h)))))

-- as many texts as files
pub count_texts : (format : Format) (f : ℕ → List (List (List ℕ))) (n : ℕ) → length (outputs_of format f (range_with_len 0 n)) ≡ files_of format n
count_texts Pcap f n = length-map-range_with_len (λ port. written (f port)) 0 n
count_texts Pcapng f n = refl

-- one list for each port is joined as it is
joined_from : (all : List (List (List ℕ))) (n count : ℕ) → n + count ≡ length all → map (λ port. all_packets (take 1 (drop (port * 1) all))) (range_with_len n count) ≡ drop n all
joined_from all n zero is = sym (drop_all n all (omega (arith, is)))
joined_from all n (suc count) is =
    let below : n < length all = omega (arith, is) in
    let at : n * 1 ≡ n = omega arith in
    let here : all_packets (take 1 (drop (n * 1) all)) ≡ get_or all n [] =
    ap (λ k. all_packets (take 1 (drop k all))) at ∙ ap (λ ls. all_packets (take 1 ls)) (drop_more all n [] below) ∙ append-nil (get_or all n []) in
    ap (λ x. x ∷ map (λ port. all_packets (take 1 (drop (port * 1) all))) (range_with_len (n + 1) count)) here
    ∙ ap (λ xs. get_or all n [] ∷ xs) (joined_from all (n + 1) count (omega (arith, is))) ∙ sym (drop_more all n [] below)

pub joined_one : (ports : ℕ) (all : List (List (List ℕ))) → length all ≡ ports → joined ports 1 all ≡ all
joined_one ports all count = joined_from all 0 ports (omega (arith, count))

pub joined_as_is : (ports each : ℕ) (lists : List PacketList) → each ≡ 1 → length lists ≡ ports * each → joined ports each (lists_in lists) ≡ lists_in lists
joined_as_is ports each lists one count =
    let all : length lists ≡ ports * 1 = count ∙ ap (λ n. ports * n) one in
    ap (λ n. joined ports n (lists_in lists)) one ∙ joined_one ports (lists_in lists) (omega (arith, length-map lists (λ (l : PacketList). l.packets), all))

-- one list more is joined
pub join_more : (lists : List PacketList) (first place : ℕ) (d list : PacketList) → first + place < length lists → list ≡ get_or lists (first + place) d
    → all_packets (take place (drop first (lists_in lists))) ++ list.packets ≡ all_packets (take (place + 1) (drop first (lists_in lists)))
join_more lists first place d list below is =
    let all : List (List (List ℕ)) = drop first (lists_in lists) in
    let here : place < length all = omega (arith, below, length-drop first (lists_in lists), length-map lists (λ (l : PacketList). l.packets)) in
    let last : get_or all place [] ≡ list.packets =
    get_or-drop first (lists_in lists) place [] ∙ get_or-map (λ (l : PacketList). l.packets) lists (first + place) d [] below ∙ ap (λ (l : PacketList). l.packets) (sym is) in
    ap (λ ps. all_packets (take place all) ++ ps) (sym last ∙ sym (append-nil (get_or all place [])))
    ∙ sym (flat_map-append (λ (ls : List (List ℕ)). ls) (take place all) (get_or all place [] ∷ [])) ∙ sym (ap all_packets (take_more all place [] here))

-- the packet that comes next in a list
pub packet_next : (packets : List (List ℕ)) (i : ℕ) (packet : List ℕ) → slice_get packets i ≡ Some packet → drop i packets ≡ packet ∷ drop (i + 1) packets
packet_next packets i packet is =
    drop_more packets i [] (slice_get_within packets i packet is) ∙ ap (λ p. p ∷ drop (i + 1) packets) (get_or_from_slice_get packets i packet [] is)
