-- What is written reads back.
use Rattle.std.proofs.Common.{◌≡◌, ℕ, zero, suc, ◌+◌, ◌-◌, ◌/◌, ◌^◌, ◌≤◌, true, List, [], ◌∷◌, ◌++◌, length, get_or, take, drop, map, replicate, refl, sym, ap, subst, ◌∙◌, append_assoc, arith}
use Rattle.std.specs.Prelude.{eqb, ◌%◌, ◌<◌}
use Rattle.std.specs.List.{filter, AllByRecursion}
use Rattle.std.proofs.Math.Nat.{mul-add-mod_self_right}
use Rattle.std.proofs.Math.Seq.{take-suc, take-length}
use Rattle.std.proofs.lemmas.Bool.{ne_eqb}
use Rattle.std.proofs.lemmas.List.{append-nil, map-append, take_at, drop_at}
use Rattle.std.proofs.lemmas.List.Elements.{filter-append}
use Rattle.byteorder.specs.Endian.{little_bytes, little_number}
use Rattle.byteorder.specs.Numbers.{little_number-reads_back}
use Rattle.xsk_pcap.specs.declared.endianness.Endianness.TheVariants.{Little}
use Rattle.xsk_pcap.proofs.Writing.{AllByRecursion-last}
use Rattle.xsk_pcapng.specs.Blocks.{total_in, last_in, interface_in, captured_in, packet_in, padded, IsBlock, MayStand, AreBlocks, Arrival, arrivals_of, arrivals_in, packets_at}
use Rattle.xsk_pcapng.specs.Pcapng.{PassesHeader, lists_of}
use Rattle.xsk_pcapng.specs.Written.{block_bytes, section_block, interface_block, padding, packet_block, list_blocks, lists_blocks, written_blocks, written, all_packets, IsShort, IsWritable}
use Rattle.xsk_pcapng.specs.Laws.{WrittenReadsBack}
use Rattle.xsk_pcapng.proofs.Appending.{All-first, length-block, padded_few, body_of, length-body}

-- ---- a block

total_in-block : (kind : ℕ) (body : List ℕ) → 12 + length body < 2 ^ 32 → total_in Little (block_bytes kind body) ≡ length (block_bytes kind body)
total_in-block kind body few =
    little_number-reads_back 4 (12 + length body) (body ++ little_bytes 4 (12 + length body)) (omega (arith, few)) ∙ sym (length-block kind body)

last_in-block : (kind : ℕ) (body : List ℕ) → 12 + length body < 2 ^ 32 → last_in Little (block_bytes kind body) ≡ length (block_bytes kind body)
last_in-block kind body few =
    let last = little_bytes 4 (12 + length body) in
    let front : List ℕ = little_bytes 4 kind ++ last ++ body in
    let at : length front ≡ length (block_bytes kind body) - 4 = omega (arith, length-block kind body) in
    let behind : drop (length (block_bytes kind body) - 4) (front ++ last) ≡ last = drop_at front last (length (block_bytes kind body) - 4) at in
    ap (little_number 4) (behind ∙ sym (append-nil last)) ∙ little_number-reads_back 4 (12 + length body) [] (omega (arith, few)) ∙ sym (length-block kind body)

-- ---- a packet's block

pub length-packet_block : (interface k : ℕ) (packet : List ℕ) → length (packet_block interface k packet) ≡ 32 + padded (length packet)
length-packet_block interface k packet = omega (arith, length-block 6 (body_of interface k packet), length-body interface k packet)

multiple_of_4 : (n : ℕ) → (32 + padded n) % 4 ≡ 0
multiple_of_4 n =
    let swapped : 32 + padded n ≡ padded n + 32 = omega arith in
    ap (λ (m : ℕ). m % 4) swapped ∙ mul-add-mod_self_right ((n + 3) / 4) 4 32

packet_is_block : (interface k : ℕ) (packet : List ℕ) → IsShort packet → IsBlock Little (packet_block interface k packet)
packet_is_block interface k packet short =
    let body = body_of interface k packet in
    let few : 12 + length body < 2 ^ 32 = omega (arith, length-body interface k packet, padded_few (length packet), short) in
    record {
      long = omega (arith, length-packet_block interface k packet);
      multiple = ap (λ (n : ℕ). n % 4) (length-packet_block interface k packet) ∙ multiple_of_4 (length packet);
      total = total_in-block 6 body few;
      last = last_in-block 6 body few;
    }

interface_in-packet : (interface k : ℕ) (packet : List ℕ) → interface < 2 ^ 32 → interface_in Little (packet_block interface k packet) ≡ interface
interface_in-packet interface k packet few =
    little_number-reads_back 4 interface (
    little_bytes 4 (k / 2 ^ 32) ++ little_bytes 4 (k % 2 ^ 32) ++ little_bytes 4 (length packet) ++ little_bytes 4 (length packet) ++ packet ++ padding (length packet)
    ++ little_bytes 4 (12 + length (body_of interface k packet))
    ) (omega (arith, few))

captured_in-packet : (interface k : ℕ) (packet : List ℕ) → IsShort packet → captured_in Little (packet_block interface k packet) ≡ length packet
captured_in-packet interface k packet short =
    little_number-reads_back 4 (length packet) (
    little_bytes 4 (length packet) ++ packet ++ padding (length packet) ++ little_bytes 4 (12 + length (body_of interface k packet))
    ) (omega (arith, short))

packet_in-packet : (interface k : ℕ) (packet : List ℕ) → IsShort packet → packet_in Little (packet_block interface k packet) ≡ packet
packet_in-packet interface k packet short =
    let last = little_bytes 4 (12 + length (body_of interface k packet)) in
    let behind : drop 28 (packet_block interface k packet) ≡ packet ++ (padding (length packet) ++ last) = append_assoc packet (padding (length packet)) last in
    ap (λ (n : ℕ). take n (drop 28 (packet_block interface k packet))) (captured_in-packet interface k packet short)
    ∙ ap (take (length packet)) behind ∙ take_at packet (padding (length packet) ++ last) (length packet) refl

packet_may_stand : (ports at interfaces interface k : ℕ) (packet : List ℕ) → IsShort packet → interface < interfaces → interface < 2 ^ 32 → MayStand Little ports at interfaces (packet_block interface k packet)
packet_may_stand ports at interfaces interface k packet short below few =
    let captured = captured_in-packet interface k packet short in
    record {
      one_section = λ e. let e' : 6 ≡ 0x0a0d0d0a = e in absurd (omega (arith, e'));
      ethernet = λ e. let e' : 6 ≡ 1 = e in absurd (omega (arith, e'));
      port = λ e. let e' : 6 ≡ 1 = e in absurd (omega (arith, e'));
      no_obsolete = λ e. let e' : 6 ≡ 2 = e in absurd (omega (arith, e'));
      no_simple = λ e. let e' : 6 ≡ 3 = e in absurd (omega (arith, e'));
      interface = λ _. omega (arith, interface_in-packet interface k packet few, below);
      short = λ _. omega (arith, captured, short);
      within = λ _. rw captured (omega (arith, length-packet_block interface k packet));
    }

-- ---- blocks in order, wherever they begin

list_are : (ports at interfaces interface k : ℕ) (packets more : List (List ℕ)) → AllByRecursion IsShort packets → interface < interfaces → interface < 2 ^ 32
    → ((place : ℕ) → AreBlocks Little ports place interfaces more) → AreBlocks Little ports at interfaces (list_blocks interface k packets ++ more)
list_are ports at interfaces interface k [] more short below few later = later at
list_are ports at interfaces interface k (p ∷ ps) more short below few later =
    let block = packet_block interface k p in (
      packet_is_block interface k p short.0,
      packet_may_stand ports at interfaces interface k p short.0 below few,
      list_are ports (at + length block) interfaces interface (k + 1) ps more short.1 below few later,
    )

lists_are : (ports at interfaces interface k : ℕ) (lists : List (List (List ℕ))) → AllByRecursion IsShort (all_packets lists) → interface + length lists ≤ interfaces → interfaces < 2 ^ 32
    → AreBlocks Little ports at interfaces (lists_blocks interface k lists)
lists_are ports at interfaces interface k [] short below few = tt
lists_are ports at interfaces interface k (l ∷ ls) short below few =
    list_are ports at interfaces interface k l (lists_blocks (interface + 1) (k + length l) ls) (All-first IsShort l (all_packets ls) short) (omega (arith, below)) (omega (arith, below, few)) (
    λ place. lists_are ports place interfaces (interface + 1) (k + length l) ls (AllByRecursion-last IsShort l (all_packets ls) short) (omega (arith, below)) few
    )

interface_is_block : IsBlock Little interface_block
interface_is_block = record { long = omega arith; multiple = refl; total = refl; last = refl }

interface_may_stand : (ports at n : ℕ) → n < ports → MayStand Little ports at n interface_block
interface_may_stand ports at n below = record {
  one_section = λ e. let e' : 1 ≡ 0x0a0d0d0a = e in absurd (omega (arith, e'));
  ethernet = λ _. refl;
  port = λ _. below;
  no_obsolete = λ e. let e' : 1 ≡ 2 = e in absurd (omega (arith, e'));
  no_simple = λ e. let e' : 1 ≡ 3 = e in absurd (omega (arith, e'));
  interface = λ e. let e' : 1 ≡ 6 = e in absurd (omega (arith, e'));
  short = λ e. let e' : 1 ≡ 6 = e in absurd (omega (arith, e'));
  within = λ e. let e' : 1 ≡ 6 = e in absurd (omega (arith, e'));
}

interfaces_are : (ports at n m : ℕ) (more : List (List ℕ)) → n + m ≤ ports → ((place : ℕ) → AreBlocks Little ports place (n + m) more) → AreBlocks Little ports at n (replicate m interface_block ++ more)
interfaces_are ports at n zero more few later = subst (λ (i : ℕ). AreBlocks Little ports at i more) (omega arith) (later at)
interfaces_are ports at n (suc m) more few later =
    let sum : n + suc m ≡ n + 1 + m = omega arith in (
      interface_is_block,
      interface_may_stand ports at n (omega (arith, few)),
      interfaces_are ports (at + 20) (n + 1) m more (omega (arith, few)) (λ place. subst (λ (i : ℕ). AreBlocks Little ports place i more) sum (later place)),
    )

section_is_block : IsBlock Little section_block
section_is_block = record { long = omega arith; multiple = refl; total = refl; last = refl }

section_may_stand : (ports : ℕ) → MayStand Little ports 0 0 section_block
section_may_stand ports = record {
  one_section = λ _. refl;
  ethernet = λ e. let e' : 0x0a0d0d0a ≡ 1 = e in absurd (omega (arith, e'));
  port = λ e. let e' : 0x0a0d0d0a ≡ 1 = e in absurd (omega (arith, e'));
  no_obsolete = λ e. let e' : 0x0a0d0d0a ≡ 2 = e in absurd (omega (arith, e'));
  no_simple = λ e. let e' : 0x0a0d0d0a ≡ 3 = e in absurd (omega (arith, e'));
  interface = λ e. let e' : 0x0a0d0d0a ≡ 6 = e in absurd (omega (arith, e'));
  short = λ e. let e' : 0x0a0d0d0a ≡ 6 = e in absurd (omega (arith, e'));
  within = λ e. let e' : 0x0a0d0d0a ≡ 6 = e in absurd (omega (arith, e'));
}

written_are : (lists : List (List (List ℕ))) → IsWritable lists → AreBlocks Little (length lists) 0 0 (written_blocks lists)
written_are lists writable = (
  section_is_block,
  section_may_stand (length lists),
  interfaces_are (length lists) 28 0 (length lists) (lists_blocks 0 0 lists) (omega arith) (
      λ place. lists_are (length lists) place (0 + length lists) 0 0 lists writable.each (omega arith) (omega (arith, writable.few))
      ),
)

-- ---- the packets

-- packets as those of one interface
abbrev tagged : ℕ → List (List ℕ) → List Arrival
tagged interface packets = map (λ p. record { interface = interface; packet = p }) packets

-- lists as those of the interfaces from this one on
abbrev all_tagged : ℕ → List (List (List ℕ)) → List Arrival
all_tagged interface [] = []
all_tagged interface (l ∷ ls) = tagged interface l ++ all_tagged (interface + 1) ls

arrivals_of-packet : (interface k : ℕ) (packet : List ℕ) → IsShort packet → interface < 2 ^ 32 → arrivals_of Little (packet_block interface k packet) ≡ (record { interface = interface; packet = packet }) ∷ []
arrivals_of-packet interface k packet short few =
    ap (λ (i : ℕ). (record { interface = i; packet = packet_in Little (packet_block interface k packet) }) ∷ []) (interface_in-packet interface k packet few)
    ∙ ap (λ (p : List ℕ). (record { interface = interface; packet = p }) ∷ []) (packet_in-packet interface k packet short)

arrivals_in-list : (interface k : ℕ) (packets more : List (List ℕ)) → AllByRecursion IsShort packets → interface < 2 ^ 32 → arrivals_in Little (list_blocks interface k packets ++ more) ≡ tagged interface packets ++ arrivals_in Little more
arrivals_in-list interface k [] more short few = refl
arrivals_in-list interface k (p ∷ ps) more short few =
    ap (λ (xs : List Arrival). xs ++ arrivals_in Little (list_blocks interface (k + 1) ps ++ more)) (arrivals_of-packet interface k p short.0 few)
    ∙ ap (λ (xs : List Arrival). (record { interface = interface; packet = p }) ∷ xs) (arrivals_in-list interface (k + 1) ps more short.1 few)

arrivals_in-lists : (interface k : ℕ) (lists : List (List (List ℕ))) → AllByRecursion IsShort (all_packets lists) → interface + length lists < 2 ^ 32 → arrivals_in Little (lists_blocks interface k lists) ≡ all_tagged interface lists
arrivals_in-lists interface k [] short few = refl
arrivals_in-lists interface k (l ∷ ls) short few =
    arrivals_in-list interface k l (lists_blocks (interface + 1) (k + length l) ls) (All-first IsShort l (all_packets ls) short) (omega (arith, few))
    ∙ ap (λ (xs : List Arrival). tagged interface l ++ xs) (arrivals_in-lists (interface + 1) (k + length l) ls (AllByRecursion-last IsShort l (all_packets ls) short) (omega (arith, few)))

arrivals_in-interfaces : (m : ℕ) (more : List (List ℕ)) → arrivals_in Little (replicate m interface_block ++ more) ≡ arrivals_in Little more
arrivals_in-interfaces zero more = refl
arrivals_in-interfaces (suc m) more = arrivals_in-interfaces m more

arrivals_in-written : (lists : List (List (List ℕ))) → IsWritable lists → arrivals_in Little (written_blocks lists) ≡ all_tagged 0 lists
arrivals_in-written lists writable =
    arrivals_in-interfaces (length lists) (lists_blocks 0 0 lists) ∙ arrivals_in-lists 0 0 lists writable.each (omega (arith, writable.few))

-- ---- the packets of one interface

packets_at-append : (i : ℕ) (xs ys : List Arrival) → packets_at i (xs ++ ys) ≡ packets_at i xs ++ packets_at i ys
packets_at-append i xs ys =
    ap (map (λ (a : Arrival). a.packet)) (filter-append (λ (a : Arrival). eqb a.interface i) xs ys)
    ∙ map-append (λ (a : Arrival). a.packet) (filter (λ (a : Arrival). eqb a.interface i) xs) (filter (λ (a : Arrival). eqb a.interface i) ys)

packets_at-same : (i j : ℕ) (packets : List (List ℕ)) → i ≡ j → packets_at j (tagged i packets) ≡ packets
packets_at-same i j [] same = refl
packets_at-same i j (p ∷ ps) same =
    let e : eqb i j ≡ true = grind (arith, same) in
    rw e (ap (λ (qs : List (List ℕ)). p ∷ qs) (packets_at-same i j ps same))

packets_at-other : (i j : ℕ) (packets : List (List ℕ)) → (i ≡ j → ⊥) → packets_at j (tagged i packets) ≡ []
packets_at-other i j [] other = refl
packets_at-other i j (p ∷ ps) other = rw (ne_eqb i j other) (packets_at-other i j ps other)

packets_at-before : (i j : ℕ) (lists : List (List (List ℕ))) → j < i → packets_at j (all_tagged i lists) ≡ []
packets_at-before i j [] before = refl
packets_at-before i j (l ∷ ls) before =
    packets_at-append j (tagged i l) (all_tagged (i + 1) ls)
    ∙ ap (λ (ps : List (List ℕ)). ps ++ packets_at j (all_tagged (i + 1) ls)) (packets_at-other i j l (λ e. absurd (omega (arith, e, before))))
    ∙ packets_at-before (i + 1) j ls (omega (arith, before))

packets_at-all : (i j : ℕ) (lists : List (List (List ℕ))) → packets_at (i + j) (all_tagged i lists) ≡ get_or lists j []
packets_at-all i j [] = refl
packets_at-all i zero (l ∷ ls) =
    packets_at-append (i + 0) (tagged i l) (all_tagged (i + 1) ls)
    ∙ ap (λ (ps : List (List ℕ)). ps ++ packets_at (i + 0) (all_tagged (i + 1) ls)) (packets_at-same i (i + 0) l (omega arith))
    ∙ ap (λ (ps : List (List ℕ)). l ++ ps) (packets_at-before (i + 1) (i + 0) ls (omega arith))
    ∙ append-nil l
packets_at-all i (suc j) (l ∷ ls) =
    let sum : i + suc j ≡ i + 1 + j = omega arith in
    packets_at-append (i + suc j) (tagged i l) (all_tagged (i + 1) ls)
    ∙ ap (λ (ps : List (List ℕ)). ps ++ packets_at (i + suc j) (all_tagged (i + 1) ls)) (packets_at-other i (i + suc j) l (λ e. absurd (omega (arith, e))))
    ∙ ap (λ (n : ℕ). packets_at n (all_tagged (i + 1) ls)) sum ∙ packets_at-all (i + 1) j ls

lists_of-tagged : (n : ℕ) (lists : List (List (List ℕ))) → n ≤ length lists → lists_of n (all_tagged 0 lists) ≡ take n lists
lists_of-tagged zero lists few = refl
lists_of-tagged (suc n) lists few =
    let at : 0 + n ≡ n = omega arith in
    let here : packets_at n (all_tagged 0 lists) ≡ get_or lists n [] = ap (λ (i : ℕ). packets_at i (all_tagged 0 lists)) (sym at) ∙ packets_at-all 0 n lists in
    ap (λ (ls : List (List (List ℕ))). ls ++ packets_at n (all_tagged 0 lists) ∷ []) (lists_of-tagged n lists (omega (arith, few)))
    ∙ ap (λ (l : List (List ℕ)). take n lists ++ l ∷ []) here ∙ sym (take-suc lists n [] (omega (arith, few)))

-- ---- the file

passes_written : (lists : List (List (List ℕ))) → PassesHeader Little (written lists)
passes_written lists = record { long = omega arith; kind = refl; magic = refl; major = refl }

pub written_reads_back : WrittenReadsBack
written_reads_back lists writable = record {
  order = Little;
  blocks = written_blocks lists;
  begins = record { header = passes_written lists; are = written_are lists writable; whole = append-nil (written lists) };
  lists_are = ap (lists_of (length lists)) (arrivals_in-written lists writable) ∙ lists_of-tagged (length lists) lists (omega arith) ∙ take-length lists;
}
