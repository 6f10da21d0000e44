-- Writing a file, block by block.
use Rattle.std.proofs.Common.{◌≡◌, ℕ, zero, suc, ◌+◌, ◌-◌, ◌*◌, ◌/◌, ◌^◌, ◌≤◌, List, [], ◌∷◌, ◌++◌, length, drop, replicate, Some, refl, sym, ap, ◌∙◌, append_assoc, arith}
use Rattle.std.specs.Prelude.{slice_get, ◌%◌, ◌<◌}
use Rattle.std.specs.List.{concat, AllByRecursion}
use Rattle.std.proofs.lemmas.List.{length-append, length-map, length-replicate, replicate-append-replicate}
use Rattle.std.proofs.lemmas.List.Folds.{concat-append}
use Rattle.byteorder.specs.Endian.{little_bytes}
use Rattle.xsk_umem.specs.PacketList.{PacketList}
use Rattle.xsk_pcapng.specs.Blocks.{padded}
use Rattle.xsk_pcapng.specs.Written.{section_block, written, block_bytes, padding, interface_block, packet_block, list_blocks, lists_blocks, packets_of, size_of_blocks, all_packets}
use Rattle.xsk_umem.proofs.Going.{first_left}

-- ---- interfaces

pub interfaces-next : (text : List ℕ) (n : ℕ) → (text ++ concat (replicate n interface_block)) ++ interface_block ≡ text ++ concat (replicate (n + 1) interface_block)
interfaces-next text n =
    append_assoc text (concat (replicate n interface_block)) interface_block
    ∙ ap (λ (t : List ℕ). text ++ t) (sym (concat-append (replicate n interface_block) (interface_block ∷ [])) ∙ ap concat (replicate-append-replicate n 1 interface_block))

-- ---- the packets of one list

pub list-next : (text : List ℕ) (interface number i : ℕ) (packets : List (List ℕ)) (packet : List ℕ) → slice_get packets i ≡ Some packet
    → text ++ concat (list_blocks interface (number + i) (drop i packets)) ≡ (text ++ packet_block interface (number + i) packet) ++ concat (list_blocks interface (number + (i + 1)) (drop (i + 1) packets))
list-next text interface number i packets packet e =
    let k : number + i + 1 ≡ number + (i + 1) = omega arith in
    ap (λ (ps : List (List ℕ)). text ++ concat (list_blocks interface (number + i) ps)) (first_left packets i packet e)
    ∙ ap (λ (j : ℕ). text ++ (packet_block interface (number + i) packet ++ concat (list_blocks interface j (drop (i + 1) packets)))) k
    ∙ sym (append_assoc text (packet_block interface (number + i) packet) (concat (list_blocks interface (number + (i + 1)) (drop (i + 1) packets))))

-- ---- the bytes of blocks

pub padded_above : (n : ℕ) → n ≤ padded n
padded_above n = omega arith

pub padded_few : (n : ℕ) → padded n ≤ n + 3
padded_few n = omega arith

pub size-next : (packets : List (List ℕ)) (i : ℕ) (packet : List ℕ) → slice_get packets i ≡ Some packet → size_of_blocks (drop i packets) ≡ 32 + padded (length packet) + size_of_blocks (drop (i + 1) packets)
size-next packets i packet e = ap size_of_blocks (first_left packets i packet e)

pub size-append : (xs ys : List (List ℕ)) → size_of_blocks (xs ++ ys) ≡ size_of_blocks xs + size_of_blocks ys
size-append [] ys = omega arith
size-append (x ∷ xs) ys = omega (arith, size-append xs ys)

pub size-few : (xs : List (List ℕ)) → size_of_blocks xs ≤ 35 * length xs + length (concat xs)
size-few [] = omega arith
size-few (x ∷ xs) = omega (arith, size-few xs, padded_few (length x), length-append x (concat xs))

-- ---- all lists

-- the packets of the lists from place i on
abbrev pub all_from : List PacketList → ℕ → List (List ℕ)
all_from lists i = all_packets (packets_of (drop i lists))

pub all_from-next : (lists : List PacketList) (i : ℕ) (list : PacketList) → slice_get lists i ≡ Some list → all_from lists i ≡ list.packets ++ all_from lists (i + 1)
all_from-next lists i list e = ap (λ (ls : List PacketList). all_packets (packets_of ls)) (first_left lists i list e)

pub lists-next : (text : List ℕ) (number i : ℕ) (lists : List PacketList) (list : PacketList) → slice_get lists i ≡ Some list
    → text ++ concat (lists_blocks i number (packets_of (drop i lists))) ≡ (text ++ concat (list_blocks i number list.packets)) ++ concat (lists_blocks (i + 1) (number + length list.packets) (packets_of (drop (i + 1) lists)))
lists-next text number i lists list e =
    let later = lists_blocks (i + 1) (number + length list.packets) (packets_of (drop (i + 1) lists)) in
    ap (λ (ls : List PacketList). text ++ concat (lists_blocks i number (packets_of ls))) (first_left lists i list e)
    ∙ ap (λ (t : List ℕ). text ++ t) (concat-append (list_blocks i number list.packets) later)
    ∙ sym (append_assoc text (concat (list_blocks i number list.packets)) (concat later))

pub All-first : (P : List ℕ → Type 0) (xs ys : List (List ℕ)) → AllByRecursion P (xs ++ ys) → AllByRecursion P xs
All-first P [] ys all = tt
All-first P (x ∷ xs) ys all = (all.0, All-first P xs ys all.1)

pub length-interfaces : (n : ℕ) → length (concat (replicate n interface_block)) ≡ 20 * n
length-interfaces zero = refl
length-interfaces (suc n) = omega (arith, length-append interface_block (concat (replicate n interface_block)), length-interfaces n)

-- ---- lengths

pub length-block : (kind : ℕ) (body : List ℕ) → length (block_bytes kind body) ≡ 12 + length body
length-block kind body = omega (arith, length-append body (little_bytes 4 (12 + length body)))

abbrev pub body_of : ℕ → ℕ → List ℕ → List ℕ
body_of interface k packet =
    little_bytes 4 interface ++ little_bytes 4 (k / 2 ^ 32) ++ little_bytes 4 (k % 2 ^ 32)
    ++ little_bytes 4 (length packet) ++ little_bytes 4 (length packet) ++ packet ++ padding (length packet)

pub length-body : (interface k : ℕ) (packet : List ℕ) → length (body_of interface k packet) ≡ 20 + padded (length packet)
length-body interface k packet =
    omega (arith, length-append packet (padding (length packet)), length-replicate {A = ℕ} (padded (length packet) - length packet) 0, padded_above (length packet))

-- ---- one packet

abbrev header_of : ℕ → ℕ → ℕ → ℕ → ℕ → List ℕ
header_of total interface high low n =
    little_bytes 4 6 ++ little_bytes 4 total ++ little_bytes 4 interface ++ little_bytes 4 high ++ little_bytes 4 low ++ little_bytes 4 n ++ little_bytes 4 n

regroup : (a b c d e : List ℕ) → (((a ++ b) ++ c) ++ d) ++ e ≡ a ++ (b ++ ((c ++ d) ++ e))
regroup a b c d e = simp append_assoc

pub packet_text : (text first second new header packet : List ℕ) (interface number pad total : ℕ) → first ≡ text ++ header → second ≡ first ++ packet → new ≡ second ++ replicate pad 0 ++ little_bytes 4 total
    → pad ≡ padded (length packet) - length packet
    → header ≡ little_bytes 4 6 ++ little_bytes 4 total ++ little_bytes 4 interface ++ little_bytes 4 0 ++ little_bytes 4 number ++ little_bytes 4 (length packet) ++ little_bytes 4 (length packet)
    → total ≡ 32 + length packet + pad → number < 2 ^ 32 → new ≡ text ++ packet_block interface number packet
packet_text text first second new header packet interface number pad total one two three pad_is header_is total_is fits =
    let n : ℕ = length packet in
    let whole : ℕ = 12 + length (body_of interface number packet) in
    let same : total ≡ whole = omega (arith, total_is, pad_is, padded_above n, length-body interface number packet) in
    let high : number / 2 ^ 32 ≡ 0 = omega (arith, fits) in
    let low : number % 2 ^ 32 ≡ number = omega (arith, fits) in
    let header' : header ≡ header_of whole interface (number / 2 ^ 32) (number % 2 ^ 32) n =
    header_is ∙ ap (λ (t : ℕ). header_of t interface 0 number n) same ∙ ap (λ (h : ℕ). header_of whole interface h number n) (sym high)
    ∙ ap (λ (l : ℕ). header_of whole interface (number / 2 ^ 32) l n) (sym low) in
    three ∙ ap (λ (t : List ℕ). t ++ replicate pad 0 ++ little_bytes 4 total) (two ∙ ap (λ (t : List ℕ). t ++ packet) one)
    ∙ regroup text header packet (replicate pad 0) (little_bytes 4 total)
    ∙ ap (λ (t : ℕ). text ++ (header ++ ((packet ++ replicate pad 0) ++ little_bytes 4 t))) same
    ∙ ap (λ (m : ℕ). text ++ (header ++ ((packet ++ replicate m 0) ++ little_bytes 4 whole))) pad_is
    ∙ ap (λ (h : List ℕ). text ++ (h ++ ((packet ++ padding n) ++ little_bytes 4 whole))) header'

-- ---- the file

pub whole_text : (lists : List PacketList) (a b c : List ℕ) → a ≡ section_block → b ≡ a ++ concat (replicate (length lists) interface_block) → c ≡ b ++ concat (lists_blocks 0 0 (packets_of lists)) → c ≡ written (packets_of lists)
whole_text lists a b c one two three =
    let interfaces = replicate (length lists) interface_block in
    let blocks = lists_blocks 0 0 (packets_of lists) in
    three ∙ ap (λ (t : List ℕ). t ++ concat blocks) (two ∙ ap (λ (t : List ℕ). t ++ concat interfaces) one)
    ∙ append_assoc section_block (concat interfaces) (concat blocks)
    ∙ ap (λ (t : List ℕ). section_block ++ t) (sym (concat-append interfaces blocks))
    ∙ ap (λ (n : ℕ). section_block ++ concat (replicate n interface_block ++ blocks)) (sym (length-map lists (λ (l : PacketList). l.packets)))
