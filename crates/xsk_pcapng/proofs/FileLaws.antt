-- The laws of files.
use Rattle.std.proofs.Common.{◌≡◌, ℕ, ◌+◌, List, [], length, map, Some, sym, ap, subst, ◌∙◌, arith, inl, inr}
use Rattle.std.specs.List.{concat}
use Rattle.std.proofs.lemmas.Option.{same_Some}
use Rattle.xsk_pcap.specs.declared.endianness.Endianness.{Endianness}
use Rattle.xsk_pcapng.specs.declared.reading.BadPcapng.{BadPcapng}
use Rattle.xsk_pcapng.specs.declared.reading.BadPcapng.TheVariants.{OutOfMemory}
use Rattle.xsk_pcapng.specs.Blocks.{interfaces_behind, arrivals_in}
use Rattle.xsk_pcapng.specs.Pcapng.{lists_of, header_refusal, block_refusal, Begins, IsPcapng, FailsAtBlock, IsRefused, IsCause}
use Rattle.xsk_pcapng.specs.declared.reading.Found.{Found}
use Rattle.xsk_pcapng.specs.Steps.{arrival_in, Finds}
use Rattle.xsk_pcapng.specs.Laws.{OneReading, OneRefusal, RefusedIsNoFile}
use Rattle.xsk_pcapng.proofs.Blocks.{EndsAt, EndsAt-nil, EndsAt-refused}
use Rattle.xsk_pcapng.proofs.Unique.{EndsBehind, passes_none, Begins-unique}

ends_from_0 : (order : Endianness) (ports : ℕ) (blocks : List (List ℕ)) (rest : List ℕ) → EndsAt order ports (length (concat blocks)) (interfaces_behind order 0 blocks) rest → EndsBehind order ports 0 0 blocks rest
ends_from_0 order ports blocks rest ends =
    let place : length (concat blocks) ≡ 0 + length (concat blocks) = omega arith in
    subst (λ (n : ℕ). EndsAt order ports n (interfaces_behind order 0 blocks) rest) place ends

ends_whole : (order : Endianness) (ports : ℕ) (blocks : List (List ℕ)) → EndsBehind order ports 0 0 blocks []
ends_whole order ports blocks = ends_from_0 order ports blocks [] (EndsAt-nil order ports (length (concat blocks)) (interfaces_behind order 0 blocks))

-- two files that are the same bytes have the same packets
pub same_file : (ports : ℕ) (bytes : List ℕ) (o q : Endianness) (bs cs : List (List ℕ)) → Begins o ports bytes bs [] → Begins q ports bytes cs [] → lists_of ports (arrivals_in o bs) ≡ lists_of ports (arrivals_in q cs)
same_file ports bytes o q bs cs b d =
    let u = Begins-unique o q ports bytes [] [] bs cs b d (ends_whole o ports bs) (ends_whole q ports cs) in
    ap (λ (z : Endianness). lists_of ports (arrivals_in z bs)) u.0 ∙ ap (λ (ts : List (List ℕ)). lists_of ports (arrivals_in q ts)) u.1

pub one_reading : OneReading
one_reading ports bytes some others a b =
    sym a.lists_are ∙ same_file ports bytes a.order b.order a.blocks b.blocks a.begins b.begins ∙ b.lists_are

ends : {ports : ℕ} {bytes : List ℕ} {refusal : BadPcapng} (f : FailsAtBlock ports bytes refusal) → EndsBehind f.order ports 0 0 f.blocks f.rest
ends {ports} {bytes} {refusal} f = ends_from_0 f.order ports f.blocks f.rest (EndsAt-refused f.order ports (length (concat f.blocks)) (interfaces_behind f.order 0 f.blocks) f.rest refusal f.fails)

header_or_block : {A : Type 0} {ports : ℕ} {bytes : List ℕ} {a b : BadPcapng} → header_refusal bytes ≡ Some a → FailsAtBlock ports bytes b → A
header_or_block {ports} {bytes} e f = let none = sym (passes_none f.order bytes f.begins.header) ∙ e in absurd cc

one_block : (ports : ℕ) (bytes : List ℕ) (a b : BadPcapng) → FailsAtBlock ports bytes a → FailsAtBlock ports bytes b → a ≡ b
one_block ports bytes a b f g =
    let u = Begins-unique f.order g.order ports bytes f.rest g.rest f.blocks g.blocks f.begins g.begins (ends f) (ends g) in
    let same : block_refusal f.order ports (length (concat f.blocks)) (interfaces_behind f.order 0 f.blocks) f.rest ≡ block_refusal g.order ports (length (concat g.blocks)) (interfaces_behind g.order 0 g.blocks) g.rest =
    ap (λ (o : Endianness). block_refusal o ports (length (concat f.blocks)) (interfaces_behind o 0 f.blocks) f.rest) u.0
    ∙ ap (λ (ts : List (List ℕ)). block_refusal g.order ports (length (concat ts)) (interfaces_behind g.order 0 ts) f.rest) u.1
    ∙ ap (λ (r : List ℕ). block_refusal g.order ports (length (concat g.blocks)) (interfaces_behind g.order 0 g.blocks) r) u.2 in
    same_Some a b (sym f.fails ∙ same ∙ g.fails)

pub one_refusal : OneRefusal
one_refusal ports bytes a b (inl p) (inl q) = same_Some a b (sym p ∙ q)
one_refusal ports bytes a b (inl p) (inr g) = header_or_block p g
one_refusal ports bytes a b (inr f) (inl q) = header_or_block q f
one_refusal ports bytes a b (inr f) (inr g) = one_block ports bytes a b f g

pub refused_is_no_file : RefusedIsNoFile
refused_is_no_file ports bytes refusal lists (inl p) file = let none = sym (passes_none file.order bytes file.begins.header) ∙ p in absurd cc
refused_is_no_file ports bytes refusal lists (inr f) file =
    let u = Begins-unique f.order file.order ports bytes f.rest [] f.blocks file.blocks f.begins file.begins (ends f) (ends_whole file.order ports file.blocks) in
    absurd (omega (arith, f.more, ap length u.2))

-- ---- what a reader answers

pub refused_once : (ports : ℕ) (bytes : List ℕ) (cause refusal : BadPcapng) → IsCause ports bytes cause → IsRefused ports bytes refusal → cause ≡ refusal
refused_once ports bytes cause refusal (inl why) refused = one_refusal ports bytes cause refusal why refused
refused_once ports bytes cause refusal (inr memory) refused = absurd (refused_is_no_file ports bytes refusal memory.1 refused memory.2)

pub accepted_but_for_memory : (ports : ℕ) (bytes : List ℕ) (cause : BadPcapng) (lists : List (List (List ℕ))) → IsCause ports bytes cause → IsPcapng ports bytes lists → cause ≡ OutOfMemory
accepted_but_for_memory ports bytes cause lists (inl why) file = absurd (refused_is_no_file ports bytes cause lists why file)
accepted_but_for_memory ports bytes cause lists (inr memory) file = memory.0

-- the packets that were found make a file of their lists
pub file_of : (order : Endianness) (ports : ℕ) (bytes : List ℕ) (found shown : List Found) (lists : List (List (List ℕ))) → Finds order ports bytes found → shown ≡ found → lists ≡ lists_of ports (map (arrival_in bytes) shown)
    → IsPcapng ports bytes lists
file_of order ports bytes found shown lists finds same are = record {
  order = order;
  blocks = finds.blocks;
  begins = finds.begins;
  lists_are = sym (are ∙ ap (λ (fs : List Found). lists_of ports (map (arrival_in bytes) fs)) same ∙ ap (lists_of ports) finds.shown);
}
