-- What is read has a list for each port, and packets that are short enough.
use Rattle.std.proofs.Common.{◌≡◌, ℕ, zero, suc, ◌+◌, List, [], ◌∷◌, ◌++◌, length, drop, refl, sym, ap, subst, ◌∙◌, arith, inl, inr}
use Rattle.std.specs.List.{AllByRecursion}
use Rattle.std.proofs.lemmas.Bool.Decides.{eqb_tells}
use Rattle.std.proofs.lemmas.List.{append-nil, length-append, length-take}
use Rattle.std.proofs.lemmas.List.Concat.{flat_map-append}
use Rattle.xsk_pcap.specs.declared.endianness.Endianness.{Endianness}
use Rattle.xsk_pcapng.specs.Blocks.{kind_in, captured_in, interfaces_after, MayStand, AreBlocks, Arrival, arrivals_of, arrivals_in, packets_at}
use Rattle.xsk_pcapng.specs.Pcapng.{lists_of}
use Rattle.xsk_pcapng.specs.Written.{all_packets, IsShort}
use Rattle.xsk_pcapng.specs.Laws.{ReadFits}

length-lists_of : (n : ℕ) (arrivals : List Arrival) → length (lists_of n arrivals) ≡ n
length-lists_of zero arrivals = refl
length-lists_of (suc n) arrivals = omega (arith, length-append (lists_of n arrivals) (packets_at n arrivals ∷ []), length-lists_of n arrivals)

All-both : {X : Type 0} (P : X → Type 0) (xs ys : List X) → AllByRecursion P xs → AllByRecursion P ys → AllByRecursion P (xs ++ ys)
All-both P [] ys all more = more
All-both P (x ∷ xs) ys all more = (all.0, All-both P xs ys all.1 more)

abbrev IsShortArrival : Arrival → Type 0
IsShortArrival a = IsShort a.packet

arrival_short : (order : Endianness) (ports at interfaces : ℕ) (block : List ℕ) → MayStand order ports at interfaces block → AllByRecursion IsShortArrival (arrivals_of order block)
arrival_short order ports at interfaces block may =
    elim (eqb_tells (kind_in order block) 6) [
      | inl p ↦ rw p.0 (omega (arith, length-take (captured_in order block) (drop 28 block), may.short p.1), tt)
      | inr p ↦ rw p.0 tt
    ]

arrivals_short : (order : Endianness) (ports at interfaces : ℕ) (blocks : List (List ℕ)) → AreBlocks order ports at interfaces blocks → AllByRecursion IsShortArrival (arrivals_in order blocks)
arrivals_short order ports at interfaces [] are = tt
arrivals_short order ports at interfaces (b ∷ bs) are =
    All-both IsShortArrival (arrivals_of order b) (arrivals_in order bs) (arrival_short order ports at interfaces b are.1) (arrivals_short order ports (at + length b) (interfaces_after order interfaces b) bs are.2)

packets_short : (i : ℕ) (arrivals : List Arrival) → AllByRecursion IsShortArrival arrivals → AllByRecursion IsShort (packets_at i arrivals)
packets_short i [] all = tt
packets_short i (a ∷ arrivals) all =
    elim (eqb_tells a.interface i) [
      | inl e ↦ rw e.0 (all.0, packets_short i arrivals all.1)
      | inr e ↦ rw e.0 (packets_short i arrivals all.1)
    ]

lists_short : (n : ℕ) (arrivals : List Arrival) → AllByRecursion IsShortArrival arrivals → AllByRecursion IsShort (all_packets (lists_of n arrivals))
lists_short zero arrivals all = tt
lists_short (suc n) arrivals all =
    let last : all_packets (lists_of n arrivals ++ packets_at n arrivals ∷ []) ≡ all_packets (lists_of n arrivals) ++ packets_at n arrivals =
    flat_map-append (λ l. l) (lists_of n arrivals) (packets_at n arrivals ∷ []) ∙ ap (λ (ps : List (List ℕ)). all_packets (lists_of n arrivals) ++ ps) (append-nil (packets_at n arrivals)) in
    subst (AllByRecursion IsShort) (sym last) (All-both IsShort (all_packets (lists_of n arrivals)) (packets_at n arrivals) (lists_short n arrivals all) (packets_short n arrivals all))

pub read_fits : ReadFits
read_fits ports bytes lists file =
    let arrivals = arrivals_in file.order file.blocks in (
      ap length (sym file.lists_are) ∙ length-lists_of ports arrivals,
      subst (λ (ls : List (List (List ℕ))). AllByRecursion IsShort (all_packets ls)) file.lists_are (lists_short ports arrivals (arrivals_short file.order ports 0 0 file.blocks file.begins.are)),
    )
