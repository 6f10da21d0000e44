-- Packets that stand in order and apart in a text, and those of one port among them.
use Rattle.std.proofs.Common.{◌≡◌, ℕ, ◌+◌, ◌≤◌, Bool, true, false, List, [], ◌∷◌, map, refl, ap, arith, inl, inr}
use Rattle.std.specs.Prelude.{◌==◌, All, slice_get, Some, drop, eqb}
use Rattle.std.specs.List.{filter}
use Rattle.std.proofs.lemmas.Bool.{cases_Bool, ne_eqb}
use Rattle.std.proofs.lemmas.List.Elements.{All-map, All-filter}
use Rattle.xsk_umem.specs.Span.{at_span, IsWithin, AreFrom, AreInText}
use Rattle.xsk_umem.specs.declared.packet_list.Span.{Span}
use Rattle.xsk_pcapng.specs.declared.reading.Found.{Found}
use Rattle.xsk_pcapng.specs.Blocks.{packets_at}
use Rattle.xsk_pcapng.specs.Steps.{arrival_in, IsFoundIn, spans_in, spans_at}
use Rattle.xsk_umem.proofs.Going.{first_left}

module _ (port : ℕ) where
  abbrev is_here : Found → Bool
  is_here f = f.interface == port

  -- the packets of one port stand apart too
  apart-at : (before from : ℕ) (found : List Found) → before ≤ from → AreFrom from (spans_in found) → AreFrom before (spans_at port found)
  apart-at before from [] early apart = tt
  apart-at before from (f ∷ found) early apart =
      let first : from ≤ f.span.start = apart.0 in
      elim (cases_Bool (is_here f)) [
        | inl same ↦ rw same (omega (arith, early, first), apart-at (f.span.start + f.span.len) (f.span.start + f.span.len) found (omega arith) apart.1)
        | inr other ↦ rw other (apart-at before (f.span.start + f.span.len) found (omega (arith, early, first)) apart.1)
      ]

  -- and are its packets
  pub packets-at : (bytes : List ℕ) (found : List Found) → map (at_span bytes) (spans_at port found) ≡ packets_at port (map (arrival_in bytes) found)
  packets-at bytes [] = refl
  packets-at bytes (f ∷ found) = elim (cases_Bool (is_here f)) [
    | inl same ↦ rw same (ap (λ (ps : List (List ℕ)). at_span bytes f.span ∷ ps) (packets-at bytes found))
    | inr other ↦ rw other (packets-at bytes found)
  ]

  pub in-text-at : (bytes : List ℕ) (found : List Found) → All (IsFoundIn bytes) found → AreFrom 0 (spans_in found) → AreInText bytes (spans_at port found)
  in-text-at bytes found within apart = record {
    within = All-map (IsWithin bytes) (λ (f : Found). f.span) (filter is_here found) (All-filter is_here (IsFoundIn bytes) found within);
    apart = apart-at 0 0 found (omega arith) apart;
  }

  -- those from place i on, where the next is one of the port and where it isn't
  abbrev pub spans_from : List Found → ℕ → List Span
  spans_from found i = spans_at port (drop i found)

  pub spans_from-here : (found : List Found) (i : ℕ) (f : Found) → slice_get found i ≡ Some f → f.interface ≡ port → spans_from found i ≡ f.span ∷ spans_from found (i + 1)
  spans_from-here found i f e is =
      let same : eqb f.interface port ≡ true = grind (arith, is) in
      rw (first_left found i f e, same) refl

  pub spans_from-else : (found : List Found) (i : ℕ) (f : Found) → slice_get found i ≡ Some f → (f.interface ≡ port → ⊥) → spans_from found i ≡ spans_from found (i + 1)
  spans_from-else found i f e not_it =
      let other : eqb f.interface port ≡ false = ne_eqb f.interface port not_it in
      rw (first_left found i f e, other) refl
