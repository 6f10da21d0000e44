-- What holds of an accepted layout.
use Rattle.std.proofs.Common.{◌≡◌, ℕ, ◌%◌, ◌<◌, ◌≤◌, ◌⊎◌, ◌*◌, ◌&&◌, ◌||◌, true, eqb, ltb, leb, List, [], ◌∷◌, ◌++◌, refl, arith, Option, None, Some, subst, sym, ◌∙◌, inl, inr}
use Rattle.std.specs.Prelude.{IfSome, IsSome}
use Rattle.std.proofs.lemmas.Bool.{cases_Bool, eqb-true, ltb-true}
use Rattle.std.proofs.lemmas.Bool.Decides.{nat_tests}
use Rattle.xsk_socket.specs.declared.layout.Layout.{Layout}
use Rattle.xsk_socket.specs.declared.layout.Unlawful.{Unlawful}
use Rattle.xsk_socket.specs.Fits.{Fits, IsCount}
use Rattle.xsk_socket.specs.Layout.{Demand, fault_of, first_unmet, is_count, is_port_count, on_close, on_counts, on_empty, on_hands, on_rings, on_umem, pairs_in, pool_in, cells_in, sockets_in}
use Rattle.xsk_model.proofs.RingSizes.{size_of_power}

-- each demand is met
AreMet : List Demand → Type 0
AreMet [] = Unit {0}
AreMet (d ∷ rest) = (d.0 ≡ true) × AreMet rest

met : (ds : List Demand) → first_unmet ds ≡ None → AreMet ds
unfolding AreMet
met [] none = tt
met (d ∷ rest) none =
    elim (cases_Bool d.0) [
      | inl holds ↦ (holds, met rest (rw holds at none))
      | inr fails ↦ let some : Some d.1 ≡ None = rw fails at none in absurd (cc)
    ]

port_count : (n : ℕ) → is_port_count n ≡ true → (n ≡ 2) ⊎ (n ≡ 4)
port_count n is = grind (arith, nat_tests)

count : (n : ℕ) → is_count n ≡ true → IsCount n
count n is = grind (arith, nat_tests)

frames_fit : (n pairs : ℕ) → (ltb 0 n && leb n 4096 && eqb (n % pairs) 0) ≡ true → (0 < n) × (n ≤ 4096) × (n % pairs ≡ 0)
frames_fit n pairs is = grind (arith, nat_tests)

pool_fits : (pool fill : ℕ) → leb pool fill ≡ true → pool ≤ fill
pool_fits pool fill is = grind (arith, nat_tests)

-- demands of which those before are met, or not all are
pub met_before : (xs ys : List Demand) → first_unmet xs ≡ None → first_unmet (xs ++ ys) ≡ first_unmet ys
met_before [] ys none = refl
met_before (d ∷ xs) ys none =
    elim (cases_Bool d.0) [
      | inl holds ↦ rw holds (met_before xs ys (rw holds at none))
      | inr fails ↦ let some : Some d.1 ≡ None = rw fails at none in absurd (cc)
    ]

pub unmet_before : (xs ys : List Demand) (r : Option Unlawful) → IsSome r → r ≡ first_unmet xs → r ≡ first_unmet (xs ++ ys)
unmet_before [] ys r some is = let some : IsSome {T = Unlawful} None = subst IsSome is some in absurd (cc)
unmet_before (d ∷ xs) ys r some is =
    elim (cases_Bool d.0) [
      | inl holds ↦ rw holds (unmet_before xs ys r some (rw holds at is))
      | inr fails ↦ rw fails (rw fails at is)
    ]

-- of two lists of demands that are met both are
met_first : (xs ys : List Demand) → first_unmet (xs ++ ys) ≡ None → first_unmet xs ≡ None
met_first [] ys none = refl
met_first (d ∷ xs) ys none =
    elim (cases_Bool d.0) [
      | inl holds ↦ rw holds (met_first xs ys (rw holds at none))
      | inr fails ↦ let some : Some d.1 ≡ None = rw fails at none in absurd (cc)
    ]

met_last : (xs ys : List Demand) → first_unmet (xs ++ ys) ≡ None → first_unmet ys ≡ None
met_last xs ys none = sym (met_before xs ys (met_first xs ys none)) ∙ none

-- those that the counts, the UMEM and the rings have to meet
abbrev sizes : Layout → List Demand
sizes l = on_counts l ++ on_umem l ++ on_rings l

abbrev choices : Layout → List Demand
choices l = sizes l ++ on_empty l.empty (cells_in l) ++ on_close l.close (sockets_in l)

met_sizes : (l : Layout) → fault_of l ≡ None → AreMet (sizes l)
met_sizes l none =
    met (sizes l)
    (met_first (sizes l) (on_empty l.empty (cells_in l))
    (met_first (sizes l ++ on_empty l.empty (cells_in l)) (on_close l.close (sockets_in l)) (met_first (choices l) (on_hands l) none)))

closed_within : (close : Option ℕ) (sockets : ℕ) → first_unmet (on_close close sockets) ≡ None → IfSome close (λ s. s < sockets)
unfolding AreMet
closed_within None sockets none = tt
closed_within (Some socket) sockets none = ltb-true socket sockets (met (on_close (Some socket) sockets) none).0

pub fits : (l : Layout) → fault_of l ≡ None → Fits l
unfolding AreMet
fits l none =
    let all = met_sizes l none in
    let rest = all.1.1.1.1.1.1 in
    let of_frames = frames_fit l.frames (pairs_in l) rest.0 in
    record {
      ports = port_count l.ports all.0;
      queues = count l.queues all.1.0;
      sockets = count l.sockets all.1.1.0;
      some = of_frames.0;
      few = of_frames.1;
      divides = of_frames.2;
      rx = size_of_power l.rx rest.1.0;
      tx = size_of_power l.tx rest.1.1.0;
      fill = size_of_power l.fill rest.1.1.1.0;
      comp = size_of_power l.comp rest.1.1.1.1.0;
      pool = pool_fits (pool_in l) l.fill rest.1.1.1.1.1.0;
      close = closed_within l.close (sockets_in l) (met_last (sizes l ++ on_empty l.empty (cells_in l)) (on_close l.close (sockets_in l)) (met_first (choices l) (on_hands l) none));
      hands = count l.hands (met (on_hands l) (met_last (choices l) (on_hands l) none)).0;
    }

chunk_size : (n : ℕ) → (eqb n 2048 || eqb n 4096) ≡ true → (n ≡ 2048) ⊎ (n ≡ 4096)
chunk_size n is = grind (arith, nat_tests)

pub chunk_is : (l : Layout) → fault_of l ≡ None → (l.chunk ≡ 2048) ⊎ (l.chunk ≡ 4096)
unfolding AreMet
chunk_is l none = chunk_size l.chunk (met_sizes l none).1.1.1.1.0

-- as many files as all ports together want
pub files_are : (l : Layout) → fault_of l ≡ None → l.files ≡ l.files_wanted_per_port * l.ports
unfolding AreMet
files_are l none = eqb-true l.files (l.files_wanted_per_port * l.ports) (met_sizes l none).1.1.1.0
