-- The sizes of rings: as a test, and that they are few.
use Rattle.std.proofs.Common.{◌≡◌, ℕ, zero, suc, ◌+◌, ◌^◌, ◌<◌, ◌≤◌, true, eqb, leb, Option, None, Some, refl, arith, inl, inr}
use Rattle.std.specs.List.{list_any, range_with_len}
use Rattle.std.specs.Prelude.{IfSome, IsSome, unwrap_or}
use Rattle.std.proofs.lemmas.Bool.{cases_Bool, eqb-true}
use Rattle.std.proofs.lemmas.Bool.Decides.{nat_tests}
use Rattle.std.proofs.Math.Nat.{pow-le-pow_right}
use Rattle.xsk_model.specs.Config.{Config, IsConfig, IsBound, IsServed, IsRingSize, HasRing, size_of, pair_at, socket_at}
use Rattle.xsk_model.specs.declared.call.Ring.{Ring}
use Rattle.xsk_model.specs.declared.call.Ring.TheVariants.{Fill, Comp, Rx, Tx}

power_in : (a n size : ℕ) → list_any (λ k. eqb size (2 ^ k)) (range_with_len a n) ≡ true → (k : ℕ) × (size ≡ 2 ^ k) × (a ≤ k) × (k < a + n)
power_in a zero size is = absurd (cc)
power_in a (suc n) size is =
    elim (cases_Bool (eqb size (2 ^ a))) [
      | inl here ↦ (a, eqb-true size (2 ^ a) here, omega arith, omega arith)
      | inr other ↦
          let rest : list_any (λ k. eqb size (2 ^ k)) (range_with_len (a + 1) n) ≡ true = rw other at is in
          let found = power_in (a + 1) n size rest in
          (found.0, found.1, omega arith, omega arith)
    ]

power_listed : (a n size k : ℕ) → size ≡ 2 ^ k → a ≤ k → k < a + n → list_any (λ k. eqb size (2 ^ k)) (range_with_len a n) ≡ true
power_listed a zero size k is first last = absurd (omega arith)
power_listed a (suc n) size k is first last =
    elim (cases_Bool (eqb size (2 ^ a))) [
      | inl here ↦ rw here refl
      | inr other ↦
          let further : a + 1 ≤ k = elim (cases_Bool (eqb k a)) [
            | inl same ↦ let same_place : k ≡ a = eqb-true k a same in absurd (grind (arith, nat_tests))
            | inr apart ↦ grind (arith, nat_tests)
          ] in
          rw other (power_listed (a + 1) n size k is further (omega arith))
    ]

-- a power of two from 2 to 2,048 is one of the first to the eleventh
pub power_of_size : (size : ℕ) → IsRingSize size → list_any (λ k. eqb size (2 ^ k)) (range_with_len 1 11) ≡ true
power_of_size size is =
    let k : ℕ = is.power.0 in
    let size_is : size ≡ 2 ^ k = is.power.1 in
    let some : 1 ≤ k = elim (cases_Bool (eqb k 0)) [
      | inl none ↦ let zeroth : k ≡ 0 = eqb-true k 0 none in let one : size ≡ 1 = rw zeroth at size_is in absurd (omega (arith, one, is.least))
      | inr other ↦ grind (arith, nat_tests)
    ] in
    let few : k < 12 = elim (cases_Bool (leb 12 k)) [
      | inl many ↦
          let beyond : 12 ≤ k = grind (arith, nat_tests) in
          let large : 2 ^ 12 ≤ 2 ^ k = pow-le-pow_right {n = 2} (omega arith) {i = 12} {j = k} beyond in
          let much : 4096 ≤ size = rw size_is large in
          absurd (omega (arith, much, is.most))
      | inr fewer ↦ grind (arith, nat_tests)
    ] in
    power_listed 1 11 size k size_is some few

pub size_of_power : (size : ℕ) → list_any (λ k. eqb size (2 ^ k)) (range_with_len 1 11) ≡ true → IsRingSize size
size_of_power size is =
    let found = power_in 1 11 size is in
    let least : 2 ^ 1 ≤ 2 ^ found.0 = pow-le-pow_right {n = 2} (omega arith) {i = 1} {j = found.0} found.2 in
    let most : 2 ^ found.0 ≤ 2 ^ 11 = pow-le-pow_right {n = 2} (omega arith) {i = found.0} {j = 11} (omega (arith, found.3)) in
    record {
      power = (found.0, found.1);
      least = rw found.1 least;
      most = rw found.1 most;
    }

-- ---- the rings of a configuration

-- a size that is there is one of a ring's
pub some_size : (size : Option ℕ) → IsSome size → IfSome size IsRingSize → IsRingSize (unwrap_or size 0)
some_size None some is = absurd (cc)
some_size (Some size) some is = is

most_of : (size : Option ℕ) → IfSome size IsRingSize → unwrap_or size 0 ≤ 2048
most_of None h = omega arith
most_of (Some size) h = h.most

pub size_few : (c : Config) (r : Ring) → IsConfig c → HasRing c r → size_of c r ≤ 2048
size_few c (Fill d) config h =
    let served : IsServed c.sockets (pair_at c.pairs d) = config.served d (record { port = 0; queue = 0; fill = 0; comp = 0 }) h in
    served.fill.most
size_few c (Comp d) config h =
    let served : IsServed c.sockets (pair_at c.pairs d) = config.served d (record { port = 0; queue = 0; fill = 0; comp = 0 }) h in
    served.comp.most
size_few c (Rx s) config h =
    let bound : IsBound c.ports c.queues c.pairs (socket_at c.sockets s) = config.bound s (record { port = 0; queue = 0; rx = None; tx = None }) h.0 in
    most_of (socket_at c.sockets s).rx bound.rx
size_few c (Tx s) config h =
    let bound : IsBound c.ports c.queues c.pairs (socket_at c.sockets s) = config.bound s (record { port = 0; queue = 0; rx = None; tx = None }) h.0 in
    most_of (socket_at c.sockets s).tx bound.tx
