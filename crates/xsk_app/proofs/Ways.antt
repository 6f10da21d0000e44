-- What a machine reads of a lane's way.
use Rattle.std.proofs.Common.{◌≡◌, ℕ, ◌+◌, ◌/◌, ◌<◌, ⊎_elim, List, [], ◌∷◌, ◌++◌, length, length-append, get_or, sym, ap, ◌∙◌, subst, arith}
use Rattle.std.proofs.lemmas.Bool.{cases_eq}
use Rattle.std.proofs.lemmas.List.{get_or_push, get_or_append_left}
use Rattle.std.specs.List.{slice_index_or}
use Rattle.xsk_model.specs.Config.{Config, classes_of}
use Rattle.xsk_turns.specs.AppTurns.{lanes_of}
use Rattle.xsk_app.specs.Ways.{IsWay, AreWays}
use Rattle.xsk_app.specs.declared.machine.Way.{Way}

pub way_read : (c : Config) (app lane : ℕ) (ways : List Way) (way : Way) → AreWays c app ways → lane < lanes_of c → way ≡ slice_index_or ways lane way → IsWay c app lane way
way_read c app lane ways way are here at =
    let there : lane < length ways = omega (arith, here, are.count) in
    let side : way.side ≡ lane / classes_of c = ap (λ (w : Way). w.side) at ∙ are.side lane way there in
    record {
      rx = ap (λ (w : Way). w.rx) at ∙ are.rx lane way there;
      tx = ap (λ (w : Way). w.tx) at ∙ are.tx lane way there;
      pair = ap (λ (w : Way). w.pair) at ∙ are.pair lane way there;
      side = side;
      below = omega (arith, side, are.below lane there);
    }

-- ---- the list of them

abbrev pub AllAre : Config → ℕ → List Way → Type 0
AllAre c app ways = (lane : ℕ) (d : Way) → lane < length ways → IsWay c app lane (get_or ways lane d)

pub all_ways : (c : Config) (app : ℕ) (ways : List Way) → length ways ≡ lanes_of c → AllAre c app ways → AreWays c app ways
all_ways c app ways count each = record {
  count = count;
  rx = λ lane d h. (each lane d h).rx;
  tx = λ lane d h. (each lane d h).tx;
  pair = λ lane d h. (each lane d h).pair;
  side = λ lane d h. (each lane d h).side;
  below = λ lane h. let is = each lane (record { rx = 0; tx = 0; pair = 0; side = 0 }) h in subst (λ s. s < 2) is.side is.below;
}

-- one more
pub way_pushed : (c : Config) (app : ℕ) (ways : List Way) (way : Way) → AllAre c app ways → IsWay c app (length ways) way → AllAre c app (ways ++ way ∷ [])
way_pushed c app ways way each here lane d h = ⊎_elim
    (λ (e : lane ≡ length ways). subst (IsWay c app lane) (sym (get_or_push ways way d lane (sym e))) (subst (λ n. IsWay c app n way) (sym e) here))
    (λ (e : lane ≡ length ways → ⊥). let within : lane < length ways = before lane (length ways) (omega (arith, h, length-append ways (way ∷ []))) e in
    subst (IsWay c app lane) (sym (get_or_append_left ways (way ∷ []) d lane within)) (each lane d within))
    (cases_eq lane (length ways))
  where
    before : (n m : ℕ) → n < m + 1 → (n ≡ m → ⊥) → n < m
    before n m h e = omega (arith, h, e)
