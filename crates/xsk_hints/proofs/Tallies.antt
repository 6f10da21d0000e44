-- What is told of lines, with one line more.
use Rattle.std.proofs.Common.{◌≡◌, ◌∙◌, refl, ap, ℕ, suc, ◌+◌, ◌==◌, ◌<◌, Bool, true, false, cond, List, [], ◌∷◌, length, arith, ne_eqb}
use Rattle.std.specs.Prelude.{min, max}
use Rattle.xsk_side.specs.Setting.{Setting}
use Rattle.xsk_side.proofs.Rings.{is_false}
use Rattle.xsk_judge.specs.declared.known.Known.{Known}
use Rattle.xsk_judge.specs.declared.known.Spot.{Spot}
use Rattle.xsk_judge.specs.Kept.{is_spot}
use Rattle.xsk_judge.specs.Stands.{Line, IsKnown, since_of, spot_of}
use Rattle.xsk_hints.specs.declared.tally.Tally.{Tally}
use Rattle.xsk_hints.specs.Facts.{since_at}
use Rattle.xsk_hints.specs.Tallies.{earliest, latest, most, tally_of, with_line, with_known}

abbrev tally : ℕ → ℕ → ℕ → Tally
tally count first last = record { count = count; first = first; last = last }

same_tally : (a b c d e f : ℕ) → a ≡ d → b ≡ e → c ≡ f → tally a b c ≡ tally d e f
same_tally a b c d e f h k l = ap (λ x. tally x b c) h ∙ ap (λ x. tally d x c) k ∙ ap (λ x. tally d e x) l

one_counted : (n : ℕ) → min (min n most + 1) most ≡ min (suc n) most
one_counted n = omega arith

not_none : (n : ℕ) (x y : ℕ) → cond (min (suc n) most == 0) x y ≡ y
not_none n x y = off (min (suc n) most) x y (omega arith)
  where
    off : (m x y : ℕ) → 0 < m → cond (m == 0) x y ≡ y
    off m x y h = is_false (m == 0) x y (ne_eqb m 0 (λ e. absurd (omega (arith, h, e))))

first_more : (line : ℕ) (lines : List ℕ) → cond (min (length lines) most == 0) line (min (earliest lines) line) ≡ earliest (line ∷ lines)
first_more line [] = refl
first_more line (next ∷ lines) = not_none (length lines) line (min (earliest (next ∷ lines)) line)

pub tally_more : (line : ℕ) (lines : List ℕ) → with_line line (tally_of lines) ≡ tally_of (line ∷ lines)
tally_more line lines =
    same_tally (min (min (length lines) most + 1) most) (cond (min (length lines) most == 0) line (min (earliest lines) line)) (max (latest lines) line)
    (min (suc (length lines)) most) (earliest (line ∷ lines)) (max (latest lines) line)
    (one_counted (length lines)) (first_more line lines) refl

-- one frame more
pub frame_more : (s : Setting) (lines : List Line) (spot : Spot) (f : ℕ) (known : Known) (t : Tally) → IsKnown s lines f known → t ≡ tally_of (since_at s lines spot f)
    → with_known spot known t ≡ tally_of (since_at s lines spot (suc f))
frame_more s lines spot f known t is before =
    ap (λ (p : Spot). cond (is_spot p spot) (with_line known.since t) t) is.spot
    ∙ ap (λ (n : ℕ). cond (is_spot (spot_of s f lines) spot) (with_line n t) t) is.since
    ∙ by (is_spot (spot_of s f lines) spot)
  where
    by : (b : Bool) → cond b (with_line (since_of s f lines) t) t ≡ tally_of (cond b (since_of s f lines ∷ since_at s lines spot f) (since_at s lines spot f))
    by true = ap (with_line (since_of s f lines)) before ∙ tally_more (since_of s f lines) (since_at s lines spot f)
    by false = before
