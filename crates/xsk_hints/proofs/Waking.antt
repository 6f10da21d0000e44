-- Looks and wakes: one more, and one frame more.
use Rattle.std.proofs.Common.{◌≡◌, ◌∙◌, refl, sym, ap, subst, ℕ, suc, ◌==◌, ◌&&◌, ◌<◌, Bool, true, false, cond, replicate, List, [], ◌∷◌, ◌++◌, length, get_or, set, ⊎_elim, get_or-set_same, get_or-set_other, length-set, eq-eqb, ne_eqb}
use Rattle.std.specs.Prelude.{nat_lt, codes}
use Rattle.std.proofs.lemmas.Bool.{cases_eq}
use Rattle.std.proofs.lemmas.List.{get_or-replicate, length-replicate}
use Rattle.xsk_model.specs.declared.call.Ring.{Ring}
use Rattle.xsk_model.specs.declared.call.Ring.TheVariants.{Fill, Comp, Rx, Tx}
use Rattle.xsk_model.specs.Rings.{is_ring}
use Rattle.xsk_log.specs.Line.{ring_text}
use Rattle.xsk_side.specs.Setting.{Setting}
use Rattle.xsk_side.proofs.Rings.{is_true, is_false}
use Rattle.xsk_judge.specs.declared.known.Known.{Known}
use Rattle.xsk_judge.specs.declared.known.Spot.{Spot}
use Rattle.xsk_judge.specs.Kept.{is_spot}
use Rattle.xsk_judge.specs.Stands.{Line, IsKnown, since_of, spot_of}
use Rattle.xsk_recording.specs.Text.{Beside}
use Rattle.xsk_recording.specs.declared.wakeup.Wakeup.{Wakeup}
use Rattle.xsk_hints.specs.declared.tally.Tally.{Tally}
use Rattle.xsk_hints.specs.declared.wakes.Wake.{Wake}
use Rattle.xsk_hints.specs.Facts.{since_at}
use Rattle.xsk_hints.specs.Tallies.{tally_of, with_line}
use Rattle.xsk_hints.specs.Told.{numbered, lines_part}
use Rattle.xsk_hints.specs.Wakes.{no_wake, ring_of, wake_with, wake_of, behind, wake_in, Wakens, woken, is_served, with_behind, look_part, unwoken}
use Rattle.xsk_hints.proofs.Tallies.{tally_more}

-- ---- frames behind a line

one_behind : (line since : ℕ) (lines : List ℕ) (t : Tally) (b : Bool) → t ≡ tally_of (behind line lines)
    → cond (b && nat_lt line since) (with_line since t) t ≡ tally_of (behind line (cond b (since ∷ lines) lines))
one_behind line since lines t true before = by (nat_lt line since)
  where
    by : (c : Bool) → cond c (with_line since t) t ≡ tally_of (cond c (since ∷ behind line lines) (behind line lines))
    by true = ap (with_line since) before ∙ tally_more since (behind line lines)
    by false = before
one_behind line since lines t false before = before

pub behind_more : (s : Setting) (lines : List Line) (spot : Spot) (line f : ℕ) (known : Known) (t : Tally) → IsKnown s lines f known
    → t ≡ tally_of (behind line (since_at s lines spot f)) → with_behind spot line known t ≡ tally_of (behind line (since_at s lines spot (suc f)))
behind_more s lines spot line f known t is before =
    ap (λ (p : Spot). cond (is_spot p spot && nat_lt line known.since) (with_line known.since t) t) is.spot
    ∙ ap (λ (n : ℕ). cond (is_spot (spot_of s f lines) spot && nat_lt line n) (with_line n t) t) is.since
    ∙ one_behind line (since_of s f lines) (since_at s lines spot f) t (is_spot (spot_of s f lines) spot) before

-- ---- what is told

pub told_unwoken : (k : ℕ) (w : Wake) (t : Tally) → is_served w t ≡ false
    → unwoken k w t ≡ ring_text (Tx k) ++ numbered (codes ": frames with no wake behind them: ") t.count ++ lines_part t ++ look_part t.last w
told_unwoken k w t h =
    is_false (is_served w t) [] (ring_text (Tx k) ++ numbered (codes ": frames with no wake behind them: ") t.count ++ lines_part t ++ look_part t.last w) h

-- ---- looks and wakes

pub wakens_first : (n : ℕ) (wakes : List Wake) → wakes ≡ replicate n no_wake → Wakens wakes []
wakens_first n wakes is k low =
    let few : k < n = subst (λ m. k < m) (ap length is ∙ length-replicate n no_wake) low in
    ap (λ (ws : List Wake). get_or ws k no_wake) is ∙ get_or-replicate n k no_wake no_wake few

pub length-woken : (r : Ring) (line : ℕ) (wakeup : Wakeup) (wakes : List Wake) → length (woken r line wakeup wakes) ≡ length wakes
length-woken (Fill d) line wakeup wakes = refl
length-woken (Comp d) line wakeup wakes = refl
length-woken (Rx k) line wakeup wakes = refl
length-woken (Tx k) line wakeup wakes = length-set wakes k (wake_with line wakeup (wake_in wakes k))

woken_in : (r : Ring) (line : ℕ) (wakeup : Wakeup) (wakes : List Wake) (k : ℕ) (w : Wake) → k < length wakes → wake_in wakes k ≡ w
    → wake_in (woken r line wakeup wakes) k ≡ cond (is_ring (Tx k) r) (wake_with line wakeup w) w
woken_in (Fill d) line wakeup wakes k w low is = is
woken_in (Comp d) line wakeup wakes k w low is = is
woken_in (Rx j) line wakeup wakes k w low is = is
woken_in (Tx j) line wakeup wakes k w low is = ⊎_elim
    (λ (same : k ≡ j).
    subst (λ i. wake_in (set wakes i (wake_with line wakeup (wake_in wakes i))) k ≡ cond (k == i) (wake_with line wakeup w) w) same
    (get_or-set_same wakes k (wake_with line wakeup (wake_in wakes k)) no_wake low
    ∙ ap (wake_with line wakeup) is
    ∙ sym (is_true (k == k) (wake_with line wakeup w) w (eq-eqb k k refl))))
    (λ (off : k ≡ j → ⊥).
    get_or-set_other wakes j k (wake_with line wakeup (wake_in wakes j)) no_wake off
    ∙ is
    ∙ sym (is_false (k == j) (wake_with line wakeup w) w (ne_eqb k j off)))
    (cases_eq k j)

pub wakens_more : (line : ℕ) (wakeup : Wakeup) (wakes : List Wake) (asides : List Beside) → Wakens wakes asides
    → Wakens (woken (ring_of wakeup) line wakeup wakes) (record { line = line; wakeup = wakeup } ∷ asides)
wakens_more line wakeup wakes asides wakens k low =
    let before : k < length wakes = subst (λ n. k < n) (length-woken (ring_of wakeup) line wakeup wakes) low in
    woken_in (ring_of wakeup) line wakeup wakes k (wake_of (Tx k) asides) before (wakens k before)
