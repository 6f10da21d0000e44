-- A line has one call at most, and a call 32 entries: so the judge can count all addresses that name no frame.
use Rattle.std.proofs.Common.{◌≡◌, ℕ, ◌+◌, ◌-◌, ◌≤◌, Option, Some, None, List, [], ◌∷◌, length, refl, sym, ap, subst, ◌∙◌, arith, true, false}
use Rattle.std.specs.Prelude.{Bool, if◌then◌else◌, unwrap_or}
use Rattle.xsk_umem.specs.declared.batch.XdpDesc.{XdpDesc}
use Rattle.xsk_model.specs.Descriptor.{is_inside}
use Rattle.xsk_model.specs.Rings.{is_ring}
use Rattle.xsk_model.specs.declared.call.Ring.TheVariants.{Comp}
use Rattle.xsk_side.specs.Setting.{Setting}
use Rattle.xsk_side.specs.Entries.{strays_in}
use Rattle.xsk_side.specs.Own.{is_tx_of}
use Rattle.xsk_side.specs.Local.{strays_given, new_of, back_of}
use Rattle.xsk_side.specs.declared.call.Call.{Call}
use Rattle.xsk_side.specs.declared.call.Call.TheVariants.{Reserve, Free, Submit, Peek, Release, Cancel}
use Rattle.xsk_lines.specs.Reading.{◌>>=◌}
use Rattle.xsk_recording.specs.Text.{Numbered, Read, nothing_read, line_after, lines_after, with_told}
use Rattle.xsk_recording.specs.Verdict.{calls_of}
use Rattle.xsk_recording.specs.declared.line.Told.{Told}
use Rattle.xsk_recording.specs.declared.line.Told.TheVariants.{Judged, Aside}
use Rattle.xsk_recording.specs.Counts.{IsCounted}
use Rattle.xsk_recording.proofs.Small.{IsSmall, IsSmallCall}
use Rattle.xsk_recording.proofs.Going.{line-step, line-within}

one-stray : (b : Bool) → (if b then 0 else 1) ≤ 1
one-stray true = omega arith
one-stray false = omega arith

pub strays-few : (s : Setting) (entries : List XdpDesc) → strays_in s entries ≤ length entries
strays-few s [] = omega arith
strays-few s (entry ∷ entries) = omega (arith, one-stray (is_inside s.geometry entry), strays-few s entries)

more-by : (b : Bool) (lost more most : ℕ) → more ≤ most → (if b then lost + more else lost) ≤ lost + most
more-by true lost more most few = omega (arith, few)
more-by false lost more most few = omega arith

less-by : (b : Bool) (lost less : ℕ) → (if b then lost - less else lost) ≤ lost
less-by true lost less = omega arith
less-by false lost less = omega arith

call-strays : (s : Setting) (d : ℕ) (past : List Call) (call : Call) → IsSmallCall call → strays_given s d (call ∷ past) ≤ strays_given s d past + 32
call-strays s d past (Reserve r n answer) small = omega arith
call-strays s d past (Free r n places) small = omega arith
call-strays s d past (Submit r entries) small =
    more-by (is_tx_of s d r) (strays_given s d past) (strays_in s entries) 32 (omega (arith, strays-few s entries, small))
call-strays s d past (Peek r n entries) small =
    let less = less-by (is_ring (Comp d) r) (strays_given s d past) (strays_in s (new_of (back_of s r past) entries)) in omega (arith, less)
call-strays s d past (Release r n) small = omega arith
call-strays s d past (Cancel r n) small = omega arith

told-strays : (s : Setting) (d line : ℕ) (calls : List Numbered) (told : Told) → IsSmall told
    → strays_given s d (calls_of (with_told line calls told)) ≤ strays_given s d (calls_of calls) + 32
told-strays s d line calls (Judged call) small = call-strays s d (calls_of calls) call small
told-strays s d line calls (Aside wakeup) small = omega arith

told-few : (line : ℕ) (calls : List Numbered) (told : Told) → length (with_told line calls told) ≤ length calls + 1
told-few line calls (Judged call) = omega arith
told-few line calls (Aside wakeup) = omega arith

step-counted : (r n : Read) (xs : List ℕ) → line_after r xs ≡ Some n → IsCounted r → IsCounted n
step-counted r n xs after counted =
    let step = line-step r n xs after in (
      omega (arith, counted.0, told-few (r.lines + 1) r.calls step.told, ap (λ (l : List Numbered). length l) step.calls, step.lines),
      omega (arith, line-within r n xs after, step.lines),
      λ s d.
          omega (
            arith,
            counted.2 s d,
            told-strays s d (r.lines + 1) r.calls step.told step.small,
            ap (λ (l : List Numbered). strays_given s d (calls_of l)) step.calls,
            step.lines,
          ),
    )

-- ---- a call that a line tells

pub longer : (calls : List Numbered) (x : Numbered) → calls ≡ x ∷ calls → ⊥
longer calls x is = let count = ap (λ (l : List Numbered). length l) is in omega (arith, count)

head-is : (x y : Numbered) (xs ys : List Numbered) → x ∷ xs ≡ y ∷ ys → x ≡ y
head-is x y xs ys is = cc

told-small : (line : ℕ) (calls : List Numbered) (told : Told) (x : Numbered) → IsSmall told → with_told line calls told ≡ x ∷ calls → IsSmallCall x.call
told-small line calls (Judged call) x small is =
    subst (λ (n : Numbered). IsSmallCall n.call) (head-is (record { line = line; call = call }) x calls calls is) small
told-small line calls (Aside wakeup) x small is = absurd (longer calls x is)

pub call-small-of : (r n : Read) (xs : List ℕ) (x : Numbered) → line_after r xs ≡ Some n → n.calls ≡ x ∷ r.calls → IsSmallCall x.call
call-small-of r n xs x after is =
    let step = line-step r n xs after in
    told-small (r.lines + 1) r.calls step.told x step.small (sym step.calls ∙ is)

-- ---- all lines

lines-through : (r s : Read) (line : List ℕ) (lines : List (List ℕ)) (first : Option Read) → line_after r line ≡ first
    → ((n : Read) → IsCounted n → lines_after n lines ≡ Some s → IsCounted s) → IsCounted r → (first >>= λ next. lines_after next lines) ≡ Some s → IsCounted s
lines-through r s line lines None is each counted after = cc after
lines-through r s line lines (Some n) is each counted after = each n (step-counted r n line is counted) after

some-value : {A : Type 0} (x y : A) → ◌≡◌ {A = Option A} (Some x) (Some y) → x ≡ y
some-value {A} x y e = ap (λ (r : Option A). unwrap_or r x) e

lines-counted : (lines : List (List ℕ)) (r s : Read) → IsCounted r → lines_after r lines ≡ Some s → IsCounted s
unfolding lines_after
lines-counted [] r s counted after = subst IsCounted (some-value r s after) counted
lines-counted (line ∷ lines) r s counted after =
    lines-through r s line lines (line_after r line) refl (λ n counted rest. lines-counted lines n s counted rest) counted after

pub read-counted : (lines : List (List ℕ)) (r : Read) → lines_after nothing_read lines ≡ Some r → IsCounted r
read-counted lines r after = lines-counted lines nothing_read r (omega arith, omega arith, λ s d. omega arith) after
