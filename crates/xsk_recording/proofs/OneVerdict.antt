-- A text has one verdict: it stands at the first line that settles it.
use Rattle.std.proofs.Common.{◌≡◌, ◌≢◌, ℕ, ◌+◌, ◌<◌, ◌⊎◌, Option, Some, None, List, [], ◌∷◌, ◌++◌, length, refl, sym, ap, subst, ◌∙◌, arith, inl, inr}
use Rattle.std.specs.Prelude.{◌&&◌, nat_le, nat_lt, unwrap_or, codes}
use Rattle.std.proofs.lemmas.Bool.{cases_Bool}
use Rattle.xsk_side.specs.Setting.{Setting, IsSetting}
use Rattle.xsk_side.specs.Object.{Entry}
use Rattle.xsk_side.specs.Possible.{Possible, IsHistory}
use Rattle.xsk_side.proofs.First.{first_parts}
use Rattle.xsk_side.specs.declared.setting.SettingError.{SettingError}
use Rattle.xsk_side.specs.declared.setting.SettingError.TheVariants as an_error
use Rattle.xsk_lines.specs.Lines.{lines_of}
use Rattle.xsk_lines.specs.Reading.{◌>>=◌}
use Rattle.xsk_recording.specs.Line.{line_at, is_ended}
use Rattle.xsk_recording.specs.Header.{towards}
use Rattle.xsk_recording.specs.HeaderFields.{IsNoSetting}
use Rattle.xsk_recording.specs.Text.{Numbered, Read, nothing_read, line_after, lines_after, body_after, header_read, call_after, with_told, with_aside, most_bytes, most_lines, ends_line}
use Rattle.xsk_recording.specs.Verdict.{calls_of, IsSound, Begins, IsStuck, IsVerdict}
use Rattle.xsk_recording.specs.Laws.{OneVerdict}
use Rattle.xsk_recording.specs.declared.head.Next.{Next}
use Rattle.xsk_recording.specs.declared.head.Next.TheVariants.{Title, Umem, Pairs, Sockets, Mark, Calls}
use Rattle.xsk_recording.specs.declared.line.Told.{Told}
use Rattle.xsk_recording.specs.declared.line.Told.TheVariants.{Judged, Aside}
use Rattle.xsk_recording.specs.declared.line.Timed.{Timed}
use Rattle.xsk_recording.specs.declared.verdict.Verdict.{Verdict}
use Rattle.xsk_recording.specs.declared.verdict.Verdict.TheVariants as a_verdict

some-value : {A : Type 0} (x y : A) → ◌≡◌ {A = Option A} (Some x) (Some y) → x ≡ y
some-value {A} x y e = ap (λ (r : Option A). unwrap_or r x) e

-- ---- settings

history-setting : (s : Setting) (h : List Entry) → IsHistory s h → IsSetting s
history-setting s [] is = is
history-setting s (e ∷ past) is = history-setting s past is.0

no-setting : (s : Setting) (error : SettingError) → IsNoSetting s error → IsSetting s → ⊥
no-setting s an_error.Frames wrong is = wrong is.umem.frames
no-setting s an_error.Chunk wrong is = wrong.1 is.umem.chunk
no-setting s an_error.Pairs wrong is = wrong.2 is.pairs
no-setting s an_error.Sockets wrong is = wrong.3 is.sockets

one-error : (s : Setting) (a b : SettingError) → IsNoSetting s a → IsNoSetting s b → a ≡ b
one-error s an_error.Frames an_error.Frames x y = refl
one-error s an_error.Frames an_error.Chunk x y = absurd (x y.0)
one-error s an_error.Frames an_error.Pairs x y = absurd (x y.0)
one-error s an_error.Frames an_error.Sockets x y = absurd (x y.0)
one-error s an_error.Chunk an_error.Frames x y = absurd (y x.0)
one-error s an_error.Chunk an_error.Chunk x y = refl
one-error s an_error.Chunk an_error.Pairs x y = absurd (x.1 y.1)
one-error s an_error.Chunk an_error.Sockets x y = absurd (x.1 y.1)
one-error s an_error.Pairs an_error.Frames x y = absurd (y x.0)
one-error s an_error.Pairs an_error.Chunk x y = absurd (y.1 x.1)
one-error s an_error.Pairs an_error.Pairs x y = refl
one-error s an_error.Pairs an_error.Sockets x y = absurd (x.2 y.2)
one-error s an_error.Sockets an_error.Frames x y = absurd (y x.0)
one-error s an_error.Sockets an_error.Chunk x y = absurd (y.1 x.1)
one-error s an_error.Sockets an_error.Pairs x y = absurd (y.2 x.2)
one-error s an_error.Sockets an_error.Sockets x y = refl

-- ---- where more lines are sound, so are the first of them

told-sound : (s : Setting) (line : ℕ) (calls : List Numbered) (told : Told) → Possible s (calls_of (with_told line calls told)) → Possible s (calls_of calls)
told-sound s line calls (Judged call) is = first_parts s (call ∷ []) (calls_of calls) is
told-sound s line calls (Aside wakeup) is = is

call-sound : (r n : Read) (t : Option Timed) → r.header.next ≡ Calls → (t >>= call_after r) ≡ Some n → IsSound n.header.next n → IsSound Calls r
call-sound r n None is after sound = cc after
call-sound r n (Some t) is after sound = elim (cases_Bool (nat_lt t.time r.time)) [
  | inl early ↦ cc (rw early at after)
  | inr later ↦
      let m : Read = record r { time = t.time; lines = r.lines + 1; calls = with_told (r.lines + 1) r.calls t.told; asides = with_aside (r.lines + 1) r.asides t.told } in
      let same : m ≡ n = some-value m n (rw later at after) in
      let all : IsSound r.header.next m = subst (λ (x : Read). IsSound x.header.next x) (sym same) sound in
      told-sound r.header.setting (r.lines + 1) r.calls t.told (subst (λ (k : Next). IsSound k m) is all)
]

mark-sound : (r n : Read) (xs : List ℕ) → r.header.next ≡ Mark → header_read r xs ≡ Some n → IsSound n.header.next n → IsSound Mark r
mark-sound r n xs is after sound = elim (cases_Bool (is_ended (codes "calls") xs)) [
  | inl ends ↦
      let m : Read = record r { header = towards Calls r.header; lines = r.lines + 1 } in
      let same : m ≡ n = some-value m n (rw (is, ends) at after) in
      subst (λ (x : Read). IsSound x.header.next x) (sym same) sound
  | inr other ↦ cc (rw (is, other) at after)
]

body-sound : (next : Next) (r n : Read) (xs : List ℕ) → r.header.next ≡ next → body_after next r xs ≡ Some n → IsSound n.header.next n → IsSound next r
body-sound Title r n xs is after sound = tt
body-sound Umem r n xs is after sound = tt
body-sound Pairs r n xs is after sound = tt
body-sound Sockets r n xs is after sound = tt
body-sound Mark r n xs is after sound = mark-sound r n xs is after sound
body-sound Calls r n xs is after sound = call-sound r n (line_at xs) is after sound

line-sound : (r n : Read) (xs : List ℕ) → line_after r xs ≡ Some n → IsSound n.header.next n → IsSound r.header.next r
unfolding line_after
line-sound r n xs after sound = elim (cases_Bool (nat_le (length xs) most_bytes && nat_lt r.lines most_lines && ends_line xs)) [
  | inl whole ↦ body-sound r.header.next r n xs refl (rw whole at after) sound
  | inr other ↦ cc (rw other at after)
]

-- the first line and those behind it
pub record Stepped (r s : Read) (line : List ℕ) (lines : List (List ℕ)) : Type 0 where
  pub read : Read
  pub first : line_after r line ≡ Some read
  pub rest : lines_after read lines ≡ Some s

stepped-by : (r s : Read) (line : List ℕ) (lines : List (List ℕ)) (first : Option Read) → line_after r line ≡ first
    → (first >>= λ next. lines_after next lines) ≡ Some s → Stepped r s line lines
stepped-by r s line lines None is after = cc after
stepped-by r s line lines (Some n) is after = record { read = n; first = is; rest = after }

stepped : (r s : Read) (line : List ℕ) (lines : List (List ℕ)) → lines_after r (line ∷ lines) ≡ Some s → Stepped r s line lines
unfolding lines_after
stepped r s line lines after = stepped-by r s line lines (line_after r line) refl after

lines-sound : (r s : Read) (lines : List (List ℕ)) → lines_after r lines ≡ Some s → IsSound s.header.next s → IsSound r.header.next r
unfolding lines_after
lines-sound r s [] after sound = subst (λ (x : Read). IsSound x.header.next x) (sym (some-value r s after)) sound
lines-sound r s (line ∷ lines) after sound =
    let step = stepped r s line lines after in
    line-sound r step.read line step.first (lines-sound step.read s lines step.rest sound)

-- ---- where two texts of one beginning part

through : (r s : Read) (before more : List (List ℕ)) (first : Option Read)
    → ((n : Read) (t : Read) → lines_after n before ≡ Some t → lines_after n (before ++ more) ≡ Some s → lines_after t more ≡ Some s)
    → (t : Read) → (first >>= λ next. lines_after next before) ≡ Some t → (first >>= λ next. lines_after next (before ++ more)) ≡ Some s → lines_after t more ≡ Some s
through r s before more None each t to all = cc to
through r s before more (Some n) each t to all = each n t to all

behind-first : (r t s : Read) (before more : List (List ℕ)) → lines_after r before ≡ Some t → lines_after r (before ++ more) ≡ Some s → lines_after t more ≡ Some s
unfolding lines_after
behind-first r t s [] more to all = subst (λ (x : Read). lines_after x more ≡ Some s) (some-value r t to) all
behind-first r t s (line ∷ before) more to all =
    through r s before more (line_after r line) (λ n u first whole. behind-first n u s before more first whole) t to all

abbrev Parts : List (List ℕ) → List (List ℕ) → List (List ℕ) → List (List ℕ) → Type 0
Parts before later other rest = (more : List (List ℕ)) × (other ≡ before ++ more) × (later ≡ more ++ rest)

compared : (before later other rest : List (List ℕ)) → before ++ later ≡ other ++ rest → Parts before later other rest ⊎ Parts other rest before later
compared [] later other rest same = inl (other, refl, same)
compared (x ∷ before) later [] rest same = inr (x ∷ before, refl, sym same)
compared (x ∷ before) later (y ∷ other) rest same =
    let head : x ≡ y = cc same in
    let tail : before ++ later ≡ other ++ rest = cc same in
    elim (compared before later other rest tail) [
      | inl p ↦ inl (p.0, rw head (ap (λ (l : List (List ℕ)). y ∷ l) p.1), p.2)
      | inr p ↦ inr (p.0, rw head (ap (λ (l : List (List ℕ)). y ∷ l) p.1), p.2)
    ]

-- ---- where a verdict stands

abbrev Stands : Verdict → Read → List (List ℕ) → Type 0
Stands a_verdict.Empty r later = ⊥
Stands a_verdict.NoCalls r later = (later ≡ []) × (r.header.next ≡ Calls) × (r.calls ≡ [])
Stands (a_verdict.Possible calls) r later = (later ≡ []) × (r.header.next ≡ Calls) × (calls ≡ length r.calls) × (0 < calls)
Stands (a_verdict.NotPossible line) r later =
    (last : List ℕ) × (rest : List (List ℕ)) × (n : Read) × (later ≡ last ∷ rest)
    × (line_after r last ≡ Some n) × (n.header.next ≡ Calls) × (Possible n.header.setting (calls_of n.calls) → ⊥) × (line ≡ n.lines)
Stands (a_verdict.NoSetting line error) r later =
    (last : List ℕ) × (rest : List (List ℕ)) × (n : Read) × (later ≡ last ∷ rest)
    × (line_after r last ≡ Some n) × (n.header.next ≡ Mark) × IsNoSetting n.header.setting error × (line ≡ n.lines)
Stands (a_verdict.NoRecording line) r later = IsStuck r later × (line ≡ r.lines + 1)

pub record Settled (text : List ℕ) (v : Verdict) : Type 0 where
  pub read : Read
  pub later : List (List ℕ)
  pub begins : Begins text later read
  pub stands : Stands v read later

settled : (text : List ℕ) (v : Verdict) → IsVerdict text v → (text ≢ []) → Settled text v
settled text a_verdict.Empty is some = absurd (some is)
settled text a_verdict.NoCalls is some = record { read = is.0; later = []; begins = is.1; stands = (refl, is.2, is.3) }
settled text (a_verdict.Possible calls) is some = record { read = is.0; later = []; begins = is.1; stands = (refl, is.2, is.3, is.4) }
settled text (a_verdict.NotPossible line) is some =
    record { read = is.0; later = is.1 ∷ is.2; begins = is.4; stands = (is.1, is.2, is.3, refl, is.5, is.6, is.7, is.8) }
settled text (a_verdict.NoSetting line error) is some =
    record { read = is.0; later = is.1 ∷ is.2; begins = is.4; stands = (is.1, is.2, is.3, refl, is.5, is.6, is.7, is.8) }
settled text (a_verdict.NoRecording line) is some = record { read = is.0; later = is.1; begins = is.2; stands = (is.3, is.5) }

same-next : (r n m : Read) (last other : List ℕ) (later rest more : List (List ℕ)) → later ≡ last ∷ rest → later ≡ other ∷ more
    → line_after r last ≡ Some n → line_after r other ≡ Some m → n ≡ m
same-next r n m last other later rest more one two first second =
    let lines : last ∷ rest ≡ other ∷ more = sym one ∙ two in
    let head : last ≡ other = cc lines in
    some-value n m (sym first ∙ ap (line_after r) head ∙ second)

-- where a verdict stands, no sound line follows
not-on : (v : Verdict) (r : Read) (line : List ℕ) (later : List (List ℕ)) (n : Read) → Stands v r (line ∷ later) → line_after r line ≡ Some n → IsSound n.header.next n → ⊥
not-on a_verdict.Empty r line later n stands after sound = stands
not-on a_verdict.NoCalls r line later n stands after sound = cc stands.0
not-on (a_verdict.Possible calls) r line later n stands after sound = cc stands.0
not-on (a_verdict.NotPossible l) r line later n stands after sound =
    let same = same-next r stands.2 n stands.0 line (line ∷ later) stands.1 later stands.3 refl stands.4 after in
    let all : IsSound stands.2.header.next stands.2 = subst (λ (x : Read). IsSound x.header.next x) (sym same) sound in
    stands.6 (subst (λ (k : Next). IsSound k stands.2) stands.5 all)
not-on (a_verdict.NoSetting l error) r line later n stands after sound =
    let same = same-next r stands.2 n stands.0 line (line ∷ later) stands.1 later stands.3 refl stands.4 after in
    let all : IsSound stands.2.header.next stands.2 = subst (λ (x : Read). IsSound x.header.next x) (sym same) sound in
    let possible : Possible stands.2.header.setting (calls_of stands.2.calls) = subst (λ (k : Next). IsSound k stands.2) stands.5 all in
    no-setting stands.2.header.setting error stands.6 (history-setting stands.2.header.setting possible.history possible.legal)
not-on (a_verdict.NoRecording l) r line later n stands after sound = cc (sym stands.0 ∙ after)

-- ---- two verdicts at one place

end-line : (later : List (List ℕ)) (last : List ℕ) (rest : List (List ℕ)) → later ≡ [] → later ≡ last ∷ rest → ⊥
end-line later last rest none some = cc (sym none ∙ some)

end-stuck : (r : Read) (later : List (List ℕ)) → later ≡ [] → r.header.next ≡ Calls → IsStuck r later → ⊥
end-stuck r later none calls stuck = (subst (IsStuck r) none stuck) calls

line-stuck : (r n : Read) (later : List (List ℕ)) (last : List ℕ) (rest : List (List ℕ)) → later ≡ last ∷ rest → line_after r last ≡ Some n → IsStuck r later → ⊥
line-stuck r n later last rest is after stuck =
    let none : line_after r last ≡ None = subst (IsStuck r) is stuck in
    cc (sym none ∙ after)

no-calls-some : (r : Read) (calls : ℕ) → r.calls ≡ [] → calls ≡ length r.calls → 0 < calls → ⊥
no-calls-some r calls none are some = let zero = ap (λ (l : List Numbered). length l) none in omega (arith, zero, are, some)

calls-mark : (r n m : Read) (last other : List ℕ) (later rest more : List (List ℕ)) → later ≡ last ∷ rest → later ≡ other ∷ more
    → line_after r last ≡ Some n → line_after r other ≡ Some m → n.header.next ≡ Calls → m.header.next ≡ Mark → ⊥
calls-mark r n m last other later rest more one two first second calls mark =
    let same = same-next r n m last other later rest more one two first second in
    cc (sym calls ∙ ap (λ (x : Read). x.header.next) same ∙ mark)

same-verdict : (v w : Verdict) (r : Read) (later : List (List ℕ)) → Stands v r later → Stands w r later → v ≡ w
same-verdict a_verdict.Empty w r later x y = absurd x
same-verdict a_verdict.NoCalls a_verdict.Empty r later x y = absurd y
same-verdict a_verdict.NoCalls a_verdict.NoCalls r later x y = refl
same-verdict a_verdict.NoCalls (a_verdict.Possible n) r later x y = absurd (no-calls-some r n x.2 y.2 y.3)
same-verdict a_verdict.NoCalls (a_verdict.NotPossible n) r later x y = absurd (end-line later y.0 y.1 x.0 y.3)
same-verdict a_verdict.NoCalls (a_verdict.NoSetting n error) r later x y = absurd (end-line later y.0 y.1 x.0 y.3)
same-verdict a_verdict.NoCalls (a_verdict.NoRecording n) r later x y = absurd (end-stuck r later x.0 x.1 y.0)
same-verdict (a_verdict.Possible n) a_verdict.Empty r later x y = absurd y
same-verdict (a_verdict.Possible n) a_verdict.NoCalls r later x y = absurd (no-calls-some r n y.2 x.2 x.3)
same-verdict (a_verdict.Possible n) (a_verdict.Possible m) r later x y = ap a_verdict.Possible (x.2 ∙ sym y.2)
same-verdict (a_verdict.Possible n) (a_verdict.NotPossible m) r later x y = absurd (end-line later y.0 y.1 x.0 y.3)
same-verdict (a_verdict.Possible n) (a_verdict.NoSetting m error) r later x y = absurd (end-line later y.0 y.1 x.0 y.3)
same-verdict (a_verdict.Possible n) (a_verdict.NoRecording m) r later x y = absurd (end-stuck r later x.0 x.1 y.0)
same-verdict (a_verdict.NotPossible n) a_verdict.Empty r later x y = absurd y
same-verdict (a_verdict.NotPossible n) a_verdict.NoCalls r later x y = absurd (end-line later x.0 x.1 y.0 x.3)
same-verdict (a_verdict.NotPossible n) (a_verdict.Possible m) r later x y = absurd (end-line later x.0 x.1 y.0 x.3)
same-verdict (a_verdict.NotPossible n) (a_verdict.NotPossible m) r later x y =
    let same = same-next r x.2 y.2 x.0 y.0 later x.1 y.1 x.3 y.3 x.4 y.4 in
    ap a_verdict.NotPossible (x.7 ∙ ap (λ (q : Read). q.lines) same ∙ sym y.7)
same-verdict (a_verdict.NotPossible n) (a_verdict.NoSetting m error) r later x y =
    absurd (calls-mark r x.2 y.2 x.0 y.0 later x.1 y.1 x.3 y.3 x.4 y.4 x.5 y.5)
same-verdict (a_verdict.NotPossible n) (a_verdict.NoRecording m) r later x y = absurd (line-stuck r x.2 later x.0 x.1 x.3 x.4 y.0)
same-verdict (a_verdict.NoSetting n error) a_verdict.Empty r later x y = absurd y
same-verdict (a_verdict.NoSetting n error) a_verdict.NoCalls r later x y = absurd (end-line later x.0 x.1 y.0 x.3)
same-verdict (a_verdict.NoSetting n error) (a_verdict.Possible m) r later x y = absurd (end-line later x.0 x.1 y.0 x.3)
same-verdict (a_verdict.NoSetting n error) (a_verdict.NotPossible m) r later x y =
    absurd (calls-mark r y.2 x.2 y.0 x.0 later y.1 x.1 y.3 x.3 y.4 x.4 y.5 x.5)
same-verdict (a_verdict.NoSetting n error) (a_verdict.NoSetting m other) r later x y =
    let same = same-next r x.2 y.2 x.0 y.0 later x.1 y.1 x.3 y.3 x.4 y.4 in
    ap (λ (l : ℕ). a_verdict.NoSetting l error) (x.7 ∙ ap (λ (q : Read). q.lines) same ∙ sym y.7)
    ∙ ap (λ (e : SettingError). a_verdict.NoSetting m e)
    (one-error x.2.header.setting error other x.6 (subst (λ (q : Read). IsNoSetting q.header.setting other) (sym same) y.6))
same-verdict (a_verdict.NoSetting n error) (a_verdict.NoRecording m) r later x y = absurd (line-stuck r x.2 later x.0 x.1 x.3 x.4 y.0)
same-verdict (a_verdict.NoRecording n) a_verdict.Empty r later x y = absurd y
same-verdict (a_verdict.NoRecording n) a_verdict.NoCalls r later x y = absurd (end-stuck r later y.0 y.1 x.0)
same-verdict (a_verdict.NoRecording n) (a_verdict.Possible m) r later x y = absurd (end-stuck r later y.0 y.1 x.0)
same-verdict (a_verdict.NoRecording n) (a_verdict.NotPossible m) r later x y = absurd (line-stuck r y.2 later y.0 y.1 y.3 y.4 x.0)
same-verdict (a_verdict.NoRecording n) (a_verdict.NoSetting m error) r later x y = absurd (line-stuck r y.2 later y.0 y.1 y.3 y.4 x.0)
same-verdict (a_verdict.NoRecording n) (a_verdict.NoRecording m) r later x y = ap a_verdict.NoRecording (x.1 ∙ sym y.1)

-- ---- two places

part : (v w : Verdict) (r s : Read) (later rest more : List (List ℕ)) → lines_after r more ≡ Some s → later ≡ more ++ rest → IsSound s.header.next s
    → Stands v r later → Stands w s rest → v ≡ w
unfolding lines_after
part v w r s later rest [] reach same sound x y =
    same-verdict v w r later x (subst (λ (q : Read). Stands w q later) (sym (some-value r s reach)) (subst (Stands w s) (sym same) y))
part v w r s later rest (line ∷ more) reach same sound x y =
    let step = stepped r s line more reach in
    absurd (not-on v r line (more ++ rest) step.read (subst (Stands v r) same x) step.first (lines-sound step.read s more step.rest sound))

nested : (text : List ℕ) (v w : Verdict) (one : Settled text v) (two : Settled text w)
    → Parts one.begins.before one.later two.begins.before two.later → v ≡ w
nested text v w one two p =
    part v w one.read two.read one.later two.later p.0
    (behind-first nothing_read one.read two.read one.begins.before p.0 one.begins.read
    (subst (λ (l : List (List ℕ)). lines_after nothing_read l ≡ Some two.read) p.1 two.begins.read))
    p.2 two.begins.sound one.stands two.stands

two-settled : (text : List ℕ) (v w : Verdict) → Settled text v → Settled text w → v ≡ w
two-settled text v w one two =
    elim (compared one.begins.before one.later two.begins.before two.later (sym one.begins.lines_are ∙ two.begins.lines_are)) [
      | inl p ↦ nested text v w one two p
      | inr p ↦ sym (nested text w v two one p)
    ]

-- ---- no byte at all

no-line : (before later : List (List ℕ)) → [] ≡ before ++ later → (before ≡ []) × (later ≡ [])
no-line [] later none = (refl, sym none)
no-line (l ∷ before) later none = cc none

nothing-begins : (later : List (List ℕ)) (r : Read) → Begins [] later r → (later ≡ []) × (r.header.next ≡ Title)
unfolding lines_of lines_after
nothing-begins later r begins =
    let none = no-line begins.before later begins.lines_are in
    let read = subst (λ (l : List (List ℕ)). lines_after nothing_read l ≡ Some r) none.0 begins.read in
    (none.1, ap (λ (x : Read). x.header.next) (sym (some-value nothing_read r read)))

empty-only : (v : Verdict) → IsVerdict [] v → v ≡ a_verdict.Empty
empty-only a_verdict.Empty is = refl
empty-only a_verdict.NoCalls is = cc (sym is.2 ∙ (nothing-begins [] is.0 is.1).1)
empty-only (a_verdict.Possible calls) is = cc (sym is.2 ∙ (nothing-begins [] is.0 is.1).1)
empty-only (a_verdict.NotPossible line) is = cc (nothing-begins (is.1 ∷ is.2) is.0 is.4).0
empty-only (a_verdict.NoSetting line error) is = cc (nothing-begins (is.1 ∷ is.2) is.0 is.4).0
empty-only (a_verdict.NoRecording line) is = absurd (is.4 refl)

pub one-verdict : OneVerdict
one-verdict [] v w x y = empty-only v x ∙ sym (empty-only w y)
one-verdict (b ∷ bs) v w x y = two-settled (b ∷ bs) v w (settled (b ∷ bs) v x (λ e. cc e)) (settled (b ∷ bs) w y (λ e. cc e))
