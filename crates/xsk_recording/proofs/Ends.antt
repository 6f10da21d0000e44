-- Where a text ends.
use Rattle.std.proofs.Common.{◌≡◌, ◌≢◌, ℕ, suc, ◌+◌, ◌<◌, Option, Some, None, List, [], ◌∷◌, ◌++◌, length, refl, sym, ap, subst, ◌∙◌, arith, true, false, inl, inr}
use Rattle.std.specs.Prelude.{Bool, ◌==◌, ◌&&◌, if◌then◌else◌, nat_lt, nat_le, unwrap_or}
use Rattle.std.proofs.lemmas.Bool.{cases_Bool, eqb-true, eqb-false}
use Rattle.std.proofs.lemmas.List.{nil_from_length}
use Rattle.xsk_lines.specs.Lines.{in_front, lines_of}
use Rattle.xsk_lines.specs.Reading.{◌>>=◌}
use Rattle.xsk_recording.specs.Line.{line_at}
use Rattle.xsk_recording.specs.Header.{Header, header_after}
use Rattle.xsk_recording.specs.Text.{Read, nothing_read, line_after, lines_after, body_after, call_after, with_told, with_aside, most_bytes, most_lines, ends_line}
use Rattle.xsk_recording.specs.Feeding.{Reader, has_no_feed, joined, StandsFor, is_calls}
use Rattle.xsk_recording.specs.Verdict.{IsAtEnd, IsSound, Begins, IsVerdict}
use Rattle.xsk_recording.specs.declared.head.Next.{Next}
use Rattle.xsk_recording.specs.declared.head.Next.TheVariants.{Title, Umem, Pairs, Sockets, Mark, Calls}
use Rattle.xsk_recording.specs.declared.line.Timed.{Timed}
use Rattle.xsk_recording.specs.declared.verdict.Verdict.TheVariants as a_verdict
use Rattle.xsk_recording.proofs.Lines.{line-unended}
use Rattle.xsk_recording.proofs.Feeds.{lines-joined, unended}

some-value : {A : Type 0} (x y : A) → ◌≡◌ {A = Option A} (Some x) (Some y) → x ≡ y
some-value {A} x y e = ap (λ (r : Option A). unwrap_or r x) e

-- ---- each line counts

header-counts : (r n : Read) (h : Option Header) → (h >>= λ header. Some (record r { header = header; lines = r.lines + 1 })) ≡ Some n → n.lines ≡ r.lines + 1
header-counts r n None is = cc is
header-counts r n (Some h) is = sym (ap (λ (x : Read). x.lines) (some-value (record r { header = h; lines = r.lines + 1 }) n is))

told-counts : (r n : Read) (t : Timed) → call_after r t ≡ Some n → n.lines ≡ r.lines + 1
told-counts r n t is = elim (cases_Bool (nat_lt t.time r.time)) [
  | inl early ↦ cc (rw early at is)
  | inr later ↦
      sym (ap (λ (x : Read). x.lines)
      (some-value (record r { time = t.time; lines = r.lines + 1; calls = with_told (r.lines + 1) r.calls t.told; asides = with_aside (r.lines + 1) r.asides t.told }) n (rw later at is)))
]

call-counts : (r n : Read) (t : Option Timed) → (t >>= call_after r) ≡ Some n → n.lines ≡ r.lines + 1
call-counts r n None is = cc is
call-counts r n (Some t) is = told-counts r n t is

body-counts : (next : Next) (r n : Read) (xs : List ℕ) → body_after next r xs ≡ Some n → n.lines ≡ r.lines + 1
body-counts Title r n xs is = header-counts r n (header_after r.header xs) is
body-counts Umem r n xs is = header-counts r n (header_after r.header xs) is
body-counts Pairs r n xs is = header-counts r n (header_after r.header xs) is
body-counts Sockets r n xs is = header-counts r n (header_after r.header xs) is
body-counts Mark r n xs is = header-counts r n (header_after r.header xs) is
body-counts Calls r n xs is = call-counts r n (line_at xs) is

pub line-counts : (r n : Read) (xs : List ℕ) → line_after r xs ≡ Some n → n.lines ≡ r.lines + 1
unfolding line_after
line-counts r n xs is = elim (cases_Bool (nat_le (length xs) most_bytes && nat_lt r.lines most_lines && ends_line xs)) [
  | inl whole ↦ body-counts r.header.next r n xs (rw whole at is)
  | inr other ↦ cc (rw other at is)
]

first-counts : (r s : Read) (lines : List (List ℕ)) (first : Option Read) → ((n : Read) → first ≡ Some n → n.lines ≡ r.lines + 1)
    → ((n : Read) → lines_after n lines ≡ Some s → s.lines ≡ n.lines + length lines)
    → (first >>= λ next. lines_after next lines) ≡ Some s → s.lines ≡ r.lines + suc (length lines)
first-counts r s lines None one each is = cc is
first-counts r s lines (Some n) one each is = omega (arith, one n refl, each n is)

pub lines-count : (r s : Read) (lines : List (List ℕ)) → lines_after r lines ≡ Some s → s.lines ≡ r.lines + length lines
unfolding lines_after
lines-count r s [] is = let same = ap (λ (x : Read). x.lines) (some-value r s is) in omega (arith, same)
lines-count r s (line ∷ lines) is = first-counts r s lines (line_after r line) (λ n after. line-counts r n line after) (λ n. lines-count n s lines) is

-- ---- the last line

feedless-line : (xs : List ℕ) → has_no_feed xs ≡ true → xs ≢ [] → lines_of xs ≡ xs ∷ []
unfolding lines_of
feedless-line [] none some = absurd (some refl)
feedless-line (b ∷ []) none some = elim (cases_Bool (b == 10)) [
  | inl feed ↦ cc (rw feed at none)
  | inr other ↦ rw other refl
]
feedless-line (b ∷ c ∷ bs) none some = elim (cases_Bool (b == 10)) [
  | inl feed ↦ cc (rw feed at none)
  | inr other ↦ rw other (ap (in_front b) (feedless-line (c ∷ bs) (rw other at none) (λ e. cc e)))
]

behind-nothing : (xs ys : List ℕ) → xs ++ ys ≡ [] → ys ≡ []
behind-nothing [] ys none = none
behind-nothing (x ∷ xs) ys none = cc none

whole-lines : (reader : Reader) (text : List ℕ) (r : Read) (stands : StandsFor reader text r) → reader.begun ≡ [] → lines_of text ≡ stands.whole ++ []
unfolding lines_of
whole-lines reader text r stands empty =
    ap lines_of (stands.text_is ∙ ap (λ (b : List ℕ). joined stands.whole ++ b) empty) ∙ lines-joined stands.whole [] stands.lines

begins-whole : (reader : Reader) (text : List ℕ) (r : Read) → StandsFor reader text r → reader.begun ≡ [] → IsSound r.header.next r → Begins text [] r
begins-whole reader text r stands empty sound = record {
  before = stands.whole;
  lines_are = whole-lines reader text r stands empty;
  read = stands.read;
  sound = sound;
}

-- a line begins, and isn't ended
pub end-begun : (reader : Reader) (text : List ℕ) (r : Read) → StandsFor reader text r → reader.begun ≢ [] → IsSound r.header.next r
    → IsVerdict text (a_verdict.NoRecording (reader.lines + 1))
end-begun reader text r stands some sound = (
  r,
  reader.begun ∷ [],
  record {
    before = stands.whole;
    lines_are =
        ap lines_of stands.text_is ∙ lines-joined stands.whole reader.begun stands.lines
        ∙ ap (λ (l : List (List ℕ)). stands.whole ++ l) (feedless-line reader.begun stands.begun some);
    read = stands.read;
    sound = sound;
  },
  line-unended r reader.begun (unended reader.begun stands.begun),
  λ none. some (behind-nothing (joined stands.whole) reader.begun (sym stands.text_is ∙ none)),
  ap (λ n. n + 1) stands.shows.lines,
)

calls-is : (next : Next) → is_calls next ≡ true → next ≡ Calls
calls-is Title calls = cc calls
calls-is Umem calls = cc calls
calls-is Pairs calls = cc calls
calls-is Sockets calls = cc calls
calls-is Mark calls = cc calls
calls-is Calls calls = refl

next-calls : (reader : Reader) (text : List ℕ) (r : Read) → StandsFor reader text r → is_calls reader.header.next ≡ true → r.header.next ≡ Calls
next-calls reader text r stands calls = calls-is r.header.next (subst (λ (n : Next). is_calls n ≡ true) stands.shows.next calls)

pub end-no-calls : (reader : Reader) (text : List ℕ) (r : Read) → StandsFor reader text r → reader.begun ≡ [] → is_calls reader.header.next ≡ true
    → length r.calls ≡ 0 → IsSound r.header.next r → IsVerdict text a_verdict.NoCalls
end-no-calls reader text r stands empty calls none sound =
    (r, begins-whole reader text r stands empty sound, next-calls reader text r stands calls, nil_from_length r.calls none)

pub end-possible : (reader : Reader) (text : List ℕ) (r : Read) (calls : ℕ) → StandsFor reader text r → reader.begun ≡ [] → is_calls reader.header.next ≡ true
    → calls ≡ length r.calls → 0 < calls → IsSound r.header.next r → IsVerdict text (a_verdict.Possible calls)
end-possible reader text r calls stands empty begun are some sound =
    (r, begins-whole reader text r stands empty sound, next-calls reader text r stands begun, are, some)

-- no line at all
pub end-empty : (reader : Reader) (text : List ℕ) (r : Read) → StandsFor reader text r → reader.begun ≡ [] → reader.lines ≡ 0 → IsVerdict text a_verdict.Empty
end-empty reader text r stands empty none =
    let count = lines-count nothing_read r stands.whole stands.read in
    let whole : stands.whole ≡ [] = nil_from_length stands.whole (omega (arith, count, stands.shows.lines, none)) in
    stands.text_is ∙ ap (λ (w : List (List ℕ)). joined w ++ reader.begun) whole ∙ empty

lines-none : (whole : List (List ℕ)) → whole ++ [] ≡ [] → length whole ≡ 0
lines-none [] none = refl
lines-none (l ∷ whole) none = cc none

-- the header isn't whole
pub end-header : (reader : Reader) (text : List ℕ) (r : Read) → StandsFor reader text r → reader.begun ≡ [] → is_calls reader.header.next ≡ false
    → 0 < reader.lines → IsSound r.header.next r → IsVerdict text (a_verdict.NoRecording (reader.lines + 1))
unfolding lines_of
end-header reader text r stands empty header some sound =
    let count = lines-count nothing_read r stands.whole stands.read in (
      r,
      [],
      begins-whole reader text r stands empty sound,
      λ calls. cc (sym header ∙ ap is_calls (stands.shows.next ∙ calls)),
      λ none.
          let no-lines = lines-none stands.whole (sym (whole-lines reader text r stands empty) ∙ ap lines_of none) in
          omega (arith, count, stands.shows.lines, some, no-lines),
      ap (λ n. n + 1) stands.shows.lines,
    )

-- ---- as the code asks

pub no-bytes : (xs : List ℕ) (b : Bool) → b ≡ (length xs == 0) → b ≡ true → xs ≡ []
no-bytes xs b is empty = nil_from_length xs (eqb-true (length xs) 0 (sym is ∙ empty))

pub some-bytes : (xs : List ℕ) (b : Bool) → b ≡ (length xs == 0) → b ≡ false → xs ≢ []
some-bytes [] b is some none = cc (sym some ∙ is)
some-bytes (x ∷ xs) b is some none = cc none

pub end-called : (reader : Reader) (text : List ℕ) (r : Read) (calls : ℕ) → StandsFor reader text r → reader.begun ≡ [] → is_calls reader.header.next ≡ true
    → calls ≡ length r.calls → IsSound r.header.next r → IsVerdict text (if calls == 0 then a_verdict.NoCalls else a_verdict.Possible calls)
end-called reader text r calls stands empty begun are sound = elim (cases_Bool (calls == 0)) [
  | inl none ↦ rw none (end-no-calls reader text r stands empty begun (sym are ∙ eqb-true calls 0 none) sound)
  | inr some ↦ rw some (end-possible reader text r calls stands empty begun are (omega (arith, eqb-false calls 0 some)) sound)
]

pub at-end : (calls : ℕ) → IsAtEnd (if calls == 0 then a_verdict.NoCalls else a_verdict.Possible calls)
at-end calls = elim (cases_Bool (calls == 0)) [
  | inl none ↦ rw none tt
  | inr some ↦ rw some tt
]
