-- The hints on a recording that is whole.
use Rattle.std.proofs.Common.{◌≡◌, ◌≢◌, ℕ, ◌+◌, ◌⊎◌, Bool, Option, Some, None, true, false, List, [], ◌∷◌, ◌++◌, refl, sym, ap, subst, ◌∙◌, arith, inl, inr, ⊎_elim}
use Rattle.std.specs.Prelude.{◌==◌, Result, Ok, Err, OnOk}
use Rattle.std.proofs.lemmas.Bool.{cases_Bool, eqb-true, eqb-false}
use Rattle.xsk_side.specs.Setting.{Setting}
use Rattle.xsk_lines.specs.Lines.{lines_of}
use Rattle.xsk_recording.specs.Text.{Read}
use Rattle.xsk_recording.specs.Feeding.{Reader, StandsFor as StandsForText, is_calls, joined}
use Rattle.xsk_recording.specs.Verdict.{Begins, IsSound, IsVerdict}
use Rattle.xsk_recording.specs.declared.head.Next.{Next}
use Rattle.xsk_recording.specs.declared.head.Next.TheVariants.{Title, Umem, Pairs, Sockets, Mark, Calls}
use Rattle.xsk_recording.specs.declared.verdict.Verdict.{Verdict}
use Rattle.xsk_recording.specs.declared.verdict.Verdict.TheVariants as a_verdict
use Rattle.xsk_recording.proofs.Ends.{end-begun, end-empty, end-header}
use Rattle.xsk_recording.proofs.Feeds.{lines-joined}
use Rattle.xsk_recording.proofs.OneVerdict.{one-verdict}
use Rattle.xsk_check.specs.Checking.{Checked, StandsFor, IsHeard, IsOpen, Follows, Judges, AreHints, hints_on, lines_of_calls}
use Rattle.xsk_check.specs.declared.check.Court.{Court}
use Rattle.xsk_check.proofs.Hearing.{heard-sound}

-- ---- a possible recording was read whole

none-or-some : (xs : List ℕ) → (xs ≡ []) ⊎ (xs ≢ [])
none-or-some [] = inl refl
none-or-some (x ∷ xs) = inr (λ e. cc e)

other-verdict : (text : List ℕ) (calls : ℕ) (other : Verdict) → IsVerdict text (a_verdict.Possible calls) → IsVerdict text other → a_verdict.Possible calls ≡ other
other-verdict text calls other one two = one-verdict text (a_verdict.Possible calls) other one two

-- no line is begun
none-begun : (reader : Reader) (text : List ℕ) (r : Read) (calls : ℕ) → StandsForText reader text r → IsSound r.header.next r
    → IsVerdict text (a_verdict.Possible calls) → reader.begun ≡ []
none-begun reader text r calls stands sound is = ⊎_elim
    (λ (none : reader.begun ≡ []). none)
    (λ (some : reader.begun ≢ []).
    let same = other-verdict text calls (a_verdict.NoRecording (reader.lines + 1)) is (end-begun reader text r stands some sound) in
    cc same)
    (none-or-some reader.begun)

is-calls : (next : Next) → is_calls next ≡ true → next ≡ Calls
is-calls Title calls = cc calls
is-calls Umem calls = cc calls
is-calls Pairs calls = cc calls
is-calls Sockets calls = cc calls
is-calls Mark calls = cc calls
is-calls Calls calls = refl

-- and the header is whole
header-whole : (reader : Reader) (text : List ℕ) (r : Read) (calls : ℕ) → StandsForText reader text r → IsSound r.header.next r
    → IsVerdict text (a_verdict.Possible calls) → r.header.next ≡ Calls
header-whole reader text r calls stands sound is =
    let empty = none-begun reader text r calls stands sound is in
    ⊎_elim
    (λ (begun : is_calls reader.header.next ≡ true).
    is-calls r.header.next (subst (λ (n : Next). is_calls n ≡ true) stands.shows.next begun))
    (λ (early : is_calls reader.header.next ≡ false). ⊎_elim
    (λ (none : (reader.lines == 0) ≡ true).
    let same = other-verdict text calls a_verdict.Empty is (end-empty reader text r stands empty (eqb-true reader.lines 0 none)) in
    cc same)
    (λ (some : (reader.lines == 0) ≡ false).
    let different = eqb-false reader.lines 0 some in
    let same = other-verdict text calls (a_verdict.NoRecording (reader.lines + 1)) is (end-header reader text r stands empty early (omega (arith, different)) sound) in
    cc same)
    (cases_Bool (reader.lines == 0)))
    (cases_Bool (is_calls reader.header.next))

begins-whole : (reader : Reader) (text : List ℕ) (r : Read) → StandsForText reader text r → reader.begun ≡ [] → IsSound r.header.next r → Begins text [] r
unfolding lines_of
begins-whole reader text r stands empty sound = record {
  before = stands.whole;
  lines_are = ap lines_of (stands.text_is ∙ ap (λ (b : List ℕ). joined stands.whole ++ b) empty) ∙ lines-joined stands.whole [] stands.lines;
  read = stands.read;
  sound = sound;
}

-- ---- the court

judged-open : (r : Read) (court : Option Court) (here : Court) → court ≡ Some here → Judges r court → IsOpen here
judged-open r court here is judges = let there : Judges r (Some here) = subst (Judges r) is judges in there.2

no-court : (here : Court) (court : Option Court) → court ≡ Some here → court ≡ None → ⊥
no-court here court some none = cc (sym some ∙ none)

pub heard-open : (next : Next) (r : Read) (court : Option Court) (here : Court) → court ≡ Some here → IsHeard next r court → IsOpen here
heard-open Title r court here is heard = absurd (no-court here court is heard.0)
heard-open Umem r court here is heard = absurd (no-court here court is heard.0)
heard-open Pairs r court here is heard = absurd (no-court here court is heard.0)
heard-open Sockets r court here is heard = absurd (no-court here court is heard.0)
heard-open Mark r court here is heard = judged-open r court here is heard.0
heard-open Calls r court here is heard = judged-open r court here is heard

judges-whole : (checked : Checked) (text : List ℕ) (calls : ℕ) (stands : StandsFor checked text) → IsVerdict text (a_verdict.Possible calls)
    → Judges stands.read checked.court
judges-whole checked text calls stands is =
    let r = stands.read in
    let sound = heard-sound r.header.next r checked.court stands.heard.court in
    subst (λ (n : Next). IsHeard n r checked.court) (header-whole checked.reading text r calls stands.reads sound is) stands.heard.court

-- ---- the hints

hints-are : (checked : Checked) (court : Court) (text : List ℕ) (calls : ℕ) (stands : StandsFor checked text) → IsVerdict text (a_verdict.Possible calls)
    → court.setting ≡ stands.read.header.setting → court.hints.metadata ≡ stands.read.header.metadata
    → AreHints text (hints_on court.setting court.hints.metadata (lines_of_calls stands.read.calls) stands.read.asides)
hints-are checked court text calls stands is setting metadata =
    let r = stands.read in
    let sound = heard-sound r.header.next r checked.court stands.heard.court in
    record {
      read = r;
      begins = begins-whole checked.reading text r stands.reads (none-begun checked.reading text r calls stands.reads sound is) sound;
      calls = header-whole checked.reading text r calls stands.reads sound is;
      text_is =
          ap (λ (s : Setting). hints_on s court.hints.metadata (lines_of_calls r.calls) r.asides) setting
          ∙ ap (λ (m : Bool). hints_on r.header.setting m (lines_of_calls r.calls) r.asides) metadata;
    }

-- they were put behind a text
abbrev pub HasHints : List ℕ → List ℕ → List ℕ → Type 0
HasHints bytes before behind = (hints : List ℕ) × AreHints bytes hints × (behind ≡ before ++ hints)

on-ok : {A E : Type 0} (answer : Result A E) (P Q : Type 0) → (P → Q) → OnOk answer P → OnOk answer Q
on-ok (Ok a) P Q then is = then is
on-ok (Err e) P Q then is = tt

pub hinted : {A E : Type 0} (checked : Checked) (court : Court) (answer : Result A E) (before behind text : List ℕ) (calls : ℕ) → checked.court ≡ Some court
    → (stands : StandsFor checked text) → IsVerdict text (a_verdict.Possible calls)
    → (Follows court (lines_of_calls stands.read.calls) stands.read.asides
    → OnOk answer (behind ≡ before ++ hints_on court.setting court.hints.metadata (lines_of_calls stands.read.calls) stands.read.asides))
    → OnOk answer (HasHints text before behind)
hinted {A} {E} checked court answer before behind text calls here stands is told =
    let judges : Judges stands.read (Some court) = subst (Judges stands.read) here (judges-whole checked text calls stands is) in
    let hints = hints_on court.setting court.hints.metadata (lines_of_calls stands.read.calls) stands.read.asides in
    on-ok answer (behind ≡ before ++ hints) (HasHints text before behind) (λ put. (hints, hints-are checked court text calls stands is judges.0 judges.1, put))
    (told judges.3)

-- without a setting there are no calls
pub no-calls : (checked : Checked) (text : List ℕ) (calls : ℕ) → checked.court ≡ None → StandsFor checked text → IsVerdict text (a_verdict.Possible calls) → ⊥
no-calls checked text calls none stands is =
    let judges : Judges stands.read None = subst (Judges stands.read) none (judges-whole checked text calls stands is) in
    judges
