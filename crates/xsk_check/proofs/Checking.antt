-- A piece more: up to the end of its first line, and line by line.
use Rattle.std.proofs.Common.{◌≡◌, ℕ, ◌+◌, Option, Some, None, true, false, List, [], ◌∷◌, ◌++◌, refl, sym, ap, subst, ◌∙◌, append_assoc, append-nil}
use Rattle.std.specs.Prelude.{is_some}
use Rattle.xsk_lines.specs.Lines.{lines_of}
use Rattle.xsk_recording.specs.Text.{Numbered, Read}
use Rattle.xsk_recording.specs.Feeding.{Reader, StandsFor as StandsForText, Goes as GoesOn, Tells, IsLine, IsNext, joined}
use Rattle.xsk_recording.specs.Verdict.{Begins, IsSound}
use Rattle.xsk_recording.specs.declared.reading.Event.{Event}
use Rattle.xsk_recording.specs.declared.reading.Event.TheVariants as an_event
use Rattle.xsk_recording.proofs.Feeds.{line-next, lines-joined}
use Rattle.xsk_check.specs.Checking.{Checked, StandsFor, IsFound, Goes, Steps, HasTold, Hears}
use Rattle.xsk_check.specs.declared.finding.Finding.{Finding}
use Rattle.xsk_check.proofs.Hearing.{heard-sound}

-- ---- one line

goes-told : (r : Read) (line : List ℕ) (calls : List Numbered) (P Q : Read → Type 0) → ((n : Read) → P n → Q n) → GoesOn r line calls P → GoesOn r line calls Q
goes-told r line calls P Q each goes = record { read = goes.read; is = goes.is; calls_are = goes.calls_are; rest = each goes.read goes.rest }

told-only : (r : Read) (xs : List ℕ) (event : Event) (P : Read → Type 0) → Tells r xs event P → HasTold r xs event
told-only r xs an_event.Begun P told = tt
told-only r xs an_event.Passed P told = goes-told r xs r.calls _ _ (λ n rest. (tt, rest.1, rest.2)) told
told-only r xs (an_event.Setting s metadata) P told = goes-told r xs r.calls _ _ (λ n rest. (tt, rest.1, rest.2, rest.3, rest.4)) told
told-only r xs (an_event.NoSetting error) P told = goes-told r xs r.calls _ _ (λ n rest. (tt, rest.1, rest.2)) told
told-only r xs (an_event.Call call) P told = goes-told r xs (record { line = r.lines + 1; call = call } ∷ r.calls) _ _ (λ n rest. (tt, rest.1)) told
told-only r xs (an_event.Aside wakeup) P told = goes-told r xs r.calls _ _ (λ n rest. (tt, rest.1, rest.2)) told
told-only r xs an_event.Fault P told = told

-- the line that an event tells
pub some-told : (old new : Reader) (text : List ℕ) (r : Read) (piece : List ℕ) (event : Event) (rest : List ℕ) → IsNext old new text r piece event rest
    → (xs : List ℕ) × HasTold r xs event
some-told old new text r piece an_event.Begun rest next = ([], tt)
some-told old new text r piece an_event.Passed rest next = (old.begun ++ next.used, told-only r (old.begun ++ next.used) an_event.Passed _ next.told)
some-told old new text r piece (an_event.Setting s metadata) rest next = (old.begun ++ next.used, told-only r (old.begun ++ next.used) (an_event.Setting s metadata) _ next.told)
some-told old new text r piece (an_event.NoSetting error) rest next =
    (old.begun ++ next.used, told-only r (old.begun ++ next.used) (an_event.NoSetting error) _ next.told)
some-told old new text r piece (an_event.Call call) rest next = (old.begun ++ next.used, told-only r (old.begun ++ next.used) (an_event.Call call) _ next.told)
some-told old new text r piece (an_event.Aside wakeup) rest next =
    (old.begun ++ next.used, told-only r (old.begun ++ next.used) (an_event.Aside wakeup) _ next.told)
some-told old new text r piece an_event.Fault rest next = ((next []).line, (next []).fault)

-- the line stands behind those that were read
line-begins : (old : Reader) (text : List ℕ) (r : Read) (piece used rest later : List ℕ) → StandsForText old text r → piece ≡ used ++ rest → IsLine (old.begun ++ used)
    → IsSound r.header.next r → Begins (text ++ piece ++ later) ((old.begun ++ used) ∷ lines_of (rest ++ later)) r
line-begins old text r piece used rest later stands cut line sound = record {
  before = stands.whole;
  lines_are =
      ap lines_of (
      ap (λ (t : List ℕ). (t ++ piece) ++ later) stands.text_is
      ∙ ap (λ (p : List ℕ). ((joined stands.whole ++ old.begun) ++ p) ++ later) cut
      ∙ append_assoc (joined stands.whole ++ old.begun) (used ++ rest) later
      ∙ append_assoc (joined stands.whole) old.begun ((used ++ rest) ++ later)
      ∙ ap (λ (t : List ℕ). joined stands.whole ++ (old.begun ++ t)) (append_assoc used rest later)
      ∙ ap (λ (t : List ℕ). joined stands.whole ++ t) (sym (append_assoc old.begun used (rest ++ later))))
      ∙ lines-joined stands.whole ((old.begun ++ used) ++ (rest ++ later)) stands.lines
      ∙ ap (λ (l : List (List ℕ)). stands.whole ++ l) (line-next (old.begun ++ used) (rest ++ later) line);
  read = stands.read;
  sound = sound;
}

stepped : (old new : Checked) (text piece rest : List ℕ) (event : Event) (found : Option Finding) (stands : StandsFor old text)
    → IsNext old.reading new.reading text stands.read piece event rest → ((xs : List ℕ) → HasTold stands.read xs event → Hears new stands.read xs event found)
    → Steps new text piece rest found
stepped old new text piece rest an_event.Begun None stands next hears = (
  piece,
  sym (append-nil piece) ∙ ap (λ (l : List ℕ). piece ++ l) (sym next.0),
  record { read = stands.read; reads = next.1; heard = hears [] tt },
)
stepped old new text piece rest an_event.Begun (Some finding) stands next hears = absurd (hears [] tt)
stepped old new text piece rest an_event.Passed None stands next hears = (
  next.used,
  next.piece_is,
  record {
    read = next.told.read;
    reads = next.told.rest.0;
    heard = hears (old.reading.begun ++ next.used) (told-only stands.read (old.reading.begun ++ next.used) an_event.Passed _ next.told) next.told.read next.told.is;
  },
)
stepped old new text piece rest an_event.Passed (Some finding) stands next hears =
    absurd (hears (old.reading.begun ++ next.used) (told-only stands.read (old.reading.begun ++ next.used) an_event.Passed _ next.told))
stepped old new text piece rest (an_event.Setting s metadata) None stands next hears = (
  next.used,
  next.piece_is,
  record {
    read = next.told.read;
    reads = next.told.rest.0;
    heard = hears (old.reading.begun ++ next.used) (told-only stands.read (old.reading.begun ++ next.used) (an_event.Setting s metadata) _ next.told) next.told.read next.told.is;
  },
)
stepped old new text piece rest (an_event.Setting s metadata) (Some finding) stands next hears =
    absurd (hears (old.reading.begun ++ next.used) (told-only stands.read (old.reading.begun ++ next.used) (an_event.Setting s metadata) _ next.told))
stepped old new text piece rest (an_event.NoSetting error) None stands next hears =
    absurd (hears (old.reading.begun ++ next.used) (told-only stands.read (old.reading.begun ++ next.used) (an_event.NoSetting error) _ next.told))
stepped old new text piece rest (an_event.NoSetting error) (Some finding) stands next hears = λ later.
    hears (old.reading.begun ++ next.used) (told-only stands.read (old.reading.begun ++ next.used) (an_event.NoSetting error) _ next.told) (text ++ piece ++ later)
    (lines_of (rest ++ later))
    (line-begins old.reading text stands.read piece next.used rest later stands.reads next.piece_is next.line
    (heard-sound stands.read.header.next stands.read old.court stands.heard.court))
stepped old new text piece rest (an_event.Call call) None stands next hears = (
  next.used,
  next.piece_is,
  record {
    read = next.told.read;
    reads = next.told.rest.0;
    heard = hears (old.reading.begun ++ next.used) (told-only stands.read (old.reading.begun ++ next.used) (an_event.Call call) _ next.told) next.told.read next.told.is;
  },
)
stepped old new text piece rest (an_event.Call call) (Some finding) stands next hears = λ later.
    hears (old.reading.begun ++ next.used) (told-only stands.read (old.reading.begun ++ next.used) (an_event.Call call) _ next.told) (text ++ piece ++ later)
    (lines_of (rest ++ later))
    (line-begins old.reading text stands.read piece next.used rest later stands.reads next.piece_is next.line
    (heard-sound stands.read.header.next stands.read old.court stands.heard.court))
stepped old new text piece rest (an_event.Aside wakeup) None stands next hears = (
  next.used,
  next.piece_is,
  record {
    read = next.told.read;
    reads = next.told.rest.0;
    heard = hears (old.reading.begun ++ next.used) (told-only stands.read (old.reading.begun ++ next.used) (an_event.Aside wakeup) _ next.told) next.told.read next.told.is;
  },
)
stepped old new text piece rest (an_event.Aside wakeup) (Some finding) stands next hears =
    absurd (hears (old.reading.begun ++ next.used) (told-only stands.read (old.reading.begun ++ next.used) (an_event.Aside wakeup) _ next.told))
stepped old new text piece rest an_event.Fault None stands next hears = absurd (hears (next []).line (next []).fault)
stepped old new text piece rest an_event.Fault (Some finding) stands next hears = λ later.
    let fault = next later in
    hears fault.line fault.fault (text ++ piece ++ later) fault.later (record {
      before = fault.before;
      lines_are = fault.lines_are;
      read = fault.read;
      sound = heard-sound stands.read.header.next stands.read old.court stands.heard.court;
    })

-- the same where the reader's state is named apart
pub steps : (old new : Checked) (reading : Reader) (text piece rest : List ℕ) (event : Event) (found : Option Finding) (stands : StandsFor old text)
    → new.reading ≡ reading → IsNext old.reading reading text stands.read piece event rest
    → ((xs : List ℕ) → HasTold stands.read xs event → Hears new stands.read xs event found) → Steps new text piece rest found
steps old new reading text piece rest event found stands same next hears =
    stepped old new text piece rest event found stands (subst (λ (k : Reader). IsNext old.reading k text stands.read piece event rest) (sym same) next) hears

-- ---- a piece

-- a part of it was read
abbrev pub ReadOn : Checked → Checked → List ℕ → List ℕ → Type 0
ReadOn old new piece rest = (text : List ℕ) → StandsFor old text → Steps new text piece rest None

pub none-read : (old : Checked) (piece : List ℕ) → ReadOn old old piece piece
none-read old piece text stands = ([], refl, subst (StandsFor old) (sym (append-nil text)) stands)

pub more-read : (old new then : Checked) (piece rest later : List ℕ) → ReadOn old new piece rest → ReadOn new then rest later → ReadOn old then piece later
more-read old new then piece rest later on more text stands =
    let first = on text stands in
    let second = more (text ++ first.0) first.2 in (
      first.0 ++ second.0,
      first.1 ∙ ap (λ (l : List ℕ). first.0 ++ l) second.1 ∙ sym (append_assoc first.0 second.0 later),
      subst (StandsFor then) (append_assoc text first.0 second.0) second.2,
    )

-- all of it
pub all-read : (old new : Checked) (piece rest : List ℕ) → ReadOn old new piece rest → rest ≡ [] → (text : List ℕ) → StandsFor old text → StandsFor new (text ++ piece)
all-read old new piece rest on none text stands =
    let first = on text stands in
    subst (λ (l : List ℕ). StandsFor new (text ++ l)) (sym (first.1 ∙ ap (λ (l : List ℕ). first.0 ++ l) none ∙ append-nil first.0)) first.2

-- and the verdict is settled by a line of the rest
pub found-on : (old new then : Checked) (piece rest : List ℕ) (finding : Finding) → ReadOn old new piece rest
    → ((text : List ℕ) → StandsFor new text → (later : List ℕ) → IsFound (text ++ rest ++ later) finding)
    → (text : List ℕ) → StandsFor old text → (later : List ℕ) → IsFound (text ++ piece ++ later) finding
found-on old new then piece rest finding on found text stands later =
    let first = on text stands in
    subst (λ (l : List ℕ). IsFound (l ++ later) finding)
    (append_assoc text first.0 rest ∙ ap (λ (l : List ℕ). text ++ l) (sym first.1)) (found (text ++ first.0) first.2 later)

-- a step that finds nothing, or settles the verdict
pub none-found : (mid new : Checked) (rest later : List ℕ) (found : Option Finding) → ((text : List ℕ) → StandsFor mid text → Steps new text rest later found)
    → is_some found ≡ false → ReadOn mid new rest later
none-found mid new rest later None steps none = steps
none-found mid new rest later (Some finding) steps none = cc none

pub some-found : (old mid new : Checked) (piece rest later : List ℕ) (found : Option Finding) → ReadOn old mid piece rest
    → ((text : List ℕ) → StandsFor mid text → Steps new text rest later found) → is_some found ≡ true → (text : List ℕ) → StandsFor old text → Goes new text piece found
some-found old mid new piece rest later None on steps some = cc some
some-found old mid new piece rest later (Some finding) on steps some = found-on old mid new piece rest finding on steps
