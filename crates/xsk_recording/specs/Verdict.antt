-- The verdict that the text of a recording deserves: over all its bytes.
use Rattle.std.specs.Prelude.{◌≡◌, ◌≢◌, ℕ, ◌+◌, ◌<◌, Some, None, List, [], ◌∷◌, ◌++◌, length, map}
use Rattle.xsk_side.specs.Possible.{Possible}
use Rattle.xsk_side.specs.declared.call.Call.{Call}
use Rattle.xsk_lines.specs.Lines.{lines_of}
use Rattle.xsk_recording.specs.HeaderFields.{IsNoSetting}
use Rattle.xsk_recording.specs.Text.{Numbered, Read, nothing_read, line_after, lines_after}
use Rattle.xsk_recording.specs.declared.head.Next.{Next}
use Rattle.xsk_recording.specs.declared.head.Next.TheVariants.{Title, Umem, Pairs, Sockets, Mark, Calls}
use Rattle.xsk_recording.specs.declared.verdict.Verdict.{Verdict}
use Rattle.xsk_recording.specs.declared.verdict.Verdict.TheVariants as a_verdict

abbrev pub call_of : Numbered → Call
call_of n = n.call

abbrev pub calls_of : List Numbered → List Call
calls_of numbered = map call_of numbered

-- what was read so far is that of a program on some kernel; before the line of the kernel there is nothing to say
abbrev pub IsSound : Next → Read → Type 0
IsSound Title r = Unit {0}
IsSound Umem r = Unit {0}
IsSound Pairs r = Unit {0}
IsSound Sockets r = Unit {0}
IsSound Mark r = Possible r.header.setting (calls_of r.calls)
IsSound Calls r = Possible r.header.setting (calls_of r.calls)

-- the first lines of a text tell this, and are sound
pub record Begins (text : List ℕ) (later : List (List ℕ)) (r : Read) : Type 0 where
  pub before : List (List ℕ)
  pub lines_are : lines_of text ≡ before ++ later
  pub read : lines_after nothing_read before ≡ Some r
  pub sound : IsSound r.header.next r

-- what settles a verdict before the end of a text isn't found at it
abbrev pub IsAtEnd : Verdict → Type 0
IsAtEnd a_verdict.Empty = Unit {0}
IsAtEnd a_verdict.NoCalls = Unit {0}
IsAtEnd (a_verdict.Possible calls) = Unit {0}
IsAtEnd (a_verdict.NotPossible line) = ⊥
IsAtEnd (a_verdict.NoRecording line) = Unit {0}
IsAtEnd (a_verdict.NoSetting line error) = ⊥

-- the next line isn't of the form; or there is none, and the header isn't whole
abbrev pub IsStuck : Read → List (List ℕ) → Type 0
IsStuck r [] = r.header.next ≡ Calls → ⊥
IsStuck r (line ∷ later) = line_after r line ≡ None

-- A text is judged up to the first line at which it is no recording, or no setting, or isn't possible.
abbrev pub IsVerdict : List ℕ → Verdict → Type 0
IsVerdict text a_verdict.Empty = text ≡ []
IsVerdict text a_verdict.NoCalls = (r : Read) × Begins text [] r × (r.header.next ≡ Calls) × (r.calls ≡ [])
IsVerdict text (a_verdict.Possible calls) = (r : Read) × Begins text [] r × (r.header.next ≡ Calls) × (calls ≡ length r.calls) × (0 < calls)
IsVerdict text (a_verdict.NotPossible line) =
    (r : Read) × (last : List ℕ) × (later : List (List ℕ)) × (n : Read) × Begins text (last ∷ later) r
    × (line_after r last ≡ Some n) × (n.header.next ≡ Calls) × (Possible n.header.setting (calls_of n.calls) → ⊥) × (line ≡ n.lines)
IsVerdict text (a_verdict.NoSetting line error) =
    (r : Read) × (last : List ℕ) × (later : List (List ℕ)) × (n : Read) × Begins text (last ∷ later) r
    × (line_after r last ≡ Some n) × (n.header.next ≡ Mark) × IsNoSetting n.header.setting error × (line ≡ n.lines)
IsVerdict text (a_verdict.NoRecording line) =
    (r : Read) × (later : List (List ℕ)) × Begins text later r × IsStuck r later × (text ≢ []) × (line ≡ r.lines + 1)
