-- What the callers of an object wait for, told by their calls. The form of the lines is this project's own.
use Rattle.std.specs.Prelude.{ℕ, Bool, true, false, ◌==◌, if◌then◌else◌, List, [], ◌∷◌, ◌++◌, flat_map, codes}
use Rattle.std.specs.List.{range_with_len}
use Rattle.xsk_model.specs.Entry.{Entry}
use Rattle.xsk_model.specs.OtherWords.{changes}
use Rattle.xsk_model.specs.Own.{is_same}
use Rattle.xsk_log.specs.Line.{line_of}

-- a call that changed nothing: its caller, and its line in a journal without the round
pub record Waiting : Type 0 where
  pub who : ℕ
  pub line : List ℕ

abbrev pub waiting_by : ℕ → Entry → Waiting
waiting_by pairs e = record { who = e.who; line = line_of pairs e }

abbrev pub is_told : List ℕ → List Waiting → Bool
is_told line [] = false
is_told line (w ∷ waits) = if is_same w.line line then true else is_told line waits

-- each line once
abbrev pub told_once : List Waiting → Waiting → List Waiting
told_once waits w = if is_told w.line waits then waits else waits ++ w ∷ []

-- a call that changes something ends all waiting: then each caller may find something new
abbrev pub waits_after : ℕ → List Waiting → Entry → List Waiting
waits_after pairs waits e = if changes e.call e.reply then [] else told_once waits (waiting_by pairs e)

abbrev pub waits_from : ℕ → List Waiting → List Entry → List Waiting
waits_from pairs waits [] = waits
waits_from pairs waits (e ∷ es) = waits_from pairs (waits_after pairs waits e) es

-- the calls since the last one that changed something, each once, where there are so many pairs
abbrev pub waits_of : ℕ → List Entry → List Waiting
waits_of pairs h = waits_from pairs [] h

abbrev pub waits_line : ℕ → Waiting → List ℕ
waits_line who w = if w.who == who then codes "waits " ++ w.line else []

-- the lines of one caller, and those of so many, one caller after the other
abbrev pub lines_by : List Waiting → ℕ → List ℕ
lines_by [] who = []
lines_by (w ∷ waits) who = waits_line who w ++ lines_by waits who

abbrev pub waits_text : ℕ → List Waiting → List ℕ
waits_text callers waits = flat_map (lines_by waits) (range_with_len 0 callers)
