-- The journal's lines, from a call on.
use Rattle.std.specs.Prelude.{◌≡◌, ℕ, ◌+◌, ◌<◌, List, [], ◌∷◌, ◌++◌, length, drop, min}
use Rattle.std.specs.List.{flat_map}
use Rattle.xsk_model.specs.Entry.{Entry}
use Rattle.xsk_log.specs.Line.{line_of}
use Rattle.xsk_bench.specs.declared.play.Play.{Play}
use Rattle.xsk_c.specs.declared.answers.TheConstants.{DONE, SHORT}

-- one behind the other, where the configuration has so many pairs
abbrev pub lines_of : ℕ → List Entry → List ℕ
lines_of pairs calls = flat_map (line_of pairs) calls

-- the lines of all calls are told, or there is no room for the next
abbrev pub IsEnd : (pairs room end : ℕ) → List Entry → (answer : ℕ) → Type 0
IsEnd pairs room end [] answer = answer ≡ DONE
IsEnd pairs room end (next ∷ later) answer = (answer ≡ SHORT) × (room < end + length (line_of pairs next))

-- The lines of the first of these calls stand at the front of a room, as many as fit. It is told how many they are, and where the lines
-- end.
pub record TellsNext (pairs : ℕ) (calls : List Entry) (before after : List ℕ) (count end answer : ℕ) : Type 0 where
  pub told : List Entry
  pub left : List Entry
  pub calls_are : calls ≡ told ++ left
  pub count_is : count ≡ length told
  pub end_is : end ≡ length (lines_of pairs told)
  pub text_is : after ≡ lines_of pairs told ++ drop end before
  pub answer_is : IsEnd pairs (length before) end left answer

-- The same from a call on. It is told with which to go on.
pub record TellsLog (p : Play) (from : ℕ) (before after : List ℕ) (next end answer : ℕ) : Type 0 where
  pub past : List Entry
  pub later : List Entry
  pub count : ℕ
  pub log_is : p.checked.log ≡ past ++ later
  pub past_is : length past ≡ min from (length p.checked.log)
  pub next_is : next ≡ length past + count
  pub lines : TellsNext (length p.checked.config.pairs) later before after count end answer
