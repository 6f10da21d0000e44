-- The frames that callers have, as text. The form of the lines is this project's own.
use Rattle.std.specs.Prelude.{ℕ, List, ◌++◌, length, flat_map, codes}
use Rattle.std.specs.List.{range_with_len}
use Rattle.xsk_model.specs.Config.{Config, callers_of}
use Rattle.xsk_model.specs.Entry.{Entry, own}
use Rattle.xsk_model.specs.Own.{had_of}
use Rattle.xsk_log.specs.Line.{who_text}
use Rattle.xsk_why.specs.Frames.{ranges}

-- the line of a caller with these frames, where there are so many pairs
abbrev pub line_by : ℕ → ℕ → List ℕ → List ℕ
line_by pairs who frames = codes "caller " ++ who_text pairs who ++ codes " frames" ++ ranges frames ++ codes "\n"

-- the frames are those that the caller has by its own calls and replies, in the order in which it got them
abbrev pub caller_line : ℕ → List Entry → ℕ → List ℕ
caller_line pairs h who = line_by pairs who (had_of (own who h))

-- the lines of so many callers, and of all
abbrev pub lines_to : ℕ → List Entry → ℕ → List ℕ
lines_to pairs h callers = flat_map (caller_line pairs h) (range_with_len 0 callers)

abbrev pub callers_text : Config → List Entry → List ℕ
callers_text c h = lines_to (length c.pairs) h (callers_of c)
