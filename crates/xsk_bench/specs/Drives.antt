-- Drivers as callers of a setting.
use Rattle.std.specs.Prelude.{ℕ, List}
use Rattle.xsk_model.specs.Entry.{Told}
use Rattle.xsk_model.specs.declared.call.Act.{Act}
use Rattle.xsk_turns.specs.Workers.{Setting, input_of}
use Rattle.xsk_driver.specs.Runs.{StandsWith}
use Rattle.xsk_driver.specs.Shown.{Shown}

-- the driver of a pair stands for a list of its calls and replies, and gave this act after it
abbrev pub Drives : Setting → ℕ → Shown → Act → List Told → Type 0
Drives s who d act l = StandsWith s.wire s.config who (input_of s who) d act l
