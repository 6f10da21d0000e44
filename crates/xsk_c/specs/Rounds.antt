-- Rounds of the drivers, and what is told of them.
use Rattle.std.specs.Prelude.{◌≡◌, ℕ, Bool, Result, Ok, Err, List}
use Rattle.xsk_umem.specs.Frame.{Frame}
use Rattle.xsk_umem.specs.declared.memory.OutOfMemory.{OutOfMemory}
use Rattle.xsk_model.specs.Entry.{Entry}
use Rattle.xsk_turns.specs.Workers.{Setting}
use Rattle.xsk_bench.specs.Played.{HasPlayed}
use Rattle.xsk_bench.specs.DriverRounds.{HadRound, HadRounds}
use Rattle.xsk_bench.specs.declared.play.Play.{Play}
use Rattle.xsk_c.specs.declared.answers.TheConstants.{DONE, NO_MEMORY}

-- what a round tells, or that memory couldn't be had
abbrev pub TellsRound : Result Bool OutOfMemory → (before after : Bool) → ℕ → Type 0
TellsRound (Ok told) before after answer = (answer ≡ DONE) × (after ≡ told)
TellsRound (Err e) before after answer = (answer ≡ NO_MEMORY) × (after ≡ before)

abbrev pub HasRound : Play → Play → (before after : Bool) → ℕ → Type 0
HasRound old new before after answer =
    (result : Result Bool OutOfMemory) × TellsRound result before after answer
    × ((s : Setting) (frames : List Frame) (h : List Entry) → HasPlayed s frames h old → HadRound s frames h new result)

abbrev pub HasRounds : Play → ℕ → Play → (before after : Bool) → ℕ → Type 0
HasRounds old most new before after answer =
    (result : Result Bool OutOfMemory) × TellsRound result before after answer
    × ((s : Setting) (frames : List Frame) (h : List Entry) → HasPlayed s frames h old → HadRounds s frames h most new result)
