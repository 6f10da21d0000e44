-- What rounds of the drivers add to a history.
use Rattle.std.specs.Prelude.{◌≡◌, ◌↔◌, ℕ, ◌<◌, ◌≤◌, Bool, true, false, IsTrue, Result, Ok, Err, List, ◌++◌}
use Rattle.xsk_umem.specs.Frame.{Frame}
use Rattle.xsk_umem.specs.declared.memory.OutOfMemory.{OutOfMemory}
use Rattle.xsk_model.specs.Entry.{Entry}
use Rattle.xsk_turns.specs.Workers.{Setting, IsWholeRun}
use Rattle.xsk_sim.specs.Rounds.{AreTurns}
use Rattle.xsk_sim.specs.Stalls.{AreQuiet}
use Rattle.xsk_bench.specs.Played.{HasPlayed, AreDriversRounds, drivers_of}
use Rattle.xsk_bench.specs.declared.play.Play.{Play}

-- after a history these callers had their turns, and it is told whether they changed nothing
pub record HadTurns (s : Setting) (frames : List Frame) (h : List Entry) (callers : List ℕ) (p : Play) (still : Bool) : Type 0 where
  pub entries : List Entry
  pub turns : AreTurns (IsWholeRun s) h callers entries
  pub played : HasPlayed s frames (h ++ entries) p
  pub quiet : IsTrue still ↔ AreQuiet s frames h entries

-- all drivers had a round; or, for want of memory, none had its turn
abbrev pub HadRound : Setting → List Frame → List Entry → Play → Result Bool OutOfMemory → Type 0
HadRound s frames h p (Ok still) = HadTurns s frames h (drivers_of s.config) p still
HadRound s frames h p (Err e) = HasPlayed s frames h p

-- how rounds end, so many at most: where nothing has changed for 64 of them the drivers wait; else all were made, or memory
-- couldn't be had before
abbrev pub EndsAt : (most count still : ℕ) → Result Bool OutOfMemory → Type 0
EndsAt most count still (Ok true) = still ≡ 64
EndsAt most count still (Ok false) = (still < 64) × (count ≡ most)
EndsAt most count still (Err e) = (still < 64) × (count < most)

-- they had rounds after a history, so many at most
pub record HadRounds (s : Setting) (frames : List Frame) (h : List Entry) (most : ℕ) (p : Play) (result : Result Bool OutOfMemory) : Type 0 where
  pub count : ℕ
  pub still : ℕ
  pub few : count ≤ most
  pub entries : List Entry
  pub rounds : AreDriversRounds s frames h count still entries
  pub played : HasPlayed s frames (h ++ entries) p
  pub ends : EndsAt most count still result
