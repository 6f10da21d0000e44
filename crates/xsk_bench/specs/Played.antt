-- Histories in which drivers make their calls in rounds, and an application makes calls of its own between them: each driver's
-- own calls and replies are a run of its turns, and the application's are whatever legal calls it made. All of this is this
-- project's own.
use Rattle.std.specs.Prelude.{◌≡◌, ◌⊎◌, ℕ, zero, suc, ◌+◌, ◌<◌, List, [], ◌++◌, flat_map, length, vec_len}
use Rattle.std.specs.List.{range_with_len}
use Rattle.xsk_umem.specs.Frame.{Frame}
use Rattle.xsk_model.specs.Config.{Config}
use Rattle.xsk_model.specs.Entry.{Entry, own}
use Rattle.xsk_model.specs.declared.call.Act.{Act}
use Rattle.xsk_turns.specs.Stepping.{joined_ask, IsGivenBack}
use Rattle.xsk_turns.specs.Workers.{Setting, IsWholeRun}
use Rattle.xsk_driver.specs.Frames.{frames_kept}
use Rattle.xsk_machine.specs.declared.inputs.Amount.{Amount}
use Rattle.xsk_sim.specs.Rounds.{AreTurns}
use Rattle.xsk_sim.specs.Seats.{EachFrom}
use Rattle.xsk_sim.specs.Server.{logged_seen}
use Rattle.xsk_sim.specs.Stalls.{settled_by, AreQuiet}
use Rattle.xsk_sim.specs.Turning.{HasRun}
use Rattle.xsk_bench.specs.Drives.{Drives}
use Rattle.xsk_bench.specs.declared.play.Play.{Play}
use Rattle.xsk_bench.specs.declared.seat.Seat.{Seat}

-- a driver's next call, or its end
abbrev pub act_of : Seat → Act
act_of seat = joined_ask seat.ask seat.items

-- the frames that the drivers have, by their pairs
abbrev pub frames_with : List Seat → List Frame
frames_with seats = flat_map (λ (seat : Seat). frames_kept seat.driver.kept) seats

-- The driver of a pair stands at its seat for its own entries of a history. It is noted how many of its packets had their disposals
-- at its last call, the batch is as it was given back, and there is room for so many sent packets and bytes.
pub record IsSeated (s : Setting) (room : Amount) (h : List Entry) (who : ℕ) (seat : Seat) : Type 0 where
  pub drives : Drives s who seat.driver (act_of seat) (own who h)
  pub noted : seat.settled ≡ settled_by s h who
  pub given : IsGivenBack seat.ask seat.items
  pub packets : seat.driver.sent.most_packets ≡ room.packets
  pub bytes : seat.driver.sent.most_bytes ≡ room.bytes

-- The engine's log is this legal history from the opening, as it is stored, and it shows the state that the history leaves; and
-- the drivers of all pairs stand for their own entries of it.
pub record HasPlayed (s : Setting) (frames : List Frame) (h : List Entry) (p : Play) : Type 0 where
  pub run : HasRun s frames h (logged_seen p.checked)
  pub count : vec_len p.seats ≡ length s.config.pairs
  pub seats : EachFrom p.seats.items 0 (IsSeated s p.room h)

-- it does so for some history
pub record IsGoing (p : Play) : Type 0 where
  pub setting : Setting
  pub frames : List Frame
  pub history : List Entry
  pub played : HasPlayed setting frames history p

-- ---- rounds of the drivers

-- all drivers in order
abbrev pub drivers_of : Config → List ℕ
drivers_of c = range_with_len 0 (length c.pairs)

-- the entries of one round: each driver whose own entries so far aren't a whole run makes one call
abbrev pub IsDriversRound : Setting → List Entry → List Entry → Type 0
IsDriversRound s past es = AreTurns (IsWholeRun s) past (drivers_of s.config) es

-- for how many rounds nothing has changed, by whether anything changed in the last one
abbrev pub IsStillFor : Type 0 → ℕ → ℕ → Type 0
IsStillFor Quiet before still = (Quiet × (still ≡ before + 1)) ⊎ ((Quiet → ⊥) × (still ≡ 0))

-- the entries of so many rounds after past ones: in the last of them, so many, nothing changed, neither the object nor the
-- number of a driver's packets that have their disposals, and in none before these were there 64 in a row
abbrev pub AreDriversRounds : Setting → List Frame → List Entry → (count still : ℕ) → List Entry → Type 0
AreDriversRounds s frames past zero still es = (es ≡ []) × (still ≡ 0)
AreDriversRounds s frames past (suc count) still es =
    (first last : List Entry) × (before : ℕ) × (es ≡ first ++ last) × AreDriversRounds s frames past count before first × (before < 64)
    × IsDriversRound s (past ++ first) last × IsStillFor (AreQuiet s frames (past ++ first) last) before still
