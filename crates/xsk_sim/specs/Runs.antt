-- Runs of a configuration over lists of packets, one for each port: histories in rounds, in which each worker's own calls
-- and replies are a run of its turns. A run has ended where all of these are whole, and it has stalled where one isn't and
-- nothing has changed for 64 rounds.
use Rattle.std.specs.Prelude.{◌≡◌, true, None, ℕ, ◌+◌, ◌<◌, ◌≤◌, List, [], ◌++◌, length}
use Rattle.std.specs.List.{slice_index_or}
use Rattle.std.specs.Fn.{Shared}
use denote.Ref.{Bor}
use Rattle.xsk_umem.specs.Frame.{Frame}
use Rattle.xsk_umem.specs.PacketList.{PacketList}
use Rattle.xsk_model.specs.Config.{Config, IsRegular, callers_of}
use Rattle.xsk_model.specs.Steering.{driver_on}
use Rattle.xsk_model.specs.Entry.{Entry, own}
use Rattle.xsk_model.specs.History.{IsHistory, state_after}
use Rattle.xsk_model.specs.Holders.{HasOneHolder}
use Rattle.xsk_model.specs.Stored.{stored}
use Rattle.xsk_prog.specs.Rules.{are_exact}
use Rattle.xsk_prog.specs.Program.{XdpProgram}
use Rattle.xsk_prog.specs.declared.rule.Rule.{Rule}
use Rattle.xsk_prog.specs.declared.rule.Verdict.{Verdict}
use Rattle.xsk_turns.specs.Owned.{IsSteady}
use Rattle.xsk_turns.specs.Workers.{Setting, IsWorkerRun, IsWholeRun, AreGiven, IsRuled, ruled_by}
use Rattle.xsk_turns.specs.Wakes.{NoWakeIsLost}
use Rattle.xsk_turns.specs.declared.manner.Manner.{Manner}
use Rattle.xsk_turns.specs.declared.wire.Wire.{Wire}
use Rattle.xsk_turns.specs.declared.wire.Wire.TheVariants.{Wait}
use Rattle.xsk_laws.specs.Laws.{AreForwarded, AreExpected}
use Rattle.xsk_ended.specs.Until.{AreForwardedUntil, AreExpectedUntil}
use Rattle.xsk_driver.specs.Asking.{IsAnswer}
use Rattle.xsk_machine.specs.Acts.{sent_of}
use Rattle.xsk_machine.specs.Workers.{HasGiven, setting_by}
use Rattle.xsk_machine.specs.HistoryFigures.{figures_of}
use Rattle.xsk_sim.specs.Journal.{rounds_of}
use Rattle.xsk_sim.specs.Rounds.{AreRounds, AreInRounds}
use Rattle.xsk_sim.specs.Shown.{Shown}
use Rattle.xsk_sim.specs.Stalls.{StandStill}

-- a legal history from the opening with these frames, of so many rounds, in which each worker's own calls and replies are
-- a run
pub record IsRoundHistory (s : Setting) (frames : List Frame) (order count : ℕ) (h : List Entry) : Type 0 where
  pub legal : IsHistory s.config frames h
  pub rounds : AreRounds (IsWholeRun s) (callers_of s.config) order count h
  pub runs : (who : ℕ) → who < callers_of s.config → IsWorkerRun s who (own who h)

-- a run that goes on after a round: of the history whose last round it is, some worker's own calls and replies aren't a whole
-- run
pub record GoesPast (s : Setting) (frames : List Frame) (order round : ℕ) : Type 0 where
  pub history : List Entry
  pub is : IsRoundHistory s frames order (round + 1) history
  pub who : ℕ
  pub known : who < callers_of s.config
  pub open_run : IsWholeRun s who (own who history) → ⊥

-- it stands still at this round, where nothing changed in it and in the 63 rounds before it
pub record StandsStill (s : Setting) (frames : List Frame) (order round : ℕ) : Type 0 where
  pub past : GoesPast s frames order round
  pub still : StandStill s frames order 64 (round + 1) past.history

-- it stands still at none of the first rounds, so many
abbrev pub NeverStill : Setting → List Frame → ℕ → ℕ → Type 0
NeverStill s frames order count = (round : ℕ) → round < count → StandsStill s frames order round → ⊥

-- A run that has ended, with no round before at which it stood still: each worker's own calls and replies are a whole run. The
-- log is the history as it is stored, after each of its prefixes each frame has one holder, and what is shown of each driver
-- are the packets that its calls on COMPLETION completed and those of its own that it bounced, in the history's order. The figures
-- are counts over the history. No wake is lost after any prefix.
pub record HasEnded (s : Setting) (frames : List Frame) (order : ℕ) (run : Shown) : Type 0 where
  pub history : List Entry
  pub count : ℕ
  pub few : count ≤ 18446744073709551616
  pub never_still : NeverStill s frames order count
  pub is : IsRoundHistory s frames order count history
  pub whole : (who : ℕ) → who < callers_of s.config → IsWholeRun s who (own who history)
  pub log : run.log ≡ stored s.config.geometry s.config.sg history
  pub holders : (past later : List Entry) → history ≡ past ++ later → HasOneHolder s.config.geometry.frames (state_after s.config frames past)
  pub sent : (pair : ℕ) → pair < length s.config.pairs → slice_index_or run.sent pair [] ≡ sent_of s history pair
  pub figures : run.figures ≡ figures_of s history
  pub woken : (past later : List Entry) (pair : ℕ) → history ≡ past ++ later → pair < length s.config.pairs → NoWakeIsLost s.config frames past pair

-- A run that has stalled at a round: it stands still there, and at no round before.
pub record HasStalled (s : Setting) (frames : List Frame) (order round : ℕ) : Type 0 where
  pub few : round ≤ 18446744073709551615
  pub past : GoesPast s frames order round
  pub still : StandStill s frames order 64 (round + 1) past.history
  pub first : NeverStill s frames order round

-- The same under a chain, before and after: it was asked once of each packet that has an Ethernet header, and with the verdicts that
-- it gave of each driver's packets, each of which meets its programs' rules, the run has ended, or stalled.
pub record HasEndedUnder {F : Type 0} (g : Shared F (Bor (List ℕ) × (ℕ × Unit {0})) Verdict) (programs after : List (XdpProgram F)) (wire : Wire) (manner : Manner) (c : Config) (packets : List PacketList) (frames : List Frame) (order : ℕ) (run : Shown) : Type 0 where
  pub verdicts : List (List Verdict)
  pub once : HasGiven g c packets verdicts programs after
  pub asked : AreGiven (IsAnswer g programs) (setting_by c wire manner packets verdicts)
  pub ended : HasEnded (setting_by c wire manner packets verdicts) frames order run

pub record HasStalledUnder {F : Type 0} (g : Shared F (Bor (List ℕ) × (ℕ × Unit {0})) Verdict) (programs after : List (XdpProgram F)) (wire : Wire) (manner : Manner) (c : Config) (packets : List PacketList) (frames : List Frame) (order round : ℕ) : Type 0 where
  pub verdicts : List (List Verdict)
  pub once : HasGiven g c packets verdicts programs after
  pub asked : AreGiven (IsAnswer g programs) (setting_by c wire manner packets verdicts)
  pub stalled : HasStalled (setting_by c wire manner packets verdicts) frames order round

-- where the rules leave one verdict for each packet, they are those that the rules give themselves
abbrev pub EndsAsRuled : Type 0
EndsAsRuled = (rules : List Rule) (s : Setting) (frames : List Frame) (order : ℕ) (run : Shown) → are_exact rules ≡ true → IsRuled rules s
    → HasEnded s frames order run → HasEnded (ruled_by rules s.wire s.manner s.config s.packets) frames order run

abbrev pub StallsAsRuled : Type 0
StallsAsRuled = (rules : List Rule) (s : Setting) (frames : List Frame) (order round : ℕ) → are_exact rules ≡ true → IsRuled rules s
    → HasStalled s frames order round → HasStalled (ruled_by rules s.wire s.manner s.config s.packets) frames order round

-- Where no item is changed, what the driver of a port and queue sent in a run that has ended is what was forwarded by all classes, on
-- each lane until it was cut, whatever the wire does, beside what bounced of its own packets, and nothing else. Where the wire waits it is
-- what is expected by them, beside what bounces.
abbrev pub EndedIsForwardedUntil : Type 0
EndedIsForwardedUntil = (s : Setting) (frames : List Frame) (order : ℕ) (run : Shown) (port queue : ℕ) → s.manner.mangle ≡ None → IsRegular s.config → (ended : HasEnded s frames order run)
    → port < s.config.ports → queue < s.config.queues
    → AreForwardedUntil s.wire s.config ended.history s.packets s.verdicts port queue (slice_index_or run.sent (driver_on s.config port queue) [])

abbrev pub EndedIsExpectedUntil : Type 0
EndedIsExpectedUntil = (s : Setting) (frames : List Frame) (order : ℕ) (run : Shown) (port queue : ℕ) → s.manner.mangle ≡ None → s.wire ≡ Wait → IsRegular s.config → (ended : HasEnded s frames order run)
    → port < s.config.ports → queue < s.config.queues
    → AreExpectedUntil s.config ended.history s.packets s.verdicts port queue (slice_index_or run.sent (driver_on s.config port queue) [])

-- where no socket is closed no lane is cut
abbrev pub EndedIsForwarded : Type 0
EndedIsForwarded = (s : Setting) (frames : List Frame) (order : ℕ) (run : Shown) (port queue : ℕ) → s.manner.mangle ≡ None → IsSteady s.config → (ended : HasEnded s frames order run)
    → port < s.config.ports → queue < s.config.queues
    → AreForwarded s.wire s.config ended.history s.packets s.verdicts port queue (slice_index_or run.sent (driver_on s.config port queue) [])

abbrev pub EndedIsExpected : Type 0
EndedIsExpected = (s : Setting) (frames : List Frame) (order : ℕ) (run : Shown) (port queue : ℕ) → s.manner.mangle ≡ None → s.wire ≡ Wait → IsSteady s.config → HasEnded s frames order run
    → port < s.config.ports → queue < s.config.queues
    → AreExpected s.config s.packets s.verdicts port queue (slice_index_or run.sent (driver_on s.config port queue) [])

-- there is one such history for each number of rounds
abbrev pub OneHistory : Type 0
OneHistory = (s : Setting) (frames : List Frame) (order count : ℕ) (h k : List Entry) → IsRoundHistory s frames order count h
    → IsRoundHistory s frames order count k → h ≡ k

-- so there is one log of a run that has ended
abbrev pub OneLog : Type 0
OneLog = (s : Setting) (frames : List Frame) (order : ℕ) (run other : Shown) → HasEnded s frames order run → HasEnded s frames order other
    → run.log ≡ other.log

-- and one list of figures
abbrev pub OneFigures : Type 0
OneFigures = (s : Setting) (frames : List Frame) (order : ℕ) (run other : Shown) → HasEnded s frames order run → HasEnded s frames order other
    → run.figures ≡ other.figures

-- and one list of packets that each driver sent
abbrev pub OneSent : Type 0
OneSent = (s : Setting) (frames : List Frame) (order : ℕ) (run other : Shown) (pair : ℕ) → HasEnded s frames order run → HasEnded s frames order other
    → pair < length s.config.pairs → slice_index_or run.sent pair [] ≡ slice_index_or other.sent pair []

-- and no run both ends and stalls
abbrev pub EndsOrStalls : Type 0
EndsOrStalls = (s : Setting) (frames : List Frame) (order round : ℕ) (run : Shown) → HasEnded s frames order run → HasStalled s frames order round → ⊥

-- there is one round at which it stalls
abbrev pub OneStall : Type 0
OneStall = (s : Setting) (frames : List Frame) (order round other : ℕ) → HasStalled s frames order round → HasStalled s frames order other → round ≡ other

-- the entries of a history in rounds stand in the rounds whose numbers are those of their callers' entries before them
abbrev pub EntriesStandInRounds : Type 0
EntriesStandInRounds = (s : Setting) (frames : List Frame) (order count : ℕ) (h : List Entry) → IsRoundHistory s frames order count h
    → AreInRounds (IsWholeRun s) (callers_of s.config) order count h (rounds_of h)
