-- What a run on threads shows. All workers' calls stand in one legal history, whatever threads did when.
use Rattle.std.specs.Prelude.{◌≡◌, ℕ, ◌<◌, None, List, [], ◌++◌, length}
use Rattle.std.specs.List.{slice_index_or}
use Rattle.std.specs.Fn.{Shared}
use denote.Ref.{Bor}
use Rattle.xsk_umem.specs.Frame.{Frame}
use Rattle.xsk_umem.specs.PacketList.{PacketList}
use Rattle.xsk_model.specs.Config.{Config, IsRegular, callers_of}
use Rattle.xsk_model.specs.Steering.{driver_on}
use Rattle.xsk_model.specs.Entry.{Entry, own}
use Rattle.xsk_model.specs.History.{IsHistory, state_after}
use Rattle.xsk_model.specs.Holders.{HasOneHolder}
use Rattle.xsk_prog.specs.Program.{XdpProgram}
use Rattle.xsk_prog.specs.declared.rule.Verdict.{Verdict}
use Rattle.xsk_turns.specs.Owned.{IsSteady}
use Rattle.xsk_turns.specs.Wakes.{NoWakeIsLost}
use Rattle.xsk_turns.specs.Hands.{IsWholeRunOf}
use Rattle.xsk_turns.specs.Workers.{Setting, AreGiven}
use Rattle.xsk_turns.specs.declared.manner.Manner.{Manner}
use Rattle.xsk_turns.specs.declared.wire.Wire.{Wire}
use Rattle.xsk_turns.specs.declared.wire.Wire.TheVariants.{Wait}
use Rattle.xsk_driver.specs.Asking.{IsAnswer}
use Rattle.xsk_machine.specs.Acts.{sent_of}
use Rattle.xsk_machine.specs.HistoryFigures.{figures_of}
use Rattle.xsk_machine.specs.declared.figures.Figures.{Figures}
pub use Rattle.xsk_machine.specs.Acts.{packets_in}
use Rattle.xsk_machine.specs.Workers.{HasGiven}
pub use Rattle.xsk_machine.specs.Workers.{setting_by}
use Rattle.xsk_laws.specs.Laws.{AreForwarded, AreExpected}
use Rattle.xsk_ended.specs.Until.{AreForwardedUntil, AreExpectedUntil}

-- the history that the table's note shows, for each pair the packets that its driver kept as sent, and the figures
pub record OutcomeShown : Type 0 where
  pub history : List Entry
  pub sent : List (List (List ℕ))
  pub figures : Figures

-- The history is legal from the opening with these frames. Of each driver, and of each application by so many hands, it has a
-- whole run over the packets that came, and of no one else anything. After each of its prefixes each frame has one holder and no
-- wake is lost, and what each driver sent are the packets that its calls on COMPLETION completed there and those of its own that it
-- bounced, in the history's order. The figures are counts over the history.
pub record HasForwarded (hands : ℕ) (s : Setting) (frames : List Frame) (o : OutcomeShown) : Type 0 where
  pub legal : IsHistory s.config frames o.history
  pub whole : (who : ℕ) → who < callers_of s.config → IsWholeRunOf hands s who (own who o.history)
  pub holders : (past later : List Entry) → o.history ≡ past ++ later → HasOneHolder s.config.geometry.frames (state_after s.config frames past)
  pub sent : (pair : ℕ) → pair < length s.config.pairs → slice_index_or o.sent pair [] ≡ sent_of s o.history pair
  pub figures : o.figures ≡ figures_of s o.history
  pub woken : (past later : List Entry) (pair : ℕ) → o.history ≡ past ++ later → pair < length s.config.pairs → NoWakeIsLost s.config frames past pair

-- The same under a chain, before and after: it was asked once of each packet that has an Ethernet header, and with the verdicts that
-- it gave of each driver's packets, each of which meets its programs' rules, it has forwarded.
pub record HasForwardedUnder {F : Type 0} (hands : ℕ) (g : Shared F (Bor (List ℕ) × (ℕ × Unit {0})) Verdict) (programs after : List (XdpProgram F)) (wire : Wire) (manner : Manner) (c : Config) (packets : List PacketList) (frames : List Frame) (o : OutcomeShown) : Type 0 where
  pub verdicts : List (List Verdict)
  pub once : HasGiven g c packets verdicts programs after
  pub asked : AreGiven (IsAnswer g programs) (setting_by c wire manner packets verdicts)
  pub forwarded : HasForwarded hands (setting_by c wire manner packets verdicts) frames o

-- Where no item is changed, as in each run that `forward` makes, what the driver of a port and queue sent is what was forwarded by
-- all classes, on each lane until it was cut, whatever the wire does, beside what bounced of its own packets, and nothing else.
-- Where the wire waits it is what is expected by them, beside what bounces.
abbrev pub AllAreForwardedUntil : Type 0
AllAreForwardedUntil = (hands : ℕ) (s : Setting) (frames : List Frame) (o : OutcomeShown) (port queue : ℕ) → s.manner.mangle ≡ None → IsRegular s.config → HasForwarded hands s frames o → port < s.config.ports → queue < s.config.queues
    → AreForwardedUntil s.wire s.config o.history s.packets s.verdicts port queue (slice_index_or o.sent (driver_on s.config port queue) [])

abbrev pub AllAreExpectedUntil : Type 0
AllAreExpectedUntil = (hands : ℕ) (s : Setting) (frames : List Frame) (o : OutcomeShown) (port queue : ℕ) → s.manner.mangle ≡ None → s.wire ≡ Wait → IsRegular s.config → HasForwarded hands s frames o → port < s.config.ports → queue < s.config.queues
    → AreExpectedUntil s.config o.history s.packets s.verdicts port queue (slice_index_or o.sent (driver_on s.config port queue) [])

-- where no socket is closed no lane is cut
abbrev pub AllAreForwarded : Type 0
AllAreForwarded = (hands : ℕ) (s : Setting) (frames : List Frame) (o : OutcomeShown) (port queue : ℕ) → s.manner.mangle ≡ None → IsSteady s.config → HasForwarded hands s frames o → port < s.config.ports → queue < s.config.queues
    → AreForwarded s.wire s.config o.history s.packets s.verdicts port queue (slice_index_or o.sent (driver_on s.config port queue) [])

abbrev pub AllAreExpected : Type 0
AllAreExpected = (hands : ℕ) (s : Setting) (frames : List Frame) (o : OutcomeShown) (port queue : ℕ) → s.manner.mangle ≡ None → s.wire ≡ Wait → IsSteady s.config → HasForwarded hands s frames o → port < s.config.ports → queue < s.config.queues
    → AreExpected s.config s.packets s.verdicts port queue (slice_index_or o.sent (driver_on s.config port queue) [])
