-- The workers of a setting, by their numbers among the callers: a driver for each pair, over the pair's packets, and then the
-- applications. The verdicts of a driver's packets belong to its setting, and so does what the wire does. What is said of their
-- runs holds whatever engine they run on.
use Rattle.std.specs.Prelude.{◌≡◌, ℕ, ◌<◌, true, List, [], length, map}
use Rattle.std.specs.List.{slice_index_or}
use Rattle.xsk_umem.specs.PacketList.{PacketList}
use Rattle.xsk_model.specs.Config.{Config, pair_at}
use Rattle.xsk_model.specs.declared.config.PairInfo.{PairInfo}
use Rattle.xsk_model.specs.Rings.{caller_of}
use Rattle.xsk_model.specs.Entry.{Told}
use Rattle.xsk_turns.specs.Inputs.{packets_of_queue, packets_of_port}
use Rattle.xsk_turns.specs.Turns.{Judged, IsDriverRun, IsWholeDriverRun}
use Rattle.xsk_turns.specs.Verdicts.{judged, EachHas, IsGiven, own_verdicts}
use Rattle.xsk_prog.specs.Rules.{MeetsChain, are_exact}
use Rattle.xsk_prog.specs.declared.rule.Rule.{Rule}
use Rattle.xsk_prog.specs.declared.rule.Verdict.{Verdict}
use Rattle.xsk_turns.specs.AppTurns.{IsAppRunBy, IsWholeAppRunBy}
use Rattle.xsk_turns.specs.Mangling.{plain}
use Rattle.xsk_turns.specs.declared.manner.Manner.{Manner}
use Rattle.xsk_turns.specs.declared.wire.Wire.{Wire}

-- what is run: a configuration, a wire and the manner of all applications over the packets of each port, and the verdicts of each
-- pair's packets
pub record Setting : Type 0 where
  pub config : Config
  pub wire : Wire
  pub manner : Manner
  pub packets : List PacketList
  pub verdicts : List (List Verdict)

-- the packets of a pair: those of its port that go to its queue
abbrev pub packets_to : Config → List PacketList → PairInfo → List (List ℕ)
packets_to c lists pair = packets_of_queue c.queues pair.queue (packets_of_port lists pair.port)

-- they come to its driver with their verdicts
abbrev pub input_of : Setting → ℕ → List Judged
input_of s pair = judged (packets_to s.config s.packets (pair_at s.config.pairs pair)) (slice_index_or s.verdicts pair [])

-- each pair has its verdicts, one for each of its packets, given so by queue and packet
pub record AreGiven (By : ℕ → List ℕ → Verdict → Type 0) (s : Setting) : Type 0 where
  pub count : length s.verdicts ≡ length s.config.pairs
  pub each : (pair : ℕ) → pair < length s.config.pairs
      → EachHas (IsGiven (By (pair_at s.config.pairs pair).queue)) (packets_to s.config s.packets (pair_at s.config.pairs pair)) (slice_index_or s.verdicts pair [])

-- they meet the rules of a chain
abbrev pub IsRuled : List Rule → Setting → Type 0
IsRuled rules s = AreGiven (λ queue packet verdict. MeetsChain rules packet queue verdict) s

-- the setting whose verdicts are those that rules give themselves: they meet them, and there is no other setting whose verdicts
-- do where the rules leave one verdict
abbrev pub verdicts_to : List Rule → Config → List PacketList → PairInfo → List Verdict
verdicts_to rules c lists pair = own_verdicts rules pair.queue (packets_to c lists pair)

abbrev pub ruled_by : List Rule → Wire → Manner → Config → List PacketList → Setting
ruled_by rules wire manner c lists = record { config = c; wire = wire; manner = manner; packets = lists; verdicts = map (verdicts_to rules c lists) c.pairs }

-- and the one whose applications change nothing
abbrev pub ruled : List Rule → Wire → Config → List PacketList → Setting
ruled rules wire c lists = ruled_by rules wire plain c lists

abbrev pub OwnSetting : Type 0
OwnSetting = (rules : List Rule) (wire : Wire) (manner : Manner) (c : Config) (lists : List PacketList) → IsRuled rules (ruled_by rules wire manner c lists)

abbrev pub OneSetting : Type 0
OneSetting = (rules : List Rule) (s : Setting) → are_exact rules ≡ true → IsRuled rules s → s ≡ ruled_by rules s.wire s.manner s.config s.packets

-- a caller's own calls and replies are a run: of the driver of its pair over the pair's packets, or of its application
pub record IsWorkerRun (s : Setting) (who : ℕ) (l : List Told) : Type 0 where
  pub driver : who < length s.config.pairs → IsDriverRun s.wire s.config who (input_of s who) l
  pub app : (a : ℕ) → who ≡ caller_of s.config a → IsAppRunBy s.manner s.config a l

-- they are a whole run
pub record IsWholeRun (s : Setting) (who : ℕ) (l : List Told) : Type 0 where
  pub driver : who < length s.config.pairs → IsWholeDriverRun s.wire s.config who (input_of s who) l
  pub app : (a : ℕ) → who ≡ caller_of s.config a → IsWholeAppRunBy s.manner s.config a l
