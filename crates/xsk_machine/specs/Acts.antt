-- Where the workers of a setting stand, each for its own calls and replies, and what each gave after them.
use Rattle.std.specs.Prelude.{◌≡◌, ℕ, ◌<◌, All, List, [], ◌++◌, Some, length}
use Rattle.std.specs.List.{concat}
use Rattle.xsk_model.specs.Config.{Config, pair_at}
use Rattle.xsk_model.specs.Rings.{caller_of}
use Rattle.xsk_model.specs.Entry.{Told, Entry}
use Rattle.xsk_model.specs.Legal.{IsLegal}
use Rattle.xsk_model.specs.Sent.{sockets_of, all_sent_from, all_sent}
use Rattle.xsk_model.specs.Steering.{paired_port}
use Rattle.xsk_model.specs.declared.call.Act.{Act}
use Rattle.xsk_model.specs.declared.call.Act.TheVariants.{Call as Calls, Ended as IsEnd}
use Rattle.xsk_turns.specs.SentWith.{bouncing}
use Rattle.xsk_turns.specs.Workers.{Setting, input_of, IsWorkerRun, IsWholeRun}
use Rattle.xsk_laws.specs.Expected.{received}
use Rattle.xsk_umem.specs.PacketList.{PacketList}
use Rattle.xsk_driver.specs.SentRoom.{IsShort, sent_gaps}
use Rattle.xsk_driver.specs.Shown.{Shown as DriverShown}
use Rattle.xsk_driver.specs.Runs.{IsNew as IsNewDriver, StandsWith}
use Rattle.xsk_app.specs.Shown.{Shown as AppShown}
use Rattle.xsk_app.specs.Runs.{IsNew as IsNewApp, StandsWith as AppStandsWith}

-- no packet of a list is longer than a record of a capture
abbrev pub HasShortPackets : PacketList → Type 0
HasShortPackets list = All IsShort list.packets

-- a list has the gaps of what a driver sent
abbrev pub HasSentGaps : PacketList → Type 0
HasSentGaps list = list.gaps ≡ Some sent_gaps

-- its packets
abbrev pub packets_in : PacketList → List (List ℕ)
packets_in list = list.packets

-- what came to the port that is paired with a pair's, on the pair's queue
abbrev pub received_there : Config → List PacketList → ℕ → List (List ℕ)
received_there c lists who = received c lists (paired_port (pair_at c.pairs who).port) (pair_at c.pairs who).queue

-- and with what came there to the port itself
abbrev pub received_by_both : Config → List PacketList → ℕ → List (List ℕ)
received_by_both c lists who = received c lists (pair_at c.pairs who).port (pair_at c.pairs who).queue ++ received_there c lists who

-- what can leave by a pair's port on the pair's queue: what is to bounce of what came there to the port itself (XDP_TX), and what came
-- to the paired port
abbrev pub leaving : Setting → ℕ → List (List ℕ)
leaving s who = bouncing (input_of s who) ++ received_there s.config s.packets who

-- all that the driver of a pair sent by its own calls and replies, and in a history: what it completed, and what it bounced of its
-- packets
abbrev pub sent_along : Setting → ℕ → List Told → List (List ℕ)
sent_along s who l = all_sent_from s.config (sockets_of s.config who) (bouncing (input_of s who)) [] l

abbrev pub sent_of : Setting → List Entry → ℕ → List (List ℕ)
sent_of s h who = all_sent s.config (bouncing (input_of s who)) h who

-- a driver has room to send all that can leave
pub record HasRoomToSend (s : Setting) (who : ℕ) (d : DriverShown) : Type 0 where
  pub packets : d.sent.most_packets ≡ length (leaving s who)
  pub bytes : d.sent.most_bytes ≡ length (concat (leaving s who))

-- the new driver of a pair
pub record IsDriver (s : Setting) (who : ℕ) (d : DriverShown) : Type 0 where
  pub known : who < length s.config.pairs
  pub room : HasRoomToSend s who d
  pub is : IsNewDriver s.wire s.config who (input_of s who) d

-- the driver of a pair stands for a list, and gave this act after it
pub record DriverStands (s : Setting) (who : ℕ) (d : DriverShown) (act : Act) (l : List Told) : Type 0 where
  pub known : who < length s.config.pairs
  pub room : HasRoomToSend s who d
  pub stands : StandsWith s.wire s.config who (input_of s who) d act l

-- a new application
pub record IsApp (s : Setting) (who : ℕ) (a : AppShown) : Type 0 where
  pub config : a.config ≡ s.config
  pub caller : who ≡ caller_of s.config a.app
  pub is : IsNewApp s.manner s.config a.app a

-- an application stands for a list, and gave this act after it
pub record AppStands (s : Setting) (who : ℕ) (a : AppShown) (act : Act) (l : List Told) : Type 0 where
  pub config : a.config ≡ s.config
  pub caller : who ≡ caller_of s.config a.app
  pub stands : AppStandsWith s.manner s.config a.app a act l

-- what a worker gave after a list: a legal call, where the list is a run and no whole one, or its end, where it is a whole one
abbrev pub IsActAfter : Setting → ℕ → Act → List Told → Type 0
IsActAfter s who (Calls call) l = IsLegal s.config l who call × (IsWholeRun s who l → ⊥) × IsWorkerRun s who l
IsActAfter s who IsEnd l = IsWholeRun s who l
