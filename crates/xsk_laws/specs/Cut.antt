-- What is forwarded, and what is expected, where a socket is closed while traffic flows: on its two lanes the first packets, as many as
-- its application passed on before. How a socket is closed is this project's own.
use Rattle.std.specs.Prelude.{◌≡◌, ℕ, ◌==◌, ◌&&◌, ◌||◌, Bool, false, if◌then◌else◌, Option, Some, None, List, take}
use Rattle.xsk_umem.specs.Frame.{Frame}
use Rattle.xsk_umem.specs.PacketList.{PacketList}
use Rattle.xsk_model.specs.Config.{Config}
use Rattle.xsk_model.specs.Rings.{app_of}
use Rattle.xsk_model.specs.Entry.{Entry, own}
use Rattle.xsk_model.specs.Sent.{sent_by}
use Rattle.xsk_model.specs.Steering.{paired_port, driver_on, socket_on}
use Rattle.xsk_model.specs.Swaps.{last_set}
use Rattle.xsk_model.specs.declared.call.Mark.TheVariants.{Closing}
use Rattle.xsk_model.specs.declared.call.Ring.TheVariants.{Rx}
use Rattle.xsk_prog.specs.declared.rule.Verdict.{Verdict}
use Rattle.xsk_turns.specs.declared.manner.Manner.{Manner}
use Rattle.xsk_turns.specs.declared.wire.Wire.{Wire}
use Rattle.xsk_turns.specs.declared.wire.Wire.TheVariants.{Wait}
use Rattle.xsk_laws.specs.Closed.{passed_count}
use Rattle.xsk_laws.specs.Expected.{expected}
use Rattle.xsk_laws.specs.Forwarded.{forwarded}
use Rattle.xsk_laws.specs.Laws.{AreEndedRunsBy, IsPlace}

-- ---- the lanes of a socket that was closed

-- whether a mark was last set to 1
abbrev pub is_one : Option ℕ → Bool
is_one None = false
is_one (Some value) = value == 1

-- whether the lane from one socket to another is one of the socket that is to be closed, which its application closed
abbrev pub is_cut_by : List Entry → Config → ℕ → ℕ → Option ℕ → Bool
is_cut_by h c from to None = false
is_cut_by h c from to (Some x) = (from == x || to == x) && is_one (last_set (Closing x) (own (app_of c (Rx x)) h))

-- the lane that ends at the socket of a class
abbrev pub is_cut : Config → List Entry → ℕ → ℕ → ℕ → Bool
is_cut c h port queue class = is_cut_by h c (socket_on c (paired_port port) queue class) (socket_on c port queue class) c.closing

-- of the packets of such a lane the first so many, and of those of each other lane all
abbrev pub until_cut : Config → List Entry → ℕ → ℕ → ℕ → List (List ℕ) → List (List ℕ)
until_cut c h port queue class packets = if is_cut c h port queue class then take (passed_count c h (socket_on c port queue class)) packets else packets

-- ---- the laws

-- where no socket is to be closed that is all
abbrev pub NothingIsCut : Type 0
NothingIsCut = (c : Config) (h : List Entry) (port queue class : ℕ) (packets : List (List ℕ)) → c.closing ≡ None → until_cut c h port queue class packets ≡ packets

-- where no item is changed, what a driver sent by the socket of a class is what the driver of the paired port delivered to the paired
-- socket, until that lane was cut
abbrev pub SentIsForwardedUntil : Type 0
SentIsForwardedUntil = (manner : Manner) (wire : Wire) (c : Config) (lists : List PacketList) (verdicts : List (List Verdict)) (frames : List Frame) (h : List Entry) (port queue class : ℕ)
    → manner.mangle ≡ None → AreEndedRunsBy 1 manner wire c lists verdicts frames h → IsPlace c port queue class
    → sent_by c h (driver_on c port queue) (socket_on c port queue class) ≡ until_cut c h port queue class (forwarded wire c h lists verdicts port queue class)

-- and where the wire waits it is what is expected there, until that lane was cut
abbrev pub SentIsExpectedUntil : Type 0
SentIsExpectedUntil = (manner : Manner) (wire : Wire) (c : Config) (lists : List PacketList) (verdicts : List (List Verdict)) (frames : List Frame) (h : List Entry) (port queue class : ℕ)
    → manner.mangle ≡ None → wire ≡ Wait → AreEndedRunsBy 1 manner wire c lists verdicts frames h → IsPlace c port queue class
    → sent_by c h (driver_on c port queue) (socket_on c port queue class) ≡ until_cut c h port queue class (expected c lists verdicts port queue class)
