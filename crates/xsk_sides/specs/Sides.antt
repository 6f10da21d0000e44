-- The calls of an object's callers as those of two parties (af_xdp.rst, "Rings"): the kernel has the drivers, and the program the
-- applications. The order of calls is the object's: a list of theirs has the first call first, one of the parties' the latest.
use Rattle.std.specs.Prelude.{ℕ, zero, suc, ◌+◌, true, nat_lt, if◌then◌else◌, Option, Some, None, List, [], ◌∷◌, length, take, drop, map}
use Rattle.xsk_umem.specs.Frame.{Frame}
use Rattle.xsk_umem.specs.Geometry.{Geometry, base_of}
use Rattle.xsk_umem.specs.declared.batch.Item.{Item}
use Rattle.xsk_umem.specs.declared.batch.XdpDesc.{XdpDesc}
use Rattle.xsk_model.specs.Config.{Config, pool_of}
use Rattle.xsk_model.specs.Rings.{pair_on}
use Rattle.xsk_model.specs.Entry.{Entry}
use Rattle.xsk_model.specs.declared.config.SocketInfo.{SocketInfo}
use Rattle.xsk_model.specs.declared.config.PairInfo.{PairInfo}
use Rattle.xsk_model.specs.declared.call.Ring.TheVariants.{Fill}
use Rattle.xsk_model.specs.declared.call.Call.{Call}
use Rattle.xsk_model.specs.declared.call.Call.TheVariants.{Reserve, Submit, Peek, Release}
use Rattle.xsk_model.specs.declared.call.Reply.{Reply}
use Rattle.xsk_model.specs.declared.call.Reply.TheVariants.{Granted, Full, Submitted, Items, Empty, Released}
use Rattle.xsk_side.specs.Setting.{Setting}
use Rattle.xsk_side.specs.Object.{Entry as SideEntry}
use Rattle.xsk_side.specs.declared.setting.Pair.{Pair}
use Rattle.xsk_side.specs.declared.setting.Socket.{Socket}
use Rattle.xsk_side.specs.declared.call.Party.{Party}
use Rattle.xsk_side.specs.declared.call.Party.TheVariants.{Program, Kernel}
use Rattle.xsk_side.specs.declared.call.Answer.TheVariants as an_answer
use Rattle.xsk_side.specs.declared.call.Call.{Call as SideCall}
use Rattle.xsk_side.specs.declared.call.Call.TheVariants as a_side

-- ---- the setting

abbrev pub pair_side : PairInfo → Pair
pair_side pair = record { fill = pair.fill; comp = pair.comp }

abbrev pub socket_side : List PairInfo → SocketInfo → Socket
socket_side pairs socket = record { pair = pair_on pairs socket.port socket.queue; rx = socket.rx; tx = socket.tx }

-- the rings of a configuration, with a kernel in copy mode, which lays packets and takes frames from FILL of the socket's own pair
abbrev pub setting_of : Config → Setting
setting_of c = record {
  geometry = c.geometry;
  pairs = map pair_side c.pairs;
  sockets = map (socket_side c.pairs) c.sockets;
  rules = record { sg = c.sg; own = true; at_data = true };
}

-- ---- calls

abbrev pub desc_in : Item → XdpDesc
desc_in item = item.desc

abbrev pub entries : List Item → List XdpDesc
entries items = map desc_in items

-- a call with its reply; a Swap and a Look are none on rings
abbrev pub side_call : Call → Reply → Option SideCall
side_call (Reserve r n) Granted = Some (a_side.Reserve r n an_answer.Granted)
side_call (Reserve r n) (Full places) = Some (a_side.Reserve r n (an_answer.Full places))
side_call (Submit r items) Submitted = Some (a_side.Submit r (entries items))
side_call (Peek r n) Empty = Some (a_side.Peek r n [])
side_call (Peek r n) (Items items) = Some (a_side.Peek r n (entries items))
side_call (Release r n) Released = Some (a_side.Release r n)
side_call call reply = None

-- the callers below the number of pairs are the drivers
abbrev pub party_of : Config → ℕ → Party
party_of c who = if nat_lt who (length c.pairs) then Kernel else Program

abbrev pub called : Party → Option SideCall → List SideCall → List SideCall
called who None calls = calls
called Kernel (Some call) calls = calls
called Program (Some call) calls = call ∷ calls

-- the applications' calls, behind earlier ones
abbrev pub program_calls : Config → List Entry → List SideCall → List SideCall
program_calls c [] calls = calls
program_calls c (e ∷ es) calls = program_calls c es (called (party_of c e.who) (side_call e.call e.reply) calls)

-- ---- the opening

abbrev pub base_entry : Geometry → Frame → XdpDesc
base_entry g frame = record { addr = base_of g frame.number; len = 0; options = 0 }

-- the pools are put on FILL, each with its places reserved, from the pair of this number on
abbrev pub opening_calls : Geometry → ℕ → ℕ → ℕ → List Frame → List SideCall → List SideCall
opening_calls g pool d zero frames calls = calls
opening_calls g pool d (suc pairs) frames calls =
    opening_calls g pool (d + 1) pairs (drop pool frames)
    (a_side.Submit (Fill d) (map (base_entry g) (take pool frames)) ∷ a_side.Reserve (Fill d) pool an_answer.Granted ∷ calls)

-- ---- from the opening on

abbrev pub opened_calls : Config → List Frame → List SideCall
opened_calls c frames = opening_calls c.geometry (pool_of c) 0 (length c.pairs) frames []

-- what a recording of all applications has
abbrev pub recorded : Config → List Frame → List Entry → List SideCall
recorded c frames h = program_calls c h (opened_calls c frames)

-- both parties' calls
abbrev pub pushed : Party → Option SideCall → List SideEntry → List SideEntry
pushed who None past = past
pushed who (Some call) past = record { who = who; call = call } ∷ past

abbrev pub both : Config → List Entry → List SideEntry → List SideEntry
both c [] past = past
both c (e ∷ es) past = both c es (pushed (party_of c e.who) (side_call e.call e.reply) past)

abbrev pub by_program : SideCall → SideEntry
by_program call = record { who = Program; call = call }

abbrev pub of_two : Config → List Frame → List Entry → List SideEntry
of_two c frames h = both c h (map by_program (opened_calls c frames))
