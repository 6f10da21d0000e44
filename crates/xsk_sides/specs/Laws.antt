-- The laws of histories of the object, seen as those of two parties.
use Rattle.std.specs.Prelude.{◌≡◌, List, ◌∷◌, ◌++◌}
use Rattle.std.specs.Option.{option_map}
use Rattle.xsk_umem.specs.Frame.{Frame}
use Rattle.xsk_model.specs.Config.{Config}
use Rattle.xsk_model.specs.Object.{call_ring}
use Rattle.xsk_model.specs.Entry.{Entry}
use Rattle.xsk_model.specs.History.{IsHistory}
use Rattle.xsk_side.specs.Object.{ring_of}
use Rattle.xsk_side.specs.Possible.{IsHistory as IsSideHistory, Possible, own}
use Rattle.xsk_side.specs.Laws.{IsWider}
use Rattle.xsk_side.specs.declared.setting.Rules.{Rules}
use Rattle.xsk_side.specs.declared.call.Party.TheVariants.{Program}
use Rattle.xsk_sides.specs.Sides.{setting_of, side_call, recorded, of_two}

-- each call on a ring is told, as one on that ring, and no other call is
abbrev pub TellsAll : Type 0
TellsAll = (c : Config) (frames : List Frame) (past later : List Entry) (e : Entry) → IsHistory c frames (past ++ e ∷ later)
    → option_map ring_of (side_call e.call e.reply) ≡ call_ring e.call

-- behind the calls that fill FILL, with the drivers as the kernel, the calls of a history are one of two parties
abbrev pub TwoParties : Type 0
TwoParties = (c : Config) (frames : List Frame) (h : List Entry) → IsHistory c frames h
    → IsSideHistory (setting_of c) (of_two c frames h) × (own Program (of_two c frames h) ≡ recorded c frames h)

-- so behind the calls that fill FILL, the applications' calls in a history are possible, by the rules of copy mode and by all wider ones
abbrev pub Journals : Type 0
Journals = (c : Config) (frames : List Frame) (h : List Entry) (rules : Rules) → IsHistory c frames h → IsWider (setting_of c).rules rules
    → Possible (record (setting_of c) { rules = rules }) (recorded c frames h)
