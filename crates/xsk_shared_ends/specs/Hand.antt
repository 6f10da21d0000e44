-- Where the last hand stands.
use Rattle.std.specs.Prelude.{false}
use Rattle.xsk_table.specs.View.{no_setup}
use Rattle.xsk_table.specs.Held.{new_pass}
use Rattle.xsk_rings.specs.Rounds.{mine_of}
use Rattle.xsk_shared_ends.specs.Shown.{no_name}
use Rattle.xsk_shared_ends.specs.Last.{AreDrained, LastShown, shown_of_ends}
use Rattle.xsk_shared_ends.specs.declared.last.State.{State}
use Rattle.xsk_shared_ends.specs.declared.last.State.TheVariants.{Sharing, Leaving, Gone}

-- it has the ends, or runs the machine
abbrev pub shown_in : State → LastShown
shown_in (Sharing ends) = shown_of_ends ends
shown_in (Leaving run) = record run { has_ends = false }
shown_in Gone = record { config = no_setup.config; app = 0; pass = new_pass no_name.board 0; has_ends = false }

abbrev pub IsThere : State → Type 0
IsThere (Sharing ends) = Unit {0}
IsThere (Leaving run) = Unit {0}
IsThere Gone = ⊥

-- it has the ends, and their lanes were all found empty
abbrev pub HasDrained : State → Type 0
HasDrained (Sharing ends) = AreDrained ends.config ends.app (mine_of ends.pass)
HasDrained (Leaving run) = ⊥
HasDrained Gone = ⊥
