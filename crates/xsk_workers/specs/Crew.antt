-- What contracts see of a crew: the seats of its members, and the table on which they are.
use Rattle.std.specs.Prelude.{◌≡◌, ℕ, ◌≤◌, Bool, List, [], vec_len, vec_capacity}
use Rattle.std.specs.Vec.{vec_items}
use Rattle.std.specs.declared.vec.Vec.{Vec}
use Rattle.std.specs.declared.alloc.Global.{Global}
use Rattle.atomic_table.specs.Seated.{TableId}
use Rattle.xsk_turns.specs.Workers.{Setting}
use Rattle.xsk_table.specs.View.{Basis}
use Rattle.xsk_table.specs.Held.{Board}

-- What of a caller never changes: its setting, its table and the table's setup, its number, and whether one machine makes all of its
-- calls, or several hands do.
pub record Seat : Type 0 where
  pub setting : Setting
  pub table : TableId
  pub setup : Basis
  pub who : ℕ
  pub alone : Bool

-- a seat is on this table
abbrev pub IsSeatOn : Board → Seat → Type 0
IsSeatOn b seat = (seat.table ≡ b.table) × (seat.setup ≡ b.setup)

-- a crew: its table and the seats of its members
pub record CrewShown : Type 0 where
  pub board : Board
  pub seats : List Seat

-- three lists are empty and have room for as many as stand in the first
pub record HaveRoom {X H : Type 0} (members : Vec X Global) (handles : Vec H Global) (unrun done : Vec X Global) : Type 0 where
  pub no_handle : vec_items handles ≡ []
  pub none_unrun : vec_items unrun ≡ []
  pub none_done : vec_items done ≡ []
  pub for_handles : vec_len members ≤ vec_capacity handles
  pub for_unrun : vec_len members ≤ vec_capacity unrun
  pub for_done : vec_len members ≤ vec_capacity done
