-- What a standing keeps of a caller's Swaps and Looks, and what one more leaves of it: of the marks of the socket to close,
-- and of how many packets the caller has bounced.
use Rattle.std.specs.Prelude.{◌≡◌, ℕ, ◌<◌, ◌==◌, Bool, true, false, if◌then◌else◌, Option, Some, None, List, length, unwrap_or}
use Rattle.std.specs.List.{slice_index_or, slice_set}
use Rattle.xsk_model.specs.Config.{Config}
use Rattle.xsk_model.specs.Rings.{port_of}
use Rattle.xsk_model.specs.Entry.{Told}
use Rattle.xsk_model.specs.Swaps.{last_set, last_seen}
use Rattle.xsk_model.specs.declared.call.Ring.TheVariants.{Rx}
use Rattle.xsk_model.specs.declared.call.Mark.{Mark}
use Rattle.xsk_model.specs.declared.call.Mark.TheVariants.{Cell, Closing, Acked, Bounced}
use Rattle.xsk_legal.specs.declared.marked.Marked.{Marked}

-- whether there is a number, and it is this one
abbrev pub is_number : ℕ → Option ℕ → Bool
is_number n None = false
is_number n (Some m) = n == m

-- whether there is a socket, and its port is this one
abbrev pub is_port_of : Config → Option ℕ → ℕ → Bool
is_port_of c None port = false
is_port_of c (Some s) port = port_of c (Rx s) == port

-- what a legal Swap leaves: a cell is only lowered, and a socket is only closed and acknowledged
abbrev pub after_swap : Config → Marked → Mark → ℕ → Marked
after_swap c marked (Cell port index) value =
    record marked { lowered = if is_port_of c c.closing port then slice_set marked.lowered index true else marked.lowered }
after_swap c marked (Closing s) value = record marked { closed = true }
after_swap c marked (Acked s) value = record marked { acked = true }
after_swap c marked (Bounced d) value = record marked { bounced = value }
after_swap c marked _ value = marked

-- what a Look with its answer leaves
abbrev pub after_look : Config → Marked → Mark → ℕ → Marked
after_look c marked (Closing s) old = record marked { seen = if is_number s c.closing then old == 1 else marked.seen }
after_look c marked _ old = marked

-- it is what these calls and replies of the caller leave
pub record IsMarked (c : Config) (who : ℕ) (marked : Marked) (mine : List Told) : Type 0 where
  pub cells : length marked.lowered ≡ 64
  pub lowered : (s index : ℕ) → c.closing ≡ Some s → index < 64 → slice_index_or marked.lowered index false ≡ is_number 0 (last_set (Cell (port_of c (Rx s)) index) mine)
  pub closed : (s : ℕ) → c.closing ≡ Some s → marked.closed ≡ is_number 1 (last_set (Closing s) mine)
  pub acked : (s : ℕ) → c.closing ≡ Some s → marked.acked ≡ is_number 1 (last_set (Acked s) mine)
  pub seen : (s : ℕ) → c.closing ≡ Some s → marked.seen ≡ is_number 1 (last_seen (Closing s) mine)
  pub bounced : marked.bounced ≡ unwrap_or (last_set (Bounced who) mine) 0
