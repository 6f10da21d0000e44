-- What a judge keeps. The form is this project's own.
use Rattle.std.specs.Prelude.{ℕ, ◌+◌, ◌^◌, ◌%◌, Bool, true, false, ◌&&◌, ◌==◌, Option, Some, None, List, [], length, drop}
use Rattle.std.specs.List.{slice_index_or, slice_set}
use Rattle.xsk_umem.specs.declared.batch.XdpDesc.{XdpDesc}
use Rattle.xsk_model.specs.declared.call.Ring.{Ring}
use Rattle.xsk_model.specs.declared.call.Ring.TheVariants.{Fill, Comp, Rx, Tx}
use Rattle.xsk_model.specs.Rings.{is_ring}
use Rattle.xsk_side.specs.Setting.{Setting}
use Rattle.xsk_judge.specs.declared.known.Whereabouts.{Whereabouts}
use Rattle.xsk_judge.specs.declared.known.Whereabouts.TheVariants.{Start, Peeked, Given, Again}
use Rattle.xsk_judge.specs.declared.known.Spot.{Spot}
use Rattle.xsk_judge.specs.declared.known.Spot.TheVariants.{First, Shown, On, Back}
use Rattle.xsk_judge.specs.declared.known.Known.{Known}
use Rattle.xsk_judge.specs.declared.known.End.{End}

-- a ring of RX or COMPLETION: the entries that are held, so many, and behind them those that stand there again, since that line; and
-- the number of the first
pub record Queue : Type 0 where
  pub entries : List XdpDesc
  pub held : ℕ
  pub first : ℕ
  pub size : ℕ
  pub again : ℕ

-- all frames; FILL and TX; RX and COMPLETION; and by pair the addresses that name no frame
pub record Kept : Type 0 where
  pub frames : List Known
  pub ends : List End
  pub queues : List Queue
  pub strays : List ℕ

-- ---- places

abbrev pub is_mine : Whereabouts → Bool
is_mine Start = true
is_mine (Peeked r i) = true
is_mine (Given r) = false
is_mine (Again r) = false

-- the ring on which a frame was submitted, if it is there
abbrev pub given_by : Whereabouts → Option Ring
given_by Start = None
given_by (Peeked r i) = None
given_by (Given r) = Some r
given_by (Again r) = None

-- the place without the entry's number
abbrev pub spot_by : Whereabouts → Spot
spot_by Start = First
spot_by (Peeked r i) = Shown r
spot_by (Given r) = On r
spot_by (Again r) = Back r

abbrev pub is_spot : Spot → Spot → Bool
is_spot First First = true
is_spot (Shown r) (Shown q) = is_ring r q
is_spot (On r) (On q) = is_ring r q
is_spot (Back r) (Back q) = is_ring r q
is_spot _ _ = false

-- whether the program has the frame as this entry
abbrev pub is_as : Ring → ℕ → Whereabouts → Bool
is_as r i Start = false
is_as r i (Peeked q j) = is_ring r q && i == j
is_as r i (Given q) = false
is_as r i (Again q) = false

-- the number of the i-th entry behind the first
abbrev pub numbered : ℕ → ℕ → ℕ
numbered first i = (first + i) % 2 ^ 32

-- ---- what is kept of one

abbrev pub known_in : List Known → ℕ → Known
known_in frames f = slice_index_or frames f (record { place = Start; since = 0 })

-- rings in two lists: those of pairs, then those of sockets
abbrev pub place : Setting → Ring → ℕ
place s (Fill d) = d
place s (Comp d) = d
place s (Rx k) = length s.pairs + k
place s (Tx k) = length s.pairs + k

abbrev pub end_at : Setting → Kept → Ring → End
end_at s kept r = slice_index_or kept.ends (place s r) (record { room = 0; sure = 0; shown = 0 })

abbrev pub queue_at : Setting → Kept → Ring → Queue
queue_at s kept r = slice_index_or kept.queues (place s r) (record { entries = []; held = 0; first = 0; size = 0; again = 0 })

abbrev pub strays_at : Kept → ℕ → ℕ
strays_at kept d = slice_index_or kept.strays d 0

abbrev pub standing : Queue → List XdpDesc
standing queue = drop queue.held queue.entries

abbrev pub with_end : Setting → Kept → Ring → End → Kept
with_end s kept r end = record kept { ends = slice_set kept.ends (place s r) end }

abbrev pub with_queue : Setting → Kept → Ring → Queue → Kept
with_queue s kept r queue = record kept { queues = slice_set kept.queues (place s r) queue }

abbrev pub with_strays : Kept → ℕ → ℕ → Kept
with_strays kept d n = record kept { strays = slice_set kept.strays d n }
