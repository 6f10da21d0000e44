-- What stands in the rings of an object, as text. The form of the lines is this project's own.
use Rattle.std.specs.Prelude.{ℕ, Option, Some, None, List, [], ◌++◌, length, flat_map, codes}
use Rattle.std.specs.List.{range_with_len}
use Rattle.xsk_model.specs.Config.{Config, size_of, socket_at}
use Rattle.xsk_model.specs.Numbers.{numbers}
use Rattle.xsk_model.specs.declared.call.Ring.{Ring}
use Rattle.xsk_model.specs.declared.call.Ring.TheVariants.{Fill, Comp, Rx, Tx}
use Rattle.xsk_log.specs.Line.{ring_text}
use Rattle.xsk_plain.specs.Counts.{counts_of}
use Rattle.xsk_plain.specs.Engine.{Part, part_in}
use Rattle.xsk_plain.specs.declared.ring_store.RingCounts.{RingCounts}
use Rattle.xsk_why.specs.Frames.{ranges}
use Rattle.xsk_why.specs.Numbered.{numbered}

-- a ring's size, the items that are out, and the places that are held, reserved and free
abbrev pub counts_text : ℕ → RingCounts → List ℕ
counts_text size counts =
    numbered (codes " size ") size
    ++ numbered (codes " out ") counts.out
    ++ numbered (codes " held ") counts.held
    ++ numbered (codes " reserved ") counts.reserved
    ++ numbered (codes " free ") counts.free

-- behind these the frames of the items that are out, the next to be peeked first
abbrev pub ring_line : Config → List Part → Ring → List ℕ
ring_line c rings r =
    codes "ring " ++ ring_text r ++ counts_text (size_of c r) (counts_of (size_of c r) (part_in c rings r)) ++ codes " frames"
    ++ ranges (numbers (part_in c rings r).out) ++ codes "\n"

abbrev pub pair_lines : Config → List Part → ℕ → List ℕ
pair_lines c rings d = ring_line c rings (Fill d) ++ ring_line c rings (Comp d)

-- a text where a socket has a ring
abbrev pub where_some : Option ℕ → List ℕ → List ℕ
where_some None text = []
where_some (Some size) text = text

abbrev pub socket_lines : Config → List Part → ℕ → List ℕ
socket_lines c rings s =
    where_some (socket_at c.sockets s).rx (ring_line c rings (Rx s)) ++ where_some (socket_at c.sockets s).tx (ring_line c rings (Tx s))

abbrev pub rings_text : Config → List Part → List ℕ
rings_text c rings =
    flat_map (pair_lines c rings) (range_with_len 0 (length c.pairs)) ++ flat_map (socket_lines c rings) (range_with_len 0 (length c.sockets))
