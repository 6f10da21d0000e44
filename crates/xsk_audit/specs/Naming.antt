-- Which lines name a frame, by an item of a Submit or of a Peek's reply.
use Rattle.std.specs.Prelude.{ℕ, ◌+◌, ◌==◌, Bool, true, false, if◌then◌else◌, Option, None, Some, List, [], ◌∷◌, drop}
use Rattle.xsk_umem.specs.Geometry.{Geometry, frame_of}
use Rattle.xsk_umem.specs.declared.batch.XdpDesc.{XdpDesc}
use Rattle.xsk_audit.specs.Reading.{Reads, desc_at, begins_item}

abbrev pub is_frame : ℕ → Option ℕ → Bool
is_frame n None = false
is_frame n (Some m) = m == n

-- a descriptor was read, and its address lies in the frame
abbrev pub lies_in : Geometry → ℕ → Reads XdpDesc → Bool
lies_in g n None = false
lies_in g n (Some read) = is_frame n (frame_of g read.0.addr)

-- an item begins here, and its address lies in the frame
unfoldable pub item_in : Geometry → ℕ → List ℕ → Bool
item_in g n xs = if begins_item xs then lies_in g n (desc_at (drop 1 xs)) else false

-- so somewhere in a line
unfoldable pub names : Geometry → ℕ → List ℕ → Bool
names g n [] = false
names g n (b ∷ bs) = if item_in g n (b ∷ bs) then true else names g n bs

-- The last of some lines that names a frame, with its number, where so many lines stand before them, of which one was found.
unfoldable pub last_from : Geometry → ℕ → ℕ → List (List ℕ) → Reads ℕ → Reads ℕ
last_from g n before [] found = found
last_from g n before (line ∷ lines) found = last_from g n (before + 1) lines (if names g n line then Some (before + 1, line) else found)

-- the last of all lines, counted from 1
abbrev pub last_naming : Geometry → ℕ → List (List ℕ) → Reads ℕ
last_naming g n lines = last_from g n 0 lines None
