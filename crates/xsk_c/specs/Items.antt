-- Rings, marks, calls and descriptors as C has them.
use Rattle.std.specs.Prelude.{ℕ, ◌==◌, Option, Some, None, if◌then◌else◌, List, [], ◌∷◌, ◌++◌, length, map, take, drop, min}
use Rattle.xsk_umem.specs.Frame.{Frame}
use Rattle.xsk_umem.specs.Geometry.{Geometry}
use Rattle.xsk_umem.specs.declared.batch.Item.{Item}
use Rattle.xsk_model.specs.declared.call.Call.{Call}
use Rattle.xsk_model.specs.declared.call.Call.TheVariants.{Reserve, Release, Look, Swap}
use Rattle.xsk_model.specs.declared.call.Mark.{Mark}
use Rattle.xsk_model.specs.declared.call.Mark.TheVariants.{NeedFill, NeedTx, Kick}
use Rattle.xsk_model.specs.declared.call.Ring.{Ring}
use Rattle.xsk_model.specs.declared.call.Ring.TheVariants.{Fill, Comp, Rx, Tx}
use Rattle.xsk_c.specs.Purse.{frame_at, without}
use Rattle.xsk_c.specs.declared.items.Asked.{Asked}
use Rattle.xsk_c.specs.declared.items.Desc.{Desc}

-- the ring of a kind (enum xsk_c_ring) and a number
abbrev pub ring_in : ℕ → ℕ → Option Ring
ring_in kind index =
    if kind == 0 then Some (Fill index)
    else if kind == 1 then Some (Comp index)
    else if kind == 2 then Some (Rx index)
    else if kind == 3 then Some (Tx index)
    else None

-- the mark of a kind (enum xsk_c_mark) and a number
abbrev pub mark_in : ℕ → ℕ → Option Mark
mark_in kind index =
    if kind == 0 then Some (NeedFill index)
    else if kind == 1 then Some (NeedTx index)
    else if kind == 2 then Some (Kick index)
    else None

-- ---- calls that move no items

abbrev pub with_ring : Option Ring → (Ring → Call) → Option Call
with_ring None call = None
with_ring (Some r) call = Some (call r)

abbrev pub with_mark : Option Mark → (Mark → Call) → Option Call
with_mark None call = None
with_mark (Some m) call = Some (call m)

-- the call of an operation (enum xsk_c_op)
abbrev pub call_in : Asked → Option Call
call_in a =
    if a.op == 0 then with_ring (ring_in a.kind a.index) (λ r. Reserve r a.count)
    else if a.op == 1 then with_ring (ring_in a.kind a.index) (λ r. Release r a.count)
    else if a.op == 2 then with_mark (mark_in a.kind a.index) (λ m. Look m)
    else if a.op == 3 then with_mark (mark_in a.kind a.index) (λ m. Swap m a.value)
    else None

-- ---- descriptors

-- an item's descriptor, as C has it
abbrev pub drawn_of : Item → Desc
drawn_of item = record { addr = item.desc.addr; len = item.desc.len; options = item.desc.options }

-- the descriptors of items in place of the first, as many as there is room for
abbrev pub drawn_over : List Desc → List Item → List Desc
drawn_over before items =
    let n = min (length before) (length items) in
    take n (map drawn_of items) ++ drop n before

abbrev pub item_of : Option Frame → Desc → Item
item_of frame d = record { frame = frame; desc = record { addr = d.addr; len = d.len; options = d.options } }

-- the items of descriptors: each takes the frame of its address, if an application has it and none before has taken it
abbrev pub items_of : Geometry → List (Option Frame) → List Desc → List Item
items_of g frames [] = []
items_of g frames (d ∷ ds) = item_of (frame_at g frames d.addr) d ∷ items_of g (without g frames d.addr) ds

-- the frames that are left then
abbrev pub left_by : Geometry → List (Option Frame) → List Desc → List (Option Frame)
left_by g frames [] = frames
left_by g frames (d ∷ ds) = left_by g (without g frames d.addr) ds
