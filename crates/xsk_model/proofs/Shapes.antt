-- Which items are the layout of some packet.
use Rattle.std.proofs.Common.{◌≡◌, ℕ, ◌+◌, ◌≤◌, Bool, Option, Some, List, [], ◌∷◌, length, map, take, drop, All, refl, sym, ap, subst, ◌∙◌, arith, length-take, length-drop}
use Rattle.std.specs.Prelude.{IfSome}
use Rattle.std.specs.List.{concat}
use Rattle.std.proofs.lemmas.List.Elements.{All-nil, All-cons, All-head, All-tail}
use Rattle.xsk_umem.specs.Frame.{Frame}
use Rattle.xsk_umem.specs.Geometry.{Geometry, IsGeometry, payload_of, data_of}
use Rattle.xsk_umem.specs.declared.batch.Item.{Item}
use Rattle.xsk_model.specs.Descriptor.{body_of}
use Rattle.xsk_model.specs.Packets.{HavePieceLengths, HoldsPiece, HoldPieces, IsLayout}
use Rattle.xsk_model.specs.OtherWords.{NamesItsData, HaveLayoutLengths, IsShaped}

module _ (g : Geometry) where
  -- ---- a layout's shape

  held_names : (item : Item) (piece : List ℕ) (options : ℕ) → HoldsPiece g item piece options → NamesItsData g item
  held_names item piece options h = (h.frame, ap (λ (i : Item). i.frame) h.is, h.in_umem, ap (λ (i : Item). i.desc.addr) h.is)

  held_len : (item : Item) (piece : List ℕ) (options : ℕ) → HoldsPiece g item piece options → item.desc.len ≡ length piece
  held_len item piece options h = ap (λ (i : Item). i.desc.len) h.is

  held_options : (item : Item) (piece : List ℕ) (options : ℕ) → HoldsPiece g item piece options → item.desc.options ≡ options
  held_options item piece options h = ap (λ (i : Item). i.desc.options) h.is

  shape_of : (items : List Item) (pieces : List (List ℕ)) → HavePieceLengths (payload_of g) pieces → HoldPieces g items pieces
      → All (NamesItsData g) items × HaveLayoutLengths g items
  shape_of items [] k h = absurd k
  shape_of [] (piece ∷ pieces) k h = absurd h
  shape_of (item ∷ []) (piece ∷ []) k h = (
    All-cons (NamesItsData g) item [] (held_names item piece 0 h.0) (All-nil (NamesItsData g)),
    (subst (λ n. 1 ≤ n) (sym (held_len item piece 0 h.0)) k.0, subst (λ n. n ≤ payload_of g) (sym (held_len item piece 0 h.0)) k.1, held_options item piece 0 h.0),
  )
  shape_of (item ∷ next ∷ items) (piece ∷ []) k h = absurd h.1
  shape_of (item ∷ []) (piece ∷ other ∷ pieces) k h = absurd h.1
  shape_of (item ∷ next ∷ items) (piece ∷ other ∷ pieces) k h =
      let later = shape_of (next ∷ items) (other ∷ pieces) k.1 h.1 in (
        All-cons (NamesItsData g) item (next ∷ items) (held_names item piece 1 h.0) later.0,
        (held_len item piece 1 h.0 ∙ k.0, held_options item piece 1 h.0, later.1),
      )

  -- ---- the packet that a shape shows

  -- what an item names of its frame
  abbrev piece_of : Item → List ℕ
  piece_of item = take item.desc.len (drop (g.headroom + 256) (body_of item.frame))

  abbrev IsWholeFrame : Item → Type 0
  IsWholeFrame i = IfSome i.frame (λ (f : Frame). length f.bytes ≡ g.chunk)

  abbrev item_of : Option Frame → ℕ → ℕ → ℕ → Item
  item_of frame address len options = record { frame = frame; desc = record { addr = address; len = len; options = options } }

  same_item : (item : Item) (frame : Option Frame) (address len options : ℕ) → item.frame ≡ frame → item.desc.addr ≡ address → item.desc.len ≡ len → item.desc.options ≡ options
      → item ≡ item_of frame address len options
  same_item item frame address len options e f h k =
      ap (λ x. item_of x item.desc.addr item.desc.len item.desc.options) e
      ∙ ap (λ x. item_of frame x item.desc.len item.desc.options) f
      ∙ ap (λ x. item_of frame address x item.desc.options) h
      ∙ ap (λ x. item_of frame address len x) k

  length-piece : (item : Item) → IsGeometry g → NamesItsData g item → IsWholeFrame item → item.desc.len ≤ payload_of g → length (piece_of item) ≡ item.desc.len
  length-piece item lawful named body few =
      let full : length named.0.bytes ≡ g.chunk = subst (λ (o : Option Frame). IfSome o (λ (f : Frame). length f.bytes ≡ g.chunk)) named.1 body in
      let bytes : length (body_of item.frame) ≡ g.chunk = ap (λ (o : Option Frame). length (body_of o)) named.1 ∙ full in
      omega (
        arith,
        bytes,
        few,
        length-take item.desc.len (drop (g.headroom + 256) (body_of item.frame)),
        length-drop (g.headroom + 256) (body_of item.frame),
      )

  holds : (item : Item) (options : ℕ) → IsGeometry g → NamesItsData g item → IsWholeFrame item → item.desc.len ≤ payload_of g → item.desc.options ≡ options
      → HoldsPiece g item (piece_of item) options
  holds item options lawful named body few bit =
      let len : length (piece_of item) ≡ item.desc.len = length-piece item lawful named body few in
      record {
        frame = named.0;
        is = same_item item (Some named.0) (data_of g named.0.number) (length (piece_of item)) options named.1 named.3 (sym len) bit;
        in_umem = named.2;
        bytes = ap (λ n. take n (drop (g.headroom + 256) named.0.bytes)) len ∙ ap (λ (o : Option Frame). take item.desc.len (drop (g.headroom + 256) (body_of o))) (sym named.1);
      }

  shows : (items : List Item) → IsGeometry g → All (NamesItsData g) items → All IsWholeFrame items → HaveLayoutLengths g items
      → HavePieceLengths (payload_of g) (map piece_of items) × HoldPieces g items (map piece_of items)
  shows [] lawful named body h = absurd h
  shows (item ∷ []) lawful named body h =
      let name : NamesItsData g item = All-head (NamesItsData g) item [] named in
      let whole : IsWholeFrame item = All-head IsWholeFrame item [] body in
      let len : length (piece_of item) ≡ item.desc.len = length-piece item lawful name whole h.1 in (
        (subst (λ n. 1 ≤ n) (sym len) h.0, subst (λ n. n ≤ payload_of g) (sym len) h.1),
        (holds item 0 lawful name whole h.1 h.2, tt),
      )
  shows (item ∷ next ∷ items) lawful named body h =
      let name : NamesItsData g item = All-head (NamesItsData g) item (next ∷ items) named in
      let whole : IsWholeFrame item = All-head IsWholeFrame item (next ∷ items) body in
      let few : item.desc.len ≤ payload_of g = omega (arith, h.0) in
      let later = shows (next ∷ items) lawful (All-tail (NamesItsData g) item (next ∷ items) named) (All-tail IsWholeFrame item (next ∷ items) body) h.2 in (
        (length-piece item lawful name whole few ∙ h.0, later.0),
        (holds item 1 lawful name whole few h.1, later.1),
      )

pub layout_shape : (g : Geometry) (sg : Bool) (packet : List ℕ) (items : List Item) → IsLayout g sg packet items → IsShaped g sg items
layout_shape g sg packet items h =
    let shape = shape_of g items h.pieces h.cut.lengths h.held in
    record { named = shape.0; lengths = shape.1; single = h.single }

pub shape_layout : (g : Geometry) (sg : Bool) (items : List Item) → IsGeometry g → All (λ (i : Item). IfSome i.frame (λ (f : Frame). length f.bytes ≡ g.chunk)) items
    → IsShaped g sg items → (packet : List ℕ) × IsLayout g sg packet items
shape_layout g sg items lawful body h =
    let shown = shows g items lawful h.named body h.lengths in (
      concat (map (piece_of g) items),
      record {
        pieces = map (piece_of g) items;
        cut = record { joined = refl; lengths = shown.0 };
        held = shown.1;
        single = h.single;
      },
    )
