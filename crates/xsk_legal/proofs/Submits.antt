-- What is asked of the items of a Submit is what makes it legal.
use Rattle.std.proofs.Common.{◌≡◌, ℕ, ◌≤◌, Bool, List, [], ◌∷◌, length, flat_map, sym, subst, arith}
use Rattle.std.specs.Prelude.{All, IsTrue, IfSome}
use Rattle.std.proofs.lemmas.List.Elements.{All-nil, All-cons, All-head, All-tail}
use Rattle.xsk_umem.specs.Frame.{Frame}
use Rattle.xsk_umem.specs.Geometry.{Geometry, IsGeometry}
use Rattle.xsk_umem.specs.declared.batch.Item.{Item}
use Rattle.xsk_model.specs.Config.{Config}
use Rattle.xsk_model.specs.Packets.{IsLayout}
use Rattle.xsk_model.specs.Numbers.{times, numbers}
use Rattle.xsk_model.specs.Entry.{Told}
use Rattle.xsk_model.specs.Own.{is_from_fill}
use Rattle.xsk_model.specs.Legal.{AreReceived}
use Rattle.xsk_model.specs.OtherWords.{IsShaped}
use Rattle.xsk_model.proofs.Shapes.{layout_shape, shape_layout}
use Rattle.xsk_legal.specs.Pieces.{ArePieces}
use Rattle.xsk_legal.proofs.Steps.{all_first, all_later}
use Rattle.xsk_legal.proofs.Received.{pieces_layouts, layouts_pieces}

abbrev IsWholeFrame : Geometry → Item → Type 0
IsWholeFrame g item = IfSome item.frame (λ (f : Frame). length f.bytes ≡ g.chunk)

abbrev joined : List (List Item) → List Item
joined layouts = flat_map (λ (layout : List Item). layout) layouts

abbrev IsLaidOut : Geometry → Bool → List Item → Type 0
IsLaidOut g sg layout = (packet : List ℕ) × IsLayout g sg packet layout

all_laid_out : (g : Geometry) (sg : Bool) (layouts : List (List Item)) → IsGeometry g → All (IsWholeFrame g) (joined layouts)
    → All (IsShaped g sg) layouts → All (IsLaidOut g sg) layouts
all_laid_out g sg [] lawful whole h = All-nil (IsLaidOut g sg)
all_laid_out g sg (layout ∷ layouts) lawful whole h =
    All-cons (IsLaidOut g sg) layout layouts
    (shape_layout g sg layout lawful (all_first (IsWholeFrame g) layout (joined layouts) whole) (All-head (IsShaped g sg) layout layouts h))
    (all_laid_out g sg layouts lawful (all_later (IsWholeFrame g) layout (joined layouts) whole) (All-tail (IsShaped g sg) layout layouts h))

all_shaped : (g : Geometry) (sg : Bool) (layouts : List (List Item)) → All (IsLaidOut g sg) layouts → All (IsShaped g sg) layouts
all_shaped g sg [] h = All-nil (IsShaped g sg)
all_shaped g sg (layout ∷ layouts) h =
    let first : IsLaidOut g sg layout = All-head (IsLaidOut g sg) layout layouts h in
    All-cons (IsShaped g sg) layout layouts (layout_shape g sg first.0 layout first.1) (all_shaped g sg layouts (All-tail (IsLaidOut g sg) layout layouts h))

-- on RX
pub pieces_received : (c : Config) (mine : List Told) (items : List Item) → IsGeometry c.geometry → 1 ≤ length items → All (IsWholeFrame c.geometry) items
    → ((n : ℕ) → 1 ≤ times n (numbers items) → IsTrue (is_from_fill n mine)) → ArePieces c.geometry c.sg items → AreReceived c mine items
pieces_received c mine [] lawful some whole from h = absurd (omega (arith, some))
pieces_received c mine (item ∷ items) lawful some whole from h =
    let made = pieces_layouts c.geometry c.sg item items h in
    record {
      layouts = made.0;
      joined = sym made.1;
      laid_out = all_laid_out c.geometry c.sg made.0 lawful (subst (λ xs. All (IsWholeFrame c.geometry) xs) (sym made.1) whole) made.2;
      from_fill = from;
    }

pub received_pieces : (c : Config) (mine : List Told) (items : List Item) → AreReceived c mine items → ArePieces c.geometry c.sg items
received_pieces c mine items h =
    subst (λ xs. ArePieces c.geometry c.sg xs) (sym h.joined) (layouts_pieces c.geometry c.sg h.layouts (all_shaped c.geometry c.sg h.layouts h.laid_out))
