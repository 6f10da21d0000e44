-- The whole packets of layouts that follow one another are the packets, with their bytes.
use Rattle.std.proofs.Common.{◌≡◌, ℕ, suc, ◌+◌, ◌*◌, ◌<◌, ◌≤◌, ◌⊎◌, inl, inr, Bool, true, false, List, [], ◌∷◌, length, map, flat_map, All, refl, ap, ◌∙◌, ⊎_elim, arith, length-append, mul-le-mul_right}
use Rattle.std.specs.Prelude.{IsTrue, if◌then◌else◌}
use Rattle.std.specs.List.{concat}
use Rattle.std.proofs.lemmas.Bool.{cases_lt}
use Rattle.std.proofs.lemmas.List.Elements.{All-head, All-tail}
use Rattle.xsk_umem.specs.Geometry.{Geometry, IsGeometry, payload_of}
use Rattle.xsk_umem.specs.declared.batch.Item.{Item}
use Rattle.xsk_model.specs.Packets.{HavePieceLengths, HoldPieces, IsLayout, Packet, whole, packets, whole_packets, bytes_of}
use Rattle.xsk_model.proofs.PacketsLaws.{packets-at}
use Rattle.xsk_model.proofs.LayoutLaws.{layout_whole}
use Rattle.xsk_turns.specs.Law.{AreLayouts, IsLaidOut}

-- the most bytes of a packet
abbrev pub most_of : Geometry → Bool → ℕ
most_of g sg = (if sg then 18 else 1) * payload_of g

-- ---- how many items a layout has

held_length : (g : Geometry) (items : List Item) (pieces : List (List ℕ)) → HoldPieces g items pieces → length items ≡ length pieces
held_length g [] [] h = refl
held_length g [] (piece ∷ pieces) h = absurd h
held_length g (item ∷ items) [] h = absurd h
held_length g (item ∷ items) (piece ∷ pieces) h = ap suc (held_length g items pieces h.1)

-- so many pieces have more bytes than all but one of them hold
pieces_length : (size : ℕ) (pieces : List (List ℕ)) → HavePieceLengths size pieces → length pieces * size < length (concat pieces) + size
pieces_length size [] h = absurd h
pieces_length size (last ∷ []) h = omega (arith, h.0, length-append last (concat []))
pieces_length size (piece ∷ next ∷ pieces) h =
    let later : length (next ∷ pieces) * size < length (concat (next ∷ pieces)) + size = pieces_length size (next ∷ pieces) h.1 in
    let more : suc (length (next ∷ pieces)) * size ≡ length (next ∷ pieces) * size + size = grind arith in
    omega (arith, later, more, h.0, length-append piece (concat (next ∷ pieces)))

few_pieces : (n size bytes : ℕ) → n * size < bytes + size → bytes ≤ 18 * size → n ≤ 18
few_pieces n size bytes h k = ⊎_elim
    (λ (few : n ≤ 18). few)
    (λ (many : 19 ≤ n).
    let more : 19 * size ≤ n * size = mul-le-mul_right size many in
    absurd (omega (arith, h, k, more)))
    (cases_le n)
  where
    cases_le : (n : ℕ) → (n ≤ 18) ⊎ (19 ≤ n)
    cases_le n = elim (cases_lt 18 n) [ inl h ↦ inr (omega (arith, h)) | inr h ↦ inl h ]

pub layout_few : (g : Geometry) (sg : Bool) (packet : List ℕ) (items : List Item) → IsLayout g sg packet items → length packet ≤ most_of g sg → length items ≤ 18
layout_few g true packet items h few =
    let count = held_length g items h.pieces h.held in
    let many = pieces_length (payload_of g) h.pieces h.cut.lengths in
    let bytes : length (concat h.pieces) ≡ length packet = ap length h.cut.joined in
    let some : length h.pieces ≤ 18 = few_pieces (length h.pieces) (payload_of g) (length (concat h.pieces)) many (omega (arith, bytes, few)) in
    omega (arith, count, some)
layout_few g false packet items h few = ⊎_elim
    (λ (e : IsTrue false). absurd (cc))
    (λ (e : length items ≡ 1). omega (arith, e))
    h.single

-- ---- all layouts

pub wholes : (g : Geometry) (sg : Bool) (ps : List (List ℕ)) (items : List Item) → IsGeometry g → IsLaidOut g sg ps items → All (λ (p : List ℕ). length p ≤ most_of g sg) ps
    → map (bytes_of g sg) (whole_packets (packets g sg items)) ≡ ps
wholes g sg ps items lawful laid few =
    ap (λ (l : List Item). map (bytes_of g sg) (whole_packets (packets g sg l))) laid.1 ∙ all ps laid.0 laid.2 few
  where
    all : (ps : List (List ℕ)) (layouts : List (List Item)) → AreLayouts g sg ps layouts → All (λ (p : List ℕ). length p ≤ most_of g sg) ps
        → map (bytes_of g sg) (whole_packets (packets g sg (flat_map (λ (layout : List Item). layout) layouts))) ≡ ps
    all [] [] h few = refl
    all [] (layout ∷ layouts) h few = absurd h
    all (p ∷ ps) [] h few = absurd h
    all (p ∷ ps) (layout ∷ layouts) h few =
        let made = layout_whole g sg lawful p layout h.0 (layout_few g sg p layout h.0 (All-head (λ (p : List ℕ). length p ≤ most_of g sg) p ps few)) in
        let cut = packets-at g sg (whole layout) (flat_map (λ (layout : List Item). layout) layouts) made.0 in
        ap (λ (l : List Packet). map (bytes_of g sg) (whole_packets l)) cut.0
        ∙ ap (λ (l : List (List ℕ)). bytes_of g sg layout ∷ l) (all ps layouts h.1 (All-tail (λ (p : List ℕ). length p ≤ most_of g sg) p ps few))
        ∙ ap (λ (l : List ℕ). l ∷ ps) made.1
