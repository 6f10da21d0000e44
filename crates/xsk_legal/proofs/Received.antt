-- Pieces one after the other, the last of them an end, are whole layouts, and the other way round.
use Rattle.std.proofs.Common.{◌≡◌, ◌⊎◌, inl, inr, Bool, true, false, List, [], ◌∷◌, ◌++◌, length, flat_map, refl, ap, ◌∙◌, arith}
use Rattle.std.specs.Prelude.{All, IsTrue}
use Rattle.std.proofs.lemmas.List.Elements.{All-nil, All-cons, All-head, All-tail}
use Rattle.xsk_umem.specs.Geometry.{Geometry}
use Rattle.xsk_umem.specs.declared.batch.Item.{Item}
use Rattle.xsk_model.specs.OtherWords.{NamesItsData, HaveLayoutLengths, IsShaped}
use Rattle.xsk_legal.specs.Pieces.{IsFull, IsEnd, ArePieces}

-- ---- layouts that follow each other

abbrev joined : List (List Item) → List Item
joined layouts = flat_map (λ (layout : List Item). layout) layouts

-- one item more in front of the first layout
abbrev onto : Item → List (List Item) → List (List Item)
onto item [] = (item ∷ []) ∷ []
onto item (layout ∷ layouts) = (item ∷ layout) ∷ layouts

onto-joined : (item : Item) (layouts : List (List Item)) → joined (onto item layouts) ≡ item ∷ joined layouts
onto-joined item [] = refl
onto-joined item (layout ∷ layouts) = refl

module _ (g : Geometry) (sg : Bool) where
  -- ---- from pieces to layouts

  ended : (item : Item) → NamesItsData g item → IsEnd g item → IsShaped g sg (item ∷ [])
  ended item named end = record {
    named = All-cons (NamesItsData g) item [] named (All-nil (NamesItsData g));
    lengths = (end.some, end.few, end.options);
    single = inr refl;
  }

  longer : (item : Item) (layout : List Item) → NamesItsData g item → IsFull g sg item → IsShaped g sg layout → IsShaped g sg (item ∷ layout)
  longer item [] named full h = absurd h.lengths
  longer item (next ∷ items) named full h = record {
    named = All-cons (NamesItsData g) item (next ∷ items) named h.named;
    lengths = (full.len, full.options, h.lengths);
    single = inl full.allowed;
  }

  onto-shaped : (item : Item) (layouts : List (List Item)) (next : Item) (items : List Item) → NamesItsData g item → IsFull g sg item
      → joined layouts ≡ next ∷ items → All (IsShaped g sg) layouts → All (IsShaped g sg) (onto item layouts)
  onto-shaped item [] next items named full e h = absurd (cc)
  onto-shaped item (layout ∷ layouts) next items named full e h =
      All-cons (IsShaped g sg) (item ∷ layout) layouts (longer item layout named full (All-head (IsShaped g sg) layout layouts h)) (All-tail (IsShaped g sg) layout layouts h)

  pub pieces_layouts : (item : Item) (items : List Item) → ArePieces g sg (item ∷ items)
      → (layouts : List (List Item)) × (joined layouts ≡ item ∷ items) × All (IsShaped g sg) layouts
  pieces_layouts item [] h = elim h.1 [
    | inl full ↦ absurd (let e : true ≡ false = full.0 in cc)
    | inr end ↦ ((item ∷ []) ∷ [], refl, All-cons (IsShaped g sg) (item ∷ []) [] (ended item h.0 end) (All-nil (IsShaped g sg)))
  ]
  pieces_layouts item (next ∷ items) h =
      let later = pieces_layouts next items h.1 in
      elim h.0.1 [
        | inl full ↦ (
          onto item later.0,
          onto-joined item later.0 ∙ ap (λ (xs : List Item). item ∷ xs) later.1,
          onto-shaped item later.0 next items h.0.0 full.1 later.1 later.2,
        )
        | inr end ↦ (
          (item ∷ []) ∷ later.0,
          ap (λ (xs : List Item). item ∷ xs) later.1,
          All-cons (IsShaped g sg) (item ∷ []) later.0 (ended item h.0.0 end) later.2,
        )
      ]

  -- ---- from layouts to pieces

  end_of : (item : Item) → HaveLayoutLengths g (item ∷ []) → IsEnd g item
  end_of item h = record { some = h.0; few = h.1; options = h.2 }

  layout_pieces : (layout rest : List Item) → All (NamesItsData g) layout → HaveLayoutLengths g layout → IsTrue sg ⊎ (length layout ≡ 1)
      → ArePieces g sg rest → ArePieces g sg (layout ++ rest)
  layout_pieces [] rest named lengths single h = absurd lengths
  layout_pieces (item ∷ []) [] named lengths single h = (All-head (NamesItsData g) item [] named, inr (end_of item lengths))
  layout_pieces (item ∷ []) (next ∷ rest) named lengths single h = ((All-head (NamesItsData g) item [] named, inr (end_of item lengths)), h)
  layout_pieces (item ∷ next ∷ items) rest named lengths single h =
      let allowed : IsTrue sg = elim single [ inl granted ↦ granted | inr one ↦ absurd (omega (arith, one)) ] in (
        (All-head (NamesItsData g) item (next ∷ items) named, inl (refl, record { allowed = allowed; len = lengths.0; options = lengths.1 })),
        layout_pieces (next ∷ items) rest (All-tail (NamesItsData g) item (next ∷ items) named) lengths.2 (inl allowed) h,
      )

  pub layouts_pieces : (layouts : List (List Item)) → All (IsShaped g sg) layouts → ArePieces g sg (joined layouts)
  layouts_pieces [] h = tt
  layouts_pieces (layout ∷ layouts) h =
      let first : IsShaped g sg layout = All-head (IsShaped g sg) layout layouts h in
      layout_pieces layout (joined layouts) first.named first.lengths first.single (layouts_pieces layouts (All-tail (IsShaped g sg) layout layouts h))
