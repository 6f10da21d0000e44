-- Of layouts that follow one another no packet is bad, and none is unfinished.
use Rattle.std.proofs.Common.{◌≡◌, ◌≤◌, ℕ, Bool, All, List, [], ◌∷◌, length, map, refl, ap, ◌∙◌}
use Rattle.std.proofs.lemmas.List.Elements.{All-nil, All-cons, All-head, All-tail}
use Rattle.xsk_turns.proofs.Calls.{Item}
use Rattle.xsk_turns.proofs.Object.{Geometry, IsGeometry, whole, packets, rest, IsWhole}
use Rattle.xsk_model.proofs.LayoutLaws.{layout_whole}
use Rattle.xsk_model.proofs.PacketsLaws.{packets-wholes}
use Rattle.xsk_model.specs.Packets.{bad_items}
use Rattle.xsk_turns.specs.Turns.{bad_ones}
use Rattle.xsk_turns.specs.Law.{AreLayouts, IsLaidOut}
use Rattle.xsk_laws.proofs.Wholes.{most_of, layout_few}

module _ (g : Geometry) (sg : Bool) (lawful : IsGeometry g) where
  abbrev Short : List ℕ → Type 0
  Short p = length p ≤ most_of g sg

  all_whole : (ps : List (List ℕ)) (layouts : List (List Item)) → AreLayouts g sg ps layouts → All Short ps → All (IsWhole g sg) layouts
  all_whole [] [] h few = All-nil (IsWhole g sg)
  all_whole [] (layout ∷ layouts) h few = absurd h
  all_whole (p ∷ ps) [] h few = absurd h
  all_whole (p ∷ ps) (layout ∷ layouts) h few =
      All-cons (IsWhole g sg) layout layouts (layout_whole g sg lawful p layout h.0 (layout_few g sg p layout h.0 (All-head Short p ps few))).0
      (all_whole ps layouts h.1 (All-tail Short p ps few))

  none_bad : (groups : List (List Item)) → bad_ones (map whole groups) ≡ []
  none_bad [] = refl
  none_bad (group ∷ groups) = none_bad groups

  no_bad_items : (groups : List (List Item)) → bad_items (map whole groups) ≡ 0
  no_bad_items [] = refl
  no_bad_items (group ∷ groups) = no_bad_items groups

  pub laid_packets : (ps : List (List ℕ)) (items : List Item) → IsLaidOut g sg ps items → All Short ps → (bad_ones (packets g sg items) ≡ []) × (rest g sg items ≡ [])
  laid_packets ps items laid few =
      let made = packets-wholes g sg laid.0 (all_whole ps laid.0 laid.2 few) in
      (ap (λ xs. bad_ones (packets g sg xs)) laid.1 ∙ ap bad_ones made.0 ∙ none_bad laid.0, ap (rest g sg) laid.1 ∙ made.1)

  pub laid_items : (ps : List (List ℕ)) (items : List Item) → IsLaidOut g sg ps items → All Short ps → (bad_items (packets g sg items) ≡ 0) × (rest g sg items ≡ [])
  laid_items ps items laid few =
      let made = packets-wholes g sg laid.0 (all_whole ps laid.0 laid.2 few) in
      (ap (λ xs. bad_items (packets g sg xs)) laid.1 ∙ ap bad_items made.0 ∙ no_bad_items laid.0, ap (rest g sg) laid.1 ∙ made.1)
