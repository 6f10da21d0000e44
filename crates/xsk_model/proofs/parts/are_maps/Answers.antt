use Rattle.std.proofs.Common.{rules, ◌≡◌, ◌<◌, map, length, get_or, inl, inr, subst, sym, arith, ap, ◌∙◌}
use Rattle.std.specs.Prelude.{IsTrue}
use Rattle.std.specs.Vec.{vec_items}
use Rattle.std.proofs.lemmas.List.{get_or-map, length-map}
use Rattle.std.proofs.lemmas.Bool.{cases_lt}
use Rattle.xsk_model.specs.Config.{IsMap}
use Rattle.xsk_model.proofs.parts.are_maps.Goals as goal

pub returns-then-not-is_map : goal.returns-then-not-is_map
returns-then-not-is_map c =
    let below : c.loop-k.k < length c.args.cells.now = search rules in
    let here : get_or (map vec_items c.args.cells.now) c.loop-k.k c.as_slice.result.now ≡ c.as_slice.result.now =
    get_or-map vec_items c.args.cells.now c.loop-k.k c.index-cells-k.result c.as_slice.result.now below ∙ ap vec_items (sym c.index-cells-k.is) ∙ sym c.as_slice.ensures.value in
    let within : c.loop-k.k < length (map vec_items c.args.cells.now) = rw (length-map c.args.cells.now vec_items) below in (
      λ is. absurd (cc),
      λ all.
          let told : IsTrue c.is_map.result = c.is_map.ensures.1 (subst (IsMap c.args.sockets) here (all c.loop-k.k c.as_slice.result.now within)) in
          search (rules, told),
    )

pub loop-k-preserved : goal.loop-k-preserved
loop-k-preserved c = λ i none first.
    let below : c.loop-k.k < length c.args.cells.now = search rules in
    let here : get_or (map vec_items c.args.cells.now) c.loop-k.k none ≡ c.as_slice.result.now =
    get_or-map vec_items c.args.cells.now c.loop-k.k c.index-cells-k.result none below ∙ ap vec_items (sym c.index-cells-k.is) ∙ sym c.as_slice.ensures.value in
    elim (cases_lt i c.loop-k.k) [
      | inl before ↦ c.loop-k.invariant i none before
      | inr behind ↦
          let same : i ≡ c.loop-k.k = omega arith in
          rw (same, here) (search rules)
    ]
