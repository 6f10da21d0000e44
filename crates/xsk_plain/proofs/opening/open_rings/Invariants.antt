use Rattle.std.proofs.Common.{◌≡◌, take}
use Rattle.std.specs.Prelude.{All}
use Rattle.xsk_model.specs.Sizes.{sizes_of}
use Rattle.xsk_plain.specs.Stores.{IsBlank, sizes_in}
use Rattle.xsk_plain.proofs.opening.open_rings.Given as goal

abbrev pub invariant-loop-place : goal.invariant-loop-place
invariant-loop-place l = record {
  sizes : sizes_in l.rings.items ≡ take l.place (sizes_of l.config);
  blank : All IsBlank l.rings.items;
}
