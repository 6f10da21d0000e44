use Rattle.std.proofs.Common.{◌≡◌, drop}
use Rattle.std.specs.List.{flat_map}
use Rattle.xsk_model.specs.Config.{pair_sizes, least}
use Rattle.xsk_model.proofs.config.least_of_pairs.Given as goal

-- the rest leads from the size so far to the answer
abbrev pub invariant-loop-pair : goal.invariant-loop-pair
invariant-loop-pair l = least l.size (flat_map pair_sizes (drop l.pair-index l.pairs)) ≡ least l.start (flat_map pair_sizes l.pairs)
