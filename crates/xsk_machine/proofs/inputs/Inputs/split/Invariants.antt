use Rattle.std.proofs.Common.{◌≡◌, take, map}
use Rattle.std.specs.Vec.{vec_items}
use Rattle.xsk_turns.specs.Inputs.{numbers_of}
use Rattle.xsk_machine.proofs.inputs.Inputs.split.Given as goal

abbrev pub invariant-loop-pair : goal.invariant-loop-pair
invariant-loop-pair l = map vec_items l.numbers.items ≡ map (numbers_of l.config l.packets) (take l.pair-index l.config.pairs)
