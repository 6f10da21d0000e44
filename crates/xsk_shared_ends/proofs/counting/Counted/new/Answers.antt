use Rattle.std.proofs.Common.{List, length, sym, ap}
use Rattle.xsk_model.specs.Entry.{Told}
use Rattle.xsk_turns.specs.Statistics.{capped}
use Rattle.xsk_shared_ends.proofs.counting.Counted.new.Goals as goal

pub invariant_of-result : goal.invariant_of-result
invariant_of-result c = ap (λ (l : List Told). capped (length l)) (sym c.requires)
