use Rattle.std.proofs.Common.{rules}
use Rattle.xsk_model.proofs.RingSizes.{power_of_size, size_of_power}
use Rattle.xsk_model.proofs.parts.is_ring_size.Goals as goal

pub returns : goal.returns
returns c = (λ is. size_of_power c.args.size (search rules), λ size. rw c.is_power.ensures (search (rules, power_of_size c.args.size size)))
