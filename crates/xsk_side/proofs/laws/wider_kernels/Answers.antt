use Rattle.xsk_side.proofs.Wider.{wider_kernels}
use Rattle.xsk_side.proofs.laws.wider_kernels.Goals as goal

pub returns : goal.returns
returns c = wider_kernels
