use Rattle.std.proofs.Common.{refl}
use Rattle.xsk_umem.proofs.batch.Batch.new.Goals as goal

pub returns : goal.returns
returns c = refl
