use Rattle.xsk_model.proofs.FrameTheorems.{reserve_finds}
use Rattle.xsk_model.proofs.laws.reserve_finds.Goals as goal

pub returns : goal.returns
returns c = reserve_finds
