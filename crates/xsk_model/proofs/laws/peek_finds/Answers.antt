use Rattle.xsk_model.proofs.FrameTheorems.{peek_finds}
use Rattle.xsk_model.proofs.laws.peek_finds.Goals as goal

pub returns : goal.returns
returns c = peek_finds
