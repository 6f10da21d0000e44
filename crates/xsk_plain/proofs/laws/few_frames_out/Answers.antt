use Rattle.xsk_plain.proofs.Legality.{few_frames_out}
use Rattle.xsk_plain.proofs.laws.few_frames_out.Goals as goal

pub returns : goal.returns
returns c = few_frames_out
