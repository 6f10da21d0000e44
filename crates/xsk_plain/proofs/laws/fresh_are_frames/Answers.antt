use Rattle.xsk_plain.proofs.Legality.{fresh_are_frames}
use Rattle.xsk_plain.proofs.laws.fresh_are_frames.Goals as goal

pub returns : goal.returns
returns c = fresh_are_frames
