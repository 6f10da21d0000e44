use Rattle.xsk_turns.proofs.AppSplit.{split_keeps_frames}
use Rattle.xsk_turns.proofs.laws.split_keeps_frames.Goals as goal

pub returns : goal.returns
returns c = split_keeps_frames
