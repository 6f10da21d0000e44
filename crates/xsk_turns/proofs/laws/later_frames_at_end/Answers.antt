use Rattle.xsk_turns.proofs.AppSplit.{later_frames_at_end}
use Rattle.xsk_turns.proofs.laws.later_frames_at_end.Goals as goal

pub returns : goal.returns
returns c = later_frames_at_end
