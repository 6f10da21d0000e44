use Rattle.xsk_turns.proofs.AppWaking.{only_sets_kicks}
use Rattle.xsk_turns.proofs.laws.only_sets_kicks.Goals as goal

pub returns : goal.returns
returns c = only_sets_kicks
