use Rattle.xsk_turns.proofs.Verdicts.{own_setting}
use Rattle.xsk_turns.proofs.laws.own_setting.Goals as goal

pub returns : goal.returns
returns c = own_setting
