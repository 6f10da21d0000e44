use Rattle.xsk_laws.proofs.ComingHome.{all_come_home}
use Rattle.xsk_laws.proofs.laws.all_come_home.Goals as goal

pub returns : goal.returns
returns c = all_come_home
