use Rattle.xsk_model.proofs.LayoutLaws.{one_cut}
use Rattle.xsk_desc.proofs.laws.one_cut.Goals as goal

pub returns : goal.returns
returns c = one_cut
