use Rattle.xsk_sides.proofs.Journals.{two_parties}
use Rattle.xsk_sides.proofs.laws.two_parties.Goals as goal

pub returns : goal.returns
returns c = two_parties
