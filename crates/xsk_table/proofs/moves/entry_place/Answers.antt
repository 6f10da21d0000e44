use Rattle.xsk_table.proofs.Moving.{masked}
use Rattle.xsk_table.proofs.moves.entry_place.Goals as goal

pub returns : goal.returns
returns c = masked c.args.count c.args.mask c.requires
