use Rattle.std.proofs.Common.{ap, ◌∙◌, flat_map}
use Rattle.xsk_turns.specs.Turns.{frames_in}
use Rattle.xsk_driver.proofs.Giving.{frames_cut}
use Rattle.xsk_driver.proofs.finished.Finished.into_items.Goals as goal

pub returns : goal.returns
returns c = frames_cut c.self.inside.lengths.items c.self.inside.items.items c.self.invariant.0 ∙ ap (flat_map frames_in) c.self.view_is
