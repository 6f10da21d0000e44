use Rattle.xsk_model.proofs.Least.{least-append}
use Rattle.xsk_model.proofs.config.Config.batch.Goals as goal

pub returns : goal.returns
returns c = rw (← c.self.view_is, least-append, c.least_of_sockets.ensures, c.as_slice-2.ensures.value, c.least_of_pairs-size.ensures, c.as_slice.ensures.value)
