-- What is possible is what fits, call by call.
use Rattle.xsk_side.specs.Laws.{LocalForm}
use Rattle.xsk_side.proofs.Fits.{possible_fits}
use Rattle.xsk_side.proofs.Late.{fits_possible}

pub local_form : LocalForm
local_form s calls = (possible_fits s calls, fits_possible s calls)
