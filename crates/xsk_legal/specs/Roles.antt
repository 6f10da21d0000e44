-- Which pair is that of a port's queue.
use Rattle.std.specs.Prelude.{◌≡◌, ℕ, ◌<◌, List, length}
use Rattle.xsk_model.specs.Config.{pair_at}
use Rattle.xsk_model.specs.declared.config.PairInfo.{PairInfo}

abbrev pub IsPairAt : List PairInfo → ℕ → ℕ → ℕ → Type 0
IsPairAt pairs d port queue = (d < length pairs) × ((pair_at pairs d).port ≡ port) × ((pair_at pairs d).queue ≡ queue)
