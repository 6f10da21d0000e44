use Rattle.std.proofs.Common.{◌≡◌, ◌<◌, ℕ, List, Option, Some, None, get_or, ap, ◌∙◌, arith}
use Rattle.std.proofs.lemmas.List.FromFn.{get_or-map-range_with_len}
use Rattle.xsk_model.specs.Config.{callers_of}
use Rattle.xsk_table.specs.Held.{Board, Holder, new_pass}
use Rattle.xsk_table.specs.Opening.{new_passes}
use Rattle.test_workers.proofs.ends.callers.callers_of.Goals as goal

new_at : (b : Board) (w : ℕ) → w < callers_of b.setup.config → get_or (new_passes b) w None ≡ Some (new_pass b w)
new_at b w lt = get_or-map-range_with_len (λ who. Some (new_pass b who)) 0 (callers_of b.setup.config) w w None lt (omega arith)

pub take_driver-first-requires : goal.take_driver-first-requires
take_driver-first-requires c who low below = ap (λ (l : List (Option Holder)). get_or l who None) c.requires.passes ∙ new_at c.args.shared.now who below
