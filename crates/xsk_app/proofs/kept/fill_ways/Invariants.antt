use Rattle.std.proofs.Common.{◌≡◌, ℕ, List, length}
use Rattle.xsk_model.specs.Config.{Config}
use Rattle.xsk_app.proofs.Ways.{AllAre}
use Rattle.xsk_app.specs.declared.machine.Way.{Way}
use Rattle.xsk_app.proofs.kept.fill_ways.Given as goal

pub record IsSoFar (c : Config) (app lanes : ℕ) (ways : List Way) : Type 0 where
  pub count : length ways ≡ lanes
  pub each : AllAre c app ways

abbrev pub invariant-loop-lane : goal.invariant-loop-lane
invariant-loop-lane l = IsSoFar l.config l.app l.lane l.ways.items
