use Rattle.std.proofs.Common.{◌≡◌, true}
use Rattle.xsk_turns.specs.AppTurns.{both}
use Rattle.xsk_shared_ends.specs.Shown.{AreSame}
use Rattle.xsk_shared_ends.proofs.Emptying.{IsEmptyUpTo}
use Rattle.xsk_shared_ends.proofs.sharing.visit_lanes.Given as goal

abbrev pub invariant-loop-lane : goal.invariant-loop-lane
invariant-loop-lane l = record { same : AreSame l.initial.ends l.ends; found : l.empty ≡ true → both l.initial.ends.kept.seen ≡ true → IsEmptyUpTo l.ends l.lane }
