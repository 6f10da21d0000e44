use Rattle.std.proofs.Common.{◌≡◌, ◌++◌, take, drop}
use Rattle.xsk_why.specs.KeptFrames.{without_held}
use Rattle.xsk_why.proofs.held.place_of.Given as goal

abbrev pub invariant-loop-place : goal.invariant-loop-place
invariant-loop-place l = take l.place l.held ++ without_held l.who l.frame (drop l.place l.held) ≡ without_held l.who l.frame l.held
