use Rattle.std.proofs.Common.{◌≡◌, ◌≤◌, []}
use Rattle.xsk_model.specs.Own.{room_of}
use Rattle.xsk_model.specs.declared.call.Ring.TheVariants.{Rx}
use Rattle.xsk_rings.specs.Rounds.{Rests, mine_of}
use Rattle.bench_rings.proofs.moving.driver_moves.Given as goal

abbrev pub invariant-rounds : goal.invariant-rounds
invariant-rounds l = Rests l.shared l.pass × (l.pass.who ≡ 0) × (l.fn.most ≤ room_of (Rx 0) (mine_of l.pass)) × (l.items ≡ [])
