use Rattle.std.proofs.Common.{◌≡◌, ◌≤◌, ◌+◌, []}
use Rattle.xsk_model.specs.Own.{room_of}
use Rattle.xsk_rings.specs.Rounds.{Rests, mine_of}
use Rattle.bench_rings.proofs.moving.gets_room.Given as goal

abbrev pub invariant-tries : goal.invariant-tries
invariant-tries l = Rests l.shared l.pass × (l.pass.who ≡ l.fn.pass.who) × (l.fn.most ≤ room_of l.fn.sink (mine_of l.pass) + l.fn.count) × (l.items ≡ [])
