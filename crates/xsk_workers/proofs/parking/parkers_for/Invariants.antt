use Rattle.std.proofs.Common.{◌≡◌, map, length, vec_items}
use Rattle.xsk_workers.specs.Parking.{token_of, token_in}
use Rattle.xsk_workers.proofs.parking.parkers_for.Given as goal

abbrev pub invariant-loop : goal.invariant-loop
invariant-loop l = (length (vec_items l.parkers) ≡ l.counter) × (map token_in (vec_items l.parkers) ≡ map token_of (vec_items l.wakers))
