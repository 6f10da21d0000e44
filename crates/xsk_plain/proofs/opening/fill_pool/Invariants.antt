use Rattle.std.proofs.Common.{◌≡◌, take, drop, map}
use Rattle.xsk_plain.specs.Stores.{Has, home_stored}
use Rattle.xsk_plain.proofs.opening.fill_pool.Given as goal

abbrev pub invariant-loop : goal.invariant-loop
invariant-loop l = record {
  ring : Has l.store (map (home_stored l.geometry) (take l.counter l.initial.home.items)) 0 0 l.initial.store.size;
  home : l.home ≡ record l.initial.home { items = drop l.counter l.initial.home.items };
}
