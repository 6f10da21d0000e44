use Rattle.std.proofs.Common.{◌≡◌, ℕ, ◌*◌, ◌<◌, ◌≤◌, length, take, drop, get_or}
use Rattle.xsk_model.specs.Opening.{home_ring}
use Rattle.xsk_plain.specs.declared.ring_store.RingStore.{RingStore}
use Rattle.xsk_plain.specs.Engine.{seen}
use Rattle.xsk_plain.specs.Kept.{AllKept}
use Rattle.xsk_log.specs.Notes.{Notes}
use Rattle.xsk_plain.specs.Stores.{IsBlank, part_of, sizes_in}
use Rattle.xsk_plain.proofs.opening.fill_pools.Given as goal

abbrev pub invariant-loop-pair : goal.invariant-loop-pair
invariant-loop-pair l = record {
  sizes : sizes_in l.rings ≡ sizes_in l.initial.rings;
  home : l.home ≡ record l.initial.home { items = drop (l.pair * l.pool) l.initial.home.items };
  filled : (k : ℕ) (d : RingStore) → k < l.pair → part_of (get_or l.rings k d) ≡ seen (home_ring l.config.geometry (take l.pool (drop (k * l.pool) l.initial.home.items)));
  blank : (k : ℕ) (d : RingStore) → l.pair ≤ k → k < length l.rings → IsBlank (get_or l.rings k d);
  kept : (notes : Notes) → AllKept l.config notes l.rings;
}
