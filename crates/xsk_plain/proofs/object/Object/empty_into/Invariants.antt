use Rattle.std.proofs.Common.{◌≡◌, ◌+◌, ◌≤◌, ◌++◌, length}
use Rattle.xsk_plain.specs.Engine.{frames_out}
use Rattle.xsk_plain.specs.Stores.{parts_of}
use Rattle.xsk_plain.proofs.object.Object.empty_into.Given as goal

abbrev pub invariant-loop-store : goal.invariant-loop-store
invariant-loop-store l = record {
  limit : l.home.limit ≡ l.initial.home.limit;
  frames : length l.initial.home.items + length (frames_out (parts_of l.yielded)) ≤ l.initial.home.limit → l.home.items ≡ l.initial.home.items ++ frames_out (parts_of l.yielded);
}
