use Rattle.std.proofs.Common.{◌≡◌, ◌+◌, length}
use Rattle.xsk_c.specs.Purse.{with_frames}
use Rattle.xsk_c.proofs.purse.Purse.put_all.Given as goal

abbrev pub invariant-loop-i : goal.invariant-loop-i
invariant-loop-i l = record {
  frames : with_frames l.self.frames.items l.items ≡ with_frames l.initial.self.frames.items l.initial.items;
  count : length l.items + l.i ≡ length l.initial.items;
}
