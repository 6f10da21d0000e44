use Rattle.std.proofs.Common.{ℕ, ◌≤◌, ◌<◌, ◌+◌, get_or}
use Rattle.std.specs.Prelude.{IsTrue}
use Rattle.xsk_umem.specs.declared.batch.XdpDesc.{XdpDesc}
use Rattle.xsk_judge.specs.Kept.{numbered}
use Rattle.xsk_judge.specs.Judging.{is_latest}
use Rattle.xsk_judge.proofs.following.are_latest.Given as goal

abbrev pub invariant-loop-k : goal.invariant-loop-k
invariant-loop-k l = (i : ℕ) (d : XdpDesc) → l.start ≤ i → i < l.start + l.k → IsTrue (is_latest l.setting l.frames l.ring (numbered l.queue.first i) (get_or l.queue.entries i d))
