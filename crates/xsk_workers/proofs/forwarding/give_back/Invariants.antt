use Rattle.std.proofs.Common.{◌≡◌, ℕ, ◌+◌, ◌≤◌, length, map, vec_items, vec_capacity}
use Rattle.std.specs.Vec.Iter.{into_iter_items}
use Rattle.xsk_turns.specs.Statistics.{capped}
use Rattle.xsk_turns.specs.Workers.{Setting}
use Rattle.xsk_model.specs.Config.{callers_of}
use Rattle.xsk_workers.specs.Gathering.{HaveRun, HaveRunFrom, AreGiven, AreSent, AreFiguresOf, calls_in}
use Rattle.xsk_workers.specs.Forwarded.{packets_in}
use Rattle.xsk_workers.proofs.forwarding.give_back.Given as goal

-- in a setting of the members those that are left have run, the others' passes are given back, and what is left of them is kept
abbrev pub invariant-loop-member : goal.invariant-loop-member
invariant-loop-member g l =
    let n : ℕ = length l.yielded in
    ((hands : ℕ) (s : Setting) → HaveRun g.W.Leaves.pass g.W.Leaves.leaves l.shared hands s (vec_items l.fn.members)
    → HaveRunFrom g.W.Leaves.pass g.W.Leaves.leaves l.shared hands s n (into_iter_items l.member-iterator) × AreGiven l.shared hands s n l.passes × AreSent s n l.passes (map packets_in (vec_items l.kept.sent))
    × AreFiguresOf s n l.passes (vec_items l.kept.figures))
    × (n + length (into_iter_items l.member-iterator) ≡ callers_of l.shared.setup.config)
    × (l.calls ≡ capped (calls_in 0 l.passes))
    × (length l.shared.setup.config.pairs ≤ vec_capacity l.kept.figures)
    × (length l.shared.setup.config.pairs ≤ vec_capacity l.kept.sent)
