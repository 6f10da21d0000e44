use Rattle.std.proofs.Common.{◌≡◌, ◌+◌, ◌*◌, drop, length}
use Rattle.xsk_hints.specs.Noted.{all_counted}
use Rattle.xsk_hints.proofs.hints.count_all.Given as goal

abbrev pub invariant-loop-entry : goal.invariant-loop-entry
invariant-loop-entry l =
    (all_counted l.setting l.fn.metadata l.fn.line l.fn.ring (drop l.entry-index l.entries) l.tallies.items
    ≡ all_counted l.setting l.fn.metadata l.fn.line l.fn.ring l.entries l.initial.tallies.items)
    × (length l.tallies.items ≡ (length l.setting.pairs + length l.setting.sockets) * 6)
