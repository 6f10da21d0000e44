use Rattle.std.proofs.Common.{◌≡◌, ◌++◌, drop}
use Rattle.xsk_model.specs.Numbers.{numbers}
use Rattle.xsk_log.specs.Items.{next_items}
use Rattle.xsk_log.specs.Left.{left_of}
use Rattle.xsk_why.specs.KeptFrames.{all_by}
use Rattle.xsk_why.proofs.held.take_items.Given as goal

abbrev pub invariant-loop-i : goal.invariant-loop-i
invariant-loop-i l =
    l.held.items ++ all_by l.who (numbers (drop l.i (next_items (left_of l.lines))))
    ≡ l.initial.held.items ++ all_by l.who (numbers (next_items (left_of l.lines)))
