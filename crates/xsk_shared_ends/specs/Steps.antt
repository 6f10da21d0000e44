-- What a step tells.
use Rattle.std.specs.Prelude.{List}
use Rattle.std.specs.List.{fold}
use Rattle.xsk_model.specs.Entry.{Told}
use Rattle.xsk_model.specs.declared.call.Reply.{Reply}
use Rattle.xsk_model.specs.declared.call.Reply.TheVariants.{Granted, Full, Submitted, Items, Empty, Released, Old}
use Rattle.xsk_shared_ends.specs.declared.visiting.Step.{Step}
use Rattle.xsk_shared_ends.specs.declared.visiting.Step.TheVariants as step

-- What came of a step, by its replies: nothing was there to take where its Peek was answered Empty, a ring had no room but so much
-- where a Reserve was answered so, and else it moved what it took.
abbrev pub came_by : Step → Reply → Step
came_by came Granted = came
came_by came (Full free) = step.Full free
came_by came Submitted = came
came_by came (Items items) = came
came_by came Empty = step.Idle
came_by came Released = came
came_by came (Old number) = came

abbrev pub came_step : Step → Told → Step
came_step came t = came_by came t.reply

abbrev pub came_of : List Told → Step
came_of l = fold came_step step.Moved l
