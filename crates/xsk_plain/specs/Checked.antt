-- What holds of the parts of an engine that tells which calls are legal, between its calls.
use Rattle.std.specs.Prelude.{List}
use Rattle.xsk_umem.specs.Frame.{Frame}
use Rattle.xsk_model.specs.Entry.{Entry}
use Rattle.xsk_plain.specs.Histories.{HasRun, EachNotesOwn}
use Rattle.xsk_plain.specs.declared.checked.Checked.TheInside.{Inside}

-- its log is a legal history from the opening, and each caller's standing stands for its own calls and replies
pub record IsChecked (inside : Inside) : Type 0 where
  pub frames : List Frame
  pub history : List Entry
  pub run : HasRun inside.plain frames history
  pub noted : EachNotesOwn inside.plain.config history inside.standings.items
