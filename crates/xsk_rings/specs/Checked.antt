-- What holds of a pass that tells which of its caller's calls are legal.
use Rattle.std.specs.Prelude.{◌≡◌}
use Rattle.xsk_model.specs.Entry.{own}
use Rattle.xsk_legal.specs.Noted.{Noted}
use Rattle.xsk_legal.specs.Standing.{StandsFor}
use Rattle.xsk_table.specs.View.{idle}
use Rattle.xsk_table.specs.Held.{Holder}

-- what is noted stands for the caller's own calls and replies
pub record NotesOwn (p : Holder) (kept : Noted) : Type 0 where
  pub caller : kept.who ≡ p.who
  pub stands : StandsFor p.view.setup.config kept (own p.who p.view.seen)

-- so it is between two calls
pub record IsChecked (p : Holder) (kept : Noted) : Type 0 where
  pub rests : p.view.flight ≡ idle
  pub noted : NotesOwn p kept
