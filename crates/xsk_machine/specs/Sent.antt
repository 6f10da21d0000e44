-- What contracts see of what a run comes to: for each pair the packets that its driver sent, and the figures.
use Rattle.std.specs.Prelude.{ℕ, List}
use Rattle.xsk_machine.specs.declared.figures.Figures.{Figures}

pub record SentShown : Type 0 where
  pub lists : List (List (List ℕ))
  pub figures : Figures
