-- A list of frames, with the number of frames that it has room for.
use Rattle.std.specs.Prelude.{ℕ, List}
use Rattle.xsk_umem.specs.Frame.{Frame}

pub record Frames : Type 0 where
  pub items : List Frame
  pub limit : ℕ
