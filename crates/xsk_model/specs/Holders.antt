-- Who holds a frame: a caller that has it, or a ring in which it is out. A frame that a ring holds after a Peek is with
-- the caller that peeked it.
use Rattle.std.specs.Prelude.{◌≡◌, ℕ, ◌<◌, ◌≤◌, List, ◌++◌, flat_map}
use Rattle.xsk_model.specs.Numbers.{times, numbers}
use Rattle.xsk_model.specs.Object.{RingState, State}

abbrev pub out_numbers : RingState → List ℕ
out_numbers ring = numbers ring.out

-- the frame numbers of all callers, and those of all rings, one list after the other
abbrev pub holders : State → List ℕ
holders s = flat_map (λ (had : List ℕ). had) s.had ++ flat_map out_numbers s.rings

-- each of so many frames has one holder, and no further number stands anywhere
pub record HasOneHolder (frames : ℕ) (s : State) : Type 0 where
  pub one : (n : ℕ) → n < frames → times n (holders s) ≡ 1
  pub none : (n : ℕ) → frames ≤ n → times n (holders s) ≡ 0
