-- Frames that stand in the order of their numbers.
use Rattle.std.specs.Prelude.{◌≡◌, ⊤, ℕ, ◌+◌, List, [], ◌∷◌, length}
use Rattle.xsk_umem.specs.Frame.{Frame}

-- a frame has this number and so many bytes
abbrev pub IsInPlace : ℕ → ℕ → Frame → Type 0
IsInPlace chunk number frame = (frame.number ≡ number) × (length frame.bytes ≡ chunk)

-- each frame has so many bytes, and their numbers go up by one from this one on
abbrev pub AreInPlace : ℕ → ℕ → List Frame → Type 0
AreInPlace chunk number [] = ⊤
AreInPlace chunk number (frame ∷ frames) = IsInPlace chunk number frame × AreInPlace chunk (number + 1) frames
