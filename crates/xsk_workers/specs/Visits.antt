-- What came of a hand's steps, each of which it makes on the value of its lock.
use Rattle.std.specs.Prelude.{◌≡◌, ℕ, ◌<◌, ◌≤◌, bit_and, Bool, true}
use Rattle.xsk_lock.specs.Held.{Face}
use Rattle.xsk_shared_ends.specs.declared.visiting.Step.{Step}
use Rattle.xsk_shared_ends.specs.declared.visiting.Step.TheVariants as step
use Rattle.xsk_workers.specs.declared.came.Came.{Came}
use Rattle.xsk_workers.specs.declared.came.Came.TheVariants.{Idle, Full, Moved}
use Rattle.xsk_workers.specs.declared.hands.HandTurn.{HandTurn}
use Rattle.xsk_workers.specs.declared.hands.HandTurn.TheVariants.{Over, GoesOn}
use Rattle.xsk_workers.specs.declared.hands.Share.{Share}

-- what came of one step, and of two together: something moved where it did in one of them, and else a ring was full where one was
abbrev pub came_of : Step → Came
came_of step.Idle = Idle
came_of (step.Full free) = Full
came_of step.Moved = Moved

abbrev pub together : Came → Came → Came
together Idle other = other
together Full Idle = Full
together Full Full = Full
together Full Moved = Moved
together Moved other = Moved

-- a share has the lanes whose number has one of its places in the bits of its mask
abbrev pub Has : Share → ℕ → Type 0
Has share lane = (share.first ≤ bit_and lane share.mask) × (bit_and lane share.mask < share.past)

module _ {T N : Type 0} (name : T → N) (lock : Face N) where
  -- a step was made on the lock's value, and this came of it
  pub record CameOf {A : Type 0} (IsStep : T → T → A → Type 0) (came : A) : Type 0 where
    pub old : T
    pub new : T
    pub was : name old ≡ lock.name
    pub is : name new ≡ lock.name
    pub step : IsStep old new came

  module _ (LaneCame : ℕ → T → T → Step → Type 0) where
    -- Of so many lanes each that the share has was visited, and this came of all together: no less than what came of each, and where
    -- it isn't Idle just what came of some.
    pub record WereVisited (share : Share) (lanes : ℕ) (came : Came) : Type 0 where
      pub each : (lane : ℕ) → lane < lanes → Has share lane → (one : Step) × CameOf (LaneCame lane) one × (together (came_of one) came ≡ came)
      pub some : (came ≡ Idle → ⊥) → (lane : ℕ) × (lane < lanes) × Has share lane × (one : Step) × CameOf (LaneCame lane) one × (came_of one ≡ came)

    -- each of them was found empty
    abbrev pub WereEmpty : Share → ℕ → Type 0
    WereEmpty share lanes = (lane : ℕ) → lane < lanes → Has share lane → CameOf (LaneCame lane) step.Idle

  -- both sides were visited, and this came of both together
  abbrev pub WereBothVisited : (ℕ → T → T → Step → Type 0) → Came → Type 0
  WereBothVisited SideCame came = (first second : Step) × CameOf (SideCame 0) first × CameOf (SideCame 1) second × (came ≡ together (came_of first) (came_of second))

  -- A turn of a hand that knows or doesn't know that both drivers have told that they have no further packet: it has ended only where it
  -- does, and each of its lanes was found empty; and else it visited these, both sides and the marks, and this came of them.
  abbrev pub IsHandTurn : (LaneCame SideCame : ℕ → T → T → Step → Type 0) → (T → T → Bool → Type 0) → Share → Bool → HandTurn → Type 0
  IsHandTurn LaneCame SideCame MarksTold share told Over = (told ≡ true) × WereEmpty LaneCame share share.lanes
  IsHandTurn LaneCame SideCame MarksTold share told (GoesOn now came) = (lanes sides : Came) × WereVisited LaneCame share share.lanes lanes × WereBothVisited SideCame sides × (came ≡ together lanes sides) × CameOf MarksTold now

  -- a hand has ended: both drivers had told it, and each of its lanes was found empty
  pub record HasEnded (LaneCame : ℕ → T → T → Step → Type 0) (MarksTold : T → T → Bool → Type 0) (share : Share) : Type 0 where
    pub told : CameOf MarksTold true
    pub empty : WereEmpty LaneCame share share.lanes
