-- An application by several hands.
use Rattle.std.specs.Prelude.{◌≡◌, ℕ, ◌⊎◌, Bool, false, Option, None, List, [], ◌∷◌}
use Rattle.std.specs.List.{slice_get}
use Rattle.atomic_table.specs.Seated.{TableId}
use Rattle.xsk_model.specs.Config.{Config}
use Rattle.xsk_model.specs.Rings.{caller_of}
use Rattle.xsk_turns.specs.AppTurns.{pair_of, lanes_of, both}
use Rattle.xsk_turns.specs.AppSplit.{AtLane, AtSide, AtMarks, IsWholeSplitRun}
use Rattle.xsk_turns.specs.Workers.{Setting}
use Rattle.xsk_table.specs.Held.{Board}
use Rattle.xsk_rings.specs.Rounds.{mine_of}
use Rattle.xsk_shared_ends.specs.Shown.{Name, EndsShown, Makes, IsFoundEmpty}
use Rattle.xsk_shared_ends.specs.Last.{LastShown}
use Rattle.xsk_shared_ends.specs.declared.visiting.Step.{Step}
use Rattle.xsk_shared_ends.specs.declared.visiting.Step.TheVariants.{Idle, Moved}
use Rattle.xsk_workers.specs.Crew.{Seat}
use Rattle.xsk_workers.specs.Shown.{seat_with}

-- so many hands an application may have
abbrev pub AreHands : ℕ → Type 0
AreHands hands = (hands ≡ 1) ⊎ (hands ≡ 2) ⊎ (hands ≡ 4)

-- a configuration that so many hands can run: several close no socket
abbrev pub SuitHands : ℕ → Config → Type 0
SuitHands hands c = (hands ≡ 1) ⊎ (c.closing ≡ None)

-- ends with this name are of this table
abbrev pub IsNameOn : Board → Name → Type 0
IsNameOn b n = (n.board.table ≡ b.table) × (n.board.setup ≡ b.setup)

abbrev pub lanes_named : Name → ℕ
lanes_named n = lanes_of n.board.setup.config

-- a visit to a lane of ends was made, to a side, and a look at the marks of their drivers, and this came of it
abbrev pub LaneCame : ℕ → EndsShown → EndsShown → Step → Type 0
LaneCame lane old new came = Makes (AtLane lane) old new came × (came ≡ Idle → IsFoundEmpty lane old new)

abbrev pub SideCame : ℕ → EndsShown → EndsShown → Step → Type 0
SideCame side old new came = Makes (AtSide side) old new came

abbrev pub MarksTold : EndsShown → EndsShown → Bool → Type 0
MarksTold old new told = Makes AtMarks old new Moved × (told ≡ both new.kept.seen)

-- the pairs of the sides of an application with this number as a caller
abbrev pub AreSides : Config → ℕ → List ℕ → Type 0
AreSides c who pairs = (app : ℕ) × (who ≡ caller_of c app) × (pairs ≡ pair_of c app 0 ∷ pair_of c app 1 ∷ [])

-- the tokens of the drivers of its sides, by those of all drivers
abbrev pub AreTokensOf : List TableId → Config → ℕ → Option TableId → Option TableId → Type 0
AreTokensOf tokens c who first second = (app : ℕ) × (who ≡ caller_of c app) × (first ≡ slice_get tokens (pair_of c app 0)) × (second ≡ slice_get tokens (pair_of c app 1))

-- an application by several hands: the setting, and what its last hand shows
pub record TeamShown : Type 0 where
  pub setting : Setting
  pub last : LastShown

abbrev pub team_seat : TeamShown → Seat
team_seat t = seat_with t.setting t.last.pass false

-- the seat of a setting's caller with ends of this name, where they go together: they have one caller, whose sides have these pairs,
-- and the setting is that of the ends' table
abbrev pub named_seat : Setting → Name → Seat
named_seat s n = record { setting = s; table = n.board.table; setup = n.board.setup; who = n.who; alone = false }

abbrev pub GoesWith : Setting → ℕ → List ℕ → Name → Type 0
GoesWith s who pairs n = (who ≡ n.who) × (n.board.setup.config ≡ s.config) × AreSides s.config who pairs

-- it is an application of the setting's configuration, which is its table's
pub record IsTeam (t : TeamShown) : Type 0 where
  pub config : t.last.config ≡ t.setting.config
  pub setup : t.last.pass.view.setup.config ≡ t.setting.config
  pub caller : t.last.pass.who ≡ caller_of t.setting.config t.last.app

-- its calls and replies, as far as its pass has seen, which are all of them, are a whole split run
pub record TeamHasRun (t : TeamShown) : Type 0 where
  pub team : IsTeam t
  pub whole : IsWholeSplitRun t.setting.config t.last.app (mine_of t.last.pass)
