-- The last hand: it makes turns on the ends alone, and then runs the application's machine from what they left.
use Rattle.std.specs.Prelude.{◌≡◌, ℕ, ◌<◌, Bool, true, Option, List, [], ◌∷◌, ◌++◌}
use Rattle.xsk_umem.specs.declared.batch.Item.{Item}
use Rattle.xsk_model.specs.Config.{Config}
use Rattle.xsk_model.specs.Ends.{draining_of}
use Rattle.xsk_model.specs.Entry.{Told}
use Rattle.xsk_model.specs.Expected.{expected_of}
use Rattle.xsk_model.specs.Rings.{caller_of}
use Rattle.xsk_model.specs.declared.ask.Ask.{Ask}
use Rattle.xsk_model.specs.declared.call.Mark.TheVariants.{RxDone}
use Rattle.xsk_model.specs.declared.call.Ring.TheVariants.{Rx}
use Rattle.xsk_turns.specs.AppTurns.{AppKept, pair_of, rx_of, lanes_of}
use Rattle.xsk_turns.specs.AppOwned.{HasOwnFrames}
use Rattle.xsk_turns.specs.AppSplit.{IsSplit}
use Rattle.xsk_turns.specs.Stepping.{joined_ask, IsGivenBack}
use Rattle.xsk_table.specs.View.{idle}
use Rattle.xsk_table.specs.Held.{Holder}
use Rattle.xsk_rings.specs.Rounds.{mine_of}
use Rattle.xsk_app.specs.Resumed.{StandsFromWith}
use Rattle.xsk_app.specs.Shown.{Shown as AppShown}
use Rattle.xsk_shared_ends.specs.Shown.{EndsShown}

-- each lane's RX ring was found empty, after both drivers had told that they have no further packet
abbrev pub AreDrained : Config → ℕ → List Told → Type 0
AreDrained c app l = (lane : ℕ) → lane < lanes_of c → (draining_of (RxDone (pair_of c app 0) ∷ RxDone (pair_of c app 1) ∷ []) (Rx (rx_of c app lane)) l).empty ≡ true

-- an application with its pass, and whether its ends are there
pub record LastShown : Type 0 where
  pub config : Config
  pub app : ℕ
  pub pass : Holder
  pub has_ends : Bool

-- What the type of the application's run keeps: its calls and replies are steps, by which each lane was found empty, and those of the
-- machine that stands for the rest.
pub record AreLeft (app : AppShown) (ask : Option Ask) (items : List Item) (p : Holder) : Type 0 where
  pub rests : p.view.flight ≡ idle
  pub config : p.view.setup.config ≡ app.config
  pub caller : p.who ≡ caller_of app.config app.app
  pub awaits : app.expected ≡ expected_of (joined_ask ask items)
  pub given_back : IsGivenBack ask items
  pub own : HasOwnFrames app.config app.app (mine_of p)
  pub start : AppKept
  pub past : List Told
  pub later : List Told
  pub mine : mine_of p ≡ past ++ later
  pub split : IsSplit app.config app.app past start
  pub drained : AreDrained app.config app.app past
  pub stands : StandsFromWith app.config app.app start past app (joined_ask ask items) later

-- what is seen of ends
abbrev pub shown_of_ends : EndsShown → LastShown
shown_of_ends e = record { config = e.config; app = e.app; pass = e.pass; has_ends = true }

-- the application stays, and its pass that of its caller on its table
pub record StaysLast (old new : LastShown) : Type 0 where
  pub config : new.config ≡ old.config
  pub app : new.app ≡ old.app
  pub table : new.pass.table ≡ old.pass.table
  pub setup : new.pass.view.setup ≡ old.pass.view.setup
  pub who : new.pass.who ≡ old.pass.who
