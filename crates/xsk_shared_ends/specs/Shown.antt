-- What contracts see of the ends, and what their type keeps.
use Rattle.std.specs.Prelude.{◌≡◌, ℕ, ◌<◌, false, None, List, [], ◌++◌}
use Rattle.xsk_model.specs.Config.{Config, batch_of}
use Rattle.xsk_model.specs.Entry.{Told, with_told}
use Rattle.xsk_model.specs.Own.{submitted_of, peeked_of}
use Rattle.xsk_model.specs.Rings.{caller_of}
use Rattle.xsk_model.specs.declared.call.Call.TheVariants.{Peek}
use Rattle.xsk_model.specs.declared.call.Reply.TheVariants.{Empty}
use Rattle.xsk_model.specs.declared.call.Ring.TheVariants.{Rx, Tx}
use Rattle.xsk_turns.specs.AppTurns.{AppKept, rx_of, tx_of, lanes_of, pending_at}
use Rattle.xsk_turns.specs.AppOwned.{IsApp, HasOwnFrames}
use Rattle.xsk_turns.specs.AppSplit.{SplitStep, IsStep, IsSplit}
use Rattle.xsk_turns.specs.Owned.{AllFit}
use Rattle.xsk_table.specs.View.{idle, no_setup}
use Rattle.xsk_table.specs.Held.{Board, Holder}
use Rattle.xsk_rings.specs.Rounds.{mine_of}
use Rattle.xsk_shared_ends.specs.Steps.{came_of}
use Rattle.xsk_shared_ends.specs.declared.visiting.Step.{Step}

pub record EndsShown : Type 0 where
  pub config : Config
  pub app : ℕ
  pub pass : Holder
  pub kept : AppKept

-- the name of ends, by which a lock knows them: their table with its setup, and their caller
pub record Name : Type 0 where
  pub board : Board
  pub who : ℕ

abbrev pub name_of : EndsShown → Name
name_of e = record { board = record { table = e.pass.table; setup = e.pass.view.setup }; who = e.pass.who }

-- the ends of nothing
abbrev pub no_name : Name
no_name = record { board = record { table = record { words = 0; slots = 0; views_name = 0; atom = 0; block = 0; offset = 0; slot_names = [] }; setup = no_setup }; who = 0 }

-- What the type of ends keeps: no call of the pass is in flight, the calls and replies of the application are a split run that
-- leaves what is kept, each reply one that fits, no socket is closed, and all frames that the application has had are at home with it.
pub record AreEnds (e : EndsShown) : Type 0 where
  pub one : IsApp e.config e.app
  pub closes : e.config.closing ≡ None
  pub config : e.pass.view.setup.config ≡ e.config
  pub caller : e.pass.who ≡ caller_of e.config e.app
  pub rests : e.pass.view.flight ≡ idle
  pub fit : AllFit e.config [] (mine_of e.pass)
  pub own : HasOwnFrames e.config e.app (mine_of e.pass)
  pub sends : e.kept.tx_done ≡ false
  pub split : IsSplit e.config e.app (mine_of e.pass) e.kept

-- for each lane the items that were peeked are those that were submitted, followed by those that are pending
abbrev pub KeepsLanes : EndsShown → Type 0
KeepsLanes e = (lane : ℕ) → lane < lanes_of e.config
    → peeked_of (Rx (rx_of e.config e.app lane)) (mine_of e.pass) ≡ submitted_of (Tx (tx_of e.config e.app lane)) (mine_of e.pass) ++ pending_at e.kept lane

-- a step was made: the application's calls and replies go on by it, and this came of it
pub record Makes (step : SplitStep) (old new : EndsShown) (came : Step) : Type 0 where
  pub part : List Told
  pub mine : mine_of new.pass ≡ mine_of old.pass ++ part
  pub is_step : IsStep old.config old.app step old.kept part new.kept
  pub came_is : came ≡ came_of part

-- the ends stay those of their application
pub record AreSame (old new : EndsShown) : Type 0 where
  pub name : name_of new ≡ name_of old
  pub config : new.config ≡ old.config
  pub app : new.app ≡ old.app

-- a visit to a lane found its RX ring empty: no item of it was pending, its one call was the Peek, and nothing else that is kept changed
pub record IsFoundEmpty (lane : ℕ) (old new : EndsShown) : Type 0 where
  pub none : pending_at old.kept lane ≡ []
  pub kept : new.kept ≡ old.kept
  pub mine : mine_of new.pass ≡ with_told (mine_of old.pass) (Peek (Rx (rx_of old.config old.app lane)) (batch_of old.config)) Empty
