-- What a contract sees of a run: its log and the number of its calls, for how many pairs there is a list of sent packets,
-- these lists, and its figures.
use Rattle.std.specs.Prelude.{◌≡◌, ℕ, List, IsTrue, length}
use Rattle.xsk_model.specs.Entry.{Entry}
use Rattle.xsk_machine.specs.declared.figures.Figures.{Figures}
use Rattle.xsk_machine.specs.Sent.{SentShown}
use Rattle.xsk_plain.specs.Engine.{Engine}
use Rattle.xsk_sim.specs.Server.{Seen}
pub use Rattle.xsk_machine.specs.Acts.{HasShortPackets, packets_in}

pub record Shown : Type 0 where
  pub calls : ℕ
  pub pairs : ℕ
  pub log : List Entry
  pub sent : List (List (List ℕ))
  pub figures : Figures

-- that of an engine, and of what the drivers sent
abbrev pub shown_by : Engine → SentShown → Shown
shown_by engine sent = record { calls = engine.calls; pairs = length sent.lists; log = engine.log; sent = sent.lists; figures = sent.figures }

-- of this run these are what the drivers sent, and the figures
pub record IsSentBy (run : Shown) (sent : SentShown) : Type 0 where
  pub pairs : run.pairs ≡ length sent.lists
  pub lists : run.sent ≡ sent.lists
  pub figures : run.figures ≡ sent.figures

-- and this is the object on which it ran: where it keeps its log, it is the run's
pub record IsShownBy (seen : Seen) (sent : SentShown) (run : Shown) : Type 0 where
  pub is : IsSentBy run sent
  pub log : IsTrue seen.keeps → run.log ≡ seen.engine.log
