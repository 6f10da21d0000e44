-- The workers at the beginning of a run.
use Rattle.std.proofs.Common.{◌≡◌, List, [], sym, subst}
use Rattle.xsk_umem.specs.Frame.{Frame}
use Rattle.xsk_model.specs.Config.{Config}
use Rattle.xsk_model.specs.Opening.{IsOpened}
use Rattle.xsk_turns.specs.Workers.{Setting}
use Rattle.xsk_sim.proofs.Seating.{each_change}
use Rattle.xsk_sim.specs.Server.{Seen, IsOpening}
use Rattle.xsk_sim.specs.Turning.{HasRun}
use Rattle.xsk_sim.specs.Seats.{AreSeated, AreSet}
use Rattle.xsk_sim.specs.declared.rounds.Workers.{Workers}

-- a configuration that is opened over the frames, with an object that was opened so
pub run_begins : (s : Setting) (frames : List Frame) (object : Seen) → IsOpened s.config frames → IsOpening s.config frames object → HasRun s frames [] object
run_begins s frames object opened new =
    record { config = new.config; legal = record { opened = opened; legal = tt }; shows = new.state; calls = new.calls; log = new.log }

-- workers in their seats in an object that was opened
pub seated_opened : (s : Setting) (c : Config) (frames : List Frame) (w : Workers) (object : Seen) → s.config ≡ c → IsOpened c frames → IsOpening c frames object
    → AreSet s w → AreSeated s frames [] w object
seated_opened s c frames w object same opened new set = record {
  run = run_begins s frames object (subst (λ (k : Config). IsOpened k frames) (sym same) opened) (subst (λ (k : Config). IsOpening k frames object) (sym same) new);
  seats = set.seats;
  noted = each_change w.seats.items 0 _ _ set.settled (λ k x low high none. record { driver = λ below. none; app = λ high. none });
  count = set.count;
}
