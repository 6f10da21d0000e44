use Rattle.std.proofs.Common.{◌≡◌, ◌<◌, List, []}
use Rattle.xsk_umem.specs.Frame.{Frame}
use Rattle.xsk_sim.specs.Order.{number_at}
use Rattle.xsk_turns.specs.Workers.{Setting}
use Rattle.xsk_sim.specs.Runs.{NeverStill}
use Rattle.xsk_sim.specs.Seats.{AreSeated, HaveEnded}
use Rattle.xsk_sim.proofs.Standing.{Gone}
use Rattle.xsk_sim.proofs.simulation.make_rounds.Given as goal

abbrev pub invariant-loop-round : goal.invariant-loop-round
invariant-loop-round g l = record {
  config : (g.S.Server.seen l.server).engine.config ≡ (g.S.Server.seen l.initial.server).engine.config;
  few : l.still < 64;
  rounds : (s : Setting) (frames : List Frame) → AreSeated s frames [] l.initial.workers (g.S.Server.seen l.initial.server)
      → Gone s frames l.order l.round l.still l.workers (g.S.Server.seen l.server) × (l.current.number ≡ number_at l.order l.round)
      × NeverStill s frames l.order l.round;
  going : 0 < l.round → HaveEnded l.workers → ⊥;
}
