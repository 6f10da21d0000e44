use Rattle.std.proofs.Common.{◌≡◌, ℕ, ◌<◌, get_or}
use Rattle.xsk_turns.specs.Stepping.{joined_ask}
use Rattle.xsk_model.specs.declared.call.Act.TheVariants.{Ended as IsEnd}
use Rattle.xsk_sim.proofs.rounds.Workers.have_ended.Given as goal

abbrev pub invariant-loop-seat : goal.invariant-loop-seat
invariant-loop-seat l = (i : ℕ) (d : _) → i < l.seat-index → d ≡ get_or l.self.seats.items i d → joined_ask d.ask d.items ≡ IsEnd
