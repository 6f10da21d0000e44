use Rattle.std.proofs.Common.{◌<◌, ◌≤◌, ℕ, length, refl, sym, subst, arith}
use Rattle.xsk_model.specs.Config.{Config, callers_of}
use Rattle.xsk_turns.specs.Workers.{Setting}
use Rattle.xsk_machine.specs.Workers.{IsNew}
use Rattle.xsk_workers.specs.Terms.{setting_over}
use Rattle.xsk_workers.specs.Hands.{team_seat}
use Rattle.xsk_workers.proofs.Sleeping.{no_parker}
use Rattle.xsk_workers.proofs.seating.seat_one.Goals as goal

pub worker_of-requires-clause-caller : goal.worker_of-requires-clause-caller
worker_of-requires-clause-caller g c = subst (λ (k : Config). c.caller.result < callers_of k) c.requires.unused.2 c.caller.ensures.few

pub worker_of-requires-clause-app : goal.worker_of-requires-clause-app
worker_of-requires-clause-app g c = subst (λ (k : ℕ). length c.args.source.terms.config.now.pairs ≤ k) (sym c.caller.ensures.caller) c.requires.app

pub seat_alone-requires-clause-expected : goal.seat_alone-requires-clause-expected
seat_alone-requires-clause-expected g c =
    let s : Setting = setting_over c.args.source.terms g.V.Verdicts.verdicts in
    (c.in_ok-machine.ensures s refl refl tt).expected

pub seat_alone-requires-clause-machine : goal.seat_alone-requires-clause-machine
seat_alone-requires-clause-machine g c =
    let s : Setting = setting_over c.args.source.terms g.V.Verdicts.verdicts in
    subst (λ (k : ℕ). IsNew s k c.in_ok-machine.machine) c.caller.ensures.caller (c.in_ok-machine.ensures s refl refl tt).is

pub seat_alone-requires-clause-parker : goal.seat_alone-requires-clause-parker
seat_alone-requires-clause-parker g c = no_parker c.args.source.wakers.now c.args.pass.who (omega (arith, c.requires.few, c.requires.app))

pub returns : goal.returns
returns g c = c.seat_alone.ensures team_seat
