use Rattle.std.proofs.Common.{ap, arith}
use Rattle.xsk_turns.specs.Script.{again, begun}
use Rattle.xsk_turns.specs.Turns.{turn, flag_from}
use Rattle.xsk_driver.specs.Stands.{seat_in, kept_in}
use Rattle.xsk_driver.proofs.Steps.{goes_by, flag_here, flag_last}
use Rattle.xsk_driver.proofs.machine.Machine.disarm_tx.Goals as goal

pub returns-then-class-self-clause-goes : goal.returns-then-class-self-clause-goes
returns-then-class-self-clause-goes c =
    let m = c.args.self.now in
    goes_by (seat_in m) c.begin.new.self c.begin.new.asked (again (kept_in m)) (flag_from (seat_in m) 0 c.args.class (kept_in m) (again (kept_in m)))
    (flag_last (seat_in m) 0 c.args.class (kept_in m) (again (kept_in m)) c.if-class-self.true) c.begin.ensures.goes

pub returns-else-class-self-clause-goes : goal.returns-else-class-self-clause-goes
returns-else-class-self-clause-goes c =
    let m = c.args.self.now in
    rw c.socket_of.ensures
    (λ items. ap (begun (turn (seat_in m))) (flag_here (seat_in m) 0 c.args.class (kept_in m) (again (kept_in m)) (omega (arith, c.if-class-self.false, c.requires.within))))
