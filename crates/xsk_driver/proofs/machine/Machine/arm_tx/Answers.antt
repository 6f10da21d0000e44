use Rattle.std.proofs.Common.{ap, arith}
use Rattle.xsk_turns.specs.Script.{begun}
use Rattle.xsk_turns.specs.Turns.{turn, flag_from, look_again}
use Rattle.xsk_driver.specs.Stands.{seat_in, kept_in, noted_in}
use Rattle.xsk_driver.proofs.Steps.{goes_by, flag_here, flag_last}
use Rattle.xsk_driver.proofs.machine.Machine.arm_tx.Goals as goal

pub returns-then-class-self-clause-goes : goal.returns-then-class-self-clause-goes
returns-then-class-self-clause-goes c =
    let m = c.args.self.now in
    let next = look_again (seat_in m) (noted_in m) (kept_in m) in
    goes_by (seat_in m) c.look_again.new.self c.look_again.new.asked next (flag_from (seat_in m) 1 c.args.class (kept_in m) next)
    (flag_last (seat_in m) 1 c.args.class (kept_in m) next c.if-class-self.true) c.look_again.ensures.goes

pub returns-else-class-self-clause-goes : goal.returns-else-class-self-clause-goes
returns-else-class-self-clause-goes c =
    let m = c.args.self.now in
    let next = look_again (seat_in m) (noted_in m) (kept_in m) in
    rw c.socket_of.ensures
    (λ items. ap (begun (turn (seat_in m))) (flag_here (seat_in m) 1 c.args.class (kept_in m) next (omega (arith, c.if-class-self.false, c.requires.arming.within))))
