use Rattle.std.proofs.Common.{◌+◌, arith}
use Rattle.xsk_turns.specs.Turns.{peek_tx, look_from, settle}
use Rattle.xsk_driver.specs.Stands.{seat_in, kept_in, noted_in, after}
use Rattle.xsk_driver.specs.declared.machine.Which.TheVariants.{Again}
use Rattle.xsk_driver.specs.declared.machine.Next.TheVariants.{Visit}
use Rattle.xsk_driver.proofs.Steps.{goes_by, look_here, look_last}
use Rattle.xsk_driver.proofs.machine.Machine.look_tx.Goals as goal

pub returns-then-class-self-clause-goes : goal.returns-then-class-self-clause-goes
returns-then-class-self-clause-goes c =
    let m = c.args.self.now in
    goes_by (seat_in m) c.settle_down.new.self c.settle_down.new.asked (settle (seat_in m) (noted_in m) (kept_in m)) (look_from (seat_in m) c.args.class (noted_in m) (kept_in m))
    (look_last (seat_in m) c.args.class (noted_in m) (kept_in m) c.if-class-self.true) c.settle_down.ensures.goes

pub returns-else-class-self-clause-goes : goal.returns-else-class-self-clause-goes
returns-else-class-self-clause-goes c =
    let m = c.args.self.now in
    goes_by (seat_in m) c.peek_tx.new.self c.peek_tx.new.asked (peek_tx (seat_in m) c.args.class (noted_in m) (kept_in m) (after (seat_in m) (Visit Again (c.args.class + 1)))) (look_from (seat_in m) c.args.class (noted_in m) (kept_in m))
    (look_here (seat_in m) c.args.class (noted_in m) (kept_in m) (omega (arith, c.if-class-self.false, c.requires.looked.within))) c.peek_tx.ensures.goes
