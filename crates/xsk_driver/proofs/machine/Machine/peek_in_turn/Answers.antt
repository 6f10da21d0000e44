use Rattle.std.proofs.Common.{◌+◌}
use Rattle.xsk_turns.specs.Turns.{peek_tx, visit_from}
use Rattle.xsk_driver.specs.Stands.{seat_in, kept_in, noted_in, after}
use Rattle.xsk_driver.specs.declared.machine.Which.TheVariants.{Turning}
use Rattle.xsk_driver.specs.declared.machine.Next.TheVariants.{Visit}
use Rattle.xsk_driver.proofs.Steps.{goes_by, visit_here}
use Rattle.xsk_driver.proofs.machine.Machine.peek_in_turn.Goals as goal

pub returns-clause-goes : goal.returns-clause-goes
returns-clause-goes c =
    let m = c.args.self.now in
    goes_by (seat_in m) c.peek_tx.new.self c.peek_tx.new.asked (peek_tx (seat_in m) c.args.class (noted_in m) (kept_in m) (after (seat_in m) (Visit Turning (c.args.class + 1)))) (visit_from (seat_in m) c.args.class (noted_in m) (kept_in m))
    (visit_here (seat_in m) c.args.class (noted_in m) (kept_in m) c.requires.looking.within) c.peek_tx.ensures.goes
