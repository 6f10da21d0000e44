use Rattle.xsk_io.specs.declared.bay.Kind.TheVariants.{Open}
use Rattle.xsk_io.specs.declared.bay.Stream.TheVariants.{Input, Report}
use Rattle.xsk_checking.proofs.Faults.{none-of-it}
use Rattle.xsk_checking.proofs.Pieces.{opened-then, unopened}
use Rattle.xsk_checking.proofs.reading.judge_file.Goals as goal

pub open-requires-clause-closed : goal.open-requires-clause-closed
open-requires-clause-closed g c = c.requires.closed (Input 0)

pub returns-in-Ok-clause-read : goal.returns-in-Ok-clause-read
returns-in-Ok-clause-read g c =
    let e = c.in-Ok.ensures in
    opened-then (g.B.Bay.moment c.args.bay.now) (g.B.Bay.moment c.open.new.self) (g.B.Bay.moment c.judge_open.new.bay) c.judge_open.new.check c.judge_open.result
    (e.held_others Report (λ i. cc i)) (none-of-it Open (Input 0) _ _ e.counts e.no_fault) e.left c.judge_open.ensures

pub returns-in-Err-clause-read : goal.returns-in-Err-clause-read
returns-in-Err-clause-read g c =
    let e = c.in-Err.ensures in
    unopened (g.B.Bay.moment c.args.bay.now) (g.B.Bay.moment c.open.new.self) c.args.check.now (e.held_others Report (λ i. cc i)) e.counts e.cause
