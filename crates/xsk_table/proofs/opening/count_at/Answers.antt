use Rattle.std.proofs.Common.{ap, arith, length, refl}
use Rattle.xsk_table.proofs.FirstEnds.{begins_else, begins_app}
use Rattle.xsk_table.proofs.opening.count_at.Goals as goal

pub returns-then-place-pairs : goal.returns-then-place-pairs
returns-then-place-pairs c frames r opened has at = begins_else (record { config = c.args.config.now; first = c.args.first; frames = frames }) c.args.who r opened has c.ranges.first.fits
    (omega (arith, c.if-place-pairs.true, at, ap length c.pairs-pairs.ensures.value))

pub returns : goal.returns
returns c frames r opened has at = begins_app (record { config = c.args.config.now; first = c.args.first; frames = frames }) c.args.who r _ c.pool.result opened has
    (omega (arith, c.if-place-pairs.false, at, ap length c.pairs-pairs.ensures.value)) (omega (arith, c.if-who-pairs.false, ap length c.pairs-pairs.ensures.value)) c.pool.ensures refl
