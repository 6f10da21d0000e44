use Rattle.std.proofs.Common.{arith}
use Rattle.xsk_log.specs.declared.log.Event.TheVariants.{Looked, Swapped}
use Rattle.xsk_log.proofs.RowDigits.{little_as}
use Rattle.xsk_log.proofs.rows.digits_of.Goals as goal

pub returns-in-Swapped-clause-small : goal.returns-in-Swapped-clause-small
returns-in-Swapped-clause-small c = λ small.
    let little = little_as c.args.row.now (Swapped c.in-Swapped.mark c.in-Swapped.value c.in-Swapped.old) c.in-Swapped.is small in (
      omega (arith, little.0, c.of_swap.ensures.numbers.0),
      omega (arith, little.2, c.of_swap.ensures.numbers.1),
      omega (arith, little.3, c.of_swap.ensures.second little.1 little.4),
    )

pub returns-in-Looked-clause-small : goal.returns-in-Looked-clause-small
returns-in-Looked-clause-small c = λ small.
    let little = little_as c.args.row.now (Looked c.in-Looked.mark c.in-Looked.old) c.in-Looked.is small in (
      omega (arith, little.0, c.of_look.ensures.numbers.0),
      omega (arith, little.1, c.of_look.ensures.numbers.1),
      omega (arith, little.2, c.of_look.ensures.second little.3),
    )
