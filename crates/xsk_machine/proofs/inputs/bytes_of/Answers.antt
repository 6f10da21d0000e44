use Rattle.std.proofs.Common.{length, arith, take}
use Rattle.std.specs.List.{concat}
use Rattle.xsk_driver.specs.Asking.{packets_by}
use Rattle.xsk_driver.proofs.Asking.{bytes-taken}
use Rattle.xsk_machine.proofs.inputs.bytes_of.Goals as goal

pub loop-number-preserved : goal.loop-number-preserved
loop-number-preserved c =
    let before = length (concat (packets_by c.args.packets.now (take c.loop-number.number-index c.args.numbers.now))) in
    omega (
      arith,
      c.loop-number.invariant,
      c.saturating_add-bytes.ensures,
      bytes-taken c.args.packets.now c.args.numbers.now c.loop-number.number-index c.get.result.now c.loop-number-test.true c.get.ensures,
    )
