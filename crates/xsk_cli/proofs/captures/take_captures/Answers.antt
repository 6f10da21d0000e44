use Rattle.std.proofs.Common.{◌≤◌, length, map, arith}
use Rattle.std.proofs.lemmas.List.{length-map}
use Rattle.xsk_cli.specs.Judged.{bytes_in}
use Rattle.xsk_cli.specs.Steps.{lists_in}
use Rattle.xsk_cli.proofs.Judging.{bytes_small, short_all}
use Rattle.xsk_cli.proofs.captures.take_captures.Goals as goal

pub check_limits-requires-clause-small : goal.check_limits-requires-clause-small
check_limits-requires-clause-small c =
    let inputs = map (λ bytes. bytes.items) c.args.inputs.items in
    let few : length inputs ≤ 4 = omega (arith, length-map c.args.inputs.items (λ bytes. bytes.items), c.requires.few) in
    let small : bytes_in (lists_in c.in_ok-lists.lists.items) ≤ 138412128 =
    bytes_small inputs (lists_in c.in_ok-lists.lists.items) c.in_ok-lists.ensures.read (short_all 34603032 (λ bytes. bytes.items) c.args.inputs.items c.requires.short) few in
    rw c.as_slice.ensures.value (omega (arith, small))
