use Rattle.std.proofs.Common.{◌≡◌, [], get_or}
use Rattle.xsk_cli.specs.Outcome.{capture_of}
use Rattle.xsk_cli.specs.Steps.{outputs_in}
use Rattle.xsk_cli.proofs.Laying.{laid_here, laid_known, laid_output}
use Rattle.xsk_cli.proofs.output.write_next.Goals as goal

pub write_laid-requires-clause-known : goal.write_laid-requires-clause-known
write_laid-requires-clause-known g c = laid_known (g.L.Leaves.sent c.args.left.now) c.args.outputs.now c.args.port c.in-Laid.is c.requires.known

pub write_laid-requires-clause-writable : goal.write_laid-requires-clause-writable
write_laid-requires-clause-writable g c = laid_here (g.L.Leaves.sent c.args.left.now) c.args.outputs.now c.args.port c.in-Laid.is c.requires.known c.requires.laid

pub returns-in-Laid-clause-written : goal.returns-in-Laid-clause-written
returns-in-Laid-clause-written g c =
    let is : get_or (outputs_in (g.L.Leaves.sent c.args.left.now) c.args.outputs.now) c.args.port [] ≡ capture_of (get_or (g.L.Leaves.sent c.args.left.now) c.args.port []) =
    laid_output (g.L.Leaves.sent c.args.left.now) c.args.outputs.now c.args.port c.in-Laid.is c.requires.known in
    rw is c.write_laid.ensures.written

pub returns-in-Laid-clause-failed : goal.returns-in-Laid-clause-failed
returns-in-Laid-clause-failed g c =
    let is : get_or (outputs_in (g.L.Leaves.sent c.args.left.now) c.args.outputs.now) c.args.port [] ≡ capture_of (get_or (g.L.Leaves.sent c.args.left.now) c.args.port []) =
    laid_output (g.L.Leaves.sent c.args.left.now) c.args.outputs.now c.args.port c.in-Laid.is c.requires.known in
    rw is c.write_laid.ensures.failed
