use Rattle.xsk_args.proofs.Programs.{stripped}
use Rattle.xsk_args.proofs.program.strip.Goals as goal

pub returns : goal.returns
returns c = stripped c.args.front.now c.args.text.now c.strip_prefix.result c.strip_prefix.ensures.cases
