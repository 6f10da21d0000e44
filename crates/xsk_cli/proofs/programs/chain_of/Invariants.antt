use Rattle.std.proofs.Common.{◌≡◌, map, take}
use Rattle.xsk_prog.specs.Chain.{AllObey, rules_of}
use Rattle.xsk_cli.specs.Outcome.{rule_by}
use Rattle.xsk_cli.proofs.programs.chain_of.Given as goal

abbrev pub invariant-loop-program : goal.invariant-loop-program
invariant-loop-program g l = AllObey g.F.Fn l.chain × (rules_of l.chain ≡ map (rule_by l.sockets) (take l.program-index l.programs))
