use Rattle.std.proofs.Common.{◌≡◌, drop}
use Rattle.xsk_prog.specs.Chain.{rules_of}
use Rattle.xsk_laws.specs.Expected.{none_bounces}
use Rattle.xsk_machine.proofs.begin.chain_never_bounces.Given as goal

abbrev pub invariant-loop-program : goal.invariant-loop-program
invariant-loop-program g l = none_bounces (rules_of l.chain) ≡ none_bounces (rules_of (drop l.program-index l.chain))
