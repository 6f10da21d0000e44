use Rattle.std.proofs.Common.{◌≡◌, true, List, length, ap, subst, sym, ◌∙◌, arith}
use Rattle.xsk_model.specs.Config.{Config}
use Rattle.xsk_prog.specs.Chain.{rules_of}
use Rattle.xsk_prog.specs.Rules.{are_exact}
use Rattle.xsk_prog.specs.declared.rule.Rule.{Rule}
use Rattle.xsk_socket.proofs.Accepted.{fits}
use Rattle.xsk_cli.specs.Outcome.{rules_by}
use Rattle.xsk_cli.specs.Steps.{lists_in}
use Rattle.xsk_cli.proofs.Going.{are_exact_by}
use Rattle.xsk_workers.specs.Hands.{SuitHands}
use Rattle.xsk_cli.specs.Forward.{unmangled}
use Rattle.xsk_cli.proofs.Running.{forwarded_as, hands_suit, pairs_are}
use Rattle.xsk_cli.proofs.thread_run.forward_lists.Goals as goal

pub chain_of-requires-clause-sockets : goal.chain_of-requires-clause-sockets
chain_of-requires-clause-sockets g c =
    let sockets = (fits c.args.terms.layout.now c.requires.accepted).sockets in
    record { some = omega (arith, sockets); few = omega (arith, sockets) }

pub forward-requires-clause-suit : goal.forward-requires-clause-suit
forward-requires-clause-suit g c κs within =
    subst (λ (k : Config). SuitHands c.args.terms.layout.now.hands k) (sym c.requires.config) (hands_suit c.args.terms.layout.now c.args.terms.manner c.requires.suits)

pub forward-requires-clause-hands : goal.forward-requires-clause-hands
forward-requires-clause-hands g c κs within = (fits c.args.terms.layout.now c.requires.accepted).hands

pub returns-clause-pairs : goal.returns-clause-pairs
returns-clause-pairs g c = c.in_ok-outcome.ensures.pairs ∙ ap (λ (k : Config). length k.pairs) c.requires.config ∙ pairs_are c.args.terms.layout.now

pub returns-clause-forwarded : goal.returns-clause-forwarded
returns-clause-forwarded g c =
    let are : rules_of c.in_ok-chain.chain ≡ rules_by c.args.terms.layout.now.sockets c.args.terms.programs.now = c.in_ok-chain.ensures.rules ∙ ap (rules_by c.args.terms.layout.now.sockets) c.as_slice.ensures.value in
    forwarded_as c.args.terms.layout.now c.args.terms.programs.now c.args.terms.wire (unmangled c.args.terms.manner) c.args.config c.args.lists.now c.args.frames.items (lists_in c.args.lists.now) c.in_ok-outcome.outcome
    c.requires.config c.requires.listed c.requires.frames (rules_of c.in_ok-chain.chain)
    are (c.in_ok-outcome.ensures.forwarded (subst (λ (rs : List Rule). are_exact rs ≡ true) (sym are) (are_exact_by c.args.terms.layout.now.sockets c.args.terms.programs.now)))

pub returns-clause-short : goal.returns-clause-short
returns-clause-short g c = c.in_ok-outcome.ensures.short
