use Rattle.std.proofs.Common.{◌≡◌, None, sym, ◌∙◌, ap}
use Rattle.xsk_socket.specs.Layout.{fault_of}
use Rattle.xsk_cli.specs.Judged.{excess_of}
use Rattle.xsk_cli.specs.Words.{fault_in}
use Rattle.xsk_cli.proofs.Making.{few_ports, made_within}
use Rattle.xsk_cli.proofs.lists.take_lists.Goals as goal

pub returns-in_ok-make_lists-in-Simulate-default-default-default-default-default-Some-default-default-clause-within : goal.returns-in_ok-make_lists-in-Simulate-default-default-default-default-default-Some-default-default-clause-within
returns-in_ok-make_lists-in-Simulate-default-default-default-default-default-Some-default-default-clause-within c =
    let made = c.in-Simulate-default-default-default-default-default-Some-default-default in
    let accepted : fault_of made.layout ≡ None = ap fault_in (sym made.is) ∙ c.requires.accepted in
    ap excess_of (c.in_ok-make_lists-in-Simulate-default-default-default-default-default-Some-default-default.ensures.lists) ∙ made_within _ made.layout.ports (few_ports made.layout accepted)
