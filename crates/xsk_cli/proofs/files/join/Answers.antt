use Rattle.std.proofs.Common.{rules, ◌*◌, ◌++◌, ◌∙◌, [], ◌∷◌, ap, sym, map, take, drop, List, ℕ, arith}
use Rattle.std.proofs.lemmas.List.{map-append}
use Rattle.std.specs.List.{range_with_len}
use Rattle.xsk_umem.specs.PacketList.{PacketList}
use Rattle.xsk_pcap.specs.Written.{all_packets}
use Rattle.xsk_cli.specs.Steps.{lists_in}
use Rattle.xsk_cli.proofs.Ports.{more_ports}
use Rattle.xsk_cli.proofs.Running.{rows}
use Rattle.xsk_cli.proofs.files.join.Goals as goal

pub join_from-requires-clause-known : goal.join_from-requires-clause-known
join_from-requires-clause-known c = omega (arith, rows c.args.ports c.args.each c.loop-port.port c.args.each c.loop-port-test.true (omega arith), c.requires.count)

pub join_from-requires-clause-few : goal.join_from-requires-clause-few
join_from-requires-clause-few c = omega (arith, rows c.args.ports c.args.each c.loop-port.port c.args.each c.loop-port-test.true (omega arith), c.requires.few)

pub loop-port-preserved : goal.loop-port-preserved
loop-port-preserved c =
    let port = c.loop-port.port in
    let each = c.args.each in
    let packets : PacketList → List (List ℕ) = λ (l : PacketList). l.packets in
    let f : ℕ → List (List ℕ) = λ port. all_packets (take each (drop (port * each) (lists_in c.args.lists.now))) in
    record {
      lists = ap lists_in c.push_reserved.ensures.items ∙ map-append packets c.loop-port.all.items (c.in_ok-list.list ∷ [])
          ∙ ap (λ ls. ls ++ c.in_ok-list.list.packets ∷ []) c.loop-port.invariant.lists ∙ ap (λ t. map f (range_with_len 0 port) ++ t ∷ []) c.in_ok-list.ensures
          ∙ sym (more_ports f port);
      count = search rules;
      room = search rules;
    }
