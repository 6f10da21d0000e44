use Rattle.std.proofs.Common.{rules, ◌*◌, ◌++◌, ◌∙◌, [], ◌∷◌, ap, sym, map, take, drop, List, ℕ, Vec, Global, arith}
use Rattle.std.proofs.lemmas.List.{map-append}
use Rattle.std.specs.List.{range_with_len}
use Rattle.xsk_pcap.specs.Written.{written}
use Rattle.xsk_cli.specs.Steps.{lists_in}
use Rattle.xsk_cli.proofs.Ports.{more_ports}
use Rattle.xsk_cli.proofs.Running.{rows}
use Rattle.xsk_cli.proofs.texts.port_texts.Goals as goal

pub port_text-requires-clause-known : goal.port_text-requires-clause-known
port_text-requires-clause-known c = omega (arith, rows c.args.ports c.args.queues c.loop-port.port c.args.queues c.loop-port-test.true (omega arith), c.requires.count)

pub port_text-requires-clause-few : goal.port_text-requires-clause-few
port_text-requires-clause-few c = omega (arith, rows c.args.ports c.args.queues c.loop-port.port c.args.queues c.loop-port-test.true (omega arith), c.requires.few)

pub port_text-requires-clause-writable : goal.port_text-requires-clause-writable
port_text-requires-clause-writable c n few = c.requires.writable c.loop-port.port n c.loop-port-test.true few

pub loop-port-preserved : goal.loop-port-preserved
loop-port-preserved c =
    let port = c.loop-port.port in
    let queues = c.args.queues in
    let all : List (List (List ℕ)) = lists_in c.args.sent.now in
    let f : ℕ → List ℕ = λ port. written (take queues (drop (port * queues) all)) in
    record {
      texts = ap (map (λ (text : Vec ℕ Global). text.items)) c.push_reserved.ensures.items ∙ map-append (λ (text : Vec ℕ Global). text.items) c.loop-port.texts.items (c.in_ok-text.text ∷ [])
          ∙ ap (λ ts. ts ++ c.in_ok-text.text.items ∷ []) c.loop-port.invariant.texts ∙ ap (λ t. map f (range_with_len 0 port) ++ t ∷ []) c.in_ok-text.ensures
          ∙ sym (more_ports f port);
      count = search rules;
      room = search rules;
    }
