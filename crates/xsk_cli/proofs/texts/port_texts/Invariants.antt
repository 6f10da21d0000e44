use Rattle.std.proofs.Common.{◌≡◌, ◌≤◌, ◌*◌, map, take, drop, vec_len, vec_capacity}
use Rattle.std.specs.List.{range_with_len}
use Rattle.xsk_pcap.specs.Written.{written}
use Rattle.xsk_cli.specs.Steps.{lists_in}
use Rattle.xsk_cli.proofs.texts.port_texts.Given as goal

abbrev pub invariant-loop-port : goal.invariant-loop-port
invariant-loop-port l = record {
  texts : map (λ text. text.items) l.texts.items ≡ map (λ port. written (take l.queues (drop (port * l.queues) (lists_in l.sent)))) (range_with_len 0 l.port);
  count : vec_len l.texts ≡ l.port;
  room : l.ports ≤ vec_capacity l.texts;
}
