use Rattle.std.proofs.Common.{◌≡◌, ◌≤◌, ◌*◌, map, take, drop, vec_len, vec_capacity}
use Rattle.std.specs.List.{range_with_len}
use Rattle.xsk_pcap.specs.Written.{all_packets}
use Rattle.xsk_cli.specs.Steps.{lists_in}
use Rattle.xsk_cli.proofs.files.join.Given as goal

abbrev pub invariant-loop-port : goal.invariant-loop-port
invariant-loop-port l = record {
  lists : lists_in l.all.items ≡ map (λ port. all_packets (take l.each (drop (port * l.each) (lists_in l.lists)))) (range_with_len 0 l.port);
  count : vec_len l.all ≡ l.port;
  room : l.ports ≤ vec_capacity l.all;
}
