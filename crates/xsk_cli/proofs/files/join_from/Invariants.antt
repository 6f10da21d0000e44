use Rattle.std.proofs.Common.{◌≡◌, take, drop}
use Rattle.xsk_pcap.specs.Written.{all_packets}
use Rattle.xsk_cli.specs.Steps.{lists_in}
use Rattle.xsk_cli.proofs.files.join_from.Given as goal

abbrev pub invariant-loop-place : goal.invariant-loop-place
invariant-loop-place l = l.all.packets ≡ all_packets (take l.place (drop l.first (lists_in l.lists)))
