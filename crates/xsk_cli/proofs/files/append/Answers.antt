use Rattle.std.proofs.Common.{◌+◌, ◌++◌, ◌∷◌, [], drop, length, ap, sym, ◌∙◌, append_assoc, arith, length-append}
use Rattle.std.specs.List.{concat}
use Rattle.xsk_cli.proofs.Filing.{packet_next}
use Rattle.xsk_cli.proofs.files.append.Goals as goal

pub push_reserved-requires-clause-bytes : goal.push_reserved-requires-clause-bytes
push_reserved-requires-clause-bytes c =
    let packets = c.args.list.now.packets in
    let packet = c.get.result.now in
    let next = packet_next packets c.loop-i.i packet c.get.ensures in
    omega (arith, ap (λ ps. length (concat ps)) next, length-append packet (concat (drop (c.loop-i.i + 1) packets)), c.loop-i.invariant.bytes)

pub loop-i-preserved : goal.loop-i-preserved
loop-i-preserved c =
    let packets = c.args.list.now.packets in
    let packet = c.get.result.now in
    let rest = drop (c.loop-i.i + 1) packets in
    let next = packet_next packets c.loop-i.i packet c.get.ensures in
    let pushed = c.push_reserved.ensures in
    record {
      so_far =
          ap (λ ps. ps ++ rest) pushed.packets ∙ append_assoc c.loop-i.all.packets (packet ∷ []) rest
          ∙ ap (λ ps. c.loop-i.all.packets ++ ps) (sym next) ∙ c.loop-i.invariant.so_far;
      gaps = pushed.gaps ∙ c.loop-i.invariant.gaps;
      packets = omega (arith, ap length next, c.loop-i.invariant.packets, pushed.spare_packets);
      bytes = omega (arith, ap (λ ps. length (concat ps)) next, length-append packet (concat rest), c.loop-i.invariant.bytes, pushed.spare_bytes);
    }
