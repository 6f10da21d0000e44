use Rattle.std.proofs.Common.{rules, ◌≡◌, ◌+◌, ◌<◌, length, get_or, sym, subst, ◌∙◌, arith}
use Rattle.xsk_pcap.specs.Written.{IsWritable}
use Rattle.xsk_umem.specs.PacketList.{PacketList}
use Rattle.xsk_cli.proofs.Queues.{one_more_list}
use Rattle.xsk_cli.proofs.texts.port_text.Goals as goal

pub add-requires : goal.add-requires
add-requires c =
    let place = c.loop-place.place in
    let list : PacketList = c.index-sent-first.result in
    let below : c.args.first + place < length c.args.sent.now = omega (arith, c.requires.known, c.loop-place-test.true) in
    let item : list ≡ get_or c.args.sent.now (c.args.first + place) list = search rules in
    let is = one_more_list c.args.sent.now c.loop-place.capture c.args.first place list below c.loop-place.invariant item in
    subst IsWritable (sym is) (c.requires.writable (place + 1) (omega (arith, c.loop-place-test.true)))

pub loop-place-preserved : goal.loop-place-preserved
loop-place-preserved c =
    let place = c.loop-place.place in
    let list : PacketList = c.index-sent-first.result in
    let below : c.args.first + place < length c.args.sent.now = omega (arith, c.requires.known, c.loop-place-test.true) in
    let item : list ≡ get_or c.args.sent.now (c.args.first + place) list = search rules in
    c.in_ok-add.ensures.added ∙ one_more_list c.args.sent.now c.loop-place.capture c.args.first place list below c.loop-place.invariant item
