use Rattle.std.proofs.Common.{◌≡◌, ◌+◌, ◌++◌, length, drop, ap, sym, subst, ◌∙◌, arith, refl}
use Rattle.std.specs.List.{concat, AllByRecursion}
use Rattle.std.proofs.lemmas.List.{length-append}
use Rattle.std.proofs.lemmas.Option.{slice_get_read}
use Rattle.xsk_pcap.proofs.Writing.{AllByRecursion-last}
use Rattle.xsk_pcapng.specs.Written.{lists_blocks, packets_of, size_of_blocks, IsShort}
use Rattle.xsk_pcapng.proofs.Appending.{all_from, all_from-next, lists-next, size-append, All-first}
use Rattle.xsk_pcapng.proofs.writing.append_lists.Goals as goal

pub append_packets-requires-clause-short : goal.append_packets-requires-clause-short
append_packets-requires-clause-short c =
    let list = c.index-lists-i.result in
    let next = all_from-next c.args.lists.now c.loop-i.i list (slice_get_read c.args.lists.now (length c.args.lists.now) c.loop-i.i list refl (omega (arith, c.loop-i-test.true, c.loop-i.auto.i-end)) c.index-lists-i.is) in
    All-first IsShort list.packets (all_from c.args.lists.now (c.loop-i.i + 1)) (subst (AllByRecursion IsShort) next c.loop-i.invariant.short)

pub append_packets-requires-clause-room : goal.append_packets-requires-clause-room
append_packets-requires-clause-room c =
    let list = c.index-lists-i.result in
    let next = all_from-next c.args.lists.now c.loop-i.i list (slice_get_read c.args.lists.now (length c.args.lists.now) c.loop-i.i list refl (omega (arith, c.loop-i-test.true, c.loop-i.auto.i-end)) c.index-lists-i.is) in
    omega (arith, ap size_of_blocks next, size-append list.packets (all_from c.args.lists.now (c.loop-i.i + 1)), c.loop-i.invariant.room)

pub loop-i-preserved : goal.loop-i-preserved
loop-i-preserved c =
    let lists = c.args.lists.now in
    let list = c.index-lists-i.result in
    let later = all_from lists (c.loop-i.i + 1) in
    let next = all_from-next lists c.loop-i.i list (slice_get_read c.args.lists.now (length c.args.lists.now) c.loop-i.i list refl (omega (arith, c.loop-i-test.true, c.loop-i.auto.i-end)) c.index-lists-i.is) in
    let count : c.len-number.result ≡ length list.packets = c.len-number.ensures.value in
    record {
      so_far =
          ap (λ n. c.append_packets.new.text.items ++ concat (lists_blocks (c.loop-i.i + 1) (c.loop-i.number + n) (packets_of (drop (c.loop-i.i + 1) lists)))) count
          ∙ ap (λ t. t ++ concat (lists_blocks (c.loop-i.i + 1) (c.loop-i.number + length list.packets) (packets_of (drop (c.loop-i.i + 1) lists)))) c.append_packets.ensures.text
          ∙ sym (lists-next c.loop-i.text.items c.loop-i.number c.loop-i.i lists list (slice_get_read lists (length lists) c.loop-i.i list refl (omega (arith, c.loop-i-test.true, c.loop-i.auto.i-end)) c.index-lists-i.is))
          ∙ c.loop-i.invariant.so_far;
      short = AllByRecursion-last IsShort list.packets later (subst (AllByRecursion IsShort) next c.loop-i.invariant.short);
      number = omega (arith, count, ap length next, length-append list.packets later, c.loop-i.invariant.number);
      room = omega (
        arith,
        ap size_of_blocks next,
        size-append list.packets later,
        c.loop-i.invariant.room,
        c.append_packets.ensures.room,
        c.append_packets.ensures.capacity,
      );
    }
