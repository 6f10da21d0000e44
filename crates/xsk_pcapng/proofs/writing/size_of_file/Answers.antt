use Rattle.std.proofs.Common.{◌+◌, length, ap, subst, arith, refl}
use Rattle.std.specs.List.{AllByRecursion}
use Rattle.std.proofs.lemmas.List.{length-map}
use Rattle.std.proofs.lemmas.Option.{slice_get_read}
use Rattle.xsk_umem.specs.PacketList.{PacketList}
use Rattle.xsk_pcap.proofs.Writing.{AllByRecursion-last}
use Rattle.xsk_pcapng.specs.Written.{size_of_blocks, IsShort}
use Rattle.xsk_pcapng.proofs.Appending.{all_from, all_from-next, size-append, size-few, All-first}
use Rattle.xsk_pcapng.proofs.writing.size_of_file.Goals as goal

pub loop-i-preserved : goal.loop-i-preserved
loop-i-preserved c =
    let list = c.index-lists-i.result in
    let later = all_from c.args.lists.now (c.loop-i.i + 1) in
    let next = all_from-next c.args.lists.now c.loop-i.i list (slice_get_read c.args.lists.now (length c.args.lists.now) c.loop-i.i list refl (omega (arith, c.loop-i-test.true, c.loop-i.auto.i-end)) c.index-lists-i.is) in
    record {
      size = omega (arith, ap size_of_blocks next, size-append list.packets later, c.loop-i.invariant.size, c.size_of_list-size.ensures);
      short = AllByRecursion-last IsShort list.packets later (subst (AllByRecursion IsShort) next c.loop-i.invariant.short);
    }

pub overflow_add-size-in-loop-i : goal.overflow_add-size-in-loop-i
overflow_add-size-in-loop-i c =
    let list = c.index-lists-i.result in
    let later = all_from c.args.lists.now (c.loop-i.i + 1) in
    let next = all_from-next c.args.lists.now c.loop-i.i list (slice_get_read c.args.lists.now (length c.args.lists.now) c.loop-i.i list refl (omega (arith, c.loop-i-test.true, c.loop-i.auto.i-end)) c.index-lists-i.is) in
    omega (
      arith,
      ap size_of_blocks next,
      size-append list.packets later,
      c.loop-i.invariant.size,
      size-few (all_from c.args.lists.now 0),
      length-map c.args.lists.now (λ (l : PacketList). l.packets),
      c.size_of_list-size.ensures,
      c.requires.few,
      c.requires.packets,
      c.requires.bytes,
    )

pub size_of_list-size-requires-clause-few : goal.size_of_list-size-requires-clause-few
size_of_list-size-requires-clause-few c =
    let list = c.index-lists-i.result in
    let later = all_from c.args.lists.now (c.loop-i.i + 1) in
    let next = all_from-next c.args.lists.now c.loop-i.i list (slice_get_read c.args.lists.now (length c.args.lists.now) c.loop-i.i list refl (omega (arith, c.loop-i-test.true, c.loop-i.auto.i-end)) c.index-lists-i.is) in
    omega (
      arith,
      ap size_of_blocks next,
      size-append list.packets later,
      c.loop-i.invariant.size,
      size-few (all_from c.args.lists.now 0),
      length-map c.args.lists.now (λ (l : PacketList). l.packets),
      c.requires.few,
      c.requires.packets,
      c.requires.bytes,
    )

pub size_of_list-size-requires-clause-short : goal.size_of_list-size-requires-clause-short
size_of_list-size-requires-clause-short c =
    let list = c.index-lists-i.result in
    let later = all_from c.args.lists.now (c.loop-i.i + 1) in
    let next = all_from-next c.args.lists.now c.loop-i.i list (slice_get_read c.args.lists.now (length c.args.lists.now) c.loop-i.i list refl (omega (arith, c.loop-i-test.true, c.loop-i.auto.i-end)) c.index-lists-i.is) in
    All-first IsShort list.packets later (subst (AllByRecursion IsShort) next c.loop-i.invariant.short)
