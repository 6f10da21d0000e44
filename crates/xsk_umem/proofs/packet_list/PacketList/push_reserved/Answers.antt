use Rattle.std.proofs.Common.{◌≡◌, ℕ, None, ◌+◌, ◌≤◌, ◌++◌, length, map, replicate, refl, arith, rules, ◌∙◌, length-append}
use Rattle.std.proofs.lemmas.List.{length-replicate}
use Rattle.xsk_umem.specs.Span.{at_span, AreSpans, HasText, first_gap, gap_before, end_of}
use Rattle.xsk_umem.proofs.Sharing.{own_with_room}
use Rattle.xsk_umem.proofs.Spans.{map_at_span-push, spans-push, gaps-push, has-push, gap_less}
use Rattle.xsk_umem.proofs.packet_list.PacketList.push_reserved.Goals as goal

pub unwrap-requires : goal.unwrap-requires
unwrap-requires c =
    let less = gap_less c.self.inside.spare_packets (gap_before c.self.inside.gaps) (search rules) in
    search rules

pub invariant_of-self : goal.invariant_of-self
invariant_of-self c =
    let some : 1 ≤ c.self.inside.spare_packets = rw (← c.self.view_is) at c.requires.packets in
    let own : c.self.inside.front ≡ None = own_with_room c.self.inside.front c.self.inside.spare_packets c.self.invariant.5 some in
    let are : AreSpans (first_gap c.self.inside.gaps) c.self.inside.text.items c.self.inside.spans.items = rw own at c.self.invariant.0 in
    let grown : c.extend_from_slice.new.self.items ≡ c.self.inside.text.items ++ replicate c.before_each.result 0 ++ c.args.bytes.now =
    rw c.append_gap.ensures.items at (rw c.unwrap.ensures at c.extend_from_slice.ensures.items) in
    let start : c.len-start.result ≡ length (c.self.inside.text.items ++ replicate c.before_each.result 0) = rw (← c.append_gap.ensures.items) (search rules) in
    let gap : length {A = ℕ} (replicate c.before_each.result 0) ≡ gap_before c.self.inside.gaps = length-replicate c.before_each.result 0 ∙ c.before_each.ensures in
    let behind : c.len-start.result ≡ end_of (first_gap c.self.inside.gaps) c.self.inside.spans.items + gap_before c.self.inside.gaps =
    start ∙ length-append c.self.inside.text.items (replicate c.before_each.result 0) ∙ omega (arith, gap, are.end) in
    let less = gap_less c.self.inside.spare_packets (gap_before c.self.inside.gaps) (search rules) in
    let has : HasText c.self.inside.laid c.self.inside.gaps (map (at_span c.self.inside.text.items) c.self.inside.spans.items) c.self.inside.text.items = rw own at c.self.invariant.7 in (
      rw (c.push_reserved.ensures.items, own, grown) (spans-push _ _ _ _ _ _ are start refl),
      rw c.push_reserved.ensures.items (gaps-push c.self.inside.gaps _ _ c.self.invariant.1 behind),
      search rules,
      search rules,
      search rules,
      rw own tt,
      rw own tt,
      rw (c.push_reserved.ensures.items, own, grown) (has-push c.self.inside.laid c.self.inside.gaps _ _ _ _ _ c.before_each.ensures are.within start refl has),
    )

pub returns-clause-packets : goal.returns-clause-packets
returns-clause-packets c =
    let some : 1 ≤ c.self.inside.spare_packets = rw (← c.self.view_is) at c.requires.packets in
    let own : c.self.inside.front ≡ None = own_with_room c.self.inside.front c.self.inside.spare_packets c.self.invariant.5 some in
    let are : AreSpans (first_gap c.self.inside.gaps) c.self.inside.text.items c.self.inside.spans.items = rw own at c.self.invariant.0 in
    let grown : c.extend_from_slice.new.self.items ≡ c.self.inside.text.items ++ replicate c.before_each.result 0 ++ c.args.bytes.now =
    rw c.append_gap.ensures.items at (rw c.unwrap.ensures at c.extend_from_slice.ensures.items) in
    let start : c.len-start.result ≡ length (c.self.inside.text.items ++ replicate c.before_each.result 0) = rw (← c.append_gap.ensures.items) (search rules) in
    rw (c.push_reserved.ensures.items, ← c.self.view_is, own, grown)
    (map_at_span-push _ _ _ _ _ are.within start refl)
