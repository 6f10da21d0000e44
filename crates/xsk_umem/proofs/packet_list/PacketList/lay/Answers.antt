use Rattle.std.proofs.Common.{List, ℕ, ◌≡◌, ◌++◌, Some, length, take, drop, map, refl, ap, ◌∙◌, rules}
use Rattle.std.proofs.lemmas.List.{take_at}
use Rattle.xsk_umem.specs.declared.packet_list.Gaps.{Gaps}
use Rattle.xsk_umem.specs.declared.packet_list.Span.{Span}
use Rattle.xsk_umem.specs.PacketList.{PacketList}
use Rattle.xsk_umem.specs.Shared.{bytes_of}
use Rattle.xsk_umem.specs.Span.{at_span, AreSpans, first_gap, gap_before, laid_from}
use Rattle.xsk_umem.proofs.Laying.{HasGaps, same_spans, same_packets, has_gaps}
use Rattle.xsk_umem.proofs.Sharing.{spare_room}
use Rattle.xsk_umem.proofs.packet_list.PacketList.lay.Goals as goal

pub fill-requires-clause-spaced : goal.fill-requires-clause-spaced
fill-requires-clause-spaced g c =
    let is : c.self.inside.gaps ≡ Some (g.H.Headers.sizes_of c.args.headers.now) = search rules in
    let text : c.as_mut_slice.result.now ≡ bytes_of c.self.inside.text.items c.self.inside.front = rw c.make_own.ensures.items at c.as_mut_slice.ensures.value in
    let are : AreSpans (first_gap c.self.inside.gaps) c.as_mut_slice.result.now c.self.inside.spans.items = rw text c.self.invariant.0 in
    rw c.as_slice.ensures.value (has_gaps c.self.inside.gaps _ c.as_mut_slice.result.now c.self.inside.spans.items is are c.self.invariant.1).spaced

pub invariant_of-self-2 : goal.invariant_of-self-2
invariant_of-self-2 g c =
    let old : List ℕ = bytes_of c.self.inside.text.items c.self.inside.front in
    let filled : List ℕ = c.fill.new.text in
    let text : c.as_mut_slice.result.now ≡ old = rw c.make_own.ensures.items at c.as_mut_slice.ensures.value in
    let all : take c.make_own.new.text.len (filled ++ drop (length filled) c.make_own.new.text.items) ≡ filled =
    take_at filled (drop (length filled) c.make_own.new.text.items) c.make_own.new.text.len (c.fill.auto.text ∙ c.as_mut_slice.ensures.len) in
    let len : length filled ≡ length old = rw text at c.fill.auto.text in
    let spare = spare_room c.self.inside.front c.self.inside.spare_packets (gap_before c.self.inside.gaps) c.self.inside.spare_bytes c.self.invariant.5 c.self.invariant.6 in (
      rw (c.make_own.ensures.own, all) (same_spans (first_gap c.self.inside.gaps) old filled c.self.inside.spans.items c.self.invariant.0 len),
      c.self.invariant.1,
      c.self.invariant.2,
      c.make_own.ensures.kept _ spare c.self.invariant.3,
      c.self.invariant.4,
      rw c.make_own.ensures.own tt,
      rw c.make_own.ensures.own tt,
      tt,
    )

pub returns : goal.returns
returns g c =
    let headers = c.args.headers.now in
    let spans : List Span = c.self.inside.spans.items in
    let sizes : Gaps = g.H.Headers.sizes_of headers in
    let first : List ℕ = g.H.Headers.first headers in
    let old : List ℕ = bytes_of c.self.inside.text.items c.self.inside.front in
    let filled : List ℕ = c.fill.new.text in
    let is : c.self.inside.gaps ≡ Some sizes = search rules in
    let text : c.as_mut_slice.result.now ≡ old = rw c.make_own.ensures.items at c.as_mut_slice.ensures.value in
    let all : take c.make_own.new.text.len (filled ++ drop (length filled) c.make_own.new.text.items) ≡ filled =
    take_at filled (drop (length filled) c.make_own.new.text.items) c.make_own.new.text.len (c.fill.auto.text ∙ c.as_mut_slice.ensures.len) in
    let has : HasGaps sizes.first sizes.before_each old spans = has_gaps c.self.inside.gaps sizes old spans is c.self.invariant.0 c.self.invariant.1 in
    let sized : length first ≡ sizes.first = g.met.H.Headers.first_sized headers in
    let written : filled ≡ first ++ laid_from (g.H.Headers.before headers) 0 (map (at_span old) spans) = rw (text, c.as_slice.ensures.value) at c.fill.ensures in
    let packets : map (at_span filled) spans ≡ map (at_span old) spans =
    same_packets (g.H.Headers.before headers) sizes.before_each (g.met.H.Headers.before_sized headers) first old filled spans (rw sized has) written in
    let view : record {
      packets = map (at_span (bytes_of (take c.make_own.new.text.len (filled ++ drop (length filled) c.make_own.new.text.items)) c.make_own.new.front)) spans;
      gaps = c.self.inside.gaps;
      spare_packets = c.self.inside.spare_packets;
      spare_bytes = c.self.inside.spare_bytes;
    } ≡ c.args.self.now = rw (c.make_own.ensures.own, all, packets) c.self.view_is in (
      (refl, (λ _. tt), view),
      record {
        same = tt;
        gaps = (λ _. rw (← c.self.view_is) is, λ _. refl);
        text = rw all at c.as_slice-2.ensures.value ∙ written ∙ ap (λ (list : PacketList). first ++ laid_from (g.H.Headers.before headers) 0 list.packets) c.self.view_is;
      },
    )
