use Rattle.std.proofs.Common.{None, ◌≡◌, ◌≤◌, ℕ, List, length, map, take, sym, ap, subst, arith, rules, ◌∙◌, refl}
use Rattle.std.specs.Arc.{arc_value}
use Rattle.xsk_umem.specs.Shared.{front_of}
use Rattle.xsk_umem.specs.Span.{at_span, AreSpans, end_of}
use Rattle.xsk_umem.proofs.Sharing.{text_small}
use Rattle.xsk_umem.proofs.Spans.{cut-spans, cut-packets, end_within}
use Rattle.xsk_umem.proofs.packet_list.PacketList.of_shared.Goals as goal

pub end-requires : goal.end-requires
end-requires c =
    let text = arc_value c.args.text.now in
    let within : end_of 0 c.args.spans.items ≤ length text.items = end_within text.items 0 c.args.spans.items (omega arith) c.requires.spans.within in
    rw c.as_slice.ensures.value (omega (arith, within, text_small text))

pub of-requires : goal.of-requires
of-requires c =
    let text = arc_value c.args.text.now in
    let end : c.end.result ≡ end_of 0 c.args.spans.items = c.end.ensures ∙ ap (end_of 0) c.as_slice.ensures.value in
    rw end (end_within text.items 0 c.args.spans.items (omega arith) c.requires.spans.within)

pub invariant_of-result : goal.invariant_of-result
invariant_of-result c =
    let text = arc_value c.args.text.now in
    let end : c.end.result ≡ end_of 0 c.args.spans.items = c.end.ensures ∙ ap (end_of 0) c.as_slice.ensures.value in
    let cut : front_of c.in_ok-front.front ≡ take (end_of 0 c.args.spans.items) text.items = c.in_ok-front.ensures ∙ ap (λ n. take n text.items) end in
    (subst (λ (bytes : List ℕ). AreSpans 0 bytes c.args.spans.items) (sym cut) (cut-spans text.items c.args.spans.items c.requires.spans), tt, search rules, search rules, search rules, refl, refl, tt)

pub returns : goal.returns
returns c =
    let text = arc_value c.args.text.now in
    let end : c.end.result ≡ end_of 0 c.args.spans.items = c.end.ensures ∙ ap (end_of 0) c.as_slice.ensures.value in
    let cut : front_of c.in_ok-front.front ≡ take (end_of 0 c.args.spans.items) text.items = c.in_ok-front.ensures ∙ ap (λ n. take n text.items) end in
    ap (λ packets. record { packets = packets; gaps = None; spare_packets = 0; spare_bytes = 0 })
    (ap (λ (bytes : List ℕ). map (at_span bytes) c.args.spans.items) cut ∙ cut-packets text.items c.args.spans.items c.requires.spans)
