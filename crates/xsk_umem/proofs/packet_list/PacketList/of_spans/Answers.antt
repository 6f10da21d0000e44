use Rattle.std.proofs.Common.{None, ◌≡◌, ◌<◌, ◌≤◌, length, take, ap, arith, rules, ◌∙◌}
use Rattle.xsk_umem.specs.Span.{end_of}
use Rattle.xsk_umem.proofs.Spans.{cut-spans, cut-packets, end_within}
use Rattle.xsk_umem.proofs.packet_list.PacketList.of_spans.Goals as goal

pub end-requires : goal.end-requires
end-requires c =
    let within : end_of 0 c.args.spans.items ≤ length c.args.text.items = end_within c.args.text.items 0 c.args.spans.items (omega arith) c.requires.spans.within in
    let few : length c.args.text.items < 18446744073709551616 = search rules in
    rw c.as_slice.ensures.value (omega (arith, within, few))

pub invariant_of-result : goal.invariant_of-result
invariant_of-result c =
    let end : c.end.result ≡ end_of 0 c.args.spans.items = c.end.ensures ∙ ap (end_of 0) c.as_slice.ensures.value in
    let cut : c.truncate.new.self.items ≡ take (end_of 0 c.args.spans.items) c.args.text.items = c.truncate.ensures.items ∙ ap (λ n. take n c.args.text.items) end in
    (rw cut (cut-spans c.args.text.items c.args.spans.items c.requires.spans), tt, search rules, search rules, search rules, tt, tt, tt)

pub returns : goal.returns
returns c =
    let end : c.end.result ≡ end_of 0 c.args.spans.items = c.end.ensures ∙ ap (end_of 0) c.as_slice.ensures.value in
    let cut : c.truncate.new.self.items ≡ take (end_of 0 c.args.spans.items) c.args.text.items = c.truncate.ensures.items ∙ ap (λ n. take n c.args.text.items) end in
    ap (λ packets. record { packets = packets; gaps = None; spare_packets = 0; spare_bytes = 0 }) (rw cut (cut-packets c.args.text.items c.args.spans.items c.requires.spans))
