use Rattle.std.proofs.Common.{◌≡◌, ◌<◌, ◌≤◌, length, sym, ap, arith, ◌∙◌}
use Rattle.std.specs.Prelude.{sum_by}
use Rattle.std.specs.List.{concat}
use Rattle.xsk_umem.specs.PacketList.{PacketList}
use Rattle.xsk_umem.specs.Shared.{bytes_of}
use Rattle.xsk_umem.specs.Span.{len_of, first_gap}
use Rattle.xsk_umem.proofs.Sharing.{bytes_small}
use Rattle.xsk_umem.proofs.Spans.{length-packets, sum_within}
use Rattle.xsk_umem.proofs.packet_list.PacketList.bytes.Goals as goal

pub total-requires : goal.total-requires
total-requires c =
    let bytes = bytes_of c.self.inside.text.items c.self.inside.front in
    let within : sum_by len_of c.self.inside.spans.items ≤ length bytes = sum_within (first_gap c.self.inside.gaps) bytes c.self.inside.spans.items c.self.invariant.0 in
    let few : length bytes < 18446744073709551616 = bytes_small c.self.inside.text c.self.inside.front in
    rw c.as_slice.ensures.value (omega (arith, within, few))

pub returns : goal.returns
returns c =
    let bytes = bytes_of c.self.inside.text.items c.self.inside.front in
    let sum : c.total.result ≡ sum_by len_of c.self.inside.spans.items = c.total.ensures ∙ ap (sum_by len_of) c.as_slice.ensures.value in
    sum ∙ sym (length-packets bytes c.self.inside.spans.items c.self.invariant.0.within) ∙ ap (λ (list : PacketList). length (concat list.packets)) c.self.view_is
