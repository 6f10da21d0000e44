use Rattle.std.proofs.Common.{List, ℕ, length, map, refl, sym, ap, ◌∙◌}
use Rattle.xsk_umem.specs.PacketList.{PacketList}
use Rattle.xsk_umem.specs.Shared.{bytes_of}
use Rattle.xsk_umem.specs.Span.{at_span, first_gap, spans_from, text_with}
use Rattle.xsk_umem.proofs.Laying.{same_spans}
use Rattle.xsk_umem.proofs.Spans.{are_in_text, gaps-spans, text-is}
use Rattle.xsk_umem.proofs.packet_list.PacketList.into_parts.Goals as goal

pub cleared-requires-clause-spans : goal.cleared-requires-clause-spans
cleared-requires-clause-spans c = rw (c.own_text-text.ensures, c.as_slice.ensures.value) c.self.invariant.0

pub cleared-requires-clause-text : goal.cleared-requires-clause-text
cleared-requires-clause-text c = rw (c.own_text-text.ensures, c.as_slice.ensures.value) c.self.invariant.7

pub returns-clause-packets : goal.returns-clause-packets
returns-clause-packets c =
    rw c.as_slice.ensures.value at c.cleared.ensures.packets
    ∙ ap (λ (text : List ℕ). map (at_span text) c.self.inside.spans.items) c.own_text-text.ensures ∙ ap (λ (list : PacketList). list.packets) c.self.view_is

pub returns-clause-spans : goal.returns-clause-spans
returns-clause-spans c =
    are_in_text (first_gap c.self.inside.gaps) _ c.self.inside.spans.items
    (same_spans _ _ _ c.self.inside.spans.items c.self.invariant.0 (c.cleared.ensures.len ∙ ap length c.own_text-text.ensures))

pub returns-clause-end : goal.returns-clause-end
returns-clause-end c = c.self.invariant.0.end ∙ sym (c.cleared.ensures.len ∙ ap length c.own_text-text.ensures)

pub returns-clause-gaps : goal.returns-clause-gaps
returns-clause-gaps c = λ gaps is.
    gaps-spans (bytes_of c.self.inside.text.items c.self.inside.front) c.self.inside.gaps c.self.inside.spans.items c.self.invariant.1 c.self.invariant.0.within gaps is
    ∙ ap (λ (list : PacketList). spans_from gaps.first gaps.before_each list.packets) c.self.view_is

pub returns-clause-text : goal.returns-clause-text
returns-clause-text c = λ gaps is.
    text-is _ c.self.inside.gaps _ _ (rw (c.own_text-text.ensures, c.as_slice.ensures.value) at c.cleared.ensures.text) refl gaps is
    ∙ ap (λ (list : PacketList). text_with gaps list.packets) c.self.view_is
