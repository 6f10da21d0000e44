use Rattle.std.proofs.Common.{◌≡◌, ◌+◌, ◌-◌, ◌≤◌, List, ℕ, ◌++◌, length, ap, ◌∙◌, arith, rules}
use Rattle.std.proofs.lemmas.List.{length-map}
use Rattle.xsk_umem.specs.declared.packet_list.Span.{Span}
use Rattle.xsk_umem.specs.Shared.{bytes_of}
use Rattle.xsk_umem.proofs.Sharing.{bytes_of-append, spare_less}
use Rattle.xsk_umem.proofs.Spans.{map_at_span-extend, spans-extend, gaps-extend, has-extend}
use Rattle.xsk_umem.proofs.packet_list.PacketList.extend_last.Goals as goal

pub invariant_of-self : goal.invariant_of-self
invariant_of-self c =
    let front = c.self.inside.front in
    let fits : length c.args.bytes.now ≤ c.self.inside.spare_bytes = rw (← c.self.view_is) at c.requires.bytes in
    let grown : bytes_of c.extend_from_slice.new.self.items front ≡ bytes_of c.self.inside.text.items front ++ c.args.bytes.now =
    ap (λ (text : List ℕ). bytes_of text front) (rw c.unwrap.ensures at c.extend_from_slice.ensures.items)
    ∙ bytes_of-append c.self.inside.text.items c.args.bytes.now front c.self.inside.spare_bytes c.self.invariant.6 fits in
    let some : 1 ≤ length c.self.inside.spans.items = rw length-map at (rw (← c.self.view_is) at c.requires.some) in
    let last : c.len-last.result - 1 + 1 ≡ length c.self.inside.spans.items = omega arith in (
      rw grown (spans-extend _ _ _ (c.len-last.result - 1) _ c.index_mut.result.now _ c.self.invariant.0 last
          (ap (λ (s : Span). s.start) c.index_mut.ensures.value)
          (ap (λ (s : Span). s.len + length c.args.bytes.now) c.index_mut.ensures.value)),
      gaps-extend c.self.inside.gaps (c.len-last.result - 1) _ c.index_mut.result.now _ c.self.invariant.1 last (ap (λ (s : Span). s.start) c.index_mut.ensures.value),
      search rules,
      search rules,
      search rules,
      c.self.invariant.5,
      spare_less front c.self.inside.spare_bytes _ c.self.invariant.6 (search rules),
      rw grown (has-extend c.self.inside.laid c.self.inside.gaps _ _ _ (c.len-last.result - 1) _ c.index_mut.result.now _ c.self.invariant.0.within last c.self.invariant.0.end
          (ap (λ (s : Span). s.start) c.index_mut.ensures.value)
          (ap (λ (s : Span). s.len + length c.args.bytes.now) c.index_mut.ensures.value)
          c.self.invariant.7),
    )

pub returns-clause-packets : goal.returns-clause-packets
returns-clause-packets c =
    let front = c.self.inside.front in
    let fits : length c.args.bytes.now ≤ c.self.inside.spare_bytes = rw (← c.self.view_is) at c.requires.bytes in
    let grown : bytes_of c.extend_from_slice.new.self.items front ≡ bytes_of c.self.inside.text.items front ++ c.args.bytes.now =
    ap (λ (text : List ℕ). bytes_of text front) (rw c.unwrap.ensures at c.extend_from_slice.ensures.items)
    ∙ bytes_of-append c.self.inside.text.items c.args.bytes.now front c.self.inside.spare_bytes c.self.invariant.6 fits in
    let some : 1 ≤ length c.self.inside.spans.items = rw length-map at (rw (← c.self.view_is) at c.requires.some) in
    let last : c.len-last.result - 1 + 1 ≡ length c.self.inside.spans.items = omega arith in
    rw (← c.self.view_is, grown)
    (map_at_span-extend _ _ _ (c.len-last.result - 1) _ c.index_mut.result.now _ c.self.invariant.0.within last c.self.invariant.0.end
    (ap (λ (s : Span). s.start) c.index_mut.ensures.value)
    (ap (λ (s : Span). s.len + length c.args.bytes.now) c.index_mut.ensures.value))
