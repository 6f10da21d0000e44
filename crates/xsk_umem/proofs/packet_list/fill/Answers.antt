use Rattle.std.proofs.Common.{◌≡◌, ◌-◌, ◌≤◌, ℕ, List, [], ◌++◌, length, take, drop, ap, sym, subst, ◌∙◌, arith}
use Rattle.std.specs.List.{slice_index_or}
use Rattle.std.proofs.lemmas.List.{length-take-le, length-drop, drop_all}
use Rattle.std.proofs.lemmas.Slice.{take-put_mid, drop-put_mid}
use Rattle.xsk_umem.specs.declared.packet_list.Gaps.{Gaps}
use Rattle.xsk_umem.specs.declared.packet_list.Span.{Span}
use Rattle.xsk_umem.proofs.Laying.{HasGaps, Filling, Filling-first, Filling-done, filling_at, first_gap_fits}
use Rattle.xsk_umem.proofs.packet_list.fill.Goals as goal

pub slice_bounds-write_first-end : goal.slice_bounds-write_first-end
slice_bounds-write_first-end g c =
    rw c.sizes-sizes.ensures (first_gap_fits _ _ c.args.text.now c.args.spans.now (record { within = c.requires.within; spaced = c.requires.spaced; end = c.requires.end }))

pub slice_bounds-write_first-end-2 : goal.slice_bounds-write_first-end-2
slice_bounds-write_first-end-2 g c = sym (length-take-le _ c.args.text.now (rw c.sizes-sizes.ensures (first_gap_fits _ _ c.args.text.now c.args.spans.now (record { within = c.requires.within; spaced = c.requires.spaced; end = c.requires.end }))))

pub write_first-requires : goal.write_first-requires
write_first-requires g c = length-take-le _ c.args.text.now (rw c.sizes-sizes.ensures (first_gap_fits _ _ c.args.text.now c.args.spans.now (record { within = c.requires.within; spaced = c.requires.spaced; end = c.requires.end }))) ∙ ap (λ (s : Gaps). s.first) c.sizes-sizes.ensures

pub loop-number-init : goal.loop-number-init
loop-number-init g c =
    let headers = c.args.headers.now in
    let sized : length (g.H.Headers.first headers) ≡ c.sizes-sizes.result.first = g.met.H.Headers.first_sized headers ∙ ap (λ (s : Gaps). s.first) (sym c.sizes-sizes.ensures) in
    let has : HasGaps (length (g.H.Headers.first headers)) c.sizes-sizes.result.before_each c.args.text.now c.args.spans.now =
    rw (sized, c.sizes-sizes.ensures) (record { within = c.requires.within; spaced = c.requires.spaced; end = c.requires.end }) in
    Filling-first (g.H.Headers.before headers) c.sizes-sizes.result.before_each (g.H.Headers.first headers) c.args.text.now _ c.args.spans.now has
    (ap (λ (first : List ℕ). first ++ drop c.sizes-sizes.result.first c.args.text.now) c.write_first.ensures ∙ ap (λ (n : ℕ). g.H.Headers.first headers ++ drop n c.args.text.now) (sym sized))

pub overflow_sub-start : goal.overflow_sub-start
overflow_sub-start g c =
    (filling_at _ _ _ c.loop-number.number c.loop-number.text c.args.spans.now (record { start = 0; len = 0 }) c.loop-number-test.true c.loop-number.invariant).gap

pub write_before-requires : goal.write_before-requires
write_before-requires g c =
    let span : Span = slice_index_or c.args.spans.now c.loop-number.number (record { start = 0; len = 0 }) in
    let size : ℕ = c.sizes-sizes.result.before_each in
    let next = filling_at _ _ _ c.loop-number.number c.loop-number.text c.args.spans.now (record { start = 0; len = 0 }) c.loop-number-test.true c.loop-number.invariant in
    let part : length (take (span.start - (span.start - size)) (drop (span.start - size) c.loop-number.text)) ≡ span.start - (span.start - size) =
    length-take-le (span.start - (span.start - size)) (drop (span.start - size) c.loop-number.text) (omega (arith, length-drop (span.start - size) c.loop-number.text, next.gap, next.within)) in
    let back : span.start - (span.start - size) ≡ size = omega (arith, next.gap) in
    part ∙ back ∙ ap (λ (s : Gaps). s.before_each) c.sizes-sizes.ensures

pub loop-number-preserved : goal.loop-number-preserved
loop-number-preserved g c =
    let span : Span = slice_index_or c.args.spans.now c.loop-number.number (record { start = 0; len = 0 }) in
    let text = c.loop-number.text in
    let size : ℕ = c.sizes-sizes.result.before_each in
    let next = filling_at _ _ _ c.loop-number.number text c.args.spans.now (record { start = 0; len = 0 }) c.loop-number-test.true c.loop-number.invariant in
    let written : List ℕ = c.write_before.new.gap in
    let len : length written ≡ size =
    ap length c.write_before.ensures ∙ g.met.H.Headers.before_sized c.args.headers.now c.loop-number.number span.len ∙ ap (λ (s : Gaps). s.before_each) (sym c.sizes-sizes.ensures) in
    let fits : span.start - size ≤ length text = omega (arith, next.within) in
    next.next written _ c.write_before.ensures len
    (take-put_mid (span.start - size) _ text _ span.start (omega (arith, len, next.gap)) fits)
    (drop-put_mid (span.start - size) _ text _ span.start (omega (arith, next.gap)) fits (omega (arith, len, next.gap)))

pub returns : goal.returns
returns g c =
    let none : drop c.loop-number.number c.args.spans.now ≡ [] = drop_all c.loop-number.number c.args.spans.now (omega (arith, c.loop-number-test.false)) in
    Filling-done _ _ _ c.loop-number.number c.loop-number.text (subst (Filling _ _ _ c.loop-number.number c.loop-number.text) none c.loop-number.invariant)
