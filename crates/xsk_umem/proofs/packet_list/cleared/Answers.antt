use Rattle.std.proofs.Common.{List, ℕ, ◌≡◌, ◌++◌, length, take, drop, map, replicate, ap, ◌∙◌}
use Rattle.std.proofs.lemmas.List.{take_at, length-replicate}
use Rattle.xsk_umem.specs.declared.packet_list.Gaps.{Gaps}
use Rattle.xsk_umem.specs.declared.packet_list.Span.{Span}
use Rattle.xsk_umem.specs.Span.{at_span, laid_from}
use Rattle.xsk_umem.proofs.Laying.{HasGaps, same_packets, has_gaps, laid_zeros}
use Rattle.xsk_umem.proofs.packet_list.cleared.Goals as goal

pub fill-requires-clause-spaced : goal.fill-requires-clause-spaced
fill-requires-clause-spaced c = rw c.as_mut_slice.ensures.value (has_gaps c.args.gaps c.in-Some.sizes c.args.text.items c.args.spans.now c.in-Some.is c.requires.spans c.requires.gaps).spaced

pub returns-in-Some-clause-packets : goal.returns-in-Some-clause-packets
returns-in-Some-clause-packets c =
    let sizes : Gaps = c.in-Some.sizes in
    let spans : List Span = c.args.spans.now in
    let old : List ℕ = c.args.text.items in
    let filled : List ℕ = c.fill.new.text in
    let all : take c.args.text.len (filled ++ drop (length filled) old) ≡ filled = take_at filled (drop (length filled) old) c.args.text.len (c.fill.auto.text ∙ c.as_mut_slice.ensures.len) in
    let has : HasGaps sizes.first sizes.before_each old spans = has_gaps c.args.gaps sizes old spans c.in-Some.is c.requires.spans c.requires.gaps in
    let written : filled ≡ replicate sizes.first 0 ++ laid_from (λ _ _. replicate sizes.before_each 0) 0 (map (at_span old) spans) = rw c.as_mut_slice.ensures.value at c.fill.ensures in
    ap (λ (text : List ℕ). map (at_span text) spans) all
    ∙ same_packets (λ _ _. replicate sizes.before_each 0) sizes.before_each (λ _ _. length-replicate sizes.before_each 0) (replicate sizes.first 0) old filled spans (rw (length-replicate {A = ℕ} sizes.first 0) has) written

pub returns-in-Some-clause-text : goal.returns-in-Some-clause-text
returns-in-Some-clause-text c =
    let sizes : Gaps = c.in-Some.sizes in
    let spans : List Span = c.args.spans.now in
    let old : List ℕ = c.args.text.items in
    let filled : List ℕ = c.fill.new.text in
    let all : take c.args.text.len (filled ++ drop (length filled) old) ≡ filled = take_at filled (drop (length filled) old) c.args.text.len (c.fill.auto.text ∙ c.as_mut_slice.ensures.len) in
    let written : filled ≡ replicate sizes.first 0 ++ laid_from (λ _ _. replicate sizes.before_each 0) 0 (map (at_span old) spans) = rw c.as_mut_slice.ensures.value at c.fill.ensures in
    rw c.in-Some.is (all ∙ written ∙ ap (λ (text : List ℕ). replicate sizes.first 0 ++ text) (laid_zeros sizes.before_each 0 (map (at_span old) spans)))
