use Rattle.std.proofs.Common.{◌≡◌, ℕ, List, ◌+◌, ◌*◌, ◌/◌, ◌%◌, ◌++◌, replicate, ap, ◌∙◌, arith, rules, append_assoc}
use Rattle.std.proofs.lemmas.List.{replicate-append-replicate}
use Rattle.std.proofs.lemmas.Nat.{div-add-mod'}
use Rattle.xsk_umem.proofs.packet_list.append_gap.Goals as goal

pub loop-preserved : goal.loop-preserved
loop-preserved c =
    let before : List ℕ = c.args.text.now.items in
    let so : List ℕ = replicate (c.loop.counter * 16) 0 in
    let grown : c.extend_from_slice-in-loop.new.self.items ≡ c.loop.text.items ++ replicate 16 0 = rw c.unwrap-in-loop.ensures at c.extend_from_slice-in-loop.ensures.items in
    let count : c.loop.counter * 16 + 16 ≡ (c.loop.counter + 1) * 16 = omega arith in (
      grown ∙ ap (λ (xs : List ℕ). xs ++ replicate 16 0) c.loop.invariant.0 ∙ append_assoc before so (replicate 16 0)
          ∙ ap (λ (xs : List ℕ). before ++ xs) (replicate-append-replicate (c.loop.counter * 16) 16 0) ∙ ap (λ n. before ++ replicate n 0) count,
      search rules,
      search rules,
    )

pub returns-clause-items : goal.returns-clause-items
returns-clause-items c =
    let before = c.args.text.now.items in
    let whole = c.args.gap / 16 * 16 in
    let rest = c.args.gap % 16 in
    let times : c.loop.counter ≡ c.args.gap / 16 = omega (arith, c.loop.auto.counter-end, c.loop-test.false) in
    c.append_zeros.ensures.items ∙ ap (λ (xs : List ℕ). xs ++ replicate rest 0) (rw times at c.loop.invariant.0)
    ∙ append_assoc before (replicate whole 0) (replicate rest 0)
    ∙ ap (λ (xs : List ℕ). before ++ xs) (replicate-append-replicate whole rest 0) ∙ ap (λ n. before ++ replicate n 0) (div-add-mod' c.args.gap 16)
