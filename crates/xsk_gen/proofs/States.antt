-- The states of the draws.
use Rattle.std.proofs.Common.{◌≡◌, ◌∙◌, ◌+◌, ◌*◌, ℕ, zero, suc, refl, ap, subst, arith}
use Rattle.xsk_gen.specs.Generator.{draw, drawn, next_state, state_after}

pub after_none : (x : ℕ) → state_after 0 x ≡ x
unfolding state_after
after_none x = refl

after_suc : (n x : ℕ) → state_after (suc n) x ≡ next_state (state_after n x)
unfolding state_after
after_suc n x = refl

pub after_more : (n x : ℕ) → state_after (n + 1) x ≡ next_state (state_after n x)
after_more n x =
    let next : suc n ≡ n + 1 = omega arith in
    subst (λ k. state_after k x ≡ next_state (state_after n x)) next (after_suc n x)

pub draw_is : (x n : ℕ) → draw x n ≡ drawn (next_state (state_after n x))
draw_is x n = ap drawn (after_suc n x)

pub first_draw : (x : ℕ) → draw x 0 ≡ drawn (next_state x)
first_draw x = draw_is x 0 ∙ ap (λ s. drawn (next_state s)) (after_none x)

pub after_next : (n x : ℕ) → state_after n (next_state x) ≡ state_after (suc n) x
unfolding state_after
after_next zero x = refl
after_next (suc n) x = ap next_state (after_next n x)

after_sum : (m n x : ℕ) → state_after m (state_after n x) ≡ state_after (m + n) x
unfolding state_after
after_sum zero n x =
    let same : n ≡ 0 + n = omega arith in
    ap (λ k. state_after k x) same
after_sum (suc m) n x =
    let same : suc (m + n) ≡ suc m + n = omega arith in
    ap next_state (after_sum m n x) ∙ ap (λ k. state_after k x) same

-- a packet takes thirteen draws
pub after_packet : (k x : ℕ) → state_after 13 (state_after (13 * k) x) ≡ state_after (13 * (k + 1)) x
after_packet k x =
    let next : 13 + 13 * k ≡ 13 * (k + 1) = omega arith in
    after_sum 13 (13 * k) x ∙ ap (λ n. state_after n x) next
