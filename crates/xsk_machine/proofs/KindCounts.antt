-- How the kinds of disposals are counted.
use Rattle.std.proofs.Common.{◌≡◌, ◌∙◌, sym, subst, ℕ, ◌+◌, ◌<◌, ◌++◌, get_or, ◌≤◌, List, [], ◌∷◌, length, take, sum, arith, refl, ap}
use Rattle.std.proofs.lemmas.List.{take_all, take_more}
use Rattle.std.proofs.lemmas.List.Sums.{sum_by-cons, count_by-le-length}
use Rattle.xsk_turns.specs.Statistics.{capped}
use Rattle.xsk_machine.specs.Figures.{count_of_kind, kinds_of, KindsAddUp}
use Rattle.xsk_turns.specs.declared.disposal.Disposal.{Disposal}
use Rattle.xsk_turns.specs.declared.disposal.Disposal.TheVariants.{Delivered, NoFrames, RxFull, TooLong, Runt, Missed, Passed, Dropped, Bounced}

pub kinds_add_up : KindsAddUp
kinds_add_up [] = refl
kinds_add_up (Delivered socket ∷ ds) = simp sum_by-cons (omega (arith, kinds_add_up ds))
kinds_add_up (NoFrames ∷ ds) = simp sum_by-cons (omega (arith, kinds_add_up ds))
kinds_add_up (RxFull ∷ ds) = simp sum_by-cons (omega (arith, kinds_add_up ds))
kinds_add_up (TooLong ∷ ds) = simp sum_by-cons (omega (arith, kinds_add_up ds))
kinds_add_up (Runt ∷ ds) = simp sum_by-cons (omega (arith, kinds_add_up ds))
kinds_add_up (Missed ∷ ds) = simp sum_by-cons (omega (arith, kinds_add_up ds))
kinds_add_up (Passed ∷ ds) = simp sum_by-cons (omega (arith, kinds_add_up ds))
kinds_add_up (Dropped ∷ ds) = simp sum_by-cons (omega (arith, kinds_add_up ds))
kinds_add_up (Bounced ∷ ds) = simp sum_by-cons (omega (arith, kinds_add_up ds))

-- no kind has more packets than there are
few : (kind : ℕ) (ds : List Disposal) → length ds ≤ 18446744073709551615 → capped (count_of_kind kind ds) ≡ count_of_kind kind ds
few kind ds h =
    let l : count_of_kind kind ds ≤ length ds = count_by-le-length _ ds in
    omega arith

-- where the packets aren't more than a number holds, the numbers of the kinds add up to them
pub kept_kinds_add_up : (ds : List Disposal) → length ds ≤ 18446744073709551615 → sum (kinds_of ds) ≡ length ds
kept_kinds_add_up ds h =
    rw (few 0 ds h, few 1 ds h, few 2 ds h, few 3 ds h, few 4 ds h, few 5 ds h, few 6 ds h, few 7 ds h, few 8 ds h)
    (kinds_add_up ds)

pub all_kept_kinds_add_up : (ds : List Disposal) (i : ℕ) (kinds : List ℕ) → length ds ≤ 18446744073709551615 → length ds ≤ i
    → kinds ≡ kinds_of (take i ds) → sum kinds ≡ length ds
all_kept_kinds_add_up ds i kinds few all e = ap sum e ∙ ap (λ (seen : List Disposal). sum (kinds_of seen)) (take_all i ds all) ∙ kept_kinds_add_up ds few

pub kinds_step : (ds : List Disposal) (i : ℕ) (d : Disposal) (kinds : List ℕ) → i < length ds → kinds ≡ kinds_of (take i ds ++ get_or ds i d ∷ []) → kinds ≡ kinds_of (take (i + 1) ds)
kinds_step ds i d kinds here e = subst (λ (seen : List Disposal). kinds ≡ kinds_of seen) (sym (take_more ds i d here)) e
