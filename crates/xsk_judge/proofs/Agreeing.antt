-- Entries that are shown again, compared with those that stand there.
use Rattle.std.proofs.Common.{◌≡◌, ℕ, zero, suc, ◌+◌, ◌<◌, ◌≤◌, min, List, [], ◌∷◌, length, take, get_or, Some, refl, sym, ap, ◌∙◌, arith, length-drop}
use Rattle.std.specs.Prelude.{slice_get}
use Rattle.std.proofs.lemmas.List.{take_more_same, get_or-drop, get_or-take, take_min}
use Rattle.xsk_umem.specs.declared.batch.XdpDesc.{XdpDesc}
use Rattle.xsk_judge.specs.Kept.{Queue, standing}
use Rattle.xsk_judge.proofs.Marking.{nothing}
use Rattle.xsk_judge.proofs.Coming.{got_is}

pub got_some : (es : List XdpDesc) (i : ℕ) (d : XdpDesc) → i < length es → slice_get es i ≡ Some (get_or es i d)
got_some [] i d low = absurd (omega (arith, low))
got_some (x ∷ es) zero d low = refl
got_some (x ∷ es) (suc i) d low = got_some es i d (omega (arith, low))

pub same_step : (queue : Queue) (es : List XdpDesc) (n i : ℕ) → n ≤ length (standing queue) → n ≤ length es → i < n → take i es ≡ take i (standing queue)
    → slice_get queue.entries (queue.held + i) ≡ Some (get_or es i nothing) → take (i + 1) es ≡ take (i + 1) (standing queue)
same_step queue es n i few within low same at =
    take_more_same es (standing queue) i nothing (omega (arith, low, within)) (omega (arith, low, few)) same
    (sym (get_or-drop queue.held queue.entries i nothing ∙ got_is queue.entries (queue.held + i) (get_or es i nothing) nothing at))

pub same_stop : (queue : Queue) (es : List XdpDesc) (n i : ℕ) → n ≤ length (standing queue) → n ≤ length es → i < n
    → (slice_get queue.entries (queue.held + i) ≡ Some (get_or es i nothing) → ⊥) → take n es ≡ take n (standing queue) → ⊥
same_stop queue es n i few within low not same =
    let low_all : queue.held + i < length queue.entries = omega (arith, low, few, length-drop queue.held queue.entries) in
    not (got_some queue.entries (queue.held + i) nothing low_all
    ∙ ap Some (sym (get_or-drop queue.held queue.entries i nothing)
    ∙ sym (get_or-take n (standing queue) i nothing low)
    ∙ ap (λ xs. get_or xs i nothing) (sym same)
    ∙ get_or-take n es i nothing low))

-- as far as both reach
pub as_far : (back es : List XdpDesc) (n : ℕ) → n ≡ min (length back) (length es) → (take n es ≡ take n back) → take (length back) es ≡ take (length es) back
as_far back es n is same =
    sym (take_min (length back) es) ∙ ap (λ k. take k es) (sym is) ∙ same ∙ ap (λ k. take k back) (is ∙ other (length back) (length es)) ∙ take_min (length es) back
  where
    other : (a b : ℕ) → min a b ≡ min b a
    other a b = omega arith

pub as_far_back : (back es : List XdpDesc) (n : ℕ) → n ≡ min (length back) (length es) → take (length back) es ≡ take (length es) back → (take n es ≡ take n back)
as_far_back back es n is same =
    ap (λ k. take k es) is ∙ take_min (length back) es ∙ same ∙ sym (take_min (length es) back) ∙ ap (λ k. take k back) (other (length es) (length back) ∙ sym is)
  where
    other : (a b : ℕ) → min a b ≡ min b a
    other a b = omega arith
