-- A flat list of items cut into packets.
use Rattle.std.proofs.Common.{◌≡◌, ℕ, ◌+◌, ◌*◌, ◌≤◌, List, [], ◌∷◌, ◌++◌, length, take, drop, refl, sym, ◌∙◌, ap, arith, All, sum}
use Rattle.std.proofs.Math.Seq.{take-length}
use Rattle.std.proofs.lemmas.List.{take-append-le, drop-append-le, length-drop, length-take-le}
use Rattle.std.proofs.lemmas.List.Elements.{All-head, All-tail}
use Rattle.std.proofs.lemmas.List.Sums.{sum_by-cons}
use Rattle.xsk_umem.specs.declared.batch.Item.{Item}
use Rattle.xsk_driver.specs.Finished.{cut_by}

sum_first : (n : ℕ) (lengths : List ℕ) → sum (n ∷ lengths) ≡ n + sum lengths
sum_first n lengths = sum_by-cons (λ x. x) n lengths

pub cut_count : (lengths : List ℕ) (items : List Item) → length (cut_by lengths items) ≡ length lengths
cut_count [] items = refl
cut_count (n ∷ lengths) items = omega (arith, cut_count lengths (drop n items))

-- one more packet behind the others
pub cut_push : (lengths : List ℕ) (items packet : List Item) (n : ℕ) → sum lengths ≡ length items → n ≡ length packet
    → cut_by (lengths ++ n ∷ []) (items ++ packet) ≡ cut_by lengths items ++ packet ∷ []
cut_push [] [] packet n all is = ap (λ (p : List Item). p ∷ []) (ap (λ (m : ℕ). take m packet) is ∙ take-length packet)
cut_push [] (item ∷ items) packet n all is = absurd (omega (arith, all))
cut_push (m ∷ lengths) items packet n all is =
    let fits : m ≤ length items = omega (arith, all, sum_first m lengths) in
    let later : sum lengths ≡ length (drop m items) = omega (arith, all, sum_first m lengths, length-drop m items) in
    ap (λ (p : List Item). p ∷ cut_by (lengths ++ n ∷ []) (drop m (items ++ packet))) (take-append-le m items packet fits)
    ∙ ap (λ (is : List Item). take m items ∷ cut_by (lengths ++ n ∷ []) is) (drop-append-le m items packet fits)
    ∙ ap (λ (ps : List (List Item)). take m items ∷ ps) (cut_push lengths (drop m items) packet n later is)

-- the items of packets with few items are few
pub sum_few : (lengths : List ℕ) (most : ℕ) → All (λ n. n ≤ most) lengths → sum lengths ≤ most * length lengths
sum_few [] most few = omega arith
sum_few (n ∷ lengths) most few =
    let later : sum lengths ≤ most * length lengths = sum_few lengths most (All-tail (λ n. n ≤ most) n lengths few) in
    omega (arith, sum_first n lengths, All-head (λ n. n ≤ most) n lengths few, later)

-- the first packet
pub first_fits : (n : ℕ) (lengths : List ℕ) (items : List Item) → sum (n ∷ lengths) ≡ length items → n ≤ length items
first_fits n lengths items all = omega (arith, all, sum_first n lengths)

pub first_length : (n : ℕ) (lengths : List ℕ) (items : List Item) → sum (n ∷ lengths) ≡ length items → n ≡ length (take n items)
first_length n lengths items all = sym (length-take-le n items (first_fits n lengths items all))

pub sum_later : (n : ℕ) (lengths : List ℕ) (items : List Item) → sum (n ∷ lengths) ≡ length items → sum lengths ≡ length (drop n items)
sum_later n lengths items all = omega (arith, all, sum_first n lengths, length-drop n items)
