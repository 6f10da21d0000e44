-- The loop that gives the items of a batch other descriptors: it takes each from the front and puts it behind the others.
use Rattle.std.proofs.Common.{◌≡◌, ℕ, ◌+◌, ◌<◌, ◌≤◌, List, [], ◌∷◌, ◌++◌, length, refl, ap, sym, ◌∙◌, arith, subst, append-nil, length-append, append_assoc}
use Rattle.std.specs.Prelude.{All}
use Rattle.std.proofs.lemmas.List.Elements.{All-nil, All-head, All-tail, All-push}
use Rattle.xsk_umem.specs.declared.batch.Item.{Item}
use Rattle.xsk_model.specs.Numbers.{times, numbers, number_of}
use Rattle.xsk_model.proofs.Completions.{times-numbers-append}
use Rattle.xsk_table.proofs.Slots.{numbers-cons}
use Rattle.bench_rings.specs.Moving.{IsWhole, IsMoved, Moved}

pub record Moving (offset len i : ℕ) (xs batch : List Item) : Type 0 where
  pub left : List Item
  pub done : List Item
  pub split : batch ≡ left ++ done
  pub count : length left + i ≡ length xs
  pub whole : All IsWhole left
  pub moved : All (IsMoved offset len) done
  pub same : (n : ℕ) → times n (numbers batch) ≡ times n (numbers xs)
  pub wide : length batch ≡ length xs

pub moving_begin : (offset len : ℕ) (xs : List Item) → All IsWhole xs → Moving offset len 0 xs xs
moving_begin offset len xs whole = record {
  left = xs;
  done = [];
  split = sym (append-nil xs);
  count = omega arith;
  whole = whole;
  moved = All-nil (IsMoved offset len);
  same = λ n. refl;
  wide = refl;
}

abbrev head_or : Item → List Item → Item
head_or d [] = d
head_or d (x ∷ xs) = x

abbrev rest_of : List Item → List Item
rest_of [] = []
rest_of (x ∷ xs) = xs

first_by : (left done rest : List Item) (x : Item) → x ∷ rest ≡ left ++ done → 0 < length left → All IsWhole left → IsWhole x
first_by [] done rest x is some whole = absurd (omega arith)
first_by (z ∷ left) done rest x is some whole = subst IsWhole (sym (ap (head_or x) is)) (All-head IsWhole z left whole)

pub moving_first : (offset len i : ℕ) (xs batch rest : List Item) (x : Item) → Moving offset len i xs batch → batch ≡ x ∷ rest → i < length xs → IsWhole x
moving_first offset len i xs batch rest x m is lt = first_by m.left m.done rest x (sym is ∙ m.split) (let c = m.count in let n : ℕ = length m.left in omega arith) m.whole

more_by : (offset len i : ℕ) (xs left done rest : List Item) (x y : Item) → x ∷ rest ≡ left ++ done → 0 < length left → length left + i ≡ length xs → All IsWhole left → All (IsMoved offset len) done
    → ((n : ℕ) → times n (numbers (x ∷ rest)) ≡ times n (numbers xs)) → length (x ∷ rest) ≡ length xs → IsMoved offset len y → number_of x.frame ≡ number_of y.frame → Moving offset len (i + 1) xs (rest ++ y ∷ [])
more_by offset len i xs [] done rest x y is some count whole moved same wide h number = absurd (omega arith)
more_by offset len i xs (z ∷ left) done rest x y is some count whole moved same wide h number = record {
  left = left;
  done = done ++ y ∷ [];
  split = ap (λ l. rest_of l ++ y ∷ []) is ∙ append_assoc left done (y ∷ []);
  count = omega arith;
  whole = All-tail IsWhole z left whole;
  moved = All-push (IsMoved offset len) done y moved h;
  same = λ n. let one = ap (times n) number in omega (arith, same n, numbers-cons n x rest, times-numbers-append n rest (y ∷ []), numbers-cons n y []);
  wide = omega (arith, wide, length-append rest (y ∷ []));
}

pub moving_more : (offset len i : ℕ) (xs batch rest : List Item) (x y : Item) → Moving offset len i xs batch → batch ≡ x ∷ rest → i < length xs → IsMoved offset len y → number_of x.frame ≡ number_of y.frame
    → Moving offset len (i + 1) xs (rest ++ y ∷ [])
moving_more offset len i xs batch rest x y m is lt h number =
    more_by offset len i xs m.left m.done rest x y (sym is ∙ m.split) (let c = m.count in let n : ℕ = length m.left in omega arith) m.count m.whole m.moved
    (λ n. ap (λ l. times n (numbers l)) (sym is) ∙ m.same n) (ap (length {A = Item}) (sym is) ∙ m.wide) h number

end_by : (offset len : ℕ) (left done : List Item) → length left ≤ 0 → All (IsMoved offset len) done → All (IsMoved offset len) (left ++ done)
end_by offset len [] done none moved = moved
end_by offset len (z ∷ left) done none moved = absurd (omega arith)

pub moving_end : (offset len i : ℕ) (xs batch : List Item) → Moving offset len i xs batch → length xs ≤ i → Moved offset len xs batch
moving_end offset len i xs batch m all = record {
  all = subst (All (IsMoved offset len)) (sym m.split) (end_by offset len m.left m.done (let c = m.count in let n : ℕ = length m.left in omega arith) m.moved);
  same = m.same;
  count = m.wide;
}
