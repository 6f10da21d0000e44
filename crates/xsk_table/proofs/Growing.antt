-- What was given and what was released only grow along a history.
use Rattle.std.proofs.Common.{ℕ, ◌≤◌, Bool, true, false, cond, List, [], ◌∷◌, ap, sym, ◌∙◌, arith, subst}
use Rattle.xsk_model.specs.Rings.{producer, consumer}
use Rattle.xsk_model.specs.Entry.{Told, Entry, own}
use Rattle.xsk_model.specs.Own.{is_on, part_of, given_step, released_step, given_of}
use Rattle.xsk_model.specs.declared.call.Ring.{Ring}
use Rattle.xsk_model.proofs.Folds.{own-append, part_of-append}
use Rattle.xsk_table.specs.View.{Basis}
use Rattle.xsk_table.specs.Rule.{given, released, StartsWith}

cond_grows : (b : Bool) (n m : ℕ) → n ≤ m → n ≤ cond b m n
cond_grows true n m h = h
cond_grows false n m h = omega arith

module _ (change : ℕ → Told → ℕ) (grows : (n : ℕ) (t : Told) → n ≤ change n t) (r : Ring) where
  part_grows : (n : ℕ) (more : List Told) → n ≤ part_of change r n more
  part_grows n [] = omega arith
  part_grows n (t ∷ more) =
      let m : ℕ = cond (is_on r t.call) (change n t) n in
      let a : n ≤ m = cond_grows (is_on r t.call) n (change n t) (grows n t) in
      let b : m ≤ part_of change r m more = part_grows m more in
      omega arith

  own_grows : (who : ℕ) (log seen : List Entry) → StartsWith log seen → part_of change r 0 (own who seen) ≤ part_of change r 0 (own who log)
  own_grows who log seen h =
      let is = ap (λ (l : List Entry). part_of change r 0 (own who l)) h.1 ∙ ap (part_of change r 0) (own-append who seen h.0) ∙ part_of-append change r 0 (own who seen) (own who h.0) in
      subst (λ (n : ℕ). part_of change r 0 (own who seen) ≤ n) (sym is) (part_grows (part_of change r 0 (own who seen)) (own who h.0))

pub given_grows : (k : Basis) (r : Ring) (log seen : List Entry) → StartsWith log seen → given k r seen ≤ given k r log
given_grows k r log seen h =
    let more : given_of r (own (producer k.config r) seen) ≤ given_of r (own (producer k.config r) log) = own_grows given_step (λ n t. omega arith) r (producer k.config r) log seen h in
    omega arith

pub released_grows : (k : Basis) (r : Ring) (log seen : List Entry) → StartsWith log seen → released k r seen ≤ released k r log
released_grows k r log seen h = own_grows released_step (λ n t. omega arith) r (consumer k.config r) log seen h
