-- One call of a bay after another.
use Rattle.std.proofs.Common.{◌≡◌, ℕ, ◌+◌, ◌-◌, ◌<◌, ◌≤◌, subst, cond, inl, inr, refl, List, [], ◌∷◌, ◌++◌, Option, Some, None, take, drop, sym, ◌∙◌, ap, append_assoc, append-nil, Result, Ok, Err, arith}
use Rattle.std.proofs.Math.Seq.{take-add}
use Rattle.std.proofs.lemmas.Bool.{ne_eqb}
use Rattle.std.specs.Io.KnownBytes.{prepend_known}
use Rattle.xsk_io.specs.declared.bay.Stream.{Stream}
use Rattle.xsk_io.specs.declared.bay.Kind.{Kind}
use Rattle.xsk_io.specs.declared.bay.BayFailed.{BayFailed}
use Rattle.xsk_io.specs.declared.bay.Offer.{Offer}
use Rattle.xsk_io.specs.Bay.{Same, SameBut, Adds, AddsNoneBut, AreRests, IsOffered, left_by, offer_of, Grows, Rose, CountsOnly}

pub Same-then : {A : Type 0} (f g h : Stream → A) → Same f g → Same g h → Same f h
Same-then f g h first second stream = second stream ∙ first stream

pub SameBut-then : {A : Type 0} (one : Stream) (f g h : Stream → A) → SameBut one f g → SameBut one g h → SameBut one f h
SameBut-then one f g h first second stream other = second stream other ∙ first stream other

pub CountsOnly-then : (kind : Kind) (stream : Stream) (f g h : Kind → Stream → ℕ) → CountsOnly kind stream f g → CountsOnly kind stream g h → CountsOnly kind stream f h
CountsOnly-then kind stream f g h first second =
    (λ other differs t. second.0 other differs t ∙ first.0 other differs t, λ t differs. second.1 t differs ∙ first.1 t differs)

-- a count that rose has risen whatever comes later, and whatever came before
pub Rose-later : (a b c : ℕ) → a ≤ b → Rose a b → b ≤ c → Rose a c
Rose-later a b c low (inl rose) high = inl (omega arith)
Rose-later a b c low (inr last) high = grind arith

pub Rose-earlier : (a b c : ℕ) → a ≤ b → Rose b c → Rose a c
Rose-earlier a b c low (inl rose) = inl (omega arith)
Rose-earlier a b c low (inr last) = inr last

pub Grows-then : (first second third : Option (List ℕ)) (xs ys : List ℕ) → Grows first second xs → Grows second third ys → Grows first third (xs ++ ys)
Grows-then first second third xs ys g (inl lost) = inl lost
Grows-then first second third xs ys (inl lost) (inr grown) = inl (rw (grown, lost))
Grows-then None second third xs ys (inr grown) (inr more) = inl (rw (more, grown))
Grows-then (Some bytes) second third xs ys (inr grown) (inr more) = inr (rw (more, grown, append_assoc))

-- the front of a text, and then the front of its rest
pub Grows-front : (first second third : Option (List ℕ)) (text : List ℕ) (at count : ℕ)
    → Grows first second (take at text) → Grows second third (take count (drop at text)) → Grows first third (take (at + count) text)
Grows-front first second third text at count g h = rw take-add (Grows-then first second third (take at text) (take count (drop at text)) g h)

-- what a read gave comes after what was read before
pub prepend_known-then : (first second third : Option (List ℕ)) (xs ys : List ℕ)
    → first ≡ prepend_known xs second → second ≡ prepend_known ys third → first ≡ prepend_known (xs ++ ys) third
prepend_known-then first second None xs ys e d = e ∙ ap (prepend_known xs) d
prepend_known-then first second (Some bytes) xs ys e d = e ∙ ap (prepend_known xs) d ∙ ap Some (sym (append_assoc xs ys bytes))

-- ---- writes

-- what is still to be offered after all of them
abbrev pub left_by_all : ℕ → List Offer → ℕ
left_by_all n [] = n
left_by_all n (offer ∷ offers) = left_by_all (left_by n offer) offers

pub left_by_all-push : (n : ℕ) (offers : List Offer) (offer : Offer) → left_by_all n (offers ++ offer ∷ []) ≡ left_by (left_by_all n offers) offer
left_by_all-push n [] offer = refl
left_by_all-push n (first ∷ offers) offer = left_by_all-push (left_by n first) offers offer

pub AreRests-push : (n : ℕ) (offers : List Offer) (offer : Offer) → AreRests n offers → 0 < left_by_all n offers → offer.len ≡ left_by_all n offers → AreRests n (offers ++ offer ∷ [])
AreRests-push n [] offer are some is = (some, is, tt)
AreRests-push n (first ∷ offers) offer are some is = (are.0, are.1, AreRests-push (left_by n first) offers offer are.2 some is)

pub Adds-then : (first second third : Option (List Offer)) (xs ys : List Offer) → Adds first second xs → Adds second third ys → Adds first third (xs ++ ys)
Adds-then first second third xs ys g (inl lost) = inl lost
Adds-then first second third xs ys (inl lost) (inr more) = inl (rw (more, lost))
Adds-then None second third xs ys (inr grown) (inr more) = inl (rw (more, grown))
Adds-then (Some before) second third xs ys (inr grown) (inr more) = inr (rw (more, grown, append_assoc))

-- no writes
pub Adds-none : (old : Option (List Offer)) → Adds old old []
Adds-none None = inl refl
Adds-none (Some before) = inr (ap Some (sym (append-nil before)))

pub AddsNoneBut-then : (one : Stream) (f g h : Stream → Option (List Offer)) → AddsNoneBut one f g → AddsNoneBut one g h → AddsNoneBut one f h
AddsNoneBut-then one f g h first second stream other = Adds-then (f stream) (g stream) (h stream) [] [] (first stream other) (second stream other)

pub IsOffered-later : (first second third : Option (List Offer)) (n : ℕ) → IsOffered first second n → Adds second third [] → IsOffered first third n
IsOffered-later first second third n are none =
    (are.0, subst (Adds first third) (append-nil are.0) (Adds-then first second third are.0 [] are.1 none), are.2)

pub IsOffered-earlier : (first second third : Option (List Offer)) (n : ℕ) → Adds first second [] → IsOffered second third n → IsOffered first third n
IsOffered-earlier first second third n none are = (are.0, Adds-then first second third [] are.0 none are.1, are.2)

-- the writes of a text so far, of which so many bytes were taken
abbrev pub AreOffered : Option (List Offer) → Option (List Offer) → ℕ → ℕ → Type 0
AreOffered old new n at = (offers : List Offer) × Adds old new offers × AreRests n offers × (left_by_all n offers ≡ n - at)

pub offered_none : (old : Option (List Offer)) (n : ℕ) → AreOffered old old n 0
offered_none old n = ([], Adds-none old, tt, omega arith)

-- and one more, of the rest, that failed or took a part
module _ (first second third : Option (List Offer)) (stream : Stream) (n at len : ℕ) (result : Result ℕ BayFailed) (are : AreOffered first second n at) (more : at < n) (is : len ≡ n - at)
    (adds : Adds second third (offer_of stream len result ∷ [])) where
  offer_len : (outcome : Result ℕ BayFailed) → (offer_of stream len outcome).len ≡ len
  offer_len (Ok count) = refl
  offer_len (Err failed) = refl

  pub offered_next : IsOffered first third n
  offered_next = (
    are.0 ++ offer_of stream len result ∷ [],
    Adds-then first second third are.0 (offer_of stream len result ∷ []) are.1 adds,
    AreRests-push n are.0 (offer_of stream len result) are.2 (omega (arith, more, are.3)) (offer_len result ∙ is ∙ sym are.3),
  )

  pub offered_part : (count : ℕ) → result ≡ Ok count → 0 < count → AreOffered first third n (at + count)
  unfolding offered_next
  offered_part count outcome some =
      let taken : (offer_of stream len result).taken ≡ count = ap (λ r. (offer_of stream len r).taken) outcome in
      let left = left_by_all n are.0 in
      let rest : left_by left (offer_of stream len result) ≡ left - (offer_of stream len result).taken = ap (λ b. cond b 0 (left - (offer_of stream len result).taken)) (ne_eqb (offer_of stream len result).taken 0 (λ e. omega (arith, e, taken, some))) in
      let all : left_by_all n offered_next.0 ≡ left_by left (offer_of stream len result) = left_by_all-push n are.0 (offer_of stream len result) in
      (offered_next.0, offered_next.1, offered_next.2, omega (arith, all ∙ rest, taken, are.3))
