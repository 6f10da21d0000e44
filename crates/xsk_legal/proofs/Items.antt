-- Loops that note the items of a Submit and of a Peek's reply.
use Rattle.std.proofs.Common.{◌≡◌, ℕ, zero, suc, ◌+◌, ◌<◌, ◌≤◌, Some, List, [], ◌∷◌, ◌++◌, length, take, drop, refl, sym, ap, subst, ◌∙◌, arith}
use Rattle.std.specs.Prelude.{slice_get}
use Rattle.std.proofs.Math.ListN.{drop_of_length-le}
use Rattle.std.proofs.lemmas.List.{take-append-drop}
use Rattle.xsk_umem.specs.declared.batch.Item.{Item}
use Rattle.xsk_umem.proofs.Going.{first_left}
use Rattle.xsk_model.specs.Config.{Config}
use Rattle.xsk_model.specs.Entry.{Told, with_told}
use Rattle.xsk_model.specs.Legal.{IsLegal}
use Rattle.xsk_model.specs.History.{MayGive}
use Rattle.xsk_model.specs.declared.call.Ring.{Ring}
use Rattle.xsk_model.specs.declared.call.Call.TheVariants.{Submit, Peek}
use Rattle.xsk_model.specs.declared.call.Reply.TheVariants.{Submitted, Items}
use Rattle.xsk_legal.specs.Noted.{Noted}
use Rattle.xsk_legal.specs.Standing.{StandsFor, IsPlacing, IsFetching}
use Rattle.xsk_legal.specs.ItemNotes.{CanPlace, CanFetch}
use Rattle.xsk_legal.proofs.Able.{can_place, can_fetch}
use Rattle.xsk_legal.proofs.Going.{gift_fits}
use Rattle.xsk_legal.proofs.Quiet.{begins_with_none}

-- ---- the items before one and those after it

take_at : (items : List Item) (i : ℕ) (item : Item) → slice_get items i ≡ Some item → take (i + 1) items ≡ take i items ++ item ∷ []
take_at [] i item h = absurd (cc)
take_at (y ∷ ys) zero item h = let same : y ≡ item = cc in ap (λ (x : Item). x ∷ []) same
take_at (y ∷ ys) (suc i) item h = let e : suc i + 1 ≡ suc (i + 1) = omega arith in rw e (ap (λ (xs : List Item). y ∷ xs) (take_at ys i item h))

split_at : (items : List Item) (i : ℕ) (item : Item) → slice_get items i ≡ Some item → items ≡ take i items ++ item ∷ drop (i + 1) items
split_at items i item h = sym (take-append-drop i items) ∙ ap (λ (xs : List Item). take i items ++ xs) (first_left items i item h)

split_last : (items : List Item) (i : ℕ) (item : Item) → slice_get items i ≡ Some item → length items ≤ i + 1 → items ≡ take i items ++ item ∷ []
split_last items i item h few = split_at items i item h ∙ ap (λ (xs : List Item). take i items ++ item ∷ xs) (drop_of_length-le items few)

-- ---- a Submit

-- so many items are noted
pub record NotesSubmit (c : Config) (first kept : Noted) (r : Ring) (items : List Item) (i : ℕ) : Type 0 where
  pub caller : kept.who ≡ first.who
  pub goes_on : (mine : List Told) → StandsFor c first mine → IsLegal c mine first.who (Submit r items) → i < length items → IsPlacing c kept mine r (take i items)
  pub ends : (mine : List Told) → StandsFor c first mine → IsLegal c mine first.who (Submit r items) → i ≡ length items → StandsFor c kept (with_told mine (Submit r items) Submitted)

pub submit_begins : (c : Config) (first : Noted) (r : Ring) (items : List Item) → NotesSubmit c first first r items 0
submit_begins c first r items = record {
  caller = refl;
  goes_on = λ mine h legal some. (begins_with_none c first mine r h).0;
  ends = λ mine h legal none. absurd (omega (arith, legal.counted.0, none));
}

module _ (c : Config) (first kept : Noted) (r : Ring) (items : List Item) (i : ℕ) (item : Item) (notes : NotesSubmit c first kept r items i)
    (at : slice_get items i ≡ Some item) (within : i < length items) where
  submit_legal : (mine : List Told) → IsLegal c mine first.who (Submit r items) → IsLegal c mine kept.who (Submit r (take i items ++ item ∷ drop (i + 1) items))
  submit_legal mine legal = subst (λ (all : List Item). IsLegal c mine kept.who (Submit r all)) (split_at items i item at) (subst (λ (who : ℕ). IsLegal c mine who (Submit r items)) (sym notes.caller) legal)

  pub submit_can : (mine : List Told) → StandsFor c first mine → IsLegal c mine first.who (Submit r items) → CanPlace c kept r item
  submit_can mine h legal = can_place c kept mine r (take i items) item (drop (i + 1) items) (notes.goes_on mine h legal within) (submit_legal mine legal)

  pub submit_next : (next : Noted) → next.who ≡ kept.who
      → ((mine : List Told) (done later : List Item) → IsPlacing c kept mine r done → IsLegal c mine kept.who (Submit r (done ++ item ∷ later)) → IsPlacing c next mine r (done ++ item ∷ []))
      → ((mine : List Told) (done : List Item) → IsPlacing c kept mine r done → IsLegal c mine kept.who (Submit r (done ++ item ∷ []))
      → StandsFor c next (with_told mine (Submit r (done ++ item ∷ [])) Submitted))
      → NotesSubmit c first next r items (i + 1)
  submit_next next caller on ends = record {
    caller = caller ∙ notes.caller;
    goes_on = λ mine h legal more.
        subst (IsPlacing c next mine r) (sym (take_at items i item at))
        (on mine (take i items) (drop (i + 1) items) (notes.goes_on mine h legal within) (submit_legal mine legal));
    ends = λ mine h legal all.
        let last : items ≡ take i items ++ item ∷ [] = split_last items i item at (omega (arith, all)) in
        subst (λ (is : List Item). StandsFor c next (with_told mine (Submit r is) Submitted)) (sym last)
        (ends mine (take i items) (notes.goes_on mine h legal within)
        (subst (λ (is : List Item). IsLegal c mine kept.who (Submit r is)) last (subst (λ (who : ℕ). IsLegal c mine who (Submit r items)) (sym notes.caller) legal)));
  }

-- ---- a Peek's reply

pub record NotesPeek (c : Config) (first kept : Noted) (r : Ring) (items : List Item) (i : ℕ) : Type 0 where
  pub caller : kept.who ≡ first.who
  pub goes_on : (mine : List Told) (n : ℕ) → StandsFor c first mine → MayGive c mine first.who (Peek r n) (Items items) → i < length items → IsFetching c kept mine r (take i items)
  pub ends : (mine : List Told) (n : ℕ) → StandsFor c first mine → MayGive c mine first.who (Peek r n) (Items items) → i ≡ length items
      → StandsFor c kept (with_told mine (Peek r n) (Items items))

pub peek_begins : (c : Config) (first : Noted) (r : Ring) (items : List Item) → NotesPeek c first first r items 0
peek_begins c first r items = record {
  caller = refl;
  goes_on = λ mine n h gift some. (begins_with_none c first mine r h).1;
  ends = λ mine n h gift none. absurd (omega (arith, (gift_fits c mine first.who (Peek r n) (Items items) gift).some, none));
}

module _ (c : Config) (first kept : Noted) (r : Ring) (items : List Item) (i : ℕ) (item : Item) (notes : NotesPeek c first kept r items i)
    (at : slice_get items i ≡ Some item) (within : i < length items) where
  peek_gift : (mine : List Told) (n : ℕ) → MayGive c mine first.who (Peek r n) (Items items) → MayGive c mine kept.who (Peek r n) (Items (take i items ++ item ∷ drop (i + 1) items))
  peek_gift mine n gift =
      subst (λ (all : List Item). MayGive c mine kept.who (Peek r n) (Items all)) (split_at items i item at) (subst (λ (who : ℕ). MayGive c mine who (Peek r n) (Items items)) (sym notes.caller) gift)

  pub peek_can : (mine : List Told) (n : ℕ) → StandsFor c first mine → MayGive c mine first.who (Peek r n) (Items items) → CanFetch c kept r item
  peek_can mine n h gift = can_fetch c kept mine r n (take i items) item (drop (i + 1) items) (notes.goes_on mine n h gift within) (peek_gift mine n gift)

  pub peek_next : (next : Noted) → next.who ≡ kept.who
      → ((mine : List Told) (n : ℕ) (done later : List Item) → IsFetching c kept mine r done → MayGive c mine kept.who (Peek r n) (Items (done ++ item ∷ later)) → IsFetching c next mine r (done ++ item ∷ []))
      → ((mine : List Told) (n : ℕ) (done : List Item) → IsFetching c kept mine r done → MayGive c mine kept.who (Peek r n) (Items (done ++ item ∷ []))
      → StandsFor c next (with_told mine (Peek r n) (Items (done ++ item ∷ []))))
      → NotesPeek c first next r items (i + 1)
  peek_next next caller on ends = record {
    caller = caller ∙ notes.caller;
    goes_on = λ mine n h gift more.
        subst (IsFetching c next mine r) (sym (take_at items i item at))
        (on mine n (take i items) (drop (i + 1) items) (notes.goes_on mine n h gift within) (peek_gift mine n gift));
    ends = λ mine n h gift all.
        let last : items ≡ take i items ++ item ∷ [] = split_last items i item at (omega (arith, all)) in
        subst (λ (is : List Item). StandsFor c next (with_told mine (Peek r n) (Items is))) (sym last)
        (ends mine n (take i items) (notes.goes_on mine n h gift within)
        (subst (λ (is : List Item). MayGive c mine kept.who (Peek r n) (Items is)) last (subst (λ (who : ℕ). MayGive c mine who (Peek r n) (Items items)) (sym notes.caller) gift)));
  }
