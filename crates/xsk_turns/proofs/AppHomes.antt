-- In a history all frames that an application has had are at home with it.
use Rattle.std.proofs.Common.{◌≡◌, ℕ, ◌≤◌, Bool, true, false, cond, eqb, List, [], ◌∷◌, ◌++◌, refl, sym, ap, ◌∙◌, subst, arith}
use Rattle.xsk_umem.specs.Frame.{Frame}
use Rattle.xsk_turns.proofs.Object.{Config, caller_of, times, had_of}
use Rattle.xsk_model.specs.Entry.{Told, Entry, told, own}
use Rattle.xsk_model.specs.History.{IsHistory, GoesOn}
use Rattle.xsk_model.specs.Opening.{opening}
use Rattle.xsk_model.proofs.FrameTheorems.{frames_stay}
use Rattle.xsk_model.proofs.Histories.{goes_first}
use Rattle.xsk_model.proofs.Stays.{serves_itself}
use Rattle.xsk_turns.specs.AppOwned.{HasOwnFrames}

heads : {A : Type 0} (x y : A) (xs ys : List A) → x ∷ xs ≡ y ∷ ys → x ≡ y
heads x y xs ys e = cc

tails : {A : Type 0} (x y : A) (xs ys : List A) → x ∷ xs ≡ y ∷ ys → xs ≡ ys
tails x y xs ys e = cc

-- the first of a caller's own entries are its own in the first of the history's
pub record IsFirstOf (who : ℕ) (h : List Entry) (first : List Told) : Type 0 where
  pub front : List Entry
  pub later : List Entry
  pub whole : front ++ later ≡ h
  pub mine : own who front ≡ first

-- one entry more before them
by_entry : (who : ℕ) (x : Entry) (h : List Entry) (first later : List Told) → ((ys : List Told) → ys ++ later ≡ own who h → IsFirstOf who h ys)
    → (b : Bool) → eqb x.who who ≡ b → first ++ later ≡ cond b (told x ∷ own who h) (own who h) → IsFirstOf who (x ∷ h) first
by_entry who x h [] later on b f e = record { front = []; later = x ∷ h; whole = refl; mine = refl }
by_entry who x h (t ∷ first) later on true f e =
    let rest = on first (tails t (told x) (first ++ later) (own who h) e) in
    record {
      front = x ∷ rest.front;
      later = rest.later;
      whole = ap (λ es. x ∷ es) rest.whole;
      mine = ap (λ b. cond b (told x ∷ own who rest.front) (own who rest.front)) f ∙ ap (λ es. told x ∷ es) rest.mine ∙ ap (λ y. y ∷ first) (sym (heads t (told x) (first ++ later) (own who h) e));
    }
by_entry who x h (t ∷ first) later on false f e =
    let rest = on (t ∷ first) e in
    record {
      front = x ∷ rest.front;
      later = rest.later;
      whole = ap (λ es. x ∷ es) rest.whole;
      mine = ap (λ b. cond b (told x ∷ own who rest.front) (own who rest.front)) f ∙ rest.mine;
    }

pub own_first : (who : ℕ) (h : List Entry) (first later : List Told) → first ++ later ≡ own who h → IsFirstOf who h first
own_first who h [] later e = record { front = []; later = h; whole = refl; mine = refl }
own_first who [] (t ∷ first) later e = absurd (cc)
own_first who (x ∷ h) (t ∷ first) later e =
    by_entry who x h (t ∷ first) later (λ ys e. own_first who h ys later e) (eqb x.who who) refl e

pub own_frames : (c : Config) (a : ℕ) (frames : List Frame) (h : List Entry) (l : List Told) → IsHistory c frames h → own (caller_of c a) h ≡ l → HasOwnFrames c a l
own_frames c a frames h l history mine first later n e had =
    let cut = own_first (caller_of c a) h first later (e ∙ sym mine) in
    let earlier : IsHistory c frames cut.front = record { opened = history.opened; legal = goes_first c (opening c frames) [] cut.front cut.later (subst (GoesOn c (opening c frames) []) (sym cut.whole) history.legal) } in
    let stay = frames_stay c frames cut.front n earlier in
    sym (stay.0 (caller_of c a) (subst (λ m. 1 ≤ times n (had_of m)) (sym cut.mine) had)) ∙ serves_itself c a

-- one that has made no call has had none
pub had_none : (c : Config) (a : ℕ) → HasOwnFrames c a []
had_none c a [] later n e had = absurd (omega arith)
had_none c a (t ∷ first) later n e had = absurd (cc)
