-- A mark that one caller sets to 1 alone is 1 exactly where it did so.
use Rattle.std.proofs.Common.{◌≡◌, ℕ, Bool, true, false, cond, eqb, ◌&&◌, ◌||◌, All, List, [], ◌∷◌, ◌++◌, refl, sym, ap, subst, ◌∙◌}
use Rattle.std.proofs.lemmas.Bool.{eq-eqb}
use Rattle.std.proofs.lemmas.List.Elements.{All-nil, All-cons, All-head, All-tail}
use Rattle.xsk_umem.specs.Frame.{Frame}
use Rattle.xsk_model.specs.Config.{Config, IsConfig}
use Rattle.xsk_model.specs.Marks.{HasMark, IsMarkOwner, is_mark}
use Rattle.xsk_model.specs.Object.{State, mark_at, after}
use Rattle.xsk_model.specs.Entry.{Told, Entry, told, own}
use Rattle.xsk_model.specs.Ends.{Telling, telling_after, telling_step, telling_of}
use Rattle.xsk_model.specs.Legal.{IsLegal}
use Rattle.xsk_model.specs.declared.call.Ring.{Ring}
use Rattle.xsk_model.specs.declared.call.Mark.{Mark}
use Rattle.xsk_model.specs.declared.call.Call.{Call}
use Rattle.xsk_model.specs.declared.call.Call.TheVariants.{Reserve, Submit, Peek, Release, Swap, Look}
use Rattle.xsk_model.proofs.Along.{Keeps, along}
use Rattle.xsk_model.proofs.Folds.{own-append, own-push_same}
use Rattle.xsk_model.proofs.Closings.{is_mark-true}
use Rattle.xsk_laws.proofs.Waking.{own_fold, left, now_set}
use Rattle.xsk_laws.proofs.Emptied.{cond_told}
use Rattle.xsk_still.specs.Own.{SetsOne, SetsOnes}
use Rattle.xsk_still.specs.Laws.{MarkIsTold}

pub all_left : {X : Type 0} (P : X → Type 0) (xs ys : List X) → All P (xs ++ ys) → All P xs
all_left P [] ys h = All-nil P
all_left P (x ∷ xs) ys h = All-cons P x xs (All-head P x (xs ++ ys) h) (all_left P xs ys (All-tail P x (xs ++ ys) h))

pub last_of : {X : Type 0} (P : X → Type 0) (xs : List X) (y : X) → All P (xs ++ y ∷ []) → P y
last_of P [] y h = All-head P y [] h
last_of P (x ∷ xs) y h = last_of P xs y (All-tail P x (xs ++ y ∷ []) h)

or_false : (b c : Bool) → c ≡ false → (b || c) ≡ b
or_false true c e = refl
or_false false c e = e

or_true : (b c : Bool) → c ≡ true → (b || c) ≡ true
or_true true c e = refl
or_true false c e = e

module _ (c : Config) (frames : List Frame) (config : IsConfig c) (m : Mark) (r : Ring) (who : ℕ) (has : HasMark c m) (owns : (other : ℕ) → IsMarkOwner c other m → other ≡ who) where
  abbrev tells : List Entry → Telling
  tells past = telling_of m r (own who past)

  abbrev IsAs : State → List Entry → Type 0
  IsAs s past = SetsOnes m (own who past) → mark_at c s m ≡ cond (tells past).told 1 0

  one_set : (b : Bool) → b ≡ true → ◌≡◌ {A = ℕ} 1 (cond b 1 0)
  one_set b e = ap (λ x. let k : ℕ = cond x 1 0 in k) (sym e)

  keeps : Keeps c frames IsAs
  keeps s past e sound legal reply before sets =
      let front : SetsOnes m (own who past) = all_left (λ (t : Told). SetsOne m t.call) (own who past) (own who (e ∷ [])) (subst (SetsOnes m) (own-append who past (e ∷ [])) sets) in
      let was = before front in
      let fold = own_fold (telling_step m r) (record { told = false; late = false }) who past e in
      by e.call refl was (ap (λ (t : Telling). t.told) fold)
    where
      moves_on : (call : Call) → (mark_at c (after c s e.who call) m ≡ mark_at c s m) → (telling_after m r (tells past) call).told ≡ (tells past).told → mark_at c s m ≡ cond (tells past).told 1 0
          → mark_at c (after c s e.who call) m ≡ cond (cond (eqb e.who who) (telling_after m r (tells past) call) (tells past)).told 1 0
      moves_on call f g was = f ∙ was ∙ ap (λ b. cond b 1 0) (sym (cond_told (eqb e.who who) (tells past) (telling_after m r (tells past) call) g))

      swap : (n : Mark) (value : ℕ) (b : Bool) → is_mark m n ≡ b → e.call ≡ Swap n value → mark_at c s m ≡ cond (tells past).told 1 0
          → mark_at c (after c s e.who (Swap n value)) m ≡ cond (cond (eqb e.who who) (telling_after m r (tells past) (Swap n value)) (tells past)).told 1 0
      swap n value true f is was =
          let same : m ≡ n = is_mark-true m n f in
          let role : IsMarkOwner c e.who n = (subst (IsLegal c (own e.who past) e.who) is legal).role.0 in
          let mine : e.who ≡ who = owns e.who (subst (IsMarkOwner c e.who) (sym same) role) in
          let set : SetsOne m (Swap n value) = subst (SetsOne m) is (last_of (λ (t : Told). SetsOne m t.call) (own who past) (told e) (subst (SetsOnes m) (own-push_same who past e mine) sets)) in
          let one : value ≡ 1 = set f in
          let here : mark_at c (after c s e.who (Swap n value)) m ≡ 1 =
          ap (λ p. mark_at c (after c s e.who (Swap p value)) m) (sym same) ∙ now_set c frames config s past sound e.who m value has ∙ one in
          let is_told : (telling_after m r (tells past) (Swap n value)).told ≡ true = or_true (tells past).told (is_mark m n && eqb value 1) (ap (λ b. b && eqb value 1) f ∙ eq-eqb value 1 one) in
          here ∙ one_set _ (ap (λ b. (cond b (telling_after m r (tells past) (Swap n value)) (tells past)).told) (eq-eqb e.who who mine) ∙ is_told)
      swap n value false f is was =
          moves_on (Swap n value) (left c frames config s past sound e.who m n value has (subst (IsLegal c (own e.who past) e.who) is legal) f)
          (or_false (tells past).told (is_mark m n && eqb value 1) (ap (λ b. b && eqb value 1) f)) was

      any : (call : Call) → e.call ≡ call → mark_at c s m ≡ cond (tells past).told 1 0
          → mark_at c (after c s e.who call) m ≡ cond (cond (eqb e.who who) (telling_after m r (tells past) call) (tells past)).told 1 0
      any (Swap n value) is was = swap n value (is_mark m n) refl is was
      any (Reserve q k) is was = moves_on (Reserve q k) refl refl was
      any (Submit q items) is was = moves_on (Submit q items) refl refl was
      any (Peek q k) is was = moves_on (Peek q k) refl refl was
      any (Release q k) is was = moves_on (Release q k) refl refl was
      any (Look n) is was = moves_on (Look n) refl refl was

      by : (call : Call) → e.call ≡ call → mark_at c s m ≡ cond (tells past).told 1 0
          → (tells (past ++ e ∷ [])).told ≡ (cond (eqb e.who who) (telling_after m r (tells past) e.call) (tells past)).told
          → mark_at c (after c s e.who e.call) m ≡ cond (tells (past ++ e ∷ [])).told 1 0
      by call is was fold = any e.call refl was ∙ ap (λ b. cond b 1 0) (sym fold)

pub mark_is_told : MarkIsTold
mark_is_told c frames h m r who history has zero_mark owns sets =
    along (IsAs c frames history.opened.config m r who has owns) c frames h history (keeps c frames history.opened.config m r who has owns) (λ none. zero_mark) sets
