-- Workers move from one list to another, in their order.
use Rattle.std.proofs.Common.{◌≡◌, List, [], ◌∷◌, ◌++◌, All, sym, ◌∙◌, ap, subst, map, append-nil}
use Rattle.std.proofs.lemmas.List.{append_assoc, map-append}
use Rattle.std.proofs.lemmas.List.Elements.{All-tail, All-head, All-push}

-- the next one goes behind the second of two lists
to_second : {X : Type 0} (xs ys zs all : List X) (x : X) → (xs ++ ys) ++ x ∷ zs ≡ all → (xs ++ (ys ++ x ∷ [])) ++ zs ≡ all
to_second xs ys zs all x h = ap (λ l. l ++ zs) (sym (append_assoc xs ys (x ∷ []))) ∙ (append_assoc (xs ++ ys) (x ∷ []) zs ∙ h)

-- or behind the first, where the second is empty
to_first : {X : Type 0} (xs zs all : List X) (x : X) → (xs ++ []) ++ x ∷ zs ≡ all → ((xs ++ x ∷ []) ++ []) ++ zs ≡ all
to_first xs zs all x h =
    ap (λ l. l ++ zs) (append-nil (xs ++ x ∷ [])) ∙ (append_assoc xs (x ∷ []) zs ∙ (ap (λ l. l ++ x ∷ zs) (sym (append-nil xs)) ∙ h))

pub All-rest : {X : Type 0} (P : X → Type 0) (x : X) (all rest : List X) → all ≡ x ∷ rest → All P all → All P rest
All-rest P x all rest e h = All-tail P x rest (subst (λ l. All P l) e h)

pub All-first : {X : Type 0} (P : X → Type 0) (x : X) (all rest : List X) → all ≡ x ∷ rest → All P all → P x
All-first P x all rest e h = All-head P x rest (subst (λ l. All P l) e h)

pub All-more : {X : Type 0} (P : X → Type 0) (xs more : List X) (x : X) → more ≡ xs ++ x ∷ [] → All P xs → P x → All P more
All-more P xs more x e h p = subst (λ l. All P l) (sym e) (All-push P xs x h p)

-- what is told of those that were started and those that weren't, and then of those that are left, stays
module _ {H W S : Type 0} (told : H → S) (seat : W → S) where
  pub left_over : (started : List H) (unrun more : List W) (left rest : List W) (all : List S) (w v : W)
      → left ≡ w ∷ rest → more ≡ unrun ++ v ∷ [] → seat v ≡ seat w
      → (map told started ++ map seat unrun) ++ map seat left ≡ all → (map told started ++ map seat more) ++ map seat rest ≡ all
  left_over started unrun more left rest all w v first last same h =
      let front = map told started ++ map seat unrun in
      let split : front ++ seat v ∷ map seat rest ≡ all = ap (λ s. front ++ s ∷ map seat rest) same ∙ (ap (λ l. front ++ map seat l) (sym first) ∙ h) in
      ap (λ l. (map told started ++ map seat l) ++ map seat rest) last
      ∙ (ap (λ l. (map told started ++ l) ++ map seat rest) (map-append seat unrun (v ∷ [])) ∙ to_second (map told started) (map seat unrun) (map seat rest) all (seat v) split)

  pub one_started : (started more : List H) (unrun left rest : List W) (all : List S) (w : W) (x : H)
      → left ≡ w ∷ rest → more ≡ started ++ x ∷ [] → told x ≡ seat w → unrun ≡ []
      → (map told started ++ map seat unrun) ++ map seat left ≡ all → (map told more ++ map seat unrun) ++ map seat rest ≡ all
  one_started started more unrun left rest all w x first last same none h =
      let split : (map told started ++ []) ++ told x ∷ map seat rest ≡ all =
      ap (λ s. (map told started ++ []) ++ s ∷ map seat rest) same
      ∙ (ap (λ l. (map told started ++ []) ++ map seat l) (sym first) ∙ (ap (λ l. (map told started ++ map seat l) ++ map seat left) (sym none) ∙ h)) in
      ap (λ l. (map told more ++ map seat l) ++ map seat rest) none
      ∙ (ap (λ l. (map told l ++ []) ++ map seat rest) last
      ∙ (ap (λ l. (l ++ []) ++ map seat rest) (map-append told started (x ∷ [])) ∙ to_first (map told started) (map seat rest) all (told x) split))

  -- one that is told comes back
  pub one_back : (done more : List W) (left rest : List H) (all : List S) (x : H) (w : W)
      → left ≡ x ∷ rest → more ≡ done ++ w ∷ [] → seat w ≡ told x → map seat done ++ map told left ≡ all → map seat more ++ map told rest ≡ all
  one_back done more left rest all x w first last same h =
      ap (λ l. map seat l ++ map told rest) last
      ∙ (ap (λ l. l ++ map told rest) (map-append seat done (w ∷ []))
      ∙ (append_assoc (map seat done) (seat w ∷ []) (map told rest)
      ∙ (ap (λ s. map seat done ++ s ∷ map told rest) same
      ∙ (ap (λ l. map seat done ++ map told l) (sym first) ∙ h))))

-- where none is left, all are there
pub all_out : {W H S : Type 0} (seat : W → S) (told : H → S) (done : List W) (rest : List H) (all : List S) → rest ≡ [] → map seat done ++ map told rest ≡ all → map seat done ≡ all
all_out seat told done rest all none h = sym (append-nil (map seat done)) ∙ ap (λ l. map seat done ++ map told l) (sym none) ∙ h
