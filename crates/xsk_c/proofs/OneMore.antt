-- One capture more is read.
use Rattle.std.proofs.Common.{◌≡◌, ℕ, suc, List, [], ◌∷◌, ◌++◌, inl, inr, length, refl, sym, ap, subst, append_assoc}
use Rattle.std.proofs.lemmas.List.{append-nil}
use Rattle.xsk_umem.specs.PacketList.{PacketList}
use Rattle.xsk_c.specs.Captures.{AreRead, AreRefused, IsRead, Fails}
use Rattle.xsk_c.specs.declared.opening.Refusal.{Refusal}

-- whatever is read behind the first captures, all are read
abbrev pub Goes : List ℕ → (begin : ℕ) → (left ends : List ℕ) → List PacketList → Type 0
Goes text begin left ends lists = (more : List PacketList) → AreRead text begin left more → AreRead text 0 ends (lists ++ more)

-- and what fails behind them is the first that does
abbrev pub Stops : List ℕ → (begin : ℕ) → (left ends : List ℕ) → Type 0
Stops text begin left ends = (why : Refusal) → AreRefused text begin left why → AreRefused text 0 ends why

pub goes_on : (text : List ℕ) (begin end : ℕ) (left rest ends : List ℕ) (lists : List PacketList) (list : PacketList) → left ≡ end ∷ rest → IsRead text begin end list
    → Goes text begin left ends lists → Goes text end rest ends (lists ++ list ∷ [])
goes_on text begin end left rest ends lists list is read goes more are =
    subst (λ (l : List PacketList). AreRead text 0 ends l) (sym (append_assoc lists (list ∷ []) more))
    (goes (list ∷ more) (subst (λ (l : List ℕ). AreRead text begin l (list ∷ more)) (sym is) (read, are)))

pub stops_on : (text : List ℕ) (begin end : ℕ) (left rest ends : List ℕ) (list : PacketList) → left ≡ end ∷ rest → IsRead text begin end list
    → Stops text begin left ends → Stops text end rest ends
stops_on text begin end left rest ends list is read stops why fails =
    stops why (subst (λ (l : List ℕ). AreRefused text begin l why) (sym is) (inr (list, read, fails)))

pub stops_here : (text : List ℕ) (begin end : ℕ) (left rest ends : List ℕ) (why : Refusal) → left ≡ end ∷ rest → Fails text begin end why
    → Stops text begin left ends → AreRefused text 0 ends why
stops_here text begin end left rest ends why is fails stops = stops why (subst (λ (l : List ℕ). AreRefused text begin l why) (sym is) (inl fails))

-- there is a list for each
pub same_count : (text : List ℕ) (begin : ℕ) (ends : List ℕ) (lists : List PacketList) → AreRead text begin ends lists → length lists ≡ length ends
same_count text begin [] [] are = refl
same_count text begin [] (list ∷ lists) are = absurd are
same_count text begin (end ∷ ends) [] are = absurd are
same_count text begin (end ∷ ends) (list ∷ lists) are = ap suc (same_count text end ends lists are.1)

-- none is left
pub goes_here : (text : List ℕ) (begin : ℕ) (left ends : List ℕ) (lists : List PacketList) → left ≡ [] → Goes text begin left ends lists → AreRead text 0 ends lists
goes_here text begin left ends lists none goes =
    subst (λ (l : List PacketList). AreRead text 0 ends l) (append-nil lists) (goes [] (subst (λ (l : List ℕ). AreRead text begin l []) (sym none) tt))
