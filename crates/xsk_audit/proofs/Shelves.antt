-- Frames that are taken from a shelf and put there.
use Rattle.std.proofs.Common.{◌≡◌, ℕ, zero, suc, ◌+◌, ◌<◌, ◌≤◌, List, [], ◌∷◌, ◌++◌, length, take, drop, set, All, Option, Some, None, refl, sym, ap, subst, ◌∙◌, arith, inl, inr, append-nil, append_assoc, length-set}
use Rattle.std.specs.Prelude.{IfSome, slice_get}
use Rattle.std.specs.Option.{option_map}
use Rattle.std.proofs.lemmas.Bool.{cases_eq, cases_lt}
use Rattle.std.proofs.lemmas.List.{map-append, take-append-drop}
use Rattle.std.proofs.lemmas.List.Elements.{All-head, All-tail, All-push}
use Rattle.xsk_umem.specs.Frame.{Frame}
use Rattle.xsk_umem.specs.Geometry.{Geometry, frame_of}
use Rattle.xsk_umem.specs.declared.batch.Item.{Item}
use Rattle.xsk_umem.specs.declared.batch.XdpDesc.{XdpDesc}
use Rattle.xsk_model.specs.Numbers.{times, number_of, numbers}
use Rattle.xsk_model.proofs.Counting.{times-append, numbers-append, its_own}
use Rattle.xsk_model.proofs.Distinct.{elsewhere}
use Rattle.xsk_audit.specs.Shelf.{Places, frame_at, one, has, AreInPlace, with_frame, without_frame, listed, needed, descs_of, HasItsFrame, IsLent, Lacks}

-- what lies in a place after another was set
pub set-here : (places : Places) (n : ℕ) (o : Option Frame) → n < length places → frame_at (set places n o) n ≡ o
set-here [] n o within = absurd (omega (arith, within))
set-here (p ∷ places) zero o within = refl
set-here (p ∷ places) (suc n) o within = set-here places n o (omega (arith, within))

pub set-other : (places : Places) (n m : ℕ) (o : Option Frame) → (m ≡ n → ⊥) → frame_at (set places n o) m ≡ frame_at places m
set-other [] n m o other = refl
set-other (p ∷ places) zero zero o other = absurd (other refl)
set-other (p ∷ places) zero (suc m) o other = refl
set-other (p ∷ places) (suc n) zero o other = refl
set-other (p ∷ places) (suc n) (suc m) o other = set-other places n m o (λ e. other (ap suc e))

-- a place that is emptied is empty
set-none : (places : Places) (n : ℕ) → frame_at (set places n None) n ≡ None
set-none [] n = refl
set-none (p ∷ places) zero = refl
set-none (p ∷ places) (suc n) = set-none places n

-- nothing lies behind the last place
pub none-behind : (places : Places) (n : ℕ) → length places ≤ n → frame_at places n ≡ None
none-behind [] n past = refl
none-behind (p ∷ places) zero past = absurd (omega (arith, past))
none-behind (p ∷ places) (suc n) past = none-behind places n (omega (arith, past))

module _ (g : Geometry) where
  abbrev IsThere : ℕ → Option Frame → Type 0
  IsThere n o = IfSome o (λ (f : Frame). (f.number ≡ n) × (length f.bytes ≡ g.chunk))

  pub places-without : (places : Places) (o : Option ℕ) → AreInPlace g places → AreInPlace g (without_frame places o)
  places-without places None are = are
  places-without places (Some n) are = λ m. elim (cases_eq m n) [
    | inl same ↦ subst (IsThere m) (sym (set-none places n) ∙ ap (frame_at (set places n None)) (sym same)) tt
    | inr other ↦ subst (IsThere m) (sym (set-other places n m None other)) (are m)
  ]

  pub places-with : (places : Places) (frame : Option Frame) → IfSome frame (λ (f : Frame). length f.bytes ≡ g.chunk) → AreInPlace g places → AreInPlace g (with_frame places frame)
  places-with places None whole are = are
  places-with places (Some f) whole are = λ m. elim (cases_eq m f.number) [
    | inl same ↦ there m same
    | inr other ↦ subst (IsThere m) (sym (set-other places f.number m (Some f) other)) (are m)
  ]
    where
      there : (m : ℕ) → m ≡ f.number → IsThere m (frame_at (set places f.number (Some f)) m)
      there m same = elim (cases_lt m (length places)) [
        | inl within ↦
            let at : frame_at (set places f.number (Some f)) m ≡ Some f = ap (frame_at (set places f.number (Some f))) same ∙ set-here places f.number (Some f) (subst (λ k. k < length places) same within) in
            subst (IsThere m) (sym at) (sym same, whole)
        | inr past ↦ subst (IsThere m) (sym (none-behind (set places f.number (Some f)) m (omega (arith, past, length-set places f.number (Some f))))) tt
      ]

  pub numbers-needed : (items : List Item) → All (HasItsFrame g) items → numbers items ≡ needed g (descs_of items)
  numbers-needed [] all = refl
  numbers-needed (item ∷ items) all =
      (λ i. listed-number item (All-head (HasItsFrame g) item items all).0 i ++ numbers-needed items (All-tail (HasItsFrame g) item items all) i)
    where
      by : (o : Option Frame) → number_of o ≡ listed (option_map (λ (f : Frame). f.number) o)
      by None = refl
      by (Some f) = refl

      listed-number : (item : Item) → option_map (λ (f : Frame). f.number) item.frame ≡ frame_of g item.desc.addr → number_of item.frame ≡ listed (frame_of g item.desc.addr)
      listed-number item is = by item.frame ∙ ap listed is

  needed-append : (ds es : List XdpDesc) → needed g (ds ++ es) ≡ needed g ds ++ needed g es
  needed-append [] es = refl
  needed-append (d ∷ ds) es = ap (λ (ns : List ℕ). listed (frame_of g d.addr) ++ ns) (needed-append ds es) ∙ sym (append_assoc (listed (frame_of g d.addr)) (needed g ds) (needed g es))

  -- one more
  taken-one : (mid : Places) (frame : Option Frame) (there : Option ℕ) → option_map (λ (f : Frame). f.number) frame ≡ there
      → ((n : ℕ) → there ≡ Some n → frame_at mid n ≡ frame) → (n : ℕ) → has (without_frame mid there) n + times n (number_of frame) ≡ has mid n
  taken-one mid None None is from n = omega arith
  taken-one mid None (Some k) is from n = absurd (cc)
  taken-one mid (Some f) None is from n = absurd (cc)
  taken-one mid (Some f) (Some k) is from n =
      let number : f.number ≡ k = cc in
      elim (cases_eq n k) [
        | inl same ↦
            let here : has mid n ≡ 1 = ap (has mid) same ∙ ap one (from k refl) in
            let gone : has (set mid k None) n ≡ 0 = ap (has (set mid k None)) same ∙ ap one (set-none mid k) in
            omega (arith, here, gone, its_own f.number n (number ∙ sym same))
        | inr other ↦
            let as_was : has (set mid k None) n ≡ has mid n = ap one (set-other mid k n None other) in
            omega (arith, as_was, elsewhere f.number n (λ e. other (sym e ∙ number)))
      ]

  pub lent-more : (old mid new : Places) (ds : List XdpDesc) (items : List Item) (d : XdpDesc) (item : Item) → IsLent g old mid ds items → item.desc ≡ d → HasItsFrame g item
      → ((n : ℕ) → frame_of g d.addr ≡ Some n → frame_at mid n ≡ item.frame) → new ≡ without_frame mid (frame_of g d.addr) → IsLent g old new (ds ++ d ∷ []) (items ++ item ∷ [])
  lent-more old mid new ds items d item lent desc its from is = record {
    descs_are = map-append (λ (i : Item). i.desc) items (item ∷ []) ∙ (λ i. lent.descs_are i ++ desc i ∷ []);
    frames = All-push (HasItsFrame g) items item lent.frames its;
    left = λ n.
        let there : option_map (λ (f : Frame). f.number) item.frame ≡ frame_of g d.addr = its.0 ∙ ap (λ (e : XdpDesc). frame_of g e.addr) desc in
        let one_more = taken-one mid item.frame (frame_of g d.addr) there from n in
        let now : has new n ≡ has (without_frame mid (frame_of g d.addr)) n = ap (λ (p : Places). has p n) is in
        let count : times n (numbers (items ++ item ∷ [])) ≡ times n (numbers items) + times n (number_of item.frame) =
        ap (times n) (numbers-append items (item ∷ []) ∙ ap (λ (ns : List ℕ). numbers items ++ ns) (append-nil (number_of item.frame))) ∙ times-append n (numbers items) (number_of item.frame) in
        omega (arith, lent.left n, one_more, now, count);
  }

  pub lacks-one : (old mid : Places) (ds later : List XdpDesc) (items : List Item) (d : XdpDesc) (n : ℕ) → IsLent g old mid ds items → frame_of g d.addr ≡ Some n → has mid n ≡ 0
      → Lacks g old (ds ++ d ∷ later)
  lacks-one old mid ds later items d n lent names none = (
    n,
    (let used : times n (numbers items) ≡ times n (needed g ds) = ap (times n) (numbers-needed items lent.frames ∙ ap (needed g) lent.descs_are) in
        let all : times n (needed g (ds ++ d ∷ later)) ≡ times n (needed g ds) + (times n (listed (frame_of g d.addr)) + times n (needed g later)) =
        ap (times n) (needed-append ds (d ∷ later)) ∙ times-append n (needed g ds) (listed (frame_of g d.addr) ++ needed g later)
        ∙ ap (λ k. times n (needed g ds) + k) (times-append n (listed (frame_of g d.addr)) (needed g later)) in
        let here : times n (listed (frame_of g d.addr)) ≡ times n (n ∷ []) = ap (λ (o : Option ℕ). times n (listed o)) names in
        omega (arith, used, all, here, lent.left n, none, its_own n n refl)),
  )

-- ---- the descriptors of a batch

abbrev IsDescAt : List Item → ℕ → XdpDesc → Type 0
IsDescAt items i d = IfSome (slice_get items i) (λ (item : Item). d ≡ item.desc)

take-suc : (items : List Item) (i : ℕ) (d : XdpDesc) → i < length items → IsDescAt items i d → take (suc i) (descs_of items) ≡ take i (descs_of items) ++ d ∷ []
take-suc [] i d within at = absurd (omega (arith, within))
take-suc (item ∷ items) zero d within at = ap (λ (e : XdpDesc). e ∷ []) (sym at)
take-suc (item ∷ items) (suc i) d within at = ap (λ (l : List XdpDesc). item.desc ∷ l) (take-suc items i d (omega (arith, within)) at)

pub take-desc : (items : List Item) (i : ℕ) (d : XdpDesc) → i < length items → IsDescAt items i d → take (i + 1) (descs_of items) ≡ take i (descs_of items) ++ d ∷ []
take-desc items i d within at =
    let e : suc i ≡ i + 1 = omega arith in
    subst (λ (n : ℕ). take n (descs_of items) ≡ take i (descs_of items) ++ d ∷ []) e (take-suc items i d within at)

pub split-desc : (items : List Item) (i : ℕ) (d : XdpDesc) → i < length items → IsDescAt items i d → descs_of items ≡ take i (descs_of items) ++ d ∷ drop (i + 1) (descs_of items)
split-desc items i d within at =
    sym (take-append-drop (i + 1) (descs_of items)) ∙ ap (λ (l : List XdpDesc). l ++ drop (i + 1) (descs_of items)) (take-desc items i d within at)
    ∙ append_assoc (take i (descs_of items)) (d ∷ []) (drop (i + 1) (descs_of items))

pub length-without : (places : Places) (o : Option ℕ) → length (without_frame places o) ≡ length places
length-without places None = refl
length-without places (Some n) = length-set places n None
