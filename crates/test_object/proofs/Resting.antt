-- Passes that were taken, and that are put back.
use Rattle.std.proofs.Common.{◌≡◌, ◌≢◌, ℕ, ◌+◌, ◌-◌, ◌<◌, ◌≤◌, List, [], ◌∷◌, ◌++◌, length, get_or, set, refl, ap, sym, ◌∙◌, subst, arith, ⊎_elim, Option, Some, None, length-append, get_or-set_same, get_or-set_other}
use Rattle.std.proofs.lemmas.Bool.{cases_eq}
use Rattle.std.proofs.lemmas.List.{length-set, get_or_append_left, get_or-append_right}
use Rattle.std.proofs.lemmas.List.FromFn.{get_or-map-range_with_len}
use Rattle.xsk_model.specs.Config.{callers_of}
use Rattle.xsk_table.specs.Held.{Board, Holder, Belongs, new_pass}
use Rattle.xsk_table.specs.Opening.{new_passes}
use Rattle.xsk_rings.specs.Rounds.{Rests}
use Rattle.test_object.specs.Resting.{AllRest}

pub new_at : (b : Board) (passes : List (Option Holder)) (w : ℕ) → passes ≡ new_passes b → w < callers_of b.setup.config → get_or passes w None ≡ Some (new_pass b w)
new_at b passes w is lt = ap (λ l. get_or l w None) is ∙ get_or-map-range_with_len (λ who. Some (new_pass b who)) 0 (callers_of b.setup.config) w w None lt (omega arith)

-- a pass before any call
pub new_rests : (b : Board) (w : ℕ) (p : Holder) → p ≡ new_pass b w → Rests b p
new_rests b w p is = subst (Rests b) (sym is) (record { table = refl; setup = refl }, refl)

-- ---- one of the checked passes

pub rest_at : (b : Board) (n : ℕ) (checked : List Holder) (w : ℕ) (d h : Holder) → AllRest b n checked → w < n → h ≡ get_or checked w d → Rests b h × (h.who ≡ w)
rest_at b n checked w d h all lt is = subst (λ (p : Holder). Rests b p × (p.who ≡ w)) (sym is) (all.1 w d lt)

pub rest_set : (b : Board) (n : ℕ) (checked : List Holder) (w : ℕ) (h : Holder) → AllRest b n checked → w < n → Rests b h → h.who ≡ w → AllRest b n (set checked w h)
rest_set b n checked w h all lt rests who = (
  length-set checked w h ∙ all.0,
  λ v d below. ⊎_elim
      (λ (is : v ≡ w). subst (λ (p : Holder). Rests b p × (p.who ≡ v)) (sym (ap (λ (i : ℕ). get_or (set checked w h) i d) is ∙ get_or-set_same checked w h d (let len = all.0 in omega arith))) (rests, who ∙ sym is))
      (λ (off : v ≢ w). subst (λ (p : Holder). Rests b p × (p.who ≡ v)) (sym (get_or-set_other checked w v h d off)) (all.1 v d below))
      (cases_eq v w),
)

-- one more behind them
pub rest_more : (b : Board) (n : ℕ) (checked all : List Holder) (h : Holder) → all ≡ checked ++ h ∷ [] → AllRest b n checked → Rests b h → h.who ≡ n → AllRest b (n + 1) all
rest_more b n checked all h is before rests who =
    let len = before.0 in
    subst (AllRest b (n + 1)) (sym is) (
      omega (arith, length-append checked (h ∷ [])),
      λ w d below. ⊎_elim
          (λ (last : w ≡ n). subst (λ (p : Holder). Rests b p × (p.who ≡ w))
          (sym (get_or-append_right checked (h ∷ []) n w d len (omega arith) ∙ (let none : w - n ≡ 0 = omega arith in ap (λ (i : ℕ). get_or (h ∷ []) i d) none))) (rests, who ∙ sym last))
          (λ (off : w ≢ n). subst (λ (p : Holder). Rests b p × (p.who ≡ w)) (sym (get_or_append_left checked (h ∷ []) d w (omega arith))) (before.1 w d (omega arith)))
          (cases_eq w n),
    )

-- the last of them, and those before it
module _ (b : Board) (all rest : List Holder) (h : Holder) (is : all ≡ rest ++ h ∷ []) (them : AllRest b (length all) all) where
  pub one_more : length all ≡ length rest + 1
  one_more = ap (length {A = Holder}) is ∙ length-append rest (h ∷ [])

  pub last_rests : Rests b h × (h.who ≡ length rest)
  last_rests = rest_at b (length all) all (length rest) h h them (let n = one_more in omega arith)
      (sym (ap (λ (l : List Holder). get_or l (length rest) h) is ∙ get_or-append_right rest (h ∷ []) (length rest) (length rest) h refl (omega arith) ∙ (let none : length rest - length rest ≡ 0 = omega arith in ap (λ (i : ℕ). get_or (h ∷ []) i h) none)))

  pub others_rest : AllRest b (length rest) rest
  others_rest = (refl, λ w d lt. subst (λ (p : Holder). Rests b p × (p.who ≡ w)) (ap (λ (l : List Holder). get_or l w d) is ∙ get_or_append_left rest (h ∷ []) d w lt) (them.1 w d (let n = one_more in omega arith)))

-- ---- a pass that is taken, twice

module _ (passes once twice : List (Option Holder)) (who : ℕ) (first : once ≡ set passes who None) (second : twice ≡ set once who None) where
  pub taken_wide : length twice ≡ length passes
  taken_wide = ap (length {A = Option Holder}) second ∙ length-set once who None ∙ ap (length {A = Option Holder}) first ∙ length-set passes who None

  pub taken_here : who < length passes → get_or twice who None ≡ None
  taken_here lt = ap (λ (l : List (Option Holder)). get_or l who None) second ∙ get_or-set_same once who None None (let len : length once ≡ length passes = ap (length {A = Option Holder}) first ∙ length-set passes who None in omega arith)

  pub taken_else : (w : ℕ) → w ≢ who → get_or twice w None ≡ get_or passes w None
  taken_else w off =
      ap (λ (l : List (Option Holder)). get_or l w None) second ∙ get_or-set_other once who w None None off ∙ ap (λ (l : List (Option Holder)). get_or l w None) first ∙ get_or-set_other passes who w None None off

pub no_pass : (h : Holder) → None ≡ Some h → ⊥
no_pass h e = cc

-- a pass that is given back is there, and so are those behind it
pub given_back : (b : Board) (passes given : List (Option Holder)) (h : Holder) (w count : ℕ) → given ≡ set passes h.who (Some h) → h.who ≡ count → Belongs b h → count ≤ w → w < length passes
    → (count + 1 ≤ w → (g : Holder) × (get_or passes w None ≡ Some g) × Belongs b g) → (g : Holder) × (get_or given w None ≡ Some g) × Belongs b g
given_back b passes given h w count is who belongs from lt above = ⊎_elim
    (λ (here : w ≡ h.who). (h, ap (λ (l : List (Option Holder)). get_or l w None) is ∙ ap (λ (i : ℕ). get_or (set passes h.who (Some h)) i None) here ∙ get_or-set_same passes h.who (Some h) None (omega arith), belongs))
    (λ (off : w ≢ h.who). let t = above (omega arith) in (t.0, ap (λ (l : List (Option Holder)). get_or l w None) is ∙ get_or-set_other passes h.who w (Some h) None off ∙ t.1, t.2))
    (cases_eq w h.who)
