use Rattle.std.proofs.Common.{◌≡◌, ◌≢◌, ℕ, List, [], ◌∷◌, get_or, set, ap, ◌∙◌, arith, ⊎_elim, Option, Some, None}
use Rattle.std.proofs.lemmas.Bool.{cases_eq}
use Rattle.xsk_model.specs.Config.{callers_of}
use Rattle.xsk_table.specs.Held.{Board, Holder, Belongs}
use Rattle.xsk_table.specs.Closing.{AreThere}
use Rattle.test_threads.proofs.circling.put_all.Goals as goal

-- a row of three
abbrev row : Option Holder → Option Holder → Option Holder → List (Option Holder)
row x y z = x ∷ y ∷ z ∷ []

-- one of the row is set
with_first : (passes next : List (Option Holder)) (x y z p : Option Holder) (who : ℕ) → passes ≡ row x y z → who ≡ 0 → next ≡ set passes who p → next ≡ row p y z
with_first passes next x y z p who is here step = step ∙ ap (λ (l : List (Option Holder)). set l who p) is ∙ ap (λ (i : ℕ). set (row x y z) i p) here

with_second : (passes next : List (Option Holder)) (x y z p : Option Holder) (who : ℕ) → passes ≡ row x y z → who ≡ 1 → next ≡ set passes who p → next ≡ row x p z
with_second passes next x y z p who is here step = step ∙ ap (λ (l : List (Option Holder)). set l who p) is ∙ ap (λ (i : ℕ). set (row x y z) i p) here

with_third : (passes next : List (Option Holder)) (x y z p : Option Holder) (who : ℕ) → passes ≡ row x y z → who ≡ 2 → next ≡ set passes who p → next ≡ row x y p
with_third passes next x y z p who is here step = step ∙ ap (λ (l : List (Option Holder)). set l who p) is ∙ ap (λ (i : ℕ). set (row x y z) i p) here

-- what stands at a place of the row
at_first : (passes : List (Option Holder)) (x y z : Option Holder) (who : ℕ) → passes ≡ row x y z → who ≡ 0 → get_or passes who None ≡ x
at_first passes x y z who is here = ap (λ (l : List (Option Holder)). get_or l who None) is ∙ ap (λ (i : ℕ). get_or (row x y z) i None) here

at_second : (passes : List (Option Holder)) (x y z : Option Holder) (who : ℕ) → passes ≡ row x y z → who ≡ 1 → get_or passes who None ≡ y
at_second passes x y z who is here = ap (λ (l : List (Option Holder)). get_or l who None) is ∙ ap (λ (i : ℕ). get_or (row x y z) i None) here

at_third : (passes : List (Option Holder)) (x y z : Option Holder) (who : ℕ) → passes ≡ row x y z → who ≡ 2 → get_or passes who None ≡ z
at_third passes x y z who is here = ap (λ (l : List (Option Holder)). get_or l who None) is ∙ ap (λ (i : ℕ). get_or (row x y z) i None) here

-- all three are there
are_there : (b : Board) (passes : List (Option Holder)) (p q r : Holder) → callers_of b.setup.config ≡ 3 → passes ≡ row (Some p) (Some q) (Some r)
    → Belongs b p → Belongs b q → Belongs b r → AreThere b passes
are_there b passes p q r three is first second third w lt = ⊎_elim
    (λ (here : w ≡ 0). (p, at_first passes (Some p) (Some q) (Some r) w is here, first))
    (λ (off : w ≢ 0). ⊎_elim
    (λ (here : w ≡ 1). (q, at_second passes (Some p) (Some q) (Some r) w is here, second))
    (λ (last : w ≢ 1). (r, at_third passes (Some p) (Some q) (Some r) w is (omega (arith, off, last, lt, three)), third))
    (cases_eq w 1))
    (cases_eq w 0)

pub returns : goal.returns
returns c =
    let b = c.args.shared.now in
    let p = c.args.crew.receiver in
    let q = c.args.crew.sender in
    let r = c.args.crew.app in
    let one : c.put_back.new.passes ≡ row (Some p) None None = with_first c.args.passes.now c.put_back.new.passes None None None (Some p) p.who c.requires.left.1 c.requires.callers.0 c.put_back.ensures in
    let two : c.put_back-2.new.passes ≡ row (Some p) (Some q) None = with_second c.put_back.new.passes c.put_back-2.new.passes (Some p) None None (Some q) q.who one c.requires.callers.1 c.put_back-2.ensures in
    let all : c.put_back-3.new.passes ≡ row (Some p) (Some q) (Some r) = with_third c.put_back-2.new.passes c.put_back-3.new.passes (Some p) (Some q) None (Some r) r.who two c.requires.callers.2 c.put_back-3.ensures in
    are_there b c.put_back-3.new.passes p q r c.requires.left.0 all c.requires.rest.0.0 c.requires.rest.1.0 c.requires.rest.2.0
