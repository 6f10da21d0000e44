-- What each entry of a list meets: by what is asked there.
use Rattle.std.proofs.Common.{◌≡◌, List, [], ◌∷◌, ◌++◌, refl, sym, ap, subst, ◌∙◌, append_assoc, length, ◌≤◌, arith}
use Rattle.xsk_turns.proofs.Calls.{Told, Call, Reply}
use Rattle.xsk_turns.specs.Script.{Script, ask, again, ended, never, begun, Leaves, Asks}
use Rattle.xsk_turns.proofs.ScriptLemmas.{leaves_on}
use Rattle.xsk_turns.proofs.Walks.{Premise, MeetAlong}

module _ {K : Type 0} (turn : K → Script K) (begins : K) (Q : Premise K) (all : List Told)
    (each : (front : List Told) (t : Told) (later : List Told) (kept : K) (rest : Reply → Script K) → all ≡ front ++ t ∷ later → Asks turn begins front kept t.call rest → Q kept front t.call t.reply) where
  go : (script : Script K) (past l : List Told) (left : Script K) → Leaves turn (turn begins) past script → Leaves turn script l left → all ≡ past ++ l → MeetAlong turn Q script past l
  go (ask kept call rest) past [] left before after e = tt
  go (again kept) past [] left before after e = tt
  go (ended kept) past [] left before after e = tt
  go never past [] left before after e = tt
  go (ask kept call rest) past (t ∷ l) left before after e = (
    each past t l kept rest e (subst (λ (x : Call). Leaves turn (turn begins) past (ask kept x rest)) (sym after.0) before),
    go (begun turn (rest t.reply)) (past ++ t ∷ []) l left
        (leaves_on turn (turn begins) past (t ∷ []) (ask kept call rest) (begun turn (rest t.reply)) before (after.0, refl)) after.1
        (e ∙ sym (append_assoc past (t ∷ []) l)),
  )
  go (again kept) past (t ∷ l) left before after e = absurd after
  go (ended kept) past (t ∷ l) left before after e = absurd after
  go never past (t ∷ l) left before after e = absurd after

  pub meet_each : (left : Script K) → Leaves turn (turn begins) all left → MeetAlong turn Q (turn begins) [] all
  meet_each left leaves = go (turn begins) [] all left refl leaves refl

-- a cut of two lists joined, behind the first of them
pub cut_behind : {X : Type 0} (mine still front later : List X) (t : X) → mine ++ still ≡ front ++ t ∷ later → length mine ≤ length front
    → (rest : List X) × (front ≡ mine ++ rest) × (still ≡ rest ++ t ∷ later)
cut_behind [] still front later t e h = (front, refl, e)
cut_behind (x ∷ mine) still [] later t e h = absurd (omega (arith, h))
cut_behind (x ∷ mine) still (y ∷ front) later t e h =
    let same : x ≡ y = cc in
    let rest : mine ++ still ≡ front ++ t ∷ later = cc in
    let cut = cut_behind mine still front later t rest (omega (arith, h)) in
    (cut.0, ap (λ z. z ∷ front) (sym same) ∙ ap (λ xs. x ∷ xs) cut.1, cut.2)
