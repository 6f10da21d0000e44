-- The first of possible calls are possible: a history is cut right before the program's next call.
use Rattle.std.proofs.Common.{◌≡◌, List, [], ◌∷◌, ◌++◌, cond}
use Rattle.xsk_side.specs.Setting.{Setting}
use Rattle.xsk_side.specs.Object.{Entry}
use Rattle.xsk_side.specs.Possible.{IsHistory, Possible, own, is_party}
use Rattle.xsk_side.specs.Laws.{FirstParts}
use Rattle.xsk_side.specs.declared.call.Party.TheVariants.{Program, Kernel}
use Rattle.xsk_side.specs.declared.call.Call.{Call}

tail_is : (x y : Call) (xs ys : List Call) → x ∷ xs ≡ y ∷ ys → xs ≡ ys
tail_is x y xs ys h = cc

-- the history is cut behind the later calls
cut : (s : Setting) (h : List Entry) (later calls : List Call) → IsHistory s h → own Program h ≡ later ++ calls → Possible s calls
cut s h [] calls legal is = record { history = h; legal = legal; own = is }
cut s [] (c ∷ later) calls legal is = absurd (cc)
cut s (e ∷ past) (c ∷ later) calls legal is =
    (elim (e.who) as (λ who. cond (is_party Program who) (e.call ∷ own Program past) (own Program past) ≡ c ∷ (later ++ calls) → Possible s calls) [
      | Program ↦ λ same. cut s past later calls legal.0 (tail_is e.call c (own Program past) (later ++ calls) same)
      | Kernel ↦ λ same. cut s past (c ∷ later) calls legal.0 same
    ]) is

pub first_parts : FirstParts
first_parts s later calls possible = cut s possible.history later calls possible.legal possible.own
