use Rattle.std.proofs.Common.{◌≡◌, List, [], ◌∷◌, ◌++◌, sym, refl, ap, ◌∙◌, Option, Some}
use Rattle.xsk_lock.proofs.Steps.{opens}
use Rattle.xsk_lock.proofs.lock.Lock.new.Goals as goal

pub new-requires : goal.new-requires
new-requires g c =
    let empty : c.in-Ok-with_capacity.slots.items ≡ [] = c.in-Ok-with_capacity.ensures.items in
    opens g.T.Named.name (g.T.Named.name c.of.result.value) c.args.hands (0 ∷ []) c.push_reserved.new.self.items c.args.value refl
    (c.push_reserved.ensures.items ∙ ap (λ (l : List (Option g.row.T.Denot)). l ++ Some c.args.value ∷ []) empty) (ap g.T.Named.name (sym c.of.ensures)) c.requires
