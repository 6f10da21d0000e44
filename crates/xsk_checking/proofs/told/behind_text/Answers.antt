use Rattle.std.proofs.Common.{◌≡◌, [], rules, subst, sym}
use Rattle.xsk_checking.specs.Ending.{MayFollow}
use Rattle.xsk_checking.proofs.Answering.{nothing-follows}
use Rattle.xsk_checking.proofs.told.behind_text.Goals as goal

pub returns-in_default : goal.returns-in_default
returns-in_default c =
    let none : c.new-behind.result.items ≡ [] = search rules in
    subst (MayFollow c.args.verdict) (sym none) (nothing-follows c.args.verdict)
