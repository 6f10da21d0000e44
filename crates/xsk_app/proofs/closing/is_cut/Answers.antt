use Rattle.std.proofs.Common.{rules, ◌≡◌, ◌<◌, length}
use Rattle.xsk_app.proofs.Shutting.{cut_last, cut_none}
use Rattle.xsk_app.proofs.closing.is_cut.Goals as goal

pub returns-then-count-eq0 : goal.returns-then-count-eq0
returns-then-count-eq0 c =
    let none : length c.args.items.now ≡ 0 = search rules in
    cut_none c.args.items.now none

pub returns : goal.returns
returns c =
    let some : 0 < length c.args.items.now = search rules in
    cut_last c.args.items.now c.desc-last.result some (search rules)
