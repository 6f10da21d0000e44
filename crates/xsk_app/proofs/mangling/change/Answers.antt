use Rattle.std.proofs.Common.{sym, ◌∙◌}
use Rattle.xsk_turns.specs.Mangling.{change_at, taken_by}
use Rattle.xsk_app.proofs.Taking.{take_same, none_taken}
use Rattle.xsk_app.proofs.mangling.change.Goals as goal

pub returns-in_default-clause-back : goal.returns-in_default-clause-back
returns-in_default-clause-back c =
    let none = none_taken (change_at c.args.every c.args.number) c.args.item.now (sym c.change_at.ensures ∙ c.in_default.is) in
    take_same 4096 c.args.back.now (taken_by (change_at c.args.every c.args.number) c.args.item.now) c.len-kept.ensures.few none
