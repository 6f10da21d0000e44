use Rattle.std.proofs.Common.{rules, ◌≡◌, [], ◌∷◌, ◌++◌, take}
use Rattle.xsk_turns.specs.Turns.{frame_in, frames_in}
use Rattle.xsk_app.proofs.Taking.{few_kept}
use Rattle.xsk_app.proofs.Shutting.{behind_more, behind_all}
use Rattle.xsk_app.proofs.closing.keep_behind.Goals as goal

pub loop-item-preserved : goal.loop-item-preserved
loop-item-preserved c =
    let item = c.in-Some.item in
    let items : c.loop-item.items ≡ item ∷ c.pop_front.new.self = search rules in (
      behind_more 4096 c.loop-item.back c.add.new.self (take 4096 (c.args.back.now ++ frames_in c.args.items.now)) c.loop-item.items c.pop_front.new.self item c.loop-item.invariant.0 items c.add.ensures,
      few_kept 4096 (c.loop-item.back ++ frame_in item.frame) c.add.new.self c.add.ensures,
    )

pub returns-clause-back : goal.returns-clause-back
returns-clause-back c =
    let none : c.loop-item.items ≡ [] = search rules in
    behind_all 4096 c.loop-item.back (take 4096 (c.args.back.now ++ frames_in c.args.items.now)) c.loop-item.items c.loop-item.invariant.0 none c.loop-item.invariant.1
