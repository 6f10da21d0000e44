use Rattle.std.proofs.Common.{rules, arith, ap, ◌≡◌, ◌++◌, [], ◌∷◌, length, length-append}
use Rattle.xsk_turns.specs.Mangling.{change_at, taken_by, mangled, frames_taken}
use Rattle.std.proofs.Common.{take}
use Rattle.xsk_app.proofs.Taking.{mangled_more, frames_more, few_kept, frames_all}
use Rattle.xsk_app.proofs.mangling.mangle.Goals as goal

pub loop-item-preserved : goal.loop-item-preserved
loop-item-preserved c =
    let g = c.args.geometry.now in
    let every = c.args.every in
    let n = c.loop-item.number in
    let item = c.in-Some.item in
    let pending : c.loop-item.pending ≡ item ∷ c.pop_front.new.self = search rules in
    let h = c.loop-item.invariant in (
      rw c.push.ensures
          (mangled_more g every n c.loop-item.items c.loop-item.pending c.pop_front.new.self (mangled g every c.args.number c.args.pending.now) item c.change.new.item h.0 pending c.change.ensures.item),
      frames_more 4096 every n c.loop-item.back c.change.new.back (take 4096 (c.args.back.now ++ frames_taken every c.args.number c.args.pending.now)) c.loop-item.pending c.pop_front.new.self item h.1 pending c.change.ensures.back,
      omega (arith, h.2, ap length c.push.ensures, length-append c.loop-item.items (c.change.new.item ∷ []), ap length pending),
      omega (arith, h.3, ap length pending),
      few_kept 4096 (c.loop-item.back ++ taken_by (change_at every n) item) c.change.new.back c.change.ensures.back,
    )

pub returns-clause-back : goal.returns-clause-back
returns-clause-back c =
    let h = c.loop-item.invariant in
    let none : c.loop-item.pending ≡ [] = search rules in
    frames_all 4096 c.args.every c.loop-item.number c.loop-item.back (take 4096 (c.args.back.now ++ frames_taken c.args.every c.args.number c.args.pending.now)) c.loop-item.pending h.1 none h.4
