use Rattle.std.proofs.Common.{arith}
use Rattle.xsk_plain.proofs.Running.{none_new, one_new, all_new}
use Rattle.xsk_plain.proofs.noting.new_standings.Goals as goal

pub loop-who-init : goal.loop-who-init
loop-who-init c = none_new c.args.config.now c.in_ok-standings.standings.items c.in_ok-standings.ensures.items

pub loop-who-preserved : goal.loop-who-preserved
loop-who-preserved c =
    one_new c.args.config.now c.loop-who.standings.items c.push.new.self.items c.loop-who.who c.in_ok-new.field-0 c.in_ok-push.ensures.items c.loop-who.invariant
    c.in_ok-new.ensures.caller c.in_ok-new.ensures.stands

pub returns : goal.returns
returns c =
    all_new c.args.config.now c.loop-who.standings.items c.loop-who.who c.loop-who.invariant (omega (arith, c.loop-who-test.false, c.loop-who.auto.who-end, c.callers-callers.ensures))
