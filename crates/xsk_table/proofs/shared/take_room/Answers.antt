use Rattle.std.proofs.Common.{◌+◌, map, sym, ap, subst, ◌∙◌}
use Rattle.std.specs.Vec.{vec_items}
use Rattle.std.proofs.lemmas.List.{map_push}
use Rattle.xsk_table.specs.Opening.{AllFirst}
use Rattle.xsk_table.proofs.Deals.{all_more}
use Rattle.xsk_table.proofs.shared.take_room.Goals as goal

pub loop-who-preserved : goal.loop-who-preserved
loop-who-preserved c =
    subst (AllFirst c.args.config.now c.args.first (c.loop-who.who + 1)) (sym (ap (map vec_items) c.in_ok-push.ensures.items ∙ map_push vec_items c.loop-who.ends.items c.in_ok-lay_ends.field-0))
    (all_more c.args.config.now c.args.first c.loop-who.who (map vec_items c.loop-who.ends.items) _ c.loop-who.invariant c.in_ok-lay_ends.ensures.ends)
