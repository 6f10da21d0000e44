use Rattle.std.proofs.Common.{rules, arith, ◌≡◌, ◌<◌, ◌-◌, length, sym, ap, subst}
use Rattle.xsk_umem.specs.Geometry.{IsGeometry}
use Rattle.xsk_model.specs.Config.{Config, callers_of}
use Rattle.xsk_model.specs.Marks.{apps_of}
use Rattle.xsk_model.specs.Rings.{caller_of}
use Rattle.xsk_table.specs.Held.{Holder}
use Rattle.xsk_app.specs.Resumed.{kept_in}
use Rattle.xsk_shared_ends.specs.Shown.{AreEnds}
use Rattle.xsk_shared_ends.proofs.Ending.{new_ends}
use Rattle.xsk_shared_ends.proofs.ends.Ends.new.Goals as goal

pub invariant_of-result : goal.invariant_of-result
invariant_of-result c =
    let k = c.args.config.now in
    let app = c.caller.result - length c.pairs.result.now in
    let pairs : length c.pairs.result.now ≡ length k.pairs = ap length c.pairs.ensures.value in
    let few : c.caller.result < callers_of k = subst (λ (x : Config). c.caller.result < callers_of x) c.requires.config c.caller.ensures.few in
    let known : app < apps_of k = omega (arith, few, pairs) in
    let who : c.args.pass.who ≡ caller_of k app = omega (arith, pairs, c.caller.ensures.caller, c.requires.app) in
    let geometry : IsGeometry k.geometry = search rules in
    subst (λ (p : Holder). AreEnds (record { config = k; app = app; pass = p; kept = kept_in c.in-Ok.kept })) (sym c.new-in-Ok.ensures)
    (new_ends k app c.args.pass (kept_in c.in-Ok.kept) c.pairs.ensures.lawful c.requires.steady geometry known c.requires.config who c.requires.rests c.requires.unused c.in-Ok.ensures)
