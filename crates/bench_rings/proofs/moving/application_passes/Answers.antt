use Rattle.std.proofs.Common.{◌≤◌, ◌∙◌, refl, sym, subst}
use Rattle.xsk_model.specs.Own.{held_of}
use Rattle.xsk_model.specs.declared.call.Ring.TheVariants.{Rx}
use Rattle.xsk_rings.specs.Rounds.{mine_of}
use Rattle.bench_rings.specs.Moving.{Took, Moved}
use Rattle.bench_rings.proofs.Legality.{application_submits, held_took}
use Rattle.bench_rings.proofs.moving.application_passes.Goals as goal

pub puts-requires-clause-may : goal.puts-requires-clause-may
puts-requires-clause-may c =
    let t : Took c.takes.new.pass (Rx 0) c.args.most c.takes.new.items = c.if-not-takes.ensures.took refl in
    let m : Moved 0 0 c.takes.new.items c.rewrites.new.items = c.if-not-rewrites.ensures.moved refl in
    application_submits c.args.shared.now c.takes.new.pass c.args.most c.takes.new.items c.rewrites.new.items c.requires.config c.takes.ensures.rests c.requires.most.1 (c.takes.ensures.caller ∙ c.requires.caller) t m c.takes.ensures.room

pub puts-requires-clause-held : goal.puts-requires-clause-held
puts-requires-clause-held c =
    let t : Took c.takes.new.pass (Rx 0) c.args.most c.takes.new.items = c.if-not-takes.ensures.took refl in
    let m : Moved 0 0 c.takes.new.items c.rewrites.new.items = c.if-not-rewrites.ensures.moved refl in
    subst (λ n. n ≤ held_of (Rx 0) (mine_of c.takes.new.pass)) (sym m.count) (held_took c.takes.new.pass (Rx 0) c.args.most c.takes.new.items t)
