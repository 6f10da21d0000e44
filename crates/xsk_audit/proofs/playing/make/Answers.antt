use Rattle.std.proofs.Common.{rules, sym, ap, subst, ◌∙◌}
use Rattle.xsk_umem.specs.Geometry.{Geometry}
use Rattle.xsk_model.specs.Asks.{joined_call}
use Rattle.xsk_model.specs.Config.{Config}
use Rattle.xsk_plain.specs.Rooms.{payload_bytes}
use Rattle.xsk_audit.specs.Shelf.{AreInPlace, IsLent, Lacks, descs_of}
use Rattle.xsk_audit.proofs.Asking.{asks-too}
use Rattle.xsk_audit.proofs.Making.{lacks-legal, refused-legal, made-as, as-many, not-true}
use Rattle.xsk_audit.proofs.playing.make.Goals as goal

pub lend-requires-clause-places : goal.lend-requires-clause-places
lend-requires-clause-places c =
    let geometry = c.geometry.ensures.value ∙ ap (λ (k : Config). k.geometry) c.config.ensures in
    subst (λ (g : Geometry). AreInPlace g c.args.shelf.now) (sym geometry) c.requires.playing.2.places

pub returns-then-not-lend-clause-made : goal.returns-then-not-lend-clause-made
returns-then-not-lend-clause-made c frames h playing =
    let geometry = c.geometry.ensures.value ∙ ap (λ (k : Config). k.geometry) c.config.ensures in (
      playing.run,
      lacks-legal c.args.checked.now c.args.shelf.now frames h c.args.who c.args.ask c.args.told.now playing c.requires.asked c.requires.told
          (subst (λ (g : Geometry). Lacks g c.args.shelf.now (descs_of c.args.told.now)) geometry (c.lend.ensures.lacks (search rules))),
    )

pub returns-then-not-allows-clause-made : goal.returns-then-not-allows-clause-made
returns-then-not-allows-clause-made c frames h playing =
    let geometry = c.geometry.ensures.value ∙ ap (λ (k : Config). k.geometry) c.config.ensures in (
      playing.run,
      refused-legal c.args.checked.now c.args.shelf.now frames h c.args.who c.args.ask c.args.told.now playing c.requires.asked c.requires.told c.lend.new.self c.lend.new.items
          (subst (λ (g : Geometry). IsLent g c.args.shelf.now c.lend.new.self (descs_of c.args.told.now) c.lend.new.items) geometry (c.lend.ensures.lent (search rules)))
          (λ legal. not-true c.allows.result (search rules) (c.allows.ensures.1 legal)),
    )

pub serve-answer-requires-clause-items : goal.serve-answer-requires-clause-items
serve-answer-requires-clause-items c =
    let lent = c.lend.ensures.lent (search rules) in
    asks-too c.args.ask c.lend.new.items c.args.told.now (as-many c.args.told.now c.lend.new.items lent.descs_are) c.requires.asked

pub returns-clause-made : goal.returns-clause-made
returns-clause-made c frames h playing =
    let geometry = c.geometry.ensures.value ∙ ap (λ (k : Config). k.geometry) c.config.ensures in
    let lent = c.lend.ensures.lent (search rules) in
    let serve = c.serve-answer.ensures in
    made-as c.args.checked.now c.reserve_log.new.self c.serve-answer.new.self c.args.shelf.now c.lend.new.self c.keep.new.self frames h c.args.who c.args.ask c.args.told.now c.lend.new.items c.serve-answer.result c.serve-answer.new.items
    (payload_bytes c.reserve_log.new.self.config (joined_call c.args.ask c.lend.new.items)) playing c.requires.asked c.requires.told
    (subst (λ (g : Geometry). IsLent g c.args.shelf.now c.lend.new.self (descs_of c.args.told.now) c.lend.new.items) geometry lent)
    (subst (λ (g : Geometry). AreInPlace g c.lend.new.self) geometry c.lend.ensures.places) c.lend.ensures.count
    (asks-too c.args.ask c.lend.new.items c.args.told.now (as-many c.args.told.now c.lend.new.items lent.descs_are) c.requires.asked)
    c.reserve_log.ensures.same (c.allows.ensures.0 (search rules)) serve.items
    (record { config = serve.config; log = serve.log; calls = serve.calls; spare_entries = serve.entries; spare_bytes = serve.bytes })
    (record { reply = serve.reply; state = serve.state })
    c.keep.ensures.kept
