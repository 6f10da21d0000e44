use Rattle.std.proofs.Common.{Option, rules, sym, ap, subst, ◌∙◌}
use Rattle.std.specs.Prelude.{IfSome}
use Rattle.xsk_umem.specs.Geometry.{Geometry}
use Rattle.xsk_model.specs.Asks.{joined_call}
use Rattle.xsk_model.specs.Config.{Config}
use Rattle.xsk_model.specs.Entry.{own}
use Rattle.xsk_legal.specs.Why.{Fails}
use Rattle.xsk_legal.specs.declared.why.Illegal.{Illegal}
use Rattle.xsk_plain.specs.Rooms.{payload_bytes}
use Rattle.xsk_audit.specs.Shelf.{AreInPlace, IsLent, Lacks, descs_of}
use Rattle.xsk_audit.proofs.Asking.{asks-too}
use Rattle.xsk_audit.proofs.Following.{lacking, refused}
use Rattle.xsk_audit.proofs.Making.{made-as, as-many}
use Rattle.xsk_audit.proofs.why.try_call.Goals as goal

pub lend-requires-clause-places : goal.lend-requires-clause-places
lend-requires-clause-places c =
    let geometry = c.geometry.ensures.value ∙ ap (λ (k : Config). k.geometry) c.config.ensures in
    subst (λ (g : Geometry). AreInPlace g c.args.shelf.now) (sym geometry) c.requires.playing.2.places

pub returns-then-not-lend-clause-tries : goal.returns-then-not-lend-clause-tries
returns-then-not-lend-clause-tries c frames h playing =
    let geometry = c.geometry.ensures.value ∙ ap (λ (k : Config). k.geometry) c.config.ensures in (
      lacking c.args.checked.now c.args.shelf.now frames h c.args.who c.args.ask c.args.told.now playing c.requires.asked
          (subst (λ (g : Geometry). Lacks g c.args.shelf.now (descs_of c.args.told.now)) geometry (c.lend.ensures.lacks (search rules))),
      playing.run,
    )

pub returns-in-Some-clause-tries : goal.returns-in-Some-clause-tries
returns-in-Some-clause-tries c frames h playing =
    let geometry = c.geometry.ensures.value ∙ ap (λ (k : Config). k.geometry) c.config.ensures in (
      refused c.args.checked.now c.args.shelf.now frames h c.args.who c.args.ask c.args.told.now playing c.requires.asked c.lend.new.self c.lend.new.items c.in-Some.why c.requires.told
          (subst (λ (g : Geometry). IsLent g c.args.shelf.now c.lend.new.self (descs_of c.args.told.now) c.lend.new.items) geometry (c.lend.ensures.lent (search rules)))
          (subst (λ (result : Option Illegal). IfSome result (λ why. Fails why c.args.checked.now.config (own c.args.who c.args.checked.now.log) c.args.who (joined_call c.args.ask c.lend.new.items))) c.in-Some.is c.why_not.ensures.why),
      playing.run,
    )

pub serve-answer-requires-clause-items : goal.serve-answer-requires-clause-items
serve-answer-requires-clause-items c =
    let lent = c.lend.ensures.lent (search rules) in
    asks-too c.args.ask c.lend.new.items c.args.told.now (as-many c.args.told.now c.lend.new.items lent.descs_are) c.requires.asked

pub returns-clause-tries : goal.returns-clause-tries
returns-clause-tries c frames h playing =
    let geometry = c.geometry.ensures.value ∙ ap (λ (k : Config). k.geometry) c.config.ensures in
    let lent = c.lend.ensures.lent (search rules) in
    let serve = c.serve-answer.ensures in
    made-as c.args.checked.now c.reserve_log.new.self c.serve-answer.new.self c.args.shelf.now c.lend.new.self c.keep.new.self frames h c.args.who c.args.ask c.args.told.now c.lend.new.items c.serve-answer.result c.serve-answer.new.items
    (payload_bytes c.reserve_log.new.self.config (joined_call c.args.ask c.lend.new.items)) playing c.requires.asked c.requires.told
    (subst (λ (g : Geometry). IsLent g c.args.shelf.now c.lend.new.self (descs_of c.args.told.now) c.lend.new.items) geometry lent)
    (subst (λ (g : Geometry). AreInPlace g c.lend.new.self) geometry c.lend.ensures.places) c.lend.ensures.count
    (asks-too c.args.ask c.lend.new.items c.args.told.now (as-many c.args.told.now c.lend.new.items lent.descs_are) c.requires.asked)
    c.reserve_log.ensures.same (c.why_not.ensures.legal.0 (search rules)) serve.items
    (record { config = serve.config; log = serve.log; calls = serve.calls; spare_entries = serve.entries; spare_bytes = serve.bytes })
    (record { reply = serve.reply; state = serve.state })
    c.keep.ensures.kept
