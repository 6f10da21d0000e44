use Rattle.std.proofs.Common.{◌≡◌, false, [], refl, sym, ◌∙◌}
use Rattle.xsk_model.specs.Asks.{joined_reply}
use Rattle.xsk_model.specs.declared.call.Call.TheVariants.{Reserve}
use Rattle.xsk_model.specs.declared.call.Reply.TheVariants.{Granted}
use Rattle.xsk_table.specs.Held.{is_covered}
use Rattle.xsk_rings.proofs.Telling.{tells, known_reserved, known_looked, none_answered, not_both}
use Rattle.xsk_rings.proofs.serving.reserve.Goals as goal

pub returns-then-knows-clause-told : goal.returns-then-knows-clause-told
returns-then-knows-clause-told g c =
    let p = c.args.pass.now in
    let q = c.reserve_covered.new.self in
    tells p q (Reserve c.args.ring c.args.count) Granted c.requires.may.legal
    (record { table = c.reserve_covered.ensures.same.0; who = c.reserve_covered.ensures.same.1; rests = c.reserve_covered.ensures.flight; history = c.reserve_covered.ensures.history }) (λ covers. refl)
    (known_reserved p q.view c.args.ring c.args.count q.known (sym c.knows.ensures ∙ c.if-knows.true) c.reserve_covered.ensures.known)

pub returns-clause-told : goal.returns-clause-told
returns-clause-told g c =
    let p = c.args.pass.now in
    let q = c.reserve_step.new.self in
    let uncovered : is_covered p (Reserve c.args.ring c.args.count) ≡ false = sym c.knows.ensures ∙ c.if-knows.false in
    let did = c.reserve_step.ensures in
    tells p q (Reserve c.args.ring c.args.count) (joined_reply c.reserve_step.result []) c.requires.may.legal
    (record { table = did.same.0; who = did.same.1; rests = did.flight; history = did.history }) (λ covers. absurd (not_both _ uncovered covers))
    (known_looked p q.view c.args.ring c.args.count q.known uncovered did.known)

pub returns-clause-answered : goal.returns-clause-answered
returns-clause-answered g c = none_answered c.reserve_step.result
