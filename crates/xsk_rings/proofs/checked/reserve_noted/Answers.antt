use Rattle.std.proofs.Common.{List, [], refl, sym, subst}
use Rattle.xsk_umem.specs.declared.batch.Item.{Item}
use Rattle.xsk_model.specs.Asks.{joined_reply}
use Rattle.xsk_model.specs.declared.call.Call.TheVariants.{Reserve}
use Rattle.xsk_rings.specs.Serving.{Served}
use Rattle.xsk_rings.specs.Rounds.{mine_of}
use Rattle.xsk_rings.proofs.Telling.{none_answered}
use Rattle.xsk_rings.proofs.Checking.{stands, may_then, noted_then}
use Rattle.xsk_rings.proofs.checked.reserve_noted.Goals as goal

pub got-requires : goal.got-requires
got-requires g c =
    let b = c.args.shared.now in
    let k = c.config-config.result.now in
    let p = c.args.pass.now in
    let kept = c.args.standing.now in
    let did = c.reserve_step-answer in
    let call = Reserve c.args.ring c.args.count in
    let reply = joined_reply did.result c.new-none.result in
    let is : Served p did.new.self call (joined_reply did.result []) =
    record { table = did.ensures.same.0; who = did.ensures.same.1; rests = did.ensures.flight; history = did.ensures.history } in
    let served = subst (λ (l : List Item). Served p did.new.self call (joined_reply did.result l)) (sym c.new-none.ensures) is in
    record {
      may = (
        mine_of p,
        [],
        stands b k p kept c.config-config.ensures c.requires.may.belongs c.requires.noted,
        may_then b k p kept c.config-config.ensures c.requires.may.belongs c.requires.noted did.new.self call reply served kept refl,
      );
    }

pub returns-clause-noted : goal.returns-clause-noted
returns-clause-noted g c =
    let b = c.args.shared.now in
    let k = c.config-config.result.now in
    let p = c.args.pass.now in
    let kept = c.args.standing.now in
    let did = c.reserve_step-answer in
    let call = Reserve c.args.ring c.args.count in
    let reply = joined_reply did.result c.new-none.result in
    let is : Served p did.new.self call (joined_reply did.result []) =
    record { table = did.ensures.same.0; who = did.ensures.same.1; rests = did.ensures.flight; history = did.ensures.history } in
    let served = subst (λ (l : List Item). Served p did.new.self call (joined_reply did.result l)) (sym c.new-none.ensures) is in
    let may = may_then b k p kept c.config-config.ensures c.requires.may.belongs c.requires.noted did.new.self call reply served kept refl in
    noted_then b k p kept c.config-config.ensures c.requires.may.belongs c.requires.noted did.new.self call reply served c.got.new.self c.got.ensures.caller
    (c.got.ensures.stands (mine_of p) [] (stands b k p kept c.config-config.ensures c.requires.may.belongs c.requires.noted) may)

pub returns-clause-served : goal.returns-clause-served
returns-clause-served g c =
    let did = c.reserve_step-answer.ensures in
    record { table = did.same.0; who = did.same.1; rests = did.flight; history = did.history }

pub returns-clause-answered : goal.returns-clause-answered
returns-clause-answered g c = none_answered c.reserve_step-answer.result
