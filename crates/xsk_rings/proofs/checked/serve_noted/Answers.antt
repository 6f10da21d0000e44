use Rattle.std.proofs.Common.{◌∙◌}
use Rattle.xsk_model.specs.Asks.{joined_call, joined_reply}
use Rattle.xsk_rings.specs.Rounds.{mine_of}
use Rattle.xsk_rings.proofs.Checking.{stands, legal_then, may_then, noted_then}
use Rattle.xsk_rings.proofs.checked.serve_noted.Goals as goal

pub gives-requires : goal.gives-requires
gives-requires g c =
    let p = c.args.pass.now in
    let call = joined_call c.args.ask c.args.items.now in
    record {
      legal = (
        mine_of p,
        stands c.args.shared.now c.config-config.result.now p c.args.standing.now c.config-config.ensures c.requires.may.belongs c.requires.noted,
        legal_then c.args.shared.now c.config-config.result.now p c.args.standing.now c.config-config.ensures c.requires.may.belongs c.requires.noted call c.requires.may.legal,
      );
    }

pub got-requires : goal.got-requires
got-requires g c =
    let b = c.args.shared.now in
    let k = c.config-config.result.now in
    let p = c.args.pass.now in
    let kept = c.args.standing.now in
    let call = joined_call c.args.ask c.args.items.now in
    let did = c.serve_counted-answer in
    let reply = joined_reply did.result did.new.items in
    record {
      may = (
        mine_of p,
        c.args.items.now,
        c.gives.ensures.given (mine_of p) (stands b k p kept c.config-config.ensures c.requires.may.belongs c.requires.noted) (legal_then b k p kept c.config-config.ensures c.requires.may.belongs c.requires.noted call c.requires.may.legal),
        may_then b k p kept c.config-config.ensures c.requires.may.belongs c.requires.noted did.new.self call reply did.ensures.told.served c.gives.new.self c.gives.ensures.caller,
      );
    }

pub returns-clause-noted : goal.returns-clause-noted
returns-clause-noted g c =
    let b = c.args.shared.now in
    let k = c.config-config.result.now in
    let p = c.args.pass.now in
    let kept = c.args.standing.now in
    let call = joined_call c.args.ask c.args.items.now in
    let did = c.serve_counted-answer in
    let reply = joined_reply did.result did.new.items in
    let given = c.gives.ensures.given (mine_of p) (stands b k p kept c.config-config.ensures c.requires.may.belongs c.requires.noted) (legal_then b k p kept c.config-config.ensures c.requires.may.belongs c.requires.noted call c.requires.may.legal) in
    let may = may_then b k p kept c.config-config.ensures c.requires.may.belongs c.requires.noted did.new.self call reply did.ensures.told.served c.gives.new.self c.gives.ensures.caller in
    noted_then b k p kept c.config-config.ensures c.requires.may.belongs c.requires.noted did.new.self call reply did.ensures.told.served c.got.new.self (c.got.ensures.caller ∙ c.gives.ensures.caller)
    (c.got.ensures.stands (mine_of p) c.args.items.now given may)
