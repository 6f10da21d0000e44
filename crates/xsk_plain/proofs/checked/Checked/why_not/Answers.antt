use Rattle.std.proofs.Common.{◌<◌, ◌↔◌, length, sym, subst, arith}
use Rattle.std.specs.Prelude.{IfSome, IsNone}
use Rattle.xsk_model.specs.Asks.{joined_call}
use Rattle.xsk_model.specs.Config.{Config}
use Rattle.xsk_model.specs.Entry.{own}
use Rattle.xsk_model.specs.Legal.{IsLegal}
use Rattle.xsk_legal.specs.ItemNotes.{IsFor}
use Rattle.xsk_legal.specs.Why.{Fails}
use Rattle.xsk_legal.proofs.Able.{stands_for}
use Rattle.xsk_plain.specs.Engine.{Engine}
use Rattle.xsk_plain.specs.Histories.{NotesOwn}
use Rattle.xsk_plain.proofs.Running.{noted_at, told_why, none_is_legal, told_in_log}
use Rattle.xsk_plain.proofs.checked.Checked.why_not.Goals as goal

pub why_not-requires : goal.why_not-requires
why_not-requires c =
    let inside = c.self.inside in
    let within : c.args.who < length inside.standings.items = omega (arith, c.if-place-len.false, c.len.ensures) in
    let notes : NotesOwn inside.plain.config c.self.invariant.history c.args.who c.index.result.now =
    noted_at inside.plain.config c.self.invariant.history inside.standings.items c.args.who c.index.result.now c.self.invariant.noted within c.index.ensures in
    subst (λ (k : Config). IsFor k c.index.result.now) (sym c.config.ensures) (stands_for inside.plain.config c.index.result.now (own c.args.who c.self.invariant.history) notes.stands)

pub returns-clause-legal : goal.returns-clause-legal
returns-clause-legal c =
    let inside = c.self.inside in
    let within : c.args.who < length inside.standings.items = omega (arith, c.if-place-len.false, c.len.ensures) in
    let notes : NotesOwn inside.plain.config c.self.invariant.history c.args.who c.index.result.now =
    noted_at inside.plain.config c.self.invariant.history inside.standings.items c.args.who c.index.result.now c.self.invariant.noted within c.index.ensures in
    subst (λ (e : Engine). IsNone c.why_not.result ↔ IsLegal e.config (own c.args.who e.log) c.args.who (joined_call c.args.ask c.args.items.now)) c.self.view_is
    (none_is_legal inside.plain c.self.invariant.frames c.self.invariant.history c.args.who (joined_call c.args.ask c.args.items.now) c.why_not.result c.self.invariant.run
    (told_why inside.plain c.config.result.now c.self.invariant.history c.args.who c.index.result.now (joined_call c.args.ask c.args.items.now) c.why_not.result c.config.ensures notes c.why_not.ensures))

pub returns-clause-why : goal.returns-clause-why
returns-clause-why c =
    let inside = c.self.inside in
    let within : c.args.who < length inside.standings.items = omega (arith, c.if-place-len.false, c.len.ensures) in
    let notes : NotesOwn inside.plain.config c.self.invariant.history c.args.who c.index.result.now =
    noted_at inside.plain.config c.self.invariant.history inside.standings.items c.args.who c.index.result.now c.self.invariant.noted within c.index.ensures in
    subst (λ (e : Engine). IfSome c.why_not.result (λ why. Fails why e.config (own c.args.who e.log) c.args.who (joined_call c.args.ask c.args.items.now))) c.self.view_is
    (told_in_log inside.plain c.self.invariant.frames c.self.invariant.history c.args.who (joined_call c.args.ask c.args.items.now) c.why_not.result c.self.invariant.run
    (told_why inside.plain c.config.result.now c.self.invariant.history c.args.who c.index.result.now (joined_call c.args.ask c.args.items.now) c.why_not.result c.config.ensures notes c.why_not.ensures))
