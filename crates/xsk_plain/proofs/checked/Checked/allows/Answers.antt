use Rattle.std.proofs.Common.{◌<◌, ◌↔◌, length, sym, subst, arith}
use Rattle.std.specs.Prelude.{IsTrue}
use Rattle.xsk_model.specs.Asks.{joined_call}
use Rattle.xsk_model.specs.Config.{Config}
use Rattle.xsk_model.specs.Entry.{own}
use Rattle.xsk_model.specs.Legal.{IsLegal}
use Rattle.xsk_legal.specs.ItemNotes.{IsFor}
use Rattle.xsk_legal.proofs.Able.{stands_for}
use Rattle.xsk_plain.specs.Engine.{Engine}
use Rattle.xsk_plain.specs.Histories.{NotesOwn}
use Rattle.xsk_plain.proofs.Running.{noted_at, allowed}
use Rattle.xsk_plain.proofs.checked.Checked.allows.Goals as goal

pub allows-requires : goal.allows-requires
allows-requires c =
    let inside = c.self.inside in
    let within : c.args.who < length inside.standings.items = omega (arith, c.if-place-len.true, c.len.ensures) in
    let notes : NotesOwn inside.plain.config c.self.invariant.history c.args.who c.index.result.now =
    noted_at inside.plain.config c.self.invariant.history inside.standings.items c.args.who c.index.result.now c.self.invariant.noted within c.index.ensures in
    subst (λ (k : Config). IsFor k c.index.result.now) (sym c.config.ensures) (stands_for inside.plain.config c.index.result.now (own c.args.who c.self.invariant.history) notes.stands)

pub returns-then-place-len : goal.returns-then-place-len
returns-then-place-len c =
    let inside = c.self.inside in
    let within : c.args.who < length inside.standings.items = omega (arith, c.if-place-len.true, c.len.ensures) in
    let notes : NotesOwn inside.plain.config c.self.invariant.history c.args.who c.index.result.now =
    noted_at inside.plain.config c.self.invariant.history inside.standings.items c.args.who c.index.result.now c.self.invariant.noted within c.index.ensures in
    subst (λ (e : Engine). IsTrue c.allows.result ↔ IsLegal e.config (own c.args.who e.log) c.args.who (joined_call c.args.ask c.args.items.now)) c.self.view_is
    (allowed inside.plain c.config.result.now c.self.invariant.frames c.self.invariant.history c.args.who c.index.result.now (joined_call c.args.ask c.args.items.now) c.allows.result c.config.ensures
    c.self.invariant.run notes c.allows.ensures)
