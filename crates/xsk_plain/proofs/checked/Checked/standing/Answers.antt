use Rattle.std.proofs.Common.{◌<◌, length, refl, ap, subst, arith}
use Rattle.xsk_model.specs.Config.{callers_of}
use Rattle.xsk_model.specs.Entry.{own}
use Rattle.xsk_legal.proofs.Able.{stands_for}
use Rattle.xsk_plain.specs.Engine.{Engine}
use Rattle.xsk_plain.specs.Histories.{IsStanding, NotesOwn}
use Rattle.xsk_plain.proofs.Running.{noted_at}
use Rattle.xsk_plain.proofs.checked.Checked.standing.Goals as goal

pub returns-then-place-len-clause-none : goal.returns-then-place-len-clause-none
returns-then-place-len-clause-none c =
    let inside = c.self.inside in
    let callers = ap (λ (e : Engine). callers_of e.config) c.self.view_is in
    (λ none. omega (arith, c.if-place-len.true, c.len.ensures, callers, c.self.invariant.noted.count), λ past. refl)

pub returns-clause-none : goal.returns-clause-none
returns-clause-none c =
    let inside = c.self.inside in
    let callers = ap (λ (e : Engine). callers_of e.config) c.self.view_is in
    (λ none. absurd (cc), λ past. absurd (omega (arith, past, c.if-place-len.false, c.len.ensures, callers, c.self.invariant.noted.count)))

pub returns-clause-some : goal.returns-clause-some
returns-clause-some c =
    let inside = c.self.inside in
    let h = c.self.invariant.history in
    let within : c.args.who < length inside.standings.items = omega (arith, c.if-place-len.false, c.len.ensures) in
    let notes : NotesOwn inside.plain.config h c.args.who c.index.result.now = noted_at inside.plain.config h inside.standings.items c.args.who c.index.result.now c.self.invariant.noted within c.index.ensures in
    subst (λ (e : Engine). IsStanding e c.args.who c.index.result.now) c.self.view_is (record {
      kind = stands_for inside.plain.config c.index.result.now (own c.args.who h) notes.stands;
      frames = c.self.invariant.frames;
      history = h;
      run = c.self.invariant.run;
      notes = notes;
    })
