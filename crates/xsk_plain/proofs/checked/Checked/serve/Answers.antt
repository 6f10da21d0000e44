use Rattle.std.proofs.Common.{◌<◌, ◌++◌, ◌∷◌, [], length, sym, ap, subst, arith}
use Rattle.xsk_model.specs.Asks.{joined_call, joined_reply}
use Rattle.xsk_model.specs.Config.{Config, callers_of}
use Rattle.xsk_model.specs.Entry.{own}
use Rattle.xsk_model.specs.Legal.{IsLegal}
use Rattle.xsk_plain.specs.Engine.{Engine}
use Rattle.xsk_plain.specs.Histories.{EachNotesOwn}
use Rattle.xsk_plain.proofs.Running.{entry, legal_in, noted_at, each_next}
use Rattle.xsk_plain.proofs.checked.Checked.serve.Goals as goal

pub serve_noted-requires-clause-run : goal.serve_noted-requires-clause-run
serve_noted-requires-clause-run c =
    let inside = c.self.inside in
    let frames = c.self.invariant.frames in
    let h = c.self.invariant.history in
    let who = c.args.who in
    let callers = ap (λ (e : Engine). callers_of e.config) c.self.view_is in
    let within : who < length inside.standings.items = omega (arith, c.requires.legal.caller, callers, c.self.invariant.noted.count) in
    let legal : IsLegal inside.plain.config (own who inside.plain.log) who (joined_call c.args.ask c.args.items.now) =
    subst (λ (e : Engine). IsLegal e.config (own who e.log) who (joined_call c.args.ask c.args.items.now)) (sym c.self.view_is) c.requires.legal in (
      frames,
      h,
      c.self.invariant.run,
      noted_at inside.plain.config h inside.standings.items who c.index_mut-standing.result.now c.self.invariant.noted within c.index_mut-standing.ensures.value,
      (legal_in inside.plain frames h who (joined_call c.args.ask c.args.items.now) c.self.invariant.run).0 legal,
    )

pub invariant_of-self : goal.invariant_of-self
invariant_of-self c =
    let inside = c.self.inside in
    let frames = c.self.invariant.frames in
    let h = c.self.invariant.history in
    let who = c.args.who in
    let new = c.serve_noted.new.plain in
    let kept = c.serve_noted.new.standing in
    let call = joined_call c.args.ask c.args.items.now in
    let reply = joined_reply c.serve_noted.result c.serve_noted.new.items in
    let callers = ap (λ (e : Engine). callers_of e.config) c.self.view_is in
    let within : who < length inside.standings.items = omega (arith, c.requires.legal.caller, callers, c.self.invariant.noted.count) in
    let legal : IsLegal inside.plain.config (own who inside.plain.log) who (joined_call c.args.ask c.args.items.now) =
    subst (λ (e : Engine). IsLegal e.config (own who e.log) who (joined_call c.args.ask c.args.items.now)) (sym c.self.view_is) c.requires.legal in
    let notes = noted_at inside.plain.config h inside.standings.items who c.index_mut-standing.result.now c.self.invariant.noted within c.index_mut-standing.ensures.value in
    let made = c.serve_noted.ensures.run frames h c.self.invariant.run notes
    ((legal_in inside.plain frames h who (joined_call c.args.ask c.args.items.now) c.self.invariant.run).0 legal) in
    let noted : EachNotesOwn new.config h inside.standings.items =
    subst (λ (k : Config). EachNotesOwn k h inside.standings.items) (sym c.serve_noted.ensures.enters.config) c.self.invariant.noted in
    record {
      frames = frames;
      history = h ++ entry who call reply ∷ [];
      run = made.0;
      noted = each_next new.config h who call reply inside.standings.items kept noted within made.1;
    }
