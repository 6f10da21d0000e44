use Rattle.std.proofs.Common.{◌≡◌, ◌∷◌, length, ap, subst, ◌∙◌, rules}
use Rattle.xsk_side.specs.Local.{given_of}
use Rattle.xsk_side.specs.Possible.{Possible}
use Rattle.xsk_side.specs.declared.call.Call.{Call}
use Rattle.xsk_side.specs.declared.call.Call.TheVariants.{Submit, Peek}
use Rattle.xsk_judge.specs.Stands.{calls_of}
use Rattle.xsk_hints.specs.Fills.{raised_on, drained}
use Rattle.xsk_hints.proofs.Feeding.{feeds_as, length-raised_on, length-drained, feeds_submit_on, feeds_peek}
use Rattle.xsk_hints.proofs.fills.Fills.note.Goals as goal

pub returns-in-Submit-clause-sized : goal.returns-in-Submit-clause-sized
returns-in-Submit-clause-sized c =
    let s = c.args.setting.now in
    let lent : c.self.inside.fills.items ≡ c.args.self.now = search rules in
    ap length c.submitted.ensures ∙ length-raised_on s c.in-Submit.ring c.as_slice.result.now c.self.inside.fills.items ∙ ap length lent ∙ c.requires.sized

pub returns-in-Peek-clause-sized : goal.returns-in-Peek-clause-sized
returns-in-Peek-clause-sized c =
    let s = c.args.setting.now in
    let lines = c.requires.ready.lines in
    let lent : c.self.inside.fills.items ≡ c.args.self.now = search rules in
    ap length (c.drain.ensures lines c.requires.ready.stands)
    ∙ length-drained s c.args.line (given_of s (calls_of lines)) c.as_slice-in-Peek.result.now c.self.inside.fills.items
    ∙ ap length lent ∙ c.requires.sized

pub returns-in-Submit-clause-feeds : goal.returns-in-Submit-clause-feeds
returns-in-Submit-clause-feeds c lines stands possible now =
    let s = c.args.setting.now in
    let q = c.in-Submit.ring in
    let es = c.as_slice.result.now in
    let lent : c.self.inside.fills.items ≡ c.args.self.now = search rules in
    let call : c.args.call.now ≡ Submit q es = search rules in
    feeds_as s c.args.line (Submit q es) c.args.call.now lines _ (raised_on s q es c.args.self.now) call (c.submitted.ensures ∙ ap (raised_on s q es) lent)
    (feeds_submit_on s c.args.line q es lines c.args.self.now stands.possible (subst (λ (k : Call). Possible s (k ∷ calls_of lines)) call possible) c.requires.sized now)

pub returns-in-Peek-clause-feeds : goal.returns-in-Peek-clause-feeds
returns-in-Peek-clause-feeds c lines stands possible now =
    let s = c.args.setting.now in
    let q = c.in-Peek.field-0 in
    let n = c.in-Peek.field-1 in
    let es = c.as_slice-in-Peek.result.now in
    let from = given_of s (calls_of lines) in
    let lent : c.self.inside.fills.items ≡ c.args.self.now = search rules in
    let call : c.args.call.now ≡ Peek q n es = search rules in
    feeds_as s c.args.line (Peek q n es) c.args.call.now lines _ (drained s c.args.line from es c.args.self.now) call
    (c.drain.ensures lines stands ∙ ap (drained s c.args.line from es) lent)
    (feeds_peek s c.args.line q n es lines c.args.self.now stands.possible (subst (λ (k : Call). Possible s (k ∷ calls_of lines)) call possible) c.requires.sized now)
