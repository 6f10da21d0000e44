use Rattle.std.proofs.Common.{sym, subst}
use Rattle.xsk_model.specs.Entry.{with_told}
use Rattle.xsk_model.specs.Legal.{IsLegal}
use Rattle.xsk_model.specs.declared.call.Call.TheVariants.{Look}
use Rattle.xsk_model.specs.declared.call.Reply.TheVariants.{Old}
use Rattle.xsk_legal.specs.declared.marked.Marked.{Marked}
use Rattle.xsk_legal.specs.Noted.{Noted}
use Rattle.xsk_legal.specs.Standing.{StandsFor}
use Rattle.xsk_legal.proofs.Quiet.{looked_stands}
use Rattle.xsk_legal.proofs.standing.Standing.looked.Goals as goal

pub returns-clause-stands : goal.returns-clause-stands
returns-clause-stands c = λ mine h legal fits.
    let inside = c.self.inside in
    let kept : Noted = record { who = inside.who; places = inside.places.items; sources = inside.sources.items; queues = inside.queues.items; marked = inside.marked } in
    let here : StandsFor c.args.config.now kept mine = subst (λ (k : Noted). StandsFor c.args.config.now k mine) (sym c.self.view_is) h in
    let may : IsLegal c.args.config.now mine kept.who (Look c.args.mark) = subst (λ (k : Noted). IsLegal c.args.config.now mine k.who (Look c.args.mark)) (sym c.self.view_is) legal in
    subst (λ (m : Marked). StandsFor c.args.config.now (record kept { marked = m }) (with_told mine (Look c.args.mark) (Old c.args.old))) (sym c.looked.ensures)
    (looked_stands c.args.config.now kept mine c.args.mark c.args.old here may fits)
