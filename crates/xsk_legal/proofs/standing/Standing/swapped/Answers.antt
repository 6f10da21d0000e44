use Rattle.std.proofs.Common.{sym, subst}
use Rattle.xsk_model.specs.Entry.{with_told}
use Rattle.xsk_model.specs.Legal.{IsLegal}
use Rattle.xsk_model.specs.declared.call.Call.TheVariants.{Swap}
use Rattle.xsk_model.specs.declared.call.Reply.TheVariants.{Old}
use Rattle.xsk_legal.specs.declared.marked.Marked.{Marked}
use Rattle.xsk_legal.specs.Noted.{Noted}
use Rattle.xsk_legal.specs.Standing.{StandsFor}
use Rattle.xsk_legal.proofs.Quiet.{swapped_stands}
use Rattle.xsk_legal.proofs.standing.Standing.swapped.Goals as goal

pub returns-clause-stands : goal.returns-clause-stands
returns-clause-stands c = λ mine old h legal fits.
    let inside = c.self.inside in
    let kept : Noted = record { who = inside.who; places = inside.places.items; sources = inside.sources.items; queues = inside.queues.items; marked = inside.marked } in
    let here : StandsFor c.args.config.now kept mine = subst (λ (k : Noted). StandsFor c.args.config.now k mine) (sym c.self.view_is) h in
    let may : IsLegal c.args.config.now mine kept.who (Swap c.args.mark c.args.value) = subst (λ (k : Noted). IsLegal c.args.config.now mine k.who (Swap c.args.mark c.args.value)) (sym c.self.view_is) legal in
    subst (λ (m : Marked). StandsFor c.args.config.now (record kept { marked = m }) (with_told mine (Swap c.args.mark c.args.value) (Old old))) (sym c.swapped.ensures)
    (swapped_stands c.args.config.now kept mine c.args.mark c.args.value old here may fits)
