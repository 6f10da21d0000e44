use Rattle.std.proofs.Common.{◌++◌, ◌∷◌, [], sym, subst, ap, ◌∙◌}
use Rattle.xsk_model.specs.Entry.{with_told}
use Rattle.xsk_model.specs.declared.call.Call.TheVariants.{Submit}
use Rattle.xsk_model.specs.declared.call.Reply.TheVariants.{Submitted}
use Rattle.xsk_legal.specs.Noted.{Noted}
use Rattle.xsk_legal.specs.Standing.{StandsFor, IsPlacing}
use Rattle.xsk_legal.specs.Pieces.{item_source}
use Rattle.xsk_legal.specs.ItemNotes.{HasGiven}
use Rattle.xsk_legal.proofs.StandingPlaced.{placed_goes, placed_ends, given_same, placed_steps}
use Rattle.xsk_legal.proofs.standing.Standing.placed.Goals as goal

pub give_back-requires : goal.give_back-requires
give_back-requires c =
    given_same c.note_source.new.self c.args.self.now c.args.ring c.source-source.result
    (ap (λ (kept : Noted). kept.queues) c.note_source.ensures ∙ ap (λ (kept : Noted). kept.queues) c.fill.ensures)
    (subst (HasGiven c.args.self.now c.args.ring) (sym (c.source-source.ensures ∙ ap (λ (kept : Noted). item_source kept.sources c.args.item.now) c.fill.ensures)) c.requires.given)

pub returns-clause-goes_on : goal.returns-clause-goes_on
returns-clause-goes_on c = λ mine done later h legal.
    subst (λ (kept : Noted). IsPlacing c.args.config.now kept mine c.args.ring (done ++ c.args.item.now ∷ []))
    (sym (placed_steps c.args.config.now c.args.ring c.args.item.now c.args.self.now c.fill.new.self c.note_source.new.self c.give_back.new.self c.source-source.result c.fill.ensures c.source-source.ensures c.note_source.ensures c.give_back.ensures))
    (placed_goes c.args.config.now c.args.self.now mine c.args.ring done c.args.item.now later h legal)

pub returns-clause-ends : goal.returns-clause-ends
returns-clause-ends c = λ mine done h legal.
    subst (λ (kept : Noted). StandsFor c.args.config.now kept (with_told mine (Submit c.args.ring (done ++ c.args.item.now ∷ [])) Submitted))
    (sym (placed_steps c.args.config.now c.args.ring c.args.item.now c.args.self.now c.fill.new.self c.note_source.new.self c.give_back.new.self c.source-source.result c.fill.ensures c.source-source.ensures c.note_source.ensures c.give_back.ensures))
    (placed_ends c.args.config.now c.args.self.now mine c.args.ring done c.args.item.now h legal)
