use Rattle.std.proofs.Common.{◌++◌, ◌∷◌, [], sym, subst}
use Rattle.xsk_model.specs.Entry.{with_told}
use Rattle.xsk_model.specs.declared.call.Call.TheVariants.{Peek}
use Rattle.xsk_model.specs.declared.call.Reply.TheVariants.{Items}
use Rattle.xsk_legal.specs.Noted.{Noted}
use Rattle.xsk_legal.specs.Standing.{StandsFor, IsFetching}
use Rattle.xsk_legal.proofs.StandingFetched.{fetched_goes, fetched_ends, fetched_steps}
use Rattle.xsk_legal.proofs.standing.Standing.fetched.Goals as goal

pub returns-clause-goes_on : goal.returns-clause-goes_on
returns-clause-goes_on c = λ mine n done later h gift.
    subst (λ (kept : Noted). IsFetching c.args.config.now kept mine c.args.ring (done ++ c.args.item.now ∷ []))
    (sym (fetched_steps c.args.config.now c.args.ring c.args.item.now c.args.self.now c.hold.new.self c.note_source.new.self c.keep_desc.new.self c.hold.ensures c.note_source.ensures c.keep_desc.ensures))
    (fetched_goes c.args.config.now c.args.self.now mine c.args.ring n done c.args.item.now later h gift)

pub returns-clause-ends : goal.returns-clause-ends
returns-clause-ends c = λ mine n done h gift.
    subst (λ (kept : Noted). StandsFor c.args.config.now kept (with_told mine (Peek c.args.ring n) (Items (done ++ c.args.item.now ∷ []))))
    (sym (fetched_steps c.args.config.now c.args.ring c.args.item.now c.args.self.now c.hold.new.self c.note_source.new.self c.keep_desc.new.self c.hold.ensures c.note_source.ensures c.keep_desc.ensures))
    (fetched_ends c.args.config.now c.args.self.now mine c.args.ring n done c.args.item.now h gift)
