use Rattle.xsk_table.proofs.Lefts.{left_quiet}
use Rattle.std.proofs.Common.{◌≡◌, sym, ap, subst, refl, ◌∙◌}
use Rattle.xsk_model.specs.declared.call.Call.TheVariants.{Look}
use Rattle.xsk_model.specs.declared.call.Reply.TheVariants.{Old}
use Rattle.xsk_model.specs.Entry.{own}
use Rattle.xsk_model.specs.Legal.{IsLegal}
use Rattle.xsk_table.specs.View.{Basis}
use Rattle.xsk_table.specs.Plays.{Extends}
use Rattle.xsk_table.specs.Held.{Board, Holder}
use Rattle.xsk_table.proofs.Marking.{pass_marked, mark_word_at}
use Rattle.xsk_table.proofs.Knowledge.{pass_quiet}
use Rattle.xsk_table.proofs.pass.Pass.look_step.Goals as goal

pub invariant_of-self : goal.invariant_of-self
invariant_of-self c =
    let is = sym c.self.view_is in
    let v = c.self.inside.seat.me.0 in
    let setup : v.setup ≡ c.shared.inside.board.setup = ap (λ (h : Holder). h.view.setup) (sym is) ∙ c.requires.belongs.setup ∙ ap (λ (b : Board). b.setup) (sym c.shared.view_is) in
    let E : Basis → Type 0 = λ k. Extends k c.self.inside.who (Look c.args.mark) (Old c.look_at_mark.result) v c.look_at_mark.new.seat.me.0 in
    let ex = subst E (sym setup) c.look_at_mark.ensures.history in (
      pass_marked v _ _ _ _ _ _ (Look c.args.mark) (Old c.look_at_mark.result) c.self.invariant.0 (λ r. refl) (subst E (sym setup) c.look_at_mark.ensures.history) c.look_at_mark.ensures.slots (ap (λ (h : Holder). h.view.flight) (sym is) ∙ c.requires.rests) c.look_at_mark.ensures.flight,
      pass_quiet v c.look_at_mark.new.seat.me.0 c.self.inside.who c.self.inside.ends.items (Look c.args.mark) (Old c.look_at_mark.result) ex (subst (λ (h : Holder). IsLegal h.view.setup.config (own h.who h.view.seen) h.who (Look c.args.mark)) is c.requires.legal) c.self.invariant.1 refl refl,
      left_quiet v c.look_at_mark.new.seat.me.0 c.self.inside.who c.self.inside.ends.items (Look c.args.mark) (Old c.look_at_mark.result) ex c.self.invariant.2 refl refl,
    )

pub look_at_mark-requires-clause-word : goal.look_at_mark-requires-clause-word
look_at_mark-requires-clause-word c =
    let is = c.self.view_is in
    let v = c.self.inside.seat.me.0 in
    let k = c.shared.inside.board.setup in
    let setup : v.setup ≡ k = ap (λ (h : Holder). h.view.setup) is ∙ c.requires.belongs.setup ∙ ap (λ (b : Board). b.setup) (sym c.shared.view_is) in
    let legal = subst (λ (h : Holder). IsLegal h.view.setup.config (own h.who h.view.seen) h.who (Look c.args.mark)) (sym is) c.requires.legal in
    mark_word_at v.setup k c.args.mark c.word-word.result c.shared.inside.board.table.words setup c.self.invariant.0.history.opened.config legal.known c.shared.invariant.words (c.word-word.ensures k.config c.shared.invariant.marks_is)
