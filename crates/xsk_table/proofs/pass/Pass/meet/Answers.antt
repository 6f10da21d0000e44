use Rattle.xsk_table.proofs.Meeting.{met_left}
use Rattle.std.proofs.Common.{◌≡◌, sym, ap, ◌∙◌}
use Rattle.xsk_table.specs.Held.{Board, Holder}
use Rattle.xsk_table.proofs.Meeting.{pass_met, known_met}
use Rattle.xsk_table.proofs.pass.Pass.meet.Goals as goal

pub invariant_of-self : goal.invariant_of-self
invariant_of-self c =
    let v = c.self.inside.seat.me.0 in
    let setup : v.setup ≡ c.shared.inside.board.setup = ap (λ (h : Holder). h.view.setup) c.self.view_is ∙ c.requires.belongs.setup ∙ ap (λ (b : Board). b.setup) (sym c.shared.view_is) in (
      pass_met c.shared.inside.board.setup v c.take_in.new.seat.me.0 c.note.inside.seat.me.0 _ _ _ _ _ c.self.invariant.0 setup c.note.invariant.0 c.take_in.ensures.told,
      known_met c.shared.inside.board.setup v c.take_in.new.seat.me.0 c.note.inside.seat.me.0 _ _ _ _ _ c.self.invariant.0 setup c.note.invariant.0 c.take_in.ensures.told c.self.invariant.1,
      met_left c.shared.inside.board.setup v c.take_in.new.seat.me.0 c.note.inside.seat.me.0 _ _ _ _ _ c.self.invariant.0 setup c.note.invariant.0 c.take_in.ensures.told c.self.invariant.2,
    )
