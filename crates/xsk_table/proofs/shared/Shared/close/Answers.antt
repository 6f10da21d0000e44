use Rattle.std.proofs.Common.{◌≡◌, List, sym, ap, subst, ◌∙◌, arith}
use Rattle.std.specs.Mem.Slots.{slots_items}
use Rattle.xsk_umem.specs.Frame.{Frame}
use Rattle.xsk_umem.specs.Frames.{Frames}
use Rattle.xsk_model.specs.Config.{callers_of}
use Rattle.xsk_model.specs.Entry.{Entry}
use Rattle.xsk_model.specs.History.{IsHistory, state_after}
use Rattle.xsk_table.specs.View.{View, Basis}
use Rattle.xsk_table.specs.Plays.{Seated}
use Rattle.xsk_table.specs.Held.{Board}
use Rattle.xsk_table.specs.Meeting.{Noted}
use Rattle.xsk_table.specs.Closing.{AreThere, EndsIn, AreFramesOut, Joined}
use Rattle.xsk_table.proofs.Ending.{every_caller, ends_in, frames_are_out}
use Rattle.xsk_table.proofs.shared.Shared.close.Goals as goal

pub join-seat-requires-clause-there : goal.join-seat-requires-clause-there
join-seat-requires-clause-there c = subst (λ (b : Board). AreThere b c.args.passes) (sym c.self.view_is) c.requires.there

pub finish-requires-clause-all : goal.finish-requires-clause-all
finish-requires-clause-all c w lt =
    let is = c.callers.ensures ∙ ap callers_of c.self.invariant.config_is in
    every_caller c.args.passes c.callers.result c.take_note-note.new.seat.me.0 (subst (λ (m : Seated). Joined c.args.passes c.callers.result m.0) (sym c.take_note-note.ensures.same.2) c.join-seat.ensures.joined) w (omega arith)

pub returns-clause-history : goal.returns-clause-history
returns-clause-history c =
    let b : Board = record { table = c.self.inside.board.table; setup = c.self.inside.board.setup } in
    let v : View = c.join-seat.result.me.0 in
    let is = c.callers.ensures ∙ ap callers_of c.self.invariant.config_is in
    let seen = ap (λ (n : Noted). n.seen) c.take_note-note.ensures.note in
    let legal = subst (λ (m : Seated). IsHistory b.setup.config b.setup.frames m.0.seen) c.take_note-note.ensures.same.2 c.finish.ensures.rests.legal in
    subst (λ (t : Board). EndsIn t c.args.passes c.take_note-note.result.seen) c.self.view_is
    (subst (EndsIn b c.args.passes) (sym seen) (ends_in b c.args.passes c.callers.result v is c.join-seat.ensures.joined legal))

pub returns-clause-frames : goal.returns-clause-frames
returns-clause-frames c =
    let k : Basis = c.self.inside.board.setup in
    let slots = slots_items c.finish.result.slots in
    let log : c.take_note-note.new.seat.me.0.seen ≡ c.take_note-note.result.seen = ap (λ (m : Seated). m.0.seen) c.take_note-note.ensures.same.2 ∙ sym (ap (λ (n : Noted). n.seen) c.take_note-note.ensures.note) in
    let P : Basis × List Entry × List Frame → Type 0 = λ t. AreFramesOut t.0.config (state_after t.0.config t.0.frames t.1) t.2 in
    subst P (λ i. (ap (λ (t : Board). t.setup) c.self.view_is i, log i, sym (ap (λ (q : Frames). q.items) c.bring_home.ensures) i)) (frames_are_out k c.take_note-note.new.seat.me.0.seen slots c.finish.ensures.rests)
