use Rattle.std.proofs.Common.{◌∙◌, sym, refl}
use Rattle.xsk_recording.proofs.Lines.{header-none, header-passed, header-handed}
use Rattle.xsk_recording.proofs.reading.Reading.read_header.Goals as goal

pub returns-then-not-branch-clause-told : goal.returns-then-not-branch-clause-told
returns-then-not-branch-clause-told c = λ r shows.
    header-none c.args.self.now r c.args.text.now c.read.new.self (shows, c.requires.short, c.requires.few, c.requires.header, c.requires.whole)
    (rw (← c.self.view_is) (rw c.if-not-branch.true at c.in_ok-read.ensures))

pub returns-then-is_told-clause-told : goal.returns-then-is_told-clause-told
returns-then-is_told-clause-told c = λ r shows.
    header-handed c.args.self.now c.hand_out.new.self r c.args.text.now c.read.new.self c.hand_out.result (shows, c.requires.short, c.requires.few, c.requires.header, c.requires.whole)
    (rw (← c.self.view_is) (rw c.if-not-branch.false at c.in_ok-read.ensures)) (sym c.is_told.ensures ∙ c.if-is_told.true) c.hand_out.ensures.told c.hand_out.ensures.next
    (rw (← c.self.view_is) c.hand_out.ensures.time) (rw (← c.self.view_is) c.hand_out.ensures.lines)

pub returns-clause-told : goal.returns-clause-told
returns-clause-told c = λ r shows.
    header-passed c.args.self.now _ r c.args.text.now c.read.new.self (shows, c.requires.short, c.requires.few, c.requires.header, c.requires.whole)
    (rw (← c.self.view_is) (rw c.if-not-branch.false at c.in_ok-read.ensures)) (sym c.is_told.ensures ∙ c.if-is_told.false) refl
    (rw (← c.self.view_is) refl) (rw (← c.self.view_is) refl)
