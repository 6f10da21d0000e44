use Rattle.std.proofs.Common.{◌+◌, ◌∙◌, sym, subst, refl, arith}
use Rattle.xsk_recording.specs.Feeding.{Reader}
use Rattle.xsk_recording.proofs.Lines.{CallRead, call-none, call-early, call-told, judged-told, aside-told}
use Rattle.xsk_recording.proofs.reading.Reading.read_call.Goals as goal
use Rattle.xsk_recording.proofs.reading.Reading.read_call.Goals.{in-Judged, in-Aside}

pub returns-in_default-clause-told : goal.returns-in_default-clause-told
returns-in_default-clause-told c = λ r shows.
    call-none c.args.self.now r c.args.text.now (shows, c.requires.short, c.requires.few, c.requires.calls, c.requires.whole) (sym c.in_ok-time.ensures.told ∙ c.in_default.is)

pub returns-then-time-self-clause-told : goal.returns-then-time-self-clause-told
returns-then-time-self-clause-told c = λ r shows.
    call-early c.args.self.now r c.args.text.now c.in-Some.field-0 (shows, c.requires.short, c.requires.few, c.requires.calls, c.requires.whole)
    (sym c.in_ok-time.ensures.told ∙ c.in-Some.is) (rw (← c.self.view_is) c.if-time-self.true)

pub returns-clause-told : goal.returns-clause-told
returns-clause-told c = λ r shows.
    let new : Reader = record { header = c.self.inside.head; time = c.in-Some.field-0.time; lines = c.self.inside.lines + 1; begun = c.self.inside.begun.items } in
    let told =
    call-told c.args.self.now new r c.args.text.now c.in-Some.field-0 (shows, c.requires.short, c.requires.few, c.requires.calls, c.requires.whole)
    (sym c.in_ok-time.ensures.told ∙ c.in-Some.is) (rw (← c.self.view_is) (omega (arith, c.if-time-self.false))) (rw (← c.self.view_is) refl) refl (rw (← c.self.view_is) refl) in
    elim c.match-told-3.branch [
      | in-Judged w ↦ rw w.result-is (judged-told new r c.args.text.now _ (subst (CallRead new r c.args.text.now) w.in-Judged.is told))
      | in-Aside w ↦ rw w.result-is (aside-told new r c.args.text.now _ (subst (CallRead new r c.args.text.now) w.in-Aside.is told))
    ]
