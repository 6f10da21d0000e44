use Rattle.std.proofs.Common.{◌+◌, ◌∙◌, ap, subst, sym}
use Rattle.xsk_recording.proofs.Counting.{read-counted}
use Rattle.xsk_check.specs.Checking.{Checked, Hears, StandsFor}
use Rattle.xsk_check.proofs.Checking.{some-told, steps}
use Rattle.xsk_check.proofs.check.Check.step.Goals as goal

pub hear-requires : goal.hear-requires
hear-requires c =
    let text = c.requires.ready.0 in
    let here = subst (λ (k : Checked). StandsFor k text) (sym c.self.view_is) c.requires.ready.1 in
    let told =
    some-told c.self.inside.reading c.read.new.self text here.read c.args.piece.now c.in_ok-event.event c.in_ok-event.rest.now (c.in_ok-event.ensures.told text here.read here.reads) in (
      here.read,
      told.0,
      record { court = here.heard.court; calls = here.heard.calls },
      read-counted here.reads.whole here.read here.reads.read,
      ap (λ n. n + 1) (c.lines-line.ensures.value ∙ here.reads.shows.lines),
      told.1,
    )

pub returns-clause-told : goal.returns-clause-told
returns-clause-told c = λ text stands.
    let old : Checked = record { reading = c.self.inside.reading; court = c.self.inside.court; calls = c.self.inside.calls } in
    let here : StandsFor old text = subst (λ (k : Checked). StandsFor k text) (sym c.self.view_is) stands in
    steps old c.keep.new.self c.read.new.self text c.args.piece.now c.in_ok-event.rest.now c.in_ok-event.event c.in_ok-found.found here
    (ap (λ (k : Checked). k.reading) c.in_ok-keep.ensures ∙ c.hear.ensures.reading) (c.in_ok-event.ensures.told text here.read here.reads)
    (λ xs told.
    subst (λ (k : Checked). Hears k here.read xs c.in_ok-event.event c.in_ok-found.found) (sym c.in_ok-keep.ensures)
    (c.in_ok-found.ensures.heard here.read xs (record { court = here.heard.court; calls = here.heard.calls }) (read-counted here.reads.whole here.read here.reads.read)
    (ap (λ n. n + 1) (c.lines-line.ensures.value ∙ here.reads.shows.lines)) told))
