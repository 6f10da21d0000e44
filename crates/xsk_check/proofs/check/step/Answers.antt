use Rattle.xsk_check.proofs.check.step.Goals as goal

pub returns-clause-follows : goal.returns-clause-follows
returns-clause-follows c = λ lines asides follows.
    let stands = c.in_ok-step.ensures.stands lines follows.stands in
    record {
      stands = stands;
      notes = c.note-2.ensures.notes lines follows.notes;
      feeds = c.note.ensures.feeds lines follows.stands stands.possible follows.feeds;
      wakens = follows.wakens;
    }
