use Rattle.xsk_plain.proofs.plain.Plain.swap.Goals as goal

pub invariant_of-self : goal.invariant_of-self
invariant_of-self c = record {
  noted = c.enter.ensures.noted;
  kept = rw (c.swap-old.ensures.keeps.config, c.swap-old.ensures.keeps.rings, c.enter.ensures.notes) c.self.invariant.kept;
  home = c.self.invariant.home;
  limit = rw c.swap-old.ensures.keeps.config c.self.invariant.limit;
}
