use Rattle.xsk_plain.proofs.unlogged.Unlogged.swap.Goals as goal

pub invariant_of-self : goal.invariant_of-self
invariant_of-self c = record {
  home = c.self.invariant.home;
  limit = rw c.swap.ensures.keeps.config c.self.invariant.limit;
}
