use Rattle.std.proofs.Common.{rules, ◌≡◌, ◌<◌, length, refl, sym, arith, ◌∙◌}
use Rattle.std.proofs.Common.{get_or}
use Rattle.std.proofs.lemmas.List.{get_or_default}
use Rattle.xsk_umem.specs.Batch.{blank}
use Rattle.xsk_umem.proofs.Places.{length-items_from, take_first}
use Rattle.xsk_umem.proofs.batch.Batch.pop_front.Goals as goal

pub returns-then-self-eq0-clause-empty : goal.returns-then-self-eq0-clause-empty
returns-then-self-eq0-clause-empty c = (λ h. sym (rw c.if-self-eq0.true at c.self.view_is), λ h. refl)

pub returns-then-self-eq0-clause-none : goal.returns-then-self-eq0-clause-none
returns-then-self-eq0-clause-none c = sym (rw c.if-self-eq0.true at c.self.view_is)

pub returns-clause-empty : goal.returns-clause-empty
returns-clause-empty c =
    let count : length c.args.self.now ≡ c.self.inside.len = rw c.self.view_is at (length-items_from c.self.inside.places c.self.inside.head c.self.inside.len) in
    search rules

pub returns-clause-some : goal.returns-clause-some
returns-clause-some c =
    let some : 0 < c.self.inside.len = search rules in
    let first = rw c.self.view_is at (take_first c.self.inside.places c.self.inside.head c.self.inside.len c.replace-item.new.dest c.self.invariant.0 some c.self.invariant.1) in
    let full : length c.self.inside.places ≡ 32 = search rules in
    let there : c.replace-item.result ≡ get_or c.self.inside.places c.self.inside.head blank =
    c.replace-item.ensures.value ∙ get_or_default c.self.inside.places c.self.inside.head c.index-self-self.result blank (omega (arith, full, c.self.invariant.0)) in
    rw (first, there) refl
