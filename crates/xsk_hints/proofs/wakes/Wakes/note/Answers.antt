use Rattle.std.proofs.Common.{◌≡◌, ◌∷◌, List, length, ap, subst, sym, ◌∙◌, rules}
use Rattle.xsk_hints.specs.declared.wakes.Wake.{Wake}
use Rattle.xsk_hints.specs.Wakes.{Wakens, ring_of, woken}
use Rattle.xsk_hints.proofs.Waking.{length-woken, wakens_more}
use Rattle.xsk_hints.proofs.wakes.Wakes.note.Goals as goal

pub returns-clause-sized : goal.returns-clause-sized
returns-clause-sized c =
    let lent : c.self.inside.wakes.items ≡ c.args.self.now = search rules in
    ap length c.note_for.ensures ∙ length-woken c.ring.result c.args.line c.args.wakeup c.self.inside.wakes.items ∙ ap length lent

pub returns-clause-wakens : goal.returns-clause-wakens
returns-clause-wakens c asides wakens =
    let line = c.args.line in
    let wakeup = c.args.wakeup in
    let lent : c.self.inside.wakes.items ≡ c.args.self.now = search rules in
    let is = c.note_for.ensures ∙ ap (λ r. woken r line wakeup c.self.inside.wakes.items) c.ring.ensures ∙ ap (woken (ring_of wakeup) line wakeup) lent in
    subst (λ (ws : List Wake). Wakens ws (record { line = line; wakeup = wakeup } ∷ asides)) (sym is) (wakens_more line wakeup c.args.self.now asides wakens)
