use Rattle.std.proofs.Common.{rules, ℕ, ◌==◌, refl, ap, ◌∙◌, arith}
use Rattle.xsk_lock.specs.Plays.{tried}
use Rattle.xsk_lock.specs.Rule.{holds}
use Rattle.xsk_lock.specs.Held.{Holder}
use Rattle.xsk_lock.proofs.Steps.{locks_keep}
use Rattle.xsk_lock.proofs.Calls.{can_take, took, missed, took_some, held_by, found_one, still_belongs, mine_same, found_more, named_of, within}
use Rattle.xsk_lock.proofs.lock.Lock.try_lock.Goals as goal

pub swap-requires : goal.swap-requires
swap-requires g c = let v = c.hand.invariant.0 in let is = c.hand.invariant.1 in let t = within _ _ c.args.hand.now v _ refl c.hand.view_is is c.requires.off in
    (search rules, search rules, locks_keep _ _ _ _ _ _ v is t.1)

pub exchange-requires : goal.exchange-requires
exchange-requires g c = let v = c.hand.invariant.0 in let is = c.hand.invariant.1 in let t = within _ _ c.args.hand.now v _ refl c.hand.view_is is c.requires.off in
    (search rules, can_take _ c.hand.inside.seat.me _ v _ is c.swap.ensures.2 c.if-swap-eq0.true)

pub invariant_of-hand : goal.invariant_of-hand
invariant_of-hand g c = let v = c.hand.invariant.0 in let is = c.hand.invariant.1 in let t = within _ _ c.args.hand.now v _ refl c.hand.view_is is c.requires.off in
    took g.T.Named.name c.hand.inside.seat.me c.swap.new.seat.me c.exchange.new.seat.me v c.swap.result c.hand.invariant is t.1 c.swap.ensures.2 c.if-swap-eq0.true c.exchange.ensures.3

pub invariant_of-hand-else-swap-eq0 : goal.invariant_of-hand-else-swap-eq0
invariant_of-hand-else-swap-eq0 g c = let v = c.hand.invariant.0 in let is = c.hand.invariant.1 in let t = within _ _ c.args.hand.now v _ refl c.hand.view_is is c.requires.off in
    missed g.T.Named.name c.hand.inside.seat.me c.swap.new.seat.me v c.swap.result c.hand.invariant is t.1 c.swap.ensures.2 c.if-swap-eq0.false

pub returns-then-swap-eq0-clause-belongs : goal.returns-then-swap-eq0-clause-belongs
returns-then-swap-eq0-clause-belongs g c = let v = c.hand.invariant.0 in let is = c.hand.invariant.1 in let t = within _ _ c.args.hand.now v _ refl c.hand.view_is is c.requires.off in
    still_belongs c.args.self.now c.args.hand.now _ v (tried v c.swap.result) c.requires.belongs t.0
    (c.exchange.ensures.0 ∙ c.swap.ensures.0 ∙ ap (λ (h : Holder g.row.T-Name.Denot). h.table) c.hand.view_is) (ap (λ m. m.0) c.exchange.ensures.3 ∙ (c.swap.ensures.2 v is).1) refl refl

pub returns-then-swap-eq0-clause-held : goal.returns-then-swap-eq0-clause-held
returns-then-swap-eq0-clause-held g c = let v = c.hand.invariant.0 in let is = c.hand.invariant.1 in let t = within _ _ c.args.hand.now v _ refl c.hand.view_is is c.requires.off in
    held_by g.T.Named.name c.hand.inside.seat.me c.swap.new.seat.me c.exchange.new.seat.me v c.swap.result c.exchange.result c.exchange.new.seat.table_id c.args.self.now.name is c.swap.ensures.2 c.if-swap-eq0.true c.exchange.ensures.2 c.exchange.ensures.3
    (named_of c.args.self.now c.args.hand.now v c.requires.belongs t.0)

pub returns-then-swap-eq0-clause-elsewhere : goal.returns-then-swap-eq0-clause-elsewhere
returns-then-swap-eq0-clause-elsewhere g c u seen none = let v = c.hand.invariant.0 in let is = c.hand.invariant.1 in let t = within _ _ c.args.hand.now v _ refl c.hand.view_is is c.requires.off in
    absurd (took_some g.T.Named.name c.hand.inside.seat.me c.swap.new.seat.me v c.swap.result c.exchange.result is c.swap.ensures.2 c.if-swap-eq0.true c.exchange.ensures.2 none)

pub returns-else-swap-eq0-clause-belongs : goal.returns-else-swap-eq0-clause-belongs
returns-else-swap-eq0-clause-belongs g c = let v = c.hand.invariant.0 in let is = c.hand.invariant.1 in let t = within _ _ c.args.hand.now v _ refl c.hand.view_is is c.requires.off in
    still_belongs c.args.self.now c.args.hand.now _ v (tried v c.swap.result) c.requires.belongs t.0
    (c.swap.ensures.0 ∙ ap (λ (h : Holder g.row.T-Name.Denot). h.table) c.hand.view_is) (c.swap.ensures.2 v is).1 refl refl

pub returns-else-swap-eq0-clause-held : goal.returns-else-swap-eq0-clause-held
returns-else-swap-eq0-clause-held g c = let v = c.hand.invariant.0 in let is = c.hand.invariant.1 in let t = within _ _ c.args.hand.now v _ refl c.hand.view_is is c.requires.off in
    ap holds (c.swap.ensures.2 v is).1 ∙ ap (λ (k : ℕ). k == 0) (found_one g.T.Named.name c.hand.inside.seat.me c.swap.new.seat.me v c.swap.result is c.swap.ensures.2 c.if-swap-eq0.false)

pub returns-else-swap-eq0-clause-elsewhere : goal.returns-else-swap-eq0-clause-elsewhere
returns-else-swap-eq0-clause-elsewhere g c u seen none =
    let is = ap (λ (h : Holder g.row.T-Name.Denot). h.view) c.hand.view_is ∙ seen in
    let q = c.swap.ensures.2 u is in
    (q.3 (found_one g.T.Named.name c.hand.inside.seat.me c.swap.new.seat.me u c.swap.result is c.swap.ensures.2 c.if-swap-eq0.false)).1

pub returns-then-swap-eq0-clause-mine : goal.returns-then-swap-eq0-clause-mine
returns-then-swap-eq0-clause-mine g c = let v = c.hand.invariant.0 in let is = c.hand.invariant.1 in let t = within _ _ c.args.hand.now v _ refl c.hand.view_is is c.requires.off in
    mine_same _ _ v (tried v c.swap.result) t.0 (ap (λ m. m.0) c.exchange.ensures.3 ∙ (c.swap.ensures.2 v is).1) refl

pub returns-then-swap-eq0-clause-found : goal.returns-then-swap-eq0-clause-found
returns-then-swap-eq0-clause-found g c = let v = c.hand.invariant.0 in let is = c.hand.invariant.1 in let t = within _ _ c.args.hand.now v _ refl c.hand.view_is is c.requires.off in
    (c.swap.result, found_more _ _ v c.swap.result t.0 (ap (λ m. m.0) c.exchange.ensures.3 ∙ (c.swap.ensures.2 v is).1), (c.swap.ensures.2 v is).0, ((λ none. absurd (took_some g.T.Named.name c.hand.inside.seat.me c.swap.new.seat.me v c.swap.result c.exchange.result is c.swap.ensures.2 c.if-swap-eq0.true c.exchange.ensures.2 none)), (λ one. absurd (omega (arith, one, c.if-swap-eq0.true)))))

pub returns-else-swap-eq0-clause-mine : goal.returns-else-swap-eq0-clause-mine
returns-else-swap-eq0-clause-mine g c = let v = c.hand.invariant.0 in let is = c.hand.invariant.1 in let t = within _ _ c.args.hand.now v _ refl c.hand.view_is is c.requires.off in
    mine_same _ _ v (tried v c.swap.result) t.0 (c.swap.ensures.2 v is).1 refl

pub returns-else-swap-eq0-clause-found : goal.returns-else-swap-eq0-clause-found
returns-else-swap-eq0-clause-found g c = let v = c.hand.invariant.0 in let is = c.hand.invariant.1 in let t = within _ _ c.args.hand.now v _ refl c.hand.view_is is c.requires.off in
    (c.swap.result, found_more _ _ v c.swap.result t.0 (c.swap.ensures.2 v is).1, (c.swap.ensures.2 v is).0, ((λ _. found_one g.T.Named.name c.hand.inside.seat.me c.swap.new.seat.me v c.swap.result is c.swap.ensures.2 c.if-swap-eq0.false), (λ _. refl)))
