use Rattle.std.proofs.Common.{rules, sym, refl, ap, ◌∙◌}
use Rattle.xsk_lock.specs.Plays.{let_go}
use Rattle.xsk_lock.specs.Rule.{holds}
use Rattle.xsk_lock.specs.Held.{Holder, Face}
use Rattle.xsk_lock.proofs.Steps.{unlocks_keep}
use Rattle.xsk_lock.proofs.Calls.{within, gave, laid, still_belongs, mine_same, found_same}
use Rattle.xsk_lock.proofs.lock.Lock.unlock.Goals as goal

pub store-requires : goal.store-requires
store-requires g c = let v = c.hand.invariant.0 in let is = c.hand.invariant.1 in let t = within _ _ c.args.hand.now v _ refl c.hand.view_is is c.requires.on in (
  search rules,
  search rules,
  unlocks_keep _ _ _ _ _ c.exchange-left.new.seat.me v c.args.value (ap (λ m. m.0) c.exchange-left.ensures.3 ∙ is) t.1
      (laid g.T.Named.name c.hand.inside.seat.me c.exchange-left.new.seat.me v c.args.value c.hand.invariant is t.1 c.exchange-left.ensures.3)
      (c.requires.name ∙ ap (λ (l : Face g.row.T-Name.Denot). l.name) (sym c.self.view_is)),
)

pub invariant_of-hand : goal.invariant_of-hand
invariant_of-hand g c = let v = c.hand.invariant.0 in let is = c.hand.invariant.1 in let t = within _ _ c.args.hand.now v _ refl c.hand.view_is is c.requires.on in
    gave g.T.Named.name c.hand.inside.seat.me c.exchange-left.new.seat.me c.store.new.seat.me v c.args.value c.hand.invariant is t.1 c.exchange-left.ensures.3 c.store.ensures.2

pub returns-clause-belongs : goal.returns-clause-belongs
returns-clause-belongs g c = let v = c.hand.invariant.0 in let is = c.hand.invariant.1 in let t = within _ _ c.args.hand.now v _ refl c.hand.view_is is c.requires.on in
    still_belongs c.args.self.now c.args.hand.now _ v (let_go v) c.requires.belongs t.0
    (c.store.ensures.0 ∙ c.exchange-left.ensures.0 ∙ ap (λ (h : Holder g.row.T-Name.Denot). h.table) c.hand.view_is) (c.store.ensures.2 v (ap (λ m. m.0) c.exchange-left.ensures.3 ∙ is)).0 refl refl

pub returns-clause-off : goal.returns-clause-off
returns-clause-off g c = let v = c.hand.invariant.0 in let is = c.hand.invariant.1 in let t = within _ _ c.args.hand.now v _ refl c.hand.view_is is c.requires.on in
    ap holds (c.store.ensures.2 v (ap (λ m. m.0) c.exchange-left.ensures.3 ∙ is)).0

pub returns-clause-mine : goal.returns-clause-mine
returns-clause-mine g c = let v = c.hand.invariant.0 in let is = c.hand.invariant.1 in let t = within _ _ c.args.hand.now v _ refl c.hand.view_is is c.requires.on in
    mine_same _ _ v (let_go v) t.0 (c.store.ensures.2 v (ap (λ m. m.0) c.exchange-left.ensures.3 ∙ is)).0 refl

pub returns-clause-found : goal.returns-clause-found
returns-clause-found g c = let v = c.hand.invariant.0 in let is = c.hand.invariant.1 in let t = within _ _ c.args.hand.now v _ refl c.hand.view_is is c.requires.on in
    found_same _ _ v (let_go v) t.0 (c.store.ensures.2 v (ap (λ m. m.0) c.exchange-left.ensures.3 ∙ is)).0 refl
