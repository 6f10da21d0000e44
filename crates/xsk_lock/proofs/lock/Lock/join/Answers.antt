use Rattle.std.proofs.Common.{rules, ◌++◌, refl, ap, ◌∙◌}
use Rattle.xsk_lock.specs.declared.view.Known.{Known}
use Rattle.xsk_lock.specs.Rule.{mine, holds, both_hands}
use Rattle.xsk_lock.specs.Held.{Holder}
use Rattle.xsk_lock.proofs.Steps.{joins_keep}
use Rattle.xsk_lock.proofs.Calls.{empty_off, within, both_held, still_belongs, mine_more, found_kept}
use Rattle.xsk_lock.proofs.lock.Lock.join.Goals as goal

pub join_seat-requires : goal.join_seat-requires
join_seat-requires g c =
    let v = c.hand.invariant.0 in
    let is = c.hand.invariant.1 in
    let t = within _ _ c.args.hand.now v _ refl c.hand.view_is is c.requires.off.0 in
    let v' = c.other.invariant.0 in
    let is' = c.other.invariant.1 in
    let t' = within _ _ c.args.other v' _ refl c.other.view_is is' c.requires.off.1 in
    (search rules, search rules, empty_off _ v' c.other.invariant is' t'.1, search rules, joins_keep _ _ _ _ _ _ _ v v' is is' t'.1)

pub invariant_of-hand : goal.invariant_of-hand
invariant_of-hand g c =
    let v = c.hand.invariant.0 in
    let is = c.hand.invariant.1 in
    let t = within _ _ c.args.hand.now v _ refl c.hand.view_is is c.requires.off.0 in
    both_held c.hand.inside.seat.me c.join_seat.new.seat.me c.other.inside.seat.me v c.hand.invariant is t.1 c.join_seat.ensures.2

pub returns-clause-belongs : goal.returns-clause-belongs
returns-clause-belongs g c =
    let v = c.hand.invariant.0 in
    let is = c.hand.invariant.1 in
    let t = within _ _ c.args.hand.now v _ refl c.hand.view_is is c.requires.off.0 in
    still_belongs c.args.self.now c.args.hand.now _ v (record v { mine = v.mine ++ mine c.other.inside.seat.me.0 }) c.requires.belongs.0 t.0
    (c.join_seat.ensures.0 ∙ ap (λ (h : Holder g.row.T-Name.Denot). h.table) c.hand.view_is) (ap (λ m. m.0) c.join_seat.ensures.2 ∙ ap (λ (k : Known g.row.T-Name.Denot). both_hands k c.other.inside.seat.me.0) is) refl refl

pub returns-clause-off : goal.returns-clause-off
returns-clause-off g c =
    let v = c.hand.invariant.0 in
    let is = c.hand.invariant.1 in
    let t = within _ _ c.args.hand.now v _ refl c.hand.view_is is c.requires.off.0 in
    ap (λ m. holds m.0) c.join_seat.ensures.2 ∙ ap (λ (k : Known g.row.T-Name.Denot). holds (both_hands k c.other.inside.seat.me.0)) is ∙ t.1

pub returns-clause-mine : goal.returns-clause-mine
returns-clause-mine g c =
    let v = c.hand.invariant.0 in
    let t = within _ _ c.args.hand.now v _ refl c.hand.view_is c.hand.invariant.1 c.requires.off.0 in
    mine_more _ _ _ v t.0 (ap (λ m. m.0) c.join_seat.ensures.2 ∙ (λ i. both_hands (c.hand.view_is i).view (c.other.view_is i).view))

pub returns-clause-found : goal.returns-clause-found
returns-clause-found g c =
    let v = c.hand.invariant.0 in
    let t = within _ _ c.args.hand.now v _ refl c.hand.view_is c.hand.invariant.1 c.requires.off.0 in
    found_kept _ _ c.args.other.view v t.0 (ap (λ m. m.0) c.join_seat.ensures.2 ∙ (λ i. both_hands (c.hand.view_is i).view (c.other.view_is i).view))
