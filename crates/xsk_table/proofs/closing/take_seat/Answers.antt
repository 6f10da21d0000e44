use Rattle.std.proofs.Common.{◌≡◌, [], ◌∷◌, get_or, set, sym, ap, subst, ◌∙◌, Option, Some, None, List}
use Rattle.xsk_table.specs.Held.{Holder}
use Rattle.xsk_table.specs.Opening.{AtRest}
use Rattle.xsk_table.proofs.FirstEnds.{rests_none}
use Rattle.xsk_table.proofs.Ending.{at_some, at_or}
use Rattle.xsk_table.proofs.closing.take_seat.Goals as goal

pub invariant_of-passes : goal.invariant_of-passes
invariant_of-passes c = subst (λ (p : Option Holder). AtRest (set c.passes.inside.passes.items c.args.who p)) (sym c.take.ensures.after) (rests_none c.passes.inside.passes.items c.args.who c.passes.invariant)

pub returns-clause-rests : goal.returns-clause-rests
returns-clause-rests c h e =
    let who = c.args.who in
    let items = c.passes.inside.passes.items in
    let pass : Holder = c.in-Some.pass in
    let there = at_some items who h (ap (λ (l : List (Option Holder)). get_or l who None) c.passes.view_is ∙ e) in
    let found : Some pass ≡ Some h = sym c.in-Some.is ∙ c.take.ensures.value ∙ c.index_mut.ensures.value ∙ at_or items who (Some h) _ there in
    let same : pass ≡ h = cc in
    let rest = c.passes.invariant who h there in
    (ap (λ (p : Holder). p.view.callers) (sym same) ∙ c.into_seat.ensures.alone.0 ∙ ap (λ n. n ∷ []) (ap (λ (p : Holder). p.who) same ∙ rest.0), ap (λ (p : Holder). p.view.others) (sym same) ∙ c.into_seat.ensures.alone.1, rest.1)
