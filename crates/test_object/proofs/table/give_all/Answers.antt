use Rattle.std.proofs.Common.{◌≡◌, ℕ, length, get_or, ap, sym, ◌∙◌, subst, arith, Some, None, get_or-set_other}
use Rattle.std.proofs.lemmas.List.{length-set}
use Rattle.xsk_table.specs.Held.{Holder, Belongs}
use Rattle.test_object.proofs.Resting.{one_more, last_rests, others_rest, given_back}
use Rattle.test_object.proofs.table.give_all.Goals as goal

pub give-requires-clause-place : goal.give-requires-clause-place
give-requires-clause-place c =
    let b = c.args.shared.now in
    let inv = c.passes.invariant in
    let old = c.passes.checked.items in
    let left = c.pop.new.self.items in
    let is = c.in-Some.ensures.items in
    let more = one_more b old left c.in-Some.one is inv.rest in
    let who : c.into_pass.result.who ≡ length left = ap (λ (h : Holder). h.who) c.into_pass.ensures.same ∙ (last_rests b old left c.in-Some.one is inv.rest).1 in
    (omega (arith, who, more, inv.few, inv.wide), ap (λ (w : ℕ). get_or c.passes.passes w None) who ∙ inv.taken (length left) (omega (arith, more)))

pub passes-preserved : goal.passes-preserved
passes-preserved c =
    let b = c.args.shared.now in
    let inv = c.passes.invariant in
    let old = c.passes.checked.items in
    let left = c.pop.new.self.items in
    let is = c.in-Some.ensures.items in
    let more = one_more b old left c.in-Some.one is inv.rest in
    let last = last_rests b old left c.in-Some.one is inv.rest in
    let who : c.into_pass.result.who ≡ length left = ap (λ (h : Holder). h.who) c.into_pass.ensures.same ∙ last.1 in
    let belongs : Belongs b c.into_pass.result = subst (Belongs b) (sym c.into_pass.ensures.same) last.0.0 in
    record {
      wide = ap length c.give.ensures ∙ length-set c.passes.passes c.into_pass.result.who (Some c.into_pass.result) ∙ inv.wide;
      few = omega (arith, more, inv.few);
      taken = λ w lt. ap (λ l. get_or l w None) c.give.ensures ∙ get_or-set_other c.passes.passes c.into_pass.result.who w (Some c.into_pass.result) None (λ e. absurd (omega (arith, who))) ∙ inv.taken w (omega (arith, more));
      given = λ w from lt. given_back b c.passes.passes c.give.new.self c.into_pass.result w (length left) c.give.ensures who belongs from (omega (arith, lt, inv.wide)) (λ above. inv.given w (omega (arith, more)) lt);
      rest = others_rest b old left c.in-Some.one is inv.rest;
    }
