use Rattle.std.proofs.Common.{rules, length, refl, ◌∙◌, Ok, Err, arith}
use Rattle.std.proofs.lemmas.List.{length-drop, take_rest}
use Rattle.xsk_io.specs.declared.bay.Kind.TheVariants.{Write}
use Rattle.xsk_io.proofs.Steps.{Same-then, SameBut-then, CountsOnly-then, Grows-front, AddsNoneBut-then, offered_next, offered_part}
use Rattle.xsk_io.proofs.whole.write_whole.Goals as goal

pub loop-at-preserved : goal.loop-at-preserved
loop-at-preserved g c = (
  omega (arith, c.in_ok-at.ensures.bound),
  Grows-front _ _ _ c.args.text.now c.loop-at.at c.in_ok-at.field-0 c.loop-at.invariant.1 (rw take_rest at c.in_ok-at.ensures.bytes),
  SameBut-then c.args.stream _ _ _ c.loop-at.invariant.2 c.in_ok-at.ensures.held_others,
  offered_part _ _ _ c.args.stream (length c.args.text.now) c.loop-at.at _ (Ok c.in_ok-at.field-0) c.loop-at.invariant.3 (search rules) (length-drop c.loop-at.at c.args.text.now)
      (rw take_rest at c.in_ok-at.ensures.offered) c.in_ok-at.field-0 refl (search rules),
  AddsNoneBut-then c.args.stream _ _ _ c.loop-at.invariant.4 c.in_ok-at.ensures.other_offers,
  Same-then _ _ _ c.loop-at.invariant.5 c.in_ok-at.ensures.opened,
  Same-then _ _ _ c.loop-at.invariant.6 c.in_ok-at.ensures.names,
  Same-then _ _ _ c.loop-at.invariant.7 c.in_ok-at.ensures.left,
  c.in_ok-at.ensures.no_fault ∙ c.loop-at.invariant.8,
  CountsOnly-then Write c.args.stream _ _ _ c.loop-at.invariant.9 c.in_ok-at.ensures.counts,
)

pub returns-in_err-at-clause-offered : goal.returns-in_err-at-clause-offered
returns-in_err-at-clause-offered g c =
    offered_next _ _ _ c.args.stream (length c.args.text.now) c.loop-at.at _ (Err _) c.loop-at.invariant.3 (search rules) (length-drop c.loop-at.at c.args.text.now)
    (rw take_rest at c.in_err-at.ensures.offered)

pub returns-in_err-at-clause-held_others : goal.returns-in_err-at-clause-held_others
returns-in_err-at-clause-held_others g c = SameBut-then c.args.stream _ _ _ c.loop-at.invariant.2 c.in_err-at.ensures.held_others

pub returns-in_err-at-clause-other_offers : goal.returns-in_err-at-clause-other_offers
returns-in_err-at-clause-other_offers g c = AddsNoneBut-then c.args.stream _ _ _ c.loop-at.invariant.4 c.in_err-at.ensures.other_offers

pub returns-in_err-at-clause-opened : goal.returns-in_err-at-clause-opened
returns-in_err-at-clause-opened g c = Same-then _ _ _ c.loop-at.invariant.5 c.in_err-at.ensures.opened

pub returns-in_err-at-clause-names : goal.returns-in_err-at-clause-names
returns-in_err-at-clause-names g c = Same-then _ _ _ c.loop-at.invariant.6 c.in_err-at.ensures.names

pub returns-in_err-at-clause-left : goal.returns-in_err-at-clause-left
returns-in_err-at-clause-left g c = Same-then _ _ _ c.loop-at.invariant.7 c.in_err-at.ensures.left

pub returns-in_err-at-clause-counts : goal.returns-in_err-at-clause-counts
returns-in_err-at-clause-counts g c = CountsOnly-then Write c.args.stream _ _ _ c.loop-at.invariant.9 c.in_err-at.ensures.counts
