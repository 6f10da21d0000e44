use Rattle.std.proofs.Common.{◌≡◌, ◌≢◌, ◌<◌, ℕ, length, get_or, ap, sym, ◌∙◌, arith, ⊎_elim, Some, None}
use Rattle.std.proofs.lemmas.Bool.{cases_eq}
use Rattle.std.proofs.lemmas.List.FromFn.{length-map-range_with_len}
use Rattle.xsk_model.specs.Config.{callers_of}
use Rattle.xsk_table.specs.Held.{Holder, new_pass}
use Rattle.test_object.proofs.Resting.{new_at, new_rests, no_pass, rest_more, taken_wide, taken_here, taken_else}
use Rattle.test_object.proofs.table.take_all.Goals as goal

pub loop-who-init : goal.loop-who-init
loop-who-init c =
    let b = c.args.shared.now in
    record {
      wide = ap length c.requires.new ∙ length-map-range_with_len (λ who. Some (new_pass b who)) 0 (callers_of b.setup.config);
      taken = λ w lt. absurd (omega arith);
      left = λ w from lt. new_at b c.args.passes.now w c.requires.new lt;
      rest = (ap length c.new-checked.ensures.items, λ w d lt. absurd (omega arith));
    }

pub loop-who-preserved : goal.loop-who-preserved
loop-who-preserved c =
    let b = c.args.shared.now in
    let inv = c.loop-who.invariant in
    let who = c.loop-who.who in
    let below : who < callers_of b.setup.config = (let lt = c.loop-who-test.true in omega (arith, lt, c.callers-callers.ensures, ap callers_of c.config.ensures)) in
    let there : Some c.in-Some.pass ≡ Some (new_pass b who) = sym c.in-Some.is ∙ c.take.ensures.taken ∙ inv.left who (omega arith) below in
    let new : c.in-Some.pass ≡ new_pass b who = cc in
    let one : c.in-Ok.one ≡ new_pass b who = c.in-Ok.ensures.checked ∙ new in
    record {
      wide = taken_wide c.loop-who.passes c.take.new.self c.take-again.new.self who c.take.ensures.left c.take-again.ensures.left ∙ inv.wide;
      taken = λ w lt. ⊎_elim
          (λ (is : w ≡ who). ap (λ (i : ℕ). get_or c.take-again.new.self i None) is ∙ taken_here c.loop-who.passes c.take.new.self c.take-again.new.self who c.take.ensures.left c.take-again.ensures.left (omega (arith, inv.wide, below)))
          (λ (off : w ≢ who). taken_else c.loop-who.passes c.take.new.self c.take-again.new.self who c.take.ensures.left c.take-again.ensures.left w off ∙ inv.taken w (omega arith))
          (cases_eq w who);
      left = λ w from lt. taken_else c.loop-who.passes c.take.new.self c.take-again.new.self who c.take.ensures.left c.take-again.ensures.left w (λ e. absurd (omega arith)) ∙ inv.left w (omega arith) lt;
      rest = rest_more b who c.loop-who.checked.items c.push.new.self.items c.in-Ok.one c.in_ok-push.ensures.items inv.rest (new_rests b who c.in-Ok.one one) (ap (λ (h : Holder). h.who) one);
    }

pub unreachable-requires : goal.unreachable-requires
unreachable-requires c =
    let b = c.args.shared.now in
    let who = c.loop-who.who in
    let below : who < callers_of b.setup.config = (let lt = c.loop-who-test.true in omega (arith, lt, c.callers-callers.ensures, ap callers_of c.config.ensures)) in
    no_pass (new_pass b who) (sym c.in_default.is ∙ c.take.ensures.taken ∙ c.loop-who.invariant.left who (omega arith) below)
