use Rattle.std.proofs.Common.{◌≡◌, refl, subst}
use Rattle.xsk_model.specs.Asks.{joined_call, joined_reply}
use Rattle.xsk_model.specs.History.{MayGive}
use Rattle.xsk_model.specs.declared.ask.Ask.{Ask}
use Rattle.xsk_model.specs.declared.ask.Ask.TheVariants.{Reserve}
use Rattle.xsk_model.specs.declared.ask.Answer.{Answer}
use Rattle.xsk_model.specs.declared.ask.Answer.TheVariants.{Granted, Items}
use Rattle.xsk_legal.specs.Standing.{StandsFor}
use Rattle.xsk_legal.specs.Given.{StandsGiven}
use Rattle.xsk_legal.proofs.Able.{can_grant, stands_for}
use Rattle.xsk_legal.proofs.Got.{nothing_got, swap_got, look_got, given_swap, given_look}
use Rattle.xsk_legal.proofs.standing.Standing.got.Goals as goal

pub granted-requires : goal.granted-requires
granted-requires c =
    let config = c.args.config.now in
    let kept = c.args.self.now in
    let mine = c.requires.may.0 in
    let given = c.requires.may.1 in
    let stands : StandsFor config kept mine = subst (λ (a : Ask). StandsGiven config kept mine (joined_call a given)) c.in-Reserve.is c.requires.may.2 in
    let yes = c.is_granted.ensures.0 c.if-is_granted.true in
    can_grant config kept mine c.in-Reserve.ring c.in-Reserve.count stands
    (subst (λ (b : Answer). MayGive config mine kept.who (joined_call (Reserve c.in-Reserve.ring c.in-Reserve.count) given) (joined_reply b c.args.items.now)) yes
    (subst (λ (a : Ask). MayGive config mine kept.who (joined_call a given) (joined_reply c.args.answer c.args.items.now)) c.in-Reserve.is c.requires.may.3))

pub returns-else-is_granted-clause-stands : goal.returns-else-is_granted-clause-stands
returns-else-is_granted-clause-stands c =
    nothing_got c.args.config.now c.args.self.now c.args.ask _ c.args.answer c.args.items.now c.in-Reserve.is
    (λ (is : c.args.answer ≡ Granted). let yes = c.is_granted.ensures.1 is in let not = c.if-is_granted.false in cc)

pub returns-else-has_items-clause-stands : goal.returns-else-has_items-clause-stands
returns-else-has_items-clause-stands c =
    nothing_got c.args.config.now c.args.self.now c.args.ask _ c.args.answer c.args.items.now c.in-Peek.is
    (λ (is : c.args.answer ≡ Items). let yes = c.has_items.ensures.1 is in let not = c.if-has_items.false in cc)

pub returns-in-Submit-clause-stands : goal.returns-in-Submit-clause-stands
returns-in-Submit-clause-stands c =
    nothing_got c.args.config.now c.args.self.now c.args.ask _ c.args.answer c.args.items.now c.in-Submit.is (λ h. h)

pub returns-in-Release-clause-stands : goal.returns-in-Release-clause-stands
returns-in-Release-clause-stands c =
    nothing_got c.args.config.now c.args.self.now c.args.ask _ c.args.answer c.args.items.now c.in-Release.is (λ h. h)

pub swapped-requires : goal.swapped-requires
swapped-requires c =
    let mine = c.requires.may.0 in
    stands_for c.args.config.now c.args.self.now mine
    (given_swap c.args.config.now c.args.self.now mine c.args.ask c.in-Swap.mark c.in-Swap.value c.requires.may.1 c.in-Swap.is c.requires.may.2)

pub looked-requires : goal.looked-requires
looked-requires c =
    let mine = c.requires.may.0 in
    stands_for c.args.config.now c.args.self.now mine
    (given_look c.args.config.now c.args.self.now mine c.args.ask c.in-Look.mark c.requires.may.1 c.in-Look.is c.requires.may.2)

pub returns-in-Old-clause-stands : goal.returns-in-Old-clause-stands
returns-in-Old-clause-stands c =
    swap_got c.args.config.now c.args.self.now c.swapped.new.self c.args.ask c.in-Swap.mark c.in-Swap.value c.args.answer c.in-Old.field-0 c.args.items.now c.in-Swap.is c.in-Old.is
    (λ mine. c.swapped.ensures.stands mine c.in-Old.field-0)

pub returns-in-Old-answer-clause-stands : goal.returns-in-Old-answer-clause-stands
returns-in-Old-answer-clause-stands c =
    look_got c.args.config.now c.args.self.now c.looked.new.self c.args.ask c.in-Look.mark c.args.answer c.in-Old-answer.old c.args.items.now c.in-Look.is c.in-Old-answer.is c.looked.ensures.stands

pub returns-in_default : goal.returns-in_default
returns-in_default c = record {
  caller = refl;
  stands = nothing_got c.args.config.now c.args.self.now c.args.ask _ c.args.answer c.args.items.now c.in-Swap.is (λ h. c.in_default.not-Old h.0 h.1);
}

pub returns-in_default-answer : goal.returns-in_default-answer
returns-in_default-answer c = record {
  caller = refl;
  stands = nothing_got c.args.config.now c.args.self.now c.args.ask _ c.args.answer c.args.items.now c.in-Look.is (λ h. c.in_default-answer.not-Old h.0 h.1);
}
