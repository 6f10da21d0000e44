use Rattle.std.proofs.Common.{◌↔◌, sym, subst}
use Rattle.std.specs.Prelude.{IsTrue}
use Rattle.xsk_model.specs.Asks.{joined_call}
use Rattle.xsk_model.specs.Legal.{IsLegal}
use Rattle.xsk_model.specs.declared.ask.Ask.{Ask}
use Rattle.xsk_legal.proofs.Allowed.{may_legal, legal_may}
use Rattle.xsk_legal.proofs.Setting.{open_is_fed, reserve_legal, legal_reserve, set_legal, legal_set}
use Rattle.xsk_legal.proofs.standing.Standing.allows.Goals as goal

pub returns-then-feeds : goal.returns-then-feeds
returns-then-feeds c = λ mine h.
    let config = c.args.config.now in
    let kept = c.args.self.now in
    let feeds = c.feeds-in-Submit.ensures.0 c.if-feeds.true in
    let fed = (open_is_fed config kept mine h c.in-Submit.ring).0 feeds.2 in
    let may = may_legal config kept mine c.args.items.now c.may_submit.ensures.lawful h c.in-Submit.ring feeds.0 feeds.1 fed in
    let legal = legal_may config kept mine c.args.items.now c.may_submit.ensures.lawful h c.in-Submit.ring feeds.0 feeds.1 in
    subst (λ (ask : Ask). IsTrue c.may_submit.result ↔ IsLegal config mine kept.who (joined_call ask c.args.items.now)) (sym c.in-Submit.is)
    (λ yes. may (c.may_submit.ensures.value.0 yes), λ is. c.may_submit.ensures.value.1 (legal is))

pub returns-in-Swap : goal.returns-in-Swap
returns-in-Swap c = λ mine h.
    let config = c.args.config.now in
    let kept = c.args.self.now in
    subst (λ (ask : Ask). IsTrue c.may_set.result ↔ IsLegal config mine kept.who (joined_call ask c.args.items.now)) (sym c.in-Swap.is) (
      λ yes. set_legal config kept mine c.may_set.ensures.lawful h c.in-Swap.mark c.in-Swap.value (c.may_set.ensures.value.0 yes),
      λ is. c.may_set.ensures.value.1 (legal_set config kept mine c.may_set.ensures.lawful h c.in-Swap.mark c.in-Swap.value is),
    )

pub returns-then-is_few : goal.returns-then-is_few
returns-then-is_few c = λ mine h.
    let config = c.args.config.now in
    let kept = c.args.self.now in
    let few = c.is_few.ensures.0 c.if-is_few.true in
    subst (λ (ask : Ask). IsTrue c.feeds.result ↔ IsLegal config mine kept.who (joined_call ask c.args.items.now)) (sym c.in-Reserve.is) (
      λ yes. reserve_legal config kept mine h c.in-Reserve.ring c.in-Reserve.n few (c.feeds.ensures.0 yes),
      λ is. c.feeds.ensures.1 (legal_reserve config kept mine h c.in-Reserve.ring c.in-Reserve.n is),
    )
