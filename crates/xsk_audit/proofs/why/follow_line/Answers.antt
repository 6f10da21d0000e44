use Rattle.std.proofs.Common.{◌≡◌, ◌+◌, ◌-◌, ◌∙◌, ℕ, None, List, Option, rules, sym, ap, subst, arith, length}
use Rattle.xsk_model.specs.Asks.{joined_call}
use Rattle.xsk_model.specs.Config.{Config}
use Rattle.xsk_audit.specs.Reading.{Said, line_at}
use Rattle.xsk_audit.specs.Shelf.{descs_of}
use Rattle.xsk_audit.specs.Why.{IsBeside, IsUnmade, Tries}
use Rattle.xsk_audit.specs.declared.reasons.Reason.{Reason}
use Rattle.xsk_audit.proofs.Following.{barred, goes-on, last-line}
use Rattle.xsk_audit.proofs.Making.{line-says, submitted-joined}
use Rattle.xsk_audit.proofs.why.follow_line.Goals as goal

pub returns-in_default-clause-next : goal.returns-in_default-clause-next
returns-in_default-clause-next c frames h playing calls =
    let count = ap length c.pairs.ensures.value ∙ ap (λ (k : Config). length k.pairs) c.config.ensures in
    (ap (λ (n : ℕ). line_at n c.args.line.now) (sym count) ∙ sym c.in_default.ensures.said, playing.run)

pub try_call-requires-clause-told : goal.try_call-requires-clause-told
try_call-requires-clause-told c =
    let r = c.in-Some.reading in
    line-says _ c.args.line.now (record { round = r.round; who = r.who; call = joined_call r.ask c.read_line.new.items }) c.in-Some.ensures.said

pub returns-in-Some-2-clause-next : goal.returns-in-Some-2-clause-next
returns-in-Some-2-clause-next c frames h playing calls =
    let r = c.in-Some.reading in
    let said : Said = record { round = r.round; who = r.who; call = joined_call r.ask c.read_line.new.items } in
    let tried = c.in_ok-reason.ensures in
    let count = ap length c.pairs.ensures.value ∙ ap (λ (k : Config). length k.pairs) (c.config.ensures ∙ sym tried.config) in
    let unmade = subst (λ (reason : Option Reason). Tries c.args.checked.now c.try_call.new.checked c.try_call.new.shelf frames h said.who said.call reason) c.in-Some-2.is (tried.tries frames h playing) in
    barred c.try_call.new.checked frames h c.args.least c.args.line.now (descs_of c.read_line.new.items) c.args.right.now said c.in-Some-2.reason
    (ap (λ (n : ℕ). line_at n c.args.line.now) (sym count) ∙ sym c.in-Some.ensures.said)
    (ap descs_of (sym (submitted-joined r.ask c.read_line.new.items c.in-Some.ensures.items)))
    (subst (λ (k : Config). IsUnmade k h said.who said.call c.in-Some-2.reason) (sym tried.config) unmade.0) unmade.1

pub returns-clause-next : goal.returns-clause-next
returns-clause-next c frames h playing calls =
    let r = c.in-Some.reading in
    let said : Said = record { round = r.round; who = r.who; call = joined_call r.ask c.read_line.new.items } in
    let tried = c.in_ok-reason.ensures in
    let count = ap length c.pairs.ensures.value ∙ ap (λ (k : Config). length k.pairs) (c.config.ensures ∙ sym tried.config) in
    let none : c.in_ok-reason.field-0 ≡ None = search rules in
    let now = tried.calls none in
    let made = subst (λ (reason : Option Reason). Tries c.args.checked.now c.try_call.new.checked c.try_call.new.shelf frames h said.who said.call reason) none (tried.tries frames h playing) in
    let last : c.len-last.result - 1 ≡ length h = omega (arith, now, calls, c.len-last.ensures, c.log.ensures.calls) in
    goes-on c.try_call.new.checked c.try_call.new.shelf frames h c.args.least c.args.line.now c.write_line.new.out (descs_of c.read_line.new.items) said c.beside.result
    (ap (λ (n : ℕ). line_at n c.args.line.now) (sym count) ∙ sym c.in-Some.ensures.said)
    made (now ∙ ap (λ (n : ℕ). n + 1) calls)
    (last-line c.try_call.new.checked frames h made.entry _ _ c.write_line.new.out made.playing.run last c.write_line.ensures)
    (subst (λ (right : List ℕ). IsBeside c.args.least c.args.line.now right c.beside.result) c.bytes.ensures.value c.beside.ensures)
