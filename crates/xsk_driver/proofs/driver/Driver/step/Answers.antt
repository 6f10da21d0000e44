use Rattle.std.proofs.Common.{◌≡◌, Option, None, Some, List, [], refl, sym, ap}
use Rattle.xsk_turns.proofs.Calls.{Item, Answer}
use Rattle.xsk_turns.specs.Stepping.{joined_answer, joined_ask}
use Rattle.xsk_driver.specs.Shown.{Shown}
use Rattle.xsk_driver.proofs.Runs.{stands_new, stands_next, tells_with}
use Rattle.xsk_driver.proofs.driver.Driver.step.Goals as goal

none_joined : (answer : Option Answer) (items : List Item) → joined_answer answer items ≡ None → answer ≡ None
none_joined None items is = refl
none_joined (Some answer) items is = cc

pub returns-clause-begins : goal.returns-clause-begins
returns-clause-begins c wire config pair input new none =
    let view = sym c.self.view_is in
    stands_new wire config pair input c.self.inside.machine c.step.new.self c.args.self.now _ (joined_ask c.step.new.next c.step.new.items)
    (record { seat = ap (λ (d : Shown). d.seat) view; wait = ap (λ (d : Shown). d.wait) view; noted = ap (λ (d : Shown). d.noted) view; kept = ap (λ (d : Shown). d.kept) view; sent = ap (λ (d : Shown). d.sent) view })
    (record { seat = refl; wait = refl; noted = refl; kept = refl; sent = refl }) c.step.ensures.limits.seat new (c.step.ensures.begins (none_joined c.args.answer c.args.items.now none)) (c.step.ensures.quiet_first (none_joined c.args.answer c.args.items.now none))
    (c.step.ensures.sends_first (none_joined c.args.answer c.args.items.now none))

pub returns-clause-goes_on : goal.returns-clause-goes_on
returns-clause-goes_on c wire config pair input l call r stands same fits =
    let view = sym c.self.view_is in
    stands_next wire config pair input c.self.inside.machine c.step.new.self c.args.self.now _ (joined_ask c.step.new.next c.step.new.items) call r l
    (record { seat = ap (λ (d : Shown). d.seat) view; wait = ap (λ (d : Shown). d.wait) view; noted = ap (λ (d : Shown). d.noted) view; kept = ap (λ (d : Shown). d.kept) view; sent = ap (λ (d : Shown). d.sent) view })
    (record { seat = refl; wait = refl; noted = refl; kept = refl; sent = refl }) c.step.ensures.limits.seat stands fits (c.step.ensures.goes r same) (c.step.ensures.completes r same) (c.step.ensures.sends r same)

pub returns-clause-tells_first : goal.returns-clause-tells_first
returns-clause-tells_first c wire config pair input new none =
    tells_with wire config pair input _ (joined_ask c.step.new.next c.step.new.items) [] (returns-clause-begins c wire config pair input new none)

pub returns-clause-tells : goal.returns-clause-tells
returns-clause-tells c wire config pair input l call r stands same fits =
    tells_with wire config pair input _ (joined_ask c.step.new.next c.step.new.items) _ (returns-clause-goes_on c wire config pair input l call r stands same fits)
