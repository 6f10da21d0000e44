use Rattle.std.proofs.Common.{[], refl, sym, ap, subst}
use Rattle.xsk_turns.specs.Stepping.{joined_ask}
use Rattle.xsk_app.specs.Shown.{Shown}
use Rattle.xsk_app.specs.Stands.{left, GoesOn, to_do}
use Rattle.xsk_app.proofs.Runs.{stands_new, stands_next, tells_with}
use Rattle.xsk_app.proofs.Resumed.{stands_resumed, stands_later}
use Rattle.xsk_app.proofs.app.App.step.Goals as goal

pub returns-clause-begins : goal.returns-clause-begins
returns-clause-begins c manner config app new none =
    let view = sym c.self.view_is in
    let old = c.self.inside.machine in
    let now = c.step.new.self in
    let act = joined_ask c.step.new.asked c.step.new.items in
    stands_new manner config app old now c.args.self.now _ act
    (record { config = ap (λ (s : Shown). s.config) view; app = ap (λ (s : Shown). s.app) view; left = λ k n. ap (λ (s : Shown). left k n s.wait s.noted s.kept) view; kept = ap (λ (s : Shown). s.kept) view })
    (record { config = refl; app = refl; left = λ k n. refl; kept = refl }) c.step.ensures.same new
    (subst (λ r. GoesOn old.config.now old.app now act (to_do old.config.now old.app old r)) none c.step.ensures.goes)

pub returns-clause-goes_on : goal.returns-clause-goes_on
returns-clause-goes_on c manner config app l call r stands is fits =
    let view = sym c.self.view_is in
    let old = c.self.inside.machine in
    let now = c.step.new.self in
    let act = joined_ask c.step.new.asked c.step.new.items in
    stands_next manner config app old now c.args.self.now _ act
    (record { config = ap (λ (s : Shown). s.config) view; app = ap (λ (s : Shown). s.app) view; left = λ k n. ap (λ (s : Shown). left k n s.wait s.noted s.kept) view; kept = ap (λ (s : Shown). s.kept) view })
    (record { config = refl; app = refl; left = λ k n. refl; kept = refl }) c.step.ensures.same call r l stands fits
    (subst (λ r. GoesOn old.config.now old.app now act (to_do old.config.now old.app old r)) is c.step.ensures.goes)

pub returns-clause-tells_first : goal.returns-clause-tells_first
returns-clause-tells_first c manner config app new none =
    tells_with manner config app _ (joined_ask c.step.new.asked c.step.new.items) [] (returns-clause-begins c manner config app new none)

pub returns-clause-tells : goal.returns-clause-tells
returns-clause-tells c manner config app l call r stands is fits =
    tells_with manner config app _ (joined_ask c.step.new.asked c.step.new.items) _ (returns-clause-goes_on c manner config app l call r stands is fits)

pub returns-clause-resumes : goal.returns-clause-resumes
returns-clause-resumes c config app start past new none =
    let view = sym c.self.view_is in
    let old = c.self.inside.machine in
    let now = c.step.new.self in
    let act = joined_ask c.step.new.asked c.step.new.items in
    stands_resumed config app start past old now c.args.self.now _ act
    (record { config = ap (λ (s : Shown). s.config) view; app = ap (λ (s : Shown). s.app) view; left = λ k n. ap (λ (s : Shown). left k n s.wait s.noted s.kept) view; kept = ap (λ (s : Shown). s.kept) view })
    (record { config = refl; app = refl; left = λ k n. refl; kept = refl }) c.step.ensures.same new
    (subst (λ r. GoesOn old.config.now old.app now act (to_do old.config.now old.app old r)) none c.step.ensures.goes)

pub returns-clause-goes_on_from : goal.returns-clause-goes_on_from
returns-clause-goes_on_from c config app start past l call r stands is fits =
    let view = sym c.self.view_is in
    let old = c.self.inside.machine in
    let now = c.step.new.self in
    let act = joined_ask c.step.new.asked c.step.new.items in
    stands_later config app start past old now c.args.self.now _ act
    (record { config = ap (λ (s : Shown). s.config) view; app = ap (λ (s : Shown). s.app) view; left = λ k n. ap (λ (s : Shown). left k n s.wait s.noted s.kept) view; kept = ap (λ (s : Shown). s.kept) view })
    (record { config = refl; app = refl; left = λ k n. refl; kept = refl }) c.step.ensures.same call r l stands fits
    (subst (λ r. GoesOn old.config.now old.app now act (to_do old.config.now old.app old r)) is c.step.ensures.goes)
