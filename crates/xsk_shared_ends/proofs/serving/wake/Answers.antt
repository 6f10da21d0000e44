use Rattle.std.proofs.Common.{rules, ◌≡◌, true}
use Rattle.xsk_turns.specs.Script.{on_old}
use Rattle.xsk_shared_ends.proofs.Standing.{by_flag, wakes_on, is_needed, is_not_needed, after_old}
use Rattle.xsk_shared_ends.proofs.serving.wake.Goals as goal

pub serve-requires-clause-at : goal.serve-requires-clause-at
serve-requires-clause-at c =
    let at = c.requires.at in
    let o = at.0 in
    let k = at.1 in
    let later = at.2 in
    let came = at.3 in
    let on : c.args.config.now.wakeup ≡ true = search rules in
    let found = c.look_at.ensures.goes_on o k (by_flag c.args.pair k later) came (wakes_on _ o _ c.args.need c.args.pair k later came on at.4) in
    (o, k, on_old (λ old. later), came, is_needed o _ c.args.pair c.look_at.result k later came c.if-look_at-eq1.true found)

pub returns-then-look_at-eq1-clause-goes_on : goal.returns-then-look_at-eq1-clause-goes_on
returns-then-look_at-eq1-clause-goes_on c o k later came w =
    let on : c.args.config.now.wakeup ≡ true = search rules in
    let found = c.look_at.ensures.goes_on o k (by_flag c.args.pair k later) came (wakes_on _ o _ c.args.need c.args.pair k later came on w) in
    let kicked = c.serve.ensures.goes_on o k (on_old (λ old. later)) came (is_needed o _ c.args.pair c.look_at.result k later came c.if-look_at-eq1.true found) in
    after_old o _ later _ came c.serve.ensures.kind kicked

pub returns-else-look_at-eq1-clause-goes_on : goal.returns-else-look_at-eq1-clause-goes_on
returns-else-look_at-eq1-clause-goes_on c o k later came w =
    let on : c.args.config.now.wakeup ≡ true = search rules in
    let found = c.look_at.ensures.goes_on o k (by_flag c.args.pair k later) came (wakes_on _ o _ c.args.need c.args.pair k later came on w) in
    is_not_needed o _ c.args.pair c.look_at.result k later came c.if-look_at-eq1.false found
