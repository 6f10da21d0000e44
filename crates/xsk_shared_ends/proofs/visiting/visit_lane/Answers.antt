use Rattle.std.proofs.Common.{rules, ◌≡◌, ℕ, [], ◌++◌, ap, ◌∙◌}
use Rattle.xsk_model.specs.Entry.{with_told}
use Rattle.xsk_model.specs.declared.call.Call.TheVariants.{Peek}
use Rattle.xsk_model.specs.declared.call.Reply.TheVariants.{Empty}
use Rattle.xsk_model.specs.declared.call.Ring.TheVariants.{Rx}
use Rattle.xsk_rings.specs.Rounds.{mine_of}
use Rattle.xsk_turns.specs.Script.{on_released}
use Rattle.xsk_turns.specs.AppTurns.{with_pending, pass_on}
use Rattle.xsk_shared_ends.specs.Standing.{next}
use Rattle.xsk_shared_ends.specs.declared.visiting.Step.TheVariants.{Moved, Idle}
use Rattle.xsk_shared_ends.proofs.Standing.{after_released}
use Rattle.xsk_shared_ends.proofs.Passing.{on_rx, lane_full, lane_peeks, lane_releases, lane_passes, lane_stays, pending_again}
use Rattle.xsk_shared_ends.proofs.visiting.visit_lane.Goals as goal

pub pass_on-requires-clause-at : goal.pass_on-requires-clause-at
pass_on-requires-clause-at c =
    let at = c.requires.at in
    let some : c.args.pending.now ≡ [] → ⊥ = search rules in (at.0, at.1, at.2, lane_full _ _ at.0 at.1 at.2 _ _ some at.3)

pub returns-then-not-is_empty-clause-over : goal.returns-then-not-is_empty-clause-over
returns-then-not-is_empty-clause-over c o lane k v =
    let some : c.args.pending.now ≡ [] → ⊥ = search rules in c.pass_on.ensures.over o lane k (lane_full _ _ o lane k _ _ some v)

pub serve-requires-in-Items-clause-at : goal.serve-requires-in-Items-clause-at
serve-requires-in-Items-clause-at c =
    let at = c.requires.at in
    let o = at.0 in
    let lane = at.1 in
    let k = at.2 in
    let v = at.3 in
    let got = c.serve.new.items in
    let none : c.args.pending.now ≡ [] = search rules in
    let received = c.in-Items.ensures.goes_on o k (on_rx o lane k) Moved (lane_peeks _ _ o lane k _ _ _ none c.batch.ensures v) in
    (o, with_pending k lane got, on_released (pass_on o.config o.app lane (with_pending k lane got) next), Moved, lane_releases _ _ o lane k _ got _ _ _ c.len-count.ensures.value v received)

pub pass_on-requires-in-Items-clause-at : goal.pass_on-requires-in-Items-clause-at
pass_on-requires-in-Items-clause-at c =
    let at = c.requires.at in
    let o = at.0 in
    let lane = at.1 in
    let k = at.2 in
    let v = at.3 in
    let got = c.serve.new.items in
    let none : c.args.pending.now ≡ [] = search rules in
    let same : c.append.new.self ≡ got = c.append.ensures.items ∙ ap (λ xs. xs ++ got) none in
    let left = pass_on o.config o.app lane (with_pending k lane got) next in
    let received = c.in-Items.ensures.goes_on o k (on_rx o lane k) Moved (lane_peeks _ _ o lane k _ _ _ none c.batch.ensures v) in
    let released = c.serve-in-Items.ensures.goes_on o (with_pending k lane got) (on_released left) Moved (lane_releases _ _ o lane k _ got _ _ _ c.len-count.ensures.value v received) in
    (o, lane, with_pending k lane got, lane_passes _ _ o lane k _ got _ _ _ same v (after_released o _ left _ Moved c.serve-in-Items.ensures.kind released))

pub returns-in-Items-clause-over : goal.returns-in-Items-clause-over
returns-in-Items-clause-over c o lane k v =
    let got = c.serve.new.items in
    let none : c.args.pending.now ≡ [] = search rules in
    let same : c.append.new.self ≡ got = c.append.ensures.items ∙ ap (λ xs. xs ++ got) none in
    let left = pass_on o.config o.app lane (with_pending k lane got) next in
    let received = c.in-Items.ensures.goes_on o k (on_rx o lane k) Moved (lane_peeks _ _ o lane k _ _ _ none c.batch.ensures v) in
    let released = c.serve-in-Items.ensures.goes_on o (with_pending k lane got) (on_released left) Moved (lane_releases _ _ o lane k _ got _ _ _ c.len-count.ensures.value v received) in
    let passes = lane_passes _ _ o lane k _ got _ _ _ same v (after_released o _ left _ Moved c.serve-in-Items.ensures.kind released) in
    pending_again o lane k got _ _ _ (c.pass_on-in-Items.ensures.over o lane (with_pending k lane got) passes)

pub returns-in-Empty-clause-over : goal.returns-in-Empty-clause-over
returns-in-Empty-clause-over c o lane k v =
    let none : c.args.pending.now ≡ [] = search rules in
    lane_stays _ _ o lane k _ _ _ Idle v (c.in-Empty.ensures.goes_on o k (on_rx o lane k) Moved (lane_peeks _ _ o lane k _ _ _ none c.batch.ensures v))

pub returns-then-not-is_empty-clause-idle : goal.returns-then-not-is_empty-clause-idle
returns-then-not-is_empty-clause-idle c = λ idle. absurd (c.pass_on.ensures.busy idle)

pub returns-in-Items-clause-idle : goal.returns-in-Items-clause-idle
returns-in-Items-clause-idle c = λ idle. absurd (c.pass_on-in-Items.ensures.busy idle)

pub returns-in-Empty-clause-idle : goal.returns-in-Empty-clause-idle
returns-in-Empty-clause-idle c =
    let none : c.args.pending.now ≡ [] = search rules in
    λ idle. (none, none, c.in-Empty.ensures.told ∙ ap (λ (n : ℕ). with_told (mine_of c.args.pass.now) (Peek (Rx c.args.way.rx) n) Empty) c.batch.ensures)
