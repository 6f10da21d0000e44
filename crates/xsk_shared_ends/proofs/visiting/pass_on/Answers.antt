use Rattle.std.proofs.Common.{◌≡◌, [], ◌++◌, ap, ◌∙◌}
use Rattle.xsk_turns.specs.Script.{again, on_submitted}
use Rattle.xsk_turns.specs.AppTurns.{with_pending}
use Rattle.xsk_shared_ends.specs.declared.visiting.Step.TheVariants.{Moved, Full}
use Rattle.xsk_shared_ends.proofs.Standing.{after_submitted}
use Rattle.xsk_shared_ends.proofs.Passing.{sent, on_tx, asks_places, puts_items, wakes_lane, stays_pending, pending_now}
use Rattle.xsk_shared_ends.proofs.visiting.pass_on.Goals as goal

pub reserve-requires-clause-at : goal.reserve-requires-clause-at
reserve-requires-clause-at c =
    let at = c.requires.at in (at.0, at.2, on_tx at.0 at.1 at.2, Moved, asks_places _ _ at.0 at.1 at.2 _ _ _ c.len.ensures.value at.3)

pub returns-in-Some-clause-over : goal.returns-in-Some-clause-over
returns-in-Some-clause-over c o lane k h =
    stays_pending o lane k _ _ (Full c.in-Some.free) h.items_are (c.in-Some.ensures.goes_on o k (on_tx o lane k) Moved (asks_places _ _ o lane k _ _ _ c.len.ensures.value h))

pub serve-requires-clause-at : goal.serve-requires-clause-at
serve-requires-clause-at c =
    let at = c.requires.at in
    let o = at.0 in
    let lane = at.1 in
    let k = at.2 in
    let h = at.3 in
    let same : c.append.new.self ≡ c.args.pending.now = c.append.ensures.items ∙ ap (λ xs. xs ++ c.args.pending.now) c.reserve.ensures.empty in
    let granted = c.in_default.ensures.goes_on o k (on_tx o lane k) Moved (asks_places _ _ o lane k _ _ _ c.len.ensures.value h) in
    (o, with_pending k lane [], on_submitted (sent o lane k), Moved, puts_items _ _ o lane k _ c.append.new.self _ _ same h granted)

pub wake-requires-clause-at : goal.wake-requires-clause-at
wake-requires-clause-at c =
    let at = c.requires.at in
    let o = at.0 in
    let lane = at.1 in
    let k = at.2 in
    let h = at.3 in
    let same : c.append.new.self ≡ c.args.pending.now = c.append.ensures.items ∙ ap (λ xs. xs ++ c.args.pending.now) c.reserve.ensures.empty in
    let granted = c.in_default.ensures.goes_on o k (on_tx o lane k) Moved (asks_places _ _ o lane k _ _ _ c.len.ensures.value h) in
    let put = c.serve.ensures.goes_on o (with_pending k lane []) (on_submitted (sent o lane k)) Moved (puts_items _ _ o lane k _ c.append.new.self _ _ same h granted) in
    (o, with_pending k lane [], again (with_pending k lane []), Moved, wakes_lane _ _ o lane k _ _ _ h (after_submitted o _ (sent o lane k) _ Moved c.serve.ensures.kind put))

pub returns-clause-over : goal.returns-clause-over
returns-clause-over c o lane k h =
    let same : c.append.new.self ≡ c.args.pending.now = c.append.ensures.items ∙ ap (λ xs. xs ++ c.args.pending.now) c.reserve.ensures.empty in
    let granted = c.in_default.ensures.goes_on o k (on_tx o lane k) Moved (asks_places _ _ o lane k _ _ _ c.len.ensures.value h) in
    let put = c.serve.ensures.goes_on o (with_pending k lane []) (on_submitted (sent o lane k)) Moved (puts_items _ _ o lane k _ c.append.new.self _ _ same h granted) in
    let woken = c.wake.ensures.goes_on o (with_pending k lane []) (again (with_pending k lane [])) Moved (wakes_lane _ _ o lane k _ _ _ h (after_submitted o _ (sent o lane k) _ Moved c.serve.ensures.kind put)) in
    pending_now o lane k c.append.new.other [] _ Moved c.append.ensures.other woken
