use Rattle.std.proofs.Common.{◌≡◌, ◌++◌, ◌<◌, ◌≤◌, length, get_or, ap, ◌∙◌, arith, rules}
use Rattle.xsk_sim.specs.SoFar.{counters_kept}
use Rattle.xsk_sim.proofs.SoFar.{next_kept, none_kept}
use Rattle.xsk_sim.proofs.counters.counters_so_far.Goals as goal

pub loop-seat-preserved : goal.loop-seat-preserved
loop-seat-preserved c =
    let l = c.loop-seat in
    let w = c.args.workers.now in
    let classes = c.args.classes in
    let i = l.seat-index in
    let seat = c.seat-item.result in
    let at : seat ≡ get_or w.seats.items i seat = search (rules, c.seat-item.is, c.deref-seat-items.ensures.value) in
    let below : i < length w.seats.items = omega (arith, c.loop-seat-test.true) in
    next_kept (λ s. counters_kept classes s.machine) w.seats.items i seat l.counters.items c.push_own.new.counters.items _ below at
    (c.in_ok-push_own.ensures ∙ ap (λ m. l.counters.items ++ counters_kept classes m) c.machine.ensures) l.invariant

pub returns : goal.returns
returns c =
    let l = c.loop-seat in
    let w = c.args.workers.now in
    let all : length w.seats.items ≤ l.seat-index = omega (arith, c.loop-seat-test.false) in
    none_kept (λ s. counters_kept c.args.classes s.machine) w.seats.items l.seat-index l.counters.items _ all l.invariant
