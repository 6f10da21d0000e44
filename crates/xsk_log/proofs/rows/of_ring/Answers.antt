use Rattle.std.proofs.Common.{◌≡◌, ◌<◌, ◌+◌, ◌*◌, ℕ, sym, ap, ◌∙◌, arith}
use Rattle.xsk_log.specs.RowCodes.{ring_at, ring_event, event_at}
use Rattle.xsk_log.proofs.RowDigits.{ring_event-at}
use Rattle.xsk_log.proofs.rows.of_ring.Goals.{in-Fill, in-Comp, in-Rx, in-Tx}
use Rattle.xsk_log.proofs.rows.of_ring.Goals as goal

pub returns-clause-event : goal.returns-clause-event
returns-clause-event c =
    let kind = c.args.kind in
    let side = c.match-ring.side in
    let first : event_at (kind * 4 + side.0) side.1 c.from.result c.args.second ≡ event_at (kind * 4 + side.0) side.1 c.args.first c.args.second =
    ap (λ n. event_at (kind * 4 + side.0) side.1 n c.args.second) c.from.ensures in
    let is = λ (below : side.0 < 4). first ∙ ring_event-at kind side.0 side.1 c.args.first c.args.second c.requires below in
    let made = λ (same : ring_at side.0 side.1 ≡ c.args.ring). ap (λ ring. ring_event kind ring c.args.first c.args.second) same in
    let at = λ (s : ℕ × ℕ). ring_at s.0 s.1 in
    elim c.match-ring.branch [
      | in-Fill w ↦ is (omega (arith, ap (λ (s : ℕ × ℕ). s.0) w.side-is)) ∙ made (ap at w.side-is ∙ sym w.in-Fill.is)
      | in-Comp w ↦ is (omega (arith, ap (λ (s : ℕ × ℕ). s.0) w.side-is)) ∙ made (ap at w.side-is ∙ sym w.in-Comp.is)
      | in-Rx w ↦ is (omega (arith, ap (λ (s : ℕ × ℕ). s.0) w.side-is)) ∙ made (ap at w.side-is ∙ sym w.in-Rx.is)
      | in-Tx w ↦ is (omega (arith, ap (λ (s : ℕ × ℕ). s.0) w.side-is)) ∙ made (ap at w.side-is ∙ sym w.in-Tx.is)
    ]
