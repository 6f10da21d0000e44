-- The laws of the two machines' whole runs, all that is used of them here.
use Rattle.xsk_turns.proofs.Saying.{disposed_as_said}
use Rattle.xsk_turns.proofs.Delivering.{delivers_in_order, delivers_sized}
use Rattle.xsk_turns.proofs.ReceivingLaws.{nothing_received_late}
use Rattle.xsk_turns.proofs.Draining.{drains_tx}
use Rattle.xsk_turns.proofs.CompletingAll.{completes_all}
use Rattle.xsk_turns.proofs.Bounced.{bounces_all}
use Rattle.xsk_turns.proofs.Hands.{hands_pass_on, hands_send_nothing_late, hands_drain_rx}
use Rattle.xsk_laws.proofs.Joined.{Workers}

pub workers : Workers
workers = record {
  disposed = disposed_as_said;
  delivers = delivers_in_order;
  sized = delivers_sized;
  none_received_late = nothing_received_late;
  drains_tx = drains_tx;
  completes = completes_all;
  bounces = bounces_all;
  altered = hands_pass_on;
  none_sent_late = hands_send_nothing_late;
  drains_rx = hands_drain_rx;
}
