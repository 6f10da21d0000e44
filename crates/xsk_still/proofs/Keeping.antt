-- What the laws of both machines say at each call of what is told, pending and submitted there.
use Rattle.xsk_turns.proofs.Calls.{Call, Submit}
use Rattle.xsk_turns.proofs.AppLanes.{SubmitsNone, lanes_at}
use Rattle.xsk_turns.proofs.AppOwning.{has_at}
use Rattle.xsk_turns.proofs.Delivering.{laid_at}
use Rattle.xsk_turns.proofs.ReceivingLaws.{told_at}
use Rattle.xsk_still.specs.Own.{IsFree, KeepsRxTold, KeepsTxTold, HasPending, PendingFew, LaysOut}

pub keeps_rx_told : KeepsRxTold
keeps_rx_told wire c d s input l kept call rest asks = let h = told_at wire c d s input l kept call rest asks in (h.told, h.none)

pub keeps_tx_told : KeepsTxTold
keeps_tx_told c a t l kept call rest one closes asks = let h = lanes_at c a l kept call rest one closes asks in (h.told t, h.drained)

submits_none : (call : Call) → IsFree call → SubmitsNone call
submits_none (Submit r items) free = absurd free
submits_none call free = tt

pub has_pending : HasPending
has_pending c a l lane kept call rest one closes asks free below = (lanes_at c a l kept call rest one closes asks).order (submits_none call free) lane below

pub pending_few : PendingFew
pending_few c a l lane kept call rest one fit asks = (has_at c a l kept call rest one fit asks).few lane

pub lays_out : LaysOut
lays_out wire c d s input l kept call rest is fit asks = laid_at wire c d s input l kept call rest is fit asks
