-- The laws of histories with a bench.
use Rattle.std.proofs.Common.{◌≡◌, true, false, append-nil, refl, arith}
use Rattle.xsk_model.specs.Entry.{own}
use Rattle.xsk_model.specs.Sent.{all_sent}
use Rattle.xsk_model.specs.declared.call.Ring.TheVariants.{Fill, Comp, Rx, Tx}
use Rattle.xsk_model.specs.declared.call.Mark.TheVariants.{Bounced}
use Rattle.xsk_model.specs.declared.call.Call.TheVariants.{Reserve, Submit, Peek, Release, Swap, Look}
use Rattle.xsk_model.specs.declared.call.Act.TheVariants.{Call as Gave, Ended}
use Rattle.xsk_turns.specs.SentWith.{bouncing}
use Rattle.xsk_turns.specs.Workers.{IsWorkerRun}
use Rattle.xsk_machine.proofs.Acts.{worker_run}
use Rattle.xsk_sim.proofs.Seating.{each_change, each_tells}
use Rattle.xsk_bench.specs.Laws.{DriversRun, SentSoFar}
use Rattle.xsk_bench.specs.Played.{act_of}
use Rattle.xsk_bench.proofs.Seats.{act_after}

pub drivers_run : DriversRun
drivers_run s frames h p who played known =
    each_tells p.seats.items 0 _ (λ k. IsWorkerRun s k (own k h))
    (each_change p.seats.items 0 _ (λ k seat. IsWorkerRun s k (own k h)) played.seats
    (λ k seat low high is.
    worker_run s k (act_of seat) (own k h) (act_after s k seat.driver (act_of seat) (own k h) (omega (arith, high, played.count)) is.drives)))
    (λ k seat is. is) who (omega arith) (omega (arith, known, played.count))

pub sent_so_far : SentSoFar
sent_so_far c input h pair Ended none = refl
sent_so_far c input h pair (Gave (Reserve r n)) none = append-nil (all_sent c (bouncing input) h pair)
sent_so_far c input h pair (Gave (Submit (Fill d) items)) none = append-nil (all_sent c (bouncing input) h pair)
sent_so_far c input h pair (Gave (Submit (Comp d) items)) none = let no : true ≡ false = none in cc
sent_so_far c input h pair (Gave (Submit (Rx s) items)) none = append-nil (all_sent c (bouncing input) h pair)
sent_so_far c input h pair (Gave (Submit (Tx s) items)) none = append-nil (all_sent c (bouncing input) h pair)
sent_so_far c input h pair (Gave (Peek r n)) none = append-nil (all_sent c (bouncing input) h pair)
sent_so_far c input h pair (Gave (Release r n)) none = append-nil (all_sent c (bouncing input) h pair)
sent_so_far c input h pair (Gave (Swap (Bounced d) value)) none = let no : true ≡ false = none in cc
sent_so_far c input h pair (Gave (Swap m value)) none = append-nil (all_sent c (bouncing input) h pair)
sent_so_far c input h pair (Gave (Look m)) none = append-nil (all_sent c (bouncing input) h pair)
