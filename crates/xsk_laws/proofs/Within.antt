-- All that a driver sent by the sockets of its queue, and all that bounced there; and what two paired ports sent on a queue
-- against what came to both.
use Rattle.std.proofs.Common.{◌≡◌, ℕ, ◌+◌, ◌*◌, ◌<◌, ◌≤◌, List, [], ◌∷◌, length, get_or, sym, ap, subst, ◌∙◌, arith}
use Rattle.std.specs.List.{concat}
use Rattle.xsk_umem.specs.Frame.{Frame}
use Rattle.xsk_umem.specs.PacketList.{PacketList}
use Rattle.xsk_model.specs.Config.{Config, pair_at, classes_of}
use Rattle.xsk_model.specs.Entry.{Entry, own}
use Rattle.xsk_model.specs.Sent.{sockets_from, sockets_of, sent_from, sent, sent_by, bounced_of, all_sent_from, all_sent}
use Rattle.xsk_model.specs.Steering.{paired_port, driver_on, socket_on}
use Rattle.xsk_model.proofs.Closings.{all_completed}
use Rattle.xsk_model.proofs.Seats.{IsAt, is_at}
use Rattle.xsk_prog.specs.declared.rule.Verdict.{Verdict}
use Rattle.xsk_turns.specs.Turns.{Judged, seat_of, IsWholeDriverRun}
use Rattle.xsk_turns.specs.Disposals.{attempts_of, disposals_of, with_disposal}
use Rattle.xsk_turns.specs.SentWith.{bouncing}
use Rattle.xsk_turns.specs.declared.disposal.Disposal.{Disposal}
use Rattle.xsk_turns.specs.declared.manner.Manner.{Manner}
use Rattle.xsk_turns.specs.declared.wire.Wire.{Wire}
use Rattle.xsk_laws.specs.Expected.{received, received_judged, bounced_on}
use Rattle.xsk_laws.specs.Forwarded.{forwarded}
use Rattle.xsk_laws.specs.Laws.{AreEndedRunsBy, AreOfClasses}
use Rattle.xsk_laws.proofs.Altered.{IsMeasured, counts, sizes}
use Rattle.xsk_laws.proofs.Bounced.{nothing_of, total-sent}
use Rattle.xsk_laws.proofs.Joined.{input_is}
use Rattle.xsk_laws.proofs.Machines.{workers}
use Rattle.xsk_laws.proofs.Places.{are_paired, paired_twice}
use Rattle.xsk_laws.proofs.Sockets.{sockets_are}
use Rattle.xsk_laws.proofs.Sorted.{sorted}
use Rattle.xsk_turns.specs.Totals.{total}
use Rattle.xsk_laws.proofs.Totals.{total-one, total-bytes, run_of, judged_within, sent_few, delivered_from}

-- by a measure, what a port's driver completed and what the paired port's driver bounced is no more than what the paired port received
abbrev pub IsNoMore : Config → List PacketList → List (List Verdict) → List Entry → (List ℕ → ℕ) → ℕ → ℕ → Type 0
IsNoMore c lists verdicts h f q p =
    total f (sent c h (driver_on c p q)) + total f (bounced_on c lists verdicts (paired_port p) q) ≤ total f (received c lists (paired_port p) q)

-- ---- all sockets of a queue

module _ (hands : ℕ) (manner : Manner) (wire : Wire) (c : Config) (lists : List PacketList) (verdicts : List (List Verdict)) (frames : List Frame) (h : List Entry) (p q : ℕ) (run : AreEndedRunsBy hands manner wire c lists verdicts frames h) (port : p < c.ports) (queue : q < c.queues) where
  abbrev d : ℕ
  d = driver_on c p q

  abbrev e : ℕ
  e = driver_on c (paired_port p) q

  some : 0 < classes_of c
  some = let classes = run.regular.classes in omega (arith, classes)

  at : IsAt c p q 0 d (socket_on c p q 0)
  at = is_at c p q 0 run.history.opened.config run.regular port queue some

  -- the sockets of its queue, and what it sent by them
  sockets : sockets_of c d ≡ run_of (d * classes_of c) (classes_of c)
  sockets =
      ap (λ n. sockets_from 0 c.sockets n (pair_at c.pairs d).queue) at.pair_port
      ∙ ap (λ n. sockets_from 0 c.sockets p n) at.pair_queue
      ∙ sockets_are c p q run.history.opened.config run.regular port queue

  pub by_sockets : sent c h d ≡ sent_from c (run_of (d * classes_of c) (classes_of c)) [] (own d h)
  by_sockets = ap (λ ss. sent_from c ss [] (own d h)) sockets

  -- what came to the paired port, and how its driver disposed of it
  abbrev pub input : List Judged
  input = received_judged c lists verdicts (paired_port p) q

  abbrev pub ds : List Disposal
  ds = disposals_of (seat_of wire c e) input (attempts_of (own e h))

  pub no_more : (f : List ℕ → ℕ)
      → ((k : ℕ) → k < classes_of c → total f (sent_by c h d (socket_on c p q k)) ≤ total f (forwarded wire c h lists verdicts p q k))
      → ((n : ℕ) → total f (delivered_from n input ds) + total f (bouncing input) ≤ total (λ (x : Judged). f x.bytes) input)
      → IsNoMore c lists verdicts h f q p
  no_more f fewer leaving =
      let each : (k : ℕ) → k < classes_of c → total f (sent_from c ((d * classes_of c + k) ∷ []) [] (own d h)) ≤ total f (with_disposal (e * classes_of c + k) input ds) = fewer in
      let few = sent_few f c (own d h) input ds (d * classes_of c) (e * classes_of c) (classes_of c) 0 (classes_of c) (omega arith) each in
      let start : d * classes_of c + 0 ≡ d * classes_of c = omega arith in
      let all : total f (sent c h d) ≡ total f (sent_from c (run_of (d * classes_of c + 0) (classes_of c)) [] (own d h)) =
      ap (total f) (by_sockets ∙ ap (λ n. sent_from c (run_of n (classes_of c)) [] (own d h)) (sym start)) in
      omega (
        arith,
        all,
        few,
        leaving (e * classes_of c + 0),
        judged_within f (received c lists (paired_port p) q) (get_or verdicts (driver_on c (paired_port p) q) []),
      )

  -- ---- what bounces

  abbrev bounced : List (List ℕ)
  bounced = bounced_on c lists verdicts p q

  pub all_bounced : bounced_of bounced (own d h) ≡ bounced
  all_bounced =
      workers.bounces wire c d (received_judged c lists verdicts p q) (own d h)
      (subst (λ (l : List Judged). IsWholeDriverRun wire c d l (own d h)) (input_is c lists verdicts p q 0 d (socket_on c p q 0) at) (run.drivers d at.pair_known))

  -- what was completed is that of each class, and what was sent in all that and what bounced
  module _ (of_class : ℕ → List (List ℕ)) (each : (k : ℕ) → k < classes_of c → sent_by c h d (socket_on c p q k) ≡ of_class k) where
    pub sorted_completed : AreOfClasses c of_class [] (sent c h d)
    sorted_completed =
        sorted c [] of_class (d * classes_of c) (own d h) [] (sent c h d)
        (sym (all_completed c h d) ∙ ap (λ ss. all_sent_from c ss [] [] (own d h)) sockets) (nothing_of (own d h)) each

    pub sorted_all : AreOfClasses c of_class bounced (all_sent c bounced h d)
    sorted_all =
        sorted c bounced of_class (d * classes_of c) (own d h) bounced (all_sent c bounced h d)
        (ap (λ ss. all_sent_from c ss bounced [] (own d h)) sockets) all_bounced each

  -- all that was sent is what was completed and what bounced
  pub all_sent_total : (f : List ℕ → ℕ) → total f (all_sent c bounced h d) ≡ total f (sent c h d) + total f bounced
  all_sent_total f = total-sent f c (sockets_of c d) bounced [] (own d h) ∙ ap (λ packets. total f (sent c h d) + total f packets) all_bounced

-- ---- both ports of a pair

-- what the drivers of both ports sent in all is no more than what came to both, in packets and in bytes
abbrev pub AreBothWithin : Config → List PacketList → List (List Verdict) → List Entry → ℕ → ℕ → Type 0
AreBothWithin c lists verdicts h p q =
    let sent_at : ℕ → List (List ℕ) = λ n. all_sent c (bounced_on c lists verdicts n q) h (driver_on c n q) in
    let came_to : ℕ → List (List ℕ) = λ n. received c lists n q in
    (length (sent_at p) + length (sent_at (paired_port p)) ≤ length (came_to p) + length (came_to (paired_port p)))
    × (length (concat (sent_at p)) + length (concat (sent_at (paired_port p))) ≤ length (concat (came_to p)) + length (concat (came_to (paired_port p))))

module _ (hands : ℕ) (manner : Manner) (wire : Wire) (c : Config) (lists : List PacketList) (verdicts : List (List Verdict)) (frames : List Frame) (h : List Entry) (p q : ℕ) (run : AreEndedRunsBy hands manner wire c lists verdicts frames h) (port : p < c.ports) (queue : q < c.queues) where
  abbrev o : ℕ
  o = paired_port p

  pub paired : o < c.ports
  paired = (are_paired c.ports p run.history.opened.config.ports port).in_ports

  -- what the driver of a port sent in all, and what the port received
  abbrev sent_at : ℕ → List (List ℕ)
  sent_at n = all_sent c (bounced_on c lists verdicts n q) h (driver_on c n q)

  abbrev came_to : ℕ → List (List ℕ)
  came_to n = received c lists n q

  both_within : (f : List ℕ → ℕ) → IsNoMore c lists verdicts h f q p → IsNoMore c lists verdicts h f q o
      → total f (sent_at p) + total f (sent_at o) ≤ total f (came_to p) + total f (came_to o)
  both_within f here there =
      let back : total f (sent c h (driver_on c o q)) + total f (bounced_on c lists verdicts p q) ≤ total f (came_to p) =
      subst (λ n. total f (sent c h (driver_on c o q)) + total f (bounced_on c lists verdicts n q) ≤ total f (came_to n)) (paired_twice p) there in
      omega (
        arith,
        all_sent_total hands manner wire c lists verdicts frames h p q run port queue f,
        all_sent_total hands manner wire c lists verdicts frames h o q run paired queue f,
        here,
        back,
      )

  pub all_within : ((f : List ℕ → ℕ) → IsMeasured f → IsNoMore c lists verdicts h f q p) → ((f : List ℕ → ℕ) → IsMeasured f → IsNoMore c lists verdicts h f q o)
      → AreBothWithin c lists verdicts h p q
  all_within here there =
      let most : (f : List ℕ → ℕ) → IsMeasured f → total f (sent_at p) + total f (sent_at o) ≤ total f (came_to p) + total f (came_to o) =
      λ f is. both_within f (here f is) (there f is) in (
        omega (arith, most (λ _. 1) counts, total-one (sent_at p), total-one (sent_at o), total-one (came_to p), total-one (came_to o)),
        omega (arith, most (λ (x : List ℕ). length x) sizes, total-bytes (sent_at p), total-bytes (sent_at o), total-bytes (came_to p), total-bytes (came_to o)),
      )
