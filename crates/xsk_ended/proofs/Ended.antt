-- What whole runs come to, whether or not a socket is closed: the laws, proved.
use Rattle.std.proofs.Common.{ℕ, ◌<◌, List, ◌++◌, length, subst, arith}
use Rattle.std.specs.List.{concat}
use Rattle.xsk_umem.specs.Frame.{Frame}
use Rattle.xsk_umem.specs.PacketList.{PacketList}
use Rattle.xsk_model.specs.Config.{Config, classes_of}
use Rattle.xsk_model.specs.Entry.{Told, Entry, own}
use Rattle.xsk_model.specs.Sent.{all_sent}
use Rattle.xsk_model.specs.Steering.{paired_port, driver_on, socket_on}
use Rattle.xsk_model.proofs.Seats.{IsAt, is_at}
use Rattle.xsk_prog.specs.declared.rule.Verdict.{Verdict}
use Rattle.xsk_turns.specs.Turns.{Judged, seat_of, start, turn, IsWholeDriverRun}
use Rattle.xsk_turns.specs.Disposals.{attempts_of, disposals_of}
use Rattle.xsk_turns.specs.Hands.{IsRunOf, IsWholeRunOf}
use Rattle.xsk_turns.specs.Workers.{Setting, input_of}
use Rattle.xsk_turns.specs.declared.manner.Manner.{Manner}
use Rattle.xsk_turns.specs.declared.wire.Wire.{Wire}
use Rattle.xsk_turns.proofs.Hands.{whole_run_of}
use Rattle.xsk_turns.proofs.ScriptLemmas.{whole_run}
use Rattle.xsk_laws.specs.Expected.{received, received_judged, bounced_on}
use Rattle.xsk_laws.specs.Laws.{AreEndedRunsBy}
use Rattle.xsk_laws.proofs.Altered.{IsMeasured, counts, sizes}
use Rattle.xsk_laws.proofs.Joined.{input_is}
use Rattle.xsk_laws.proofs.Within.{IsNoMore, no_more, all_bounced, all_sent_total, paired, all_within}
use Rattle.xsk_laws.proofs.Totals.{total-one, total-bytes}
use Rattle.xsk_laws.proofs.Woken.{no_hand_loses_wakes}
use Rattle.xsk_ended.specs.Laws.{EndedBouncedAsSaid, EndedIsWithin, EndedLeavesWithin, EndedLoseNoWakes}
use Rattle.xsk_ended.proofs.Apart.{disposed_apart, leaving_within}
use Rattle.xsk_ended.proofs.Lanes.{sent_fewer}

-- ---- all sockets of a queue

pub ended_bounced_as_said : EndedBouncedAsSaid
ended_bounced_as_said hands manner wire c lists verdicts frames h p q run port queue = all_bounced hands manner wire c lists verdicts frames h p q run port queue

module _ (hands : ℕ) (manner : Manner) (wire : Wire) (c : Config) (lists : List PacketList) (verdicts : List (List Verdict)) (frames : List Frame) (h : List Entry) (p q : ℕ) (run : AreEndedRunsBy hands manner wire c lists verdicts frames h) (port : p < c.ports) (queue : q < c.queues) where
  abbrev e : ℕ
  e = driver_on c (paired_port p) q

  abbrev input : List Judged
  input = received_judged c lists verdicts (paired_port p) q

  at : IsAt c (paired_port p) q 0 e (socket_on c (paired_port p) q 0)
  at =
      let classes = run.regular.classes in
      is_at c (paired_port p) q 0 run.history.opened.config run.regular (paired hands manner wire c lists verdicts frames h p q run port queue) queue (omega (arith, classes))

  whole : IsWholeDriverRun wire c e input (own e h)
  whole =
      subst (λ (l : List Judged). IsWholeDriverRun wire c e l (own e h)) (input_is c lists verdicts (paired_port p) q 0 e (socket_on c (paired_port p) q 0) at) (run.drivers e at.pair_known)

  within : (f : List ℕ → ℕ) → IsMeasured f → IsNoMore c lists verdicts h f q p
  within f is =
      no_more hands manner wire c lists verdicts frames h p q run port queue f
      (λ k class. sent_fewer hands manner wire c lists verdicts frames h p q k run (record { in_ports = port; in_queues = queue; in_classes = class }) f is)
      (λ n. leaving_within f n input (disposals_of (seat_of wire c e) input (attempts_of (own e h))) (disposed_apart wire c e input (own e h) whole))

pub ended_is_within : EndedIsWithin
ended_is_within hands manner wire c lists verdicts frames h p q run port queue =
    all_within hands manner wire c lists verdicts frames h p q run port queue
    (within hands manner wire c lists verdicts frames h p q run port queue)
    (within hands manner wire c lists verdicts frames h (paired_port p) q run (paired hands manner wire c lists verdicts frames h p q run port queue) queue)

pub ended_leaves_within : EndedLeavesWithin
ended_leaves_within hands manner wire c lists verdicts frames h p q run port queue =
    let most = within hands manner wire c lists verdicts frames h p q run port queue in
    let both = all_sent_total hands manner wire c lists verdicts frames h p q run port queue in
    let bounced = bounced_on c lists verdicts p q in
    let sent_here = all_sent c bounced h (driver_on c p q) in
    let others = received c lists (paired_port p) q in (
      omega (arith, both (λ _. 1), most (λ _. 1) counts, total-one sent_here, total-one bounced, total-one others),
      omega (arith, both (λ (x : List ℕ). length x), most (λ (x : List ℕ). length x) sizes, total-bytes sent_here, total-bytes bounced, total-bytes others),
    )

-- ---- wakes

run_of_whole : (hands : ℕ) (s : Setting) (who : ℕ) (l : List Told) → IsWholeRunOf hands s who l → IsRunOf hands s who l
run_of_whole hands s who l whole = record {
  driver = λ below. whole_run (turn (seat_of s.wire s.config who)) (start (classes_of s.config) (input_of s who)) l (whole.driver below);
  app = λ a is. whole_run_of hands s.manner s.config a l (whole.app a is);
}

pub ended_lose_no_wakes : EndedLoseNoWakes
ended_lose_no_wakes hands s frames h more d regular history whole below =
    no_hand_loses_wakes hands s frames h more d
    (record { regular = regular; history = history; runs = λ who known. run_of_whole hands s who (own who (h ++ more)) (whole who known) }) below
