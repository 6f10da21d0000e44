-- What is sent is the redirected input: the laws, proved.
use Rattle.std.proofs.Common.{◌≡◌, ℕ, ◌*◌, ◌<◌, List, [], ◌∷◌, length, get_or, ap, ◌∙◌, arith}
use Rattle.xsk_umem.specs.Frame.{Frame}
use Rattle.xsk_umem.specs.PacketList.{PacketList}
use Rattle.xsk_model.specs.Config.{Config, classes_of}
use Rattle.xsk_model.specs.Rings.{caller_of}
use Rattle.xsk_model.specs.Entry.{Entry, own}
use Rattle.xsk_model.specs.Sent.{sent_from, sent, sent_by, all_sent}
use Rattle.xsk_model.specs.Steering.{paired_port, driver_on, socket_on}
use Rattle.xsk_prog.specs.declared.rule.Verdict.{Verdict}
use Rattle.xsk_turns.specs.Turns.{seat_of}
use Rattle.xsk_turns.specs.AppOwned.{IsApp}
use Rattle.xsk_turns.specs.AppTurns.{app_turn, app_start_by}
use Rattle.xsk_turns.proofs.AppLanes.{lanes_in_order}
use Rattle.xsk_turns.proofs.ScriptLemmas.{whole_run}
use Rattle.xsk_turns.specs.Disposals.{attempts_of, disposals_of}
use Rattle.xsk_turns.specs.declared.manner.Manner.{Manner}
use Rattle.xsk_turns.specs.declared.wire.Wire.{Wire}
use Rattle.xsk_laws.specs.Expected.{received, received_judged, expected, bounced_on}
use Rattle.xsk_laws.specs.Forwarded.{forwarded}
use Rattle.xsk_laws.specs.Closed.{FirstAreSent}
use Rattle.xsk_laws.specs.Laws.{AreWholeRunsBy, AreEndedRunsBy, SentIsForwarded, SentIsExpected, BouncedAsSaid, OnlyCompleted, AllAreForwarded, NothingElseIsSent, CompletedAreForwarded, CompletedAreExpected, AllIsForwarded, AllIsExpected, AllAreBoth, SentIsWithin, LeavesOnce, AllIsWithin}
use Rattle.xsk_laws.proofs.Machines.{workers}
use Rattle.xsk_laws.proofs.Joined.{ended_runs, one as app_in, sent_forwarded, sent_first, sent_fewer, sent_expected}
use Rattle.xsk_laws.proofs.Altered.{IsMeasured, counts, sizes}
use Rattle.xsk_laws.proofs.Filters.{seat_at}
use Rattle.xsk_laws.proofs.Places.{app_on, lane_on, lane_below}
use Rattle.xsk_laws.proofs.Losing.{fair}
use Rattle.xsk_laws.proofs.Totals.{total-one, total-bytes, run_of}
use Rattle.xsk_laws.proofs.Within.{IsNoMore, by_sockets, no_more, all_bounced, sorted_completed, sorted_all, all_sent_total, paired, all_within}
use Rattle.xsk_laws.proofs.Bounced.{leaving_within, none_to_bounce}
use Rattle.xsk_model.proofs.Closings.{all_completed}

pub sent_is_forwarded : SentIsForwarded
sent_is_forwarded hands manner wire c lists verdicts frames h port queue class none run place = sent_forwarded workers hands manner wire c lists verdicts frames h port queue class (ended_runs hands manner wire c lists verdicts frames h run) place run.steady.closes none

pub sent_is_expected : SentIsExpected
sent_is_expected hands manner wire c lists verdicts frames h port queue class none waits run place = sent_expected workers hands manner wire c lists verdicts frames h port queue class (ended_runs hands manner wire c lists verdicts frames h run) place run.steady.closes none waits

-- with a socket that is closed, the first packets
pub first_are_sent : FirstAreSent
first_are_sent m wire c lists verdicts frames h port queue class none run place =
    let one : IsApp c (app_on c port queue) = app_in workers 1 m wire c lists verdicts frames h port queue class run place in
    sent_first workers 1 m wire c lists verdicts frames h port queue class run place
    (lanes_in_order m c (app_on c port queue) (own (caller_of c (app_on c port queue)) h) (lane_on c (paired_port port) class) none one
    (whole_run (app_turn c (app_on c port queue)) (app_start_by m c) (own (caller_of c (app_on c port queue)) h) (run.apps (app_on c port queue) one.known)) (lane_below c (paired_port port) class place.in_classes))

-- ---- all sockets of a queue

module _ (hands : ℕ) (manner : Manner) (wire : Wire) (c : Config) (lists : List PacketList) (verdicts : List (List Verdict)) (frames : List Frame) (h : List Entry) (p q : ℕ) (run : AreWholeRunsBy hands manner wire c lists verdicts frames h) (port : p < c.ports) (queue : q < c.queues) where
  abbrev d : ℕ
  d = driver_on c p q

  abbrev e : ℕ
  e = driver_on c (paired_port p) q

  abbrev pub ended : AreEndedRunsBy hands manner wire c lists verdicts frames h
  ended = ended_runs hands manner wire c lists verdicts frames h run

  only_sent : classes_of c ≡ 1 → sent c h d ≡ sent_by c h d (socket_on c p q 0)
  only_sent one =
      by_sockets hands manner wire c lists verdicts frames h p q ended port queue
      ∙ ap (λ n. sent_from c (run_of (d * classes_of c) n) [] (own d h)) one
      ∙ ap (λ n. sent_from c (n ∷ []) [] (own d h)) first
    where
      first : d * classes_of c ≡ socket_on c p q 0
      first = omega arith

  within : (f : List ℕ → ℕ) → IsMeasured f → IsNoMore c lists verdicts h f q p
  within f is =
      no_more hands manner wire c lists verdicts frames h p q ended port queue f
      (λ k class. sent_fewer workers hands manner wire c lists verdicts frames h p q k ended (record { in_ports = port; in_queues = queue; in_classes = class }) run.steady.closes f is)
      (λ n. leaving_within c e (seat_at wire c e (paired_port p) q) f n (received_judged c lists verdicts (paired_port p) q) (disposals_of (seat_of wire c e) (received_judged c lists verdicts (paired_port p) q) (attempts_of (own e h)))
      (fair hands manner wire c lists verdicts frames h (paired_port p) q run (paired hands manner wire c lists verdicts frames h p q ended port queue) queue))

pub bounced_as_said : BouncedAsSaid
bounced_as_said hands manner wire c lists verdicts frames h p q run port queue = all_bounced hands manner wire c lists verdicts frames h p q (ended_runs hands manner wire c lists verdicts frames h run) port queue

pub only_completed : OnlyCompleted
only_completed rules c lists verdicts h p q none meet =
    ap (λ packets. all_sent c packets h (driver_on c p q)) (none_to_bounce rules q (received c lists p q) (get_or verdicts (driver_on c p q) []) none meet)
    ∙ all_completed c h (driver_on c p q)

pub all_are_forwarded : AllAreForwarded
all_are_forwarded hands manner wire c lists verdicts frames h p q none run port queue =
    sorted_all hands manner wire c lists verdicts frames h p q (ended_runs hands manner wire c lists verdicts frames h run) port queue (forwarded wire c h lists verdicts p q)
    (λ k class. sent_forwarded workers hands manner wire c lists verdicts frames h p q k (ended_runs hands manner wire c lists verdicts frames h run) (record { in_ports = port; in_queues = queue; in_classes = class }) run.steady.closes none)

pub nothing_else_is_sent : NothingElseIsSent
nothing_else_is_sent hands manner wire c lists verdicts frames h p q none waits run port queue =
    sorted_all hands manner wire c lists verdicts frames h p q (ended_runs hands manner wire c lists verdicts frames h run) port queue (expected c lists verdicts p q)
    (λ k class. sent_expected workers hands manner wire c lists verdicts frames h p q k (ended_runs hands manner wire c lists verdicts frames h run) (record { in_ports = port; in_queues = queue; in_classes = class }) run.steady.closes none waits)

pub completed_are_forwarded : CompletedAreForwarded
completed_are_forwarded hands manner wire c lists verdicts frames h p q none run port queue =
    sorted_completed hands manner wire c lists verdicts frames h p q (ended_runs hands manner wire c lists verdicts frames h run) port queue (forwarded wire c h lists verdicts p q)
    (λ k class. sent_forwarded workers hands manner wire c lists verdicts frames h p q k (ended_runs hands manner wire c lists verdicts frames h run) (record { in_ports = port; in_queues = queue; in_classes = class }) run.steady.closes none)

pub completed_are_expected : CompletedAreExpected
completed_are_expected hands manner wire c lists verdicts frames h p q none waits run port queue =
    sorted_completed hands manner wire c lists verdicts frames h p q (ended_runs hands manner wire c lists verdicts frames h run) port queue (expected c lists verdicts p q)
    (λ k class. sent_expected workers hands manner wire c lists verdicts frames h p q k (ended_runs hands manner wire c lists verdicts frames h run) (record { in_ports = port; in_queues = queue; in_classes = class }) run.steady.closes none waits)

pub all_is_forwarded : AllIsForwarded
all_is_forwarded hands manner wire c lists verdicts frames h p q none run port queue one =
    only_sent hands manner wire c lists verdicts frames h p q run port queue one
    ∙ sent_forwarded workers hands manner wire c lists verdicts frames h p q 0 (ended_runs hands manner wire c lists verdicts frames h run) (record { in_ports = port; in_queues = queue; in_classes = omega (arith, one) }) run.steady.closes none

pub all_is_expected : AllIsExpected
all_is_expected hands manner wire c lists verdicts frames h p q none waits run port queue one =
    only_sent hands manner wire c lists verdicts frames h p q run port queue one
    ∙ sent_expected workers hands manner wire c lists verdicts frames h p q 0 (ended_runs hands manner wire c lists verdicts frames h run) (record { in_ports = port; in_queues = queue; in_classes = omega (arith, one) }) run.steady.closes none waits

pub all_are_both : AllAreBoth
all_are_both hands manner wire c lists verdicts frames h p q run port queue =
    let both = all_sent_total hands manner wire c lists verdicts frames h p q (ended_runs hands manner wire c lists verdicts frames h run) port queue in
    let sent_here = all_sent c (bounced_on c lists verdicts p q) h (driver_on c p q) in
    let completed = sent c h (driver_on c p q) in
    let bounced = bounced_on c lists verdicts p q in (
      omega (arith, both (λ _. 1), total-one sent_here, total-one completed, total-one bounced),
      omega (arith, both (λ (x : List ℕ). length x), total-bytes sent_here, total-bytes completed, total-bytes bounced),
    )

pub sent_is_within : SentIsWithin
sent_is_within hands manner wire c lists verdicts frames h p q run port queue =
    let most = within hands manner wire c lists verdicts frames h p q run port queue in
    let sent_here = sent c h (driver_on c p q) in
    let input = received c lists (paired_port p) q in
    (omega (arith, most (λ _. 1) counts, total-one sent_here, total-one input), omega (arith, most (λ (x : List ℕ). length x) sizes, total-bytes sent_here, total-bytes input))

pub leaves_once : LeavesOnce
leaves_once hands manner wire c lists verdicts frames h p q run port queue =
    let most = within hands manner wire c lists verdicts frames h p q run port queue in
    let sent_here = sent c h (driver_on c p q) in
    let bounced = bounced_on c lists verdicts (paired_port p) q in
    let input = received c lists (paired_port p) q in (
      omega (arith, most (λ _. 1) counts, total-one sent_here, total-one bounced, total-one input),
      omega (arith, most (λ (x : List ℕ). length x) sizes, total-bytes sent_here, total-bytes bounced, total-bytes input),
    )

pub all_is_within : AllIsWithin
all_is_within hands manner wire c lists verdicts frames h p q run port queue =
    let whole = ended_runs hands manner wire c lists verdicts frames h run in
    all_within hands manner wire c lists verdicts frames h p q whole port queue
    (within hands manner wire c lists verdicts frames h p q run port queue)
    (within hands manner wire c lists verdicts frames h (paired_port p) q run (paired hands manner wire c lists verdicts frames h p q whole port queue) queue)
