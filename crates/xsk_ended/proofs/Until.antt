-- What whole runs sent, on each lane until it was cut: the laws, proved.
use Rattle.std.proofs.Common.{◌≡◌, ℕ, ◌⊎◌, ⊎_elim, None, List, sym, subst, ◌∙◌}
use Rattle.xsk_umem.specs.Frame.{Frame}
use Rattle.xsk_umem.specs.PacketList.{PacketList}
use Rattle.xsk_model.specs.Config.{Config}
use Rattle.xsk_model.specs.Entry.{Entry}
use Rattle.xsk_model.specs.Sent.{sent_by}
use Rattle.xsk_model.specs.Steering.{driver_on, socket_on}
use Rattle.xsk_prog.specs.declared.rule.Verdict.{Verdict}
use Rattle.xsk_turns.specs.declared.manner.Manner.{Manner}
use Rattle.xsk_turns.specs.declared.wire.Wire.{Wire}
use Rattle.xsk_turns.specs.declared.wire.Wire.TheVariants.{Wait}
use Rattle.xsk_laws.specs.Cut.{until_cut}
use Rattle.xsk_laws.specs.Expected.{expected, bounced_on}
use Rattle.xsk_laws.specs.Forwarded.{forwarded}
use Rattle.xsk_laws.specs.Laws.{AreEndedRunsBy, AreOfClasses, IsPlace}
use Rattle.xsk_laws.proofs.Cut.{nothing_is_cut, sent_is_forwarded_until, sent_is_expected_until}
use Rattle.xsk_laws.proofs.Joined as joined
use Rattle.xsk_laws.proofs.Machines.{workers}
use Rattle.xsk_laws.proofs.Within.{sorted_all}
use Rattle.xsk_ended.specs.Until.{EndedAreForwarded, EndedAreExpected, AllAreForwarded, AllAreExpected}
use Rattle.xsk_ended.proofs.Lanes.{one_or_open}

-- ---- a lane

module _ (hands : ℕ) (manner : Manner) (wire : Wire) (c : Config) (lists : List PacketList) (verdicts : List (List Verdict)) (frames : List Frame) (h : List Entry) (p q k : ℕ) (run : AreEndedRunsBy hands manner wire c lists verdicts frames h) (place : IsPlace c p q k) where
  abbrev sent : List (List ℕ)
  sent = sent_by c h (driver_on c p q) (socket_on c p q k)

  abbrev delivered : List (List ℕ)
  delivered = forwarded wire c h lists verdicts p q k

  several : (hands ≡ 1) ⊎ (c.closing ≡ None)
  several = one_or_open hands manner wire c lists verdicts frames h p q run place.in_ports place.in_queues

  pub sent_forwarded : manner.mangle ≡ None → sent ≡ until_cut c h p q k delivered
  sent_forwarded none = ⊎_elim
      (λ (one : hands ≡ 1). sent_is_forwarded_until manner wire c lists verdicts frames h p q k none (subst (λ n. AreEndedRunsBy n manner wire c lists verdicts frames h) one run) place)
      (λ (closes : c.closing ≡ None). joined.sent_forwarded workers hands manner wire c lists verdicts frames h p q k run place closes none ∙ sym (nothing_is_cut c h p q k delivered closes))
      several

  pub sent_expected : manner.mangle ≡ None → wire ≡ Wait → sent ≡ until_cut c h p q k (expected c lists verdicts p q k)
  sent_expected none waits = ⊎_elim
      (λ (one : hands ≡ 1). sent_is_expected_until manner wire c lists verdicts frames h p q k none waits (subst (λ n. AreEndedRunsBy n manner wire c lists verdicts frames h) one run) place)
      (λ (closes : c.closing ≡ None).
      joined.sent_expected workers hands manner wire c lists verdicts frames h p q k run place closes none waits ∙ sym (nothing_is_cut c h p q k (expected c lists verdicts p q k) closes))
      several

-- ---- all of a queue

pub ended_are_forwarded : EndedAreForwarded
ended_are_forwarded hands manner wire c lists verdicts frames h p q none run port queue =
    sorted_all hands manner wire c lists verdicts frames h p q run port queue (λ k. until_cut c h p q k (forwarded wire c h lists verdicts p q k))
    (λ k class. sent_forwarded hands manner wire c lists verdicts frames h p q k run (record { in_ports = port; in_queues = queue; in_classes = class }) none)

pub ended_are_expected : EndedAreExpected
ended_are_expected hands manner wire c lists verdicts frames h p q none waits run port queue =
    sorted_all hands manner wire c lists verdicts frames h p q run port queue (λ k. until_cut c h p q k (expected c lists verdicts p q k))
    (λ k class. sent_expected hands manner wire c lists verdicts frames h p q k run (record { in_ports = port; in_queues = queue; in_classes = class }) none waits)

-- ---- where no socket is to be closed

-- packets of all classes, each of which is told otherwise
told_otherwise : (c : Config) (of_class others : ℕ → List (List ℕ)) (bounced packets : List (List ℕ)) → ((k : ℕ) → of_class k ≡ others k) → AreOfClasses c of_class bounced packets → AreOfClasses c others bounced packets
told_otherwise c of_class others bounced packets same are = record { departures = are.departures; all = are.all; known = are.known; each = λ k class. are.each k class ∙ same k; others = are.others }

pub all_are_forwarded : AllAreForwarded
all_are_forwarded wire c h lists verdicts p q packets closes are =
    told_otherwise c (λ k. until_cut c h p q k (forwarded wire c h lists verdicts p q k)) (forwarded wire c h lists verdicts p q) (bounced_on c lists verdicts p q) packets
    (λ k. nothing_is_cut c h p q k (forwarded wire c h lists verdicts p q k) closes) are

pub all_are_expected : AllAreExpected
all_are_expected c h lists verdicts p q packets closes are =
    told_otherwise c (λ k. until_cut c h p q k (expected c lists verdicts p q k)) (expected c lists verdicts p q) (bounced_on c lists verdicts p q) packets
    (λ k. nothing_is_cut c h p q k (expected c lists verdicts p q k) closes) are
