-- What a driver sent is what the paired port's driver delivered: along the TX ring, the lane and the RX ring. Where the wire
-- waits, this is what is expected.
use Rattle.std.proofs.Common.{◌≡◌, ℕ, ◌+◌, ◌*◌, ◌%◌, ◌<◌, ◌≤◌, ◌⊎◌, inl, inr, Bool, true, false, ◌++◌, All, None, Some, List, [], ◌∷◌, length, take, map, get_or, refl, sym, ap, subst, ◌∙◌, ⊎_elim, arith}
use Rattle.std.proofs.lemmas.Bool.{cases_eq, or_left, or_right}
use Rattle.std.proofs.lemmas.List.{take_all, take-append-le, take-map}
use Rattle.std.proofs.lemmas.List.Elements.{All-weaker}
use Rattle.xsk_umem.specs.Frame.{Frame}
use Rattle.xsk_umem.specs.PacketList.{PacketList}
use Rattle.xsk_umem.specs.declared.batch.Item.{Item}
use Rattle.xsk_model.specs.Config.{Config, IsConfig, pair_at, classes_of, batch_of}
use Rattle.xsk_model.specs.Rings.{app_of, caller_of, producer}
use Rattle.xsk_model.specs.Marks.{is_mark}
use Rattle.xsk_umem.specs.Geometry.{Geometry}
use Rattle.xsk_model.specs.Packets.{packets, packets_from, rest_from, whole_packets, bytes_of}
use Rattle.xsk_model.proofs.PacketsLaws.{packets_from-append, whole_packets-append}
use Rattle.xsk_model.specs.Entry.{Told, Entry, own}
use Rattle.xsk_model.specs.Own.{peeked_of, submitted_of, tx_work_of}
use Rattle.xsk_model.specs.Ends.{draining_of, telling_of}
use Rattle.xsk_model.specs.Sent.{sent_by}
use Rattle.xsk_model.specs.Steering.{packet_limit, paired_port, driver_on, socket_on}
use Rattle.xsk_model.specs.declared.call.Ring.TheVariants.{Rx, Tx}
use Rattle.xsk_model.specs.declared.call.Mark.{Mark}
use Rattle.xsk_model.specs.declared.call.Mark.TheVariants.{RxDone, TxDone}
use Rattle.xsk_turns.proofs.ScriptLemmas.{whole_run}
use Rattle.xsk_turns.proofs.Fitting.{fit_in_history}
use Rattle.xsk_model.proofs.Theorems.{own_entries, sent_in_order}
use Rattle.xsk_turns.specs.Owned.{IsSeat, AllFit}
use Rattle.xsk_turns.specs.Turns.{Seat, Judged, seat_of, start, turn, application_of, IsWholeDriverRun}
use Rattle.xsk_prog.specs.declared.rule.Verdict.{Verdict}
use Rattle.xsk_turns.specs.Verdicts.{judged}
use Rattle.xsk_turns.specs.Disposals.{disposal_in, disposals_of, attempts_of, with_disposal, bytes_in}
use Rattle.xsk_turns.specs.declared.disposal.Disposal.{Disposal}
use Rattle.xsk_turns.specs.declared.manner.Manner.{Manner}
use Rattle.xsk_turns.specs.declared.wire.Wire.{Wire}
use Rattle.xsk_turns.specs.declared.wire.Wire.TheVariants.{Wait}
use Rattle.xsk_turns.proofs.Delivering.{with_disposal_is}
use Rattle.xsk_turns.specs.SentWith.{BouncesAll}
use Rattle.xsk_turns.specs.Law.{IsLaidOut, IsSized, DisposedAsSaid, DeliversInOrder, DeliversSized, NothingReceivedLate, DrainsTx, CompletesAll}
use Rattle.xsk_turns.specs.AppOwned.{IsApp}
use Rattle.xsk_turns.specs.AppTurns.{pair_of, rx_of, tx_of}
use Rattle.xsk_turns.specs.AppLaw.{IsFront, StaysOpen, AreAltered}
use Rattle.xsk_turns.specs.Hands.{HandsPassOn, HandsSendNothingLate, HandsDrainRx}
use Rattle.xsk_turns.proofs.Mangling.{altered_same}
use Rattle.xsk_laws.specs.Expected.{received, received_judged, expected}
use Rattle.xsk_laws.specs.Forwarded.{forwarded}
use Rattle.xsk_laws.specs.Laws.{received_by, AreEndedRunsBy, AreWholeRunsBy, IsPlace}
use Rattle.xsk_model.proofs.Closings.{is_mark-self}
use Rattle.xsk_laws.proofs.Emptied.{has_mark}
use Rattle.xsk_laws.proofs.Passed.{IsDrained, passed}
use Rattle.xsk_laws.proofs.Altered.{IsMeasured, altered_few}
use Rattle.xsk_turns.specs.Totals.{total}
use Rattle.xsk_laws.proofs.Wholes.{wholes}
use Rattle.xsk_laws.proofs.Filters.{IsBoundTo, seat_at, delivered_is}
use Rattle.xsk_model.proofs.Seats.{IsAt, is_at}
use Rattle.xsk_laws.proofs.Places.{ArePaired, are_paired, app_on, app_below, side_pair, lane_on, lane_below, lane_rx, lane_tx}

-- what holds of the workers' whole runs
pub record Workers : Type 0 where
  pub disposed : DisposedAsSaid
  pub delivers : DeliversInOrder
  pub sized : DeliversSized
  pub none_received_late : NothingReceivedLate
  pub drains_tx : DrainsTx
  pub completes : CompletesAll
  pub bounces : BouncesAll
  pub altered : HandsPassOn
  pub none_sent_late : HandsSendNothingLate
  pub drains_rx : HandsDrainRx

pub seat_is : (wire : Wire) (c : Config) (p q k d s : ℕ) → IsAt c p q k d s → seat_of wire c d ≡ seat_at wire c d p q
seat_is wire c p q k d s at =
    ap (λ n. record { config = c; pair = d; port = n; queue = (pair_at c.pairs d).queue; classes = classes_of c; batch = batch_of c; wire = wire }) at.pair_port
    ∙ ap (λ n. seat_at wire c d p n) at.pair_queue

pub input_is : (c : Config) (lists : List PacketList) (verdicts : List (List Verdict)) (p q k d s : ℕ) → IsAt c p q k d s → received_by c lists verdicts d ≡ judged (received c lists p q) (get_or verdicts d [])
input_is c lists verdicts p q k d s at =
    ap (λ n. judged (received c lists n (pair_at c.pairs d).queue) (get_or verdicts d [])) at.pair_port ∙ ap (λ n. judged (received c lists p n) (get_or verdicts d [])) at.pair_queue

-- where no socket is to be closed each lane stays open
none_closes : (c : Config) (a lane : ℕ) (l : List Told) → c.closing ≡ None → StaysOpen c a lane l
none_closes c a lane l none s e = absurd (let no : None ≡ Some s = sym none ∙ e in cc)

pub ended_runs : (hands : ℕ) (manner : Manner) (wire : Wire) (c : Config) (lists : List PacketList) (verdicts : List (List Verdict)) (frames : List Frame) (h : List Entry)
    → AreWholeRunsBy hands manner wire c lists verdicts frames h → AreEndedRunsBy hands manner wire c lists verdicts frames h
ended_runs hands manner wire c lists verdicts frames h run = record { regular = run.steady.regular; history = run.history; drivers = run.drivers; apps = run.apps }

-- the whole packets of the first of some items are the first of theirs
first_wholes : (g : Geometry) (sg : Bool) (xs ys : List Item) → whole_packets (packets g sg xs) ≡ take (length (whole_packets (packets g sg xs))) (whole_packets (packets g sg (xs ++ ys)))
first_wholes g sg xs ys =
    let first = whole_packets (packets g sg xs) in
    let later = whole_packets (packets_from g sg (rest_from g sg [] xs) ys) in
    let all : whole_packets (packets g sg (xs ++ ys)) ≡ first ++ later = ap whole_packets (packets_from-append g sg [] xs ys) ∙ whole_packets-append (packets g sg xs) (packets_from g sg (rest_from g sg [] xs) ys) in
    sym (take_all (length first) first (omega arith)) ∙ sym (take-append-le (length first) first later (omega arith)) ∙ ap (take (length first)) (sym all)

module _ (w : Workers) (hands : ℕ) (manner : Manner) (wire : Wire) (c : Config) (lists : List PacketList) (verdicts : List (List Verdict)) (frames : List Frame) (h : List Entry) (p q k : ℕ) (run : AreEndedRunsBy hands manner wire c lists verdicts frames h) (place : IsPlace c p q k) where
  abbrev o : ℕ
  o = paired_port p

  -- the sending driver and its socket, the receiving driver and its socket, and the application
  abbrev d : ℕ
  d = driver_on c p q

  abbrev t : ℕ
  t = socket_on c p q k

  abbrev e : ℕ
  e = driver_on c o q

  abbrev s : ℕ
  s = socket_on c o q k

  abbrev a : ℕ
  a = app_on c p q

  config : IsConfig c
  config = run.history.opened.config

  pub pair : ArePaired c.ports p o
  pair = are_paired c.ports p config.ports place.in_ports

  at_p : IsAt c p q k d t
  at_p = is_at c p q k config run.regular place.in_ports place.in_queues place.in_classes

  pub at_o : IsAt c o q k e s
  at_o = is_at c o q k config run.regular pair.in_ports place.in_queues place.in_classes

  seat_d : IsSeat c d
  seat_d = record { config = config; regular = run.regular; geometry = run.history.opened.geometry; known = at_p.pair_known }

  pub seat_e : IsSeat c e
  seat_e = record { config = config; regular = run.regular; geometry = run.history.opened.geometry; known = at_o.pair_known }

  pub one : IsApp c a
  one = record { config = config; regular = run.regular; geometry = run.history.opened.geometry; known = app_below c p q config place.in_ports place.in_queues }

  pub fit : (who : ℕ) → AllFit c [] (own who h)
  fit who = fit_in_history c frames h who run.history

  -- the callers of the two rings
  pub app_at_o : app_of c (Rx s) ≡ caller_of c a
  app_at_o = ap (caller_of c) (at_o.app ∙ ap (λ n. n * c.queues + q) pair.half)

  pub app_at_p : app_of c (Tx t) ≡ caller_of c a
  app_at_p = ap (caller_of c) at_p.app

  -- ---- the RX ring

  abbrev told_rx : List Mark
  told_rx = RxDone (pair_of c a 0) ∷ RxDone (pair_of c a 1) ∷ []

  listed_rx : has_mark (RxDone e) told_rx ≡ true
  listed_rx =
      let side : e ≡ pair_of c a (o % 2) = sym (side_pair c p q (o % 2) o place.in_queues pair.there) in
      subst (λ n. has_mark (RxDone n) told_rx ≡ true) (sym side)
      (⊎_elim
      (λ (z : o % 2 ≡ 0). subst (λ n. has_mark (RxDone (pair_of c a n)) told_rx ≡ true) (sym z)
      (or_left (is_mark (RxDone (pair_of c a 0)) (RxDone (pair_of c a 0))) _ (is_mark-self (RxDone (pair_of c a 0)))))
      (λ (z : o % 2 ≡ 1). subst (λ n. has_mark (RxDone (pair_of c a n)) told_rx ≡ true) (sym z)
      (or_right (is_mark (RxDone (pair_of c a 1)) (RxDone (pair_of c a 0))) _
      (or_left (is_mark (RxDone (pair_of c a 1)) (RxDone (pair_of c a 1))) _ (is_mark-self (RxDone (pair_of c a 1))))))
      (sides (o % 2) pair.side))
    where
      sides : (n : ℕ) → n < 2 → (n ≡ 0) ⊎ (n ≡ 1)
      sides n h = elim (cases_eq n 0) [ inl e ↦ inl e | inr e ↦ inr (omega (arith, h, e)) ]

  drained_rx : IsDrained c h told_rx (RxDone e) (Rx s)
  drained_rx = record {
    ring = (at_o.known, at_o.rx);
    later = omega arith;
    mark = at_o.pair_known;
    first = refl;
    owned = λ who is. is ∙ sym at_o.driver;
    listed = listed_rx;
    found = subst (λ n. (draining_of told_rx (Rx s) (own n h)).empty ≡ true) (sym app_at_o)
        (subst (λ n. (draining_of told_rx (Rx n) (own (caller_of c a) h)).empty ≡ true) (lane_rx c p q k o place.in_queues place.in_classes pair.there)
        (w.drains_rx hands manner c a (own (caller_of c a) h) (lane_on c o k) one (fit (caller_of c a)) (run.apps a one.known) (lane_below c o k place.in_classes)));
    none_late = subst (λ n. (telling_of (RxDone e) (Rx s) (own n h)).late ≡ false) (sym at_o.driver)
        (w.none_received_late wire c e s (received_by c lists verdicts e) (own e h) (whole_run (turn (seat_of wire c e)) (start (classes_of c) (received_by c lists verdicts e)) (own e h) (run.drivers e at_o.pair_known)));
  }

  pub received_all : peeked_of (Rx s) (own (caller_of c a) h) ≡ submitted_of (Rx s) (own e h)
  received_all =
      ap (λ n. peeked_of (Rx s) (own n h)) (sym app_at_o)
      ∙ passed c frames h told_rx (RxDone e) (Rx s) run.history drained_rx
      ∙ ap (λ n. submitted_of (Rx s) (own n h)) at_o.driver

  -- ---- the lane

  abbrev lane : ℕ
  lane = lane_on c o k

  rx_is : rx_of c a lane ≡ s
  rx_is = lane_rx c p q k o place.in_queues place.in_classes pair.there

  tx_is : tx_of c a lane ≡ t
  tx_is = lane_tx c p q k o place.in_queues place.in_classes pair.here

  lane_all : StaysOpen c a lane (own (caller_of c a) h) → AreAltered c.geometry manner.mangle (peeked_of (Rx s) (own (caller_of c a) h)) (submitted_of (Tx t) (own (caller_of c a) h))
  lane_all stays =
      subst (λ n. AreAltered c.geometry manner.mangle (peeked_of (Rx n) (own (caller_of c a) h)) (submitted_of (Tx t) (own (caller_of c a) h))) (lane_rx c p q k o place.in_queues place.in_classes pair.there)
      (subst (λ n. AreAltered c.geometry manner.mangle (peeked_of (Rx (rx_of c a (lane_on c o k))) (own (caller_of c a) h)) (submitted_of (Tx n) (own (caller_of c a) h))) (lane_tx c p q k o place.in_queues place.in_classes pair.here)
      (w.altered hands manner c a (own (caller_of c a) h) (lane_on c o k) one (fit (caller_of c a)) (run.apps a one.known) (lane_below c o k place.in_classes) stays))

  -- ---- the TX ring

  same_app : application_of (seat_of wire c d) ≡ a
  same_app = ap application_of (seat_is wire c p q k d t at_p)

  drained_tx : IsDrained c h (TxDone a ∷ []) (TxDone a) (Tx t)
  drained_tx = record {
    ring = (at_p.known, at_p.tx);
    later = omega arith;
    mark = one.known;
    first = refl;
    owned = λ who is. is ∙ sym app_at_p;
    listed = or_left (is_mark (TxDone a) (TxDone a)) false (is_mark-self (TxDone a));
    found = subst (λ n. (draining_of (TxDone a ∷ []) (Tx t) (own n h)).empty ≡ true) (sym at_p.driver)
        (subst (λ n. (draining_of (TxDone n ∷ []) (Tx t) (own d h)).empty ≡ true) same_app
        (w.drains_tx wire c d k (received_by c lists verdicts d) (own d h) (run.drivers d at_p.pair_known) place.in_classes));
    none_late = subst (λ n. (telling_of (TxDone a) (Tx t) (own n h)).late ≡ false) (sym app_at_p)
        (w.none_sent_late hands manner c a t (own (caller_of c a) h) one (fit (caller_of c a)) (run.apps a one.known));
  }

  pub peeked_sent : peeked_of (Tx t) (own d h) ≡ submitted_of (Tx t) (own (caller_of c a) h)
  peeked_sent =
      ap (λ n. peeked_of (Tx t) (own n h)) (sym at_p.driver)
      ∙ passed c frames h (TxDone a ∷ []) (TxDone a) (Tx t) run.history drained_tx
      ∙ ap (λ n. submitted_of (Tx t) (own n h)) app_at_p

  peeked_altered : StaysOpen c a lane (own (caller_of c a) h) → AreAltered c.geometry manner.mangle (submitted_of (Rx s) (own e h)) (peeked_of (Tx t) (own d h))
  peeked_altered stays =
      subst (λ xs. AreAltered c.geometry manner.mangle xs (peeked_of (Tx t) (own d h))) received_all
      (subst (AreAltered c.geometry manner.mangle (peeked_of (Rx s) (own (caller_of c a) h))) (sym peeked_sent) (lane_all stays))

  peeked_open : StaysOpen c a lane (own (caller_of c a) h) → manner.mangle ≡ None → peeked_of (Tx t) (own d h) ≡ submitted_of (Rx s) (own e h)
  peeked_open stays none =
      let xs = submitted_of (Rx s) (own e h) in
      let ys = peeked_of (Tx t) (own d h) in
      altered_same c.geometry xs ys (subst (λ mangle. AreAltered c.geometry mangle xs ys) none (peeked_altered stays))

  pub peeked_all : c.closing ≡ None → manner.mangle ≡ None → peeked_of (Tx t) (own d h) ≡ submitted_of (Rx s) (own e h)
  peeked_all closes none = peeked_open (none_closes c a lane (own (caller_of c a) h) closes) none

  -- ---- the packets

  abbrev input : List Judged
  input = received_judged c lists verdicts o q

  -- the disposals of what the receiving driver received
  abbrev ds : List Disposal
  ds = disposals_of (seat_of wire c e) input (attempts_of (own e h))

  pub whole_e : IsWholeDriverRun wire c e input (own e h)
  whole_e = subst (λ (l : List Judged). IsWholeDriverRun wire c e l (own e h)) (input_is c lists verdicts o q k e s at_o) (run.drivers e at_o.pair_known)

  pub laid : IsLaidOut c.geometry c.sg (with_disposal s input ds) (submitted_of (Rx s) (own e h))
  laid = w.delivers wire c e s input (own e h) seat_e (fit e) whole_e

  pub few : All (λ (packet : List ℕ). length packet ≤ packet_limit c) (with_disposal s input ds)
  few = All-weaker (IsSized c) (λ (packet : List ℕ). length packet ≤ packet_limit c) (λ packet sized. sized.few) (with_disposal s input ds) (w.sized wire c e s input (own e h) seat_e (fit e) whole_e)

  -- all whole packets are sent
  pub sent_wholes : sent_by c h d t ≡ map (bytes_of c.geometry c.sg) (whole_packets (packets c.geometry c.sg (peeked_of (Tx t) (own d h))))
  sent_wholes =
      let whole : List (List Item) = whole_packets (packets c.geometry c.sg (peeked_of (Tx t) (own d h))) in
      let done : (tx_work_of c t (own d h)).completed ≡ length whole =
      w.completes wire c d k (received_by c lists verdicts d) (own d h) seat_d (own_entries c frames h d run.history) (run.drivers d at_p.pair_known) place.in_classes in
      sent_in_order c frames h d t run.history
      ∙ ap (λ n. map (bytes_of c.geometry c.sg) (take n whole)) done
      ∙ ap (map (bytes_of c.geometry c.sg)) (take_all (length whole) whole (omega arith))

  pub delivered_wholes : map (bytes_of c.geometry c.sg) (whole_packets (packets c.geometry c.sg (submitted_of (Rx s) (own e h)))) ≡ forwarded wire c h lists verdicts p q k
  delivered_wholes = wholes c.geometry c.sg (with_disposal s input ds) (submitted_of (Rx s) (own e h)) run.history.opened.geometry laid few

  pub open_forwarded : StaysOpen c a lane (own (caller_of c a) h) → manner.mangle ≡ None → sent_by c h d t ≡ forwarded wire c h lists verdicts p q k
  open_forwarded stays none =
      sent_wholes ∙ ap (λ (l : List Item). map (bytes_of c.geometry c.sg) (whole_packets (packets c.geometry c.sg l))) (peeked_open stays none) ∙ delivered_wholes

  pub sent_forwarded : c.closing ≡ None → manner.mangle ≡ None → sent_by c h d t ≡ forwarded wire c h lists verdicts p q k
  sent_forwarded closes none = open_forwarded (none_closes c a lane (own (caller_of c a) h) closes) none

  -- whatever socket is closed, where the lane submitted the first of what it peeked it is the first of what was delivered
  pub sent_first : IsFront (submitted_of (Tx (tx_of c a lane)) (own (caller_of c a) h)) (peeked_of (Rx (rx_of c a lane)) (own (caller_of c a) h))
      → sent_by c h d t ≡ take (length (whole_packets (packets c.geometry c.sg (submitted_of (Tx t) (own (producer c (Tx t)) h))))) (forwarded wire c h lists verdicts p q k)
  sent_first front =
      let mine : List Told = own (caller_of c a) h in
      let out : List Item = submitted_of (Tx t) mine in
      let all : List Item = submitted_of (Rx s) (own e h) in
      let bytes = map (bytes_of c.geometry c.sg) in
      let on : IsFront out all = subst (IsFront out) received_all (subst (λ n. IsFront out (peeked_of (Rx n) mine)) rx_is (subst (λ n. IsFront (submitted_of (Tx n) mine) (peeked_of (Rx (rx_of c a lane)) mine)) tx_is front)) in
      let count = length (whole_packets (packets c.geometry c.sg out)) in
      sent_wholes
      ∙ ap (λ (l : List Item). bytes (whole_packets (packets c.geometry c.sg l))) peeked_sent
      ∙ ap bytes (first_wholes c.geometry c.sg out on.0) ∙ ap (λ (l : List Item). bytes (take count (whole_packets (packets c.geometry c.sg l)))) on.1
      ∙ sym (take-map (bytes_of c.geometry c.sg) count (whole_packets (packets c.geometry c.sg all)))
      ∙ ap (take count) delivered_wholes
      ∙ ap (λ n. take (length (whole_packets (packets c.geometry c.sg (submitted_of (Tx t) (own n h))))) (forwarded wire c h lists verdicts p q k)) (sym app_at_p)

  -- and they are no more than what was delivered, whatever is changed
  pub sent_fewer : c.closing ≡ None → (f : List ℕ → ℕ) → IsMeasured f → total f (sent_by c h d t) ≤ total f (forwarded wire c h lists verdicts p q k)
  sent_fewer closes f is =
      omega (
        arith,
        ap (total f) sent_wholes,
        altered_few c.geometry c.sg manner.mangle run.history.opened.geometry f is (with_disposal s input ds) (submitted_of (Rx s) (own e h)) (peeked_of (Tx t) (own d h)) laid (peeked_altered (none_closes c a lane (own (caller_of c a) h) closes)),
      )

  -- where the wire waits, what was delivered is what is expected
  pub sent_expected : c.closing ≡ None → manner.mangle ≡ None → wire ≡ Wait → sent_by c h d t ≡ expected c lists verdicts p q k
  sent_expected closes none waits =
      let bound : IsBoundTo c o q s = record { known = at_o.known; on_port = at_o.on_port; on_queue = at_o.on_queue } in
      sent_forwarded closes none
      ∙ ap (with_disposal s input) (w.disposed wire c e input (own e h) waits closes (fit e) whole_e)
      ∙ ap (λ (x : Seat). with_disposal s input (map (disposal_in x) input)) (seat_is wire c o q k e s at_o)
      ∙ with_disposal_is (seat_at wire c e o q) s input
      ∙ ap bytes_in (delivered_is wire c e o q k input bound)
