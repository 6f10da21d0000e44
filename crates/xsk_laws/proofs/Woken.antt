-- No wake is lost: the law, proved of what a driver watches while it is parked, and of its application, which clears no kick.
use Rattle.std.proofs.Common.{◌≡◌, ℕ, ◌*◌, ◌/◌, ◌%◌, ◌+◌, ◌<◌, ◌≤◌, ◌⊎◌, Bool, true, false, cond, None, Some, List, [], ◌++◌, length, refl, sym, ap, subst, ◌∙◌, ⊎_elim, eq-eqb, arith}
use Rattle.std.proofs.lemmas.Nat.{div_below, div-add-mod'}
use Rattle.xsk_umem.specs.Frame.{Frame}
use Rattle.xsk_model.specs.Config.{Config, IsConfig, IsRegular, IsBound, HasRing, pair_at, socket_at, classes_of}
use Rattle.xsk_model.specs.Rings.{port_of, queue_of, driver_of, app_of, caller_of}
use Rattle.xsk_model.specs.Marks.{apps_of}
use Rattle.xsk_model.specs.Entry.{Entry, own}
use Rattle.xsk_model.specs.History.{IsHistory, state_after}
use Rattle.xsk_model.specs.Opening.{opening}
use Rattle.xsk_model.specs.Object.{ring_at, mark_at}
use Rattle.xsk_model.specs.Swaps.{last_set}
use Rattle.xsk_model.specs.declared.call.Ring.TheVariants.{Fill, Rx, Tx}
use Rattle.xsk_model.specs.declared.call.Mark.TheVariants.{NeedFill, NeedTx, Kick, RxDone, TxDone, Closing, Acked}
use Rattle.xsk_model.proofs.Along.{along}
use Rattle.xsk_model.proofs.MarkNumbers.{opening_mark_is}
use Rattle.xsk_model.proofs.Folds.{own-append}
use Rattle.xsk_model.proofs.Histories.{history_first}
use Rattle.xsk_model.proofs.Roles.{IsPlaced, app_below, pair_on_found, pair_on_only, ring_placed}
use Rattle.xsk_turns.specs.AppLaw.{SetsKicks}
use Rattle.xsk_turns.specs.AppOwned.{IsApp}
use Rattle.xsk_turns.specs.Hands.{IsAppRunOf}
use Rattle.xsk_turns.specs.Turns.{Judged, seat_of, start, turn, closing_on, IsDriverRun}
use Rattle.xsk_turns.specs.Owned.{socket_at_class}
use Rattle.xsk_turns.specs.Wakes.{IsParked, IsOwedOn, IsOwedEnd, IsOwedClosing, app_for, owes_on, owes_end, IsWoken, NoWakeIsLost}
use Rattle.xsk_turns.specs.Watching.{Watching, IsWatched, WatchesAll, watching_of}
use Rattle.xsk_turns.specs.Workers.{input_of}
use Rattle.xsk_turns.specs.declared.manner.Manner.{Manner}
use Rattle.xsk_turns.specs.declared.wire.Wire.{Wire}
use Rattle.xsk_turns.proofs.Hands.{hands_only_set_kicks, whole_run_of}
use Rattle.xsk_turns.proofs.Fitting.{closing_known, fit_in_history}
use Rattle.xsk_turns.proofs.ScriptLemmas.{run_front, whole_run}
use Rattle.xsk_turns.proofs.Watching.{parked_watches}
use Rattle.xsk_laws.specs.Laws.{received_by}
use Rattle.xsk_laws.specs.Woken.{NoWakesAreLost, NoHandLosesWakes, NoneIsLostInWholeRuns}
use Rattle.xsk_laws.proofs.Waking.{IsKept, IsTarget, IsKeptOn, sets_front, keeps_on}
use Rattle.xsk_laws.proofs.WakingEnd.{IsEnding, IsKeptAtEnd, keeps_at_end}
use Rattle.xsk_laws.proofs.WakingClosing.{IsShutting, IsKeptAtClosing, keeps_at_closing, IsAcked, keeps_acked}

-- a flag that is 1 is set, so what it stands for is watched, and the wake comes
is_set : (b : Bool) (n : ℕ) → n ≡ cond b 1 0 → n ≡ 1 → b ≡ true
is_set true n e f = refl
is_set false n e f = absurd (omega (arith, e, f))

wakes : (s : Watching) (owes : Bool) (flag kick : ℕ) (due : Type 0) → IsWatched s → IsKept s owes flag kick due → flag ≡ 1 → due → (kick ≡ 1) ⊎ (owes ≡ true)
wakes s owes flag kick due watched h set x = h.woken (watched (is_set s.set flag h.set set)) x

none_seen : (owes : Bool) (flag kick : ℕ) (due : Type 0) → flag ≡ 0 → IsKept (record { set = false; watched = false }) owes flag kick due
none_seen owes flag kick due e = record { set = e; armed = λ watched. absurd (cc); woken = λ watched x. absurd (cc) }

module _ (wire : Wire) (c : Config) (input : List Judged) (frames : List Frame) (h : List Entry) (d : ℕ) (regular : IsRegular c) (history : IsHistory c frames h) (below : d < length c.pairs)
    (driver : IsDriverRun wire c d input (own d h)) (sets : SetsKicks (own (app_of c (Fill d)) h)) where
  config : IsConfig c
  config = history.opened.config

  abbrev w : ℕ
  w = app_of c (Fill d)

  known : app_for c d < apps_of c
  known =
      let at : IsPlaced c (Fill d) = ring_placed c (Fill d) config below in
      app_below c.ports c.queues (pair_at c.pairs d).port (pair_at c.pairs d).queue config.ports at.port at.queue

  one : IsApp c (app_for c d)
  one = record { config = config; regular = regular; geometry = history.opened.geometry; known = known }

  waker : (who : ℕ) → (who ≡ d) ⊎ (who ≡ w) → (who ≡ d → ⊥) → who ≡ w
  waker who either other = ⊎_elim (λ (e : who ≡ d). absurd (other e)) (λ (e : who ≡ w). e) either

  watches : IsParked d (own d h) → WatchesAll c d (own d h)
  watches parked =
      subst (WatchesAll c d) (sym parked.1) (parked_watches wire c d input parked.0 (subst (IsDriverRun wire c d input) parked.1 driver))

  -- ---- FILL

  fill_target : IsTarget c d w (Fill d) (NeedFill d)
  fill_target = record {
    ring = below;
    marked = below;
    kicked = below;
    consumes = refl;
    produces = refl;
    numbers = λ value k. k;
    owns = λ who k. k;
    wakes = waker;
    apart = refl;
  }

  -- what the flag of FILL tells
  pub fill_kept : IsKept (watching_of (NeedFill d) (Fill d) (Kick d) (own d h)) (owes_on d (Fill d) (NeedFill d) (own w h)) (mark_at c (state_after c frames h) (NeedFill d)) (mark_at c (state_after c frames h) (Kick d)) (1 ≤ length (ring_at c (state_after c frames h) (Fill d)).out)
  fill_kept =
      let first : IsKeptOn c frames config d w (Fill d) (NeedFill d) fill_target (opening c frames) [] =
      λ k. none_seen _ _ _ _ (opening_mark_is c frames (NeedFill d) history.opened.config below) in
      along (IsKeptOn c frames config d w (Fill d) (NeedFill d) fill_target) c frames h history (keeps_on c frames config d w (Fill d) (NeedFill d) fill_target) first sets

  fill : IsOwedOn c (state_after c frames h) (own d h) d (Fill d) (NeedFill d) → IsWoken c (state_after c frames h) d (owes_on d (Fill d) (NeedFill d) (own w h))
  fill owed = wakes _ _ _ _ _ (watches owed.parked).fill fill_kept owed.set owed.waits

  -- ---- a TX ring

  module _ (t : ℕ) (has : HasRing c (Tx t)) (mine : driver_of c (Tx t) ≡ d) where
    bound : IsBound c.ports c.queues c.pairs (socket_at c.sockets t)
    bound = config.bound t (record { port = 0; queue = 0; rx = None; tx = None }) has.0

    -- it is the TX ring of a class
    of_pair : driver_of c (Tx t) ≡ t / classes_of c
    of_pair =
        let within : t / classes_of c < length c.pairs = div_below t (classes_of c) (length c.pairs) some (omega (arith, has.0, regular.sockets)) in
        let seat = regular.seats (t / classes_of c) within in
        let at = regular.places t has.0 in
        pair_on_only c.pairs (port_of c (Tx t)) (queue_of c (Tx t)) (t / classes_of c) bound.pair within (seat.0 ∙ sym at.0, seat.1 ∙ sym at.1)
      where
        some : 1 ≤ classes_of c
        some = omega (arith, regular.classes)

    class_below : t % classes_of c < classes_of c
    class_below = let few = regular.classes in omega (arith, few)

    socket : socket_at_class c d (t % classes_of c) ≡ t
    socket = ap (λ (n : ℕ). n * classes_of c + t % classes_of c) (sym mine ∙ of_pair) ∙ div-add-mod' t (classes_of c)

    -- its application is that of the pair
    same_app : app_of c (Tx t) ≡ w
    same_app =
        let at = (pair_on_found c.pairs (port_of c (Tx t)) (queue_of c (Tx t)) (omega (arith, bound.pair))).1 in
        let port : port_of c (Tx t) ≡ (pair_at c.pairs d).port = sym at.0 ∙ ap (λ n. (pair_at c.pairs n).port) mine in
        let queue : queue_of c (Tx t) ≡ (pair_at c.pairs d).queue = sym at.1 ∙ ap (λ n. (pair_at c.pairs n).queue) mine in
        ap (λ (n : ℕ). caller_of c ((n / 2) * c.queues + queue_of c (Tx t))) port ∙ ap (λ (n : ℕ). caller_of c (((pair_at c.pairs d).port / 2) * c.queues + n)) queue

    tx_target : IsTarget c d w (Tx t) (NeedTx t)
    tx_target = record {
      ring = has;
      marked = has;
      kicked = below;
      consumes = mine;
      produces = same_app;
      numbers = λ value k. k;
      owns = λ who k. k ∙ mine;
      wakes = waker;
      apart = refl;
    }

    -- what its flag tells
    pub tx_kept : IsKept (watching_of (NeedTx t) (Tx t) (Kick d) (own d h)) (owes_on d (Tx t) (NeedTx t) (own w h)) (mark_at c (state_after c frames h) (NeedTx t)) (mark_at c (state_after c frames h) (Kick d)) (1 ≤ length (ring_at c (state_after c frames h) (Tx t)).out)
    tx_kept =
        let first : IsKeptOn c frames config d w (Tx t) (NeedTx t) tx_target (opening c frames) [] =
        λ k. none_seen _ _ _ _ (opening_mark_is c frames (NeedTx t) history.opened.config has) in
        along (IsKeptOn c frames config d w (Tx t) (NeedTx t) tx_target) c frames h history (keeps_on c frames config d w (Tx t) (NeedTx t) tx_target) first sets

    tx : IsOwedOn c (state_after c frames h) (own d h) d (Tx t) (NeedTx t) → IsWoken c (state_after c frames h) d (owes_on d (Tx t) (NeedTx t) (own w h))
    tx owed =
        let watched : IsWatched (watching_of (NeedTx t) (Tx t) (Kick d) (own d h)) =
        subst (λ n. IsWatched (watching_of (NeedTx n) (Tx n) (Kick d) (own d h))) socket ((watches owed.parked).tx (t % classes_of c) class_below) in
        wakes _ _ _ _ _ watched tx_kept owed.set owed.waits

  -- ---- the end

  ending : IsEnding c d w (app_for c d)
  ending = record { received = below; sent = known; kicked = below; tells = λ who k. k; wakes = waker }

  at_end : IsOwedEnd c (state_after c frames h) (own d h) d → IsWoken c (state_after c frames h) d (owes_end d (TxDone (app_for c d)) (own w h))
  at_end owed =
      let first : IsKeptAtEnd c frames config d w (app_for c d) ending (opening c frames) [] =
      λ k. none_seen _ _ _ _ (opening_mark_is c frames (RxDone d) history.opened.config below) in
      let kept = along (IsKeptAtEnd c frames config d w (app_for c d) ending) c frames h history (keeps_at_end c frames config d w (app_for c d) ending) first in
      wakes _ _ _ _ _ (watches owed.parked).ends (kept sets) owed.received owed.sent

  -- ---- a socket that is closed

  module _ (x : ℕ) (is : c.closing ≡ Some x) (mine : driver_of c (Rx x) ≡ d) where
    known_socket : x < length c.sockets
    known_socket = closing_known c x config is

    bound_socket : IsBound c.ports c.queues c.pairs (socket_at c.sockets x)
    bound_socket = config.bound x (record { port = 0; queue = 0; rx = None; tx = None }) known_socket

    -- it is one of the pair
    socket_of_pair : driver_of c (Rx x) ≡ x / classes_of c
    socket_of_pair =
        let within : x / classes_of c < length c.pairs = div_below x (classes_of c) (length c.pairs) some (omega (arith, known_socket, regular.sockets)) in
        let seat = regular.seats (x / classes_of c) within in
        let at = regular.places x known_socket in
        pair_on_only c.pairs (port_of c (Rx x)) (queue_of c (Rx x)) (x / classes_of c) bound_socket.pair within (seat.0 ∙ sym at.0, seat.1 ∙ sym at.1)
      where
        some : 1 ≤ classes_of c
        some = omega (arith, regular.classes)

    to_acknowledge : closing_on d (classes_of c) c.closing ≡ Some x
    to_acknowledge = ap (closing_on d (classes_of c)) is ∙ ap (λ b. cond b (Some x) None) (eq-eqb (x / classes_of c) d (sym socket_of_pair ∙ mine))

    -- and its application that of the pair
    app_of_socket : app_of c (Rx x) ≡ w
    app_of_socket =
        let at = (pair_on_found c.pairs (port_of c (Rx x)) (queue_of c (Rx x)) (omega (arith, bound_socket.pair))).1 in
        let port : port_of c (Rx x) ≡ (pair_at c.pairs d).port = sym at.0 ∙ ap (λ n. (pair_at c.pairs n).port) mine in
        let queue : queue_of c (Rx x) ≡ (pair_at c.pairs d).queue = sym at.1 ∙ ap (λ n. (pair_at c.pairs n).queue) mine in
        ap (λ (n : ℕ). caller_of c ((n / 2) * c.queues + queue_of c (Rx x))) port ∙ ap (λ (n : ℕ). caller_of c (((pair_at c.pairs d).port / 2) * c.queues + n)) queue

    shutting : IsShutting c d w x
    shutting = record { shut = known_socket; kicked = below; tells = λ who k. k.1 ∙ app_of_socket; wakes = waker }

    unacknowledged : mark_at c (state_after c frames h) (Acked x) ≡ 0 → last_set (Acked x) (own d h) ≡ Some 1 → ⊥
    unacknowledged fed set =
        let one = along (IsAcked c frames config x known_socket) c frames h history (keeps_acked c frames config x known_socket) (λ who e. absurd (cc)) d set in
        omega (arith, fed, one)

    at_closing : IsOwedClosing c (state_after c frames h) (own d h) d x → IsWoken c (state_after c frames h) d (owes_end d (Closing x) (own w h))
    at_closing owed =
        let kept = along (IsKeptAtClosing c frames config d w x shutting) c frames h history (keeps_at_closing c frames config d w x shutting) (λ k watched over. absurd (cc)) sets in
        kept ((watches owed.parked).closing x to_acknowledge (unacknowledged owed.fed)) owed.closed

  pub no_wake_is_lost : NoWakeIsLost c frames h d
  no_wake_is_lost = record { fill = fill; tx = λ t has mine. tx t has mine; at_end = at_end; at_closing = λ x is mine. at_closing x is mine }

-- the application of a pair
paired_app : (c : Config) (frames : List Frame) (h : List Entry) (d : ℕ) → IsRegular c → IsHistory c frames h → d < length c.pairs → IsApp c (app_for c d)
paired_app c frames h d regular history below =
    let config = history.opened.config in
    let at : IsPlaced c (Fill d) = ring_placed c (Fill d) config below in
    record { config = config; regular = regular; geometry = history.opened.geometry; known = app_below c.ports c.queues (pair_at c.pairs d).port (pair_at c.pairs d).queue config.ports at.port at.queue }

-- a front of calls that only set kicks is one
sets_first : (who : ℕ) (h more : List Entry) → SetsKicks (own who (h ++ more)) → SetsKicks (own who h)
sets_first who h more sets = (sets_front (own who h) (own who more) (subst SetsKicks (own-append who h more) sets)).0

driver_first : (wire : Wire) (c : Config) (input : List Judged) (d : ℕ) (h more : List Entry) → IsDriverRun wire c d input (own d (h ++ more)) → IsDriverRun wire c d input (own d h)
driver_first wire c input d h more run = run_front (turn (seat_of wire c d)) (start (classes_of c) input) (own d h) (own d more) (subst (IsDriverRun wire c d input) (own-append d h more) run)

-- by any number of hands, where the driver's calls are a run, and the application's too
lost_by_none : (hands : ℕ) (manner : Manner) (wire : Wire) (c : Config) (input : List Judged) (frames : List Frame) (h more : List Entry) (d : ℕ) → IsRegular c → IsHistory c frames (h ++ more) → d < length c.pairs
    → IsDriverRun wire c d input (own d (h ++ more)) → IsAppRunOf hands manner c (app_for c d) (own (app_of c (Fill d)) (h ++ more)) → NoWakeIsLost c frames h d
lost_by_none hands manner wire c input frames h more d regular history below driver app =
    let w = app_of c (Fill d) in
    let one = paired_app c frames (h ++ more) d regular history below in
    let fit = fit_in_history c frames (h ++ more) w history in
    no_wake_is_lost wire c input frames h d regular (history_first c frames h more history) below (driver_first wire c input d h more driver)
    (sets_first w h more (hands_only_set_kicks hands manner c (app_for c d) (own w (h ++ more)) one fit app))

pub no_hand_loses_wakes : NoHandLosesWakes
no_hand_loses_wakes hands s frames h more d are below =
    let c = s.config in
    let known : app_for c d < apps_of c = (paired_app c frames (h ++ more) d are.regular are.history below).known in
    lost_by_none hands s.manner s.wire c (input_of s d) frames h more d are.regular are.history below ((are.runs d (omega (arith, below))).driver below)
    ((are.runs (caller_of c (app_for c d)) (omega (arith, known))).app (app_for c d) refl)

pub no_wakes_are_lost : NoWakesAreLost
no_wakes_are_lost s frames h more d are below =
    let c = s.config in
    let known : app_for c d < apps_of c = (paired_app c frames (h ++ more) d are.steady.regular are.history below).known in
    lost_by_none 1 s.manner s.wire c (input_of s d) frames h more d are.steady.regular are.history below ((are.runs d (omega (arith, below))).driver below)
    ((are.runs (caller_of c (app_for c d)) (omega (arith, known))).app (app_for c d) refl)

pub none_is_lost_in_whole_runs : NoneIsLostInWholeRuns
none_is_lost_in_whole_runs hands manner wire c lists verdicts frames h more d are below =
    let input = received_by c lists verdicts d in
    let known : app_for c d < apps_of c = (paired_app c frames (h ++ more) d are.steady.regular are.history below).known in
    lost_by_none hands manner wire c input frames h more d are.steady.regular are.history below
    (whole_run (turn (seat_of wire c d)) (start (classes_of c) input) (own d (h ++ more)) (are.drivers d below))
    (whole_run_of hands manner c (app_for c d) (own (caller_of c (app_for c d)) (h ++ more)) (are.apps (app_for c d) known))
