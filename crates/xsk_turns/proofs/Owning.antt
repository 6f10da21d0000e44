-- At each of its calls a driver has the frames that it peeked and didn't submit, and the call is legal.
use Rattle.std.proofs.Common.{◌^◌, ◌≡◌, ℕ, zero, suc, ◌+◌, ◌-◌, ◌*◌, ◌<◌, ◌≤◌, Bool, true, false, cond, Some, inl, List, [], ◌∷◌, ◌++◌, length, map, drop, get_or, flat_map, replicate, refl, sym, ap, ◌∙◌, subst, arith, append-nil, append_assoc, leb-true, leb-false, ltb-false}
use Rattle.std.proofs.lemmas.List.{length-replicate, take_all}
use Rattle.std.proofs.lemmas.List.Elements.{All-nil}
use Rattle.std.proofs.lemmas.List.Sums.{sum_by-cons}
use Rattle.xsk_turns.proofs.Object.{payload_of, Frame, packets_from, Config, pair_at, classes_of, times, numbers, IsWhole, taken, room_of, IsLegal, Fits, OwnGoesOn}
use Rattle.xsk_turns.proofs.Calls.{Item, Told, with_told, Fill, Comp, Rx, Tx, NeedFill, NeedTx, Kick, RxDone, Gone, TxDone, Cell, BouncedMark, Call, Submit, Peek, Swap, Reply, Granted, Full, Items, Old}
use Rattle.xsk_model.specs.declared.call.Mark.TheVariants.{Closing, Acked}
use Rattle.xsk_turns.proofs.LegalCalls.{had_told, legal_reserve, legal_peek, legal_release, legal_look, legal_swap, room_told, held_told, IsDue}
use Rattle.xsk_turns.specs.Script.{Script, ask, begun, Asks, Leaves, Ends}
use Rattle.xsk_turns.specs.Turns.{Seat, Judged, Kept, Noted, seat_of, start, turn, application_of, bounce_of, bounced_among, cell_of, redirect_to, limit_of, pieces_of, returned, frames_in, bad_ones, group_at, supplied, gathered}
use Rattle.xsk_turns.specs.declared.wire.Wire.{Wire}
use Rattle.xsk_turns.specs.declared.disposal.Disposal.{Disposal}
use Rattle.xsk_turns.specs.declared.disposal.Disposal.TheVariants.{Delivered, NoFrames, RxFull, TooLong, Runt, Missed, Passed, Dropped, Bounced}
use Rattle.xsk_turns.proofs.Disposing.{keeps_disposals}
use Rattle.xsk_turns.specs.Owned.{IsSeat, IsHere, socket_at_class, IsSpare, Owned, AllFit, Suits, KeepsFrames, KeepsFramesAtEnd}
use Rattle.xsk_turns.proofs.Bouncing.{law as counts_bounced, At as CountsAt, Nothing as SaysNothing, Ended as EndsSo}
use Rattle.xsk_turns.proofs.Completing.{whole_some}
use Rattle.xsk_turns.proofs.Layouts.{pieces_some, few_pieces}
use Rattle.xsk_turns.proofs.Legality.{first_whole, legal_rx, owned_rx, legal_comp, owned_comp}
use Rattle.xsk_turns.proofs.Owned.{Has as HasLists, HasKept, IsQuiet, owned_quiet, times-kept, has_told, has_fill, has_tx}
use Rattle.xsk_turns.proofs.Places.{batch_some, batch_few, class_here, rx_ring, tx_ring, caller_known, port_known, app_known}
use Rattle.xsk_turns.proofs.Rooms.{fill_frames, all_whole, lost_few}
use Rattle.xsk_turns.proofs.Acknowledging.{redirects, closing_is, closing_here, IsReady, ready_at}
use Rattle.xsk_turns.proofs.Walks.{Premise, MeetAlong, release_due, meet_weaker}
use Rattle.xsk_turns.proofs.DriverStages.{Stage, Trying, Sending, Idling, Family, Point, Known, asked, LookClosing, TellAcked, TellRxDone, TellBounced, LookCell, PeekFill, ReleaseFill, ReserveRx, SubmitRx, ReserveComp, SubmitComp, PeekTx, ReleaseTx, LookTxDone, TellGone, ArmFill, ArmTx, LookEnd, LookKick, ClearKick, DisarmFill, DisarmTx, call_at, kept_at, IsTried, fill_items, tx_items, rx_granted, comp_granted, comp_full, point_of, reply_of, visited, idles, arms, seeks, misses, looks, finds, parks, disarmed, Said, AtEntries, AtSilent, IsLaw, together}
use Rattle.xsk_turns.proofs.DriverWalk.{at_call, at_end, meets_said}

-- ---- a packet that goes to a socket

pub redirect_here : (c : Config) (pair number socket : ℕ) → redirect_to c (pair_at c.pairs pair).port (pair_at c.pairs pair).queue number ≡ Some socket → IsHere c pair socket
redirect_here c pair number socket h = (redirects c pair number socket h).0

-- ---- the law

module _ (wire : Wire) (c : Config) (pair : ℕ) (is : IsSeat c pair) where
  abbrev seat : Seat
  seat = seat_of wire c pair

  abbrev Has : Kept → List Told → Type 0
  Has kept l = HasKept c pair kept l

  -- the calls that were made were legal, and their replies fit
  abbrev Answers : Premise Kept
  Answers kept l call reply = IsLegal c l pair call × Fits c l call reply

  -- one packet more can be counted
  abbrev Countable : Kept → Type 0
  Countable kept = suc (bounced_among kept.disposals) < 2 ^ 64

  abbrev Asked : Said
  Asked kept call l = Owned c pair kept call l × (IsReady c l call → Countable kept → IsLegal c l pair call)

  abbrev Ended : Kept → List Told → Type 0
  Ended kept l = Has kept l × (kept.finished ≡ [])

  -- what is due, and that a driver is idle with finished packets only where COMPLETION was full
  abbrev Beside : Stage → Noted → Kept → List Told → Type 0
  Beside (Trying look packet s due) noted kept l = IsDue due l
  Beside (Sending look k due) noted kept l = IsDue due l
  Beside Idling noted kept l = noted.full ≡ false → kept.finished ≡ []
  Beside place noted kept l = Unit {0}

  abbrev At : Family
  At place noted kept l = Has kept l × Beside place noted kept l

  -- a call that moves no frame, and a reply with which nothing comes
  quiet : (kept : Kept) (call : Call) (l : List Told) → IsQuiet call → Has kept l → IsLegal c l pair call → Asked kept call l
  quiet kept call l q h legal = (owned_quiet c pair kept call l q h, λ ready few. legal)

  told : (kept : Kept) (call : Call) (reply : Reply) (l : List Told) → taken reply ≡ [] → Asked kept call l → Answers kept l call reply → Has kept (with_told l call reply)
  told kept call reply l none asked q = has_told c pair kept call reply l asked.0 q.0 q.1 none

  pieces_few : (packet : List ℕ) → length packet ≤ limit_of seat → pieces_of seat packet ≤ 18
  pieces_few packet short = by_sg c.sg refl
    where
      by_sg : (b : Bool) → c.sg ≡ b → pieces_of seat packet ≤ 18
      by_sg true e = few_pieces c.geometry is.geometry 18 packet (subst (λ (b : Bool). length packet ≤ cond b 18 1 * payload_of c.geometry) e short)
      by_sg false e = let one = few_pieces c.geometry is.geometry 1 packet (subst (λ (b : Bool). length packet ≤ cond b 18 1 * payload_of c.geometry) e short) in omega (arith, one)

  -- a packet that is tried is neither too short nor too long, and its socket is here
  module _ (packet : Judged) (s : ℕ) (coming : List Judged) (tried : IsTried seat Answers coming packet s) where
    long : 14 ≤ length packet.bytes
    long = ltb-false (length packet.bytes) 14 tried.next.long

    short : length packet.bytes ≤ limit_of seat
    short = ltb-false (limit_of seat) (length packet.bytes) tried.fits

    few : pieces_of seat packet.bytes ≤ 18
    few = pieces_few packet.bytes short

    here : IsHere c pair s
    here = redirect_here c pair tried.number s tried.target

  -- a flag is swapped
  flags_fill : (kept : Kept) (l : List Told) (value : ℕ) → value ≤ 1 → Has kept l → Asked kept (Swap (NeedFill pair) value) l
  flags_fill kept l value few h = quiet kept _ l tt h (legal_swap c pair l (caller_known c pair is) (NeedFill pair) value is.known (refl, tt) few)

  flags_tx : (k : ℕ) (kept : Kept) (l : List Told) (value : ℕ) → k < classes_of c → value ≤ 1 → Has kept l → Asked kept (Swap (NeedTx (socket_at_class c pair k)) value) l
  flags_tx k kept l value within few h =
      let s = socket_at_class c pair k in
      let ring = tx_ring c pair is s (class_here c pair is k within) in
      quiet kept _ l tt h (legal_swap c pair l (caller_known c pair is) (NeedTx s) value ring.0 (ring.1, tt) few)

  abbrev Counts : Family
  Counts place noted kept l = CountsAt seat Answers place noted kept l

  calls : (p : Point) (noted : Noted) (kept : Kept) (l : List Told) → Known seat Answers p noted kept → Counts (asked seat p kept).0 noted kept l → At (asked seat p kept).0 noted kept l → Asked (kept_at seat p kept) (call_at seat p kept) l
  calls (LookClosing s) noted kept l known counts h =
      quiet kept _ l tt h.0 (legal_look c pair l (caller_known c pair is) (Closing s) (closing_here c pair is s (closing_is pair (classes_of c) s c.closing known.0).1).known)
  calls (TellAcked s) noted kept l known counts h =
      let closing = closing_is pair (classes_of c) s c.closing known.0 in
      let here = closing_here c pair is s closing.1 in
      (owned_quiet c pair kept _ l tt h.0, λ ready few. legal_swap c pair l (caller_known c pair is) (Acked s) 1 here.known ((closing.0, (rx_ring c pair is s here).1), (refl, ready.1.0, ready.1.1)) (omega arith))
  calls TellRxDone noted kept l known counts h = quiet kept _ l tt h.0 (legal_swap c pair l (caller_known c pair is) (RxDone pair) 1 is.known (refl, tt) (omega arith))
  calls (TellBounced packet) noted kept l known counts h =
      let call = Swap (BouncedMark pair) (suc (bounced_among kept.disposals)) in
      (owned_quiet c pair kept call l tt h.0, λ ready few. legal_swap c pair l (caller_known c pair is) (BouncedMark pair) (suc (bounced_among kept.disposals)) is.known (refl, ap suc (sym counts)) few)
  calls (LookCell packet) noted kept l known counts h = quiet kept _ l tt h.0 (legal_look c pair l (caller_known c pair is) (Cell seat.port (cell_of packet.verdict)) (port_known c pair is, leb-false _ _ known.cell))
  calls (PeekFill look packet s) noted kept l known counts h =
      let below = leb-false (pieces_of seat packet.bytes) (length kept.spare) known.1 in
      let few = few packet s kept.coming known.0 in
      quiet kept _ l tt h.0 (legal_peek c pair l (caller_known c pair is) (Fill pair) (pieces_of seat packet.bytes - length kept.spare) is.known refl (omega (arith, below)) (omega (arith, few)))
  calls (ReleaseFill look packet s n) noted kept l known counts h = quiet kept _ l tt h.0 (legal_release c pair l (caller_known c pair is) (Fill pair) n is.known refl h.1.0 h.1.1 h.1.2)
  calls (ReserveRx packet s) noted kept l known counts h =
      let ring = rx_ring c pair is s (here packet s kept.coming known.0) in
      let some = pieces_some c.geometry is.geometry packet.bytes (omega (arith, long packet s kept.coming known.0)) in
      (owned_quiet c pair kept _ l tt h.0, λ ready counted. legal_reserve c pair l (caller_known c pair is) (Rx s) (pieces_of seat packet.bytes) ring.0 ring.1 some (omega (arith, few packet s kept.coming known.0)) ready.0)
  calls (SubmitRx packet s) noted kept l known counts h =
      let long = long packet s kept.coming known.0 in
      let short = short packet s kept.coming known.0 in
      let few = few packet s kept.coming known.0 in
      let here = here packet s kept.coming known.0 in
      let enough = leb-true _ _ known.1 in
      (owned_rx c pair s is kept l h.0 packet.bytes long short few enough here, λ ready counted. legal_rx c pair s is kept l h.0 packet.bytes long short few enough here h.1 ready.0)
  calls (ReserveComp k packet later) noted kept l known counts h =
      let some : 1 ≤ length kept.finished = omega (arith, ap length known) in
      let whole = subst (λ (ps : List (List Item)). IsWhole c.geometry c.sg (get_or ps 0 [])) known (first_whole c pair kept l h.0 some) in
      quiet kept _ l tt h.0 (legal_reserve c pair l (caller_known c pair is) (Comp pair) (length packet) is.known refl (whole_some c packet whole) (omega (arith, whole.few)) tt)
  calls (SubmitComp k packet later) noted kept l known counts h =
      let some : 1 ≤ length kept.finished = omega (arith, ap length known) in
      let room = subst (λ (ps : List (List Item)). length (get_or ps 0 []) ≤ room_of (Comp pair) l) (sym known) h.1 in
      let legal = legal_comp c pair is kept l h.0 some room in
      subst (λ (ps : List (List Item)). Asked (record kept { finished = drop 1 ps }) (Submit (Comp pair) (map returned (get_or ps 0 []))) l) known (owned_comp c pair is kept l h.0 some legal, λ ready counted. legal)
  calls (PeekTx look k) noted kept l known counts h =
      let s = socket_at_class c pair k in
      let ring = tx_ring c pair is s (class_here c pair is k known.0) in
      quiet kept _ l tt h.0 (legal_peek c pair l (caller_known c pair is) (Tx s) seat.batch ring.0 ring.1 (batch_some c is.config) (batch_few c))
  calls (ReleaseTx look k n) noted kept l known counts h =
      let s = socket_at_class c pair k in
      let ring = tx_ring c pair is s (class_here c pair is k known) in
      quiet kept _ l tt h.0 (legal_release c pair l (caller_known c pair is) (Tx s) n ring.0 ring.1 h.1.0 h.1.1 h.1.2)
  calls LookTxDone noted kept l known counts h = quiet kept _ l tt h.0 (legal_look c pair l (caller_known c pair is) (TxDone (application_of seat)) (app_known c pair is))
  calls TellGone noted kept l known counts h = quiet kept _ l tt h.0 (legal_swap c pair l (caller_known c pair is) (Gone pair) 1 is.known (refl, tt) (omega arith))
  calls ArmFill noted kept l known counts h = flags_fill kept l 1 (omega arith) h.0
  calls (ArmTx k) noted kept l known counts h = flags_tx k kept l 1 known (omega arith) h.0
  calls LookEnd noted kept l known counts h = quiet kept _ l tt h.0 (legal_look c pair l (caller_known c pair is) (TxDone (application_of seat)) (app_known c pair is))
  calls (LookKick frames) noted kept l known counts h = quiet kept _ l tt h.0 (legal_look c pair l (caller_known c pair is) (Kick pair) is.known)
  calls (ClearKick frames) noted kept l known counts h = quiet kept _ l tt h.0 (legal_swap c pair l (caller_known c pair is) (Kick pair) 0 is.known (inl refl, tt) (omega arith))
  calls DisarmFill noted kept l known counts h = flags_fill kept l 0 (omega arith) h.0
  calls (DisarmTx k) noted kept l known counts h = flags_tx k kept l 0 known.1 (omega arith) h.0

  -- frames that come by FILL, and items by the TX ring of a class
  fill_comes : (n : ℕ) (kept : Kept) (items : List Item) (l : List Told) → n + length kept.spare ≤ 18 → Asked kept (Peek (Fill pair) n) l → Answers kept l (Peek (Fill pair) n) (Items items)
      → Has (supplied seat kept items) (with_told l (Peek (Fill pair) n) (Items items)) × IsDue (release_due (Fill pair) (length items)) (with_told l (Peek (Fill pair) n) (Items items))
  fill_comes n kept items l few a q = (
    subst (λ (fs : List Frame). HasLists c pair (kept.spare ++ fs) kept.groups kept.finished kept.lost (with_told l (Peek (Fill pair) n) (Items items))) (sym (all_whole c.geometry (Fill pair) items q.1.lawful))
        (has_fill c pair n kept items l a.0 q.0 q.1 few (fill_frames c pair n l items q.1.lawful)),
    (q.1.some, omega (arith, q.1.few, few), held_told l (Fill pair) n items),
  )

  tx_comes : (k : ℕ) (kept : Kept) (items : List Item) (l : List Told) → k < classes_of c → Asked kept (Peek (Tx (socket_at_class c pair k)) seat.batch) l
      → Answers kept l (Peek (Tx (socket_at_class c pair k)) seat.batch) (Items items) → Has (gathered seat k kept items) (with_told l (Peek (Tx (socket_at_class c pair k)) seat.batch) (Items items))
      × IsDue (release_due (Tx (socket_at_class c pair k)) (length items)) (with_told l (Peek (Tx (socket_at_class c pair k)) seat.batch) (Items items))
  tx_comes k kept items l within a q =
      let call = Peek (Tx (socket_at_class c pair k)) seat.batch in
      let got = gathered seat k kept items in
      let lost = kept.lost ++ frames_in (bad_ones (packets_from c.geometry c.sg (group_at kept k) items)) in
      let has = has_tx wire c pair k seat.batch kept items l is within a.0 q.0 q.1 in
      let few = lost_few c pair kept.spare got.groups got.finished lost (with_told l call (Items items)) has (λ n. omega (arith, had_told l call (Items items) n, q.1.fresh n)) in (
        subst (λ (fs : List Frame). HasLists c pair kept.spare got.groups got.finished fs (with_told l call (Items items))) (sym (take_all c.geometry.frames lost few)) has,
        (q.1.some, omega (arith, q.1.few, batch_few c), held_told l (Tx (socket_at_class c pair k)) seat.batch items),
      )

  entries : AtEntries seat Answers At Asked
  entries (fill_items look packet s items) noted kept l known found h a q =
      let below = leb-false (pieces_of seat packet.bytes) (length kept.spare) known.1 in
      let few = few packet s kept.coming known.0 in
      fill_comes (pieces_of seat packet.bytes - length kept.spare) kept items l (omega (arith, below, few)) a q
  entries (tx_items look k items) noted kept l known found h a q = tx_comes k kept items l known.0 a q
  entries (rx_granted packet s) noted kept l known found h a q = (told kept _ Granted l refl a q, room_told l (Rx s) (pieces_of seat packet.bytes))
  entries (comp_granted k packet later) noted kept l known found h a q = (told kept _ Granted l refl a q, room_told l (Comp pair) (length packet))
  entries (comp_full k packet later free) noted kept l known found h a q = (told kept _ (Full free) l refl a q, λ f. absurd (cc))
  entries e noted kept l known found h a q = (told (kept_at seat (point_of e) kept) (call_at seat (point_of e) kept) (reply_of e) l refl a q, tt)

  silent : AtSilent seat Answers At
  silent visited noted kept l = λ h none. (h.0, λ f. none)
  silent idles noted kept l = λ h e. (h.0, tt)
  silent arms noted kept l = λ h e. (h.0, tt)
  silent looks noted kept l = λ h e. (h.0, tt)
  silent (seeks packet s) noted kept l = λ h e. (h.0, tt)
  silent (misses packet s) noted kept l = λ h e. (h.0, tt)
  silent finds noted kept l = λ h e. (h.0, tt)
  silent parks noted kept l = λ h e. (h.0, tt)
  silent disarmed noted kept l = λ h e. (h.0, tt)
  silent p noted kept l = λ h e. h

  abbrev Both : Family
  Both place noted kept l = Counts place noted kept l × At place noted kept l

  abbrev AskedBoth : Said
  AskedBoth kept call l = SaysNothing seat Answers kept call l × Asked kept call l

  abbrev EndedBoth : Kept → List Told → Type 0
  EndedBoth kept l = EndsSo seat Answers kept l × Ended kept l

  law : IsLaw seat Answers Both AskedBoth EndedBoth
  law = together seat Answers Counts At (SaysNothing seat Answers) Asked (EndsSo seat Answers) Ended (counts_bounced seat Answers) calls entries silent
      (λ noted kept l n known h a q. (told kept (Swap (Gone pair) 1) (Old n) l refl a q, h.1 known.1))

-- ---- at first

no_items : (k n : ℕ) → times n (flat_map numbers (replicate k [])) ≡ 0
no_items zero n = refl
no_items (suc k) n = no_items k n

pub no_group : (k class : ℕ) → ◌≡◌ {A = List Item} (get_or (replicate k []) class []) []
no_group zero class = refl
no_group (suc k) zero = refl
no_group (suc k) (suc class) = no_group k class

has_new : (c : Config) (pair : ℕ) (input : List Judged) → IsSeat c pair → HasKept c pair (start (classes_of c) input) []
has_new c pair input seat = record {
  own = tt;
  frames = λ n. omega (arith, no_items (classes_of c) n);
  spares = All-nil (IsSpare c []);
  few = omega arith;
  classes = length-replicate (classes_of c) [];
  at = λ class within. no_group (classes_of c) class;
  origins = [];
  each = refl;
  known = All-nil (λ (class : ℕ). class < classes_of c);
  waits = λ class within. refl;
}

pub fit_push : (c : Config) (past l : List Told) (call : Call) (reply : Reply) → AllFit c past l → Suits c (past ++ l) call reply → AllFit c past (with_told l call reply)
fit_push c past [] call reply h fits = (subst (λ m. Suits c m call reply) (append-nil past) fits, tt)
fit_push c past (t ∷ l) call reply h fits = (h.0, fit_push c (past ++ t ∷ []) l call reply h.1 (subst (λ m. Suits c m call reply) (sym (append_assoc past (t ∷ []) l)) fits))

-- own entries that go on are legal, and fit
meet_going : (turn : Kept → Script Kept) (c : Config) (who : ℕ) (s : Script Kept) (past l : List Told) → OwnGoesOn c who past l → MeetAlong turn (λ kept m call reply. IsLegal c m who call × Fits c m call reply) s past l
meet_going turn c who (ask kept call rest) past [] h = tt
meet_going turn c who (ask kept call rest) past (t ∷ l) h = ((h.0, h.1), meet_going turn c who (begun turn (rest t.reply)) (past ++ t ∷ []) l h.2)
meet_going turn c who script past l h = tt

pub few_bounced : (ds : List Disposal) → bounced_among ds ≤ length ds
few_bounced [] = omega arith
few_bounced (d ∷ ds) = omega (arith, few_bounced ds, one d, sum_by-cons bounce_of d ds)
  where
    one : (d : Disposal) → bounce_of d ≤ 1
    one (Delivered socket) = omega arith
    one NoFrames = omega arith
    one RxFull = omega arith
    one TooLong = omega arith
    one Runt = omega arith
    one Missed = omega arith
    one Passed = omega arith
    one Dropped = omega arith
    one Bounced = omega arith

module _ (wire : Wire) (c : Config) (pair : ℕ) (input : List Judged) (l : List Told) (is : IsSeat c pair) (goes : OwnGoesOn c pair [] l) where
  abbrev begins : Kept
  begins = start (classes_of c) input

  going : MeetAlong (turn (seat_of wire c pair)) (Answers wire c pair is) (turn (seat_of wire c pair) begins) [] l
  going = meet_going (turn (seat_of wire c pair)) c pair (turn (seat_of wire c pair) begins) [] l goes

  -- what is had at each call, for laws that stand on it
  pub meet_owned : (left : Script Kept) → Leaves (turn (seat_of wire c pair)) (turn (seat_of wire c pair) begins) l left
      → MeetAlong (turn (seat_of wire c pair)) (λ kept m call reply. (Owned c pair kept call m × IsLegal c m pair call) × Fits c m call reply) (turn (seat_of wire c pair) begins) [] l
  meet_owned left e =
      meet_weaker (turn (seat_of wire c pair)) (λ kept m call reply. AskedBoth wire c pair is kept call m × Answers wire c pair is kept m call reply) _ (λ kept m call reply h. ((h.0.1.0, h.1.0), h.1.1)) (turn (seat_of wire c pair) begins) [] l
      (meets_said (seat_of wire c pair) (Answers wire c pair is) (Both wire c pair is) (AskedBoth wire c pair is) (EndedBoth wire c pair is) (law wire c pair is) begins (refl, (has_new c pair input is, tt)) l going left e)

  -- what is had at the end, where nothing finished is left
  pub has_ended : (kept : Kept) → Ends (turn (seat_of wire c pair)) begins l kept → HasKept c pair kept l × (kept.finished ≡ [])
  has_ended kept ends = (at_end (seat_of wire c pair) (Answers wire c pair is) (Both wire c pair is) (AskedBoth wire c pair is) (EndedBoth wire c pair is) (law wire c pair is) begins (refl, (has_new c pair input is, tt)) l going kept ends).1

  has_asked : (kept : Kept) (call : Call) (rest : Reply → Script Kept) → Asks (turn (seat_of wire c pair)) begins l kept call rest → Asked wire c pair is kept call l
  has_asked kept call rest asks = (at_call (seat_of wire c pair) (Answers wire c pair is) (Both wire c pair is) (AskedBoth wire c pair is) (EndedBoth wire c pair is) (law wire c pair is) begins (refl, (has_new c pair input is, tt)) l going kept call rest asks).1

pub keeps_frames : KeepsFrames
keeps_frames wire c pair input l kept call rest is goes asks =
    let has = has_asked wire c pair input l is goes kept call rest asks in
    (has.0, λ fit few. has.1 (ready_at wire c pair input l is fit kept call rest asks) (omega (arith, few, few_bounced kept.disposals, (keeps_disposals wire c pair input l kept call rest asks).each)))

pub keeps_frames_at_end : KeepsFramesAtEnd
keeps_frames_at_end wire c pair input l kept is goes ends =
    let has = has_ended wire c pair input l is goes kept ends in
    (has.0.own, λ m. times-kept m kept ∙ has.0.frames m)
