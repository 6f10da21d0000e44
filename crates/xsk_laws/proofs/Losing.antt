-- Of the packets that a port received a wire loses only such as were to be delivered, and the others have the disposals that the
-- configuration and their verdicts say.
use Rattle.std.proofs.Common.{◌≡◌, ℕ, ◌+◌, ◌*◌, ◌/◌, ◌%◌, ◌<◌, ◌⊎◌, inl, inr, Bool, true, false, cond, eqb, nat_lt, All, Option, Some, None, List, [], ◌∷◌, ◌++◌, length, drop, refl, sym, ap, subst, ◌∙◌, append-nil, append_assoc, slice_index, arith}
use Rattle.std.specs.List.{filter}
use Rattle.std.proofs.lemmas.Nat.{div-add-mod'}
use Rattle.std.proofs.lemmas.Bool.{and_from, eq-eqb}
use Rattle.std.proofs.lemmas.List.Elements.{All-nil, All-cons}
use Rattle.xsk_umem.specs.Frame.{Frame}
use Rattle.xsk_umem.specs.PacketList.{PacketList}
use Rattle.xsk_model.specs.Config.{Config, IsConfig, classes_of, map_of, socket_at}
use Rattle.xsk_model.specs.Entry.{Entry, own}
use Rattle.xsk_model.specs.Steering.{paired_port, driver_on, socket_on}
use Rattle.xsk_prog.specs.declared.rule.Verdict.{Verdict}
use Rattle.xsk_turns.proofs.Calls.{Told, Call}
use Rattle.xsk_turns.specs.Owned.{AllFit, IsHere}
use Rattle.xsk_turns.specs.Turns.{Seat, Judged, Kept, bounces, seat_of, start, turn, settled, settled_or, disposal_untried, cell_of, redirect_to, limit_of, IsWholeDriverRun}
use Rattle.xsk_turns.specs.Disposals.{disposal_to, disposal_in, disposals_of, attempts_of, with_disposal, is_to, bytes_in}
use Rattle.xsk_turns.specs.declared.manner.Manner.{Manner}
use Rattle.xsk_turns.specs.declared.wire.Wire.{Wire}
use Rattle.xsk_turns.specs.declared.disposal.Disposal.{Disposal}
use Rattle.xsk_turns.specs.declared.disposal.Disposal.TheVariants.{Delivered, NoFrames, RxFull, TooLong, Runt, Missed, Passed, Dropped, Bounced}
use Rattle.xsk_turns.proofs.Walks.{Fitting, meet_fitting}
use Rattle.xsk_turns.proofs.DriverStages.{Family, IsTried, told_rx_done, told_bounced, looked_none, looked_long, rx_submitted, looked_tx_done, found_end, untried, drops_full, drops_frameless, untried_has, AtEntries, AtSilent, IsLaw}
use Rattle.xsk_turns.proofs.DriverWalk.{at_end}
use Rattle.xsk_turns.proofs.Disposing.{IsOver, over_later, disposes_all}
use Rattle.xsk_turns.proofs.Saying.{in-untried, in-bounced, to_none, to_some, to_tried}
use Rattle.xsk_model.proofs.Seats.{IsAt, is_at}
use Rattle.xsk_turns.proofs.Fitting.{fit_in_history}
use Rattle.xsk_turns.proofs.Owning.{redirect_here}
use Rattle.xsk_laws.specs.Expected.{received_judged, is_redirected}
use Rattle.xsk_laws.specs.Laws.{AreWholeRunsBy}
use Rattle.xsk_laws.proofs.Filters.{IsBoundTo, seat_at, is_fit, to_fit, delivered_is}
use Rattle.xsk_laws.proofs.Places.{are_paired}
use Rattle.xsk_laws.proofs.Sockets.{at_pair}
use Rattle.xsk_laws.proofs.Joined.{seat_is, input_is}
use Rattle.xsk_laws.specs.Lost.{is_lost, lost, unlost, disposals_on, IsToSomeClass, ForwardedIsUnlost, OnlyRedirectedAreLost}
use Rattle.xsk_turns.proofs.Delivering.{bytes_if}

-- ---- one packet

-- a disposal is the one that is said, or the packet was lost and was to be delivered
pub record WasLost (c : Config) (pair : ℕ) (seat : Seat) (packet : Judged) (d : Disposal) : Type 0 where
  pub lost : is_lost d ≡ true
  pub socket : ℕ
  pub here : IsHere c pair socket
  pub said : disposal_in seat packet ≡ Delivered socket

abbrev pub IsFair : Config → ℕ → Seat → Judged → Disposal → Type 0
IsFair c pair seat packet d = (disposal_in seat packet ≡ d) ⊎ WasLost c pair seat packet d

-- ---- packets and their disposals

abbrev pub AreFair : Config → ℕ → Seat → List Judged → List Disposal → Type 0
AreFair c pair seat [] [] = Unit {0}
AreFair c pair seat [] (d ∷ ds) = ⊥
AreFair c pair seat (packet ∷ packets) [] = ⊥
AreFair c pair seat (packet ∷ packets) (d ∷ ds) = IsFair c pair seat packet d × AreFair c pair seat packets ds

fair_more : (c : Config) (pair : ℕ) (seat : Seat) (packets : List Judged) (ds : List Disposal) (packet : Judged) (d : Disposal) → AreFair c pair seat packets ds → IsFair c pair seat packet d
    → AreFair c pair seat (packets ++ packet ∷ []) (ds ++ d ∷ [])
fair_more c pair seat [] [] packet d h f = (f, tt)
fair_more c pair seat [] (e ∷ ds) packet d h f = absurd h
fair_more c pair seat (p ∷ packets) [] packet d h f = absurd h
fair_more c pair seat (p ∷ packets) (e ∷ ds) packet d h f = (h.0, fair_more c pair seat packets ds packet d h.1 f)

-- ---- the law

module _ (wire : Wire) (c : Config) (pair : ℕ) (input : List Judged) (closes : c.closing ≡ None) where
  abbrev seat : Seat
  seat = seat_of wire c pair

  record HasFair (ds : List Disposal) (coming : List Judged) (rx_done tx_done : Bool) : Type 0 where
    pub done : List Judged
    pub parts : done ++ coming ≡ input
    pub fair : AreFair c pair seat done ds
    pub over : IsOver rx_done tx_done coming

  abbrev Fair : Kept → List Told → Type 0
  Fair kept l = HasFair kept.disposals kept.coming kept.rx_done kept.tx_done

  abbrev At : Family
  At place noted kept l = Fair kept l

  abbrev Asked : Kept → Call → List Told → Type 0
  Asked kept call l = Unit {0}

  abbrev Ended : Kept → List Told → Type 0
  Ended kept l = AreFair c pair seat input kept.disposals

  settles : (kept : Kept) (packet : Judged) (later : List Judged) (x : Disposal) (l : List Told) → kept.coming ≡ packet ∷ later → IsFair c pair seat packet x → Fair kept l → Fair (settled kept x) l
  settles kept packet later x l e f h = record {
    done = h.done ++ packet ∷ [];
    parts = append_assoc h.done (packet ∷ []) (drop 1 kept.coming) ∙ ap (λ xs. h.done ++ packet ∷ drop 1 xs) e ∙ ap (λ xs. h.done ++ xs) (sym e) ∙ h.parts;
    fair = fair_more c pair seat h.done kept.disposals packet x h.fair f;
    over = over_later kept.rx_done kept.tx_done kept.coming h.over;
  }

  -- a packet that is tried was to be delivered
  loses : (kept : Kept) (packet : Judged) (t : ℕ) (x : Disposal) (l : List Told) → IsTried seat (Fitting c) kept.coming packet t → is_lost x ≡ true → Fair kept l → Fair (settled kept x) l
  loses kept packet t x l tried e h =
      settles kept packet tried.next.later x l tried.next.is (inr (record { lost = e; socket = t; here = redirect_here c pair tried.number t tried.target; said = to_tried wire c pair kept.coming packet t closes tried })) h

  entries : AtEntries seat (Fitting c) At Asked
  entries (told_rx_done n) noted kept l known found h a q = record { done = h.done; parts = h.parts; fair = h.fair; over = record { none = λ x. known.0; first = λ x. refl } }
  entries (told_bounced packet n) noted kept l known found h a q = settles kept packet known.later Bounced l known.is (inl (in-bounced seat packet known.none known.bounces)) h
  entries (looked_none packet n) noted kept l known found h a q = settles kept packet known.later Missed l known.is (inl (to_none wire c pair kept.coming packet known n closes q found)) h
  entries (looked_long packet n t) noted kept l known found h a q = settles kept packet known.later TooLong l known.is (inl (to_some wire c pair kept.coming packet known n closes q t true found.0 found.1)) h
  entries (rx_submitted packet t) noted kept l known found h a q = settles kept packet known.0.next.later (Delivered t) l known.0.next.is (inl (to_tried wire c pair kept.coming packet t closes known.0)) h
  entries (looked_tx_done n) noted kept l known found h a q = record { done = h.done; parts = h.parts; fair = h.fair; over = record { none = h.over.none; first = λ x. known.0 } }
  entries (found_end n) noted kept l known found h a q = record { done = h.done; parts = h.parts; fair = h.fair; over = record { none = h.over.none; first = λ x. known.1 } }
  entries e noted kept l known found h a q = h

  silent : AtSilent seat (Fitting c) At
  silent (untried packet later d) noted kept l = λ h e. settles kept packet later d l e.0 (inl (in-untried seat packet d e.1)) h
  silent (drops_full packet t) noted kept l = λ h e. loses kept packet t RxFull l e.0 refl h
  silent (drops_frameless packet t) noted kept l = λ h e. let now = loses kept packet t NoFrames l e.0 refl h in record { done = now.done; parts = now.parts; fair = now.fair; over = now.over }
  silent p noted kept l = λ h e. h

  all_fair : (kept : Kept) (l : List Told) → kept.coming ≡ [] → Fair kept l → AreFair c pair seat input kept.disposals
  all_fair kept l e h = subst (λ xs. AreFair c pair seat xs kept.disposals) (sym (append-nil h.done) ∙ ap (λ xs. h.done ++ xs) (sym e) ∙ h.parts) h.fair

  law : IsLaw seat (Fitting c) At Asked Ended
  law = record {
    calls = λ p noted kept l known h. tt;
    entries = entries;
    silent = silent;
    ends = λ noted kept l n known h a q. all_fair kept l (h.over.none (h.over.first known.2)) h;
  }

pub disposed_fairly : (wire : Wire) (c : Config) (pair : ℕ) (input : List Judged) (l : List Told) → c.closing ≡ None → AllFit c [] l → IsWholeDriverRun wire c pair input l
    → AreFair c pair (seat_of wire c pair) input (disposals_of (seat_of wire c pair) input (attempts_of l))
disposed_fairly wire c pair input l closes fit whole =
    let seat = seat_of wire c pair in
    let begins = start (classes_of c) input in
    subst (AreFair c pair seat input) (disposes_all wire c pair input l whole.0 whole.1).disposals
    (at_end seat (Fitting c) (At wire c pair input closes) (Asked wire c pair input closes) (Ended wire c pair input closes) (law wire c pair input closes) begins
    (record { done = []; parts = refl; fair = tt; over = record { none = λ e. absurd (cc); first = λ e. absurd (cc) } }) l (meet_fitting (turn seat) c (turn seat begins) [] l fit) whole.0 whole.1)

-- ---- what was delivered, and what was lost

lost_to : (s : ℕ) (d : Disposal) → is_lost d ≡ true → is_to s d ≡ false
lost_to s NoFrames e = refl
lost_to s RxFull e = refl
lost_to s (Delivered t) e = absurd (cc)
lost_to s TooLong e = absurd (cc)
lost_to s Runt e = absurd (cc)
lost_to s Missed e = absurd (cc)
lost_to s Passed e = absurd (cc)
lost_to s Dropped e = absurd (cc)
lost_to s Bounced e = absurd (cc)

-- no packet is lost by what the configuration and its verdict say
never_to : (at : Seat) (packet : List ℕ) (r : Option ℕ) → is_lost (disposal_to at packet r) ≡ false
never_to at packet None = refl
never_to at packet (Some t) = by (nat_lt (limit_of at) (length packet))
  where
    by : (b : Bool) → is_lost (cond b TooLong (Delivered t)) ≡ false
    by true = refl
    by false = refl

never_said : (seat : Seat) (packet : Judged) → is_lost (disposal_in seat packet) ≡ false
never_said seat packet = by (bounces packet.verdict) (redirect_to seat.config seat.port seat.queue (slice_index (map_of seat.config seat.port) (cell_of packet.verdict))) (disposal_untried seat packet) refl
  where
    by : (b : Bool) (r : Option ℕ) (o : Option Disposal) → disposal_untried seat packet ≡ o → is_lost (settled_or o (λ d. d) (cond b Bounced (disposal_to seat packet.bytes r))) ≡ false
    by true r None e = refl
    by false r None e = never_to seat packet.bytes r
    by b r (Some d) e = untried_has (λ d. is_lost d ≡ false) refl refl refl refl seat packet d e

module _ (c : Config) (pair : ℕ) (seat : Seat) where
  abbrev goes : ℕ → Judged → Bool
  goes s packet = is_to s (disposal_in seat packet)

  one_more : (s : ℕ) (packet : Judged) (d : Disposal) (more : List (List ℕ)) (rest : List Judged) → more ≡ bytes_in (filter (goes s) rest) → IsFair c pair seat packet d
      → cond (is_to s d) (packet.bytes ∷ more) more ≡ bytes_in (filter (goes s) (cond (is_lost d) rest (packet ∷ rest)))
  one_more s packet d more rest on (inl e) =
      let kept : is_lost d ≡ false = ap is_lost (sym e) ∙ never_said seat packet in
      ap (λ x. cond (is_to s x) (packet.bytes ∷ more) more) (sym e)
      ∙ ap (λ l. cond (goes s packet) (packet.bytes ∷ l) l) on
      ∙ bytes_if (goes s packet) packet (filter (goes s) rest)
      ∙ ap (λ b. bytes_in (filter (goes s) (cond b rest (packet ∷ rest)))) (sym kept)
  one_more s packet d more rest on (inr w) =
      ap (λ b. cond b (packet.bytes ∷ more) more) (lost_to s d w.lost) ∙ on ∙ ap (λ b. bytes_in (filter (goes s) (cond b rest (packet ∷ rest)))) (sym w.lost)

  -- what was delivered to a socket are those of the others that were to be
  pub delivered_unlost : (s : ℕ) (packets : List Judged) (ds : List Disposal) → AreFair c pair seat packets ds → with_disposal s packets ds ≡ bytes_in (filter (goes s) (unlost packets ds))
  delivered_unlost s [] [] h = refl
  delivered_unlost s [] (d ∷ ds) h = absurd h
  delivered_unlost s (packet ∷ packets) [] h = absurd h
  delivered_unlost s (packet ∷ packets) (d ∷ ds) h = one_more s packet d (with_disposal s packets ds) (unlost packets ds) (delivered_unlost s packets ds h.1) h.0

  all_more : (P : Judged → Type 0) → ((packet : Judged) (t : ℕ) → IsHere c pair t → disposal_in seat packet ≡ Delivered t → P packet) → (packet : Judged) (d : Disposal) (rest : List Judged)
      → All P rest → IsFair c pair seat packet d → All P (cond (is_lost d) (packet ∷ rest) rest)
  all_more P f packet d rest on (inl e) = subst (λ b. All P (cond b (packet ∷ rest) rest)) (sym (ap is_lost (sym e) ∙ never_said seat packet)) on
  all_more P f packet d rest on (inr w) = subst (λ b. All P (cond b (packet ∷ rest) rest)) (sym w.lost) (All-cons P packet rest (f packet w.socket w.here w.said) on)

  -- what is so of each packet that was to be delivered to a socket of the queue is so of those that were lost
  pub lost_were : (P : Judged → Type 0) → ((packet : Judged) (t : ℕ) → IsHere c pair t → disposal_in seat packet ≡ Delivered t → P packet) → (packets : List Judged) (ds : List Disposal)
      → AreFair c pair seat packets ds → All P (lost packets ds)
  lost_were P f [] [] h = All-nil P
  lost_were P f [] (d ∷ ds) h = absurd h
  lost_were P f (packet ∷ packets) [] h = absurd h
  lost_were P f (packet ∷ packets) (d ∷ ds) h = all_more P f packet d (lost packets ds) (lost_were P f packets ds h.1) h.0

-- ---- in a history of whole runs

module _ (hands : ℕ) (manner : Manner) (wire : Wire) (c : Config) (lists : List PacketList) (verdicts : List (List Verdict)) (frames : List Frame) (h : List Entry) (p q : ℕ) (run : AreWholeRunsBy hands manner wire c lists verdicts frames h) (port : p < c.ports) (queue : q < c.queues) where
  abbrev e : ℕ
  e = driver_on c p q

  abbrev input : List Judged
  input = received_judged c lists verdicts p q

  config : IsConfig c
  config = run.history.opened.config

  some : 0 < classes_of c
  some = let classes = run.steady.regular.classes in omega (arith, classes)

  at : IsAt c p q 0 e (socket_on c p q 0)
  at = is_at c p q 0 config run.steady.regular port queue some

  whole : IsWholeDriverRun wire c e input (own e h)
  whole = subst (λ (l : List Judged). IsWholeDriverRun wire c e l (own e h)) (input_is c lists verdicts p q 0 e (socket_on c p q 0) at) (run.drivers e at.pair_known)

  pub fair : AreFair c e (seat_at wire c e p q) input (disposals_on wire c h lists verdicts p q)
  fair =
      subst (λ (x : Seat). AreFair c e x input (disposals_on wire c h lists verdicts p q)) (seat_is wire c p q 0 e (socket_on c p q 0) at)
      (disposed_fairly wire c e input (own e h) run.steady.closes (fit_in_history c frames h e run.history) whole)

  pub delivered_as_expected : (k : ℕ) → k < classes_of c
      → with_disposal (socket_on c p q k) input (disposals_on wire c h lists verdicts p q) ≡ bytes_in (filter (is_redirected c p q k) (unlost input (disposals_on wire c h lists verdicts p q)))
  delivered_as_expected k class =
      let here = is_at c p q k config run.steady.regular port queue class in
      let bound : IsBoundTo c p q (socket_on c p q k) = record { known = here.known; on_port = here.on_port; on_queue = here.on_queue } in
      delivered_unlost c e (seat_at wire c e p q) (socket_on c p q k) input (disposals_on wire c h lists verdicts p q) fair
      ∙ ap bytes_in (delivered_is wire c e p q k (unlost input (disposals_on wire c h lists verdicts p q)) bound)

  -- a packet that was to be delivered went to the socket of a class
  of_class : (packet : Judged) (t : ℕ) → IsHere c e t → disposal_in (seat_at wire c e p q) packet ≡ Delivered t → IsToSomeClass c p q packet
  of_class packet t here said =
      let bound : IsBoundTo c p q t = record { known = here.known; on_port = here.port ∙ at.pair_port; on_queue = here.queue ∙ at.pair_queue } in
      let on = and_from (eqb (socket_at c.sockets t).port p) (eqb (socket_at c.sockets t).queue q) (eq-eqb _ p bound.on_port) (eq-eqb _ q bound.on_queue) in
      let quotient : t / classes_of c ≡ e = at_pair c p q config run.steady.regular port queue t here.known on in
      let k = t % classes_of c in
      let same : t ≡ socket_on c p q k = sym (div-add-mod' t (classes_of c)) ∙ ap (λ n. n * classes_of c + k) quotient in
      let few : k < classes_of c = let h = some in omega arith in
      let goes : is_to t (disposal_in (seat_at wire c e p q) packet) ≡ true = ap (is_to t) said ∙ eq-eqb t t refl in
      (k, few, subst (λ n. is_fit c p n packet ≡ true) same (sym (to_fit wire c e p q t packet bound) ∙ goes))

  pub only_redirected : All (IsToSomeClass c p q) (lost input (disposals_on wire c h lists verdicts p q))
  only_redirected = lost_were c e (seat_at wire c e p q) (IsToSomeClass c p q) of_class input (disposals_on wire c h lists verdicts p q) fair

pub forwarded_is_unlost : ForwardedIsUnlost
forwarded_is_unlost hands manner wire c lists verdicts frames h p q k run place =
    let pair = are_paired c.ports p run.history.opened.config.ports place.in_ports in
    delivered_as_expected hands manner wire c lists verdicts frames h (paired_port p) q run pair.in_ports place.in_queues k place.in_classes

pub only_redirected_are_lost : OnlyRedirectedAreLost
only_redirected_are_lost hands manner wire c lists verdicts frames h p q run port queue = only_redirected hands manner wire c lists verdicts frames h p q run port queue
