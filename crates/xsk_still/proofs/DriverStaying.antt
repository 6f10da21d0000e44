-- Why a driver whose calls change nothing stays as it is: in each turn of them its next packet is held up, and it has sent all or
-- is blocked; a driver that sets its flags then is parked.
use Rattle.std.proofs.Common.{◌≡◌, ◌≢◌, ◌⊎◌, inl, inr, ℕ, zero, suc, ◌+◌, ◌*◌, ◌<◌, ◌≤◌, Bool, true, false, not, eqb, nat_lt, ◌||◌, Some, None, is_some, List, [], ◌∷◌, ◌++◌, length, All, refl, sym, ap, ◌∙◌, subst, ⊎_elim, arith, length-append, append_assoc, append-nil, eq-eqb, leb-false, ltb-false}
use Rattle.std.proofs.lemmas.Bool.{cases_lt, cases_eq, eqb-true}
use Rattle.xsk_umem.specs.Frame.{Frame}
use Rattle.xsk_turns.proofs.Object.{Config, classes_of, Fits}
use Rattle.xsk_model.specs.Object.{State, mark_at, reply_at}
use Rattle.xsk_model.specs.OtherWords.{changes}
use Rattle.xsk_model.specs.Steering.{packet_limit}
use Rattle.xsk_turns.proofs.Calls.{Item, Told, with_told, Fill, Comp, Rx, Tx, NeedTx, Kick, RxDone, TxDone, Cell, Call, Look, Reply, Granted, Full, Submitted, Items, Empty, Released, Old}
use Rattle.xsk_turns.specs.Turns.{Seat, Judged, Kept, Noted, fresh, awaits, bounces, drops, disposal_untried, cell_of, redirect_to, pieces_of, seat_of, start, turn, socket_of, application_of, closing_on, closing_of}
use Rattle.xsk_turns.specs.declared.disposal.Disposal.{Disposal}
use Rattle.xsk_turns.specs.declared.disposal.Disposal.TheVariants.{NoFrames, RxFull, TooLong, Missed, Bounced}
use Rattle.xsk_turns.specs.Script.{Script, ask, Asks}
use Rattle.xsk_turns.specs.Owned.{IsSeat, AllFit, socket_at_class}
use Rattle.xsk_turns.specs.Wakes.{IsParked}
use Rattle.xsk_turns.specs.declared.wire.Wire.{Wire}
use Rattle.xsk_turns.proofs.Counting.{four_classes}
use Rattle.xsk_turns.proofs.Walks.{Premise, nothing_due, submit_due, release_due}
use Rattle.xsk_turns.proofs.DriverStages.{Stage, Starting, Acking, Receiving, Trying, Lacking, Sending, Idling, Arming, Which, Turning, Again, Parked, Woken, Disarming, Family, Said, AtCalls, AtEntries, AtSilent, IsLaw, GoesOnAtOnce, LookClosing, TellAcked, TellRxDone, TellBounced, LookCell, PeekFill, ReleaseFill, ReserveRx, SubmitRx, ReserveComp, SubmitComp, PeekTx, ReleaseTx, LookTxDone, TellGone, ArmFill, ArmTx, LookEnd, LookKick, ClearKick, DisarmFill, DisarmTx, saw_fed, saw_closed, told_acked, told_rx_done, told_bounced, looked_none, looked_long, looked_some, fill_empty, fill_items, fill_released, rx_granted, rx_full, rx_submitted, comp_granted, comp_full, comp_submitted, tx_empty, tx_items, tx_released, looked_tx_done, armed_fill, armed_tx, found_end, found_none, kicked, not_kicked, cleared_kick, disarmed_fill, disarmed_tx, receives as starts, untried, none_comes, too_few, waits, drops_full, drops_frameless, visited, idles, arms, seeks, sought, misses, looks, finds, parks, disarmed}
use Rattle.xsk_turns.proofs.DriverWalk.{at_call}
use Rattle.xsk_still.specs.Still.{IsEmpty, LacksRoom, IsStill, IsHeldUp, StaysBy}
use Rattle.xsk_still.specs.Own.{IsFree, DriverStays}
use Rattle.xsk_still.proofs.AppStaying.{was_empty, was_full, was_number, still_one, longer, all_at}
use Rattle.xsk_still.proofs.Meeting.{meet_each, cut_behind}

fits_in : (c : Config) (past front later : List Told) (t : Told) → AllFit c past (front ++ t ∷ later) → Fits c (past ++ front) t.call t.reply
fits_in c past [] later t h = subst (λ l. Fits c l t.call t.reply) (sym (append-nil past)) h.0.0
fits_in c past (y ∷ front) later t h = subst (λ l. Fits c l t.call t.reply) (append_assoc past (y ∷ []) front) (fits_in c (past ++ y ∷ []) front later t h.1)

fits_at : (c : Config) (front later : List Told) (t : Told) → AllFit c [] (front ++ t ∷ later) → Fits c front t.call t.reply
fits_at c front later t h = fits_in c [] front later t h

not_one_few : (n : ℕ) → n ≤ 1 → eqb n 1 ≡ false → n ≡ 0
not_one_few zero few e = refl
not_one_few (suc zero) few e = let off : true ≡ false = e in cc
not_one_few (suc (suc n)) few e = absurd (omega (arith, few))

still_zero : (n : ℕ) → not (eqb n 0) ≡ false → n ≡ 0
still_zero n e = by (eqb n 0) refl
  where
    by : (b : Bool) → eqb n 0 ≡ b → n ≡ 0
    by true f = eqb-true n 0 f
    by false f = absurd (let off : true ≡ false = sym (ap not f) ∙ e in cc)

abbrev spent : ℕ → ℕ
spent zero = 0
spent (suc k) = 26 + 8 * k

module _ (wire : Wire) (c : Config) (d : ℕ) (is : IsSeat c d) (closes : c.closing ≡ None) (x : State) (m count : ℕ) where
  abbrev seat : Seat
  seat = seat_of wire c d

  record IsAnswered (kept : Kept) (call : Call) (reply : Reply) : Type 0 where
    pub gives : reply ≡ reply_at c x call
    pub quiet : changes call reply ≡ false
    pub settled : length kept.disposals ≡ count
    pub told : mark_at c x (RxDone d) ≡ 1 → kept.rx_done ≡ true

  abbrev Q : Premise Kept
  Q kept l call reply = Fits c l call reply × (m ≤ length l → IsAnswered kept call reply)

  four : classes_of c ≤ 4
  four = four_classes c is.regular.classes

  some_class : 1 ≤ classes_of c
  some_class = let few = is.regular.classes in omega (arith, few)

  -- there is no socket of it to close
  no_closing : (s : ℕ) → closing_of seat ≡ Some s → ⊥
  no_closing s e = let off : None ≡ Some s = sym (ap (closing_on d (classes_of c)) closes) ∙ e in cc

  -- ---- what is found in a turn

  abbrev cell : Judged → ℕ
  cell packet = mark_at c x (Cell seat.port (cell_of packet.verdict))

  record HeldUp (coming : List Judged) (spare : List Frame) : Type 0 where
    pub packet : Judged
    pub later : List Judged
    pub next : coming ≡ packet ∷ later
    pub tried : disposal_untried seat packet ≡ None
    pub stays : bounces packet.verdict ≡ false
    pub fits : nat_lt (packet_limit c) (length packet.bytes) ≡ false
    pub socket : ℕ
    pub target : redirect_to c seat.port seat.queue (cell packet) ≡ Some socket
    pub waits : drops wire ≡ false
    pub why : LacksRoom c x (Rx socket) (pieces_of seat packet.bytes) ⊎ ((length spare < pieces_of seat packet.bytes) × IsEmpty c x (Fill d))

  abbrev Receives : List Judged → List Frame → Bool → Type 0
  Receives coming spare rx_done = ((coming ≡ []) × (rx_done ≡ true)) ⊎ HeldUp coming spare

  record Blocked (finished : List (List Item)) : Type 0 where
    pub packet : List Item
    pub later : List (List Item)
    pub first : finished ≡ packet ∷ later
    pub lacks : LacksRoom c x (Comp d) (length packet)

  abbrev TxTo : ℕ → Type 0
  TxTo k = (j : ℕ) → j < k → IsEmpty c x (Tx (socket_at_class c d j))

  record Facts (coming : List Judged) (spare : List Frame) (finished : List (List Item)) (rx_done : Bool) : Type 0 where
    pub receives : Receives coming spare rx_done
    pub sends : ((finished ≡ []) × TxTo (classes_of c)) ⊎ Blocked finished

  abbrev FactsOf : Kept → Type 0
  FactsOf kept = Facts kept.coming kept.spare kept.finished kept.rx_done

  abbrev Quiet : Noted → Kept → Type 0
  Quiet noted kept = (noted.progress ≡ false) × Receives kept.coming kept.spare kept.rx_done × (noted.full ≡ true → kept.coming ≢ [])

  abbrev first_flag : ℕ
  first_flag = mark_at c x (NeedTx (socket_of seat 0))

  abbrev LooksAgain : Noted → Type 0
  LooksAgain noted = (noted.progress ≡ false) × (first_flag ≡ 1)

  abbrev Found : Stage → Noted → Kept → Type 0
  Found Starting noted kept = (noted.progress ≡ false) × (noted.full ≡ false)
  Found Receiving noted kept = (noted.progress ≡ false) × (noted.full ≡ false)
  Found (Trying Turning packet s nothing_due) noted kept = (noted.progress ≡ false) × (noted.full ≡ false) × (redirect_to c seat.port seat.queue (cell packet) ≡ Some s)
  Found (Lacking Turning packet s true) noted kept = (noted.progress ≡ false) × (redirect_to c seat.port seat.queue (cell packet) ≡ Some s) × LacksRoom c x (Rx s) (pieces_of seat packet.bytes)
  Found (Lacking Turning packet s false) noted kept =
      (noted.progress ≡ false) × (noted.full ≡ false) × (redirect_to c seat.port seat.queue (cell packet) ≡ Some s) × (length kept.spare < pieces_of seat packet.bytes) × IsEmpty c x (Fill d)
  Found (Sending Turning k nothing_due) noted kept = Quiet noted kept × TxTo k
  Found Idling noted kept =
      (noted.progress ≡ false) × Receives kept.coming kept.spare kept.rx_done × (((kept.finished ≡ []) × TxTo (classes_of c)) ⊎ Blocked kept.finished)
      × (noted.full ≡ true → kept.coming ≡ [] → kept.finished ≢ [])
  Found (Arming k) noted kept = (noted.progress ≡ false) × (1 ≤ k → first_flag ≡ 1)
  Found (Trying Again packet s nothing_due) noted kept = LooksAgain noted
  Found (Lacking Again packet s full) noted kept = LooksAgain noted
  Found (Sending Again k nothing_due) noted kept = LooksAgain noted
  Found (Disarming frames k) noted kept = first_flag ≡ 1
  Found place noted kept = Unit {0}

  -- what hangs on no count of packets: nothing is due, and it doesn't clear a flag that it set in the stretch
  abbrev Sure : Stage → Kept → Type 0
  Sure (Trying look packet s nothing_due) kept = Unit {0}
  Sure (Trying look packet s due) kept = ⊥
  Sure (Sending look k nothing_due) kept = look ≡ Turning → 1 ≤ k → length kept.disposals ≡ count
  Sure (Sending look k due) kept = ⊥
  Sure Idling kept = length kept.disposals ≡ count
  Sure (Disarming frames k) kept = k ≡ 0
  Sure (Woken frames) kept = mark_at c x (Kick d) ≡ 1
  Sure place kept = Unit {0}

  -- how much longer the list may be in the second look
  abbrev later : Which → ℕ
  later Turning = 0
  later Again = 11

  abbrev before : Stage → ℕ
  before Starting = 0
  before Acking = 1
  before Receiving = 0
  before (Trying look packet s due) = 1 + later look
  before (Lacking look packet s full) = 2 + later look
  before (Sending look k due) = 2 + k + later look
  before Idling = 7
  before (Arming k) = 8 + k
  before (Parked frames) = 18
  before (Woken frames) = 19
  before (Disarming true k) = 20
  before (Disarming false k) = 21 + k

  abbrev Within : Stage → Type 0
  Within (Sending look k due) = k ≤ classes_of c
  Within (Arming k) = k ≤ classes_of c
  Within (Disarming frames k) = k ≤ classes_of c
  Within place = Unit {0}

  record Known (kept : Kept) : Type 0 where
    pub facts : FactsOf kept
    pub settled : length kept.disposals ≡ count
    pub asked : kept.coming ≡ [] → kept.finished ≡ [] → (kept.tx_done ≡ true) ⊎ (mark_at c x (TxDone (application_of seat)) ≢ 1)

  abbrev Waits : Kept → Type 0
  Waits kept = kept.coming ≡ [] → kept.finished ≡ [] → mark_at c x (TxDone (application_of seat)) ≢ 1

  record Stands (place : Stage) (noted : Noted) (kept : Kept) (l : List Told) : Type 0 where
    pub turns : ℕ
    pub few : length l ≤ m + spent turns + before place
    pub within : Within place
    pub inside : 1 ≤ turns → m < length l
    pub least : m < length l → count ≤ length kept.disposals
    pub sure : 1 ≤ turns → Sure place kept
    pub now : 1 ≤ turns → length kept.disposals ≡ count → Found place noted kept
    pub known : 2 ≤ turns → Known kept
    pub ends : 3 ≤ turns → Waits kept

  abbrev At : Family
  At (Parked frames) noted kept l = Stands (Parked frames) noted kept l ⊎ (IsParked d l × ((length l ≤ m) ⊎ (mark_at c x (Kick d) ≡ 0)))
  At place noted kept l = Stands place noted kept l

  abbrev Asked : Said
  Asked kept call l = m + 64 ≤ length l → IsFree call × ((IsParked d l × (is_some kept.parked ≡ true)) ⊎ (FactsOf kept × Waits kept))

  early : (place : Stage) (noted : Noted) (kept : Kept) (l : List Told) → length l ≤ m → Within place → Stands place noted kept l
  early place noted kept l few within = record {
    turns = 0;
    few = omega (arith, few);
    within = within;
    inside = λ some. absurd (omega (arith, some));
    least = λ in_it. absurd (omega (arith, few, in_it));
    sure = λ some. absurd (omega (arith, some));
    now = λ some. absurd (omega (arith, some));
    known = λ some. absurd (omega (arith, some));
    ends = λ some. absurd (omega (arith, some));
  }

  by_stretch : {A : Type 0} (l : List Told) → (length l < m → A) → (m ≤ length l → A) → A
  by_stretch l f g = ⊎_elim (λ (lt : length l < m). f lt) (λ (ge : m ≤ length l). g ge) (cases_lt (length l) m)

  first : (next : Stage) (noted : Noted) (kept : Kept) (l : List Told) (call : Call) (reply : Reply) → length l < m → Within next → Stands next noted kept (with_told l call reply)
  first next noted kept l call reply lt within = early next noted kept (with_told l call reply) (omega (arith, lt, longer l call reply)) within

  moves : (next : Stage) (noted : Noted) (now kept : Kept) (l : List Told) (call : Call) (reply : Reply) → changes call reply ≡ true → Q now l call reply → Within next
      → Stands next noted kept (with_told l call reply)
  moves next noted now kept l call reply e q within =
      by_stretch l (λ lt. first next noted kept l call reply lt within) (λ ge. absurd (let off : true ≡ false = sym e ∙ (q.1 ge).quiet in cc))

  -- an entry of the stretch
  step : (place next : Stage) (noted after : Noted) (kept now : Kept) (l : List Told) (call : Call) (reply : Reply) → before place + 1 ≤ before next → Within next → (h : Stands place noted kept l)
      → count ≤ length now.disposals → m ≤ length l → (1 ≤ h.turns → Sure next now) → (1 ≤ h.turns → length now.disposals ≡ count → Found next after now) → (2 ≤ h.turns → Known now)
      → (3 ≤ h.turns → Waits now) → Stands next after now (with_told l call reply)
  step place next noted after kept now l call reply fits within h more in_it sure found known last = record {
    turns = h.turns;
    few = omega (arith, h.few, fits, longer l call reply);
    within = within;
    inside = λ some. omega (arith, in_it, longer l call reply);
    least = λ e. more;
    sure = sure;
    now = found;
    known = known;
    ends = last;
  }

  -- one that leaves what is kept of frames and packets
  same : (place next : Stage) (noted : Noted) (kept : Kept) (l : List Told) (call : Call) (reply : Reply) → before place + 1 ≤ before next → Within next → (h : Stands place noted kept l)
      → (q : IsAnswered kept call reply) → m ≤ length l → (1 ≤ h.turns → Sure next kept) → (1 ≤ h.turns → Found next noted kept) → Stands next noted kept (with_told l call reply)
  same place next noted kept l call reply fits within h q in_it sure found =
      step place next noted noted kept kept l call reply fits within h (omega (arith, q.settled)) in_it sure (λ some e. found some) h.known h.ends

  pass : (place next : Stage) (noted after : Noted) (kept now : Kept) (l : List Told) → before place ≤ before next → Within next → (h : Stands place noted kept l) → length kept.disposals ≤ length now.disposals
      → (1 ≤ h.turns → Sure next now) → (1 ≤ h.turns → length now.disposals ≡ count → Found next after now) → (2 ≤ h.turns → Known now) → (3 ≤ h.turns → Waits now) → Stands next after now l
  pass place next noted after kept now l fits within h more sure found known last = record {
    turns = h.turns;
    few = omega (arith, h.few, fits);
    within = within;
    inside = h.inside;
    least = λ e. omega (arith, h.least e, more);
    sure = sure;
    now = found;
    known = known;
    ends = last;
  }

  spent_more : (t : ℕ) → spent t + 8 ≤ spent (suc t)
  spent_more zero = omega arith
  spent_more (suc t) = omega arith

  -- at the end there are three turns or more
  many : (place : Stage) (noted : Noted) (kept : Kept) (l : List Told) → before place ≤ 25 → m + 64 ≤ length l → (h : Stands place noted kept l) → 3 ≤ h.turns
  many place noted kept l small long h = by h.turns h.few
    where
      by : (t : ℕ) → length l ≤ m + spent t + before place → 3 ≤ t
      by zero f = absurd (omega (arith, f, small, long))
      by (suc zero) f = absurd (omega (arith, f, small, long))
      by (suc (suc zero)) f = absurd (omega (arith, f, small, long))
      by (suc (suc (suc t))) f = omega arith

  reasons : (place : Stage) (noted : Noted) (kept : Kept) (l : List Told) → before place ≤ 25 → m + 64 ≤ length l → Stands place noted kept l → FactsOf kept × Waits kept
  reasons place noted kept l small long h =
      let three = many place noted kept l small long h in ((h.known (omega (arith, three))).facts, h.ends three)

  later_few : (look : Which) → later look ≤ 11
  later_few Turning = omega arith
  later_few Again = omega arith

  calls : AtCalls seat Q At Asked
  calls (LookClosing s) noted kept l known h = absurd (no_closing s known.0)
  calls (TellAcked s) noted kept l known h = absurd (no_closing s known.0)
  calls TellRxDone noted kept l known h = λ long. (tt, inr (reasons Receiving noted kept l (omega arith) long h))
  calls (TellBounced packet) noted kept l known h = λ long. (tt, inr (reasons Receiving noted kept l (omega arith) long h))
  calls (LookCell packet) noted kept l known h = λ long. (tt, inr (reasons Receiving noted kept l (omega arith) long h))
  calls (PeekFill look packet s) noted kept l known h = λ long. (tt, inr (reasons (Trying look packet s nothing_due) noted kept l (omega (arith, later_few look)) long h))
  calls (ReleaseFill look packet s n) noted kept l known h = λ long. absurd (h.sure (omega (arith, many (Trying look packet s (release_due (Fill d) n)) noted kept l (omega (arith, later_few look)) long h)))
  calls (ReserveRx packet s) noted kept l known h = λ long. (tt, inr (reasons (Trying Turning packet s nothing_due) noted kept l (omega arith) long h))
  calls (SubmitRx packet s) noted kept l known h = λ long. absurd (h.sure (omega (arith, many (Trying Turning packet s (submit_due (Rx s) (pieces_of seat packet.bytes))) noted kept l (omega arith) long h)))
  calls (ReserveComp k packet later) noted kept l known h = λ long. (tt, inr (reasons (Sending Turning k nothing_due) noted kept l (omega (arith, h.within, four)) long h))
  calls (SubmitComp k packet later) noted kept l known h = λ long. absurd (h.sure (omega (arith, many (Sending Turning k (submit_due (Comp d) (length packet))) noted kept l (omega (arith, h.within, four)) long h)))
  calls (PeekTx look k) noted kept l known h = λ long. (tt, inr (reasons (Sending look k nothing_due) noted kept l (omega (arith, h.within, four, later_few look)) long h))
  calls (ReleaseTx look k n) noted kept l known h = λ long. absurd (h.sure (omega (arith, many (Sending look (k + 1) (release_due (Tx (socket_of seat k)) n)) noted kept l (omega (arith, h.within, four, later_few look)) long h)))
  calls LookTxDone noted kept l known h = λ long. (tt, inr (reasons Idling noted kept l (omega arith) long h))
  calls TellGone noted kept l known h = λ long. (tt, inr (reasons Idling noted kept l (omega arith) long h))
  calls ArmFill noted kept l known h = λ long. (tt, inr (reasons Idling noted kept l (omega arith) long h))
  calls (ArmTx k) noted kept l known h = λ long. (tt, inr (reasons (Arming k) noted kept l (omega (arith, h.within, four)) long h))
  calls LookEnd noted kept l known h = λ long. (tt, inr (reasons (Sending Again seat.classes nothing_due) noted kept l (omega (arith, four)) long h))
  calls (LookKick frames) noted kept l known (inl h) = λ long. (tt, inr (reasons (Parked frames) noted kept l (omega arith) long h))
  calls (LookKick frames) noted kept l known (inr h) = λ long. (tt, inl (h.0, ap is_some known))
  calls (ClearKick frames) noted kept l known h = λ long. (tt, inr (reasons (Woken frames) noted kept l (omega arith) long h))
  calls DisarmFill noted kept l known h = λ long. (tt, inr (reasons (Disarming true 0) noted kept l (omega arith) long h))
  calls (DisarmTx k) noted kept l known h = λ long. (tt, inr (reasons (Disarming false k) noted kept l (omega (arith, h.within, four)) long h))

  -- ---- entries

  more_tx : (k : ℕ) → TxTo k → IsEmpty c x (Tx (socket_at_class c d k)) → TxTo (k + 1)
  more_tx k all here j below = ⊎_elim (λ (e : j ≡ k). subst (λ i. IsEmpty c x (Tx (socket_at_class c d i))) (sym e) here) (λ (other : j ≡ k → ⊥). all j (omega (arith, below, other))) (cases_eq j k)

  one_longer : (kept : Kept) (y : Disposal) → length (kept.disposals ++ y ∷ []) ≡ length kept.disposals + 1
  one_longer kept y = length-append kept.disposals (y ∷ [])

  -- what the next packet's fate refutes
  against : (kept : Kept) (packet : Judged) (later : List Judged) → kept.coming ≡ packet ∷ later → ((h : HeldUp kept.coming kept.spare) → h.packet ≡ packet → ⊥) → Receives kept.coming kept.spare kept.rx_done → ⊥
  against kept packet later e f (inl r) = let off : [] ≡ packet ∷ later = sym r.0 ∙ e in cc
  against kept packet later e f (inr h) = f h (let both : h.packet ∷ h.later ≡ packet ∷ later = sym h.next ∙ e in cc)

  no_target : (packet other : Judged) (s : ℕ) → other ≡ packet → redirect_to c seat.port seat.queue (cell other) ≡ Some s → redirect_to c seat.port seat.queue (cell packet) ≡ None → ⊥
  no_target packet other s e f g = let off : Some s ≡ None = sym f ∙ ap (λ p. redirect_to c seat.port seat.queue (cell p)) e ∙ g in cc

  differs : (p q : Bool) → p ≡ false → q ≡ true → p ≡ q → ⊥
  differs p q e f g = let off : false ≡ true = sym e ∙ g ∙ f in cc

  kept_known : (kept now : Kept) → now.coming ≡ kept.coming → Known kept → FactsOf now → length now.disposals ≡ count
      → (now.coming ≡ [] → now.finished ≡ [] → (now.tx_done ≡ true) ⊎ (mark_at c x (TxDone (application_of seat)) ≢ 1)) → Known now
  kept_known kept now e k facts n asked = record { facts = facts; settled = n; asked = asked }

  number : (packet : Judged) (n : ℕ) (kept : Kept) → IsAnswered kept (Look (Cell seat.port (cell_of packet.verdict))) (Old n) → n ≡ cell packet
  number packet n kept q = was_number n _ q.gives

  flag_fits : (b : Bool) → 18 ≤ before (Disarming b 0)
  flag_fits true = omega arith
  flag_fits false = omega arith

  flag_fits_woken : (b : Bool) → 20 ≤ before (Disarming b 0)
  flag_fits_woken true = omega arith
  flag_fits_woken false = omega arith

  entries : AtEntries seat Q At Asked
  entries (saw_fed s n) noted kept l known found h a q = absurd (no_closing s known.0)
  entries (saw_closed s n) noted kept l known found h a q = absurd (no_closing s known.0)
  entries (told_acked s n) noted kept l known found h a q = absurd (no_closing s known.0)
  entries (told_rx_done n) noted kept l known found h a q = by_stretch l
      (λ lt. first (Sending Turning 0 nothing_due) _ _ l _ (Old n) lt (omega arith))
      (λ ge.
      let w = q.1 ge in
      let one : mark_at c x (RxDone d) ≡ 1 = sym (was_number n _ w.gives) ∙ still_one n w.quiet in
      absurd (let off : false ≡ true = sym known.1 ∙ w.told one in cc))
  entries (told_bounced packet n) noted kept l known found h a q = by_stretch l
      (λ lt. first (Sending Turning 0 nothing_due) _ _ l _ (Old n) lt (omega arith))
      (λ ge.
      let w = q.1 ge in
      let more = one_longer kept Bounced in
      let un : 2 ≤ h.turns → ⊥ = λ two. against kept packet known.later known.is
      (λ held e. differs _ _ held.stays known.bounces (ap (λ (p : Judged). bounces p.verdict) e)) (h.known two).facts.receives in
      step Receiving (Sending Turning 0 nothing_due) noted _ kept _ l _ (Old n) (omega arith) (omega arith) h (omega (arith, more, w.settled)) ge (λ some turns zero. absurd (omega (arith, zero)))
      (λ some e. absurd (omega (arith, e, more, w.settled))) (λ two. absurd (un two)) (λ three. absurd (un (omega (arith, three)))))
  entries (looked_none packet n) noted kept l known found h a q = by_stretch l
      (λ lt. first (Sending Turning 0 nothing_due) _ _ l _ (Old n) lt (omega arith))
      (λ ge.
      let w = q.1 ge in
      let more = one_longer kept Missed in
      let none : redirect_to c seat.port seat.queue (cell packet) ≡ None = ap (redirect_to c seat.port seat.queue) (sym (number packet n kept w)) ∙ found in
      let un : 2 ≤ h.turns → ⊥ = λ two. against kept packet known.later known.is (λ held e. no_target packet held.packet held.socket e held.target none) (h.known two).facts.receives in
      step Receiving (Sending Turning 0 nothing_due) noted _ kept _ l _ (Old n) (omega arith) (omega arith) h (omega (arith, more, w.settled)) ge (λ some turns zero. absurd (omega (arith, zero)))
      (λ some e. absurd (omega (arith, e, more, w.settled))) (λ two. absurd (un two)) (λ three. absurd (un (omega (arith, three)))))
  entries (looked_long packet n s) noted kept l known found h a q = by_stretch l
      (λ lt. first (Sending Turning 0 nothing_due) _ _ l _ (Old n) lt (omega arith))
      (λ ge.
      let w = q.1 ge in
      let more = one_longer kept TooLong in
      let un : 2 ≤ h.turns → ⊥ = λ two. against kept packet known.later known.is
      (λ held e. differs _ _ held.fits found.1 (ap (λ (p : Judged). nat_lt (packet_limit c) (length p.bytes)) e)) (h.known two).facts.receives in
      step Receiving (Sending Turning 0 nothing_due) noted _ kept _ l _ (Old n) (omega arith) (omega arith) h (omega (arith, more, w.settled)) ge (λ some turns zero. absurd (omega (arith, zero)))
      (λ some e. absurd (omega (arith, e, more, w.settled))) (λ two. absurd (un two)) (λ three. absurd (un (omega (arith, three)))))
  entries (looked_some packet n s) noted kept l known found h a q = by_stretch l
      (λ lt. first (Trying Turning packet s nothing_due) _ _ l _ (Old n) lt tt)
      (λ ge.
      let w = q.1 ge in
      same Receiving (Trying Turning packet s nothing_due) noted kept l _ (Old n) (omega arith) tt h w ge (λ some. tt)
      (λ some. let f = h.now some w.settled in (f.0, f.1, ap (redirect_to c seat.port seat.queue) (sym (number packet n kept w)) ∙ found.0)))
  entries (fill_empty Turning packet s) noted kept l known found h a q = by_stretch l
      (λ lt. first (Lacking Turning packet s false) _ _ l _ Empty lt tt)
      (λ ge.
      let w = q.1 ge in
      step (Trying Turning packet s nothing_due) (Lacking Turning packet s false) noted noted kept _ l _ Empty (omega arith) tt h (omega (arith, w.settled)) ge (λ some. tt)
      (λ some e. let f = h.now some w.settled in (f.0, f.1, f.2, leb-false _ _ known.1, was_empty _ _ w.gives))
      (λ two. let k = h.known two in record { facts = k.facts; settled = k.settled; asked = k.asked }) h.ends)
  entries (fill_empty Again packet s) noted kept l known found h a q = by_stretch l
      (λ lt. first (Lacking Again packet s false) _ _ l _ Empty lt tt)
      (λ ge.
      let w = q.1 ge in
      step (Trying Again packet s nothing_due) (Lacking Again packet s false) noted noted kept _ l _ Empty (omega arith) tt h (omega (arith, w.settled)) ge (λ some. tt)
      (λ some e. h.now some w.settled)
      (λ two. let k = h.known two in record { facts = k.facts; settled = k.settled; asked = k.asked }) h.ends)
  entries (fill_items look packet s items) noted kept l known found h a q = moves _ _ kept _ l _ (Items items) refl q tt
  entries (fill_released look packet s n) noted kept l known found h a q = moves _ noted kept _ l _ Released refl q tt
  entries (rx_granted packet s) noted kept l known found h a q = moves _ _ kept _ l _ Granted refl q tt
  entries (rx_full packet s places) noted kept l known found h a q = by_stretch l
      (λ lt. first (Lacking Turning packet s true) _ _ l _ (Full places) lt tt)
      (λ ge.
      let w = q.1 ge in
      step (Trying Turning packet s nothing_due) (Lacking Turning packet s true) noted noted kept _ l _ (Full places) (omega arith) tt h (omega (arith, w.settled)) ge (λ some. tt)
      (λ some e. let f = h.now some w.settled in (f.0, f.2, was_full _ _ places w.gives))
      (λ two. let k = h.known two in record { facts = k.facts; settled = k.settled; asked = k.asked }) h.ends)
  entries (rx_submitted packet s) noted kept l known found h a q = moves (Sending Turning 0 nothing_due) _ _ _ l _ Submitted refl q (omega arith)
  entries (comp_granted k packet later) noted kept l known found h a q = moves (Sending Turning k (submit_due (Comp d) (length packet))) noted kept _ l _ Granted refl q h.within
  entries (comp_full k packet later places) noted kept l known found h a q = by_stretch l
      (λ lt. first Idling _ _ l _ (Full places) lt tt)
      (λ ge.
      let w = q.1 ge in
      step (Sending Turning k nothing_due) Idling noted _ kept kept l _ (Full places) (omega (arith, h.within, four)) tt h (omega (arith, w.settled)) ge (λ some. w.settled)
      (λ some e.
      let f = h.now some w.settled in
      (f.0.0, f.0.1, inr (record { packet = packet; later = later; first = known; lacks = was_full _ _ places w.gives }), λ full none fin. let off : packet ∷ later ≡ [] = sym known ∙ fin in cc)) h.known h.ends)
  entries (comp_submitted k packet later) noted kept l known found h a q = moves (Sending Turning k nothing_due) _ _ _ l _ Submitted refl q h.within
  entries (tx_empty Turning k) noted kept l known found h a q = by_stretch l
      (λ lt. first (Sending Turning (k + 1) nothing_due) _ _ l _ Empty lt (omega (arith, known.0)))
      (λ ge.
      let w = q.1 ge in
      step (Sending Turning k nothing_due) (Sending Turning (k + 1) nothing_due) noted noted kept _ l _ Empty (omega arith) (omega (arith, known.0)) h (omega (arith, w.settled)) ge (λ some turns one. w.settled)
      (λ some e. let f = h.now some w.settled in (f.0, more_tx k f.1 (was_empty _ _ w.gives)))
      (λ two. let k = h.known two in record { facts = k.facts; settled = k.settled; asked = k.asked }) h.ends)
  entries (looked_tx_done n) noted kept l known found h a q = by_stretch l
      (λ lt. first Starting _ _ l _ (Old n) lt tt)
      (λ ge.
      let w = q.1 ge in
      let is : n ≡ mark_at c x (TxDone (application_of seat)) = was_number n _ w.gives in
      record {
        turns = suc h.turns;
        few = omega (arith, h.few, spent_more h.turns, longer l (Look (TxDone (application_of seat))) (Old n));
        within = tt;
        inside = λ some. omega (arith, ge, longer l (Look (TxDone (application_of seat))) (Old n));
        least = λ in_it. omega (arith, w.settled);
        sure = λ some. tt;
        now = λ some e. (refl, refl);
        known = λ two.
            let f = h.now (omega (arith, two)) w.settled in
            record { facts = record { receives = f.1; sends = f.2 }; settled = w.settled; asked = λ none fin. by (eqb n 1) refl is };
        ends = λ three none fin one. absurd (ended (h.known (omega (arith, three))) known.1 none fin one);
      })
    where
      by : (b : Bool) → eqb n 1 ≡ b → n ≡ mark_at c x (TxDone (application_of seat)) → ((kept.tx_done || b) ≡ true) ⊎ (mark_at c x (TxDone (application_of seat)) ≢ 1)
      by true e f = inl (or_true kept.tx_done)
        where
          or_true : (b : Bool) → (b || true) ≡ true
          or_true true = refl
          or_true false = refl
      by false e f = inr (λ g. let off : true ≡ false = sym (eq-eqb n 1 (f ∙ g)) ∙ e in cc)

      ended : Known kept → kept.tx_done ≡ false → kept.coming ≡ [] → kept.finished ≡ [] → mark_at c x (TxDone (application_of seat)) ≡ 1 → ⊥
      ended k e none fin one = ⊎_elim (λ (f : kept.tx_done ≡ true). let off : false ≡ true = sym e ∙ f in cc) (λ (other : mark_at c x (TxDone (application_of seat)) ≢ 1). other one) (k.asked none fin)
  entries (armed_fill n) noted kept l known found h a q = by_stretch l
      (λ lt. first (Arming 0) _ _ l _ (Old n) lt (omega arith))
      (λ ge.
      let w = q.1 ge in
      same Idling (Arming 0) noted kept l _ (Old n) (omega arith) (omega arith) h w ge (λ some. tt) (λ some. ((h.now some w.settled).0, λ zero. absurd (omega (arith, zero)))))
  entries (armed_tx zero n) noted kept l known found h a q = by_stretch l
      (λ lt. first (Arming (0 + 1)) _ _ l _ (Old n) lt (omega (arith, known)))
      (λ ge.
      let w = q.1 ge in
      same (Arming 0) (Arming (0 + 1)) noted kept l _ (Old n) (omega arith) (omega (arith, known)) h w ge (λ some. tt)
      (λ some. ((h.now some w.settled).0, λ k. sym (was_number n _ w.gives) ∙ still_one n w.quiet)))
  entries (armed_tx (suc k) n) noted kept l known found h a q = by_stretch l
      (λ lt. first (Arming (suc k + 1)) _ _ l _ (Old n) lt (omega (arith, known)))
      (λ ge.
      let w = q.1 ge in
      same (Arming (suc k)) (Arming (suc k + 1)) noted kept l _ (Old n) (omega arith) (omega (arith, known)) h w ge (λ some. tt)
      (λ some. let f = h.now some w.settled in (f.0, λ e. f.1 (omega arith))))
  entries (tx_items look k items) noted kept l known found h a q = moves (Sending look (k + 1) (release_due (Tx (socket_of seat k)) (length items))) _ kept _ l _ (Items items) refl q (omega (arith, known.0))
  entries (tx_released look k n) noted kept l known found h a q = moves (Sending look (k + 1) nothing_due) noted kept _ l _ Released refl q (omega (arith, known))
  entries (tx_empty Again k) noted kept l known found h a q = by_stretch l
      (λ lt. first (Sending Again (k + 1) nothing_due) _ _ l _ Empty lt (omega (arith, known.0)))
      (λ ge.
      let w = q.1 ge in
      step (Sending Again k nothing_due) (Sending Again (k + 1) nothing_due) noted noted kept _ l _ Empty (omega arith) (omega (arith, known.0)) h (omega (arith, w.settled)) ge (λ some no. absurd (cc))
      (λ some e. h.now some w.settled)
      (λ two. let k = h.known two in record { facts = k.facts; settled = k.settled; asked = k.asked }) h.ends)
  entries (found_end n) noted kept l known found h a q = by_stretch l
      (λ lt. first (Disarming (awaits noted) 0) _ _ l _ (Old n) lt (omega arith))
      (λ ge.
      let w = q.1 ge in
      step (Sending Again seat.classes nothing_due) (Disarming (awaits noted) 0) noted noted kept _ l _ (Old n) (omega (arith, four, flag_fits (awaits noted))) (omega arith) h (omega (arith, w.settled)) ge (λ some. refl)
      (λ some e. (h.now some w.settled).1)
      (λ two. let k = h.known two in record { facts = k.facts; settled = k.settled; asked = λ none fin. inl refl }) h.ends)
  entries (found_none n) noted kept l known found h a q = by_stretch l
      (λ lt. inl (first (Parked (awaits noted)) _ _ l _ (Old n) lt tt))
      (λ ge.
      let w = q.1 ge in
      inl (step (Sending Again seat.classes nothing_due) (Parked (awaits noted)) noted _ kept _ l _ (Old n) (omega (arith, four)) tt h (omega (arith, w.settled)) ge (λ some. tt) (λ some e. tt)
      (λ two. let k = h.known two in record { facts = k.facts; settled = k.settled; asked = k.asked }) h.ends))
  entries (kicked frames n) noted kept l known found (inl h) a q = by_stretch l
      (λ lt. first (Woken frames) _ _ l _ (Old n) lt tt)
      (λ ge.
      let w = q.1 ge in
      step (Parked frames) (Woken frames) noted noted kept _ l _ (Old n) (omega arith) tt h (omega (arith, w.settled)) ge (λ some. sym (was_number n _ w.gives) ∙ eqb-true n 1 found)
      (λ some e. tt)
      (λ two. let k = h.known two in record { facts = k.facts; settled = k.settled; asked = k.asked }) h.ends)
  entries (kicked frames n) noted kept l known found (inr h) a q = by_stretch l
      (λ lt. first (Woken frames) _ _ l _ (Old n) lt tt)
      (λ ge.
      let w = q.1 ge in
      let few : length l ≤ m = ⊎_elim (λ (few : length l ≤ m). few)
      (λ (zero_kick : mark_at c x (Kick d) ≡ 0). absurd (omega (arith, zero_kick, was_number n _ w.gives, eqb-true n 1 found))) h.1 in
      record {
        turns = 0;
        few = omega (arith, few, longer l (Look (Kick d)) (Old n));
        within = tt;
        inside = λ some. absurd (omega (arith, some));
        least = λ e. omega (arith, w.settled);
        sure = λ some. absurd (omega (arith, some));
        now = λ some. absurd (omega (arith, some));
        known = λ some. absurd (omega (arith, some));
        ends = λ some. absurd (omega (arith, some));
      })
  entries (not_kicked frames n) noted kept l known found h a q =
      let none : n ≡ 0 = not_one_few n q.0 found in
      inr (
        (l, ap (λ k. with_told l (Look (Kick d)) (Old k)) none),
        by_stretch l (λ lt. inl (omega (arith, lt, longer l (Look (Kick d)) (Old n)))) (λ ge. inr (sym (was_number n _ (q.1 ge).gives) ∙ none)),
      )
  entries (cleared_kick frames n) noted kept l known found h a q = by_stretch l
      (λ lt. first (Disarming frames 0) _ _ l _ (Old n) lt (omega arith))
      (λ ge.
      let w = q.1 ge in
      let un : 1 ≤ h.turns → ⊥ = λ some. omega (arith, h.sure some, was_number n _ w.gives, still_zero n w.quiet) in
      same (Woken frames) (Disarming frames 0) noted kept l _ (Old n) (omega (arith, flag_fits_woken frames)) (omega arith) h w ge (λ some. absurd (un some)) (λ some. absurd (un some)))
  entries (disarmed_fill n) noted kept l known found h a q = by_stretch l
      (λ lt. first (Disarming false 0) _ _ l _ (Old n) lt (omega arith))
      (λ ge.
      let w = q.1 ge in
      same (Disarming true 0) (Disarming false 0) noted kept l _ (Old n) (omega arith) (omega arith) h w ge (λ some. refl) (λ some. h.now some w.settled))
  entries (disarmed_tx k n) noted kept l known found h a q = by_stretch l
      (λ lt. first (Disarming false (k + 1)) _ _ l _ (Old n) lt (omega (arith, known.1)))
      (λ ge.
      let w = q.1 ge in
      let un : 1 ≤ h.turns → ⊥ = λ some.
      let here : mark_at c x (NeedTx (socket_of seat 0)) ≡ n = ap (λ j. mark_at c x (NeedTx (socket_of seat j))) (sym (h.sure some)) ∙ sym (was_number n _ w.gives) in
      omega (arith, h.now some w.settled, here, still_zero n w.quiet) in
      same (Disarming false k) (Disarming false (k + 1)) noted kept l _ (Old n) (omega arith) (omega (arith, known.1)) h w ge (λ some. absurd (un some)) (λ some. absurd (un some)))

  -- ---- what goes on without a call

  none_full : (noted : Noted) → noted.progress ≡ false → (noted.progress || noted.full) ≡ true → noted.full ≡ true
  none_full noted e f = sym (ap (λ b. b || noted.full) e) ∙ f

  silent : AtSilent seat Q At
  silent starts noted kept l = λ h e. pass Starting Receiving noted noted kept kept l (omega arith) tt h (omega arith) (λ some. tt) h.now h.known h.ends
  silent (untried packet later y) noted kept l = λ h e.
      let more = one_longer kept y in
      let un : 2 ≤ h.turns → ⊥ = λ two. against kept packet later e.0
      (λ held s. let off : None ≡ Some y = sym held.tried ∙ ap (disposal_untried seat) s ∙ e.1 in cc) (h.known two).facts.receives in
      pass Receiving Receiving noted _ kept _ l (omega arith) tt h (omega (arith, more)) (λ some. tt)
      (λ some n. absurd (omega (arith, n, more, h.least (h.inside some)))) (λ two. absurd (un two)) (λ three. absurd (un (omega (arith, three))))
  silent none_comes noted kept l = λ h e. pass Receiving (Sending Turning 0 nothing_due) noted noted kept kept l (omega arith) (omega arith) h (omega arith) (λ some turns zero. absurd (omega (arith, zero)))
      (λ some n. let f = h.now some n in ((f.0, inl e, λ full. let off : false ≡ true = sym f.1 ∙ full in cc), λ j below. absurd (omega (arith, below)))) h.known h.ends
  silent (too_few packet s) noted kept l = λ h e. pass (Trying Turning packet s nothing_due) (Lacking Turning packet s false) noted noted kept kept l (omega arith) tt h (omega arith) (λ some. tt)
      (λ some n. let f = h.now some n in let off : false ≡ true = sym f.0 ∙ e.1 in cc) h.known h.ends
  silent (waits packet s true) noted kept l = λ h e. pass (Lacking Turning packet s true) (Sending Turning 0 nothing_due) noted _ kept kept l (omega arith) (omega arith) h (omega arith) (λ some turns zero. absurd (omega (arith, zero)))
      (λ some n.
      let f = h.now some n in
      let held : HeldUp kept.coming kept.spare = record { packet = packet; later = e.0.next.later; next = e.0.next.is; tried = e.0.next.none; stays = e.0.next.stays; fits = e.0.fits; socket = s; target = f.1; waits = e.1; why = inl f.2 } in
      ((f.0, inr held, λ full none. let off : packet ∷ e.0.next.later ≡ [] = sym e.0.next.is ∙ none in cc), λ j below. absurd (omega (arith, below)))) h.known h.ends
  silent (waits packet s false) noted kept l = λ h e. pass (Lacking Turning packet s false) (Sending Turning 0 nothing_due) noted _ kept kept l (omega arith) (omega arith) h (omega arith) (λ some turns zero. absurd (omega (arith, zero)))
      (λ some n.
      let f = h.now some n in
      let held : HeldUp kept.coming kept.spare = record { packet = packet; later = e.0.next.later; next = e.0.next.is; tried = e.0.next.none; stays = e.0.next.stays; fits = e.0.fits; socket = s; target = f.2; waits = e.1; why = inr (f.3, f.4) } in
      ((f.0, inr held, λ full none. let off : packet ∷ e.0.next.later ≡ [] = sym e.0.next.is ∙ none in cc), λ j below. absurd (omega (arith, below)))) h.known h.ends
  silent (drops_full packet s) noted kept l = λ h e.
      let more = one_longer kept RxFull in
      let un : 2 ≤ h.turns → ⊥ = λ two. against kept packet e.0.next.later e.0.next.is (λ held s. let off : false ≡ true = sym held.waits ∙ e.1 in cc) (h.known two).facts.receives in
      pass (Lacking Turning packet s true) (Sending Turning 0 nothing_due) noted _ kept _ l (omega arith) (omega arith) h (omega (arith, more)) (λ some turns zero. absurd (omega (arith, zero)))
      (λ some n. absurd (omega (arith, n, more, h.least (h.inside some)))) (λ two. absurd (un two)) (λ three. absurd (un (omega (arith, three))))
  silent (drops_frameless packet s) noted kept l = λ h e.
      let more = one_longer kept NoFrames in
      let un : 2 ≤ h.turns → ⊥ = λ two. against kept packet e.0.next.later e.0.next.is (λ held s. let off : false ≡ true = sym held.waits ∙ e.1 in cc) (h.known two).facts.receives in
      pass (Lacking Turning packet s false) (Sending Turning 0 nothing_due) noted _ kept _ l (omega arith) (omega arith) h (omega (arith, more)) (λ some turns zero. absurd (omega (arith, zero)))
      (λ some n. absurd (omega (arith, n, more, h.least (h.inside some)))) (λ two. absurd (un two)) (λ three. absurd (un (omega (arith, three))))
  silent visited noted kept l = λ h none. pass (Sending Turning seat.classes nothing_due) Idling noted noted kept kept l (omega (arith, four)) tt h (omega arith) (λ some. h.sure some refl some_class)
      (λ some n. let f = h.now some n in (f.0.0, f.0.1, inl (none, f.1), λ full gone. absurd (f.0.2 full gone))) h.known h.ends
  silent idles noted kept l = λ h e. ⊎_elim
      (λ (in_it : m < length l). record {
        turns = suc h.turns;
        few = omega (arith, h.few, spent_more h.turns);
        within = tt;
        inside = λ some. in_it;
        least = h.least;
        sure = λ some. tt;
        now = λ some n. (refl, refl);
        known = λ two.
            let some : 1 ≤ h.turns = omega (arith, two) in
            let f = h.now some (h.sure some) in
            record { facts = record { receives = f.1; sends = f.2 }; settled = h.sure some; asked = λ none fin. absurd (not_at_once noted kept f none fin e) };
        ends = λ three none fin one.
            let some : 1 ≤ h.turns = omega (arith, three) in
            not_at_once noted kept (h.now some (h.sure some)) none fin e;
      })
      (λ (not_in : length l ≤ m). early Starting fresh kept l not_in tt)
      (cases_lt m (length l))
    where
      not_at_once : (noted : Noted) (kept : Kept) → Found Idling noted kept → kept.coming ≡ [] → kept.finished ≡ [] → GoesOnAtOnce seat noted kept → ⊥
      not_at_once noted kept f none fin (inl e) = f.3 (none_full noted f.0 e) none fin
      not_at_once noted kept f none fin (inr e) = ⊎_elim
          (λ (r : (kept.coming ≡ []) × (kept.rx_done ≡ true)). let off : false ≡ true = sym e.2 ∙ r.1 in cc)
          (λ (held : HeldUp kept.coming kept.spare). let off : held.packet ∷ held.later ≡ [] = sym held.next ∙ none in cc) f.1
  silent arms noted kept l = λ h e. pass Idling (Arming 0) noted noted kept kept l (omega arith) (omega arith) h (omega arith) (λ some. tt)
      (λ some n. ((h.now some n).0, λ zero. absurd (omega (arith, zero)))) h.known h.ends
  silent (seeks packet s) noted kept l = λ h e. pass (Arming seat.classes) (Trying Again packet s nothing_due) noted noted kept kept l (omega (arith, four)) tt h (omega arith) (λ some. tt)
      (λ some n. let f = h.now some n in (f.0, f.1 some_class)) h.known h.ends
  silent (sought packet s) noted kept l = λ h e. pass (Trying Again packet s nothing_due) (Sending Again 0 nothing_due) noted noted kept kept l (omega arith) (omega arith) h (omega arith) (λ some no. absurd (cc)) h.now h.known h.ends
  silent (misses packet s) noted kept l = λ h e. pass (Lacking Again packet s false) (Sending Again 0 nothing_due) noted noted kept kept l (omega arith) (omega arith) h (omega arith) (λ some no. absurd (cc)) h.now h.known h.ends
  silent looks noted kept l = λ h e. pass (Arming seat.classes) (Sending Again 0 nothing_due) noted noted kept kept l (omega (arith, four)) (omega arith) h (omega arith) (λ some no. absurd (cc))
      (λ some n. let f = h.now some n in (f.0, f.1 some_class)) h.known h.ends
  silent finds noted kept l = λ h e. pass (Sending Again seat.classes nothing_due) (Disarming (awaits noted) 0) noted noted kept kept l (omega (arith, four, flag_fits (awaits noted))) (omega arith) h (omega arith) (λ some. refl)
      (λ some n. let f = h.now some n in let off : false ≡ true = sym f.0 ∙ e in cc) h.known h.ends
  silent parks noted kept l = λ h e. inl (pass (Sending Again seat.classes nothing_due) (Parked (awaits noted)) noted _ kept _ l (omega (arith, four)) tt h (omega arith) (λ some. tt) (λ some n. tt)
      (λ two. let k = h.known two in record { facts = k.facts; settled = k.settled; asked = k.asked }) h.ends)
  silent disarmed noted kept l = λ h e. ⊎_elim
      (λ (in_it : m < length l).
      let zero_turns : h.turns ≡ 0 = by h.turns h.sure in
      record {
        turns = 1;
        few = omega (arith, h.few, four, ap spent zero_turns);
        within = tt;
        inside = λ some. in_it;
        least = h.least;
        sure = λ some. tt;
        now = λ some n. (refl, refl);
        known = λ two. absurd (omega (arith, two));
        ends = λ three. absurd (omega (arith, three));
      })
      (λ (not_in : length l ≤ m). early Starting fresh kept l not_in tt)
      (cases_lt m (length l))
    where
      by : (t : ℕ) → (1 ≤ t → seat.classes ≡ 0) → t ≡ 0
      by zero f = refl
      by (suc t) f = absurd (omega (arith, f (omega arith), some_class))

  law : IsLaw seat Q At Asked (λ kept l. Unit {0})
  law = record { calls = calls; entries = entries; silent = silent; ends = λ noted kept l n known h a q. tt }

  -- ---- in the words of the law

  held_up : (kept : Kept) → HeldUp kept.coming kept.spare → IsHeldUp seat x kept
  held_up kept h = record {
    packet = h.packet;
    later = h.later;
    next = h.next;
    tried = h.tried;
    stays = h.stays;
    fits = ltb-false _ _ h.fits;
    socket = h.socket;
    target = h.target;
    waits = h.waits;
    why = h.why;
  }

  stays_by : (kept : Kept) → FactsOf kept → Waits kept → StaysBy seat x kept
  stays_by kept f w = record {
    receives = ⊎_elim (λ (r : (kept.coming ≡ []) × (kept.rx_done ≡ true)). inl r) (λ (h : HeldUp kept.coming kept.spare). inr (held_up kept h)) f.receives;
    sends = ⊎_elim (λ (r : (kept.finished ≡ []) × TxTo (classes_of c)). inl r)
        (λ (b : Blocked kept.finished). inr (record { packet = b.packet; later = b.later; first = b.first; lacks = b.lacks })) f.sends;
    waits = w;
  }

pub driver_stays : DriverStays
driver_stays wire c d input x count mine still kept call rest is closes fit all long settled marked asks =
    let m = length mine in
    let seat = seat_of wire c d in
    let begins = start (classes_of c) input in
    let each : (front : List Told) (t : Told) (later : List Told) (k : Kept) (on : Reply → Script Kept) → mine ++ still ≡ front ++ t ∷ later → Asks (turn seat) begins front k t.call on
    → Q wire c d is closes x m count k front t.call t.reply =
    λ front t later k on e asked. (
      fits_at c front later t (subst (AllFit c []) e fit),
      λ behind.
          let cut = cut_behind mine still front later t e behind in
          let one : IsStill c x t = all_at (IsStill c x) cut.0 later t (subst (All (IsStill c x)) cut.2 all) in
          let here = subst (λ l. Asks (turn seat) begins l k t.call on) cut.1 asked in
          record { gives = one.reply; quiet = one.quiet; settled = settled cut.0 t later k on cut.2 here; told = marked cut.0 t later k on cut.2 here },
    ) in
    let said = at_call seat (Q wire c d is closes x m count) (At wire c d is closes x m count) (Asked wire c d is closes x m count) (λ kept l. Unit {0}) (law wire c d is closes x m count) begins
    (early wire c d is closes x m count Starting fresh begins [] (omega arith) tt) (mine ++ still)
    (meet_each (turn seat) begins (Q wire c d is closes x m count) (mine ++ still) each (ask kept call rest) asks) kept call rest asks (omega (arith, long, length-append mine still)) in (
      said.0,
      ⊎_elim (λ (p : IsParked d (mine ++ still) × (is_some kept.parked ≡ true)). inl p)
          (λ (f : FactsOf wire c d is closes x m count kept × Waits wire c d is closes x m count kept). inr (stays_by wire c d is closes x m count kept f.0 f.1)) said.1,
    )
