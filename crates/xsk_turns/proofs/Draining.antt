-- In a whole run each TX ring was found empty after the application had told that it sends no more.
use Rattle.std.proofs.Common.{◌≡◌, ℕ, ◌+◌, ◌<◌, Bool, true, false, cond, ◌||◌, ◌&&◌, eqb, List, [], ◌∷◌, refl, ap, ◌∙◌, subst, ⊎_elim, eq-eqb, arith}
use Rattle.std.proofs.lemmas.Bool.{cases_eq}
use Rattle.std.proofs.Math.Bool.{or-true, or-false}
use Rattle.xsk_model.specs.Marks.{is_mark}
use Rattle.std.proofs.lemmas.List.Sums.{fold_push}
use Rattle.xsk_turns.proofs.Calls.{Item, Told, with_told, Ring, Tx, Mark, Kick, Gone, TxDone, Cell, Call, Peek, Swap, Look, Reply, Full, Submitted, Items, Empty, Released, Old}
use Rattle.xsk_turns.proofs.Object.{classes_of, Draining, are_none, unseen_after, draining_after, draining_step, draining_of}
use Rattle.xsk_turns.specs.Turns.{Seat, Kept, Noted, seat_of, start, turn, socket_of, application_of, cell_of}
use Rattle.xsk_turns.specs.Law.{DrainsTx}
use Rattle.xsk_turns.proofs.Walks.{Anything, meet_anything}
use Rattle.xsk_turns.proofs.DriverStages.{Stage, Turning, Again, Sending, Idling, Family, call_at, told_rx_done, told_bounced, looked_none, looked_long, looked_some, rx_submitted, comp_full, comp_submitted, tx_empty, tx_items, tx_released, looked_tx_done, armed_fill, found_end, found_none, kicked, not_kicked, point_of, reply_of, leads, none_comes, waits, drops_full, drops_frameless, visited, idles, arms, AtEntries, AtSilent, IsLaw, saw_fed, saw_closed}
use Rattle.xsk_turns.proofs.DriverWalk.{at_end}
use Rattle.xsk_model.specs.declared.call.Mark.TheVariants.{Closing}

pub draining_told : (ms : List Mark) (r : Ring) (l : List Told) (call : Call) (reply : Reply)
    → draining_of ms r (with_told l call reply) ≡ draining_after r (draining_of ms r l) call reply
draining_told ms r l call reply = fold_push (draining_step r) (record { unseen = ms; empty = false }) l (record { call = call; reply = reply })

abbrev draining : ℕ → ℕ → List Told → Draining
draining a t l = draining_of (TxDone a ∷ []) (Tx t) l

-- the mark was seen where this is kept, and the ring was found empty where it had to be
record IsDrained (a t : ℕ) (tx_done : Bool) (needs : Type 0) (l : List Told) : Type 0 where
  pub unseen : (draining a t l).unseen ≡ cond tx_done [] (TxDone a ∷ [])
  pub empty : needs → (draining a t l).empty ≡ true

-- where it had to be found empty
abbrev Quiet : Noted → Kept → Type 0
Quiet noted kept = (noted.progress ≡ false) × (noted.full ≡ false) × (kept.tx_done ≡ true)

abbrev Needs : ℕ → Stage → Noted → Kept → Type 0
Needs class (Sending Turning k due) noted kept = (class < k) × Quiet noted kept
Needs class Idling noted kept = Quiet noted kept
Needs class place noted kept = ⊥

other_unseen : (a n : ℕ) (m : Mark) (b : Bool) → is_mark (TxDone a) m ≡ false → unseen_after (cond b [] (TxDone a ∷ [])) m n ≡ cond b [] (TxDone a ∷ [])
other_unseen a n m true e = refl
other_unseen a n m false e = ap (λ c. cond (c && eqb n 1) (unseen_after [] m n) (TxDone a ∷ [])) e

seen_now : (a : ℕ) (same now : Bool) (b : Bool) → same ≡ true
    → cond (same && now) [] (TxDone a ∷ []) ≡ cond now [] (TxDone a ∷ [])
seen_now a true now b e = refl
seen_now a false now b e = absurd (cc)

now_unseen : (a n : ℕ) (b : Bool) → unseen_after (cond b [] (TxDone a ∷ [])) (TxDone a) n ≡ cond (b || eqb n 1) [] (TxDone a ∷ [])
now_unseen a n true = refl
now_unseen a n false = seen_now a (eqb a a) (eqb n 1) false (eq-eqb a a refl)

pub when_found : (same : Bool) (s : Draining) → s.unseen ≡ [] → (s.empty ≡ true) → (cond same (record s { empty = are_none s.unseen }) s).empty ≡ true
when_found true s e f = ap are_none e
when_found false s e f = f

pub found_here : (same : Bool) (s : Draining) → same ≡ true → s.unseen ≡ [] → (cond same (record s { empty = are_none s.unseen }) s).empty ≡ true
found_here true s e f = ap are_none f
found_here false s e f = absurd (cc)

pub same_unseen : (same : Bool) (s : Draining) (b : Bool) → (cond same (record s { empty = b }) s).unseen ≡ s.unseen
same_unseen true s b = refl
same_unseen false s b = refl

last_or_before : (class k : ℕ) → class < k + 1 → (class ≡ k → ⊥) → class < k
last_or_before class k h e = omega arith

module _ (a t : ℕ) where
  still : (tx_done : Bool) (old new : Type 0) (l : List Told) (call : Call) (reply : Reply) → ((s : Draining) → draining_after (Tx t) s call reply ≡ s) → (new → old)
      → IsDrained a t tx_done old l → IsDrained a t tx_done new (with_told l call reply)
  still tx_done old new l call reply e f h =
      let same = draining_told (TxDone a ∷ []) (Tx t) l call reply ∙ e (draining a t l) in
      record { unseen = ap (λ s. s.unseen) same ∙ h.unseen; empty = λ n. ap (λ s. s.empty) same ∙ h.empty (f n) }

  fewer : (tx_done : Bool) (old new : Type 0) (l : List Told) → (new → old) → IsDrained a t tx_done old l → IsDrained a t tx_done new l
  fewer tx_done old new l f h = record { unseen = h.unseen; empty = λ n. h.empty (f n) }

  looked_other : (tx_done : Bool) (old new : Type 0) (l : List Told) (m : Mark) (n : ℕ) → is_mark (TxDone a) m ≡ false → (new → ⊥) → IsDrained a t tx_done old l
      → IsDrained a t tx_done new (with_told l (Look m) (Old n))
  looked_other tx_done old new l m n e f h =
      let same = draining_told (TxDone a ∷ []) (Tx t) l (Look m) (Old n) in
      record {
        unseen = ap (λ s. s.unseen) same ∙ ap (λ ms. unseen_after ms m n) h.unseen ∙ other_unseen a n m tx_done e;
        empty = λ x. absurd (f x);
      }

  looked_mark : (tx_done : Bool) (old new : Type 0) (l : List Told) (n : ℕ) → (new → ⊥) → IsDrained a t tx_done old l
      → IsDrained a t (tx_done || eqb n 1) new (with_told l (Look (TxDone a)) (Old n))
  looked_mark tx_done old new l n f h =
      let same = draining_told (TxDone a ∷ []) (Tx t) l (Look (TxDone a)) (Old n) in
      record {
        unseen = ap (λ s. s.unseen) same ∙ ap (λ ms. unseen_after ms (TxDone a) n) h.unseen ∙ now_unseen a n tx_done;
        empty = λ x. absurd (f x);
      }

  -- a Peek on a TX ring
  peeked : (tx_done : Bool) (old new : Type 0) (l : List Told) (s n : ℕ) (items : List Item) → (new → ⊥) → IsDrained a t tx_done old l
      → IsDrained a t tx_done new (with_told l (Peek (Tx s) n) (Items items))
  peeked tx_done old new l s n items f h =
      let same = draining_told (TxDone a ∷ []) (Tx t) l (Peek (Tx s) n) (Items items) in
      record {
        unseen = ap (λ s. s.unseen) same ∙ same_unseen (eqb t s) (draining a t l) false ∙ h.unseen;
        empty = λ x. absurd (f x);
      }

  -- or one that found it empty, where it need not be
  found_once : (tx_done : Bool) (l : List Told) (s n : ℕ) → IsDrained a t tx_done ⊥ l → IsDrained a t tx_done ⊥ (with_told l (Peek (Tx s) n) Empty)
  found_once tx_done l s n h =
      let u = draining a t l in
      let same = draining_told (TxDone a ∷ []) (Tx t) l (Peek (Tx s) n) Empty in
      record { unseen = ap (λ s. s.unseen) same ∙ same_unseen (eqb t s) u (are_none u.unseen) ∙ h.unseen; empty = λ x. absurd x }

  none_unseen : (tx_done : Bool) (old : Type 0) (l : List Told) → tx_done ≡ true → IsDrained a t tx_done old l → (draining a t l).unseen ≡ []
  none_unseen tx_done old l e h = h.unseen ∙ ap {B = List Mark} (λ b. cond b [] (TxDone a ∷ [])) e

  found_empty : (tx_done : Bool) (class k n s : ℕ) (quiet : Type 0) (l : List Told) → (quiet → tx_done ≡ true) → (class ≡ k → t ≡ s)
      → IsDrained a t tx_done ((class < k) × quiet) l → IsDrained a t tx_done ((class < k + 1) × quiet) (with_told l (Peek (Tx s) n) Empty)
  found_empty tx_done class k n s quiet l done is h =
      let u = draining a t l in
      let same = draining_told (TxDone a ∷ []) (Tx t) l (Peek (Tx s) n) Empty in
      record {
        unseen = ap (λ s. s.unseen) same ∙ same_unseen (eqb t s) u (are_none u.unseen) ∙ h.unseen;
        empty = λ x.
            let none = none_unseen tx_done ((class < k) × quiet) l (done x.1) h in
            ap (λ s. s.empty) same
            ∙ ⊎_elim (λ (e : class ≡ k). found_here (eqb t s) u (eq-eqb t s (is e)) none)
            (λ (e : class ≡ k → ⊥). when_found (eqb t s) u none (h.empty (last_or_before class k x.0 e, x.1))) (cases_eq class k);
      }

module _ (seat : Seat) (class : ℕ) (below : class < seat.classes) where
  abbrev At : Family
  At p noted kept l = IsDrained (application_of seat) (socket_of seat class) kept.tx_done (Needs class p noted kept) l

  abbrev Asked : Kept → Call → List Told → Type 0
  Asked kept call l = Unit {0}

  abbrev Over : Kept → List Told → Type 0
  Over kept l = (draining (application_of seat) (socket_of seat class) l).empty ≡ true

  abbrev a : ℕ
  a = application_of seat

  abbrev t : ℕ
  t = socket_of seat class

  entries : AtEntries seat Anything At Asked
  entries (looked_none packet n) noted kept l known found h x q = looked_other a t kept.tx_done ⊥ _ l (Cell seat.port (cell_of packet.verdict)) n refl (λ x. absurd (omega (arith, x.0))) h
  entries (looked_long packet n s) noted kept l known found h x q = looked_other a t kept.tx_done ⊥ _ l (Cell seat.port (cell_of packet.verdict)) n refl (λ x. absurd (omega (arith, x.0))) h
  entries (looked_some packet n s) noted kept l known found h x q = looked_other a t kept.tx_done ⊥ ⊥ l (Cell seat.port (cell_of packet.verdict)) n refl (λ x. x) h
  entries (told_rx_done n) noted kept l known found h x q = still a t kept.tx_done ⊥ _ l _ (Old n) (λ s. refl) (λ x. absurd (omega (arith, x.0))) h
  entries (told_bounced packet n) noted kept l known found h x q = still a t kept.tx_done ⊥ _ l _ (Old n) (λ s. refl) (λ x. absurd (omega (arith, x.0))) h
  entries (rx_submitted packet s) noted kept l known found h x q = still a t kept.tx_done ⊥ _ l _ Submitted (λ s. refl) (λ x. absurd (omega (arith, x.0))) h
  entries (comp_full k packet later free) noted kept l known found h x q = still a t kept.tx_done _ _ l _ (Full free) (λ s. refl) (λ x. absurd (let no = x.1 in cc)) h
  entries (comp_submitted k packet later) noted kept l known found h x q = still a t kept.tx_done _ _ l _ Submitted (λ s. refl) (λ x. absurd (let no = x.1.0 in cc)) h
  entries (tx_empty Turning k) noted kept l known found h x q = found_empty a t kept.tx_done class k seat.batch (socket_of seat k) (Quiet noted kept) l (λ x. x.2) (λ e. ap (socket_of seat) e) h
  entries (tx_items Turning k items) noted kept l known found h x q = peeked a t kept.tx_done _ _ l (socket_of seat k) seat.batch items (λ x. let no = x.1.0 in cc) h
  entries (looked_tx_done n) noted kept l known found h x q = looked_mark a t kept.tx_done _ ⊥ l n (λ x. x) h
  entries (armed_fill n) noted kept l known found h x q = still a t kept.tx_done _ ⊥ l _ (Old n) (λ s. refl) (λ x. absurd x) h
  entries (tx_empty Again k) noted kept l known found h x q = found_once a t kept.tx_done l (socket_of seat k) seat.batch h
  entries (tx_items Again k items) noted kept l known found h x q = peeked a t kept.tx_done ⊥ ⊥ l (socket_of seat k) seat.batch items (λ x. x) h
  entries (tx_released Again k n) noted kept l known found h x q = still a t kept.tx_done ⊥ ⊥ l _ Released (λ s. refl) (λ x. x) h
  entries (found_end n) noted kept l known found h x q =
      subst (λ b. IsDrained a t b ⊥ (with_told l (Look (TxDone a)) (Old n))) (ap (λ b. kept.tx_done || b) found ∙ or-true kept.tx_done) (looked_mark a t kept.tx_done ⊥ ⊥ l n (λ x. x) h)
  entries (found_none n) noted kept l known found h x q =
      subst (λ b. IsDrained a t b ⊥ (with_told l (Look (TxDone a)) (Old n))) (ap (λ b. kept.tx_done || b) found ∙ or-false kept.tx_done) (looked_mark a t kept.tx_done ⊥ ⊥ l n (λ x. x) h)
  entries (kicked frames n) noted kept l known found h x q = looked_other a t kept.tx_done ⊥ ⊥ l (Kick seat.pair) n refl (λ x. x) h
  entries (not_kicked frames n) noted kept l known found h x q = looked_other a t kept.tx_done ⊥ ⊥ l (Kick seat.pair) n refl (λ x. x) h
  entries (saw_fed s n) noted kept l known found h x q = looked_other a t kept.tx_done ⊥ ⊥ l (Closing s) n refl (λ x. x) h
  entries (saw_closed s n) noted kept l known found h x q = looked_other a t kept.tx_done ⊥ ⊥ l (Closing s) n refl (λ x. x) h
  entries e noted kept l known found h x q =
      still a t kept.tx_done (Needs class (leads seat e noted kept).0 noted kept) (Needs class (leads seat e noted kept).0 noted kept) l (call_at seat (point_of e) kept) (reply_of e) (λ s. refl) (λ x. x) h

  silent : AtSilent seat Anything At
  silent none_comes noted kept l = λ h e. fewer a t kept.tx_done ⊥ _ l (λ x. absurd (omega (arith, x.0))) h
  silent (waits packet s full) noted kept l = λ h e. fewer a t kept.tx_done ⊥ _ l (λ x. absurd (omega (arith, x.0))) h
  silent (drops_full packet s) noted kept l = λ h e. fewer a t kept.tx_done ⊥ _ l (λ x. absurd (omega (arith, x.0))) h
  silent (drops_frameless packet s) noted kept l = λ h e. fewer a t kept.tx_done ⊥ _ l (λ x. absurd (omega (arith, x.0))) h
  silent visited noted kept l = λ h e. fewer a t kept.tx_done _ _ l (λ x. (below, x)) h
  silent idles noted kept l = λ h e. fewer a t kept.tx_done _ ⊥ l (λ x. absurd x) h
  silent arms noted kept l = λ h e. fewer a t kept.tx_done _ ⊥ l (λ x. absurd x) h
  silent p noted kept l = λ h e. h

  law : IsLaw seat Anything At Asked Over
  law = record {
    calls = λ p noted kept l known h. tt;
    entries = entries;
    silent = silent;
    ends = λ noted kept l n known h x q. (still a t kept.tx_done (Quiet noted kept) (Quiet noted kept) l (Swap (Gone seat.pair) 1) (Old n) (λ s. refl) (λ x. x) h).empty known;
  }

pub drains_tx : DrainsTx
drains_tx wire c d class input l whole below =
    let seat = seat_of wire c d in
    at_end seat Anything (At seat class below) (Asked seat class below) (Over seat class below) (law seat class below) (start (classes_of c) input)
    (record { unseen = refl; empty = λ x. absurd x }) l (meet_anything (turn seat) _ [] l) whole.0 whole.1
