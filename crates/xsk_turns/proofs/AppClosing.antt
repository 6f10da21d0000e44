-- How an application closes a socket: once it has lowered all cells that held it; and from then on it reserves and submits
-- nothing on its TX ring.
use Rattle.std.proofs.Common.{◌≡◌, ℕ, suc, ◌+◌, ◌<◌, ⊎_elim, Bool, true, false, cond, ◌&&◌, ◌||◌, eqb, slice_index, Option, Some, None, List, [], set, refl, sym, ap, ◌∙◌, subst, arith, eq-eqb}
use Rattle.std.proofs.lemmas.Bool.{cases_eq}
use Rattle.std.proofs.lemmas.List.Sums.{fold_push}
use Rattle.xsk_turns.proofs.Object.{Config, IsFed}
use Rattle.xsk_turns.proofs.Calls.{Told, with_told, Rx, Tx, Mark, RxDone, Gone, Cell, Call, Reserve, Submit, Swap, Look, Reply, Old}
use Rattle.xsk_model.specs.declared.call.Mark.TheVariants.{Closing}
use Rattle.xsk_model.specs.Marks.{HoldsClosing, is_mark}
use Rattle.xsk_model.specs.Swaps.{set_after, set_step, last_set, HasCleared, MayFeed}
use Rattle.xsk_model.proofs.Closings.{is_mark-self}
use Rattle.xsk_turns.specs.Script.{Script, Asks, Ends}
use Rattle.xsk_turns.specs.AppTurns.{AppKept, rx_of, tx_of, pair_of, with_seen, with_gone, noted_first, app_turn, app_start_by, Shut, is_closed, drains}
use Rattle.xsk_turns.specs.AppOwned.{IsApp}
use Rattle.xsk_turns.specs.declared.manner.Manner.{Manner}
use Rattle.xsk_turns.proofs.AppShut.{IsShut, shut_mine}
use Rattle.xsk_turns.proofs.Walks.{Anything, meet_anything}
use Rattle.xsk_turns.proofs.AppWalk.{Stage, Lanes, Lane, Sides, Side, Ending, Looking, Waking, Looked, Kicking, TxTold, Lowering, Shutting, Draining, Family, ReserveTx, SubmitTx, TellClosing, shut_port, shut_cells, call_at, lowered, told_closing, looked_rx_done, looked_gone, kicked, looked_need, point_of, reply_of, without_need, needs_none, needs_kick, closes, keeps_cell, AtCalls, AtEntries, AtSilent, Said, IsLaw, at_call, at_end}

-- ---- what a call waits for

-- to close a socket, that its cells are lowered
abbrev pub AwaitsCleared : Config → List Told → Call → Type 0
AwaitsCleared c l (Swap (Closing s) value) = HasCleared c l s
AwaitsCleared c l call = Unit {0}

-- and that its ring is fed
abbrev pub IsClear : Config → List Told → Call → Type 0
IsClear c l call = MayFeed c l call × AwaitsCleared c l call

-- so it is where nothing is closed
pub clear_of_none : (c : Config) (l : List Told) (call : Call) → c.closing ≡ None → IsClear c l call
clear_of_none c l call none = (feeds call, cleared call)
  where
    no_socket : {X : Type 0} (s : ℕ) → c.closing ≡ Some s → X
    no_socket s e = absurd (let no : None ≡ Some s = sym none ∙ e in cc)

    fed : (r : _) → IsFed c l r
    fed (Rx s) = λ e. no_socket s e
    fed (Tx s) = λ e. no_socket s e
    fed r = tt

    feeds : (call : Call) → MayFeed c l call
    feeds (Reserve r n) = fed r
    feeds (Submit r items) = fed r
    feeds call = tt

    cleared : (call : Call) → AwaitsCleared c l call
    cleared (Swap (Closing s) value) = λ index has holds. no_socket s holds.0
    cleared call = tt

-- ---- the law

set_told : (m : Mark) (l : List Told) (call : Call) (reply : Reply) → last_set m (with_told l call reply) ≡ set_after m (last_set m l) call
set_told m l call reply = fold_push (set_step m) None l (record { call = call; reply = reply })

-- what it has set, by whether it has closed the socket
pub record HasSet (c : Config) (a : ℕ) (begun : Bool) (l : List Told) : Type 0 where
  pub fed : begun ≡ false → (s : ℕ) → last_set (Closing s) l ≡ None
  pub closed : begun ≡ true → (shut : Shut) × IsShut c a shut × (last_set (Closing shut.socket) l ≡ Some 1)

module _ (c : Config) (a : ℕ) (one : IsApp c a) where
  -- the cells before one are lowered
  abbrev AreLow : Shut → ℕ → List Told → Type 0
  AreLow shut index l = (i : ℕ) → i < index → HoldsClosing c (shut_port c shut) i shut.socket → last_set (Cell (shut_port c shut) i) l ≡ Some 0

  abbrev IsFree : Stage → Type 0
  IsFree (Lowering shut index) = ⊥
  IsFree (Waking place need pair) = IsFree place
  IsFree (Looked place need pair n) = IsFree place
  IsFree (Kicking place pair) = IsFree place
  IsFree place = Unit {0}

  abbrev Beside : Stage → List Told → Type 0
  Beside (Lowering shut index) l = AreLow shut index l
  Beside place l = IsFree place

  beside_free : (place : Stage) (l : List Told) → IsFree place → Beside place l
  beside_free (Lanes lane) l h = tt
  beside_free (Lane lane due) l h = tt
  beside_free (Sides side) l h = tt
  beside_free (Side side due) l h = tt
  beside_free Ending l h = tt
  beside_free (Looking side) l h = tt
  beside_free (Waking place need pair) l h = h
  beside_free (Looked place need pair n) l h = h
  beside_free (Kicking place pair) l h = h
  beside_free TxTold l h = tt
  beside_free (Lowering shut index) l h = absurd h
  beside_free (Shutting shut) l h = tt
  beside_free (Draining lane due) l h = tt

  abbrev At : Family
  At place noted kept l = HasSet c a kept.begun l × Beside place l

  abbrev Asked : Said
  Asked kept call l = IsClear c l call

  abbrev Ended : AppKept → List Told → Type 0
  Ended kept l = HasSet c a kept.begun l

  -- an open lane's TX ring is fed
  fed_lane : (lane : ℕ) (kept : AppKept) (l : List Told) → drains c a lane kept ≡ false → HasSet c a kept.begun l → IsFed c l (Tx (tx_of c a lane))
  fed_lane lane kept l off has e set =
      let closed : is_closed c a lane c.closing ≡ true = ap (is_closed c a lane) e ∙ ap (λ b. eqb (rx_of c a lane) (tx_of c a lane) || b) (eq-eqb (tx_of c a lane) (tx_of c a lane) refl) ∙ or_on (eqb (rx_of c a lane) (tx_of c a lane)) in
      let open_still : kept.begun ≡ false = sym (and_on kept.begun) ∙ ap (λ b. kept.begun && b) (sym closed) ∙ off in
      absurd (let no : None ≡ Some 1 = sym (has.fed open_still (tx_of c a lane)) ∙ set in cc)
    where
      or_on : (b : Bool) → (b || true) ≡ true
      or_on true = refl
      or_on false = refl

      and_on : (b : Bool) → (b && true) ≡ b
      and_on true = refl
      and_on false = refl

  calls : AtCalls c a At Asked
  calls (ReserveTx lane) noted kept l known h = (fed_lane lane kept l known.2 h.0, tt)
  calls (SubmitTx lane) noted kept l known h = (fed_lane lane kept l known.2 h.0, tt)
  calls (TellClosing shut) noted kept l known h = (tt, λ index has holds. h.1 index has.1 holds)
  calls p noted kept l known h = (tt, tt)

  -- an entry that sets no Closing
  keeps : (begun : Bool) (l : List Told) (call : Call) (reply : Reply) → ((s : ℕ) (o : Option ℕ) → set_after (Closing s) o call ≡ o) → HasSet c a begun l → HasSet c a begun (with_told l call reply)
  keeps begun l call reply set has = record {
    fed = λ f s. set_told (Closing s) l call reply ∙ set s (last_set (Closing s) l) ∙ has.fed f s;
    closed = λ f. let now = has.closed f in (now.0, now.1, set_told (Closing now.0.socket) l call reply ∙ set now.0.socket (last_set (Closing now.0.socket) l) ∙ now.2);
  }

  low_more : (shut : Shut) (index n : ℕ) (l : List Told) → AreLow shut index l → AreLow shut (index + 1) (with_told l (Swap (Cell (shut_port c shut) index) 0) (Old n))
  low_more shut index n l low i below holds = ⊎_elim
      (λ (same : i ≡ index).
      set_told here l (Swap (Cell (shut_port c shut) index) 0) (Old n)
      ∙ ap (λ b. cond b (Some 0) (last_set here l)) (subst (λ k. is_mark (Cell (shut_port c shut) i) (Cell (shut_port c shut) k) ≡ true) same (is_mark-self (Cell (shut_port c shut) i))))
      (λ (other : i ≡ index → ⊥).
      set_told here l (Swap (Cell (shut_port c shut) index) 0) (Old n) ∙ stays (is_mark here (Cell (shut_port c shut) index)) (last_set here l) (low i (earlier i index below other) holds))
      (cases_eq i index)
    where
      here : Mark
      here = Cell (shut_port c shut) i

      earlier : (i index : ℕ) → i < index + 1 → (i ≡ index → ⊥) → i < index
      earlier i index h k = omega arith

      stays : (b : Bool) (o : Option ℕ) → o ≡ Some 0 → cond b (Some 0) o ≡ Some 0
      stays true o e = refl
      stays false o e = e

  -- the next cell doesn't hold it
  low_past : (shut : Shut) (index i : ℕ) (l : List Told) → AreLow shut index l → eqb (slice_index (shut_cells c shut) index) (suc shut.socket) ≡ false → i < index + 1
      → HoldsClosing c (shut_port c shut) i shut.socket → last_set (Cell (shut_port c shut) i) l ≡ Some 0
  low_past shut index i l low other below holds = ⊎_elim
      (λ (same : i ≡ index).
      absurd (let no : false ≡ true = sym other ∙ eq-eqb (slice_index (shut_cells c shut) index) (suc shut.socket) (ap (slice_index (shut_cells c shut)) (sym same) ∙ holds.1) in cc))
      (λ (apart : i ≡ index → ⊥). low i (earlier i index below apart) holds)
      (cases_eq i index)
    where
      earlier : (i index : ℕ) → i < index + 1 → (i ≡ index → ⊥) → i < index
      earlier i index h k = omega arith

  seen_begun : (kept : AppKept) (side n : ℕ) → (with_seen kept side n).begun ≡ kept.begun
  seen_begun kept side n = by (eqb n 1)
    where
      by : (b : Bool) → (let k : AppKept = cond b (record kept { seen = set kept.seen side true }) kept in k.begun ≡ kept.begun)
      by true = refl
      by false = refl

  gone_begun : (kept : AppKept) (side n : ℕ) → (with_gone kept side n).begun ≡ kept.begun
  gone_begun kept side n = by (eqb n 1)
    where
      by : (b : Bool) → (let k : AppKept = cond b (record kept { gone = set kept.gone side true }) kept in k.begun ≡ kept.begun)
      by true = refl
      by false = refl

  entries : AtEntries c a Anything At Asked
  entries (lowered shut index n) noted kept l known h asked q = (keeps kept.begun l _ (Old n) (λ s o. refl) h.0, low_more shut index n l h.1)
  entries (told_closing shut n) noted kept l known h asked q = (
    record {
      fed = λ f. absurd (cc);
      closed = λ f. (
        shut,
        shut_mine c a shut known.0,
        set_told (Closing shut.socket) l _ (Old n) ∙ ap (λ b. cond b (Some 1) (last_set (Closing shut.socket) l)) (eq-eqb shut.socket shut.socket refl),
      );
    },
    tt,
  )
  entries (looked_need place need pair n) noted kept l known h asked q = (keeps kept.begun l (Look need) (Old n) (λ s o. refl) h.0, h.1)
  entries (kicked place pair n) noted kept l known h asked q = (keeps kept.begun l _ (Old n) (λ s o. refl) h.0, beside_free place _ h.1)
  entries (looked_rx_done side n) noted kept l known h asked q = (subst (λ b. HasSet c a b (with_told l (Look (RxDone (pair_of c a side))) (Old n))) (sym (seen_begun kept side n)) (keeps kept.begun l (Look (RxDone (pair_of c a side))) (Old n) (λ s o. refl) h.0), tt)
  entries (looked_gone side n) noted kept l known h asked q = (subst (λ b. HasSet c a b (with_told l (Look (Gone (pair_of c a side))) (Old n))) (sym (gone_begun kept side n)) (keeps kept.begun l (Look (Gone (pair_of c a side))) (Old n) (λ s o. refl) h.0), tt)
  entries e noted kept l known h asked q = (keeps kept.begun l (call_at c a (point_of e) kept) (reply_of e) (λ s o. refl) h.0, tt)

  silent : AtSilent c a At
  silent (without_need place need pair) noted kept l = λ h off. (h.0, beside_free place l h.1)
  silent (needs_none place need pair n) noted kept l = λ h off. (h.0, beside_free place l h.1)
  silent (needs_kick place need pair n) noted kept l = λ h off. h
  silent (closes shut) noted kept l = λ h e. (h.0, λ i below holds. absurd (omega arith))
  silent (keeps_cell shut index) noted kept l = λ h e. (h.0, λ i below holds. low_past shut index i l h.1 e.1 below holds)
  silent p noted kept l = λ h e. h

  law : IsLaw c a Anything At Asked Ended
  law = record { calls = calls; entries = entries; silent = silent; ends = λ noted kept l done h. h.0 }

module _ (m : Manner) (c : Config) (a : ℕ) (one : IsApp c a) (l : List Told) where
  begins : At c a one (Lanes 0) (noted_first (app_start_by m c)) (app_start_by m c) []
  begins = (record { fed = λ f s. refl; closed = λ f. absurd (cc) }, tt)

  -- each call that it makes is clear
  pub clear_at : (kept : AppKept) (call : Call) (rest : Reply → Script AppKept) → Asks (app_turn c a) (app_start_by m c) l kept call rest → IsClear c l call
  clear_at = at_call c a one Anything (At c a one) (Asked c a one) (Ended c a one) (law c a one) (app_start_by m c) begins l (meet_anything (app_turn c a) (app_turn c a (app_start_by m c)) [] l)

  -- and what it has set at its end
  pub set_at_end : (kept : AppKept) → Ends (app_turn c a) (app_start_by m c) l kept → HasSet c a kept.begun l
  set_at_end = at_end c a one Anything (At c a one) (Asked c a one) (Ended c a one) (law c a one) (app_start_by m c) begins l (meet_anything (app_turn c a) (app_turn c a (app_start_by m c)) [] l)
