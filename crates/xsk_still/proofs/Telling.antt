-- A driver tells that it is gone last of all, and an application that has ended has found both drivers gone.
use Rattle.std.proofs.Common.{◌≡◌, ◌⊎◌, inl, inr, subst, ℕ, zero, suc, ◌<◌, Bool, true, false, cond, eqb, ◌&&◌, ◌||◌, List, [], ◌∷◌, length, set, refl, sym, ap, ◌∙◌, ⊎_elim, arith, eq-eqb, ne_eqb, length-set, get_or-set_same, get_or-set_other}
use Rattle.std.proofs.lemmas.Bool.{cases_eq, and_parts, or_from}
use Rattle.xsk_turns.proofs.Object.{Config, classes_of, is_ring, Draining, are_none, unseen_after, draining_after, draining_of, Telling, telling_after, telling_of}
use Rattle.xsk_model.specs.Marks.{is_mark}
use Rattle.xsk_model.specs.Ends.{found}
use Rattle.xsk_turns.proofs.Calls.{Told, with_told, Ring, Comp, Mark, NeedFill, NeedTx, RxDone, Gone, Call, Submit, Peek, Swap, Look, Reply, Items, Empty, Old}
use Rattle.xsk_model.specs.declared.call.Mark.TheVariants.{Acked}
use Rattle.xsk_turns.specs.Script.{Script, ask, again, ended, never, IsLive, Leaves}
use Rattle.xsk_turns.specs.Turns.{Seat, Kept, seat_of, start, turn, IsWholeDriverRun}
use Rattle.xsk_turns.specs.AppTurns.{AppKept, pair_of, is_set, both, with_gone, app_turn, app_start}
use Rattle.xsk_turns.specs.AppOwned.{IsApp}
use Rattle.xsk_turns.proofs.AppPlaces.{pairs_apart}
use Rattle.xsk_turns.proofs.Draining.{draining_told}
use Rattle.xsk_turns.proofs.ReceivingLaws.{telling_told, now_told, and_off}
use Rattle.xsk_turns.proofs.ScriptLemmas.{leaves_one}
use Rattle.xsk_turns.proofs.Walks.{Law, Says, Anything, meet_anything, says_left}
use Rattle.xsk_turns.proofs.DriverStages as walk
use Rattle.xsk_turns.proofs.DriverWalk as along
use Rattle.xsk_turns.proofs.AppWalk as app
use Rattle.xsk_still.specs.Own.{TellsGoneLast, SeesGone}

-- ---- a driver

-- whether a call sets a mark
abbrev sets : Mark → Call → Bool
sets m (Swap n value) = is_mark m n && eqb value 1
sets m call = false

module _ (m : Mark) (r : Ring) where
  abbrev Untold : List Told → Type 0
  Untold l = ((telling_of m r l).told ≡ false) × ((telling_of m r l).late ≡ false)

  untold_after : (s : Telling) (call : Call) → sets m call ≡ false → (s.told ≡ false) × (s.late ≡ false) → ((telling_after m r s call).told ≡ false) × ((telling_after m r s call).late ≡ false)
  untold_after s (Swap n value) e h = (or_from s.told (is_mark m n && eqb value 1) h.0 e, h.1)
  untold_after s (Submit q items) e h = (h.0, or_from s.late (s.told && is_ring r q) h.1 (and_off s.told (is_ring r q) h.0))
  untold_after s call e h = h

  untold : (l : List Told) (call : Call) (reply : Reply) → sets m call ≡ false → Untold l → Untold (with_told l call reply)
  untold l call reply e h =
      let now = untold_after (telling_of m r l) call e h in
      let same = telling_told m r l call reply in
      (ap (λ (s : Telling). s.told) same ∙ now.0, ap (λ (s : Telling). s.late) same ∙ now.1)

module _ (seat : Seat) (s : ℕ) where
  abbrev gone : List Told → Telling
  gone l = telling_of (Gone seat.pair) (Comp s) l

  abbrev Not : List Told → Type 0
  Not l = Untold (Gone seat.pair) (Comp s) l

  abbrev At : walk.Family
  At place noted kept l = Not l

  abbrev Last : Kept → List Told → Type 0
  Last kept l = ((gone l).told ≡ true) × ((gone l).late ≡ false)

  calls : walk.AtCalls seat Anything At (λ kept call l. Not l)
  calls p noted kept l known h = h

  entries : walk.AtEntries seat Anything At (λ kept call l. Not l)
  entries (walk.told_rx_done n) noted kept l known found h a q = untold (Gone seat.pair) (Comp s) l (Swap (RxDone seat.pair) 1) (Old n) refl h
  entries e noted kept l known found h a q = untold (Gone seat.pair) (Comp s) l (walk.call_at seat (walk.point_of e) kept) (walk.reply_of e) refl h

  silent : walk.AtSilent seat Anything At
  silent walk.none_comes noted kept l = λ h e. h
  silent p noted kept l = λ h e. h

  ends : walk.AtEnd seat Anything At (λ kept call l. Not l) Last
  ends noted kept l n known h a q =
      let same = telling_told (Gone seat.pair) (Comp s) l (Swap (Gone seat.pair) 1) (Old n) in (
        ap (λ (t : Telling). t.told) same ∙ now_told (gone l).told (eqb seat.pair seat.pair) (eq-eqb seat.pair seat.pair refl),
        ap (λ (t : Telling). t.late) same ∙ h.1,
      )

  abbrev said : walk.Said
  said kept call l = Not l

  is_law : walk.IsLaw seat Anything At said Last
  is_law = record { calls = calls; entries = entries; silent = silent; ends = ends }

  abbrev law : Law Kept
  law = record { begins = λ kept l. walk.Begins At kept l; asks = said; ends = Last }

  says : (begins : Kept) (l : List Told) (left : Script Kept) → Leaves (turn seat) (turn seat begins) l left → Says law left l
  says begins l left leaves =
      says_left Anything law (turn seat) (along.go_turn seat Anything At said Last is_law) begins l left (refl, refl) (meet_anything (turn seat) _ [] l) leaves

pub tells_gone_last : TellsGoneLast
tells_gone_last wire c d s input l run = by run.0 run.2 run.1
  where
    IsOpen : Script Kept → Type 0
    IsOpen (ended kept) = ⊥
    IsOpen script = Unit {0}

    open_yet : (left : Script Kept) → IsWholeDriverRun wire c d input l → Leaves (turn (seat_of wire c d)) (turn (seat_of wire c d) (start (classes_of c) input)) l left → IsOpen left → ⊥
    open_yet left whole leaves goes =
        subst IsOpen (leaves_one (turn (seat_of wire c d)) (turn (seat_of wire c d) (start (classes_of c) input)) l left (ended whole.0) leaves whole.1) goes

    by : (left : Script Kept) → IsLive left → Leaves (turn (seat_of wire c d)) (turn (seat_of wire c d) (start (classes_of c) input)) l left
        → ((telling_of (Gone d) (Comp s) l).late ≡ false)
        × ((IsWholeDriverRun wire c d input l × ((telling_of (Gone d) (Comp s) l).told ≡ true))
        ⊎ ((IsWholeDriverRun wire c d input l → ⊥) × ((telling_of (Gone d) (Comp s) l).told ≡ false)))
    by (ask kept call rest) live leaves = let h = says (seat_of wire c d) s (start (classes_of c) input) l (ask kept call rest) leaves in (h.1, inr ((λ whole. open_yet (ask kept call rest) whole leaves tt), h.0))
    by (again kept) live leaves = let h = says (seat_of wire c d) s (start (classes_of c) input) l (again kept) leaves in (h.1, inr ((λ whole. open_yet (again kept) whole leaves tt), h.0))
    by (ended kept) live leaves = let h = says (seat_of wire c d) s (start (classes_of c) input) l (ended kept) leaves in (h.1, inl ((kept, leaves), h.0))
    by never live leaves = absurd live

-- ---- an application

peek_unseen : (r : Ring) (s : Draining) (q : Ring) (reply : Reply) → (found r s q reply).unseen ≡ s.unseen
peek_unseen r s q (Items items) = by (is_ring r q)
  where
    by : (b : Bool) → (cond b (record s { empty = false }) s).unseen ≡ s.unseen
    by true = refl
    by false = refl
peek_unseen r s q Empty = by (is_ring r q)
  where
    by : (b : Bool) → (cond b (record s { empty = are_none s.unseen }) s).unseen ≡ s.unseen
    by true = refl
    by false = refl
peek_unseen r s q reply = refl

-- a call that isn't a look
abbrev IsNoLook : Call → Type 0
IsNoLook (Look m) = ⊥
IsNoLook call = Unit {0}

unseen_stays : (r : Ring) (s : Draining) (call : Call) (reply : Reply) → IsNoLook call → (draining_after r s call reply).unseen ≡ s.unseen
unseen_stays r s (Look m) reply other = absurd other
unseen_stays r s (Peek q n) reply other = peek_unseen r s q reply
unseen_stays r s call reply other = refl

-- the mark of one driver, as long as it wasn't found to be 1
abbrev unless : ℕ → Bool → List Mark
unless d seen = cond seen [] (Gone d ∷ [])

other_look : (d n : ℕ) (m : Mark) (seen : Bool) → is_mark (Gone d) m ≡ false → unseen_after (unless d seen) m n ≡ unless d seen
other_look d n m true e = refl
other_look d n m false e = ap (λ b. cond (b && eqb n 1) [] (Gone d ∷ [])) e

own_look : (d n : ℕ) (m : Mark) (seen : Bool) → is_mark (Gone d) m ≡ true → unseen_after (unless d seen) m n ≡ unless d (seen || eqb n 1)
own_look d n m true e = refl
own_look d n m false e = ap (λ b. cond (b && eqb n 1) [] (Gone d ∷ [])) e

no_gone : (d : ℕ) (need : Mark) → app.is_need need ≡ true → is_mark (Gone d) need ≡ false
no_gone d (NeedFill e) h = refl
no_gone d (NeedTx e) h = refl
no_gone d need h = cc

module _ (c : Config) (a : ℕ) (one : IsApp c a) (side : ℕ) (below : side < 2) where
  abbrev d : ℕ
  d = pair_of c a side

  abbrev unseen : List Told → List Mark
  unseen l = (draining_of (Gone d ∷ []) (Comp d) l).unseen

  -- a driver is kept as gone where its mark was found to be 1, and was where it is noted
  record Sees (noted_gone : Bool) (flags : List Bool) (l : List Told) : Type 0 where
    pub sides : length flags ≡ 2
    pub left : unseen l ≡ unless d (is_set flags side)
    pub known : noted_gone ≡ true → is_set flags side ≡ true

  abbrev SeesAt : app.Family
  SeesAt place noted kept l = Sees noted.gone kept.gone l

  still : (b : Bool) (flags : List Bool) (l : List Told) (call : Call) (reply : Reply) → IsNoLook call → Sees b flags l → Sees b flags (with_told l call reply)
  still b flags l call reply other h = record {
    sides = h.sides;
    left = ap (λ (s : Draining). s.unseen) (draining_told (Gone d ∷ []) (Comp d) l call reply) ∙ unseen_stays (Comp d) (draining_of (Gone d ∷ []) (Comp d) l) call reply other ∙ h.left;
    known = h.known;
  }

  looked : (b : Bool) (flags : List Bool) (l : List Told) (m : Mark) (n : ℕ) → is_mark (Gone d) m ≡ false → Sees b flags l → Sees b flags (with_told l (Look m) (Old n))
  looked b flags l m n e h = record {
    sides = h.sides;
    left = ap (λ (s : Draining). s.unseen) (draining_told (Gone d ∷ []) (Comp d) l (Look m) (Old n)) ∙ ap (λ ms. unseen_after ms m n) h.left ∙ other_look d n m (is_set flags side) e;
    known = h.known;
  }

  -- one of the two sides is looked at
  looked_side : (b : Bool) (kept : AppKept) (l : List Told) (other n : ℕ) → other < 2 → Sees b kept.gone l → Sees b (with_gone kept other n).gone (with_told l (Look (Gone (pair_of c a other))) (Old n))
  looked_side b kept l other n within h = ⊎_elim
      (λ (same : other ≡ side). mine same (eqb n 1) refl)
      (λ (apart : other ≡ side → ⊥). beside apart (eqb n 1))
      (cases_eq other side)
    where
      look : Call
      look = Look (Gone (pair_of c a other))

      now : unseen (with_told l look (Old n)) ≡ unseen_after (unless d (is_set kept.gone side)) (Gone (pair_of c a other)) n
      now = ap (λ (s : Draining). s.unseen) (draining_told (Gone d ∷ []) (Comp d) l (Look (Gone (pair_of c a other))) (Old n)) ∙ ap (λ ms. unseen_after ms (Gone (pair_of c a other)) n) h.left

      or_on : (x : Bool) → (x || true) ≡ true
      or_on true = refl
      or_on false = refl

      or_off : (x : Bool) → (x || false) ≡ x
      or_off true = refl
      or_off false = refl

      mine : other ≡ side → (seen : Bool) → eqb n 1 ≡ seen → (let k : AppKept = cond seen (record kept { gone = set kept.gone other true }) kept in Sees b k.gone (with_told l (Look (Gone (pair_of c a other))) (Old n)))
      mine same true e =
          let here : is_set (set kept.gone other true) side ≡ true = ap (λ j. is_set (set kept.gone j true) side) same ∙ get_or-set_same kept.gone side true false (omega (arith, h.sides, below)) in
          record {
            sides = length-set kept.gone other true ∙ h.sides;
            left = now ∙ own_look d n (Gone (pair_of c a other)) (is_set kept.gone side) (eq-eqb d (pair_of c a other) (ap (pair_of c a) (sym same)))
                ∙ ap (λ x. unless d (is_set kept.gone side || x)) e ∙ ap (unless d) (or_on (is_set kept.gone side) ∙ sym here);
            known = λ f. here;
          }
      mine same false e = record {
        sides = h.sides;
        left = now ∙ own_look d n (Gone (pair_of c a other)) (is_set kept.gone side) (eq-eqb d (pair_of c a other) (ap (pair_of c a) (sym same)))
            ∙ ap (λ x. unless d (is_set kept.gone side || x)) e ∙ ap (unless d) (or_off (is_set kept.gone side));
        known = h.known;
      }

      pairs : (i j : ℕ) → i < 2 → j < 2 → (i ≡ j → ⊥) → pair_of c a i ≡ pair_of c a j → ⊥
      pairs i j p q apart e = ⊎_elim
          (λ (f : i ≡ 0). pairs_apart c a one (ap (pair_of c a) (sym f) ∙ e ∙ ap (pair_of c a) (let g : j ≡ 1 = omega (arith, f, q, apart) in g)))
          (λ (f : i ≡ 0 → ⊥).
          let k : i ≡ 1 = omega (arith, f, p) in
          let g : j ≡ 0 = omega (arith, k, q, apart) in
          pairs_apart c a one (sym (ap (pair_of c a) (sym k) ∙ e ∙ ap (pair_of c a) g)))
          (cases_eq i 0)

      off : (other ≡ side → ⊥) → is_mark (Gone d) (Gone (pair_of c a other)) ≡ false
      off apart = ne_eqb d (pair_of c a other) (pairs side other below within (λ e. apart (sym e)))

      beside : (other ≡ side → ⊥) → (seen : Bool) → (let k : AppKept = cond seen (record kept { gone = set kept.gone other true }) kept in Sees b k.gone (with_told l (Look (Gone (pair_of c a other))) (Old n)))
      beside apart true =
          let kept_so : is_set (set kept.gone other true) side ≡ is_set kept.gone side = get_or-set_other kept.gone other side true false (λ e. apart (sym e)) in
          record {
            sides = length-set kept.gone other true ∙ h.sides;
            left = now ∙ other_look d n (Gone (pair_of c a other)) (is_set kept.gone side) (off apart) ∙ ap (unless d) (sym kept_so);
            known = λ f. kept_so ∙ h.known f;
          }
      beside apart false = record { sides = h.sides; left = now ∙ other_look d n (Gone (pair_of c a other)) (is_set kept.gone side) (off apart); known = h.known }

  abbrev Unsaid : app.Said
  Unsaid kept call l = Unit {0}

  abbrev AllSeen : AppKept → List Told → Type 0
  AllSeen kept l = unseen l ≡ []

  app_calls : app.AtCalls c a SeesAt Unsaid
  app_calls p noted kept l known h = tt

  looked_rx : (b : Bool) (kept : AppKept) (l : List Told) (other n : ℕ) (seen : Bool) → Sees b kept.gone l
      → (let k : AppKept = cond seen (record kept { seen = set kept.seen other true }) kept in Sees b k.gone (with_told l (Look (RxDone (pair_of c a other))) (Old n)))
  looked_rx b kept l other n true h = looked b kept.gone l (RxDone (pair_of c a other)) n refl h
  looked_rx b kept l other n false h = looked b kept.gone l (RxDone (pair_of c a other)) n refl h

  app_entries : app.AtEntries c a Anything SeesAt Unsaid
  app_entries (app.looked_rx_done other n) noted kept l known h asked q = looked_rx noted.gone kept l other n (eqb n 1) h
  app_entries (app.looked_gone other n) noted kept l known h asked q = looked_side noted.gone kept l other n known.0 h
  app_entries (app.looked_need place need pair n) noted kept l known h asked q = looked noted.gone kept.gone l need n (no_gone d need known.1) h
  app_entries (app.looked_acked shut n) noted kept l known h asked q = looked noted.gone kept.gone l (Acked shut.socket) n refl h
  app_entries (app.kicked place pair n) noted kept l known h asked q = still noted.gone kept.gone l _ (Old n) tt h
  app_entries e noted kept l known h asked q = still noted.gone (app.kept_before (app.point_of e) kept).gone l (app.call_at c a (app.point_of e) kept) (app.reply_of e) tt h

  from_both : (flags : List Bool) → both flags ≡ true → is_set flags side ≡ true
  from_both flags e =
      let parts = and_parts (is_set flags 0) (is_set flags 1) e in
      ⊎_elim (λ (f : side ≡ 0). ap (is_set flags) f ∙ parts.0)
      (λ (f : side ≡ 0 → ⊥). let g : side ≡ 1 = omega (arith, f, below) in ap (is_set flags) g ∙ parts.1)
      (cases_eq side 0)

  app_silent : app.AtSilent c a SeesAt
  app_silent app.begins noted kept l = λ h e. record { sides = h.sides; left = h.left; known = from_both kept.gone }
  app_silent p noted kept l = λ h e. h

  first_of : (w x y z : Bool) → (w && x && y && z) ≡ true → w ≡ true
  first_of true x y z e = refl
  first_of false x y z e = cc

  app_law : app.IsLaw c a Anything SeesAt Unsaid AllSeen
  app_law = record {
    calls = app_calls;
    entries = app_entries;
    silent = app_silent;
    ends = λ noted kept l done h. h.left ∙ ap (unless d) (h.known (first_of noted.gone _ _ _ done.1));
  }

pub sees_gone : SeesGone
sees_gone c a side l one whole below =
    app.at_end c a one Anything (SeesAt c a one side below) (Unsaid c a one side below) (AllSeen c a one side below) (app_law c a one side below) (app_start c) (record { sides = refl; left = by side below; known = λ e. absurd (cc) }) l
    (meet_anything (app_turn c a) (app_turn c a (app_start c)) [] l) whole.0 whole.1
  where
    by : (side : ℕ) → side < 2 → ◌≡◌ {A = List Mark} (Gone (pair_of c a side) ∷ []) (unless (pair_of c a side) (is_set (false ∷ false ∷ []) side))
    by zero h = refl
    by (suc zero) h = refl
    by (suc (suc k)) h = absurd (omega (arith, h))
