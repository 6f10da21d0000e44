-- A driver that is parked has sent all, its flags are set, and it has no further packet, or its next one lacks frames.
use Rattle.std.proofs.Common.{◌≡◌, ℕ, ◌+◌, ◌-◌, ◌*◌, ◌<◌, ◌≤◌, Bool, true, false, cond, eqb, nat_lt, Option, Some, List, [], ◌∷◌, length, refl, sym, ap, ◌∙◌, subst, arith, eq-eqb, lt-ltb, leb-false, ltb-false, is_some}
use Rattle.xsk_turns.proofs.Object.{Config, classes_of, payload_of}
use Rattle.xsk_model.specs.Marks.{is_mark}
use Rattle.xsk_turns.proofs.Calls.{Told, with_told, Ring, Fill, Tx, Mark, NeedFill, NeedTx, Kick, Call, Swap, Look, Reply, Items, Empty, Old}
use Rattle.xsk_turns.specs.Turns.{Seat, Judged, Kept, Noted, awaits, limit_of, pieces_of, seat_of, start, turn, socket_of}
use Rattle.xsk_turns.specs.Owned.{IsSeat}
use Rattle.xsk_turns.specs.Watching.{Watching, watching_of}
use Rattle.xsk_turns.specs.declared.wire.Wire.{Wire}
use Rattle.xsk_turns.proofs.Layouts.{few_pieces}
use Rattle.xsk_turns.proofs.Parking.{parked_looks}
use Rattle.xsk_turns.proofs.Walks.{Anything, meet_anything}
use Rattle.xsk_turns.proofs.Watching.{watching_told, swaps, set_stays, set_now, is_true}
use Rattle.xsk_turns.proofs.DriverStages as walk
use Rattle.xsk_turns.proofs.DriverWalk as along
use Rattle.xsk_still.specs.Own.{ParkedRests}

-- what holds of a call that is the look at a kick
abbrev AtKick : Type 0 → Call → Type 0
AtKick P (Look (Kick d)) = P
AtKick P call = Unit {0}

same_frames : (frames other : Bool) → ◌≡◌ {A = Option Bool} (Some frames) (Some other) → frames ≡ other
same_frames frames other e = cc

-- what is set of a flag after a call
set_after : (flag : Mark) (r : Ring) (kick : Mark) (l : List Told) (call : Call) (reply : Reply) (b : Bool) → swaps flag call ≡ false → (watching_of flag r kick l).set ≡ b
    → (watching_of flag r kick (with_told l call reply)).set ≡ b
set_after flag r kick l call reply b e h =
    ap (λ (s : Watching). s.set) (watching_told flag r kick l call reply) ∙ set_stays flag r kick (watching_of flag r kick l) call reply e ∙ h

set_by : (flag : Mark) (r : Ring) (kick : Mark) (l : List Told) (value n : ℕ) → is_mark flag flag ≡ true → (watching_of flag r kick (with_told l (Swap flag value) (Old n))).set ≡ eqb value 1
set_by flag r kick l value n e =
    ap (λ (s : Watching). s.set) (watching_told flag r kick l (Swap flag value) (Old n)) ∙ set_now (is_mark flag flag) (record { set = eqb value 1; watched = false }) _ e

-- ---- FILL's flag

module _ (seat : Seat) where
  abbrev fill : List Told → Bool
  fill l = (watching_of (NeedFill seat.pair) (Fill seat.pair) (Kick seat.pair) l).set

  abbrev flag_at : walk.Stage → Noted → Bool
  flag_at (walk.Arming k) noted = awaits noted
  flag_at (walk.Trying walk.Again packet s due) noted = true
  flag_at (walk.Lacking walk.Again packet s full) noted = true
  flag_at (walk.Sending walk.Again k due) noted = awaits noted
  flag_at (walk.Parked frames) noted = frames
  flag_at (walk.Woken frames) noted = frames
  flag_at (walk.Disarming frames k) noted = frames
  flag_at place noted = false

  abbrev FillAt : walk.Family
  FillAt place noted kept l = fill l ≡ flag_at place noted

  abbrev FillAsked : walk.Said
  FillAsked kept call l = AtKick ((frames : Bool) → kept.parked ≡ Some frames → fill l ≡ frames) call

  abbrev Nothing : Kept → List Told → Type 0
  Nothing kept l = Unit {0}

  same : (l : List Told) (call : Call) (reply : Reply) (b : Bool) → swaps (NeedFill seat.pair) call ≡ false → fill l ≡ b → fill (with_told l call reply) ≡ b
  same l call reply b e h = set_after (NeedFill seat.pair) (Fill seat.pair) (Kick seat.pair) l call reply b e h

  own_flag : is_mark (NeedFill seat.pair) (NeedFill seat.pair) ≡ true
  own_flag = eq-eqb seat.pair seat.pair refl

  fill_calls : walk.AtCalls seat Anything FillAt FillAsked
  fill_calls (walk.LookKick frames) noted kept l known h = λ other e. h ∙ same_frames frames other (sym known ∙ e)
  fill_calls p noted kept l known h = tt

  fill_entries : walk.AtEntries seat Anything FillAt FillAsked
  fill_entries (walk.armed_fill n) noted kept l known found h a q =
      set_by (NeedFill seat.pair) (Fill seat.pair) (Kick seat.pair) l 1 n own_flag ∙ sym known.1
  fill_entries (walk.disarmed_fill n) noted kept l known found h a q = set_by (NeedFill seat.pair) (Fill seat.pair) (Kick seat.pair) l 0 n own_flag
  fill_entries (walk.fill_empty walk.Turning packet s) noted kept l known found h a q = same l _ Empty false refl h
  fill_entries (walk.fill_empty walk.Again packet s) noted kept l known found h a q = same l _ Empty true refl h
  fill_entries (walk.fill_items walk.Turning packet s items) noted kept l known found h a q = same l _ (Items items) false refl h
  fill_entries (walk.fill_items walk.Again packet s items) noted kept l known found h a q = same l _ (Items items) true refl h
  fill_entries (walk.fill_released walk.Turning packet s n) noted kept l known found h a q = same l _ _ false refl h
  fill_entries (walk.fill_released walk.Again packet s n) noted kept l known found h a q = same l _ _ true refl h
  fill_entries (walk.tx_empty walk.Turning k) noted kept l known found h a q = same l _ Empty false refl h
  fill_entries (walk.tx_empty walk.Again k) noted kept l known found h a q = same l _ Empty (awaits noted) refl h
  fill_entries (walk.tx_items walk.Turning k items) noted kept l known found h a q = same l _ (Items items) false refl h
  fill_entries (walk.tx_items walk.Again k items) noted kept l known found h a q = same l _ (Items items) (awaits noted) refl h
  fill_entries (walk.tx_released walk.Turning k n) noted kept l known found h a q = same l _ _ false refl h
  fill_entries (walk.tx_released walk.Again k n) noted kept l known found h a q = same l _ _ (awaits noted) refl h
  fill_entries e noted kept l known found h a q = same l (walk.call_at seat (walk.point_of e) kept) (walk.reply_of e) _ refl h

  fill_silent : walk.AtSilent seat Anything FillAt
  fill_silent walk.arms noted kept l = λ h e. h ∙ sym e.1
  fill_silent (walk.seeks packet s) noted kept l = λ h e. h ∙ e.1
  fill_silent (walk.sought packet s) noted kept l = λ h e. h ∙ sym e.0
  fill_silent (walk.misses packet s) noted kept l = λ h e. h ∙ sym e
  fill_silent p noted kept l = λ h e. h

  fill_law : walk.IsLaw seat Anything FillAt FillAsked Nothing
  fill_law = record { calls = fill_calls; entries = fill_entries; silent = fill_silent; ends = λ noted kept l n known h a q. tt }

  -- ---- the flags of the TX rings

  abbrev tx : ℕ → List Told → Bool
  tx class l = (watching_of (NeedTx (socket_of seat class)) (Tx (socket_of seat class)) (Kick seat.pair) l).set

  abbrev SetTo : ℕ → List Told → Type 0
  SetTo k l = (class : ℕ) → class < k → tx class l ≡ true

  abbrev Flagged : ℕ → List Told → Type 0
  Flagged k l = (seat.config.wakeup ≡ true) × SetTo k l

  abbrev TxAt : walk.Family
  TxAt (walk.Arming k) noted kept l = Flagged k l
  TxAt (walk.Trying walk.Again packet s due) noted kept l = Flagged seat.classes l
  TxAt (walk.Lacking walk.Again packet s full) noted kept l = Flagged seat.classes l
  TxAt (walk.Sending walk.Again k due) noted kept l = Flagged seat.classes l
  TxAt (walk.Parked frames) noted kept l = Flagged seat.classes l
  TxAt place noted kept l = Unit {0}

  abbrev TxAsked : walk.Said
  TxAsked kept call l = AtKick (Flagged seat.classes l) call

  stay : (k : ℕ) (l : List Told) (call : Call) (reply : Reply) → ((class : ℕ) → swaps (NeedTx (socket_of seat class)) call ≡ false) → Flagged k l → Flagged k (with_told l call reply)
  stay k l call reply e h = (h.0, λ class below. set_after (NeedTx (socket_of seat class)) (Tx (socket_of seat class)) (Kick seat.pair) l call reply true (e class) (h.1 class below))

  arm : (k : ℕ) (l : List Told) (n : ℕ) → SetTo k l → SetTo (k + 1) (with_told l (Swap (NeedTx (socket_of seat k)) 1) (Old n))
  arm k l n h class below = by (eqb (socket_of seat class) (socket_of seat k)) refl
    where
      flag : Mark
      flag = NeedTx (socket_of seat class)

      by : (b : Bool) → eqb (socket_of seat class) (socket_of seat k) ≡ b → tx class (with_told l (Swap (NeedTx (socket_of seat k)) 1) (Old n)) ≡ true
      by true e =
          ap (λ (s : Watching). s.set) (watching_told flag (Tx (socket_of seat class)) (Kick seat.pair) l (Swap (NeedTx (socket_of seat k)) 1) (Old n))
          ∙ set_now (eqb (socket_of seat class) (socket_of seat k)) (record { set = true; watched = false }) _ e
      by false e =
          let apart : class ≡ k → ⊥ = λ f. absurd (let no : true ≡ false = sym (eq-eqb (socket_of seat class) (socket_of seat k) (ap (socket_of seat) f)) ∙ e in cc) in
          set_after flag (Tx (socket_of seat class)) (Kick seat.pair) l (Swap (NeedTx (socket_of seat k)) 1) (Old n) true e (h class (omega (arith, below, apart)))

  tx_calls : walk.AtCalls seat Anything TxAt TxAsked
  tx_calls (walk.LookKick frames) noted kept l known h = h
  tx_calls p noted kept l known h = tt

  tx_entries : walk.AtEntries seat Anything TxAt TxAsked
  tx_entries (walk.armed_fill n) noted kept l known found h a q = (known.4, λ class below. absurd (omega (arith, below)))
  tx_entries (walk.armed_tx k n) noted kept l known found h a q = (h.0, arm k l n h.1)
  tx_entries (walk.fill_empty walk.Again packet s) noted kept l known found h a q = stay seat.classes l _ Empty (λ class. refl) h
  tx_entries (walk.fill_items walk.Again packet s items) noted kept l known found h a q = stay seat.classes l _ (Items items) (λ class. refl) h
  tx_entries (walk.fill_released walk.Again packet s n) noted kept l known found h a q = stay seat.classes l _ _ (λ class. refl) h
  tx_entries (walk.tx_empty walk.Again k) noted kept l known found h a q = stay seat.classes l _ Empty (λ class. refl) h
  tx_entries (walk.tx_items walk.Again k items) noted kept l known found h a q = stay seat.classes l _ (Items items) (λ class. refl) h
  tx_entries (walk.tx_released walk.Again k n) noted kept l known found h a q = stay seat.classes l _ _ (λ class. refl) h
  tx_entries (walk.found_none n) noted kept l known found h a q = stay seat.classes l _ (Old n) (λ class. refl) h
  tx_entries (walk.not_kicked frames n) noted kept l known found h a q = stay seat.classes l _ (Old n) (λ class. refl) h
  tx_entries e noted kept l known found h a q = tt

  tx_silent : walk.AtSilent seat Anything TxAt
  tx_silent walk.arms noted kept l = λ h e. (e.4, λ class below. absurd (omega (arith, below)))
  tx_silent walk.finds noted kept l = λ h e. tt
  tx_silent p noted kept l = λ h e. h

  tx_law : walk.IsLaw seat Anything TxAt TxAsked Nothing
  tx_law = record { calls = tx_calls; entries = tx_entries; silent = tx_silent; ends = λ noted kept l n known h a q. tt }

-- ---- what it waits for

module _ (wire : Wire) (c : Config) (pair : ℕ) (is : IsSeat c pair) where
  abbrev here : Seat
  here = seat_of wire c pair

  abbrev IsOver : Kept → Type 0
  IsOver kept = (kept.coming ≡ []) × (kept.rx_done ≡ true)

  abbrev Lacks : Kept → Type 0
  Lacks kept = (packet : Judged) × (later : List Judged) × (kept.coming ≡ packet ∷ later) × (length kept.spare < 18)

  abbrev Quietly : Noted → Kept → Type 0
  Quietly noted kept = noted.progress ≡ false → noted.full ≡ false → awaits noted ≡ false → IsOver kept

  abbrev At : walk.Family
  At (walk.Lacking walk.Turning packet s true) noted kept l = Unit {0}
  At (walk.Lacking walk.Turning packet s false) noted kept l = noted.progress ≡ false → length kept.spare < pieces_of here packet.bytes
  At (walk.Sending walk.Turning k due) noted kept l = Quietly noted kept
  At walk.Idling noted kept l = Quietly noted kept × (noted.full ≡ false → kept.finished ≡ [])
  At (walk.Arming k) noted kept l = (kept.finished ≡ []) × (awaits noted ≡ false → IsOver kept)
  At (walk.Trying walk.Again packet s due) noted kept l = kept.finished ≡ []
  At (walk.Lacking walk.Again packet s full) noted kept l = (kept.finished ≡ []) × Lacks kept
  At (walk.Sending walk.Again k due) noted kept l = noted.progress ≡ false → (kept.finished ≡ []) × (awaits noted ≡ false → IsOver kept) × (awaits noted ≡ true → Lacks kept)
  At (walk.Parked frames) noted kept l = (kept.finished ≡ []) × (frames ≡ false → IsOver kept) × (frames ≡ true → Lacks kept)
  At place noted kept l = Unit {0}

  abbrev Asked : walk.Said
  Asked kept call l = AtKick ((frames : Bool) → kept.parked ≡ Some frames → (kept.finished ≡ []) × (frames ≡ false → IsOver kept) × (frames ≡ true → Lacks kept)) call

  not_both : {A : Type 0} (b : Bool) → b ≡ true → b ≡ false → A
  not_both b e f = absurd (is_true b e f)

  -- a packet within the limit needs 18 frames at most
  pub pieces_within : (packet : List ℕ) → length packet ≤ limit_of here → pieces_of here packet ≤ 18
  pieces_within packet short = by c.sg refl
    where
      by : (b : Bool) → c.sg ≡ b → pieces_of here packet ≤ 18
      by true e = few_pieces c.geometry is.geometry 18 packet (subst (λ (b : Bool). length packet ≤ cond b 18 1 * payload_of c.geometry) e short)
      by false e = let one = few_pieces c.geometry is.geometry 1 packet (subst (λ (b : Bool). length packet ≤ cond b 18 1 * payload_of c.geometry) e short) in omega (arith, one)

  pieces_few : (packet : List ℕ) → nat_lt (limit_of here) (length packet) ≡ false → pieces_of here packet ≤ 18
  pieces_few packet fits = pieces_within packet (ltb-false (limit_of here) (length packet) fits)

  calls : walk.AtCalls here Anything At Asked
  calls (walk.LookKick frames) noted kept l known h = λ other e. subst (λ b. (kept.finished ≡ []) × (b ≡ false → IsOver kept) × (b ≡ true → Lacks kept)) (same_frames frames other (sym known ∙ e)) h
  calls p noted kept l known h = tt

  entries : walk.AtEntries here Anything At Asked
  entries (walk.told_rx_done n) noted kept l known found h a q = λ p. absurd (cc)
  entries (walk.told_bounced packet n) noted kept l known found h a q = λ p. absurd (cc)
  entries (walk.looked_none packet n) noted kept l known found h a q = λ p. absurd (cc)
  entries (walk.looked_long packet n s) noted kept l known found h a q = λ p. absurd (cc)
  entries (walk.rx_submitted packet s) noted kept l known found h a q = λ p. absurd (cc)
  entries (walk.fill_empty walk.Turning packet s) noted kept l known found h a q = λ p. leb-false (pieces_of here packet.bytes) (length kept.spare) known.1
  entries (walk.fill_empty walk.Again packet s) noted kept l known found h a q =
      let few = pieces_few packet.bytes known.0.fits in
      let below = leb-false (pieces_of here packet.bytes) (length kept.spare) known.1 in
      (h, (packet, known.0.next.later, known.0.next.is, omega (arith, few, below)))
  entries (walk.fill_items walk.Again packet s items) noted kept l known found h a q = h
  entries (walk.fill_released walk.Again packet s n) noted kept l known found h a q = h
  entries (walk.rx_full packet s free) noted kept l known found h a q = tt
  entries (walk.comp_granted k packet later) noted kept l known found h a q = h
  entries (walk.comp_full k packet later free) noted kept l known found h a q = ((λ p f. absurd (cc)), λ f. absurd (cc))
  entries (walk.comp_submitted k packet later) noted kept l known found h a q = λ p. absurd (cc)
  entries (walk.tx_empty walk.Turning k) noted kept l known found h a q = h
  entries (walk.tx_empty walk.Again k) noted kept l known found h a q = h
  entries (walk.tx_items walk.Turning k items) noted kept l known found h a q = λ p. absurd (cc)
  entries (walk.tx_items walk.Again k items) noted kept l known found h a q = λ p. absurd (cc)
  entries (walk.tx_released walk.Turning k n) noted kept l known found h a q = h
  entries (walk.tx_released walk.Again k n) noted kept l known found h a q = h
  entries (walk.armed_fill n) noted kept l known found h a q = (h.1 known.0, λ e. not_both (awaits noted) known.1 e)
  entries (walk.armed_tx k n) noted kept l known found h a q = h
  entries (walk.found_none n) noted kept l known found h a q = h known.0
  entries (walk.not_kicked frames n) noted kept l known found h a q = h
  entries e noted kept l known found h a q = tt

  silent : walk.AtSilent here Anything At
  silent walk.none_comes noted kept l = λ h e p f w. e
  silent (walk.too_few packet s) noted kept l = λ h e p. not_both noted.progress e.1 p
  silent (walk.waits packet s true) noted kept l = λ h e p f. absurd (cc)
  silent (walk.waits packet s false) noted kept l = λ h e p f w.
      let below = h p in not_both (awaits (record noted { lacking = pieces_of here packet.bytes - length kept.spare })) (lt-ltb 0 (pieces_of here packet.bytes - length kept.spare) (omega (arith, below))) w
  silent (walk.drops_full packet s) noted kept l = λ h e p. absurd (cc)
  silent (walk.drops_frameless packet s) noted kept l = λ h e p. absurd (cc)
  silent walk.visited noted kept l = λ h e. (h, λ f. e)
  silent walk.arms noted kept l = λ h e. (h.1 e.0, λ w. h.0 e.3 e.0 w)
  silent (walk.seeks packet s) noted kept l = λ h e. h.0
  silent (walk.sought packet s) noted kept l = λ h e p. not_both noted.progress e.1 p
  silent (walk.misses packet s) noted kept l = λ h e p. (h.0, (λ w. not_both (awaits noted) e w), λ w. h.1)
  silent walk.looks noted kept l = λ h e p. (h.0, h.1, λ w. not_both (awaits noted) w e)
  silent walk.parks noted kept l = λ h e. h e.0
  silent p noted kept l = λ h e. tt

  law : walk.IsLaw here Anything At Asked (Nothing here)
  law = record { calls = calls; entries = entries; silent = silent; ends = λ noted kept l n known h a q. tt }

pub parked_rests : ParkedRests
parked_rests wire c d input l frames kept call rest is fit asks parked =
    let s = seat_of wire c d in
    let begins = start (classes_of c) input in
    let kicked : call ≡ Look (Kick d) = (parked_looks wire c d input l kept call rest asks).0 (ap is_some parked) in
    let meets = meet_anything (turn s) (turn s begins) [] l in
    let flag = along.at_call s Anything (FillAt s) (FillAsked s) (Nothing s) (fill_law s) begins refl l meets kept call rest asks in
    let flags = along.at_call s Anything (TxAt s) (TxAsked s) (Nothing s) (tx_law s) begins tt l meets kept call rest asks in
    let waits = along.at_call s Anything (At wire c d is) (Asked wire c d is) (Nothing s) (law wire c d is) begins tt l meets kept call rest asks in
    let flagged = subst (λ x. AtKick (Flagged s s.classes l) x) kicked flags in
    let now = subst (λ x. AtKick ((b : Bool) → kept.parked ≡ Some b → (kept.finished ≡ []) × (b ≡ false → IsOver wire c d is kept) × (b ≡ true → Lacks wire c d is kept)) x) kicked waits frames parked in
    record {
      sent = now.0;
      none = now.1;
      lacks = now.2;
      fill = subst (λ x. AtKick ((b : Bool) → kept.parked ≡ Some b → fill s l ≡ b) x) kicked flag frames parked;
      tx = flagged.1;
      flagged = flagged.0;
    }
