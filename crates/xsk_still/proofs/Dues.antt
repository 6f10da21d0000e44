-- What is reserved is submitted at once, and what is peeked released: at each other call nothing is due on any ring.
use Rattle.std.proofs.Common.{◌≡◌, ℕ, ◌+◌, ◌-◌, Bool, true, false, cond, List, [], length, take, refl, ap, ◌∙◌, arith, length-take-le, leb-true}
use Rattle.std.proofs.lemmas.List.{length-map}
use Rattle.xsk_turns.proofs.Object.{Config, classes_of, home_item, is_ring, is_on, submitted, taken}
use Rattle.xsk_model.specs.Own.{granted, released, room_of, held_of}
use Rattle.xsk_model.specs.declared.call.Mark.TheVariants.{Kick}
use Rattle.xsk_turns.proofs.Calls.{Item, Told, with_told, Ring, Call, Reserve, Submit, Peek, Release, Swap, Reply, Granted, Submitted, Items, Released, Old}
use Rattle.xsk_turns.specs.Turns.{Seat, seat_of, start, turn, pieces_of, returned}
use Rattle.xsk_turns.proofs.Mangling.{length-given}
use Rattle.xsk_turns.specs.AppTurns.{AppKept, AppNoted, pending_at, app_turn, app_start}
use Rattle.xsk_turns.proofs.Layouts.{length-laid_out}
use Rattle.xsk_turns.proofs.Walks.{Due, nothing_due, submit_due, release_due, Anything, meet_anything}
use Rattle.xsk_turns.proofs.DriverStages as walk
use Rattle.xsk_turns.proofs.DriverWalk as along
use Rattle.xsk_turns.proofs.AppWalk as app
use Rattle.xsk_turns.proofs.Acknowledging.{room_now, held_now}
use Rattle.xsk_still.specs.Own.{IsFree, HasNothingDue, DriverIsFree, DriverEndsFree, AppIsFree}

-- ---- what is due, on each ring

abbrev pub IsDueOn : Due → List Told → Type 0
IsDueOn nothing_due l = HasNothingDue l
IsDueOn (submit_due q n) l = (r : Ring) → (room_of r l ≡ cond (is_ring r q) n 0) × (held_of r l ≡ 0)
IsDueOn (release_due q n) l = (r : Ring) → (room_of r l ≡ 0) × (held_of r l ≡ cond (is_ring r q) n 0)

stays : (b : Bool) (n g s : ℕ) → g ≡ 0 → s ≡ 0 → cond b (n + g - s) n ≡ n
stays true n g s e f = omega (arith, e, f)
stays false n g s e f = refl

-- a call that moves nothing
still_due : (due : Due) (l : List Told) (call : Call) (reply : Reply) → granted call reply ≡ 0 → submitted call ≡ [] → taken reply ≡ [] → released call ≡ 0 → IsDueOn due l → IsDueOn due (with_told l call reply)
still_due due l call reply e f g k h = by due h
  where
    room : (r : Ring) → room_of r (with_told l call reply) ≡ room_of r l
    room r = room_now r l call reply ∙ stays (is_on r call) (room_of r l) _ _ e (ap length f)

    held : (r : Ring) → held_of r (with_told l call reply) ≡ held_of r l
    held r = held_now r l call reply ∙ stays (is_on r call) (held_of r l) _ _ (ap length g) k

    by : (due : Due) → IsDueOn due l → IsDueOn due (with_told l call reply)
    by nothing_due h = λ r. (room r ∙ (h r).0, held r ∙ (h r).1)
    by (submit_due q n) h = λ r. (room r ∙ (h r).0, held r ∙ (h r).1)
    by (release_due q n) h = λ r. (room r ∙ (h r).0, held r ∙ (h r).1)

granted_due : (l : List Told) (q : Ring) (n : ℕ) → HasNothingDue l → IsDueOn (submit_due q n) (with_told l (Reserve q n) Granted)
granted_due l q n h r = (
  room_now r l (Reserve q n) Granted ∙ by (is_ring r q) (room_of r l) (h r).0,
  held_now r l (Reserve q n) Granted ∙ stays (is_ring r q) (held_of r l) 0 0 refl refl ∙ (h r).1,
)
  where
    by : (b : Bool) (k : ℕ) → k ≡ 0 → cond b (k + n - 0) k ≡ cond b n 0
    by true k e = omega (arith, e)
    by false k e = e

submitted_due : (l : List Told) (q : Ring) (items : List Item) (n : ℕ) → length items ≡ n → IsDueOn (submit_due q n) l → HasNothingDue (with_told l (Submit q items) Submitted)
submitted_due l q items n same h r = (
  room_now r l (Submit q items) Submitted ∙ by (is_ring r q) (room_of r l) (h r).0,
  held_now r l (Submit q items) Submitted ∙ stays (is_ring r q) (held_of r l) 0 0 refl refl ∙ (h r).1,
)
  where
    by : (b : Bool) (k : ℕ) → k ≡ cond b n 0 → cond b (k + 0 - length items) k ≡ 0
    by true k e = omega (arith, e, same)
    by false k e = e

peeked_due : (l : List Told) (q : Ring) (k : ℕ) (items : List Item) → HasNothingDue l → IsDueOn (release_due q (length items)) (with_told l (Peek q k) (Items items))
peeked_due l q k items h r = (
  room_now r l (Peek q k) (Items items) ∙ stays (is_ring r q) (room_of r l) 0 0 refl refl ∙ (h r).0,
  held_now r l (Peek q k) (Items items) ∙ by (is_ring r q) (held_of r l) (h r).1,
)
  where
    by : (b : Bool) (n : ℕ) → n ≡ 0 → cond b (n + length items - 0) n ≡ cond b (length items) 0
    by true n e = omega (arith, e)
    by false n e = e

released_due : (l : List Told) (q : Ring) (n : ℕ) → IsDueOn (release_due q n) l → HasNothingDue (with_told l (Release q n) Released)
released_due l q n h r = (
  room_now r l (Release q n) Released ∙ stays (is_ring r q) (room_of r l) 0 0 refl refl ∙ (h r).0,
  held_now r l (Release q n) Released ∙ by (is_ring r q) (held_of r l) (h r).1,
)
  where
    by : (b : Bool) (k : ℕ) → k ≡ cond b n 0 → cond b (k + 0 - n) k ≡ 0
    by true k e = omega (arith, e)
    by false k e = e

-- ---- a driver

abbrev due_at : walk.Stage → Due
due_at (walk.Trying look packet s due) = due
due_at (walk.Sending look k due) = due
due_at place = nothing_due

abbrev At : walk.Family
At place noted kept l = IsDueOn (due_at place) l

abbrev Asked : walk.Said
Asked kept call l = IsFree call → HasNothingDue l

module _ (seat : Seat) where
  calls : walk.AtCalls seat Anything At Asked
  calls (walk.ReleaseFill look packet s n) noted kept l known h = λ free. absurd free
  calls (walk.SubmitRx packet s) noted kept l known h = λ free. absurd free
  calls (walk.SubmitComp k packet later) noted kept l known h = λ free. absurd free
  calls (walk.ReleaseTx look k n) noted kept l known h = λ free. absurd free
  calls p noted kept l known h = λ free. h

  entries : walk.AtEntries seat Anything At Asked
  entries (walk.fill_items look packet s items) noted kept l known found h a q = peeked_due l _ _ items h
  entries (walk.fill_released look packet s n) noted kept l known found h a q = released_due l _ n h
  entries (walk.rx_granted packet s) noted kept l known found h a q = granted_due l _ _ h
  entries (walk.rx_submitted packet s) noted kept l known found h a q =
      let frames = take (pieces_of seat packet.bytes) kept.spare in
      submitted_due l _ _ _ (length-laid_out seat.config.geometry packet.bytes frames ∙ length-take-le (pieces_of seat packet.bytes) kept.spare (leb-true _ _ known.1)) h
  entries (walk.comp_granted k packet later) noted kept l known found h a q = granted_due l _ _ h
  entries (walk.comp_submitted k packet later) noted kept l known found h a q = submitted_due l _ _ _ (length-map packet returned) h
  entries (walk.tx_items look k items) noted kept l known found h a q = peeked_due l _ _ items h
  entries (walk.tx_released look k n) noted kept l known found h a q = released_due l _ n h
  entries e noted kept l known found h a q = still_due nothing_due l (walk.call_at seat (walk.point_of e) kept) (walk.reply_of e) refl refl refl refl h

  silent : walk.AtSilent seat Anything At
  silent walk.none_comes noted kept l = λ h e. h
  silent p noted kept l = λ h e. h

  law : walk.IsLaw seat Anything At Asked (λ kept l. HasNothingDue l)
  law = record { calls = calls; entries = entries; silent = silent; ends = λ noted kept l n known h a q. still_due nothing_due l _ (Old n) refl refl refl refl h }

none_due : HasNothingDue []
none_due r = (refl, refl)

pub driver_is_free : DriverIsFree
driver_is_free wire c d input l kept call rest is fit asks =
    let seat = seat_of wire c d in
    along.at_call seat Anything At Asked (λ kept l. HasNothingDue l) (law seat) (start (classes_of c) input) none_due l (meet_anything (turn seat) (turn seat (start (classes_of c) input)) [] l) kept call rest asks

pub driver_ends_free : DriverEndsFree
driver_ends_free wire c d input l is fit whole =
    let seat = seat_of wire c d in
    along.at_end seat Anything At Asked (λ kept l. HasNothingDue l) (law seat) (start (classes_of c) input) none_due l (meet_anything (turn seat) (turn seat (start (classes_of c) input)) [] l) whole.0 whole.1

-- ---- an application

abbrev AppAsked : app.Said
AppAsked kept call l = IsFree call → HasNothingDue l

-- a place of which nothing is due, on to which it goes once drivers are woken
abbrev IsClear : app.Stage → Type 0
IsClear (app.Lane lane nothing_due) = Unit {0}
IsClear (app.Lane lane due) = ⊥
IsClear (app.Side side nothing_due) = Unit {0}
IsClear (app.Side side due) = ⊥
IsClear (app.Draining lane nothing_due) = Unit {0}
IsClear (app.Draining lane due) = ⊥
IsClear (app.Waking place need pair) = IsClear place
IsClear (app.Looked place need pair n) = IsClear place
IsClear (app.Kicking place pair) = IsClear place
IsClear place = Unit {0}

abbrev ClearAt : app.Family
ClearAt (app.Waking place need pair) noted kept l = HasNothingDue l × IsClear place
ClearAt (app.Looked place need pair n) noted kept l = HasNothingDue l × IsClear place
ClearAt (app.Kicking place pair) noted kept l = HasNothingDue l × IsClear place
ClearAt (app.Lane lane due) noted kept l = IsDueOn due l
ClearAt (app.Side side due) noted kept l = IsDueOn due l
ClearAt (app.Draining lane due) noted kept l = IsDueOn due l
ClearAt place noted kept l = HasNothingDue l

clear_at : (place : app.Stage) (noted : AppNoted) (kept : AppKept) (l : List Told) → IsClear place → HasNothingDue l → ClearAt place noted kept l
clear_at (app.Lane lane nothing_due) noted kept l is h = h
clear_at (app.Lane lane (submit_due q n)) noted kept l is h = absurd is
clear_at (app.Lane lane (release_due q n)) noted kept l is h = absurd is
clear_at (app.Side side nothing_due) noted kept l is h = h
clear_at (app.Side side (submit_due q n)) noted kept l is h = absurd is
clear_at (app.Side side (release_due q n)) noted kept l is h = absurd is
clear_at (app.Draining lane nothing_due) noted kept l is h = h
clear_at (app.Draining lane (submit_due q n)) noted kept l is h = absurd is
clear_at (app.Draining lane (release_due q n)) noted kept l is h = absurd is
clear_at (app.Waking place need pair) noted kept l is h = (h, is)
clear_at (app.Looked place need pair n) noted kept l is h = (h, is)
clear_at (app.Kicking place pair) noted kept l is h = (h, is)
clear_at place noted kept l is h = h

module _ (c : Config) (a : ℕ) where
  app_calls : app.AtCalls c a ClearAt AppAsked
  app_calls (app.ReleaseRx lane n) noted kept l known h = λ free. absurd free
  app_calls (app.SubmitTx lane) noted kept l known h = λ free. absurd free
  app_calls (app.ReleaseComp side n) noted kept l known h = λ free. absurd free
  app_calls (app.SubmitFill side frame frames) noted kept l known h = λ free. absurd free
  app_calls (app.ReleaseDrain lane n) noted kept l known h = λ free. absurd free
  app_calls (app.LookNeed place need pair) noted kept l known h = λ free. h.0
  app_calls (app.KickDriver place pair) noted kept l known h = λ free. h.0
  app_calls p noted kept l known h = λ free. h

  app_entries : app.AtEntries c a Anything ClearAt AppAsked
  app_entries (app.rx_items lane items) noted kept l known h said q = peeked_due l _ _ items h
  app_entries (app.rx_released lane n) noted kept l known h said q = released_due l _ n h
  app_entries (app.tx_granted lane) noted kept l known h said q = granted_due l _ _ h
  app_entries (app.tx_submitted lane) noted kept l known h said q =
      (submitted_due l _ _ _ (length-given c.geometry kept.manner.mangle kept.number (pending_at kept lane)) h, tt)
  app_entries (app.comp_items side items) noted kept l known h said q = peeked_due l _ _ items h
  app_entries (app.comp_released side n) noted kept l known h said q = released_due l _ n h
  app_entries (app.fill_granted side frame frames) noted kept l known h said q = granted_due l _ _ h
  app_entries (app.fill_submitted side frame frames) noted kept l known h said q = (submitted_due l _ _ _ (length-map (app.group c frame frames) (home_item c.geometry)) h, tt)
  app_entries (app.drain_items lane items) noted kept l known h said q = peeked_due l _ _ items h
  app_entries (app.drain_released lane n) noted kept l known h said q = released_due l _ n h
  app_entries (app.looked_need place need pair n) noted kept l known h said q = (still_due nothing_due l _ (Old n) refl refl refl refl h.0, h.1)
  app_entries (app.kicked place pair n) noted kept l known h said q = clear_at place noted kept _ h.1 (still_due nothing_due l (Swap (Kick pair) 1) (Old n) refl refl refl refl h.0)
  app_entries e noted kept l known h said q = still_due nothing_due l (app.call_at c a (app.point_of e) kept) (app.reply_of e) refl refl refl refl h

  app_silent : app.AtSilent c a ClearAt
  app_silent (app.without_need place need pair) noted kept l = λ h e. clear_at place noted kept l h.1 h.0
  app_silent (app.needs_none place need pair n) noted kept l = λ h e. clear_at place noted kept l h.1 h.0
  app_silent (app.needs_kick place need pair n) noted kept l = λ h e. h
  app_silent app.told_both noted kept l = λ h e. (h, tt)
  app_silent (app.closed_kicks shut) noted kept l = λ h e. (h, tt)
  app_silent p noted kept l = λ h e. h

  app_law : app.IsLaw c a Anything ClearAt AppAsked (λ kept l. HasNothingDue l)
  app_law = record { calls = app_calls; entries = app_entries; silent = app_silent; ends = λ noted kept l done h. h }

pub app_is_free : AppIsFree
app_is_free c a l kept call rest one fit asks =
    app.at_call c a one Anything ClearAt AppAsked (λ kept l. HasNothingDue l) (app_law c a) (app_start c) none_due l (meet_anything (app_turn c a) (app_turn c a (app_start c)) [] l) kept call rest asks
