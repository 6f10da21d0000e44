-- What a driver does of the socket that is closed: it acknowledges once it saw that, with nothing reserved there; and from then
-- on it delivers nothing to it, since it finds no cell that leads there.
use Rattle.std.proofs.Common.{◌≡◌, ℕ, suc, ◌+◌, ◌-◌, ◌*◌, ◌/◌, ◌%◌, ◌<◌, ◌≤◌, ⊎_elim, Bool, true, false, cond, ◌&&◌, eqb, nat_lt, Option, Some, None, List, [], length, take, slice_index, refl, sym, ap, ◌∙◌, subst, arith, leb-true, length-take-le, div-add-mod', eq-eqb}
use Rattle.std.specs.Prelude.{not, ◌||◌, Ok, Err, ◌==◌, if◌then◌else◌}
use Rattle.std.specs.Result.{result_ok}
use Rattle.std.proofs.lemmas.Bool.{eqb-true}
use Rattle.std.proofs.lemmas.Bool.Decides.{nat_tests}
use Rattle.std.proofs.lemmas.List.Sums.{fold_push}
use Rattle.xsk_prog.specs.declared.cell.Miss.TheVariants.{EmptyCell, OtherQueue}
use Rattle.xsk_turns.proofs.Object.{Config, pair_at, classes_of, socket_at, map_of, is_ring, is_on, submitted, taken, room_of, room_step, held_of, held_step, IsFed}
use Rattle.xsk_turns.proofs.Calls.{Item, Told, with_told, Ring, Rx, Cell, Call, Reserve, Submit, Swap, Look, Reply, Granted, Full, Submitted, Empty, Old}
use Rattle.xsk_model.specs.declared.call.Mark.TheVariants.{Closing, Acked}
use Rattle.xsk_model.specs.Marks.{HoldsClosing}
use Rattle.xsk_model.specs.Own.{granted, released}
use Rattle.xsk_model.specs.Swaps.{set_after, set_step, last_set, seen_after, seen_step, last_seen, MayFeed}
use Rattle.xsk_model.proofs.Folds.{part_of-push, part_of-push_other}
use Rattle.xsk_turns.specs.Script.{Script, Asks}
use Rattle.xsk_turns.specs.Turns.{Seat, Judged, Kept, Noted, seat_of, start, turn, cell_of, redirect_to, pieces_of, closing_on, closing_of}
use Rattle.xsk_turns.specs.Owned.{IsSeat, IsHere, AllFit, socket_at_class}
use Rattle.xsk_turns.specs.declared.wire.Wire.{Wire}
use Rattle.xsk_turns.proofs.Layouts.{length-laid_out}
use Rattle.xsk_turns.proofs.Places.{classes_some, class_here}
use Rattle.xsk_turns.proofs.Walks.{MeetAlong, Suiting, submit_due, meet_suiting}
use Rattle.xsk_turns.proofs.DriverStages.{Stage, Acking, Trying, Which, Turning, Again, Family, TellAcked, ReserveRx, SubmitRx, call_at, saw_closed, told_acked, saw_fed, looked_some, rx_granted, rx_submitted, comp_granted, comp_submitted, fill_empty, rx_full, point_of, reply_of, too_few, seeks, Said, AtCalls, AtEntries, AtSilent, IsLaw}
use Rattle.xsk_turns.proofs.DriverWalk.{at_call}

-- ---- a packet that goes to a socket

here_if : (c : Config) (pair number socket : ℕ) (none above port queue : Bool) → (none ≡ false → 0 < number) → (above ≡ false → number ≤ length c.sockets)
    → (port ≡ true → (socket_at c.sockets (number - 1)).port ≡ (pair_at c.pairs pair).port) → (queue ≡ true → (socket_at c.sockets (number - 1)).queue ≡ (pair_at c.pairs pair).queue)
    → result_ok (if none || above then Err EmptyCell else if not (port && queue) then Err OtherQueue else Ok (number - 1)) ≡ Some socket → IsHere c pair socket × (number ≡ suc socket)
here_if c pair number socket false false true true some known port queue h =
    let is : number - 1 ≡ socket = cc in
    (subst (IsHere c pair) is (record { known = omega (arith, some refl, known refl); port = port refl; queue = queue refl }), omega (arith, is, some refl))
here_if c pair number socket n a p q some known port queue h = cc

pub redirects : (c : Config) (pair number socket : ℕ) → redirect_to c (pair_at c.pairs pair).port (pair_at c.pairs pair).queue number ≡ Some socket → IsHere c pair socket × (number ≡ suc socket)
redirects c pair number socket h =
    let is = socket_at c.sockets (number - 1) in
    here_if c pair number socket (number == 0) (nat_lt (length c.sockets) number) (is.port == (pair_at c.pairs pair).port) (is.queue == (pair_at c.pairs pair).queue)
    (λ e. grind (arith, nat_tests)) (λ e. grind (arith, nat_tests)) (λ e. grind (arith, nat_tests)) (λ e. grind (arith, nat_tests)) h

-- ---- the socket that is to be closed

pub closing_is : (pair classes s : ℕ) (o : Option ℕ) → closing_on pair classes o ≡ Some s → (o ≡ Some s) × (s / classes ≡ pair)
closing_is pair classes s None e = absurd (cc)
closing_is pair classes s (Some t) e = by (eqb (t / classes) pair) refl e
  where
    by : (b : Bool) → eqb (t / classes) pair ≡ b → cond b (Some t) None ≡ Some s → (Some t ≡ Some s) × (s / classes ≡ pair)
    by true f g = (g, let same : t ≡ s = cc in ap (λ (n : ℕ). n / classes) (sym same) ∙ eqb-true (t / classes) pair f)
    by false f g = absurd (cc)

module _ (c : Config) (pair : ℕ) (is : IsSeat c pair) where
  -- it is one of the pair's
  pub closing_here : (s : ℕ) → s / classes_of c ≡ pair → IsHere c pair s
  closing_here s e =
      let some = classes_some c pair is in
      let same : socket_at_class c pair (s % classes_of c) ≡ s = ap (λ (n : ℕ). n * classes_of c + s % classes_of c) (sym e) ∙ div-add-mod' s (classes_of c) in
      subst (IsHere c pair) same (class_here c pair is (s % classes_of c) (omega (arith, some)))

  -- and each of the pair's has its pair
  pub pair_of_here : (s : ℕ) → IsHere c pair s → s / classes_of c ≡ pair
  pair_of_here s here =
      let at = is.regular.places s here.known in
      let mine = is.regular.seats pair is.known in
      let d = s / classes_of c in
      let port : d / c.queues ≡ pair / c.queues = sym at.0 ∙ here.port ∙ mine.0 in
      let queue : d % c.queues ≡ pair % c.queues = sym at.1 ∙ here.queue ∙ mine.1 in
      sym (div-add-mod' d c.queues) ∙ ap (λ (n : ℕ). n * c.queues + d % c.queues) port ∙ ap (λ (n : ℕ). pair / c.queues * c.queues + n) queue ∙ div-add-mod' pair c.queues

  pub is_closing : (s : ℕ) → IsHere c pair s → c.closing ≡ Some s → closing_on pair (classes_of c) c.closing ≡ Some s
  is_closing s here e = ap (closing_on pair (classes_of c)) e ∙ ap (λ b. cond b (Some s) None) (eq-eqb (s / classes_of c) pair (pair_of_here s here))

-- ---- what a call waits for

-- to acknowledge, that the closing was seen, and no place of the RX ring is reserved
abbrev pub AwaitsSeen : List Told → Call → Type 0
AwaitsSeen l (Swap (Acked s) value) = (last_seen (Closing s) l ≡ Some 1) × (room_of (Rx s) l ≡ 0)
AwaitsSeen l call = Unit {0}

-- and that its ring is fed
abbrev pub IsReady : Config → List Told → Call → Type 0
IsReady c l call = MayFeed c l call × AwaitsSeen l call

-- ---- the law

-- what was seen and set of a socket
pub record Knows (s : ℕ) (acked : Bool) (l : List Told) : Type 0 where
  pub seen : acked ≡ true → last_seen (Closing s) l ≡ Some 1
  pub fed : acked ≡ false → last_set (Acked s) l ≡ None

-- the places that are reserved on the RX ring of a socket
abbrev room_at : ℕ → Stage → ℕ
room_at s (Trying look packet t (submit_due r n)) = cond (is_ring (Rx s) r) n 0
room_at s place = 0

set_told : (s : ℕ) (l : List Told) (call : Call) (reply : Reply) → last_set (Acked s) (with_told l call reply) ≡ set_after (Acked s) (last_set (Acked s) l) call
set_told s l call reply = fold_push (set_step (Acked s)) None l (record { call = call; reply = reply })

seen_told : (s : ℕ) (l : List Told) (call : Call) (reply : Reply) → last_seen (Closing s) (with_told l call reply) ≡ seen_after (Closing s) (last_seen (Closing s) l) call reply
seen_told s l call reply = fold_push (seen_step (Closing s)) None l (record { call = call; reply = reply })

-- what a call leaves of the room and of the items held on a ring
pub room_now : (r : Ring) (l : List Told) (call : Call) (reply : Reply) → room_of r (with_told l call reply) ≡ cond (is_on r call) (room_of r l + granted call reply - length (submitted call)) (room_of r l)
room_now r l call reply = part_of-push room_step r 0 l (record { call = call; reply = reply })

pub held_now : (r : Ring) (l : List Told) (call : Call) (reply : Reply) → held_of r (with_told l call reply) ≡ cond (is_on r call) (held_of r l + length (taken reply) - released call) (held_of r l)
held_now r l call reply = part_of-push held_step r 0 l (record { call = call; reply = reply })

module _ (wire : Wire) (c : Config) (pair : ℕ) (is : IsSeat c pair) where
  abbrev seat : Seat
  seat = seat_of wire c pair

  abbrev Has : Kept → List Told → Type 0
  Has kept l = (s : ℕ) → closing_of seat ≡ Some s → Knows s kept.acked l

  abbrev Feeds : Which → ℕ → Bool → Type 0
  Feeds Turning t acked = closing_of seat ≡ Some t → acked ≡ false
  Feeds Again t acked = Unit {0}

  abbrev Beside : Stage → Noted → Kept → List Told → Type 0
  Beside Acking noted kept l = (s : ℕ) → closing_of seat ≡ Some s → last_seen (Closing s) l ≡ Some 1
  Beside (Trying look packet t due) noted kept l = Feeds look t kept.acked
  Beside place noted kept l = Unit {0}

  abbrev At : Family
  At place noted kept l = Has kept l × Beside place noted kept l × ((s : ℕ) → room_of (Rx s) l ≡ room_at s place)

  abbrev Asked : Said
  Asked kept call l = IsReady c l call

  abbrev Ended : Kept → List Told → Type 0
  Ended kept l = Unit {0}

  -- a ring of its own is fed until it has acknowledged
  fed_here : (t : ℕ) (kept : Kept) (l : List Told) → IsHere c pair t → Has kept l → (closing_of seat ≡ Some t → kept.acked ≡ false) → IsFed c l (Rx t)
  fed_here t kept l here has none e set =
      let mine = is_closing c pair is t here e in
      absurd (let no : None ≡ Some 1 = sym ((has t mine).fed (none mine)) ∙ set in cc)

  calls : AtCalls seat (Suiting c) At Asked
  calls (TellAcked s) noted kept l known h = (tt, (h.1 s known.0, h.2 s))
  calls (ReserveRx packet t) noted kept l known h = (fed_here t kept l (redirects c pair known.0.number t known.0.target).0 h.0 h.1, tt)
  calls (SubmitRx packet t) noted kept l known h = (fed_here t kept l (redirects c pair known.0.number t known.0.target).0 h.0 h.1, tt)
  calls p noted kept l known h = (tt, tt)

  -- an entry that neither looks at Closing nor sets Acked
  keeps : (acked : Bool) (l : List Told) (call : Call) (reply : Reply) → ((s : ℕ) (o : Option ℕ) → set_after (Acked s) o call ≡ o) → ((s : ℕ) (o : Option ℕ) → seen_after (Closing s) o call reply ≡ o)
      → ((s : ℕ) → closing_of seat ≡ Some s → Knows s acked l) → (s : ℕ) → closing_of seat ≡ Some s → Knows s acked (with_told l call reply)
  keeps acked l call reply set seen has s e =
      record { seen = λ f. seen_told s l call reply ∙ seen s (last_seen (Closing s) l) ∙ (has s e).seen f; fed = λ f. set_told s l call reply ∙ set s (last_set (Acked s) l) ∙ (has s e).fed f }

  -- one with which no room comes or goes
  same_room : (l : List Told) (call : Call) (reply : Reply) → granted call reply ≡ 0 → submitted call ≡ [] → ((s : ℕ) → room_of (Rx s) l ≡ 0) → (s : ℕ) → room_of (Rx s) (with_told l call reply) ≡ 0
  same_room l call reply g e h s = room_now (Rx s) l call reply ∙ by (is_on (Rx s) call)
    where
      by : (b : Bool) → cond b (room_of (Rx s) l + granted call reply - length (submitted call)) (room_of (Rx s) l) ≡ 0
      by true = omega (arith, g, ap length e, h s)
      by false = h s

  other_room : (l : List Told) (call : Call) (reply : Reply) → ((s : ℕ) → is_on (Rx s) call ≡ false) → ((s : ℕ) → room_of (Rx s) l ≡ 0) → (s : ℕ) → room_of (Rx s) (with_told l call reply) ≡ 0
  other_room l call reply off h s = part_of-push_other room_step (Rx s) 0 l (record { call = call; reply = reply }) (off s) ∙ h s

  granted_room : (l : List Told) (t n : ℕ) → ((s : ℕ) → room_of (Rx s) l ≡ 0) → (s : ℕ) → room_of (Rx s) (with_told l (Reserve (Rx t) n) Granted) ≡ cond (eqb s t) n 0
  granted_room l t n h s = room_now (Rx s) l (Reserve (Rx t) n) Granted ∙ by (eqb s t)
    where
      by : (b : Bool) → cond b (room_of (Rx s) l + n - 0) (room_of (Rx s) l) ≡ cond b n 0
      by true = omega (arith, h s)
      by false = h s

  filled_room : (l : List Told) (t n : ℕ) (items : List Item) → length items ≡ n → ((s : ℕ) → room_of (Rx s) l ≡ cond (eqb s t) n 0) → (s : ℕ) → room_of (Rx s) (with_told l (Submit (Rx t) items) Submitted) ≡ 0
  filled_room l t n items same h s = room_now (Rx s) l (Submit (Rx t) items) Submitted ∙ by (eqb s t) (h s)
    where
      by : (b : Bool) → room_of (Rx s) l ≡ cond b n 0 → cond b (room_of (Rx s) l + 0 - length items) (room_of (Rx s) l) ≡ 0
      by true e = omega (arith, e, same)
      by false e = e

  -- a cell that leads to the socket isn't found once it was seen that it is closed
  leads_on : (packet : Judged) (n t : ℕ) (kept : Kept) (l : List Told) → Has kept l → Suiting c kept l (Look (Cell seat.port (cell_of packet.verdict))) (Old n)
      → redirect_to c seat.port seat.queue n ≡ Some t → closing_of seat ≡ Some t → kept.acked ≡ false
  leads_on packet n t kept l has q target e = by kept.acked refl
    where
      by : (b : Bool) → kept.acked ≡ b → b ≡ false
      by false f = refl
      by true f =
          let to = redirects c pair n t target in
          let closing = (closing_is pair (classes_of c) t c.closing e).0 in
          let none : n ≡ 0 → ⊥ = λ (z : n ≡ 0). absurd (omega (arith, z, to.1)) in
          absurd (⊎_elim
          (λ (same : n ≡ slice_index (map_of c seat.port) (cell_of packet.verdict)). none (q.1 t (closing, sym same ∙ to.1) (sym to.0.port) ((has t e).seen f)))
          (λ (low : (n ≡ 0) × (s : ℕ) × HoldsClosing c seat.port (cell_of packet.verdict) s). none low.0)
          q.0)

  entries : AtEntries seat (Suiting c) At Asked
  entries (saw_fed s n) noted kept l known found h a q = (
    λ t e. record {
      seen = λ f. absurd (let no : false ≡ true = sym known.1 ∙ f in cc);
      fed = λ f. set_told t l _ (Old n) ∙ (h.0 t e).fed f;
    },
    tt,
    same_room l _ (Old n) refl refl h.2,
  )
  entries (saw_closed s n) noted kept l known found h a q = (
    λ t e. record {
      seen = λ f. absurd (let no : false ≡ true = sym known.1 ∙ f in cc);
      fed = λ f. set_told t l _ (Old n) ∙ (h.0 t e).fed f;
    },
    λ t e.
        let same : t ≡ s = (let two : Some t ≡ Some s = sym e ∙ known.0 in cc) in
        seen_told t l _ (Old n) ∙ ap (λ b. cond b (Some n) (last_seen (Closing t) l)) (eq-eqb t s same) ∙ ap Some (eqb-true n 1 found),
    same_room l _ (Old n) refl refl h.2,
  )
  entries (told_acked s n) noted kept l known found h a q = (
    λ t e. record { seen = λ f. seen_told t l _ (Old n) ∙ h.1 t e; fed = λ f. absurd (cc) },
    tt,
    same_room l _ (Old n) refl refl h.2,
  )
  entries (looked_some packet n t) noted kept l known found h a q = (
    keeps kept.acked l _ (Old n) (λ s o. refl) (λ s o. refl) h.0,
    leads_on packet n t kept l h.0 q found.0,
    same_room l _ (Old n) refl refl h.2,
  )
  entries (rx_granted packet t) noted kept l known found h a q =
      (keeps kept.acked l _ Granted (λ s o. refl) (λ s o. refl) h.0, h.1, granted_room l t (pieces_of seat packet.bytes) h.2)
  entries (rx_submitted packet t) noted kept l known found h a q =
      let frames = take (pieces_of seat packet.bytes) kept.spare in
      let count = length-laid_out c.geometry packet.bytes frames ∙ length-take-le (pieces_of seat packet.bytes) kept.spare (leb-true _ _ known.1) in
      (keeps kept.acked l _ Submitted (λ s o. refl) (λ s o. refl) h.0, tt, filled_room l t _ _ count h.2)
  entries (comp_granted k packet later) noted kept l known found h a q = (keeps kept.acked l _ Granted (λ s o. refl) (λ s o. refl) h.0, tt, other_room l _ Granted (λ s. refl) h.2)
  entries (comp_submitted k packet later) noted kept l known found h a q = (keeps kept.acked l _ Submitted (λ s o. refl) (λ s o. refl) h.0, tt, other_room l _ Submitted (λ s. refl) h.2)
  entries (fill_empty look packet t) noted kept l known found h a q = (keeps kept.acked l _ Empty (λ s o. refl) (λ s o. refl) h.0, tt, same_room l _ Empty refl refl h.2)
  entries (rx_full packet t free) noted kept l known found h a q = (keeps kept.acked l _ (Full free) (λ s o. refl) (λ s o. refl) h.0, tt, same_room l _ (Full free) refl refl h.2)
  entries e noted kept l known found h a q = (
    keeps kept.acked l (call_at seat (point_of e) kept) (reply_of e) (λ s o. refl) (λ s o. refl) h.0,
    h.1,
    same_room l (call_at seat (point_of e) kept) (reply_of e) refl refl h.2,
  )

  silent : AtSilent seat (Suiting c) At
  silent (too_few packet s) noted kept l = λ h e. (h.0, tt, h.2)
  silent (seeks packet s) noted kept l = λ h e. (h.0, tt, h.2)
  silent p noted kept l = λ h e. h

  law : IsLaw seat (Suiting c) At Asked Ended
  law = record { calls = calls; entries = entries; silent = silent; ends = λ noted kept l n known h a q. tt }

module _ (wire : Wire) (c : Config) (pair : ℕ) (input : List Judged) (l : List Told) (is : IsSeat c pair) (fit : AllFit c [] l) where
  abbrev begins : Kept
  begins = start (classes_of c) input

  first_knows : (s : ℕ) → closing_of (seat_of wire c pair) ≡ Some s → Knows s false []
  first_knows s e = record { seen = λ f. absurd (cc); fed = λ f. refl }

  suits : MeetAlong (turn (seat_of wire c pair)) (Suiting c) (turn (seat_of wire c pair) begins) [] l
  suits = meet_suiting (turn (seat_of wire c pair)) c (turn (seat_of wire c pair) begins) [] l fit

  -- at each call that it makes
  pub ready_at : (kept : Kept) (call : Call) (rest : Reply → Script Kept) → Asks (turn (seat_of wire c pair)) begins l kept call rest → IsReady c l call
  ready_at = at_call (seat_of wire c pair) (Suiting c) (At wire c pair is) (Asked wire c pair is) (Ended wire c pair is) (law wire c pair is) begins (first_knows, tt, λ s. refl) l suits
