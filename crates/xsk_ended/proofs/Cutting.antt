-- The packet that goes on. An application closes a socket only where the last item that each closed lane received ends a packet, and
-- all items have been passed on; so what it submits on a lane that is closed ends with a packet.
use Rattle.std.proofs.Common.{◌≡◌, ℕ, zero, suc, ◌-◌, ◌/◌, ◌%◌, ◌<◌, ◌≤◌, ⊎_elim, Bool, true, false, cond, not, ◌&&◌, eqb, eq-eqb, ne_eqb, Option, Some, None, List, [], ◌∷◌, ◌++◌, append-nil, length, set, get_or-set_same, get_or-set_other, length-set, refl, sym, ap, ◌∙◌, subst, arith}
use Rattle.std.proofs.lemmas.Bool.{cases_eq, and_parts}
use Rattle.std.proofs.lemmas.Nat.{div-mul-add, mod-mul-add}
use Rattle.xsk_model.proofs.Folds.{part_of-push_same, part_of-push_other}
use Rattle.xsk_model.specs.declared.call.Mark.TheVariants.{Kick, Cell, Closing}
use Rattle.xsk_turns.proofs.Object.{Config, batch_of, classes_of, submitted, taken, is_on, peeked_of, submitted_of, peeked_step}
use Rattle.xsk_turns.proofs.Calls.{Item, Told, with_told, Ring, Rx, Tx, RxDone, Gone, Call, Peek, Submit, Swap, Look, Reply, Submitted, Items, Old}
use Rattle.xsk_turns.specs.AppTurns.{AppKept, pair_of, side_socket, rx_of, tx_of, lanes_of, is_none, is_set, pending_at, given_on, Shut, lane_from, lane_to, is_closed, drains, is_cut, cut_after, may_close, app_turn, app_start_by}
use Rattle.xsk_turns.specs.AppLaw.{AreAltered}
use Rattle.xsk_turns.specs.AppOwned.{IsApp}
use Rattle.xsk_turns.specs.Owned.{AllFit}
use Rattle.xsk_turns.specs.Script.{Ends}
use Rattle.xsk_turns.specs.declared.manner.Manner.{Manner}
use Rattle.xsk_turns.proofs.AppLanes as lanes
use Rattle.xsk_turns.proofs.AppLanes.{either}
use Rattle.xsk_turns.proofs.AppPlaces.{rx_lane, tx_lane, pairs_apart, socket_pair, class_below, classes_some, side_below}
use Rattle.xsk_turns.proofs.AppShut.{IsShut, shut_mine, shut_socket}
use Rattle.xsk_turns.proofs.AppWalk as walk
use Rattle.xsk_turns.proofs.Mangling.{altered_same}
use Rattle.xsk_turns.proofs.Owned.{peeked_none, none_submitted, other_submitted}
use Rattle.xsk_turns.proofs.Walks.{Fitting, meet_fitting}
use Rattle.xsk_laws.proofs.ClosedRing.{from_is}
use Rattle.xsk_laws.proofs.Places.{side_lane}

-- ---- the last of some items

cut_last : (xs items : List Item) → 1 ≤ length items → is_cut (xs ++ items) ≡ is_cut items
cut_last [] items some = refl
cut_last (x ∷ []) [] some = absurd (omega (arith, some))
cut_last (x ∷ []) (item ∷ items) some = refl
cut_last (x ∷ y ∷ xs) items some = cut_last (y ∷ xs) items some

other_peeked : (r : Ring) (l : List Told) (call : Call) (reply : Reply) → is_on r call ≡ false → peeked_of r (with_told l call reply) ≡ peeked_of r l
other_peeked r l call reply e = part_of-push_other peeked_step r [] l (record { call = call; reply = reply }) e

now_peeked : (s n : ℕ) (l : List Told) (items : List Item) → peeked_of (Rx s) (with_told l (Peek (Rx s) n) (Items items)) ≡ peeked_of (Rx s) l ++ items
now_peeked s n l items = part_of-push_same peeked_step (Rx s) [] l (record { call = Peek (Rx s) n; reply = Items items }) (eq-eqb s s refl)

empty_of : {A : Type 0} (xs : List A) → is_none xs ≡ true → xs ≡ []
empty_of [] e = refl
empty_of (x ∷ xs) e = absurd (cc)

off_of : (b : Bool) → not b ≡ true → b ≡ false
off_of true e = absurd (cc)
off_of false e = refl

fed_still : (b c : Bool) → c ≡ true → (b && c) ≡ false → b ≡ false
fed_still true c on off = absurd (let no : true ≡ false = sym on ∙ off in cc)
fed_still false c on off = refl

on_begun : (b c : Bool) → (b && c) ≡ true → b ≡ true
on_begun true c e = refl
on_begun false c e = absurd (cc)

-- ---- the two lanes of a socket

module _ (c : Config) (a : ℕ) (one : IsApp c a) where
  cross : (side : ℕ) → side < 2 → pair_of c a side ≡ pair_of c a (1 - side) → ⊥
  cross zero low e = pairs_apart c a one e
  cross (suc zero) low e = pairs_apart c a one (sym e)
  cross (suc (suc side)) low e = omega (arith, low)

  crossed : (i j : ℕ) → i < lanes_of c → i / classes_of c ≡ j / classes_of c → rx_of c a i ≡ tx_of c a j → ⊥
  crossed i j low same e =
      let w = classes_of c in
      cross (i / w) (side_below w i one.regular.classes low)
      (sym (socket_pair c a one (i / w) (i % w) (class_below c a one i)) ∙ ap (λ (n : ℕ). n / w) e ∙ socket_pair c a one (1 - j / w) (j % w) (class_below c a one j)
      ∙ ap (λ (n : ℕ). pair_of c a (1 - n)) (sym same))

  -- they are on two sides
  same_closed : (i j : ℕ) → i < lanes_of c → j < lanes_of c → is_closed c a i c.closing ≡ true → is_closed c a j c.closing ≡ true → i / classes_of c ≡ j / classes_of c → i ≡ j
  same_closed i j below under first second same = by c.closing first second
    where
      by : (o : Option ℕ) → is_closed c a i o ≡ true → is_closed c a j o ≡ true → i ≡ j
      by None e f = absurd (cc)
      by (Some s) e f = ⊎_elim
          (λ (x : rx_of c a i ≡ s). ⊎_elim (λ (y : rx_of c a j ≡ s). rx_lane c a one i j (x ∙ sym y)) (λ (y : tx_of c a j ≡ s). absurd (crossed i j below same (x ∙ sym y))) (either _ _ s f))
          (λ (x : tx_of c a i ≡ s). ⊎_elim (λ (y : rx_of c a j ≡ s). absurd (crossed j i under (sym same) (y ∙ sym x))) (λ (y : tx_of c a j ≡ s). tx_lane c a one i j below under (x ∙ sym y)) (either _ _ s f))
          (either _ _ s e)

  module _ (shut : Shut) (is : IsShut c a shut) where
    abbrev class : ℕ
    class = shut.socket % classes_of c

    class_low : class < classes_of c
    class_low = let some = classes_some c a one in omega (arith, some)

    other_low : 1 - shut.side < 2
    other_low = omega arith

    to_is : tx_of c a (lane_to c shut) ≡ shut.socket
    to_is =
        let w = classes_of c in
        let side : lane_to c shut / w ≡ 1 - shut.side = div-mul-add (1 - shut.side) w class class_low in
        let back : 1 - (1 - shut.side) ≡ shut.side = omega (arith, is.side) in
        ap (λ (n : ℕ). side_socket c a (1 - n) (lane_to c shut % w)) side ∙ ap (λ (n : ℕ). side_socket c a n (lane_to c shut % w)) back
        ∙ ap (side_socket c a shut.side) (mod-mul-add (1 - shut.side) w class class_low) ∙ shut_socket c a one shut is

    -- nothing is pending on either as the socket is closed
    none_pends : (kept : AppKept) (j : ℕ) → j < lanes_of c → is_closed c a j c.closing ≡ true → may_close c shut kept ≡ true → pending_at kept j ≡ []
    none_pends kept j below on may =
        let none = and_parts _ _ (and_parts _ _ may).1 in
        ⊎_elim
        (λ (e : rx_of c a j ≡ shut.socket). ap (pending_at kept) (rx_lane c a one j (lane_from c shut) (e ∙ sym (from_is c a one shut is))) ∙ empty_of (pending_at kept (lane_from c shut)) none.0)
        (λ (e : tx_of c a j ≡ shut.socket).
        ap (pending_at kept) (tx_lane c a one j (lane_to c shut) below (side_lane (1 - shut.side) (classes_of c) class other_low class_low) (e ∙ sym to_is)) ∙ empty_of (pending_at kept (lane_to c shut)) none.1)
        (either (rx_of c a j) (tx_of c a j) shut.socket (sym (ap (is_closed c a j) is.closing) ∙ on))

-- neither side's packet goes on then
flags_off : (c : Config) (shut : Shut) (kept : AppKept) (side : ℕ) → side < 2 → may_close c shut kept ≡ true → is_set kept.cut side ≡ false
flags_off c shut kept zero low may = let none = and_parts _ _ (and_parts _ _ (and_parts _ _ may).0).1 in off_of (is_set kept.cut 0) none.0
flags_off c shut kept (suc zero) low may = let none = and_parts _ _ (and_parts _ _ (and_parts _ _ may).0).1 in off_of (is_set kept.cut 1) none.1
flags_off c shut kept (suc (suc side)) low may = absurd (omega (arith, low))

-- ---- the law, on a closed lane

module _ (m : Manner) (none : m.mangle ≡ None) (c : Config) (a : ℕ) (one : IsApp c a) (j : ℕ) (below : j < lanes_of c) (on : is_closed c a j c.closing ≡ true) where
  abbrev side : ℕ
  side = j / classes_of c

  abbrev r : Ring
  r = Rx (rx_of c a j)

  abbrev t : Ring
  t = Tx (tx_of c a j)

  side_low : side < 2
  side_low = side_below (classes_of c) j one.regular.classes below

  -- the side's flag tells whether the last packet that was received goes on, and once the socket is closed none does that was passed on
  record Marks (kept : AppKept) (l : List Told) : Type 0 where
    size : length kept.cut ≡ 2
    flag : kept.begun ≡ false → is_cut (peeked_of r l) ≡ is_set kept.cut side
    done : kept.begun ≡ true → is_cut (submitted_of t l) ≡ false

  abbrev Lowers : walk.Stage → List Told → Type 0
  Lowers (walk.Lowering shut index) l = is_cut (submitted_of t l) ≡ false
  Lowers (walk.Waking place need pair) l = Lowers place l
  Lowers (walk.Looked place need pair n) l = Lowers place l
  Lowers (walk.Kicking place pair) l = Lowers place l
  Lowers place l = Unit {0}

  abbrev At : walk.Family
  At place noted kept l = lanes.At m c a one place noted kept l × Marks kept l × Lowers place l

  abbrev Asked : walk.Said
  Asked kept call l = lanes.Asked m c a one kept call l

  abbrev Ended : AppKept → List Told → Type 0
  Ended kept l = Marks kept l

  same : (old new : AppKept) (l more : List Told) → new.cut ≡ old.cut → new.begun ≡ old.begun → peeked_of r more ≡ peeked_of r l → submitted_of t more ≡ submitted_of t l → Marks old l → Marks new more
  same old new l more cuts begun peeked sent h = record {
    size = ap (λ (bs : List Bool). length bs) cuts ∙ h.size;
    flag = λ e. ap is_cut peeked ∙ h.flag (sym begun ∙ e) ∙ ap (λ (bs : List Bool). is_set bs side) (sym cuts);
    done = λ e. ap is_cut sent ∙ h.done (sym begun ∙ e);
  }

  quiet : (old new : AppKept) (l : List Told) (call : Call) (reply : Reply) → new.cut ≡ old.cut → new.begun ≡ old.begun → taken reply ≡ [] → submitted call ≡ [] → Marks old l → Marks new (with_told l call reply)
  quiet old new l call reply cuts begun took gave h = same old new l (with_told l call reply) cuts begun (peeked_none r l call reply took) (none_submitted t l call reply gave) h

  still_lowers : (place : walk.Stage) (l : List Told) (call : Call) (reply : Reply) → submitted call ≡ [] → Lowers place l → Lowers place (with_told l call reply)
  still_lowers (walk.Lowering shut index) l call reply gave h = ap is_cut (none_submitted t l call reply gave) ∙ h
  still_lowers (walk.Waking place need pair) l call reply gave h = still_lowers place l call reply gave h
  still_lowers (walk.Looked place need pair n) l call reply gave h = still_lowers place l call reply gave h
  still_lowers (walk.Kicking place pair) l call reply gave h = still_lowers place l call reply gave h
  still_lowers (walk.Lanes lane) l call reply gave h = tt
  still_lowers (walk.Lane lane due) l call reply gave h = tt
  still_lowers (walk.Sides n) l call reply gave h = tt
  still_lowers (walk.Side n due) l call reply gave h = tt
  still_lowers walk.Ending l call reply gave h = tt
  still_lowers (walk.Looking n) l call reply gave h = tt
  still_lowers walk.TxTold l call reply gave h = tt
  still_lowers (walk.Shutting shut) l call reply gave h = tt
  still_lowers (walk.Draining lane due) l call reply gave h = tt

  -- items that a lane received, on this lane or another
  cut_here : (kept : AppKept) (items : List Item) → length kept.cut ≡ 2 → is_set (cut_after c a j c.closing items kept.cut) side ≡ is_cut items
  cut_here kept items size =
      ap (λ b. is_set (cond b (set kept.cut side (is_cut items)) kept.cut) side) on ∙ get_or-set_same kept.cut side (is_cut items) false (omega (arith, size, side_low))

  cut_size : (kept : AppKept) (lane : ℕ) (items : List Item) → length (cut_after c a lane c.closing items kept.cut) ≡ length kept.cut
  cut_size kept lane items = by (is_closed c a lane c.closing)
    where
      by : (b : Bool) → length (cond b (set kept.cut (lane / classes_of c) (is_cut items)) kept.cut) ≡ length kept.cut
      by true = length-set kept.cut (lane / classes_of c) (is_cut items)
      by false = refl

  cut_other : (kept : AppKept) (lane : ℕ) (items : List Item) → lane < lanes_of c → (lane ≡ j → ⊥) → is_set (cut_after c a lane c.closing items kept.cut) side ≡ is_set kept.cut side
  cut_other kept lane items low other = by (is_closed c a lane c.closing) refl
    where
      by : (b : Bool) → is_closed c a lane c.closing ≡ b → is_set (cond b (set kept.cut (lane / classes_of c) (is_cut items)) kept.cut) side ≡ is_set kept.cut side
      by true e = get_or-set_other kept.cut (lane / classes_of c) side (is_cut items) false (λ (same : side ≡ lane / classes_of c). other (same_closed c a one lane j low below e on (sym same)))
      by false e = refl

  received : (kept : AppKept) (lane : ℕ) (items : List Item) (l : List Told) → lane < lanes_of c → drains c a lane kept ≡ false → 1 ≤ length items → Marks kept l
      → Marks (walk.leads c a (walk.rx_items lane items) (lanes.none_noted) kept).2 (with_told l (Peek (Rx (rx_of c a lane)) (batch_of c)) (Items items))
  received kept lane items l low off some h =
      let call = Peek (Rx (rx_of c a lane)) (batch_of c) in
      record {
        size = cut_size kept lane items ∙ h.size;
        flag = λ e. ⊎_elim
            (λ (here : lane ≡ j).
            let now : peeked_of r (with_told l call (Items items)) ≡ peeked_of r l ++ items =
            subst (λ n. peeked_of r (with_told l (Peek (Rx (rx_of c a n)) (batch_of c)) (Items items)) ≡ peeked_of r l ++ items) (sym here) (now_peeked (rx_of c a j) (batch_of c) l items) in
            ap is_cut now ∙ cut_last (peeked_of r l) items some
            ∙ sym (ap (λ n. is_set (cut_after c a n c.closing items kept.cut) side) here ∙ cut_here kept items h.size))
            (λ (other : lane ≡ j → ⊥).
            ap is_cut (other_peeked r l call (Items items) (ne_eqb (rx_of c a j) (rx_of c a lane) (λ s. other (sym (rx_lane c a one j lane s)))))
            ∙ h.flag e ∙ sym (cut_other kept lane items low other))
            (cases_eq lane j);
        done = λ e. ap is_cut (none_submitted t l call (Items items) refl) ∙ h.done e;
      }

  -- items that a lane passes on
  sent : (kept new : AppKept) (lane : ℕ) (items : List Item) (l : List Told) → new.cut ≡ kept.cut → new.begun ≡ kept.begun → lane < lanes_of c → drains c a lane kept ≡ false → Marks kept l
      → Marks new (with_told l (Submit (Tx (tx_of c a lane)) items) Submitted)
  sent kept new lane items l cuts begun low off h =
      let call = Submit (Tx (tx_of c a lane)) items in
      record {
        size = ap (λ (bs : List Bool). length bs) cuts ∙ h.size;
        flag = λ e. ap is_cut (peeked_none r l call Submitted refl) ∙ h.flag (sym begun ∙ e) ∙ ap (λ (bs : List Bool). is_set bs side) (sym cuts);
        done = λ e.
            let was : kept.begun ≡ true = sym begun ∙ e in
            let apart : (j ≡ lane → ⊥) = λ same. absurd (let no : true ≡ false = sym was ∙ fed_still kept.begun (is_closed c a lane c.closing) (ap (λ n. is_closed c a n c.closing) (sym same) ∙ on) off in cc) in
            ap is_cut (other_submitted t l call Submitted (ne_eqb (tx_of c a j) (tx_of c a lane) (λ s. apart (tx_lane c a one j lane below low s)))) ∙ h.done was;
      }

  entries : walk.AtEntries c a (Fitting c) At Asked
  entries (walk.rx_items lane items) noted kept l known h asked q =
      ((lanes.law m c a one).entries (walk.rx_items lane items) noted kept l known h.0 asked tt, received kept lane items l known.0 known.3 q.some h.1, tt)
  entries (walk.tx_submitted lane) noted kept l known h asked q =
      ((lanes.law m c a one).entries (walk.tx_submitted lane) noted kept l known h.0 asked tt, sent kept _ lane (given_on c lane kept) l refl refl known.0 known.2 h.1, tt)
  entries (walk.comp_items s items) noted kept l known h asked q =
      let call = walk.call_at c a (walk.PeekComp s) kept in (
        (lanes.law m c a one).entries (walk.comp_items s items) noted kept l known h.0 asked tt,
        same kept _ l (with_told l call (Items items)) refl refl (other_peeked r l call (Items items) refl) (none_submitted t l call (Items items) refl) h.1,
        tt,
      )
  entries (walk.fill_submitted s frame frames) noted kept l known h asked q =
      let call = walk.call_at c a (walk.SubmitFill s frame frames) kept in (
        (lanes.law m c a one).entries (walk.fill_submitted s frame frames) noted kept l known h.0 asked tt,
        same kept _ l (with_told l call Submitted) refl refl (peeked_none r l call Submitted refl) (other_submitted t l call Submitted refl) (record { size = h.1.size; flag = h.1.flag; done = h.1.done }),
        tt,
      )
  entries (walk.drain_items lane items) noted kept l known h asked q =
      let call = walk.call_at c a (walk.PeekDrain lane) kept in (
        (lanes.law m c a one).entries (walk.drain_items lane items) noted kept l known h.0 asked tt,
        record {
          size = h.1.size;
          flag = λ e. absurd (let no : true ≡ false = sym (on_begun kept.begun (is_closed c a lane c.closing) known.2) ∙ e in cc);
          done = λ e. ap is_cut (none_submitted t l call (Items items) refl) ∙ h.1.done e;
        },
        tt,
      )
  entries (walk.looked_rx_done s n) noted kept l known h asked q =
      ((lanes.law m c a one).entries (walk.looked_rx_done s n) noted kept l known h.0 asked tt, by (eqb n 1), tt)
    where
      by : (b : Bool) → Marks (cond b (record kept { seen = set kept.seen s true }) kept) (with_told l (Look (RxDone (pair_of c a s))) (Old n))
      by true = quiet kept (record kept { seen = set kept.seen s true }) l (Look (RxDone (pair_of c a s))) (Old n) refl refl refl refl h.1
      by false = quiet kept kept l (Look (RxDone (pair_of c a s))) (Old n) refl refl refl refl h.1
  entries (walk.looked_gone s n) noted kept l known h asked q =
      ((lanes.law m c a one).entries (walk.looked_gone s n) noted kept l known h.0 asked tt, by (eqb n 1), tt)
    where
      by : (b : Bool) → Marks (cond b (record kept { gone = set kept.gone s true }) kept) (with_told l (Look (Gone (pair_of c a s))) (Old n))
      by true = quiet kept (record kept { gone = set kept.gone s true }) l (Look (Gone (pair_of c a s))) (Old n) refl refl refl refl h.1
      by false = quiet kept kept l (Look (Gone (pair_of c a s))) (Old n) refl refl refl refl h.1
  entries (walk.looked_need place need pair n) noted kept l known h asked q =
      ((lanes.law m c a one).entries (walk.looked_need place need pair n) noted kept l known h.0 asked tt, quiet kept kept l (Look need) (Old n) refl refl refl refl h.1, still_lowers place l (Look need) (Old n) refl h.2)
  entries (walk.kicked place pair n) noted kept l known h asked q =
      ((lanes.law m c a one).entries (walk.kicked place pair n) noted kept l known h.0 asked tt, quiet kept kept l (Swap (Kick pair) 1) (Old n) refl refl refl refl h.1, still_lowers place l (Swap (Kick pair) 1) (Old n) refl h.2)
  entries (walk.lowered shut index n) noted kept l known h asked q =
      let call = Swap (Cell (walk.shut_port c shut) index) 0 in
      ((lanes.law m c a one).entries (walk.lowered shut index n) noted kept l known h.0 asked tt, quiet kept kept l call (Old n) refl refl refl refl h.1, ap is_cut (none_submitted t l call (Old n) refl) ∙ h.2)
  entries (walk.told_closing shut n) noted kept l known h asked q =
      let call = Swap (Closing shut.socket) 1 in (
        (lanes.law m c a one).entries (walk.told_closing shut n) noted kept l known h.0 asked tt,
        record { size = h.1.size; flag = λ e. absurd (cc); done = λ e. ap is_cut (none_submitted t l call (Old n) refl) ∙ h.2 },
        tt,
      )
  entries e noted kept l known h asked q = (
    (lanes.law m c a one).entries e noted kept l known h.0 asked tt,
    quiet (walk.kept_before (walk.point_of e) kept) (walk.leads c a e noted kept).2 l (walk.call_at c a (walk.point_of e) kept) (walk.reply_of e) refl refl refl refl h.1,
    tt,
  )

  silent : walk.AtSilent c a At
  silent (walk.closes shut) noted kept l = λ h e.
      let begun : kept.begun ≡ false = off_of kept.begun (and_parts _ _ (and_parts _ _ (and_parts _ _ e.1).0).0).0 in
      let off : drains c a j kept ≡ false = ap (λ b. b && is_closed c a j c.closing) begun in
      let order = lanes.open_lane c.geometry m.mangle (drains c a j kept) _ _ _ off (h.0.order j below) in
      let front : order.front ≡ peeked_of r l =
      sym (append-nil order.front) ∙ ap (λ xs. order.front ++ xs) (sym (none_pends c a one shut (shut_mine c a shut e.0) kept j below on e.1)) ∙ order.whole in
      let out : submitted_of t l ≡ order.front = altered_same c.geometry order.front (submitted_of t l) (subst (λ x. AreAltered c.geometry x order.front (submitted_of t l)) none order.altered) in
      ((lanes.law m c a one).silent (walk.closes shut) noted kept l h.0 e, h.1, ap is_cut (out ∙ front) ∙ h.1.flag begun ∙ flags_off c shut kept side side_low e.1)
  silent p noted kept l = λ h e. ((lanes.law m c a one).silent p noted kept l h.0 e, h.1, h.2)

  law : walk.IsLaw c a (Fitting c) At Asked Ended
  law = record { calls = λ p noted kept l known h. (lanes.law m c a one).calls p noted kept l known h.0; entries = entries; silent = silent; ends = λ noted kept l done h. h.1 }

  first_flag : (n : ℕ) → is_set (false ∷ false ∷ []) n ≡ false
  first_flag zero = refl
  first_flag (suc zero) = refl
  first_flag (suc (suc n)) = refl

  -- at the end, where the socket was closed
  pub ends_whole : (l : List Told) (last : AppKept) → AllFit c [] l → Ends (app_turn c a) (app_start_by m c) l last → last.begun ≡ true → is_cut (submitted_of t l) ≡ false
  ends_whole l last fit ends =
      (walk.at_end c a one (Fitting c) At Asked Ended law (app_start_by m c)
      (lanes.first m c a one l, record { size = refl; flag = λ e. sym (first_flag side); done = λ e. absurd (cc) }, tt) l
      (meet_fitting (app_turn c a) c (app_turn c a (app_start_by m c)) [] l fit) last ends).done
