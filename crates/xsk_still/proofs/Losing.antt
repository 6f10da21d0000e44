-- A driver loses no frame where no packet was bad.
use Rattle.std.proofs.Common.{◌≡◌, ℕ, zero, suc, ◌<◌, Bool, true, false, cond, List, [], ◌∷◌, ◌++◌, append_assoc, length, get_or, set, take, refl, sym, ap, ◌∙◌, ⊎_elim, arith, eq-eqb, ne_eqb, length-set, get_or-set_same, get_or-set_other}
use Rattle.std.proofs.lemmas.Bool.{cases_eq}
use Rattle.std.proofs.lemmas.List.{length-replicate}
use Rattle.xsk_turns.proofs.Object.{Frame, Config, classes_of, Packet, whole, bad, packets, packets_from, rest, rest_from, peeked_of, peeked_step, taken, is_on}
use Rattle.xsk_model.proofs.Folds.{part_of-push, part_of-push_other}
use Rattle.xsk_model.proofs.PacketsLaws.{packets_from-append, rest_from-append}
use Rattle.xsk_turns.proofs.Calls.{Item, Told, with_told, Tx, Call, Peek, Reply, Items}
use Rattle.xsk_turns.specs.Turns.{Seat, Kept, frames_in, bad_ones, group_at, gathered, seat_of, start, turn}
use Rattle.xsk_turns.specs.Owned.{socket_at_class}
use Rattle.xsk_turns.specs.declared.wire.Wire.{Wire}
use Rattle.xsk_turns.proofs.Owned.{peeked_none, sockets_apart}
use Rattle.xsk_turns.proofs.Owning.{no_group}
use Rattle.xsk_turns.proofs.Walks.{Anything, meet_anything}
use Rattle.xsk_turns.proofs.DriverStages as walk
use Rattle.xsk_turns.proofs.DriverWalk as along
use Rattle.xsk_still.specs.Own.{LosesNone}

none_front : {X : Type 0} (xs ys : List X) → xs ++ ys ≡ [] → xs ≡ []
none_front [] ys e = refl
none_front (x ∷ xs) ys e = cc

none_back : {X : Type 0} (xs ys : List X) → xs ++ ys ≡ [] → ys ≡ []
none_back [] ys e = e
none_back (x ∷ xs) ys e = cc

bad_ones-append : (ps qs : List Packet) → bad_ones (ps ++ qs) ≡ bad_ones ps ++ bad_ones qs
bad_ones-append [] qs = refl
bad_ones-append (whole items ∷ ps) qs = bad_ones-append ps qs
bad_ones-append (bad items ∷ ps) qs = ap (λ xs. items ++ xs) (bad_ones-append ps qs) ∙ sym (append_assoc items (bad_ones ps) (bad_ones qs))

take_none : {X : Type 0} (n : ℕ) (xs : List X) → xs ≡ [] → take n xs ≡ []
take_none zero xs e = refl
take_none (suc n) xs e = ap (take (suc n)) e

module _ (wire : Wire) (c : Config) (d : ℕ) where
  abbrev seat : Seat
  seat = seat_of wire c d

  abbrev tx : ℕ → ℕ
  tx class = socket_at_class c d class

  abbrev bads : List Item → List Item
  bads items = bad_ones (packets c.geometry c.sg items)

  -- no packet of those peeked so far was bad
  abbrev NoneBad : List Told → Type 0
  NoneBad l = (class : ℕ) → class < classes_of c → bads (peeked_of (Tx (tx class)) l) ≡ []

  -- what is gathered of each class is the rest of what was peeked there; and no frame is lost where no packet was bad
  record Loses (groups : List (List Item)) (lost : List Frame) (l : List Told) : Type 0 where
    pub classes : length groups ≡ classes_of c
    pub rests : (class : ℕ) → class < classes_of c → get_or groups class [] ≡ rest c.geometry c.sg (peeked_of (Tx (tx class)) l)
    pub none : NoneBad l → lost ≡ []

  abbrev At : walk.Family
  At place noted kept l = Loses kept.groups kept.lost l

  abbrev Said : walk.Said
  Said kept call l = NoneBad l → kept.lost ≡ []

  abbrev Nothing : Kept → List Told → Type 0
  Nothing kept l = Unit {0}

  -- further items of packets that weren't bad
  more : (xs ys : List Item) → bads (xs ++ ys) ≡ bads xs ++ bad_ones (packets_from c.geometry c.sg (rest c.geometry c.sg xs) ys)
  more xs ys = ap bad_ones (packets_from-append c.geometry c.sg [] xs ys) ∙ bad_ones-append (packets c.geometry c.sg xs) (packets_from c.geometry c.sg (rest c.geometry c.sg xs) ys)

  bad_before : (b : Bool) (xs ys : List Item) → bads (cond b (xs ++ ys) xs) ≡ [] → bads xs ≡ []
  bad_before true xs ys e = none_front (bads xs) _ (sym (more xs ys) ∙ e)
  bad_before false xs ys e = e

  before : (l : List Told) (call : Call) (reply : Reply) → NoneBad (with_told l call reply) → NoneBad l
  before l call reply h class below =
      bad_before (is_on (Tx (tx class)) call) (peeked_of (Tx (tx class)) l) (taken reply)
      (ap bads (sym (part_of-push peeked_step (Tx (tx class)) [] l (record { call = call; reply = reply }))) ∙ h class below)

  -- a call that takes nothing from the TX rings
  still : (groups : List (List Item)) (lost : List Frame) (l : List Told) (call : Call) (reply : Reply)
      → ((class : ℕ) → peeked_of (Tx (tx class)) (with_told l call reply) ≡ peeked_of (Tx (tx class)) l) → Loses groups lost l → Loses groups lost (with_told l call reply)
  still groups lost l call reply same h = record {
    classes = h.classes;
    rests = λ class below. h.rests class below ∙ ap (rest c.geometry c.sg) (sym (same class));
    none = λ none. h.none (before l call reply none);
  }

  elsewhere : (l : List Told) (call : Call) (reply : Reply) → ((class : ℕ) → is_on (Tx (tx class)) call ≡ false) → (class : ℕ)
      → peeked_of (Tx (tx class)) (with_told l call reply) ≡ peeked_of (Tx (tx class)) l
  elsewhere l call reply off class = part_of-push_other peeked_step (Tx (tx class)) [] l (record { call = call; reply = reply }) (off class)

  gathers : (k : ℕ) (kept : Kept) (items : List Item) (l : List Told) → k < classes_of c → Loses kept.groups kept.lost l
      → Loses (gathered seat k kept items).groups (gathered seat k kept items).lost (with_told l (Peek (Tx (tx k)) seat.batch) (Items items))
  gathers k kept items l below h =
      let call = Peek (Tx (tx k)) seat.batch in
      let m = with_told l call (Items items) in
      let t : Told = record { call = call; reply = Items items } in
      let peeked = peeked_of (Tx (tx k)) l in
      let new = rest_from c.geometry c.sg (group_at kept k) items in
      let all : peeked_of (Tx (tx k)) m ≡ peeked ++ items =
      part_of-push peeked_step (Tx (tx k)) [] l t ∙ ap (λ b. cond b (peeked ++ items) peeked) (eq-eqb (tx k) (tx k) refl) in
      record {
        classes = length-set kept.groups k new ∙ h.classes;
        rests = λ class within. ⊎_elim
            (λ (e : class ≡ k).
            ap (λ j. get_or (set kept.groups k new) j []) e
            ∙ get_or-set_same kept.groups k new [] (omega (arith, below, h.classes))
            ∙ ap (λ (group : List Item). rest_from c.geometry c.sg group items) (h.rests k below)
            ∙ sym (rest_from-append c.geometry c.sg [] peeked items)
            ∙ ap (rest c.geometry c.sg) (sym all)
            ∙ ap (λ j. rest c.geometry c.sg (peeked_of (Tx (tx j)) m)) (sym e))
            (λ (e : class ≡ k → ⊥).
            get_or-set_other kept.groups k class new [] e
            ∙ h.rests class within
            ∙ ap (rest c.geometry c.sg) (sym (part_of-push_other peeked_step (Tx (tx class)) [] l t (ne_eqb (tx class) (tx k) (sockets_apart c d class k e)))))
            (cases_eq class k);
        none = λ none.
            let later : bad_ones (packets_from c.geometry c.sg (rest c.geometry c.sg peeked) items) ≡ [] =
            none_back (bads peeked) _ (sym (more peeked items) ∙ ap bads (sym all) ∙ none k below) in
            let now : bad_ones (packets_from c.geometry c.sg (group_at kept k) items) ≡ [] =
            ap (λ group. bad_ones (packets_from c.geometry c.sg group items)) (h.rests k below) ∙ later in
            take_none c.geometry.frames _
            (ap (λ xs. xs ++ frames_in (bad_ones (packets_from c.geometry c.sg (group_at kept k) items))) (h.none (before l call (Items items) none)) ∙ ap frames_in now);
      }

  calls : walk.AtCalls seat Anything At Said
  calls walk.TellRxDone noted kept l known h = h.none
  calls p noted kept l known h = h.none

  entries : walk.AtEntries seat Anything At Said
  entries (walk.tx_items look k items) noted kept l known found h a q = gathers k kept items l known.0 h
  entries (walk.fill_items look packet s items) noted kept l known found h a q =
      let call = walk.call_at seat (walk.PeekFill look packet s) kept in
      still kept.groups kept.lost l call (Items items) (elsewhere l call (Items items) (λ class. refl)) h
  entries e noted kept l known found h a q =
      still kept.groups kept.lost l (walk.call_at seat (walk.point_of e) kept) (walk.reply_of e)
      (λ class. peeked_none (Tx (tx class)) l (walk.call_at seat (walk.point_of e) kept) (walk.reply_of e) refl) h

  silent : walk.AtSilent seat Anything At
  silent walk.none_comes noted kept l = λ h e. h
  silent p noted kept l = λ h e. h

  law : walk.IsLaw seat Anything At Said Nothing
  law = record { calls = calls; entries = entries; silent = silent; ends = λ noted kept l n known h a q. tt }

pub loses_none : LosesNone
loses_none wire c d input l kept call rest is fit asks none =
    let seat = seat_of wire c d in
    let begins = start (classes_of c) input in
    along.at_call seat Anything (At wire c d) (Said wire c d) (Nothing wire c d) (law wire c d) begins
    (record { classes = length-replicate (classes_of c) []; rests = λ class within. no_group (classes_of c) class; none = λ none. refl }) l
    (meet_anything (turn seat) (turn seat begins) [] l) kept call rest asks none
