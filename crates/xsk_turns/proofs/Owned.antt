-- What a driver has of frames and packets, and what each entry leaves of it.
use Rattle.std.proofs.Common.{◌≡◌, ◌≢◌, ℕ, zero, suc, ◌+◌, ◌<◌, ◌≤◌, Bool, true, false, cond, eqb, nat_lt, Option, None, Some, List, [], ◌∷◌, ◌++◌, length, get_or, set, drop, flat_map, replicate, All, refl, sym, ap, subst, ◌∙◌, ⊎_elim, arith, append-nil, length-append, length-set, get_or-set_same, get_or-set_other, drop-drop, drop_at, eq-eqb, ne_eqb, lt-ltb}
use Rattle.std.proofs.lemmas.Bool.{cases_eq}
use Rattle.std.proofs.lemmas.List.{drop-append-le, length-replicate, map-append}
use Rattle.std.proofs.lemmas.List.Concat.{flat_map-append}
use Rattle.std.proofs.lemmas.List.Elements.{All-nil, All-cons, All-append, All-weaker}
use Rattle.std.proofs.lemmas.List.Sums.{fold_push}
use Rattle.xsk_turns.proofs.Object.{Geometry, Frame, Config, classes_of, is_ring, times, number_of, numbers, Packet, whole, bad, items_of, packets, packets_from, rest, rest_from, whole_packets, submitted, taken, TxWork, had_of, is_on, is_fill_peek, fill_step, is_from_fill, peeked_step, peeked_of, completed_by, waiting, tx_work_after, tx_work_of, IsLegal, Fits, AreFresh, OwnGoesOn, completed_in, submitted_of, submitted_step}
use Rattle.xsk_turns.proofs.Calls.{Item, Told, with_told, Ring, Fill, Comp, Tx, Call, Submit, Peek, Reply, Items}
use Rattle.xsk_model.proofs.Counting.{times-append, times-flat_map-set}
use Rattle.xsk_model.proofs.Completions.{own_kept, times-numbers-append}
use Rattle.xsk_model.proofs.Folds.{part_of-push, part_of-push_same, part_of-push_other}
use Rattle.xsk_model.proofs.PacketsLaws.{packets_from-append, rest_from-append, packets-items}
use Rattle.xsk_model.proofs.Places.{is_ring-self}
use Rattle.xsk_turns.proofs.LegalCalls.{had_told}
use Rattle.xsk_model.proofs.Sendings.{wholes, more_wholes, wholes-append, tx_work_of-push, peeked_is}
use Rattle.xsk_turns.specs.Turns.{Kept, frame_in, frames_in, bad_ones, group_at, gathered, seat_of}
use Rattle.xsk_turns.specs.Owned.{IsSeat, of_class, socket_at_class, frame_numbers, numbers_kept, IsSpare, Owned}
use Rattle.xsk_turns.specs.declared.wire.Wire.{Wire}
use Rattle.xsk_model.proofs.OwnRuns.{own_push}

-- ---- what is had, over the lists that are kept

pub record Has (c : Config) (pair : ℕ) (spare : List Frame) (groups finished : List (List Item)) (lost : List Frame) (l : List Told) : Type 0 where
  pub own : OwnGoesOn c pair [] l
  pub frames : (n : ℕ) → times n (frame_numbers spare) + times n (flat_map numbers groups) + times n (flat_map numbers finished) + times n (frame_numbers lost) ≡ times n (had_of l)
  pub spares : All (IsSpare c l) spare
  pub few : length spare ≤ 18
  pub classes : length groups ≡ classes_of c
  pub at : (class : ℕ) → class < classes_of c → get_or groups class [] ≡ rest c.geometry c.sg (peeked_of (Tx (socket_at_class c pair class)) l)
  pub origins : List ℕ
  pub each : length origins ≡ length finished
  pub known : All (λ (class : ℕ). class < classes_of c) origins
  pub waits : (class : ℕ) → class < classes_of c → of_class class origins finished ≡ waiting c (tx_work_of c (socket_at_class c pair class) l)

abbrev pub HasKept : Config → ℕ → Kept → List Told → Type 0
HasKept c pair kept l = Has c pair kept.spare kept.groups kept.finished kept.lost l

pub times-kept : (n : ℕ) (kept : Kept)
    → times n (numbers_kept kept) ≡ times n (frame_numbers kept.spare) + times n (flat_map numbers kept.groups) + times n (flat_map numbers kept.finished) + times n (frame_numbers kept.lost)
times-kept n kept =
    let spare = frame_numbers kept.spare in
    let groups = flat_map numbers kept.groups in
    let finished = flat_map numbers kept.finished in
    let lost = frame_numbers kept.lost in
    omega (arith, times-append n ((spare ++ groups) ++ finished) lost, times-append n (spare ++ groups) finished, times-append n spare groups)

-- ---- finished packets by their classes

cond-push : {X : Type 0} (b : Bool) (x : X) (xs ys : List X) → cond b (x ∷ (xs ++ ys)) (xs ++ ys) ≡ cond b (x ∷ xs) xs ++ ys
cond-push true x xs ys = refl
cond-push false x xs ys = refl

of_class-append : (class : ℕ) (ks js : List ℕ) (xs ys : List (List Item)) → length ks ≡ length xs → of_class class (ks ++ js) (xs ++ ys) ≡ of_class class ks xs ++ of_class class js ys
of_class-append class [] js [] ys e = refl
of_class-append class [] js (x ∷ xs) ys e = absurd (omega arith)
of_class-append class (k ∷ ks) js [] ys e = absurd (omega arith)
of_class-append class (k ∷ ks) js (x ∷ xs) ys e =
    ap (λ (ws : List (List Item)). cond (eqb k class) (x ∷ ws) ws) (of_class-append class ks js xs ys (omega (arith, e)))
    ∙ cond-push (eqb k class) x (of_class class ks xs) (of_class class js ys)

of_class-same : (class : ℕ) (xs : List (List Item)) → of_class class (replicate (length xs) class) xs ≡ xs
of_class-same class [] = refl
of_class-same class (x ∷ xs) =
    ap (λ (b : Bool). cond b (x ∷ of_class class (replicate (length xs) class) xs) (of_class class (replicate (length xs) class) xs)) (eq-eqb class class refl)
    ∙ ap (λ (ws : List (List Item)). x ∷ ws) (of_class-same class xs)

of_class-other : (class k : ℕ) (xs : List (List Item)) → (class ≡ k → ⊥) → of_class class (replicate (length xs) k) xs ≡ []
of_class-other class k [] apart = refl
of_class-other class k (x ∷ xs) apart =
    ap (λ (b : Bool). cond b (x ∷ of_class class (replicate (length xs) k) xs) (of_class class (replicate (length xs) k) xs)) (ne_eqb k class (λ (e : k ≡ class). apart (sym e)))
    ∙ of_class-other class k xs apart

all_one : (P : ℕ → Type 0) (n x : ℕ) → P x → All P (replicate n x)
all_one P zero x h = All-nil P
all_one P (suc n) x h = All-cons P x (replicate n x) h (all_one P n x h)

-- ---- calls that move no frame and complete nothing

abbrev pub IsQuiet : Call → Type 0
IsQuiet (Submit r items) = ⊥
IsQuiet call = Unit {0}

quiet_none : (call : Call) → IsQuiet call → submitted call ≡ []
quiet_none (Submit r items) q = absurd q
quiet_none call q = refl

pub quiet_done : (c : Config) (sockets : List ℕ) (l : List Told) (call : Call) → IsQuiet call → completed_in c sockets l call ≡ []
quiet_done c sockets l (Submit r items) q = absurd q
quiet_done c sockets l call q = refl

pub owned_quiet : (c : Config) (pair : ℕ) (kept : Kept) (call : Call) (l : List Told) → IsQuiet call → HasKept c pair kept l → Owned c pair kept call l
owned_quiet c pair kept call l q h = record {
  own = h.own;
  frames = λ n. omega (arith, times-kept n kept, h.frames n, ap (λ (items : List Item). times n (numbers items)) (quiet_none call q));
  spare = h.spares;
  few = h.few;
  classes = h.classes;
  groups = h.at;
  queue = record {
    origins = h.origins;
    each = h.each;
    known = h.known;
    waits = λ class within.
        ap (λ (done : List (List Item)). done ++ of_class class h.origins kept.finished) (quiet_done c (socket_at_class c pair class ∷ []) l call q) ∙ h.waits class within;
  };
}

-- ---- one entry more

pub cond_same : (b : Bool) (xs ys : List Item) → ys ≡ [] → cond b (xs ++ ys) xs ≡ xs
cond_same true xs ys h = ap (λ (zs : List Item). xs ++ zs) h ∙ append-nil xs
cond_same false xs ys h = refl

pub peeked_none : (r : Ring) (l : List Told) (call : Call) (reply : Reply) → taken reply ≡ [] → peeked_of r (with_told l call reply) ≡ peeked_of r l
peeked_none r l call reply none = part_of-push peeked_step r [] l (record { call = call; reply = reply }) ∙ cond_same (is_on r call) (peeked_of r l) (taken reply) none

pub none_submitted : (r : Ring) (l : List Told) (call : Call) (reply : Reply) → submitted call ≡ [] → submitted_of r (with_told l call reply) ≡ submitted_of r l
none_submitted r l call reply e =
    part_of-push submitted_step r [] l (record { call = call; reply = reply }) ∙ cond_same (is_on r call) (submitted_of r l) (submitted call) e

pub other_submitted : (r : Ring) (l : List Told) (call : Call) (reply : Reply) → is_on r call ≡ false → submitted_of r (with_told l call reply) ≡ submitted_of r l
other_submitted r l call reply e = part_of-push_other submitted_step r [] l (record { call = call; reply = reply }) e

from_fill-push : (n : ℕ) (l : List Told) (call : Call) (reply : Reply)
    → is_from_fill n (with_told l call reply) ≡ cond (nat_lt 0 (times n (numbers (taken reply)))) (is_fill_peek call) (is_from_fill n l)
from_fill-push n l call reply = fold_push (fill_step n) false l (record { call = call; reply = reply })

from_fill-none : (n : ℕ) (l : List Told) (call : Call) (reply : Reply) → times n (numbers (taken reply)) ≡ 0 → is_from_fill n (with_told l call reply) ≡ is_from_fill n l
from_fill-none n l call reply none =
    from_fill-push n l call reply ∙ ap (λ (m : ℕ). cond (nat_lt 0 m) (is_fill_peek call) (is_from_fill n l)) none

cond_waits : (b : Bool) (c : Config) (u : TxWork) (items : List Item) → items ≡ [] → waiting c (cond b (record u { peeked = u.peeked ++ items }) u) ≡ waiting c u
cond_waits true c u items none = ap (λ (xs : List Item). drop u.completed (whole_packets (packets c.geometry c.sg xs))) (ap (λ (ys : List Item). u.peeked ++ ys) none ∙ append-nil u.peeked)
cond_waits false c u items none = refl

waits_after : (c : Config) (s : ℕ) (l : List Told) (call : Call) (reply : Reply) (ws : List (List Item)) → taken reply ≡ []
    → completed_in c (s ∷ []) l call ++ ws ≡ waiting c (tx_work_of c s l) → ws ≡ waiting c (tx_work_after c s (tx_work_of c s l) call reply)
waits_after c s l (Submit (Comp d) items) reply ws none h =
    let u = tx_work_of c s l in
    let done = completed_by items (waiting c u) in
    let front : (done ++ []) ++ ws ≡ done ++ ws = ap (λ (xs : List (List Item)). xs ++ ws) (append-nil done) in
    sym (drop_at done ws (length done) refl)
    ∙ ap (λ (xs : List (List Item)). drop (length done) xs) (sym front ∙ h)
    ∙ drop-drop (length done) u.completed (wholes c u)
waits_after c s l (Peek r n) reply ws none h = h ∙ sym (cond_waits (is_ring (Tx s) r) c (tx_work_of c s l) (taken reply) none)
waits_after c s l call reply ws none h = h

-- an entry that brings no frame
pub has_told : (c : Config) (pair : ℕ) (kept : Kept) (call : Call) (reply : Reply) (l : List Told) → Owned c pair kept call l → IsLegal c l pair call → Fits c l call reply
    → taken reply ≡ [] → HasKept c pair kept (with_told l call reply)
has_told c pair kept call reply l h legal fits none = record {
  own = own_push c pair [] l (record { call = call; reply = reply }) h.own legal fits;
  frames = λ n. omega (arith, times-kept n kept, h.frames n, had_told l call reply n, ap (λ (items : List Item). times n (numbers items)) none);
  spares = All-weaker (IsSpare c l) (IsSpare c (with_told l call reply))
      (λ frame s. record {
        number = s.number;
        bytes = s.bytes;
        from_fill = from_fill-none frame.number l call reply (ap (λ (items : List Item). times frame.number (numbers items)) none) ∙ s.from_fill;
      }) kept.spare h.spare;
  few = h.few;
  classes = h.classes;
  at = λ class within.
      h.groups class within ∙ ap (λ (items : List Item). rest c.geometry c.sg items) (sym (peeked_none (Tx (socket_at_class c pair class)) l call reply none));
  origins = h.queue.origins;
  each = h.queue.each;
  known = h.queue.known;
  waits = λ class within.
      let s = socket_at_class c pair class in
      waits_after c s l call reply (of_class class h.queue.origins kept.finished) none (h.queue.waits class within)
      ∙ ap (λ (u : TxWork). waiting c u) (sym (tx_work_of-push c s l (record { call = call; reply = reply })));
}

-- ---- the items of a Peek on FILL

numbers_in-frame : (o : Option Frame) (frames : List Frame) (ns : List ℕ) → frame_numbers frames ≡ ns → frame_numbers (frame_in o ++ frames) ≡ number_of o ++ ns
numbers_in-frame None frames ns e = e
numbers_in-frame (Some frame) frames ns e = ap (λ (ms : List ℕ). frame.number ∷ ms) e

pub frame_numbers-in : (items : List Item) → frame_numbers (frames_in items) ≡ numbers items
frame_numbers-in [] = refl
frame_numbers-in (item ∷ items) = numbers_in-frame item.frame (frames_in items) (numbers items) (frame_numbers-in items)

pub times-frames : (n : ℕ) (xs ys : List Frame) → times n (frame_numbers (xs ++ ys)) ≡ times n (frame_numbers xs) + times n (frame_numbers ys)
times-frames n xs ys = ap (times n) (map-append (λ (f : Frame). f.number) xs ys) ∙ times-append n (frame_numbers xs) (frame_numbers ys)

-- a frame that came from FILL still does after another Peek on FILL, and so do its own
still_fill : (b before : Bool) → before ≡ true → cond b true before ≡ true
still_fill true before h = refl
still_fill false before h = h

pub from_fill-here : (n pair k : ℕ) (l : List Told) (items : List Item) → 1 ≤ times n (numbers items) → is_from_fill n (with_told l (Peek (Fill pair) k) (Items items)) ≡ true
from_fill-here n pair k l items some =
    from_fill-push n l (Peek (Fill pair) k) (Items items) ∙ ap (λ (b : Bool). cond b true (is_from_fill n l)) (lt-ltb 0 (times n (numbers items)) some)

pub frames_few : (items : List Item) → length (frames_in items) ≤ length items
frames_few [] = omega arith
frames_few (item ∷ items) = omega (arith, frames_few items, length-append (frame_in item.frame) (frames_in items), one item.frame)
  where
    one : (o : Option Frame) → length (frame_in o) ≤ 1
    one None = omega arith
    one (Some frame) = omega arith

pub has_fill : (c : Config) (pair k : ℕ) (kept : Kept) (items : List Item) (l : List Told) → Owned c pair kept (Peek (Fill pair) k) l → IsLegal c l pair (Peek (Fill pair) k)
    → AreFresh c l (Fill pair) k items → k + length kept.spare ≤ 18
    → All (IsSpare c (with_told l (Peek (Fill pair) k) (Items items))) (frames_in items)
    → Has c pair (kept.spare ++ frames_in items) kept.groups kept.finished kept.lost (with_told l (Peek (Fill pair) k) (Items items))
has_fill c pair k kept items l h legal fits some news =
    let call = Peek (Fill pair) k in
    let reply = Items items in
    let t : Told = record { call = call; reply = reply } in
    let m = with_told l call reply in
    record {
      own = own_push c pair [] l t h.own legal fits;
      frames = λ n.
          omega (arith, times-kept n kept, h.frames n, had_told l call reply n, times-frames n kept.spare (frames_in items), ap (times n) (frame_numbers-in items));
      spares = All-append (IsSpare c m) kept.spare (frames_in items)
          (All-weaker (IsSpare c l) (IsSpare c m)
          (λ frame s. record {
            number = s.number;
            bytes = s.bytes;
            from_fill = from_fill-push frame.number l call reply ∙ still_fill (nat_lt 0 (times frame.number (numbers items))) (is_from_fill frame.number l) s.from_fill;
          }) kept.spare h.spare)
          news;
      few = omega (arith, some, fits.few, length-append kept.spare (frames_in items), frames_few items);
      classes = h.classes;
      at = λ class within.
          h.groups class within
          ∙ ap (λ (xs : List Item). rest c.geometry c.sg xs) (sym (part_of-push_other peeked_step (Tx (socket_at_class c pair class)) [] l t refl));
      origins = h.queue.origins;
      each = h.queue.each;
      known = h.queue.known;
      waits = λ class within.
          let s = socket_at_class c pair class in
          h.queue.waits class within ∙ ap (λ (u : TxWork). waiting c u) (sym (tx_work_of-push c s l t));
    }

-- ---- the items of a Peek on TX

-- each item of some packets stands in a whole packet or in a bad one
whole_and_bad : (n : ℕ) (ps : List Packet) → times n (flat_map numbers (whole_packets ps)) + times n (numbers (bad_ones ps)) ≡ times n (numbers (flat_map items_of ps))
whole_and_bad n [] = refl
whole_and_bad n (whole items ∷ ps) =
    omega (arith, whole_and_bad n ps, times-append n (numbers items) (flat_map numbers (whole_packets ps)), times-numbers-append n items (flat_map items_of ps))
whole_and_bad n (bad items ∷ ps) =
    omega (arith, whole_and_bad n ps, times-numbers-append n items (bad_ones ps), times-numbers-append n items (flat_map items_of ps))

times-packets : (n : ℕ) (g : Geometry) (sg : Bool) (xs : List Item)
    → times n (numbers (flat_map items_of (packets g sg xs))) + times n (numbers (rest g sg xs)) ≡ times n (numbers xs)
times-packets n g sg xs =
    sym (times-numbers-append n (flat_map items_of (packets g sg xs)) (rest g sg xs)) ∙ ap (λ (items : List Item). times n (numbers items)) (packets-items g sg xs)

-- further items, and those of the packet that isn't at its end, go to whole packets, to bad ones, and to the rest
further_items : (n : ℕ) (g : Geometry) (sg : Bool) (peeked items : List Item)
    → times n (flat_map numbers (whole_packets (packets_from g sg (rest g sg peeked) items))) + times n (numbers (bad_ones (packets_from g sg (rest g sg peeked) items)))
    + times n (numbers (rest_from g sg (rest g sg peeked) items)) ≡ times n (numbers (rest g sg peeked)) + times n (numbers items)
further_items n g sg peeked items =
    let later = packets_from g sg (rest g sg peeked) items in
    let all : times n (numbers (flat_map items_of (packets g sg (peeked ++ items)))) ≡ times n (numbers (flat_map items_of (packets g sg peeked))) + times n (numbers (flat_map items_of later)) =
    ap (λ (ps : List Packet). times n (numbers (flat_map items_of ps))) (packets_from-append g sg [] peeked items)
    ∙ ap (λ (xs : List Item). times n (numbers xs)) (flat_map-append items_of (packets g sg peeked) later)
    ∙ times-numbers-append n (flat_map items_of (packets g sg peeked)) (flat_map items_of later) in
    let end : times n (numbers (rest g sg (peeked ++ items))) ≡ times n (numbers (rest_from g sg (rest g sg peeked) items)) =
    ap (λ (xs : List Item). times n (numbers xs)) (rest_from-append g sg [] peeked items) in
    omega (
      arith,
      all,
      end,
      whole_and_bad n later,
      times-packets n g sg (peeked ++ items),
      times-packets n g sg peeked,
      times-numbers-append n peeked items,
    )

-- sockets of two classes are two
pub sockets_apart : (c : Config) (pair i j : ℕ) → (i ≡ j → ⊥) → socket_at_class c pair i ≡ socket_at_class c pair j → ⊥
sockets_apart c pair i j apart e = apart (omega (arith, e))

waits_peeked : (c : Config) (u : TxWork) (items : List Item) → u.completed ≤ length (wholes c u)
    → waiting c (record u { peeked = u.peeked ++ items }) ≡ waiting c u ++ more_wholes c u.peeked items
waits_peeked c u items within =
    ap (λ (ws : List (List Item)). drop u.completed ws) (wholes-append c u.peeked items)
    ∙ drop-append-le u.completed (wholes c u) (more_wholes c u.peeked items) within

group_items : (n : ℕ) (g : Geometry) (sg : Bool) (peeked group items : List Item) → group ≡ rest g sg peeked
    → times n (flat_map numbers (whole_packets (packets_from g sg group items))) + times n (numbers (bad_ones (packets_from g sg group items)))
    + times n (numbers (rest_from g sg group items)) ≡ times n (numbers group) + times n (numbers items)
group_items n g sg peeked group items e =
    subst (λ (xs : List Item). times n (flat_map numbers (whole_packets (packets_from g sg xs items))) + times n (numbers (bad_ones (packets_from g sg xs items)))
    + times n (numbers (rest_from g sg xs items)) ≡ times n (numbers xs) + times n (numbers items)) (sym e) (further_items n g sg peeked items)

pub times-at : (frames : List Frame) (k : ℕ) (d : Frame) → k < length frames → 1 ≤ times (get_or frames k d).number (frame_numbers frames)
times-at [] k d h = absurd (omega arith)
times-at (frame ∷ frames) zero d h = omega (arith, ap {B = ℕ} (λ (b : Bool). cond b 1 0) (eq-eqb frame.number frame.number refl))
times-at (frame ∷ frames) (suc k) d h = omega (arith, times-at frames k d (omega arith))

-- a spare frame isn't among the items of a Peek
spare_after : (c : Config) (l : List Told) (r : Ring) (k : ℕ) (items : List Item) (spare : List Frame) → ((n : ℕ) → times n (frame_numbers spare) ≤ times n (had_of l))
    → AreFresh c l r k items → All (IsSpare c l) spare → All (IsSpare c (with_told l (Peek r k) (Items items))) spare
spare_after c l r k items spare had fresh all i d within =
    let frame = get_or spare i d in
    let s : IsSpare c l frame = all i d within in
    record {
      number = s.number;
      bytes = s.bytes;
      from_fill = from_fill-none frame.number l (Peek r k) (Items items) (omega (arith, fresh.fresh frame.number, had frame.number, times-at spare i d within)) ∙ s.from_fill;
    }

group_set : (groups : List (List Item)) (class i : ℕ) (new group : List Item) → class < length groups → (i ≡ class → group ≡ new) → (i ≢ class → get_or groups i [] ≡ group)
    → get_or (set groups class new) i [] ≡ group
group_set groups class i new group within same other = ⊎_elim
    (λ (e : i ≡ class). ap (λ (k : ℕ). get_or (set groups class new) k []) e ∙ get_or-set_same groups class new [] within ∙ sym (same e))
    (λ (e : i ≡ class → ⊥). get_or-set_other groups class i new [] e ∙ other e)
    (cases_eq i class)

pub has_tx : (wire : Wire) (c : Config) (pair class k : ℕ) (kept : Kept) (items : List Item) (l : List Told) → IsSeat c pair → class < classes_of c
    → Owned c pair kept (Peek (Tx (socket_at_class c pair class)) k) l → IsLegal c l pair (Peek (Tx (socket_at_class c pair class)) k)
    → AreFresh c l (Tx (socket_at_class c pair class)) k items
    → Has c pair kept.spare (gathered (seat_of wire c pair) class kept items).groups (gathered (seat_of wire c pair) class kept items).finished
    (kept.lost ++ frames_in (bad_ones (packets_from c.geometry c.sg (group_at kept class) items))) (with_told l (Peek (Tx (socket_at_class c pair class)) k) (Items items))
has_tx wire c pair class k kept items l seat within h legal fresh =
    let g = c.geometry in
    let sg = c.sg in
    let s = socket_at_class c pair class in
    let call = Peek (Tx s) k in
    let reply = Items items in
    let t : Told = record { call = call; reply = reply } in
    let m = with_told l call reply in
    let group = group_at kept class in
    let is : group ≡ rest g sg (peeked_of (Tx s) l) = h.groups class within in
    let ps = packets_from g sg group items in
    let inside : class < length kept.groups = omega (arith, within, h.classes) in
    let more = whole_packets ps in
    let origins = h.queue.origins ++ replicate (length more) class in
    let u = tx_work_of c s l in
    let news : more ≡ more_wholes c u.peeked items = ap (λ (xs : List Item). whole_packets (packets_from g sg xs items)) (is ∙ ap (λ (xs : List Item). rest g sg xs) (sym (peeked_is c pair s l h.own))) in
    let here : of_class class origins (kept.finished ++ more) ≡ waiting c (tx_work_of c s m) =
    of_class-append class h.queue.origins (replicate (length more) class) kept.finished more h.queue.each
    ∙ ap (λ (ws : List (List Item)). of_class class h.queue.origins kept.finished ++ ws) (of_class-same class more)
    ∙ ap (λ (ws : List (List Item)). ws ++ more) (h.queue.waits class within)
    ∙ ap (λ (ws : List (List Item)). waiting c u ++ ws) news
    ∙ sym (waits_peeked c u items ((own_kept c pair seat.known l h.own).within s))
    ∙ ap (λ (b : Bool). waiting c (cond b (record u { peeked = u.peeked ++ items }) u)) (sym (is_ring-self (Tx s)))
    ∙ ap (λ (v : TxWork). waiting c v) (sym (tx_work_of-push c s l t)) in
    record {
      own = own_push c pair [] l t h.own legal fresh;
      frames = λ n.
          omega (
            arith,
            times-kept n kept,
            h.frames n,
            had_told l call reply n,
            times-flat_map-set n numbers kept.groups class (rest_from g sg group items) [] inside,
            ap (times n) (flat_map-append numbers kept.finished (whole_packets ps)),
            times-append n (flat_map numbers kept.finished) (flat_map numbers (whole_packets ps)),
            times-frames n kept.lost (frames_in (bad_ones ps)),
            ap (times n) (frame_numbers-in (bad_ones ps)),
            group_items n g sg (peeked_of (Tx s) l) group items is,
          );
      spares = spare_after c l (Tx s) k items kept.spare (λ n. omega (arith, times-kept n kept, h.frames n)) fresh h.spare;
      few = h.few;
      classes = length-set kept.groups class (rest_from g sg group items) ∙ h.classes;
      at = λ i below.
          group_set kept.groups class i (rest_from g sg group items) (rest g sg (peeked_of (Tx (socket_at_class c pair i)) m)) inside
          (λ (e : i ≡ class).
          ap (λ (j : ℕ). rest g sg (peeked_of (Tx (socket_at_class c pair j)) m)) e
          ∙ ap (λ (xs : List Item). rest g sg xs) (part_of-push_same peeked_step (Tx s) [] l t (is_ring-self (Tx s)))
          ∙ rest_from-append g sg [] (peeked_of (Tx s) l) items
          ∙ ap (λ (xs : List Item). rest_from g sg xs items) (sym is))
          (λ (e : i ≡ class → ⊥).
          h.groups i below
          ∙ ap (λ (xs : List Item). rest g sg xs)
          (sym (part_of-push_other peeked_step (Tx (socket_at_class c pair i)) [] l t (ne_eqb (socket_at_class c pair i) s (sockets_apart c pair i class e)))));
      origins = origins;
      each =
          omega (
            arith,
            h.queue.each,
            length-append h.queue.origins (replicate (length more) class),
            length-replicate (length more) class,
            length-append kept.finished more,
          );
      known = All-append (λ (k : ℕ). k < classes_of c) h.queue.origins (replicate (length more) class) h.queue.known (all_one (λ (k : ℕ). k < classes_of c) (length more) class within);
      waits = λ other below.
          let v = tx_work_of c (socket_at_class c pair other) l in
          ⊎_elim
          (λ (e : other ≡ class). subst (λ (j : ℕ). of_class j origins (kept.finished ++ more) ≡ waiting c (tx_work_of c (socket_at_class c pair j) m)) (sym e) here)
          (λ (e : other ≡ class → ⊥).
          of_class-append other h.queue.origins (replicate (length more) class) kept.finished more h.queue.each
          ∙ ap (λ (ws : List (List Item)). of_class other h.queue.origins kept.finished ++ ws) (of_class-other other class more e)
          ∙ append-nil (of_class other h.queue.origins kept.finished)
          ∙ h.queue.waits other below
          ∙ ap (λ (b : Bool). waiting c (cond b (record v { peeked = v.peeked ++ items }) v)) (sym (ne_eqb (socket_at_class c pair other) s (sockets_apart c pair other class e)))
          ∙ ap (λ (w : TxWork). waiting c w) (sym (tx_work_of-push c (socket_at_class c pair other) l t)))
          (cases_eq other class);
    }
