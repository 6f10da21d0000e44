-- Each call that a driver gives is legal, and what it keeps goes on.
use Rattle.std.proofs.Common.{◌≡◌, ℕ, zero, suc, ◌+◌, ◌*◌, ◌<◌, ◌≤◌, ◌⊎◌, Bool, true, false, cond, inl, inr, List, [], ◌∷◌, ◌++◌, length, get_or, take, drop, map, flat_map, All, refl, sym, ap, subst, ◌∙◌, ⊎_elim, arith, append-nil, length-append, length-take-le, eq-eqb, ne_eqb, IsTrue}
use Rattle.std.specs.Int.{div_ceil}
use Rattle.std.proofs.lemmas.Bool.{cases_eq}
use Rattle.std.proofs.lemmas.List.{length-map, length-drop, nil_from_length}
use Rattle.std.proofs.lemmas.List.Elements.{All-nil, All-cons, All-head, All-tail, All-take, All-drop, All-weaker}
use Rattle.xsk_turns.proofs.Object.{payload_of, Frame, Config, classes_of, times, numbers, IsLayout, IsWhole, room_of, is_from_fill, completed_by, waiting, tx_work_of, IsFed, IsLegal, AreReceived, sockets_of}
use Rattle.xsk_turns.proofs.Calls.{Item, Told, Comp, Rx, Submit}
use Rattle.xsk_model.proofs.Completions.{waiting_whole, one_completion}
use Rattle.xsk_model.proofs.Counting.{times-append}
use Rattle.xsk_model.proofs.Distinct.{elsewhere}
use Rattle.xsk_model.specs.Steering.{packet_limit}
use Rattle.xsk_turns.specs.Turns.{Kept, laid_out, returned}
use Rattle.xsk_turns.specs.Owned.{IsHere}
use Rattle.xsk_turns.specs.Owned.{IsSeat, of_class, socket_at_class, frame_numbers, IsSpare, Owned}
use Rattle.xsk_turns.proofs.Completing.{whole_some, waiting_lawful, numbers-returned, all_returned, are_completed, completes}
use Rattle.xsk_turns.proofs.Layouts.{layout, items_on, pieces_some, one_piece, length-laid_out, numbers-laid_out}
use Rattle.xsk_turns.proofs.Owned.{HasKept, times-kept, sockets_apart}
use Rattle.xsk_turns.proofs.Places.{class_here, class_among, rx_ring, caller_known}
use Rattle.xsk_turns.proofs.Rooms.{IsOwnFrame}

-- ---- the frames of a packet that is laid out

pub times-front : (n k : ℕ) (frames : List Frame) → times n (frame_numbers (take k frames)) + times n (frame_numbers (drop k frames)) ≡ times n (frame_numbers frames)
times-front n zero frames = omega arith
times-front n (suc k) [] = refl
times-front n (suc k) (frame ∷ frames) = omega (arith, times-front n k frames)

spare_from : (c : Config) (l : List Told) (n : ℕ) (frames : List Frame) → All (IsSpare c l) frames → 1 ≤ times n (frame_numbers frames) → IsTrue (is_from_fill n l)
spare_from c l n [] all some = absurd (omega arith)
spare_from c l n (frame ∷ frames) all some = ⊎_elim
    (λ (e : frame.number ≡ n). ap (λ (k : ℕ). is_from_fill k l) (sym e) ∙ (All-head (IsSpare c l) frame frames all).from_fill)
    (λ (e : frame.number ≡ n → ⊥). spare_from c l n frames (All-tail (IsSpare c l) frame frames all) (omega (arith, some, elsewhere frame.number n e)))
    (cases_eq frame.number n)

-- ---- the packets that wait

pub split_first : (packets : List (List Item)) → 1 ≤ length packets → packets ≡ get_or packets 0 [] ∷ drop 1 packets
split_first [] some = absurd (omega arith)
split_first (packet ∷ packets) some = refl

-- the first packet is of its class, and stands before the others of that
of_class-first : (ks : List ℕ) (xs : List (List Item)) → length ks ≡ length xs → 1 ≤ length xs
    → of_class (get_or ks 0 0) ks xs ≡ get_or xs 0 [] ∷ of_class (get_or ks 0 0) (drop 1 ks) (drop 1 xs)
of_class-first [] xs e some = absurd (omega (arith, e, some))
of_class-first (k ∷ ks) [] e some = absurd (omega arith)
of_class-first (k ∷ ks) (x ∷ xs) e some = ap (λ (b : Bool). cond b (x ∷ of_class k ks xs) (of_class k ks xs)) (eq-eqb k k refl)

of_class-later : (class : ℕ) (ks : List ℕ) (xs : List (List Item)) → length ks ≡ length xs → (class ≡ get_or ks 0 0 → ⊥) → of_class class ks xs ≡ of_class class (drop 1 ks) (drop 1 xs)
of_class-later class [] xs e apart = refl
of_class-later class (k ∷ ks) [] e apart = absurd (omega arith)
of_class-later class (k ∷ ks) (x ∷ xs) e apart = ap (λ (b : Bool). cond b (x ∷ of_class class ks xs) (of_class class ks xs)) (ne_eqb k class (λ (same : k ≡ class). apart (sym same)))

module _ (c : Config) (pair : ℕ) (kept : Kept) (l : List Told) (h : HasKept c pair kept l) (some : 1 ≤ length kept.finished) where
  abbrev pub first_class : ℕ
  first_class = get_or h.origins 0 0

  pub first_known : first_class < classes_of c
  first_known = h.known 0 0 (omega (arith, h.each, some))

  abbrev pub behind_first : List (List Item)
  behind_first = of_class first_class (drop 1 h.origins) (drop 1 kept.finished)

  pub first_waits : get_or kept.finished 0 [] ∷ behind_first ≡ waiting c (tx_work_of c (socket_at_class c pair first_class) l)
  first_waits = sym (of_class-first h.origins kept.finished h.each some) ∙ h.waits first_class first_known

  pub first_whole : IsWhole c.geometry c.sg (get_or kept.finished 0 [])
  first_whole = waiting_whole c (tx_work_of c (socket_at_class c pair first_class) l) (get_or kept.finished 0 []) behind_first (sym first_waits)

-- ---- a packet on RX

-- the frames that it needs
abbrev pieces : Config → List ℕ → ℕ
pieces c packet = div_ceil (length packet) (payload_of c.geometry)

module _ (c : Config) (pair socket : ℕ) (seat : IsSeat c pair) (kept : Kept) (l : List Told) (h : HasKept c pair kept l) (packet : List ℕ) (long : 14 ≤ length packet) (short : length packet ≤ packet_limit c) (few : pieces c packet ≤ 18) (enough : pieces c packet ≤ length kept.spare) (here : IsHere c pair socket) where
  abbrev items : List Item
  items = laid_out c.geometry packet (take (pieces c packet) kept.spare)

  used_spare : All (IsSpare c l) (take (pieces c packet) kept.spare)
  used_spare = All-take (IsSpare c l) (pieces c packet) kept.spare h.spares

  used_own : All (IsOwnFrame c.geometry) (take (pieces c packet) kept.spare)
  used_own =
      All-weaker (IsSpare c l) (IsOwnFrame c.geometry) (λ frame s. record { number = s.number; bytes = s.bytes }) (take (pieces c packet) kept.spare) used_spare

  used_count : length (take (pieces c packet) kept.spare) ≡ pieces c packet
  used_count = length-take-le (pieces c packet) kept.spare enough

  items_count : length items ≡ pieces c packet
  items_count = length-laid_out c.geometry packet (take (pieces c packet) kept.spare) ∙ used_count

  some_bytes : 1 ≤ length packet
  some_bytes = omega (arith, long)

  single : (b : Bool) → c.sg ≡ b → IsTrue c.sg ⊎ (length items ≡ 1)
  single true e = inl e
  single false e =
      let few : length packet ≤ 1 * payload_of c.geometry =
      subst (λ (b : Bool). length packet ≤ cond b 18 1 * payload_of c.geometry) e short in
      inr (items_count ∙ one_piece c.geometry seat.geometry packet some_bytes few)

  is_layout : IsLayout c.geometry c.sg packet items
  is_layout = layout c.geometry seat.geometry c.sg packet (take (pieces c packet) kept.spare) some_bytes used_count used_own (single c.sg refl)

  received : AreReceived c l items
  received = record {
    layouts = items ∷ [];
    joined = sym (append-nil items);
    laid_out = All-cons (λ (layout : List Item). (packet : List ℕ) × IsLayout c.geometry c.sg packet layout) items [] (packet, is_layout) (All-nil (λ (layout : List Item). (packet : List ℕ) × IsLayout c.geometry c.sg packet layout));
    from_fill = λ m some.
        spare_from c l m (take (pieces c packet) kept.spare) used_spare
        (omega (arith, some, ap (times m) (numbers-laid_out c.geometry packet (take (pieces c packet) kept.spare))));
  }

  items_times : (m : ℕ) → times m (numbers items) + times m (frame_numbers (drop (pieces c packet) kept.spare)) ≡ times m (frame_numbers kept.spare)
  items_times m =
      omega (
        arith,
        ap (times m) (numbers-laid_out c.geometry packet (take (pieces c packet) kept.spare)),
        times-front m (pieces c packet) kept.spare,
      )

  pub legal_rx : pieces c packet ≤ room_of (Rx socket) l → IsFed c l (Rx socket) → IsLegal c l pair (Submit (Rx socket) items)
  legal_rx room feeds =
      let ring = rx_ring c pair seat socket here in
      record {
        caller = caller_known c pair seat;
        known = ring.0;
        role = ring.1;
        counted = (
          omega (arith, items_count, pieces_some c.geometry seat.geometry packet some_bytes),
          omega (arith, items_count, few),
          omega (arith, items_count, room),
        );
        frames = λ m. omega (arith, items_times m, h.frames m);
        items = items_on c.geometry seat.geometry socket packet (take (pieces c packet) kept.spare) used_own;
        packets = received;
        feeds = feeds;
      }

  pub owned_rx : Owned c pair (record kept { spare = drop (pieces c packet) kept.spare }) (Submit (Rx socket) items) l
  owned_rx =
      let after : Kept = record kept { spare = drop (pieces c packet) kept.spare } in
      record {
        own = h.own;
        frames = λ m. omega (arith, times-kept m after, items_times m, h.frames m);
        spare = All-drop (IsSpare c l) (pieces c packet) kept.spare h.spares;
        few = omega (arith, h.few, length-drop (pieces c packet) kept.spare);
        classes = h.classes;
        groups = h.at;
        queue = record { origins = h.origins; each = h.each; known = h.known; waits = h.waits };
      }

-- ---- a packet on COMPLETION

-- what two sockets of a list give is part of what all give
part_in : {X : Type 0} (f : ℕ → List X) (s : ℕ) (xs : List ℕ) → 1 ≤ times s xs → length (f s) ≤ length (flat_map f xs)
part_in f s [] some = absurd (omega arith)
part_in f s (y ∷ xs) some = ⊎_elim
    (λ (same : y ≡ s). omega (arith, length-append (f y) (flat_map f xs), ap (λ (k : ℕ). length (f k)) same))
    (λ (other : y ≡ s → ⊥).
    omega (arith, length-append (f y) (flat_map f xs), part_in f s xs (omega (arith, some, ap {B = ℕ} (λ (b : Bool). cond b 1 0) (ne_eqb y s other)))))
    (cases_eq y s)

parts_in : {X : Type 0} (f : ℕ → List X) (s t : ℕ) (xs : List ℕ) → (s ≡ t → ⊥) → 1 ≤ times s xs → 1 ≤ times t xs → length (f s) + length (f t) ≤ length (flat_map f xs)
parts_in f s t [] apart some more = absurd (omega arith)
parts_in f s t (y ∷ xs) apart some more =
    let off = λ (k : ℕ) (e : y ≡ k → ⊥). ap {B = ℕ} (λ (b : Bool). cond b 1 0) (ne_eqb y k e) in
    ⊎_elim
    (λ (same : y ≡ s).
    omega (arith, length-append (f y) (flat_map f xs), ap (λ (k : ℕ). length (f k)) same, part_in f t xs (omega (arith, more, off t (λ (e : y ≡ t). apart (sym same ∙ e))))))
    (λ (first : y ≡ s → ⊥). ⊎_elim
    (λ (same : y ≡ t). omega (arith, length-append (f y) (flat_map f xs), ap (λ (k : ℕ). length (f k)) same, part_in f s xs (omega (arith, some, off s first))))
    (λ (second : y ≡ t → ⊥).
    omega (arith, length-append (f y) (flat_map f xs), parts_in f s t xs apart (omega (arith, some, off s first)) (omega (arith, more, off t second))))
    (cases_eq y t))
    (cases_eq y s)

module _ (c : Config) (pair : ℕ) (seat : IsSeat c pair) (kept : Kept) (l : List Told) (h : HasKept c pair kept l) (some : 1 ≤ length kept.finished) where
  first_times : (m : ℕ) → times m (numbers (map returned (get_or kept.finished 0 []))) + times m (flat_map numbers (drop 1 kept.finished)) ≡ times m (flat_map numbers kept.finished)
  first_times m =
      omega (
        arith,
        ap (λ (ps : List (List Item)). times m (flat_map numbers ps)) (split_first kept.finished some),
        times-append m (numbers (get_or kept.finished 0 [])) (flat_map numbers (drop 1 kept.finished)),
        ap (times m) (numbers-returned (get_or kept.finished 0 [])),
      )

  pub legal_comp : length (get_or kept.finished 0 []) ≤ room_of (Comp pair) l → IsLegal c l pair (Submit (Comp pair) (map returned (get_or kept.finished 0 [])))
  legal_comp room =
      let packet = get_or kept.finished 0 [] in
      let class = first_class c pair kept l h some in
      let s = socket_at_class c pair class in
      let w = first_whole c pair kept l h some in
      let later = behind_first c pair kept l h some in
      let waits = first_waits c pair kept l h some in
      let count : length (map returned packet) ≡ length packet = length-map packet returned in
      record {
        caller = caller_known c pair seat;
        known = seat.known;
        role = refl;
        counted = (omega (arith, count, whole_some c packet w), omega (arith, count, w.few), omega (arith, count, room));
        frames = λ m. omega (arith, first_times m, h.frames m);
        items = all_returned c.geometry s pair packet (waiting_lawful c pair s l packet later h.own waits);
        packets = are_completed c pair s l packet later seat (class_here c pair seat class (first_known c pair kept l h some)) waits;
        feeds = tt;
      }

  -- the first packet is completed on the ring of its class, and none on another
  first_done : IsLegal c l pair (Submit (Comp pair) (map returned (get_or kept.finished 0 []))) → (class : ℕ) → class < classes_of c
      → (completed_by (map returned (get_or kept.finished 0 [])) (waiting c (tx_work_of c (socket_at_class c pair class) l)) ++ []) ++ of_class class (drop 1 h.origins) (drop 1 kept.finished)
      ≡ waiting c (tx_work_of c (socket_at_class c pair class) l)
  first_done legal class within =
      let packet = get_or kept.finished 0 [] in
      let items = map returned packet in
      let first = first_class c pair kept l h some in
      let later = of_class class (drop 1 h.origins) (drop 1 kept.finished) in
      let f = λ (t : ℕ). completed_by items (waiting c (tx_work_of c t l)) in
      let s = socket_at_class c pair first in
      let here : f s ≡ packet ∷ [] = completes packet (behind_first c pair kept l h some) (waiting c (tx_work_of c s l)) (first_waits c pair kept l h some) in
      ⊎_elim
      (λ (same : class ≡ first).
      subst (λ (j : ℕ). (f (socket_at_class c pair j) ++ []) ++ of_class j (drop 1 h.origins) (drop 1 kept.finished) ≡ waiting c (tx_work_of c (socket_at_class c pair j) l)) (sym same)
      (ap (λ (xs : List (List Item)). (xs ++ []) ++ behind_first c pair kept l h some) here ∙ first_waits c pair kept l h some))
      (λ (other : class ≡ first → ⊥).
      let t = socket_at_class c pair class in
      let one = one_completion c pair l items h.own legal in
      let parts = parts_in f s t (sockets_of c pair) (λ (e : s ≡ t). sockets_apart c pair class first other (sym e)) (class_among c pair seat first (first_known c pair kept l h some)) (class_among c pair seat class within) in
      let none : f t ≡ [] = nil_from_length (f t) (omega (arith, one, parts, ap length here)) in
      ap (λ (xs : List (List Item)). (xs ++ []) ++ later) none ∙ sym (of_class-later class h.origins kept.finished h.each other) ∙ h.waits class within)
      (cases_eq class first)

  pub owned_comp : IsLegal c l pair (Submit (Comp pair) (map returned (get_or kept.finished 0 [])))
      → Owned c pair (record kept { finished = drop 1 kept.finished }) (Submit (Comp pair) (map returned (get_or kept.finished 0 []))) l
  owned_comp legal =
      let after : Kept = record kept { finished = drop 1 kept.finished } in
      record {
        own = h.own;
        frames = λ m. omega (arith, times-kept m after, first_times m, h.frames m);
        spare = h.spares;
        few = h.few;
        classes = h.classes;
        groups = h.at;
        queue = record {
          origins = drop 1 h.origins;
          each = omega (arith, h.each, length-drop 1 h.origins, length-drop 1 kept.finished);
          known = All-drop (λ (k : ℕ). k < classes_of c) 1 h.origins h.known;
          waits = first_done legal;
        };
      }
