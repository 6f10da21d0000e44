-- What the parts of a closing come to: when it is due, the cells that are lowered, and what is counted and drained before and
-- behind it.
use Rattle.std.proofs.Common.{◌≡◌, ℕ, zero, suc, ◌+◌, ◌-◌, ◌*◌, ◌/◌, ◌%◌, ◌<◌, ◌≤◌, Bool, true, false, cond, ◌&&◌, ◌||◌, not, eqb, eq-eqb, ne_eqb, Option, Some, None, List, [], ◌∷◌, ◌++◌, length, slice_get, slice_index, set, take, refl, sym, ap, subst, ◌∙◌, arith, append_assoc}
use Rattle.std.proofs.lemmas.Option.{get_or_from_slice_get, slice_get-get_or}
use Rattle.std.specs.Prelude.{IfSome}
use Rattle.xsk_umem.specs.Frame.{Frame}
use Rattle.xsk_umem.specs.declared.batch.XdpDesc.{XdpDesc}
use Rattle.xsk_model.specs.Config.{IsClosable}
use Rattle.xsk_turns.proofs.AppShut.{shut_mine}
use Rattle.xsk_turns.proofs.Object.{Config, IsConfig, classes_of, map_of, port_of}
use Rattle.xsk_turns.proofs.Calls.{Item, Rx, Cell, Swap, Act}
use Rattle.xsk_turns.specs.Script.{Script, ask, again, on_old, begun}
use Rattle.xsk_turns.specs.Turns.{frame_in, frames_in}
use Rattle.xsk_turns.specs.AppTurns.{AppKept, pair_of, rx_of, tx_of, lanes_of, pending_at, is_none, is_set, Shut, shut_by, shut_of, lane_from, lane_to, is_cut, may_close, noted_first, lower_cells, tell_closing, close_first, visit_lanes, turn_lanes, app_turn, turn_sides}
use Rattle.xsk_app.specs.Ways.{socket_in, first_cell}
use Rattle.xsk_app.specs.Stands.{GoesOn, from_lane, side_by, shut_with, lower_from, is_due, counted}
use Rattle.xsk_app.specs.declared.machine.Machine.{Machine}
use Rattle.xsk_app.proofs.TurnLemmas.{by_test, begun_lane}
use Rattle.xsk_app.proofs.Taking.{take_again, take_same}

-- ---- the socket that it closes

-- the socket with its side
abbrev sided : ℕ → Bool → Shut
sided s first = record { socket = s; side = cond first 0 1 }

shut_side : (c : Config) (a s t : ℕ) (first second : Bool) → eqb (s / classes_of c) (pair_of c a 0) ≡ first → socket_in (cond first (Some (sided s true)) (cond second (Some (sided s false)) None)) ≡ Some t
    → cond first (Some (sided s true)) (cond second (Some (sided s false)) None) ≡ Some (shut_with c a t)
shut_side c a s t true second f e =
    let same : s ≡ t = cc in
    subst (λ (n : ℕ). Some (sided s true) ≡ Some (shut_with c a n)) same (ap (λ (b : Bool). Some (sided s b)) (sym f))
shut_side c a s t false true f e =
    let same : s ≡ t = cc in
    subst (λ (n : ℕ). Some (sided s false) ≡ Some (shut_with c a n)) same (ap (λ (b : Bool). Some (sided s b)) (sym f))
shut_side c a s t false false f e = absurd (cc)

pub shut_known : (c : Config) (a t : ℕ) → socket_in (shut_of c a) ≡ Some t → shut_of c a ≡ Some (shut_with c a t)
shut_known c a t e = by c.closing e
  where
    by : (o : Option ℕ) → socket_in (shut_by c a o) ≡ Some t → shut_by c a o ≡ Some (shut_with c a t)
    by None e = absurd (cc)
    by (Some s) e = shut_side c a s t (eqb (s / classes_of c) (pair_of c a 0)) (eqb (s / classes_of c) (pair_of c a 1)) refl e

pub shut_none : (o : Option Shut) → socket_in o ≡ None → o ≡ None
shut_none None e = refl
shut_none (Some shut) e = absurd (cc)

-- it is one that there is
pub shut_there : (c : Config) (a t : ℕ) → IsConfig c → socket_in (shut_of c a) ≡ Some t → t < length c.sockets
shut_there c a t is e =
    let closing : c.closing ≡ Some t = (shut_mine c a (shut_with c a t) (shut_known c a t e)).closing in
    (subst (λ o. IfSome o (IsClosable c.sockets)) closing is.closing).0

-- the pair of its side
pub side_first : (c : Config) (a s pair : ℕ) → pair ≡ pair_of c a 0 → s / classes_of c ≡ pair_of c a 0 → pair ≡ pair_of c a (side_by c a s)
side_first c a s pair is here = is ∙ sym (ap (λ (b : Bool). pair_of c a (cond b 0 1)) (eq-eqb (s / classes_of c) (pair_of c a 0) here))

pub side_second : (c : Config) (a s pair : ℕ) → pair ≡ pair_of c a 1 → (s / classes_of c ≡ pair_of c a 0 → ⊥) → pair ≡ pair_of c a (side_by c a s)
side_second c a s pair is other = is ∙ sym (ap (λ (b : Bool). pair_of c a (cond b 0 1)) (ne_eqb (s / classes_of c) (pair_of c a 0) other))

-- ---- when it is closed

due_and : (a b x : Bool) → ((a && b) && x) ≡ (a && b && x)
due_and true b x = refl
due_and false b x = refl

both_ways : (x y : Bool) → (x && y) ≡ (y && x)
both_ways true true = refl
both_ways true false = refl
both_ways false true = refl
both_ways false false = refl

-- no item is pending on both lanes, whichever side the socket is on
idle_lanes : (c : Config) (kept : AppKept) (s : ℕ) (first : Bool) → (is_none (pending_at kept (s % classes_of c)) && is_none (pending_at kept (classes_of c + s % classes_of c))) ≡ (is_none (pending_at kept (lane_from c (sided s first))) && is_none (pending_at kept (lane_to c (sided s first))))
idle_lanes c kept s first =
    let class : ℕ = s % classes_of c in
    let zero_of : class ≡ 0 * classes_of c + class = omega arith in
    let one_of : classes_of c + class ≡ 1 * classes_of c + class = omega arith in
    by first zero_of one_of
  where
    at : ℕ → Bool
    at n = is_none (pending_at kept n)

    by : (b : Bool) → s % classes_of c ≡ 0 * classes_of c + s % classes_of c → classes_of c + s % classes_of c ≡ 1 * classes_of c + s % classes_of c
        → (at (s % classes_of c) && at (classes_of c + s % classes_of c)) ≡ (at (lane_from c (sided s b)) && at (lane_to c (sided s b)))
    by true e f = ap (λ (n : ℕ). at n && at (classes_of c + s % classes_of c)) e ∙ ap (λ (n : ℕ). at (0 * classes_of c + s % classes_of c) && at n) f
    by false e f =
        both_ways (at (s % classes_of c)) (at (classes_of c + s % classes_of c))
        ∙ ap (λ (n : ℕ). at n && at (s % classes_of c)) f ∙ ap (λ (n : ℕ). at (1 * classes_of c + s % classes_of c) && at n) e

due_may : (c : Config) (a s : ℕ) (kept : AppKept)
    → (is_due kept && (is_none (pending_at kept (s % classes_of c)) && is_none (pending_at kept (classes_of c + s % classes_of c)))) ≡ may_close c (shut_with c a s) kept
due_may c a s kept =
    let shut = shut_with c a s in
    ap (λ b. is_due kept && b) (idle_lanes c kept s (eqb (s / classes_of c) (pair_of c a 0)))
    ∙ due_and (not kept.begun && eqb kept.awaited 0) (not (is_set kept.cut 0) && not (is_set kept.cut 1)) (is_none (pending_at kept (lane_from c shut)) && is_none (pending_at kept (lane_to c shut)))

pub may_by : (c : Config) (a s class : ℕ) (kept : AppKept) (idle : Bool) → is_due kept ≡ true → class ≡ s % classes_of c
    → idle ≡ (is_none (pending_at kept class) && is_none (pending_at kept (classes_of c + class))) → idle ≡ may_close c (shut_with c a s) kept
may_by c a s class kept idle due is e =
    e ∙ ap (λ (n : ℕ). is_none (pending_at kept n) && is_none (pending_at kept (classes_of c + n))) is
    ∙ ap (λ b. b && (is_none (pending_at kept (s % classes_of c)) && is_none (pending_at kept (classes_of c + s % classes_of c)))) (sym due) ∙ due_may c a s kept

pub may_not : (c : Config) (a s : ℕ) (kept : AppKept) → is_due kept ≡ false → false ≡ may_close c (shut_with c a s) kept
may_not c a s kept due =
    ap (λ b. b && (is_none (pending_at kept (s % classes_of c)) && is_none (pending_at kept (classes_of c + s % classes_of c)))) (sym due) ∙ due_may c a s kept

-- ---- a turn that begins

module _ (c : Config) (a : ℕ) where
  begun_lower : (s more index : ℕ) (kept : AppKept) (next : Script AppKept) → begun (app_turn c a) next ≡ next → begun (app_turn c a) (lower_cells c s more index kept next) ≡ lower_cells c s more index kept next
  begun_lower s zero index kept next e = e
  begun_lower s (suc more) index kept next e = by (eqb (slice_index (map_of c (port_of c (Rx s))) index) (suc s)) (begun_lower s more (index + 1) kept next e)
    where
      here : Script AppKept
      here = ask kept (Swap (Cell (port_of c (Rx s)) index) 0) (on_old (λ old. lower_cells c s more (index + 1) kept next))

      by : (b : Bool) → begun (app_turn c a) (lower_cells c s more (index + 1) kept next) ≡ lower_cells c s more (index + 1) kept next
          → begun (app_turn c a) (cond b here (lower_cells c s more (index + 1) kept next)) ≡ cond b here (lower_cells c s more (index + 1) kept next)
      by true h = refl
      by false h = h

  -- the lanes of a turn are those from the first one on
  lanes_first : (kept : AppKept) → turn_lanes c a kept ≡ from_lane c a 0 (noted_first kept) kept
  lanes_first kept =
      let all : lanes_of c ≡ lanes_of c - 0 = omega arith in
      ap (λ more. visit_lanes c a more 0 (noted_first kept) kept (turn_sides c a)) all

  begun_lanes : (kept : AppKept) → 0 < lanes_of c → begun (app_turn c a) (turn_lanes c a kept) ≡ turn_lanes c a kept
  begun_lanes kept some = ap (begun (app_turn c a)) (lanes_first kept) ∙ begun_lane c a 0 (noted_first kept) kept some ∙ sym (lanes_first kept)

  pub lanes_begin : (kept : AppKept) → 0 < lanes_of c → from_lane c a 0 (noted_first kept) kept ≡ begun (app_turn c a) (turn_lanes c a kept)
  lanes_begin kept some = sym (lanes_first kept) ∙ sym (begun_lanes kept some)

  -- the socket is closed, or the lanes come at once
  pub closes_now : (s : ℕ) (kept : AppKept) → may_close c (shut_with c a s) kept ≡ true → lower_from c a s 0 kept ≡ close_first c a (Some (shut_with c a s)) kept (turn_lanes c a)
  closes_now s kept due =
      let cells = map_of c (port_of c (Rx s)) in
      let next = tell_closing c a (shut_with c a s) kept (turn_lanes c a) in
      let all : length cells - 0 ≡ length cells = omega arith in
      ap (λ (more : ℕ). lower_cells c s more 0 kept next) all ∙ ap (λ b. cond b (lower_cells c s (length cells) 0 kept next) (turn_lanes c a kept)) (sym due)

  pub closes_later : (s : ℕ) (kept : AppKept) → may_close c (shut_with c a s) kept ≡ false → turn_lanes c a kept ≡ close_first c a (Some (shut_with c a s)) kept (turn_lanes c a)
  closes_later s kept due =
      let cells = map_of c (port_of c (Rx s)) in
      ap (λ b. cond b (lower_cells c s (length cells) 0 kept (tell_closing c a (shut_with c a s) kept (turn_lanes c a))) (turn_lanes c a kept)) (sym due)

  begun_close : (o : Option Shut) (kept : AppKept) → 0 < lanes_of c → begun (app_turn c a) (close_first c a o kept (turn_lanes c a)) ≡ close_first c a o kept (turn_lanes c a)
  begun_close None kept some = begun_lanes kept some
  begun_close (Some shut) kept some = by (may_close c shut kept)
    where
      closes : Script AppKept
      closes = lower_cells c shut.socket (length (map_of c (port_of c (Rx shut.socket)))) 0 kept (tell_closing c a shut kept (turn_lanes c a))

      by : (b : Bool) → begun (app_turn c a) (cond b closes (turn_lanes c a kept)) ≡ cond b closes (turn_lanes c a kept)
      by true = begun_lower shut.socket (length (map_of c (port_of c (Rx shut.socket)))) 0 kept (tell_closing c a shut kept (turn_lanes c a)) refl
      by false = begun_lanes kept some

  -- a turn in which something may be sent
  begins : (now : Machine) (act : Act) (o : Option Shut) (kept : AppKept) → 0 < lanes_of c → kept.tx_done ≡ false → shut_of c a ≡ o
      → GoesOn c a now act (close_first c a o kept (turn_lanes c a)) → GoesOn c a now act (again kept)
  begins now act o kept some off is goes =
      goes ∙ begun_close o kept some ∙ ap (λ p. close_first c a p kept (turn_lanes c a)) (sym is)
      ∙ ap (λ b. cond b (turn_sides c a (noted_first kept) kept) (close_first c a (shut_of c a) kept (turn_lanes c a))) (sym off)

  pub begins_closing : (now : Machine) (act : Act) (s : ℕ) (kept : AppKept) → 0 < lanes_of c → kept.tx_done ≡ false → socket_in (shut_of c a) ≡ Some s
      → GoesOn c a now act (close_first c a (Some (shut_with c a s)) kept (turn_lanes c a)) → GoesOn c a now act (again kept)
  begins_closing now act s kept some off is goes = begins now act (Some (shut_with c a s)) kept some off (shut_known c a s is) goes

  pub begins_lanes : (now : Machine) (act : Act) (kept : AppKept) → 0 < lanes_of c → kept.tx_done ≡ false → socket_in (shut_of c a) ≡ None
      → GoesOn c a now act (turn_lanes c a kept) → GoesOn c a now act (again kept)
  begins_lanes now act kept some off is goes = begins now act None kept some off (shut_none (shut_of c a) is) goes

  -- ---- the cells

  abbrev asks_cell : ℕ → AppKept → Option ℕ → Script AppKept
  asks_cell s kept None = tell_closing c a (shut_with c a s) kept (turn_lanes c a)
  asks_cell s kept (Some at) = ask kept (Swap (Cell (port_of c (Rx s)) at) 0) (on_old (λ old. lower_from c a s (at + 1) kept))

  asks_first : (s more index : ℕ) (kept : AppKept) → more ≡ length (map_of c (port_of c (Rx s))) - index
      → lower_cells c s more index kept (tell_closing c a (shut_with c a s) kept (turn_lanes c a)) ≡ asks_cell s kept (first_cell (map_of c (port_of c (Rx s))) s more index)
  asks_first s zero index kept e = refl
  asks_first s (suc more) index kept e =
      let cells = map_of c (port_of c (Rx s)) in
      let next = tell_closing c a (shut_with c a s) kept (turn_lanes c a) in
      let later : more ≡ length cells - (index + 1) = omega (arith, e) in
      by_test (asks_cell s kept) (eqb (slice_index cells index) (suc s)) _ _ (Some index) (first_cell cells s more (index + 1))
      (ap (λ (m : ℕ). ask kept (Swap (Cell (port_of c (Rx s)) index) 0) (on_old (λ old. lower_cells c s m (index + 1) kept next))) later) (asks_first s more (index + 1) kept later)

  begun_asks : (s : ℕ) (kept : AppKept) (o : Option ℕ) → begun (app_turn c a) (asks_cell s kept o) ≡ asks_cell s kept o
  begun_asks s kept None = refl
  begun_asks s kept (Some at) = refl

  first_found : (s index port : ℕ) (o : Option ℕ) → port ≡ port_of c (Rx s) → o ≡ first_cell (map_of c port) s (length (map_of c port) - index) index
      → first_cell (map_of c (port_of c (Rx s))) s (length (map_of c (port_of c (Rx s))) - index) index ≡ o
  first_found s index port o is e = sym (e ∙ ap (λ p. first_cell (map_of c p) s (length (map_of c p) - index) index) is)

  lowers : (s index : ℕ) (kept : AppKept) (o : Option ℕ) → first_cell (map_of c (port_of c (Rx s))) s (length (map_of c (port_of c (Rx s))) - index) index ≡ o
      → asks_cell s kept o ≡ begun (app_turn c a) (lower_from c a s index kept)
  lowers s index kept o e =
      sym (begun_asks s kept o)
      ∙ ap (begun (app_turn c a)) (ap (asks_cell s kept) (sym e) ∙ sym (asks_first s (length (map_of c (port_of c (Rx s))) - index) index kept refl))

  -- the next cell that held the socket is lowered, or it is told that the socket is closed
  pub lowers_some : (s index port at : ℕ) (kept : AppKept) (o : Option ℕ) → port ≡ port_of c (Rx s) → o ≡ first_cell (map_of c port) s (length (map_of c port) - index) index → o ≡ Some at
      → ask kept (Swap (Cell port at) 0) (on_old (λ old. lower_from c a s (at + 1) kept)) ≡ begun (app_turn c a) (lower_from c a s index kept)
  lowers_some s index port at kept o is e some =
      ap (λ (p : ℕ). ask kept (Swap (Cell p at) 0) (on_old (λ old. lower_from c a s (at + 1) kept))) is ∙ lowers s index kept (Some at) (first_found s index port o is e ∙ some)

  pub lowers_none : (s index port : ℕ) (kept : AppKept) (o : Option ℕ) → port ≡ port_of c (Rx s) → o ≡ first_cell (map_of c port) s (length (map_of c port) - index) index → o ≡ None
      → tell_closing c a (shut_with c a s) kept (turn_lanes c a) ≡ begun (app_turn c a) (lower_from c a s index kept)
  lowers_none s index port kept o is e none = lowers s index kept None (first_found s index port o is e ∙ none)

-- ---- the search of a cell

cell_test : (cells : List ℕ) (s cell : ℕ) (b : Bool) → cell < length cells → eqb (slice_index cells cell) (suc s) ≡ b
    → first_cell cells s (length cells - cell) cell ≡ cond b (Some cell) (first_cell cells s (length cells - (cell + 1)) (cell + 1))
cell_test cells s cell b h e =
    let more : length cells - cell ≡ suc (length cells - (cell + 1)) = omega arith in
    ap (λ (m : ℕ). first_cell cells s m cell) more ∙ ap (λ d. cond d (Some cell) (first_cell cells s (length cells - (cell + 1)) (cell + 1))) e

pub cell_here : (cells : List ℕ) (s cell : ℕ) → cell < length cells → slice_get cells cell ≡ Some (s + 1) → first_cell cells s (length cells - cell) cell ≡ Some cell
cell_here cells s cell h got =
    let here : slice_index cells cell ≡ suc s = get_or_from_slice_get cells cell (s + 1) 0 got ∙ omega arith in
    cell_test cells s cell true h (eq-eqb (slice_index cells cell) (suc s) here)

pub cell_past : (cells : List ℕ) (s cell : ℕ) → cell < length cells → (slice_get cells cell ≡ Some (s + 1) → ⊥)
    → first_cell cells s (length cells - cell) cell ≡ first_cell cells s (length cells - (cell + 1)) (cell + 1)
cell_past cells s cell h other =
    let one : suc s ≡ s + 1 = omega arith in
    cell_test cells s cell false h (ne_eqb (slice_index cells cell) (suc s) (λ (e : slice_index cells cell ≡ suc s). other (slice_get-get_or cells cell 0 h ∙ ap (λ (n : ℕ). Some n) (e ∙ one))))

pub cell_last : (cells : List ℕ) (s cell : ℕ) → length cells ≤ cell → first_cell cells s (length cells - cell) cell ≡ None
cell_last cells s cell h =
    let none : length cells - cell ≡ 0 = omega arith in
    ap (λ (m : ℕ). first_cell cells s m cell) none

-- ---- what is counted

abbrev counts : Config → ℕ → AppKept → Bool → Bool → AppKept
counts c lane kept rx tx = record kept {
  awaited = cond rx (kept.awaited - length (pending_at kept lane)) kept.awaited;
  cut = cond (rx || tx) (set kept.cut (lane / classes_of c) (is_cut (pending_at kept lane))) kept.cut;
}

counted_by : (c : Config) (a lane s : ℕ) (kept : AppKept) (rx tx : Bool) → c.closing ≡ Some s → eqb (rx_of c a lane) s ≡ rx → eqb (tx_of c a lane) s ≡ tx → counts c lane kept rx tx ≡ counted c a lane kept
counted_by c a lane s kept rx tx closing e f =
    ap (λ b. counts c lane kept b tx) (sym e) ∙ ap (λ b. counts c lane kept (eqb (rx_of c a lane) s) b) (sym f)
    ∙ ap (λ (o : Option ℕ). counted (record c { closing = o }) a lane kept) (sym closing)

pub counted_rx : (c : Config) (a lane s awaited side : ℕ) (cut : Bool) (kept : AppKept) → c.closing ≡ Some s → rx_of c a lane ≡ s
    → awaited ≡ kept.awaited - length (pending_at kept lane) → side ≡ lane / classes_of c → cut ≡ is_cut (pending_at kept lane)
    → (let k : AppKept = record kept { awaited = awaited; cut = set kept.cut side cut } in k ≡ counted c a lane kept)
counted_rx c a lane s awaited side cut kept closing rx is at e =
    ap (λ (n : ℕ). (let k : AppKept = record kept { awaited = n; cut = set kept.cut side cut } in k)) is
    ∙ ap (λ (n : ℕ). (let k : AppKept = record kept { awaited = kept.awaited - length (pending_at kept lane); cut = set kept.cut n cut } in k)) at
    ∙ ap (λ (b : Bool). (let k : AppKept = record kept { awaited = kept.awaited - length (pending_at kept lane); cut = set kept.cut (lane / classes_of c) b } in k)) e
    ∙ counted_by c a lane s kept true (eqb (tx_of c a lane) s) closing (eq-eqb (rx_of c a lane) s rx) refl

pub counted_tx : (c : Config) (a lane s side : ℕ) (cut : Bool) (kept : AppKept) → c.closing ≡ Some s → (rx_of c a lane ≡ s → ⊥) → tx_of c a lane ≡ s
    → side ≡ lane / classes_of c → cut ≡ is_cut (pending_at kept lane)
    → (let k : AppKept = record kept { cut = set kept.cut side cut } in k ≡ counted c a lane kept)
counted_tx c a lane s side cut kept closing rx tx at e =
    ap (λ (n : ℕ). (let k : AppKept = record kept { cut = set kept.cut n cut } in k)) at
    ∙ ap (λ (b : Bool). (let k : AppKept = record kept { cut = set kept.cut (lane / classes_of c) b } in k)) e
    ∙ counted_by c a lane s kept false true closing (ne_eqb (rx_of c a lane) s rx) (eq-eqb (tx_of c a lane) s tx)

pub counted_other : (c : Config) (a lane s : ℕ) (kept : AppKept) → c.closing ≡ Some s → (rx_of c a lane ≡ s → ⊥) → (tx_of c a lane ≡ s → ⊥) → kept ≡ counted c a lane kept
counted_other c a lane s kept closing rx tx = counted_by c a lane s kept false false closing (ne_eqb (rx_of c a lane) s rx) (ne_eqb (tx_of c a lane) s tx)

pub counted_none : (c : Config) (a lane : ℕ) (kept : AppKept) → c.closing ≡ None → kept ≡ counted c a lane kept
counted_none c a lane kept closing = ap (λ (o : Option ℕ). counted (record c { closing = o }) a lane kept) (sym closing)

-- ---- the last item

cut_at : (items : List Item) (i : ℕ) (desc : XdpDesc) → length items ≡ suc i → IfSome (slice_get items i) (λ (item : Item). desc ≡ item.desc) → not (eqb desc.options 0) ≡ is_cut items
cut_at [] i desc h is = absurd (omega arith)
cut_at (item ∷ []) zero desc h is = ap (λ (d : XdpDesc). not (eqb d.options 0)) is
cut_at (item ∷ []) (suc i) desc h is = absurd (omega arith)
cut_at (item ∷ next ∷ items) zero desc h is = absurd (omega arith)
cut_at (item ∷ next ∷ items) (suc i) desc h is = cut_at (next ∷ items) i desc (omega (arith, h)) is

pub cut_last : (items : List Item) (desc : XdpDesc) → 0 < length items → IfSome (slice_get items (length items - 1)) (λ (item : Item). desc ≡ item.desc) → not (eqb desc.options 0) ≡ is_cut items
cut_last items desc h is = cut_at items (length items - 1) desc (omega (arith, h)) is

pub cut_none : (items : List Item) → length items ≡ 0 → false ≡ is_cut items
cut_none [] h = refl
cut_none (item ∷ items) h = absurd (omega arith)

-- ---- frames that are kept behind others

pub behind_more : (m : ℕ) (back back' all : List Frame) (items items' : List Item) (item : Item) → take m (back ++ frames_in items) ≡ all → items ≡ item ∷ items'
    → back' ≡ take m (back ++ frame_in item.frame) → take m (back' ++ frames_in items') ≡ all
behind_more m back back' all items items' item e is kept =
    let rest = frames_in items' in
    ap (λ xs. take m (xs ++ rest)) kept ∙ take_again m (back ++ frame_in item.frame) rest
    ∙ ap (take m) (append_assoc back (frame_in item.frame) rest) ∙ ap (λ xs. take m (back ++ frames_in xs)) (sym is) ∙ e

pub behind_all : (m : ℕ) (back all : List Frame) (items : List Item) → take m (back ++ frames_in items) ≡ all → items ≡ [] → length back ≤ m → back ≡ all
behind_all m back all items e none few = take_same m back (frames_in items) few (ap frames_in none) ∙ e
