-- Each mark keeps a number of its kind.
use Rattle.std.proofs.Common.{◌≡◌, ℕ, ◌+◌, ◌-◌, ◌*◌, ◌<◌, ◌≤◌, inl, List, [], ◌++◌, length, get_or, set, take, replicate, flat_map, refl, sym, ap, subst, ◌∙◌, ⊎_elim, arith, length-append, length-take, get_or-set_same, get_or-set_other}
use Rattle.std.proofs.lemmas.Bool.{cases_eq}
use Rattle.std.proofs.lemmas.List.{length-replicate, get_or-replicate, get_or_append_left, get_or-append_right, get_or_past}
use Rattle.std.proofs.lemmas.List.Concat.{get_or-flat_map}
use Rattle.std.proofs.lemmas.List.Elements.{All-take}
use Rattle.xsk_umem.specs.Frame.{Frame}
use Rattle.xsk_model.specs.Config.{Config, IsConfig, IsMap, map_of}
use Rattle.xsk_model.specs.Marks.{HasMark, IsMarkNumber, flags_of, cells_end_of, mark_place, mark_places_of}
use Rattle.xsk_model.specs.Object.{State, mark_at, after}
use Rattle.xsk_model.specs.Entry.{Told}
use Rattle.xsk_model.specs.Legal.{IsLegal}
use Rattle.xsk_model.specs.Opening.{opening_cells, opening}
use Rattle.xsk_model.specs.Homes.{first_mark}
use Rattle.xsk_model.specs.declared.call.Mark.{Mark}
use Rattle.xsk_model.specs.declared.call.Mark.TheVariants.{NeedFill, NeedTx, Kick, RxDone, Gone, TxDone, Cell, Closing, Acked, Bounced}
use Rattle.xsk_model.specs.declared.call.Call.{Call}
use Rattle.xsk_model.specs.declared.call.Call.TheVariants.{Reserve, Submit, Peek, Release, Swap, Look}
use Rattle.xsk_model.proofs.MarkPlaces.{cell_below, mark_place_below, mark_place_injective}
use Rattle.xsk_model.proofs.Opened.{get_or-blanks, length-opening_cells, length-cells}

-- ---- one entry

pub mark_sound : (c : Config) (s : State) (mine : List Told) (who : ℕ) (call : Call) (m : Mark) → IsConfig c → HasMark c m → length s.marks ≡ mark_places_of c
    → IsLegal c mine who call → IsMarkNumber c m (mark_at c s m) → IsMarkNumber c m (mark_at c (after c s who call) m)
mark_sound c s mine who (Reserve r n) m config has len legal h = h
mark_sound c s mine who (Submit r items) m config has len legal h = h
mark_sound c s mine who (Peek r n) m config has len legal h = h
mark_sound c s mine who (Release r n) m config has len legal h = h
mark_sound c s mine who (Look q) m config has len legal h = h
mark_sound c s mine who (Swap q value) m config has len legal h = ⊎_elim
    (λ (e : mark_place c m ≡ mark_place c q).
    let one : m ≡ q = mark_place_injective c m q config has legal.known e in
    let within : mark_place c m < length s.marks = omega (arith, len, mark_place_below c m config has) in
    let now : get_or (set s.marks (mark_place c q) value) (mark_place c m) 0 ≡ value =
    ap (λ k. get_or (set s.marks k value) (mark_place c m) 0) (sym e) ∙ get_or-set_same s.marks (mark_place c m) value 0 within in
    subst (IsMarkNumber c m) (sym now) (subst (λ p. IsMarkNumber c p value) (sym one) legal.counted))
    (λ (apart : mark_place c m ≡ mark_place c q → ⊥).
    subst (IsMarkNumber c m) (sym (get_or-set_other s.marks (mark_place c q) (mark_place c m) value 0 apart)) h)
    (cases_eq (mark_place c m) (mark_place c q))

-- ---- the opening

-- the marks before the cells, and the cells
blanks : Config → List ℕ
blanks c = replicate (flags_of c) 0

cells : Config → List ℕ
cells c = flat_map opening_cells c.cells

-- those behind the cells are 0
before_end : (c : Config) (frames : List Frame) (m : Mark) → mark_at c (opening c frames) m ≡ get_or (blanks c ++ cells c) (mark_place c m) 0
unfolding blanks cells
before_end c frames m = get_or-blanks (blanks c ++ cells c) (2 * length c.sockets + length c.pairs) (mark_place c m) 0

length-before : (c : Config) → IsConfig c → length (blanks c ++ cells c) ≡ cells_end_of c
unfolding blanks cells
length-before c config =
    omega (arith, length-append (blanks c) (cells c), length-replicate {A = ℕ} (flags_of c) 0, length-cells (length c.sockets) c.cells config.cells, config.maps)

pub no_flag : (c : Config) (frames : List Frame) (m : Mark) → mark_place c m < flags_of c → mark_at c (opening c frames) m ≡ 0
unfolding blanks cells
no_flag c frames m h =
    let len : length (blanks c) ≡ flags_of c = length-replicate (flags_of c) 0 in
    before_end c frames m ∙ get_or_append_left (blanks c) (cells c) 0 (mark_place c m) (omega (arith, len, h))
    ∙ get_or-replicate {A = ℕ} (flags_of c) (mark_place c m) 0 0 h

pub no_last : (c : Config) (frames : List Frame) (m : Mark) → IsConfig c → cells_end_of c ≤ mark_place c m → mark_at c (opening c frames) m ≡ 0
no_last c frames m config h =
    before_end c frames m ∙ get_or_past (blanks c ++ cells c) (mark_place c m) 0 (omega (arith, length-before c config, h))

pub first_cell : (c : Config) (frames : List Frame) (port index : ℕ) → IsConfig c → HasMark c (Cell port index)
    → mark_at c (opening c frames) (Cell port index) ≡ get_or (map_of c port) index 0
unfolding blanks cells
first_cell c frames port index config h =
    let len : length (blanks c) ≡ flags_of c = length-replicate (flags_of c) 0 in
    let ports : port < length c.cells = omega (arith, h.0, config.maps) in
    let small : index < 64 = cell_below c port index config h in
    let own_map : IsMap (length c.sockets) (map_of c port) = config.cells port [] ports in
    let right : get_or (blanks c ++ cells c) (mark_place c (Cell port index)) 0 ≡ get_or (cells c) (mark_place c (Cell port index) - flags_of c) 0 =
    get_or-append_right (blanks c) (cells c) (flags_of c) (mark_place c (Cell port index)) 0 len (omega arith) in
    let before : length (flat_map opening_cells (take port c.cells)) ≡ 64 * port =
    omega (arith, length-cells (length c.sockets) (take port c.cells) (All-take (IsMap (length c.sockets)) port c.cells config.cells), length-take port c.cells, ports) in
    let place : mark_place c (Cell port index) - flags_of c ≡ length (flat_map opening_cells (take port c.cells)) + index = omega (arith, before) in
    let own : length (opening_cells (get_or c.cells port [])) ≡ 64 = length-opening_cells (map_of c port) own_map.few in
    let piece : get_or (cells c) (length (flat_map opening_cells (take port c.cells)) + index) 0 ≡ get_or (opening_cells (get_or c.cells port [])) index 0 =
    get_or-flat_map opening_cells c.cells port index [] 0 ports (omega (arith, own, small)) in
    before_end c frames (Cell port index) ∙ right ∙ ap (λ k. get_or (cells c) k 0) place ∙ piece ∙ get_or-blanks (map_of c port) (64 - length (map_of c port)) index 0

pub opening_mark_is : (c : Config) (frames : List Frame) (m : Mark) → IsConfig c → HasMark c m → mark_at c (opening c frames) m ≡ first_mark c m
opening_mark_is c frames (NeedFill d) config h = no_flag c frames (NeedFill d) (omega (arith, h))
opening_mark_is c frames (NeedTx s) config h = no_flag c frames (NeedTx s) (omega (arith, h.0))
opening_mark_is c frames (Kick d) config h = no_flag c frames (Kick d) (omega (arith, h))
opening_mark_is c frames (RxDone d) config h = no_flag c frames (RxDone d) (omega (arith, h))
opening_mark_is c frames (Gone d) config h = no_flag c frames (Gone d) (omega (arith, h))
opening_mark_is c frames (TxDone a) config h = no_flag c frames (TxDone a) (omega (arith, h))
opening_mark_is c frames (Cell port index) config h = first_cell c frames port index config h
opening_mark_is c frames (Closing s) config h = no_last c frames (Closing s) config (omega arith)
opening_mark_is c frames (Acked s) config h = no_last c frames (Acked s) config (omega arith)
opening_mark_is c frames (Bounced d) config h = no_last c frames (Bounced d) config (omega arith)

pub first_number : (c : Config) (m : Mark) → IsMarkNumber c m (first_mark c m)
first_number c (NeedFill d) = omega arith
first_number c (NeedTx s) = omega arith
first_number c (Kick d) = omega arith
first_number c (RxDone d) = omega arith
first_number c (Gone d) = omega arith
first_number c (TxDone a) = omega arith
first_number c (Cell port index) = inl refl
first_number c (Closing s) = omega arith
first_number c (Acked s) = omega arith
first_number c (Bounced d) = omega arith

pub mark_opening : (c : Config) (frames : List Frame) (m : Mark) → IsConfig c → HasMark c m → IsMarkNumber c m (mark_at c (opening c frames) m)
mark_opening c frames m config h = subst (IsMarkNumber c m) (sym (opening_mark_is c frames m config h)) (first_number c m)
