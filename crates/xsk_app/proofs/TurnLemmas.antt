-- What the parts of an application's turn come to, by where they begin and what is kept.
use Rattle.std.proofs.Common.{◌≡◌, ◌≢◌, ℕ, zero, suc, ◌+◌, ◌-◌, ◌<◌, ◌≤◌, Bool, true, false, cond, Option, Some, None, List, [], ◌∷◌, ◌/◌, eqb, length, length-take, map, get_or, take, drop, refl, sym, ap, ◌∙◌, subst, arith}
use Rattle.std.specs.List.{prefix_len, take_while}
use Rattle.xsk_turns.proofs.Object.{Frame, Config, pool_of, batch_of, home_item}
use Rattle.xsk_turns.proofs.Calls.{Item, Fill, Comp, Rx, Mark, Reserve, Submit, Peek, Look, Granted, Full}
use Rattle.xsk_model.specs.declared.call.Mark.TheVariants.{NeedFill}
use Rattle.xsk_turns.specs.Script.{Script, ask, again, items_or_empty, on_old, granted_or_full, on_submitted, begun}
use Rattle.xsk_turns.specs.AppTurns.{AppKept, AppNoted, rx_of, lanes_of, pair_of, pending_at, back_at, with_back, is_set, wake, receive_lane, pass_on, visit_lane, visit_lanes, drains, drain_lane, group_of, home_of, give_back, complete_side, visit_side, visit_sides, look_marks, end_turn, turn_sides, app_turn}
use Rattle.xsk_turns.proofs.AppGroups.{with_back-again, with_back-same, group_some, group_front}
use Rattle.xsk_app.specs.Ways.{IsGroup, first_unset}
use Rattle.xsk_app.specs.Stands.{from_lane, after_lane, after_full_lane, drain_by, from_side, after_side, after_full_side, by_reply}

-- ---- the lanes

-- by whether it is a closed one
abbrev visit_by : Config → ℕ → ℕ → AppNoted → AppKept → Bool → Script AppKept
visit_by c app lane noted kept closed =
    cond closed (drain_lane c app lane noted kept (after_lane c app lane)) (visit_lane c app lane (pending_at kept lane) noted kept (after_lane c app lane))

lane_by : (c : Config) (app lane : ℕ) (noted : AppNoted) (kept : AppKept) → lane < lanes_of c
    → from_lane c app lane noted kept ≡ visit_by c app lane noted kept (drains c app lane kept)
lane_by c app lane noted kept h =
    let e : lanes_of c - lane ≡ suc (lanes_of c - (lane + 1)) = omega arith in
    ap (λ more. visit_lanes c app more lane noted kept (turn_sides c app)) e

pub lane_drains : (c : Config) (app lane : ℕ) (noted : AppNoted) (kept : AppKept) → lane < lanes_of c → drains c app lane kept ≡ true
    → from_lane c app lane noted kept ≡ ask kept (Peek (Rx (rx_of c app lane)) (batch_of c)) (drain_by c app lane noted kept)
lane_drains c app lane noted kept h closed = lane_by c app lane noted kept h ∙ ap (visit_by c app lane noted kept) closed

pub lane_here : (c : Config) (app lane : ℕ) (noted : AppNoted) (kept : AppKept) → lane < lanes_of c → drains c app lane kept ≡ false
    → from_lane c app lane noted kept ≡ visit_lane c app lane (pending_at kept lane) noted kept (after_lane c app lane)
lane_here c app lane noted kept h other = lane_by c app lane noted kept h ∙ ap (visit_by c app lane noted kept) other

pub lane_empty : (c : Config) (app lane : ℕ) (noted : AppNoted) (kept : AppKept) → lane < lanes_of c → drains c app lane kept ≡ false → pending_at kept lane ≡ []
    → from_lane c app lane noted kept
    ≡ ask kept (Peek (Rx (rx_of c app lane)) (batch_of c)) (items_or_empty (receive_lane c app lane kept (after_full_lane c app lane noted)) (after_lane c app lane noted kept))
lane_empty c app lane noted kept h other e =
    lane_here c app lane noted kept h other ∙ ap (λ items. visit_lane c app lane items noted kept (after_lane c app lane)) e

full_visit : (c : Config) (app lane : ℕ) (noted : AppNoted) (kept : AppKept) (items : List Item) → items ≢ []
    → visit_lane c app lane items noted kept (after_lane c app lane) ≡ pass_on c app lane kept (after_full_lane c app lane noted)
full_visit c app lane noted kept [] some = absurd (some refl)
full_visit c app lane noted kept (item ∷ items) some = refl

pub lane_full : (c : Config) (app lane : ℕ) (noted : AppNoted) (kept : AppKept) → lane < lanes_of c → drains c app lane kept ≡ false → pending_at kept lane ≢ []
    → from_lane c app lane noted kept ≡ pass_on c app lane kept (after_full_lane c app lane noted)
lane_full c app lane noted kept h other some =
    lane_here c app lane noted kept h other ∙ full_visit c app lane noted kept (pending_at kept lane) some

pub lanes_past : (c : Config) (app lane : ℕ) (noted : AppNoted) (kept : AppKept) → lanes_of c ≤ lane
    → from_lane c app lane noted kept ≡ from_side c app 0 noted kept
lanes_past c app lane noted kept h =
    let e : lanes_of c - lane ≡ 0 = omega arith in
    ap (λ more. visit_lanes c app more lane noted kept (turn_sides c app)) e

begun_visit : (c : Config) (app lane : ℕ) (noted : AppNoted) (kept : AppKept) (items : List Item)
    → begun (app_turn c app) (visit_lane c app lane items noted kept (after_lane c app lane)) ≡ visit_lane c app lane items noted kept (after_lane c app lane)
begun_visit c app lane noted kept [] = refl
begun_visit c app lane noted kept (item ∷ items) = refl

begun_by : (c : Config) (app lane : ℕ) (noted : AppNoted) (kept : AppKept) (closed : Bool) → begun (app_turn c app) (visit_by c app lane noted kept closed) ≡ visit_by c app lane noted kept closed
begun_by c app lane noted kept true = refl
begun_by c app lane noted kept false = begun_visit c app lane noted kept (pending_at kept lane)

pub begun_lane : (c : Config) (app lane : ℕ) (noted : AppNoted) (kept : AppKept) → lane < lanes_of c
    → begun (app_turn c app) (from_lane c app lane noted kept) ≡ from_lane c app lane noted kept
begun_lane c app lane noted kept h =
    let here = lane_by c app lane noted kept h in
    ap (begun (app_turn c app)) here ∙ begun_by c app lane noted kept (drains c app lane kept) ∙ sym here

-- ---- the sides

pub side_here : (c : Config) (app side : ℕ) (noted : AppNoted) (kept : AppKept) → side < 2
    → from_side c app side noted kept ≡ visit_side c app side (back_at kept side) noted kept (after_side c app side)
side_here c app side noted kept h =
    let e : 2 - side ≡ suc (2 - (side + 1)) = omega arith in
    ap (λ more. visit_sides c app more side noted kept (end_turn c app)) e

pub side_empty : (c : Config) (app side : ℕ) (noted : AppNoted) (kept : AppKept) → side < 2 → back_at kept side ≡ []
    → from_side c app side noted kept
    ≡ ask kept (Peek (Comp (pair_of c app side)) (batch_of c)) (items_or_empty (complete_side c app side kept (after_full_side c app side noted)) (after_side c app side noted kept))
side_empty c app side noted kept h e =
    side_here c app side noted kept h ∙ ap (λ frames. visit_side c app side frames noted kept (after_side c app side)) e

full_side : (c : Config) (app side : ℕ) (noted : AppNoted) (kept : AppKept) (frames : List Frame) → frames ≢ []
    → visit_side c app side frames noted kept (after_side c app side) ≡ give_back c side zero frames kept (after_full_side c app side noted)
full_side c app side noted kept [] some = absurd (some refl)
full_side c app side noted kept (frame ∷ frames) some = refl

pub side_full : (c : Config) (app side : ℕ) (noted : AppNoted) (kept : AppKept) → side < 2 → back_at kept side ≢ []
    → from_side c app side noted kept ≡ give_back c side zero (back_at kept side) kept (after_full_side c app side noted)
side_full c app side noted kept h some =
    side_here c app side noted kept h ∙ full_side c app side noted kept (back_at kept side) some

pub sides_past : (c : Config) (app side : ℕ) (noted : AppNoted) (kept : AppKept) → 2 ≤ side
    → from_side c app side noted kept ≡ end_turn c app noted kept
sides_past c app side noted kept h =
    let e : 2 - side ≡ 0 = omega arith in
    ap (λ more. visit_sides c app more side noted kept (end_turn c app)) e

begun_visit_side : (c : Config) (app side : ℕ) (noted : AppNoted) (kept : AppKept) (frames : List Frame)
    → begun (app_turn c app) (visit_side c app side frames noted kept (after_side c app side)) ≡ visit_side c app side frames noted kept (after_side c app side)
begun_visit_side c app side noted kept [] = refl
begun_visit_side c app side noted kept (frame ∷ frames) = refl

pub begun_side : (c : Config) (app side : ℕ) (noted : AppNoted) (kept : AppKept) → side < 2
    → begun (app_turn c app) (from_side c app side noted kept) ≡ from_side c app side noted kept
begun_side c app side noted kept h =
    let here = side_here c app side noted kept h in
    ap (begun (app_turn c app)) here ∙ begun_visit_side c app side noted kept (back_at kept side) ∙ sym here

-- ---- frames that go back

-- frames are submitted on FILL, and its driver woken where it needs that
abbrev pub submit_home : Config → ℕ → AppKept → List Frame → Script AppKept → Script AppKept
submit_home c home kept frames next = ask kept (Submit (Fill home) (map (home_item c.geometry) frames)) (on_submitted (wake c (NeedFill home) home kept next))

pub give_back_kept : (c : Config) (side done : ℕ) (frames : List Frame) (kept : AppKept) (xs : List Frame) (next : AppKept → Script AppKept)
    → give_back c side done frames (with_back kept side xs) next ≡ give_back c side done frames kept next
give_back_kept c side done [] kept xs next = ap next (with_back-again kept side xs [])
give_back_kept c side (suc done) (frame ∷ frames) kept xs next = give_back_kept c side done frames kept xs next
give_back_kept c side zero (frame ∷ frames) kept xs next =
    let group = group_of (pool_of c) (batch_of c) frame frames in
    let n = length group in
    let home = home_of (pool_of c) frame in
    let call = Reserve (Fill home) n in
    let old = with_back kept side xs in
    let same = with_back-again kept side xs in
    ap (λ (k : AppKept). ask k call (granted_or_full (submit_home c home (with_back old side (drop n (frame ∷ frames))) group (give_back c side (n - 1) frames old next)) (next k))) (same (frame ∷ frames))
    ∙ ap (λ (k : AppKept). ask (with_back kept side (frame ∷ frames)) call (granted_or_full (submit_home c home k group (give_back c side (n - 1) frames old next)) (next (with_back kept side (frame ∷ frames))))) (same (drop n (frame ∷ frames)))
    ∙ ap (λ (s : Script AppKept). ask (with_back kept side (frame ∷ frames)) call (granted_or_full (submit_home c home (with_back kept side (drop n (frame ∷ frames))) group s) (next (with_back kept side (frame ∷ frames)))))
    (give_back_kept c side (n - 1) frames kept xs next)

give_back_later : (c : Config) (side done : ℕ) (frames : List Frame) (kept : AppKept) (next : AppKept → Script AppKept)
    → give_back c side done frames kept next ≡ give_back c side zero (drop done frames) kept next
give_back_later c side zero frames kept next = refl
give_back_later c side (suc done) [] kept next = refl
give_back_later c side (suc done) (frame ∷ frames) kept next = give_back_later c side done frames kept next

pub group_first : (pool batch : ℕ) (back : List Frame) (first : Frame) (number count : ℕ) → 0 < length back → first ≡ get_or back 0 first → number ≡ first.number
    → count ≡ length (take batch (take_while (λ (f : Frame). eqb (home_of pool f) (number / pool)) back)) → IsGroup pool batch back (number / pool) count
group_first pool batch [] first number count some is named counted = absurd (omega arith)
group_first pool batch (frame ∷ frames) first number count some is named counted =
    let home : number / pool ≡ home_of pool frame = ap (λ (n : ℕ). n / pool) (named ∙ ap (λ (f : Frame). f.number) is) in
    (home, counted ∙ ap (λ (h : ℕ). length (take batch (take_while (λ (f : Frame). eqb (home_of pool f) h) (frame ∷ frames)))) home)

pub group_bounds : (pool batch : ℕ) (back : List Frame) (home count : ℕ) → IsGroup pool batch back home count → (count ≤ batch) × (count ≤ length back)
group_bounds pool batch [] home count h = absurd h
group_bounds pool batch (frame ∷ frames) home count h =
    let k = prefix_len (λ (f : Frame). eqb (home_of pool f) (home_of pool frame)) (frame ∷ frames) in
    let all = take k (frame ∷ frames) in
    (omega (arith, h.1, length-take batch all), omega (arith, h.1, length-take batch all, length-take k (frame ∷ frames)))

pub give_back_some : (c : Config) (side : ℕ) (back : List Frame) (kept : AppKept) (next : AppKept → Script AppKept) (home count : ℕ)
    → IsGroup (pool_of c) (batch_of c) back home count
    → give_back c side zero back kept next ≡ ask (with_back kept side back) (Reserve (Fill home) count) (by_reply (give_back c side zero back kept next))
give_back_some c side [] kept next home count h = absurd h
give_back_some c side (frame ∷ frames) kept next home count h =
    let rest = by_reply (give_back c side zero (frame ∷ frames) kept next) in
    ap (λ (d : ℕ). ask (with_back kept side (frame ∷ frames)) (Reserve (Fill d) (length (group_of (pool_of c) (batch_of c) frame frames))) rest) (sym h.0)
    ∙ ap (λ (n : ℕ). ask (with_back kept side (frame ∷ frames)) (Reserve (Fill home) n) rest) (sym h.1)

pub give_back_granted : (c : Config) (side : ℕ) (back : List Frame) (kept : AppKept) (next : AppKept → Script AppKept) (home count : ℕ)
    → IsGroup (pool_of c) (batch_of c) back home count → 1 ≤ batch_of c
    → by_reply (give_back c side zero back kept next) Granted
    ≡ submit_home c home (with_back kept side (drop count back)) (take count back) (give_back c side zero (drop count back) (with_back kept side (drop count back)) next)
give_back_granted c side [] kept next home count h some = absurd h
give_back_granted c side (frame ∷ frames) kept next home count h some =
    let group = group_of (pool_of c) (batch_of c) frame frames in
    let n = length group in
    let first : 1 ≤ n = group_some (pool_of c) (batch_of c) frame frames some in
    let size : suc (n - 1) ≡ count = omega (arith, h.1) in
    let left = with_back kept side (drop count (frame ∷ frames)) in
    let rest : drop (n - 1) frames ≡ drop count (frame ∷ frames) = ap (λ (k : ℕ). drop k (frame ∷ frames)) size in
    let items : group ≡ take count (frame ∷ frames) = sym (group_front (pool_of c) (batch_of c) frame frames) ∙ ap (λ (k : ℕ). take k (frame ∷ frames)) (sym h.1) in
    let later : give_back c side (n - 1) frames kept next ≡ give_back c side zero (drop count (frame ∷ frames)) (with_back kept side (drop count (frame ∷ frames))) next =
    give_back_later c side (n - 1) frames kept next
    ∙ ap (λ (fs : List Frame). give_back c side zero fs kept next) rest
    ∙ sym (give_back_kept c side zero (drop count (frame ∷ frames)) kept (drop count (frame ∷ frames)) next) in
    ap (λ (k : ℕ). submit_home c (home_of (pool_of c) frame) (with_back kept side (drop k (frame ∷ frames))) group (give_back c side (n - 1) frames kept next)) (sym h.1)
    ∙ ap (λ (d : ℕ). submit_home c d left group (give_back c side (n - 1) frames kept next)) (sym h.0)
    ∙ ap (λ (g : List Frame). submit_home c home left g (give_back c side (n - 1) frames kept next)) items
    ∙ ap (λ (s : Script AppKept). submit_home c home left (take count (frame ∷ frames)) s) later

full_back : (c : Config) (side : ℕ) (back : List Frame) (kept : AppKept) (next : AppKept → Script AppKept) (free : ℕ) → back ≢ []
    → by_reply (give_back c side zero back kept next) (Full free) ≡ next (with_back kept side back)
full_back c side [] kept next free some = absurd (some refl)
full_back c side (frame ∷ frames) kept next free some = refl

pub give_back_full : (c : Config) (side : ℕ) (kept : AppKept) (next : AppKept → Script AppKept) (free : ℕ) → back_at kept side ≢ []
    → by_reply (give_back c side zero (back_at kept side) kept next) (Full free) ≡ next kept
give_back_full c side kept next free some = full_back c side (back_at kept side) kept next free some ∙ ap next (with_back-same kept side)

pub none_back : (c : Config) (side : ℕ) (back : List Frame) (kept : AppKept) (next : AppKept → Script AppKept) → back ≡ []
    → give_back c side zero back kept next ≡ next (with_back kept side back)
none_back c side [] kept next e = refl
none_back c side (frame ∷ frames) kept next e = absurd (cc)

pub give_back_none : (c : Config) (side : ℕ) (kept : AppKept) (next : AppKept → Script AppKept) → back_at kept side ≡ []
    → give_back c side zero (back_at kept side) kept next ≡ next kept
give_back_none c side kept next e = none_back c side (back_at kept side) kept next e ∙ ap next (with_back-same kept side)

-- ---- the looks

-- what is asked by a test, where it is asked so for each outcome
pub by_test : (asks : Option ℕ → Script AppKept) (b : Bool) (x y : Script AppKept) (p q : Option ℕ) → x ≡ asks p → y ≡ asks q → cond b x y ≡ asks (cond b p q)
by_test asks true x y p q h k = h
by_test asks false x y p q h k = k

module _ (c : Config) (app : ℕ) (flags : AppKept → List Bool) (mark : ℕ → Mark) (with_flag : AppKept → ℕ → ℕ → AppKept) where
  abbrev asks_mark : AppKept → Option ℕ → Script AppKept
  asks_mark kept None = again kept
  asks_mark kept (Some side) = ask kept (Look (mark side)) (on_old (λ number. look_marks flags mark with_flag (2 - (side + 1)) (side + 1) (with_flag kept side number)))

  asks_first : (more side : ℕ) (kept : AppKept) → more + side ≡ 2 → look_marks flags mark with_flag more side kept ≡ asks_mark kept (first_unset (flags kept) more side)
  asks_first zero side kept h = refl
  asks_first (suc more) side kept h =
      let e : more ≡ 2 - (side + 1) = omega arith in
      by_test (asks_mark kept) (is_set (flags kept) side) _ _ (first_unset (flags kept) more (side + 1)) (Some side) (asks_first more (side + 1) kept (omega arith))
      (ap (λ (m : ℕ). ask kept (Look (mark side)) (on_old (λ number. look_marks flags mark with_flag m (side + 1) (with_flag kept side number)))) e)

  -- the next mark that isn't set is looked at, or a new turn begins
  pub looks_at : (side : ℕ) (kept : AppKept) (at : ℕ) (m : Mark) → side ≤ 2 → first_unset (flags kept) (2 - side) side ≡ Some at → m ≡ mark at
      → ask kept (Look m) (on_old (λ number. look_marks flags mark with_flag (2 - (at + 1)) (at + 1) (with_flag kept at number))) ≡ begun (app_turn c app) (look_marks flags mark with_flag (2 - side) side kept)
  looks_at side kept at m h e is =
      ap (λ (x : Mark). ask kept (Look x) (on_old (λ number. look_marks flags mark with_flag (2 - (at + 1)) (at + 1) (with_flag kept at number)))) is
      ∙ ap (begun (app_turn c app)) (sym (asks_first (2 - side) side kept (omega arith) ∙ ap (asks_mark kept) e))

  pub looks_no_more : (side : ℕ) (kept : AppKept) → side ≤ 2 → first_unset (flags kept) (2 - side) side ≡ None
      → begun (app_turn c app) (again kept) ≡ begun (app_turn c app) (look_marks flags mark with_flag (2 - side) side kept)
  looks_no_more side kept h e = ap (begun (app_turn c app)) (sym (asks_first (2 - side) side kept (omega arith) ∙ ap (asks_mark kept) e))

pub group_here : (pool batch : ℕ) (back : List Frame) (home count : ℕ) → IsGroup pool batch back home count → back ≢ []
group_here pool batch [] home count h = λ e. h
group_here pool batch (frame ∷ frames) home count h = λ e. cc

pub group_moved : (pool batch pool' batch' : ℕ) (back back' : List Frame) (home count : ℕ) → IsGroup pool batch back home count
    → pool ≡ pool' → batch ≡ batch' → back ≡ back' → IsGroup pool' batch' back' home count
group_moved pool batch pool' batch' back back' home count h e f g =
    subst (λ p. IsGroup p batch' back' home count) e (subst (λ b. IsGroup pool b back' home count) f (subst (λ xs. IsGroup pool batch xs home count) g h))
