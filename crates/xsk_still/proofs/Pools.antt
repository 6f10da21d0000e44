-- On FILL of a pair there are only frames of its pool, so its driver receives into these alone; and how many there are.
use Rattle.std.proofs.Common.{◌≡◌, ℕ, zero, suc, ◌+◌, ◌-◌, ◌*◌, ◌/◌, ◌<◌, ◌≤◌, Bool, true, false, cond, eqb, Option, Some, None, All, List, [], ◌∷◌, ◌++◌, length, map, get_or, refl, sym, ap, ◌∙◌, subst, ⊎_elim, arith, eq-eqb, append_assoc}
use Rattle.std.specs.List.{range_with_len}
use Rattle.std.proofs.lemmas.Nat.{div-add-mod'}
use Rattle.std.proofs.lemmas.Bool.{cases_eq, cases_lt}
use Rattle.std.proofs.lemmas.Bool.Decides.{nat_tests}
use Rattle.std.proofs.lemmas.List.{length-map}
use Rattle.std.proofs.lemmas.List.Elements.{All-nil, All-cons, All-head, All-tail, All-append, All-map}
use Rattle.xsk_umem.specs.Frame.{Frame}
use Rattle.xsk_turns.proofs.Object.{Config, pool_of, home_item, caller_of, times, numbers, number_of, taken, is_on, peeked_of, peeked_step, submitted_of, IsLegal, OwnGoesOn}
use Rattle.xsk_turns.proofs.Calls.{Item, Told, Fill}
use Rattle.xsk_model.specs.Entry.{Entry, own, all_told}
use Rattle.xsk_model.specs.Object.{RingState, ring_at}
use Rattle.xsk_model.specs.Opening.{opening}
use Rattle.xsk_model.specs.History.{state_after}
use Rattle.xsk_model.specs.Homes.{pool_at}
use Rattle.xsk_model.specs.Own.{part_of}
use Rattle.xsk_model.specs.Numbers.{without_one}
use Rattle.xsk_model.specs.declared.call.Ring.{Ring}
use Rattle.xsk_model.proofs.Completions.{times-numbers-append}
use Rattle.xsk_model.proofs.Counting.{times-without_one, length-by_times, its_own}
use Rattle.xsk_model.proofs.Folds.{part_of-append}
use Rattle.xsk_model.proofs.FrameTheorems.{opening_is}
use Rattle.xsk_model.proofs.Legality.{from_fill_last}
use Rattle.xsk_model.proofs.Theorems.{in_order, items_by_own, own_entries}
use Rattle.xsk_model.proofs.Distinct.{elsewhere}
use Rattle.xsk_model.proofs.Stays.{in_pool}
use Rattle.xsk_turns.specs.AppTurns.{home_of}
use Rattle.xsk_turns.specs.Owned.{IsSeat, IsSpare, frame_numbers}
use Rattle.xsk_turns.specs.Wakes.{app_for}
use Rattle.xsk_turns.proofs.AppOwned.{numbers-home}
use Rattle.xsk_turns.proofs.Owned.{times-at}
use Rattle.xsk_laws.specs.Woken.{AreWorkerRuns}
use Rattle.xsk_turns.specs.Workers.{Setting}
use Rattle.xsk_turns.specs.Mangling.{plain}
use Rattle.xsk_turns.specs.AppTurns.{IsAppRun, IsAppRunBy}
use Rattle.xsk_turns.proofs.Places.{app_known}
use Rattle.xsk_still.specs.Own.{IsHomeItem}
use Rattle.xsk_still.specs.Laws.{OnlyHomes}
use Rattle.xsk_still.proofs.Setting.{fills_homes}

-- ---- numbers of one pool

-- numbers less by as much
below_all : (b x : ℕ) (xs : List ℕ) → ((n : ℕ) → 1 ≤ times n (x ∷ xs) → b ≤ n) → (n : ℕ) → 1 ≤ times n xs → b ≤ n
below_all b x xs low n h = low n (omega (arith, h))

pub here_one : (x : ℕ) (xs : List ℕ) → 1 ≤ times x (x ∷ xs)
here_one x xs = omega (arith, its_own x x refl)

less_here : (b m x : ℕ) → b ≤ x → ◌≡◌ {A = ℕ} (cond (eqb (x - b) m) 1 0) (cond (eqb x (m + b)) 1 0)
less_here b m x h = grind (arith, nat_tests)

times-less : (b m : ℕ) (xs : List ℕ) → ((n : ℕ) → 1 ≤ times n xs → b ≤ n) → times m (map (λ n. n - b) xs) ≡ times (m + b) xs
times-less b m [] low = refl
times-less b m (x ∷ xs) low = omega (arith, less_here b m x (low x (here_one x xs)), times-less b m xs (below_all b x xs low))

-- distinct numbers of a pool are no more than its frames
pub few_of_pool : (pool d : ℕ) (xs : List ℕ) → 1 ≤ pool → ((n : ℕ) → times n xs ≤ 1) → ((n : ℕ) → 1 ≤ times n xs → n / pool ≡ d) → length xs ≤ pool
few_of_pool pool d xs some once homes =
    let b = d * pool in
    let low : (n : ℕ) → 1 ≤ times n xs → b ≤ n = λ n h. let e = div-add-mod' n pool in let same : n / pool * pool ≡ b = ap (λ k. k * pool) (homes n h) in omega (arith, e, same) in
    let high : (n : ℕ) → 1 ≤ times n xs → n < b + pool = λ n h. let e = div-add-mod' n pool in let same : n / pool * pool ≡ b = ap (λ k. k * pool) (homes n h) in omega (arith, e, same, some) in
    let few = length-by_times pool (map (λ n. n - b) xs)
    (λ m. omega (arith, times-less b m xs low, once (m + b)))
    (λ m past. ⊎_elim
    (λ (some : 0 < times (m + b) xs). absurd (omega (arith, high (m + b) (omega (arith, some)), past)))
    (λ (none : times (m + b) xs ≤ 0). omega (arith, times-less b m xs low, none))
    (cases_lt 0 (times (m + b) xs))) in
    omega (arith, few, length-map xs (λ (n : ℕ). n - b))

length-without : (m : ℕ) (xs : List ℕ) → 1 ≤ times m xs → length xs ≡ suc (length (without_one m xs))
length-without m [] some = absurd (omega (arith, some))
length-without m (x ∷ xs) some = by (length-without m xs) (eqb x m) refl
  where
    by : (1 ≤ times m xs → length xs ≡ suc (length (without_one m xs))) → (b : Bool) → eqb x m ≡ b → length (x ∷ xs) ≡ suc (length (cond b xs (x ∷ without_one m xs)))
    by later true e = refl
    by later false e =
        let off : ◌≡◌ {A = ℕ} (cond (eqb x m) 1 0) 0 = ap {B = ℕ} (λ b. cond b 1 0) e in
        ap suc (later (omega (arith, some, off)))

-- a list that has each of so many numbers is as long
pub many_of_pool : (b k : ℕ) (xs : List ℕ) → ((n : ℕ) → b ≤ n → n < b + k → 1 ≤ times n xs) → k ≤ length xs
many_of_pool b zero xs all = omega arith
many_of_pool b (suc k) xs all =
    let last = b + k in
    let fewer = many_of_pool b k (without_one last xs)
    (λ n low high. omega (arith, times-without_one n last xs, all n low (omega (arith, high)), not_yet' n last (omega (arith, high)))) in
    omega (arith, fewer, length-without last xs (all last (omega arith) (omega arith)))
  where
    not_yet' : (n m : ℕ) → n < m → ◌≡◌ {A = ℕ} (cond (eqb m n) 1 0) 0
    not_yet' n m h = grind (arith, nat_tests)

-- ---- items of one pool

home_here : (c : Config) (d n : ℕ) (o : Option Frame) (frame : Frame) → o ≡ Some frame → home_of (pool_of c) frame ≡ d → 1 ≤ times n (number_of o) → n / pool_of c ≡ d
home_here c d n None frame e home some = absurd (omega (arith, some))
home_here c d n (Some other) frame e home some =
    let same : other ≡ frame = cc in
    ⊎_elim
    (λ (is : other.number ≡ n). ap (λ k. k / pool_of c) (sym is) ∙ ap (λ (f : Frame). home_of (pool_of c) f) same ∙ home)
    (λ (apart : other.number ≡ n → ⊥). absurd (omega (arith, some, elsewhere other.number n apart)))
    (cases_eq other.number n)

pub home_numbers : (c : Config) (d n : ℕ) (items : List Item) → All (IsHomeItem c d) items → 1 ≤ times n (numbers items) → n / pool_of c ≡ d
home_numbers c d n [] all some = absurd (omega (arith, some))
home_numbers c d n (item ∷ items) all some =
    let first = All-head (IsHomeItem c d) item items all in
    ⊎_elim
    (λ (here : 0 < times n (number_of item.frame)). home_here c d n item.frame first.0 first.1 first.2 (omega (arith, here)))
    (λ (none : times n (number_of item.frame) ≤ 0). home_numbers c d n items (All-tail (IsHomeItem c d) item items all) (omega (arith, some, times-numbers-append n (item ∷ []) items, alone n item, none)))
    (cases_lt 0 (times n (number_of item.frame)))
  where
    alone : (n : ℕ) (item : Item) → times n (numbers (item ∷ [])) ≡ times n (number_of item.frame)
    alone n item = by item.frame
      where
        by : (o : Option Frame) → times n (number_of o ++ []) ≡ times n (number_of o)
        by None = refl
        by (Some frame) = refl

-- each has its frame's number
pub home_length : (c : Config) (d : ℕ) (items : List Item) → All (IsHomeItem c d) items → length (numbers items) ≡ length items
home_length c d [] all = refl
home_length c d (item ∷ items) all =
    let first = All-head (IsHomeItem c d) item items all in
    ap (λ (o : Option Frame). length (number_of o ++ numbers items)) first.1 ∙ ap suc (home_length c d items (All-tail (IsHomeItem c d) item items all))

all_right : {X : Type 0} (P : X → Type 0) (xs ys : List X) → All P (xs ++ ys) → All P ys
all_right P [] ys h = h
all_right P (x ∷ xs) ys h = all_right P xs ys (All-tail P x (xs ++ ys) h)

all_left : {X : Type 0} (P : X → Type 0) (xs ys : List X) → All P (xs ++ ys) → All P xs
all_left P [] ys h = All-nil P
all_left P (x ∷ xs) ys h = All-cons P x xs (All-head P x (xs ++ ys) h) (all_left P xs ys (All-tail P x (xs ++ ys) h))

-- ---- along a history

module _ (s : Setting) (frames : List Frame) (h : List Entry) (d : ℕ) (unchanged : s.manner ≡ plain) (are : AreWorkerRuns s frames h) (below : d < length s.config.pairs) where
  abbrev c : Config
  c = s.config

  abbrev a : ℕ
  a = app_for c d

  seat : IsSeat c d
  seat = record { config = are.history.opened.config; regular = are.steady.regular; geometry = are.history.opened.geometry; known = below }

  opened : All (IsHomeItem c d) (ring_at c (opening c frames) (Fill d)).out
  opened =
      let first = opening_is c frames are.history.opened in
      let pool : List Frame = pool_at c frames d in
      let ring : (ring_at c (opening c frames) (Fill d)).out ≡ map (home_item c.geometry) pool = ap (λ (r : RingState). r.out) (first.ring (Fill d) below) in
      let named : frame_numbers pool ≡ range_with_len (d * pool_of c) (pool_of c) = sym (numbers-home c.geometry pool) ∙ ap numbers (sym ring) ∙ first.pool d below in
      subst (All (IsHomeItem c d)) (sym ring)
      (All-map (IsHomeItem c d) (home_item c.geometry) pool
      (λ k (frame : Frame) within.
      let one : Frame = get_or pool k frame in
      let some = times-at pool k frame within in
      (one, refl, in_pool (pool_of c) d one.number (omega (arith, some, ap (times one.number) named)))))

  all_homes : All (IsHomeItem c d) (peeked_of (Fill d) (all_told h) ++ (ring_at c (state_after c frames h) (Fill d)).out)
  all_homes =
      let mine = items_by_own c frames h (Fill d) are.history below in
      let known = app_known c d seat in
      let run : IsAppRun c a (own (caller_of c a) h) = subst (λ m. IsAppRunBy m c a (own (caller_of c a) h)) unchanged ((are.runs (caller_of c a) (omega (arith, known))).app a refl) in
      let given = fills_homes c a d (own (caller_of c a) h) (record { config = are.history.opened.config; regular = are.steady.regular; geometry = are.history.opened.geometry; known = known }) run in
      subst (All (IsHomeItem c d)) (sym (in_order c frames h (Fill d) are.history below))
      (All-append (IsHomeItem c d) (ring_at c (opening c frames) (Fill d)).out (submitted_of (Fill d) (all_told h)) opened (subst (All (IsHomeItem c d)) (sym mine.1) given))

  out_homes : All (IsHomeItem c d) (ring_at c (state_after c frames h) (Fill d)).out
  out_homes = all_right (IsHomeItem c d) (peeked_of (Fill d) (all_told h)) _ all_homes

  peeked_homes : All (IsHomeItem c d) (peeked_of (Fill d) (own d h))
  peeked_homes = subst (All (IsHomeItem c d)) (items_by_own c frames h (Fill d) are.history below).0 (all_left (IsHomeItem c d) (peeked_of (Fill d) (all_told h)) _ all_homes)

pub only_homes : OnlyHomes
only_homes s frames h d unchanged are below = out_homes s frames h d unchanged are below

-- ---- a driver's spare frames

legal_at : (c : Config) (who : ℕ) (past before later : List Told) (t : Told) → OwnGoesOn c who past (before ++ t ∷ later) → IsLegal c (past ++ before) who t.call
legal_at c who past [] later t goes = subst (λ m. IsLegal c m who t.call) (nil_behind past) goes.0
  where
    nil_behind : (xs : List Told) → xs ≡ xs ++ []
    nil_behind [] = refl
    nil_behind (x ∷ xs) = ap (λ ys. x ∷ ys) (nil_behind xs)
legal_at c who past (u ∷ before) later t goes = subst (λ m. IsLegal c m who t.call) (append_assoc past (u ∷ []) before) (legal_at c who (past ++ u ∷ []) before later t goes.2)

-- what was peeked stays so
abbrev peeked_on : Ring → List Item → List Told → List Item
peeked_on r xs l = part_of peeked_step r xs l

grows : (n : ℕ) (r : Ring) (l : List Told) (xs : List Item) → times n (numbers xs) ≤ times n (numbers (peeked_on r xs l))
grows n r [] xs = omega arith
grows n r (t ∷ l) xs = omega (arith, one (is_on r t.call), grows n r l (cond (is_on r t.call) (xs ++ taken t.reply) xs))
  where
    one : (b : Bool) → times n (numbers xs) ≤ times n (numbers (cond b (xs ++ taken t.reply) xs))
    one true = omega (arith, times-numbers-append n xs (taken t.reply))
    one false = omega arith

taken_stays : (n : ℕ) (r : Ring) (before later : List Told) (t : Told) → is_on r t.call ≡ true → times n (numbers (taken t.reply)) ≤ times n (numbers (peeked_of r (before ++ t ∷ later)))
taken_stays n r before later t on =
    let earlier = peeked_of r before in
    let step : peeked_of r (before ++ t ∷ later) ≡ peeked_on r (earlier ++ taken t.reply) later =
    part_of-append peeked_step r [] before (t ∷ later) ∙ ap (λ b. peeked_on r (cond b (earlier ++ taken t.reply) earlier) later) on in
    omega (arith, ap (λ xs. times n (numbers xs)) step, grows n r later (earlier ++ taken t.reply), times-numbers-append n earlier (taken t.reply))

-- so each is of its pair's pool
pub spare_home : (s : Setting) (frames : List Frame) (h : List Entry) (d : ℕ) (frame : Frame) → s.manner ≡ plain → AreWorkerRuns s frames h → d < length s.config.pairs → IsSpare s.config (own d h) frame
    → frame.number / pool_of s.config ≡ d
spare_home s frames h d frame unchanged are below spare =
    let c = s.config in
    let last = from_fill_last frame.number (own d h) spare.from_fill in
    let goes = subst (OwnGoesOn c d []) last.split (own_entries c frames h d are.history) in
    let legal = subst (IsLegal c last.before d) last.peek.2 (legal_at c d [] last.before last.later last.t goes) in
    let mine : d ≡ last.peek.0 = legal.role in
    let on : is_on (Fill d) last.t.call ≡ true = ap (is_on (Fill d)) last.peek.2 ∙ eq-eqb d last.peek.0 mine in
    let some = taken_stays frame.number (Fill d) last.before last.later last.t on in
    home_numbers c d frame.number (peeked_of (Fill d) (own d h)) (peeked_homes s frames h d unchanged are below)
    (subst (λ l. 1 ≤ times frame.number (numbers (peeked_of (Fill d) l))) (sym last.split) (omega (arith, some, last.took)))
