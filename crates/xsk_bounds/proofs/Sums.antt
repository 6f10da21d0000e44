-- From what each caller's own calls come to, to how often the object changes.
use Rattle.std.proofs.Common.{◌≡◌, ℕ, zero, suc, ◌+◌, ◌*◌, ◌<◌, ◌≤◌, Bool, true, false, cond, eqb, ◌&&◌, Option, Some, None, List, [], ◌∷◌, length, All, refl, sym, ap, ◌∙◌, ⊎_elim, arith, ne_eqb}
use Rattle.std.proofs.lemmas.Bool.{cases_eq}
use Rattle.std.proofs.lemmas.List.Elements.{All-nil, All-head, All-tail, All-push}
use Rattle.xsk_umem.specs.Frame.{Frame}
use Rattle.xsk_model.specs.Config.{Config, callers_of}
use Rattle.xsk_model.specs.Marks.{apps_of}
use Rattle.xsk_model.specs.Object.{State, submitted, taken}
use Rattle.xsk_model.specs.Entry.{Told, Entry, told, own, all_told}
use Rattle.xsk_model.specs.Legal.{IsKnown}
use Rattle.xsk_model.specs.History.{IsHistory}
use Rattle.xsk_model.specs.declared.call.Mark.TheVariants.{NeedFill, NeedTx, Kick, RxDone, Gone, TxDone, Cell, Closing, Acked, Bounced}
use Rattle.xsk_model.specs.declared.call.Call.{Call}
use Rattle.xsk_model.specs.declared.call.Call.TheVariants.{Reserve, Submit, Peek, Release, Swap, Look}
use Rattle.xsk_model.proofs.Along.{Keeps, along}
use Rattle.xsk_model.proofs.CallTheorems.{callers_exist}
use Rattle.xsk_bounds.specs.Bounds.{most_changes, closing_changes}
use Rattle.xsk_turns.specs.Totals.{total}
use Rattle.xsk_bounds.specs.Totals.{sum_below, changed, swapped, swap_count, on_ring, put, took, steps_on, steps_put, steps_taken, swaps_kick, kick_swaps, number_of, cell_count, closing_count, cells_swapped, closings_told, closings_acked}
use Rattle.xsk_bounds.proofs.Totals.{total-le, total-add, sum-le, sum-add, sum-times, sum-const, sum-zero, total_own}
use Rattle.xsk_bounds.proofs.Flow.{count_on, put_on, took_on, flow}
use Rattle.xsk_bounds.proofs.Changing.{changes_by}
use Rattle.xsk_bounds.proofs.Opened.{steps_at, steps_at_place, opening_standing, opening_out, opening_steps, reserved_few}
use Rattle.xsk_bounds.proofs.Kicks.{KeepsKicks, cleared_few}

-- ---- two ways to count

known_calls : (c : Config) (frames : List Frame) (h : List Entry) → IsHistory c frames h → All (λ (e : Entry). IsKnown c e.call) h
known_calls c frames h history = along Known c frames h history keeps (All-nil (λ (e : Entry). IsKnown c e.call))
  where
    Known : State → List Entry → Type 0
    Known s past = All (λ (e : Entry). IsKnown c e.call) past

    keeps : Keeps c frames Known
    keeps s past e sound legal reply holds = All-push (λ (x : Entry). IsKnown c x.call) past e holds legal.known

steps_same : (c : Config) (call : Call) (count : ℕ) → IsKnown c call → count_on c (steps_at c) call count ≡ steps_on call count
steps_same c (Reserve r n) count known = ap (λ v. count * v) (steps_at_place c r known)
steps_same c (Submit r items) count known = ap (λ v. count * v) (steps_at_place c r known)
steps_same c (Peek r n) count known = ap (λ v. count * v) (steps_at_place c r known)
steps_same c (Release r n) count known = ap (λ v. count * v) (steps_at_place c r known)
steps_same c (Swap m value) count known = refl
steps_same c (Look m) count known = refl

total_same : (P : Entry → Type 0) (f g : Told → ℕ) (h : List Entry) → All P h → ((e : Entry) → P e → f (told e) ≡ g (told e)) → total f (all_told h) ≡ total g (all_told h)
total_same P f g [] all same = refl
total_same P f g (e ∷ h) all same = omega (arith, same e (All-head P e h all), total_same P f g h (All-tail P e h all) same)

each_put : (c : Config) (t : Told) → put_on c (λ p. 1) t ≡ put t
each_put c t = by t.call
  where
    by : (call : Call) → count_on c (λ p. 1) call (length (submitted call)) ≡ length (submitted call)
    by (Reserve r n) = omega arith
    by (Submit r items) = omega arith
    by (Peek r n) = omega arith
    by (Release r n) = omega arith
    by (Swap m value) = refl
    by (Look m) = refl

each_took : (c : Config) (t : Told) → took t ≡ took_on c (λ p. 1) t
each_took c t = by t.call (length (taken t.reply))
  where
    by : (call : Call) (count : ℕ) → on_ring call count ≡ count_on c (λ p. 1) call count
    by (Reserve r n) count = omega arith
    by (Submit r items) count = omega arith
    by (Peek r n) count = omega arith
    by (Release r n) count = omega arith
    by (Swap m value) count = refl
    by (Look m) count = refl

-- ---- parts of sums

own_few : (f : Told → ℕ) (who : ℕ) (h : List Entry) → total f (own who h) ≤ total f (all_told h)
own_few f who [] = omega arith
own_few f who (e ∷ h) = omega (arith, one (eqb e.who who), own_few f who h)
  where
    one : (b : Bool) → total f (cond b (told e ∷ own who h) (own who h)) ≤ f (told e) + total f (own who h)
    one true = omega arith
    one false = omega arith

sum_split : (m n : ℕ) (f : ℕ → ℕ) → sum_below (m + n) f ≡ sum_below m f + sum_below n (λ k. f (m + k))
sum_split m zero f = ap (λ k. sum_below k f) (let e : m + 0 ≡ m = omega arith in e) ∙ omega arith
sum_split m (suc n) f = ap (λ k. sum_below k f) (let e : m + suc n ≡ suc (m + n) = omega arith in e) ∙ omega (arith, sum_split m n f)

sum_total : (n : ℕ) (f : ℕ → Told → ℕ) (l : List Told) → sum_below n (λ d. total (f d) l) ≡ total (λ t. sum_below n (λ d. f d t)) l
sum_total n f [] = sum-zero n (λ d. 0) (λ k lt. refl)
sum_total n f (t ∷ l) = sum-add n (λ d. f d t) (λ d. total (f d) l) ∙ omega (arith, sum_total n f l)

abbrev chosen : Bool → Bool → ℕ
chosen x b = cond (x && b) 1 0

unchosen : (x : Bool) → chosen x false ≡ 0
unchosen true = refl
unchosen false = refl

chosen_few : (x : Bool) → chosen x true ≤ 1
chosen_few true = omega arith
chosen_few false = omega arith

-- one of several pairs at most is the one whose kick is set
one_pair : (n e : ℕ) (b : Bool) → sum_below n (λ d. chosen (eqb d e) b) ≤ cond b 1 0
one_pair n e false = omega (arith, sum-zero n (λ d. chosen (eqb d e) false) (λ k lt. unchosen (eqb k e)))
one_pair zero e true = omega arith
one_pair (suc n) e true = ⊎_elim
    (λ (is : n ≡ e).
    let others : sum_below n (λ d. chosen (eqb d e) true) ≡ 0 =
    sum-zero n (λ d. chosen (eqb d e) true) (λ k lt. ap (λ x. chosen x true) (ne_eqb k e (λ same. omega (arith, lt, same, is)))) in
    omega (arith, others, chosen_few (eqb n e)))
    (λ (other : n ≡ e → ⊥). omega (arith, ap (λ x. chosen x true) (ne_eqb n e other), one_pair n e true))
    (cases_eq n e)

up_few : (b : Bool) → cond b 1 0 ≤ 1
up_few true = omega arith
up_few false = omega arith

-- the Swaps that a closing has besides its kick
abbrev closing_swaps : Call → ℕ
closing_swaps call = cell_count call + closing_count call

pairs_few : (n number : ℕ) (call : Call) → sum_below n (λ d. cond (swaps_kick d number call) 1 0) + closing_swaps call ≤ swap_count call
pairs_few n number (Reserve r k) = omega (arith, sum-const n 0)
pairs_few n number (Submit r items) = omega (arith, sum-const n 0)
pairs_few n number (Peek r k) = omega (arith, sum-const n 0)
pairs_few n number (Release r k) = omega (arith, sum-const n 0)
pairs_few n number (Look m) = omega (arith, sum-const n 0)
pairs_few n number (Swap (NeedFill d) value) = omega (arith, sum-const n 0)
pairs_few n number (Swap (NeedTx s) value) = omega (arith, sum-const n 0)
pairs_few n number (Swap (Kick e) value) = omega (arith, one_pair n e (eqb value number), up_few (eqb value number))
pairs_few n number (Swap (RxDone d) value) = omega (arith, sum-const n 0)
pairs_few n number (Swap (Gone d) value) = omega (arith, sum-const n 0)
pairs_few n number (Swap (TxDone a) value) = omega (arith, sum-const n 0)
pairs_few n number (Swap (Cell port index) value) = omega (arith, sum-const n 0)
pairs_few n number (Swap (Closing s) value) = omega (arith, sum-const n 0)
pairs_few n number (Swap (Acked s) value) = omega (arith, sum-const n 0)
pairs_few n number (Swap (Bounced d) value) = omega (arith, sum-const n 0)

-- all pairs' kicks are set by no more calls than there are Swaps that close nothing
kicks_few : (n number : ℕ) (l : List Told) → sum_below n (λ d. total (kick_swaps d number) l) + total cells_swapped l + total closings_told l ≤ total swapped l
kicks_few n number l =
    omega (
      arith,
      sum_total n (λ d t. kick_swaps d number t) l,
      total-add cells_swapped closings_told l,
      total-add (λ t. sum_below n (λ d. kick_swaps d number t)) (λ t. closing_swaps t.call) l,
      total-le (λ t. sum_below n (λ d. kick_swaps d number t) + closing_swaps t.call) swapped l (λ t. pairs_few n number t.call),
    )

sum_swap : (n m : ℕ) (f : ℕ → ℕ → ℕ) → sum_below n (λ d. sum_below m (λ w. f d w)) ≡ sum_below m (λ w. sum_below n (λ d. f d w))
sum_swap zero m f = sym (sum-zero m (λ w. 0) (λ k lt. refl))
sum_swap (suc n) m f = omega (arith, sum_swap n m f, sum-add m (λ w. sum_below n (λ d. f d w)) (λ w. f n w))

-- ---- the callers' parts

-- what is said of a caller's own calls: each item that it puts into a ring, with the steps that it has left, is paid by the
-- items that it takes and by the packets that it disposes of, of which each puts 18 items at most on RX
abbrev pub Spends : List Told → ℕ → Type 0
Spends l disposed = total put l + total steps_put l ≤ total steps_taken l + 90 * disposed

-- a driver swaps marks as often as it finds items, or its kick set, lets it, once for each packet that bounces, and where it acknowledges a
-- closing; and it sets no kick
pub record Drives (d disposed : ℕ) (l : List Told) : Type 0 where
  pub spends : Spends l disposed
  pub swaps : total swapped l ≤ 11 * (total took l + total (kick_swaps d 0) l + 2) + 2 + disposed + total closings_acked l
  pub kicks : (e : ℕ) → total (kick_swaps e 1) l ≡ 0

-- an application swaps at most one for each item that it puts into a ring, and three at its end; and cells, and two where it closes a socket
pub record Applies (l : List Told) : Type 0 where
  pub spends : Spends l 0
  pub swaps : total swapped l ≤ total put l + 3 + total cells_swapped l + 2 * total closings_told l

-- of so many sockets that are closed each has its cells lowered, at most 64, and is closed once and acknowledged once
pub record AreClosed (c : Config) (sockets : ℕ) (h : List Entry) : Type 0 where
  pub acked : ℕ → ℕ
  pub shut : ℕ → ℕ
  pub acks : (d : ℕ) → d < length c.pairs → total closings_acked (own d h) ≤ acked d
  pub closings : (a : ℕ) → a < apps_of c → total closings_told (own (length c.pairs + a) h) ≤ shut a
  pub cells : (a : ℕ) → a < apps_of c → total cells_swapped (own (length c.pairs + a) h) ≤ 64 * shut a
  pub one_acks : sum_below (length c.pairs) acked ≤ sockets
  pub one_closes : sum_below (apps_of c) shut ≤ sockets

module _ (c : Config) (frames : List Frame) (h : List Entry) (disposed : ℕ → ℕ) (history : IsHistory c frames h) (sockets : ℕ) (closed : AreClosed c sockets h)
    (drives : (d : ℕ) → d < length c.pairs → Drives d (disposed d) (own d h))
    (applies : (a : ℕ) → a < apps_of c → Applies (own (length c.pairs + a) h))
    (keeps : (d : ℕ) → d < length c.pairs → KeepsKicks d h) where
  abbrev drivers : (Told → ℕ) → ℕ
  drivers f = sum_below (length c.pairs) (λ d. total f (own d h))

  abbrev apps : (Told → ℕ) → ℕ
  apps f = sum_below (apps_of c) (λ a. total f (own (length c.pairs + a) h))

  abbrev packets : ℕ
  packets = sum_below (length c.pairs) disposed

  by_caller : (f : Told → ℕ) → total f (all_told h) ≡ drivers f + apps f
  by_caller f = total_own (callers_of c) f h (callers_exist c frames h history) ∙ sum_split (length c.pairs) (apps_of c) (λ who. total f (own who h))

  -- what is put into rings
  drivers_spend : drivers put + drivers steps_put ≤ drivers steps_taken + 90 * packets
  drivers_spend =
      omega (
        arith,
        sum-le (length c.pairs) (λ d. total put (own d h) + total steps_put (own d h)) (λ d. total steps_taken (own d h) + 90 * disposed d) (λ d lt. (drives d lt).spends),
        sum-add (length c.pairs) (λ d. total put (own d h)) (λ d. total steps_put (own d h)),
        sum-add (length c.pairs) (λ d. total steps_taken (own d h)) (λ d. 90 * disposed d),
        sum-times (length c.pairs) 90 disposed,
      )

  apps_spend : apps put + apps steps_put ≤ apps steps_taken
  apps_spend =
      omega (
        arith,
        sum-le (apps_of c) (λ a. total put (own (length c.pairs + a) h) + total steps_put (own (length c.pairs + a) h)) (λ a. total steps_taken (own (length c.pairs + a) h))
            (λ a lt. let one = (applies a lt).spends in omega (arith, one)),
        sum-add (apps_of c) (λ a. total put (own (length c.pairs + a) h)) (λ a. total steps_put (own (length c.pairs + a) h)),
      )

  steps_flow : total steps_taken (all_told h) ≤ total steps_put (all_told h)
  steps_flow =
      let known = known_calls c frames h history in
      omega (
        arith,
        flow c (steps_at c) frames h history,
        opening_steps c frames,
        total_same (λ e. IsKnown c e.call) (took_on c (steps_at c)) steps_taken h known (λ e is. steps_same c e.call (length (taken e.reply)) is),
        total_same (λ e. IsKnown c e.call) (put_on c (steps_at c)) steps_put h known (λ e is. steps_same c e.call (length (submitted e.call)) is),
      )

  put_few : total put (all_told h) ≤ 90 * packets
  put_few = omega (arith, drivers_spend, apps_spend, steps_flow, by_caller put, by_caller steps_put, by_caller steps_taken)

  took_few : total took (all_told h) ≤ c.geometry.frames + total put (all_told h)
  took_few =
      let known = known_calls c frames h history in
      omega (
        arith,
        flow c (λ p. 1) frames h history,
        opening_out c frames history.opened,
        total_same (λ e. IsKnown c e.call) took (took_on c (λ p. 1)) h known (λ e is. each_took c (told e)),
        total_same (λ e. IsKnown c e.call) (put_on c (λ p. 1)) put h known (λ e is. each_put c (told e)),
      )

  -- what a closing adds
  acks_few : drivers closings_acked ≤ sockets
  acks_few = omega (arith, sum-le (length c.pairs) (λ d. total closings_acked (own d h)) closed.acked closed.acks, closed.one_acks)

  closings_few : apps closings_told ≤ sockets
  closings_few = omega (arith, sum-le (apps_of c) (λ a. total closings_told (own (length c.pairs + a) h)) closed.shut closed.closings, closed.one_closes)

  cells_few : apps cells_swapped ≤ 64 * sockets
  cells_few =
      omega (
        arith,
        sum-le (apps_of c) (λ a. total cells_swapped (own (length c.pairs + a) h)) (λ a. 64 * closed.shut a) closed.cells,
        sum-times (apps_of c) 64 closed.shut,
        closed.one_closes,
      )

  -- Swaps
  apps_swap : apps swapped ≤ apps put + apps_of c * 3 + apps cells_swapped + 2 * apps closings_told
  apps_swap =
      let n = apps_of c in
      omega (
        arith,
        sum-le n (λ a. total swapped (own (length c.pairs + a) h)) (λ a. total put (own (length c.pairs + a) h) + 3 + total cells_swapped (own (length c.pairs + a) h) + 2 * total closings_told (own (length c.pairs + a) h))
            (λ a lt. (applies a lt).swaps),
        sum-add n (λ a. total put (own (length c.pairs + a) h) + 3 + total cells_swapped (own (length c.pairs + a) h)) (λ a. 2 * total closings_told (own (length c.pairs + a) h)),
        sum-add n (λ a. total put (own (length c.pairs + a) h) + 3) (λ a. total cells_swapped (own (length c.pairs + a) h)),
        sum-add n (λ a. total put (own (length c.pairs + a) h)) (λ a. 3),
        sum-times n 2 (λ a. total closings_told (own (length c.pairs + a) h)),
        sum-const n 3,
      )

  set_by : (d : ℕ) → total (kick_swaps d 1) (all_told h) ≡ apps (kick_swaps d 1)
  set_by d = omega (arith, by_caller (kick_swaps d 1), sum-zero (length c.pairs) (λ e. total (kick_swaps d 1) (own e h)) (λ e lt. (drives e lt).kicks d))

  cleared : sum_below (length c.pairs) (λ d. total (kick_swaps d 0) (own d h)) + apps cells_swapped + apps closings_told ≤ apps swapped
  cleared =
      let n = length c.pairs in
      let kicked : ℕ → ℕ = λ a. sum_below n (λ d. total (kick_swaps d 1) (own (n + a) h)) in
      omega (
        arith,
        sum-le n (λ d. total (kick_swaps d 0) (own d h)) (λ d. apps (kick_swaps d 1))
            (λ d lt. omega (arith, own_few (kick_swaps d 0) d h, cleared_few c frames h d lt history (keeps d lt), set_by d)),
        sum_swap n (apps_of c) (λ d a. total (kick_swaps d 1) (own (n + a) h)),
        sum-le (apps_of c) (λ a. kicked a + total cells_swapped (own (n + a) h) + total closings_told (own (n + a) h)) (λ a. total swapped (own (n + a) h)) (λ a lt. kicks_few n 1 (own (n + a) h)),
        sum-add (apps_of c) (λ a. kicked a + total cells_swapped (own (n + a) h)) (λ a. total closings_told (own (n + a) h)),
        sum-add (apps_of c) kicked (λ a. total cells_swapped (own (n + a) h)),
      )

  drivers_swap : drivers swapped ≤ 11 * (drivers took + sum_below (length c.pairs) (λ d. total (kick_swaps d 0) (own d h)) + 2 * length c.pairs) + 2 * length c.pairs + packets + drivers closings_acked
  drivers_swap =
      let n = length c.pairs in
      omega (
        arith,
        sum-le n (λ d. total swapped (own d h)) (λ d. 11 * (total took (own d h) + total (kick_swaps d 0) (own d h) + 2) + 2 + disposed d + total closings_acked (own d h)) (λ d lt. (drives d lt).swaps),
        sum-add n (λ d. 11 * (total took (own d h) + total (kick_swaps d 0) (own d h) + 2) + 2 + disposed d) (λ d. total closings_acked (own d h)),
        sum-add n (λ d. 11 * (total took (own d h) + total (kick_swaps d 0) (own d h) + 2) + 2) disposed,
        sum-add n (λ d. 11 * (total took (own d h) + total (kick_swaps d 0) (own d h) + 2)) (λ d. 2),
        sum-times n 11 (λ d. total took (own d h) + total (kick_swaps d 0) (own d h) + 2),
        sum-add n (λ d. total took (own d h) + total (kick_swaps d 0) (own d h)) (λ d. 2),
        sum-add n (λ d. total took (own d h)) (λ d. total (kick_swaps d 0) (own d h)),
        sum-const n 2,
      )

  pub few_changes : total changed (all_told h) ≤ most_changes c packets + 78 * sockets
  few_changes =
      omega (
        arith,
        changes_by c frames h history,
        opening_standing c frames history.opened,
        reserved_few c frames h history,
        put_few,
        took_few,
        acks_few,
        closings_few,
        cells_few,
        apps_swap,
        cleared,
        drivers_swap,
        by_caller put,
        by_caller took,
        by_caller swapped,
      )

-- a socket to close adds so many
pub closing_few : (o : Option ℕ) → 78 * number_of o ≤ closing_changes o
closing_few None = omega arith
closing_few (Some s) = omega arith
