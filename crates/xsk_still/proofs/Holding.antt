-- Who has a frame after a history: a caller or a ring, each of the frame's own application; and which pairs and sockets an
-- application has.
use Rattle.std.proofs.Common.{◌≡◌, ◌⊎◌, inl, inr, ℕ, zero, suc, ◌+◌, ◌-◌, ◌*◌, ◌/◌, ◌%◌, ◌<◌, ◌≤◌, List, [], ◌∷◌, ◌++◌, length, get_or, flat_map, sym, ap, ◌∙◌, subst, ⊎_elim, arith, refl, append-nil}
use Rattle.std.proofs.lemmas.Bool.{cases_lt}
use Rattle.std.proofs.lemmas.Nat.{div-mul-add, mod-mul-add, div_below, div-add-mod'}
use Rattle.xsk_umem.specs.Frame.{Frame}
use Rattle.xsk_turns.proofs.Object.{Config, IsRegular, HasRing, pair_at, classes_of, caller_of, app_of, times, had_of}
use Rattle.xsk_turns.proofs.Calls.{Fill, Comp, Rx, Tx}
use Rattle.xsk_model.specs.Entry.{Entry, own}
use Rattle.xsk_model.specs.History.{IsHistory, state_after}
use Rattle.xsk_model.specs.Holders.{out_numbers}
use Rattle.xsk_model.specs.Object.{State, empty_ring, ring_at}
use Rattle.xsk_model.specs.Rings.{place, places_of, port_of}
use Rattle.xsk_model.specs.declared.call.Ring.{Ring}
use Rattle.xsk_model.proofs.Counting.{times-append}
use Rattle.xsk_model.proofs.Histories.{history_sound}
use Rattle.xsk_model.proofs.Roles.{ring_placed}
use Rattle.xsk_model.proofs.Theorems.{one_holder, frames_by_own}
use Rattle.xsk_turns.specs.AppOwned.{IsApp}
use Rattle.xsk_turns.specs.AppTurns.{pair_of, side_socket, lanes_of}
use Rattle.xsk_turns.proofs.AppPlaces.{pairs_apart}
use Rattle.xsk_laws.proofs.Places.{side_lane}

-- ---- where a number stands in joined lists

stands_in : {X : Type 0} (n : ℕ) (f : X → List ℕ) (xs : List X) (d : X) → 1 ≤ times n (flat_map f xs) → (i : ℕ) × (i < length xs) × (1 ≤ times n (f (get_or xs i d)))
stands_in n f [] d some = absurd (omega (arith, some))
stands_in n f (x ∷ xs) d some = ⊎_elim
    (λ (here : 0 < times n (f x)). (0, omega arith, omega (arith, here)))
    (λ (none : times n (f x) ≤ 0).
    let later = stands_in n f xs d (omega (arith, some, times-append n (f x) (flat_map f xs), none)) in
    (suc later.0, omega (arith, later.1), later.2))
    (cases_lt 0 (times n (f x)))

-- ---- the ring of a place

module _ (c : Config) (regular : IsRegular c) where
  pub ring_of_place : (i : ℕ) → i < places_of c → (r : Ring) × HasRing c r × (place c r ≡ i)
  ring_of_place i below = ⊎_elim
      (λ (fill : i < length c.pairs). (Fill i, fill, refl))
      (λ (past : length c.pairs ≤ i). ⊎_elim
      (λ (comp : i < 2 * length c.pairs). (Comp (i - length c.pairs), omega (arith, past, comp), omega (arith, past)))
      (λ (past : 2 * length c.pairs ≤ i). ⊎_elim
      (λ (rx : i < 2 * length c.pairs + length c.sockets).
      let s : ℕ = i - 2 * length c.pairs in
      let within : s < length c.sockets = omega (arith, past, rx) in
      (Rx s, (within, (regular.places s within).2), omega (arith, past)))
      (λ (past : 2 * length c.pairs + length c.sockets ≤ i).
      let s : ℕ = i - (2 * length c.pairs + length c.sockets) in
      let within : s < length c.sockets = omega (arith, past, below) in
      (Tx s, (within, (regular.places s within).3), omega (arith, past)))
      (cases_lt i (2 * length c.pairs + length c.sockets)))
      (cases_lt i (2 * length c.pairs)))
      (cases_lt i (length c.pairs))

  -- each frame is with a caller or in a ring
  pub holder : (frames : List Frame) (h : List Entry) (n : ℕ) → IsHistory c frames h → n < c.geometry.frames
      → ((who : ℕ) × (1 ≤ times n (had_of (own who h)))) ⊎ ((r : Ring) × HasRing c r × (1 ≤ times n (out_numbers (ring_at c (state_after c frames h) r))))
  holder frames h n history below =
      let s : State = state_after c frames h in
      let sound = history_sound c frames h history in
      let whole : IsHistory c frames (h ++ []) = subst (IsHistory c frames) (sym (append-nil h)) history in
      let one = (one_holder c frames h [] whole).one n below in
      let both = times-append n (flat_map (λ (had : List ℕ). had) s.had) (flat_map out_numbers s.rings) in
      ⊎_elim
      (λ (caller : 0 < times n (flat_map (λ (had : List ℕ). had) s.had)).
      let at = stands_in n (λ (had : List ℕ). had) s.had [] (omega (arith, caller)) in
      inl (at.0, omega (arith, at.2, ap (times n) (frames_by_own c frames h at.0 history))))
      (λ (none : times n (flat_map (λ (had : List ℕ). had) s.had) ≤ 0).
      let at = stands_in n out_numbers s.rings empty_ring (omega (arith, one, both, none)) in
      let ring = ring_of_place at.0 (omega (arith, at.1, sound.rings)) in
      inr (ring.0, ring.1, subst (λ (i : ℕ). 1 ≤ times n (out_numbers (get_or s.rings i empty_ring))) (sym ring.2) at.2))
      (cases_lt 0 (times n (flat_map (λ (had : List ℕ). had) s.had)))

-- ---- the pairs and the sockets of an application

module _ (c : Config) (a : ℕ) (one : IsApp c a) where
  -- a pair whose application it is, is that of a side
  pub pair_side : (e : ℕ) → e < length c.pairs → app_of c (Fill e) ≡ caller_of c a → (side : ℕ) × (side < 2) × (e ≡ pair_of c a side)
  pair_side e below mine =
      let port = (pair_at c.pairs e).port in
      let queue = (pair_at c.pairs e).queue in
      let seat = one.regular.seats e below in
      let at = ring_placed c (Fill e) one.config below in
      let is : (port / 2) * c.queues + queue ≡ a = omega (arith, mine) in
      let half : a / c.queues ≡ port / 2 = ap (λ n. n / c.queues) (sym is) ∙ div-mul-add (port / 2) c.queues queue at.queue in
      let rest : a % c.queues ≡ queue = ap (λ n. n % c.queues) (sym is) ∙ mod-mul-add (port / 2) c.queues queue at.queue in
      let whole : 2 * (port / 2) + port % 2 ≡ port = omega arith in (
        port % 2,
        omega arith,
        sym (
            ap (λ n. (2 * n + port % 2) * c.queues + a % c.queues) half
            ∙ ap (λ n. (2 * (port / 2) + port % 2) * c.queues + n) rest
            ∙ ap (λ n. n * c.queues + queue) whole
            ∙ ap (λ n. n * c.queues + queue) seat.0
            ∙ ap (λ n. e / c.queues * c.queues + n) seat.1
            ∙ div-add-mod' e c.queues),
      )

  some_class : 1 ≤ classes_of c
  some_class = let classes = one.regular.classes in omega (arith, classes)

  -- and a socket one of a side's
  pub socket_of_side : (s : ℕ) → s < length c.sockets → app_of c (Rx s) ≡ caller_of c a
      → (side : ℕ) × (class : ℕ) × (side < 2) × (class < classes_of c) × (s ≡ side_socket c a side class)
  socket_of_side s below mine =
      let e = s / classes_of c in
      let class = s % classes_of c in
      let known : e < length c.pairs = div_below s (classes_of c) (length c.pairs) some_class (omega (arith, below, one.regular.sockets)) in
      let seat = one.regular.seats e known in
      let at = one.regular.places s below in
      let same : app_of c (Fill e) ≡ app_of c (Rx s) =
      ap (λ (n : ℕ). caller_of c ((n / 2) * c.queues + (pair_at c.pairs e).queue)) (seat.0 ∙ sym at.0)
      ∙ ap (λ (n : ℕ). caller_of c ((port_of c (Rx s) / 2) * c.queues + n)) (seat.1 ∙ sym at.1) in
      let side = pair_side e known (same ∙ mine) in
      let few : class < classes_of c = let h = some_class in omega (arith, h) in
      (side.0, class, side.1, few, sym (div-add-mod' s (classes_of c)) ∙ ap (λ (n : ℕ). n * classes_of c + class) side.2)

  -- the lane of a side and a class
  pub lane_at : (side class : ℕ) → side < 2 → class < classes_of c → (lane : ℕ) × (lane < lanes_of c) × (lane / classes_of c ≡ side) × (lane % classes_of c ≡ class)
  lane_at side class h k =
      (side * classes_of c + class, side_lane side (classes_of c) class h k, div-mul-add side (classes_of c) class k, mod-mul-add side (classes_of c) class k)

  -- the two sides have two pairs
  pub sides_apart : (i j : ℕ) → i < 2 → j < 2 → pair_of c a i ≡ pair_of c a j → i ≡ j
  sides_apart zero zero h k e = refl
  sides_apart zero (suc zero) h k e = absurd (pairs_apart c a one e)
  sides_apart (suc zero) zero h k e = absurd (pairs_apart c a one (sym e))
  sides_apart (suc zero) (suc zero) h k e = refl
  sides_apart (suc (suc i)) j h k e = absurd (omega (arith, h))
  sides_apart zero (suc (suc j)) h k e = absurd (omega (arith, k))
  sides_apart (suc zero) (suc (suc j)) h k e = absurd (omega (arith, k))
