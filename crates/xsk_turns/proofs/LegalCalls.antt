-- What an entry leaves of what its caller has, single calls that are legal, and what holds where no socket is closed.
use Rattle.std.proofs.Common.{◌≡◌, ℕ, ◌+◌, ◌-◌, ◌<◌, ◌≤◌, List, length, Some, None, sym, ap, ◌∙◌, ⊎_elim, arith, slice_index}
use Rattle.xsk_turns.proofs.Calls.{Item, Told, with_told, Ring, Fill, Comp, Rx, Tx, Mark, Cell, Call, Reserve, Peek, Release, Swap, Look, Reply, Granted, Items}
use Rattle.xsk_turns.proofs.Object.{Config, map_of, HasRing, callers_of, producer, consumer, HasMark, IsMarkNumber, MaySwap, IsFed, times, numbers, without, submitted, taken, had_of, room_of, held_of, room_step, held_step, IsLegal}
use Rattle.xsk_model.proofs.Folds.{had_of-push, part_of-push_same}
use Rattle.xsk_model.proofs.Counting.{times-append, times-without}
use Rattle.xsk_model.proofs.Places.{is_ring-self}
use Rattle.xsk_turns.proofs.Walks.{Due, nothing_due, submit_due, release_due}

-- ---- what an entry leaves

pub had_told : (l : List Told) (call : Call) (reply : Reply) (n : ℕ)
    → times n (had_of (with_told l call reply)) ≡ times n (had_of l) - times n (numbers (submitted call)) + times n (numbers (taken reply))
had_told l call reply n =
    ap (times n) (had_of-push l (record { call = call; reply = reply }))
    ∙ times-append n (without (numbers (submitted call)) (had_of l)) (numbers (taken reply))
    ∙ ap (λ (m : ℕ). m + times n (numbers (taken reply))) (times-without n (numbers (submitted call)) (had_of l))

pub room_told : (l : List Told) (r : Ring) (n : ℕ) → n ≤ room_of r (with_told l (Reserve r n) Granted)
room_told l r n =
    let e = part_of-push_same room_step r 0 l (record { call = Reserve r n; reply = Granted }) (is_ring-self r) in
    omega (arith, e)

pub held_told : (l : List Told) (r : Ring) (n : ℕ) (items : List Item) → length items ≤ held_of r (with_told l (Peek r n) (Items items))
held_told l r n items =
    let e = part_of-push_same held_step r 0 l (record { call = Peek r n; reply = Items items }) (is_ring-self r) in
    omega (arith, e)

-- what is due: the room is there, and the items are held
abbrev pub IsDue : Due → List Told → Type 0
IsDue nothing_due l = Unit {0}
IsDue (submit_due r n) l = n ≤ room_of r l
IsDue (release_due r n) l = (1 ≤ n) × (n ≤ 32) × (n ≤ held_of r l)

-- ---- where no socket is closed

module _ (c : Config) (closes : c.closing ≡ None) where
  no_closing : {X : Type 0} (s : ℕ) → c.closing ≡ Some s → X
  no_closing s is = absurd (let no : None ≡ Some s = sym closes ∙ is in cc)

  -- each ring is fed on
  pub fed : (l : List Told) (r : Ring) → IsFed c l r
  fed l (Fill d) = tt
  fed l (Comp d) = tt
  fed l (Rx s) = λ is. no_closing s is
  fed l (Tx s) = λ is. no_closing s is

  -- each cell has its configured number
  pub cell_as_set : (port index n : ℕ) → IsMarkNumber c (Cell port index) n → n ≡ slice_index (map_of c port) index
  cell_as_set port index n h = ⊎_elim (λ e. e) (λ lowered. no_closing lowered.1 lowered.2.0) h

-- ---- single calls

module _ (c : Config) (who : ℕ) (l : List Told) (below : who < callers_of c) where
  pub legal_reserve : (r : Ring) (n : ℕ) → HasRing c r → who ≡ producer c r → 1 ≤ n → n ≤ 32 → IsFed c l r → IsLegal c l who (Reserve r n)
  legal_reserve r n has role some few feeds = record { caller = below; known = has; role = role; counted = (some, few); frames = λ m. omega arith; items = tt; packets = tt; feeds = feeds }

  pub legal_peek : (r : Ring) (n : ℕ) → HasRing c r → who ≡ consumer c r → 1 ≤ n → n ≤ 32 → IsLegal c l who (Peek r n)
  legal_peek r n has role some few = record { caller = below; known = has; role = role; counted = (some, few); frames = λ m. omega arith; items = tt; packets = tt; feeds = tt }

  pub legal_release : (r : Ring) (n : ℕ) → HasRing c r → who ≡ consumer c r → 1 ≤ n → n ≤ 32 → n ≤ held_of r l → IsLegal c l who (Release r n)
  legal_release r n has role some few held = record { caller = below; known = has; role = role; counted = (some, few, held); frames = λ m. omega arith; items = tt; packets = tt; feeds = tt }

  pub legal_look : (m : Mark) → HasMark c m → IsLegal c l who (Look m)
  legal_look m has = record { caller = below; known = has; role = tt; counted = tt; frames = λ k. omega arith; items = tt; packets = tt; feeds = tt }

  pub legal_swap : (m : Mark) (value : ℕ) → HasMark c m → MaySwap c l who m value → IsMarkNumber c m value → IsLegal c l who (Swap m value)
  legal_swap m value has may number = record { caller = below; known = has; role = may; counted = number; frames = λ k. omega arith; items = tt; packets = tt; feeds = tt }
