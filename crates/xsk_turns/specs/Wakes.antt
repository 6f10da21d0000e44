-- Owed wakes. With need-wakeup a driver that finds nothing to do sets the flags of its FILL and TX rings and is parked, and an
-- application that puts entries there must wake it (af_xdp.rst, "XDP_USE_NEED_WAKEUP bind flag"). A wake is owed to a parked
-- driver on a ring whose flag is set and where entries wait, for its end, which it is to learn, and for a socket that is closed, which
-- it is to acknowledge. The kick stands for the call that wakes; it, the end, how a socket is closed and how an application comes to owe a
-- kick are this project's own.
use Rattle.std.specs.Prelude.{◌≡◌, ℕ, ◌≤◌, ◌⊎◌, Bool, true, false, ◌&&◌, ◌||◌, ◌==◌, not, Some, List, length}
use Rattle.std.specs.List.{fold}
use Rattle.xsk_umem.specs.Frame.{Frame}
use Rattle.xsk_model.specs.Config.{Config, HasRing, pair_at}
use Rattle.xsk_model.specs.Rings.{is_ring, application_on, driver_of, app_of}
use Rattle.xsk_model.specs.Marks.{is_mark}
use Rattle.xsk_model.specs.Object.{State, ring_at, mark_at}
use Rattle.xsk_model.specs.Entry.{Told, Entry, with_told, own}
use Rattle.xsk_model.specs.History.{state_after}
use Rattle.xsk_model.specs.declared.call.Ring.{Ring}
use Rattle.xsk_model.specs.declared.call.Ring.TheVariants.{Fill, Rx, Tx}
use Rattle.xsk_model.specs.declared.call.Mark.{Mark}
use Rattle.xsk_model.specs.declared.call.Mark.TheVariants.{NeedFill, NeedTx, Kick, RxDone, TxDone, Closing, Acked}
use Rattle.xsk_model.specs.declared.call.Call.{Call}
use Rattle.xsk_model.specs.declared.call.Call.TheVariants.{Submit, Swap, Look}
use Rattle.xsk_model.specs.declared.call.Reply.{Reply}
use Rattle.xsk_model.specs.declared.call.Reply.TheVariants.{Old}

-- a driver is parked after its own calls and replies where the last of them is a look at its kick that was answered 0
abbrev pub IsParked : ℕ → List Told → Type 0
IsParked d mine = (before : List Told) × (mine ≡ with_told before (Look (Kick d)) (Old 0))

-- ---- what is owed to a driver

-- in a state, after its own calls and replies, on a ring with its flag
pub record IsOwedOn (c : Config) (s : State) (mine : List Told) (d : ℕ) (r : Ring) (flag : Mark) : Type 0 where
  pub parked : IsParked d mine
  pub set : mark_at c s flag ≡ 1
  pub waits : 1 ≤ length (ring_at c s r).out

-- the number of the application of a pair
abbrev pub app_for : Config → ℕ → ℕ
app_for c d = application_on c (pair_at c.pairs d).port (pair_at c.pairs d).queue

-- and for its end: both have told that nothing comes any more
pub record IsOwedEnd (c : Config) (s : State) (mine : List Told) (d : ℕ) : Type 0 where
  pub parked : IsParked d mine
  pub received : mark_at c s (RxDone d) ≡ 1
  pub sent : mark_at c s (TxDone (app_for c d)) ≡ 1

-- and for a socket that is closed, and that it hasn't acknowledged yet
pub record IsOwedClosing (c : Config) (s : State) (mine : List Told) (d x : ℕ) : Type 0 where
  pub parked : IsParked d mine
  pub closed : mark_at c s (Closing x) ≡ 1
  pub fed : mark_at c s (Acked x) ≡ 0

-- ---- what an application owes

-- Whether it owes a kick for what it submitted on a ring: after the Submit, until a look at the ring's flag was answered 0 or
-- it has set the kick to 1.
abbrev pub looked_at : Mark → Bool → Mark → Reply → Bool
looked_at flag owes m (Old number) = owes && not (is_mark flag m && number == 0)
looked_at flag owes m reply = owes

abbrev pub owes_after : Ring → Mark → Mark → Bool → Call → Reply → Bool
owes_after r flag kick owes (Submit q items) reply = owes || is_ring r q
owes_after r flag kick owes (Swap m value) reply = owes && not (is_mark kick m && value == 1)
owes_after r flag kick owes (Look m) reply = looked_at flag owes m reply
owes_after r flag kick owes call reply = owes

abbrev pub owes_step : Ring → Mark → Mark → Bool → Told → Bool
owes_step r flag kick owes t = owes_after r flag kick owes t.call t.reply

abbrev pub owes_on : ℕ → Ring → Mark → List Told → Bool
owes_on d r flag mine = fold (owes_step r flag (Kick d)) false mine

-- Whether it owes one for the end, or for a closing: after it told by a mark that it sends nothing more, or that it closed a socket,
-- until it has set the kick to 1.
abbrev pub owes_end_after : Mark → Mark → Bool → Call → Bool
owes_end_after done kick owes (Swap m value) = (owes || (is_mark done m && value == 1)) && not (is_mark kick m && value == 1)
owes_end_after done kick owes call = owes

abbrev pub owes_end_step : Mark → Mark → Bool → Told → Bool
owes_end_step done kick owes t = owes_end_after done kick owes t.call

abbrev pub owes_end : ℕ → Mark → List Told → Bool
owes_end d done mine = fold (owes_end_step done (Kick d)) false mine

-- ---- no wake is lost

-- a driver will be woken: its kick is set, or its application owes it one
abbrev pub IsWoken : Config → State → ℕ → Bool → Type 0
IsWoken c s d owes = (mark_at c s (Kick d) ≡ 1) ⊎ (owes ≡ true)

-- so each wake that is owed to a driver after a history comes: on its FILL ring, on each TX ring of its port and queue, for its end,
-- and for the socket that is to be closed, where it is one of its port and queue
pub record NoWakeIsLost (c : Config) (frames : List Frame) (h : List Entry) (d : ℕ) : Type 0 where
  pub fill : IsOwedOn c (state_after c frames h) (own d h) d (Fill d) (NeedFill d)
      → IsWoken c (state_after c frames h) d (owes_on d (Fill d) (NeedFill d) (own (app_of c (Fill d)) h))
  pub tx : (t : ℕ) → HasRing c (Tx t) → driver_of c (Tx t) ≡ d → IsOwedOn c (state_after c frames h) (own d h) d (Tx t) (NeedTx t)
      → IsWoken c (state_after c frames h) d (owes_on d (Tx t) (NeedTx t) (own (app_of c (Fill d)) h))
  pub at_end : IsOwedEnd c (state_after c frames h) (own d h) d
      → IsWoken c (state_after c frames h) d (owes_end d (TxDone (app_for c d)) (own (app_of c (Fill d)) h))
  pub at_closing : (x : ℕ) → c.closing ≡ Some x → driver_of c (Rx x) ≡ d → IsOwedClosing c (state_after c frames h) (own d h) d x
      → IsWoken c (state_after c frames h) d (owes_end d (Closing x) (own (app_of c (Fill d)) h))
