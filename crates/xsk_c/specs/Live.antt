-- What an export does by the handle, the ring and the call that it is given.
use Rattle.std.specs.Prelude.{◌≡◌, ℕ, true, false, MatchOption}
use Rattle.xsk_model.specs.declared.call.Call.{Call}
use Rattle.xsk_model.specs.declared.call.Ring.{Ring}
use Rattle.xsk_c.specs.Items.{call_in, ring_in}
use Rattle.xsk_c.specs.declared.answers.TheConstants.{NOT_LIVE, NO_SUCH}
use Rattle.xsk_c.specs.declared.handle.Handle.{Handle}
use Rattle.xsk_c.specs.declared.items.Asked.{Asked}
use Rattle.xsk_c.specs.declared.state.State.{State}

-- A live handle stays so, and its state does this. On another nothing is done, and it is answered so.
pub record OnLive (old new : Handle) (answer : ℕ) (still : Type 0) (does : State → State → Type 0) : Type 0 where
  pub shut : old.live ≡ false → (answer ≡ NOT_LIVE) × (new ≡ old) × still
  pub stays : old.live ≡ true → new.live ≡ true
  pub done : old.live ≡ true → does old.state new.state

-- a ring of a known kind has this done, and else nothing is done, and it is answered so
abbrev pub OnRing : (kind index : ℕ) → State → State → ℕ → Type 0 → (Ring → Type 0) → Type 0
OnRing kind index old new answer still does = MatchOption (ring_in kind index) ((answer ≡ NO_SUCH) × (new ≡ old) × still) does

-- and a call that there is
abbrev pub OnCall : Asked → State → State → ℕ → Type 0 → (Call → Type 0) → Type 0
OnCall asked old new answer still does = MatchOption (call_in asked) ((answer ≡ NO_SUCH) × (new ≡ old) × still) does
