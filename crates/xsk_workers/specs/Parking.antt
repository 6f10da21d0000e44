-- Drivers that sleep, and the calls that wake them.
use Rattle.std.specs.Prelude.{◌≡◌, ℕ, ◌==◌, if◌then◌else◌, Option, Some, None, List}
use Rattle.std.specs.List.{slice_get}
use Rattle.std.specs.Option.{option_map, option_and_then}
use Rattle.std.specs.Arc.{arc_value}
use Rattle.std.specs.declared.alloc.Global.{Global}
use Rattle.atomic_table.specs.Seated.{TableId}
use Rattle.crossbeam_utils.specs.declared.rule.Unruled.{Unruled}
use Rattle.crossbeam_utils.specs.declared.sync.parker.RuledParker.{RuledParker}
use Rattle.crossbeam_utils.specs.declared.sync.parker.RuledUnparker.{RuledUnparker}
use Rattle.xsk_umem.specs.declared.batch.Item.{Item}
use Rattle.xsk_model.specs.Asks.{joined_call}
use Rattle.xsk_model.specs.Entry.{Told, with_told, own}
use Rattle.xsk_model.specs.declared.ask.Ask.{Ask}
use Rattle.xsk_model.specs.declared.ask.Ask.TheVariants.{Reserve, Submit, Peek, Release, Swap, Look}
use Rattle.xsk_model.specs.declared.call.Mark.{Mark}
use Rattle.xsk_model.specs.declared.call.Mark.TheVariants.{Kick}
use Rattle.xsk_model.specs.declared.call.Reply.{Reply}
use Rattle.xsk_table.specs.Held.{Holder}
use Rattle.xsk_turns.specs.Wakes.{IsParked}
use Rattle.xsk_workers.specs.Shown.{WorkerShown}

-- the word with the token that a parker waits for, and that what wakes its thread gives
abbrev pub token_of : RuledUnparker (Unit {0}) Unruled Global → TableId
token_of u = (arc_value u.state).shared.table_id

abbrev pub token_in : RuledParker (Unit {0}) Unruled Global → TableId
token_in p = token_of p.unparker

-- by the tokens of the drivers, a caller's parker is that of its own: an application has none
abbrev pub IsParkerOf : List TableId → ℕ → Option (RuledParker (Unit {0}) Unruled Global) → Type 0
IsParkerOf tokens who parker = option_map token_in parker ≡ slice_get tokens who

-- a worker is parked: its last call was a look at its kick that was answered 0, and its next is that look again
pub record IsAsleep (w : WorkerShown) : Type 0 where
  pub looked : IsParked w.pass.who (own w.pass.who w.pass.view.seen)
  pub looks : w.next ≡ Some (Look (Kick w.pass.who))

-- the pair whose driver a call kicks: it sets the kick to 1
abbrev pub kicked_at : Mark → ℕ → Option ℕ
kicked_at (Kick d) value = if value == 1 then Some d else None
kicked_at mark value = None

abbrev pub kicked_by : Ask → Option ℕ
kicked_by (Reserve r n) = None
kicked_by (Submit r) = None
kicked_by (Peek r n) = None
kicked_by (Release r n) = None
kicked_by (Swap m value) = kicked_at m value
kicked_by (Look m) = None

-- the token that its driver waits for
abbrev pub woken_by : List TableId → Ask → Option TableId
woken_by tokens ask = option_and_then (slice_get tokens) (kicked_by ask)

-- a call is the last of a pass's caller
abbrev pub IsLastOf : Holder → Ask → Type 0
IsLastOf p ask = (before : List Told) × (items : List Item) × (reply : Reply) × (own p.who p.view.seen ≡ with_told before (joined_call ask items) reply)
