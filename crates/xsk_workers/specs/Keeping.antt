-- What is kept of a member that has ended.
use Rattle.std.specs.Prelude.{◌≡◌, ℕ, ◌+◌, ◌≤◌, ◌++◌, Option, length, map, vec_len, vec_capacity}
use Rattle.std.specs.Vec.{vec_items}
use Rattle.xsk_machine.specs.Acts.{packets_in}
use Rattle.xsk_machine.specs.declared.collected.Collected.{Collected}
use Rattle.xsk_machine.specs.declared.worker.AnyWorker.{AnyWorker}
use Rattle.xsk_workers.specs.Members.{kept_left, figures_left}

-- there is room for it
pub record HasRoomFor (kept : Collected) (classes : ℕ) (left : Option AnyWorker) : Type 0 where
  pub figures : vec_len kept.figures + length (figures_left classes left) ≤ vec_capacity kept.figures
  pub sent : vec_len kept.sent + length (kept_left left) ≤ vec_capacity kept.sent

-- it stands behind what was kept before, and the room stays
pub record Keeps (old new : Collected) (classes : ℕ) (left : Option AnyWorker) : Type 0 where
  pub room : (vec_capacity new.figures ≡ vec_capacity old.figures) × (vec_capacity new.sent ≡ vec_capacity old.sent)
  pub figures : vec_items new.figures ≡ vec_items old.figures ++ figures_left classes left
  pub sent : map packets_in (vec_items new.sent) ≡ map packets_in (vec_items old.sent) ++ kept_left left
