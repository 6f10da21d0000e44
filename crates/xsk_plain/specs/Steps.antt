-- The steps of the object on what the engine keeps: those of the object, with numbers in place of the held items.
use Rattle.std.specs.Prelude.{◌≡◌, ℕ, ◌+◌, ◌-◌, nat_le, if◌then◌else◌, Option, Some, None, List, ◌++◌, length, take, drop}
use Rattle.std.specs.List.{slice_index_or, slice_set}
use Rattle.xsk_model.specs.Config.{Config, size_of}
use Rattle.xsk_model.specs.Rings.{place}
use Rattle.xsk_model.specs.Marks.{mark_place}
use Rattle.xsk_model.specs.Object.{State, reserve_reply, peek_reply, reply_at, after}
use Rattle.xsk_model.specs.declared.call.Ring.{Ring}
use Rattle.xsk_model.specs.declared.call.Call.{Call}
use Rattle.xsk_model.specs.declared.call.Call.TheVariants.{Reserve, Submit, Peek, Release, Swap, Look}
use Rattle.xsk_model.specs.declared.call.Reply.{Reply}
use Rattle.xsk_model.specs.declared.call.Reply.TheVariants.{Submitted, Released, Old}
use Rattle.xsk_plain.specs.Engine.{Part, Engine, part_in, Shows}

-- the free places of a ring
abbrev pub free_in : ℕ → Part → ℕ
free_in size part = size - length part.out - part.held - part.room

abbrev pub part_after : ℕ → Part → Call → Part
part_after size part (Reserve r n) = if nat_le n (free_in size part) then record part { room = part.room + n } else part
part_after size part (Submit r items) = record part { out = part.out ++ items; room = part.room - length items }
part_after size part (Peek r n) = record part { out = drop n part.out; held = part.held + length (take n part.out) }
part_after size part (Release r n) = record part { held = part.held - n }
part_after size part (Swap m value) = part
part_after size part (Look m) = part

-- all rings after a call on one of them, or on none
abbrev pub parts_after : Config → List Part → Option Ring → Call → List Part
parts_after c parts None call = parts
parts_after c parts (Some r) call = slice_set parts (place c r) (part_after (size_of c r) (part_in c parts r) call)

abbrev pub reply_to : Config → List Part → List ℕ → Call → Reply
reply_to c parts marks (Reserve r n) = reserve_reply n (free_in (size_of c r) (part_in c parts r))
reply_to c parts marks (Submit r items) = Submitted
reply_to c parts marks (Peek r n) = peek_reply n (part_in c parts r).out
reply_to c parts marks (Release r n) = Released
reply_to c parts marks (Swap m value) = Old (slice_index_or marks (mark_place c m) 0)
reply_to c parts marks (Look m) = Old (slice_index_or marks (mark_place c m) 0)

-- the call was made as the object makes it in each state that the engine shows
pub record FollowsObject (old new : Engine) (who : ℕ) (call : Call) (answer : Reply) : Type 0 where
  pub reply : (s : State) → Shows old s → answer ≡ reply_at old.config s call
  pub state : (s : State) → Shows old s → Shows new (after old.config s who call)
