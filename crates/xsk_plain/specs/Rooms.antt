-- The room that a call takes in the log.
use Rattle.std.specs.Prelude.{◌≡◌, ℕ, ◌+◌, List, [], ◌∷◌, ◌++◌, length, sum_by}
use Rattle.xsk_umem.specs.declared.batch.Item.{Item}
use Rattle.xsk_model.specs.Config.{Config}
use Rattle.xsk_model.specs.Descriptor.{payload}
use Rattle.xsk_model.specs.Stored.{stored_entry}
use Rattle.xsk_model.specs.declared.call.Call.{Call}
use Rattle.xsk_model.specs.declared.call.Call.TheVariants.{Submit}
use Rattle.xsk_model.specs.declared.call.Reply.{Reply}
use Rattle.xsk_plain.specs.Engine.{Engine}

-- the payload bytes of items
abbrev pub items_bytes : Config → List Item → ℕ
items_bytes c items = sum_by (λ item. length (payload c.geometry c.sg item)) items

-- the payload bytes that the log keeps of a call
abbrev pub payload_bytes : Config → Call → ℕ
payload_bytes c (Submit r items) = items_bytes c items
payload_bytes c _ = 0

-- one more entry with so many payload bytes, and the room for it is used
pub record Enters (old new : Engine) (who : ℕ) (call : Call) (reply : Reply) (bytes : ℕ) : Type 0 where
  pub config : new.config ≡ old.config
  pub log : new.log ≡ old.log ++ stored_entry old.config.geometry old.config.sg (record { who = who; call = call; reply = reply }) ∷ []
  pub calls : new.calls ≡ old.calls + 1
  pub spare_entries : new.spare_entries + 1 ≡ old.spare_entries
  pub spare_bytes : new.spare_bytes + bytes ≡ old.spare_bytes
