-- The line of an entry is the same where the entry is as it is stored.
use Rattle.std.proofs.Common.{◌≡◌, ℕ, Bool, List, [], ◌∷◌, ◌++◌, map, refl, ap, ◌∙◌}
use Rattle.std.specs.Prelude.{codes}
use Rattle.xsk_umem.specs.Geometry.{Geometry}
use Rattle.xsk_umem.specs.declared.batch.Item.{Item}
use Rattle.xsk_model.specs.Entry.{Entry}
use Rattle.xsk_model.specs.Stored.{stored_entry, stored_call, stored_reply, stored_item}
use Rattle.xsk_model.specs.declared.call.Call.{Call}
use Rattle.xsk_model.specs.declared.call.Call.TheVariants.{Reserve, Submit, Peek, Release, Swap, Look}
use Rattle.xsk_model.specs.declared.call.Reply.{Reply}
use Rattle.xsk_model.specs.declared.call.Reply.TheVariants.{Granted, Full, Submitted, Items, Empty, Released, Old}
use Rattle.xsk_log.specs.Line.{who_text, ring_text, item_text, items_text, call_text, reply_text, line_of}

module _ (g : Geometry) (sg : Bool) where
  items_stored : (items : List Item) → items_text (map (stored_item g sg) items) ≡ items_text items
  items_stored [] = refl
  items_stored (x ∷ items) = ap (λ t. item_text x ++ t) (items_stored items)

  call_stored : (call : Call) → call_text (stored_call g sg call) ≡ call_text call
  call_stored (Reserve r n) = refl
  call_stored (Submit r items) = ap (λ t. codes "submit " ++ ring_text r ++ t) (items_stored items)
  call_stored (Peek r n) = refl
  call_stored (Release r n) = refl
  call_stored (Swap m value) = refl
  call_stored (Look m) = refl

  reply_stored : (reply : Reply) → reply_text (stored_reply g sg reply) ≡ reply_text reply
  reply_stored Granted = refl
  reply_stored (Full places) = refl
  reply_stored Submitted = refl
  reply_stored (Items items) = ap (λ t. codes "items" ++ t) (items_stored items)
  reply_stored Empty = refl
  reply_stored Released = refl
  reply_stored (Old value) = refl

  pub line_stored : (pairs : ℕ) (e : Entry) → line_of pairs (stored_entry g sg e) ≡ line_of pairs e
  line_stored pairs e =
      ap (λ t. who_text pairs e.who ++ codes " " ++ t ++ codes " -> " ++ reply_text (stored_reply g sg e.reply) ++ codes "\n") (call_stored e.call)
      ∙ ap (λ t. who_text pairs e.who ++ codes " " ++ call_text e.call ++ codes " -> " ++ t ++ codes "\n") (reply_stored e.reply)
