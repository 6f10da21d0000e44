-- That a stored history tells which calls are legal, and why another isn't.
use Rattle.std.proofs.Common.{◌≡◌, ℕ, ◌==◌, Bool, true, false, cond, Option, Some, None, List, [], ◌∷◌, map, refl, sym, ap, ◌∙◌}
use Rattle.std.specs.Option.{option_map}
use Rattle.xsk_umem.specs.Frame.{Frame}
use Rattle.xsk_umem.specs.Geometry.{Geometry}
use Rattle.xsk_umem.specs.declared.batch.Item.{Item}
use Rattle.xsk_model.specs.Config.{Config}
use Rattle.xsk_model.specs.Descriptor.{payload}
use Rattle.xsk_model.specs.Entry.{Told, Entry, told, own}
use Rattle.xsk_model.specs.OtherWords.{bare, bare_frame, bare_item, bare_call, bare_reply}
use Rattle.xsk_model.specs.Stored.{stored, stored_item, stored_call, stored_reply, stored_entry}
use Rattle.xsk_model.specs.declared.call.Call.{Call}
use Rattle.xsk_model.specs.declared.call.Call.TheVariants.{Reserve, Submit, Peek, Release, Swap, Look}
use Rattle.xsk_model.specs.declared.call.Reply.{Reply}
use Rattle.xsk_model.specs.declared.call.Reply.TheVariants.{Granted, Full, Submitted, Items, Empty, Released, Old}
use Rattle.xsk_model.proofs.CallTheorems.{bodies_dont_matter}
use Rattle.xsk_legal.specs.Why.{Fails}
use Rattle.xsk_legal.specs.declared.why.Illegal.{Illegal}
use Rattle.xsk_legal.proofs.Whys.{fails_there}
use Rattle.xsk_plain.specs.Laws.{LogDecides}

module _ (g : Geometry) (sg : Bool) where
  same_frame : (bytes : List ℕ) (frame : Option Frame) → option_map bare_frame (option_map (λ (f : Frame). record f { bytes = bytes }) frame) ≡ option_map bare_frame frame
  same_frame bytes None = refl
  same_frame bytes (Some frame) = refl

  same_item : (item : Item) → bare_item (stored_item g sg item) ≡ bare_item item
  same_item item = ap (λ (f : Option Frame). record { frame = f; desc = item.desc }) (same_frame (payload g sg item) item.frame)

  same_items : (items : List Item) → map bare_item (map (stored_item g sg) items) ≡ map bare_item items
  same_items [] = refl
  same_items (item ∷ items) =
      ap (λ (i : Item). i ∷ map bare_item (map (stored_item g sg) items)) (same_item item) ∙ ap (λ (is : List Item). bare_item item ∷ is) (same_items items)

  same_call : (call : Call) → bare_call (stored_call g sg call) ≡ bare_call call
  same_call (Reserve r n) = refl
  same_call (Submit r items) = ap (Submit r) (same_items items)
  same_call (Peek r n) = refl
  same_call (Release r n) = refl
  same_call (Swap m value) = refl
  same_call (Look m) = refl

  same_reply : (reply : Reply) → bare_reply (stored_reply g sg reply) ≡ bare_reply reply
  same_reply Granted = refl
  same_reply (Full places) = refl
  same_reply Submitted = refl
  same_reply (Items items) = ap Items (same_items items)
  same_reply Empty = refl
  same_reply Released = refl
  same_reply (Old value) = refl

  same_told : (e : Entry) → bare (told (stored_entry g sg e)) ≡ bare (told e)
  same_told e =
      ap (λ (call : Call). record { call = call; reply = bare_reply (stored_reply g sg e.reply) }) (same_call e.call)
      ∙ ap (λ (reply : Reply). record { call = bare_call e.call; reply = reply }) (same_reply e.reply)

  one_more : (b : Bool) (t u : Told) (ts us : List Told) → bare t ≡ bare u → map bare ts ≡ map bare us → map bare (cond b (t ∷ ts) ts) ≡ map bare (cond b (u ∷ us) us)
  one_more true t u ts us one more = ap (λ (v : Told). v ∷ map bare ts) one ∙ ap (λ (vs : List Told). bare u ∷ vs) more
  one_more false t u ts us one more = more

  pub same_own : (who : ℕ) (h : List Entry) → map bare (own who (stored g sg h)) ≡ map bare (own who h)
  same_own who [] = refl
  same_own who (e ∷ es) = one_more (e.who == who) (told (stored_entry g sg e)) (told e) (own who (stored g sg es)) (own who es) (same_told e) (same_own who es)

pub log_decides : LogDecides
log_decides c h who call =
    let same = same_own c.geometry c.sg who h in (
      bodies_dont_matter c (own who (stored c.geometry c.sg h)) (own who h) who call same,
      bodies_dont_matter c (own who h) (own who (stored c.geometry c.sg h)) who call (sym same),
    )

pub fails_in_log : (c : Config) (h : List Entry) (who : ℕ) (call : Call) (why : Illegal) → Fails why c (own who h) who call → Fails why c (own who (stored c.geometry c.sg h)) who call
fails_in_log c h who call why fails = fails_there why c (own who h) (own who (stored c.geometry c.sg h)) who call (sym (same_own c.geometry c.sg who h)) fails
