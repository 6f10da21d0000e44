-- Items on their way into a ring and out of it, and what the log notes of them.
use Rattle.std.proofs.Common.{◌≡◌, ℕ, Option, Some, None, List, [], ◌∷◌, ◌++◌, length, map, refl, sym, ap, ◌∙◌, arith, append_assoc, length-append}
use Rattle.std.specs.Prelude.{All, slice_get}
use Rattle.std.specs.Option.{option_map}
use Rattle.std.proofs.lemmas.List.{map-append, map_push}
use Rattle.std.proofs.lemmas.List.Elements.{All-head, All-tail, All-same, All-push, All-weaker}
use Rattle.xsk_umem.specs.Frame.{Frame}
use Rattle.xsk_umem.specs.declared.batch.Item.{Item}
use Rattle.xsk_model.specs.Config.{Config}
use Rattle.xsk_model.specs.Descriptor.{payload}
use Rattle.xsk_model.specs.Stored.{stored_item}
use Rattle.xsk_log.specs.declared.log.Piece.{Piece}
use Rattle.xsk_log.specs.declared.log.Extent.{Extent}
use Rattle.xsk_plain.specs.declared.ring_store.RingStore.{RingStore}
use Rattle.xsk_plain.specs.declared.ring_store.Stored.{Stored}
use Rattle.xsk_plain.specs.Kept.{IsNotedAt, IsKept, AreKept, AllKept, IsHeld, AreHeld}
use Rattle.xsk_log.specs.Notes.{Notes, NotesGrow}
use Rattle.xsk_log.specs.Repeats.{KeepsValues}
use Rattle.xsk_log.specs.Log.{frame_at, item_of}
use Rattle.xsk_log.specs.Extents.{at_extent, IsWithin, Grows}
use Rattle.xsk_plain.specs.Stores.{stored_item_of, piece_of}
use Rattle.std.proofs.lemmas.Option.{slice_get_within}
use Rattle.xsk_log.proofs.Places.{slice_get-append}
use Rattle.xsk_log.proofs.Parts.{at_extent-append}

-- ---- payloads

noted_grown : (old new : List Piece) (piece : Piece) (place : Option ℕ) → KeepsValues old new → IsNotedAt old piece place → IsNotedAt new piece place
noted_grown old new piece None grows h = h
noted_grown old new piece (Some place) grows h = ap (λ vs. slice_get vs place) grows.is ∙ slice_get-append old grows.more place (slice_get_within old place piece h) ∙ h

within_grown : (old new : List ℕ) (extent : Extent) → Grows old new → IsWithin old extent → IsWithin new extent
within_grown old new extent grows h = omega (arith, h, ap length grows.is, length-append old grows.more)

kept_grown : (c : Config) (old new : Notes) (stored : Stored) → NotesGrow old new → IsKept c old stored → IsKept c new stored
kept_grown c old new stored grows h = record {
  within = within_grown old.bytes new.bytes stored.payload grows.bytes h.within;
  shows = ap (λ (xs : List ℕ). at_extent xs stored.payload) grows.bytes.is ∙ at_extent-append old.bytes grows.bytes.more stored.payload h.within ∙ h.shows;
  noted = noted_grown old.values new.values (piece_of stored) stored.place grows.values h.noted;
}

held_grown : (old new : Notes) (stored : Stored) → NotesGrow old new → IsHeld old stored → IsHeld new stored
held_grown old new stored grows h = record {
  within = within_grown old.bytes new.bytes stored.payload grows.bytes h.within;
  noted = noted_grown old.values new.values (piece_of stored) stored.place grows.values h.noted;
}

pub are_held_grown : (old new : Notes) (out : List Stored) → NotesGrow old new → All (IsHeld old) out → All (IsHeld new) out
are_held_grown old new out grows h = All-weaker (IsHeld old) (IsHeld new) (λ stored k. held_grown old new stored grows k) out h

-- what is kept is held
pub are_held : (c : Config) (notes : Notes) (store : RingStore) → AreKept c notes store → AreHeld notes store
are_held c notes store h = All-weaker (IsKept c notes) (IsHeld notes) (λ stored k. record { within = k.within; noted = k.noted }) store.out.items h

pub out_kept_grown : (c : Config) (old new : Notes) (out : List Stored) → NotesGrow old new → All (IsKept c old) out → All (IsKept c new) out
out_kept_grown c old new out grows h = All-weaker (IsKept c old) (IsKept c new) (λ stored k. kept_grown c old new stored grows k) out h

pub are_kept_grown : (c : Config) (old new : Notes) (store : RingStore) → NotesGrow old new → AreKept c old store → AreKept c new store
are_kept_grown c old new store grows h = out_kept_grown c old new store.out.items grows h

pub all_kept_grown : (c : Config) (old new : Notes) (stores : List RingStore) → NotesGrow old new → AllKept c old stores → AllKept c new stores
all_kept_grown c old new stores grows h = All-weaker (AreKept c old) (AreKept c new) (λ store k. are_kept_grown c old new store grows k) stores h

-- ---- pieces and payloads behind others

frame_kept : (bytes shown : List ℕ) (extent : Extent) (frame : Option Frame) → at_extent bytes extent ≡ shown
    → option_map (frame_at bytes extent) (option_map (λ (f : Frame). f.number) frame) ≡ option_map (λ (f : Frame). record f { bytes = shown }) frame
frame_kept bytes shown extent None is = refl
frame_kept bytes shown extent (Some f) is = ap (λ (xs : List ℕ). Some (record { number = f.number; bytes = xs })) is

-- what the log shows of an item whose payload is kept
pub item_kept : (c : Config) (bytes : List ℕ) (stored : Stored) (piece : Piece) → piece ≡ piece_of stored → at_extent bytes stored.payload ≡ payload c.geometry c.sg stored.item → item_of bytes piece ≡ stored_item c.geometry c.sg stored.item
item_kept c bytes stored piece is shows =
    ap (item_of bytes) is
    ∙ ap (λ (f : Option Frame). record { frame = f; desc = stored.item.desc }) (frame_kept bytes (payload c.geometry c.sg stored.item) stored.payload stored.item.frame shows)

-- ---- items that are put

pub noted_step : (st : Item → Item) (before now rest left all : List Item) (item shown : Item) → now ≡ before ++ shown ∷ [] → shown ≡ st item → left ≡ item ∷ rest
    → before ++ map st left ≡ map st all → now ++ map st rest ≡ map st all
noted_step st before now rest left all item shown is shows first done =
    ap (λ xs. xs ++ map st rest) is ∙ append_assoc before (shown ∷ []) (map st rest) ∙ ap (λ (i : Item). before ++ (i ∷ map st rest)) shows
    ∙ ap (λ xs. before ++ map st xs) (sym first) ∙ done

pub out_step : (before after : List Stored) (left rest all : List Item) (stored : Stored) → after ≡ before ++ stored ∷ [] → left ≡ stored.item ∷ rest
    → map stored_item_of before ++ left ≡ all → map stored_item_of after ++ rest ≡ all
out_step before after left rest all stored is first done =
    ap (λ xs. map stored_item_of xs ++ rest) is ∙ ap (λ xs. xs ++ rest) (map-append stored_item_of before (stored ∷ []))
    ∙ append_assoc (map stored_item_of before) (stored.item ∷ []) rest ∙ ap (λ xs. map stored_item_of before ++ xs) (sym first) ∙ done

-- a put item is kept
pub put_kept : (c : Config) (bytes : Notes) (before after : RingStore) (stored : Stored) → after.out.items ≡ before.out.items ++ stored ∷ [] → AreKept c bytes before
    → IsKept c bytes stored → AreKept c bytes after
put_kept c bytes before after stored is kept new =
    All-same (IsKept c bytes) after.out.items (before.out.items ++ stored ∷ []) is (All-push (IsKept c bytes) before.out.items stored kept new)

-- ---- items that are taken

pub taken_step : (before after : List Item) (out rest : List Stored) (all : List Item) (stored : Stored) → after ≡ before ++ stored.item ∷ [] → out ≡ stored ∷ rest
    → before ++ map stored_item_of out ≡ all → after ++ map stored_item_of rest ≡ all
taken_step before after out rest all stored is first done =
    ap (λ xs. xs ++ map stored_item_of rest) is ∙ append_assoc before (stored.item ∷ []) (map stored_item_of rest)
    ∙ ap (λ xs. before ++ map stored_item_of xs) (sym first) ∙ done

pub taken_noted : (st : Item → Item) (noted now before after : List Item) (item shown : Item) → now ≡ noted ++ shown ∷ [] → shown ≡ st item → after ≡ before ++ item ∷ []
    → noted ≡ map st before → now ≡ map st after
taken_noted st noted now before after item shown is shows pushed done =
    is ∙ ap (λ (i : Item). noted ++ i ∷ []) shows ∙ ap (λ xs. xs ++ st item ∷ []) done ∙ sym (map_push st before item) ∙ ap (map st) (sym pushed)

pub tail_of : (P : Stored → Type 0) (out rest : List Stored) (stored : Stored) → out ≡ stored ∷ rest → All P out → P stored × All P rest
tail_of P out rest stored first all =
    let whole : All P (stored ∷ rest) = All-same P (stored ∷ rest) out (sym first) all in
    (All-head P stored rest whole, All-tail P stored rest whole)
