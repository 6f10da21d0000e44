use Rattle.std.proofs.Common.{◌≡◌, ℕ, List, Some, None, ◌+◌, ◌∷◌, [], ◌++◌, length, arith, sym, ap, subst, length-append, ◌∙◌}
use Rattle.std.proofs.lemmas.List.Sums.{sum_by-cons}
use Rattle.xsk_umem.specs.declared.batch.Item.{Item}
use Rattle.xsk_model.specs.Descriptor.{payload}
use Rattle.xsk_model.specs.Stored.{stored_item}
use Rattle.xsk_plain.specs.Kept.{IsKept}
use Rattle.xsk_log.specs.Notes.{NotesGrow}
use Rattle.xsk_plain.specs.declared.ring_store.Stored.{Stored}
use Rattle.xsk_log.specs.Log.{item_of, noted_in, notes_of}
use Rattle.xsk_plain.specs.Rooms.{items_bytes}
use Rattle.xsk_log.specs.Extents.{at_extent, IsWithin}
use Rattle.xsk_log.proofs.Growing.{keeps_same, grows_same, notes_on}
use Rattle.xsk_plain.proofs.Moves.{are_kept_grown, item_kept, noted_step, out_step, put_kept}
use Rattle.xsk_plain.proofs.moving.put_items.Goals as goal

pub loop-preserved : goal.loop-preserved
loop-preserved c =
    let first : c.loop.items ≡ c.unwrap-item.result ∷ c.pop_front.new.self = rw c.unwrap-item.ensures at c.pop_front.ensures.some in
    let shown : c.payload_of.result.now ≡ payload c.args.config.now.geometry c.args.config.now.sg c.unwrap-item.result =
    c.payload_of.ensures ∙ ap (λ g. payload g c.sg.result c.unwrap-item.result) c.geometry.ensures.value ∙ ap (λ b. payload c.args.config.now.geometry b c.unwrap-item.result) c.sg.ensures in
    let shows = c.keep-payload.ensures.shows ∙ shown in
    let item : item_of (notes_of c.keep-payload.new.self).bytes c.piece.result ≡ stored_item c.args.config.now.geometry c.args.config.now.sg c.unwrap-item.result =
    item_kept c.args.config.now (notes_of c.keep-payload.new.self).bytes (record { item = c.unwrap-item.result; payload = c.keep-payload.result; place = None }) c.piece.result c.piece.ensures shows in
    let noted = c.note-place.ensures.notes.noted ∙ ap (λ xs. xs ++ item_of (notes_of c.keep-payload.new.self).bytes c.piece.result ∷ []) c.keep-payload.ensures.noted in
    let count : length c.loop.items ≡ length c.pop_front.new.self + 1 = ap length first ∙ omega arith in
    let bytes : items_bytes c.args.config.now c.loop.items ≡ length (payload c.args.config.now.geometry c.args.config.now.sg c.unwrap-item.result) + items_bytes c.args.config.now c.pop_front.new.self =
    ap (items_bytes c.args.config.now) first ∙ sum_by-cons (λ (item : Item). length (payload c.args.config.now.geometry c.args.config.now.sg item)) c.unwrap-item.result c.pop_front.new.self in
    let long : length c.payload_of.result.now ≡ length (payload c.args.config.now.geometry c.args.config.now.sg c.unwrap-item.result) = ap length shown in
    let kept_notes : NotesGrow (notes_of c.loop.log) (notes_of c.keep-payload.new.self) = record { bytes = c.keep-payload.ensures.bytes; values = keeps_same (notes_of c.loop.log).values (notes_of c.keep-payload.new.self).values c.keep-payload.ensures.values } in
    let noted_notes : NotesGrow (notes_of c.keep-payload.new.self) (notes_of c.note-place.new.self) = record { bytes = grows_same (notes_of c.keep-payload.new.self).bytes (notes_of c.note-place.new.self).bytes c.note-place.ensures.notes.bytes; values = c.note-place.ensures.notes.values } in
    let grown : NotesGrow (notes_of c.loop.log) (notes_of c.note-place.new.self) = notes_on (notes_of c.loop.log) (notes_of c.keep-payload.new.self) (notes_of c.note-place.new.self) kept_notes noted_notes in
    let stored : Stored = record { item = c.unwrap-item.result; payload = c.keep-payload.result; place = Some c.note-place.result } in
    let kept : IsKept c.args.config.now (notes_of c.note-place.new.self) stored = record {
      within = subst (λ (bs : List ℕ). IsWithin bs c.keep-payload.result) (sym c.note-place.ensures.notes.bytes) c.keep-payload.ensures.within;
      shows = ap (λ (bs : List ℕ). at_extent bs c.keep-payload.result) c.note-place.ensures.notes.bytes ∙ shows;
      noted = c.note-place.ensures.place ∙ ap Some c.piece.ensures;
    } in
    record {
      entries = c.note-place.ensures.notes.entries ∙ c.keep-payload.ensures.entries ∙ c.loop.invariant.entries;
      noted = noted_step (stored_item c.args.config.now.geometry c.args.config.now.sg) (noted_in c.loop.log) (noted_in c.note-place.new.self) c.pop_front.new.self c.loop.items c.args.items.now
          c.unwrap-item.result (item_of (notes_of c.keep-payload.new.self).bytes c.piece.result) noted item first c.loop.invariant.noted;
      calls = c.note-place.ensures.notes.calls ∙ c.keep-payload.ensures.calls ∙ c.loop.invariant.calls;
      done = omega (arith, ap length noted, length-append (noted_in c.loop.log) (item_of (notes_of c.keep-payload.new.self).bytes c.piece.result ∷ []), c.loop.invariant.done);
      spare_entries = c.note-place.ensures.notes.spare_entries ∙ c.keep-payload.ensures.spare_entries ∙ c.loop.invariant.spare_entries;
      spare_bytes = omega (arith, c.note-place.ensures.notes.spare_bytes, c.keep-payload.ensures.spare_bytes, c.loop.invariant.spare_bytes, bytes, long);
      notes = notes_on (notes_of c.args.log.now) (notes_of c.loop.log) (notes_of c.note-place.new.self) c.loop.invariant.notes grown;
      rest = omega (arith, c.loop.invariant.rest, count);
      few = c.loop.invariant.few;
      out = out_step c.loop.store.out.items c.put.new.self.out.items c.loop.items c.pop_front.new.self _ stored
          c.put.ensures.out first c.loop.invariant.out;
      room = omega (arith, c.put.ensures.room, c.requires.room, c.loop.invariant.room, count);
      held = c.put.ensures.held ∙ c.loop.invariant.held;
      size = c.put.ensures.size ∙ c.loop.invariant.size;
      kept = λ h. put_kept c.args.config.now (notes_of c.note-place.new.self) c.loop.store c.put.new.self stored c.put.ensures.out
          (are_kept_grown c.args.config.now (notes_of c.loop.log) (notes_of c.note-place.new.self) c.loop.store grown (c.loop.invariant.kept h)) kept;
    }

pub put-requires : goal.put-requires
put-requires c =
    let first : c.loop.items ≡ c.unwrap-item.result ∷ c.pop_front.new.self = rw c.unwrap-item.ensures at c.pop_front.ensures.some in
    let count : length c.loop.items ≡ length c.pop_front.new.self + 1 = ap length first ∙ omega arith in
    omega (arith, c.loop.invariant.room, c.requires.room, count)
