use Rattle.std.proofs.Common.{◌≡◌, ◌+◌, ◌∷◌, [], ◌++◌, length, arith, refl, ap, length-append, ◌∙◌}
use Rattle.xsk_model.specs.Stored.{stored_item}
use Rattle.xsk_plain.specs.Kept.{IsKept, AreKept, IsHeld}
use Rattle.xsk_log.specs.Notes.{NotesGrow}
use Rattle.xsk_log.specs.Log.{item_of, noted_in, notes_of}
use Rattle.xsk_plain.specs.Stores.{Has, piece_of}
use Rattle.xsk_log.proofs.Growing.{grows_same, notes_on}
use Rattle.xsk_plain.proofs.Moves.{item_kept, taken_step, taken_noted, tail_of, are_held_grown, out_kept_grown}
use Rattle.xsk_plain.proofs.moving.take_items.Goals as goal

pub loop-preserved : goal.loop-preserved
loop-preserved c =
    let first : c.loop.store.out.items ≡ c.unwrap-stored.result ∷ c.take.new.self.out.items = rw c.unwrap-stored.ensures at c.take.ensures.first in
    let has : Has c.take.new.self c.take.new.self.out.items (c.loop.store.held + 1) c.loop.store.room c.loop.store.size = rw c.unwrap-stored.ensures at c.take.ensures.some in
    let pushed : c.push.new.self ≡ c.loop.items ++ c.unwrap-stored.result.item ∷ [] = c.push.ensures in
    let grown : NotesGrow (notes_of c.loop.log) (notes_of c.note_stored.new.log) = record { bytes = grows_same (notes_of c.loop.log).bytes (notes_of c.note_stored.new.log).bytes c.note_stored.ensures.bytes; values = c.note_stored.ensures.values } in
    record {
      entries = c.note_stored.ensures.entries ∙ c.loop.invariant.entries;
      noted = λ config h. (let kept : AreKept config (notes_of c.loop.log) c.loop.store = c.loop.invariant.kept config h in
          taken_noted (stored_item config.geometry config.sg) (noted_in c.loop.log) (noted_in c.note_stored.new.log) c.loop.items c.push.new.self c.unwrap-stored.result.item
          (item_of (notes_of c.loop.log).bytes (piece_of c.unwrap-stored.result)) c.note_stored.ensures.noted
          (item_kept config (notes_of c.loop.log).bytes c.unwrap-stored.result (piece_of c.unwrap-stored.result) refl (tail_of (IsKept config (notes_of c.loop.log)) c.loop.store.out.items c.take.new.self.out.items c.unwrap-stored.result first kept).0.shows)
          pushed (c.loop.invariant.noted config h));
      calls = c.note_stored.ensures.calls ∙ c.loop.invariant.calls;
      done = omega (arith, ap length c.note_stored.ensures.noted, length-append (noted_in c.loop.log) (item_of (notes_of c.loop.log).bytes (piece_of c.unwrap-stored.result) ∷ []), c.loop.invariant.done);
      spare_entries = c.note_stored.ensures.spare_entries ∙ c.loop.invariant.spare_entries;
      spare_bytes = c.note_stored.ensures.spare_bytes ∙ c.loop.invariant.spare_bytes;
      notes = notes_on (notes_of c.args.log.now) (notes_of c.loop.log) (notes_of c.note_stored.new.log) c.loop.invariant.notes grown;
      count = omega (arith, ap length pushed, length-append c.loop.items (c.unwrap-stored.result.item ∷ []), c.loop.invariant.count);
      all = taken_step c.loop.items c.push.new.self c.loop.store.out.items c.take.new.self.out.items _ c.unwrap-stored.result pushed first c.loop.invariant.all;
      room = has.room ∙ c.loop.invariant.room;
      held = omega (arith, has.held, c.loop.invariant.held);
      size = has.size ∙ c.loop.invariant.size;
      holds = are_held_grown (notes_of c.loop.log) (notes_of c.note_stored.new.log) c.take.new.self.out.items grown
          (tail_of (IsHeld (notes_of c.loop.log)) c.loop.store.out.items c.take.new.self.out.items c.unwrap-stored.result first c.loop.invariant.holds).1;
      kept = λ config h. out_kept_grown config (notes_of c.loop.log) (notes_of c.note_stored.new.log) c.take.new.self.out.items grown
          (tail_of (IsKept config (notes_of c.loop.log)) c.loop.store.out.items c.take.new.self.out.items c.unwrap-stored.result first (c.loop.invariant.kept config h)).1;
    }
