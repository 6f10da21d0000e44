-- Lists behind which others have come.
use Rattle.std.proofs.Common.{◌≡◌, ℕ, List, [], ◌++◌, refl, sym, ap, ◌∙◌, append_assoc, append-nil}
use Rattle.xsk_log.specs.Notes.{Notes, NotesGrow}
use Rattle.xsk_log.specs.Repeats.{KeepsValues}
use Rattle.xsk_log.specs.Extents.{Grows}

pub grows_none : (bytes : List ℕ) → Grows bytes bytes
grows_none bytes = record { more = []; is = sym (append-nil bytes) }

pub grows_more : (old bytes new more : List ℕ) → Grows old bytes → new ≡ bytes ++ more → Grows old new
grows_more old bytes new more h is = record { more = h.more ++ more; is = is ∙ ap (λ xs. xs ++ more) h.is ∙ append_assoc old h.more more }

pub grows_on : (old bytes new : List ℕ) → Grows old bytes → Grows bytes new → Grows old new
grows_on old bytes new h k = grows_more old bytes new k.more h k.is

pub grows_same : (old new : List ℕ) → new ≡ old → Grows old new
grows_same old new is = record { more = []; is = is ∙ sym (append-nil old) }

pub keeps_same : {T : Type 0} (old new : List T) → new ≡ old → KeepsValues old new
keeps_same old new is = record { more = []; is = is ∙ sym (append-nil old) }

pub keeps_on : {T : Type 0} (old now new : List T) → KeepsValues old now → KeepsValues now new → KeepsValues old new
keeps_on old now new h k = record { more = h.more ++ k.more; is = k.is ∙ ap (λ xs. xs ++ k.more) h.is ∙ append_assoc old h.more k.more }

pub notes_none : (notes : Notes) → NotesGrow notes notes
notes_none notes = record { bytes = grows_same notes.bytes notes.bytes refl; values = keeps_same notes.values notes.values refl }

pub notes_on : (old now new : Notes) → NotesGrow old now → NotesGrow now new → NotesGrow old new
notes_on old now new h k = record {
  bytes = grows_on old.bytes now.bytes new.bytes h.bytes k.bytes;
  values = keeps_on old.values now.values new.values h.values k.values;
}
