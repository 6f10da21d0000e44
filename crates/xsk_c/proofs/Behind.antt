-- Lines, one behind the other.
use Rattle.std.proofs.Common.{◌≡◌, ℕ, ◌+◌, ◌≤◌, Option, Some, List, [], ◌∷◌, ◌++◌, length, take, drop, sym, ap, ◌∙◌, arith}
use Rattle.std.proofs.Math.Seq.{take-append_seam, drop-append-add}
use Rattle.std.proofs.lemmas.List.{drop-drop, append-nil}
use Rattle.std.proofs.lemmas.Grind.{flat_map-append}
use Rattle.xsk_model.specs.Entry.{Entry}
use Rattle.xsk_log.specs.Line.{TakesLine, line_of}
use Rattle.xsk_c.specs.Journal.{lines_of}

-- the entry whose line was taken
pub taken : (pairs who : ℕ) (es later : List Entry) (before line : List ℕ) → TakesLine pairs es later before line (Some who)
    → (e : Entry) × (es ≡ e ∷ later) × (line ≡ line_of pairs e)
taken pairs who [] later before line h =
    let no : ⊥ = cc h.0 in
    absurd no
taken pairs who (e ∷ es) later before line h = (e, ap (λ (l : List Entry). e ∷ l) (sym h.1), h.2)

-- whatever is taken, one entry less is left
pub past_one : (pairs : ℕ) (told : Option ℕ) (es later : List Entry) (before line : List ℕ) → TakesLine pairs es later before line told → 1 ≤ length es
    → (e : Entry) × (es ≡ e ∷ later)
past_one pairs told [] later before line h some = absurd (omega (arith, some))
past_one pairs told (e ∷ es) later before line h some = (e, ap (λ (l : List Entry). e ∷ l) (sym h.1))

-- the line of one more
pub one_more : (pairs : ℕ) (told : List Entry) (e : Entry) → lines_of pairs (told ++ e ∷ []) ≡ lines_of pairs told ++ line_of pairs e
one_more pairs told e = flat_map-append (line_of pairs) told (e ∷ []) ∙ ap (λ (l : List ℕ). lines_of pairs told ++ l) (append-nil (line_of pairs e))

-- a text at the front of a room, and a line behind it
pub put_behind : (text line room : List ℕ) (at : ℕ) → at ≡ length text
    → take at (text ++ drop at room) ++ line ++ drop (at + length line) (text ++ drop at room) ≡ (text ++ line) ++ drop (at + length line) room
put_behind text line room at is =
    let front : take at (text ++ drop at room) ≡ text = ap (λ (n : ℕ). take n (text ++ drop at room)) is ∙ take-append_seam text (drop at room) in
    let back : drop (at + length line) (text ++ drop at room) ≡ drop (at + length line) room =
    ap (λ (n : ℕ). drop (n + length line) (text ++ drop at room)) is ∙ drop-append-add text (drop at room) (length line) ∙ drop-drop (length line) at room in
    ap (λ (l : List ℕ). l ++ line ++ drop (at + length line) (text ++ drop at room)) front
    ∙ ap (λ (l : List ℕ). (text ++ line) ++ l) back
