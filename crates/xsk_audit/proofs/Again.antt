-- A line is read as what it tells, but for its reply.
use Rattle.std.proofs.Common.{◌≡◌, ℕ, zero, suc, ◌+◌, ◌-◌, ◌%◌, ◌^◌, ◌<◌, ◌≤◌, true, false, List, [], ◌∷◌, ◌++◌, length, All, Some, refl, ap, ◌∙◌, arith, inl, inr, append_assoc}
use Rattle.std.specs.Prelude.{codes}
use Rattle.std.specs.Char.{is_ascii_digit}
use Rattle.std.specs.Fmt.{decimal}
use Rattle.std.proofs.lemmas.Bool.{cases_lt, lt-ltb, le-ltb}
use Rattle.std.proofs.lemmas.Fmt.{decimal_by_steps}
use Rattle.std.proofs.lemmas.List.Elements.{All-head, All-tail}
use Rattle.xsk_umem.specs.declared.batch.Item.{Item}
use Rattle.xsk_umem.specs.declared.batch.XdpDesc.{XdpDesc}
use Rattle.xsk_model.specs.declared.call.Ring.{Ring}
use Rattle.xsk_model.specs.declared.call.Ring.TheVariants.{Fill, Comp, Rx, Tx}
use Rattle.xsk_model.specs.declared.call.Mark.{Mark}
use Rattle.xsk_model.specs.declared.call.Mark.TheVariants.{NeedFill, NeedTx, Kick, RxDone, Gone, TxDone, Cell, Closing, Acked, Bounced}
use Rattle.xsk_model.specs.declared.marks.MarkKind.{MarkKind}
use Rattle.xsk_model.specs.declared.marks.MarkKind.TheVariants as kinds
use Rattle.xsk_model.specs.declared.call.Call.{Call}
use Rattle.xsk_model.specs.declared.call.Call.TheVariants.{Reserve, Submit, Peek, Release, Swap, Look}
use Rattle.xsk_log.specs.Line.{who_text, ring_text, mark_text, desc_text, item_text, items_text, call_text, reply_text, line_of}
use Rattle.xsk_audit.specs.Lines.{begins_digit}
use Rattle.xsk_audit.specs.Reading.{small_at, numbered, word_at, who_at, ring_at, cell_at, rest_of_kind, mark_of_kind, mark_from, mark_at, desc_at, items_at, begins_item, counted_at, swap_at, submit_at, call_at, line_at, read_items, read_call}
use Rattle.xsk_audit.specs.Telling.{Timed, journal_line}
use Rattle.xsk_audit.proofs.Numbers.{number-again}

-- ---- numbers that a line can tell

abbrev pub FitsRing : Ring → Type 0
FitsRing (Fill n) = n < 2 ^ 32
FitsRing (Comp n) = n < 2 ^ 32
FitsRing (Rx n) = n < 2 ^ 32
FitsRing (Tx n) = n < 2 ^ 32

abbrev pub FitsMark : Mark → Type 0
FitsMark (NeedFill n) = n < 2 ^ 32
FitsMark (NeedTx n) = n < 2 ^ 32
FitsMark (Kick n) = n < 2 ^ 32
FitsMark (RxDone n) = n < 2 ^ 32
FitsMark (Gone n) = n < 2 ^ 32
FitsMark (TxDone n) = n < 2 ^ 32
FitsMark (Cell port index) = (port < 2 ^ 32) × (index < 2 ^ 32)
FitsMark (Closing n) = n < 2 ^ 32
FitsMark (Acked n) = n < 2 ^ 32
FitsMark (Bounced n) = n < 2 ^ 32

abbrev pub FitsItem : Item → Type 0
FitsItem item = (item.desc.addr < 2 ^ 64) × (item.desc.len < 2 ^ 32) × (item.desc.options < 2 ^ 32)

abbrev pub FitsCall : Call → Type 0
FitsCall (Reserve r n) = FitsRing r × (n < 2 ^ 32)
FitsCall (Submit r items) = FitsRing r × All FitsItem items × (length items ≤ 32)
FitsCall (Peek r n) = FitsRing r × (n < 2 ^ 32)
FitsCall (Release r n) = FitsRing r × (n < 2 ^ 32)
FitsCall (Swap m value) = FitsMark m × (value < 2 ^ 64)
FitsCall (Look m) = FitsMark m

-- ---- digits

abbrev BeginsDigit : ℕ → List ℕ → Type 0
BeginsDigit n ds = (rest : List ℕ) → begins_digit (ds ++ rest) ≡ true

pub digit-front : (n : ℕ) → n < 2 ^ 64 → (rest : List ℕ) → begins_digit (decimal n ++ rest) ≡ true
digit-front n fits rest = decimal_by_steps BeginsDigit
    (λ k low r. let d : is_ascii_digit (48 + k) ≡ true = grind arith in d)
    (λ k ds big ih r. ap begins_digit (append_assoc ds ((48 + k % 10) ∷ []) r) ∙ ih ((48 + k % 10) ∷ r))
    n fits rest

small-again : (n : ℕ) (rest : List ℕ) → n < 2 ^ 32 → begins_digit rest ≡ false → small_at (decimal n ++ rest) ≡ Some (n, rest)
unfolding small_at
small-again n rest fits other = rw (number-again n rest (omega (arith, fits)) other, lt-ltb n (2 ^ 32) fits) refl

numbered-again : {A : Type 0} (make : ℕ → A) (n : ℕ) (rest : List ℕ) → n < 2 ^ 32 → begins_digit rest ≡ false → numbered make (decimal n ++ rest) ≡ Some (make n, rest)
numbered-again make n rest fits other = rw (small-again n rest fits other) refl

-- ---- words

ring-again : (r : Ring) (rest : List ℕ) → FitsRing r → begins_digit rest ≡ false → ring_at (ring_text r ++ rest) ≡ Some (r, rest)
unfolding ring_at word_at
ring-again (Fill n) rest fits other = ap ring_at (append_assoc (codes "fill.") (decimal n) rest) ∙ numbered-again Fill n rest fits other
ring-again (Comp n) rest fits other = ap ring_at (append_assoc (codes "comp.") (decimal n) rest) ∙ numbered-again Comp n rest fits other
ring-again (Rx n) rest fits other = ap ring_at (append_assoc (codes "rx.") (decimal n) rest) ∙ numbered-again Rx n rest fits other
ring-again (Tx n) rest fits other = ap ring_at (append_assoc (codes "tx.") (decimal n) rest) ∙ numbered-again Tx n rest fits other

-- a number behind a word, and behind it the index of a cell
marked-again : (kind : MarkKind) (n : ℕ) (rest : List ℕ) → n < 2 ^ 32 → begins_digit rest ≡ false → mark_of_kind kind (decimal n ++ rest) ≡ rest_of_kind kind (n, rest)
marked-again kind n rest fits other = rw (small-again n rest fits other) refl

cell-again : (port index : ℕ) (rest : List ℕ) → port < 2 ^ 32 → index < 2 ^ 32 → begins_digit rest ≡ false
    → mark_of_kind kinds.Cell (decimal port ++ (codes "." ++ (decimal index ++ rest))) ≡ Some (Cell port index, rest)
unfolding cell_at word_at
cell-again port index rest fits within other =
    marked-again kinds.Cell port (codes "." ++ (decimal index ++ rest)) fits refl ∙ rw (small-again index rest within other) refl

mark-again : (m : Mark) (rest : List ℕ) → FitsMark m → begins_digit rest ≡ false → mark_at (mark_text m ++ rest) ≡ Some (m, rest)
unfolding mark_from word_at
mark-again (NeedFill n) rest fits other = ap mark_at (append_assoc (codes "need.fill.") (decimal n) rest) ∙ marked-again kinds.NeedFill n rest fits other
mark-again (NeedTx n) rest fits other = ap mark_at (append_assoc (codes "need.tx.") (decimal n) rest) ∙ marked-again kinds.NeedTx n rest fits other
mark-again (Kick n) rest fits other = ap mark_at (append_assoc (codes "kick.") (decimal n) rest) ∙ marked-again kinds.Kick n rest fits other
mark-again (RxDone n) rest fits other = ap mark_at (append_assoc (codes "rxdone.") (decimal n) rest) ∙ marked-again kinds.RxDone n rest fits other
mark-again (Gone n) rest fits other = ap mark_at (append_assoc (codes "gone.") (decimal n) rest) ∙ marked-again kinds.Gone n rest fits other
mark-again (TxDone n) rest fits other = ap mark_at (append_assoc (codes "txdone.") (decimal n) rest) ∙ marked-again kinds.TxDone n rest fits other
mark-again (Cell port index) rest fits other =
    ap mark_at (append_assoc (codes "cell." ++ decimal port ++ codes ".") (decimal index) rest ∙ append_assoc (codes "cell." ++ decimal port) (codes ".") (decimal index ++ rest)
    ∙ append_assoc (codes "cell.") (decimal port) (codes "." ++ (decimal index ++ rest)))
    ∙ cell-again port index rest fits.0 fits.1 other
mark-again (Closing n) rest fits other = ap mark_at (append_assoc (codes "closing.") (decimal n) rest) ∙ marked-again kinds.Closing n rest fits other
mark-again (Acked n) rest fits other = ap mark_at (append_assoc (codes "acked.") (decimal n) rest) ∙ marked-again kinds.Acked n rest fits other
mark-again (Bounced n) rest fits other = ap mark_at (append_assoc (codes "bounced.") (decimal n) rest) ∙ marked-again kinds.Bounced n rest fits other

who-again : (pairs who : ℕ) (rest : List ℕ) → who < 2 ^ 32 → begins_digit rest ≡ false → who_at pairs (who_text pairs who ++ rest) ≡ Some (who, rest)
unfolding who_at word_at
who-again pairs who rest fits other = elim (cases_lt who pairs) [
  | inl driver ↦ rw (lt-ltb who pairs driver)
      (ap (who_at pairs) (append_assoc (codes "d") (decimal who) rest) ∙ rw (small-again who rest fits other, lt-ltb who pairs driver) refl)
  | inr app ↦
      let e : pairs + (who - pairs) ≡ who = omega arith in
      rw (le-ltb who pairs app)
      (ap (who_at pairs) (append_assoc (codes "a") (decimal (who - pairs)) rest)
      ∙ rw (small-again (who - pairs) rest (omega (arith, fits)) other, e, lt-ltb who (2 ^ 32) fits) refl)
]

-- ---- items

-- a descriptor's text, from its address on
from-address : (d : XdpDesc) (rest : List ℕ) → desc_text d ++ rest ≡ decimal d.addr ++ (codes ":" ++ (decimal d.len ++ (codes ":" ++ (decimal d.options ++ rest))))
from-address d rest =
    let a = decimal d.addr in
    let l = decimal d.len in
    let o = decimal d.options in
    append_assoc (a ++ codes ":" ++ l ++ codes ":") o rest ∙ append_assoc (a ++ codes ":" ++ l) (codes ":") (o ++ rest)
    ∙ append_assoc (a ++ codes ":") l (codes ":" ++ (o ++ rest)) ∙ append_assoc a (codes ":") (l ++ (codes ":" ++ (o ++ rest)))

desc-again : (d : XdpDesc) (rest : List ℕ) → d.addr < 2 ^ 64 → d.len < 2 ^ 32 → d.options < 2 ^ 32 → begins_digit rest ≡ false → desc_at (desc_text d ++ rest) ≡ Some (d, rest)
unfolding desc_at word_at
desc-again d rest addr len options other =
    let later = codes ":" ++ (decimal d.options ++ rest) in
    ap desc_at (from-address d rest)
    ∙ rw (number-again d.addr (codes ":" ++ (decimal d.len ++ later)) addr refl, small-again d.len later len refl, small-again d.options rest options other) refl

desc-digit : (d : XdpDesc) (rest : List ℕ) → d.addr < 2 ^ 64 → begins_digit (desc_text d ++ rest) ≡ true
desc-digit d rest addr = ap begins_digit (from-address d rest) ∙ digit-front d.addr addr (codes ":" ++ (decimal d.len ++ (codes ":" ++ (decimal d.options ++ rest))))

space-digit : (ys : List ℕ) → begins_digit ys ≡ true → begins_item (32 ∷ ys) ≡ true
space-digit [] digit = cc digit
space-digit (y ∷ ys) digit = digit

next-other : (items : List Item) (rest : List ℕ) → begins_digit rest ≡ false → begins_digit (items_text items ++ rest) ≡ false
next-other [] rest other = other
next-other (item ∷ items) rest other = refl

items-again : (n : ℕ) (items : List Item) (rest : List ℕ) → length items ≤ n → All FitsItem items → begins_digit rest ≡ false → begins_item rest ≡ false
    → items_at n (items_text items ++ rest) ≡ Some (read_items items)
unfolding items_at
items-again zero [] rest few all other none = rw none refl
items-again zero (item ∷ items) rest few all other none = absurd (omega (arith, few))
items-again (suc n) [] rest few all other none = rw none refl
items-again (suc n) (item ∷ items) rest few all other none =
    let fits = All-head FitsItem item items all in
    let later = items_text items ++ rest in
    ap (items_at (suc n)) (append_assoc (item_text item) (items_text items) rest)
    ∙ rw (
      space-digit (desc_text item.desc ++ later) (desc-digit item.desc later fits.0),
      desc-again item.desc later fits.0 fits.1 fits.2 (next-other items rest other),
      items-again n items rest (omega (arith, few)) (All-tail FitsItem item items all) other none,
    ) refl

-- ---- calls

-- a ring and a number
counted-again : (r : Ring) (n : ℕ) (rest : List ℕ) → FitsRing r → n < 2 ^ 32 → begins_digit rest ≡ false
    → counted_at (ring_text r ++ (codes " " ++ (decimal n ++ rest))) ≡ Some (r, n)
unfolding counted_at word_at
counted-again r n rest fits few other = rw (ring-again r (codes " " ++ (decimal n ++ rest)) fits refl, small-again n rest few other) refl

-- a word, a ring and a number
after-word : (word : List ℕ) (xs : List ℕ) (n : ℕ) (rest : List ℕ) → word ++ xs ++ codes " " ++ decimal n ++ rest ≡ word ++ (xs ++ (codes " " ++ (decimal n ++ rest)))
after-word word xs n rest =
    append_assoc (word ++ xs ++ codes " ") (decimal n) rest ∙ append_assoc (word ++ xs) (codes " ") (decimal n ++ rest) ∙ append_assoc word xs (codes " " ++ (decimal n ++ rest))

call-again : (call : Call) (rest : List ℕ) → FitsCall call → begins_digit rest ≡ false → begins_item rest ≡ false → call_at (call_text call ++ rest) ≡ Some (read_call call)
unfolding call_at submit_at swap_at word_at
call-again (Reserve r n) rest fits other none = ap call_at (after-word (codes "reserve ") (ring_text r) n rest) ∙ rw (counted-again r n rest fits.0 fits.1 other) refl
call-again (Submit r items) rest fits other none =
    ap call_at (append_assoc (codes "submit " ++ ring_text r) (items_text items) rest ∙ append_assoc (codes "submit ") (ring_text r) (items_text items ++ rest))
    ∙ rw (ring-again r (items_text items ++ rest) fits.0 (next-other items rest other), items-again 32 items rest fits.2 fits.1 other none) refl
call-again (Peek r n) rest fits other none = ap call_at (after-word (codes "peek ") (ring_text r) n rest) ∙ rw (counted-again r n rest fits.0 fits.1 other) refl
call-again (Release r n) rest fits other none = ap call_at (after-word (codes "release ") (ring_text r) n rest) ∙ rw (counted-again r n rest fits.0 fits.1 other) refl
call-again (Swap m value) rest fits other none =
    ap call_at (after-word (codes "swap ") (mark_text m) value rest)
    ∙ rw (mark-again m (codes " " ++ (decimal value ++ rest)) fits.0 refl, number-again value rest fits.1 other) refl
call-again (Look m) rest fits other none = ap call_at (append_assoc (codes "look ") (mark_text m) rest) ∙ rw (mark-again m rest fits other) refl

-- ---- lines

pub line-again : (pairs : ℕ) (t : Timed) → t.round < 2 ^ 64 → t.entry.who < 2 ^ 32 → FitsCall t.entry.call
    → line_at pairs (journal_line pairs t) ≡ Some (record { round = t.round; who = t.entry.who; call = read_call t.entry.call })
unfolding line_at word_at
line-again pairs t round who call =
    let w = who_text pairs t.entry.who in
    let b = call_text t.entry.call in
    let r = reply_text t.entry.reply in
    let end = codes " -> " ++ (r ++ codes "\n") in
    let tail : w ++ codes " " ++ b ++ codes " -> " ++ r ++ codes "\n" ≡ w ++ (codes " " ++ (b ++ end)) =
    append_assoc (w ++ codes " " ++ b ++ codes " -> ") r (codes "\n") ∙ append_assoc (w ++ codes " " ++ b) (codes " -> ") (r ++ codes "\n")
    ∙ append_assoc (w ++ codes " ") b end ∙ append_assoc w (codes " ") (b ++ end) in
    ap (line_at pairs) (append_assoc (decimal t.round) (codes " ") (line_of pairs t.entry) ∙ ap (λ l. decimal t.round ++ (codes " " ++ l)) tail)
    ∙ rw (
      number-again t.round (codes " " ++ (w ++ (codes " " ++ (b ++ end)))) round refl,
      who-again pairs t.entry.who (codes " " ++ (b ++ end)) who refl,
      call-again t.entry.call end call refl refl,
    ) refl
