-- How a line of a journal is read: its round, its caller and its call. The line's text itself is that of `xsk_log`, with the
-- round and a space in front; a reader gives what it read, and the text behind it.
use Rattle.std.specs.Prelude.{ℕ, zero, suc, ◌+◌, ◌-◌, ◌*◌, ◌^◌, ◌==◌, ◌&&◌, Bool, false, not, nat_le, nat_lt, if◌then◌else◌, Option, None, Some, List, [], ◌∷◌, codes, drop, map}
use Rattle.std.specs.Char.{is_ascii_digit}
use Rattle.std.specs.Borrow.{Bor}
use Rattle.xsk_umem.specs.declared.batch.Item.{Item}
use Rattle.xsk_umem.specs.declared.batch.XdpDesc.{XdpDesc}
use Rattle.xsk_model.specs.Asks.{joined_call}
use Rattle.xsk_model.specs.MarkKinds.{mark_of, kind_at, word_of}
use Rattle.xsk_model.specs.declared.ask.Ask.{Ask}
use Rattle.xsk_model.specs.declared.call.Ring.{Ring}
use Rattle.xsk_model.specs.declared.call.Ring.TheVariants.{Fill, Comp, Rx, Tx}
use Rattle.xsk_model.specs.declared.call.Mark.{Mark}
use Rattle.xsk_model.specs.declared.call.Mark.TheVariants as mark
use Rattle.xsk_model.specs.declared.marks.MarkKind.{MarkKind}
use Rattle.xsk_model.specs.declared.marks.MarkKind.TheVariants.{Cell}
use Rattle.xsk_model.specs.declared.call.Call.{Call}
use Rattle.xsk_model.specs.declared.call.Call.TheVariants.{Reserve, Submit, Peek, Release, Swap, Look}

-- what was read and the text behind it, or nothing
abbrev pub Reads : Type 0 → Type 0
Reads A = Option (A × List ℕ)

-- what a function read, with the text behind the reference
abbrev pub read_view : {A : Type 0} → Option (A × Bor (List ℕ)) → Reads A
read_view None = None
read_view (Some read) = Some (read.0, read.1.now)

abbrev pub text_view : Option (Bor (List ℕ)) → Option (List ℕ)
text_view None = None
text_view (Some text) = Some text.now

infixl 10 ◌>>=◌
abbrev pub ◌>>=◌ : {A B : Type 0} → Option A → (A → Option B) → Option B
None >>= f = None
Some x >>= f = f x

-- what follows a word that stands here, or else the other
abbrev pub choose : {A : Type 0} → Option (List ℕ) → (List ℕ → Option A) → Option A → Option A
choose None f other = other
choose (Some rest) f other = f rest

-- the text behind a word
unfoldable pub word_at : List ℕ → List ℕ → Option (List ℕ)
word_at [] xs = Some xs
word_at (w ∷ word) [] = None
word_at (w ∷ word) (x ∷ xs) = if x == w then word_at word xs else None

-- ---- numbers

-- the digits ended: there was one at least
abbrev pub digits_end : ℕ → ℕ → List ℕ → Reads ℕ
digits_end value len rest = if nat_lt 0 len then Some (value, rest) else None

-- whether a number has gone on behind a first digit of zero
abbrev pub is_leading_zero : ℕ → ℕ → Bool
is_leading_zero value len = value == 0 && nat_lt 0 len

-- a number, from the value and the count of the digits that were read
unfoldable pub digits_from : ℕ → ℕ → List ℕ → Reads ℕ
digits_from value len [] = digits_end value len []
digits_from value len (b ∷ rest) =
    if is_ascii_digit b then
    if is_leading_zero value len then None
    else if nat_le (2 ^ 64) (value * 10 + (b - 48)) then None
    else digits_from (value * 10 + (b - 48)) (len + 1) rest
    else digits_end value len (b ∷ rest)

-- decimal digits without leading zeros, of a number below 2^64, and below 2^32
abbrev pub number_at : List ℕ → Reads ℕ
number_at xs = digits_from 0 0 xs

abbrev pub fitting : ℕ × List ℕ → Reads ℕ
fitting read = if nat_lt read.0 (2 ^ 32) then Some read else None

unfoldable pub small_at : List ℕ → Reads ℕ
small_at xs = number_at xs >>= fitting

-- a number behind a word
abbrev pub numbered : {A : Type 0} → (ℕ → A) → List ℕ → Reads A
numbered make xs = small_at xs >>= λ read. Some (make read.0, read.1)

-- ---- words

abbrev pub driver_of : ℕ → ℕ × List ℕ → Reads ℕ
driver_of pairs read = if nat_lt read.0 pairs then Some read else None

abbrev pub application_of : ℕ → ℕ × List ℕ → Reads ℕ
application_of pairs read = if nat_lt (pairs + read.0) (2 ^ 32) then Some (pairs + read.0, read.1) else None

abbrev pub driver_at : ℕ → List ℕ → Reads ℕ
driver_at pairs xs = small_at xs >>= driver_of pairs

abbrev pub application_at : ℕ → List ℕ → Reads ℕ
application_at pairs xs = small_at xs >>= application_of pairs

-- the caller, where there are so many pairs
unfoldable pub who_at : ℕ → List ℕ → Reads ℕ
who_at pairs xs =
    choose (word_at (codes "d") xs) (driver_at pairs)
    (choose (word_at (codes "a") xs) (application_at pairs) None)

-- the ring of this one's kind with a number
abbrev pub ring_like : Ring → ℕ → Ring
ring_like (Fill _) n = Fill n
ring_like (Comp _) n = Comp n
ring_like (Rx _) n = Rx n
ring_like (Tx _) n = Tx n

unfoldable pub ring_at : List ℕ → Reads Ring
ring_at xs =
    choose (word_at (codes "fill.") xs) (numbered Fill)
    (choose (word_at (codes "comp.") xs) (numbered Comp)
    (choose (word_at (codes "rx.") xs) (numbered Rx)
    (choose (word_at (codes "tx.") xs) (numbered Tx) None)))

-- the index of a cell of this port, behind a dot
unfoldable pub cell_at : ℕ → List ℕ → Reads Mark
cell_at port xs = word_at (codes ".") xs >>= λ rest. small_at rest >>= λ index. Some (mark.Cell port index.0, index.1)

-- the number of a mark of this kind, and what is behind it of a cell
abbrev pub rest_of_kind : MarkKind → ℕ × List ℕ → Reads Mark
rest_of_kind Cell read = cell_at read.0 read.1
rest_of_kind kind read = Some (mark_of kind read.0 0, read.1)

abbrev pub mark_of_kind : MarkKind → List ℕ → Reads Mark
mark_of_kind kind xs = small_at xs >>= rest_of_kind kind

-- a mark of the first of so many kinds, from this row on, whose word stands here
unfoldable pub mark_from : (n row : ℕ) → List ℕ → Reads Mark
mark_from zero row xs = None
mark_from (suc n) row xs = choose (word_at (word_of (kind_at row)) xs) (mark_of_kind (kind_at row)) (mark_from n (row + 1) xs)

abbrev pub mark_at : List ℕ → Reads Mark
mark_at xs = mark_from 10 0 xs

-- ---- items

-- an item without its frame
abbrev pub frameless : XdpDesc → Item
frameless desc = record { frame = None; desc = desc }

unfoldable pub desc_at : List ℕ → Reads XdpDesc
desc_at xs =
    number_at xs >>= λ addr. word_at (codes ":") addr.1 >>= λ rest.
    small_at rest >>= λ len. word_at (codes ":") len.1 >>= λ later.
    small_at later >>= λ options. Some (record { addr = addr.0; len = len.0; options = options.0 }, options.1)

-- an item begins here: a space and a digit
abbrev pub begins_item : List ℕ → Bool
begins_item [] = false
begins_item (x ∷ []) = false
begins_item (x ∷ y ∷ xs) = x == 32 && is_ascii_digit y

-- so many items at most, each behind a space, up to where none begins
unfoldable pub items_at : ℕ → List ℕ → Option (List Item)
items_at zero xs = if begins_item xs then None else Some []
items_at (suc n) xs =
    if not (begins_item xs) then Some []
    else desc_at (drop 1 xs) >>= λ desc. items_at n desc.1 >>= λ more. Some (frameless desc.0 ∷ more)

-- ---- calls

unfoldable pub counted_at : List ℕ → Option (Ring × ℕ)
counted_at xs = ring_at xs >>= λ ring. word_at (codes " ") ring.1 >>= λ rest. small_at rest >>= λ n. Some (ring.0, n.0)

unfoldable pub swap_at : List ℕ → Option Call
swap_at xs = mark_at xs >>= λ mark. word_at (codes " ") mark.1 >>= λ rest. number_at rest >>= λ value. Some (Swap mark.0 value.0)

unfoldable pub submit_at : List ℕ → Option Call
submit_at xs = ring_at xs >>= λ ring. items_at 32 ring.1 >>= λ items. Some (Submit ring.0 items)

abbrev pub reserve_at : List ℕ → Option Call
reserve_at xs = counted_at xs >>= λ read. Some (Reserve read.0 read.1)

abbrev pub peek_at : List ℕ → Option Call
peek_at xs = counted_at xs >>= λ read. Some (Peek read.0 read.1)

abbrev pub release_at : List ℕ → Option Call
release_at xs = counted_at xs >>= λ read. Some (Release read.0 read.1)

abbrev pub look_at : List ℕ → Option Call
look_at xs = mark_at xs >>= λ mark. Some (Look mark.0)

-- The call that a text begins with; its items have no frames.
unfoldable pub call_at : List ℕ → Option Call
call_at xs =
    choose (word_at (codes "reserve ") xs) reserve_at
    (choose (word_at (codes "submit ") xs) submit_at
    (choose (word_at (codes "peek ") xs) peek_at
    (choose (word_at (codes "release ") xs) release_at
    (choose (word_at (codes "swap ") xs) swap_at
    (choose (word_at (codes "look ") xs) look_at None)))))

-- the call as a line tells it: its items have no frames
abbrev pub read_items : List Item → List Item
read_items items = map (λ (i : Item). frameless i.desc) items

abbrev pub read_call : Call → Call
read_call (Reserve r n) = Reserve r n
read_call (Submit r items) = Submit r (read_items items)
read_call (Peek r n) = Peek r n
read_call (Release r n) = Release r n
read_call (Swap m value) = Swap m value
read_call (Look m) = Look m

-- what a line tells but for its reply
pub record Said : Type 0 where
  pub round : ℕ
  pub who : ℕ
  pub call : Call

unfoldable pub line_at : ℕ → List ℕ → Option Said
line_at pairs xs =
    number_at xs >>= λ round. word_at (codes " ") round.1 >>= λ rest.
    who_at pairs rest >>= λ who. word_at (codes " ") who.1 >>= λ later.
    call_at later >>= λ call. Some (record { round = round.0; who = who.0; call = call })

-- a call that was read, whose items stand beside it
abbrev pub asked_with : Option Ask → List Item → Option Call
asked_with None items = None
asked_with (Some ask) items = Some (joined_call ask items)
