-- A mark by its parts: its kind, the number of what it belongs to and, of a cell, its index. The kinds are counted in the
-- order of `mark_place`.
use Rattle.std.specs.Prelude.{◌≡◌, ℕ, ◌^◌, ◌<◌, ◌≤◌, ◌⊎◌, ◌↔◌, ◌==◌, if◌then◌else◌, List, codes, length, slice_index}
use Rattle.xsk_model.specs.Config.{Config, HasRing, map_of}
use Rattle.xsk_model.specs.Marks.{HasMark, HoldsClosing, IsMarkNumber, apps_of}
use Rattle.xsk_model.specs.declared.call.Ring.TheVariants.{Tx}
use Rattle.xsk_model.specs.declared.call.Mark.{Mark}
use Rattle.xsk_model.specs.declared.call.Mark.TheVariants as mark
use Rattle.xsk_model.specs.declared.marks.Belongs.{Belongs}
use Rattle.xsk_model.specs.declared.marks.Belongs.TheVariants.{Pair, Socket, Sender, Application, Map}
use Rattle.xsk_model.specs.declared.marks.Range.{Range}
use Rattle.xsk_model.specs.declared.marks.Range.TheVariants as range
use Rattle.xsk_model.specs.declared.marks.Columns.{Columns}
use Rattle.xsk_model.specs.declared.marks.MarkKind.{MarkKind}
use Rattle.xsk_model.specs.declared.marks.MarkKind.TheVariants.{NeedFill, NeedTx, Kick, RxDone, Gone, TxDone, Cell, Closing, Acked, Bounced}

abbrev pub kind_of : Mark → MarkKind
kind_of (mark.NeedFill d) = NeedFill
kind_of (mark.NeedTx s) = NeedTx
kind_of (mark.Kick d) = Kick
kind_of (mark.RxDone d) = RxDone
kind_of (mark.Gone d) = Gone
kind_of (mark.TxDone a) = TxDone
kind_of (mark.Cell port index) = Cell
kind_of (mark.Closing s) = Closing
kind_of (mark.Acked s) = Acked
kind_of (mark.Bounced d) = Bounced

-- of the pair, the socket or the application; of a cell its port
abbrev pub number_of : Mark → ℕ
number_of (mark.NeedFill d) = d
number_of (mark.NeedTx s) = s
number_of (mark.Kick d) = d
number_of (mark.RxDone d) = d
number_of (mark.Gone d) = d
number_of (mark.TxDone a) = a
number_of (mark.Cell port index) = port
number_of (mark.Closing s) = s
number_of (mark.Acked s) = s
number_of (mark.Bounced d) = d

-- a mark that isn't a cell has none
abbrev pub index_of : Mark → ℕ
index_of (mark.Cell port index) = index
index_of _ = 0

abbrev pub mark_of : MarkKind → ℕ → ℕ → Mark
mark_of NeedFill number index = mark.NeedFill number
mark_of NeedTx number index = mark.NeedTx number
mark_of Kick number index = mark.Kick number
mark_of RxDone number index = mark.RxDone number
mark_of Gone number index = mark.Gone number
mark_of TxDone number index = mark.TxDone number
mark_of Cell number index = mark.Cell number index
mark_of Closing number index = mark.Closing number
mark_of Acked number index = mark.Acked number
mark_of Bounced number index = mark.Bounced number

abbrev pub row_of : MarkKind → ℕ
row_of NeedFill = 0
row_of NeedTx = 1
row_of Kick = 2
row_of RxDone = 3
row_of Gone = 4
row_of TxDone = 5
row_of Cell = 6
row_of Closing = 7
row_of Acked = 8
row_of Bounced = 9

-- each row behind the others is that of the last kind
abbrev pub kind_at : ℕ → MarkKind
kind_at row =
    if row == 0 then NeedFill
    else if row == 1 then NeedTx
    else if row == 2 then Kick
    else if row == 3 then RxDone
    else if row == 4 then Gone
    else if row == 5 then TxDone
    else if row == 6 then Cell
    else if row == 7 then Closing
    else if row == 8 then Acked
    else Bounced

-- the word of a kind in a journal, with the dot before the number
abbrev pub word_of : MarkKind → List ℕ
word_of NeedFill = codes "need.fill."
word_of NeedTx = codes "need.tx."
word_of Kick = codes "kick."
word_of RxDone = codes "rxdone."
word_of Gone = codes "gone."
word_of TxDone = codes "txdone."
word_of Cell = codes "cell."
word_of Closing = codes "closing."
word_of Acked = codes "acked."
word_of Bounced = codes "bounced."

-- what marks of a kind belong to, and the numbers that they may have
abbrev pub columns_of : MarkKind → Columns
columns_of NeedFill = record { belongs = Pair; range = range.Flag }
columns_of NeedTx = record { belongs = Sender; range = range.Flag }
columns_of Kick = record { belongs = Pair; range = range.Flag }
columns_of RxDone = record { belongs = Pair; range = range.Flag }
columns_of Gone = record { belongs = Pair; range = range.Flag }
columns_of TxDone = record { belongs = Application; range = range.Flag }
columns_of Cell = record { belongs = Map; range = range.Cell }
columns_of Closing = record { belongs = Socket; range = range.Flag }
columns_of Acked = record { belongs = Socket; range = range.Flag }
columns_of Bounced = record { belongs = Pair; range = range.Count }

-- what a mark of this number and index belongs to is there
abbrev pub IsThere : Config → Belongs → ℕ → ℕ → Type 0
IsThere c Pair number index = number < length c.pairs
IsThere c Socket number index = number < length c.sockets
IsThere c Sender number index = HasRing c (Tx number)
IsThere c Application number index = number < apps_of c
IsThere c Map number index = (number < c.ports) × (index < length (map_of c number))

-- a number of a range
abbrev pub IsInRange : Config → Range → ℕ → ℕ → ℕ → Type 0
IsInRange c range.Flag number index value = value ≤ 1
IsInRange c range.Cell number index value = (value ≡ slice_index (map_of c number) index) ⊎ ((value ≡ 0) × (s : ℕ) × HoldsClosing c number index s)
IsInRange c range.Count number index value = value < 2 ^ 64

-- ---- the laws of the parts

-- each mark is that of its parts
abbrev pub PartsMake : Type 0
PartsMake = (m : Mark) → mark_of (kind_of m) (number_of m) (index_of m) ≡ m

-- the parts of a mark are those that it was made of
abbrev pub MadeOfParts : Type 0
MadeOfParts = (kind : MarkKind) (number index : ℕ) → (kind_of (mark_of kind number index) ≡ kind) × (number_of (mark_of kind number index) ≡ number)

-- each kind stands in its row, and the rows are 0 to 9
abbrev pub RowsOfKinds : Type 0
RowsOfKinds = (kind : MarkKind) → (row_of kind < 10) × (kind_at (row_of kind) ≡ kind)

-- a mark is there where what it belongs to is there
abbrev pub BelongsTells : Type 0
BelongsTells = (c : Config) (m : Mark) → HasMark c m ↔ IsThere c (columns_of (kind_of m)).belongs (number_of m) (index_of m)

-- a mark's numbers are those of its range
abbrev pub RangeTells : Type 0
RangeTells = (c : Config) (m : Mark) (value : ℕ) → IsMarkNumber c m value ↔ IsInRange c (columns_of (kind_of m)).range (number_of m) (index_of m) value
