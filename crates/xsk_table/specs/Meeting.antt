-- What callers learn of one another: notes, and seats that are put together.
use Rattle.std.specs.Prelude.{◌≡◌, ℕ, ◌<◌, List, [], ◌++◌, Option}
use Rattle.atomic_table.specs.Table.{Step}
use Rattle.atomic_table.specs.Seated.{TableId}
use Rattle.xsk_umem.specs.Frame.{Frame}
use Rattle.xsk_model.specs.Numbers.{times}
use Rattle.xsk_model.specs.Entry.{Entry, own}
use Rattle.xsk_model.specs.History.{IsHistory}
use Rattle.xsk_table.specs.View.{Basis}
use Rattle.xsk_table.specs.Rule.{StartsWith}
use Rattle.xsk_table.specs.Plays.{Seated, Purpose}
use Rattle.xsk_table.specs.Held.{Holder}

-- a note as its holder sees it: the table to which it belongs, and what the caller who took it had seen
pub record Noted : Type 0 where
  pub table : TableId
  pub seen : List Entry

abbrev pub note_by : Holder → Noted
note_by p = record { table = p.table; seen = p.view.seen }

-- After a meet a caller has seen a legal history that begins with all that it had seen, and with all that the note shows.
-- Of its own entries the history has those that it had, and no further one.
pub record Meets (k : Basis) (who : ℕ) (before noted after : List Entry) : Type 0 where
  pub mine : StartsWith after before
  pub note : StartsWith after noted
  pub legal : IsHistory k.config k.frames after
  pub no_more : own who after ≡ own who before

-- a look that adds nothing: the seat has then seen all that it had seen, and all that it was told of, and the others
-- whose entries stood there are callers of its own
pub record Met (k : Basis) (m m' : Seated) : Type 0 where
  pub seen : StartsWith m'.0.seen m.0.seen
  pub told : StartsWith m'.0.seen m.0.told
  pub legal : IsHistory k.config k.frames m'.0.seen
  pub mine : (w : ℕ) → 0 < times w m.0.callers → own w m'.0.seen ≡ own w m.0.seen
  pub others : (w : ℕ) → 0 < times w m.0.others → own w m'.0.seen ≡ own w m.0.told
  pub view : m'.0 ≡ record m.0 { callers = m.0.callers ++ m.0.others; seen = m'.0.seen; told = []; others = [] }
  pub slots : m'.1 ≡ m.1

abbrev pub meets : Purpose → Step (Option Frame) → Seated → ℕ → Seated → Type 0
meets a st m found m' = Met a.setup m m'
