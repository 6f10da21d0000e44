-- What a seat of the table knows, and what the table is told once.
use Rattle.std.specs.Prelude.{ℕ, false, None, List, [], take, drop}
use Rattle.xsk_umem.specs.Frame.{Frame}
use Rattle.xsk_umem.specs.declared.batch.Item.{Item}
use Rattle.xsk_model.specs.Config.{Config}
use Rattle.xsk_model.specs.Entry.{Entry}
use Rattle.xsk_model.specs.declared.call.Ring.{Ring}

-- the configuration, the count at which all words start, and the frames that were handed in
pub record Basis : Type 0 where
  pub config : Config
  pub first : ℕ
  pub frames : List Frame

-- A call in flight: none; the items that a Submit has placed, and one more whose frame is being moved into its slot; the
-- items that a Peek has left, and one before them whose frame is being moved out. While a frame is moved its slot is
-- with the caller.
pub data Flight : Type 0 where
  idle : Flight
  placing : Ring → List Item → Flight
  writing : Ring → List Item → Item → Flight
  taking : Ring → List Item → Flight
  fetching : Ring → Item → List Item → Flight

-- what a seat knows: its callers, the history that they have seen, and their call in flight; and a history that it was
-- told of, with the callers of whom all is told there
pub record View : Type 0 where
  pub setup : Basis
  pub callers : List ℕ
  pub seen : List Entry
  pub flight : Flight
  pub told : List Entry
  pub others : List ℕ

-- a seat of these callers, before any call
abbrev pub newcomer : Basis → List ℕ → View
newcomer k callers = record { setup = k; callers = callers; seen = []; flight = idle; told = []; others = [] }

-- the seat of the first caller, and that of the others
abbrev pub first_caller : View → View
first_caller v = record v { callers = take 1 v.callers; others = [] }

abbrev pub other_callers : View → View
other_callers v = record v { callers = drop 1 v.callers }

-- a seat of no caller that has seen as much
abbrev pub note_of : View → View
note_of v = record (newcomer v.setup []) { seen = v.seen }

-- a seat that another is put into: it is told what the other has seen, and of whose entries all stand there
abbrev pub told_of : View → View → View
told_of v u = record v { told = u.seen; others = u.callers }

-- a basis of nothing
abbrev pub no_setup : Basis
no_setup = record {
  config = record { geometry = record { frames = 0; chunk = 0; headroom = 0 }; ports = 0; queues = 0; sockets = []; pairs = []; cells = []; sg = false; wakeup = false; closing = None };
  first = 0;
  frames = [];
}

-- a seat that was put into another
abbrev pub spent : View
spent = newcomer no_setup []
