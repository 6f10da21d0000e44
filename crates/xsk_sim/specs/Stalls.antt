-- When nothing changes any more: rounds in which the object stays as it is and no packet gets its disposal. What a run does
-- then is this project's own.
use Rattle.std.specs.Prelude.{◌≡◌, ℕ, zero, suc, ◌<◌, List, [], ◌∷◌, ◌++◌, length}
use Rattle.xsk_umem.specs.Frame.{Frame}
use Rattle.xsk_model.specs.Config.{classes_of, callers_of}
use Rattle.xsk_model.specs.Entry.{Told, Entry, own}
use Rattle.xsk_model.specs.History.{state_after}
use Rattle.xsk_turns.specs.Script.{Script, ask, again, ended, never, begun}
use Rattle.xsk_turns.specs.Turns.{Kept, seat_of, start, turn}
use Rattle.xsk_turns.specs.Workers.{Setting, input_of, IsWholeRun}
use Rattle.xsk_sim.specs.Rounds.{AreRounds, IsRound}

-- How many packets have their disposal where a script's last call is made; before its first call it is a given number. So a
-- packet gets its disposal at the first call that its driver makes after it.
abbrev pub settled_along : (Kept → Script Kept) → Script Kept → List Told → ℕ → ℕ
settled_along turn script [] count = count
settled_along turn (ask kept call rest) (t ∷ l) count = settled_along turn (begun turn (rest t.reply)) l (length kept.disposals)
settled_along turn (again kept) (t ∷ l) count = count
settled_along turn (ended kept) (t ∷ l) count = count
settled_along turn never (t ∷ l) count = count

-- how many the driver of a pair has by its own calls and replies, and by a history: none before its first call
abbrev pub settled_of : Setting → ℕ → List Told → ℕ
settled_of s pair l = settled_along (turn (seat_of s.wire s.config pair)) (turn (seat_of s.wire s.config pair) (start (classes_of s.config) (input_of s pair))) l 0

abbrev pub settled_by : Setting → List Entry → ℕ → ℕ
settled_by s h pair = settled_of s pair (own pair h)

-- an entry after past ones changes nothing: the object stays as it was, and no packet gets its disposal
pub record IsQuiet (s : Setting) (frames : List Frame) (past : List Entry) (e : Entry) : Type 0 where
  pub object : state_after s.config frames (past ++ e ∷ []) ≡ state_after s.config frames past
  pub settled : (pair : ℕ) → pair < length s.config.pairs → settled_by s (past ++ e ∷ []) pair ≡ settled_by s past pair

-- nor does any of these
abbrev pub AreQuiet : Setting → List Frame → List Entry → List Entry → Type 0
AreQuiet s frames past [] = Unit {0}
AreQuiet s frames past (e ∷ es) = IsQuiet s frames past e × AreQuiet s frames (past ++ e ∷ []) es

-- the entries of rounds, from the first on, of which the last ones, so many, change nothing: first their number, and then
-- that of all rounds
abbrev pub StandStill : Setting → List Frame → ℕ → ℕ → ℕ → List Entry → Type 0
StandStill s frames order zero count h = AreRounds (IsWholeRun s) (callers_of s.config) order count h
StandStill s frames order (suc still) zero h = ⊥
StandStill s frames order (suc still) (suc round) h =
    (past es : List Entry) × (h ≡ past ++ es) × StandStill s frames order still round past × IsRound (IsWholeRun s) (callers_of s.config) order round past es
    × AreQuiet s frames past es
