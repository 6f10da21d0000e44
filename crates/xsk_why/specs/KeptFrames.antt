-- The frames that callers have, as they are kept: one list of all, in the order in which they were got.
use Rattle.std.specs.Prelude.{ℕ, ◌+◌, ◌==◌, ◌&&◌, Bool, true, false, if◌then◌else◌, Option, Some, None, List, [], ◌∷◌, ◌++◌, map, take, drop}
use Rattle.xsk_model.specs.Entry.{Entry}
use Rattle.xsk_model.specs.Object.{had_after}
use Rattle.xsk_model.specs.declared.ask.Ask.{Ask}
use Rattle.xsk_model.specs.declared.ask.Ask.TheVariants.{Reserve, Submit, Peek, Release, Swap, Look}
use Rattle.xsk_why.specs.declared.held.Held.{Held}

abbrev pub held_by : ℕ → ℕ → Held
held_by who frame = record { who = who; frame = frame }

abbrev pub all_by : ℕ → List ℕ → List Held
all_by who frames = map (held_by who) frames

-- those of one caller
abbrev pub had_by : ℕ → List Held → List ℕ
had_by who [] = []
had_by who (h ∷ held) = if h.who == who then h.frame ∷ had_by who held else had_by who held

abbrev pub is_held : ℕ → ℕ → Held → Bool
is_held who frame h = h.who == who && h.frame == frame

-- without the first place of a frame of a caller, and without those of some frames
abbrev pub without_held : ℕ → ℕ → List Held → List Held
without_held who frame [] = []
without_held who frame (h ∷ held) = if is_held who frame h then held else h ∷ without_held who frame held

abbrev pub without_all : ℕ → List ℕ → List Held → List Held
without_all who [] held = held
without_all who (frame ∷ frames) held = without_all who frames (without_held who frame held)

-- without what stands at a place
abbrev pub cut_at : Option ℕ → List Held → List Held
cut_at None held = held
cut_at (Some place) held = take place held ++ drop (place + 1) held

abbrev pub is_submit : Ask → Bool
is_submit (Reserve r n) = false
is_submit (Submit r) = true
is_submit (Peek r n) = false
is_submit (Release r n) = false
is_submit (Swap m value) = false
is_submit (Look m) = false

-- what a call leaves of a caller's frames
abbrev pub had_next : ℕ → List ℕ → Entry → List ℕ
had_next who had e = if e.who == who then had_after had e.call e.reply else had
