-- The calls for which a judge stands: they are possible, and what it keeps is what they leave. Lists have the latest call first.
use Rattle.std.specs.Prelude.{◌≡◌, ℕ, ◌+◌, ◌^◌, ◌<◌, ◌≤◌, nat_lt, Bool, true, false, ◌&&◌, ◌||◌, if◌then◌else◌, List, [], ◌∷◌, ◌++◌, length, map}
use Rattle.std.specs.List.{slice_index_or}
use Rattle.xsk_model.specs.declared.call.Ring.{Ring}
use Rattle.xsk_model.specs.declared.call.Ring.TheVariants.{Tx}
use Rattle.xsk_model.specs.Rings.{is_ring}
use Rattle.xsk_side.specs.Setting.{Setting, HasRing, pair_of}
use Rattle.xsk_side.specs.Entries.{stands, strays_in}
use Rattle.xsk_side.specs.Object.{is_made, ring_of}
use Rattle.xsk_side.specs.Own.{Held, entry_of, room_of, held_of, put_back, has_frame}
use Rattle.xsk_side.specs.Legal.{IsLegal}
use Rattle.xsk_side.specs.Possible.{Possible}
use Rattle.xsk_side.specs.Local.{sure_of, back_of, given_of, strays_given}
use Rattle.xsk_side.specs.declared.call.Party.TheVariants.{Program}
use Rattle.xsk_side.specs.declared.call.Answer.TheVariants.{Granted, Full, Refused}
use Rattle.xsk_side.specs.declared.call.Call.{Call}
use Rattle.xsk_side.specs.declared.call.Call.TheVariants.{Reserve, Free, Submit, Peek, Release, Cancel}
use Rattle.xsk_judge.specs.Kept.{Queue, Kept, is_mine, given_by, numbered, spot_by, known_in, end_at, queue_at, strays_at}
use Rattle.xsk_judge.specs.Judging.{is_latest, IsSized}
use Rattle.xsk_judge.specs.declared.known.Spot.{Spot}
use Rattle.xsk_judge.specs.declared.known.Spot.TheVariants.{First, Shown, On, Back}
use Rattle.xsk_judge.specs.declared.known.Known.{Known}
use Rattle.xsk_judge.specs.declared.why.Why.{Why}
use Rattle.xsk_judge.specs.declared.why.Why.TheVariants.{Rule, Kernel, TooMany}

-- a call with its line
pub record Line : Type 0 where
  pub line : ℕ
  pub call : Call

abbrev pub call_of : Line → Call
call_of l = l.call

abbrev pub calls_of : List Line → List Call
calls_of lines = map call_of lines

-- the line at which a frame came to where it is
abbrev pub moves : Setting → ℕ → List Call → Call → Bool
moves s f past (Reserve r n answer) = false
moves s f past (Free r n places) = false
moves s f past (Submit r entries) = stands s f entries
moves s f past (Peek r n entries) = stands s f entries
moves s f past (Release r n) = false
moves s f past (Cancel r n) = stands s f (put_back s past r n)

abbrev pub since_of : Setting → ℕ → List Line → ℕ
since_of s f [] = 0
since_of s f (l ∷ lines) = if moves s f (calls_of lines) l.call then l.line else since_of s f lines

-- whether a call shows how many places of its ring are free, where so many were free for certain
abbrev pub shows : ℕ → Call → Bool
shows sure (Reserve r n Granted) = nat_lt sure n
shows sure (Reserve r n (Full told)) = true
shows sure (Reserve r n Refused) = false
shows sure (Free r n places) = nat_lt places n || nat_lt sure places
shows sure (Submit r entries) = false
shows sure (Peek r n entries) = false
shows sure (Release r n) = false
shows sure (Cancel r n) = false

-- the last line that showed how many places of FILL or TX are free
abbrev pub shown_of : Setting → Ring → List Line → ℕ
shown_of s r [] = 0
shown_of s r (l ∷ lines) = if is_ring r (ring_of l.call) && shows (sure_of s r (calls_of lines)) l.call then l.line else shown_of s r lines

abbrev pub is_cancel : Call → Bool
is_cancel (Reserve r n answer) = false
is_cancel (Free r n places) = false
is_cancel (Submit r entries) = false
is_cancel (Peek r n entries) = false
is_cancel (Release r n) = false
is_cancel (Cancel r n) = true

-- the line of the last Cancel on a ring: what stands there again has stood there since
abbrev pub again_since : Ring → List Line → ℕ
again_since r [] = 0
again_since r (l ∷ lines) = if is_ring r (ring_of l.call) && is_cancel l.call then l.line else again_since r lines

-- where a call puts the frames that it moves
abbrev pub spot_behind : Call → Spot → Spot
spot_behind (Reserve r n answer) spot = spot
spot_behind (Free r n places) spot = spot
spot_behind (Submit r entries) spot = On r
spot_behind (Peek r n entries) spot = Shown r
spot_behind (Release r n) spot = spot
spot_behind (Cancel r n) spot = Back r

-- where a frame is
abbrev pub spot_of : Setting → ℕ → List Line → Spot
spot_of s f [] = First
spot_of s f (l ∷ lines) = if moves s f (calls_of lines) l.call then spot_behind l.call (spot_of s f lines) else spot_of s f lines

pub record IsKnown (s : Setting) (lines : List Line) (f : ℕ) (known : Known) : Type 0 where
  pub mine : is_mine known.place ≡ has_frame s f (calls_of lines)
  pub given : given_by known.place ≡ given_of s (calls_of lines) f
  pub since : known.since ≡ since_of s f lines
  pub spot : spot_by known.place ≡ spot_of s f lines

pub record IsQueue (s : Setting) (calls : List Call) (frames : List Known) (r : Ring) (queue : Queue) : Type 0 where
  pub entries : queue.entries ≡ map entry_of (held_of s r calls) ++ back_of s r calls
  pub held : queue.held ≡ length (held_of s r calls)
  pub latest : (i : ℕ) (h : Held) → i < queue.held
      → is_latest s frames r (numbered queue.first i) (slice_index_or (held_of s r calls) i h).entry ≡ (slice_index_or (held_of s r calls) i h).untouched

pub record StandsFor (s : Setting) (kept : Kept) (lines : List Line) : Type 0 where
  pub possible : Possible s (calls_of lines)
  pub frames : (f : ℕ) → f < s.geometry.frames → IsKnown s lines f (known_in kept.frames f)
  pub room : (r : Ring) → HasRing s r → is_made r ≡ true → (end_at s kept r).room ≡ room_of r (calls_of lines)
  pub sure : (r : Ring) → HasRing s r → is_made r ≡ true → (end_at s kept r).sure ≡ sure_of s r (calls_of lines)
  pub shown : (r : Ring) → HasRing s r → is_made r ≡ true → (end_at s kept r).shown ≡ shown_of s r lines
  pub again : (r : Ring) → HasRing s r → is_made r ≡ false → (queue_at s kept r).again ≡ again_since r lines
  pub queues : (r : Ring) → HasRing s r → is_made r ≡ false → IsQueue s (calls_of lines) kept.frames r (queue_at s kept r)
  pub strays : (d : ℕ) → d < length s.pairs → strays_at kept d ≡ strays_given s d (calls_of lines)

-- it stands for some calls
pub record IsReady (s : Setting) (kept : Kept) : Type 0 where
  pub sized : IsSized s kept
  pub lines : List Line
  pub stands : StandsFor s kept lines

-- Why a call isn't possible after those: the program may not make it; it may, but there is no kernel that gives it this reply; or the
-- judge can't count so many addresses that name no frame.
abbrev pub IsWhy : Setting → List Line → Call → Why → Type 0
IsWhy s lines call (Rule rule) = IsLegal s Program (calls_of lines) call → ⊥
IsWhy s lines call (Kernel denial) = IsLegal s Program (calls_of lines) call × (Possible s (call ∷ calls_of lines) → ⊥)
IsWhy s lines (Submit (Tx k) entries) TooMany = 2 ^ 64 ≤ strays_given s (pair_of s (Tx k)) (calls_of lines) + strays_in s entries
IsWhy s lines call TooMany = ⊥
