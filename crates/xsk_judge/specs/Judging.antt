-- One call by what is kept: whether the program may make it, whether a kernel may answer so, and what is kept behind it. The form is
-- this project's own.
use Rattle.std.specs.Prelude.{◌≡◌, ℕ, ◌+◌, ◌-◌, ◌^◌, ◌<◌, ◌≤◌, ◌⊎◌, max, nat_lt, Bool, true, false, ◌||◌, not, IsTrue, All, if◌then◌else◌, Option, Some, List, [], ◌∷◌, ◌++◌, length, take, drop}
use Rattle.std.specs.List.{slice_index_or, slice_set}
use Rattle.xsk_umem.specs.declared.batch.XdpDesc.{XdpDesc}
use Rattle.xsk_model.specs.declared.call.Ring.{Ring}
use Rattle.xsk_model.specs.declared.call.Ring.TheVariants.{Fill, Comp, Rx, Tx}
use Rattle.xsk_model.specs.Descriptor.{is_inside}
use Rattle.xsk_side.specs.Setting.{Setting, HasRing, size_of, pair_of}
use Rattle.xsk_side.specs.Entries.{frame, times, strays_in}
use Rattle.xsk_side.specs.Object.{is_made, granted}
use Rattle.xsk_side.specs.Legal.{IsReceived, IsCompleted}
use Rattle.xsk_side.specs.Local.{FitsAnswer, FitsEntries, sure_answer, new_of}
use Rattle.xsk_side.specs.declared.call.Answer.{Answer}
use Rattle.xsk_side.specs.declared.call.Answer.TheVariants.{Granted, Full, Refused}
use Rattle.xsk_side.specs.declared.call.Call.{Call}
use Rattle.xsk_side.specs.declared.call.Call.TheVariants.{Reserve, Free, Submit, Peek, Release, Cancel}
use Rattle.xsk_judge.specs.declared.known.Whereabouts.TheVariants.{Peeked, Given, Again}
use Rattle.xsk_judge.specs.declared.known.Known.{Known}
use Rattle.xsk_judge.specs.declared.known.End.{End}
use Rattle.xsk_judge.specs.Kept.{Queue, Kept, is_mine, given_by, is_as, numbered, known_in, place, end_at, queue_at, strays_at, standing, with_end, with_queue}

-- ---- sizes

-- the ring on which a frame is given
abbrev pub given_in : List Known → ℕ → Option Ring
given_in frames f = given_by (known_in frames f).place

pub record IsSized (s : Setting) (kept : Kept) : Type 0 where
  pub frames : length kept.frames ≡ s.geometry.frames
  pub ends : length kept.ends ≡ length s.pairs + length s.sockets
  pub queues : length kept.queues ≡ length s.pairs + length s.sockets
  pub strays : length kept.strays ≡ length s.pairs
  pub size : (r : Ring) → HasRing s r → is_made r ≡ false → (queue_at s kept r).size ≡ size_of s r

-- and what is kept is within them
pub record IsFor (s : Setting) (kept : Kept) : Type 0 where
  pub frames : length kept.frames ≡ s.geometry.frames
  pub ends : length kept.ends ≡ length s.pairs + length s.sockets
  pub queues : length kept.queues ≡ length s.pairs + length s.sockets
  pub strays : length kept.strays ≡ length s.pairs
  pub room : (r : Ring) → HasRing s r → is_made r ≡ true → (end_at s kept r).room + (end_at s kept r).sure ≤ size_of s r
  pub size : (r : Ring) → HasRing s r → is_made r ≡ false → (queue_at s kept r).size ≡ size_of s r
  pub held : (r : Ring) → HasRing s r → is_made r ≡ false → (queue_at s kept r).held ≤ length (queue_at s kept r).entries
  pub few : (r : Ring) → HasRing s r → is_made r ≡ false → length (queue_at s kept r).entries ≤ (queue_at s kept r).size
  pub sent : (f t : ℕ) → given_in kept.frames f ≡ Some (Tx t) → HasRing s (Tx t)

-- ---- the program

-- the frame that an entry names is the program's
abbrev pub IsMineAt : Setting → List Known → XdpDesc → Type 0
IsMineAt s frames entry = IsTrue (is_inside s.geometry entry) → IsTrue (is_mine (known_in frames (frame s entry)).place)

-- each frame of the entries is the program's, and stands there once
abbrev pub AreMine : Setting → List Known → List XdpDesc → Type 0
AreMine s frames entries = (f : ℕ) → times s f entries ≤ (if is_mine (known_in frames f).place then 1 else 0)

-- whether an entry that is held is the last with which the program got its frame
abbrev pub is_latest : Setting → List Known → Ring → ℕ → XdpDesc → Bool
is_latest s frames r i entry = not (is_inside s.geometry entry) || is_as r i (known_in frames (frame s entry)).place

-- the last n entries that are held are so
abbrev pub AreLatest : Setting → List Known → Ring → Queue → ℕ → Type 0
AreLatest s frames r queue n = (i : ℕ) (d : XdpDesc) → queue.held ≤ i + n → i < queue.held
    → IsTrue (is_latest s frames r (numbered queue.first i) (slice_index_or queue.entries i d))

pub record MayGiveUp (s : Setting) (kept : Kept) (r : Ring) (n : ℕ) : Type 0 where
  pub places : is_made r ≡ true → n ≤ (end_at s kept r).room
  pub held : is_made r ≡ false → n ≤ (queue_at s kept r).held
  pub latest : is_made r ≡ false → AreLatest s kept.frames r (queue_at s kept r) n

abbrev pub MayCall : Setting → Kept → Call → Type 0
MayCall s kept (Reserve r n answer) = HasRing s r × IsTrue (is_made r)
MayCall s kept (Free r n places) = HasRing s r × IsTrue (is_made r)
MayCall s kept (Submit r entries) = HasRing s r × IsTrue (is_made r) × (length entries ≤ (end_at s kept r).room) × AreMine s kept.frames entries
MayCall s kept (Peek r n entries) = HasRing s r × (is_made r ≡ false)
MayCall s kept (Release r n) = HasRing s r × (is_made r ≡ false) × (n ≤ (queue_at s kept r).held)
MayCall s kept (Cancel r n) = HasRing s r × MayGiveUp s kept r n

-- ---- the kernel

-- an entry that may come, and entries that may, each in a frame of its own
abbrev pub IsNew : Setting → (ℕ → Option Ring) → Ring → XdpDesc → Type 0
IsNew s from (Fill d) entry = Unit {0}
IsNew s from (Comp d) entry = IsCompleted s from d entry
IsNew s from (Rx k) entry = IsReceived s from k entry
IsNew s from (Tx k) entry = Unit {0}

abbrev pub AreNew : Setting → List Known → Ring → List XdpDesc → Type 0
AreNew s frames r entries = ((f : ℕ) → times s f entries ≤ 1) × All (IsNew s (given_in frames) r) entries

-- the entries that are shown but for where new ones come from
abbrev pub Agrees : Queue → ℕ → List XdpDesc → Type 0
Agrees queue n entries =
    (length entries ≤ n)
    × (entries ≡ [] → (n ≡ 0) ⊎ (standing queue ≡ []))
    × (take (length (standing queue)) entries ≡ take (length entries) (standing queue))
    × (queue.held + length entries ≤ queue.size)

abbrev pub most_at : Setting → Kept → Ring → ℕ
most_at s kept r = size_of s r - (end_at s kept r).room

abbrev pub MayAnswer : Setting → Kept → Call → Type 0
MayAnswer s kept (Reserve r n answer) = FitsAnswer (end_at s kept r).sure (most_at s kept r) n answer
MayAnswer s kept (Free r n places) = (places ≤ most_at s kept r) × (places < n → (end_at s kept r).sure ≤ places)
MayAnswer s kept (Submit r entries) = Unit {0}
MayAnswer s kept (Peek r n entries) =
    FitsEntries s r (standing (queue_at s kept r)) (queue_at s kept r).held (given_in kept.frames) (strays_at kept (pair_of s r)) n entries
MayAnswer s kept (Release r n) = Unit {0}
MayAnswer s kept (Cancel r n) = Unit {0}

-- ---- what is kept behind the call

abbrev pub set_known : Setting → List Known → XdpDesc → Known → List Known
set_known s frames entry known = if is_inside s.geometry entry then slice_set frames (frame s entry) known else frames

-- the frames of entries, one after the other, the i-th first
abbrev pub marked : Setting → (ℕ → Known) → ℕ → List XdpDesc → List Known → List Known
marked s known i [] frames = frames
marked s known i (entry ∷ entries) frames = marked s known (i + 1) entries (set_known s frames entry (known i))

abbrev pub given : Ring → ℕ → ℕ → Known
given r line i = record { place = Given r; since = line }

abbrev pub again : Ring → ℕ → ℕ → Known
again r line i = record { place = Again r; since = line }

abbrev pub peeked : Ring → ℕ → ℕ → ℕ → Known
peeked r first line i = record { place = Peeked r (numbered first i); since = line }

-- the line that showed how many places are free for certain
abbrev pub shown_after : End → ℕ → ℕ → Answer → ℕ
shown_after end line n Granted = if nat_lt end.sure n then line else end.shown
shown_after end line n (Full told) = line
shown_after end line n Refused = end.shown

abbrev pub reserved : End → ℕ → ℕ → Answer → End
reserved end line n answer = record { room = end.room + granted answer n; sure = sure_answer end.sure n answer; shown = shown_after end line n answer }

abbrev pub told_free : End → ℕ → ℕ → ℕ → End
told_free end line n places = record end {
  sure = max end.sure places;
  shown = if nat_lt places n || nat_lt end.sure places then line else end.shown;
}

abbrev pub shown_queue : Queue → List XdpDesc → Queue
shown_queue queue entries = record queue { entries = queue.entries ++ new_of (standing queue) entries; held = queue.held + length entries }

abbrev pub shown_frames : Setting → ℕ → Ring → Queue → List Known → List XdpDesc → List Known
shown_frames s line r queue frames entries =
    marked s (peeked r queue.first line) queue.held (take (length (standing queue)) entries)
    (marked s (peeked r queue.first line) (queue.held + length (take (length (standing queue)) entries)) (new_of (standing queue) entries) frames)

abbrev pub strays_after : Setting → Kept → Ring → List XdpDesc → List ℕ
strays_after s kept (Fill d) entries = kept.strays
strays_after s kept (Comp d) entries = slice_set kept.strays d (strays_at kept d - strays_in s (new_of (standing (queue_at s kept (Comp d))) entries))
strays_after s kept (Rx k) entries = kept.strays
strays_after s kept (Tx k) entries = slice_set kept.strays (pair_of s (Tx k)) (strays_at kept (pair_of s (Tx k)) + strays_in s entries)

abbrev pub released : Queue → ℕ → Queue
released queue n = record queue { entries = drop n queue.entries; held = queue.held - n; first = numbered queue.first n }

-- the last n entries that are held
abbrev pub last_held : Queue → ℕ → List XdpDesc
last_held queue n = take n (drop (queue.held - n) queue.entries)

abbrev pub after : Setting → ℕ → Kept → Call → Kept
after s line kept (Reserve r n answer) = with_end s kept r (reserved (end_at s kept r) line n answer)
after s line kept (Free r n places) = with_end s kept r (told_free (end_at s kept r) line n places)
after s line kept (Submit r entries) = record {
  frames = marked s (given r line) 0 entries kept.frames;
  ends = slice_set kept.ends (place s r) (record (end_at s kept r) { room = (end_at s kept r).room - length entries });
  queues = kept.queues;
  strays = strays_after s kept r entries;
}
after s line kept (Peek r n entries) = record {
  frames = shown_frames s line r (queue_at s kept r) kept.frames entries;
  ends = kept.ends;
  queues = slice_set kept.queues (place s r) (shown_queue (queue_at s kept r) entries);
  strays = strays_after s kept r entries;
}
after s line kept (Release r n) = with_queue s kept r (released (queue_at s kept r) n)
after s line kept (Cancel r n) =
    if is_made r
    then with_end s kept r (record (end_at s kept r) { room = (end_at s kept r).room - n; sure = (end_at s kept r).sure + n })
    else record kept {
      frames = marked s (again r line) 0 (last_held (queue_at s kept r) n) kept.frames;
      queues = slice_set kept.queues (place s r) (record (queue_at s kept r) { held = (queue_at s kept r).held - n; again = line });
    }

-- more addresses that name no frame than can be counted
abbrev pub IsTooMany : Setting → Kept → Call → Type 0
IsTooMany s kept (Submit (Tx k) entries) = 2 ^ 64 ≤ strays_at kept (pair_of s (Tx k)) + strays_in s entries
IsTooMany s kept call = ⊥

-- entries that come, from the one of this number on
abbrev pub HasStrays : Setting → Kept → Ring → List XdpDesc → Type 0
HasStrays s kept (Fill d) entries = Unit {0}
HasStrays s kept (Comp d) entries = strays_in s entries ≤ strays_at kept d
HasStrays s kept (Rx k) entries = Unit {0}
HasStrays s kept (Tx k) entries = Unit {0}

abbrev pub CanCome : Setting → Kept → Ring → List XdpDesc → Type 0
CanCome s kept r entries = AreNew s kept.frames r entries × HasStrays s kept r entries

abbrev pub strays_come : Setting → Kept → Ring → List XdpDesc → List ℕ
strays_come s kept (Fill d) entries = kept.strays
strays_come s kept (Comp d) entries = slice_set kept.strays d (strays_at kept d - strays_in s entries)
strays_come s kept (Rx k) entries = kept.strays
strays_come s kept (Tx k) entries = kept.strays

abbrev pub come_after : Setting → ℕ → Kept → Ring → ℕ → ℕ → List XdpDesc → Kept
come_after s line kept r first at entries =
    record kept { frames = marked s (peeked r first line) at entries kept.frames; strays = strays_come s kept r entries }

-- entries are held: such as stood there before, and new ones
abbrev pub held_after : Setting → ℕ → Kept → Ring → List XdpDesc → List XdpDesc → Kept
held_after s line kept r known new = record kept {
  frames = marked s (peeked r (queue_at s kept r).first line) (queue_at s kept r).held known kept.frames;
  queues = slice_set kept.queues (place s r) (record (queue_at s kept r) {
    entries = (queue_at s kept r).entries ++ new;
    held = (queue_at s kept r).held + (length known + length new);
  });
}
