-- Why a call can't be: every reason with its condition and the numbers that it tells, each the first that is there in the order in
-- which they stand. The program broke a rule (af_xdp.rst, "UMEM" and "Rings": what is submitted is had and has places, what is released
-- or cancelled was peeked); or no kernel gives the reply (libxdp's ring functions, xsk.h). Lists have the latest call first.
use Rattle.std.specs.Prelude.{◌≡◌, ◌≢◌, ℕ, ◌+◌, ◌-◌, ◌<◌, ◌≤◌, ◌⊎◌, Bool, false, IsTrue, All, if◌then◌else◌, Option, Some, List, [], ◌∷◌, length, take}
use Rattle.std.specs.List.{slice_index_or}
use Rattle.xsk_umem.specs.declared.batch.XdpDesc.{XdpDesc}
use Rattle.xsk_model.specs.declared.call.Ring.{Ring}
use Rattle.xsk_model.specs.declared.call.Ring.TheVariants.{Fill, Comp, Rx, Tx}
use Rattle.xsk_model.specs.Descriptor.{is_inside}
use Rattle.xsk_side.specs.Setting.{Setting, HasRing, size_of, pair_of}
use Rattle.xsk_side.specs.Entries.{frame, times, stands, strays_in, is_received, last}
use Rattle.xsk_side.specs.Object.{is_made, ring_of}
use Rattle.xsk_side.specs.Own.{Held, fresh, room_of, held_of, has_frame}
use Rattle.xsk_side.specs.Legal.{HasRole, MayCome}
use Rattle.xsk_side.specs.Local.{sure_of, most_of, back_of, new_of, given_of, strays_given}
use Rattle.xsk_side.specs.declared.call.Party.TheVariants.{Program}
use Rattle.xsk_side.specs.declared.call.Answer.{Answer}
use Rattle.xsk_side.specs.declared.call.Answer.TheVariants.{Granted, Full, Refused}
use Rattle.xsk_side.specs.declared.call.Call.{Call}
use Rattle.xsk_side.specs.declared.call.Call.TheVariants.{Reserve, Free, Submit, Peek, Release, Cancel}
use Rattle.xsk_judge.specs.Kept.{given_by}
use Rattle.xsk_judge.specs.Stands.{Line, IsKnown, again_since, calls_of, shown_of}
use Rattle.xsk_judge.specs.declared.known.Known.{Known}
use Rattle.xsk_judge.specs.declared.why.Why.{Why}
use Rattle.xsk_judge.specs.declared.why.Why.TheVariants.{Rule as Broken, Kernel as Denied, TooMany}
use Rattle.xsk_judge.specs.declared.why.Rule.{Rule}
use Rattle.xsk_judge.specs.declared.why.Rule.TheVariants as a_rule
use Rattle.xsk_judge.specs.declared.why.Denial.{Denial}
use Rattle.xsk_judge.specs.declared.why.Denial.TheVariants as a_denial

-- an entry by its place
abbrev pub entry_at : List XdpDesc → ℕ → XdpDesc
entry_at entries i = slice_index_or entries i (record { addr = 0; len = 0; options = 0 })

abbrev pub held_at : List Held → ℕ → Held
held_at held i = slice_index_or held i (fresh (record { addr = 0; len = 0; options = 0 }))

-- ---- the program broke a rule

-- of a Submit: the entries before this one may be submitted, and this one names a frame; `had` tells which the program has
pub record StopsAt (s : Setting) (had : ℕ → Bool) (entries : List XdpDesc) (i : ℕ) : Type 0 where
  pub low : i < length entries
  pub before : (f : ℕ) → times s f (take i entries) ≤ (if had f then 1 else 0)
  pub names : IsTrue (is_inside s.geometry (entry_at entries i))

-- it stands among them; or it isn't the program's, and `Is` tells where it is
abbrev pub GivesNot : Setting → (ℕ → Bool) → (ℕ → Known → Type 0) → List XdpDesc → Rule → Type 0
GivesNot s had Is entries (a_rule.Twice i) = StopsAt s had entries i × IsTrue (stands s (frame s (entry_at entries i)) (take i entries))
GivesNot s had Is entries (a_rule.Frame i known) =
    StopsAt s had entries i × (had (frame s (entry_at entries i)) ≡ false) × Is (frame s (entry_at entries i)) known
GivesNot s had Is entries rule = ⊥

-- of a Cancel: the first of these entries whose frame was submitted since it was peeked
pub record PutsNotBack (s : Setting) (lines : List Line) (back : List Held) (entry : XdpDesc) (known : Known) : Type 0 where
  pub at : ℕ
  pub low : at < length back
  pub before : All (λ (h : Held). IsTrue h.untouched) (take at back)
  pub touched : (held_at back at).untouched ≡ false
  pub is : entry ≡ (held_at back at).entry
  pub there : IsKnown s lines (frame s entry) known

-- the ring is there, and the call is the program's
abbrev pub IsOwnCall : Setting → Call → Type 0
IsOwnCall s call = HasRing s (ring_of call) × HasRole Program call

abbrev pub Breaks : Setting → List Line → Call → Rule → Type 0
Breaks s lines call a_rule.Ring = HasRing s (ring_of call) → ⊥
Breaks s lines call a_rule.Side = HasRing s (ring_of call) × (HasRole Program call → ⊥)
Breaks s lines (Submit r entries) (a_rule.Places room) =
    IsOwnCall s (Submit r entries) × (room ≡ room_of r (calls_of lines)) × (room < length entries)
Breaks s lines (Submit r entries) (a_rule.Twice i) =
    IsOwnCall s (Submit r entries) × (length entries ≤ room_of r (calls_of lines))
    × GivesNot s (λ f. has_frame s f (calls_of lines)) (IsKnown s lines) entries (a_rule.Twice i)
Breaks s lines (Submit r entries) (a_rule.Frame i known) =
    IsOwnCall s (Submit r entries) × (length entries ≤ room_of r (calls_of lines))
    × GivesNot s (λ f. has_frame s f (calls_of lines)) (IsKnown s lines) entries (a_rule.Frame i known)
Breaks s lines (Release r n) (a_rule.Release held) = IsOwnCall s (Release r n) × (held ≡ length (held_of s r (calls_of lines))) × (held < n)
Breaks s lines (Cancel r n) (a_rule.Cancel kept) =
    HasRing s r × (kept ≡ (if is_made r then room_of r (calls_of lines) else length (held_of s r (calls_of lines)))) × (kept < n)
Breaks s lines (Cancel r n) (a_rule.PassedOn entry known) =
    HasRing s r × (is_made r ≡ false) × (n ≤ length (held_of s r (calls_of lines)))
    × PutsNotBack s lines (last n (held_of s r (calls_of lines))) entry known
Breaks s lines call rule = ⊥

-- ---- no kernel answers so: FILL and TX

-- So many places are free for certain, as a line showed, and so many at most; and this is the line of the call.
abbrev pub AnswersNot : ℕ → ℕ → ℕ → ℕ → ℕ → Answer → Denial → Type 0
AnswersNot sure shown most line n Granted (a_denial.Granted places) = (places ≡ most) × (places < n)
AnswersNot sure shown most line n (Full told) (a_denial.Refused places since) = (places ≡ told) × (since ≡ line) × (n ≤ places)
AnswersNot sure shown most line n (Full told) (a_denial.Taken places) = (told < n) × (places ≡ most) × (places < told)
AnswersNot sure shown most line n (Full told) (a_denial.FewerFree places since) =
    (told < n) × (told ≤ most) × (places ≡ sure) × (since ≡ shown) × (told < places)
AnswersNot sure shown most line n Refused (a_denial.Refused places since) = (places ≡ sure) × (since ≡ shown) × (n ≤ places)
AnswersNot sure shown most line n answer denial = ⊥

abbrev pub FreesNot : ℕ → ℕ → ℕ → ℕ → ℕ → Denial → Type 0
FreesNot sure shown most n told (a_denial.Granted places) = (places ≡ most) × (places < told)
FreesNot sure shown most n told (a_denial.FewerFree places since) =
    (told < n) × (told ≤ most) × (places ≡ sure) × (since ≡ shown) × (told < places)
FreesNot sure shown most n told denial = ⊥

-- ---- no kernel answers so: RX and COMPLETION

-- So many entries are held, the ring has so many places, and these stand there again since a line.
abbrev pub ShowsNot : List XdpDesc → ℕ → ℕ → ℕ → ℕ → List XdpDesc → Denial → Type 0
ShowsNot back held size again n entries a_denial.More = n < length entries
ShowsNot back held size again n entries (a_denial.Empty standing since) =
    (entries ≡ []) × (0 < n) × (standing ≡ length back) × (0 < standing) × (since ≡ again)
ShowsNot back held size again n entries (a_denial.Full k) = (length entries ≤ n) × (k ≡ held) × (size < k + length entries)
ShowsNot back held size again n entries (a_denial.Other i stood since) =
    (length entries ≤ n) × (held + length entries ≤ size) × (i < length entries) × (i < length back) × (take i entries ≡ take i back)
    × (stood ≡ entry_at back i) × (entry_at entries i ≢ stood) × (since ≡ again)
ShowsNot back held size again n entries denial = ⊥

-- an address alone, as COMPLETION has it
abbrev pub IsAddress : XdpDesc → Type 0
IsAddress entry = (entry.len ≡ 0) × (entry.options ≡ 0)

-- A new entry, the i-th of the call: `Is` tells where its frame is, and so many addresses that name no frame wait.
abbrev pub ComesNot : Setting → Ring → (Known → Type 0) → ℕ → ℕ → XdpDesc → Denial → Type 0
ComesNot s (Rx k) Is strays i entry (a_denial.Outside j) = (j ≡ i) × (is_inside s.geometry entry ≡ false)
ComesNot s (Rx k) Is strays i entry (a_denial.Entry j) = (j ≡ i) × IsTrue (is_inside s.geometry entry) × (is_received s entry ≡ false)
ComesNot s (Rx k) Is strays i entry (a_denial.NotFilled j known) =
    (j ≡ i) × IsTrue (is_received s entry) × Is known × ((d : ℕ) → given_by known.place ≡ Some (Fill d) → ⊥)
ComesNot s (Rx k) Is strays i entry (a_denial.OtherPair j known) =
    (j ≡ i) × IsTrue (is_received s entry) × Is known × IsTrue s.rules.own
    × (d : ℕ) × (given_by known.place ≡ Some (Fill d)) × (d ≢ pair_of s (Rx k))
ComesNot s (Comp d) Is strays i entry (a_denial.Entry j) = (j ≡ i) × (IsAddress entry → ⊥)
ComesNot s (Comp d) Is strays i entry (a_denial.NotSent j known) =
    (j ≡ i) × IsAddress entry × IsTrue (is_inside s.geometry entry) × Is known × ((t : ℕ) → given_by known.place ≡ Some (Tx t) → ⊥)
ComesNot s (Comp d) Is strays i entry (a_denial.OtherPair j known) =
    (j ≡ i) × IsAddress entry × IsTrue (is_inside s.geometry entry) × Is known
    × (t : ℕ) × (given_by known.place ≡ Some (Tx t)) × (pair_of s (Tx t) ≢ d)
ComesNot s (Comp d) Is strays i entry (a_denial.NeverSent j) =
    (j ≡ i) × IsAddress entry × (is_inside s.geometry entry ≡ false) × (strays ≡ 0)
ComesNot s r Is strays i entry denial = ⊥

-- entries that may come, each in a frame of its own
abbrev pub AllCome : Setting → (ℕ → Option Ring) → ℕ → Ring → List XdpDesc → Type 0
AllCome s from strays r entries = ((f : ℕ) → times s f entries ≤ 1) × MayCome s from strays r entries

-- What stands there again is shown, and those behind it may come up to this one, behind which its frame is there.
pub record ComesWrong (s : Setting) (lines : List Line) (line : ℕ) (r : Ring) (n : ℕ) (entries : List XdpDesc) (denial : Denial) : Type 0 where
  pub few : length entries ≤ n
  pub places : length (held_of s r (calls_of lines)) + length entries ≤ size_of s r
  pub again : take (length (back_of s r (calls_of lines))) entries ≡ take (length entries) (back_of s r (calls_of lines))
  pub new : List XdpDesc
  pub new_is : new ≡ new_of (back_of s r (calls_of lines)) entries
  pub at : ℕ
  pub low : at < length new
  pub before : AllCome s (given_of s (calls_of lines)) (strays_given s (pair_of s r) (calls_of lines)) r (take at new)
  pub wrong :
      ComesNot s r (IsKnown s (record { line = line; call = Peek r n (take at new) } ∷ lines) (frame s (entry_at new at)))
      (strays_given s (pair_of s r) (calls_of lines) - strays_in s (take at new)) (length (back_of s r (calls_of lines)) + at)
      (entry_at new at) denial

abbrev pub Denies : Setting → List Line → ℕ → Call → Denial → Type 0
Denies s lines line (Reserve r n answer) denial =
    AnswersNot (sure_of s r (calls_of lines)) (shown_of s r lines) (most_of s r (calls_of lines)) line n answer denial
Denies s lines line (Free r n places) denial =
    FreesNot (sure_of s r (calls_of lines)) (shown_of s r lines) (most_of s r (calls_of lines)) n places denial
Denies s lines line (Peek r n entries) denial =
    ShowsNot (back_of s r (calls_of lines)) (length (held_of s r (calls_of lines))) (size_of s r) (again_since r lines) n entries denial
    ⊎ ComesWrong s lines line r n entries denial
Denies s lines line call denial = ⊥

-- ---- both

-- the reason that is told of the call of this line
abbrev pub IsReasonOf : Setting → List Line → ℕ → Call → Why → Type 0
IsReasonOf s lines line call (Broken rule) = Breaks s lines call rule
IsReasonOf s lines line call (Denied denial) = Denies s lines line call denial
IsReasonOf s lines line call TooMany = Unit {0}
