-- The facts of a recording that hints tell: what is possible and surely unwanted (af_xdp.rst, "Rings", "UMEM Fill Ring", "UMEM
-- Completion Ring", "TX Ring"), and where frames are. Lists have the latest call first; a line's number tells when.
use Rattle.std.specs.Prelude.{ℕ, zero, suc, replicate, ◌+◌, ◌-◌, ◌%◌, Bool, true, false, ◌&&◌, ◌==◌, not, nat_le, nat_lt, if◌then◌else◌, Option, Some, None, List, [], ◌∷◌, ◌++◌}
use Rattle.xsk_umem.specs.declared.batch.XdpDesc.{XdpDesc}
use Rattle.xsk_model.specs.Descriptor.{is_inside, has_bytes, fits_chunk, has_known_options}
use Rattle.xsk_model.specs.Rings.{is_ring}
use Rattle.xsk_model.specs.declared.call.Ring.{Ring}
use Rattle.xsk_model.specs.declared.call.Ring.TheVariants.{Fill, Comp, Rx, Tx}
use Rattle.xsk_side.specs.Setting.{Setting}
use Rattle.xsk_side.specs.Local.{given_of}
use Rattle.xsk_side.specs.declared.call.Answer.{Answer}
use Rattle.xsk_side.specs.declared.call.Answer.TheVariants as an_answer
use Rattle.xsk_side.specs.declared.call.Call.{Call}
use Rattle.xsk_side.specs.declared.call.Call.TheVariants.{Reserve, Free, Submit, Peek, Release, Cancel}
use Rattle.xsk_judge.specs.declared.known.Spot.{Spot}
use Rattle.xsk_judge.specs.Kept.{is_spot}
use Rattle.xsk_judge.specs.Stands.{Line, calls_of, since_of, spot_of}
use Rattle.xsk_hints.specs.declared.oddity.Oddity.{Oddity}
use Rattle.xsk_hints.specs.declared.oddity.Oddity.TheVariants.{Outside, Within, Empty, Crossing, Options, Refused}

-- ---- oddities of FILL and TX

-- an address on FILL: the kernel skips the first, and takes the chunk of the second
abbrev pub on_fill : Setting → XdpDesc → Option Oddity
on_fill s entry =
    if not (is_inside s.geometry entry) then Some Outside
    else if not (entry.addr % s.geometry.chunk == 0) then Some Within
    else None

-- the options besides XDP_TX_METADATA, which is 2 (if_xdp.h, from Linux 6.8 on), where the UMEM has room for TX metadata
abbrev pub besides_metadata : Bool → ℕ → ℕ
besides_metadata metadata options = if metadata && nat_le 2 options then options - 2 else options

-- a descriptor on TX: the first condition of a valid one that fails; no kernel sends it
abbrev pub on_tx : Setting → Bool → XdpDesc → Option Oddity
on_tx s metadata entry =
    if not (is_inside s.geometry entry) then Some Outside
    else if not (has_bytes entry) then Some Empty
    else if not (fits_chunk s.geometry entry) then Some Crossing
    else if not (has_known_options s.rules.sg (record entry { options = besides_metadata metadata entry.options })) then Some Options
    else None

abbrev pub oddity_of : Setting → Bool → Ring → XdpDesc → Option Oddity
oddity_of s metadata (Fill d) entry = on_fill s entry
oddity_of s metadata (Comp d) entry = None
oddity_of s metadata (Rx k) entry = None
oddity_of s metadata (Tx k) entry = on_tx s metadata entry

-- the number of an oddity
abbrev pub code : Oddity → ℕ
code Outside = 0
code Within = 1
code Empty = 2
code Crossing = 3
code Options = 4
code Refused = 5

abbrev pub is_odd : Oddity → Oddity → Bool
is_odd o p = code o == code p

abbrev pub is_told : Oddity → Option Oddity → Bool
is_told o None = false
is_told o (Some p) = is_odd o p

-- how many of the entries that are submitted on a ring have an oddity
abbrev pub often : Setting → Bool → Ring → Oddity → List XdpDesc → ℕ
often s metadata r o [] = 0
often s metadata r o (entry ∷ entries) = (if is_told o (oddity_of s metadata r entry) then 1 else 0) + often s metadata r o entries

abbrev pub is_refusal : Answer → Bool
is_refusal an_answer.Granted = false
is_refusal (an_answer.Full places) = true
is_refusal an_answer.Refused = true

-- how often a call has it on a ring
abbrev pub times_met : Setting → Bool → Ring → Oddity → Call → ℕ
times_met s metadata r o (Reserve q n answer) = if is_ring r q && (is_odd o Refused && is_refusal answer) then 1 else 0
times_met s metadata r o (Free q n places) = 0
times_met s metadata r o (Submit q entries) = if is_ring r q then often s metadata r o entries else 0
times_met s metadata r o (Peek q n entries) = 0
times_met s metadata r o (Release q n) = 0
times_met s metadata r o (Cancel q n) = 0

-- the lines of the calls that have it, each as often
abbrev pub met : Setting → Bool → Ring → Oddity → List Line → List ℕ
met s metadata r o [] = []
met s metadata r o (l ∷ lines) = replicate (times_met s metadata r o l.call) l.line ++ met s metadata r o lines

-- ---- Peeks

abbrev pub peeks : Ring → Call → Bool
peeks r (Reserve q n answer) = false
peeks r (Free q n places) = false
peeks r (Submit q entries) = false
peeks r (Peek q n entries) = is_ring r q
peeks r (Release q n) = false
peeks r (Cancel q n) = false

-- the line of the last Peek on a ring; 0 where there is none
abbrev pub last_peek : Ring → List Line → ℕ
last_peek r [] = 0
last_peek r (l ∷ lines) = if peeks r l.call then l.line else last_peek r lines

-- ---- frames

-- of the frames below n that are in a place, the lines since when they are there
abbrev pub since_at : Setting → List Line → Spot → ℕ → List ℕ
since_at s lines spot zero = []
since_at s lines spot (suc n) = if is_spot (spot_of s n lines) spot then since_of s n lines ∷ since_at s lines spot n else since_at s lines spot n

-- a sum over the numbers below n
abbrev pub sum_below : (ℕ → ℕ) → ℕ → ℕ
sum_below g zero = 0
sum_below g (suc n) = sum_below g n + g n

abbrev pub is_by : Ring → Option Ring → Bool
is_by r None = false
is_by r (Some q) = is_ring r q

-- how many frames are on a ring, by the program's calls: submitted there, and not shown since
abbrev pub count_on : Setting → Ring → List Call → ℕ
count_on s r calls = sum_below (λ f. if is_by r (given_of s calls f) then 1 else 0) s.geometry.frames

-- the lines at which the last frame went that was on it
abbrev pub dried_at : Setting → Ring → List Line → List ℕ
dried_at s r [] = []
dried_at s r (l ∷ lines) =
    if nat_lt 0 (count_on s r (calls_of lines)) && count_on s r (calls_of (l ∷ lines)) == 0 then l.line ∷ dried_at s r lines
    else dried_at s r lines
