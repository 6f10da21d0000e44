-- Why a call is refused, by what is kept. The form is this project's own.
use Rattle.std.specs.Prelude.{◌≡◌, ℕ, ◌+◌, ◌-◌, ◌<◌, ◌≤◌, ◌⊎◌, Bool, true, false, IsTrue, List, length, take, drop}
use Rattle.std.specs.List.{slice_index_or}
use Rattle.xsk_umem.specs.declared.batch.XdpDesc.{XdpDesc}
use Rattle.xsk_model.specs.declared.call.Ring.{Ring}
use Rattle.xsk_side.specs.Setting.{Setting, HasRing, pair_of}
use Rattle.xsk_side.specs.Entries.{frame, strays_in}
use Rattle.xsk_side.specs.Object.{is_made}
use Rattle.xsk_side.specs.declared.call.Call.{Call}
use Rattle.xsk_side.specs.declared.call.Call.TheVariants.{Reserve, Free, Submit, Peek, Release, Cancel}
use Rattle.xsk_judge.specs.declared.known.Known.{Known}
use Rattle.xsk_judge.specs.declared.why.Why.{Why}
use Rattle.xsk_judge.specs.declared.why.Why.TheVariants.{Rule as Broken, Kernel as Denied, TooMany}
use Rattle.xsk_judge.specs.declared.why.Rule.{Rule}
use Rattle.xsk_judge.specs.declared.why.Rule.TheVariants as a_rule
use Rattle.xsk_judge.specs.declared.why.Denial.{Denial}
use Rattle.xsk_judge.specs.Kept.{Queue, Kept, is_mine, known_in, numbered, end_at, queue_at, strays_at, standing}
use Rattle.xsk_judge.specs.Judging.{MayCall, MayAnswer, Agrees, IsTooMany, given_in, is_latest, marked, most_at, peeked}
use Rattle.xsk_judge.specs.Reasons.{AllCome, AnswersNot, ComesNot, FreesNot, GivesNot, ShowsNot, entry_at}

-- whether the program has a frame, and where that is
abbrev pub mine_in : List Known → ℕ → Bool
mine_in frames f = is_mine (known_in frames f).place

abbrev pub IsIn : List Known → ℕ → Known → Type 0
IsIn frames f known = known ≡ known_in frames f

-- ---- rules

-- there is no such ring, or it isn't of this side
abbrev pub NoPlace : Setting → Bool → Ring → Rule → Type 0
NoPlace s made r a_rule.Ring = HasRing s r → ⊥
NoPlace s made r a_rule.Side = HasRing s r × (is_made r ≡ made → ⊥)
NoPlace s made r rule = ⊥

abbrev pub SubmitsNot : Setting → List Known → ℕ → List XdpDesc → Rule → Type 0
SubmitsNot s frames room entries (a_rule.Places places) = (places ≡ room) × (places < length entries)
SubmitsNot s frames room entries rule = (length entries ≤ room) × GivesNot s (mine_in frames) (IsIn frames) entries rule

-- the first of the last n entries that are held whose frame was submitted since
abbrev pub PassesOn : Setting → List Known → Ring → Queue → ℕ → Rule → Type 0
PassesOn s frames r queue n (a_rule.PassedOn entry known) =
    (i : ℕ) × (queue.held ≤ i + n) × (i < queue.held)
    × ((j : ℕ) (d : XdpDesc) → queue.held ≤ j + n → j < i
    → IsTrue (is_latest s frames r (numbered queue.first j) (slice_index_or queue.entries j d)))
    × (entry ≡ entry_at queue.entries i) × (is_latest s frames r (numbered queue.first i) entry ≡ false) × IsIn frames (frame s entry) known
PassesOn s frames r queue n rule = ⊥

abbrev pub PutsNotBack : Setting → List Known → Ring → Queue → ℕ → Rule → Type 0
PutsNotBack s frames r queue n (a_rule.Cancel held) = (held ≡ queue.held) × (held < n)
PutsNotBack s frames r queue n rule = (n ≤ queue.held) × PassesOn s frames r queue n rule

abbrev pub IsBroken : Setting → Kept → Call → Rule → Type 0
IsBroken s kept (Reserve r n answer) rule = NoPlace s true r rule
IsBroken s kept (Free r n places) rule = NoPlace s true r rule
IsBroken s kept (Submit r entries) rule =
    NoPlace s true r rule ⊎ (HasRing s r × IsTrue (is_made r) × SubmitsNot s kept.frames (end_at s kept r).room entries rule)
IsBroken s kept (Peek r n entries) rule = NoPlace s false r rule
IsBroken s kept (Release r n) rule =
    NoPlace s false r rule
    ⊎ (HasRing s r × (is_made r ≡ false) × (rule ≡ a_rule.Release (queue_at s kept r).held) × ((queue_at s kept r).held < n))
IsBroken s kept (Cancel r n) rule =
    ((rule ≡ a_rule.Ring) × (HasRing s r → ⊥))
    ⊎ (HasRing s r × IsTrue (is_made r) × (rule ≡ a_rule.Cancel (end_at s kept r).room) × ((end_at s kept r).room < n))
    ⊎ (HasRing s r × (is_made r ≡ false) × PutsNotBack s kept.frames r (queue_at s kept r) n rule)

-- ---- replies

-- Of entries that come the first that may not, behind those before it; so many of the call stand before them all.
abbrev pub Stops : Setting → List Known → Ring → ℕ → ℕ → ℕ → ℕ → ℕ → List XdpDesc → Denial → Type 0
Stops s frames r first line at skipped strays entries denial =
    (j : ℕ) × (j < length entries) × AllCome s (given_in frames) strays r (take j entries)
    × ComesNot s r (IsIn (marked s (peeked r first line) at (take j entries) frames) (frame s (entry_at entries j)))
    (strays - strays_in s (take j entries)) (skipped + j) (entry_at entries j) denial

abbrev pub IsDenied : Setting → ℕ → Kept → Call → Denial → Type 0
IsDenied s line kept (Reserve r n answer) denial =
    AnswersNot (end_at s kept r).sure (end_at s kept r).shown (most_at s kept r) line n answer denial
IsDenied s line kept (Free r n places) denial = FreesNot (end_at s kept r).sure (end_at s kept r).shown (most_at s kept r) n places denial
IsDenied s line kept (Submit r entries) denial = ⊥
IsDenied s line kept (Peek r n entries) denial =
    ShowsNot (standing (queue_at s kept r)) (queue_at s kept r).held (queue_at s kept r).size (queue_at s kept r).again n entries denial
    ⊎ (Agrees (queue_at s kept r) n entries
    × (at : ℕ)
    × Stops s kept.frames r (queue_at s kept r).first line at (length (standing (queue_at s kept r))) (strays_at kept (pair_of s r))
    (drop (length (standing (queue_at s kept r))) entries) denial)
IsDenied s line kept (Release r n) denial = ⊥
IsDenied s line kept (Cancel r n) denial = ⊥

-- the program may not make the call, or no kernel may answer so, or there are too many to be counted
abbrev pub IsReason : Setting → ℕ → Kept → Call → Why → Type 0
IsReason s line kept call (Broken rule) = (MayCall s kept call → ⊥) × IsBroken s kept call rule
IsReason s line kept call (Denied denial) = MayCall s kept call × (MayAnswer s kept call → ⊥) × IsDenied s line kept call denial
IsReason s line kept call TooMany = MayCall s kept call × IsTooMany s kept call
