-- The same without kernels: what the program's calls and replies tell of the kernel's side, and which call fits after them. Lists
-- have the latest call first.
use Rattle.std.specs.Prelude.{◌≡◌, ℕ, ◌+◌, ◌-◌, ◌<◌, ◌≤◌, ◌⊎◌, max, if◌then◌else◌, Option, Some, None, List, [], ◌∷◌, ◌++◌, length, take, drop}
use Rattle.xsk_umem.specs.declared.batch.XdpDesc.{XdpDesc}
use Rattle.xsk_model.specs.Rings.{is_ring}
use Rattle.xsk_model.specs.declared.call.Ring.{Ring}
use Rattle.xsk_model.specs.declared.call.Ring.TheVariants.{Comp}
use Rattle.xsk_side.specs.Setting.{Setting, IsSetting, size_of, pair_of}
use Rattle.xsk_side.specs.Entries.{times, stands, strays_in}
use Rattle.xsk_side.specs.Object.{ring_of}
use Rattle.xsk_side.specs.Own.{room_of, held_of, put_back, is_tx_of}
use Rattle.xsk_side.specs.Legal.{IsLegal, MayCome}
use Rattle.xsk_side.specs.declared.call.Party.TheVariants.{Program}
use Rattle.xsk_side.specs.declared.call.Answer.{Answer}
use Rattle.xsk_side.specs.declared.call.Answer.TheVariants.{Granted, Full, Refused}
use Rattle.xsk_side.specs.declared.call.Call.{Call}
use Rattle.xsk_side.specs.declared.call.Call.TheVariants.{Reserve, Free, Submit, Peek, Release, Cancel}

-- ---- FILL and TX: how many places are free for certain

abbrev pub sure_answer : ℕ → ℕ → Answer → ℕ
sure_answer sure n Granted = sure - n
sure_answer sure n (Full told) = told
sure_answer sure n Refused = sure

-- Places that are granted are free no more, a number that is told is right, and what the kernel gives back it doesn't take again.
abbrev pub sure_after : ℕ → Call → ℕ
sure_after sure (Reserve r n answer) = sure_answer sure n answer
sure_after sure (Free r n places) = max sure places
sure_after sure (Submit r entries) = sure
sure_after sure (Peek r n entries) = sure
sure_after sure (Release r n) = sure
sure_after sure (Cancel r n) = sure + n

abbrev pub sure_of : Setting → Ring → List Call → ℕ
sure_of s r [] = size_of s r
sure_of s r (call ∷ past) = if is_ring r (ring_of call) then sure_after (sure_of s r past) call else sure_of s r past

-- so many are free at most: all that were submitted have been given back
abbrev pub most_of : Setting → Ring → List Call → ℕ
most_of s r past = size_of s r - room_of r past

-- ---- RX and COMPLETION: the entries that stand there again, at the front, since a Cancel put them back

abbrev pub back_after : Setting → List Call → List XdpDesc → Call → List XdpDesc
back_after s past back (Reserve r n answer) = back
back_after s past back (Free r n places) = back
back_after s past back (Submit r entries) = back
back_after s past back (Peek r n entries) = drop (length entries) back
back_after s past back (Release r n) = back
back_after s past back (Cancel r n) = put_back s past r n ++ back

abbrev pub back_of : Setting → Ring → List Call → List XdpDesc
back_of s r [] = []
back_of s r (call ∷ past) = if is_ring r (ring_of call) then back_after s past (back_of s r past) call else back_of s r past

-- what a Peek shows beyond them
abbrev pub new_of : List XdpDesc → List XdpDesc → List XdpDesc
new_of back entries = drop (length back) entries

-- ---- frames, and addresses that name none

-- the ring on which the program submitted a frame that hasn't been shown since
abbrev pub given_after : Setting → ℕ → Option Ring → Call → Option Ring
given_after s f given (Reserve r n answer) = given
given_after s f given (Free r n places) = given
given_after s f given (Submit r entries) = if stands s f entries then Some r else given
given_after s f given (Peek r n entries) = if stands s f entries then None else given
given_after s f given (Release r n) = given
given_after s f given (Cancel r n) = given

abbrev pub given_of : Setting → List Call → ℕ → Option Ring
given_of s [] f = None
given_of s (call ∷ past) f = given_after s f (given_of s past f) call

-- how many addresses that name no frame were submitted on TX of a pair, and haven't come on its COMPLETION
abbrev pub lost_after : Setting → ℕ → List Call → ℕ → Call → ℕ
lost_after s d past lost (Reserve r n answer) = lost
lost_after s d past lost (Free r n places) = lost
lost_after s d past lost (Submit r entries) = if is_tx_of s d r then lost + strays_in s entries else lost
lost_after s d past lost (Peek r n entries) = if is_ring (Comp d) r then lost - strays_in s (new_of (back_of s r past) entries) else lost
lost_after s d past lost (Release r n) = lost
lost_after s d past lost (Cancel r n) = lost

abbrev pub strays_given : Setting → ℕ → List Call → ℕ
strays_given s d [] = 0
strays_given s d (call ∷ past) = lost_after s d past (strays_given s d past) call

-- ---- what fits

abbrev pub FitsAnswer : ℕ → ℕ → ℕ → Answer → Type 0
FitsAnswer sure most n Granted = n ≤ most
FitsAnswer sure most n (Full told) = (told < n) × (sure ≤ told) × (told ≤ most)
FitsAnswer sure most n Refused = sure < n

-- The entries that are shown: first those that stand there again, as far as both reach, then new ones, each in a frame of its own,
-- where the ring has places. So many are held, and `from` tells on which ring each frame was given.
pub record FitsEntries (s : Setting) (r : Ring) (back : List XdpDesc) (held : ℕ) (from : ℕ → Option Ring) (strays n : ℕ) (entries : List XdpDesc) : Type 0 where
  pub few : length entries ≤ n
  pub none : entries ≡ [] → (n ≡ 0) ⊎ (back ≡ [])
  pub again : take (length back) entries ≡ take (length entries) back
  pub places : held + length entries ≤ size_of s r
  pub once : (f : ℕ) → times s f (new_of back entries) ≤ 1
  pub new : MayCome s from strays r (new_of back entries)

-- a reply that some kernel may give
abbrev pub FitsReply : Setting → List Call → Call → Type 0
FitsReply s past (Reserve r n answer) = FitsAnswer (sure_of s r past) (most_of s r past) n answer
FitsReply s past (Free r n places) = (places ≤ most_of s r past) × (places < n → sure_of s r past ≤ places)
FitsReply s past (Submit r entries) = Unit {0}
FitsReply s past (Peek r n entries) =
    FitsEntries s r (back_of s r past) (length (held_of s r past)) (given_of s past) (strays_given s (pair_of s r) past) n entries
FitsReply s past (Release r n) = Unit {0}
FitsReply s past (Cancel r n) = Unit {0}

pub record Fits (s : Setting) (past : List Call) (call : Call) : Type 0 where
  pub legal : IsLegal s Program past call
  pub reply : FitsReply s past call

-- each call fits after those before it
abbrev pub AllFit : Setting → List Call → Type 0
AllFit s [] = IsSetting s
AllFit s (call ∷ past) = AllFit s past × Fits s past call
