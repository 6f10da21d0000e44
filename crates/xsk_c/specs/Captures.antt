-- Captures that stand one behind the other in a text; `ends` tells where each ends.
use Rattle.std.specs.Prelude.{◌≡◌, ◌≢◌, ℕ, ◌-◌, ◌≤◌, ◌⊎◌, List, [], ◌∷◌, length, take, drop}
use Rattle.xsk_umem.specs.PacketList.{PacketList}
use Rattle.xsk_pcap.specs.Capture.{IsCapture, IsRefused}
use Rattle.xsk_pcap.specs.declared.reading.BadCapture.{BadCapture}
use Rattle.xsk_c.specs.Answers.{capture_number}
use Rattle.xsk_c.specs.declared.answers.TheConstants.{NO_MEMORY}
use Rattle.xsk_c.specs.declared.opening.Refusal.{Refusal}
use Rattle.xsk_c.specs.declared.opening.Refusal.TheVariants as refusal

abbrev pub piece_of : List ℕ → (begin end : ℕ) → List ℕ
piece_of text begin end = take (end - begin) (drop begin text)

-- an end lies in the text, and not before the one before it
abbrev pub IsEnd : List ℕ → (begin end : ℕ) → Type 0
IsEnd text begin end = (begin ≤ end) × (end ≤ length text)

-- what stands between two ends is the capture of a list
abbrev pub IsRead : List ℕ → (begin end : ℕ) → PacketList → Type 0
IsRead text begin end list = IsEnd text begin end × IsCapture (piece_of text begin end) list.packets

-- each capture is that of its list
abbrev pub AreRead : List ℕ → (begin : ℕ) → (ends : List ℕ) → List PacketList → Type 0
AreRead text begin [] [] = Unit {0}
AreRead text begin [] (list ∷ lists) = ⊥
AreRead text begin (end ∷ ends) [] = ⊥
AreRead text begin (end ∷ ends) (list ∷ lists) = IsRead text begin end list × AreRead text end ends lists

-- ---- why they aren't read

-- memory couldn't be had
abbrev pub IsMemory : Refusal → Type 0
IsMemory why = (why ≡ refusal.OutOfMemory) ⊎ ((cause : BadCapture) × (why ≡ refusal.Capture cause) × (capture_number cause ≡ NO_MEMORY))

-- the bytes are no capture, by this first check that fails
abbrev pub IsUnread : List ℕ → Refusal → Type 0
IsUnread bytes why = IsMemory why ⊎ ((cause : BadCapture) × (why ≡ refusal.Capture cause) × IsRefused bytes cause)

abbrev pub Fails : List ℕ → (begin end : ℕ) → Refusal → Type 0
Fails text begin end why =
    IsMemory why ⊎ ((IsEnd text begin end → ⊥) × (why ≡ refusal.Ends)) ⊎ (IsEnd text begin end × IsUnread (piece_of text begin end) why)

-- the first that fails
abbrev pub AreRefused : List ℕ → (begin : ℕ) → (ends : List ℕ) → Refusal → Type 0
AreRefused text begin [] why = IsMemory why
AreRefused text begin (end ∷ ends) why = Fails text begin end why ⊎ ((list : PacketList) × IsRead text begin end list × AreRefused text end ends why)

-- there isn't one for each port, or they aren't read
abbrev pub HaveNoTraffic : (ports : ℕ) → List ℕ → (ends : List ℕ) → Refusal → Type 0
HaveNoTraffic ports text ends why = IsMemory why ⊎ ((length ends ≢ ports) × (why ≡ refusal.Ends)) ⊎ AreRefused text 0 ends why
