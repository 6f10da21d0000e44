-- Why a call isn't legal: the first of its conditions that fails, in the order in which they stand here.
use Rattle.std.specs.Prelude.{◌≡◌, ℕ, ◌<◌, ◌≤◌, List, length}
use Rattle.xsk_umem.specs.Limits.{most_items}
use Rattle.xsk_model.specs.Config.{Config, callers_of}
use Rattle.xsk_model.specs.Entry.{Told}
use Rattle.xsk_model.specs.Legal.{IsKnown, HasRole, IsCounted, AreItems, HasFrames, ArePackets}
use Rattle.xsk_model.specs.Marks.{IsMarkNumber, IsMarkOwner}
use Rattle.xsk_model.specs.Own.{room_of, held_of}
use Rattle.xsk_model.specs.Rings.{producer, consumer}
use Rattle.xsk_model.specs.Swaps.{IsTimely, MayFeed}
use Rattle.xsk_model.specs.declared.call.Call.{Call}
use Rattle.xsk_model.specs.declared.call.Call.TheVariants.{Reserve, Submit, Peek, Release, Swap, Look}
use Rattle.xsk_legal.specs.declared.why.Illegal.{Illegal}
use Rattle.xsk_legal.specs.declared.why.Illegal.TheVariants.{NoCaller, Unknown, NotItsOwn, NotNow, Count, Places, Items, Frames, Packets, Ended}

-- a ring's call and a mark that is set are the caller's own, and every caller may look at every mark
abbrev pub IsItsOwn : Config → ℕ → Call → Type 0
IsItsOwn c who (Reserve r n) = who ≡ producer c r
IsItsOwn c who (Submit r items) = who ≡ producer c r
IsItsOwn c who (Peek r n) = who ≡ consumer c r
IsItsOwn c who (Release r n) = who ≡ consumer c r
IsItsOwn c who (Swap m value) = IsMarkOwner c who m
IsItsOwn c who (Look m) = Unit {0}

-- its owner may set a mark to this number after its own earlier calls and replies
abbrev pub IsInTime : Config → List Told → Call → Type 0
IsInTime c mine (Reserve r n) = Unit {0}
IsInTime c mine (Submit r items) = Unit {0}
IsInTime c mine (Peek r n) = Unit {0}
IsInTime c mine (Release r n) = Unit {0}
IsInTime c mine (Swap m value) = IsTimely c mine m value
IsInTime c mine (Look m) = Unit {0}

-- 1 to 32 are moved at once, and a mark is set to a number that it may have
abbrev pub IsFew : Config → Call → Type 0
IsFew c (Reserve r n) = (1 ≤ n) × (n ≤ most_items)
IsFew c (Submit r items) = (1 ≤ length items) × (length items ≤ most_items)
IsFew c (Peek r n) = (1 ≤ n) × (n ≤ most_items)
IsFew c (Release r n) = (1 ≤ n) × (n ≤ most_items)
IsFew c (Swap m value) = IsMarkNumber c m value
IsFew c (Look m) = Unit {0}

-- a Submit fills places that were reserved, and a Release gives back items that were peeked
abbrev pub HasPlaces : List Told → Call → Type 0
HasPlaces mine (Reserve r n) = Unit {0}
HasPlaces mine (Submit r items) = length items ≤ room_of r mine
HasPlaces mine (Peek r n) = Unit {0}
HasPlaces mine (Release r n) = n ≤ held_of r mine
HasPlaces mine (Swap m value) = Unit {0}
HasPlaces mine (Look m) = Unit {0}

-- the conditions up to one, of a caller that exists
abbrev pub UpToRole : Config → List Told → ℕ → Call → Type 0
UpToRole c mine who call = (who < callers_of c) × IsKnown c call × HasRole c mine who call

abbrev pub UpToCount : Config → List Told → ℕ → Call → Type 0
UpToCount c mine who call = UpToRole c mine who call × IsCounted c mine call

abbrev pub UpToFrames : Config → List Told → ℕ → Call → Type 0
UpToFrames c mine who call = UpToCount c mine who call × AreItems c.geometry call × HasFrames mine call

-- the conditions before this one hold, and this one doesn't
abbrev pub Fails : Illegal → Config → List Told → ℕ → Call → Type 0
Fails NoCaller c mine who call = who < callers_of c → ⊥
Fails Unknown c mine who call = (who < callers_of c) × (IsKnown c call → ⊥)
Fails NotItsOwn c mine who call = (who < callers_of c) × IsKnown c call × (IsItsOwn c who call → ⊥)
Fails NotNow c mine who call = (who < callers_of c) × IsKnown c call × IsItsOwn c who call × (IsInTime c mine call → ⊥)
Fails Count c mine who call = UpToRole c mine who call × (IsFew c call → ⊥)
Fails Places c mine who call = UpToRole c mine who call × IsFew c call × (HasPlaces mine call → ⊥)
Fails Items c mine who call = UpToCount c mine who call × (AreItems c.geometry call → ⊥)
Fails Frames c mine who call = UpToCount c mine who call × AreItems c.geometry call × (HasFrames mine call → ⊥)
Fails Packets c mine who call = UpToFrames c mine who call × (ArePackets c mine call → ⊥)
Fails Ended c mine who call = UpToFrames c mine who call × ArePackets c mine call × (MayFeed c mine call → ⊥)
