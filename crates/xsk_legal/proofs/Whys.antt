-- A call of which a condition fails isn't legal; and what the frames of earlier calls hold says nothing of which one fails.
use Rattle.std.proofs.Common.{◌≡◌, ℕ, ◌≤◌, List, length, map, sym, subst}
use Rattle.xsk_model.specs.Config.{Config}
use Rattle.xsk_model.specs.Entry.{Told}
use Rattle.xsk_model.specs.Legal.{IsLegal, HasRole, IsCounted}
use Rattle.xsk_model.specs.OtherWords.{bare}
use Rattle.xsk_model.proofs.Bodies.{same_role, same_counted, same_frames, same_packets, same_feeds, same_room, same_held}
use Rattle.xsk_model.specs.declared.call.Call.{Call}
use Rattle.xsk_model.specs.declared.call.Call.TheVariants.{Reserve, Submit, Peek, Release, Swap, Look}
use Rattle.xsk_legal.specs.declared.why.Illegal.{Illegal}
use Rattle.xsk_legal.specs.declared.why.Illegal.TheVariants.{NoCaller, Unknown, NotItsOwn, NotNow, Count, Places, Items, Frames, Packets, Ended}
use Rattle.xsk_legal.specs.Why.{Fails, IsItsOwn, IsInTime, IsFew, HasPlaces, UpToRole, UpToCount, UpToFrames}

its_own : (c : Config) (mine : List Told) (who : ℕ) (call : Call) → HasRole c mine who call → IsItsOwn c who call
its_own c mine who (Reserve r n) role = role
its_own c mine who (Submit r items) role = role
its_own c mine who (Peek r n) role = role
its_own c mine who (Release r n) role = role
its_own c mine who (Swap m value) role = role.0
its_own c mine who (Look m) role = tt

in_time : (c : Config) (mine : List Told) (who : ℕ) (call : Call) → HasRole c mine who call → IsInTime c mine call
in_time c mine who (Reserve r n) role = tt
in_time c mine who (Submit r items) role = tt
in_time c mine who (Peek r n) role = tt
in_time c mine who (Release r n) role = tt
in_time c mine who (Swap m value) role = role.1
in_time c mine who (Look m) role = tt

few : (c : Config) (mine : List Told) (call : Call) → IsCounted c mine call → IsFew c call
few c mine (Reserve r n) counted = counted
few c mine (Submit r items) counted = (counted.0, counted.1)
few c mine (Peek r n) counted = counted
few c mine (Release r n) counted = (counted.0, counted.1)
few c mine (Swap m value) counted = counted
few c mine (Look m) counted = tt

places : (c : Config) (mine : List Told) (call : Call) → IsCounted c mine call → HasPlaces mine call
places c mine (Reserve r n) counted = tt
places c mine (Submit r items) counted = counted.2
places c mine (Peek r n) counted = tt
places c mine (Release r n) counted = counted.2
places c mine (Swap m value) counted = tt
places c mine (Look m) counted = tt

pub fails_not_legal : (why : Illegal) (c : Config) (mine : List Told) (who : ℕ) (call : Call) → Fails why c mine who call → IsLegal c mine who call → ⊥
fails_not_legal NoCaller c mine who call fails legal = fails legal.caller
fails_not_legal Unknown c mine who call fails legal = fails.1 legal.known
fails_not_legal NotItsOwn c mine who call fails legal = fails.2 (its_own c mine who call legal.role)
fails_not_legal NotNow c mine who call fails legal = fails.3 (in_time c mine who call legal.role)
fails_not_legal Count c mine who call fails legal = fails.1 (few c mine call legal.counted)
fails_not_legal Places c mine who call fails legal = fails.2 (places c mine call legal.counted)
fails_not_legal Items c mine who call fails legal = fails.1 legal.items
fails_not_legal Frames c mine who call fails legal = fails.2 legal.frames
fails_not_legal Packets c mine who call fails legal = fails.1 legal.packets
fails_not_legal Ended c mine who call fails legal = fails.2 legal.feeds

-- ---- two callers whose calls and replies are alike but for the bytes of frames

module _ (c : Config) (mine other : List Told) (e : map bare mine ≡ map bare other) where
  places_there : (call : Call) → HasPlaces mine call → HasPlaces other call
  places_there (Reserve r n) has = tt
  places_there (Submit r items) has = subst (λ n. length items ≤ n) (same_room c mine other e r) has
  places_there (Peek r n) has = tt
  places_there (Release r n) has = subst (λ k. n ≤ k) (same_held c mine other e r) has
  places_there (Swap m value) has = tt
  places_there (Look m) has = tt

  time_there : (who : ℕ) (call : Call) → IsItsOwn c who call → IsInTime c mine call → IsInTime c other call
  time_there who (Reserve r n) owner time = tt
  time_there who (Submit r items) owner time = tt
  time_there who (Peek r n) owner time = tt
  time_there who (Release r n) owner time = tt
  time_there who (Swap m value) owner time = (same_role c mine other e who (Swap m value) (owner, time)).1
  time_there who (Look m) owner time = tt

  role_there : (who : ℕ) (call : Call) → UpToRole c mine who call → UpToRole c other who call
  role_there who call h = (h.0, h.1, same_role c mine other e who call h.2)

  count_there : (who : ℕ) (call : Call) → UpToCount c mine who call → UpToCount c other who call
  count_there who call h = (role_there who call h.0, same_counted c mine other e call h.1)

  frames_there : (who : ℕ) (call : Call) → UpToFrames c mine who call → UpToFrames c other who call
  frames_there who call h = (count_there who call h.0, h.1, same_frames c mine other e call h.2)

pub fails_there : (why : Illegal) (c : Config) (mine other : List Told) (who : ℕ) (call : Call) → map bare mine ≡ map bare other
    → Fails why c mine who call → Fails why c other who call
fails_there NoCaller c mine other who call e fails = fails
fails_there Unknown c mine other who call e fails = fails
fails_there NotItsOwn c mine other who call e fails = fails
fails_there NotNow c mine other who call e fails =
    (fails.0, fails.1, fails.2, λ time. fails.3 (time_there c other mine (sym e) who call fails.2 time))
fails_there Count c mine other who call e fails = (role_there c mine other e who call fails.0, fails.1)
fails_there Places c mine other who call e fails =
    (role_there c mine other e who call fails.0, fails.1, λ has. fails.2 (places_there c other mine (sym e) call has))
fails_there Items c mine other who call e fails = (count_there c mine other e who call fails.0, fails.1)
fails_there Frames c mine other who call e fails =
    (count_there c mine other e who call fails.0, fails.1, λ has. fails.2 (same_frames c other mine (sym e) call has))
fails_there Packets c mine other who call e fails = (frames_there c mine other e who call fails.0, λ are. fails.1 (same_packets c other mine (sym e) call are))
fails_there Ended c mine other who call e fails = (
  frames_there c mine other e who call fails.0,
  same_packets c mine other e call fails.1,
  λ may. fails.2 (same_feeds c other mine (sym e) call may),
)
