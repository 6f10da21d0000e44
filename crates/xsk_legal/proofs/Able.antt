-- What was called and replied can be noted.
use Rattle.std.proofs.Common.{ℕ, ◌+◌, ◌^◌, ◌<◌, ◌≤◌, List, ◌∷◌, ◌++◌, refl, arith}
use Rattle.xsk_umem.specs.declared.batch.Item.{Item}
use Rattle.xsk_model.specs.Config.{Config}
use Rattle.xsk_model.specs.Rings.{place}
use Rattle.xsk_model.specs.Entry.{Told}
use Rattle.xsk_model.specs.Legal.{IsLegal}
use Rattle.xsk_model.specs.History.{MayGive}
use Rattle.xsk_model.specs.declared.call.Ring.{Ring}
use Rattle.xsk_model.specs.declared.call.Call.TheVariants.{Reserve, Submit, Peek, Release}
use Rattle.xsk_model.specs.declared.call.Reply.TheVariants.{Granted, Items}
use Rattle.xsk_legal.specs.Noted.{Noted}
use Rattle.xsk_legal.specs.Standing.{Keeps, StandsFor, IsPlacing, IsFetching, places_at}
use Rattle.xsk_legal.specs.ItemNotes.{IsFor, CanGrant, CanRelease, CanFetch, CanPlace}
use Rattle.xsk_legal.proofs.Rooms.{granted_ring, granted_few, released_held}
use Rattle.xsk_legal.proofs.StandingPlaced.{placed_ring, placed_room, placed_frame, placed_given}
use Rattle.xsk_legal.proofs.StandingFetched.{fetched_ring, fetched_held, fetched_frame, fetched_room}

pub kept_for : (c : Config) (kept : Noted) (mine queued : List Told) (back : ℕ → ℕ) → Keeps c kept mine queued back → IsFor c kept
kept_for c kept mine queued back h = record { rings = h.rings; frames = h.frames; sockets = h.sockets }

pub stands_for : (c : Config) (kept : Noted) (mine : List Told) → StandsFor c kept mine → IsFor c kept
stands_for c kept mine h = record { rings = h.keeps.rings; frames = h.keeps.frames; sockets = h.keeps.sockets }

pub can_grant : (c : Config) (kept : Noted) (mine : List Told) (r : Ring) (n : ℕ) → StandsFor c kept mine → MayGive c mine kept.who (Reserve r n) Granted → CanGrant c kept r n
can_grant c kept mine r n h gift = record {
  kind = stands_for c kept mine h;
  ring = granted_ring c kept mine r n gift;
  few = small ((places_at kept (place c r)).room + n) (granted_few c kept mine r n h gift);
}
  where
    small : (k : ℕ) → k ≤ 2048 → k < 2 ^ 32
    small k few = omega (arith, few)

pub can_release : (c : Config) (kept : Noted) (mine : List Told) (r : Ring) (n : ℕ) → StandsFor c kept mine → IsLegal c mine kept.who (Release r n) → CanRelease c kept r n
can_release c kept mine r n h legal = record {
  kind = stands_for c kept mine h;
  ring = legal.known;
  held = released_held c kept mine r n h legal;
}

pub can_fetch : (c : Config) (kept : Noted) (mine : List Told) (r : Ring) (n : ℕ) (done : List Item) (item : Item) (later : List Item)
    → IsFetching c kept mine r done → MayGive c mine kept.who (Peek r n) (Items (done ++ item ∷ later)) → CanFetch c kept r item
can_fetch c kept mine r n done item later h gift = record {
  kind = record { rings = h.keeps.rings; frames = h.keeps.frames; sockets = h.keeps.sockets };
  ring = fetched_ring c kept mine r n done item later h gift;
  few = fetched_held c kept mine r n done item later h gift;
  frame = fetched_frame c kept mine r n done item later h gift;
  room = fetched_room c kept mine r n done item later h gift r refl;
}

pub can_place : (c : Config) (kept : Noted) (mine : List Told) (r : Ring) (done : List Item) (item : Item) (later : List Item)
    → IsPlacing c kept mine r done → IsLegal c mine kept.who (Submit r (done ++ item ∷ later)) → CanPlace c kept r item
can_place c kept mine r done item later h legal = record {
  kind = record { rings = h.keeps.rings; frames = h.keeps.frames; sockets = h.keeps.sockets };
  ring = placed_ring c kept mine r done item later h legal;
  some = placed_room c kept mine r done item later h legal;
  frame = placed_frame c kept mine r done item later h legal;
  given = placed_given c kept mine r done item later h legal;
}
