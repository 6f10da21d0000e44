-- What one item that is noted changes of what a standing keeps.
use Rattle.std.specs.Prelude.{◌≡◌, ℕ, ◌+◌, ◌-◌, ◌^◌, ◌<◌, ◌≤◌, Bool, IfSome, Option, Some, None, List, length}
use Rattle.std.specs.List.{slice_set}
use Rattle.xsk_umem.specs.Frame.{Frame}
use Rattle.xsk_umem.specs.Geometry.{Geometry}
use Rattle.xsk_umem.specs.declared.batch.Item.{Item}
use Rattle.xsk_umem.specs.declared.batch.XdpDesc.{XdpDesc}
use Rattle.xsk_model.specs.Config.{Config, HasRing}
use Rattle.xsk_model.specs.Rings.{place, places_of}
use Rattle.xsk_model.specs.declared.call.Ring.{Ring}
use Rattle.xsk_model.specs.declared.call.Ring.TheVariants.{Fill, Comp, Rx, Tx}
use Rattle.xsk_legal.specs.declared.standing.Places.{Places}
use Rattle.xsk_legal.specs.Noted.{Queue, Noted}
use Rattle.xsk_legal.specs.Queue.{pushed, first_off}
use Rattle.xsk_legal.specs.Standing.{places_at, queue_at}
use Rattle.xsk_legal.specs.Pieces.{item_source}

-- ---- the places of a ring

abbrev pub one_held : Noted → ℕ → List Places
one_held kept i = slice_set kept.places i (record (places_at kept i) { held = (places_at kept i).held + 1 })

abbrev pub one_filled : Noted → ℕ → List Places
one_filled kept i = slice_set kept.places i (record (places_at kept i) { room = (places_at kept i).room - 1 })

-- ---- the source of a frame

abbrev pub sources_with : List (Option Ring) → Option Frame → Option Ring → List (Option Ring)
sources_with sources None source = sources
sources_with sources (Some frame) source = slice_set sources frame.number source

-- ---- the descriptors of a TX ring

abbrev pub desc_pushed : Geometry → Bool → Noted → ℕ → XdpDesc → List Queue
desc_pushed g sg kept s desc = slice_set kept.queues s (pushed g sg (queue_at kept s) desc)

-- a Peek on TX brings one more
abbrev pub queues_with : Geometry → Bool → Noted → Ring → XdpDesc → List Queue
queues_with g sg kept (Fill d) desc = kept.queues
queues_with g sg kept (Comp d) desc = kept.queues
queues_with g sg kept (Rx s) desc = kept.queues
queues_with g sg kept (Tx s) desc = desc_pushed g sg kept s desc

-- a Submit on COMPLETION gives the first one of the frame's ring back
abbrev pub queues_of_source : Noted → Option Ring → List Queue
queues_of_source kept None = kept.queues
queues_of_source kept (Some (Fill d)) = kept.queues
queues_of_source kept (Some (Comp d)) = kept.queues
queues_of_source kept (Some (Rx s)) = kept.queues
queues_of_source kept (Some (Tx s)) = slice_set kept.queues s (first_off (queue_at kept s))

abbrev pub queues_without : Noted → Ring → Option Ring → List Queue
queues_without kept (Fill d) source = kept.queues
queues_without kept (Comp d) source = queues_of_source kept source
queues_without kept (Rx s) source = kept.queues
queues_without kept (Tx s) source = kept.queues

-- ---- all of it

abbrev pub fetched_item : Config → Ring → Item → Noted → Noted
fetched_item c r item kept = record {
  who = kept.who;
  places = one_held kept (place c r);
  sources = sources_with kept.sources item.frame (Some r);
  queues = queues_with c.geometry c.sg kept r item.desc;
  marked = kept.marked;
}

abbrev pub placed_item : Config → Ring → Item → Noted → Noted
placed_item c r item kept = record {
  who = kept.who;
  places = one_filled kept (place c r);
  sources = sources_with kept.sources item.frame None;
  queues = queues_without kept r (item_source kept.sources item);
  marked = kept.marked;
}

-- ---- room

-- a descriptor more finds room
abbrev pub HasRoom : Geometry → Bool → Noted → Ring → XdpDesc → Type 0
HasRoom g sg kept (Fill d) desc = Unit {0}
HasRoom g sg kept (Comp d) desc = Unit {0}
HasRoom g sg kept (Rx s) desc = Unit {0}
HasRoom g sg kept (Tx s) desc = (s < length kept.queues) × (length (pushed g sg (queue_at kept s) desc).descs ≤ (queue_at kept s).limit)

-- there is a first one, of a packet that is at its end
abbrev pub HasFirst : Noted → Option Ring → Type 0
HasFirst kept None = Unit {0}
HasFirst kept (Some (Fill d)) = Unit {0}
HasFirst kept (Some (Comp d)) = Unit {0}
HasFirst kept (Some (Rx s)) = Unit {0}
HasFirst kept (Some (Tx s)) = (s < length kept.queues) × ((queue_at kept s).begun < length (queue_at kept s).descs)

abbrev pub HasGiven : Noted → Ring → Option Ring → Type 0
HasGiven kept (Fill d) source = Unit {0}
HasGiven kept (Comp d) source = HasFirst kept source
HasGiven kept (Rx s) source = Unit {0}
HasGiven kept (Tx s) source = Unit {0}

-- ---- when a call can be noted

-- the standing is one for the configuration: it keeps something of each ring, each frame and each socket
pub record IsFor (c : Config) (kept : Noted) : Type 0 where
  pub rings : length kept.places ≡ places_of c
  pub frames : length kept.sources ≡ c.geometry.frames
  pub sockets : length kept.queues ≡ length c.sockets

-- a Reserve that was granted
pub record CanGrant (c : Config) (kept : Noted) (r : Ring) (n : ℕ) : Type 0 where
  pub kind : IsFor c kept
  pub ring : HasRing c r
  pub few : (places_at kept (place c r)).room + n < 2 ^ 32

-- a Release
pub record CanRelease (c : Config) (kept : Noted) (r : Ring) (n : ℕ) : Type 0 where
  pub kind : IsFor c kept
  pub ring : HasRing c r
  pub held : n ≤ (places_at kept (place c r)).held

-- an item of a Peek's reply
pub record CanFetch (c : Config) (kept : Noted) (r : Ring) (item : Item) : Type 0 where
  pub kind : IsFor c kept
  pub ring : HasRing c r
  pub few : (places_at kept (place c r)).held < 2048
  pub frame : IfSome item.frame (λ (f : Frame). f.number < length kept.sources)
  pub room : HasRoom c.geometry c.sg kept r item.desc

-- an item of a Submit
pub record CanPlace (c : Config) (kept : Noted) (r : Ring) (item : Item) : Type 0 where
  pub kind : IsFor c kept
  pub ring : HasRing c r
  pub some : 1 ≤ (places_at kept (place c r)).room
  pub frame : IfSome item.frame (λ (f : Frame). f.number < length kept.sources)
  pub given : HasGiven kept r (item_source kept.sources item)
