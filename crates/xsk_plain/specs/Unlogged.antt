-- What a contract sees of the object without a log, and what holds of its parts between its calls.
use Rattle.std.specs.Prelude.{◌≡◌, ◌≤◌, []}
use Rattle.xsk_plain.specs.Engine.{Engine}
use Rattle.xsk_plain.specs.Stores.{parts_of}
use Rattle.xsk_plain.specs.declared.unlogged.Unlogged.TheInside.{Inside}

-- an engine whose log has no entry and no room for one
abbrev pub unlogged_engine : Inside → Engine
unlogged_engine p = record {
  config = p.object.config;
  rings = parts_of p.object.rings.items;
  marks = p.object.marks.items;
  log = [];
  calls = p.calls;
  spare_entries = 0;
  spare_bytes = 0;
}

-- the queue in which the frames came stands empty, with room for all of them
pub record IsHome (p : Inside) : Type 0 where
  pub home : p.home.items ≡ []
  pub limit : p.object.config.geometry.frames ≤ p.home.limit

-- the configuration and the number of calls stay
pub record SameCount (old new : Engine) : Type 0 where
  pub config : new.config ≡ old.config
  pub calls : new.calls ≡ old.calls
