-- What a contract sees of the object that serves a run's calls, and what it changes by them.
use Rattle.std.specs.Prelude.{◌≡◌, ℕ, ◌+◌, ◌-◌, ◌*◌, ◌≤◌, Bool, true, false, IsTrue, List, [], ◌∷◌, ◌++◌}
use Rattle.xsk_umem.specs.Frame.{Frame}
use Rattle.xsk_model.specs.Config.{Config}
use Rattle.xsk_model.specs.Object.{State, reply_at, after}
use Rattle.xsk_model.specs.Opening.{opening}
use Rattle.xsk_model.specs.Stored.{stored_entry}
use Rattle.xsk_model.specs.declared.call.Call.{Call}
use Rattle.xsk_model.specs.declared.call.Reply.{Reply}
use Rattle.xsk_plain.specs.Engine.{Engine, Shows}
use Rattle.xsk_sim.specs.Rooms.{most_payload}

-- the engine, and whether it keeps its log
pub record Seen : Type 0 where
  pub engine : Engine
  pub keeps : Bool

-- one with a log, and one without: this has room for calls until 2^64 - 1 are made
abbrev pub logged_seen : Engine → Seen
logged_seen engine = record { engine = engine; keeps = true }

abbrev pub unlogged_seen : Engine → Seen
unlogged_seen engine = record {
  engine = record engine { spare_entries = 18446744073709551615 - engine.calls; spare_bytes = (18446744073709551615 - engine.calls) * most_payload };
  keeps = false;
}

-- it was opened: no call was made
pub record IsOpening (c : Config) (frames : List Frame) (new : Seen) : Type 0 where
  pub config : new.engine.config ≡ c
  pub state : Shows new.engine (opening c frames)
  pub calls : new.engine.calls ≡ 0
  pub log : IsTrue new.keeps → new.engine.log ≡ []

-- it made a call as the object does, in each state that it shows, and has room for one call less; where it keeps its log, it entered it
pub record Serves (old new : Seen) (who : ℕ) (call : Call) (answer : Reply) : Type 0 where
  pub reply : (s : State) → Shows old.engine s → answer ≡ reply_at old.engine.config s call
  pub state : (s : State) → Shows old.engine s → Shows new.engine (after old.engine.config s who call)
  pub config : new.engine.config ≡ old.engine.config
  pub calls : new.engine.calls ≡ old.engine.calls + 1
  pub keeps : new.keeps ≡ old.keeps
  pub log : IsTrue old.keeps → new.engine.log ≡ old.engine.log ++ stored_entry old.engine.config.geometry old.engine.config.sg (record { who = who; call = call; reply = answer }) ∷ []
  pub entries : old.engine.spare_entries ≤ new.engine.spare_entries + 1
  pub bytes : old.engine.spare_bytes ≤ new.engine.spare_bytes + most_payload

-- nothing changed but the room for calls
pub record OnlyRoom (old new : Seen) : Type 0 where
  pub keeps : new.keeps ≡ old.keeps
  pub engine : new.engine ≡ record old.engine { spare_entries = new.engine.spare_entries; spare_bytes = new.engine.spare_bytes }
