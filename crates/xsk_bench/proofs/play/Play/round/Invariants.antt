use Rattle.std.proofs.Common.{◌≡◌, ◌+◌, ◌*◌, ◌≤◌, List, vec_len}
use Rattle.std.specs.List.{range_with_len}
use Rattle.xsk_umem.specs.Frame.{Frame}
use Rattle.xsk_umem.specs.Geometry.{IsGeometry}
use Rattle.xsk_model.specs.Entry.{Entry}
use Rattle.xsk_turns.specs.Workers.{Setting}
use Rattle.xsk_sim.specs.Rooms.{most_payload}
use Rattle.xsk_bench.specs.Played.{HasPlayed}
use Rattle.xsk_bench.specs.DriverRounds.{HadTurns}
use Rattle.xsk_bench.proofs.play.Play.round.Given as goal

abbrev pub invariant-loop-who : goal.invariant-loop-who
invariant-loop-who l = record {
  geometry : IsGeometry l.self.checked.config.geometry;
  room : l.self.room ≡ l.fn.self.room;
  seats : vec_len l.self.seats ≡ l.count;
  entries : l.count ≤ l.who + l.self.checked.spare_entries;
  bytes : l.count * most_payload ≤ l.who * most_payload + l.self.checked.spare_bytes;
  round : (s : Setting) (frames : List Frame) (h : List Entry) → HasPlayed s frames h l.fn.self
      → HadTurns s frames h (range_with_len 0 l.who) l.self l.still;
}
