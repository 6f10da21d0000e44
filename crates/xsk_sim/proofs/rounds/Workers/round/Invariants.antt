use Rattle.std.proofs.Common.{◌≡◌, ◌+◌, ◌*◌, ◌≤◌, List, take, vec_len}
use Rattle.xsk_umem.specs.Frame.{Frame}
use Rattle.xsk_model.specs.Entry.{Entry}
use Rattle.xsk_turns.specs.Workers.{Setting}
use Rattle.xsk_sim.specs.Order.{rotated}
use Rattle.xsk_sim.specs.Rooms.{most_payload}
use Rattle.xsk_sim.specs.Seats.{AreSeated, HadTurns}
use Rattle.xsk_sim.proofs.Turning.{InTurn}
use Rattle.xsk_sim.proofs.rounds.Workers.round.Given as goal

abbrev pub invariant-loop-turn : goal.invariant-loop-turn
invariant-loop-turn g l = record {
  config : (g.S.Server.seen l.server).engine.config ≡ (g.S.Server.seen l.fn.server).engine.config;
  seats : vec_len l.self.seats ≡ vec_len l.initial.self.seats;
  count : vec_len l.self.seats ≡ l.callers;
  who : InTurn l.callers l.start l._turn l.who;
  entries : l.callers ≤ l._turn + (g.S.Server.seen l.server).engine.spare_entries;
  bytes : l.callers * most_payload ≤ l._turn * most_payload + (g.S.Server.seen l.server).engine.spare_bytes;
  round : (s : Setting) (frames : List Frame) (h : List Entry) → AreSeated s frames h l.fn.self (g.S.Server.seen l.fn.server)
      → HadTurns s frames h (take l._turn (rotated l.callers l.start)) l.self (g.S.Server.seen l.server) l.still;
}
