use Rattle.std.proofs.Common.{◌≡◌, ◌<◌, List}
use Rattle.xsk_umem.specs.Frame.{Frame}
use Rattle.xsk_model.specs.Entry.{Entry}
use Rattle.xsk_turns.specs.Workers.{Setting}
use Rattle.xsk_bench.specs.Played.{HasPlayed}
use Rattle.xsk_bench.proofs.Rounds.{Gone}
use Rattle.xsk_bench.proofs.play.Play.run.Given as goal

abbrev pub invariant-loop-round : goal.invariant-loop-round
invariant-loop-round l = record {
  room : l.self.room ≡ l.fn.self.room;
  few : l.still < 64;
  gone : (s : Setting) (frames : List Frame) (h : List Entry) → HasPlayed s frames h l.fn.self → Gone s frames h l._round l.still l.self;
}
