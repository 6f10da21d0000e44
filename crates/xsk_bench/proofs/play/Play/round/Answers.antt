use Rattle.std.proofs.Common.{rules, ◌≡◌, ◌++◌, ℕ, length, refl, sym, subst, ◌∙◌, arith}
use Rattle.std.specs.List.{range_with_len}
use Rattle.xsk_umem.specs.Geometry.{IsGeometry}
use Rattle.xsk_model.specs.Config.{Config}
use Rattle.xsk_sim.proofs.Stalling.{both_true}
use Rattle.xsk_bench.specs.DriverRounds.{HadTurns}
use Rattle.xsk_bench.proofs.Rounds.{had_none, had_more, going_on, played_same}
use Rattle.xsk_bench.proofs.play.Play.round.Goals as goal

pub loop-who-init : goal.loop-who-init
loop-who-init c = record {
  geometry = search rules;
  room = refl;
  seats = search rules;
  entries = omega (arith, c.in-Ok.ensures.entries);
  bytes = omega (arith, c.in-Ok.ensures.bytes);
  round = λ s frames h played. had_none s frames h _ (played_same s frames h c.args.self.now _ played refl c.reserve_log.ensures.same);
}

pub loop-who-preserved : goal.loop-who-preserved
loop-who-preserved c =
    let l = c.loop-who in
    record {
      geometry = subst (λ (k : Config). IsGeometry k.geometry) (sym c.step-still.ensures.config) l.invariant.geometry;
      room = c.step-still.ensures.room ∙ l.invariant.room;
      seats = c.step-still.ensures.seats ∙ l.invariant.seats;
      entries = omega (arith, c.step-still.ensures.entries, l.invariant.entries);
      bytes = omega (arith, c.step-still.ensures.bytes, l.invariant.bytes);
      round = λ s frames h played.
          let had = l.invariant.round s frames h played in
          had_more s frames h l.who l.self c.step-still.new.self l.still c.step-still.result _ (both_true _ _) had (c.step-still.ensures.turn s frames (h ++ had.entries) had.played);
    }

pub step-still-requires-clause-going : goal.step-still-requires-clause-going
step-still-requires-clause-going c =
    let g = c.requires.going in
    going_on g (c.loop-who.invariant.round g.setting g.frames g.history g.played)

pub returns : goal.returns
returns c = record {
  room = c.loop-who.invariant.room;
  round = λ s frames h played.
      let l = c.loop-who in
      let all : l.who ≡ length s.config.pairs = search (rules, played.count) in
      subst (λ (n : ℕ). HadTurns s frames h (range_with_len 0 n) l.self l.still) all (l.invariant.round s frames h played);
}
