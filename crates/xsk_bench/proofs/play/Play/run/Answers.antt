use Rattle.std.proofs.Common.{◌++◌, ◌+◌, ◌∙◌, arith, refl}
use Rattle.xsk_bench.proofs.Rounds.{few_still, gone_none, gone_more, gone_going, ends_still}
use Rattle.xsk_bench.proofs.play.Play.run.Goals as goal

pub loop-round-init : goal.loop-round-init
loop-round-init c = record { room = refl; few = omega arith; gone = λ s frames h played. gone_none s frames h c.args.self.now played }

pub round-requires : goal.round-requires
round-requires c =
    let g = c.requires.going in
    record { going = gone_going g (c.loop-round.invariant.gone g.setting g.frames g.history g.played) }

pub loop-round-preserved : goal.loop-round-preserved
loop-round-preserved c =
    let l = c.loop-round in
    record {
      room = c.round.ensures.room ∙ l.invariant.room;
      few = omega (arith, l.invariant.few, few_still c.in-Ok.quiet l.still c.still_after-still.result l.invariant.few c.still_after-still.ensures.more c.still_after-still.ensures.none, c.if-still-eq-STILL_ROUNDS.false);
      gone = λ s frames h played.
          let gone = l.invariant.gone s frames h played in
          gone_more s frames h l._round l.still c.still_after-still.result c.in-Ok.quiet l.self c.round.new.self gone l.invariant.few
          (c.in-Ok.ensures.round s frames (h ++ gone.entries) gone.played) c.still_after-still.ensures.more c.still_after-still.ensures.none;
    }

pub returns-then-still-eq-STILL_ROUNDS : goal.returns-then-still-eq-STILL_ROUNDS
returns-then-still-eq-STILL_ROUNDS c = record {
  room = c.round.ensures.room ∙ c.loop-round.invariant.room;
  rounds = λ s frames h played.
      let l = c.loop-round in
      let gone = l.invariant.gone s frames h played in
      let more = gone_more s frames h l._round l.still c.still_after-still.result c.in-Ok.quiet l.self c.round.new.self gone l.invariant.few
      (c.in-Ok.ensures.round s frames (h ++ gone.entries) gone.played) c.still_after-still.ensures.more c.still_after-still.ensures.none in
      ends_still s frames h c.args.most_rounds (l._round + 1) c.still_after-still.result c.round.new.self c.round.new.self more (omega (arith, c.if-still-eq-STILL_ROUNDS.true)) (omega (arith, c.loop-round-test.true));
}
