use Rattle.std.proofs.Common.{◌++◌, ◌∙◌, arith, sym}
use Rattle.xsk_recording.proofs.Ends.{no-bytes}
use Rattle.xsk_check.proofs.Checking.{all-read, more-read, none-found, none-read, some-found}
use Rattle.xsk_check.proofs.check.Check.read.Goals as goal

pub loop-line-init : goal.loop-line-init
loop-line-init c = record { ready = c.requires; on = none-read c.args.self.now c.args.piece.now; short = omega arith }

pub returns-then-is_empty : goal.returns-then-is_empty
returns-then-is_empty c = λ text stands.
    let l = c.loop-line.invariant in
    all-read c.args.self.now c.loop-line.self c.args.piece.now c.loop-line.rest.now l.on
    (no-bytes c.loop-line.rest.now c.is_empty.result c.is_empty.ensures c.if-is_empty.true) text stands

pub returns-then-is_some : goal.returns-then-is_some
returns-then-is_some c = λ text stands.
    let l = c.loop-line.invariant in
    some-found c.args.self.now c.loop-line.self c.step.new.self c.args.piece.now c.loop-line.rest.now c.in_ok-found.later.now c.in_ok-found.found l.on
    c.in_ok-found.ensures.told (sym c.is_some.ensures ∙ c.if-is_some.true) text stands

pub loop-line-preserved : goal.loop-line-preserved
loop-line-preserved c =
    let l = c.loop-line.invariant in
    let on = none-found c.loop-line.self c.step.new.self c.loop-line.rest.now c.in_ok-found.later.now c.in_ok-found.found c.in_ok-found.ensures.told
    (sym c.is_some.ensures ∙ c.if-is_some.false) in
    let first = on l.ready.0 l.ready.1 in
    record {
      ready = (l.ready.0 ++ first.0, first.2);
      on = more-read c.args.self.now c.loop-line.self c.step.new.self c.args.piece.now c.loop-line.rest.now c.in_ok-found.later.now l.on on;
      short = omega (arith, l.short, c.in_ok-found.ensures.shorter);
    }
