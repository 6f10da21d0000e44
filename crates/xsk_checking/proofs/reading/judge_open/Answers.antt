use Rattle.std.proofs.Common.{arith, rules, ◌≡◌, ◌∙◌, sym, take}
use Rattle.std.proofs.lemmas.Grind.{common_steps}
use Rattle.xsk_checking.proofs.Pieces.{begun-memory, none-begun, read-ended, read-failed, read-on, read-settled}
use Rattle.xsk_checking.proofs.reading.judge_open.Goals as goal

pub read-requires-clause-opened : goal.read-requires-clause-opened
read-requires-clause-opened g c = c.loop-piece.invariant.1.is_open

pub loop-piece-init : goal.loop-piece-init
loop-piece-init g c = (search rules, none-begun (g.B.Bay.moment c.args.bay.now) c.args.check.now c.requires.fresh c.requires.opened)

pub returns-in_default : goal.returns-in_default
returns-in_default g c =
    begun-memory (g.B.Bay.moment c.args.bay.now) (g.B.Bay.moment c.args.bay.now) c.args.check.now c.args.check.now
    (none-begun (g.B.Bay.moment c.args.bay.now) c.args.check.now c.requires.fresh c.requires.opened)

pub returns-in-Err : goal.returns-in-Err
returns-in-Err g c =
    let e = c.in-Err.ensures in
    read-failed (g.B.Bay.moment c.args.bay.now) (g.B.Bay.moment c.loop-piece.bay) (g.B.Bay.moment c.read.new.self) c.loop-piece.check c.loop-piece.check
    c.loop-piece.invariant.1 (record { opened = e.opened; asked = e.names; held = e.held; counts = e.counts }) e.cause

pub returns-then-count-eq0 : goal.returns-then-count-eq0
returns-then-count-eq0 g c =
    let e = c.in-Ok-read.ensures in
    read-ended (g.B.Bay.moment c.args.bay.now) (g.B.Bay.moment c.loop-piece.bay) (g.B.Bay.moment c.read.new.self) c.loop-piece.check
    c.loop-piece.invariant.1 (record { opened = e.opened; asked = e.names; held = e.held; counts = e.counts }) e.no_fault (e.end c.if-count-eq0.true (search rules))

pub returns-then-is_some : goal.returns-then-is_some
returns-then-is_some g c =
    let e = c.in-Ok-read.ensures in
    let same : c.deref.result.now ≡ c.read.new.buf = grind (arith, common_steps) in
    let piece = take c.in-Ok-read.count c.deref.result.now in
    read-settled (g.B.Bay.moment c.args.bay.now) (g.B.Bay.moment c.loop-piece.bay) (g.B.Bay.moment c.read.new.self) c.loop-piece.check c.read-in-loop-piece.new.self
    piece c.in-Ok-read-2.found c.loop-piece.invariant.1 (record { opened = e.opened; asked = e.names; held = e.held; counts = e.counts }) e.no_fault
    (rw same e.bytes) c.in-Ok-read-2.ensures (sym c.is_some.ensures ∙ c.if-is_some.true)

pub loop-piece-preserved : goal.loop-piece-preserved
loop-piece-preserved g c =
    let e = c.in-Ok-read.ensures in
    let same : c.deref.result.now ≡ c.read.new.buf = grind (arith, common_steps) in
    let piece = take c.in-Ok-read.count c.deref.result.now in (
      c.loop-piece.invariant.0,
      read-on (g.B.Bay.moment c.args.bay.now) (g.B.Bay.moment c.loop-piece.bay) (g.B.Bay.moment c.read.new.self) c.loop-piece.check c.read-in-loop-piece.new.self
          piece c.in-Ok-read-2.found c.loop-piece.invariant.1 (record { opened = e.opened; asked = e.names; held = e.held; counts = e.counts }) e.no_fault
          (rw same e.bytes) c.in-Ok-read-2.ensures (sym c.is_some.ensures ∙ c.if-is_some.false),
    )

pub returns : goal.returns
returns g c =
    begun-memory (g.B.Bay.moment c.args.bay.now) (g.B.Bay.moment c.loop-piece.bay) c.loop-piece.check c.loop-piece.check c.loop-piece.invariant.1
