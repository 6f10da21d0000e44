use Rattle.std.proofs.Common.{◌≡◌, arith}
use Rattle.xsk_recording.specs.Text.{most_lines}
use Rattle.xsk_recording.proofs.Lines.{line-long, line-late}
use Rattle.xsk_recording.proofs.reading.Reading.read_line.Goals as goal

pub returns-then-text-gt-MOST_BYTES-clause-told : goal.returns-then-text-gt-MOST_BYTES-clause-told
returns-then-text-gt-MOST_BYTES-clause-told c = λ r shows. line-long r c.args.text.now (omega (arith, c.if-text-gt-MOST_BYTES.true))

pub returns-then-self-eq-MOST_LINES-clause-told : goal.returns-then-self-eq-MOST_LINES-clause-told
returns-then-self-eq-MOST_LINES-clause-told c = λ r shows.
    let all : c.args.self.now.lines ≡ most_lines = rw (← c.self.view_is) c.if-self-eq-MOST_LINES.true in
    line-late r c.args.text.now (omega (arith, shows.lines, all))
