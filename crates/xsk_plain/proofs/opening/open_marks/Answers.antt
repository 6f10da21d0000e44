use Rattle.std.proofs.Common.{◌≡◌, ◌+◌, ◌*◌, ◌≤◌, ◌++◌, [], length, replicate, ap, ◌∙◌, arith}
use Rattle.xsk_model.proofs.Opened.{opening-marks}
use Rattle.xsk_plain.proofs.Openings.{marks_open}
use Rattle.xsk_plain.proofs.opening.open_marks.Goals as goal

pub returns-clause-marks : goal.returns-clause-marks
returns-clause-marks c =
    let config = c.args.config.now in
    let end : config.ports ≤ c.loop-port.port = omega arith in
    let added : c.add_zeros.new.marks.items ≡ c.loop-port.marks.items ++ replicate (2 * length config.sockets + length config.pairs) 0 =
    rw (c.sockets.ensures.value, c.pairs.ensures.value) at c.in_ok-add_zeros.ensures in
    marks_open config c.loop-port.marks.items c.add_zeros.new.marks.items c.loop-port.port c.sockets.ensures.lawful c.loop-port.invariant end added

pub returns-clause-len : goal.returns-clause-len
returns-clause-len c =
    let config = c.args.config.now in
    let end : config.ports ≤ c.loop-port.port = omega arith in
    let added : c.add_zeros.new.marks.items ≡ c.loop-port.marks.items ++ replicate (2 * length config.sockets + length config.pairs) 0 =
    rw (c.sockets.ensures.value, c.pairs.ensures.value) at c.in_ok-add_zeros.ensures in
    c.add_zeros.new.marks.ok.0
    ∙ ap length (marks_open config c.loop-port.marks.items c.add_zeros.new.marks.items c.loop-port.port c.sockets.ensures.lawful c.loop-port.invariant end added)
    ∙ opening-marks config [] c.sockets.ensures.lawful
