use Rattle.std.proofs.Common.{ℕ, get_or}
use Rattle.std.proofs.lemmas.List.{get_or_default}
use Rattle.xsk_driver.proofs.Bouncing.{stays_here, short_here, bounces_here}
use Rattle.xsk_driver.proofs.machine.Machine.bouncing_at.Goals as goal

pub returns-then-packet-lt-LEAST_BYTES : goal.returns-then-packet-lt-LEAST_BYTES
returns-then-packet-lt-LEAST_BYTES c =
    let m = c.args.self.now in
    let number : ℕ = get_or m.numbers.now c.args.place 0 in
    short_here m c.args.place c.requires.within number c.get-packet.result.now (get_or_default m.numbers.now c.args.place 0 number c.requires.within) c.get-packet.ensures
    c.if-packet-lt-LEAST_BYTES.true

pub returns-else-packet-lt-LEAST_BYTES : goal.returns-else-packet-lt-LEAST_BYTES
returns-else-packet-lt-LEAST_BYTES c =
    let m = c.args.self.now in
    let number : ℕ = get_or m.numbers.now c.args.place 0 in
    bounces_here m c.args.place c.requires.within number c.get-packet.result.now c.index.result.now (get_or_default m.numbers.now c.args.place 0 number c.requires.within) c.get-packet.ensures
    c.index.ensures c.in-Bounce.is c.if-packet-lt-LEAST_BYTES.false

pub returns-in_default : goal.returns-in_default
returns-in_default c = stays_here c.args.self.now c.args.place c.requires.within c.index.result.now c.index.ensures c.in_default.not-Bounce
