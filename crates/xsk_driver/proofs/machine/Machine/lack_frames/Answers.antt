use Rattle.std.proofs.Common.{ap}
use Rattle.xsk_turns.specs.Turns.{drops, moved, dropped, transmit, no_frames}
use Rattle.xsk_turns.specs.declared.disposal.Disposal.TheVariants.{NoFrames}
use Rattle.xsk_driver.specs.Stands.{seat_in, kept_in, noted_in, first}
use Rattle.xsk_driver.proofs.Steps.{goes_by, goes_left, drops_frames}
use Rattle.xsk_driver.proofs.machine.Machine.lack_frames.Goals as goal

pub returns-in-Drop-clause-goes : goal.returns-in-Drop-clause-goes
returns-in-Drop-clause-goes c =
    let m = c.args.self.now in
    let packet = (first (kept_in m)).bytes in
    goes_by (seat_in m) c.transmit.new.self c.transmit.new.asked (transmit (seat_in m) (moved (noted_in m)) (dropped (kept_in m) NoFrames)) (no_frames (seat_in m) packet (noted_in m) (kept_in m))
    (drops_frames (seat_in m) packet (noted_in m) (kept_in m) (ap drops c.in-Drop.is))
    (goes_left m c.drop_packet.new.self c.transmit.new.self c.transmit.new.asked (moved (noted_in m)) (dropped (kept_in m) NoFrames) c.drop_packet.ensures.leaves c.transmit.ensures.goes)
