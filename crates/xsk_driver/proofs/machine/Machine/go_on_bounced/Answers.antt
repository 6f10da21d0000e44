use Rattle.xsk_turns.specs.Turns.{moved, settled}
use Rattle.xsk_turns.specs.declared.disposal.Disposal.TheVariants.{Bounced}
use Rattle.xsk_driver.specs.Stands.{kept_in, noted_in}
use Rattle.xsk_driver.proofs.Steps.{goes_left, trying_some}
use Rattle.xsk_driver.proofs.machine.Machine.go_on_bounced.Goals as goal

pub settle_bounced-requires : goal.settle_bounced-requires
settle_bounced-requires c = record { some = trying_some (kept_in c.args.self.now).coming c.requires.trying }

pub returns-clause-goes : goal.returns-clause-goes
returns-clause-goes c =
    let m = c.args.self.now in
    goes_left m c.settle_bounced.new.self c.transmit.new.self c.transmit.new.asked (moved (noted_in m)) (settled (kept_in m) Bounced) c.settle_bounced.ensures.leaves c.transmit.ensures.goes
