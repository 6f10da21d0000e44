use Rattle.std.proofs.Common.{refl, map}
use Rattle.xsk_driver.specs.Stands.{kept_in, packet_at}
use Rattle.xsk_turns.specs.Verdicts.{judged}
use Rattle.xsk_turns.specs.declared.disposal.Disposal.TheVariants.{Bounced}
use Rattle.xsk_driver.proofs.Steps.{settled_by}
use Rattle.xsk_driver.proofs.machine.Machine.settle_bounced.Goals as goal

pub returns-clause-leaves : goal.returns-clause-leaves
returns-clause-leaves c =
    let before = c.args.self.now in
    record {
      seat = refl;
      notes = refl;
      keeps = settled_by (kept_in before) (judged (map (packet_at before.packets.now) before.numbers.now) before.verdicts.items) c.push_reserved.new.self.items Bounced refl c.push_reserved.ensures.items;
    }
