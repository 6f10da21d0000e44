use Rattle.std.proofs.Common.{◌∙◌, ap, rules}
use Rattle.xsk_machine.specs.Workers.{setting_with}
use Rattle.xsk_socket.specs.Layout.{fault_of}
use Rattle.xsk_socket.specs.Regular.{regular_of}
use Rattle.xsk_c.proofs.opening.open.Goals as goal

pub returns-in_default-clause-fault : goal.returns-in_default-clause-fault
returns-in_default-clause-fault c why is = cc (c.in_ok-config.ensures.fault why (ap fault_of c.layout_of-layout.ensures ∙ is))

pub returns-clause-fault : goal.returns-clause-fault
returns-clause-fault c why is = cc (c.in_ok-config.ensures.fault why (ap fault_of c.layout_of-layout.ensures ∙ is))

pub returns-clause-opened : goal.returns-clause-opened
returns-clause-opened c =
    let traffic = c.in_ok-traffic.traffic.now in
    let made = c.in_ok-bench.ensures.opened in
    record {
      setting = setting_with traffic.config c.wire_of-wire.result traffic.packets made.0;
      frames = c.in_ok-config.frames.items;
      config = c.in_ok-traffic.ensures.config ∙ c.in_ok-config.ensures.config ∙ ap regular_of c.layout_of-layout.ensures;
      wire = c.wire_of-wire.ensures;
      packets = c.in_ok-traffic.ensures.read;
      played = made.1;
      none = (search rules);
    }
