use Rattle.std.proofs.Common.{rules, length}
use Rattle.xsk_hints.proofs.Waking.{wakens_first}
use Rattle.xsk_hints.proofs.wakes.Wakes.new.Goals as goal

pub returns-clause-wakens : goal.returns-clause-wakens
returns-clause-wakens c = wakens_first (length c.args.setting.now.sockets) c.in_ok-wakes.wakes.items (search rules)
