use Rattle.std.proofs.Common.{rules}
use Rattle.xsk_hints.proofs.Feeding.{feeds_first}
use Rattle.xsk_hints.proofs.fills.Fills.new.Goals as goal

pub returns-clause-feeds : goal.returns-clause-feeds
returns-clause-feeds c = feeds_first c.args.setting.now c.in_ok-fills.fills.items (search rules)
