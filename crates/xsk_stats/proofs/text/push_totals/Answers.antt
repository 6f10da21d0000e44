use Rattle.std.proofs.Common.{string_bytes, [], sym, append-nil}
use Rattle.xsk_stats.proofs.text.push_totals.Goals as goal

pub returns : goal.returns
returns c = c.push_ended.ensures (string_bytes c.args.text.now) [] (sym (append-nil (string_bytes c.args.text.now)))
