use Rattle.std.proofs.Common.{◌≡◌, drop, string_bytes}
use Rattle.xsk_stats.specs.Report.{put_behind}
use Rattle.xsk_stats.proofs.text.push_numbers.Given as goal

abbrev pub invariant-loop-number : goal.invariant-loop-number
invariant-loop-number l = put_behind (string_bytes l.text) (drop l.number-index l.numbers) ≡ put_behind (string_bytes l.initial.text) l.numbers
