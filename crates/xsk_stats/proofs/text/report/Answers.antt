use Rattle.std.proofs.Common.{◌∙◌, ap}
use Rattle.xsk_stats.proofs.text.report.Goals as goal

pub returns : goal.returns
returns c = ap (λ text. text.items) c.into_bytes.ensures.value ∙ c.in_ok-push_report.ensures
