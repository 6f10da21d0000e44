use Rattle.std.proofs.Common.{rules, ◌≡◌, ap, ◌∙◌}
use Rattle.xsk_turns.specs.Statistics.{capped}
use Rattle.xsk_turns.specs.Stranded.{stranded_in}
use Rattle.xsk_driver.proofs.Stranding.{stands_stranded, ended_stranded}
use Rattle.xsk_driver.proofs.driver.Driver.stranded.Goals as goal

pub returns-clause-counts : goal.returns-clause-counts
returns-clause-counts c wire config pair input l call stands =
    let value : c.saturating_add-2.result ≡ capped (stranded_in c.args.self.now.kept) = search rules in
    value ∙ ap capped (stands_stranded wire config pair input c.args.self.now call l stands)

pub returns-clause-ended : goal.returns-clause-ended
returns-clause-ended c wire config pair input l ended =
    let value : c.saturating_add-2.result ≡ capped (stranded_in c.args.self.now.kept) = search rules in
    value ∙ ap capped (ended_stranded wire config pair input c.args.self.now l ended)
