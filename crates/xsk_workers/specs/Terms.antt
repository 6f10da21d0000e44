-- The terms of a run, as a setting.
use Rattle.std.specs.Prelude.{List}
use Rattle.xsk_prog.specs.declared.rule.Verdict.{Verdict}
use Rattle.xsk_turns.specs.Workers.{Setting}
use Rattle.xsk_machine.specs.Workers.{setting_by}
use Rattle.xsk_workers.specs.declared.context.Terms.{Terms}

-- the setting of these terms under these verdicts
abbrev pub setting_over : Terms → List (List Verdict) → Setting
setting_over terms verdicts = setting_by terms.config.now terms.wire terms.manner terms.packets.now verdicts
