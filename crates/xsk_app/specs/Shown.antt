-- What a contract sees of an application: the kind of reply that it waits for, where it works, where it waits, and what
-- it noted and keeps.
use Rattle.std.specs.Prelude.{ℕ}
use Rattle.xsk_model.specs.Config.{Config}
use Rattle.xsk_model.specs.Expected.{Expected}
use Rattle.xsk_turns.specs.AppTurns.{AppKept, AppNoted}
use Rattle.xsk_app.specs.declared.machine.Wait.{Wait}

pub record Shown : Type 0 where
  pub expected : Expected
  pub config : Config
  pub app : ℕ
  pub wait : Wait
  pub noted : AppNoted
  pub kept : AppKept
