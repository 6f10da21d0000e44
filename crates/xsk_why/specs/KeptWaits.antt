-- The calls that changed nothing, as they are kept.
use Rattle.std.specs.Prelude.{List, map}
use Rattle.xsk_why.specs.Waiting.{Waiting}
use Rattle.xsk_why.specs.declared.waits.Wait.{Wait}

abbrev pub waiting_in : Wait → Waiting
waiting_in wait = record { who = wait.who; line = wait.line.items }

abbrev pub shown : List Wait → List Waiting
shown waits = map waiting_in waits
