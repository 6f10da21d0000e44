use Rattle.std.proofs.Common.{sym, ap}
use Rattle.xsk_app.specs.Ways.{socket_in}
use Rattle.xsk_turns.proofs.AppShut.{no_shut}
use Rattle.xsk_app.proofs.app.App.resume.Goals as goal

pub start-requires-clause-shut : goal.start-requires-clause-shut
start-requires-clause-shut c = sym (ap socket_in (no_shut c.args.config.now c.args.app c.requires.steady.closes))
