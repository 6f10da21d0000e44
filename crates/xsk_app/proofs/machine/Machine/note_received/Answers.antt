use Rattle.xsk_app.specs.Stands.{kept_by}
use Rattle.xsk_app.proofs.Shutting.{counted_none}
use Rattle.std.proofs.Common.{rules, ◌≡◌, None}
use Rattle.xsk_app.proofs.machine.Machine.note_received.Goals as goal

pub returns-in_default-clause-kept : goal.returns-in_default-clause-kept
returns-in_default-clause-kept c =
    let m = c.args.self.now in
    let none : m.config.now.closing ≡ None = search rules in
    counted_none m.config.now m.app c.args.lane (kept_by m) none
