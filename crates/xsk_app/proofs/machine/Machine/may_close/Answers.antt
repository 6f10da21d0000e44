use Rattle.std.proofs.Common.{rules, ◌≡◌, ◌%◌, true, false, ap}
use Rattle.xsk_app.specs.Stands.{kept_by, is_due}
use Rattle.xsk_app.proofs.Shutting.{may_by, may_not}
use Rattle.xsk_app.proofs.machine.Machine.may_close.Goals as goal

pub returns-then-is_due : goal.returns-then-is_due
returns-then-is_due c =
    let m = c.args.self.now in
    let due : is_due (kept_by m) ≡ true = search rules in
    may_by m.config.now m.app c.args.socket (c.args.socket % m.classes) (kept_by m) c.are_idle.result due (ap (λ n. c.args.socket % n) m.classes_are) c.are_idle.ensures

pub returns-else-is_due : goal.returns-else-is_due
returns-else-is_due c =
    let m = c.args.self.now in
    let due : is_due (kept_by m) ≡ false = search rules in
    may_not m.config.now m.app c.args.socket (kept_by m) due
