use Rattle.std.proofs.Common.{rules, ◌≡◌, ◌-◌, Some, None, ap, ◌∙◌, slice_index_or}
use Rattle.xsk_turns.proofs.Calls.{RxDone}
use Rattle.xsk_turns.specs.AppTurns.{AppKept, pair_of, with_seen}
use Rattle.xsk_app.specs.Ways.{first_unset}
use Rattle.xsk_app.specs.Stands.{kept_by}
use Rattle.xsk_app.proofs.TurnLemmas.{looks_at, looks_no_more}
use Rattle.xsk_app.proofs.machine.Machine.look_rx_done.Goals as goal

pub returns-in-Some-clause-goes : goal.returns-in-Some-clause-goes
returns-in-Some-clause-goes c =
    let m = c.args.self.now in
    let at = c.in-Some.side in
    let first : first_unset m.seen (2 - c.args.side) c.args.side ≡ Some at = search rules in
    let pair : slice_index_or m.pairs at 0 ≡ pair_of m.config.now m.app at = search rules in
    looks_at m.config.now m.app (λ (k : AppKept). k.seen) (λ side. RxDone (pair_of m.config.now m.app side)) with_seen c.args.side (kept_by m) at (RxDone (slice_index_or m.pairs at 0)) c.requires first (ap (λ d. RxDone d) pair)

pub returns-in-None-clause-goes : goal.returns-in-None-clause-goes
returns-in-None-clause-goes c =
    let m = c.args.self.now in
    let none : first_unset m.seen (2 - c.args.side) c.args.side ≡ None = search rules in
    c.begin.ensures.goes ∙ looks_no_more m.config.now m.app (λ (k : AppKept). k.seen) (λ side. RxDone (pair_of m.config.now m.app side)) with_seen c.args.side (kept_by m) c.requires none
