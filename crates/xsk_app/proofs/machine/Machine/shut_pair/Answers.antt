use Rattle.std.proofs.Common.{rules, ◌≡◌, ◌≢◌, ◌/◌, slice_index_or}
use Rattle.xsk_turns.proofs.Object.{classes_of}
use Rattle.xsk_turns.specs.AppTurns.{pair_of}
use Rattle.xsk_app.proofs.Shutting.{side_first, side_second}
use Rattle.xsk_app.proofs.machine.Machine.shut_pair.Goals as goal

pub returns-then-pair-first : goal.returns-then-pair-first
returns-then-pair-first c =
    let m = c.args.self.now in
    let first : slice_index_or m.pairs 0 0 ≡ pair_of m.config.now m.app 0 = search rules in
    let here : c.args.socket / classes_of m.config.now ≡ pair_of m.config.now m.app 0 = search rules in
    side_first m.config.now m.app c.args.socket (slice_index_or m.pairs 0 0) first here

pub returns-else-pair-first : goal.returns-else-pair-first
returns-else-pair-first c =
    let m = c.args.self.now in
    let second : slice_index_or m.pairs 1 0 ≡ pair_of m.config.now m.app 1 = search rules in
    let other : c.args.socket / classes_of m.config.now ≢ pair_of m.config.now m.app 0 = search rules in
    side_second m.config.now m.app c.args.socket (slice_index_or m.pairs 1 0) second other
