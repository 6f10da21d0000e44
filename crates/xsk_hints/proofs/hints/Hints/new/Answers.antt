use Rattle.std.proofs.Common.{◌+◌, ◌*◌, length, refl, rules}
use Rattle.xsk_hints.specs.Noted.{Noted}
use Rattle.xsk_hints.proofs.Counting.{notes_first}
use Rattle.xsk_hints.proofs.hints.Hints.new.Goals as goal

pub returns-clause-notes : goal.returns-clause-notes
returns-clause-notes c =
    let noted : Noted = record { tallies = c.in_ok-tallies.tallies.items; peeks = c.in_ok-peeks.peeks.items; metadata = c.args.metadata } in
    let s = c.args.setting.now in
    notes_first s noted ((length s.pairs + length s.sockets) * 6) refl (search rules) (search rules)
