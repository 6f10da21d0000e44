use Rattle.std.proofs.Common.{◌+◌}
use Rattle.xsk_table.specs.Rule.{entry_of}
use Rattle.xsk_table.proofs.RingSteps.{place_below}
use Rattle.std.proofs.Common.{sym, ap, ◌∙◌, ◌+◌, length}
use Rattle.xsk_table.specs.Rule.{lying}
use Rattle.xsk_table.proofs.Fetching.{fetches_keep}
use Rattle.xsk_table.proofs.moves.read_entry.Goals as goal

pub look-requires-clause-keeps : goal.look-requires-clause-keeps
look-requires-clause-keeps g c = let f = c.requires.flight in let w = c.requires.word.1 in let a = c.requires.caller in
    rw c.requires.ask (fetches_keep _ _ _ _ f.0 f.1 _ a.0 c.requires.alone a.1 a.2 f.2 w.0 (ap (λ h. w.0 + length (lying h)) (sym f.2) ∙ w.1) w.2 a.3)

pub returns-clause-told : goal.returns-clause-told
returns-clause-told g c = rw c.requires.ask at c.look.ensures.told

pub look-requires-clause-uncounted : goal.look-requires-clause-uncounted
look-requires-clause-uncounted g c config =
    let k = c.args.board.now.setup in
    let w = c.requires.word.1 in
    let has = c.requires.caller.1 in
    (entry_of k.config c.args.ring (k.first + w.0), (has, place_below k.config c.args.ring (k.first + w.0) config has), w.2, tt)
