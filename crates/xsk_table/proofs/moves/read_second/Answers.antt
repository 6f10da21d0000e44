use Rattle.std.proofs.Common.{◌+◌}
use Rattle.xsk_table.specs.Rule.{second_of}
use Rattle.xsk_table.proofs.RingSteps.{place_below}
use Rattle.xsk_table.proofs.Fetching.{reads_keep}
use Rattle.xsk_table.proofs.moves.read_second.Goals as goal

pub look-requires-clause-keeps : goal.look-requires-clause-keeps
look-requires-clause-keeps g c = let f = c.requires.flight in let a = c.requires.caller in
    rw c.requires.ask (reads_keep _ _ _ _ f.0 f.1 _ c.requires.two_words a.0 c.requires.alone a.1 a.2 f.2 f.3 f.4.0 f.4.1 f.4.2 a.3)

pub returns-clause-told : goal.returns-clause-told
returns-clause-told g c = rw c.requires.ask at c.look.ensures.told

pub look-requires-clause-uncounted : goal.look-requires-clause-uncounted
look-requires-clause-uncounted g c config =
    let k = c.args.board.now.setup in
    let w = c.requires.flight.4 in
    let has = c.requires.caller.1 in
    (second_of k.config c.args.ring (k.first + w.0), (has, place_below k.config c.args.ring (k.first + w.0) config has, c.requires.two_words), w.2, tt)
