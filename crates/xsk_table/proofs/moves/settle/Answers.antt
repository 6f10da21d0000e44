use Rattle.xsk_table.specs.Rule.{entry_of}
use Rattle.xsk_table.proofs.RingSteps.{place_below}
use Rattle.xsk_table.proofs.Fetching.{settles_keep}
use Rattle.xsk_table.proofs.moves.settle.Goals as goal

pub look-requires-clause-keeps : goal.look-requires-clause-keeps
look-requires-clause-keeps g c = let f = c.requires.flight in let a = c.requires.caller in
    rw c.requires.ask (settles_keep _ _ _ _ f.0 f.1 _ a.0 c.requires.alone a.1 a.2 f.2 f.3 a.3)

pub returns-clause-told : goal.returns-clause-told
returns-clause-told g c = rw c.requires.ask at c.look.ensures.told

pub look-requires-clause-uncounted : goal.look-requires-clause-uncounted
look-requires-clause-uncounted g c config =
    let k = c.args.board.now.setup in
    let w = c.requires.word.1 in
    let has = c.requires.caller.1 in
    (entry_of k.config c.args.ring w.0, (has, place_below k.config c.args.ring w.0 config has), w.1, tt)
