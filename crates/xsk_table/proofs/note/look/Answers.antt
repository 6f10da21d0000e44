use Rattle.xsk_model.specs.declared.call.Ring.TheVariants.{Fill}
use Rattle.xsk_table.specs.Plays.{ask_for}
use Rattle.xsk_table.proofs.Meeting.{meets_keep}
use Rattle.xsk_table.proofs.note.look.Goals as goal

pub look_round-requires-clause-keeps : goal.look_round-requires-clause-keeps
look_round-requires-clause-keeps g c = rw c.requires.ask (meets_keep _ _ _ (ask_for c.args.board.now.setup 0 (Fill 0) 0) _ c.requires.rests)

pub returns-clause-told : goal.returns-clause-told
returns-clause-told g c = rw c.requires.ask at c.look_round.ensures.told.1
