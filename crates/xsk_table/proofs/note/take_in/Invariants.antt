use Rattle.xsk_model.specs.declared.call.Ring.TheVariants.{Fill}
use Rattle.xsk_table.specs.Plays.{ask_for}
use Rattle.xsk_table.proofs.note.take_in.Given as goal

abbrev pub ghosts-look : goal.ghosts-look
ghosts-look a = record { ask = ask_for a.board.now.setup 0 (Fill 0) 0 }
