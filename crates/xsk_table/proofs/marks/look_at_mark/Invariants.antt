use Rattle.xsk_table.specs.Plays.{ask_mark}
use Rattle.xsk_table.proofs.marks.look_at_mark.Given as goal

abbrev pub ghosts-look_word : goal.ghosts-look_word
ghosts-look_word a = record { ask = ask_mark a.board.now.setup a.who a.mark 0 }
