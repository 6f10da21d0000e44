use Rattle.xsk_table.specs.Plays.{ask_mark}
use Rattle.xsk_table.proofs.marks.swap_mark.Given as goal

abbrev pub ghosts-swap_word : goal.ghosts-swap_word
ghosts-swap_word a = record { ask = ask_mark a.board.now.setup a.who a.mark a.value }
