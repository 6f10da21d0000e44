use Rattle.xsk_table.specs.Plays.{ask_for}
use Rattle.xsk_table.proofs.steps.peek_step.Given as goal

abbrev pub ghosts-look_items : goal.ghosts-look_items
ghosts-look_items g a = record { ask = ask_for a.board.now.setup a.who a.ring a.n }
