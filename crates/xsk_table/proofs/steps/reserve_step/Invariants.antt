use Rattle.xsk_table.specs.Plays.{ask_for}
use Rattle.xsk_table.proofs.steps.reserve_step.Given as goal

abbrev pub ghosts-look_room : goal.ghosts-look_room
ghosts-look_room g a = record { ask = ask_for a.board.now.setup a.who a.ring a.n }
