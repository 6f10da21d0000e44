use Rattle.xsk_table.specs.Plays.{ask_for}
use Rattle.xsk_table.proofs.covering.give.Given as goal

abbrev pub ghosts-look_at_consumer : goal.ghosts-look_at_consumer
ghosts-look_at_consumer a = record { ask = ask_for a.board.now.setup a.who a.ring a.n }
