use Rattle.xsk_table.specs.Plays.{ask_for}
use Rattle.xsk_table.proofs.covering.grant.Given as goal

abbrev pub ghosts-look_at_producer : goal.ghosts-look_at_producer
ghosts-look_at_producer a = record { ask = ask_for a.board.now.setup a.who a.ring a.n }
