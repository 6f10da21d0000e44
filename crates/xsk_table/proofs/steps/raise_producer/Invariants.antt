use Rattle.xsk_table.specs.Plays.{ask_for}
use Rattle.xsk_table.proofs.steps.raise_producer.Given as goal

abbrev pub ghosts-write_producer : goal.ghosts-write_producer
ghosts-write_producer a = record { ask = ask_for a.board.now.setup a.who a.ring 0 }
