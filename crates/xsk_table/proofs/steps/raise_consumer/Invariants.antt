use Rattle.xsk_table.specs.Plays.{ask_for}
use Rattle.xsk_table.proofs.steps.raise_consumer.Given as goal

abbrev pub ghosts-write_consumer : goal.ghosts-write_consumer
ghosts-write_consumer a = record { ask = ask_for a.board.now.setup a.who a.ring a.n }
