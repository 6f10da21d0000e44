use Rattle.xsk_table.specs.Plays.{ask_for}
use Rattle.xsk_table.proofs.moves.fetch.Given as goal

abbrev pub ghosts-read_entry : goal.ghosts-read_entry
ghosts-read_entry a = record { ask = ask_for a.board.now.setup a.who a.ring 0 }
