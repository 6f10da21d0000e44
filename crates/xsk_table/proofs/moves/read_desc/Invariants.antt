use Rattle.xsk_table.specs.Plays.{ask_for}
use Rattle.xsk_table.proofs.moves.read_desc.Given as goal

abbrev pub ghosts-read_second : goal.ghosts-read_second
ghosts-read_second a = record { ask = ask_for a.board.now.setup a.who a.ring 0 }

abbrev pub ghosts-settle : goal.ghosts-settle
ghosts-settle a = record { ask = ask_for a.board.now.setup a.who a.ring 0 }
