use Rattle.xsk_table.specs.Plays.{ask_item}
use Rattle.xsk_table.proofs.moves.place.Given as goal

abbrev pub ghosts-write_entry : goal.ghosts-write_entry
ghosts-write_entry a = record { ask = ask_item a.board.now.setup a.who a.ring a.item }
