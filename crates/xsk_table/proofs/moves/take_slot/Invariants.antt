use Rattle.xsk_table.specs.Plays.{ask_item}
use Rattle.xsk_table.proofs.moves.take_slot.Given as goal

abbrev pub ghosts-write_second : goal.ghosts-write_second
ghosts-write_second a = record { ask = ask_item a.board.now.setup a.who a.ring a.item.now }

abbrev pub ghosts-lift : goal.ghosts-lift
ghosts-lift a = record { ask = ask_item a.board.now.setup a.who a.ring a.item.now }
