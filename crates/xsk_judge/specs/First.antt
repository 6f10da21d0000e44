-- What a judge keeps before the first call. The form is this project's own.
use Rattle.std.specs.Prelude.{[], unwrap_or}
use Rattle.xsk_side.specs.declared.setting.Pair.{Pair}
use Rattle.xsk_side.specs.declared.setting.Socket.{Socket}
use Rattle.xsk_judge.specs.declared.known.End.{End}
use Rattle.xsk_judge.specs.Kept.{Queue}

abbrev pub fill_end : Pair → End
fill_end pair = record { room = 0; sure = pair.fill; shown = 0 }

abbrev pub tx_end : Socket → End
tx_end socket = record { room = 0; sure = unwrap_or socket.tx 0; shown = 0 }

abbrev pub comp_queue : Pair → Queue
comp_queue pair = record { entries = []; held = 0; first = 0; size = pair.comp; again = 0 }

abbrev pub rx_queue : Socket → Queue
rx_queue socket = record { entries = []; held = 0; first = 0; size = unwrap_or socket.rx 0; again = 0 }
