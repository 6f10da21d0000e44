use Rattle.std.proofs.Common.{arith, ◌%◌, ◌^◌, ◌+◌}
use Rattle.xsk_table.specs.Plays.{ask_item}
use Rattle.xsk_table.proofs.Moving.{placed_word, lifted_word, place_small, entry_fits, some_words}
use Rattle.xsk_table.proofs.moves.place.Goals as goal

pub take_slot-requires-clause-base : goal.take_slot-requires-clause-base
take_slot-requires-clause-base c = let b = c.requires.base in (b.0, omega arith, b.2)

pub take_slot-requires-clause-word : goal.take_slot-requires-clause-word
take_slot-requires-clause-word c =
    placed_word (ask_item c.args.board.now.setup c.args.who c.args.ring c.args.item) c.args.seat.now.me c.args.base c.args.mask c.args.near c.args.placed c.entry_word-word.result
    c.requires.base.0 c.requires.size.0 c.requires.size.1 c.requires.near c.requires.placed c.entry_word-word.ensures.value

pub take_slot-requires-clause-within : goal.take_slot-requires-clause-within
take_slot-requires-clause-within c = (
  entry_fits c.args.ring c.args.base (c.args.mask + 1) (((c.args.near + c.args.placed) % 2 ^ 32) % (c.args.mask + 1)) c.entry_word-word.result _ (place_small ((c.args.near + c.args.placed) % 2 ^ 32) c.args.mask) c.entry_word-word.ensures.value c.requires.base.1,
  c.entry_word-word.ensures.few,
)

pub write_entry-requires-clause-word : goal.write_entry-requires-clause-word
write_entry-requires-clause-word c = (
  lifted_word (ask_item c.args.board.now.setup c.args.who c.args.ring c.args.item) c.args.seat.now.me c.take_slot.new.seat.me c.entry_word-word.result c.take_slot.ensures.told
      (placed_word (ask_item c.args.board.now.setup c.args.who c.args.ring c.args.item) c.args.seat.now.me c.args.base c.args.mask c.args.near c.args.placed c.entry_word-word.result
      c.requires.base.0 c.requires.size.0 c.requires.size.1 c.requires.near c.requires.placed c.entry_word-word.ensures.value),
  some_words c.args.ring c.entry_word-word.result _
      (entry_fits c.args.ring c.args.base (c.args.mask + 1) (((c.args.near + c.args.placed) % 2 ^ 32) % (c.args.mask + 1)) c.entry_word-word.result _ (place_small ((c.args.near + c.args.placed) % 2 ^ 32) c.args.mask) c.entry_word-word.ensures.value c.requires.base.1),
)
