use Rattle.std.proofs.Common.{map, string_bytes, take}
use Rattle.xsk_args.specs.Rules.{AreSpelled}
use Rattle.xsk_args.proofs.command.note_texts.Given as goal

abbrev pub invariant-loop-word : goal.invariant-loop-word
invariant-loop-word l = AreSpelled (map string_bytes (take l.word-index l.words))
