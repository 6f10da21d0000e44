use Rattle.std.proofs.Common.{◌<◌, subst, string_bytes, length, arith}
use Rattle.xsk_args.specs.Rules.{IsSpelled}
use Rattle.xsk_args.proofs.Spelling.{spelled_more, spelled_word}
use Rattle.xsk_args.proofs.command.note_texts.Goals as goal

pub loop-word-preserved : goal.loop-word-preserved
loop-word-preserved c =
    let lt : c.loop-word.word-index < length c.args.words.now = omega arith in
    spelled_more string_bytes c.args.words.now c.loop-word.word-index c.word-item.result lt c.loop-word.invariant
    (subst (λ s. IsSpelled (string_bytes s)) c.word-item.is (subst IsSpelled c.as_str-text.ensures.value (spelled_word c.as_str-text.result.now c.as_str-text.utf8)))
