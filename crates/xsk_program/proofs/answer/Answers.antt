use Rattle.std.proofs.Common.{map, string_bytes, MatchResult, sym, subst}
use Rattle.xsk_io.specs.Bay.{Moment}
use Rattle.xsk_program.specs.Answering.{IsAnsweredSo, IsTold}
use Rattle.xsk_program.proofs.answer.Goals as goal

pub returns-in-Ok : goal.returns-in-Ok
returns-in-Ok g c =
    let old : Moment = g.B.Bay.moment c.args.bay.now in
    let new : Moment = g.B.Bay.moment c.answer_words.new.bay in
    subst (λ words. MatchResult words (λ given. IsAnsweredSo (map string_bytes given.items) old new c.answer_words.result) (λ why. IsTold why old new c.answer_words.result)) (sym c.in-Ok.is)
    (subst (λ words. IsAnsweredSo (map string_bytes words) old new c.answer_words.result) c.as_slice.ensures.value c.answer_words.ensures)
