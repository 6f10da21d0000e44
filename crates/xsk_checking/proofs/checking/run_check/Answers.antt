use Rattle.std.proofs.Common.{rules, ◌≡◌, map, string_bytes, subst, sym}
use Rattle.xsk_io.specs.Bay.{Moment}
use Rattle.xsk_checking.specs.Ending.{GotText, IsAnswer, file_in, line_of}
use Rattle.xsk_checking.proofs.Answering.{failed-answer, got-by, judged-answer}
use Rattle.xsk_checking.proofs.checking.run_check.Goals as goal

pub returns-in-Ok : goal.returns-in-Ok
returns-in-Ok g c =
    let file = file_in (map string_bytes c.args.words.now) in
    let old : Moment = g.B.Bay.moment c.args.bay.now in
    let new : Moment = g.B.Bay.moment c.tell.new.bay in
    subst (IsAnswer file old new c.tell.result.end) (sym c.tell.ensures.named)
    (judged-answer file old (g.B.Bay.moment c.judge_words.new.bay) new c.in-Ok.report.verdict c.in-Ok.report.text.items c.in-Ok.report.named c.tell.result.end
    c.in-Ok.ensures.judged c.tell.ensures.comes c.tell.ensures.asked c.tell.ensures.counts)

pub returns-in-Err : goal.returns-in-Err
returns-in-Err g c =
    let mid : Moment = g.B.Bay.moment c.judge_words.new.bay in
    let new : Moment = g.B.Bay.moment c.write_whole-told.new.bay in
    let e = c.write_whole-told.ensures in
    let text : c.as_bytes.result.now ≡ line_of c.in-Err.failure = search rules in
    failed-answer (file_in (map string_bytes c.args.words.now)) (g.B.Bay.moment c.args.bay.now) mid new c.in-Err.failure c.in-Err.ensures.failed
    (subst (λ t. GotText t mid new) text (got-by c.write_whole-told.result c.as_bytes.result.now mid new e.whole e.part e.cause)) e.names e.counts
