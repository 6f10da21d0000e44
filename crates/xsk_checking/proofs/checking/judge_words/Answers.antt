use Rattle.std.proofs.Common.{map, string_bytes}
use Rattle.xsk_checking.specs.Ending.{file_in}
use Rattle.xsk_checking.proofs.Answering.{judged-of}
use Rattle.xsk_checking.proofs.checking.judge_words.Goals as goal

pub returns-clause-judged : goal.returns-clause-judged
returns-clause-judged g c =
    judged-of (file_in (map string_bytes c.args.words.now)) (g.B.Bay.moment c.args.bay.now) (g.B.Bay.moment c.judge_file.new.bay) c.in-Some.file.now c.judge_file.new.check
    c.in_ok-found.found c.report_of.result c.in-Some.ensures.some c.judge_file.ensures.asked c.in_ok-found.ensures.read c.report_of.ensures.verdict c.report_of.ensures.text c.report_of.ensures.named

pub report_of-requires : goal.report_of-requires
report_of-requires g c = (c.in_ok-found.ensures.read.bytes, c.in_ok-found.ensures.read.settles)
