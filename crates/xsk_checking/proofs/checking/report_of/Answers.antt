use Rattle.std.proofs.Common.{subst}
use Rattle.xsk_checking.specs.Ending.{Settles}
use Rattle.xsk_checking.proofs.Answering.{named-at-end, named-on, told-at-end, told-on}
use Rattle.xsk_checking.proofs.checking.report_of.Goals as goal

pub report_at_end-requires : goal.report_at_end-requires
report_at_end-requires c = (c.requires.0, subst (Settles c.args.check.now c.requires.0) c.in-None.is c.requires.1)

pub returns-in-Some-clause-text : goal.returns-in-Some-clause-text
returns-in-Some-clause-text c =
    told-on c.args.check.now c.args.found c.in-Some.finding c.report_on.result c.in-Some.is c.report_on.ensures.verdict c.report_on.ensures.text

pub returns-in-None-clause-text : goal.returns-in-None-clause-text
returns-in-None-clause-text c =
    told-at-end c.args.check.now c.args.found c.verdict.result c.report_at_end.result c.in-None.is c.verdict.ensures.is c.report_at_end.ensures.verdict
    c.report_at_end.ensures.text

pub returns-in-Some-clause-named : goal.returns-in-Some-clause-named
returns-in-Some-clause-named c =
    named-on c.args.check.now c.args.found c.in-Some.finding c.report_on.result c.in-Some.is c.report_on.ensures.verdict c.report_on.ensures.named

pub returns-in-None-clause-named : goal.returns-in-None-clause-named
returns-in-None-clause-named c =
    named-at-end c.args.check.now c.args.found c.verdict.result c.report_at_end.result c.verdict.ensures.end c.report_at_end.ensures.verdict
    c.report_at_end.ensures.named
