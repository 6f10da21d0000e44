use Rattle.std.proofs.Common.{◌++◌, map, string_bytes, sym, ap, ◌∙◌, subst}
use Rattle.std.specs.Prelude.{unwrap_or}
use Rattle.xsk_io.proofs.Steps.{Rose-later}
use Rattle.xsk_cli.specs.Forward.{ComesShown, EndsShown, forward_plan}
use Rattle.xsk_cli.specs.Steps.{ComesTo}
use Rattle.xsk_io.specs.Bay.{Moment}
use Rattle.xsk_cli.specs.Ends.{TellsBy, behind}
use Rattle.xsk_cli.specs.Line.{line_of}
use Rattle.xsk_cli.specs.Streams.{GotLine}
use Rattle.xsk_cli.specs.declared.words.Work.{Work}
use Rattle.xsk_cli.specs.declared.threads.Ended.{Ended}
use Rattle.xsk_cli.specs.Words.{no_plan}
use Rattle.xsk_cli.proofs.Counting.{caused_then, line_then, told_others, uncounted_then}
use Rattle.xsk_cli.proofs.Showing.{answered_shown, check_file_shown, check_shown, completes_shown, refusal_shown}
use Rattle.xsk_cli.proofs.Writing.{told_with}
use Rattle.xsk_cli.proofs.threads.run_forward.Goals as goal

pub returns : goal.returns
returns g c =
    let old : Moment = g.B.Bay.moment c.args.bay.now in
    let mid : Moment = g.B.Bay.moment c.forward_words.new.bay in
    let new : Moment = g.B.Bay.moment c.tell.new.bay in
    let status = c.ended_by-ended.result.status in
    let shown = c.ended_by-ended.result.outcome in
    let planned = forward_plan (map string_bytes c.args.words.now) in
    let plan = unwrap_or planned no_plan in
    let comes : ComesTo (λ (work : Work). ComesShown work shown) planned old mid status (line_of status) =
    subst (λ (e : Ended). ComesTo (λ (work : Work). ComesShown work e.outcome) planned old mid e.status (line_of e.status)) (sym c.ended_by-ended.ensures) c.forward_words.ensures in
    let now : TellsBy (ComesShown plan.work shown) plan old new status (line_of status) =
    told_with (ComesShown plan.work shown) plan old mid new status (line_of status) comes.ends c.tell.ensures.opened c.tell.ensures.asked c.tell.ensures.left c.tell.ensures.held c.tell.ensures.offers c.tell.ensures.silent in record {
      usage = comes.usage;
      unplanned = comes.unplanned;
      refusal = λ unlawful is. refusal_shown plan old mid shown unlawful (subst (λ s. EndsShown shown old mid s plan) is comes.ends.0);
      refused = comes.refused;
      cause = caused_then _ _ _ status comes.falls comes.cause c.tell.ensures.falls;
      others = told_others _ _ _ status comes.others c.tell.ensures.counts c.tell.ensures.unchanged;
      uncounted = λ at_once. uncounted_then _ _ _ (comes.uncounted at_once) c.tell.ensures.counts;
      ends = now.0;
      line = λ has. line_then (line_of status ++ behind status now.0.texts) old mid new comes.falls (comes.silent has) (subst (λ t. GotLine t mid new) now.1 (c.tell.ensures.line has));
      check = λ port is. check_shown plan old mid shown port (subst (λ s. EndsShown shown old mid s plan) is comes.ends.0);
      check_file = λ is. check_file_shown plan old mid shown (subst (λ s. EndsShown shown old mid s plan) is comes.ends.0);
      answers = λ one inputs outcome is told h. answered_shown one old mid inputs told shown status outcome
          (subst (EndsShown shown old mid status) (ap (λ o. unwrap_or o no_plan) is) comes.ends.0) (λ u. let none = sym is ∙ comes.usage u in cc) h;
      complete = λ one inputs is accepted told taken none. completes_shown one old mid inputs told shown status
          (subst (EndsShown shown old mid status) (ap (λ o. unwrap_or o no_plan) is) comes.ends.0) (λ u. let no_words = sym is ∙ comes.usage u in cc) accepted taken
          (λ kind stream rose. none kind stream (Rose-later _ _ _ (comes.falls kind stream) rose (c.tell.ensures.falls kind stream))) comes.cause;
    }
