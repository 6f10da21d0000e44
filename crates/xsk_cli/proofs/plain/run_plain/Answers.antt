use Rattle.std.proofs.Common.{◌≡◌, ◌++◌, map, string_bytes, sym, ap, ◌∙◌, subst}
use Rattle.std.specs.Prelude.{unwrap_or}
use Rattle.xsk_cli.specs.declared.status.Status.TheVariants.{BadCapture, BadPcapng, Refused}
use Rattle.xsk_pcap.specs.declared.reading.BadCapture.TheVariants.{OutOfMemory as NoCause}
use Rattle.xsk_pcapng.specs.declared.reading.BadPcapng.TheVariants.{OutOfMemory as NoFileCause}
use Rattle.xsk_io.proofs.Steps.{Rose-later}
use Rattle.xsk_cli.specs.Ends.{ComesOf, Ends, TellsBy, behind}
use Rattle.xsk_cli.specs.Forward.{IsPlainAnswer}
use Rattle.xsk_cli.specs.Streams.{GotLine, status_in, text_in}
use Rattle.xsk_cli.specs.Steps.{Comes}
use Rattle.xsk_io.specs.Bay.{Moment}
use Rattle.xsk_cli.specs.Line.{line_of}
use Rattle.xsk_cli.specs.Words.{no_plan, plan_of}
use Rattle.xsk_cli.proofs.Ample.{finished, never_illegal, never_stalled}
use Rattle.xsk_cli.proofs.Answering.{answered, completes}
use Rattle.xsk_cli.proofs.Counting.{caused_then, line_then, told_others, uncounted_then}
use Rattle.xsk_cli.proofs.Filing.{no_check, no_file_check}
use Rattle.xsk_cli.proofs.Writing.{told_with}
use Rattle.xsk_cli.proofs.plain.run_plain.Goals as goal

pub returns-clause-answer : goal.returns-clause-answer
returns-clause-answer g c =
    let old : Moment = g.B.Bay.moment c.args.bay.now in
    let mid : Moment = g.B.Bay.moment c.run_words-answer.new.bay in
    let new : Moment = g.B.Bay.moment c.tell_answer.new.bay in
    let answer = c.run_words-answer.result in
    let status = status_in answer in
    let planned = plan_of (map string_bytes c.args.words.now) in
    let plan = unwrap_or planned no_plan in
    let comes : Comes planned old mid answer = c.run_words-answer.ensures in
    let tells : TellsBy (ComesOf plan.work) plan old mid status (text_in answer) = comes.ends in
    let now : TellsBy (ComesOf plan.work) plan old new status (text_in answer) =
    told_with (ComesOf plan.work) plan old mid new status (text_in answer) tells c.tell_answer.ensures.opened c.tell_answer.ensures.asked c.tell_answer.ensures.left c.tell_answer.ensures.held c.tell_answer.ensures.offers c.tell_answer.ensures.silent in
    subst (IsPlainAnswer planned old new) (sym c.status_of.ensures) (record {
      usage = comes.usage;
      unplanned = comes.unplanned;
      refusal = λ unlawful is. (let ends : Ends plan old mid (Refused unlawful) = subst (λ s. Ends plan old mid s) is tells.0 in ends.comes);
      refused = comes.refused;
      cause = caused_then _ _ _ status comes.falls comes.cause c.tell_answer.ensures.falls;
      others = told_others _ _ _ status comes.others c.tell_answer.ensures.counts c.tell_answer.ensures.unchanged;
      uncounted = λ at_once. uncounted_then _ _ _ (comes.uncounted at_once) c.tell_answer.ensures.counts;
      ends = now.0;
      line = λ has. line_then (line_of status ++ behind status now.0.texts) old mid new comes.falls (comes.silent has) (subst (λ t. GotLine t mid new) now.1 (c.tell_answer.ensures.line has));
      check = λ port is. (let ends : Ends plan old mid (BadCapture port NoCause) = subst (λ s. Ends plan old mid s) is tells.0 in no_check plan.work ends.inputs port ends.comes.1);
      check_file = λ is. (let ends : Ends plan old mid (BadPcapng NoFileCause) = subst (λ s. Ends plan old mid s) is tells.0 in no_file_check plan.work ends.inputs ends.comes.1);
      answers = λ one inputs outcome is told h.
          answered one old mid inputs told status outcome (subst (λ p. Ends p old mid status) (ap (λ o. unwrap_or o no_plan) is) tells.0) (λ u. let none = sym is ∙ comes.usage u in cc) h;
      complete = λ one inputs is accepted told taken none.
          completes one old mid inputs told status (subst (λ p. Ends p old mid status) (ap (λ o. unwrap_or o no_plan) is) tells.0) (λ u. let no_words = sym is ∙ comes.usage u in cc) accepted taken
          (λ kind stream rose. none kind stream (Rose-later _ _ _ (comes.falls kind stream) rose (c.tell_answer.ensures.falls kind stream))) comes.cause;
    })

pub returns-clause-goes_on : goal.returns-clause-goes_on
returns-clause-goes_on g c plan round is accepted ample stalled =
    let old : Moment = g.B.Bay.moment c.args.bay.now in
    let mid : Moment = g.B.Bay.moment c.run_words-answer.new.bay in
    let planned : unwrap_or (plan_of (map string_bytes c.args.words.now)) no_plan ≡ plan = ap (λ o. unwrap_or o no_plan) is in
    let ends : Ends plan old mid c.status_of.result =
    subst (λ p. Ends p old mid c.status_of.result) planned (subst (λ s. Ends (unwrap_or (plan_of (map string_bytes c.args.words.now)) no_plan) old mid s) (sym c.status_of.ensures) c.run_words-answer.ensures.ends.0) in
    never_stalled plan old mid c.status_of.result round ends accepted ample stalled

pub returns-clause-finishes : goal.returns-clause-finishes
returns-clause-finishes g c plan inputs is accepted ample told taken none =
    let old : Moment = g.B.Bay.moment c.args.bay.now in
    let mid : Moment = g.B.Bay.moment c.run_words-answer.new.bay in
    let planned : unwrap_or (plan_of (map string_bytes c.args.words.now)) no_plan ≡ plan = ap (λ o. unwrap_or o no_plan) is in
    let ends : Ends plan old mid c.status_of.result =
    subst (λ p. Ends p old mid c.status_of.result) planned (subst (λ s. Ends (unwrap_or (plan_of (map string_bytes c.args.words.now)) no_plan) old mid s) (sym c.status_of.ensures) c.run_words-answer.ensures.ends.0) in
    finished plan.work c.status_of.result ((returns-clause-answer g c).complete plan inputs is accepted told taken none) (λ round. returns-clause-goes_on g c plan round is accepted ample)
    (λ line. never_illegal plan old mid c.status_of.result line ends)
