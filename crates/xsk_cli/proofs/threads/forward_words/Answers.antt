use Rattle.std.proofs.Common.{◌≡◌, map, string_bytes, ap, codes, None, Some, Option, List, sym, subst, ◌∙◌}
use Rattle.std.specs.Prelude.{Err, option_and_then}
use Rattle.xsk_args.specs.Words.{Text}
use Rattle.xsk_args.specs.Meaning.{meaning, under}
use Rattle.xsk_socket.specs.Layout.{fault_of}
use Rattle.xsk_cli.specs.Ends.{TellsBy}
use Rattle.xsk_cli.specs.Forward.{ComesShown, IsRun, forward_plan}
use Rattle.xsk_cli.specs.Line.{line_of}
use Rattle.xsk_cli.specs.declared.words.Work.{Work}
use Rattle.xsk_cli.proofs.Telling.{told_shown}
use Rattle.xsk_cli.specs.Steps.{ComesTo, args_status, plan_in}
use Rattle.xsk_io.specs.Bay.{Moment}
use Rattle.xsk_cli.specs.Streams.{status_in, text_in}
use Rattle.xsk_cli.specs.declared.status.Status.{Status}
use Rattle.xsk_cli.specs.Options.{of_forward}
use Rattle.xsk_cli.specs.Words.{Plan, layout_by, plan_by, planned_by}
use Rattle.xsk_cli.specs.declared.status.Status.TheVariants.{Refused}
use Rattle.xsk_cli.proofs.Coming.{args_comes, err_is, plan_comes_to, refused_comes}
use Rattle.xsk_cli.proofs.Showing.{args_before, comes_shown}
use Rattle.xsk_cli.proofs.Planning.{has_no_plan, has_plan, plan_ready}
use Rattle.xsk_cli.proofs.threads.forward_words.Goals as goal

pub returns-in_err-args : goal.returns-in_err-args
returns-in_err-args g c =
    let now : Moment = g.B.Bay.moment c.args.bay.now in
    let words : List Text = map string_bytes c.args.words.now in
    let planned : Option Plan = forward_plan words in
    let error = c.in_err-args.field-0.0 in
    comes_shown c.from_residual.result (args_status error) planned now now (err_is c.from_residual.result (args_status error) c.from_residual.ensures.1)
    (args_comes planned now c.requires error
    (λ is. let none : meaning (codes "forward") of_forward words ≡ None = c.in_err-args.ensures.usage (ap Err is) in ap (option_and_then planned_by) none)) (args_before error)

pub returns-in_err-check_words : goal.returns-in_err-check_words
returns-in_err-check_words g c =
    let now : Moment = g.B.Bay.moment c.args.bay.now in
    let words : List Text = map string_bytes c.args.words.now in
    let planned : Option Plan = forward_plan words in
    let error = c.in_err-check_words.field-0.0 in
    comes_shown c.from_residual-in_err-check_words.result (args_status error) planned now now (err_is c.from_residual-in_err-check_words.result (args_status error) c.from_residual-in_err-check_words.ensures.1)
    (args_comes planned now c.requires error
    (λ _. has_no_plan (under c.in_ok-args.args) (meaning (codes "forward") of_forward words) c.in_ok-args.ensures.told c.in_err-check_words.ensures.usage.1)) (args_before error)

pub run_on_threads-result-requires-clause-ready : goal.run_on_threads-result-requires-clause-ready
run_on_threads-result-requires-clause-ready g c κs within = plan_ready (under c.in_ok-args.args) (plan_in c.in_ok-plan.plan) c.in_ok-check_words.ensures.passed c.in_ok-plan.ensures.plan c.in_ok-plan.ensures.accepted

pub returns-in_err-plan : goal.returns-in_err-plan
returns-in_err-plan g c =
    let now : Moment = g.B.Bay.moment c.args.bay.now in
    let words : List Text = map string_bytes c.args.words.now in
    let planned : Option Plan = forward_plan words in
    let unlawful = c.in_err-plan.field-0.0 in
    let fault : fault_of (layout_by (under c.in_ok-args.args)) ≡ Some unlawful = c.in_err-plan.ensures.refused in
    let is : planned ≡ Some (plan_by (under c.in_ok-args.args)) = has_plan (under c.in_ok-args.args) (meaning (codes "forward") of_forward words) c.in_ok-args.ensures.told c.in_ok-check_words.ensures.passed in
    comes_shown c.from_residual-in_err-plan.result (Refused unlawful) planned now now (err_is c.from_residual-in_err-plan.result (Refused unlawful) c.from_residual-in_err-plan.ensures.1)
    (refused_comes planned now c.requires (plan_by (under c.in_ok-args.args)) unlawful is fault) (λ no. no)

pub returns : goal.returns
returns g c =
    let old : Moment = g.B.Bay.moment c.args.bay.now in
    let new : Moment = g.B.Bay.moment c.run_on_threads-result.new.bay in
    let words : List Text = map string_bytes c.args.words.now in
    let planned : Option Plan = forward_plan words in
    let plan : Plan = plan_in c.in_ok-plan.plan in
    let left = c.run_on_threads-result.result.left in
    let status : Status = status_in c.run_on_threads-result.result.result in
    let is : planned ≡ Some plan =
    has_plan (under c.in_ok-args.args) (meaning (codes "forward") of_forward words) c.in_ok-args.ensures.told c.in_ok-check_words.ensures.passed ∙ ap Some (sym c.in_ok-plan.ensures.plan) in
    let ends : TellsBy (ComesShown plan.work left) plan old new status (line_of status) = told_shown plan old new left status (text_in c.run_on_threads-result.result.result) (subst (λ (p : Plan). IsRun p.work) (sym c.in_ok-plan.ensures.plan) tt) c.run_on_threads-result.ensures.ends in
    subst (λ (s : Status). ComesTo (λ (work : Work). ComesShown work left) planned old new s (line_of s)) (sym c.status_of.ensures)
    (plan_comes_to (λ (work : Work). ComesShown work left) planned plan old new status (line_of status) is c.in_ok-plan.ensures.accepted c.run_on_threads-result.ensures.begun
    ends c.run_on_threads-result.ensures.silent c.run_on_threads-result.ensures.cause c.run_on_threads-result.ensures.falls c.run_on_threads-result.ensures.others)
