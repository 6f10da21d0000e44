use Rattle.std.proofs.Common.{◌≡◌, List, map, string_bytes, ap, codes, sym, subst, None, Option}
use Rattle.std.specs.Prelude.{Err, option_and_then}
use Rattle.xsk_args.specs.Words.{Text}
use Rattle.xsk_args.specs.Meaning.{Meaning, meaning}
use Rattle.xsk_cli.specs.Steps.{Comes, args_status}
use Rattle.xsk_io.specs.Bay.{Moment}
use Rattle.xsk_cli.specs.declared.failure.Refusal.TheVariants.{Bare}
use Rattle.xsk_cli.specs.Options.{of_audit}
use Rattle.xsk_cli.specs.Words.{Plan, audit_plan, audit_plan_by, files_in}
use Rattle.xsk_cli.proofs.Coming.{args_comes, comes_as, err_is}
use Rattle.xsk_cli.proofs.audit.run_audit.Goals as goal

pub returns-in_err-args : goal.returns-in_err-args
returns-in_err-args g c =
    let now : Moment = g.B.Bay.moment c.args.bay.now in
    let words : List Text = map string_bytes c.args.words.now in
    let planned : Option Plan = audit_plan words in
    let error = c.in_err-args.field-0.0 in
    comes_as c.from_residual.result (Bare (args_status error)) planned now now (err_is c.from_residual.result (Bare (args_status error)) c.from_residual.ensures.1)
    (args_comes planned now c.requires error
    (λ is. let none : meaning (codes "audit") of_audit words ≡ None = c.in_err-args.ensures.usage (ap Err is) in ap (option_and_then (λ said. audit_plan_by said (files_in said))) none))

pub returns : goal.returns
returns g c =
    let old : Moment = g.B.Bay.moment c.args.bay.now in
    let new : Moment = g.B.Bay.moment c.audit_said.new.bay in
    subst (λ (planned : Option Plan). Comes planned old new c.audit_said.result)
    (sym (ap (option_and_then (λ (said : Meaning). audit_plan_by said (files_in said))) c.in_ok-args.ensures.told)) c.audit_said.ensures
