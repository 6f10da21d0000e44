use Rattle.std.proofs.Common.{rules, ◌≡◌, ◌∙◌, ◌∷◌, [], ap, sym, subst, Some, Option}
use Rattle.std.specs.Prelude.{Bool}
use Rattle.xsk_args.specs.Words.{Text}
use Rattle.xsk_args.specs.Meaning.{Meaning, under}
use Rattle.xsk_socket.specs.Layout.{fault_of}
use Rattle.xsk_socket.specs.declared.layout.Layout.{Layout}
use Rattle.xsk_cli.specs.Steps.{Comes}
use Rattle.xsk_io.specs.Bay.{Moment}
use Rattle.xsk_cli.specs.declared.failure.Refusal.TheVariants.{Bare}
use Rattle.xsk_cli.specs.Options.{why}
use Rattle.xsk_cli.specs.Words.{Plan, audit_plan_by, files_in, is_said, layout_by, without_files}
use Rattle.xsk_cli.specs.declared.status.Status.TheVariants.{Refused}
use Rattle.xsk_cli.specs.declared.words.Work.TheVariants.{Audit}
use Rattle.xsk_cli.proofs.Auditing.{none_by, one_plan}
use Rattle.xsk_cli.proofs.Coming.{comes_as, refused_comes, usage_comes}
use Rattle.xsk_cli.proofs.audit.audit_said.Goals as goal

pub returns-in_default : goal.returns-in_default
returns-in_default g c =
    let now : Moment = g.B.Bay.moment c.args.bay.now in
    let said : Meaning = under c.args.args.now in
    usage_comes (audit_plan_by said (files_in said)) now c.requires (none_by said (files_in said) c.in_default.ensures.none)

pub returns-in_err-layout : goal.returns-in_err-layout
returns-in_err-layout g c =
    let now : Moment = g.B.Bay.moment c.args.bay.now in
    let said : Meaning = under c.args.args.now in
    let planned : Option Plan = audit_plan_by said (files_in said) in
    let file : Text = c.in-Some.file.now in
    let unlawful = c.in_err-layout.field-0.0 in
    let fault : fault_of (without_files (layout_by said)) ≡ Some unlawful = search rules in
    comes_as c.from_residual.result (Bare (Refused unlawful)) planned now now (search rules)
    (refused_comes planned now c.requires (one_plan said file) unlawful (ap (audit_plan_by said) c.in-Some.ensures.one) fault)

pub returns : goal.returns
returns g c =
    let old : Moment = g.B.Bay.moment c.args.bay.now in
    let new : Moment = g.B.Bay.moment c.audit_file.new.bay in
    let said : Meaning = under c.args.args.now in
    let file : Text = c.in-Some.file.now in
    let planned : audit_plan_by said (files_in said) ≡ Some (record { inputs = file ∷ []; outputs = []; work = Audit c.in_ok-layout.layout c.is_said.result }) =
    ap (audit_plan_by said) c.in-Some.ensures.one
    ∙ ap (λ (l : Layout). Some (record { inputs = file ∷ []; outputs = []; work = Audit l (is_said said why) })) (sym c.in_ok-layout.ensures.layout)
    ∙ ap (λ (b : Bool). Some (record { inputs = file ∷ []; outputs = []; work = Audit c.in_ok-layout.layout b })) (sym c.is_said.ensures) in
    subst (λ (o : Option Plan). Comes o old new c.audit_file.result) (sym planned) c.audit_file.ensures
