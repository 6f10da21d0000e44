use Rattle.std.proofs.Common.{rules, ◌≡◌, length, map, refl, sym, ◌∙◌, subst, arith, None, Some}
use Rattle.std.specs.Prelude.{Ok, Err}
use Rattle.std.proofs.lemmas.List.{length-map}
use Rattle.xsk_io.specs.Bay.{Moment}
use Rattle.xsk_cli.specs.Ends.{ComesOf, EndsBy, TellsBy}
use Rattle.xsk_cli.specs.Line.{line_of}
use Rattle.xsk_cli.specs.Outcome.{Written}
use Rattle.xsk_cli.specs.Cause.{IsCaused, NoOthers}
use Rattle.xsk_cli.specs.Steps.{AreFor, AreMade, HaveRead, plan_in, read_status, write_status, written_in}
use Rattle.xsk_cli.specs.Streams.{AreWritten, HasLine, IsAtOnce, IsSilent, refusal_status, refusal_text}
use Rattle.xsk_cli.specs.Words.{most_of}
use Rattle.xsk_cli.specs.declared.failure.Refusal.{Refusal}
use Rattle.xsk_cli.specs.declared.status.Status.TheVariants.{Done, OpenFault, WriteFault}
use Rattle.xsk_io.specs.declared.bay.Stream.TheVariants.{Output}
use Rattle.xsk_cli.proofs.Making.{few_read}
use Rattle.xsk_cli.proofs.Showing.{few_written, read_before}
use Rattle.xsk_cli.proofs.Chaining.{caused_since, read_begun, run_begun, run_caused, silent_by, unwritten_silent, write_begun}
use Rattle.xsk_cli.proofs.Counting.{never_falls_then, no_others_then, unchanged_then}
use Rattle.xsk_cli.proofs.Writing.{SameInputs, done_by, ends_as, inputs_for, silent_then, unmade_by, unwritten_by}
use Rattle.xsk_cli.proofs.Telling.{bare, read_bare, write_bare}
use Rattle.xsk_cli.proofs.chain.run_plan.Goals as goal

pub read_inputs-requires-clause-few : goal.read_inputs-requires-clause-few
read_inputs-requires-clause-few g c =
    omega (arith, few_read c.args.plan.now.work c.requires.ready.accepted, c.requires.ready.inputs, length-map c.args.plan.now.inputs.now (λ name. name.now))

pub returns-in-Err-clause-ends : goal.returns-in-Err-clause-ends
returns-in-Err-clause-ends g c =
    let old : Moment = g.B.Bay.moment c.args.bay.now in
    let mid : Moment = g.B.Bay.moment c.read_inputs.new.bay in
    let plan = plan_in c.args.plan.now in
    let failure = c.in-Err.failure in
    let comes = g.M.Maker.comes plan.work None in
    let ends : EndsBy comes plan old mid (read_status failure) =
    ends_as (ComesOf plan.work) comes plan old mid (read_status failure)
    (λ inputs texts is. g.M.Maker.early plan.work inputs texts old (read_status failure) (read_before failure) is)
    (c.in-Err.ensures.failed plan (search rules) (sym c.most_input.ensures)) in
    subst (λ (r : Refusal). TellsBy comes plan old mid (refusal_status r) (refusal_text r)) (sym c.from.ensures)
    (bare comes plan old mid (read_status failure) ends (read_bare failure ends.texts))

pub make-requires : goal.make-requires
make-requires g c =
    let old : Moment = g.B.Bay.moment c.args.bay.now in
    let mid : Moment = g.B.Bay.moment c.read_inputs.new.bay in
    let plan = plan_in c.args.plan.now in
    let bytes = map (λ bytes. bytes.items) c.in-Ok.inputs.items in
    let have : HaveRead (most_of plan.work) plan.inputs bytes (length plan.inputs) old mid =
    subst (λ m. HaveRead m plan.inputs bytes (length plan.inputs) old mid) c.most_input.ensures
    (subst (λ n. HaveRead c.most_input.result plan.inputs bytes n old mid) (sym (length-map c.args.plan.now.inputs.now (λ name. name.now))) c.in-Ok.ensures.read) in
    c.requires.can c.in-Ok.inputs (inputs_for plan bytes (length c.in-Ok.inputs.items) old mid have (length-map c.in-Ok.inputs.items (λ bytes. bytes.items)) c.requires.ready.inputs)

pub returns-in-Err-make-clause-ends : goal.returns-in-Err-make-clause-ends
returns-in-Err-make-clause-ends g c =
    let old : Moment = g.B.Bay.moment c.args.bay.now in
    let mid : Moment = g.B.Bay.moment c.read_inputs.new.bay in
    let plan = plan_in c.args.plan.now in
    let bytes = map (λ bytes. bytes.items) c.in-Ok.inputs.items in
    let failure = c.in-Err-make.field-0.failure in
    let comes = g.M.Maker.comes plan.work c.in-Err-make.field-0.left in
    let have : HaveRead (most_of plan.work) plan.inputs bytes (length plan.inputs) old mid =
    subst (λ m. HaveRead m plan.inputs bytes (length plan.inputs) old mid) c.most_input.ensures
    (subst (λ n. HaveRead c.most_input.result plan.inputs bytes n old mid) (sym (length-map c.args.plan.now.inputs.now (λ name. name.now))) c.in-Ok.ensures.read) in
    let are_for : AreFor plan.work bytes (length c.in-Ok.inputs.items) = inputs_for plan bytes (length c.in-Ok.inputs.items) old mid have (length-map c.in-Ok.inputs.items (λ bytes. bytes.items)) c.requires.ready.inputs in
    subst (λ (r : Refusal). TellsBy comes plan old mid (refusal_status r) (refusal_text r)) (sym c.from-in-Err-make.ensures) (unmade_by plan bytes old mid mid have comes failure (c.requires.unmade c.in-Ok.inputs (Err c.in-Err-make.field-0) are_for c.in-Err-make.ensures))

pub write_texts-requires-clause-few : goal.write_texts-requires-clause-few
write_texts-requires-clause-few g c =
    omega (arith, few_written c.args.plan.now.work c.requires.ready.accepted, c.requires.ready.outputs, length-map c.args.plan.now.outputs.now (λ name. name.now))

pub write_texts-requires-clause-texts : goal.write_texts-requires-clause-texts
write_texts-requires-clause-texts g c =
    let old : Moment = g.B.Bay.moment c.args.bay.now in
    let mid : Moment = g.B.Bay.moment c.read_inputs.new.bay in
    let plan = plan_in c.args.plan.now in
    let bytes = map (λ bytes. bytes.items) c.in-Ok.inputs.items in
    let left = c.in-Ok-make.field-0.left in
    let have : HaveRead (most_of plan.work) plan.inputs bytes (length plan.inputs) old mid =
    subst (λ m. HaveRead m plan.inputs bytes (length plan.inputs) old mid) c.most_input.ensures
    (subst (λ n. HaveRead c.most_input.result plan.inputs bytes n old mid) (sym (length-map c.args.plan.now.inputs.now (λ name. name.now))) c.in-Ok.ensures.read) in
    let are_for : AreFor plan.work bytes (length c.in-Ok.inputs.items) = inputs_for plan bytes (length c.in-Ok.inputs.items) old mid have (length-map c.in-Ok.inputs.items (λ bytes. bytes.items)) c.requires.ready.inputs in
    let are : AreMade (g.M.Maker.comes plan.work (Some left) bytes) plan.work (g.M.Left.Leaves.sent left) c.in-Ok-make.field-0.texts = c.requires.made c.in-Ok.inputs (Ok c.in-Ok-make.field-0) are_for c.in-Ok-make.ensures in
    are.count ∙ sym c.requires.ready.outputs ∙ length-map c.args.plan.now.outputs.now (λ name. name.now)

pub write_texts-requires-clause-laid : goal.write_texts-requires-clause-laid
write_texts-requires-clause-laid g c =
    let old : Moment = g.B.Bay.moment c.args.bay.now in
    let mid : Moment = g.B.Bay.moment c.read_inputs.new.bay in
    let plan = plan_in c.args.plan.now in
    let bytes = map (λ bytes. bytes.items) c.in-Ok.inputs.items in
    let left = c.in-Ok-make.field-0.left in
    let have : HaveRead (most_of plan.work) plan.inputs bytes (length plan.inputs) old mid =
    subst (λ m. HaveRead m plan.inputs bytes (length plan.inputs) old mid) c.most_input.ensures
    (subst (λ n. HaveRead c.most_input.result plan.inputs bytes n old mid) (sym (length-map c.args.plan.now.inputs.now (λ name. name.now))) c.in-Ok.ensures.read) in
    let are_for : AreFor plan.work bytes (length c.in-Ok.inputs.items) = inputs_for plan bytes (length c.in-Ok.inputs.items) old mid have (length-map c.in-Ok.inputs.items (λ bytes. bytes.items)) c.requires.ready.inputs in
    let are : AreMade (g.M.Maker.comes plan.work (Some left) bytes) plan.work (g.M.Left.Leaves.sent left) c.in-Ok-make.field-0.texts = c.requires.made c.in-Ok.inputs (Ok c.in-Ok-make.field-0) are_for c.in-Ok-make.ensures in
    are.laid

pub returns-clause-ends : goal.returns-clause-ends
returns-clause-ends g c =
    let old : Moment = g.B.Bay.moment c.args.bay.now in
    let mid : Moment = g.B.Bay.moment c.read_inputs.new.bay in
    let new : Moment = g.B.Bay.moment c.write_texts.new.bay in
    let plan = plan_in c.args.plan.now in
    let bytes = map (λ bytes. bytes.items) c.in-Ok.inputs.items in
    let left = c.in-Ok-make.field-0.left in
    let texts : Written = written_in (g.M.Left.Leaves.sent left) c.in-Ok-make.field-0.texts in
    let failure = c.in-Err-write_texts.failure in
    let have : HaveRead (most_of plan.work) plan.inputs bytes (length plan.inputs) old mid =
    subst (λ m. HaveRead m plan.inputs bytes (length plan.inputs) old mid) c.most_input.ensures
    (subst (λ n. HaveRead c.most_input.result plan.inputs bytes n old mid) (sym (length-map c.args.plan.now.inputs.now (λ name. name.now))) c.in-Ok.ensures.read) in
    let are_for : AreFor plan.work bytes (length c.in-Ok.inputs.items) = inputs_for plan bytes (length c.in-Ok.inputs.items) old mid have (length-map c.in-Ok.inputs.items (λ bytes. bytes.items)) c.requires.ready.inputs in
    let are : AreMade (g.M.Maker.comes plan.work (Some left) bytes) plan.work (g.M.Left.Leaves.sent left) c.in-Ok-make.field-0.texts = c.requires.made c.in-Ok.inputs (Ok c.in-Ok-make.field-0) are_for c.in-Ok-make.ensures in
    let same : SameInputs mid new = record { opened = c.write_texts.ensures.opened; asked = c.write_texts.ensures.asked; left = λ port. c.write_texts.ensures.left _ } in
    let comes = g.M.Maker.comes plan.work (Some left) in
    let ends : EndsBy comes plan old new (write_status failure) =
    unwritten_by plan bytes old mid new have comes texts same (λ stream. are.comes old (WriteFault stream) tt) (λ port. are.comes old (OpenFault (Output port)) tt) failure c.in-Err-write_texts.ensures.failed in
    subst (λ (r : Refusal). TellsBy (g.M.Maker.comes plan.work (Some c.write_texts.new.left)) plan old new (refusal_status r) (refusal_text r)) (sym c.from-in-Err-write_texts.ensures)
    (subst (λ l. TellsBy (g.M.Maker.comes plan.work (Some l)) plan old new (write_status failure) (line_of (write_status failure))) (sym c.write_texts.ensures.kept)
    (bare comes plan old new (write_status failure) ends (write_bare failure ends.texts)))

pub returns-in-Ok-write_texts-clause-ends : goal.returns-in-Ok-write_texts-clause-ends
returns-in-Ok-write_texts-clause-ends g c =
    let old : Moment = g.B.Bay.moment c.args.bay.now in
    let mid : Moment = g.B.Bay.moment c.read_inputs.new.bay in
    let new : Moment = g.B.Bay.moment c.write_texts.new.bay in
    let plan = plan_in c.args.plan.now in
    let bytes = map (λ bytes. bytes.items) c.in-Ok.inputs.items in
    let left = c.in-Ok-make.field-0.left in
    let texts : Written = written_in (g.M.Left.Leaves.sent left) c.in-Ok-make.field-0.texts in
    let have : HaveRead (most_of plan.work) plan.inputs bytes (length plan.inputs) old mid =
    subst (λ m. HaveRead m plan.inputs bytes (length plan.inputs) old mid) c.most_input.ensures
    (subst (λ n. HaveRead c.most_input.result plan.inputs bytes n old mid) (sym (length-map c.args.plan.now.inputs.now (λ name. name.now))) c.in-Ok.ensures.read) in
    let are_for : AreFor plan.work bytes (length c.in-Ok.inputs.items) = inputs_for plan bytes (length c.in-Ok.inputs.items) old mid have (length-map c.in-Ok.inputs.items (λ bytes. bytes.items)) c.requires.ready.inputs in
    let are : AreMade (g.M.Maker.comes plan.work (Some left) bytes) plan.work (g.M.Left.Leaves.sent left) c.in-Ok-make.field-0.texts = c.requires.made c.in-Ok.inputs (Ok c.in-Ok-make.field-0) are_for c.in-Ok-make.ensures in
    let same : SameInputs mid new = record { opened = c.write_texts.ensures.opened; asked = c.write_texts.ensures.asked; left = λ port. c.write_texts.ensures.left _ } in
    let comes = g.M.Maker.comes plan.work (Some left) in
    let count : length plan.outputs ≡ length c.args.plan.now.outputs.now = length-map c.args.plan.now.outputs.now (λ name. name.now) in
    let writes : AreWritten plan.outputs texts.outputs (length plan.outputs) (length plan.outputs) mid new =
    subst (λ n. AreWritten plan.outputs texts.outputs n n mid new) (sym count) c.in-Ok-write_texts.ensures.written in
    subst (λ l. TellsBy (g.M.Maker.comes plan.work (Some l)) plan old new Done (line_of Done)) (sym c.write_texts.ensures.kept)
    (bare comes plan old new Done (done_by plan bytes old mid new have comes texts same (are.comes old Done tt) writes c.in-Ok-write_texts.ensures.report c.in-Ok-write_texts.ensures.offered) refl)

-- ---- what is said of the report and of faults at each end

pub returns-in-Err-clause-begun : goal.returns-in-Err-clause-begun
returns-in-Err-clause-begun g c = subst (λ (r : Refusal). IsAtOnce (refusal_status r) → ⊥) (sym c.from.ensures) (read_begun c.in-Err.failure)

pub returns-in-Err-clause-silent : goal.returns-in-Err-clause-silent
returns-in-Err-clause-silent g c has = silent_by (g.B.Bay.moment c.args.bay.now) (g.B.Bay.moment c.read_inputs.new.bay) c.read_inputs.ensures.report c.read_inputs.ensures.offers

pub returns-in-Err-clause-cause : goal.returns-in-Err-clause-cause
returns-in-Err-clause-cause g c = subst (λ (r : Refusal). IsCaused (g.B.Bay.moment c.args.bay.now).faults (g.B.Bay.moment c.read_inputs.new.bay).faults (refusal_status r)) (sym c.from.ensures) c.in-Err.ensures.cause

pub returns-in-Err-clause-others : goal.returns-in-Err-clause-others
returns-in-Err-clause-others g c = subst (λ (r : Refusal). NoOthers (g.B.Bay.moment c.args.bay.now).faults (g.B.Bay.moment c.read_inputs.new.bay).faults (refusal_status r)) (sym c.from.ensures) c.in-Err.ensures.others

pub returns-in-Err-clause-falls : goal.returns-in-Err-clause-falls
returns-in-Err-clause-falls g c = c.read_inputs.ensures.falls

pub returns-in-Err-make-clause-begun : goal.returns-in-Err-make-clause-begun
returns-in-Err-make-clause-begun g c = subst (λ (r : Refusal). IsAtOnce (refusal_status r) → ⊥) (sym c.from-in-Err-make.ensures) (run_begun c.in-Err-make.field-0.failure)

pub returns-in-Err-make-clause-silent : goal.returns-in-Err-make-clause-silent
returns-in-Err-make-clause-silent g c has = silent_by (g.B.Bay.moment c.args.bay.now) (g.B.Bay.moment c.read_inputs.new.bay) c.read_inputs.ensures.report c.read_inputs.ensures.offers

pub returns-in-Err-make-clause-cause : goal.returns-in-Err-make-clause-cause
returns-in-Err-make-clause-cause g c =
    let old : Moment = g.B.Bay.moment c.args.bay.now in
    let mid : Moment = g.B.Bay.moment c.read_inputs.new.bay in
    subst (λ (r : Refusal). IsCaused old.faults mid.faults (refusal_status r)) (sym c.from-in-Err-make.ensures) (run_caused old.faults mid.faults c.in-Err-make.field-0.failure)

pub returns-in-Err-make-clause-others : goal.returns-in-Err-make-clause-others
returns-in-Err-make-clause-others g c kind stream other = c.in-Ok.ensures.unchanged kind stream

pub returns-in-Err-make-clause-falls : goal.returns-in-Err-make-clause-falls
returns-in-Err-make-clause-falls g c = c.read_inputs.ensures.falls

pub returns-clause-begun : goal.returns-clause-begun
returns-clause-begun g c = subst (λ (r : Refusal). IsAtOnce (refusal_status r) → ⊥) (sym c.from-in-Err-write_texts.ensures) (write_begun c.in-Err-write_texts.failure)

pub returns-clause-silent : goal.returns-clause-silent
returns-clause-silent g c =
    let old : Moment = g.B.Bay.moment c.args.bay.now in
    let mid : Moment = g.B.Bay.moment c.read_inputs.new.bay in
    let new : Moment = g.B.Bay.moment c.write_texts.new.bay in
    let before : IsSilent old mid = silent_by old mid c.read_inputs.ensures.report c.read_inputs.ensures.offers in
    subst (λ (r : Refusal). HasLine (refusal_status r) → IsSilent old new) (sym c.from-in-Err-write_texts.ensures)
    (λ has. silent_then old mid new before (unwritten_silent _ _ mid new c.in-Err-write_texts.failure c.in-Err-write_texts.ensures.failed has))

pub returns-clause-cause : goal.returns-clause-cause
returns-clause-cause g c =
    let old : Moment = g.B.Bay.moment c.args.bay.now in
    let mid : Moment = g.B.Bay.moment c.read_inputs.new.bay in
    let new : Moment = g.B.Bay.moment c.write_texts.new.bay in
    subst (λ (r : Refusal). IsCaused old.faults new.faults (refusal_status r)) (sym c.from-in-Err-write_texts.ensures)
    (caused_since old.faults mid.faults new.faults (write_status c.in-Err-write_texts.failure) c.read_inputs.ensures.falls c.in-Err-write_texts.ensures.cause)

pub returns-clause-others : goal.returns-clause-others
returns-clause-others g c =
    let old : Moment = g.B.Bay.moment c.args.bay.now in
    let mid : Moment = g.B.Bay.moment c.read_inputs.new.bay in
    let new : Moment = g.B.Bay.moment c.write_texts.new.bay in
    subst (λ (r : Refusal). NoOthers old.faults new.faults (refusal_status r)) (sym c.from-in-Err-write_texts.ensures)
    (no_others_then old.faults mid.faults new.faults (write_status c.in-Err-write_texts.failure) c.in-Ok.ensures.unchanged c.in-Err-write_texts.ensures.others)

pub returns-clause-falls : goal.returns-clause-falls
returns-clause-falls g c = never_falls_then _ _ _ c.read_inputs.ensures.falls c.write_texts.ensures.falls

pub returns-in-Ok-write_texts-clause-begun : goal.returns-in-Ok-write_texts-clause-begun
returns-in-Ok-write_texts-clause-begun g c at_once = at_once

pub returns-in-Ok-write_texts-clause-silent : goal.returns-in-Ok-write_texts-clause-silent
returns-in-Ok-write_texts-clause-silent g c has = absurd has

pub returns-in-Ok-write_texts-clause-cause : goal.returns-in-Ok-write_texts-clause-cause
returns-in-Ok-write_texts-clause-cause g c = tt

pub returns-in-Ok-write_texts-clause-others : goal.returns-in-Ok-write_texts-clause-others
returns-in-Ok-write_texts-clause-others g c kind stream other = unchanged_then _ _ _ c.in-Ok.ensures.unchanged c.in-Ok-write_texts.ensures.unchanged kind stream

pub returns-in-Ok-write_texts-clause-falls : goal.returns-in-Ok-write_texts-clause-falls
returns-in-Ok-write_texts-clause-falls g c = never_falls_then _ _ _ c.read_inputs.ensures.falls c.write_texts.ensures.falls
