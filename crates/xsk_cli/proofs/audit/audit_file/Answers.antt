use Rattle.std.proofs.Common.{rules, ◌∷◌, [], refl, Some}
use Rattle.xsk_io.specs.Bay.{Moment}
use Rattle.xsk_cli.specs.Ends.{Tells}
use Rattle.xsk_cli.specs.Streams.{status_in, text_in}
use Rattle.xsk_cli.specs.Words.{Plan}
use Rattle.xsk_cli.specs.declared.words.Work.TheVariants.{Audit}
use Rattle.xsk_cli.proofs.Coming.{plan_comes}
use Rattle.xsk_cli.proofs.audit.audit_file.Goals as goal

pub returns : goal.returns
returns g c =
    let old : Moment = g.B.Bay.moment c.args.bay.now in
    let new : Moment = g.B.Bay.moment c.do_without_run-result.new.bay in
    let plan : Plan = record { inputs = c.args.file.now ∷ []; outputs = []; work = Audit c.args.layout c.args.why } in
    let e = c.do_without_run-result.ensures in
    let ends : Tells plan old new c.do_without_run-result.result.result = search rules in
    plan_comes (Some plan) plan old new (status_in c.do_without_run-result.result.result) (text_in c.do_without_run-result.result.result) refl c.requires.accepted e.begun ends e.silent e.cause e.falls e.others
