use Rattle.std.proofs.Common.{ap, ◌∙◌}
use Rattle.xsk_stats.proofs.Lines.{on_ok}
use Rattle.xsk_why.specs.Waiting.{told_once}
use Rattle.xsk_why.specs.KeptWaits.{shown}
use Rattle.xsk_why.proofs.Noting.{changed, quiet_by, unchanged, waiting_is}
use Rattle.xsk_why.proofs.waits.note.Goals as goal

pub returns-then-is_quiet : goal.returns-then-is_quiet
returns-then-is_quiet c pairs e mine asked answered line =
    let old = shown c.args.waits.now.items in
    let quiet = quiet_by e c.args.noted.ask c.args.noted.answer c.is_quiet.result asked answered c.is_quiet.ensures in
    on_ok c.add_once.result _ _
    (λ is. unchanged pairs old _ e (quiet.0 c.if-is_quiet.true) (is ∙ ap (told_once old) (waiting_is pairs c.args.who c.args.line.now e mine line)))
    c.add_once.ensures

pub returns : goal.returns
returns c pairs e mine asked answered line =
    let old = shown c.args.waits.now.items in
    let quiet = quiet_by e c.args.noted.ask c.args.noted.answer c.is_quiet.result asked answered c.is_quiet.ensures in
    ap shown c.clear.ensures.items ∙ changed pairs old e (λ none. let yes = quiet.1 none in let no = c.if-is_quiet.false in cc)
