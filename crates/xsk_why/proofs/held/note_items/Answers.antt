use Rattle.std.proofs.Common.{◌≡◌, ◌++◌, true, false, sym, ap, ◌∙◌}
use Rattle.xsk_model.specs.Asks.{ask_of}
use Rattle.xsk_model.specs.Numbers.{numbers}
use Rattle.xsk_stats.proofs.Lines.{on_ok}
use Rattle.xsk_log.specs.Items.{next_items}
use Rattle.xsk_why.specs.KeptFrames.{all_by, is_submit, without_all}
use Rattle.xsk_why.proofs.Having.{gave, gives_none, took}
use Rattle.xsk_why.proofs.held.note_items.Goals as goal

pub returns-then-is_submit : goal.returns-then-is_submit
returns-then-is_submit c e later left mine asked none =
    let old = c.args.held.now.items in
    gave e c.args.noted.who old _ mine (none (sym c.is_submit.ensures ∙ c.if-is_submit.true))
    (c.give_items.ensures ∙ ap (λ es. without_all c.args.noted.who (numbers (next_items es)) old) left)

pub returns : goal.returns
returns c e later left mine asked none =
    let old = c.args.held.now.items in
    let no : is_submit (ask_of e.call) ≡ false = ap is_submit asked ∙ sym c.is_submit.ensures ∙ c.if-is_submit.false in
    on_ok c.take_items.result _ _
    (λ is. took e c.args.noted.who old _ mine (gives_none e.call no) (is ∙ ap (λ es. old ++ all_by c.args.noted.who (numbers (next_items es))) left))
    c.take_items.ensures
