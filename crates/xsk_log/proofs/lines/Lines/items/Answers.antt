use Rattle.std.proofs.Common.{◌≤◌, List, length, map, take, drop, sym, ap, ◌∙◌, arith}
use Rattle.std.specs.Prelude.{sum_by}
use Rattle.std.proofs.lemmas.List.{length-drop, length-map, length-take-le}
use Rattle.xsk_umem.specs.declared.batch.Item.{Item}
use Rattle.xsk_model.specs.Entry.{Entry}
use Rattle.xsk_log.specs.Items.{next_items}
use Rattle.xsk_log.specs.Log.{entries_of, item_of}
use Rattle.xsk_log.specs.Pieces.{count_of}
use Rattle.xsk_log.proofs.Parts.{length-entries}
use Rattle.xsk_log.proofs.RowLines.{none_left, row_within}
use Rattle.xsk_log.proofs.Shown.{own_items, shows_row}
use Rattle.xsk_log.proofs.lines.Lines.items.Goals as goal

pub returns-then-self-len : goal.returns-then-self-len
returns-then-self-len c =
    let log = c.args.self.now.log.now in
    let count = length-entries log.rows.items (map (item_of log.bytes.items) log.pieces.items) in
    let end = none_left (entries_of log) c.args.self.now.row (omega (arith, count, c.if-self-len.true, c.len.ensures)) in
    sym (ap (λ (left : List Entry). length (next_items left)) end)

pub returns : goal.returns
returns c =
    let log = c.args.self.now.log.now in
    let row = c.get.result in
    let place = c.args.self.now.row in
    let all : List Item = map (item_of log.bytes.items) log.pieces.items in
    let start = sum_by count_of (take place log.rows.items) in
    let within = row_within log.rows.items place row c.get.ensures in
    let count = length-map log.pieces.items (item_of log.bytes.items) in
    let few : row.items ≤ length (drop start all) = omega (arith, within, log.begun_is, log.begun_within, count, length-drop start all) in
    c.items_in.ensures (own_items log.rows.items all place row) (length-take-le row.items (drop start all) few)
    ∙ sym (ap length (shows_row log.rows.items all place row c.get.ensures))
