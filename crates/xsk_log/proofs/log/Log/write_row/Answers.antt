use Rattle.std.proofs.Common.{Some, ◌++◌, map, sym, ap, ◌∙◌, arith}
use Rattle.std.specs.Prelude.{codes}
use Rattle.xsk_log.specs.Log.{item_of, entry_with}
use Rattle.xsk_log.specs.Rows.{event_text, items_from}
use Rattle.xsk_log.specs.Line.{who_text, call_text, reply_text}
use Rattle.xsk_log.proofs.RowLines.{row_within, row_entry, row_short, joins}
use Rattle.xsk_log.proofs.log.Log.write_row.Goals as goal

pub push_event-requires-clause-within : goal.push_event-requires-clause-within
push_event-requires-clause-within c =
    let log = c.args.self.now in
    omega (arith, row_within log.rows.items c.args.i c.get-row.result c.get-row.ensures, c.requires.start, log.begun_is, log.begun_within)

pub push_event-requires-clause-few : goal.push_event-requires-clause-few
push_event-requires-clause-few c = row_short c.args.self.now.rows.items c.args.i c.get-row.result c.args.self.now.rows_short c.get-row.ensures

pub returns : goal.returns
returns c =
    let log = c.args.self.now in
    let row = c.get-row.result in
    let start = c.args.start in
    let items = items_from log start row.items in
    let entry = entry_with row.who row.event items in
    let who = who_text c.args.pairs row.who in
    record {
      entry = entry;
      at =
          row_entry log.rows.items c.args.i row (map (item_of log.bytes.items) log.pieces.items) c.get-row.ensures
          ∙ ap (λ n. Some (entry_with row.who row.event (items_from log n row.items))) (sym c.requires.start);
      is =
          c.push_str-2.ensures.bytes
          ∙ ap (λ t. t ++ codes "\n")
          (c.push_event.ensures.text
          ∙ ap (λ t. t ++ event_text row.event items)
          (c.push_str.ensures.bytes
          ∙ ap (λ t. t ++ codes " ")
          (c.push_who.ensures.text ∙ ap (λ t. t ++ who) c.clear.ensures))
          ∙ joins (who ++ codes " ") (call_text entry.call) (codes " -> ") (reply_text entry.reply));
    }
