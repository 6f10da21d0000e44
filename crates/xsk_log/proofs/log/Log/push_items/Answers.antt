use Rattle.std.proofs.Common.{◌≡◌, ◌+◌, ◌<◌, [], ◌∷◌, ◌++◌, length, map, sym, ap, ◌∙◌, arith, rules, append_assoc}
use Rattle.std.specs.Option.{option_map}
use Rattle.std.proofs.lemmas.Option.{slice_get-map}
use Rattle.xsk_umem.specs.declared.batch.Item.{Item}
use Rattle.xsk_log.specs.Log.{item_of}
use Rattle.xsk_log.specs.Rows.{items_from}
use Rattle.xsk_log.specs.Line.{item_text, items_text}
use Rattle.xsk_log.proofs.RowLines.{next_item, one_more_text}
use Rattle.xsk_log.proofs.log.Log.push_items.Goals as goal

pub overflow_add-start : goal.overflow_add-start
overflow_add-start c =
    let few : c.args.start + c.loop-k.k < length c.args.self.now.pieces.items = omega (arith, c.requires.within, c.loop-k-test.true) in
    search rules

pub loop-k-preserved : goal.loop-k-preserved
loop-k-preserved c =
    let log = c.args.self.now in
    let start = c.args.start in
    let k = c.loop-k.k in
    let piece = c.get-piece.result.now in
    let x : Item = item_of log.bytes.items piece in
    let stands = slice_get-map (item_of log.bytes.items) log.pieces.items (start + k) ∙ ap (option_map (item_of log.bytes.items)) c.get-piece.ensures in
    let more : items_from log start (k + 1) ≡ items_from log start k ++ x ∷ [] = next_item (map (item_of log.bytes.items) log.pieces.items) start k x stands in (
      c.push_item.ensures.text ∙ ap (λ t. t ++ item_text x) c.loop-k.invariant.0 ∙ append_assoc c.args.line.now.bytes (items_text (items_from log start k)) (item_text x)
          ∙ ap (λ t. c.args.line.now.bytes ++ t) (sym (one_more_text (items_from log start k) x) ∙ ap items_text (sym more)),
      omega (arith, c.push_item.ensures.room, c.loop-k.invariant.1),
    )
