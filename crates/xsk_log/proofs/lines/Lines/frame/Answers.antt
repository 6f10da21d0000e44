use Rattle.std.proofs.Common.{◌≡◌, ◌+◌, ℕ, List, Some, map, slice_get, sym, ap, ◌∙◌, arith, rules}
use Rattle.std.specs.Option.{option_map}
use Rattle.std.proofs.lemmas.Option.{slice_get-map}
use Rattle.xsk_umem.specs.declared.batch.Item.{Item}
use Rattle.xsk_log.specs.Items.{number_in}
use Rattle.xsk_log.specs.Log.{entries_of, item_of}
use Rattle.xsk_log.proofs.Parts.{length-entries}
use Rattle.xsk_log.proofs.RowLines.{has_one}
use Rattle.xsk_log.proofs.Shown.{frame_shown, item_at, item_within, place_of_next}
use Rattle.xsk_log.proofs.lines.Lines.frame.Goals as goal

pub overflow_add-self : goal.overflow_add-self
overflow_add-self c =
    let few = item_within c.args.self.now.log.now c.args.self.now.row c.args.i c.args.self.now.start c.args.self.now.start_is c.requires in
    search rules

pub get-requires : goal.get-requires
get-requires c =
    let few = item_within c.args.self.now.log.now c.args.self.now.row c.args.i c.args.self.now.start c.args.self.now.start_is c.requires in
    omega (arith, few, c.args.self.now.log.now.begun_within)

pub returns : goal.returns
returns c item is =
    let log = c.args.self.now.log.now in
    let place = c.args.self.now.row in
    let all : List Item = map (item_of log.bytes.items) log.pieces.items in
    let piece = c.get.result.now in
    let here = place_of_next (entries_of log) place c.args.i c.requires in
    let row = has_one log.rows.items place (omega (arith, here, length-entries log.rows.items all)) in
    let at = item_at log.rows.items all place row.0 row.1 c.args.i item is in
    let stands = slice_get-map (item_of log.bytes.items) log.pieces.items (c.args.self.now.start + c.args.i) ∙ ap (option_map (item_of log.bytes.items)) c.get.ensures in
    let begins : slice_get all (c.args.self.now.start + c.args.i) ≡ Some item = ap (λ (n : ℕ). slice_get all (n + c.args.i)) c.args.self.now.start_is ∙ at.1 in
    let same : item_of log.bytes.items piece ≡ item = let both = sym stands ∙ begins in cc in
    sym (frame_shown log.bytes.items piece) ∙ ap (λ (x : Item). option_map number_in x.frame) same
