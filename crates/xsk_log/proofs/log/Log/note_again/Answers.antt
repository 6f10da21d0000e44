use Rattle.std.proofs.Common.{◌≡◌, ◌++◌, ◌∷◌, [], rules, refl, ap, ◌∙◌, arith}
use Rattle.xsk_log.specs.Repeats.{of_option}
use Rattle.xsk_log.proofs.Growing.{keeps_same}
use Rattle.xsk_log.proofs.Parts.{entries-pieces, noted-pieces}
use Rattle.xsk_log.proofs.log.Log.note_again.Goals as goal

pub returns : goal.returns
returns c = λ piece at.
    let pushed : c.push_place.new.self.items ≡ c.args.self.now.pieces.items ++ piece ∷ [] = c.push_place.ensures.items ∙ ap (λ o. c.args.self.now.pieces.items ++ of_option o) at in
    record {
      entries = entries-pieces c.args.self.now.bytes.items c.args.self.now.pieces.items c.push_place.new.self.items (piece ∷ []) c.args.self.now.rows.items pushed (omega (arith, c.args.self.now.begun_is, c.args.self.now.begun_within));
      noted = noted-pieces c.args.self.now.bytes.items c.args.self.now.pieces.items c.push_place.new.self.items piece c.args.self.now.begun pushed (search rules);
      calls = refl;
      bytes = refl;
      values = keeps_same c.args.self.now.pieces.values c.push_place.new.self.values c.push_place.ensures.values;
      spare_entries = refl;
      spare_bytes = refl;
    }
