use Rattle.std.proofs.Common.{rules, refl, arith, ◌∷◌, []}
use Rattle.xsk_log.proofs.Parts.{entries-pieces, noted-pieces}
use Rattle.xsk_log.proofs.log.Log.note.Goals as goal

pub returns-clause-notes : goal.returns-clause-notes
returns-clause-notes c = record {
  entries = entries-pieces c.args.self.now.bytes.items c.args.self.now.pieces.items c.push_reserved.new.self.items (c.args.piece ∷ []) c.args.self.now.rows.items (search rules) (omega (arith, c.args.self.now.begun_is, c.args.self.now.begun_within));
  noted = noted-pieces c.args.self.now.bytes.items c.args.self.now.pieces.items c.push_reserved.new.self.items c.args.piece c.args.self.now.begun (search rules) (search rules);
  calls = refl;
  bytes = refl;
  values = c.push_reserved.ensures.kept;
  spare_entries = refl;
  spare_bytes = refl;
}
