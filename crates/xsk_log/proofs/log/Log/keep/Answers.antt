use Rattle.std.proofs.Common.{◌≡◌, ◌++◌, length, rules, refl, ap, ◌∙◌}
use Rattle.xsk_log.specs.declared.log.Extent.{Extent}
use Rattle.xsk_log.specs.Extents.{at_extent}
use Rattle.xsk_log.proofs.Parts.{entries-bytes, noted-bytes, at_extent-end}
use Rattle.xsk_log.proofs.log.Log.keep.Goals as goal

pub returns : goal.returns
returns c =
    let grown : c.extend_from_slice.new.self.items ≡ c.args.self.now.bytes.items ++ c.args.payload.now = search rules in
    let start : c.len-start.result ≡ length c.args.self.now.bytes.items = search rules in
    let extent : Extent = record { start = c.len-start.result; len = length c.args.payload.now } in
    record {
      entries = entries-bytes c.args.self.now.bytes.items c.extend_from_slice.new.self.items c.args.payload.now c.args.self.now.pieces.items c.args.self.now.rows.items grown c.args.self.now.pieces_in;
      noted = noted-bytes c.args.self.now.bytes.items c.extend_from_slice.new.self.items c.args.payload.now c.args.self.now.pieces.items c.args.self.now.begun grown c.args.self.now.pieces_in;
      calls = refl;
      values = refl;
      bytes = record { more = c.args.payload.now; is = grown };
      within = search rules;
      shows = ap (λ xs. at_extent xs extent) grown ∙ at_extent-end c.args.self.now.bytes.items c.args.payload.now extent start refl;
      spare_entries = refl;
      spare_bytes = search rules;
    }
