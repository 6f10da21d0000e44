use Rattle.std.proofs.Common.{rules, refl, arith}
use Rattle.xsk_log.specs.declared.log.Row.{Row}
use Rattle.xsk_log.proofs.Parts.{entries-enter, length-noted, noted-none}
use Rattle.xsk_log.proofs.Places.{one_more}
use Rattle.xsk_log.proofs.log.Log.enter.Goals as goal

pub returns-then-items-gt0 : goal.returns-then-items-gt0
returns-then-items-gt0 c =
    let row : Row = record { who = c.args.who; event = c.args.event; items = c.args.items } in
    record {
      entries = entries-enter c.args.self.now.bytes.items c.args.self.now.pieces.items c.args.self.now.rows.items c.push_reserved.new.self.items
          row c.args.self.now.begun
          c.push_reserved.ensures.items c.args.self.now.begun_is (omega (arith, c.requires.items, length-noted c.args.self.now.bytes.items c.args.self.now.pieces.items c.args.self.now.begun c.args.self.now.begun_within));
      calls = one_more c.args.self.now.rows.items c.push_reserved.new.self.items row c.push_reserved.ensures.items;
      notes = refl;
      noted = noted-none c.args.self.now.bytes.items c.args.self.now.pieces.items c.len-self.result (omega (arith, c.len-self.ensures));
      spare_entries = search rules;
      spare_bytes = refl;
    }

pub returns-else-items-gt0 : goal.returns-else-items-gt0
returns-else-items-gt0 c =
    let row : Row = record { who = c.args.who; event = c.args.event; items = c.args.items } in
    record {
      entries = entries-enter c.args.self.now.bytes.items c.args.self.now.pieces.items c.args.self.now.rows.items c.push_reserved.new.self.items
          row c.args.self.now.begun
          c.push_reserved.ensures.items c.args.self.now.begun_is (omega (arith, c.requires.items, length-noted c.args.self.now.bytes.items c.args.self.now.pieces.items c.args.self.now.begun c.args.self.now.begun_within));
      calls = one_more c.args.self.now.rows.items c.push_reserved.new.self.items row c.push_reserved.ensures.items;
      notes = refl;
      noted = noted-none c.args.self.now.bytes.items c.args.self.now.pieces.items c.args.self.now.begun (omega (arith, c.requires.items, c.if-items-gt0.false, length-noted c.args.self.now.bytes.items c.args.self.now.pieces.items c.args.self.now.begun c.args.self.now.begun_within));
      spare_entries = search rules;
      spare_bytes = refl;
    }
