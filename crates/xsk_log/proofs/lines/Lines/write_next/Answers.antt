use Rattle.std.proofs.Common.{◌≡◌, ◌≤◌, ◌+◌, suc, map, sym, subst, ap, ◌∙◌, arith, rules, drop, Some}
use Rattle.xsk_log.specs.Log.{entries_of, item_of}
use Rattle.xsk_log.specs.Line.{TakesLine}
use Rattle.xsk_log.proofs.Parts.{length-entries}
use Rattle.xsk_log.proofs.RowLines.{row_within, row_entry, next_start, one_caller, passes, stays}
use Rattle.xsk_log.proofs.lines.Lines.write_next.Goals as goal

pub returns-then-self-len-clause-next : goal.returns-then-self-len-clause-next
returns-then-self-len-clause-next c =
    let log = c.args.self.now.log.now in
    let count = length-entries log.rows.items (map (item_of log.bytes.items) log.pieces.items) in
    stays c.args.self.now.pairs (entries_of log) c.args.self.now.row c.args.out.now (omega (arith, count, c.if-self-len.true, c.len.ensures))

pub overflow_add-self-2 : goal.overflow_add-self-2
overflow_add-self-2 c =
    let log = c.args.self.now.log.now in
    let sum = row_within log.rows.items c.args.self.now.row c.get-row.result c.get-row.ensures in
    let few : c.args.self.now.start + c.get-row.result.items ≤ log.begun = omega (arith, sum, c.args.self.now.start_is, log.begun_is) in
    search rules

pub invariant_of-self : goal.invariant_of-self
invariant_of-self c = record {
  row_within = omega (arith, c.args.self.now.row_within, c.if-self-len.false, c.len.ensures);
  start_is = ap (λ n. n + c.get-row.result.items) c.args.self.now.start_is ∙ sym (next_start c.args.self.now.log.now.rows.items c.args.self.now.row c.get-row.result c.get-row.ensures);
}

pub returns-clause-next : goal.returns-clause-next
returns-clause-next c =
    let log = c.args.self.now.log.now in
    let i = c.args.self.now.row in
    let line = c.write_row.ensures in
    let caller = one_caller (entries_of log) i line.entry _ line.at
    (row_entry log.rows.items i c.get-row.result (map (item_of log.bytes.items) log.pieces.items) c.get-row.ensures) in
    let next : suc i ≡ i + 1 = omega arith in
    subst (λ n. TakesLine c.args.self.now.pairs (drop i (entries_of log)) (drop n (entries_of log)) c.args.out.now c.write_row.new.out (Some c.get-row.result.who)) next
    (passes c.args.self.now.pairs (entries_of log) i c.get-row.result.who line.entry c.args.out.now c.write_row.new.out line.at caller line.is)
