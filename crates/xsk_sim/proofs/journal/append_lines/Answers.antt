use Rattle.std.proofs.Common.{◌≡◌, ◌+◌, ◌<◌, List, [], ◌∷◌, ◌++◌, sym, ap, ◌∙◌, arith, rules, append_assoc, length-append}
use Rattle.std.specs.Prelude.{codes}
use Rattle.std.specs.Fmt.{decimal}
use Rattle.xsk_model.specs.Entry.{Entry}
use Rattle.xsk_log.specs.Left.{left_of}
use Rattle.xsk_log.specs.Log.{entries_of}
use Rattle.xsk_log.specs.Line.{line_of}
use Rattle.xsk_sim.specs.Journal.{round_of, journal_line, journal_of}
use Rattle.xsk_sim.proofs.Ending.{log_count}
use Rattle.xsk_sim.proofs.Journaling.{taken, none_taken, none_left, all_passed, own_few, journal_push}
use Rattle.xsk_sim.proofs.journal.append_lines.Goals as goal

pub next_round-requires : goal.next_round-requires
next_round-requires c =
    let l = c.loop-call in
    let fits : c.len-call-end.result < 4294967296 = search rules in
    omega (arith, l.invariant.counts c.in-Some.who, own_few c.in-Some.who l.invariant.past, l.invariant.passed, c.loop-call-test.true, fits)

pub loop-call-preserved : goal.loop-call-preserved
loop-call-preserved c =
    let l = c.loop-call in
    let past : List Entry = l.invariant.past in
    let later : List Entry = left_of c.write_next.new.self in
    let first = taken l.lines.pairs c.in-Some.who (left_of l.lines) later l.line c.write_next.new.out c.in-Some.ensures.next in
    let e : Entry = first.0 in
    let pairs = c.args.lines.pairs in
    let old = c.args.text.now.items in
    let bytes = c.bytes.result.now in
    let round = c.in_ok-round.round in
    let next = c.in_ok-round.ensures past e l.invariant.counts first.2 in
    let line : decimal round ++ codes " " ++ bytes ≡ journal_line pairs past e =
    ap (λ n. decimal n ++ codes " " ++ bytes) next.0
    ∙ ap (λ b. decimal (round_of past e) ++ codes " " ++ b) (c.bytes.ensures.value ∙ first.3 ∙ ap (λ n. line_of n e) l.invariant.pairs) in
    record {
      pairs = c.write_next.ensures.pairs ∙ l.invariant.pairs;
      past = past ++ e ∷ [];
      log = l.invariant.log ∙ ap (λ es. past ++ es) first.1 ∙ sym (append_assoc past (e ∷ []) later);
      passed = length-append past (e ∷ []) ∙ ap (λ n. n + 1) l.invariant.passed;
      counts = next.1;
      text =
          c.in_ok-append_line.ensures ∙ ap (λ t. t ++ (decimal round ++ codes " " ++ bytes)) l.invariant.text
          ∙ append_assoc old (journal_of pairs past) (decimal round ++ codes " " ++ bytes)
          ∙ ap (λ t. old ++ (journal_of pairs past ++ t)) line ∙ ap (λ t. old ++ t) (sym (journal_push pairs [] past e));
    }

pub returns-in_default : goal.returns-in_default
returns-in_default c =
    let l = c.loop-call in
    let none = none_taken l.lines.pairs (left_of l.lines) _ l.line _ c.in_default.ensures.next in
    l.invariant.text ∙ ap (λ es. c.args.text.now.items ++ journal_of c.args.lines.pairs es) (all_passed (entries_of c.args.log.now) l.invariant.past (left_of l.lines) l.invariant.log none)

pub returns : goal.returns
returns c =
    let l = c.loop-call in
    let count = c.len-call-end.ensures ∙ log_count c.args.log.now in
    let none = none_left (entries_of c.args.log.now) l.invariant.past (left_of l.lines) l.invariant.log (omega (arith, count, l.invariant.passed, c.loop-call-test.false)) in
    l.invariant.text ∙ ap (λ es. c.args.text.now.items ++ journal_of c.args.lines.pairs es) (all_passed (entries_of c.args.log.now) l.invariant.past (left_of l.lines) l.invariant.log none)
