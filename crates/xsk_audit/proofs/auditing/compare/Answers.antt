use Rattle.std.proofs.Common.{◌+◌, ◌≤◌, ◌∙◌, ◌∷◌, ◌++◌, [], ℕ, refl, sym, ap, subst, arith, length-append, length}
use Rattle.xsk_log.specs.Left.{left_of}
use Rattle.xsk_log.specs.Log.{entries_of}
use Rattle.xsk_audit.specs.Lines.{lines_of}
use Rattle.xsk_audit.specs.Telling.{Timed, journal_line, last_of}
use Rattle.xsk_audit.proofs.Cuts.{no-lines}
use Rattle.xsk_audit.proofs.Misses.{some-lines, missed-as, not-empty}
use Rattle.xsk_audit.proofs.Rounds.{one-later, last-later, log-later, lines-later}
use Rattle.xsk_audit.proofs.auditing.compare.Goals as goal

pub entries-init : goal.entries-init
unfolding last_of
entries-init c = record {
  pairs = c.lines-lines.ensures.pairs;
  timed = [];
  log = sym c.lines-lines.ensures.all;
  lines = refl;
  rounds = tt;
  last = refl;
  count = refl;
  passed = refl;
  short = omega arith;
}

pub entries-preserved : goal.entries-preserved
entries-preserved c =
    let l = c.entries.invariant in
    let passed = c.in-Some.ensures.same in
    let t : Timed = record { round = c.in-Some.round; entry = passed.entry } in
    record {
      pairs = c.pass_same.ensures.pairs ∙ l.pairs;
      timed = l.timed ++ t ∷ [];
      log = log-later (entries_of c.args.log.now) l.timed (left_of c.entries.lines) (left_of c.pass_same.new.lines) t l.log passed.entries_are;
      lines =
          lines-later c.args.pairs (lines_of c.args.text.now) l.timed (lines_of c.entries.rest.now) (lines_of c.in-Some.later.now) t l.lines
          (passed.lines_are ∙ ap (λ (p : ℕ). journal_line p t ∷ lines_of c.in-Some.later.now) l.pairs);
      rounds = one-later 0 l.timed t l.rounds (subst (λ (n : ℕ). n ≤ c.in-Some.round) (sym l.last) passed.least_is) passed.fits;
      last = last-later 0 l.timed t;
      count = ap (λ n. n + 1) l.count ∙ sym (length-append l.timed (t ∷ []));
      passed = ap (λ n. n + 1) l.passed;
      short = omega (arith, l.short, c.in-Some.ensures.shorter);
    }

pub returns-in_default-clause-same : goal.returns-in_default-clause-same
returns-in_default-clause-same c =
    let l = c.entries.invariant in
    record {
      timed = l.timed;
      later = left_of c.entries.lines;
      left = lines_of c.entries.rest.now;
      log_is = l.log;
      lines_are = l.lines;
      rounds = l.rounds;
      count = l.count;
      ends = no-lines c.entries.rest.now c.is_empty.result c.is_empty.ensures;
      goes_on = some-lines c.entries.rest.now c.is_empty.result c.is_empty.ensures;
      misses = λ _. missed-as c.entries.lines.pairs c.args.pairs (left_of c.entries.lines) c.entries.least (last_of 0 l.timed) (lines_of c.entries.rest.now) l.pairs (sym l.last) c.in_default.ensures.missed;
    }

pub returns-clause-same : goal.returns-clause-same
returns-clause-same c =
    let l = c.entries.invariant in
    let ended : length c.entries.rest.now ≤ 0 = omega (arith, l.short, l.passed, c.entries-test.false, c.entries.auto._line-end) in
    record {
      timed = l.timed;
      later = left_of c.entries.lines;
      left = lines_of c.entries.rest.now;
      log_is = l.log;
      lines_are = l.lines;
      rounds = l.rounds;
      count = l.count;
      ends = no-lines c.entries.rest.now c.is_empty-2.result c.is_empty-2.ensures;
      goes_on = λ other. absurd (not-empty c.entries.rest.now c.is_empty-2.result ended c.is_empty-2.ensures other);
      misses = λ other. absurd (not-empty c.entries.rest.now c.is_empty-2.result ended c.is_empty-2.ensures other);
    }
