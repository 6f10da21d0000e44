use Rattle.std.proofs.Common.{◌≡◌, ◌+◌, ◌≤◌, ◌∙◌, ◌++◌, ◌∷◌, [], ℕ, List, sym, ap, subst, arith, length, length-append, map, refl}
use Rattle.xsk_model.specs.Config.{Config}
use Rattle.xsk_model.specs.Entry.{Entry}
use Rattle.xsk_audit.specs.Lines.{lines_of}
use Rattle.xsk_audit.specs.Playing.{IsPlaying}
use Rattle.xsk_audit.specs.Shelf.{descs_of}
use Rattle.xsk_audit.specs.Telling.{Timed, entries, journal_line, last_of}
use Rattle.xsk_audit.proofs.Cuts.{no-lines}
use Rattle.xsk_audit.proofs.Following.{all-legal, entries-more, followed, stopped, stops-for}
use Rattle.xsk_audit.proofs.Misses.{none-short}
use Rattle.xsk_audit.proofs.Rounds.{one-later, last-later, lines-later}
use Rattle.xsk_audit.proofs.why.follow.Goals as goal

pub loop-line-init : goal.loop-line-init
unfolding last_of
loop-line-init c = record {
  config = refl;
  frames = c.requires.opened.0;
  timed = [];
  playing = c.requires.opened.1;
  calls = c.requires.none;
  lines = refl;
  rounds = tt;
  last = refl;
  count = refl;
  passed = refl;
  short = omega arith;
  none_told = c.requires.told;
}

pub returns-then-is_empty-clause-follows : goal.returns-then-is_empty-clause-follows
returns-then-is_empty-clause-follows c =
    let l = c.loop-line.invariant in
    all-legal c.loop-line.checked.config c.loop-line.checked c.loop-line.shelf l.frames l.timed (lines_of c.args.text.now) (lines_of c.loop-line.rest.now) l.playing refl l.rounds l.lines
    (no-lines c.loop-line.rest.now c.is_empty.result c.is_empty.ensures c.if-is_empty.true)

pub follow_line-requires-clause-playing : goal.follow_line-requires-clause-playing
follow_line-requires-clause-playing c =
    let l = c.loop-line.invariant in
    (l.frames, entries l.timed, l.playing)

pub returns-in-Fails-clause-follows : goal.returns-in-Fails-clause-follows
returns-in-Fails-clause-follows c =
    let l = c.loop-line.invariant in
    let line = c.in_ok-round.ensures in
    let goes = line.next l.frames (entries l.timed) l.playing l.calls in
    stops-for c.loop-line.checked c.follow_line.new.checked c.loop-line.shelf l.frames l.timed (lines_of c.args.text.now) (lines_of c.loop-line.rest.now) (lines_of c.first_line.result.1.now)
    c.loop-line.least c.loop-line.same c.first_line.result.0.now c.follow_line.new.right (descs_of c.follow_line.new.told) c.in-Fails.reason l.playing (sym line.config) l.rounds l.last l.count l.lines c.first_line.ensures.line
    (stopped c.follow_line.new.checked c.follow_line.new.shelf l.frames (entries l.timed) c.loop-line.least c.first_line.result.0.now (descs_of c.follow_line.new.told) c.follow_line.new.right _ c.in-Fails.reason goes c.in-Fails.is)

pub loop-line-preserved : goal.loop-line-preserved
loop-line-preserved c =
    let l = c.loop-line.invariant in
    let line = c.in_ok-round.ensures in
    let goes = line.next l.frames (entries l.timed) l.playing l.calls in
    let next = followed c.follow_line.new.checked c.follow_line.new.shelf l.frames (entries l.timed) c.loop-line.least c.first_line.result.0.now (descs_of c.follow_line.new.told) c.follow_line.new.right _ c.in-Follows.round goes c.in-Follows.is in
    let t : Timed = record { round = c.in-Follows.round; entry = next.entry } in
    let more : entries (l.timed ++ t ∷ []) ≡ entries l.timed ++ t.entry ∷ [] = entries-more l.timed t in
    let pairs = length c.follow_line.new.checked.config.pairs in
    record {
      config = line.config ∙ l.config;
      frames = l.frames;
      timed = l.timed ++ t ∷ [];
      playing = subst (λ (h : List Entry). IsPlaying c.follow_line.new.checked c.follow_line.new.shelf l.frames h) (sym more) next.playing;
      calls = next.calls ∙ sym (length-append (entries l.timed) (t.entry ∷ [])) ∙ ap (length {A = Entry}) (sym more);
      lines =
          lines-later pairs (lines_of c.args.text.now) l.timed (lines_of c.loop-line.rest.now) (lines_of c.first_line.result.1.now) t
          (l.lines ∙ ap (λ (k : Config). map (journal_line (length k.pairs)) l.timed ++ lines_of c.loop-line.rest.now) (sym line.config))
          (c.first_line.ensures.line ∙ ap (λ (text : List ℕ). text ∷ lines_of c.first_line.result.1.now) next.line_is);
      rounds = one-later 0 l.timed t l.rounds (subst (λ (n : ℕ). n ≤ c.in-Follows.round) (sym l.last) next.least_is) next.fits;
      last = last-later 0 l.timed t;
      count = ap (λ n. n + 1) l.count ∙ sym (length-append l.timed (t ∷ []));
      passed = ap (λ n. n + 1) l.passed;
      short = omega (arith, l.short, c.first_line.ensures.shorter);
      none_told = c.empty.ensures;
    }

pub returns-clause-follows : goal.returns-clause-follows
returns-clause-follows c =
    let l = c.loop-line.invariant in
    all-legal c.loop-line.checked.config c.loop-line.checked c.loop-line.shelf l.frames l.timed (lines_of c.args.text.now) (lines_of c.loop-line.rest.now) l.playing refl l.rounds l.lines
    (none-short c.loop-line.rest.now (omega (arith, l.short, c.loop-line-test.false, c.loop-line.auto._line-end)))
