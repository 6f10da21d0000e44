use Rattle.std.proofs.Common.{◌≡◌, ◌+◌, ◌≤◌, ◌++◌, List, [], length, map}
use Rattle.xsk_umem.specs.Frame.{Frame}
use Rattle.xsk_audit.specs.Lines.{lines_of}
use Rattle.xsk_audit.specs.Playing.{IsPlaying}
use Rattle.xsk_audit.specs.Telling.{Timed, entries, journal_line, NeverFalls, last_of}
use Rattle.xsk_audit.proofs.why.follow.Given as goal

abbrev pub invariant-loop-line : goal.invariant-loop-line
invariant-loop-line l = record {
  config : l.checked.config ≡ l.fn.checked.config;
  frames : List Frame;
  timed : List Timed;
  playing : IsPlaying l.checked l.shelf frames (entries timed);
  calls : l.checked.calls ≡ length (entries timed);
  lines : lines_of l.fn.text ≡ map (journal_line (length l.checked.config.pairs)) timed ++ lines_of l.rest;
  rounds : NeverFalls 0 timed;
  last : last_of 0 timed ≡ l.least;
  count : l.same ≡ length timed;
  passed : l.same ≡ l._line;
  short : l._line + length l.rest ≤ length l.fn.text;
  none_told : l.told ≡ [];
}
