use Rattle.std.proofs.Common.{◌≡◌, ◌+◌, ◌≤◌, ◌++◌, ℕ, List, [], length}
use Rattle.xsk_umem.specs.Frame.{Frame}
use Rattle.xsk_model.specs.Entry.{Entry}
use Rattle.xsk_audit.specs.Lines.{lines_of}
use Rattle.xsk_audit.specs.Telling.{AreTold}
use Rattle.xsk_audit.specs.Playing.{IsPlaying}
use Rattle.xsk_audit.proofs.playing.play_lines.Given as goal

abbrev pub invariant-loop-line : goal.invariant-loop-line
invariant-loop-line l = record {
  config : l.checked.config ≡ l.fn.checked.config;
  frames : List Frame;
  history : List Entry;
  made : List (List ℕ);
  playing : IsPlaying l.checked l.shelf frames history;
  lines : lines_of l.fn.text ≡ made ++ lines_of l.rest;
  says : AreTold (length l.checked.config.pairs) made history;
  short : l._line + length l.rest ≤ length l.fn.text;
  none_told : l.told ≡ [];
  none_left : l.items ≡ [];
}
