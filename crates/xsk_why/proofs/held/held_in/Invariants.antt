use Rattle.std.proofs.Common.{◌≡◌, ℕ, drop}
use Rattle.std.specs.List.{fold}
use Rattle.xsk_model.specs.Entry.{own}
use Rattle.xsk_model.specs.Own.{had_of, had_step}
use Rattle.xsk_log.specs.Left.{left_of}
use Rattle.xsk_why.specs.KeptFrames.{had_by}
use Rattle.xsk_why.proofs.held.held_in.Given as goal

abbrev pub invariant-loop-i : goal.invariant-loop-i
invariant-loop-i l = record {
  left : left_of l.lines ≡ drop l.i l.plain.log;
  held : (w : ℕ) → fold had_step (had_by w l.held.items) (own w (drop l.i l.plain.log)) ≡ had_of (own w l.plain.log);
}
