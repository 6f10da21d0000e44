use Rattle.std.proofs.Common.{◌≡◌, ◌++◌, take}
use Rattle.xsk_audit.specs.Lines.{lines_of}
use Rattle.xsk_audit.specs.Reasons.{frames_text}
use Rattle.xsk_audit.specs.Shelf.{descs_of}
use Rattle.xsk_audit.proofs.reasons.push_frames.Given as goal

abbrev pub invariant-loop-i : goal.invariant-loop-i
invariant-loop-i l = l.out.items ≡ l.initial.out.items ++ frames_text l.geometry (take l.before.count (lines_of l.before.text.now)) (take l.i (descs_of l.told))
