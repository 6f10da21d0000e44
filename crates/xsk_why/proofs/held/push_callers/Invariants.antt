use Rattle.std.proofs.Common.{◌≡◌, ◌++◌, ℕ, List}
use Rattle.xsk_model.specs.Entry.{Entry, own}
use Rattle.xsk_model.specs.Own.{had_of}
use Rattle.xsk_why.specs.KeptFrames.{had_by}
use Rattle.xsk_why.specs.Held.{lines_to}
use Rattle.xsk_why.proofs.held.push_callers.Given as goal

abbrev pub invariant-loop-who : goal.invariant-loop-who
invariant-loop-who l =
    (h : List Entry) → ((who : ℕ) → had_by who l.held ≡ had_of (own who h)) → l.text.items ≡ l.initial.text.items ++ lines_to l.pairs h l.who
