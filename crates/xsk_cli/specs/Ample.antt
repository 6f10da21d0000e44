-- Where no run stalls: each ring has 32 entries or more, each pool 18 frames or more, no socket is closed, and applications change nothing. A batch has 32
-- items, and a packet 18 frames, at most. The numbers are this project's own.
use Rattle.std.specs.Prelude.{◌≡◌, ℕ, ◌≤◌, List, Option, Some, None}
use Rattle.xsk_turns.specs.Mangling.{plain}
use Rattle.xsk_socket.specs.Layout.{pool_in}
use Rattle.xsk_socket.specs.declared.layout.Layout.{Layout}
use Rattle.xsk_cli.specs.Ends.{AreTaken, AreTold, NoneRose}
use Rattle.xsk_cli.specs.Outcome.{IsOnPackets}
use Rattle.xsk_io.specs.Bay.{Moment}
use Rattle.xsk_cli.specs.Words.{Plan, fault_in}
use Rattle.xsk_cli.specs.declared.words.Work.{Work}
use Rattle.xsk_cli.specs.declared.words.Work.TheVariants.{Simulate, Generate, Audit}
use Rattle.xsk_cli.specs.declared.status.Status.{Status}
use Rattle.xsk_cli.specs.declared.status.Status.TheVariants.{Done, Stalled, OutOfMemory, NotLegal}

pub record IsAmple (layout : Layout) : Type 0 where
  pub rx : 32 ≤ layout.rx
  pub tx : 32 ≤ layout.tx
  pub fill : 32 ≤ layout.fill
  pub comp : 32 ≤ layout.comp
  pub pool : 18 ≤ pool_in layout

-- with such a layout that closes no socket and applications that change nothing, or without a run
abbrev pub HasAmple : Work → Type 0
HasAmple (Simulate layout programs wire manner order number telling format) = (manner ≡ plain) × (layout.close ≡ None) × IsAmple layout
HasAmple (Generate number) = Unit {0}
HasAmple (Audit layout why) = Unit {0}

-- no run stalls
abbrev pub GoesOn : Option Plan → Status → Type 0
GoesOn planned status = (plan : Plan) (round : ℕ) → planned ≡ Some plan → fault_in plan.work ≡ None → HasAmple plan.work → status ≡ Stalled round → ⊥

-- so where nothing was refused and nothing failed, there are texts, or there was no memory, or a journal that was audited isn't
-- legal
abbrev pub IsFinished : Work → Status → Type 0
IsFinished work Done = Unit {0}
IsFinished work OutOfMemory = Unit {0}
IsFinished work (NotLegal line) = IsOnPackets work → ⊥
IsFinished work status = ⊥

abbrev pub Finishes : Option Plan → Moment → Moment → Status → Type 0
Finishes planned old new status = (plan : Plan) (inputs : List (List ℕ)) → planned ≡ Some plan → fault_in plan.work ≡ None → HasAmple plan.work
    → AreTold plan inputs old → AreTaken plan.work inputs → NoneRose old.faults new.faults → IsFinished plan.work status
