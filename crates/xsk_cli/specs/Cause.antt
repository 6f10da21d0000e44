-- What comes of a fault: a count of its kind and stream has risen.
use Rattle.std.specs.Prelude.{◌≡◌, ℕ, ◌≤◌}
use Rattle.xsk_io.specs.Bay.{Rose}
use Rattle.xsk_io.specs.declared.bay.Stream.{Stream}
use Rattle.xsk_io.specs.declared.bay.Stream.TheVariants.{Input}
use Rattle.xsk_io.specs.declared.bay.Kind.{Kind}
use Rattle.xsk_io.specs.declared.bay.Kind.TheVariants.{Open, Read, Write}
use Rattle.xsk_cli.specs.declared.status.Status.{Status}
use Rattle.xsk_cli.specs.declared.status.Status.TheVariants.{ReadFault, WriteFault, OpenFault}

-- between two moments
abbrev pub IsCaused : (Kind → Stream → ℕ) → (Kind → Stream → ℕ) → Status → Type 0
IsCaused old new (ReadFault port) = Rose (old Read (Input port)) (new Read (Input port))
IsCaused old new (WriteFault stream) = Rose (old Write stream) (new Write stream)
IsCaused old new (OpenFault stream) = Rose (old Open stream) (new Open stream)
IsCaused old new status = Unit {0}

-- no count falls
abbrev pub NeverFalls : (Kind → Stream → ℕ) → (Kind → Stream → ℕ) → Type 0
NeverFalls old new = (kind : Kind) (stream : Stream) → old kind stream ≤ new kind stream

-- every count is as it was
abbrev pub Unchanged : (Kind → Stream → ℕ) → (Kind → Stream → ℕ) → Type 0
Unchanged old new = (kind : Kind) (stream : Stream) → new kind stream ≡ old kind stream

-- the fault that a status tells
abbrev pub IsFault : Status → Kind → Stream → Type 0
IsFault (ReadFault port) kind stream = (kind ≡ Read) × (stream ≡ Input port)
IsFault (WriteFault at) kind stream = (kind ≡ Write) × (stream ≡ at)
IsFault (OpenFault at) kind stream = (kind ≡ Open) × (stream ≡ at)
IsFault status kind stream = ⊥

-- and no other count has changed
abbrev pub NoOthers : (Kind → Stream → ℕ) → (Kind → Stream → ℕ) → Status → Type 0
NoOthers old new status = (kind : Kind) (stream : Stream) → (IsFault status kind stream → ⊥) → new kind stream ≡ old kind stream
