-- What a command did to its streams, once it has ended. It opens its files one after another: the inputs, of which each is
-- read to its end before the next, and then the outputs, of which each is written before the next. After them comes the
-- report.
use Rattle.std.specs.Prelude.{◌≡◌, ℕ, ◌+◌, ◌<◌, ◌≤◌, ◌⊎◌, nat_lt, true, List, [], length, take, Option, IfSome, Result, Ok, Err}
use Rattle.std.specs.Io.KnownBytes.{IsAtEnd}
use Rattle.std.specs.List.{slice_index_or}
use Rattle.xsk_io.specs.Bay.{Adds, AddsNoneBut, Grows, GrowsByPart, IsOffered, Moment, Rose, Same, SameBut}
use Rattle.xsk_io.specs.declared.bay.Kind.{Kind}
use Rattle.xsk_io.specs.declared.bay.Kind.TheVariants.{Write}
use Rattle.xsk_io.specs.declared.bay.Stream.{Stream}
use Rattle.xsk_io.specs.declared.bay.Stream.TheVariants.{Input, Output, Report}
use Rattle.xsk_cli.specs.declared.status.Excess.TheVariants.{Input as TooLong}
use Rattle.xsk_cli.specs.declared.status.Status.{Status}
use Rattle.xsk_cli.specs.declared.status.Status.TheVariants.{Done, Usage, BadCapture, ReadFault, WriteFault, OpenFault, Refused, Stalled, TooMuch, OutOfMemory, NotLegal, BadPcapng}
use Rattle.xsk_cli.specs.declared.failure.Refusal.{Refusal}
use Rattle.xsk_cli.specs.declared.failure.Refusal.TheVariants.{Bare, Stall, Misfit}
use Rattle.xsk_cli.specs.Cause.{NeverFalls, Unchanged}
use Rattle.xsk_cli.specs.Line.{line_of}
use Rattle.xsk_cli.specs.Words.{Plan}

-- the name is the text, where the bay tells it; and so of what a stream holds
abbrev pub IsTold : Option (List ℕ) → List ℕ → Type 0
IsTold told text = IfSome told (λ bytes. bytes ≡ text)

-- a stream holds a front of a text, where the bay tells what it holds
abbrev pub IsFront : Option (List ℕ) → List ℕ → Type 0
IsFront told text = IfSome told (λ bytes. (n : ℕ) × (bytes ≡ take n text))

-- ---- how far a command came

-- how many of its inputs were opened and read to their ends, and how many outputs were opened and hold their whole texts
pub record Reach : Type 0 where
  pub inputs : ℕ
  pub ends : ℕ
  pub outputs : ℕ
  pub wholes : ℕ

-- it failed at an input or after the inputs, or at an output
abbrev pub at_input : ℕ → ℕ → Reach
at_input inputs ends = record { inputs = inputs; ends = ends; outputs = 0; wholes = 0 }

abbrev pub at_output : ℕ → ℕ → ℕ → Reach
at_output inputs outputs wholes = record { inputs = inputs; ends = inputs; outputs = outputs; wholes = wholes }

-- where its memory ran out: at an input or after the inputs
pub record RanOut (count : ℕ) (reach : Reach) : Type 0 where
  pub known : reach.inputs ≤ count
  pub ends : reach.ends ≤ reach.inputs
  pub last : reach.inputs ≤ reach.ends + 1
  pub outputs : reach.outputs ≡ 0
  pub wholes : reach.wholes ≡ 0

-- how far it came with a status, where it has so many inputs and outputs
abbrev pub Reaches : ℕ → ℕ → Status → Reach → Type 0
Reaches inputs outputs Done reach = reach ≡ at_output inputs outputs outputs
Reaches inputs outputs Usage reach = reach ≡ at_input 0 0
Reaches inputs outputs (BadCapture port cause) reach = reach ≡ at_input inputs inputs
Reaches inputs outputs (ReadFault port) reach = (port < inputs) × (reach ≡ at_input (port + 1) port)
Reaches inputs outputs (WriteFault (Input port)) reach = ⊥
Reaches inputs outputs (WriteFault (Output port)) reach = (port < outputs) × (reach ≡ at_output inputs (port + 1) port)
Reaches inputs outputs (WriteFault Report) reach = reach ≡ at_output inputs outputs outputs
Reaches inputs outputs (OpenFault (Input port)) reach = (port < inputs) × (reach ≡ at_input port port)
Reaches inputs outputs (OpenFault (Output port)) reach = (port < outputs) × (reach ≡ at_output inputs port port)
Reaches inputs outputs (OpenFault Report) reach = ⊥
Reaches inputs outputs (Refused unlawful) reach = reach ≡ at_input 0 0
Reaches inputs outputs (Stalled round) reach = reach ≡ at_input inputs inputs
Reaches inputs outputs (TooMuch (TooLong port)) reach = (port < inputs) × (reach ≡ at_input (port + 1) port)
Reaches inputs outputs (TooMuch excess) reach = reach ≡ at_input inputs inputs
Reaches inputs outputs OutOfMemory reach = RanOut inputs reach
Reaches inputs outputs (NotLegal line) reach = reach ≡ at_input inputs inputs
Reaches inputs outputs (BadPcapng cause) reach = reach ≡ at_input inputs inputs

-- ---- what the streams tell then

-- of the inputs with these names, so many are open, each by its own name, and so many of them were read to their ends,
-- with these bytes; the others are as they were
pub record AreRead (names bytes : List (List ℕ)) (opened ended : ℕ) (old new : Moment) : Type 0 where
  pub open_now : (port : ℕ) → new.is_open (Input port) ≡ nat_lt port opened
  pub asked : (port : ℕ) → port < opened → IsTold (new.asked (Input port)) (slice_index_or names port [])
  pub at_end : (port : ℕ) → port < ended → IsAtEnd (new.left (Input port))
  pub all : (port : ℕ) → port < ended → IsTold (old.left (Input port)) (slice_index_or bytes port [])
  pub later : (port : ℕ) → opened ≤ port → new.left (Input port) ≡ old.left (Input port)

-- of the outputs with these names, so many are open, each by its own name, and so many of them hold their whole texts; one
-- that is open and doesn't holds a front of its own; the others are as they were. To each that is open its text was offered
-- as one piece and then its rest, and nothing else; to the others nothing
pub record AreWritten (names texts : List (List ℕ)) (opened whole : ℕ) (old new : Moment) : Type 0 where
  pub open_now : (port : ℕ) → new.is_open (Output port) ≡ nat_lt port opened
  pub asked : (port : ℕ) → port < opened → IsTold (new.asked (Output port)) (slice_index_or names port [])
  pub wholes : (port : ℕ) → port < whole → IsTold (new.held (Output port)) (slice_index_or texts port [])
  pub fronts : (port : ℕ) → whole ≤ port → port < opened → IsFront (new.held (Output port)) (slice_index_or texts port [])
  pub later : (port : ℕ) → opened ≤ port → new.held (Output port) ≡ old.held (Output port)
  pub offered : (port : ℕ) → port < opened → IsOffered (old.offers (Output port)) (new.offers (Output port)) (length (slice_index_or texts port []))
  pub unoffered : (port : ℕ) → opened ≤ port → Adds (old.offers (Output port)) (new.offers (Output port)) []

-- no stream was touched but this input, and nothing was written; no count of faults fell
pub record Touched (one : Stream) (old new : Moment) : Type 0 where
  pub opened : SameBut one old.is_open new.is_open
  pub asked : SameBut one old.asked new.asked
  pub left : SameBut one old.left new.left
  pub held : SameBut one old.held new.held
  pub offers : Same old.offers new.offers
  pub falls : NeverFalls old.faults new.faults

-- this input is open, and was read to its end, with these bytes, of which it has no more than the most; nothing failed
pub record IsRead (most port : ℕ) (bytes : List ℕ) (old new : Moment) : Type 0 where
  pub open_now : new.is_open (Input port) ≡ true
  pub all : IsTold (old.left (Input port)) bytes
  pub short : length bytes ≤ most
  pub at_end : IsAtEnd (new.left (Input port))
  pub unchanged : Unchanged old.faults new.faults

-- no stream was touched but this output, and nothing was read; no count of faults fell
pub record Rewritten (one : Stream) (old new : Moment) : Type 0 where
  pub opened : SameBut one old.is_open new.is_open
  pub asked : SameBut one old.asked new.asked
  pub left : Same old.left new.left
  pub held : SameBut one old.held new.held
  pub offers : AddsNoneBut one old.offers new.offers
  pub falls : NeverFalls old.faults new.faults

-- this output is open, and holds its whole text, which was offered as one piece and then its rest; nothing failed
pub record IsWhole (port : ℕ) (text : List ℕ) (old new : Moment) : Type 0 where
  pub open_now : new.is_open (Output port) ≡ true
  pub whole : IsTold (new.held (Output port)) text
  pub offered : IsOffered (old.offers (Output port)) (new.offers (Output port)) (length text)
  pub unchanged : Unchanged old.faults new.faults

-- nothing was written to the report
abbrev pub IsSilent : Moment → Moment → Type 0
IsSilent old new = (new.held Report ≡ old.held Report) × Adds (old.offers Report) (new.offers Report) []

-- the report was offered its text as one piece, and then its rest, and got it or a front of it
abbrev pub IsReported : List ℕ → Status → Moment → Moment → Type 0
IsReported text Done old new = Grows (old.held Report) (new.held Report) text × IsOffered (old.offers Report) (new.offers Report) (length text)
IsReported text (WriteFault Report) old new =
    GrowsByPart (old.held Report) (new.held Report) text × IsOffered (old.offers Report) (new.offers Report) (length text)
IsReported text (WriteFault stream) old new = IsSilent old new
IsReported text status old new = Unit {0}

-- ---- nothing was opened

-- the words were refused, or the layout
abbrev pub IsAtOnce : Status → Type 0
IsAtOnce Usage = Unit {0}
IsAtOnce (Refused unlawful) = Unit {0}
IsAtOnce status = ⊥

-- ---- the line of a refusal

-- a status that is told in a line
abbrev pub HasLine : Status → Type 0
HasLine Done = ⊥
HasLine (WriteFault stream) = ⊥
HasLine status = Unit {0}

-- a write of the line
abbrev pub IsOfLine : Status → Kind → Stream → Type 0
IsOfLine status kind stream = HasLine status × (kind ≡ Write) × (stream ≡ Report)

-- the report was offered the line as one piece, and then its rest, and nothing else, and got it or, where a write failed, a
-- front of it
abbrev pub GotLine : List ℕ → Moment → Moment → Type 0
GotLine line old new =
    (Grows (old.held Report) (new.held Report) line
    ⊎ (GrowsByPart (old.held Report) (new.held Report) line × Rose (old.faults Write Report) (new.faults Write Report)))
    × IsOffered (old.offers Report) (new.offers Report) (length line)

-- ---- names

-- the file of a stream
abbrev pub name_of : Plan → Stream → List ℕ
name_of plan (Input port) = slice_index_or plan.inputs port []
name_of plan (Output port) = slice_index_or plan.outputs port []
name_of plan Report = []

-- the status of a refusal, and all that is told of it: the line of its status, or a text
abbrev pub refusal_status : Refusal → Status
refusal_status (Bare status) = status
refusal_status (Stall round text) = Stalled round
refusal_status (Misfit line text) = NotLegal line

abbrev pub refusal_text : Refusal → List ℕ
refusal_text (Bare status) = line_of status
refusal_text (Stall round text) = text.items
refusal_text (Misfit line text) = text.items

abbrev pub status_in : Result Unit Refusal → Status
status_in (Ok done) = Done
status_in (Err refusal) = refusal_status refusal

abbrev pub text_in : Result Unit Refusal → List ℕ
text_in (Ok done) = line_of Done
text_in (Err refusal) = refusal_text refusal
