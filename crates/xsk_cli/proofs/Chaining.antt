-- What the steps of a command say one after another of a status.
use Rattle.std.proofs.Common.{◌≡◌, ℕ, List, [], sym, subst}
use Rattle.xsk_io.specs.Bay.{Adds, Moment, Same}
use Rattle.xsk_io.specs.declared.bay.Kind.{Kind}
use Rattle.xsk_io.specs.declared.bay.Kind.TheVariants.{Open, Read, Write}
use Rattle.xsk_io.specs.declared.bay.Stream.{Stream}
use Rattle.xsk_io.specs.declared.bay.Stream.TheVariants.{Input, Report}
use Rattle.xsk_io.proofs.Steps.{Adds-none, Rose-earlier}
use Rattle.xsk_cli.specs.Cause.{IsCaused, NeverFalls}
use Rattle.xsk_cli.specs.Outcome.{Written}
use Rattle.xsk_cli.specs.Steps.{FailsWriting, read_status, run_refusal, write_status}
use Rattle.xsk_cli.specs.Streams.{HasLine, IsAtOnce, IsSilent, refusal_status}
use Rattle.xsk_cli.specs.declared.failure.ReadFailure.{ReadFailure}
use Rattle.xsk_cli.specs.declared.failure.ReadFailure.TheVariants.{Unopened as NoInput, Unread, TooLong, OutOfMemory as NoRoom}
use Rattle.xsk_cli.specs.declared.failure.RunFailure.{RunFailure}
use Rattle.xsk_cli.specs.declared.failure.RunFailure.TheVariants.{BadCapture as Bad, TooMuch as Excessive, Stalled as Stalls, Explained, OutOfMemory as NoMemory, NotLegal as Breaks, Reasoned, BadPcapng as BadFile}
use Rattle.xsk_cli.specs.declared.failure.WriteFailure.{WriteFailure}
use Rattle.xsk_cli.specs.declared.failure.WriteFailure.TheVariants.{Unopened, Unwritten}
use Rattle.xsk_cli.specs.declared.status.Status.{Status}
use Rattle.xsk_cli.specs.declared.status.Status.TheVariants.{Done, Usage, BadCapture, ReadFault, WriteFault, OpenFault, Refused, Stalled, TooMuch, OutOfMemory, NotLegal, BadPcapng}

-- ---- a step that fails comes after the words were taken

pub read_begun : (failure : ReadFailure) → IsAtOnce (read_status failure) → ⊥
read_begun (NoInput port) at_once = at_once
read_begun (Unread port) at_once = at_once
read_begun (TooLong port) at_once = at_once
read_begun NoRoom at_once = at_once

pub run_begun : (failure : RunFailure) → IsAtOnce (refusal_status (run_refusal failure)) → ⊥
run_begun (Bad port cause) at_once = at_once
run_begun (Excessive excess) at_once = at_once
run_begun (Stalls round) at_once = at_once
run_begun (Explained round text) at_once = at_once
run_begun NoMemory at_once = at_once
run_begun (Breaks line) at_once = at_once
run_begun (Reasoned line text) at_once = at_once
run_begun (BadFile cause) at_once = at_once

pub write_begun : (failure : WriteFailure) → IsAtOnce (write_status failure) → ⊥
write_begun (Unopened port) at_once = at_once
write_begun (Unwritten stream) at_once = at_once

-- ---- the report

pub silent_by : (old new : Moment) → new.held Report ≡ old.held Report → Same old.offers new.offers → IsSilent old new
silent_by old new held offers = (held, subst (λ o. Adds (old.offers Report) o []) (sym (offers Report)) (Adds-none (old.offers Report)))

-- a failure to write that is told in a line left the report as it was
pub unwritten_silent : (names : List (List ℕ)) (texts : Written) (old new : Moment) (failure : WriteFailure) → FailsWriting names texts old new failure → HasLine (write_status failure) → IsSilent old new
unwritten_silent names texts old new (Unopened port) fails has = fails.1
unwritten_silent names texts old new (Unwritten stream) fails has = absurd has

-- ---- causes

pub run_caused : (old new : Kind → Stream → ℕ) (failure : RunFailure) → IsCaused old new (refusal_status (run_refusal failure))
run_caused old new (Bad port cause) = tt
run_caused old new (Excessive excess) = tt
run_caused old new (Stalls round) = tt
run_caused old new (Explained round text) = tt
run_caused old new NoMemory = tt
run_caused old new (Breaks line) = tt
run_caused old new (Reasoned line text) = tt
run_caused old new (BadFile cause) = tt

-- a fault that was told is one since an earlier moment too
pub caused_since : (old mid new : Kind → Stream → ℕ) (status : Status) → NeverFalls old mid → IsCaused mid new status → IsCaused old new status
caused_since old mid new Done low caused = tt
caused_since old mid new Usage low caused = tt
caused_since old mid new (BadCapture port cause) low caused = tt
caused_since old mid new (ReadFault port) low caused = Rose-earlier _ _ _ (low Read (Input port)) caused
caused_since old mid new (WriteFault stream) low caused = Rose-earlier _ _ _ (low Write stream) caused
caused_since old mid new (OpenFault stream) low caused = Rose-earlier _ _ _ (low Open stream) caused
caused_since old mid new (Refused unlawful) low caused = tt
caused_since old mid new (Stalled round) low caused = tt
caused_since old mid new (NotLegal line) low caused = tt
caused_since old mid new (TooMuch excess) low caused = tt
caused_since old mid new OutOfMemory low caused = tt
caused_since old mid new (BadPcapng cause) low caused = tt
