-- Which counts of faults have changed.
use Rattle.std.proofs.Common.{◌≡◌, ℕ, ◌≤◌, List, length, inl, inr, refl, sym, ap, ◌∙◌, subst, arith, ⊎_elim}
use Rattle.std.specs.Prelude.{◌≢◌, ◌⊎◌, Err, IfErr, Result}
use Rattle.std.proofs.lemmas.Bool.{cases_eq}
use Rattle.xsk_io.specs.Bay.{CountsOnly, Grows, GrowsByPart, Moment, Rose, Same}
use Rattle.xsk_io.proofs.Steps.{IsOffered-earlier, Rose-earlier, Rose-later}
use Rattle.xsk_io.specs.declared.bay.Kind.{Kind}
use Rattle.xsk_io.specs.declared.bay.Kind.TheVariants.{Open, Read, Write}
use Rattle.xsk_io.specs.declared.bay.Stream.{Stream}
use Rattle.xsk_io.specs.declared.bay.Stream.TheVariants.{Input, Output, Report}
use Rattle.xsk_cli.specs.Cause.{IsCaused, IsFault, NeverFalls, NoOthers, Unchanged}
use Rattle.xsk_cli.specs.Streams.{GotLine, HasLine, IsOfLine, IsSilent}
use Rattle.xsk_cli.specs.declared.status.Status.{Status}
use Rattle.xsk_cli.specs.declared.status.Status.TheVariants.{Done, Usage, BadCapture, ReadFault, WriteFault, OpenFault, Refused, Stalled, TooMuch, OutOfMemory, NotLegal, BadPcapng}

same_stream : (one other : Stream) → (other ≡ one) ⊎ (other ≢ one)
same_stream (Input n) (Input m) = ⊎_elim (λ (e : m ≡ n). inl (ap Input e)) (λ (ne : m ≡ n → ⊥). inr (λ e. ne (let i : m ≡ n = cc in i))) (cases_eq m n)
same_stream (Output n) (Output m) = ⊎_elim (λ (e : m ≡ n). inl (ap Output e)) (λ (ne : m ≡ n → ⊥). inr (λ e. ne (let i : m ≡ n = cc in i))) (cases_eq m n)
same_stream Report Report = inl refl
same_stream (Input n) (Output m) = inr (λ e. cc)
same_stream (Input n) Report = inr (λ e. cc)
same_stream (Output n) (Input m) = inr (λ e. cc)
same_stream (Output n) Report = inr (λ e. cc)
same_stream Report (Input m) = inr (λ e. cc)
same_stream Report (Output m) = inr (λ e. cc)

same_kind : (one other : Kind) → (other ≡ one) ⊎ (other ≢ one)
same_kind Open Open = inl refl
same_kind Read Read = inl refl
same_kind Write Write = inl refl
same_kind Open Read = inr (λ e. cc)
same_kind Open Write = inr (λ e. cc)
same_kind Read Open = inr (λ e. cc)
same_kind Read Write = inr (λ e. cc)
same_kind Write Open = inr (λ e. cc)
same_kind Write Read = inr (λ e. cc)

-- a call changes no count but its own
pub but_its_own : (kind : Kind) (stream : Stream) (old new : Kind → Stream → ℕ) → CountsOnly kind stream old new
    → (k : Kind) (s : Stream) → ((k ≡ kind) × (s ≡ stream) → ⊥) → new k s ≡ old k s
but_its_own kind stream old new counts k s other = ⊎_elim
    (λ (e : k ≡ kind). subst (λ j. new j s ≡ old j s) (sym e) (counts.1 s (λ i. other (e, i))))
    (λ (ne : k ≢ kind). counts.0 k ne s)
    (same_kind kind k)

-- and not its own either where it succeeds
pub none_of_it : (kind : Kind) (stream : Stream) (old new : Kind → Stream → ℕ) → CountsOnly kind stream old new → new kind stream ≡ old kind stream → Unchanged old new
none_of_it kind stream old new counts same k s = ⊎_elim
    (λ (e : k ≡ kind). ⊎_elim
    (λ (i : s ≡ stream). subst (λ j. new j s ≡ old j s) (sym e) (subst (λ t. new kind t ≡ old kind t) (sym i) same))
    (λ (ni : s ≢ stream). but_its_own kind stream old new counts k s (λ h. ni h.1))
    (same_stream stream s))
    (λ (ne : k ≢ kind). but_its_own kind stream old new counts k s (λ h. ne h.0))
    (same_kind kind k)

pub unchanged_then : (old mid new : Kind → Stream → ℕ) → Unchanged old mid → Unchanged mid new → Unchanged old new
unchanged_then old mid new first second kind stream = second kind stream ∙ first kind stream

pub no_others_then : (old mid new : Kind → Stream → ℕ) (status : Status) → Unchanged old mid → NoOthers mid new status → NoOthers old new status
no_others_then old mid new status first second kind stream other = second kind stream other ∙ first kind stream

-- no count falls by a call that lets its own not fall
pub never_falls_by : (kind : Kind) (stream : Stream) (old new : Kind → Stream → ℕ) → CountsOnly kind stream old new → old kind stream ≤ new kind stream → NeverFalls old new
never_falls_by kind stream old new counts low k s = ⊎_elim
    (λ (e : k ≡ kind). ⊎_elim
    (λ (i : s ≡ stream). subst (λ j. old j s ≤ new j s) (sym e) (subst (λ t. old kind t ≤ new kind t) (sym i) low))
    (λ (ni : s ≢ stream). omega (arith, but_its_own kind stream old new counts k s (λ h. ni h.1)))
    (same_stream stream s))
    (λ (ne : k ≢ kind). omega (arith, but_its_own kind stream old new counts k s (λ h. ne h.0)))
    (same_kind kind k)

pub never_falls_then : (old mid new : Kind → Stream → ℕ) → NeverFalls old mid → NeverFalls mid new → NeverFalls old new
never_falls_then old mid new first second kind stream = omega (arith, first kind stream, second kind stream)

-- an answer with such a failure
pub err_is : {A E : Type 0} (P : E → Type 0) (answer : Result A E) (failure : E) → answer ≡ Err failure → P failure → IfErr answer P
err_is P answer failure is met = subst (λ r. IfErr r P) (sym is) met

-- ---- and then the line of a refusal

has_line : (status : Status) → HasLine status ⊎ (HasLine status → ⊥)
has_line Done = inr (λ no. no)
has_line (WriteFault stream) = inr (λ no. no)
has_line Usage = inl tt
has_line (BadCapture port cause) = inl tt
has_line (ReadFault port) = inl tt
has_line (OpenFault stream) = inl tt
has_line (Refused unlawful) = inl tt
has_line (Stalled round) = inl tt
has_line (NotLegal line) = inl tt
has_line (TooMuch excess) = inl tt
has_line OutOfMemory = inl tt
has_line (BadPcapng cause) = inl tt

pub told_others : (old mid new : Kind → Stream → ℕ) (status : Status) → NoOthers old mid status → CountsOnly Write Report mid new → ((HasLine status → ⊥) → Unchanged mid new)
    → (kind : Kind) (stream : Stream) → (IsFault status kind stream → ⊥) → (IsOfLine status kind stream → ⊥) → new kind stream ≡ old kind stream
told_others old mid new status others counts silent kind stream fault line = ⊎_elim
    (λ (has : HasLine status). but_its_own Write Report mid new counts kind stream (λ h. line (has, h.0, h.1)) ∙ others kind stream fault)
    (λ (none : HasLine status → ⊥). silent none kind stream ∙ others kind stream fault)
    (has_line status)

-- the fault that was told stays told
pub caused_then : (old mid new : Kind → Stream → ℕ) (status : Status) → NeverFalls old mid → IsCaused old mid status → NeverFalls mid new → IsCaused old new status
caused_then old mid new Done low caused high = tt
caused_then old mid new Usage low caused high = tt
caused_then old mid new (BadCapture port cause) low caused high = tt
caused_then old mid new (ReadFault port) low caused high = Rose-later _ _ _ (low Read (Input port)) caused (high Read (Input port))
caused_then old mid new (WriteFault stream) low caused high = Rose-later _ _ _ (low Write stream) caused (high Write stream)
caused_then old mid new (OpenFault stream) low caused high = Rose-later _ _ _ (low Open stream) caused (high Open stream)
caused_then old mid new (Refused unlawful) low caused high = tt
caused_then old mid new (Stalled round) low caused high = tt
caused_then old mid new (NotLegal line) low caused high = tt
caused_then old mid new (TooMuch excess) low caused high = tt
caused_then old mid new OutOfMemory low caused high = tt
caused_then old mid new (BadPcapng cause) low caused high = tt

pub uncounted_then : (old mid new : Kind → Stream → ℕ) → ((kind : Kind) → Same (old kind) (mid kind)) → CountsOnly Write Report mid new → CountsOnly Write Report old new
uncounted_then old mid new same counts =
    (λ other differs stream. counts.0 other differs stream ∙ same other stream, λ stream differs. counts.1 stream differs ∙ same Write stream)

-- a line that comes after silence
pub line_then : (line : List ℕ) (old mid new : Moment) → NeverFalls old.faults mid.faults → IsSilent old mid → GotLine line mid new → GotLine line old new
line_then line old mid new low silent got = (grown got.0, IsOffered-earlier _ _ _ (length line) silent.1 got.1)
  where
    grown : Grows (mid.held Report) (new.held Report) line ⊎ (GrowsByPart (mid.held Report) (new.held Report) line × Rose (mid.faults Write Report) (new.faults Write Report))
        → Grows (old.held Report) (new.held Report) line ⊎ (GrowsByPart (old.held Report) (new.held Report) line × Rose (old.faults Write Report) (new.faults Write Report))
    grown (inl whole) = inl (subst (λ held. Grows held (new.held Report) line) silent.0 whole)
    grown (inr part) = inr (subst (λ held. GrowsByPart held (new.held Report) line) silent.0 part.0, Rose-earlier _ _ _ (low Write Report) part.1)
