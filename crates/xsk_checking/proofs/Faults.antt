-- Which counts of faults have changed.
use Rattle.std.proofs.Common.{◌≡◌, ℕ, inl, inr, refl, sym, ap, ◌∙◌, subst, ⊎_elim}
use Rattle.std.specs.Prelude.{◌≢◌, ◌⊎◌}
use Rattle.std.proofs.lemmas.Bool.{cases_eq}
use Rattle.xsk_io.specs.Bay.{CountsOnly, Rose, Same}
use Rattle.xsk_io.specs.declared.bay.Kind.{Kind}
use Rattle.xsk_io.specs.declared.bay.Kind.TheVariants.{Open, Read, Write}
use Rattle.xsk_io.specs.declared.bay.Stream.{Stream}
use Rattle.xsk_io.specs.declared.bay.Stream.TheVariants.{Input, Output, Report}
use Rattle.xsk_checking.specs.Ending.{FailsReading}
use Rattle.xsk_checking.specs.declared.end.Failure.{Failure}
use Rattle.xsk_checking.specs.declared.end.Failure.TheVariants.{Unopened, Unread, OutOfMemory}

same-stream : (one other : Stream) → (other ≡ one) ⊎ (other ≢ one)
same-stream (Input n) (Input m) = ⊎_elim (λ (e : m ≡ n). inl (ap Input e)) (λ (ne : m ≡ n → ⊥). inr (λ e. ne (let i : m ≡ n = cc in i))) (cases_eq m n)
same-stream (Output n) (Output m) = ⊎_elim (λ (e : m ≡ n). inl (ap Output e)) (λ (ne : m ≡ n → ⊥). inr (λ e. ne (let i : m ≡ n = cc in i))) (cases_eq m n)
same-stream Report Report = inl refl
same-stream (Input n) (Output m) = inr (λ e. cc)
same-stream (Input n) Report = inr (λ e. cc)
same-stream (Output n) (Input m) = inr (λ e. cc)
same-stream (Output n) Report = inr (λ e. cc)
same-stream Report (Input m) = inr (λ e. cc)
same-stream Report (Output m) = inr (λ e. cc)

same-kind : (one other : Kind) → (other ≡ one) ⊎ (other ≢ one)
same-kind Open Open = inl refl
same-kind Read Read = inl refl
same-kind Write Write = inl refl
same-kind Open Read = inr (λ e. cc)
same-kind Open Write = inr (λ e. cc)
same-kind Read Open = inr (λ e. cc)
same-kind Read Write = inr (λ e. cc)
same-kind Write Open = inr (λ e. cc)
same-kind Write Read = inr (λ e. cc)

abbrev pub Unchanged : (Kind → Stream → ℕ) → (Kind → Stream → ℕ) → Type 0
Unchanged old new = (kind : Kind) → Same (old kind) (new kind)

-- a call changes no count but its own
pub but-its-own : (kind : Kind) (stream : Stream) (old new : Kind → Stream → ℕ) → CountsOnly kind stream old new
    → (k : Kind) (s : Stream) → ((k ≡ kind) × (s ≡ stream) → ⊥) → new k s ≡ old k s
but-its-own kind stream old new counts k s other = ⊎_elim
    (λ (e : k ≡ kind). subst (λ j. new j s ≡ old j s) (sym e) (counts.1 s (λ i. other (e, i))))
    (λ (ne : k ≢ kind). counts.0 k ne s)
    (same-kind kind k)

-- and not its own either where it succeeds
pub none-of-it : (kind : Kind) (stream : Stream) (old new : Kind → Stream → ℕ) → CountsOnly kind stream old new → new kind stream ≡ old kind stream → Unchanged old new
none-of-it kind stream old new counts same k s = ⊎_elim
    (λ (e : k ≡ kind). ⊎_elim
    (λ (i : s ≡ stream). subst (λ j. new j s ≡ old j s) (sym e) (subst (λ t. new kind t ≡ old kind t) (sym i) same))
    (λ (ni : s ≢ stream). but-its-own kind stream old new counts k s (λ h. ni h.1))
    (same-stream stream s))
    (λ (ne : k ≢ kind). but-its-own kind stream old new counts k s (λ h. ne h.0))
    (same-kind kind k)

pub unchanged-then : (old mid new : Kind → Stream → ℕ) → Unchanged old mid → Unchanged mid new → Unchanged old new
unchanged-then old mid new first second kind stream = second kind stream ∙ first kind stream

-- ---- why the file wasn't read

rose-there : (kind : Kind) (stream : Stream) (old new : Kind → Stream → ℕ) → Rose (old kind stream) (new kind stream) → (k : Kind) (s : Stream)
    → (k ≡ kind) × (s ≡ stream) → Rose (old k s) (new k s)
rose-there kind stream old new rose k s is =
    subst (λ j. Rose (old j s) (new j s)) (sym is.0) (subst (λ t. Rose (old kind t) (new kind t)) (sym is.1) rose)

pub fails-unread : (old new : Kind → Stream → ℕ) → CountsOnly Read (Input 0) old new → Rose (old Read (Input 0)) (new Read (Input 0)) → FailsReading old new Unread
fails-unread old new counts rose = record {
  cause = rose-there Read (Input 0) old new rose;
  others = but-its-own Read (Input 0) old new counts;
  not_words = λ e. cc e;
  not_report = λ e. cc e;
}

pub fails-unopened : (old new : Kind → Stream → ℕ) → CountsOnly Open (Input 0) old new → Rose (old Open (Input 0)) (new Open (Input 0)) → FailsReading old new Unopened
fails-unopened old new counts rose = record {
  cause = rose-there Open (Input 0) old new rose;
  others = but-its-own Open (Input 0) old new counts;
  not_words = λ e. cc e;
  not_report = λ e. cc e;
}

pub fails-memory : (old new : Kind → Stream → ℕ) → Unchanged old new → FailsReading old new OutOfMemory
fails-memory old new same = record { cause = λ kind stream is. absurd is; others = λ kind stream none. same kind stream; not_words = λ e. cc e; not_report = λ e. cc e }

-- where nothing had failed before
pub fails-later : (old mid new : Kind → Stream → ℕ) (failure : Failure) → Unchanged old mid → FailsReading mid new failure → FailsReading old new failure
fails-later old mid new failure same fails = record {
  cause = λ kind stream is. subst (λ n. Rose n (new kind stream)) (same kind stream) (fails.cause kind stream is);
  others = λ kind stream none. fails.others kind stream none ∙ same kind stream;
  not_words = fails.not_words;
  not_report = fails.not_report;
}
