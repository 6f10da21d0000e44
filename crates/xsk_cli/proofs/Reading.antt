-- The inputs, read one after another.
use Rattle.std.proofs.Common.{◌≡◌, ℕ, ◌+◌, ◌<◌, ◌≤◌, ltb, true, false, List, [], ◌∷◌, ◌++◌, length, get_or, map, refl, sym, ap, ◌∙◌, subst, ⊎_elim, inl, inr, arith, length-append, Option, Some}
use Rattle.std.specs.Prelude.{◌≢◌, ◌⊎◌, IfSome, IfErr, Result, Ok, Err}
use Rattle.std.specs.Io.KnownBytes.{IsAtEnd}
use Rattle.std.proofs.lemmas.Bool.{cases_eq}
use Rattle.std.proofs.lemmas.List.{get_or-map, length-map}
use Rattle.xsk_io.specs.Bay.{Adds, CountsOnly, Rose, Same, SameBut, Moment}
use Rattle.xsk_io.proofs.Steps.{Adds-none, Rose-earlier, Same-then, SameBut-then}
use Rattle.xsk_io.specs.declared.bay.Kind.{Kind}
use Rattle.xsk_io.specs.declared.bay.Kind.TheVariants.{Open, Read}
use Rattle.xsk_io.specs.declared.whole.ReadError.{ReadError}
use Rattle.xsk_io.specs.declared.whole.ReadError.TheVariants.{TooLong as Long, Fault as Faulted, OutOfMemory as OutOfRoom}
use Rattle.xsk_io.specs.declared.bay.Stream.{Stream}
use Rattle.xsk_io.specs.declared.bay.Stream.TheVariants.{Input, Output, Report}
use Rattle.xsk_cli.specs.Cause.{IsCaused, NeverFalls, NoOthers, Unchanged}
use Rattle.xsk_cli.specs.Ends.{ComesOf, Ends}
use Rattle.xsk_cli.specs.Outcome.{Written}
use Rattle.xsk_cli.specs.Streams.{IsTold, at_input, Reaches, AreRead, AreWritten, IsReported, Touched, name_of}
use Rattle.xsk_cli.specs.Steps.{FailsReading, HaveRead, args_status, read_status, unread_by}
use Rattle.xsk_args.specs.declared.error.ArgsError.{ArgsError}
use Rattle.xsk_args.specs.declared.error.ArgsError.TheVariants.{Usage as IsUsage, OutOfMemory as ArgsMemory}
use Rattle.xsk_cli.specs.Words.{Plan, fault_in, most_of}
use Rattle.xsk_socket.specs.declared.layout.Unlawful.{Unlawful}
use Rattle.xsk_cli.specs.declared.failure.ReadFailure.{ReadFailure}
use Rattle.xsk_cli.specs.declared.failure.ReadFailure.TheVariants.{Unopened, Unread, TooLong, OutOfMemory as NoRoom}
use Rattle.xsk_cli.specs.declared.status.Excess.TheVariants.{Input as LongInput}
use Rattle.xsk_cli.specs.declared.status.Status.{Status}
use Rattle.xsk_cli.specs.declared.status.Status.TheVariants.{Usage, ReadFault, OpenFault, Refused, TooMuch, OutOfMemory}
use Rattle.xsk_cli.proofs.Counting.{but_its_own, never_falls_by, never_falls_then, none_of_it}
use Rattle.xsk_cli.proofs.Ports.{step, push_each, none_below, not_below_itself, below_next, below_as_before}

pub asked_only : (one : Stream) (old new : Moment) → SameBut one old.is_open new.is_open → SameBut one old.asked new.asked → Same old.left new.left → SameBut one old.held new.held → Same old.offers new.offers
    → CountsOnly Open one old.faults new.faults → old.faults Open one ≤ new.faults Open one → Touched one old new
asked_only one old new opened asked left held offers counts low = record {
  opened = opened;
  asked = asked;
  left = λ stream other. left stream;
  held = held;
  offers = offers;
  falls = never_falls_by Open one old.faults new.faults counts low;
}

-- and then read
pub Touched-then : (one : Stream) (old mid new : Moment) → Touched one old mid → Same mid.is_open new.is_open → Same mid.asked new.asked → SameBut one mid.left new.left → Same mid.held new.held → Same mid.offers new.offers
    → NeverFalls mid.faults new.faults → Touched one old new
Touched-then one old mid new first opened asked left held offers falls = record {
  opened = λ stream other. opened stream ∙ first.opened stream other;
  asked = λ stream other. asked stream ∙ first.asked stream other;
  left = SameBut-then one old.left mid.left new.left first.left left;
  held = λ stream other. held stream ∙ first.held stream other;
  offers = Same-then old.offers mid.offers new.offers first.offers offers;
  falls = never_falls_then old.faults mid.faults new.faults first.falls falls;
}

-- ---- an open input that wasn't read to its end

kept_else : {A P : Type 0} (answer : Result A ReadError) (error : ReadError) → answer ≡ Err error → (error ≡ Faulted → ⊥) → (answer ≡ Err Faulted) ⊎ P → P
kept_else answer error is other (inl fault) = absurd (other (let e : error ≡ Faulted = cc in e))
kept_else answer error is other (inr kept) = kept

pub kept_by : {A P : Type 0} (answer : Result A ReadError) (bytes : A) → answer ≡ Ok bytes → (answer ≡ Err Faulted) ⊎ P → P
kept_by answer bytes is (inl fault) = absurd (let no : ⊥ = cc in no)
kept_by answer bytes is (inr kept) = kept

pub unread_fails : {A : Type 0} (most port : ℕ) (old mid new : Moment) (answer : Result A ReadError) (error : ReadError) → answer ≡ Err error → new.is_open (Input port) ≡ true → mid.left (Input port) ≡ old.left (Input port)
    → (answer ≡ Err Long → IfSome (mid.left (Input port)) (λ all. most < length all)) → old.faults Read (Input port) ≤ mid.faults Read (Input port)
    → (answer ≡ Err Faulted → Rose (mid.faults Read (Input port)) (new.faults Read (Input port))) → FailsReading most port old new (unread_by port error)
unread_fails most port old mid new answer Long is is_open same long low caused = (refl, is_open, subst (λ l. IfSome l (λ all. most < length all)) same (long is))
unread_fails most port old mid new answer Faulted is is_open same long low caused = (refl, is_open, Rose-earlier _ _ _ low (caused is))
unread_fails most port old mid new answer OutOfRoom is is_open same long low caused = is_open

pub unread_others : {A : Type 0} (port : ℕ) (old mid new : Kind → Stream → ℕ) (answer : Result A ReadError) (error : ReadError) → answer ≡ Err error → Unchanged old mid → CountsOnly Read (Input port) mid new
    → (answer ≡ Err Faulted) ⊎ (new Read (Input port) ≡ mid Read (Input port)) → NoOthers old new (read_status (unread_by port error))
unread_others port old mid new answer Long is first counts kept kind stream other =
    none_of_it Read (Input port) mid new counts (kept_else answer Long is (λ e. cc) kept) kind stream ∙ first kind stream
unread_others port old mid new answer Faulted is first counts kept kind stream other = but_its_own Read (Input port) mid new counts kind stream other ∙ first kind stream
unread_others port old mid new answer OutOfRoom is first counts kept kind stream other =
    none_of_it Read (Input port) mid new counts (kept_else answer OutOfRoom is (λ e. cc) kept) kind stream ∙ first kind stream

pub other_input : (port n : ℕ) → (port ≡ n → ⊥) → Input port ≢ Input n
other_input port n h e = h (let i : port ≡ n = cc in i)

pub lower_input : (port n : ℕ) → port < n → Input port ≢ Input n
lower_input port n h = other_input port n (λ e. omega (arith, e, h))

pub higher_input : (port n : ℕ) → n + 1 ≤ port → Input port ≢ Input n
higher_input port n h = other_input port n (λ e. omega (arith, e, h))

output_is_no_input : (port n : ℕ) → Output port ≢ Input n
output_is_no_input port n e = cc

report_is_no_input : (n : ℕ) → Report ≢ Input n
report_is_no_input n e = cc

-- ---- one more input

module _ (most : ℕ) (names bytes : List (List ℕ)) (n : ℕ) (old mid new : Moment) (have : HaveRead most names bytes n old mid) (touched : Touched (Input n) mid new) (told : IsTold (new.asked (Input n)) (get_or names n [])) where
  open_more : new.is_open (Input n) ≡ true → (port : ℕ) → new.is_open (Input port) ≡ ltb port (n + 1)
  open_more is_open port = ⊎_elim
      (λ (e : port ≡ n). subst (λ k. new.is_open (Input k) ≡ true) (sym e) is_open ∙ below_next n port e)
      (λ (ne : port ≡ n → ⊥). touched.opened (Input port) (other_input port n ne) ∙ have.reads.open_now port ∙ below_as_before n port ne)
      (cases_eq port n)

  open_same : new.is_open (Input n) ≡ false → (port : ℕ) → new.is_open (Input port) ≡ ltb port n
  open_same closed port = ⊎_elim
      (λ (e : port ≡ n). subst (λ k. new.is_open (Input k) ≡ false) (sym e) closed ∙ not_below_itself n port e)
      (λ (ne : port ≡ n → ⊥). touched.opened (Input port) (other_input port n ne) ∙ have.reads.open_now port)
      (cases_eq port n)

  asked_before : (port : ℕ) → port < n → IsTold (new.asked (Input port)) (get_or names port [])
  asked_before port h = subst (λ a. IsTold a (get_or names port [])) (sym (touched.asked (Input port) (lower_input port n h))) (have.reads.asked port h)

  asked_more : (port : ℕ) → port < n + 1 → IsTold (new.asked (Input port)) (get_or names port [])
  asked_more = step (λ port. IsTold (new.asked (Input port)) (get_or names port [])) n asked_before told

  at_end_before : (port : ℕ) → port < n → IsAtEnd (new.left (Input port))
  at_end_before port h = subst IsAtEnd (sym (touched.left (Input port) (lower_input port n h))) (have.reads.at_end port h)

  later_more : (port : ℕ) → n + 1 ≤ port → new.left (Input port) ≡ old.left (Input port)
  later_more port h = touched.left (Input port) (higher_input port n h) ∙ have.reads.later port (omega (arith, h))

  outputs_closed : (port : ℕ) → new.is_open (Output port) ≡ false
  outputs_closed port = touched.opened (Output port) (output_is_no_input port n) ∙ have.outputs port

  outputs_held : (port : ℕ) → new.held (Output port) ≡ old.held (Output port)
  outputs_held port = touched.held (Output port) (output_is_no_input port n) ∙ have.held port

  outputs_offers : Same old.offers new.offers
  outputs_offers stream = touched.offers stream ∙ have.offers stream

  pub read_more : (text : List ℕ) → new.is_open (Input n) ≡ true → IsTold (mid.left (Input n)) text → length text ≤ most → IsAtEnd (new.left (Input n))
      → HaveRead most names (bytes ++ text ∷ []) (n + 1) old new
  read_more text is_open is short at_end = record {
    count_is = length-append bytes (text ∷ []) ∙ ap (λ k. k + 1) have.count_is;
    short = push_each (λ port b. length b ≤ most) [] bytes text n have.count_is have.short short;
    reads = record {
      open_now = open_more is_open;
      asked = asked_more;
      at_end = step (λ port. IsAtEnd (new.left (Input port))) n at_end_before at_end;
      all = push_each (λ port b. IsTold (old.left (Input port)) b) [] bytes text n have.count_is have.reads.all (subst (λ l. IsTold l text) (have.reads.later n (omega arith)) is);
      later = later_more;
    };
    outputs = outputs_closed;
    held = outputs_held;
    report = touched.held Report (report_is_no_input n) ∙ have.report;
    offers = outputs_offers;
  }

  -- it is open, and wasn't read to its end
  unread : new.is_open (Input n) ≡ true → AreRead names bytes (n + 1) n old new
  unread is_open = record { open_now = open_more is_open; asked = asked_more; at_end = at_end_before; all = have.reads.all; later = later_more }

  later_same : new.left (Input n) ≡ mid.left (Input n) → (port : ℕ) → n ≤ port → new.left (Input port) ≡ old.left (Input port)
  later_same left port h = ⊎_elim
      (λ (e : port ≡ n). subst (λ k. new.left (Input k) ≡ mid.left (Input k)) (sym e) left ∙ have.reads.later port h)
      (λ (ne : port ≡ n → ⊥). touched.left (Input port) (other_input port n ne) ∙ have.reads.later port h)
      (cases_eq port n)

  -- it isn't open
  unopened : new.is_open (Input n) ≡ false → new.left (Input n) ≡ mid.left (Input n) → AreRead names bytes n n old new
  unopened closed left = record { open_now = open_same closed; asked = asked_before; at_end = at_end_before; all = have.reads.all; later = later_same left }

abbrev no_texts : Written
no_texts = record { outputs = []; report = [] }

pub none_written : (names texts : List (List ℕ)) (old new : Moment) → ((port : ℕ) → new.is_open (Output port) ≡ false) → ((port : ℕ) → new.held (Output port) ≡ old.held (Output port))
    → Same old.offers new.offers → AreWritten names texts 0 0 old new
none_written names texts old new closed held offers = record {
  open_now = λ port. closed port ∙ none_below port;
  asked = λ port h. absurd (omega (arith, h));
  wholes = λ port h. absurd (omega (arith, h));
  fronts = λ port h l. absurd (omega (arith, l));
  later = λ port h. held port;
  offered = λ port h. absurd (omega (arith, h));
  unoffered = λ port h. subst (λ o. Adds (old.offers (Output port)) o []) (sym (offers (Output port))) (Adds-none (old.offers (Output port)));
}

-- ---- how it ends

module _ (plan : Plan) (bytes : List (List ℕ)) (n : ℕ) (old mid new : Moment) (have : HaveRead (most_of plan.work) plan.inputs bytes n old mid) (known : n < length plan.inputs) (touched : Touched (Input n) mid new)
    (told : IsTold (new.asked (Input n)) (get_or plan.inputs n [])) where
  writes : AreWritten plan.outputs [] 0 0 old new
  writes = none_written plan.outputs [] old new (outputs_closed (most_of plan.work) plan.inputs bytes n old mid new have touched told) (outputs_held (most_of plan.work) plan.inputs bytes n old mid new have touched told)
      (outputs_offers (most_of plan.work) plan.inputs bytes n old mid new have touched told)

  ends_unopened : new.is_open (Input n) ≡ false → new.left (Input n) ≡ mid.left (Input n) → Ends plan old new (OpenFault (Input n))
  ends_unopened closed left = record {
    inputs = bytes;
    texts = no_texts;
    reach = at_input n n;
    reaches = (known, refl);
    count = have.count_is;
    short = have.short;
    reads = unopened (most_of plan.work) plan.inputs bytes n old mid new have touched told closed left;
    writes = writes;
    reported = tt;
    asked = λ stream e. subst (λ s. IsTold (new.asked s) (name_of plan s)) (let i : Input n ≡ stream = cc in i) told;
    comes = tt;
  }

  ends_unread : (status : Status) → new.is_open (Input n) ≡ true → Reaches (length plan.inputs) (length plan.outputs) status (at_input (n + 1) n)
      → ((stream : Stream) → status ≡ OpenFault stream → ⊥) → ComesOf plan.work bytes no_texts old status → IsReported [] status old new → Ends plan old new status
  ends_unread status is_open reaches other comes reported = record {
    inputs = bytes;
    texts = no_texts;
    reach = at_input (n + 1) n;
    reaches = reaches;
    count = have.count_is;
    short = have.short;
    reads = unread (most_of plan.work) plan.inputs bytes n old mid new have touched told is_open;
    writes = writes;
    reported = reported;
    asked = λ stream e. absurd (other stream e);
    comes = comes;
  }

  pub reading_fails : (failure : ReadFailure) → FailsReading (most_of plan.work) n mid new failure → Ends plan old new (read_status failure)
  reading_fails (Unopened at) h = subst (λ k. Ends plan old new (OpenFault (Input k))) (sym h.0) (ends_unopened h.1 h.2)
  reading_fails (Unread at) h = subst (λ k. Ends plan old new (ReadFault k)) (sym h.0) (ends_unread (ReadFault n) h.1 (known, refl) (λ stream e. cc) tt tt)
  reading_fails (TooLong at) h = subst (λ k. Ends plan old new (TooMuch (LongInput k))) (sym h.0)
      (ends_unread (TooMuch (LongInput n)) h.1 (known, refl) (λ stream e. cc) (subst (λ l. IfSome l (λ b. most_of plan.work < length b)) (have.reads.later n (omega arith)) h.2) tt)
  reading_fails NoRoom h = ends_unread OutOfMemory h (record { known = omega (arith, known); ends = omega arith; last = omega arith; outputs = refl; wholes = refl }) (λ stream e. cc) tt tt

  pub reading_caused : (failure : ReadFailure) → NeverFalls old.faults mid.faults → FailsReading (most_of plan.work) n mid new failure → IsCaused old.faults new.faults (read_status failure)
  reading_caused (Unopened at) falls h =
      subst (λ k. Rose (old.faults Open (Input k)) (new.faults Open (Input k))) (sym h.0) (Rose-earlier _ _ _ (falls Open (Input n)) h.3)
  reading_caused (Unread at) falls h =
      subst (λ k. Rose (old.faults Read (Input k)) (new.faults Read (Input k))) (sym h.0) (Rose-earlier _ _ _ (falls Read (Input n)) h.2)
  reading_caused (TooLong at) falls h = tt
  reading_caused NoRoom falls h = tt

-- nothing was done
pub nothing_read : (most : ℕ) (names : List (List ℕ)) (old : Moment) → ((stream : Stream) → old.is_open stream ≡ false) → HaveRead most names [] 0 old old
nothing_read most names old closed = record {
  count_is = refl;
  short = λ port h. absurd (omega (arith, h));
  reads = record {
    open_now = λ port. closed (Input port) ∙ none_below port;
    asked = λ port h. absurd (omega (arith, h));
    at_end = λ port h. absurd (omega (arith, h));
    all = λ port h. absurd (omega (arith, h));
    later = λ port h. refl;
  };
  outputs = λ port. closed (Output port);
  held = λ port. refl;
  report = refl;
  offers = λ stream. refl;
}

nothing_ends : (plan : Plan) (old : Moment) (status : Status) → ((stream : Stream) → old.is_open stream ≡ false) → Reaches (length plan.inputs) (length plan.outputs) status (at_input 0 0)
    → ((stream : Stream) → status ≡ OpenFault stream → ⊥) → ComesOf plan.work [] no_texts old status → IsReported [] status old old → Ends plan old old status
nothing_ends plan old status closed reaches other comes reported =
    let none = nothing_read (most_of plan.work) plan.inputs old closed in
    record {
      inputs = [];
      texts = no_texts;
      reach = at_input 0 0;
      reaches = reaches;
      count = refl;
      short = none.short;
      reads = none.reads;
      writes = none_written plan.outputs [] old old none.outputs (λ port. refl) (λ stream. refl);
      reported = reported;
      asked = λ stream e. absurd (other stream e);
      comes = comes;
    }

pub ends_at_once : (plan : Plan) (old : Moment) → ((stream : Stream) → old.is_open stream ≡ false) → Ends plan old old OutOfMemory
ends_at_once plan old closed =
    nothing_ends plan old OutOfMemory closed (record { known = omega arith; ends = omega arith; last = omega arith; outputs = refl; wholes = refl }) (λ stream e. cc) tt tt

pub usage_ends : (plan : Plan) (old : Moment) → ((stream : Stream) → old.is_open stream ≡ false) → Ends plan old old Usage
usage_ends plan old closed = nothing_ends plan old Usage closed refl (λ stream e. cc) tt tt

pub refused_ends : (plan : Plan) (old : Moment) (unlawful : Unlawful) → ((stream : Stream) → old.is_open stream ≡ false) → fault_in plan.work ≡ Some unlawful → Ends plan old old (Refused unlawful)
refused_ends plan old unlawful closed fault = nothing_ends plan old (Refused unlawful) closed refl (λ stream e. cc) fault tt

-- an answer with such a failure
pub answer_ends : {A : Type 0} (answer : Result A ReadFailure) (failure : ReadFailure) (plan : Plan) (old new : Moment) → answer ≡ Err failure → Ends plan old new (read_status failure)
    → IfErr answer (λ f. Ends plan old new (read_status f))
answer_ends answer failure plan old new is ends = subst (λ r. IfErr r (λ f. Ends plan old new (read_status f))) (sym is) ends

-- a name among those of a list
pub told_name : {X : Type 0} (text : X → List ℕ) (names : List X) (port : ℕ) (d : X) (asked : Option (List ℕ)) → port < length names → IsTold asked (text (get_or names port d)) → IsTold asked (get_or (map text names) port [])
told_name text names port d asked known told = subst (λ t. IsTold asked t) (sym (get_or-map text names port d [] known)) told

pub known_name : {X : Type 0} (text : X → List ℕ) (names : List X) (port : ℕ) → port < length names → port < length (map text names)
known_name text names port known = omega (arith, known, length-map names text)

-- words that aren't read
pub args_ends : (plan : Plan) (old : Moment) → ((stream : Stream) → old.is_open stream ≡ false) → (error : ArgsError) → Ends plan old old (args_status error)
args_ends plan old closed IsUsage = usage_ends plan old closed
args_ends plan old closed ArgsMemory = ends_at_once plan old closed
