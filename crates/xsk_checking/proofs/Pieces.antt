-- The pieces of a file.
use Rattle.std.proofs.Common.{◌≡◌, ℕ, Option, Some, None, List, [], ◌++◌, true, false, refl, sym, ap, ◌∙◌, subst, append-nil}
use Rattle.std.specs.Prelude.{Result, Ok, Err, is_some}
use Rattle.std.specs.Io.KnownBytes.{IsAtEnd, prepend_known}
use Rattle.xsk_check.specs.Checking.{Checked, Goes, IsFound, StandsFor}
use Rattle.xsk_check.specs.declared.finding.Finding.{Finding}
use Rattle.xsk_io.specs.Bay.{CountsOnly, Moment, Rose, Same}
use Rattle.xsk_io.specs.declared.bay.Kind.{Kind}
use Rattle.xsk_io.specs.declared.bay.Kind.TheVariants.{Open, Read}
use Rattle.xsk_io.specs.declared.bay.Stream.TheVariants.{Input, Report}
use Rattle.xsk_io.proofs.Steps.{Same-then, prepend_known-then}
use Rattle.xsk_checking.specs.Ending.{HasBegun, HasRead, HasReadOpen, IsTold, Settles}
use Rattle.xsk_checking.specs.declared.end.Failure.{Failure}
use Rattle.xsk_checking.specs.declared.end.Failure.TheVariants.{Unopened, Unread, OutOfMemory}
use Rattle.xsk_checking.proofs.Faults.{fails-later, fails-memory, fails-unopened, fails-unread, none-of-it, unchanged-then}

pub nothing-read : (left : Option (List ℕ)) → left ≡ prepend_known [] left
nothing-read None = refl
nothing-read (Some bytes) = refl

-- the bytes that were read, and what comes of them
abbrev pub IsJudged : Option (List ℕ) → Checked → Option Finding → Type 0
IsJudged left checked found = (bytes : List ℕ) × IsTold left bytes × Settles checked bytes found

-- the file was read to its end
pub read-whole : (first now : Option (List ℕ)) (checked : Checked) (bytes : List ℕ) → first ≡ prepend_known bytes now → IsAtEnd now → StandsFor checked bytes
    → IsJudged first checked None
read-whole first None checked bytes is end stands = (bytes, subst (λ (l : Option (List ℕ)). IsTold l bytes) (sym is) tt, stands)
read-whole first (Some rest) checked bytes is end stands = (
  bytes,
  subst (λ (l : Option (List ℕ)). IsTold l bytes) (sym is) (ap (λ (l : List ℕ). bytes ++ l) end ∙ append-nil bytes),
  stands,
)

-- a piece settles the verdict, whatever follows
settled-there : (first now : Option (List ℕ)) (checked : Checked) (bytes piece : List ℕ) (finding : Finding) → first ≡ prepend_known (bytes ++ piece) now
    → ((later : List ℕ) → IsFound (bytes ++ piece ++ later) finding) → IsJudged first checked (Some finding)
settled-there first None checked bytes piece finding is found =
    (bytes ++ piece ++ [], subst (λ (l : Option (List ℕ)). IsTold l (bytes ++ piece ++ [])) (sym is) tt, found [])
settled-there first (Some later) checked bytes piece finding is found =
    (bytes ++ piece ++ later, subst (λ (l : Option (List ℕ)). IsTold l (bytes ++ piece ++ later)) (sym is) refl, found later)

pub settled : (first now : Option (List ℕ)) (checked : Checked) (bytes piece : List ℕ) (found : Option Finding) → first ≡ prepend_known (bytes ++ piece) now
    → Goes checked bytes piece found → is_some found ≡ true → IsJudged first checked found
settled first now checked bytes piece None is goes some = cc some
settled first now checked bytes piece (Some finding) is goes some = settled-there first now checked bytes piece finding is goes

pub unsettled : (checked : Checked) (bytes piece : List ℕ) (found : Option Finding) → Goes checked bytes piece found → is_some found ≡ false → StandsFor checked (bytes ++ piece)
unsettled checked bytes piece None goes none = goes
unsettled checked bytes piece (Some finding) goes none = cc none

-- ---- one read

pub none-begun : (old : Moment) (checked : Checked) → StandsFor checked [] → old.is_open (Input 0) ≡ true → HasBegun old old checked
none-begun old checked stands is_open = record {
  bytes = [];
  stands = stands;
  left = nothing-read (old.left (Input 0));
  is_open = is_open;
  asked = λ stream. refl;
  held = λ stream. refl;
  faults = λ kind stream. refl;
}

-- what a read left as it was
pub record IsReadBy (old new : Moment) : Type 0 where
  pub opened : Same old.is_open new.is_open
  pub asked : Same old.asked new.asked
  pub held : Same old.held new.held
  pub counts : CountsOnly Read (Input 0) old.faults new.faults

pub read-failed : (old mid new : Moment) (checked other : Checked) → HasBegun old mid checked → IsReadBy mid new → Rose (mid.faults Read (Input 0)) (new.faults Read (Input 0))
    → HasReadOpen old new other (Err Unread)
read-failed old mid new checked other begun by rose = (
  record {
    held = by.held Report ∙ begun.held Report;
    fails = fails-later old.faults mid.faults new.faults Unread begun.faults (fails-unread mid.faults new.faults by.counts rose);
  },
  Same-then old.asked mid.asked new.asked begun.asked by.asked,
)

kept-faults : (old mid new : Moment) (checked : Checked) → HasBegun old mid checked → IsReadBy mid new → new.faults Read (Input 0) ≡ mid.faults Read (Input 0)
    → (kind : Kind) → Same (old.faults kind) (new.faults kind)
kept-faults old mid new checked begun by none = unchanged-then old.faults mid.faults new.faults begun.faults (none-of-it Read (Input 0) mid.faults new.faults by.counts none)

pub read-ended : (old mid new : Moment) (checked : Checked) → HasBegun old mid checked → IsReadBy mid new → new.faults Read (Input 0) ≡ mid.faults Read (Input 0)
    → IsAtEnd (mid.left (Input 0)) → HasReadOpen old new checked (Ok None)
read-ended old mid new checked begun by none end =
    let judged = read-whole (old.left (Input 0)) (mid.left (Input 0)) checked begun.bytes begun.left end begun.stands in (
      record {
        bytes = judged.0;
        told = judged.1;
        settles = judged.2;
        held = by.held Report ∙ begun.held Report;
        faults = kept-faults old mid new checked begun by none;
      },
      Same-then old.asked mid.asked new.asked begun.asked by.asked,
    )

pub read-memory : (old mid new : Moment) (checked other : Checked) → HasBegun old mid checked → IsReadBy mid new → new.faults Read (Input 0) ≡ mid.faults Read (Input 0)
    → HasReadOpen old new other (Err OutOfMemory)
read-memory old mid new checked other begun by none = (
  record {
    held = by.held Report ∙ begun.held Report;
    fails = fails-memory old.faults new.faults (kept-faults old mid new checked begun by none);
  },
  Same-then old.asked mid.asked new.asked begun.asked by.asked,
)

pub begun-memory : (old mid : Moment) (checked other : Checked) → HasBegun old mid checked → HasReadOpen old mid other (Err OutOfMemory)
begun-memory old mid checked other begun = (record { held = begun.held Report; fails = fails-memory old.faults mid.faults begun.faults }, begun.asked)

pub read-settled : (old mid new : Moment) (checked after : Checked) (piece : List ℕ) (found : Option Finding) → (begun : HasBegun old mid checked) → IsReadBy mid new
    → new.faults Read (Input 0) ≡ mid.faults Read (Input 0) → mid.left (Input 0) ≡ prepend_known piece (new.left (Input 0))
    → ((text : List ℕ) → StandsFor checked text → Goes after text piece found) → is_some found ≡ true → HasReadOpen old new after (Ok found)
read-settled old mid new checked after piece found begun by none bytes goes some =
    let judged =
    settled (old.left (Input 0)) (new.left (Input 0)) after begun.bytes piece found
    (prepend_known-then (old.left (Input 0)) (mid.left (Input 0)) (new.left (Input 0)) begun.bytes piece begun.left bytes) (goes begun.bytes begun.stands) some in (
      record {
        bytes = judged.0;
        told = judged.1;
        settles = judged.2;
        held = by.held Report ∙ begun.held Report;
        faults = kept-faults old mid new checked begun by none;
      },
      Same-then old.asked mid.asked new.asked begun.asked by.asked,
    )

pub read-on : (old mid new : Moment) (checked after : Checked) (piece : List ℕ) (found : Option Finding) → (begun : HasBegun old mid checked) → IsReadBy mid new
    → new.faults Read (Input 0) ≡ mid.faults Read (Input 0) → mid.left (Input 0) ≡ prepend_known piece (new.left (Input 0))
    → ((text : List ℕ) → StandsFor checked text → Goes after text piece found) → is_some found ≡ false → HasBegun old new after
read-on old mid new checked after piece found begun by none bytes goes unfound = record {
  bytes = begun.bytes ++ piece;
  stands = unsettled after begun.bytes piece found (goes begun.bytes begun.stands) unfound;
  left = prepend_known-then (old.left (Input 0)) (mid.left (Input 0)) (new.left (Input 0)) begun.bytes piece begun.left bytes;
  is_open = by.opened (Input 0) ∙ begun.is_open;
  asked = Same-then old.asked mid.asked new.asked begun.asked by.asked;
  held = Same-then old.held mid.held new.held begun.held by.held;
  faults = kept-faults old mid new checked begun by none;
}

-- ---- the file is opened

pub opened-then : (old mid new : Moment) (checked : Checked) (answer : Result (Option Finding) Failure) → mid.held Report ≡ old.held Report
    → ((kind : Kind) → Same (old.faults kind) (mid.faults kind)) → Same old.left mid.left → HasReadOpen mid new checked answer → HasRead old new checked answer
opened-then old mid new checked (Ok found) held faults left read = record {
  bytes = read.0.bytes;
  told = subst (λ (l : Option (List ℕ)). IsTold l read.0.bytes) (left (Input 0)) read.0.told;
  settles = read.0.settles;
  held = read.0.held ∙ held;
  faults = unchanged-then old.faults mid.faults new.faults faults read.0.faults;
}
opened-then old mid new checked (Err failure) held faults left read = record {
  held = read.0.held ∙ held;
  fails = fails-later old.faults mid.faults new.faults failure faults read.0.fails;
}

pub unopened : (old new : Moment) (checked : Checked) → new.held Report ≡ old.held Report → CountsOnly Open (Input 0) old.faults new.faults
    → Rose (old.faults Open (Input 0)) (new.faults Open (Input 0)) → HasRead old new checked (Err Unopened)
unopened old new checked held counts rose = record { held = held; fails = fails-unopened old.faults new.faults counts rose }
