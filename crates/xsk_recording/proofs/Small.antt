-- The line of a call tells 32 entries at most.
use Rattle.std.proofs.Common.{ℕ, zero, suc, ◌≤◌, Option, Some, None, List, [], ◌∷◌, drop, length, arith, true, false}
use Rattle.std.specs.Prelude.{Bool, IfSome, not, if◌then◌else◌, codes}
use Rattle.xsk_umem.specs.declared.batch.XdpDesc.{XdpDesc}
use Rattle.xsk_model.specs.declared.call.Ring.{Ring}
use Rattle.xsk_side.specs.declared.call.Call.{Call}
use Rattle.xsk_side.specs.declared.call.Call.TheVariants.{Reserve, Free, Submit, Peek, Release, Cancel}
use Rattle.xsk_lines.specs.Reading.{◌>>=◌, choose, word_at, small_at, ring_at, desc_at, begins_item}
use Rattle.xsk_recording.specs.Line.{is_end, is_ended, closed, ended, entries_at, some_entries, listed_at, counted_at, answer_at, reserve_at, free_at, submit_at, shown_at, peek_at, release_at, cancel_at, look_at, kick_at, other_at, call_at, stamp_at, line_at}
use Rattle.xsk_recording.specs.declared.line.Told.{Told}
use Rattle.xsk_recording.specs.declared.line.Told.TheVariants.{Judged, Aside}
use Rattle.xsk_recording.specs.declared.wakeup.Wakeup.TheVariants.{Look, Kick}
use Rattle.xsk_recording.specs.declared.line.Timed.{Timed}

-- ---- what holds of all that may be read

pub if-bound : {A B : Type 0} (P : B → Type 0) (x : Option A) (f : A → Option B) → ((a : A) → IfSome (f a) P) → IfSome (x >>= f) P
if-bound P None f each = tt
if-bound P (Some a) f each = each a

if-bound-by : {A B : Type 0} (Q : A → Type 0) (P : B → Type 0) (x : Option A) (f : A → Option B) → IfSome x Q → ((a : A) → Q a → IfSome (f a) P)
    → IfSome (x >>= f) P
if-bound-by Q P None f is each = tt
if-bound-by Q P (Some a) f is each = each a is

pub if-chosen : {A : Type 0} (P : A → Type 0) (x : Option (List ℕ)) (f : List ℕ → Option A) (other : Option A) → ((rest : List ℕ) → IfSome (f rest) P)
    → IfSome other P → IfSome (choose x f other) P
if-chosen P None f other each otherwise = otherwise
if-chosen P (Some rest) f other each otherwise = each rest

pub if-tested : {A : Type 0} (P : A → Type 0) (b : Bool) (x y : Option A) → IfSome x P → IfSome y P → IfSome (if b then x else y) P
if-tested P true x y one two = one
if-tested P false x y one two = two

-- ---- entries

abbrev AreFew : ℕ → List XdpDesc × List ℕ → Type 0
AreFew n read = length read.0 ≤ n

entries-few : (n : ℕ) (xs : List ℕ) → IfSome (entries_at n xs) (AreFew n)
unfolding entries_at
entries-few zero xs = omega arith
entries-few (suc n) xs =
    if-tested (AreFew (suc n)) (not (begins_item xs)) (Some ([], xs))
    (desc_at (drop 1 xs) >>= λ desc. entries_at n desc.1 >>= λ more. Some (desc.0 ∷ more.0, more.1)) (omega arith)
    (if-bound (AreFew (suc n)) (desc_at (drop 1 xs)) (λ desc. entries_at n desc.1 >>= λ more. Some (desc.0 ∷ more.0, more.1))
    (λ desc.
    if-bound-by (AreFew n) (AreFew (suc n)) (entries_at n desc.1) (λ more. Some (desc.0 ∷ more.0, more.1)) (entries-few n desc.1)
    (λ more few. omega (arith, few))))

some-few : (read : List XdpDesc × List ℕ) → AreFew 32 read → IfSome (some_entries read) (AreFew 32)
some-few ([], rest) few = tt
some-few (entry ∷ entries, rest) few = few

listed-few : (xs : List ℕ) → IfSome (listed_at xs) (AreFew 32)
unfolding listed_at
listed-few xs = if-bound-by (AreFew 32) (AreFew 32) (entries_at 32 xs) some_entries (entries-few 32 xs) some-few

-- ---- calls

abbrev pub IsSmallCall : Call → Type 0
IsSmallCall (Reserve r n answer) = Unit {0}
IsSmallCall (Free r n places) = Unit {0}
IsSmallCall (Submit r entries) = length entries ≤ 32
IsSmallCall (Peek r n entries) = Unit {0}
IsSmallCall (Release r n) = Unit {0}
IsSmallCall (Cancel r n) = Unit {0}

abbrev pub IsSmall : Told → Type 0
IsSmall (Judged call) = IsSmallCall call
IsSmall (Aside wakeup) = Unit {0}

reserve-small : (xs : List ℕ) → IfSome (reserve_at xs) IsSmall
unfolding reserve_at
reserve-small xs =
    if-bound IsSmall (counted_at xs) (λ c. answer_at c.1 >>= λ answer. Some (Judged (Reserve c.0.0 c.0.1 answer)))
    (λ c. if-bound IsSmall (answer_at c.1) (λ answer. Some (Judged (Reserve c.0.0 c.0.1 answer))) (λ answer. tt))

free-small : (xs : List ℕ) → IfSome (free_at xs) IsSmall
unfolding free_at
free-small xs =
    if-bound IsSmall (counted_at xs) (λ c. small_at c.1 >>= λ places. closed (Judged (Free c.0.0 c.0.1 places.0)) places.1)
    (λ c.
    if-bound IsSmall (small_at c.1) (λ places. closed (Judged (Free c.0.0 c.0.1 places.0)) places.1)
    (λ places. if-tested IsSmall (is_end places.1) (Some (Judged (Free c.0.0 c.0.1 places.0))) None tt tt))

submit-small : (xs : List ℕ) → IfSome (submit_at xs) IsSmall
unfolding submit_at
submit-small xs =
    if-bound IsSmall (ring_at xs) (λ ring. listed_at ring.1 >>= λ entries. ended (codes " -> submitted") (Judged (Submit ring.0 entries.0)) entries.1)
    (λ ring.
    if-bound-by (AreFew 32) IsSmall (listed_at ring.1) (λ entries. ended (codes " -> submitted") (Judged (Submit ring.0 entries.0)) entries.1) (listed-few ring.1)
    (λ entries few. if-tested IsSmall (is_ended (codes " -> submitted") entries.1) (Some (Judged (Submit ring.0 entries.0))) None few tt))

shown-small : (ring : Ring) (n : ℕ) (xs : List ℕ) → IfSome (shown_at ring n xs) IsSmall
shown-small ring n xs =
    if-bound IsSmall (listed_at xs) (λ entries. closed (Judged (Peek ring n entries.0)) entries.1)
    (λ entries. if-tested IsSmall (is_end entries.1) (Some (Judged (Peek ring n entries.0))) None tt tt)

peek-small : (xs : List ℕ) → IfSome (peek_at xs) IsSmall
unfolding peek_at
peek-small xs =
    if-bound IsSmall (counted_at xs)
    (λ c. choose (word_at (codes "items") c.1) (shown_at c.0.0 c.0.1) (ended (codes "empty") (Judged (Peek c.0.0 c.0.1 [])) c.1))
    (λ c.
    if-chosen IsSmall (word_at (codes "items") c.1) (shown_at c.0.0 c.0.1) (ended (codes "empty") (Judged (Peek c.0.0 c.0.1 [])) c.1) (shown-small c.0.0 c.0.1)
    (if-tested IsSmall (is_ended (codes "empty") c.1) (Some (Judged (Peek c.0.0 c.0.1 []))) None tt tt))

release-small : (xs : List ℕ) → IfSome (release_at xs) IsSmall
unfolding release_at
release-small xs =
    if-bound IsSmall (counted_at xs) (λ c. ended (codes "released") (Judged (Release c.0.0 c.0.1)) c.1)
    (λ c. if-tested IsSmall (is_ended (codes "released") c.1) (Some (Judged (Release c.0.0 c.0.1))) None tt tt)

cancel-small : (xs : List ℕ) → IfSome (cancel_at xs) IsSmall
unfolding cancel_at
cancel-small xs =
    if-bound IsSmall (counted_at xs) (λ c. ended (codes "cancelled") (Judged (Cancel c.0.0 c.0.1)) c.1)
    (λ c. if-tested IsSmall (is_ended (codes "cancelled") c.1) (Some (Judged (Cancel c.0.0 c.0.1))) None tt tt)

look-small : (xs : List ℕ) → IfSome (look_at xs) IsSmall
unfolding look_at
look-small xs =
    if-bound IsSmall (ring_at xs)
    (λ ring. if is_ended (codes " -> 0") ring.1 then Some (Aside (Look ring.0 false)) else if is_ended (codes " -> 1") ring.1 then Some (Aside (Look ring.0 true)) else None)
    (λ ring. if-tested IsSmall (is_ended (codes " -> 0") ring.1) (Some (Aside (Look ring.0 false))) _ tt
    (if-tested IsSmall (is_ended (codes " -> 1") ring.1) (Some (Aside (Look ring.0 true))) None tt tt))

kick-small : (xs : List ℕ) → IfSome (kick_at xs) IsSmall
unfolding kick_at
kick-small xs =
    if-bound IsSmall (ring_at xs) (λ ring. ended (codes " -> 0") (Aside (Kick ring.0)) ring.1)
    (λ ring. if-tested IsSmall (is_ended (codes " -> 0") ring.1) (Some (Aside (Kick ring.0))) None tt tt)

other-small : (xs : List ℕ) → IfSome (other_at xs) IsSmall
unfolding other_at
other-small xs =
    if-chosen IsSmall (word_at (codes "free ") xs) free_at
    (choose (word_at (codes "look ") xs) look_at (choose (word_at (codes "kick ") xs) kick_at None)) free-small
    (if-chosen IsSmall (word_at (codes "look ") xs) look_at (choose (word_at (codes "kick ") xs) kick_at None) look-small
    (if-chosen IsSmall (word_at (codes "kick ") xs) kick_at None kick-small tt))

call-small : (xs : List ℕ) → IfSome (call_at xs) IsSmall
unfolding call_at
call-small xs =
    let cancels : Option Told = choose (word_at (codes "cancel ") xs) cancel_at (other_at xs) in
    let releases : Option Told = choose (word_at (codes "release ") xs) release_at cancels in
    let peeks : Option Told = choose (word_at (codes "peek ") xs) peek_at releases in
    let submits : Option Told = choose (word_at (codes "submit ") xs) submit_at peeks in
    if-chosen IsSmall (word_at (codes "reserve ") xs) reserve_at submits reserve-small
    (if-chosen IsSmall (word_at (codes "submit ") xs) submit_at peeks submit-small
    (if-chosen IsSmall (word_at (codes "peek ") xs) peek_at releases peek-small
    (if-chosen IsSmall (word_at (codes "release ") xs) release_at cancels release-small
    (if-chosen IsSmall (word_at (codes "cancel ") xs) cancel_at (other_at xs) cancel-small (other-small xs)))))

-- ---- lines

abbrev pub IsSmallLine : Timed → Type 0
IsSmallLine line = IsSmall line.told

pub line-small : (xs : List ℕ) → IfSome (line_at xs) IsSmallLine
unfolding line_at
line-small xs =
    if-bound IsSmallLine (stamp_at xs) (λ stamp. call_at stamp.1 >>= λ told. Some (record { time = stamp.0; told = told }))
    (λ stamp. if-bound-by IsSmall IsSmallLine (call_at stamp.1) (λ told. Some (record { time = stamp.0; told = told })) (call-small stamp.1) (λ told small. small))
