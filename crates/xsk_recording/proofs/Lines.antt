-- One line more.
use Rattle.std.proofs.Common.{◌≡◌, ℕ, ◌+◌, ◌<◌, ◌≤◌, ◌⊎◌, Option, Some, None, List, length, refl, sym, ap, subst, ◌∙◌, true, false, inl, inr}
use Rattle.std.specs.Prelude.{nat_lt, Bool, nat_le, codes, unwrap_or}
use Rattle.std.proofs.lemmas.Bool.{cases_Bool, le-leb, lt-leb, lt-ltb, le-ltb}
use Rattle.xsk_lines.specs.Reading.{◌>>=◌}
use Rattle.xsk_recording.specs.Line.{line_at, ended, is_ended}
use Rattle.xsk_recording.specs.Header.{Header, header_line, header_after, towards}
use Rattle.xsk_recording.specs.HeaderFields.{head_view, is_mark, IsNoSetting}
use Rattle.xsk_recording.specs.Text.{Read, line_after, body_after, header_read, call_after, with_told, with_aside, most_bytes, most_lines, ends_line}
use Rattle.xsk_recording.specs.Feeding.{Reader, Shows, Keeps, Tells, IsHanded, is_calls}
use Rattle.xsk_recording.specs.declared.head.Next.{Next}
use Rattle.xsk_recording.specs.declared.head.Next.TheVariants.{Title, Umem, Pairs, Sockets, Mark, Calls}
use Rattle.xsk_recording.specs.declared.line.Timed.{Timed}
use Rattle.xsk_recording.specs.declared.line.Told.{Told}
use Rattle.xsk_recording.specs.declared.line.Told.TheVariants.{Judged, Aside}
use Rattle.xsk_recording.specs.declared.wakeup.Wakeup.{Wakeup}
use Rattle.xsk_recording.specs.declared.reading.Event.{Event}
use Rattle.xsk_recording.specs.declared.reading.Event.TheVariants as an_event
use Rattle.xsk_side.specs.declared.call.Call.{Call}

pub line-long : (r : Read) (xs : List ℕ) → most_bytes < length xs → line_after r xs ≡ None
unfolding line_after
line-long r xs long = rw (lt-leb _ _ long) refl

pub line-late : (r : Read) (xs : List ℕ) → most_lines ≤ r.lines → line_after r xs ≡ None
unfolding line_after
line-late r xs late = elim (cases_Bool (nat_le (length xs) most_bytes)) [
  | inl short ↦ rw (short, le-ltb _ _ late) refl
  | inr long ↦ rw long refl
]

pub line-unended : (r : Read) (xs : List ℕ) → ends_line xs ≡ false → line_after r xs ≡ None
unfolding line_after
line-unended r xs unended = elim (cases_Bool (nat_le (length xs) most_bytes)) [
  | inl short ↦ elim (cases_Bool (nat_lt r.lines most_lines)) [
    | inl few ↦ rw (short, few, unended) refl
    | inr late ↦ rw (short, late) refl
  ]
  | inr long ↦ rw long refl
]

-- a line that may be of the form
abbrev pub IsWhole : Read → List ℕ → Type 0
IsWhole r xs = (length xs ≤ most_bytes) × (r.lines < most_lines) × (ends_line xs ≡ true)

line-body : (r : Read) (xs : List ℕ) → IsWhole r xs → line_after r xs ≡ body_after r.header.next r xs
unfolding line_after
line-body r xs whole = rw (le-leb _ _ whole.0, lt-ltb _ _ whole.1, whole.2) refl

some-value : {A : Type 0} (x y : A) → ◌≡◌ {A = Option A} (Some x) (Some y) → x ≡ y
some-value {A} x y e = ap (λ (r : Option A). unwrap_or r x) e

-- ---- the header

body-header : (next : Next) (r : Read) (xs : List ℕ) → is_calls next ≡ false → body_after next r xs ≡ header_read r xs
body-header Title r xs header = refl
body-header Umem r xs header = refl
body-header Pairs r xs header = refl
body-header Sockets r xs header = refl
body-header Mark r xs header = refl
body-header Calls r xs header = cc header

line-header : (r : Read) (xs : List ℕ) → IsWhole r xs → is_calls r.header.next ≡ false → line_after r xs ≡ header_read r xs
line-header r xs whole header = line-body r xs whole ∙ body-header r.header.next r xs header

body-call : (next : Next) (r : Read) (xs : List ℕ) → is_calls next ≡ true → body_after next r xs ≡ (line_at xs >>= call_after r)
body-call Title r xs calls = cc calls
body-call Umem r xs calls = cc calls
body-call Pairs r xs calls = cc calls
body-call Sockets r xs calls = cc calls
body-call Mark r xs calls = cc calls
body-call Calls r xs calls = refl

line-call : (r : Read) (xs : List ℕ) → IsWhole r xs → is_calls r.header.next ≡ true → line_after r xs ≡ (line_at xs >>= call_after r)
line-call r xs whole calls = line-body r xs whole ∙ body-call r.header.next r xs calls

-- a line of the header that was read by a reader that shows what was told
pub record IsHeaded (r : Read) (xs : List ℕ) (header : Header) : Type 0 where
  pub read : Read
  pub is : header_read r xs ≡ Some read
  pub calls : read.calls ≡ r.calls
  pub asides : read.asides ≡ r.asides
  pub time : read.time ≡ r.time
  pub lines : read.lines ≡ r.lines + 1
  pub headed : (read.header ≡ header) ⊎ ((read.header.next ≡ Calls) × (header.next ≡ Calls))

abbrev pub Headed : Read → List ℕ → Bool → Header → Type 0
Headed r xs false header = header_read r xs ≡ None
Headed r xs true header = IsHeaded r xs header

headed-same : (r : Read) (xs : List ℕ) (b : Bool) (header : Header) → head_view b header ≡ header_after r.header xs → Headed r xs b header
headed-same r xs false header is = rw (sym is) refl
headed-same r xs true header is = record {
  read = record r { header = header; lines = r.lines + 1 };
  is = rw (sym is) refl;
  calls = refl;
  asides = refl;
  time = refl;
  lines = refl;
  headed = inl refl;
}

mark-ends : (old : Header) (r : Read) (xs : List ℕ) (b : Bool) (header : Header) → r.header.next ≡ Mark → is_ended (codes "calls") xs ≡ true
    → head_view b header ≡ Some (towards Calls old) → Headed r xs b header
mark-ends old r xs false header mark ends told = cc told
mark-ends old r xs true header mark ends told = record {
  read = record r { header = towards Calls r.header; lines = r.lines + 1 };
  is = rw (mark, ends) refl;
  calls = refl;
  asides = refl;
  time = refl;
  lines = refl;
  headed = inr (refl, ap (λ (h : Header). h.next) (some-value header (towards Calls old) told));
}

mark-other : (r : Read) (xs : List ℕ) (b : Bool) (header : Header) → r.header.next ≡ Mark → is_ended (codes "calls") xs ≡ false
    → head_view b header ≡ None → Headed r xs b header
mark-other r xs false header mark other told = rw (mark, other) refl
mark-other r xs true header mark other told = cc told

-- behind the line of the kernel what was told is no more kept, and plays no part
headed-mark : (old : Header) (r : Read) (xs : List ℕ) (b : Bool) (header : Header) → r.header.next ≡ Mark
    → head_view b header ≡ ended (codes "calls") (towards Calls old) xs → Headed r xs b header
headed-mark old r xs b header mark told = elim (cases_Bool (is_ended (codes "calls") xs)) [
  | inl ends ↦ mark-ends old r xs b header mark ends (rw ends at told)
  | inr other ↦ mark-other r xs b header mark other (rw other at told)
]

headed-as : (old : Header) (r : Read) (xs : List ℕ) (b : Bool) (header : Header) → old ≡ r.header → head_view b header ≡ header_after old xs
    → Headed r xs b header
headed-as old r xs b header same told = headed-same r xs b header (told ∙ ap (λ (h : Header). header_after h xs) same)

headed-by : (next : Next) (old : Header) (r : Read) (xs : List ℕ) (b : Bool) (header : Header) → r.header.next ≡ next → old.next ≡ r.header.next
    → Keeps next r.header old → is_calls next ≡ false → head_view b header ≡ header_after old xs → Headed r xs b header
headed-by Title old r xs b header is same keeps calls told = headed-as old r xs b header keeps told
headed-by Umem old r xs b header is same keeps calls told = headed-as old r xs b header keeps told
headed-by Pairs old r xs b header is same keeps calls told = headed-as old r xs b header keeps told
headed-by Sockets old r xs b header is same keeps calls told = headed-as old r xs b header keeps told
headed-by Mark old r xs b header is same keeps calls told =
    headed-mark old r xs b header is (subst (λ (n : Next). head_view b header ≡ header_line n old xs) (same ∙ is) told)
headed-by Calls old r xs b header is same keeps calls told = cc calls

pub headed : (old : Reader) (r : Read) (xs : List ℕ) (b : Bool) (header : Header) → Shows old r → is_calls r.header.next ≡ false
    → head_view b header ≡ header_after old.header xs → Headed r xs b header
headed old r xs b header shows calls told = headed-by r.header.next old.header r xs b header refl shows.next shows.header calls told

pub keeps-self : (next : Next) (h : Header) → Keeps next h h
keeps-self Title h = refl
keeps-self Umem h = refl
keeps-self Pairs h = refl
keeps-self Sockets h = refl
keeps-self Mark h = tt
keeps-self Calls h = tt

-- a reader shows what was read where it has the header's next line, and what the header has told as far as that is kept
pub shows-headed : (r : Read) (xs : List ℕ) (header : Header) (new : Reader) (h : IsHeaded r xs header) → new.header.next ≡ header.next
    → Keeps header.next header new.header → new.time ≡ r.time → new.lines ≡ r.lines + 1 → Shows new h.read
shows-headed r xs header new h next keeps time lines = elim h.headed [
  | inl same ↦ record {
    next = next ∙ ap (λ (a : Header). a.next) (sym same);
    header = subst (λ (a : Header). Keeps a.next a new.header) (sym same) keeps;
    time = time ∙ sym h.time;
    lines = lines ∙ sym h.lines;
  }
  | inr calls ↦ record {
    next = next ∙ calls.1 ∙ sym calls.0;
    header = subst (λ (n : Next). Keeps n h.read.header new.header) (sym calls.0) tt;
    time = time ∙ sym h.time;
    lines = lines ∙ sym h.lines;
  }
]

-- behind the line of the kernel all was kept up to it
pub mark-headed : (r : Read) (xs : List ℕ) (header : Header) (h : IsHeaded r xs header) → header.next ≡ Mark → h.read.header ≡ header
mark-headed r xs header h mark = elim h.headed [
  | inl same ↦ same
  | inr calls ↦ cc (sym mark ∙ calls.1)
]

-- where the reader has another line next, so has what was read
pub next-headed : (r : Read) (xs : List ℕ) (header : Header) (h : IsHeaded r xs header) → h.read.header.next ≡ header.next
next-headed r xs header h = elim h.headed [
  | inl same ↦ ap (λ (a : Header). a.next) same
  | inr calls ↦ calls.0 ∙ sym calls.1
]

abbrev pub HasHeader : Reader → Read → List ℕ → Type 0
HasHeader old r xs = Shows old r × (length xs ≤ most_bytes) × (old.lines < most_lines) × (is_calls old.header.next ≡ false) × (ends_line xs ≡ true)

header-here : (old : Reader) (r : Read) (xs : List ℕ) → HasHeader old r xs → line_after r xs ≡ header_read r xs
header-here old r xs has =
    line-header r xs (has.1, subst (λ n. n < most_lines) has.0.lines has.2, has.4) (subst (λ (n : Next). is_calls n ≡ false) has.0.next has.3)

pub header-told : (old : Reader) (r : Read) (xs : List ℕ) (b : Bool) (header : Header) → HasHeader old r xs
    → head_view b header ≡ header_after old.header xs → Headed r xs b header
header-told old r xs b header has told = headed old r xs b header has.0 (subst (λ (n : Next). is_calls n ≡ false) has.0.next has.3) told

pub header-none : (old : Reader) (r : Read) (xs : List ℕ) (header : Header) → HasHeader old r xs
    → head_view false header ≡ header_after old.header xs → line_after r xs ≡ None
header-none old r xs header has told = header-here old r xs has ∙ header-told old r xs false header has told

pub header-passed : (old new : Reader) (r : Read) (xs : List ℕ) (header : Header) → HasHeader old r xs
    → head_view true header ≡ header_after old.header xs → is_mark header.next ≡ false
    → new.header ≡ header → new.time ≡ old.time → new.lines ≡ old.lines + 1 → Tells r xs an_event.Passed (Shows new)
header-passed old new r xs header has told other same time lines =
    let h = header-told old r xs true header has told in
    record {
      read = h.read;
      is = header-here old r xs has ∙ h.is;
      calls_are = h.calls;
      rest = (
        shows-headed r xs header new h (ap (λ (a : Header). a.next) same)
            (subst (Keeps header.next header) (sym same) (keeps-self header.next header))
            (time ∙ has.0.time) (lines ∙ ap (λ n. n + 1) has.0.lines),
        λ mark. cc (sym other ∙ ap is_mark (sym (next-headed r xs header h) ∙ mark)),
        h.asides,
      );
    }

mark-is : (next : Next) → is_mark next ≡ true → next ≡ Mark
mark-is Title mark = cc mark
mark-is Umem mark = cc mark
mark-is Pairs mark = cc mark
mark-is Sockets mark = cc mark
mark-is Mark mark = refl
mark-is Calls mark = cc mark

abbrev pub ReadUpTo : Reader → Read → List ℕ → Header → Type 0
ReadUpTo new r xs header = (n : Read) × (line_after r xs ≡ Some n) × (n.calls ≡ r.calls) × Shows new n × (n.header.next ≡ Mark) × (n.header ≡ header) × (n.asides ≡ r.asides)

read-up-to : (old new : Reader) (r : Read) (xs : List ℕ) (header : Header) → HasHeader old r xs
    → head_view true header ≡ header_after old.header xs → is_mark header.next ≡ true
    → new.header.next ≡ header.next → new.time ≡ old.time → new.lines ≡ old.lines + 1 → ReadUpTo new r xs header
read-up-to old new r xs header has told mark next time lines =
    let h = header-told old r xs true header has told in
    let is = mark-is header.next mark in (
      h.read,
      header-here old r xs has ∙ h.is,
      h.calls,
      shows-headed r xs header new h next (subst (λ (n : Next). Keeps n header new.header) (sym is) tt) (time ∙ has.0.time) (lines ∙ ap (λ n. n + 1) has.0.lines),
      next-headed r xs header h ∙ is,
      mark-headed r xs header h is,
      h.asides,
    )

handed : (new : Reader) (r : Read) (xs : List ℕ) (header : Header) (event : Event) → ReadUpTo new r xs header → IsHanded header event → Tells r xs event (Shows new)
handed new r xs header an_event.Begun up is = absurd is
handed new r xs header an_event.Passed up is = absurd is
handed new r xs header (an_event.Setting s metadata) up is = record {
  read = up.0;
  is = up.1;
  calls_are = up.2;
  rest = (up.3, up.4, ap (λ (h : Header). h.setting) up.5 ∙ sym is.0, ap (λ (h : Header). h.metadata) up.5 ∙ sym is.1, up.6);
}
handed new r xs header (an_event.NoSetting error) up is = record {
  read = up.0;
  is = up.1;
  calls_are = up.2;
  rest = (up.3, up.4, subst (λ (h : Header). IsNoSetting h.setting error) (sym up.5) is);
}
handed new r xs header (an_event.Call call) up is = absurd is
handed new r xs header (an_event.Aside wakeup) up is = absurd is
handed new r xs header an_event.Fault up is = absurd is

pub header-handed : (old new : Reader) (r : Read) (xs : List ℕ) (header : Header) (event : Event) → HasHeader old r xs
    → head_view true header ≡ header_after old.header xs → is_mark header.next ≡ true → IsHanded header event
    → new.header.next ≡ header.next → new.time ≡ old.time → new.lines ≡ old.lines + 1 → Tells r xs event (Shows new)
header-handed old new r xs header event has told mark is next time lines =
    handed new r xs header event (read-up-to old new r xs header has told mark next time lines) is

-- ---- calls

abbrev pub HasCall : Reader → Read → List ℕ → Type 0
HasCall old r xs = Shows old r × (length xs ≤ most_bytes) × (old.lines < most_lines) × (is_calls old.header.next ≡ true) × (ends_line xs ≡ true)

call-here : (old : Reader) (r : Read) (xs : List ℕ) → HasCall old r xs → line_after r xs ≡ (line_at xs >>= call_after r)
call-here old r xs has =
    line-call r xs (has.1, subst (λ n. n < most_lines) has.0.lines has.2, has.4) (subst (λ (n : Next). is_calls n ≡ true) has.0.next has.3)

pub call-none : (old : Reader) (r : Read) (xs : List ℕ) → HasCall old r xs → line_at xs ≡ None → line_after r xs ≡ None
call-none old r xs has none = call-here old r xs has ∙ ap (λ (t : Option Timed). t >>= call_after r) none

pub call-early : (old : Reader) (r : Read) (xs : List ℕ) (t : Timed) → HasCall old r xs → line_at xs ≡ Some t → t.time < old.time → line_after r xs ≡ None
call-early old r xs t has some early =
    call-here old r xs has ∙ ap (λ (x : Option Timed). x >>= call_after r) some
    ∙ rw (lt-ltb t.time r.time (subst (λ n. t.time < n) has.0.time early)) refl

-- the line of a call that was read
pub record CallRead (new : Reader) (r : Read) (xs : List ℕ) (told : Told) : Type 0 where
  pub read : Read
  pub is : line_after r xs ≡ Some read
  pub calls : read.calls ≡ with_told (r.lines + 1) r.calls told
  pub asides : read.asides ≡ with_aside (r.lines + 1) r.asides told
  pub shows : Shows new read
  pub begun : is_calls r.header.next ≡ true

pub call-told : (old new : Reader) (r : Read) (xs : List ℕ) (t : Timed) → HasCall old r xs → line_at xs ≡ Some t → old.time ≤ t.time
    → new.header ≡ old.header → new.time ≡ t.time → new.lines ≡ old.lines + 1 → CallRead new r xs t.told
call-told old new r xs t has some later header time lines = record {
  read = record r { time = t.time; lines = r.lines + 1; calls = with_told (r.lines + 1) r.calls t.told; asides = with_aside (r.lines + 1) r.asides t.told };
  is =
      call-here old r xs has ∙ ap (λ (x : Option Timed). x >>= call_after r) some
      ∙ rw (le-ltb _ _ (subst (λ n. n ≤ t.time) has.0.time later)) refl;
  calls = refl;
  asides = refl;
  shows = record {
    next = ap (λ (h : Header). h.next) header ∙ has.0.next;
    header = subst (Keeps r.header.next r.header) (sym header) has.0.header;
    time = time;
    lines = lines ∙ ap (λ n. n + 1) has.0.lines;
  };
  begun = subst (λ (n : Next). is_calls n ≡ true) has.0.next has.3;
}

pub judged-told : (new : Reader) (r : Read) (xs : List ℕ) (call : Call) → CallRead new r xs (Judged call) → Tells r xs (an_event.Call call) (Shows new)
judged-told new r xs call told = record { read = told.read; is = told.is; calls_are = told.calls; rest = (told.shows, told.asides) }

begun-is : (next : Next) → is_calls next ≡ true → next ≡ Calls
begun-is Title calls = cc calls
begun-is Umem calls = cc calls
begun-is Pairs calls = cc calls
begun-is Sockets calls = cc calls
begun-is Mark calls = cc calls
begun-is Calls calls = refl

pub aside-told : (new : Reader) (r : Read) (xs : List ℕ) (wakeup : Wakeup) → CallRead new r xs (Aside wakeup) → Tells r xs (an_event.Aside wakeup) (Shows new)
aside-told new r xs wakeup told =
    record { read = told.read; is = told.is; calls_are = told.calls; rest = (told.shows, begun-is r.header.next told.begun, told.asides) }
