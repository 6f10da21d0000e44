-- Lines that are read one after another, whatever the pieces.
use Rattle.std.proofs.Common.{◌≡◌, ◌≢◌, ℕ, zero, suc, ◌+◌, ◌<◌, ◌≤◌, ◌⊎◌, Option, Some, None, List, [], ◌∷◌, ◌++◌, length, take, slice_index, refl, sym, ap, ◌∙◌, arith, true, inl, inr, append_assoc, append-nil, length-append, false}
use Rattle.std.specs.Prelude.{◌==◌, unwrap_or}
use Rattle.std.proofs.lemmas.Bool.{cases_Bool, eqb-true}
use Rattle.xsk_lines.specs.Lines.{in_front, lines_of}
use Rattle.xsk_lines.specs.Reading.{◌>>=◌}
use Rattle.xsk_recording.specs.Text.{Numbered, Read, nothing_read, line_after, lines_after, most_bytes, ends_line}
use Rattle.xsk_recording.specs.Feeding.{Reader, Shows, has_no_feed, IsLine, AreLines, joined, StandsFor, Goes, Tells, HasFault, IsNext, IsFault, IsKept}
use Rattle.xsk_recording.specs.declared.reading.Event.{Event}
use Rattle.xsk_recording.specs.declared.reading.Event.TheVariants as an_event
use Rattle.xsk_recording.proofs.Lines.{line-long}

-- ---- texts without a line feed, and lines

no-feed-both : (xs ys : List ℕ) → has_no_feed xs ≡ true → has_no_feed ys ≡ true → has_no_feed (xs ++ ys) ≡ true
no-feed-both [] ys first second = second
no-feed-both (x ∷ xs) ys first second = elim (cases_Bool (x == 10)) [
  | inl feed ↦ cc (rw feed at first)
  | inr other ↦ rw other (no-feed-both xs ys (rw other at first) second)
]

pub no-feed-is : (xs : List ℕ) → ((k : ℕ) → k < length xs → slice_index xs k ≢ 10) → has_no_feed xs ≡ true
no-feed-is [] none = refl
no-feed-is (b ∷ bs) none = elim (cases_Bool (b == 10)) [
  | inl feed ↦ absurd (none 0 (omega arith) (eqb-true b 10 feed))
  | inr other ↦ rw other (no-feed-is bs (λ k below. none (suc k) (omega (arith, below))))
]

pub feed-at : (xs : List ℕ) (i : ℕ) → i < length xs → ((k : ℕ) → k < i → slice_index xs k ≢ 10) → slice_index xs i ≡ 10 → IsLine (take (suc i) xs)
feed-at [] i within none here = absurd (omega (arith, within))
feed-at (b ∷ bs) zero within none here = ([], rw here refl, refl)
feed-at (b ∷ bs) (suc i) within none here =
    let line = feed-at bs i (omega (arith, within)) (λ k below. none (suc k) (omega (arith, below))) here in
    elim (cases_Bool (b == 10)) [
      | inl feed ↦ absurd (none 0 (omega arith) (eqb-true b 10 feed))
      | inr other ↦ (b ∷ line.0, ap (λ (l : List ℕ). b ∷ l) line.1, rw other line.2)
    ]

line-front : (front line : List ℕ) → has_no_feed front ≡ true → IsLine line → IsLine (front ++ line)
line-front front line none is = (front ++ is.0, ap (λ (l : List ℕ). front ++ l) is.1 ∙ sym (append_assoc front is.0 (10 ∷ [])), no-feed-both front is.0 none is.2)

line-first : (body rest : List ℕ) → has_no_feed body ≡ true → lines_of (body ++ 10 ∷ rest) ≡ (body ++ 10 ∷ []) ∷ lines_of rest
unfolding lines_of
line-first [] rest h = refl
line-first (b ∷ bs) rest h = elim (cases_Bool (b == 10)) [
  | inl feed ↦ cc (rw feed at h)
  | inr other ↦ rw other (ap (in_front b) (line-first bs rest (rw other at h)))
]

pub line-next : (line rest : List ℕ) → IsLine line → lines_of (line ++ rest) ≡ line ∷ lines_of rest
line-next line rest is =
    ap (λ (l : List ℕ). lines_of (l ++ rest)) is.1 ∙ ap lines_of (append_assoc is.0 (10 ∷ []) rest) ∙ line-first is.0 rest is.2 ∙ ap (λ (l : List ℕ). l ∷ lines_of rest) (sym is.1)

pub lines-joined : (whole : List (List ℕ)) (xs : List ℕ) → AreLines whole → lines_of (joined whole ++ xs) ≡ whole ++ lines_of xs
lines-joined [] xs all = refl
lines-joined (line ∷ whole) xs all =
    ap lines_of (append_assoc line (joined whole) xs) ∙ line-next line (joined whole ++ xs) all.0 ∙ ap (λ (l : List (List ℕ)). line ∷ l) (lines-joined whole xs all.1)

joined-one-more : (whole : List (List ℕ)) (line : List ℕ) → joined (whole ++ line ∷ []) ≡ joined whole ++ line
joined-one-more [] line = append-nil line
joined-one-more (l ∷ whole) line = ap (λ (j : List ℕ). l ++ j) (joined-one-more whole line) ∙ sym (append_assoc l (joined whole) line)

all-one-more : (whole : List (List ℕ)) (line : List ℕ) → AreLines whole → IsLine line → AreLines (whole ++ line ∷ [])
all-one-more [] line all is = (is, tt)
all-one-more (l ∷ whole) line all is = (all.0, all-one-more whole line all.1 is)

-- ---- the end of a line

pub ends-at : (xs : List ℕ) (i : ℕ) → i < length xs → slice_index xs i ≡ 10 → ends_line (take (suc i) xs) ≡ true
unfolding ends_line
ends-at [] i within here = absurd (omega (arith, within))
ends-at (b ∷ bs) zero within here = rw here refl
ends-at (b ∷ []) (suc i) within here = absurd (omega (arith, within))
ends-at (b ∷ c ∷ bs) (suc i) within here = ends-at (c ∷ bs) i (omega (arith, within)) here

pub ends-behind : (xs ys : List ℕ) → ends_line ys ≡ true → ends_line (xs ++ ys) ≡ true
unfolding ends_line
ends-behind [] ys ends = ends
ends-behind (x ∷ []) [] ends = cc ends
ends-behind (x ∷ []) (y ∷ ys) ends = ends
ends-behind (x ∷ z ∷ xs) ys ends = ends-behind (z ∷ xs) ys ends

pub unended : (xs : List ℕ) → has_no_feed xs ≡ true → ends_line xs ≡ false
unfolding ends_line
unended [] none = refl
unended (b ∷ []) none = elim (cases_Bool (b == 10)) [
  | inl feed ↦ cc (rw feed at none)
  | inr other ↦ other
]
unended (b ∷ c ∷ bs) none = elim (cases_Bool (b == 10)) [
  | inl feed ↦ cc (rw feed at none)
  | inr other ↦ unended (c ∷ bs) (rw other at none)
]

-- ---- what was read

some-value : {A : Type 0} (x y : A) → ◌≡◌ {A = Option A} (Some x) (Some y) → x ≡ y
some-value {A} x y e = ap (λ (r : Option A). unwrap_or r x) e

one-after : (line : Option Read) → (line >>= λ next. Some next) ≡ line
one-after None = refl
one-after (Some r) = refl

after-through : (whole : List (List ℕ)) (line : List ℕ) (s : Read) (first : Option Read)
    → ((n : Read) → lines_after n whole ≡ Some s → lines_after n (whole ++ line ∷ []) ≡ line_after s line)
    → (first >>= λ next. lines_after next whole) ≡ Some s → (first >>= λ next. lines_after next (whole ++ line ∷ [])) ≡ line_after s line
after-through whole line s None each is = cc is
after-through whole line s (Some n) each is = each n is

pub after-one-more : (r : Read) (whole : List (List ℕ)) (line : List ℕ) (s : Read) → lines_after r whole ≡ Some s
    → lines_after r (whole ++ line ∷ []) ≡ line_after s line
unfolding lines_after
after-one-more r [] line s is = one-after (line_after r line) ∙ ap (λ (x : Read). line_after x line) (some-value r s is)
after-one-more r (l ∷ whole) line s is = after-through whole line s (line_after r l) (λ n. after-one-more n whole line s) is

stands-line : (old new : Reader) (text : List ℕ) (r : Read) (used : List ℕ) (n : Read) → StandsFor old text r → IsLine (old.begun ++ used)
    → line_after r (old.begun ++ used) ≡ Some n → Shows new n → new.begun ≡ [] → StandsFor new (text ++ used) n
stands-line old new text r used n stands is after shows empty = record {
  whole = stands.whole ++ (old.begun ++ used) ∷ [];
  text_is =
      ap (λ (t : List ℕ). t ++ used) stands.text_is ∙ append_assoc (joined stands.whole) old.begun used
      ∙ sym (joined-one-more stands.whole (old.begun ++ used))
      ∙ sym (append-nil (joined (stands.whole ++ (old.begun ++ used) ∷ [])))
      ∙ ap (λ (b : List ℕ). joined (stands.whole ++ (old.begun ++ used) ∷ []) ++ b) (sym empty);
  lines = all-one-more stands.whole (old.begun ++ used) stands.lines is;
  begun = ap has_no_feed empty;
  read = after-one-more nothing_read stands.whole (old.begun ++ used) r stands.read ∙ after;
  shows = shows;
}

goes-then : (r : Read) (line : List ℕ) (calls : List Numbered) (P Q : Read → Type 0) → ((n : Read) → line_after r line ≡ Some n → P n → Q n)
    → Goes r line calls P → Goes r line calls Q
goes-then r line calls P Q more goes = record { read = goes.read; is = goes.is; calls_are = goes.calls_are; rest = more goes.read goes.is goes.rest }

-- a line's event, and the bytes that were read with it
pub read-next : (old new : Reader) (text : List ℕ) (r : Read) (piece used rest : List ℕ) (event : Event) → StandsFor old text r → piece ≡ used ++ rest
    → IsLine used → Tells r (old.begun ++ used) event (Shows new) → IsFault event ⊎ (new.begun ≡ []) → IsNext old new text r piece event rest
read-next old new text r piece used rest an_event.Begun stands cut line told empty = absurd told
read-next old new text r piece used rest an_event.Passed stands cut line told (inl fault) = absurd fault
read-next old new text r piece used rest an_event.Passed stands cut line told (inr empty) = record {
  used = used;
  piece_is = cut;
  line = line-front old.begun used stands.begun line;
  told = goes-then r (old.begun ++ used) r.calls _ _
      (λ n is rest. (stands-line old new text r used n stands (line-front old.begun used stands.begun line) is rest.0 empty, rest.1, rest.2)) told;
}
read-next old new text r piece used rest (an_event.Setting s metadata) stands cut line told (inl fault) = absurd fault
read-next old new text r piece used rest (an_event.Setting s metadata) stands cut line told (inr empty) = record {
  used = used;
  piece_is = cut;
  line = line-front old.begun used stands.begun line;
  told = goes-then r (old.begun ++ used) r.calls _ _
      (λ n is rest. (stands-line old new text r used n stands (line-front old.begun used stands.begun line) is rest.0 empty, rest.1, rest.2, rest.3, rest.4)) told;
}
read-next old new text r piece used rest (an_event.NoSetting error) stands cut line told (inl fault) = absurd fault
read-next old new text r piece used rest (an_event.NoSetting error) stands cut line told (inr empty) = record {
  used = used;
  piece_is = cut;
  line = line-front old.begun used stands.begun line;
  told = goes-then r (old.begun ++ used) r.calls _ _
      (λ n is rest. (stands-line old new text r used n stands (line-front old.begun used stands.begun line) is rest.0 empty, rest.1, rest.2)) told;
}
read-next old new text r piece used rest (an_event.Call call) stands cut line told (inl fault) = absurd fault
read-next old new text r piece used rest (an_event.Call call) stands cut line told (inr empty) = record {
  used = used;
  piece_is = cut;
  line = line-front old.begun used stands.begun line;
  told = goes-then r (old.begun ++ used) (record { line = r.lines + 1; call = call } ∷ r.calls) _ _
      (λ n is rest. (stands-line old new text r used n stands (line-front old.begun used stands.begun line) is rest.0 empty, rest.1)) told;
}
read-next old new text r piece used rest (an_event.Aside wakeup) stands cut line told (inl fault) = absurd fault
read-next old new text r piece used rest (an_event.Aside wakeup) stands cut line told (inr empty) = record {
  used = used;
  piece_is = cut;
  line = line-front old.begun used stands.begun line;
  told = goes-then r (old.begun ++ used) r.calls _ _
      (λ n is rest. (stands-line old new text r used n stands (line-front old.begun used stands.begun line) is rest.0 empty, rest.1, rest.2)) told;
}
read-next old new text r piece used rest an_event.Fault stands cut line told empty = λ later. record {
  before = stands.whole;
  line = old.begun ++ used;
  later = lines_of (rest ++ later);
  lines_are =
      ap lines_of (
      ap (λ (t : List ℕ). (t ++ piece) ++ later) stands.text_is
      ∙ ap (λ (p : List ℕ). ((joined stands.whole ++ old.begun) ++ p) ++ later) cut
      ∙ append_assoc (joined stands.whole ++ old.begun) (used ++ rest) later
      ∙ append_assoc (joined stands.whole) old.begun ((used ++ rest) ++ later)
      ∙ ap (λ (t : List ℕ). joined stands.whole ++ (old.begun ++ t)) (append_assoc used rest later)
      ∙ ap (λ (t : List ℕ). joined stands.whole ++ t) (sym (append_assoc old.begun used (rest ++ later))))
      ∙ lines-joined stands.whole ((old.begun ++ used) ++ (rest ++ later)) stands.lines
      ∙ ap (λ (l : List (List ℕ)). stands.whole ++ l) (line-next (old.begun ++ used) (rest ++ later) (line-front old.begun used stands.begun line));
  read = stands.read;
  fault = told;
}

-- ---- a line that isn't whole

pub record BeginsLong (xs later : List ℕ) : Type 0 where
  pub line : List ℕ
  pub lines : List (List ℕ)
  pub is : lines_of (xs ++ later) ≡ line ∷ lines
  pub long : length xs ≤ length line

front-long : (b : ℕ) (ls : List (List ℕ)) → (line : List ℕ) × (lines : List (List ℕ)) × (in_front b ls ≡ line ∷ lines) × (1 ≤ length line)
front-long b [] = (b ∷ [], [], refl, omega arith)
front-long b (l ∷ ls) = (b ∷ l, ls, refl, omega arith)

pub begins-long : (xs later : List ℕ) → has_no_feed xs ≡ true → xs ≢ [] → BeginsLong xs later
unfolding lines_of
begins-long [] later none some = absurd (some refl)
begins-long (b ∷ []) later none some = elim (cases_Bool (b == 10)) [
  | inl feed ↦ cc (rw feed at none)
  | inr other ↦
      let f = front-long b (lines_of later) in
      record { line = f.0; lines = f.1; is = rw other f.2; long = f.3 }
]
begins-long (b ∷ c ∷ bs) later none some = elim (cases_Bool (b == 10)) [
  | inl feed ↦ cc (rw feed at none)
  | inr other ↦
      let rest = begins-long (c ∷ bs) later (rw other at none) (λ e. cc e) in
      record { line = b ∷ rest.line; lines = rest.lines; is = rw other (ap (in_front b) rest.is); long = omega (arith, rest.long) }
]

not-empty : (xs : List ℕ) → 0 < length xs → xs ≢ []
not-empty [] some is = omega (arith, some)
not-empty (x ∷ xs) some is = cc is

pub kept-next : (old new : Reader) (text : List ℕ) (r : Read) (piece : List ℕ) → StandsFor old text r
    → has_no_feed piece ≡ true → IsKept old new piece true → StandsFor new (text ++ piece) r
kept-next old new text r piece stands feed kept = rw kept.0 (record {
  whole = stands.whole;
  text_is = ap (λ (t : List ℕ). t ++ piece) stands.text_is ∙ append_assoc (joined stands.whole) old.begun piece;
  lines = stands.lines;
  begun = no-feed-both old.begun piece stands.begun feed;
  read = stands.read;
  shows = record { next = stands.shows.next; header = stands.shows.header; time = stands.shows.time; lines = stands.shows.lines };
})

pub long-next : (old : Reader) (text : List ℕ) (r : Read) (piece later : List ℕ) → StandsFor old text r
    → has_no_feed piece ≡ true → most_bytes < length old.begun + length piece → HasFault (text ++ piece ++ later) r
long-next old text r piece later stands feed kept =
    let long : most_bytes < length (old.begun ++ piece) = rw (length-append old.begun piece) kept in
    let first = begins-long (old.begun ++ piece) later (no-feed-both old.begun piece stands.begun feed) (not-empty (old.begun ++ piece) (omega (arith, long))) in
    record {
      before = stands.whole;
      line = first.line;
      later = first.lines;
      lines_are =
          ap lines_of (
          ap (λ (t : List ℕ). (t ++ piece) ++ later) stands.text_is
          ∙ append_assoc (joined stands.whole ++ old.begun) piece later
          ∙ append_assoc (joined stands.whole) old.begun (piece ++ later)
          ∙ ap (λ (t : List ℕ). joined stands.whole ++ t) (sym (append_assoc old.begun piece later)))
          ∙ lines-joined stands.whole ((old.begun ++ piece) ++ later) stands.lines
          ∙ ap (λ (l : List (List ℕ)). stands.whole ++ l) first.is;
      read = stands.read;
      fault = line-long r first.line (omega (arith, long, first.long));
    }
