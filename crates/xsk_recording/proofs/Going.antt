-- One line more: what it leaves.
use Rattle.std.proofs.Common.{◌≡◌, ℕ, ◌+◌, ◌≤◌, Option, Some, None, List, [], ◌∷◌, ◌++◌, length, refl, sym, ap, subst, ◌∙◌, arith, false, inl, inr}
use Rattle.std.specs.Prelude.{IfSome, ◌&&◌, nat_le, nat_lt, unwrap_or, codes}
use Rattle.std.proofs.lemmas.Bool.{cases_Bool, ltb-true, ltb-false}
use Rattle.xsk_lines.specs.Reading.{◌>>=◌, choose, word_at}
use Rattle.xsk_recording.specs.Line.{line_at, is_ended}
use Rattle.xsk_recording.specs.Header.{Header, header_after, towards, umem_at, pair_at, socket_at, kernel_at, with_setting, with_pair, with_socket, with_kernel, umem_line, pair_line, socket_line, kernel_line}
use Rattle.xsk_recording.specs.Text.{Read, line_after, body_after, call_after, with_told, with_aside, most_bytes, most_lines, ends_line}
use Rattle.xsk_recording.specs.Feeding.{is_calls}
use Rattle.xsk_recording.specs.declared.head.Next.{Next}
use Rattle.xsk_recording.specs.declared.head.Next.TheVariants.{Title, Umem, Pairs, Sockets, Mark, Calls}
use Rattle.xsk_recording.specs.declared.line.Told.{Told}
use Rattle.xsk_recording.specs.declared.line.Told.TheVariants.{Aside}
use Rattle.xsk_recording.specs.declared.line.Timed.{Timed}
use Rattle.xsk_recording.specs.declared.wakeup.Wakeup.TheVariants.{Kick}
use Rattle.xsk_model.specs.declared.call.Ring.TheVariants.{Fill}
use Rattle.xsk_recording.proofs.Lines.{line-late}
use Rattle.xsk_recording.proofs.Small.{if-bound, if-chosen, if-tested, IsSmall, IsSmallLine, line-small}

some-value : {A : Type 0} (x y : A) → ◌≡◌ {A = Option A} (Some x) (Some y) → x ≡ y
some-value {A} x y e = ap (λ (r : Option A). unwrap_or r x) e

-- ---- the header

-- not the line `calls`
abbrev IsEarly : Header → Type 0
IsEarly h = is_calls h.next ≡ false

umem-early : (h : Header) (xs : List ℕ) → IfSome (umem_line h xs) IsEarly
umem-early h xs = if-bound IsEarly (umem_at xs) (λ g. Some (with_setting Pairs h (record h.setting { geometry = g }))) (λ g. refl)

pair-early : (h : Header) (xs : List ℕ) → IfSome (pair_line h xs) IsEarly
pair-early h xs =
    if-bound IsEarly (pair_at xs) (with_pair h)
    (λ pair.
    if-tested IsEarly (nat_lt (length h.setting.pairs) 64) (Some (with_setting Pairs h (record h.setting { pairs = h.setting.pairs ++ pair ∷ [] }))) None refl tt)

socket-early : (h : Header) (xs : List ℕ) → IfSome (socket_line h xs) IsEarly
socket-early h xs =
    if-bound IsEarly (socket_at xs) (with_socket h)
    (λ socket.
    if-tested IsEarly (nat_lt (length h.setting.sockets) 64)
    (Some (with_setting Sockets h (record h.setting { sockets = h.setting.sockets ++ socket ∷ [] }))) None refl tt)

kernel-early : (h : Header) (xs : List ℕ) → IfSome (kernel_line h xs) IsEarly
kernel-early h xs = if-bound IsEarly (kernel_at xs) (λ told. Some (with_kernel h told)) (λ told. refl)

-- ---- what a line leaves, by the line that came next

-- up to the line of the kernel another follows, and no calls are told; behind it what the header has told stays
abbrev pub Leads : Next → Read → Read → Type 0
Leads Title r n = (is_calls n.header.next ≡ false) × (n.calls ≡ r.calls)
Leads Umem r n = (is_calls n.header.next ≡ false) × (n.calls ≡ r.calls)
Leads Pairs r n = (is_calls n.header.next ≡ false) × (n.calls ≡ r.calls)
Leads Sockets r n = (is_calls n.header.next ≡ false) × (n.calls ≡ r.calls)
Leads Mark r n = (n.header ≡ towards Calls r.header) × (n.calls ≡ r.calls)
Leads Calls r n = n.header ≡ r.header

pub record IsStep (r n : Read) : Type 0 where
  pub told : Told
  pub small : IsSmall told
  pub calls : n.calls ≡ with_told (r.lines + 1) r.calls told
  pub lines : n.lines ≡ r.lines + 1
  pub leads : Leads r.header.next r n

abbrev HasStep : Next → Read → Read → Type 0
HasStep next r n = (told : Told) × IsSmall told × (n.calls ≡ with_told (r.lines + 1) r.calls told) × (n.lines ≡ r.lines + 1) × Leads next r n

-- a line of the header that leads to such headers
header-step : (next : Next) (r n : Read) (P : Header → Type 0) (h : Option Header) → ((header : Header) → P header → Leads next r (record r { header = header; lines = r.lines + 1 }))
    → IfSome h P → (h >>= λ header. Some (record r { header = header; lines = r.lines + 1 })) ≡ Some n → HasStep next r n
header-step next r n P None leads is after = cc after
header-step next r n P (Some h) leads is after =
    let m : Read = record r { header = h; lines = r.lines + 1 } in
    let same : m ≡ n = some-value m n after in
    (Aside (Kick (Fill 0)), tt, sym (ap (λ (x : Read). x.calls) same), sym (ap (λ (x : Read). x.lines) same), subst (Leads next r) same (leads h is))

call-step : (r n : Read) (t : Option Timed) → IfSome t IsSmallLine → (t >>= call_after r) ≡ Some n → HasStep Calls r n
call-step r n None small after = cc after
call-step r n (Some t) small after = elim (cases_Bool (nat_lt t.time r.time)) [
  | inl early ↦ cc (rw early at after)
  | inr later ↦
      let m : Read = record r { time = t.time; lines = r.lines + 1; calls = with_told (r.lines + 1) r.calls t.told; asides = with_aside (r.lines + 1) r.asides t.told } in
      let same : m ≡ n = some-value m n (rw later at after) in (
        t.told,
        small,
        sym (ap (λ (x : Read). x.calls) same),
        sym (ap (λ (x : Read). x.lines) same),
        sym (ap (λ (x : Read). x.header) same),
      )
]

abbrev IsMarked : Header → Header → Type 0
IsMarked before h = h ≡ towards Calls before

body-step : (next : Next) (r n : Read) (xs : List ℕ) → r.header.next ≡ next → body_after next r xs ≡ Some n → HasStep next r n
body-step Title r n xs is after =
    header-step Title r n IsEarly (header_after r.header xs) (λ header early. (early, refl))
    (rw is (if-tested IsEarly (is_ended (codes "xsk recording 1") xs) (Some (towards Umem r.header)) None refl tt)) after
body-step Umem r n xs is after =
    header-step Umem r n IsEarly (header_after r.header xs) (λ header early. (early, refl))
    (rw is (if-bound IsEarly (word_at (codes "umem ") xs) (umem_line r.header) (umem-early r.header))) after
body-step Pairs r n xs is after =
    header-step Pairs r n IsEarly (header_after r.header xs) (λ header early. (early, refl))
    (rw is (
    if-chosen IsEarly (word_at (codes "pair ") xs) (pair_line r.header) (choose (word_at (codes "socket ") xs) (socket_line r.header) None) (pair-early r.header)
    (if-chosen IsEarly (word_at (codes "socket ") xs) (socket_line r.header) None (socket-early r.header) tt))) after
body-step Sockets r n xs is after =
    header-step Sockets r n IsEarly (header_after r.header xs) (λ header early. (early, refl))
    (rw is (
    if-chosen IsEarly (word_at (codes "socket ") xs) (socket_line r.header) (choose (word_at (codes "kernel") xs) (kernel_line r.header) None) (socket-early r.header)
    (if-chosen IsEarly (word_at (codes "kernel") xs) (kernel_line r.header) None (kernel-early r.header) tt))) after
body-step Mark r n xs is after =
    header-step Mark r n (IsMarked r.header) (header_after r.header xs) (λ header marked. (marked, refl))
    (rw is (if-tested (IsMarked r.header) (is_ended (codes "calls") xs) (Some (towards Calls r.header)) None refl tt)) after
body-step Calls r n xs is after = call-step r n (line_at xs) (line-small xs) after

pub line-step : (r n : Read) (xs : List ℕ) → line_after r xs ≡ Some n → IsStep r n
unfolding line_after
line-step r n xs after = elim (cases_Bool (nat_le (length xs) most_bytes && nat_lt r.lines most_lines && ends_line xs)) [
  | inl whole ↦
      let step = body-step r.header.next r n xs refl (rw whole at after) in
      record { told = step.0; small = step.1; calls = step.2; lines = step.3; leads = step.4 }
  | inr other ↦ cc (rw other at after)
]

-- a line that may be read isn't one too many
pub line-within : (r n : Read) (xs : List ℕ) → line_after r xs ≡ Some n → r.lines + 1 ≤ most_lines
line-within r n xs after = elim (cases_Bool (nat_lt r.lines most_lines)) [
  | inl few ↦ omega (arith, ltb-true r.lines most_lines few)
  | inr late ↦ cc (sym (line-late r xs (ltb-false r.lines most_lines late)) ∙ after)
]
