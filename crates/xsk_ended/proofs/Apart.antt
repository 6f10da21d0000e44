-- A packet that is to bounce is delivered to no socket, whatever cells were lowered. So what is delivered and what bounces is no more than
-- what comes.
use Rattle.std.proofs.Common.{◌≡◌, ℕ, ◌+◌, ◌≤◌, Bool, true, false, cond, not, ◌&&◌, nat_lt, List, [], ◌∷◌, ◌++◌, length, drop, refl, sym, ap, ◌∙◌, subst, arith, append-nil, append_assoc}
use Rattle.std.proofs.Math.Bool.{and-false}
use Rattle.xsk_model.specs.Config.{Config, classes_of}
use Rattle.xsk_turns.proofs.Calls.{Told, Call}
use Rattle.xsk_turns.specs.Turns.{Seat, Judged, Kept, seat_of, start, turn, settled, IsWholeDriverRun}
use Rattle.xsk_turns.specs.Disposals.{attempts_of, disposals_of}
use Rattle.xsk_turns.specs.SentWith.{bounces_at, bouncing}
use Rattle.xsk_turns.specs.declared.wire.Wire.{Wire}
use Rattle.xsk_turns.specs.declared.disposal.Disposal.{Disposal}
use Rattle.xsk_turns.specs.declared.disposal.Disposal.TheVariants.{Delivered, NoFrames, RxFull, TooLong, Missed, Bounced}
use Rattle.xsk_turns.proofs.Walks.{Anything, meet_anything}
use Rattle.xsk_turns.proofs.DriverStages.{Family, IsNext, told_rx_done, told_bounced, looked_none, looked_long, rx_submitted, looked_tx_done, found_end, untried, drops_full, drops_frameless, untried_has, AtEntries, AtSilent, IsLaw}
use Rattle.xsk_turns.proofs.DriverWalk.{at_end}
use Rattle.xsk_turns.proofs.Disposing.{IsOver, over_later, disposes_all}
use Rattle.xsk_turns.specs.Totals.{total}
use Rattle.xsk_laws.proofs.Totals.{total-cond, cond_few, is_from, delivered_from}

-- ---- packets and their disposals

abbrev pub IsApart : Judged → Disposal → Type 0
IsApart packet d = bounces_at packet ≡ true → (n : ℕ) → is_from n d ≡ false

abbrev pub AreApart : List Judged → List Disposal → Type 0
AreApart [] [] = Unit {0}
AreApart [] (d ∷ ds) = ⊥
AreApart (packet ∷ packets) [] = ⊥
AreApart (packet ∷ packets) (d ∷ ds) = IsApart packet d × AreApart packets ds

apart_more : (packets : List Judged) (ds : List Disposal) (packet : Judged) (d : Disposal) → AreApart packets ds → IsApart packet d → AreApart (packets ++ packet ∷ []) (ds ++ d ∷ [])
apart_more [] [] packet d h one = (one, tt)
apart_more [] (e ∷ ds) packet d h one = absurd h
apart_more (p ∷ packets) [] packet d h one = absurd h
apart_more (p ∷ packets) (e ∷ ds) packet d h one = (h.0, apart_more packets ds packet d h.1 one)

-- ---- the law

module _ (wire : Wire) (c : Config) (pair : ℕ) (input : List Judged) where
  abbrev seat : Seat
  seat = seat_of wire c pair

  record HasApart (ds : List Disposal) (coming : List Judged) (rx_done tx_done : Bool) : Type 0 where
    pub done : List Judged
    pub parts : done ++ coming ≡ input
    pub apart : AreApart done ds
    pub over : IsOver rx_done tx_done coming

  abbrev Apart : Kept → List Told → Type 0
  Apart kept l = HasApart kept.disposals kept.coming kept.rx_done kept.tx_done

  abbrev At : Family
  At place noted kept l = Apart kept l

  abbrev Asked : Kept → Call → List Told → Type 0
  Asked kept call l = Unit {0}

  abbrev Ended : Kept → List Told → Type 0
  Ended kept l = AreApart input kept.disposals

  settles : (kept : Kept) (packet : Judged) (later : List Judged) (x : Disposal) (l : List Told) → kept.coming ≡ packet ∷ later → IsApart packet x → Apart kept l → Apart (settled kept x) l
  settles kept packet later x l e one h = record {
    done = h.done ++ packet ∷ [];
    parts = append_assoc h.done (packet ∷ []) (drop 1 kept.coming) ∙ ap (λ xs. h.done ++ packet ∷ drop 1 xs) e ∙ ap (λ xs. h.done ++ xs) (sym e) ∙ h.parts;
    apart = apart_more h.done kept.disposals packet x h.apart one;
    over = over_later kept.rx_done kept.tx_done kept.coming h.over;
  }

  -- a packet that is tried doesn't bounce
  stays : (coming : List Judged) (packet : Judged) (x : Disposal) → IsNext seat coming packet → IsApart packet x
  stays coming packet x next e n =
      absurd (let no : false ≡ true = sym (ap (λ b. not (nat_lt (length packet.bytes) 14) && b) next.stays ∙ and-false (not (nat_lt (length packet.bytes) 14))) ∙ e in cc)

  entries : AtEntries seat Anything At Asked
  entries (told_rx_done n) noted kept l known found h a q = record { done = h.done; parts = h.parts; apart = h.apart; over = record { none = λ x. known.0; first = λ x. refl } }
  entries (told_bounced packet n) noted kept l known found h a q = settles kept packet known.later Bounced l known.is (λ e m. refl) h
  entries (looked_none packet n) noted kept l known found h a q = settles kept packet known.later Missed l known.is (λ e m. refl) h
  entries (looked_long packet n t) noted kept l known found h a q = settles kept packet known.later TooLong l known.is (λ e m. refl) h
  entries (rx_submitted packet t) noted kept l known found h a q = settles kept packet known.0.next.later (Delivered t) l known.0.next.is (stays kept.coming packet (Delivered t) known.0.next) h
  entries (looked_tx_done n) noted kept l known found h a q = record { done = h.done; parts = h.parts; apart = h.apart; over = record { none = h.over.none; first = λ x. known.0 } }
  entries (found_end n) noted kept l known found h a q = record { done = h.done; parts = h.parts; apart = h.apart; over = record { none = h.over.none; first = λ x. known.1 } }
  entries e noted kept l known found h a q = h

  silent : AtSilent seat Anything At
  silent (untried packet later d) noted kept l = λ h e.
      settles kept packet later d l e.0 (λ f. untried_has (λ x. (m : ℕ) → is_from m x ≡ false) (λ m. refl) (λ m. refl) (λ m. refl) (λ m. refl) seat packet d e.1) h
  silent (drops_full packet t) noted kept l = λ h e. settles kept packet e.0.next.later RxFull l e.0.next.is (λ f m. refl) h
  silent (drops_frameless packet t) noted kept l = λ h e.
      let now = settles kept packet e.0.next.later NoFrames l e.0.next.is (λ f m. refl) h in record { done = now.done; parts = now.parts; apart = now.apart; over = now.over }
  silent p noted kept l = λ h e. h

  all_apart : (kept : Kept) (l : List Told) → kept.coming ≡ [] → Apart kept l → AreApart input kept.disposals
  all_apart kept l e h = subst (λ xs. AreApart xs kept.disposals) (sym (append-nil h.done) ∙ ap (λ xs. h.done ++ xs) (sym e) ∙ h.parts) h.apart

  law : IsLaw seat Anything At Asked Ended
  law = record {
    calls = λ p noted kept l known h. tt;
    entries = entries;
    silent = silent;
    ends = λ noted kept l n known h a q. all_apart kept l (h.over.none (h.over.first known.2)) h;
  }

pub disposed_apart : (wire : Wire) (c : Config) (pair : ℕ) (input : List Judged) (l : List Told) → IsWholeDriverRun wire c pair input l
    → AreApart input (disposals_of (seat_of wire c pair) input (attempts_of l))
disposed_apart wire c pair input l whole =
    let seat = seat_of wire c pair in
    let begins = start (classes_of c) input in
    subst (AreApart input) (disposes_all wire c pair input l whole.0 whole.1).disposals
    (at_end seat Anything (At wire c pair input) (Asked wire c pair input) (Ended wire c pair input) (law wire c pair input) begins
    (record { done = []; parts = refl; apart = tt; over = record { none = λ e. absurd (cc); first = λ e. absurd (cc) } }) l (meet_anything (turn seat) (turn seat begins) [] l) whole.0 whole.1)

-- ---- sums

leaves_once : (n size : ℕ) (packet : Judged) (d : Disposal) → IsApart packet d → cond (is_from n d) size 0 + cond (bounces_at packet) size 0 ≤ size
leaves_once n size packet d apart = by (bounces_at packet) refl
  where
    by : (b : Bool) → bounces_at packet ≡ b → cond (is_from n d) size 0 + cond b size 0 ≤ size
    by false e = omega (arith, cond_few (is_from n d) size)
    by true e = omega (arith, ap (λ b. cond b size 0) (apart e n))

-- what is delivered and what bounces is no more than what comes
pub leaving_within : (f : List ℕ → ℕ) (n : ℕ) (input : List Judged) (ds : List Disposal) → AreApart input ds
    → total f (delivered_from n input ds) + total f (bouncing input) ≤ total (λ (x : Judged). f x.bytes) input
leaving_within f n [] [] h = omega arith
leaving_within f n [] (d ∷ ds) h = absurd h
leaving_within f n (packet ∷ input) [] h = absurd h
leaving_within f n (packet ∷ input) (d ∷ ds) h =
    omega (
      arith,
      leaves_once n (f packet.bytes) packet d h.0,
      leaving_within f n input ds h.1,
      total-cond f (is_from n d) packet.bytes (delivered_from n input ds),
      total-cond f (bounces_at packet) packet.bytes (bouncing input),
    )
