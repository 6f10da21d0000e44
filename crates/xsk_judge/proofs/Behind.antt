-- What a judge keeps behind a call is what the calls leave.
use Rattle.std.proofs.Common.{◌≡◌, ℕ, zero, suc, ◌+◌, ◌<◌, ◌≤◌, ◌⊎◌, Bool, true, false, ◌&&◌, ◌||◌, not, cond, ◌==◌, Some, None, List, [], ◌∷◌, ◌++◌, length, get_or, set, refl, sym, ap, ◌∙◌, subst, arith, ⊎_elim, get_or-set_same, get_or-set_other}
use Rattle.std.specs.Prelude.{nat_lt, IsTrue}
use Rattle.std.proofs.lemmas.Bool.{cases_Bool}
use Rattle.std.proofs.lemmas.Bool.Decides.{nat_tests}
use Rattle.xsk_umem.specs.declared.batch.XdpDesc.{XdpDesc}
use Rattle.xsk_model.specs.declared.call.Ring.{Ring}
use Rattle.xsk_model.specs.declared.call.Ring.TheVariants.{Fill, Comp, Rx, Tx}
use Rattle.xsk_model.specs.Descriptor.{is_inside}
use Rattle.xsk_model.specs.Rings.{is_ring}
use Rattle.xsk_model.proofs.Places.{is_ring-self}
use Rattle.xsk_side.specs.Setting.{Setting, HasRing}
use Rattle.xsk_side.specs.Entries.{frame, times, stands}
use Rattle.xsk_side.specs.Object.{is_made, ring_of}
use Rattle.xsk_side.specs.Own.{Held, touch, room_of, room_after, held_of, put_back, has_frame}
use Rattle.xsk_side.specs.Possible.{Possible}
use Rattle.xsk_side.specs.Local.{sure_of, sure_after, given_of}
use Rattle.xsk_side.specs.declared.call.Call.{Call}
use Rattle.xsk_side.specs.declared.call.Call.TheVariants.{Submit, Peek, Cancel}
use Rattle.xsk_side.proofs.Lists.{number, times-append}
use Rattle.xsk_side.proofs.Rings.{same_or, is_true, is_false}
use Rattle.xsk_side.proofs.Frames.{IsFresh, times_fresh, frames_sound}
use Rattle.xsk_side.proofs.Given.{some_or_none}
use Rattle.xsk_judge.specs.declared.known.Spot.TheVariants.{Shown, On, Back}
use Rattle.xsk_judge.specs.declared.known.Known.{Known}
use Rattle.xsk_judge.specs.declared.known.End.{End}
use Rattle.xsk_judge.specs.Kept.{Queue, Kept, is_as, known_in, place, end_at, queue_at}
use Rattle.xsk_judge.specs.Judging.{IsFor, again, given, is_latest, marked, peeked}
use Rattle.xsk_judge.specs.Stands.{Line, IsKnown, StandsFor, again_since, calls_of, is_cancel, moves, shown_of, shows, since_of, spot_behind, spot_of}
use Rattle.xsk_judge.proofs.Marking.{length-marked, marked-all, marked-none, inside_below}
use Rattle.xsk_judge.proofs.Coming.{marked-one}

-- ---- places of rings

pub apart_made : (s : Setting) (r q : Ring) → is_made r ≡ true → is_made q ≡ true → HasRing s r → HasRing s q → place s r ≡ place s q → r ≡ q
apart_made s (Fill d) (Fill e) m n h k p = ap Fill p
apart_made s (Fill d) (Tx t) m n h k p = absurd (omega (arith, h, p))
apart_made s (Tx t) (Fill e) m n h k p = absurd (omega (arith, k, p))
apart_made s (Tx t) (Tx u) m n h k p = let same : t ≡ u = omega (arith, p) in ap Tx same
apart_made s (Fill d) (Comp e) m n h k p = absurd (cc)
apart_made s (Fill d) (Rx e) m n h k p = absurd (cc)
apart_made s (Tx d) (Comp e) m n h k p = absurd (cc)
apart_made s (Tx d) (Rx e) m n h k p = absurd (cc)
apart_made s (Comp d) q m n h k p = absurd (cc)
apart_made s (Rx d) q m n h k p = absurd (cc)

apart_unmade : (s : Setting) (r q : Ring) → is_made r ≡ false → is_made q ≡ false → HasRing s r → HasRing s q → place s r ≡ place s q → r ≡ q
apart_unmade s (Comp d) (Comp e) m n h k p = ap Comp p
apart_unmade s (Comp d) (Rx t) m n h k p = absurd (omega (arith, h, p))
apart_unmade s (Rx t) (Comp e) m n h k p = absurd (omega (arith, k, p))
apart_unmade s (Rx t) (Rx u) m n h k p = let same : t ≡ u = omega (arith, p) in ap Rx same
apart_unmade s (Comp d) (Fill e) m n h k p = absurd (cc)
apart_unmade s (Comp d) (Tx e) m n h k p = absurd (cc)
apart_unmade s (Rx d) (Fill e) m n h k p = absurd (cc)
apart_unmade s (Rx d) (Tx e) m n h k p = absurd (cc)
apart_unmade s (Fill d) q m n h k p = absurd (cc)
apart_unmade s (Tx d) q m n h k p = absurd (cc)

pub place_below : (s : Setting) (r : Ring) → HasRing s r → place s r < length s.pairs + length s.sockets
place_below s (Fill d) h = omega (arith, h)
place_below s (Comp d) h = omega (arith, h)
place_below s (Rx k) h = omega (arith, h.0)
place_below s (Tx k) h = omega (arith, h.0)

abbrev pub no_end : End
no_end = record { room = 0; sure = 0; shown = 0 }

abbrev pub no_queue : Queue
no_queue = record { entries = []; held = 0; first = 0; size = 0; again = 0 }

pub differs : (r q : Ring) → is_ring r q ≡ false → r ≡ q → ⊥
differs r q h e = both (is_ring r q) (subst (λ x. is_ring r x ≡ true) e (is_ring-self r)) h
  where
    both : (b : Bool) → b ≡ true → b ≡ false → ⊥
    both true h k = cc
    both false h k = cc

-- another FILL or TX, and another RX or COMPLETION
pub end_else : (s : Setting) (ends : List End) (r q : Ring) (end : End) → is_made r ≡ true → is_made q ≡ true → HasRing s r → HasRing s q → is_ring r q ≡ false
    → get_or (set ends (place s q) end) (place s r) no_end ≡ get_or ends (place s r) no_end
end_else s ends r q end m n h k off = get_or-set_other ends (place s q) (place s r) end no_end (λ p. differs r q off (apart_made s r q m n h k p))

pub end_here : (s : Setting) (ends : List End) (q : Ring) (end : End) → length ends ≡ length s.pairs + length s.sockets → HasRing s q
    → get_or (set ends (place s q) end) (place s q) no_end ≡ end
end_here s ends q end size has = get_or-set_same ends (place s q) end no_end (omega (arith, size, place_below s q has))

pub queue_else : (s : Setting) (queues : List Queue) (r q : Ring) (queue : Queue) → is_made r ≡ false → is_made q ≡ false → HasRing s r → HasRing s q → is_ring r q ≡ false
    → get_or (set queues (place s q) queue) (place s r) no_queue ≡ get_or queues (place s r) no_queue
queue_else s queues r q queue m n h k off = get_or-set_other queues (place s q) (place s r) queue no_queue (λ p. differs r q off (apart_unmade s r q m n h k p))

pub queue_here : (s : Setting) (queues : List Queue) (q : Ring) (queue : Queue) → length queues ≡ length s.pairs + length s.sockets → HasRing s q
    → get_or (set queues (place s q) queue) (place s q) no_queue ≡ queue
queue_here s queues q queue size has = get_or-set_same queues (place s q) queue no_queue (omega (arith, size, place_below s q has))

-- ---- FILL and TX behind a call on one of them

-- what a call on q makes of the end
pub record IsEnd (s : Setting) (kept : Kept) (call : Call) (ends : List End) : Type 0 where
  pub ring : is_made (ring_of call) ≡ true
  pub known : HasRing s (ring_of call)
  pub end : End
  pub is : ends ≡ set kept.ends (place s (ring_of call)) end
  pub room : end.room ≡ room_after (end_at s kept (ring_of call)).room call
  pub sure : end.sure ≡ sure_after (end_at s kept (ring_of call)).sure call

pub room_behind : (s : Setting) (kept : Kept) (lines : List Line) (line : ℕ) (call : Call) (ends : List End) (r : Ring) → IsFor s kept → StandsFor s kept lines → IsEnd s kept call ends
    → HasRing s r → is_made r ≡ true → (get_or ends (place s r) no_end).room ≡ room_of r (calls_of (record { line = line; call = call } ∷ lines))
room_behind s kept lines line call ends r for now h has made =
    let q = ring_of call in let calls = calls_of lines in
    ⊎_elim
    (λ (e : r ≡ q). subst (λ x. (get_or ends (place s x) no_end).room ≡ room_of x (call ∷ calls)) (sym e)
    (ap (λ xs. (get_or xs (place s q) no_end).room) h.is
    ∙ ap (λ (x : End). x.room) (end_here s kept.ends q h.end for.ends h.known)
    ∙ h.room
    ∙ ap (λ k. room_after k call) (now.room q h.known h.ring)
    ∙ sym (is_true (is_ring q q) (room_after (room_of q calls) call) (room_of q calls) (is_ring-self q))))
    (λ (off : is_ring r q ≡ false).
    ap (λ xs. (get_or xs (place s r) no_end).room) h.is
    ∙ ap (λ (x : End). x.room) (end_else s kept.ends r q h.end made h.ring has h.known off)
    ∙ now.room r has made
    ∙ sym (is_false (is_ring r q) (room_after (room_of r calls) call) (room_of r calls) off))
    (same_or r q)

pub sure_behind : (s : Setting) (kept : Kept) (lines : List Line) (line : ℕ) (call : Call) (ends : List End) (r : Ring) → IsFor s kept → StandsFor s kept lines → IsEnd s kept call ends
    → HasRing s r → is_made r ≡ true → (get_or ends (place s r) no_end).sure ≡ sure_of s r (calls_of (record { line = line; call = call } ∷ lines))
sure_behind s kept lines line call ends r for now h has made =
    let q = ring_of call in let calls = calls_of lines in
    ⊎_elim
    (λ (e : r ≡ q). subst (λ x. (get_or ends (place s x) no_end).sure ≡ sure_of s x (call ∷ calls)) (sym e)
    (ap (λ xs. (get_or xs (place s q) no_end).sure) h.is
    ∙ ap (λ (x : End). x.sure) (end_here s kept.ends q h.end for.ends h.known)
    ∙ h.sure
    ∙ ap (λ k. sure_after k call) (now.sure q h.known h.ring)
    ∙ sym (is_true (is_ring q q) (sure_after (sure_of s q calls) call) (sure_of s q calls) (is_ring-self q))))
    (λ (off : is_ring r q ≡ false).
    ap (λ xs. (get_or xs (place s r) no_end).sure) h.is
    ∙ ap (λ (x : End). x.sure) (end_else s kept.ends r q h.end made h.ring has h.known off)
    ∙ now.sure r has made
    ∙ sym (is_false (is_ring r q) (sure_after (sure_of s r calls) call) (sure_of s r calls) off))
    (same_or r q)

pub shown_behind : (s : Setting) (kept : Kept) (lines : List Line) (line : ℕ) (call : Call) (ends : List End) (r : Ring) → IsFor s kept → StandsFor s kept lines → (h : IsEnd s kept call ends)
    → h.end.shown ≡ cond (shows (end_at s kept (ring_of call)).sure call) line (end_at s kept (ring_of call)).shown
    → HasRing s r → is_made r ≡ true → (get_or ends (place s r) no_end).shown ≡ shown_of s r (record { line = line; call = call } ∷ lines)
shown_behind s kept lines line call ends r for now h shown has made =
    let q = ring_of call in let calls = calls_of lines in
    ⊎_elim
    (λ (e : r ≡ q). subst (λ x. (get_or ends (place s x) no_end).shown ≡ shown_of s x (record { line = line; call = call } ∷ lines)) (sym e)
    (ap (λ xs. (get_or xs (place s q) no_end).shown) h.is
    ∙ ap (λ (x : End). x.shown) (end_here s kept.ends q h.end for.ends h.known)
    ∙ shown
    ∙ ap (λ k. cond (shows k call) line (end_at s kept q).shown) (now.sure q h.known h.ring)
    ∙ ap (λ k. cond (shows (sure_of s q calls) call) line k) (now.shown q h.known h.ring)
    ∙ sym (ap (λ b. cond (b && shows (sure_of s q calls) call) line (shown_of s q lines)) (is_ring-self q))))
    (λ (off : is_ring r q ≡ false).
    ap (λ xs. (get_or xs (place s r) no_end).shown) h.is
    ∙ ap (λ (x : End). x.shown) (end_else s kept.ends r q h.end made h.ring has h.known off)
    ∙ now.shown r has made
    ∙ sym (ap (λ b. cond (b && shows (sure_of s r calls) call) line (shown_of s r lines)) off))
    (same_or r q)

-- behind a call on another kind of ring
pub unlike : (r q : Ring) → is_made r ≡ true → is_made q ≡ false → is_ring r q ≡ false
unlike (Fill d) (Comp e) m n = refl
unlike (Fill d) (Rx e) m n = refl
unlike (Tx d) (Comp e) m n = refl
unlike (Tx d) (Rx e) m n = refl
unlike (Fill d) (Fill e) m n = absurd (cc)
unlike (Fill d) (Tx e) m n = absurd (cc)
unlike (Tx d) (Fill e) m n = absurd (cc)
unlike (Tx d) (Tx e) m n = absurd (cc)
unlike (Comp d) q m n = absurd (cc)
unlike (Rx d) q m n = absurd (cc)

pub room_same : (s : Setting) (kept : Kept) (lines : List Line) (line : ℕ) (call : Call) (r : Ring) → StandsFor s kept lines → is_made (ring_of call) ≡ false → HasRing s r → is_made r ≡ true
    → (end_at s kept r).room ≡ room_of r (calls_of (record { line = line; call = call } ∷ lines))
room_same s kept lines line call r now q_unmade has made =
    now.room r has made ∙ sym (is_false (is_ring r (ring_of call)) (room_after (room_of r (calls_of lines)) call) (room_of r (calls_of lines)) (unlike r (ring_of call) made q_unmade))

pub sure_same : (s : Setting) (kept : Kept) (lines : List Line) (line : ℕ) (call : Call) (r : Ring) → StandsFor s kept lines → is_made (ring_of call) ≡ false → HasRing s r → is_made r ≡ true
    → (end_at s kept r).sure ≡ sure_of s r (calls_of (record { line = line; call = call } ∷ lines))
sure_same s kept lines line call r now q_unmade has made =
    now.sure r has made ∙ sym (is_false (is_ring r (ring_of call)) (sure_after (sure_of s r (calls_of lines)) call) (sure_of s r (calls_of lines)) (unlike r (ring_of call) made q_unmade))

pub shown_same : (s : Setting) (kept : Kept) (lines : List Line) (line : ℕ) (call : Call) (r : Ring) → StandsFor s kept lines → is_made (ring_of call) ≡ false → HasRing s r → is_made r ≡ true
    → (end_at s kept r).shown ≡ shown_of s r (record { line = line; call = call } ∷ lines)
shown_same s kept lines line call r now q_unmade has made =
    now.shown r has made ∙ sym (ap (λ b. cond (b && shows (sure_of s r (calls_of lines)) call) line (shown_of s r lines)) (unlike r (ring_of call) made q_unmade))

-- ---- since when entries stand there again

no_cancel : (b c : Bool) (line x : ℕ) → c ≡ false → x ≡ cond (b && c) line x
no_cancel true c line x h = sym (is_false c line x h)
no_cancel false c line x h = refl

pub again_plain : (s : Setting) (kept : Kept) (lines : List Line) (line : ℕ) (call : Call) (r : Ring) → StandsFor s kept lines → is_cancel call ≡ false → HasRing s r → is_made r ≡ false
    → (queue_at s kept r).again ≡ again_since r (record { line = line; call = call } ∷ lines)
again_plain s kept lines line call r now none has made = now.again r has made ∙ no_cancel (is_ring r (ring_of call)) (is_cancel call) line (again_since r lines) none

pub again_off : (s : Setting) (kept : Kept) (lines : List Line) (line : ℕ) (call : Call) (r : Ring) → StandsFor s kept lines → is_ring r (ring_of call) ≡ false → HasRing s r → is_made r ≡ false
    → (queue_at s kept r).again ≡ again_since r (record { line = line; call = call } ∷ lines)
again_off s kept lines line call r now off has made = now.again r has made ∙ sym (ap (λ b. cond (b && is_cancel call) line (again_since r lines)) off)

pub again_behind : (s : Setting) (kept : Kept) (lines : List Line) (line : ℕ) (call : Call) (queue : Queue) (q : Ring) → IsFor s kept → StandsFor s kept lines
    → is_made (ring_of call) ≡ false → HasRing s (ring_of call) → queue.again ≡ cond (is_cancel call) line (queue_at s kept (ring_of call)).again
    → HasRing s q → is_made q ≡ false
    → (get_or (set kept.queues (place s (ring_of call)) queue) (place s q) no_queue).again ≡ again_since q (record { line = line; call = call } ∷ lines)
again_behind s kept lines line call queue q for now unmade known is has made =
    let r = ring_of call in
    ⊎_elim
    (λ (e : q ≡ r). subst (λ x. (get_or (set kept.queues (place s r) queue) (place s x) no_queue).again ≡ again_since x (record { line = line; call = call } ∷ lines)) (sym e)
    (ap (λ (x : Queue). x.again) (queue_here s kept.queues r queue for.queues known)
    ∙ is
    ∙ ap (λ k. cond (is_cancel call) line k) (now.again r known unmade)
    ∙ sym (ap (λ b. cond (b && is_cancel call) line (again_since r lines)) (is_ring-self r))))
    (λ (off : is_ring q r ≡ false).
    ap (λ (x : Queue). x.again) (queue_else s kept.queues q r queue made unmade has known off)
    ∙ now.again q has made
    ∙ sym (ap (λ b. cond (b && is_cancel call) line (again_since q lines)) off))
    (same_or q r)

-- ---- frames

-- the calls with one more
abbrev pub more : ℕ → Call → List Line → List Line
more line call lines = record { line = line; call = call } ∷ lines

-- a frame that the call doesn't name, and which stays where it is
pub known_same : (s : Setting) (lines : List Line) (line : ℕ) (call : Call) (f : ℕ) (known : Known) → IsKnown s lines f known
    → has_frame s f (calls_of (more line call lines)) ≡ has_frame s f (calls_of lines)
    → given_of s (calls_of (more line call lines)) f ≡ given_of s (calls_of lines) f
    → moves s f (calls_of lines) call ≡ false → IsKnown s (more line call lines) f known
known_same s lines line call f known h a b c = record {
  mine = h.mine ∙ sym a;
  given = h.given ∙ sym b;
  since = h.since ∙ sym (is_false (moves s f (calls_of lines) call) line (since_of s f lines) c);
  spot = h.spot ∙ sym (is_false (moves s f (calls_of lines) call) (spot_behind call (spot_of s f lines)) (spot_of s f lines) c);
}

pub none_stands : (s : Setting) (f : ℕ) (es : List XdpDesc) → times s f es ≡ 0 → stands s f es ≡ false
none_stands s f es h = no_test (times s f es) h
  where
    no_test : (t : ℕ) → t ≡ 0 → nat_lt 0 t ≡ false
    no_test t h = grind (arith, nat_tests, h)

pub one_stands : (s : Setting) (f : ℕ) (es : List XdpDesc) → 1 ≤ times s f es → stands s f es ≡ true
one_stands s f es h = a_test (times s f es) h
  where
    a_test : (t : ℕ) → 1 ≤ t → nat_lt 0 t ≡ true
    a_test t h = grind (arith, nat_tests, h)

-- behind a Submit
pub known_submit : (s : Setting) (kept : Kept) (lines : List Line) (line : ℕ) (r : Ring) (es : List XdpDesc) (f : ℕ) → IsFor s kept → StandsFor s kept lines → f < s.geometry.frames
    → IsKnown s (more line (Submit r es) lines) f (known_in (marked s (given r line) 0 es kept.frames) f)
known_submit s kept lines line r es f for now low = ⊎_elim
    (λ (some : 1 ≤ times s f es).
    let is = marked-all s (given r line) (given r line 0) 0 es kept.frames f (λ j. refl) (omega (arith, low, for.frames)) some in
    let st = one_stands s f es some in
    subst (IsKnown s (more line (Submit r es) lines) f) (sym is) (record {
      mine = sym (is_true (stands s f es) false (has_frame s f (calls_of lines)) st);
      given = sym (is_true (stands s f es) (Some r) (given_of s (calls_of lines) f) st);
      since = sym (is_true (stands s f es) line (since_of s f lines) st);
      spot = sym (is_true (stands s f es) (On r) (spot_of s f lines) st);
    }))
    (λ (none : times s f es ≡ 0).
    let st = none_stands s f es none in
    subst (IsKnown s (more line (Submit r es) lines) f) (sym (marked-none s (given r line) 0 es kept.frames f none))
    (known_same s lines line (Submit r es) f (known_in kept.frames f) (now.frames f low)
    (is_false (stands s f es) false (has_frame s f (calls_of lines)) st) (is_false (stands s f es) (Some r) (given_of s (calls_of lines) f) st) st))
    (some_or_none (times s f es))

-- behind a Peek
pub known_peek : (s : Setting) (kept : Kept) (lines : List Line) (line : ℕ) (r : Ring) (n : ℕ) (es known new : List XdpDesc) (first at next f : ℕ) → IsFor s kept → StandsFor s kept lines
    → es ≡ known ++ new → f < s.geometry.frames
    → IsKnown s (more line (Peek r n es) lines) f (known_in (marked s (peeked r first line) at known (marked s (peeked r first line) next new kept.frames)) f)
known_peek s kept lines line r n es known new first at next f for now both low =
    let inner = marked s (peeked r first line) next new kept.frames in
    let size : f < length inner = omega (arith, low, for.frames, length-marked s (peeked r first line) next new kept.frames) in
    let sum : times s f es ≡ times s f known + times s f new = ap (times s f) both ∙ times-append s f known new in
    let shown = λ (j : ℕ) (some : 1 ≤ times s f es).
    let st = one_stands s f es some in
    let at_j : IsKnown s (more line (Peek r n es) lines) f (peeked r first line j) = record {
      mine = sym (is_true (stands s f es) true (has_frame s f (calls_of lines)) st);
      given = sym (is_true (stands s f es) None (given_of s (calls_of lines) f) st);
      since = sym (is_true (stands s f es) line (since_of s f lines) st);
      spot = sym (is_true (stands s f es) (Shown r) (spot_of s f lines) st);
    } in at_j in
    ⊎_elim
    (λ (some : 1 ≤ times s f known).
    let is = marked-one s (peeked r first line) at known inner f size some in
    subst (IsKnown s (more line (Peek r n es) lines) f) (sym is.1) (shown is.0 (omega (arith, some, sum))))
    (λ (none : times s f known ≡ 0).
    let outer = marked-none s (peeked r first line) at known inner f none in
    ⊎_elim
    (λ (some : 1 ≤ times s f new).
    let is = marked-one s (peeked r first line) next new kept.frames f (omega (arith, low, for.frames)) some in
    subst (IsKnown s (more line (Peek r n es) lines) f) (sym (outer ∙ is.1)) (shown is.0 (omega (arith, some, sum))))
    (λ (no : times s f new ≡ 0).
    let st = none_stands s f es (omega (arith, none, no, sum)) in
    subst (IsKnown s (more line (Peek r n es) lines) f) (sym (outer ∙ marked-none s (peeked r first line) next new kept.frames f no))
    (known_same s lines line (Peek r n es) f (known_in kept.frames f) (now.frames f low)
    (is_false (stands s f es) true (has_frame s f (calls_of lines)) st) (is_false (stands s f es) None (given_of s (calls_of lines) f) st) st))
    (some_or_none (times s f new)))
    (some_or_none (times s f known))

-- behind a Cancel of entries
pub known_cancel : (s : Setting) (kept : Kept) (lines : List Line) (line : ℕ) (r : Ring) (n : ℕ) (f : ℕ) → IsFor s kept → StandsFor s kept lines → f < s.geometry.frames
    → given_of s (calls_of lines) f ≡ None ⊎ (times s f (put_back s (calls_of lines) r n) ≡ 0)
    → IsKnown s (more line (Cancel r n) lines) f (known_in (marked s (again r line) 0 (put_back s (calls_of lines) r n) kept.frames) f)
known_cancel s kept lines line r n f for now low given =
    let es = put_back s (calls_of lines) r n in
    ⊎_elim
    (λ (some : 1 ≤ times s f es).
    let is = marked-all s (again r line) (again r line 0) 0 es kept.frames f (λ j. refl) (omega (arith, low, for.frames)) some in
    let st = one_stands s f es some in
    subst (IsKnown s (more line (Cancel r n) lines) f) (sym is) (record {
      mine = sym (is_true (stands s f es) false (has_frame s f (calls_of lines)) st);
      given = ⊎_elim (λ (g : given_of s (calls_of lines) f ≡ None). sym g) (λ (no : times s f es ≡ 0). absurd (omega (arith, some, no))) given;
      since = sym (is_true (stands s f es) line (since_of s f lines) st);
      spot = sym (is_true (stands s f es) (Back r) (spot_of s f lines) st);
    }))
    (λ (none : times s f es ≡ 0).
    let st = none_stands s f es none in
    subst (IsKnown s (more line (Cancel r n) lines) f) (sym (marked-none s (again r line) 0 es kept.frames f none))
    (known_same s lines line (Cancel r n) f (known_in kept.frames f) (now.frames f low) (is_false (stands s f es) false (has_frame s f (calls_of lines)) st) refl st))
    (some_or_none (times s f es))

-- ---- the frames of held entries

pub facts : (s : Setting) (calls : List Call) (f : ℕ) → Possible s calls → IsFresh (number (has_frame s f calls)) (λ r. times_fresh s f (held_of s r calls))
facts s calls f possible =
    subst (λ mine. IsFresh (number (has_frame s f mine)) (λ r. times_fresh s f (held_of s r mine))) possible.own
    (frames_sound s possible.history f possible.legal).fresh

-- where no held entry of the frame is untouched, this one isn't
pub touched_all : (s : Setting) (held : List Held) (i : ℕ) (h : Held) → i < length held → IsTrue (is_inside s.geometry (get_or held i h).entry)
    → times_fresh s (frame s (get_or held i h).entry) held ≡ 0 → (get_or held i h).untouched ≡ false
touched_all s [] i h low inside none = absurd (omega (arith, low))
touched_all s (x ∷ held) zero h low inside none = off x.untouched (is_inside s.geometry x.entry) (frame s x.entry) inside (omega (arith, none))
  where
    off : (u a : Bool) (x : ℕ) → a ≡ true → ◌≡◌ {A = ℕ} (number (u && (a && x == x))) 0 → u ≡ false
    off u a x h k = grind (arith, nat_tests, h, k)
touched_all s (x ∷ held) (suc i) h low inside none = touched_all s held i h (omega (arith, low)) inside (omega (arith, none))

-- an entry outside of the UMEM is untouched for ever, and so it is kept
pub latest_outside : (s : Setting) (frames : List Known) (r : Ring) (i : ℕ) (e : XdpDesc) → is_inside s.geometry e ≡ false → is_latest s frames r i e ≡ true
latest_outside s frames r i e h = ap (λ b. not b || is_as r i (known_in frames (frame s e)).place) h

pub latest_inside : (s : Setting) (frames : List Known) (r : Ring) (i : ℕ) (e : XdpDesc) → is_inside s.geometry e ≡ true → is_latest s frames r i e ≡ is_as r i (known_in frames (frame s e)).place
latest_inside s frames r i e h = ap (λ b. not b || is_as r i (known_in frames (frame s e)).place) h

-- whose frame is kept as before
pub latest_same : (s : Setting) (frames frames' : List Known) (r : Ring) (i : ℕ) (e : XdpDesc) → (is_inside s.geometry e ≡ true → known_in frames' (frame s e) ≡ known_in frames (frame s e))
    → is_latest s frames' r i e ≡ is_latest s frames r i e
latest_same s frames frames' r i e same = ⊎_elim
    (λ (inside : is_inside s.geometry e ≡ true). ap (λ (k : Known). not (is_inside s.geometry e) || is_as r i k.place) (same inside))
    (λ (outside : is_inside s.geometry e ≡ false). latest_outside s frames' r i e outside ∙ sym (latest_outside s frames r i e outside))
    (cases_Bool (is_inside s.geometry e))

-- an untouched one behind a Submit
pub latest_submit : (s : Setting) (frames : List Known) (line : ℕ) (q r : Ring) (es : List XdpDesc) (i : ℕ) (h : Held) → length frames ≡ s.geometry.frames
    → is_latest s frames r i h.entry ≡ h.untouched → is_latest s (marked s (given q line) 0 es frames) r i h.entry ≡ (touch s es h).untouched
latest_submit s frames line q r es i h size is = ⊎_elim
    (λ (inside : is_inside s.geometry h.entry ≡ true).
    let f = frame s h.entry in let low = inside_below s h.entry inside in
    ⊎_elim
    (λ (some : 1 ≤ times s f es).
    let now = marked-all s (given q line) (given q line 0) 0 es frames f (λ j. refl) (omega (arith, size, low)) some in
    latest_inside s (marked s (given q line) 0 es frames) r i h.entry inside
    ∙ ap (λ (k : Known). is_as r i k.place) now
    ∙ sym (off h.untouched (is_inside s.geometry h.entry) (stands s f es) inside (one_stands s f es some)))
    (λ (none : times s f es ≡ 0).
    latest_same s frames (marked s (given q line) 0 es frames) r i h.entry (λ _. marked-none s (given q line) 0 es frames f none)
    ∙ is ∙ sym (keeps h.untouched (is_inside s.geometry h.entry) (stands s f es) (none_stands s f es none)))
    (some_or_none (times s f es)))
    (λ (outside : is_inside s.geometry h.entry ≡ false).
    latest_outside s (marked s (given q line) 0 es frames) r i h.entry outside
    ∙ sym (latest_outside s frames r i h.entry outside)
    ∙ is ∙ sym (out h.untouched (is_inside s.geometry h.entry) (stands s (frame s h.entry) es) outside))
    (cases_Bool (is_inside s.geometry h.entry))
  where
    off : (u a b : Bool) → a ≡ true → b ≡ true → (u && not (a && b)) ≡ false
    off u a b h k = grind (arith, h, k)

    keeps : (u a b : Bool) → b ≡ false → (u && not (a && b)) ≡ u
    keeps u a b h = grind (arith, h)

    out : (u a b : Bool) → a ≡ false → (u && not (a && b)) ≡ u
    out u a b h = grind (arith, h)

-- one of which the frame is kept as another's, or given or put back
pub latest_off : (s : Setting) (frames : List Known) (r : Ring) (i : ℕ) (e : XdpDesc) (u : Bool) → is_inside s.geometry e ≡ true → is_as r i (known_in frames (frame s e)).place ≡ false → u ≡ false
    → is_latest s frames r i e ≡ u
latest_off s frames r i e u inside off untrue = latest_inside s frames r i e inside ∙ off ∙ sym untrue
