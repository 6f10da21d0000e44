-- A judge stands for one call more.
use Rattle.std.proofs.Common.{◌≡◌, ℕ, zero, suc, ◌+◌, ◌-◌, ◌<◌, ◌≤◌, ◌⊎◌, ◌^◌, true, false, cond, ◌==◌, List, [], ◌∷◌, ◌++◌, length, drop, map, get_or, set, refl, sym, ap, ◌∙◌, subst, arith, ⊎_elim, length-drop, get_or-set_same, get_or-set_other, eq-eqb, ne_eqb}
use Rattle.std.proofs.lemmas.List.{length-map, get_or-drop, drop-append-le}
use Rattle.std.proofs.lemmas.Bool.{cases_Bool, cases_eq}
use Rattle.xsk_umem.specs.declared.batch.XdpDesc.{XdpDesc}
use Rattle.xsk_model.specs.declared.call.Ring.{Ring}
use Rattle.xsk_model.specs.declared.call.Ring.TheVariants.{Fill, Comp, Rx, Tx}
use Rattle.xsk_model.specs.Descriptor.{is_inside}
use Rattle.xsk_model.specs.Rings.{is_ring}
use Rattle.xsk_model.proofs.Places.{is_ring-self}
use Rattle.xsk_side.specs.Setting.{Setting, HasRing, pair_of}
use Rattle.xsk_side.specs.Entries.{frame, strays_in}
use Rattle.xsk_side.specs.Object.{is_made}
use Rattle.xsk_side.specs.Own.{Held, entry_of, touch, held_of}
use Rattle.xsk_side.specs.Local.{back_of, strays_given}
use Rattle.xsk_side.specs.declared.call.Answer.{Answer}
use Rattle.xsk_side.specs.declared.call.Answer.TheVariants.{Granted, Full, Refused}
use Rattle.xsk_side.specs.declared.call.Call.{Call}
use Rattle.xsk_side.specs.declared.call.Call.TheVariants.{Reserve, Free, Submit, Release}
use Rattle.xsk_side.proofs.Lists.{drop-map}
use Rattle.xsk_side.proofs.Frames.{times_fresh}
use Rattle.xsk_side.proofs.Rings.{same_or, either, is_true, is_false}
use Rattle.xsk_judge.specs.declared.known.Known.{Known}
use Rattle.xsk_judge.specs.Kept.{Queue, Kept, is_as, known_in, numbered, place, end_at, queue_at, strays_at}
use Rattle.xsk_judge.specs.Judging.{IsFor, MayCall, MayAnswer, after, given, is_latest, marked, released, reserved, shown_after, strays_after, told_free}
use Rattle.xsk_judge.specs.Stands.{Line, IsQueue, StandsFor, calls_of, shows}
use Rattle.xsk_judge.proofs.Standing.{possible_more}
use Rattle.xsk_judge.specs.declared.known.End.{End}
use Rattle.xsk_judge.proofs.Behind.{IsEnd, more, known_same, known_submit, room_behind, sure_behind, shown_behind, room_same, sure_same, shown_same, again_plain, again_behind, latest_submit, latest_same, latest_off, latest_outside, touched_all, queue_else, queue_here, no_queue}

-- ---- queues that a call leaves

-- neither held entries nor those that stand again change, nor the frames
pub queue_plain : (s : Setting) (calls : List Call) (frames : List Known) (q : Ring) (queue : Queue) (call : Call) → held_of s q (call ∷ calls) ≡ held_of s q calls
    → back_of s q (call ∷ calls) ≡ back_of s q calls → IsQueue s calls frames q queue → IsQueue s (call ∷ calls) frames q queue
queue_plain s calls frames q queue call h b is = record {
  entries = is.entries ∙ ap (λ xs. map entry_of xs ++ back_of s q calls) (sym h) ∙ ap (λ xs. map entry_of (held_of s q (call ∷ calls)) ++ xs) (sym b);
  held = is.held ∙ ap length (sym h);
  latest = λ i x low. subst (λ xs. is_latest s frames q (numbered queue.first i) (get_or xs i x).entry ≡ (get_or xs i x).untouched) (sym h) (is.latest i x low);
}

entries_touch : (s : Setting) (es : List XdpDesc) (held : List Held) → map entry_of (map (touch s es) held) ≡ map entry_of held
entries_touch s es [] = refl
entries_touch s es (h ∷ held) = ap (λ hs. h.entry ∷ hs) (entries_touch s es held)

at_touch : (s : Setting) (es : List XdpDesc) (held : List Held) (i : ℕ) (h : Held) → i < length held → get_or (map (touch s es) held) i h ≡ touch s es (get_or held i h)
at_touch s es [] i h low = absurd (omega (arith, low))
at_touch s es (x ∷ held) zero h low = refl
at_touch s es (x ∷ held) (suc i) h low = at_touch s es held i h (omega (arith, low))

queue_submit : (s : Setting) (calls : List Call) (frames : List Known) (line : ℕ) (q r : Ring) (es : List XdpDesc) (queue : Queue) → length frames ≡ s.geometry.frames
    → IsQueue s calls frames q queue → IsQueue s (Submit r es ∷ calls) (marked s (given r line) 0 es frames) q queue
queue_submit s calls frames line q r es queue size is =
    let held = held_of s q calls in
    record {
      entries = is.entries
          ∙ ap (λ xs. xs ++ back_of s q calls) (sym (entries_touch s es held))
          ∙ ap (λ xs. map entry_of (map (touch s es) held) ++ xs) (sym (either (is_ring q r) (back_of s q calls)));
      held = is.held ∙ sym (length-map held (touch s es));
      latest = λ i x low.
          let at = at_touch s es held i x (omega (arith, low, is.held)) in
          subst (λ (h : Held). is_latest s (marked s (given r line) 0 es frames) q (numbered queue.first i) h.entry ≡ h.untouched) (sym at)
          (latest_submit s frames line r q es (numbered queue.first i) (get_or held i x) size (is.latest i x low));
    }

-- ---- calls that ask for places

shown_reserved : (end : End) (line : ℕ) (r : Ring) (n : ℕ) (answer : Answer) → shown_after end line n answer ≡ cond (shows end.sure (Reserve r n answer)) line end.shown
shown_reserved end line r n Granted = refl
shown_reserved end line r n (Full told) = refl
shown_reserved end line r n Refused = refl

pub stands_reserve : (s : Setting) (kept : Kept) (lines : List Line) (line : ℕ) (r : Ring) (n : ℕ) (answer : Answer) → IsFor s kept → StandsFor s kept lines
    → MayCall s kept (Reserve r n answer) → MayAnswer s kept (Reserve r n answer) → StandsFor s (after s line kept (Reserve r n answer)) (more line (Reserve r n answer) lines)
stands_reserve s kept lines line r n answer for now may answers =
    let call = Reserve r n answer in let calls = calls_of lines in
    let end : IsEnd s kept call (set kept.ends (place s r) (reserved (end_at s kept r) line n answer)) = record { ring = may.1; known = may.0; end = reserved (end_at s kept r) line n answer; is = refl; room = refl; sure = refl } in
    record {
      possible = possible_more s kept lines call now may answers;
      frames = λ f low. known_same s lines line call f (known_in kept.frames f) (now.frames f low) refl refl refl;
      room = λ q has made. room_behind s kept lines line call (set kept.ends (place s r) (reserved (end_at s kept r) line n answer)) q for now end has made;
      sure = λ q has made. sure_behind s kept lines line call (set kept.ends (place s r) (reserved (end_at s kept r) line n answer)) q for now end has made;
      shown = λ q has made.
          shown_behind s kept lines line call (set kept.ends (place s r) (reserved (end_at s kept r) line n answer)) q for now end (shown_reserved (end_at s kept r) line r n answer) has made;
      again = λ q has made. again_plain s kept lines line call q now refl has made;
      queues = λ q has made. queue_plain s calls kept.frames q (queue_at s kept q) call refl (either (is_ring q r) (back_of s q calls)) (now.queues q has made);
      strays = λ d low. now.strays d low;
    }

pub stands_free : (s : Setting) (kept : Kept) (lines : List Line) (line : ℕ) (r : Ring) (n places : ℕ) → IsFor s kept → StandsFor s kept lines
    → MayCall s kept (Free r n places) → MayAnswer s kept (Free r n places) → StandsFor s (after s line kept (Free r n places)) (more line (Free r n places) lines)
stands_free s kept lines line r n places for now may answers =
    let call = Free r n places in let calls = calls_of lines in
    let end : IsEnd s kept call (set kept.ends (place s r) (told_free (end_at s kept r) line n places)) = record { ring = may.1; known = may.0; end = told_free (end_at s kept r) line n places; is = refl; room = refl; sure = refl } in
    record {
      possible = possible_more s kept lines call now may answers;
      frames = λ f low. known_same s lines line call f (known_in kept.frames f) (now.frames f low) refl refl refl;
      room = λ q has made. room_behind s kept lines line call (set kept.ends (place s r) (told_free (end_at s kept r) line n places)) q for now end has made;
      sure = λ q has made. sure_behind s kept lines line call (set kept.ends (place s r) (told_free (end_at s kept r) line n places)) q for now end has made;
      shown = λ q has made. shown_behind s kept lines line call (set kept.ends (place s r) (told_free (end_at s kept r) line n places)) q for now end refl has made;
      again = λ q has made. again_plain s kept lines line call q now refl has made;
      queues = λ q has made. queue_plain s calls kept.frames q (queue_at s kept q) call refl (either (is_ring q r) (back_of s q calls)) (now.queues q has made);
      strays = λ d low. now.strays d low;
    }

-- ---- a Submit

strays_submit : (s : Setting) (kept : Kept) (lines : List Line) (r : Ring) (es : List XdpDesc) (d : ℕ) → IsFor s kept → StandsFor s kept lines → HasRing s r → is_made r ≡ true
    → pair_of s r < length s.pairs → d < length s.pairs → get_or (strays_after s kept r es) d 0 ≡ strays_given s d (Submit r es ∷ calls_of lines)
strays_submit s kept lines (Fill e) es d for now has made below low = now.strays d low
strays_submit s kept lines (Comp e) es d for now has made below low = absurd (cc)
strays_submit s kept lines (Rx k) es d for now has made below low = absurd (cc)
strays_submit s kept lines (Tx k) es d for now has made below low =
    let p = pair_of s (Tx k) in let g = strays_given s d (calls_of lines) in let n = strays_in s es in
    ⊎_elim
    (λ (e : p ≡ d).
    get_or_set_is kept.strays p d (strays_at kept p + n) e (omega (arith, below, for.strays))
    ∙ ap (λ x. strays_at kept x + n) e
    ∙ ap (λ x. x + n) (now.strays d low)
    ∙ sym (is_true (p == d) (g + n) g (eq-eqb p d e)))
    (λ (off : p ≡ d → ⊥).
    get_or-set_other kept.strays p d (strays_at kept p + n) 0 (λ e. off (sym e))
    ∙ now.strays d low
    ∙ sym (is_false (p == d) (g + n) g (ne_eqb p d off)))
    (cases_eq p d)
  where
    get_or_set_is : (xs : List ℕ) (p d v : ℕ) → p ≡ d → p < length xs → get_or (set xs p v) d 0 ≡ v
    get_or_set_is xs p d v e l = subst (λ x. get_or (set xs p v) x 0 ≡ v) e (get_or-set_same xs p v 0 l)

pub stands_submit : (s : Setting) (kept : Kept) (lines : List Line) (line : ℕ) (r : Ring) (es : List XdpDesc) → IsFor s kept → StandsFor s kept lines → pair_of s r < length s.pairs
    → MayCall s kept (Submit r es) → StandsFor s (after s line kept (Submit r es)) (more line (Submit r es) lines)
stands_submit s kept lines line r es for now below may =
    let call = Submit r es in let calls = calls_of lines in
    let room : End = record (end_at s kept r) { room = (end_at s kept r).room - length es } in
    let end : IsEnd s kept call (set kept.ends (place s r) room) = record { ring = may.1; known = may.0; end = room; is = refl; room = refl; sure = refl } in
    record {
      possible = possible_more s kept lines call now may tt;
      frames = λ f low. known_submit s kept lines line r es f for now low;
      room = λ q has made. room_behind s kept lines line call (set kept.ends (place s r) room) q for now end has made;
      sure = λ q has made. sure_behind s kept lines line call (set kept.ends (place s r) room) q for now end has made;
      shown = λ q has made. shown_behind s kept lines line call (set kept.ends (place s r) room) q for now end refl has made;
      again = λ q has made. again_plain s kept lines line call q now refl has made;
      queues = λ q has made. queue_submit s calls kept.frames line q r es (queue_at s kept q) for.frames (now.queues q has made);
      strays = λ d low. strays_submit s kept lines r es d for now may.0 may.1 below low;
    }

-- ---- a Release

queue_release : (s : Setting) (calls : List Call) (frames : List Known) (r : Ring) (n : ℕ) (queue : Queue) → n ≤ queue.held → IsQueue s calls frames r queue
    → IsQueue s (Release r n ∷ calls) frames r (released queue n)
queue_release s calls frames r n queue few is =
    let held = held_of s r calls in let back = back_of s r calls in
    let now : held_of s r (Release r n ∷ calls) ≡ drop n held = is_true (is_ring r r) (drop n held) held (is_ring-self r) in
    let again : back_of s r (Release r n ∷ calls) ≡ back = either (is_ring r r) back in
    record {
      entries = ap (drop n) is.entries
          ∙ drop-append-le n (map entry_of held) back (omega (arith, few, is.held, length-map held entry_of))
          ∙ ap (λ xs. xs ++ back) (drop-map entry_of n held)
          ∙ ap (λ xs. map entry_of xs ++ back) (sym now)
          ∙ ap (λ xs. map entry_of (held_of s r (Release r n ∷ calls)) ++ xs) (sym again);
      held = omega (arith, is.held, ap length now, length-drop n held);
      latest = λ i h low.
          let at : get_or (held_of s r (Release r n ∷ calls)) i h ≡ get_or held (n + i) h = ap (λ xs. get_or xs i h) now ∙ get_or-drop n held i h in
          subst (λ (x : Held). is_latest s frames r (numbered (numbered queue.first n) i) x.entry ≡ x.untouched) (sym at)
          (ap (λ k. is_latest s frames r k (get_or held (n + i) h).entry) (shifted queue.first n i) ∙ is.latest (n + i) h (omega (arith, low, few)));
    }
  where
    shifted : (first n i : ℕ) → numbered (numbered first n) i ≡ numbered first (n + i)
    shifted first n i = omega arith

pub stands_release : (s : Setting) (kept : Kept) (lines : List Line) (line : ℕ) (r : Ring) (n : ℕ) → IsFor s kept → StandsFor s kept lines
    → MayCall s kept (Release r n) → StandsFor s (after s line kept (Release r n)) (more line (Release r n) lines)
stands_release s kept lines line r n for now may =
    let call = Release r n in let calls = calls_of lines in
    let queue = released (queue_at s kept r) n in
    record {
      possible = possible_more s kept lines call now may tt;
      frames = λ f low. known_same s lines line call f (known_in kept.frames f) (now.frames f low) refl refl refl;
      room = λ q has made. room_same s kept lines line call q now may.1 has made;
      sure = λ q has made. sure_same s kept lines line call q now may.1 has made;
      shown = λ q has made. shown_same s kept lines line call q now may.1 has made;
      again = λ q has made. again_behind s kept lines line call queue q for now may.1 may.0 refl has made;
      queues = λ q has made. ⊎_elim
          (λ (e : q ≡ r). subst (λ x. IsQueue s (call ∷ calls) kept.frames x (get_or (set kept.queues (place s r) queue) (place s x) no_queue)) (sym e)
          (subst (IsQueue s (call ∷ calls) kept.frames r) (sym (queue_here s kept.queues r queue for.queues may.0))
          (queue_release s calls kept.frames r n (queue_at s kept r) may.2 (now.queues r may.0 may.1))))
          (λ (off : is_ring q r ≡ false).
          subst (IsQueue s (call ∷ calls) kept.frames q) (sym (queue_else s kept.queues q r queue made may.1 has may.0 off))
          (queue_plain s calls kept.frames q (queue_at s kept q) call (is_false (is_ring q r) (drop n (held_of s q calls)) (held_of s q calls) off)
          (either (is_ring q r) (back_of s q calls)) (now.queues q has made)))
          (same_or q r);
      strays = λ d low. now.strays d low;
    }

-- ---- held entries whose frame a call moves

pub latest_moved : (s : Setting) (frames frames' : List Known) (q : Ring) (num : ℕ) (held : List Held) (i : ℕ) (h : Held) → i < length held
    → (is_inside s.geometry (get_or held i h).entry ≡ true → (known_in frames' (frame s (get_or held i h).entry) ≡ known_in frames (frame s (get_or held i h).entry))
    ⊎ ((times_fresh s (frame s (get_or held i h).entry) held ≡ 0) × (is_as q num (known_in frames' (frame s (get_or held i h).entry)).place ≡ false)))
    → is_latest s frames q num (get_or held i h).entry ≡ (get_or held i h).untouched → is_latest s frames' q num (get_or held i h).entry ≡ (get_or held i h).untouched
latest_moved s frames frames' q num held i h low either_way was =
    let e = (get_or held i h).entry in
    ⊎_elim
    (λ (inside : is_inside s.geometry e ≡ true). ⊎_elim
    (λ (same : known_in frames' (frame s e) ≡ known_in frames (frame s e)). latest_same s frames frames' q num e (λ _. same) ∙ was)
    (λ (off : (times_fresh s (frame s e) held ≡ 0) × (is_as q num (known_in frames' (frame s e)).place ≡ false)).
    latest_off s frames' q num e (get_or held i h).untouched inside off.1 (touched_all s held i h low inside off.0))
    (either_way inside))
    (λ (outside : is_inside s.geometry e ≡ false).
    latest_outside s frames' q num e outside ∙ sym (latest_outside s frames q num e outside) ∙ was)
    (cases_Bool (is_inside s.geometry e))

-- ---- a Peek

pub other_number : (first held size i j all : ℕ) → i < held → held ≤ j → j < held + all → held + all ≤ size → size ≤ 2 ^ 20 → (numbered first i == numbered first j) ≡ false
other_number first held size i j all a b c d e = ne_eqb (numbered first i) (numbered first j) (λ h. absurd (omega (arith, a, b, c, d, e, h)))
