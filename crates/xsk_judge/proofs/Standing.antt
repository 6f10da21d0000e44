-- What a judge keeps is what the calls leave: which calls it lets through, and what it keeps behind each.
use Rattle.std.proofs.Common.{◌≡◌, ◌↔◌, ℕ, zero, suc, ◌+◌, ◌-◌, ◌<◌, ◌≤◌, Bool, true, false, not, cond, Option, Some, List, [], ◌∷◌, length, drop, map, get_or, refl, sym, ap, ◌∙◌, subst, arith, ⊎_elim, length-drop}
use Rattle.std.specs.Prelude.{IsTrue, All}
use Rattle.std.proofs.lemmas.List.{length-map, drop_at, get_or_append_left, get_or-drop}
use Rattle.std.proofs.lemmas.Bool.{cases_Bool}
use Rattle.xsk_umem.specs.declared.batch.XdpDesc.{XdpDesc}
use Rattle.xsk_model.specs.declared.call.Ring.{Ring}
use Rattle.xsk_model.specs.declared.call.Ring.TheVariants.{Fill, Comp, Rx, Tx}
use Rattle.xsk_side.specs.Setting.{Setting, HasRing, size_of, pair_of}
use Rattle.xsk_side.specs.Entries.{times, last}
use Rattle.xsk_side.specs.Object.{is_made, consumer}
use Rattle.xsk_side.specs.Own.{Held, fresh, entry_of, room_of, held_of, has_frame}
use Rattle.xsk_side.specs.Legal.{IsLegal, IsPut, MayCome}
use Rattle.xsk_side.specs.Possible.{Possible}
use Rattle.xsk_side.specs.Local.{sure_of, back_of, given_of, strays_given, FitsAnswer, FitsEntries, FitsReply}
use Rattle.xsk_side.specs.declared.call.Party.TheVariants.{Program}
use Rattle.xsk_side.specs.declared.call.Call.{Call}
use Rattle.xsk_side.specs.declared.call.Call.TheVariants.{Reserve, Free, Submit, Peek, Release, Cancel}
use Rattle.xsk_side.proofs.Frames.{unheld}
use Rattle.xsk_side.proofs.Given.{comes_as, some_or_none}
use Rattle.xsk_side.proofs.Fits.{made_by, shown_to, is_producer, possible_fits}
use Rattle.xsk_side.proofs.Late.{fits_possible}
use Rattle.xsk_judge.specs.declared.known.Known.{Known}
use Rattle.xsk_judge.specs.Kept.{Queue, Kept, is_mine, numbered, known_in, end_at, queue_at, strays_at, standing}
use Rattle.xsk_judge.specs.Judging.{AreMine, AreLatest, MayCall, MayAnswer, given_in, is_latest, most_at}
use Rattle.xsk_judge.specs.Stands.{Line, calls_of, IsQueue, StandsFor}
use Rattle.xsk_judge.proofs.Coming.{named_below}

pub shown_by : (r : Ring) → is_made r ≡ false → Program ≡ consumer r
shown_by (Fill d) h = absurd (cc)
shown_by (Comp d) h = refl
shown_by (Rx k) h = refl
shown_by (Tx k) h = absurd (cc)

-- ---- the program's rules

pub mine_is : (s : Setting) (kept : Kept) (lines : List Line) (es : List XdpDesc) → StandsFor s kept lines
    → AreMine s kept.frames es ↔ ((f : ℕ) → times s f es ≤ (cond (has_frame s f (calls_of lines)) 1 0))
mine_is s kept lines es now = (
  λ h f. either f (has_frame s f (calls_of lines)) (λ some. subst (λ b. times s f es ≤ cond b 1 0) (now.frames f (named_below s f es some)).mine (h f)),
  λ h f. either f (is_mine (known_in kept.frames f).place) (λ some. subst (λ b. times s f es ≤ cond b 1 0) (sym (now.frames f (named_below s f es some)).mine) (h f)),
)
  where
    either : (f : ℕ) (b : Bool) → (1 ≤ times s f es → times s f es ≤ cond b 1 0) → times s f es ≤ cond b 1 0
    either f b h = ⊎_elim h (λ (none : times s f es ≡ 0). omega (arith, none)) (some_or_none (times s f es))

-- an entry that is held
pub held_entry : (s : Setting) (calls : List Call) (frames : List Known) (r : Ring) (queue : Queue) (i : ℕ) (d : XdpDesc) (h : Held) → IsQueue s calls frames r queue → i < queue.held
    → get_or queue.entries i d ≡ (get_or (held_of s r calls) i h).entry
held_entry s calls frames r queue i d h is low =
    let within : i < length (held_of s r calls) = omega (arith, low, is.held) in
    ap (λ xs. get_or xs i d) is.entries
    ∙ get_or_append_left (map entry_of (held_of s r calls)) (back_of s r calls) d i (omega (arith, within, length-map (held_of s r calls) entry_of))
    ∙ at_map (held_of s r calls) i within
  where
    at_map : (xs : List Held) (i : ℕ) → i < length xs → get_or (map entry_of xs) i d ≡ (get_or xs i h).entry
    at_map [] i low = absurd (omega (arith, low))
    at_map (x ∷ xs) zero low = refl
    at_map (x ∷ xs) (suc i) low = at_map xs i (omega (arith, low))

latest_is : (s : Setting) (calls : List Call) (frames : List Known) (r : Ring) (queue : Queue) (n : ℕ) → IsQueue s calls frames r queue → n ≤ queue.held
    → AreLatest s frames r queue n ↔ All (λ (h : Held). IsTrue h.untouched) (last n (held_of s r calls))
latest_is s calls frames r queue n is few = (
  λ h k d low.
      let i = length (held_of s r calls) - n + k in
      let at : get_or (last n (held_of s r calls)) k d ≡ get_or (held_of s r calls) i d = get_or-drop (length (held_of s r calls) - n) (held_of s r calls) k d in
      let low_i : i < queue.held = omega (arith, low, is.held, few, length-drop (length (held_of s r calls) - n) (held_of s r calls)) in
      subst (λ (x : Held). IsTrue x.untouched) (sym at)
      (sym (is.latest i d low_i)
      ∙ ap (is_latest s frames r (numbered queue.first i)) (sym (held_entry s calls frames r queue i d.entry d is low_i))
      ∙ h i d.entry (omega (arith, is.held, few)) low_i),
  λ h i d high low.
      let held = fresh d in
      let k = i - (length (held_of s r calls) - n) in
      let at : get_or (last n (held_of s r calls)) k held ≡ get_or (held_of s r calls) i held =
      get_or-drop (length (held_of s r calls) - n) (held_of s r calls) k held ∙ ap (λ j. get_or (held_of s r calls) j held) (omega (arith, high, is.held, few)) in
      let low_k : k < length (last n (held_of s r calls)) = omega (arith, high, low, is.held, few, length-drop (length (held_of s r calls) - n) (held_of s r calls)) in
      ap (is_latest s frames r (numbered queue.first i)) (held_entry s calls frames r queue i d held is low)
      ∙ is.latest i held low
      ∙ subst (λ (x : Held). IsTrue x.untouched) at (h k held low_k),
)

pub may_call : (s : Setting) (kept : Kept) (lines : List Line) (call : Call) → StandsFor s kept lines → MayCall s kept call → IsLegal s Program (calls_of lines) call
may_call s kept lines (Reserve r n answer) now h =
    record { known = h.0; role = is_producer r h.1; counted = tt; frames = tt; untouched = tt; put = tt }
may_call s kept lines (Free r n places) now h =
    record { known = h.0; role = (refl, h.1); counted = tt; frames = tt; untouched = tt; put = tt }
may_call s kept lines (Submit r es) now h = record {
  known = h.0;
  role = is_producer r h.1;
  counted = omega (arith, h.2, now.room r h.0 h.1);
  frames = (mine_is s kept lines es now).0 h.3;
  untouched = tt;
  put = not_put r h.1;
}
  where
    not_put : (r : Ring) → is_made r ≡ true → IsPut s (calls_of lines) (Submit r es)
    not_put (Fill d) made = tt
    not_put (Comp d) made = absurd (cc)
    not_put (Rx k) made = absurd (cc)
    not_put (Tx k) made = tt
may_call s kept lines (Peek r n es) now h =
    record { known = h.0; role = shown_by r h.1; counted = tt; frames = tt; untouched = tt; put = tt }
may_call s kept lines (Release r n) now h =
    record { known = h.0; role = shown_by r h.1; counted = omega (arith, h.2, (now.queues r h.0 h.1).held); frames = tt; untouched = tt; put = tt }
may_call s kept lines (Cancel r n) now h = ⊎_elim
    (λ (made : is_made r ≡ true). record {
      known = h.0;
      role = refl;
      counted = subst (λ k. n ≤ k) (sym (ap (λ b. cond b (room_of r (calls_of lines)) (length (held_of s r (calls_of lines)))) made)) (omega (arith, h.1.places made, now.room r h.0 made));
      frames = tt;
      untouched = none_held (held_of s r (calls_of lines)) (nothing_held made);
      put = tt;
    })
    (λ (made : is_made r ≡ false).
    let queue = now.queues r h.0 made in
    record {
      known = h.0;
      role = refl;
      counted = subst (λ k. n ≤ k) (sym (ap (λ b. cond b (room_of r (calls_of lines)) (length (held_of s r (calls_of lines)))) made)) (omega (arith, h.1.held made, queue.held));
      frames = tt;
      untouched = (latest_is s (calls_of lines) kept.frames r (queue_at s kept r) n queue (h.1.held made)).0 (h.1.latest made);
      put = tt;
    })
    (cases_Bool (is_made r))
  where
    nothing_held : is_made r ≡ true → held_of s r (calls_of lines) ≡ []
    nothing_held made = ap (held_of s r) (sym now.possible.own) ∙ unheld s now.possible.history r now.possible.legal made

    none_held : (xs : List Held) → xs ≡ [] → All (λ (h : Held). IsTrue h.untouched) (last n xs)
    none_held xs none k d low =
        absurd (omega (arith, low, ap length none, length-drop (length xs - n) xs))

pub legal_may : (s : Setting) (kept : Kept) (lines : List Line) (call : Call) → StandsFor s kept lines → IsLegal s Program (calls_of lines) call → MayCall s kept call
legal_may s kept lines (Reserve r n answer) now h = (h.known, made_by r h.role)
legal_may s kept lines (Free r n places) now h = (h.known, h.role.1)
legal_may s kept lines (Submit r es) now h =
    let made = made_by r h.role in
    (h.known, made, omega (arith, h.counted, now.room r h.known made), (mine_is s kept lines es now).1 h.frames)
legal_may s kept lines (Peek r n es) now h = (h.known, shown_to r h.role)
legal_may s kept lines (Release r n) now h = let made = shown_to r h.role in (h.known, made, omega (arith, h.counted, (now.queues r h.known made).held))
legal_may s kept lines (Cancel r n) now h = (
  h.known,
  record {
    places = λ made. omega (arith, counted made, now.room r h.known made);
    held = λ made. omega (arith, uncounted made, (now.queues r h.known made).held);
    latest = λ made.
        let queue = now.queues r h.known made in
        (latest_is s (calls_of lines) kept.frames r (queue_at s kept r) n queue (omega (arith, uncounted made, queue.held))).1 h.untouched;
  },
)
  where
    counted : is_made r ≡ true → n ≤ room_of r (calls_of lines)
    counted made = subst (λ k. n ≤ k) (ap (λ b. cond b (room_of r (calls_of lines)) (length (held_of s r (calls_of lines)))) made) h.counted

    uncounted : is_made r ≡ false → n ≤ length (held_of s r (calls_of lines))
    uncounted made = subst (λ k. n ≤ k) (ap (λ b. cond b (room_of r (calls_of lines)) (length (held_of s r (calls_of lines)))) made) h.counted

-- ---- the kernel's replies

pub most_is : (s : Setting) (kept : Kept) (lines : List Line) (r : Ring) → StandsFor s kept lines → HasRing s r → is_made r ≡ true
    → most_at s kept r ≡ size_of s r - room_of r (calls_of lines)
most_is s kept lines r now has made = ap (λ k. size_of s r - k) (now.room r has made)

pub given_is : (s : Setting) (kept : Kept) (lines : List Line) (f : ℕ) → StandsFor s kept lines → f < s.geometry.frames → given_in kept.frames f ≡ given_of s (calls_of lines) f
given_is s kept lines f now low = (now.frames f low).given

pub standing_is : (s : Setting) (calls : List Call) (frames : List Known) (r : Ring) (queue : Queue) → IsQueue s calls frames r queue → standing queue ≡ back_of s r calls
standing_is s calls frames r queue is =
    ap (drop queue.held) is.entries
    ∙ drop_at (map entry_of (held_of s r calls)) (back_of s r calls) queue.held (length-map (held_of s r calls) entry_of ∙ sym is.held)

pub pair_below : (s : Setting) (r : Ring) → (d : ℕ) → r ≡ Comp d → HasRing s r → pair_of s r < length s.pairs
pair_below s r d is has = subst (λ x. HasRing s x → pair_of s x < length s.pairs) (sym is) (λ h. h) has

-- the same in other words
pub come_as : (s : Setting) (from from' : ℕ → Option Ring) (strays strays' : ℕ) (r : Ring) (es : List XdpDesc) → ((d : ℕ) → r ≡ Comp d → strays ≡ strays')
    → ((f : ℕ) (q : Ring) → 1 ≤ times s f es → from f ≡ Some q → from' f ≡ Some q) → MayCome s from strays r es → MayCome s from' strays' r es
come_as s from from' strays strays' (Fill d) es same also h = tt
come_as s from from' strays strays' (Comp d) es same also h =
    subst (λ k. MayCome s from' k (Comp d) es) (same d refl) (comes_as s from from' strays (Comp d) es also h)
come_as s from from' strays strays' (Rx k) es same also h = comes_as s from from' strays (Rx k) es also h
come_as s from from' strays strays' (Tx k) es same also h = tt

fits_as : (s : Setting) (r : Ring) (back back' : List XdpDesc) (held held' : ℕ) (from from' : ℕ → Option Ring) (strays strays' n : ℕ) (es : List XdpDesc) → back ≡ back' → held ≡ held'
    → ((f : ℕ) → f < s.geometry.frames → from f ≡ from' f) → ((d : ℕ) → r ≡ Comp d → strays ≡ strays')
    → FitsEntries s r back held from strays n es → FitsEntries s r back' held' from' strays' n es
fits_as s r back back' held held' from from' strays strays' n es b h f k fits =
    subst (λ x. FitsEntries s r x held' from' strays' n es) b
    (subst (λ x. FitsEntries s r back x from' strays' n es) h (record {
      few = fits.few;
      none = fits.none;
      again = fits.again;
      places = fits.places;
      once = fits.once;
      new = come_as s from from' strays strays' r (drop (length back) es) k
          (λ g q some is. sym (f g (named_below s g (drop (length back) es) some)) ∙ is) fits.new;
    }))

pub may_answer : (s : Setting) (kept : Kept) (lines : List Line) (call : Call) → StandsFor s kept lines → MayCall s kept call → MayAnswer s kept call → FitsReply s (calls_of lines) call
may_answer s kept lines (Reserve r n answer) now may h =
    subst (λ k. FitsAnswer k (size_of s r - room_of r (calls_of lines)) n answer) (now.sure r may.0 may.1)
    (subst (λ k. FitsAnswer (end_at s kept r).sure k n answer) (most_is s kept lines r now may.0 may.1) h)
may_answer s kept lines (Free r n places) now may h =
    (omega (arith, h.0, most_is s kept lines r now may.0 may.1), λ less. omega (arith, h.1 less, now.sure r may.0 may.1))
may_answer s kept lines (Submit r es) now may h = tt
may_answer s kept lines (Peek r n es) now may h =
    let queue = now.queues r may.0 may.1 in let calls = calls_of lines in
    fits_as s r (standing (queue_at s kept r)) (back_of s r calls) (queue_at s kept r).held (length (held_of s r calls)) (given_in kept.frames) (given_of s calls)
    (strays_at kept (pair_of s r)) (strays_given s (pair_of s r) calls) n es (standing_is s calls kept.frames r (queue_at s kept r) queue) queue.held
    (λ f low. given_is s kept lines f now low) (λ d is. now.strays (pair_of s r) (pair_below s r d is may.0)) h
may_answer s kept lines (Release r n) now may h = tt
may_answer s kept lines (Cancel r n) now may h = tt

pub answer_may : (s : Setting) (kept : Kept) (lines : List Line) (call : Call) → StandsFor s kept lines → MayCall s kept call → FitsReply s (calls_of lines) call → MayAnswer s kept call
answer_may s kept lines (Reserve r n answer) now may h =
    subst (λ k. FitsAnswer k (most_at s kept r) n answer) (sym (now.sure r may.0 may.1))
    (subst (λ k. FitsAnswer (sure_of s r (calls_of lines)) k n answer) (sym (most_is s kept lines r now may.0 may.1)) h)
answer_may s kept lines (Free r n places) now may h =
    (omega (arith, h.0, most_is s kept lines r now may.0 may.1), λ less. omega (arith, h.1 less, now.sure r may.0 may.1))
answer_may s kept lines (Submit r es) now may h = tt
answer_may s kept lines (Peek r n es) now may h =
    let queue = now.queues r may.0 may.1 in let calls = calls_of lines in
    fits_as s r (back_of s r calls) (standing (queue_at s kept r)) (length (held_of s r calls)) (queue_at s kept r).held (given_of s calls) (given_in kept.frames)
    (strays_given s (pair_of s r) calls) (strays_at kept (pair_of s r)) n es (sym (standing_is s calls kept.frames r (queue_at s kept r) queue)) (sym queue.held)
    (λ f low. sym (given_is s kept lines f now low)) (λ d is. sym (now.strays (pair_of s r) (pair_below s r d is may.0))) h
answer_may s kept lines (Release r n) now may h = tt
answer_may s kept lines (Cancel r n) now may h = tt

-- where a call may be made and answered, it is possible behind the others; else it isn't
pub possible_more : (s : Setting) (kept : Kept) (lines : List Line) (call : Call) → StandsFor s kept lines → MayCall s kept call → MayAnswer s kept call
    → Possible s (call ∷ calls_of lines)
possible_more s kept lines call now may answer =
    fits_possible s (call ∷ calls_of lines)
    (possible_fits s (calls_of lines) now.possible, record { legal = may_call s kept lines call now may; reply = may_answer s kept lines call now may answer })

pub possible_not : (s : Setting) (kept : Kept) (lines : List Line) (call : Call) → StandsFor s kept lines → MayCall s kept call → (MayAnswer s kept call → ⊥)
    → Possible s (call ∷ calls_of lines) → ⊥
possible_not s kept lines call now may not possible =
    not (answer_may s kept lines call now may (possible_fits s (call ∷ calls_of lines) possible).1.reply)
