-- A judge stands for a Peek more.
use Rattle.std.proofs.Common.{◌≡◌, ℕ, zero, suc, ◌+◌, ◌-◌, ◌<◌, ◌≤◌, ◌⊎◌, ◌^◌, Bool, true, false, ◌&&◌, ◌==◌, List, [], ◌∷◌, ◌++◌, length, take, drop, map, get_or, refl, sym, ap, ◌∙◌, subst, arith, ⊎_elim, inl, inr, length-append, append_assoc, append-nil, eq-eqb}
use Rattle.std.proofs.lemmas.List.{length-map, take-append-drop, map-append, get_or_append_left, get_or-append_right, get_or-drop, get_or-take, length-take}
use Rattle.std.proofs.lemmas.Bool.{cases_Bool, cases_lt}
use Rattle.xsk_umem.specs.declared.batch.XdpDesc.{XdpDesc}
use Rattle.xsk_model.specs.declared.call.Ring.{Ring}
use Rattle.xsk_model.specs.Descriptor.{is_inside}
use Rattle.xsk_model.specs.Rings.{is_ring}
use Rattle.xsk_model.proofs.Places.{is_ring-self}
use Rattle.xsk_side.specs.Setting.{Setting}
use Rattle.xsk_side.specs.Entries.{frame, names, times}
use Rattle.xsk_side.specs.Own.{Held, fresh, entry_of, held_of, has_frame}
use Rattle.xsk_side.specs.Possible.{Possible}
use Rattle.xsk_side.specs.Local.{back_of}
use Rattle.xsk_side.specs.declared.call.Call.{Call}
use Rattle.xsk_side.specs.declared.call.Call.TheVariants.{Peek}
use Rattle.xsk_side.proofs.Lists.{number, times-some, times-split}
use Rattle.xsk_side.proofs.Rings.{is_true, is_false}
use Rattle.xsk_side.proofs.Frames.{times_fresh}
use Rattle.xsk_side.proofs.Given.{some_or_none}
use Rattle.xsk_judge.specs.declared.known.Known.{Known}
use Rattle.xsk_judge.specs.Kept.{Queue, is_as, known_in, numbered, standing}
use Rattle.xsk_judge.specs.Judging.{is_latest, marked, peeked, shown_frames, shown_queue}
use Rattle.xsk_judge.specs.Stands.{IsQueue}
use Rattle.xsk_judge.proofs.Marking.{length-marked, marked-none, inside_below}
use Rattle.xsk_judge.proofs.Coming.{marked-one, marked-exact}
use Rattle.xsk_judge.proofs.Standing.{standing_is}
use Rattle.xsk_judge.proofs.Behind.{latest_outside, latest_inside, facts}
use Rattle.xsk_judge.proofs.Stepping.{latest_moved, other_number}

-- ---- lists

times_fresh_append : (s : Setting) (f : ℕ) (xs ys : List Held) → times_fresh s f (xs ++ ys) ≡ times_fresh s f xs + times_fresh s f ys
times_fresh_append s f [] ys = omega arith
times_fresh_append s f (x ∷ xs) ys = omega (arith, times_fresh_append s f xs ys)

times_fresh_fresh : (s : Setting) (f : ℕ) (es : List XdpDesc) → times_fresh s f (map fresh es) ≡ times s f es
times_fresh_fresh s f [] = refl
times_fresh_fresh s f (e ∷ es) = ap (λ k. number (names s f e) + k) (times_fresh_fresh s f es)

entries_fresh : (es : List XdpDesc) → map entry_of (map fresh es) ≡ es
entries_fresh [] = refl
entries_fresh (e ∷ es) = ap (λ xs. e ∷ xs) (entries_fresh es)

at_fresh : (es : List XdpDesc) (k : ℕ) (h : Held) (d : XdpDesc) → k < length es → get_or (map fresh es) k h ≡ fresh (get_or es k d)
at_fresh [] k h d low = absurd (omega (arith, low))
at_fresh (e ∷ es) zero h d low = refl
at_fresh (e ∷ es) (suc k) h d low = at_fresh es k h d (omega (arith, low))

same_both : (back es : List XdpDesc) → take (length back) es ≡ take (length es) back → back ++ drop (length back) es ≡ es ++ drop (length es) back
same_both [] es h = sym (ap (λ xs. es ++ xs) (drop_none (length es)) ∙ append-nil es)
  where
    drop_none : (n : ℕ) → ◌≡◌ {A = List XdpDesc} (drop n []) []
    drop_none zero = refl
    drop_none (suc n) = refl
same_both (b ∷ back) [] h = append-nil (b ∷ back)
same_both (b ∷ back) (e ∷ es) h =
    ap (λ x. x ∷ (back ++ drop (length back) es)) (sym (heads e b (take (length back) es) (take (length es) back) h))
    ∙ ap (λ xs. e ∷ xs) (same_both back es (tails e b (take (length back) es) (take (length es) back) h))
  where
    heads : (x y : XdpDesc) (xs ys : List XdpDesc) → x ∷ xs ≡ y ∷ ys → x ≡ y
    heads x y xs ys h = cc

    tails : (x y : XdpDesc) (xs ys : List XdpDesc) → x ∷ xs ≡ y ∷ ys → xs ≡ ys
    tails x y xs ys h = cc

-- ---- frames

both_parts : (n : ℕ) (es : List XdpDesc) → length (take n es) + length (drop n es) ≡ length es
both_parts n es = sym (length-append (take n es) (drop n es)) ∙ ap length (take-append-drop n es)

-- a frame that is shown is kept as one of these entries, and others as before
peek_known : (s : Setting) (line : ℕ) (r : Ring) (queue : Queue) (frames : List Known) (es : List XdpDesc) (f : ℕ) → f < length frames
    → ((times s f es ≡ 0) × (known_in (shown_frames s line r queue frames es) f ≡ known_in frames f))
    ⊎ ((1 ≤ times s f es) × ((j : ℕ) × (known_in (shown_frames s line r queue frames es) f ≡ peeked r queue.first line j) × (queue.held ≤ j) × (j < queue.held + length es)))
peek_known s line r queue frames es f low =
    let n = length (standing queue) in
    let known = take n es in let new = drop n es in
    let pk = peeked r queue.first line in
    let inner = marked s pk (queue.held + length known) new frames in
    let low_inner : f < length inner = omega (arith, low, length-marked s pk (queue.held + length known) new frames) in
    let sum = times-split s f n es in let all = both_parts n es in
    ⊎_elim
    (λ (some : 1 ≤ times s f known).
    let is = marked-one s pk queue.held known inner f low_inner some in
    inr (omega (arith, some, sum), (is.0, is.1, is.2, omega (arith, is.3, all))))
    (λ (none : times s f known ≡ 0).
    let outer = marked-none s pk queue.held known inner f none in
    ⊎_elim
    (λ (some : 1 ≤ times s f new).
    let is = marked-one s pk (queue.held + length known) new frames f low some in
    inr (omega (arith, some, sum), (is.0, outer ∙ is.1, omega (arith, is.2), omega (arith, is.3, all))))
    (λ (no_more : times s f new ≡ 0).
    inl (omega (arith, none, no_more, sum), outer ∙ marked-none s pk (queue.held + length known) new frames f no_more))
    (some_or_none (times s f new)))
    (some_or_none (times s f known))

-- exactly as which entry
pub peek_exact : (s : Setting) (line : ℕ) (r : Ring) (queue : Queue) (frames : List Known) (es : List XdpDesc) (k : ℕ) (d : XdpDesc) → length frames ≡ s.geometry.frames → k < length es
    → is_inside s.geometry (get_or es k d) ≡ true → times s (frame s (get_or es k d)) es ≤ 1
    → known_in (shown_frames s line r queue frames es) (frame s (get_or es k d)) ≡ peeked r queue.first line (queue.held + k)
peek_exact s line r queue frames es k d size low inside once =
    let n = length (standing queue) in
    let known = take n es in let new = drop n es in
    let pk = peeked r queue.first line in
    let inner = marked s pk (queue.held + length known) new frames in
    let f = frame s (get_or es k d) in
    let sum = times-split s f n es in let all = both_parts n es in
    ⊎_elim
    (λ (first : k < length known).
    let at : get_or known k d ≡ get_or es k d = get_or-take n es k d (omega (arith, first, length-take n es)) in
    let exact = marked-exact s pk queue.held known inner k d (length-marked s pk (queue.held + length known) new frames ∙ size) first
    (ap (is_inside s.geometry) at ∙ inside) (omega (arith, once, sum, ap (λ e. times s (frame s e) known) at)) in
    ap (λ e. known_in (marked s pk queue.held known inner) (frame s e)) (sym at) ∙ exact)
    (λ (later : length known ≤ k).
    let full : length known ≡ n = omega (arith, later, low, length-take n es) in
    let j = k - length known in
    let at : get_or new j d ≡ get_or es k d = get_or-drop n es j d ∙ ap (λ i. get_or es i d) (omega (arith, full, later)) in
    let low_j : j < length new = omega (arith, later, low, all) in
    let here : 1 ≤ times s f new = subst (λ e. 1 ≤ times s (frame s e) new) at (times-some s new j d low_j (ap (is_inside s.geometry) at ∙ inside)) in
    let none : times s f known ≡ 0 = omega (arith, here, once, sum) in
    marked-none s pk queue.held known inner f none
    ∙ ap (λ e. known_in inner (frame s e)) (sym at)
    ∙ marked-exact s pk (queue.held + length known) new frames j d size low_j (ap (is_inside s.geometry) at ∙ inside) (omega (arith, once, sum, ap (λ e. times s (frame s e) new) at))
    ∙ ap pk (omega (arith, later)))
    (cases_lt k (length known))

-- ---- queues

-- how often a frame of a held entry is fresh behind the call
one_at_most : (b : Bool) → number b ≤ 1
one_at_most true = omega arith
one_at_most false = omega arith

held_here : (s : Setting) (r : Ring) (n : ℕ) (es : List XdpDesc) (calls : List Call) → held_of s r (Peek r n es ∷ calls) ≡ held_of s r calls ++ map fresh es
held_here s r n es calls = is_true (is_ring r r) (held_of s r calls ++ map fresh es) (held_of s r calls) (is_ring-self r)

held_else : (s : Setting) (q r : Ring) (n : ℕ) (es : List XdpDesc) (calls : List Call) → is_ring q r ≡ false → held_of s q (Peek r n es ∷ calls) ≡ held_of s q calls
held_else s q r n es calls off = is_false (is_ring q r) (held_of s q calls ++ map fresh es) (held_of s q calls) off

fresh_here : (s : Setting) (r : Ring) (n : ℕ) (es : List XdpDesc) (calls : List Call) (f : ℕ) → Possible s (Peek r n es ∷ calls)
    → times_fresh s f (held_of s r calls) + times s f es ≤ 1
fresh_here s r n es calls f possible =
    omega (
      arith,
      (facts s (Peek r n es ∷ calls) f possible).few r,
      one_at_most (has_frame s f (Peek r n es ∷ calls)),
      ap (times_fresh s f) (held_here s r n es calls),
      times_fresh_append s f (held_of s r calls) (map fresh es),
      times_fresh_fresh s f es,
    )

fresh_else : (s : Setting) (q r : Ring) (n : ℕ) (es : List XdpDesc) (calls : List Call) (f : ℕ) → is_ring q r ≡ false → Possible s (Peek r n es ∷ calls)
    → times_fresh s f (held_of s q calls) + times s f es ≤ 1
fresh_else s q r n es calls f off possible =
    omega (
      arith,
      (facts s (Peek r n es ∷ calls) f possible).apart q r off,
      one_at_most (has_frame s f (Peek r n es ∷ calls)),
      ap (times_fresh s f) (held_here s r n es calls),
      ap (times_fresh s f) (held_else s q r n es calls off),
      times_fresh_append s f (held_of s r calls) (map fresh es),
      times_fresh_fresh s f es,
    )

and_false : (a b : Bool) → b ≡ false → (a && b) ≡ false
and_false a b h = grind (arith, h)

false_and : (a b : Bool) → a ≡ false → (a && b) ≡ false
false_and a b h = ap (λ x. x && b) h

-- an entry that was held before
old_entry : (s : Setting) (line : ℕ) (q r : Ring) (n : ℕ) (es : List XdpDesc) (calls : List Call) (frames : List Known) (queue : Queue) (num i : ℕ) (h : Held) → length frames ≡ s.geometry.frames
    → Possible s (Peek r n es ∷ calls) → i < length (held_of s q calls)
    → ((j : ℕ) → queue.held ≤ j → j < queue.held + length es → is_as q num (peeked r queue.first line j).place ≡ false)
    → ((f : ℕ) → times_fresh s f (held_of s q calls) + times s f es ≤ 1)
    → is_latest s frames q num (get_or (held_of s q calls) i h).entry ≡ (get_or (held_of s q calls) i h).untouched
    → is_latest s (shown_frames s line r queue frames es) q num (get_or (held_of s q calls) i h).entry ≡ (get_or (held_of s q calls) i h).untouched
old_entry s line q r n es calls frames queue num i h size possible low off once was =
    latest_moved s frames (shown_frames s line r queue frames es) q num (held_of s q calls) i h low
    (λ inside.
    let f = frame s (get_or (held_of s q calls) i h).entry in
    ⊎_elim
    (λ (same : (times s f es ≡ 0) × (known_in (shown_frames s line r queue frames es) f ≡ known_in frames f)). inl same.1)
    (λ (moved : (1 ≤ times s f es) × ((j : ℕ) × (known_in (shown_frames s line r queue frames es) f ≡ peeked r queue.first line j) × (queue.held ≤ j) × (j < queue.held + length es))).
    let few : times_fresh s f (held_of s q calls) ≡ 0 = omega (arith, moved.0, once f) in
    inr (few, ap (λ (k : Known). is_as q num k.place) moved.1.1 ∙ off moved.1.0 moved.1.2 moved.1.3))
    (peek_known s line r queue frames es f (omega (arith, size, inside_below s (get_or (held_of s q calls) i h).entry inside))))
    was

pub queue_else_peek : (s : Setting) (line : ℕ) (q r : Ring) (n : ℕ) (es : List XdpDesc) (calls : List Call) (frames : List Known) (shown queue : Queue) → length frames ≡ s.geometry.frames
    → is_ring q r ≡ false → Possible s (Peek r n es ∷ calls) → IsQueue s calls frames q queue
    → IsQueue s (Peek r n es ∷ calls) (shown_frames s line r shown frames es) q queue
queue_else_peek s line q r n es calls frames shown queue size off possible is =
    let held = held_else s q r n es calls off in
    record {
      entries = is.entries
          ∙ ap (λ xs. map entry_of xs ++ back_of s q calls) (sym held)
          ∙ ap (λ xs. map entry_of (held_of s q (Peek r n es ∷ calls)) ++ xs) (sym (is_false (is_ring q r) (drop (length es) (back_of s q calls)) (back_of s q calls) off));
      held = is.held ∙ ap length (sym held);
      latest = λ i h low.
          subst (λ xs. is_latest s (shown_frames s line r shown frames es) q (numbered queue.first i) (get_or xs i h).entry ≡ (get_or xs i h).untouched) (sym held)
          (old_entry s line q r n es calls frames shown (numbered queue.first i) i h size possible (omega (arith, low, is.held))
          (λ j a b. false_and (is_ring q r) (numbered queue.first i == numbered shown.first j) off)
          (λ f. fresh_else s q r n es calls f off possible)
          (is.latest i h low));
    }

-- a new entry
new_entry : (s : Setting) (line : ℕ) (r : Ring) (n : ℕ) (es : List XdpDesc) (calls : List Call) (frames : List Known) (queue : Queue) (k : ℕ) (d : XdpDesc) → length frames ≡ s.geometry.frames
    → Possible s (Peek r n es ∷ calls) → k < length es → is_latest s (shown_frames s line r queue frames es) r (numbered queue.first (queue.held + k)) (get_or es k d) ≡ true
new_entry s line r n es calls frames queue k d size possible low =
    let e = get_or es k d in let after_it = shown_frames s line r queue frames es in let num = numbered queue.first (queue.held + k) in
    ⊎_elim
    (λ (inside : is_inside s.geometry e ≡ true).
    latest_inside s after_it r num e inside
    ∙ ap (λ (x : Known). is_as r num x.place) (peek_exact s line r queue frames es k d size low inside (omega (arith, fresh_here s r n es calls (frame s e) possible)))
    ∙ both_so (is_ring r r) (num == num) (is_ring-self r) (eq-eqb num num refl))
    (λ (outside : is_inside s.geometry e ≡ false). latest_outside s after_it r num e outside)
    (cases_Bool (is_inside s.geometry e))
  where
    both_so : (a b : Bool) → a ≡ true → b ≡ true → (a && b) ≡ true
    both_so a b h k = grind (arith, h, k)

pub queue_here_peek : (s : Setting) (line : ℕ) (r : Ring) (n : ℕ) (es : List XdpDesc) (calls : List Call) (frames : List Known) (queue : Queue) → length frames ≡ s.geometry.frames
    → Possible s (Peek r n es ∷ calls) → queue.held + length es ≤ 2 ^ 20 → take (length (back_of s r calls)) es ≡ take (length es) (back_of s r calls)
    → IsQueue s calls frames r queue → IsQueue s (Peek r n es ∷ calls) (shown_frames s line r queue frames es) r (shown_queue queue es)
queue_here_peek s line r n es calls frames queue size possible few agree is =
    let held = held_of s r calls in let back = back_of s r calls in
    let now = held_here s r n es calls in
    let stands = standing_is s calls frames r queue is in
    record {
      entries = ap (λ xs. xs ++ drop (length (standing queue)) es) is.entries
          ∙ ap (λ xs. (map entry_of held ++ back) ++ drop (length xs) es) stands
          ∙ append_assoc (map entry_of held) back (drop (length back) es)
          ∙ ap (λ xs. map entry_of held ++ xs) (same_both back es agree)
          ∙ sym (append_assoc (map entry_of held) es (drop (length es) back))
          ∙ ap (λ xs. (map entry_of held ++ xs) ++ drop (length es) back) (sym (entries_fresh es))
          ∙ ap (λ xs. xs ++ drop (length es) back) (sym (map-append entry_of held (map fresh es)))
          ∙ ap (λ xs. map entry_of xs ++ drop (length es) back) (sym now)
          ∙ ap (λ xs. map entry_of (held_of s r (Peek r n es ∷ calls)) ++ xs) (sym (is_true (is_ring r r) (drop (length es) back) back (is_ring-self r)));
      held = omega (arith, is.held, ap length now, length-append held (map fresh es), length-map es fresh);
      latest = λ i h low. subst (λ xs. is_latest s (shown_frames s line r queue frames es) r (numbered queue.first i) (get_or xs i h).entry ≡ (get_or xs i h).untouched) (sym now)
          (⊎_elim
          (λ (old : i < length held).
          subst (λ (x : Held). is_latest s (shown_frames s line r queue frames es) r (numbered queue.first i) x.entry ≡ x.untouched) (sym (get_or_append_left held (map fresh es) h i old))
          (old_entry s line r r n es calls frames queue (numbered queue.first i) i h size possible old
          (λ j a b. and_false (is_ring r r) (numbered queue.first i == numbered queue.first j)
          (other_number queue.first queue.held (2 ^ 20) i j (length es) (omega (arith, old, is.held)) a b few (omega arith)))
          (λ f. fresh_here s r n es calls f possible)
          (is.latest i h (omega (arith, old, is.held)))))
          (λ (later : length held ≤ i).
          let k = i - length held in
          let d = h.entry in
          let low_k : k < length es = omega (arith, low, later, is.held) in
          let at : get_or (held ++ map fresh es) i h ≡ fresh (get_or es k d) =
          get_or-append_right held (map fresh es) (length held) i h refl later ∙ at_fresh es k h d low_k in
          subst (λ (x : Held). is_latest s (shown_frames s line r queue frames es) r (numbered queue.first i) x.entry ≡ x.untouched) (sym at)
          (subst (λ m. is_latest s (shown_frames s line r queue frames es) r (numbered queue.first m) (get_or es k d) ≡ true) (omega (arith, later, is.held))
          (new_entry s line r n es calls frames queue k d size possible low_k)))
          (cases_lt i (length held)));
    }
