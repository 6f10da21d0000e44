-- A judge stands for one call more, whatever the call.
use Rattle.std.proofs.Common.{◌≡◌, ℕ, zero, suc, ◌+◌, ◌-◌, ◌<◌, ◌≤◌, ◌⊎◌, ◌^◌, Bool, true, false, ◌==◌, None, List, [], ◌∷◌, ◌++◌, length, take, drop, map, get_or, set, refl, sym, ap, ◌∙◌, subst, arith, ⊎_elim, inl, inr, length-drop, append_assoc, get_or-set_same, get_or-set_other, eq-eqb, ne_eqb}
use Rattle.std.specs.Prelude.{IsTrue, All}
use Rattle.std.proofs.lemmas.List.{length-map, take-append-drop, map-append, get_or-take, length-take, take_at, drop-append-le}
use Rattle.std.proofs.lemmas.Bool.{cases_Bool, cases_eq}
use Rattle.xsk_umem.specs.declared.batch.XdpDesc.{XdpDesc}
use Rattle.xsk_model.specs.declared.call.Ring.{Ring}
use Rattle.xsk_model.specs.declared.call.Ring.TheVariants.{Fill, Comp, Rx, Tx}
use Rattle.xsk_model.specs.Rings.{is_ring}
use Rattle.xsk_model.proofs.Places.{is_ring-self}
use Rattle.xsk_side.specs.Setting.{Setting, HasRing, size_of}
use Rattle.xsk_side.specs.Entries.{frame, times, stands, strays_in, last, but_last}
use Rattle.xsk_side.specs.Object.{is_made}
use Rattle.xsk_side.specs.Own.{Held, entry_of, held_of, put_back, has_frame}
use Rattle.xsk_side.specs.Possible.{Possible, IsHistory, own}
use Rattle.xsk_side.specs.Object.{Entry}
use Rattle.xsk_side.specs.Local.{back_of, given_of, new_of, strays_given}
use Rattle.xsk_side.specs.declared.call.Call.{Call}
use Rattle.xsk_side.specs.declared.call.Call.TheVariants.{Peek, Cancel}
use Rattle.xsk_side.specs.declared.call.Party.TheVariants.{Program}
use Rattle.xsk_side.proofs.Lists.{number, drop-map, last-and_before}
use Rattle.xsk_side.proofs.Rings.{same_or, is_true, is_false}
use Rattle.xsk_side.proofs.Frames.{frames_sound, few_put_back, other_way, times_fresh, unheld}
use Rattle.xsk_side.proofs.Given.{given_sound, some_or_none}
use Rattle.xsk_judge.specs.declared.known.Known.{Known}
use Rattle.xsk_judge.specs.declared.known.End.{End}
use Rattle.xsk_judge.specs.Kept.{Queue, Kept, is_as, known_in, numbered, place, end_at, queue_at, strays_at, standing}
use Rattle.xsk_judge.specs.Judging.{IsFor, MayCall, MayAnswer, after, again, is_latest, last_held, marked, shown_frames, shown_queue, strays_after}
use Rattle.xsk_judge.specs.Stands.{Line, IsQueue, StandsFor, calls_of}
use Rattle.xsk_judge.proofs.Marking.{marked-all, marked-none, inside_below}
use Rattle.xsk_judge.proofs.Standing.{possible_more, may_call, standing_is}
use Rattle.xsk_judge.proofs.Behind.{IsEnd, more, known_same, known_peek, known_cancel, none_stands, one_stands, room_behind, sure_behind, shown_behind, room_same, sure_same, shown_same, again_off, again_behind, facts, unlike, queue_else, queue_here, no_queue}
use Rattle.xsk_judge.proofs.Stepping.{latest_moved, queue_plain}
use Rattle.xsk_judge.proofs.Peeking.{queue_here_peek, queue_else_peek}

-- ---- a Peek

strays_peek : (s : Setting) (kept : Kept) (lines : List Line) (r : Ring) (n : ℕ) (es : List XdpDesc) (d : ℕ) → IsFor s kept → StandsFor s kept lines → HasRing s r → is_made r ≡ false
    → d < length s.pairs → get_or (strays_after s kept r es) d 0 ≡ strays_given s d (Peek r n es ∷ calls_of lines)
strays_peek s kept lines (Fill e) n es d for now has made low = absurd (cc)
strays_peek s kept lines (Tx k) n es d for now has made low = absurd (cc)
strays_peek s kept lines (Rx k) n es d for now has made low = now.strays d low
strays_peek s kept lines (Comp c) n es d for now has made low =
    let calls = calls_of lines in let g = strays_given s d calls in
    let gone = strays_in s (new_of (standing (queue_at s kept (Comp c))) es) in
    let same : gone ≡ strays_in s (new_of (back_of s (Comp c) calls) es) =
    ap (λ xs. strays_in s (drop (length xs) es)) (standing_is s calls kept.frames (Comp c) (queue_at s kept (Comp c)) (now.queues (Comp c) has refl)) in
    ⊎_elim
    (λ (e : d ≡ c).
    subst (λ x. get_or (set kept.strays c (strays_at kept c - gone)) x 0 ≡ strays_at kept c - gone) (sym e)
    (get_or-set_same kept.strays c (strays_at kept c - gone) 0 (omega (arith, has, for.strays)))
    ∙ ap (λ x. strays_at kept x - gone) (sym e)
    ∙ ap (λ x. x - gone) (now.strays d low)
    ∙ ap (λ x. g - x) same
    ∙ sym (is_true (d == c) (g - strays_in s (new_of (back_of s (Comp c) calls) es)) g (eq-eqb d c e)))
    (λ (off : d ≡ c → ⊥).
    get_or-set_other kept.strays c d (strays_at kept c - gone) 0 off
    ∙ now.strays d low
    ∙ sym (is_false (d == c) (g - strays_in s (new_of (back_of s (Comp c) calls) es)) g (ne_eqb d c off)))
    (cases_eq d c)

pub stands_peek : (s : Setting) (kept : Kept) (lines : List Line) (line : ℕ) (r : Ring) (n : ℕ) (es : List XdpDesc) → IsFor s kept → StandsFor s kept lines → size_of s r ≤ 2 ^ 20
    → MayCall s kept (Peek r n es) → MayAnswer s kept (Peek r n es) → StandsFor s (after s line kept (Peek r n es)) (more line (Peek r n es) lines)
stands_peek s kept lines line r n es for now small may answers =
    let call = Peek r n es in let calls = calls_of lines in
    let queue = queue_at s kept r in
    let possible = possible_more s kept lines call now may answers in
    let back = standing_is s calls kept.frames r queue (now.queues r may.0 may.1) in
    record {
      possible = possible;
      frames = λ f low. known_peek s kept lines line r n es (take (length (standing queue)) es) (drop (length (standing queue)) es) queue.first queue.held
          (queue.held + length (take (length (standing queue)) es)) f for now (sym (take-append-drop (length (standing queue)) es)) low;
      room = λ q has made. room_same s kept lines line call q now may.1 has made;
      sure = λ q has made. sure_same s kept lines line call q now may.1 has made;
      shown = λ q has made. shown_same s kept lines line call q now may.1 has made;
      again = λ q has made. again_behind s kept lines line call (shown_queue queue es) q for now may.1 may.0 refl has made;
      queues = λ q has made. ⊎_elim
          (λ (e : q ≡ r). subst (λ x. IsQueue s (call ∷ calls) (shown_frames s line r queue kept.frames es) x (get_or (set kept.queues (place s r) (shown_queue queue es)) (place s x) no_queue)) (sym e)
          (subst (IsQueue s (call ∷ calls) (shown_frames s line r queue kept.frames es) r) (sym (queue_here s kept.queues r (shown_queue queue es) for.queues may.0))
          (queue_here_peek s line r n es calls kept.frames queue for.frames possible (omega (arith, answers.places, small))
          (subst (λ xs. take (length xs) es ≡ take (length es) xs) back answers.again) (now.queues r may.0 may.1))))
          (λ (off : is_ring q r ≡ false).
          subst (IsQueue s (call ∷ calls) (shown_frames s line r queue kept.frames es) q) (sym (queue_else s kept.queues q r (shown_queue queue es) made may.1 has may.0 off))
          (queue_else_peek s line q r n es calls kept.frames queue (queue_at s kept q) for.frames off possible (now.queues q has made)))
          (same_or q r);
      strays = λ d low. strays_peek s kept lines r n es d for now may.0 may.1 low;
    }

-- ---- a Cancel of places

none_put_back : (s : Setting) (f n : ℕ) (held : List Held) → held ≡ [] → times s f (map entry_of (last n held)) ≡ 0
none_put_back s f n held none = ap (λ xs. times s f (map entry_of (last n xs))) none ∙ nothing_left (0 - n)
  where
    nothing_left : (k : ℕ) → times s f (map entry_of (drop k [])) ≡ 0
    nothing_left zero = refl
    nothing_left (suc k) = refl

stands_give_up : (s : Setting) (kept : Kept) (lines : List Line) (line : ℕ) (r : Ring) (n : ℕ) → IsFor s kept → StandsFor s kept lines → is_made r ≡ true
    → MayCall s kept (Cancel r n) → (kept' : Kept)
    → kept' ≡ record kept { ends = set kept.ends (place s r) (record (end_at s kept r) { room = (end_at s kept r).room - n; sure = (end_at s kept r).sure + n }) }
    → StandsFor s kept' (more line (Cancel r n) lines)
stands_give_up s kept lines line r n for now made may kept' is =
    let call = Cancel r n in let calls = calls_of lines in
    let end : End = record (end_at s kept r) { room = (end_at s kept r).room - n; sure = (end_at s kept r).sure + n } in
    let ends : IsEnd s kept call (set kept.ends (place s r) end) = record { ring = made; known = may.0; end = end; is = refl; room = refl; sure = refl } in
    let none : held_of s r calls ≡ [] = ap (held_of s r) (sym now.possible.own) ∙ unheld s now.possible.history r now.possible.legal made in
    let nothing_back = λ (f : ℕ). none_stands s f (put_back s calls r n) (none_put_back s f n (held_of s r calls) none) in
    subst (λ k. StandsFor s k (more line call lines)) (sym is) (record {
      possible = possible_more s kept lines call now may tt;
      frames = λ f low. known_same s lines line call f (known_in kept.frames f) (now.frames f low)
          (is_false (stands s f (put_back s calls r n)) false (has_frame s f calls) (nothing_back f)) refl (nothing_back f);
      room = λ q has m. room_behind s kept lines line call (set kept.ends (place s r) end) q for now ends has m;
      sure = λ q has m. sure_behind s kept lines line call (set kept.ends (place s r) end) q for now ends has m;
      shown = λ q has m. shown_behind s kept lines line call (set kept.ends (place s r) end) q for now ends refl has m;
      again = λ q has m. again_off s kept lines line call q now (other_way r q (unlike r q made m)) has m;
      queues = λ q has m.
          let off = other_way r q (unlike r q made m) in
          queue_plain s calls kept.frames q (queue_at s kept q) call (is_false (is_ring q r) (but_last n (held_of s q calls)) (held_of s q calls) off)
          (is_false (is_ring q r) (put_back s calls r n ++ back_of s q calls) (back_of s q calls) off) (now.queues q has m);
      strays = λ d low. now.strays d low;
    })

-- ---- a Cancel of entries

put_back_given : (s : Setting) (calls : List Call) (r : Ring) (n f : ℕ) → Possible s calls → All (λ (h : Held). IsTrue h.untouched) (last n (held_of s r calls))
    → (given_of s calls f ≡ None) ⊎ (times s f (put_back s calls r n) ≡ 0)
put_back_given s calls r n f possible =
    subst (λ mine. All (λ (h : Held). IsTrue h.untouched) (last n (held_of s r mine)) → (given_of s mine f ≡ None) ⊎ (times s f (put_back s mine r n) ≡ 0)) possible.own
    (by possible.history possible.legal)
  where
    so : (b : Bool) → 1 ≤ number b → b ≡ true
    so true h = refl
    so false h = absurd (omega (arith, h))

    by : (h : List Entry) → IsHistory s h → All (λ (h : Held). IsTrue h.untouched) (last n (held_of s r (own Program h)))
        → (given_of s (own Program h) f ≡ None) ⊎ (times s f (put_back s (own Program h) r n) ≡ 0)
    by h legal all = ⊎_elim
        (λ (some : 1 ≤ times s f (put_back s (own Program h) r n)).
        inl ((given_sound s h legal).had f (so (has_frame s f (own Program h)) (omega (arith, some, few_put_back s h f r n (frames_sound s h f legal) all)))))
        (λ (none : times s f (put_back s (own Program h) r n) ≡ 0). inr none)
        (some_or_none (times s f (put_back s (own Program h) r n)))

last_held_is : (s : Setting) (calls : List Call) (frames : List Known) (r : Ring) (queue : Queue) (n : ℕ) → n ≤ queue.held → IsQueue s calls frames r queue → last_held queue n ≡ put_back s calls r n
last_held_is s calls frames r queue n few is =
    let held = held_of s r calls in let back = back_of s r calls in let k = length held - n in
    ap (λ m. take n (drop (m - n) queue.entries)) is.held
    ∙ ap (λ xs. take n (drop k xs)) is.entries
    ∙ ap (take n) (drop-append-le k (map entry_of held) back (omega (arith, length-map held entry_of)) ∙ ap (λ xs. xs ++ back) (drop-map entry_of k held))
    ∙ take_at (map entry_of (drop k held)) back n (omega (arith, length-map (drop k held) entry_of, length-drop k held, few, is.held))

-- a frame that is put back isn't the program's behind the call, so no held entry of it is untouched
none_fresh : (s : Setting) (calls : List Call) (q r : Ring) (n f : ℕ) → Possible s (Cancel r n ∷ calls) → 1 ≤ times s f (put_back s calls r n) → times_fresh s f (held_of s q (Cancel r n ∷ calls)) ≡ 0
none_fresh s calls q r n f possible some =
    let gone : has_frame s f (Cancel r n ∷ calls) ≡ false = is_true (stands s f (put_back s calls r n)) false (has_frame s f calls) (one_stands s f (put_back s calls r n) some) in
    omega (arith, (facts s (Cancel r n ∷ calls) f possible).few q, ap number gone)

cancel_latest : (s : Setting) (line : ℕ) (calls : List Call) (frames : List Known) (q r : Ring) (n num i : ℕ) (h : Held) → length frames ≡ s.geometry.frames → Possible s (Cancel r n ∷ calls)
    → i < length (held_of s q (Cancel r n ∷ calls))
    → is_latest s frames q num (get_or (held_of s q (Cancel r n ∷ calls)) i h).entry ≡ (get_or (held_of s q (Cancel r n ∷ calls)) i h).untouched
    → is_latest s (marked s (again r line) 0 (put_back s calls r n) frames) q num (get_or (held_of s q (Cancel r n ∷ calls)) i h).entry ≡ (get_or (held_of s q (Cancel r n ∷ calls)) i h).untouched
cancel_latest s line calls frames q r n num i h size possible low was =
    let es = put_back s calls r n in
    latest_moved s frames (marked s (again r line) 0 es frames) q num (held_of s q (Cancel r n ∷ calls)) i h low
    (λ inside.
    let f = frame s (get_or (held_of s q (Cancel r n ∷ calls)) i h).entry in
    ⊎_elim
    (λ (some : 1 ≤ times s f es).
    inr (
      none_fresh s calls q r n f possible some,
      ap (λ (k : Known). is_as q num k.place)
          (marked-all s (again r line) (again r line 0) 0 es frames f (λ j. refl) (omega (arith, size, inside_below s (get_or (held_of s q (Cancel r n ∷ calls)) i h).entry inside)) some),
    ))
    (λ (none : times s f es ≡ 0). inl (marked-none s (again r line) 0 es frames f none))
    (some_or_none (times s f es)))
    was

queue_cancel : (s : Setting) (line : ℕ) (calls : List Call) (frames : List Known) (r : Ring) (n : ℕ) (queue : Queue) → length frames ≡ s.geometry.frames → Possible s (Cancel r n ∷ calls)
    → n ≤ queue.held → IsQueue s calls frames r queue
    → IsQueue s (Cancel r n ∷ calls) (marked s (again r line) 0 (put_back s calls r n) frames) r (record queue { held = queue.held - n; again = line })
queue_cancel s line calls frames r n queue size possible few is =
    let held = held_of s r calls in let back = back_of s r calls in
    let now : held_of s r (Cancel r n ∷ calls) ≡ but_last n held = is_true (is_ring r r) (but_last n held) held (is_ring-self r) in
    let stands_now : back_of s r (Cancel r n ∷ calls) ≡ put_back s calls r n ++ back = is_true (is_ring r r) (put_back s calls r n ++ back) back (is_ring-self r) in
    record {
      entries = is.entries
          ∙ ap (λ xs. map entry_of xs ++ back) (sym (last-and_before n held))
          ∙ ap (λ xs. xs ++ back) (map-append entry_of (but_last n held) (last n held))
          ∙ append_assoc (map entry_of (but_last n held)) (map entry_of (last n held)) back
          ∙ ap (λ xs. map entry_of xs ++ (put_back s calls r n ++ back)) (sym now)
          ∙ ap (λ xs. map entry_of (held_of s r (Cancel r n ∷ calls)) ++ xs) (sym stands_now);
      held = omega (arith, is.held, ap length now, length-take (length held - n) held);
      latest = λ i h low.
          let short : length (held_of s r (Cancel r n ∷ calls)) ≡ length held - n = omega (arith, ap length now, length-take (length held - n) held) in
          let at : get_or (held_of s r (Cancel r n ∷ calls)) i h ≡ get_or held i h =
          ap (λ xs. get_or xs i h) now ∙ get_or-take (length held - n) held i h (omega (arith, low, is.held)) in
          cancel_latest s line calls frames r r n (numbered queue.first i) i h size possible (omega (arith, low, is.held, short))
          (subst (λ (x : Held). is_latest s frames r (numbered queue.first i) x.entry ≡ x.untouched) (sym at) (is.latest i h (omega (arith, low))));
    }

queue_cancel_else : (s : Setting) (line : ℕ) (calls : List Call) (frames : List Known) (q r : Ring) (n : ℕ) (queue : Queue) → length frames ≡ s.geometry.frames → Possible s (Cancel r n ∷ calls)
    → is_ring q r ≡ false → IsQueue s calls frames q queue → IsQueue s (Cancel r n ∷ calls) (marked s (again r line) 0 (put_back s calls r n) frames) q queue
queue_cancel_else s line calls frames q r n queue size possible off is =
    let held : held_of s q (Cancel r n ∷ calls) ≡ held_of s q calls = is_false (is_ring q r) (but_last n (held_of s q calls)) (held_of s q calls) off in
    let plain = queue_plain s calls frames q queue (Cancel r n) held (is_false (is_ring q r) (put_back s calls r n ++ back_of s q calls) (back_of s q calls) off) is in
    record {
      entries = plain.entries;
      held = plain.held;
      latest = λ i h low. cancel_latest s line calls frames q r n (numbered queue.first i) i h size possible (omega (arith, low, plain.held)) (plain.latest i h low);
    }

abbrev with_parts : Setting → Kept → Ring → ℕ → Queue → List XdpDesc → Kept
with_parts s kept r line queue es = record kept { frames = marked s (again r line) 0 es kept.frames; queues = set kept.queues (place s r) queue }

stands_put_back : (s : Setting) (kept : Kept) (lines : List Line) (line : ℕ) (r : Ring) (n : ℕ) → IsFor s kept → StandsFor s kept lines → is_made r ≡ false
    → MayCall s kept (Cancel r n) → (kept' : Kept)
    → kept' ≡ record kept {
      frames = marked s (again r line) 0 (last_held (queue_at s kept r) n) kept.frames;
      queues = set kept.queues (place s r) (record (queue_at s kept r) { held = (queue_at s kept r).held - n; again = line });
    } → StandsFor s kept' (more line (Cancel r n) lines)
stands_put_back s kept lines line r n for now unmade may kept' is =
    let call = Cancel r n in let calls = calls_of lines in
    let old = queue_at s kept r in
    let queue : Queue = record old { held = old.held - n; again = line } in
    let possible = possible_more s kept lines call now may tt in
    let is_old = now.queues r may.0 unmade in
    let few = may.1.held unmade in
    let frames = marked s (again r line) 0 (put_back s calls r n) kept.frames in
    let same = last_held_is s calls kept.frames r old n few is_old in
    subst (λ k. StandsFor s k (more line call lines)) (sym (is ∙ ap (with_parts s kept r line queue) same)) (record {
      possible = possible;
      frames = λ f low. known_cancel s kept lines line r n f for now low
          (put_back_given s calls r n f now.possible (may_call s kept lines call now may).untouched);
      room = λ q has m. room_same s kept lines line call q now unmade has m;
      sure = λ q has m. sure_same s kept lines line call q now unmade has m;
      shown = λ q has m. shown_same s kept lines line call q now unmade has m;
      again = λ q has m. again_behind s kept lines line call queue q for now unmade may.0 refl has m;
      queues = λ q has m. ⊎_elim
          (λ (e : q ≡ r). subst (λ x. IsQueue s (call ∷ calls) frames x (get_or (set kept.queues (place s r) queue) (place s x) no_queue)) (sym e)
          (subst (IsQueue s (call ∷ calls) frames r) (sym (queue_here s kept.queues r queue for.queues may.0))
          (queue_cancel s line calls kept.frames r n old for.frames possible few is_old)))
          (λ (off : is_ring q r ≡ false).
          subst (IsQueue s (call ∷ calls) frames q) (sym (queue_else s kept.queues q r queue m unmade has may.0 off))
          (queue_cancel_else s line calls kept.frames q r n (queue_at s kept q) for.frames possible off (now.queues q has m)))
          (same_or q r);
      strays = λ d low. now.strays d low;
    })

pub stands_cancel : (s : Setting) (kept : Kept) (lines : List Line) (line : ℕ) (r : Ring) (n : ℕ) → IsFor s kept → StandsFor s kept lines
    → MayCall s kept (Cancel r n) → StandsFor s (after s line kept (Cancel r n)) (more line (Cancel r n) lines)
stands_cancel s kept lines line r n for now may =
    let made_kept : Kept = record kept { ends = set kept.ends (place s r) (record (end_at s kept r) { room = (end_at s kept r).room - n; sure = (end_at s kept r).sure + n }) } in
    let unmade_kept : Kept = record kept {
      frames = marked s (again r line) 0 (last_held (queue_at s kept r) n) kept.frames;
      queues = set kept.queues (place s r) (record (queue_at s kept r) { held = (queue_at s kept r).held - n; again = line });
    } in
    ⊎_elim
    (λ (made : is_made r ≡ true). stands_give_up s kept lines line r n for now made may (after s line kept (Cancel r n)) (is_true (is_made r) made_kept unmade_kept made))
    (λ (unmade : is_made r ≡ false). stands_put_back s kept lines line r n for now unmade may (after s line kept (Cancel r n)) (is_false (is_made r) made_kept unmade_kept unmade))
    (cases_Bool (is_made r))
