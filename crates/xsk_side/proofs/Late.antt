-- What fits is possible: a kernel that takes at once, and does all else as late as it can, answers so.
use Rattle.std.proofs.Common.{◌≡◌, ℕ, zero, suc, ◌+◌, ◌-◌, ◌≤◌, Bool, true, false, cond, Option, Some, None, List, [], ◌∷◌, ◌++◌, length, take, drop, refl, sym, ap, ◌∙◌, subst, arith, length-append, length-drop, ⊎_elim, inl, inr, append-nil}
use Rattle.std.specs.Prelude.{is_some, IsTrue, All, ◌&&◌, ◌==◌}
use Rattle.std.proofs.lemmas.List.{length-map, take_all, drop_all}
use Rattle.std.proofs.lemmas.Bool.{cases_Bool}
use Rattle.std.proofs.lemmas.Bool.Decides.{nat_tests}
use Rattle.std.proofs.lemmas.List.Elements.{All-head, All-tail}
use Rattle.xsk_umem.specs.declared.batch.XdpDesc.{XdpDesc}
use Rattle.xsk_model.specs.Descriptor.{is_inside}
use Rattle.xsk_model.specs.declared.call.Ring.{Ring}
use Rattle.xsk_model.specs.declared.call.Ring.TheVariants.{Fill, Comp, Rx, Tx}
use Rattle.xsk_model.specs.Rings.{is_ring}
use Rattle.xsk_model.proofs.Places.{is_ring-self}
use Rattle.xsk_side.specs.Setting.{Setting, HasRing, size_of, pair_of}
use Rattle.xsk_side.specs.Entries.{names, frame, times, strays_in}
use Rattle.xsk_side.specs.Object.{Entry, RingState, ring_of, ring_at, ring_after, consumer, is_made, free, Replies}
use Rattle.xsk_side.specs.Own.{room_of, held_of, entry_of, put_back, has_frame, source_of, is_tx_of, strays_taken}
use Rattle.xsk_side.specs.Legal.{IsLegal, IsReceived, IsCompleted, MayCome}
use Rattle.xsk_side.specs.Possible.{IsHistory, Possible, own}
use Rattle.xsk_side.specs.Local.{sure_of, sure_after, back_of, back_after, given_of, strays_given, new_of, FitsReply, Fits, AllFit}
use Rattle.xsk_side.specs.declared.call.Party.TheVariants.{Program, Kernel}
use Rattle.xsk_side.specs.declared.call.Answer.{Answer}
use Rattle.xsk_side.specs.declared.call.Answer.TheVariants.{Granted, Full, Refused}
use Rattle.xsk_side.specs.declared.call.Call.{Call}
use Rattle.xsk_side.specs.declared.call.Call.TheVariants.{Reserve, Free, Submit, Peek, Release, Cancel}
use Rattle.xsk_side.proofs.Lists.{number}
use Rattle.xsk_side.proofs.Rings.{entry, same_or, ring_here, ring_else, is_true, is_false, rings_sound, submit_has_room}
use Rattle.xsk_side.proofs.Frames.{frames_sound, out_put_back, positive}
use Rattle.xsk_side.proofs.Bounds.{made_consumer, unmade_producer, made_out}
use Rattle.xsk_side.proofs.Given.{given_sound, comes_as, some_or_none}
use Rattle.xsk_side.proofs.Strays.{total, strays_sound}
use Rattle.xsk_side.proofs.Fits.{made_by, shown_to, is_producer, room_is, held_is}

-- ---- a history in which the kernel took all, gave back and put no more than was seen

pub record IsLate (s : Setting) (h : List Entry) : Type 0 where
  pub legal : IsHistory s h
  pub taken : (r : Ring) → is_made r ≡ true → (ring_at r h).out ≡ []
  pub sure : (r : Ring) → is_made r ≡ true → free (size_of s r) (ring_at r h) ≡ sure_of s r (own Program h)
  pub shown : (r : Ring) → is_made r ≡ false → (ring_at r h).out ≡ back_of s r (own Program h)
  pub room : (r : Ring) → is_made r ≡ false → ◌≡◌ {A = ℕ} (ring_at r h).room 0

some_source : (o : Option Ring) → 1 ≤ number (is_some o) → (q : Ring) × (o ≡ Some q)
some_source None h = absurd (omega (arith, h))
some_source (Some q) h = (q, refl)

one_has : (b : Bool) → 1 ≤ number b → b ≡ true
one_has true h = refl
one_has false h = absurd (omega (arith, h))

-- what is given is the kernel's, from that ring
late_source : (s : Setting) (h : List Entry) (f : ℕ) (q : Ring) → IsLate s h → given_of s (own Program h) f ≡ Some q → source_of s (own Kernel h) f ≡ Some q
late_source s h f q late is =
    let sound = frames_sound s h f late.legal in
    let given = given_sound s h late.legal in
    let not_none : given_of s (own Program h) f ≡ None → ⊥ = λ none. absurd (differ (given_of s (own Program h) f) q none is) in
    ⊎_elim
    (λ (a : 1 ≤ number (has_frame s f (own Program h)) + number (is_some (source_of s (own Kernel h) f))). ⊎_elim
    (λ (p : 1 ≤ number (has_frame s f (own Program h))). absurd (not_none (given.had f (one_has (has_frame s f (own Program h)) p))))
    (λ (k : 1 ≤ number (is_some (source_of s (own Kernel h) f))).
    let from = some_source (source_of s (own Kernel h) f) k in
    from.1 ∙ sym (given.taken f from.0 from.1) ∙ is)
    (positive (number (has_frame s f (own Program h))) (number (is_some (source_of s (own Kernel h) f))) a))
    (λ (b : (r : Ring) × (1 ≤ times s f (ring_at r h).out)). ⊎_elim
    (λ (made : is_made b.0 ≡ true). absurd (omega (arith, b.1, ap (times s f) (late.taken b.0 made))))
    (λ (made : is_made b.0 ≡ false). absurd (not_none ((given.rest b.0 made).again f (omega (arith, b.1, ap (times s f) (late.shown b.0 made))))))
    (cases_Bool (is_made b.0)))
    sound.place.somewhere
  where
    differ : (o : Option Ring) (q : Ring) → o ≡ None → o ≡ Some q → ⊥
    differ o q a b = cc

late_strays : (s : Setting) (h : List Entry) (d : ℕ) → IsLate s h → strays_given s d (own Program h) ≡ strays_taken s d (own Kernel h)
late_strays s h d late =
    let none = ap (λ xs. strays_in s (drop (length (back_of s (Comp d) (own Program h))) xs)) (late.shown (Comp d) refl) in
    let all = ap (strays_in s) (drop_all (length (back_of s (Comp d) (own Program h))) (back_of s (Comp d) (own Program h)) (omega arith)) in
    omega (arith, strays_sound s d h late.legal, no_tx (length s.sockets), none, all)
  where
    nothing : (b : Bool) (k : ℕ) → k ≡ 0 → ◌≡◌ {A = ℕ} (cond b k 0) 0
    nothing true k h = h
    nothing false k h = refl

    no_tx : (n : ℕ) → total (λ t. cond (is_tx_of s d (Tx t)) (strays_in s (ring_at (Tx t) h).out) 0) n ≡ 0
    no_tx zero = refl
    no_tx (suc n) = omega (arith, no_tx n, nothing (is_tx_of s d (Tx n)) (strays_in s (ring_at (Tx n) h).out) (ap (strays_in s) (late.taken (Tx n) refl)))

-- ---- the histories before and after a call of the program on a ring, where no other ring changes

pub record IsStep (s : Setting) (h h' : List Entry) (call : Call) : Type 0 where
  pub legal : IsHistory s h'
  pub calls : own Program h' ≡ call ∷ own Program h
  pub others : (r : Ring) → is_ring r (ring_of call) ≡ false → ring_at r h' ≡ ring_at r h
  pub taken : is_made (ring_of call) ≡ true → (ring_at (ring_of call) h').out ≡ []
  pub sure : is_made (ring_of call) ≡ true → free (size_of s (ring_of call)) (ring_at (ring_of call) h') ≡ sure_after (sure_of s (ring_of call) (own Program h)) call
  pub shown : is_made (ring_of call) ≡ false → (ring_at (ring_of call) h').out ≡ back_after s (own Program h) (back_of s (ring_of call) (own Program h)) call
  pub room : is_made (ring_of call) ≡ false → ◌≡◌ {A = ℕ} (ring_at (ring_of call) h').room 0

late_after : (s : Setting) (h h' : List Entry) (call : Call) → IsLate s h → IsStep s h h' call → IsLate s h'
late_after s h h' call late step =
    let q = ring_of call in let mine = own Program h in
    record {
      legal = step.legal;
      taken = λ r made. ⊎_elim
          (λ (e : r ≡ q). subst (λ x. (ring_at x h').out ≡ []) (sym e) (step.taken (subst (λ x. is_made x ≡ true) e made)))
          (λ (off : is_ring r q ≡ false). ap (λ (ring : RingState). ring.out) (step.others r off) ∙ late.taken r made)
          (same_or r q);
      sure = λ r made. ⊎_elim
          (λ (e : r ≡ q). subst (λ x. free (size_of s x) (ring_at x h') ≡ sure_of s x (own Program h')) (sym e)
          (step.sure (subst (λ x. is_made x ≡ true) e made)
          ∙ sym (is_true (is_ring q q) (sure_after (sure_of s q mine) call) (sure_of s q mine) (is_ring-self q))
          ∙ ap (sure_of s q) (sym step.calls)))
          (λ (off : is_ring r q ≡ false).
          ap (free (size_of s r)) (step.others r off)
          ∙ late.sure r made
          ∙ sym (is_false (is_ring r q) (sure_after (sure_of s r mine) call) (sure_of s r mine) off)
          ∙ ap (sure_of s r) (sym step.calls))
          (same_or r q);
      shown = λ r made. ⊎_elim
          (λ (e : r ≡ q). subst (λ x. (ring_at x h').out ≡ back_of s x (own Program h')) (sym e)
          (step.shown (subst (λ x. is_made x ≡ false) e made)
          ∙ sym (is_true (is_ring q q) (back_after s mine (back_of s q mine) call) (back_of s q mine) (is_ring-self q))
          ∙ ap (back_of s q) (sym step.calls)))
          (λ (off : is_ring r q ≡ false).
          ap (λ (ring : RingState). ring.out) (step.others r off)
          ∙ late.shown r made
          ∙ sym (is_false (is_ring r q) (back_after s mine (back_of s r mine) call) (back_of s r mine) off)
          ∙ ap (back_of s r) (sym step.calls))
          (same_or r q);
      room = λ r made. ⊎_elim
          (λ (e : r ≡ q). subst (λ x. ◌≡◌ {A = ℕ} (ring_at x h').room 0) (sym e) (step.room (subst (λ x. is_made x ≡ false) e made)))
          (λ (off : is_ring r q ≡ false). ap (λ (ring : RingState). ring.room) (step.others r off) ∙ late.room r made)
          (same_or r q);
    }

-- ---- one step for each call

-- two calls on one ring leave the others
two_else : (h : List Entry) (first second : Entry) (r q : Ring) → ring_of first.call ≡ q → ring_of second.call ≡ q → is_ring r q ≡ false
    → ring_at r (second ∷ first ∷ h) ≡ ring_at r h
two_else h first second r q a b off =
    ring_else r (first ∷ h) second.who second.call (ap (is_ring r) b ∙ off) ∙ ring_else r h first.who first.call (ap (is_ring r) a ∙ off)

-- the kernel gives back so many places
give_back : (s : Setting) (h : List Entry) (r : Ring) (n : ℕ) → IsLate s h → HasRing s r → is_made r ≡ true → n ≤ length (ring_at r h).held
    → IsHistory s (entry Kernel (Release r n) ∷ h)
give_back s h r n late has made few = (
  late.legal,
  record {
    known = has;
    role = sym (made_consumer r made);
    counted = omega (
      arith,
      few,
      ap length (rings_sound s h late.legal r).held,
      length-map (held_of s r (own (consumer r) h)) entry_of,
      ap (λ w. length (held_of s r (own w h))) (made_consumer r made),
    );
    frames = tt;
    untouched = tt;
    put = tt;
  },
  tt,
)

given_back : (h : List Entry) (r : Ring) (n : ℕ) → ring_at r (entry Kernel (Release r n) ∷ h) ≡ record (ring_at r h) { held = drop n (ring_at r h).held }
given_back h r n = ring_here h Kernel (Release r n)

both : (b : Bool) → b ≡ true → b ≡ false → ⊥
both true h k = cc
both false h k = cc

-- a call that asks for places, behind a Release of so many by the kernel
asked : (s : Setting) (h : List Entry) (call : Call) (n : ℕ) (ring : RingState) → IsLate s h → IsLegal s Program (own Program h) call → is_made (ring_of call) ≡ true
    → n ≤ length (ring_at (ring_of call) h).held
    → ring ≡ record (ring_at (ring_of call) h) { held = drop n (ring_at (ring_of call) h).held }
    → Replies (size_of s (ring_of call)) ring call
    → (ring_after ring call).out ≡ []
    → free (size_of s (ring_of call)) (ring_after ring call) ≡ sure_after (sure_of s (ring_of call) (own Program h)) call
    → (h' : List Entry) × IsStep s h h' call
asked s h call n ring late legal made few is reply none sure =
    let q = ring_of call in
    let released = entry Kernel (Release q n) ∷ h in
    let at : ring_at q released ≡ ring = given_back h q n ∙ sym is in
    let now : ring_at q (entry Program call ∷ released) ≡ ring_after ring call = ring_here released Program call ∙ ap (λ x. ring_after x call) at in (
      entry Program call ∷ released,
      record {
        legal = (give_back s h q n late legal.known made few, legal, subst (λ x. Replies (size_of s q) x call) (sym at) reply);
        calls = refl;
        others = λ r off. two_else h (entry Kernel (Release q n)) (entry Program call) r q refl refl off;
        taken = λ m. ap (λ (x : RingState). x.out) now ∙ none;
        sure = λ m. ap (free (size_of s q)) now ∙ sure;
        shown = λ m. absurd (both (is_made q) made m);
        room = λ m. absurd (both (is_made q) made m);
      },
    )

-- how many places are free in a late history, and how many the kernel could give back
late_free : (s : Setting) (h : List Entry) (r : Ring) → IsLate s h → is_made r ≡ true
    → sure_of s r (own Program h) + (length (ring_at r h).held + room_of r (own Program h)) ≡ size_of s r
late_free s h r late made =
    omega (
      arith,
      late.sure r made,
      ap length (late.taken r made),
      (rings_sound s h late.legal r).within,
      room_is s h r late.legal (is_producer r made),
    )

-- the places that are free behind the kernel's Release
freed : (s : Setting) (h : List Entry) (r : Ring) (n : ℕ) → IsLate s h → is_made r ≡ true → n ≤ length (ring_at r h).held
    → free (size_of s r) (record (ring_at r h) { held = drop n (ring_at r h).held }) ≡ sure_of s r (own Program h) + n
freed s h r n late made few =
    omega (
      arith,
      few,
      late_free s h r late made,
      ap length (late.taken r made),
      length-drop n (ring_at r h).held,
      room_is s h r late.legal (is_producer r made),
    )

reserve_step : (s : Setting) (h : List Entry) (r : Ring) (n k : ℕ) (answer : Answer) → IsLate s h → IsLegal s Program (own Program h) (Reserve r n answer)
    → is_made r ≡ true → k ≤ length (ring_at r h).held
    → Replies (size_of s r) (record (ring_at r h) { held = drop k (ring_at r h).held }) (Reserve r n answer)
    → free (size_of s r) (ring_after (record (ring_at r h) { held = drop k (ring_at r h).held }) (Reserve r n answer)) ≡ sure_after (sure_of s r (own Program h)) (Reserve r n answer)
    → (h' : List Entry) × IsStep s h h' (Reserve r n answer)
reserve_step s h r n k answer late legal made few reply sure =
    asked s h (Reserve r n answer) k (record (ring_at r h) { held = drop k (ring_at r h).held }) late legal made few refl reply (late.taken r made) sure

-- the program's call alone
alone : (s : Setting) (h : List Entry) (call : Call) → IsLate s h → IsLegal s Program (own Program h) call
    → Replies (size_of s (ring_of call)) (ring_at (ring_of call) h) call
    → (is_made (ring_of call) ≡ true → ((ring_after (ring_at (ring_of call) h) call).out ≡ [])
    × (free (size_of s (ring_of call)) (ring_after (ring_at (ring_of call) h) call) ≡ sure_after (sure_of s (ring_of call) (own Program h)) call))
    → (is_made (ring_of call) ≡ false → ((ring_after (ring_at (ring_of call) h) call).out ≡ back_after s (own Program h) (back_of s (ring_of call) (own Program h)) call)
    × (◌≡◌ {A = ℕ} (ring_after (ring_at (ring_of call) h) call).room 0))
    → (h' : List Entry) × IsStep s h h' call
alone s h call late legal reply made unmade =
    let q = ring_of call in let now = ring_here h Program call in (
      entry Program call ∷ h,
      record {
        legal = (late.legal, legal, reply);
        calls = refl;
        others = λ r off. ring_else r h Program call off;
        taken = λ m. ap (λ (x : RingState). x.out) now ∙ (made m).0;
        sure = λ m. ap (free (size_of s q)) now ∙ (made m).1;
        shown = λ m. ap (λ (x : RingState). x.out) now ∙ (unmade m).0;
        room = λ m. ap (λ (x : RingState). x.room) now ∙ (unmade m).1;
      },
    )

-- ---- a Submit, and the kernel takes all

all_front : {X : Type 0} (xs : List X) → xs ≡ take (length xs) xs
all_front xs = sym (take_all (length xs) xs (omega arith))

submit_step : (s : Setting) (h : List Entry) (r : Ring) (es : List XdpDesc) → IsLate s h → IsLegal s Program (own Program h) (Submit r es)
    → (h' : List Entry) × IsStep s h h' (Submit r es)
submit_step s h r es late legal =
    let made = made_by r legal.role in
    let first = entry Program (Submit r es) ∷ h in
    let takes = Peek r (length es) es in
    let ring = ring_at r h in
    let room = submit_has_room s h Program r es late.legal legal in
    let middle : ring_at r first ≡ record ring { out = es; room = ring.room - length es } =
    ring_here h Program (Submit r es) ∙ ap (λ xs. record ring { out = xs ++ es; room = ring.room - length es }) (late.taken r made) in
    let out : (ring_at r first).out ≡ es = ap (λ (x : RingState). x.out) middle in
    let after : ring_at r (entry Kernel takes ∷ first) ≡ record ring { out = drop (length es) es; held = ring.held ++ es; room = ring.room - length es } =
    ring_here first Kernel takes ∙ ap (λ x. ring_after x takes) middle in
    let none : drop (length es) es ≡ [] = drop_all (length es) es (omega arith) in (
      entry Kernel takes ∷ first,
      record {
        legal = (
          (late.legal, legal, tt),
          record { known = legal.known; role = sym (made_consumer r made); counted = tt; frames = tt; untouched = tt; put = tt },
          (omega arith, all_front es ∙ ap (take (length es)) (sym out), λ nothing. inr (out ∙ nothing)),
        );
        calls = refl;
        others = λ q off. two_else h (entry Program (Submit r es)) (entry Kernel takes) q r refl refl off;
        taken = λ m. ap (λ (x : RingState). x.out) after ∙ none;
        sure = λ m. ap (free (size_of s r)) after
            ∙ same_free (size_of s r) (sure_of s r (own Program h)) (length ring.out) (length ring.held) ring.room (length es) (length (drop (length es) es)) (length (ring.held ++ es))
            (late.sure r made) (ap length (late.taken r made)) room (ap length none) (length-append ring.held es);
        shown = λ m. absurd (both (is_made r) made m);
        room = λ m. absurd (both (is_made r) made m);
      },
    )
  where
    same_free : (size sure out held room n left more : ℕ) → size - (out + held + room) ≡ sure → out ≡ 0 → n ≤ room → left ≡ 0 → more ≡ held + n
        → size - (left + more + (room - n)) ≡ sure
    same_free size sure out held room n left more a b c d e = omega (arith, a, b, c, d, e)

-- ---- a Peek, before which the kernel puts what is shown beyond the entries that were put back

joined : (back es : List XdpDesc) → take (length back) es ≡ take (length es) back → es ≡ take (length es) (back ++ drop (length back) es)
joined [] es h = all_front es
joined (b ∷ back) [] h = refl
joined (b ∷ back) (e ∷ es) h =
    ap (λ x. x ∷ es) (heads e b (take (length back) es) (take (length es) back) h)
    ∙ ap (λ xs. b ∷ xs) (joined back es (tails e b (take (length back) es) (take (length es) back) h))
  where
    heads : (x y : XdpDesc) (xs ys : List XdpDesc) → x ∷ xs ≡ y ∷ ys → x ≡ y
    heads x y xs ys h = cc

    tails : (x y : XdpDesc) (xs ys : List XdpDesc) → x ∷ xs ≡ y ∷ ys → xs ≡ ys
    tails x y xs ys h = cc

left_back : (back es : List XdpDesc) → drop (length es) (back ++ drop (length back) es) ≡ drop (length es) back
left_back [] es = drop_all (length es) es (omega arith) ∙ sym (drop_none (length es))
  where
    drop_none : (n : ℕ) → ◌≡◌ {A = List XdpDesc} (drop n []) []
    drop_none zero = refl
    drop_none (suc n) = refl
left_back (b ∷ back) [] = ap (λ xs. b ∷ xs) (append-nil back)
left_back (b ∷ back) (e ∷ es) = left_back back es

-- each frame of what may come is one that came from some ring
named : (s : Setting) (f : ℕ) (e : XdpDesc) → 1 ≤ number (names s f e) → (IsTrue (is_inside s.geometry e)) × (frame s e ≡ f)
named s f e h = (inside_of (is_inside s.geometry e) (frame s e) f h, frame_of (is_inside s.geometry e) (frame s e) f h)
  where
    inside_of : (b : Bool) (x f : ℕ) → 1 ≤ number (b && (x == f)) → b ≡ true
    inside_of true x f h = refl
    inside_of false x f h = absurd (omega (arith, h))

    frame_of : (b : Bool) (x f : ℕ) → 1 ≤ number (b && (x == f)) → x ≡ f
    frame_of b x f h = grind (arith, nat_tests, h)

came_from : (s : Setting) (from : ℕ → Option Ring) (strays : ℕ) (r : Ring) (es : List XdpDesc) (f : ℕ) → is_made r ≡ false → MayCome s from strays r es
    → 1 ≤ times s f es → (q : Ring) × (from f ≡ Some q)
came_from s from strays (Fill d) es f made h some = absurd (cc)
came_from s from strays (Tx k) es f made h some = absurd (cc)
came_from s from strays (Comp d) es f made h some = sent es h.0 some
  where
    sent : (es : List XdpDesc) → All (IsCompleted s from d) es → 1 ≤ times s f es → (q : Ring) × (from f ≡ Some q)
    sent [] all some = absurd (omega (arith, some))
    sent (e ∷ es) all some = ⊎_elim
        (λ (here : 1 ≤ number (names s f e)).
        let is = named s f e here in let c = (All-head (IsCompleted s from d) e es all).sent is.0 in
        (Tx c.0, ap from (sym is.1) ∙ c.1))
        (λ (later : 1 ≤ times s f es). sent es (All-tail (IsCompleted s from d) e es all) later)
        (positive (number (names s f e)) (times s f es) some)
came_from s from strays (Rx k) es f made h some = filled_by es h some
  where
    filled_by : (es : List XdpDesc) → All (IsReceived s from k) es → 1 ≤ times s f es → (q : Ring) × (from f ≡ Some q)
    filled_by [] all some = absurd (omega (arith, some))
    filled_by (e ∷ es) all some = ⊎_elim
        (λ (here : 1 ≤ number (names s f e)).
        let is = named s f e here in let c = All-head (IsReceived s from k) e es all in
        (Fill c.pair, ap from (sym is.1) ∙ c.filled))
        (λ (later : 1 ≤ times s f es). filled_by es (All-tail (IsReceived s from k) e es all) later)
        (positive (number (names s f e)) (times s f es) some)

peek_step : (s : Setting) (h : List Entry) (r : Ring) (n : ℕ) (es : List XdpDesc) → IsLate s h → IsLegal s Program (own Program h) (Peek r n es)
    → FitsReply s (own Program h) (Peek r n es) → (h' : List Entry) × IsStep s h h' (Peek r n es)
peek_step s h r n es late legal fits =
    let unmade = shown_to r legal.role in
    let mine = own Program h in
    let back = back_of s r mine in
    let new = new_of back es in
    let asks = Reserve r (length new) Granted in
    let first = entry Kernel asks ∷ h in
    let second = entry Kernel (Submit r new) ∷ first in
    let ring = ring_at r h in
    let one : ring_at r first ≡ record ring { room = ring.room + length new } = ring_here h Kernel asks in
    let two : ring_at r second ≡ record ring { out = ring.out ++ new; room = ring.room + length new - length new } =
    ring_here first Kernel (Submit r new) ∙ ap (λ x. ring_after x (Submit r new)) one in
    let out : (ring_at r second).out ≡ back ++ new = ap (λ (x : RingState). x.out) two ∙ ap (λ xs. xs ++ new) (late.shown r unmade) in
    let three = ring_here second Program (Peek r n es) in (
      entry Program (Peek r n es) ∷ second,
      record {
        legal = (
          (
            (
              late.legal,
              record { known = legal.known; role = sym (unmade_producer r unmade); counted = tt; frames = tt; untouched = tt; put = tt },
              omega (
                arith,
                fits.places,
                held_is s h r late.legal legal.role,
                ap length (late.shown r unmade),
                late.room r unmade,
                length-drop (length back) es,
              ),
            ),
            record {
              known = legal.known;
              role = sym (unmade_producer r unmade);
              counted = omega (
                arith,
                is_true (is_ring r r) (room_of r (own Kernel h) + length new) (room_of r (own Kernel h)) (is_ring-self r),
              );
              frames = λ f. ⊎_elim
                  (λ (some : 1 ≤ times s f new).
                  let from = came_from s (given_of s mine) (strays_given s (pair_of s r) mine) r new f unmade fits.new some in
                  omega (arith, fits.once f, ap (λ (o : Option Ring). number (is_some o)) (late_source s h f from.0 late from.1)))
                  (λ (none : times s f new ≡ 0). omega (arith, none))
                  (some_or_none (times s f new));
              untouched = tt;
              put = subst (λ k. MayCome s (source_of s (own Kernel h)) k r new) (late_strays s h (pair_of s r) late)
                  (comes_as s (given_of s mine) (source_of s (own Kernel h)) (strays_given s (pair_of s r) mine) r new
                  (λ f q some is. late_source s h f q late is) fits.new);
            },
            tt,
          ),
          legal,
          (
            fits.few,
            joined back es fits.again ∙ ap (take (length es)) (sym out),
            λ nothing. ⊎_elim
                (λ (a : n ≡ 0). inl a)
                (λ (b : back ≡ []). inr (out ∙ ap (λ xs. xs ++ drop (length xs) es) b ∙ nothing))
                (fits.none nothing),
          ),
        );
        calls = refl;
        others = λ q off. ring_else q second Program (Peek r n es) off ∙ two_else h (entry Kernel asks) (entry Kernel (Submit r new)) q r refl refl off;
        taken = λ m. absurd (both (is_made r) m unmade);
        sure = λ m. absurd (both (is_made r) m unmade);
        shown = λ m. ap (λ (x : RingState). x.out) three ∙ ap (drop (length es)) out ∙ left_back back es;
        room = λ m. ap (λ (x : RingState). x.room) three ∙ ap (λ (x : RingState). x.room) two ∙ no_room ring.room (length new) (late.room r unmade);
      },
    )
  where
    no_room : (room n : ℕ) → room ≡ 0 → room + n - n ≡ 0
    no_room room n h = omega (arith, h)

-- ---- all calls

cancel_room : (ring : RingState) (r : Ring) (n : ℕ) → is_made r ≡ false → (ring_after ring (Cancel r n)).room ≡ ring.room
cancel_room ring (Fill d) n h = absurd (cc)
cancel_room ring (Comp d) n h = refl
cancel_room ring (Rx k) n h = refl
cancel_room ring (Tx k) n h = absurd (cc)

step : (s : Setting) (h : List Entry) (call : Call) → IsLate s h → Fits s (own Program h) call → (h' : List Entry) × IsStep s h h' call
step s h (Reserve r n Granted) late fits =
    let made = made_by r fits.legal.role in let k = n - sure_of s r (own Program h) in
    let few : k ≤ length (ring_at r h).held = omega (arith, fits.reply, late_free s h r late made) in
    let places = freed s h r k late made few in
    reserve_step s h r n k Granted late fits.legal made few (omega (arith, places)) (omega (arith, places))
step s h (Reserve r n (Full told)) late fits =
    let made = made_by r fits.legal.role in let k = told - sure_of s r (own Program h) in
    let few : k ≤ length (ring_at r h).held = omega (arith, fits.reply.2, late_free s h r late made) in
    let places = freed s h r k late made few in
    reserve_step s h r n k (Full told) late fits.legal made few (omega (arith, places, fits.reply.1), fits.reply.0) (omega (arith, places, fits.reply.1))
step s h (Reserve r n Refused) late fits =
    let made = made_by r fits.legal.role in
    let few : 0 ≤ length (ring_at r h).held = omega arith in
    let places = freed s h r 0 late made few in
    reserve_step s h r n 0 Refused late fits.legal made few (omega (arith, places, fits.reply)) (omega (arith, places))
step s h (Free r n told) late fits =
    let made = fits.legal.role.1 in let k = told - sure_of s r (own Program h) in
    let few : k ≤ length (ring_at r h).held = omega (arith, fits.reply.0, late_free s h r late made) in
    let places = freed s h r k late made few in
    asked s h (Free r n told) k (record (ring_at r h) { held = drop k (ring_at r h).held }) late fits.legal made few refl
    (omega (arith, places), λ less. omega (arith, places, fits.reply.1 less)) (late.taken r made) (omega (arith, places))
step s h (Submit r es) late fits = submit_step s h r es late fits.legal
step s h (Peek r n es) late fits = peek_step s h r n es late fits.legal fits.reply
step s h (Release r n) late fits =
    let unmade = shown_to r fits.legal.role in
    alone s h (Release r n) late fits.legal tt (λ m. absurd (both (is_made r) m unmade)) (λ m. (late.shown r unmade, late.room r unmade))
step s h (Cancel r n) late fits =
    let ring = ring_at r h in
    alone s h (Cancel r n) late fits.legal tt
    (λ m.
    let counted = is_true (is_made r) (room_of r (own Program h)) (length (held_of s r (own Program h))) m in
    let few : n ≤ ring.room = omega (arith, fits.legal.counted, counted, room_is s h r late.legal (is_producer r m)) in (
      ap (λ (x : RingState). x.out) (made_out ring r n m) ∙ late.taken r m,
      ap (free (size_of s r)) (made_out ring r n m) ∙ more_free (size_of s r) (length ring.out) (length ring.held) ring.room n (sure_of s r (own Program h)) few (late.sure r m) (rings_sound s h late.legal r).within,
    ))
    (λ m. (
      out_put_back s h r n m (rings_sound s h late.legal r) ∙ ap (λ xs. put_back s (own Program h) r n ++ xs) (late.shown r m),
      cancel_room ring r n m ∙ late.room r m,
    ))
  where
    more_free : (size out held room n sure : ℕ) → n ≤ room → size - (out + held + room) ≡ sure → out + held + room ≤ size → size - (out + held + (room - n)) ≡ sure + n
    more_free size out held room n sure a b c = omega (arith, a, b, c)

late_for : (s : Setting) (calls : List Call) → AllFit s calls → (h : List Entry) × (own Program h ≡ calls) × IsLate s h
late_for s [] fit = (
  [],
  refl,
  record {
    legal = fit;
    taken = λ r made. refl;
    sure = λ r made. nothing (size_of s r);
    shown = λ r made. refl;
    room = λ r made. refl;
  },
)
  where
    nothing : (n : ℕ) → n - (0 + 0 + 0) ≡ n
    nothing n = omega arith
late_for s (call ∷ past) fit =
    let before = late_for s past fit.0 in
    let next = step s before.0 call before.2 (subst (λ mine. Fits s mine call) (sym before.1) fit.1) in
    (next.0, next.1.calls ∙ ap (λ mine. call ∷ mine) before.1, late_after s before.0 next.0 call before.2 next.1)

pub fits_possible : (s : Setting) (calls : List Call) → AllFit s calls → Possible s calls
fits_possible s calls fit =
    let late = late_for s calls fit in
    record { history = late.0; legal = late.2.legal; own = late.1 }
