-- One holder: a frame is with the program, with the kernel, or in one ring, once; and the entries whose frame wasn't submitted since
-- they were peeked name frames of the program, each once.
use Rattle.std.proofs.Common.{◌≡◌, ℕ, zero, suc, ◌+◌, ◌-◌, ◌≤◌, ◌⊎◌, Bool, true, false, ◌&&◌, not, ◌==◌, cond, Some, None, List, [], ◌∷◌, ◌++◌, take, drop, map, refl, sym, ap, ◌∙◌, subst, arith, ⊎_elim, inl, inr, ne_eqb}
use Rattle.std.specs.Prelude.{nat_lt, is_some, IsTrue, All}
use Rattle.std.proofs.lemmas.Bool.{cases_eq}
use Rattle.std.proofs.lemmas.List.Elements.{All-head, All-tail}
use Rattle.std.proofs.lemmas.List.{take-append-drop}
use Rattle.xsk_umem.specs.declared.batch.XdpDesc.{XdpDesc}
use Rattle.xsk_model.specs.declared.call.Ring.{Ring}
use Rattle.xsk_model.specs.declared.call.Ring.TheVariants.{Fill, Comp, Rx, Tx}
use Rattle.xsk_model.specs.Descriptor.{is_inside}
use Rattle.xsk_model.specs.Rings.{is_ring}
use Rattle.xsk_model.proofs.Places.{is_ring-self}
use Rattle.xsk_side.specs.Setting.{Setting, size_of}
use Rattle.xsk_side.specs.Entries.{names, frame, times, last, but_last}
use Rattle.xsk_side.specs.Object.{Entry, RingState, ring_of, ring_at, ring_after, consumer, is_made, Replies}
use Rattle.xsk_side.specs.Own.{Held, fresh, entry_of, touch, held_of, held_after, put_back, has_frame, source_of}
use Rattle.xsk_side.specs.Legal.{IsLegal, HasRole}
use Rattle.xsk_side.specs.Possible.{IsHistory, own}
use Rattle.xsk_side.specs.declared.call.Party.{Party}
use Rattle.xsk_side.specs.declared.call.Party.TheVariants.{Program, Kernel}
use Rattle.xsk_side.specs.declared.call.Call.{Call}
use Rattle.xsk_side.specs.declared.call.Call.TheVariants.{Reserve, Free, Submit, Peek, Release, Cancel}
use Rattle.xsk_side.proofs.Lists.{number, times-append, times-front, last-and_before, last-map, gone, come, some-cond}
use Rattle.xsk_side.proofs.Rings.{entry, same_or, ring_here, ring_else, either, is_false, IsRingSound, rings_sound}

-- ---- a frame that moves between a party and one ring

pub record IsAlone (with_party : ℕ) (in_ring : Ring → ℕ) : Type 0 where
  pub alone : (r : Ring) → with_party + in_ring r ≤ 1
  pub apart : (r q : Ring) → is_ring r q ≡ false → in_ring r + in_ring q ≤ 1
  pub somewhere : (1 ≤ with_party) ⊎ ((r : Ring) × (1 ≤ in_ring r))

pub positive : (a b : ℕ) → 1 ≤ a + b → (1 ≤ a) ⊎ (1 ≤ b)
positive zero b h = inr (omega (arith, h))
positive (suc a) b h = inl (omega arith)

not_same : (r q : Ring) → is_ring r q ≡ false → r ≡ q → ⊥
not_same r q h e = absurd (cc_false (is_ring r q) h (subst (λ x. is_ring r x ≡ true) e (is_ring-self r)))
  where
    cc_false : (b : Bool) → b ≡ false → b ≡ true → ⊥
    cc_false true h k = cc
    cc_false false h k = cc

pub other_way : (r q : Ring) → is_ring r q ≡ false → is_ring q r ≡ false
other_way r q h = ⊎_elim (λ (e : q ≡ r). absurd (not_same r q h (sym e))) (λ (e : is_ring q r ≡ false). e) (same_or q r)

pub moved : (t t' : ℕ) (o o' : Ring → ℕ) (q : Ring) → t + o q ≡ t' + o' q → ((r : Ring) → is_ring r q ≡ false → o' r ≡ o r) → IsAlone t o → IsAlone t' o'
moved t t' o o' q keeps others h = record {
  alone = λ r. ⊎_elim
      (λ (e : r ≡ q). subst (λ x. t' + o' x ≤ 1) (sym e) (omega (arith, h.alone q, keeps)))
      (λ (e : is_ring r q ≡ false). omega (arith, h.alone q, h.alone r, h.apart r q e, keeps, others r e))
      (same_or r q);
  apart = λ r x d. ⊎_elim
      (λ (e : r ≡ q).
      let off : is_ring x q ≡ false = other_way q x (subst (λ y. is_ring y x ≡ false) e d) in
      subst (λ y. o' y + o' x ≤ 1) (sym e) (omega (arith, h.alone q, h.alone x, h.apart x q off, keeps, others x off)))
      (λ (e : is_ring r q ≡ false). ⊎_elim
      (λ (k : x ≡ q). subst (λ y. o' r + o' y ≤ 1) (sym k) (omega (arith, h.alone q, h.alone r, h.apart r q e, keeps, others r e)))
      (λ (k : is_ring x q ≡ false). omega (arith, h.apart r x d, others r e, others x k))
      (same_or x q))
      (same_or r q);
  somewhere =
      let here : 1 ≤ t' + o' q → (1 ≤ t') ⊎ ((r : Ring) × (1 ≤ o' r)) = λ some. ⊎_elim (λ (a : 1 ≤ t'). inl a) (λ (b : 1 ≤ o' q). inr (q, b)) (positive t' (o' q) some) in
      ⊎_elim
      (λ (a : 1 ≤ t). here (omega (arith, a, keeps)))
      (λ (b : (r : Ring) × (1 ≤ o r)). ⊎_elim
      (λ (e : b.0 ≡ q). let at_q : 1 ≤ o q = subst (λ y. 1 ≤ o y) e b.1 in here (omega (arith, at_q, keeps)))
      (λ (e : is_ring b.0 q ≡ false). let still : 1 ≤ o' b.0 = omega (arith, b.1, others b.0 e) in inr (b.0, still))
      (same_or b.0 q))
      h.somewhere;
}

-- ---- held entries whose frame wasn't submitted since

pub record IsFresh (with_program : ℕ) (held : Ring → ℕ) : Type 0 where
  pub few : (r : Ring) → held r ≤ with_program
  pub apart : (r q : Ring) → is_ring r q ≡ false → held r + held q ≤ with_program

fresh_moved : (p p' : ℕ) (u u' : Ring → ℕ) (q : Ring) → p ≤ 1 → p + u' q ≤ p' + u q → ((r : Ring) → is_ring r q ≡ false → u' r ≡ u r) → IsFresh p u → IsFresh p' u'
fresh_moved p p' u u' q one keeps others h = record {
  few = λ r. ⊎_elim
      (λ (e : r ≡ q). subst (λ x. u' x ≤ p') (sym e) (omega (arith, h.few q, keeps)))
      (λ (e : is_ring r q ≡ false). omega (arith, h.few q, h.apart r q e, keeps, others r e))
      (same_or r q);
  apart = λ r x d. ⊎_elim
      (λ (e : r ≡ q).
      let off : is_ring x q ≡ false = other_way q x (subst (λ y. is_ring y x ≡ false) e d) in
      subst (λ y. u' y + u' x ≤ p') (sym e) (omega (arith, h.few q, h.apart x q off, keeps, others x off)))
      (λ (e : is_ring r q ≡ false). ⊎_elim
      (λ (k : x ≡ q). subst (λ y. u' r + u' y ≤ p') (sym k) (omega (arith, h.few q, h.apart r q e, keeps, others r e)))
      (λ (k : is_ring x q ≡ false). omega (arith, one, h.few q, h.apart r x d, h.apart r q e, h.apart x q k, keeps, others r e, others x k))
      (same_or x q))
      (same_or r q);
}

abbrev pub times_fresh : Setting → ℕ → List Held → ℕ
times_fresh s f [] = 0
times_fresh s f (h ∷ held) = number (h.untouched && names s f h.entry) + times_fresh s f held

times_fresh-append : (s : Setting) (f : ℕ) (xs ys : List Held) → times_fresh s f (xs ++ ys) ≡ times_fresh s f xs + times_fresh s f ys
times_fresh-append s f [] ys = omega arith
times_fresh-append s f (x ∷ xs) ys = omega (arith, times_fresh-append s f xs ys)

times_fresh-fresh : (s : Setting) (f : ℕ) (es : List XdpDesc) → times_fresh s f (map fresh es) ≡ times s f es
times_fresh-fresh s f [] = refl
times_fresh-fresh s f (e ∷ es) = ap (λ k. number (names s f e) + k) (times_fresh-fresh s f es)

-- all untouched
times_fresh-all : (s : Setting) (f : ℕ) (held : List Held) → All (λ (h : Held). IsTrue h.untouched) held → times_fresh s f held ≡ times s f (map entry_of held)
times_fresh-all s f [] all = refl
times_fresh-all s f (h ∷ held) all =
    ap (λ b. number (b && names s f h.entry) + times_fresh s f held) (All-head (λ (x : Held). IsTrue x.untouched) h held all)
    ∙ ap (λ k. number (names s f h.entry) + k) (times_fresh-all s f held (All-tail (λ (x : Held). IsTrue x.untouched) h held all))

-- of one entry, where `count` tells how often a frame was submitted
touched : (u inside : Bool) (count : ℕ → ℕ) (x f : ℕ)
    → number ((u && not (inside && nat_lt 0 (count x))) && (inside && x == f)) ≡ cond (nat_lt 0 (count f)) 0 (number (u && (inside && x == f)))
touched u inside count x f = ⊎_elim
    (λ (e : x ≡ f). ap (λ y. number ((u && not (inside && nat_lt 0 (count y))) && (inside && x == f))) e ∙ cut u inside (x == f) (nat_lt 0 (count f)))
    (λ (e : x ≡ f → ⊥). ap (λ b. number ((u && not (inside && nat_lt 0 (count x))) && (inside && b))) (ne_eqb x f e)
    ∙ off (u && not (inside && nat_lt 0 (count x))) u inside (nat_lt 0 (count f))
    ∙ ap (λ b. cond (nat_lt 0 (count f)) 0 (number (u && (inside && b)))) (sym (ne_eqb x f e)))
    (cases_eq x f)
  where
    cut : (u inside same some : Bool) → ◌≡◌ {A = ℕ} (number ((u && not (inside && some)) && (inside && same))) (cond some 0 (number (u && (inside && same))))
    cut u inside same some = grind arith

    off : (a u inside some : Bool) → ◌≡◌ {A = ℕ} (number (a && (inside && false))) (cond some 0 (number (u && (inside && false))))
    off a u inside some = grind arith

cond-sum : (b : Bool) (x y : ℕ) → cond b 0 x + cond b 0 y ≡ cond b 0 (x + y)
cond-sum true x y = refl
cond-sum false x y = refl

times_fresh-touch : (s : Setting) (f : ℕ) (es : List XdpDesc) (held : List Held)
    → times_fresh s f (map (touch s es) held) ≡ cond (nat_lt 0 (times s f es)) 0 (times_fresh s f held)
times_fresh-touch s f es [] = sym (same (nat_lt 0 (times s f es)))
  where
    same : (b : Bool) → ◌≡◌ {A = ℕ} (cond b 0 0) 0
    same true = refl
    same false = refl
times_fresh-touch s f es (h ∷ held) =
    ap (λ k. k + times_fresh s f (map (touch s es) held)) (touched h.untouched (is_inside s.geometry h.entry) (λ x. times s x es) (frame s h.entry) f)
    ∙ ap (λ k. cond (nat_lt 0 (times s f es)) 0 (number (h.untouched && names s f h.entry)) + k) (times_fresh-touch s f es held)
    ∙ cond-sum (nat_lt 0 (times s f es)) (number (h.untouched && names s f h.entry)) (times_fresh s f held)

-- ---- what a call does to them

drop-nil : {X : Type 0} (k : ℕ) → ◌≡◌ {A = List X} (drop k []) []
drop-nil zero = refl
drop-nil (suc k) = refl

-- the program holds nothing of FILL and TX
unheld_after : (s : Setting) (r : Ring) (call : Call) → is_made r ≡ true → HasRole Program call → held_after s r [] call ≡ []
unheld_after s r (Reserve q n answer) made role = refl
unheld_after s r (Free q n places) made role = refl
unheld_after s r (Submit q es) made role = refl
unheld_after s r (Peek q n es) made role = ⊎_elim
    (λ (e : r ≡ q). absurd (its_own q (subst (λ x. is_made x ≡ true) e made) role))
    (λ (e : is_ring r q ≡ false). is_false (is_ring r q) (map fresh es) [] e)
    (same_or r q)
  where
    its_own : (q : Ring) → is_made q ≡ true → Program ≡ consumer q → ⊥
    its_own (Fill d) h k = cc
    its_own (Comp d) h k = cc
    its_own (Rx s) h k = cc
    its_own (Tx s) h k = cc
unheld_after s r (Release q n) made role = ap (λ xs. cond (is_ring r q) xs []) (drop-nil n) ∙ either (is_ring r q) []
unheld_after s r (Cancel q n) made role = ap (λ xs. cond (is_ring r q) xs []) (take-nil (0 - n)) ∙ either (is_ring r q) []
  where
    take-nil : {X : Type 0} (k : ℕ) → ◌≡◌ {A = List X} (take k []) []
    take-nil zero = refl
    take-nil (suc k) = refl

pub unheld : (s : Setting) (h : List Entry) (r : Ring) → IsHistory s h → is_made r ≡ true → held_of s r (own Program h) ≡ []
unheld s [] r legal made = refl
unheld s (e ∷ past) r legal made = unheld_by s e.who e.call past r made legal.1.role (unheld s past r legal.0 made)
  where
    unheld_by : (s : Setting) (who : Party) (call : Call) (past : List Entry) (r : Ring) → is_made r ≡ true → HasRole who call
        → held_of s r (own Program past) ≡ [] → held_of s r (own Program (entry who call ∷ past)) ≡ []
    unheld_by s Program call past r made role h = ap (λ xs. held_after s r xs call) h ∙ unheld_after s r call made role
    unheld_by s Kernel call past r made role h = h

-- what a Cancel puts back is all untouched, so each frame of it is fresh
back_fresh : (s : Setting) (f : ℕ) (mine : List Call) (r : Ring) (n : ℕ) → All (λ (h : Held). IsTrue h.untouched) (last n (held_of s r mine))
    → times_fresh s f (but_last n (held_of s r mine)) + times s f (put_back s mine r n) ≡ times_fresh s f (held_of s r mine)
back_fresh s f mine r n all =
    ap (λ k. times_fresh s f (but_last n (held_of s r mine)) + k) (sym (times_fresh-all s f (last n (held_of s r mine)) all))
    ∙ sym (times_fresh-append s f (but_last n (held_of s r mine)) (last n (held_of s r mine)))
    ∙ ap (times_fresh s f) (last-and_before n (held_of s r mine))

pub record IsFrameSound (s : Setting) (h : List Entry) (f : ℕ) : Type 0 where
  pub place : IsAlone (number (has_frame s f (own Program h)) + number (is_some (source_of s (own Kernel h) f))) (λ r. times s f (ring_at r h).out)
  pub fresh : IsFresh (number (has_frame s f (own Program h))) (λ r. times_fresh s f (held_of s r (own Program h)))

pub few_put_back : (s : Setting) (past : List Entry) (f : ℕ) (r : Ring) (n : ℕ) → IsFrameSound s past f
    → All (λ (h : Held). IsTrue h.untouched) (last n (held_of s r (own Program past)))
    → times s f (put_back s (own Program past) r n) ≤ number (has_frame s f (own Program past))
few_put_back s past f r n sound all = omega (arith, sound.fresh.few r, back_fresh s f (own Program past) r n all)

-- what a party and the call's ring have together
abbrev sum_at : Setting → ℕ → List Entry → List XdpDesc → ℕ
sum_at s f h out = number (has_frame s f (own Program h)) + number (is_some (source_of s (own Kernel h) f)) + times s f out

pub out_put_back : (s : Setting) (past : List Entry) (r : Ring) (n : ℕ) → is_made r ≡ false → IsRingSound s past r
    → (ring_after (ring_at r past) (Cancel r n)).out ≡ put_back s (own Program past) r n ++ (ring_at r past).out
out_put_back s past (Fill d) n made sound = absurd (cc)
out_put_back s past (Comp d) n made sound = ap (λ xs. last n xs ++ (ring_at (Comp d) past).out) sound.held ∙ ap (λ xs. xs ++ (ring_at (Comp d) past).out) (last-map entry_of n (held_of s (Comp d) (own Program past)))
out_put_back s past (Rx k) n made sound = ap (λ xs. last n xs ++ (ring_at (Rx k) past).out) sound.held ∙ ap (λ xs. xs ++ (ring_at (Rx k) past).out) (last-map entry_of n (held_of s (Rx k) (own Program past)))
out_put_back s past (Tx k) n made sound = absurd (cc)

none_put_back : (s : Setting) (past : List Entry) (f : ℕ) (r : Ring) (n : ℕ) → held_of s r (own Program past) ≡ [] → times s f (put_back s (own Program past) r n) ≡ 0
none_put_back s past f r n none = ap (λ xs. times s f (map entry_of (last n xs))) none ∙ ap (λ xs. times s f (map entry_of xs)) (drop-nil (0 - n))

cancelled : (s : Setting) (f : ℕ) (past : List Entry) (r : Ring) (n : ℕ) → IsFrameSound s past f
    → All (λ (h : Held). IsTrue h.untouched) (last n (held_of s r (own Program past)))
    → (out' : List XdpDesc) → times s f out' ≡ times s f (put_back s (own Program past) r n) + times s f (ring_at r past).out
    → sum_at s f (entry Program (Cancel r n) ∷ past) out' ≡ sum_at s f past (ring_at r past).out
cancelled s f past r n sound all out' is =
    omega (arith, is, gone (times s f (put_back s (own Program past) r n)) (has_frame s f (own Program past)) (few_put_back s past f r n sound all))

keeps_sum : (s : Setting) (f : ℕ) (past : List Entry) (who : Party) (call : Call) → IsHistory s past → IsLegal s who (own who past) call
    → Replies (size_of s (ring_of call)) (ring_at (ring_of call) past) call → IsFrameSound s past f
    → sum_at s f (entry who call ∷ past) (ring_after (ring_at (ring_of call) past) call).out ≡ sum_at s f past (ring_at (ring_of call) past).out
keeps_sum s f past Program (Reserve r n answer) legal now reply sound = refl
keeps_sum s f past Program (Free r n places) legal now reply sound = refl
keeps_sum s f past Program (Submit r es) legal now reply sound =
    omega (arith, times-append s f (ring_at r past).out es, gone (times s f es) (has_frame s f (own Program past)) (now.frames f))
keeps_sum s f past Program (Peek r n es) legal now reply sound =
    let front = times-front s f es (ring_at r past).out reply.1 in
    omega (arith, front, come (times s f es) (has_frame s f (own Program past)) (omega (arith, front, sound.place.alone r)))
keeps_sum s f past Program (Release r n) legal now reply sound = refl
keeps_sum s f past Program (Cancel r n) legal now reply sound =
    cancelled s f past r n sound now.untouched (ring_after (ring_at r past) (Cancel r n)).out (back_in s f past r n legal)
  where
    back_in : (s : Setting) (f : ℕ) (past : List Entry) (r : Ring) (n : ℕ) → IsHistory s past
        → times s f (ring_after (ring_at r past) (Cancel r n)).out ≡ times s f (put_back s (own Program past) r n) + times s f (ring_at r past).out
    back_in s f past (Fill d) n legal = omega (arith, none_put_back s past f (Fill d) n (unheld s past (Fill d) legal refl))
    back_in s f past (Comp d) n legal = ap (times s f) (out_put_back s past (Comp d) n refl (rings_sound s past legal (Comp d))) ∙ times-append s f (put_back s (own Program past) (Comp d) n) (ring_at (Comp d) past).out
    back_in s f past (Rx k) n legal = ap (times s f) (out_put_back s past (Rx k) n refl (rings_sound s past legal (Rx k))) ∙ times-append s f (put_back s (own Program past) (Rx k) n) (ring_at (Rx k) past).out
    back_in s f past (Tx k) n legal = omega (arith, none_put_back s past f (Tx k) n (unheld s past (Tx k) legal refl))
keeps_sum s f past Kernel (Reserve r n answer) legal now reply sound = refl
keeps_sum s f past Kernel (Free r n places) legal now reply sound = refl
keeps_sum s f past Kernel (Submit r es) legal now reply sound =
    let source = source_of s (own Kernel past) f in
    omega (
      arith,
      times-append s f (ring_at r past).out es,
      gone (times s f es) (is_some source) (now.frames f),
      ap number (some-cond (nat_lt 0 (times s f es)) None source),
    )
keeps_sum s f past Kernel (Peek r n es) legal now reply sound =
    let source = source_of s (own Kernel past) f in
    let front = times-front s f es (ring_at r past).out reply.1 in
    omega (
      arith,
      front,
      come (times s f es) (is_some source) (omega (arith, front, sound.place.alone r)),
      ap number (some-cond (nat_lt 0 (times s f es)) (Some r) source),
    )
keeps_sum s f past Kernel (Release r n) legal now reply sound = refl
keeps_sum s f past Kernel (Cancel r n) legal now reply sound = absurd (not_program now.role)
  where
    not_program : Kernel ≡ Program → ⊥
    not_program h = cc

fresh_cut : (b has : Bool) (u u' : Ring → ℕ) → ((r : Ring) → u' r ≡ cond b 0 (u r)) → IsFresh (number has) u → IsFresh (number (cond b false has)) u'
fresh_cut true has u u' is h = record { few = λ r. omega (arith, is r); apart = λ r q d. omega (arith, is r, is q) }
fresh_cut false has u u' is h = record { few = λ r. omega (arith, is r, h.few r); apart = λ r q d. omega (arith, is r, is q, h.apart r q d) }

at_most_one : (b : Bool) → number b ≤ 1
at_most_one true = omega arith
at_most_one false = omega arith

fresh_step : (s : Setting) (f : ℕ) (past : List Entry) (who : Party) (call : Call) → IsLegal s who (own who past) call
    → Replies (size_of s (ring_of call)) (ring_at (ring_of call) past) call → IsFrameSound s past f
    → IsFresh (number (has_frame s f (own Program (entry who call ∷ past)))) (λ r. times_fresh s f (held_of s r (own Program (entry who call ∷ past))))
fresh_step s f past Kernel call now reply sound = sound.fresh
fresh_step s f past Program (Reserve r n answer) now reply sound = sound.fresh
fresh_step s f past Program (Free r n places) now reply sound = sound.fresh
fresh_step s f past Program (Submit r es) now reply sound =
    let mine = own Program past in
    fresh_cut (nat_lt 0 (times s f es)) (has_frame s f mine) (λ q. times_fresh s f (held_of s q mine)) (λ q. times_fresh s f (map (touch s es) (held_of s q mine)))
    (λ q. times_fresh-touch s f es (held_of s q mine)) sound.fresh
fresh_step s f past Program (Peek r n es) now reply sound =
    let mine = own Program past in let has = has_frame s f mine in
    let front = times-front s f es (ring_at r past).out reply.1 in
    let comes = come (times s f es) has (omega (arith, front, sound.place.alone r)) in
    let here : times_fresh s f (held_of s r (Peek r n es ∷ mine)) ≡ times_fresh s f (held_of s r mine) + times s f es =
    ap (λ b. times_fresh s f (cond b (held_of s r mine ++ map fresh es) (held_of s r mine))) (is_ring-self r)
    ∙ times_fresh-append s f (held_of s r mine) (map fresh es)
    ∙ ap (λ k. times_fresh s f (held_of s r mine) + k) (times_fresh-fresh s f es) in
    fresh_moved (number has) (number (has_frame s f (Peek r n es ∷ mine))) (λ q. times_fresh s f (held_of s q mine)) (λ q. times_fresh s f (held_of s q (Peek r n es ∷ mine))) r
    (at_most_one has) (omega (arith, here, comes))
    (λ q off. ap (times_fresh s f) (is_false (is_ring q r) (held_of s q mine ++ map fresh es) (held_of s q mine) off))
    sound.fresh
fresh_step s f past Program (Release r n) now reply sound =
    let mine = own Program past in let has = has_frame s f mine in
    let here : times_fresh s f (held_of s r (Release r n ∷ mine)) ≡ times_fresh s f (drop n (held_of s r mine)) =
    ap (λ b. times_fresh s f (cond b (drop n (held_of s r mine)) (held_of s r mine))) (is_ring-self r) in
    fresh_moved (number has) (number has) (λ q. times_fresh s f (held_of s q mine)) (λ q. times_fresh s f (held_of s q (Release r n ∷ mine))) r
    (at_most_one has) (omega (arith, here, fresh_split s f n (held_of s r mine)))
    (λ q off. ap (times_fresh s f) (is_false (is_ring q r) (drop n (held_of s q mine)) (held_of s q mine) off))
    sound.fresh
  where
    fresh_split : (s : Setting) (f n : ℕ) (held : List Held) → times_fresh s f (drop n held) ≤ times_fresh s f held
    fresh_split s f n held = omega (arith, times_fresh-append s f (take n held) (drop n held), ap (times_fresh s f) (take-append-drop n held))
fresh_step s f past Program (Cancel r n) now reply sound =
    let mine = own Program past in let has = has_frame s f mine in
    let here : times_fresh s f (held_of s r (Cancel r n ∷ mine)) ≡ times_fresh s f (but_last n (held_of s r mine)) =
    ap (λ b. times_fresh s f (cond b (but_last n (held_of s r mine)) (held_of s r mine))) (is_ring-self r) in
    let goes = gone (times s f (put_back s mine r n)) has (few_put_back s past f r n sound now.untouched) in
    fresh_moved (number has) (number (has_frame s f (Cancel r n ∷ mine))) (λ q. times_fresh s f (held_of s q mine)) (λ q. times_fresh s f (held_of s q (Cancel r n ∷ mine))) r
    (at_most_one has) (omega (arith, here, goes, back_fresh s f mine r n now.untouched))
    (λ q off. ap (times_fresh s f) (is_false (is_ring q r) (but_last n (held_of s q mine)) (held_of s q mine) off))
    sound.fresh

pub frames_sound : (s : Setting) (h : List Entry) (f : ℕ) → IsHistory s h → IsFrameSound s h f
frames_sound s [] f legal = record {
  place = record { alone = λ r. omega arith; apart = λ r q d. omega arith; somewhere = inl (omega arith) };
  fresh = record { few = λ r. omega arith; apart = λ r q d. omega arith };
}
frames_sound s (e ∷ past) f legal =
    let sound = frames_sound s past f legal.0 in
    let q = ring_of e.call in
    record {
      place = moved
          (number (has_frame s f (own Program past)) + number (is_some (source_of s (own Kernel past) f)))
          (number (has_frame s f (own Program (e ∷ past))) + number (is_some (source_of s (own Kernel (e ∷ past)) f)))
          (λ r. times s f (ring_at r past).out) (λ r. times s f (ring_at r (e ∷ past)).out) q
          (sym (keeps_sum s f past e.who e.call legal.0 legal.1 legal.2 sound)
          ∙ ap (λ (ring : RingState). sum_at s f (e ∷ past) ring.out) (sym (ring_here past e.who e.call)))
          (λ r off. ap (λ (ring : RingState). times s f ring.out) (ring_else r past e.who e.call off))
          sound.place;
      fresh = fresh_step s f past e.who e.call legal.1 legal.2 sound;
    }
