-- Addresses that name no frame: those that were submitted on TX of a pair and haven't come stand on TX, are the kernel's, or stand on
-- COMPLETION.
use Rattle.std.proofs.Common.{◌≡◌, ◌≢◌, ℕ, zero, suc, ◌+◌, ◌-◌, ◌<◌, ◌≤◌, Bool, true, false, cond, List, [], ◌∷◌, ◌++◌, length, take, drop, refl, sym, ap, ◌∙◌, subst, arith, ⊎_elim, ne_eqb}
use Rattle.std.proofs.lemmas.Bool.{cases_eq}
use Rattle.std.proofs.lemmas.List.{drop-append-le}
use Rattle.xsk_umem.specs.declared.batch.XdpDesc.{XdpDesc}
use Rattle.xsk_model.specs.declared.call.Ring.{Ring}
use Rattle.xsk_model.specs.declared.call.Ring.TheVariants.{Fill, Comp, Rx, Tx}
use Rattle.xsk_model.specs.Rings.{is_ring}
use Rattle.xsk_model.proofs.Places.{is_ring-self}
use Rattle.xsk_side.specs.Setting.{Setting, HasRing, size_of, pair_of}
use Rattle.xsk_side.specs.Entries.{strays_in}
use Rattle.xsk_side.specs.Object.{Entry, RingState, ring_of, ring_at, ring_after, producer, consumer, is_made}
use Rattle.xsk_side.specs.Own.{put_back, source_of, is_tx_of, strays_taken}
use Rattle.xsk_side.specs.Legal.{IsLegal, MayCome}
use Rattle.xsk_side.specs.Possible.{IsHistory, own}
use Rattle.xsk_side.specs.Local.{back_of, new_of, strays_given}
use Rattle.xsk_side.specs.declared.call.Party.{Party}
use Rattle.xsk_side.specs.declared.call.Party.TheVariants.{Program, Kernel}
use Rattle.xsk_side.specs.declared.call.Call.{Call}
use Rattle.xsk_side.specs.declared.call.Call.TheVariants.{Reserve, Free, Submit, Peek, Release, Cancel}
use Rattle.xsk_side.proofs.Lists.{strays-append, strays-split, strays-front, length-front}
use Rattle.xsk_side.proofs.Rings.{entry, same_or, ring_here, ring_else, is_true, is_false, rings_sound}
use Rattle.xsk_side.proofs.Frames.{out_put_back}
use Rattle.xsk_side.proofs.Bounds.{unmade_producer, unmade_consumer, two_parties}
use Rattle.xsk_side.proofs.Given.{IsShown, is_shown, given_sound, behind, behind-append, behind-drop, back_by, back_here, back_else}

-- ---- a sum over all sockets

abbrev pub total : (ℕ → ℕ) → ℕ → ℕ
total g zero = 0
total g (suc n) = total g n + g n

pub total_same : (g g' : ℕ → ℕ) (n : ℕ) → ((t : ℕ) → g' t ≡ g t) → total g' n ≡ total g n
total_same g g' zero same = refl
total_same g g' (suc n) same = omega (arith, total_same g g' n same, same n)

total_below : (g g' : ℕ → ℕ) (n i : ℕ) → n ≤ i → ((t : ℕ) → t ≢ i → g' t ≡ g t) → total g' n ≡ total g n
total_below g g' zero i low same = refl
total_below g g' (suc n) i low same = omega (arith, total_below g g' n i (omega arith) same, same n (omega arith))

total_one : (g g' : ℕ → ℕ) (n i : ℕ) → i < n → ((t : ℕ) → t ≢ i → g' t ≡ g t) → total g' n + g i ≡ total g n + g' i
total_one g g' zero i low same = absurd (omega (arith, low))
total_one g g' (suc n) i low same = ⊎_elim
    (λ (e : n ≡ i). subst (λ k. total g' (suc n) + g k ≡ total g (suc n) + g' k) e (omega (arith, total_below g g' n n (omega arith) (λ t ne. same t (λ k. ne (k ∙ sym e))))))
    (λ (e : n ≡ i → ⊥). omega (arith, total_one g g' n i (omega (arith, low, e)) same, same n e))
    (cases_eq n i)

abbrev pub on_tx : Setting → ℕ → List Entry → ℕ
on_tx s d h = total (λ t. cond (is_tx_of s d (Tx t)) (strays_in s (ring_at (Tx t) h).out) 0) (length s.sockets)

-- the part of it on one ring
abbrev part : Setting → ℕ → Ring → List XdpDesc → ℕ
part s d r out = cond (is_tx_of s d r) (strays_in s out) 0

other_tx : (s : Setting) (d : ℕ) (past : List Entry) (who : Party) (call : Call) (t : ℕ) → is_ring (Tx t) (ring_of call) ≡ false
    → part s d (Tx t) (ring_at (Tx t) (entry who call ∷ past)).out ≡ part s d (Tx t) (ring_at (Tx t) past).out
other_tx s d past who call t off = ap (λ (ring : RingState). part s d (Tx t) ring.out) (ring_else (Tx t) past who call off)

on_tx_moves : (s : Setting) (d : ℕ) (past : List Entry) (who : Party) (call : Call) (q : Ring) → ring_of call ≡ q → HasRing s q
    → on_tx s d (entry who call ∷ past) + part s d q (ring_at q past).out ≡ on_tx s d past + part s d q (ring_at q (entry who call ∷ past)).out
on_tx_moves s d past who call (Fill c) is has =
    ap (λ k. k + 0) (total_same (λ t. part s d (Tx t) (ring_at (Tx t) past).out) (λ t. part s d (Tx t) (ring_at (Tx t) (entry who call ∷ past)).out) (length s.sockets)
    (λ t. other_tx s d past who call t (ap (is_ring (Tx t)) is)))
on_tx_moves s d past who call (Comp c) is has =
    ap (λ k. k + 0) (total_same (λ t. part s d (Tx t) (ring_at (Tx t) past).out) (λ t. part s d (Tx t) (ring_at (Tx t) (entry who call ∷ past)).out) (length s.sockets)
    (λ t. other_tx s d past who call t (ap (is_ring (Tx t)) is)))
on_tx_moves s d past who call (Rx k) is has =
    ap (λ k. k + 0) (total_same (λ t. part s d (Tx t) (ring_at (Tx t) past).out) (λ t. part s d (Tx t) (ring_at (Tx t) (entry who call ∷ past)).out) (length s.sockets)
    (λ t. other_tx s d past who call t (ap (is_ring (Tx t)) is)))
on_tx_moves s d past who call (Tx i) is has =
    total_one (λ t. part s d (Tx t) (ring_at (Tx t) past).out) (λ t. part s d (Tx t) (ring_at (Tx t) (entry who call ∷ past)).out) (length s.sockets) i has.0
    (λ t ne. other_tx s d past who call t (ap (is_ring (Tx t)) is ∙ ne_eqb t i ne))

-- ---- a call on another ring than COMPLETION of the pair

not_tx : (s : Setting) (d : ℕ) (r : Ring) → is_made r ≡ false → is_tx_of s d r ≡ false
not_tx s d (Fill e) h = refl
not_tx s d (Comp e) h = refl
not_tx s d (Rx k) h = refl
not_tx s d (Tx k) h = absurd (cc)

part_unmade : (s : Setting) (d : ℕ) (r : Ring) (out out' : List XdpDesc) → is_made r ≡ false → part s d r out' ≡ part s d r out
part_unmade s d r out out' made =
    is_false (is_tx_of s d r) (strays_in s out') 0 (not_tx s d r made) ∙ sym (is_false (is_tx_of s d r) (strays_in s out) 0 (not_tx s d r made))

tx_moves : (s : Setting) (d : ℕ) (past : List Entry) (who : Party) (call : Call) → is_ring (Comp d) (ring_of call) ≡ false
    → IsLegal s who (own who past) call → IsShown past call
    → strays_given s d (own Program (entry who call ∷ past)) + part s d (ring_of call) (ring_at (ring_of call) past).out + strays_taken s d (own Kernel past)
    ≡ strays_given s d (own Program past) + part s d (ring_of call) (ring_after (ring_at (ring_of call) past) call).out + strays_taken s d (own Kernel (entry who call ∷ past))
tx_moves s d past Program (Reserve r n answer) off legal shown = refl
tx_moves s d past Program (Free r n places) off legal shown = refl
tx_moves s d past Program (Submit r es) off legal shown =
    adds (is_tx_of s d r) (strays_given s d (own Program past)) (strays_in s es) (strays_in s (ring_at r past).out) (strays_in s ((ring_at r past).out ++ es)) (strays_taken s d (own Kernel past))
    (strays-append s (ring_at r past).out es)
  where
    adds : (b : Bool) (g n o o' k : ℕ) → o' ≡ o + n → ◌≡◌ {A = ℕ} (cond b (g + n) g + cond b o 0 + k) (g + cond b o' 0 + k)
    adds true g n o o' k h = omega (arith, h)
    adds false g n o o' k h = refl
tx_moves s d past Program (Peek r n es) off legal shown =
    let given = strays_given s d (own Program past) in
    omega (
      arith,
      is_false (is_ring (Comp d) r) (given - strays_in s (new_of (back_of s r (own Program past)) es)) given off,
      part_unmade s d r (ring_at r past).out (drop (length es) (ring_at r past).out) (unmade_by r legal.role),
    )
  where
    unmade_by : (r : Ring) → Program ≡ consumer r → is_made r ≡ false
    unmade_by (Fill d) h = absurd (cc)
    unmade_by (Comp d) h = refl
    unmade_by (Rx k) h = refl
    unmade_by (Tx k) h = absurd (cc)
tx_moves s d past Program (Release r n) off legal shown = refl
tx_moves s d past Program (Cancel (Fill c) n) off legal shown = refl
tx_moves s d past Program (Cancel (Comp c) n) off legal shown = refl
tx_moves s d past Program (Cancel (Rx k) n) off legal shown = refl
tx_moves s d past Program (Cancel (Tx k) n) off legal shown = refl
tx_moves s d past Kernel (Reserve r n answer) off legal shown = refl
tx_moves s d past Kernel (Free r n places) off legal shown = refl
tx_moves s d past Kernel (Submit r es) off legal shown =
    let taken = strays_taken s d (own Kernel past) in
    omega (
      arith,
      is_false (is_ring (Comp d) r) (taken - strays_in s es) taken off,
      part_unmade s d r (ring_at r past).out ((ring_at r past).out ++ es) (unmade_by r legal.role),
    )
  where
    unmade_by : (r : Ring) → Kernel ≡ producer r → is_made r ≡ false
    unmade_by (Fill d) h = absurd (cc)
    unmade_by (Comp d) h = refl
    unmade_by (Rx k) h = refl
    unmade_by (Tx k) h = absurd (cc)
tx_moves s d past Kernel (Peek r n es) off legal shown =
    takes (is_tx_of s d r) (strays_taken s d (own Kernel past)) (strays_in s es) (strays_in s (ring_at r past).out) (strays_in s (drop (length es) (ring_at r past).out)) (strays_given s d (own Program past))
    (strays-front s es (ring_at r past).out shown)
  where
    takes : (b : Bool) (k n o o' g : ℕ) → n + o' ≡ o → ◌≡◌ {A = ℕ} (g + cond b o 0 + k) (g + cond b o' 0 + cond b (k + n) k)
    takes true k n o o' g h = omega (arith, h)
    takes false k n o o' g h = refl
tx_moves s d past Kernel (Release r n) off legal shown = refl
tx_moves s d past Kernel (Cancel r n) off legal shown = absurd (two_parties legal.role)

-- ---- a call on COMPLETION of the pair

pub drop-front : (a : ℕ) (es out : List XdpDesc) → es ≡ take (length es) out → drop a es ≡ take (length es - a) (drop a out)
drop-front zero es out h = h ∙ ap (λ k. take k out) (less_none (length es))
  where
    less_none : (n : ℕ) → n ≡ n - 0
    less_none n = omega arith
drop-front (suc a) [] out h = ap (λ k. take k (drop (suc a) out)) (none_left a)
  where
    none_left : (a : ℕ) → 0 ≡ 0 - suc a
    none_left a = omega arith
drop-front (suc a) (e ∷ es) [] h = absurd (cc)
drop-front (suc a) (e ∷ es) (x ∷ out) h = drop-front a es out (tail_same e x es (take (length es) out) h) ∙ ap (λ k. take k (drop a out)) (less (length es) a)
  where
    tail_same : (x y : XdpDesc) (xs ys : List XdpDesc) → x ∷ xs ≡ y ∷ ys → xs ≡ ys
    tail_same x y xs ys h = cc

    less : (n a : ℕ) → n - a ≡ suc n - suc a
    less n a = omega arith

-- what is shown beyond the entries that were put back, and what stands behind it
pub strays_shown : (s : Setting) (back out es : List XdpDesc) → es ≡ take (length es) out
    → strays_in s (drop (length back) es) + strays_in s (drop (length (drop (length es) back)) (drop (length es) out)) ≡ strays_in s (drop (length back) out)
strays_shown s back out es shown =
    ap (λ xs. strays_in s xs + strays_in s (drop (length (drop (length es) back)) (drop (length es) out))) (drop-front (length back) es out shown)
    ∙ ap (λ xs. strays_in s (take (length es - length back) (drop (length back) out)) + strays_in s xs) (behind-drop (length es) back out)
    ∙ strays-split s (length es - length back) (drop (length back) out)

comp_moves : (s : Setting) (d : ℕ) (past : List Entry) (who : Party) (call : Call) → Comp d ≡ ring_of call → IsHistory s past
    → IsLegal s who (own who past) call → IsShown past call
    → strays_in s (behind s past (ring_of call)) ≤ strays_given s d (own Program past)
    → strays_given s d (own Program (entry who call ∷ past)) + strays_taken s d (own Kernel past) + strays_in s (behind s past (ring_of call))
    ≡ strays_given s d (own Program past) + strays_taken s d (own Kernel (entry who call ∷ past))
    + strays_in s (drop (length (back_by who s past (back_of s (ring_of call) (own Program past)) call)) (ring_after (ring_at (ring_of call) past) call).out)
comp_moves s d past Program (Reserve r n answer) is history legal shown few = refl
comp_moves s d past Program (Free r n places) is history legal shown few = refl
comp_moves s d past Program (Submit r es) is history legal shown few =
    absurd (two_parties (sym (legal.role ∙ unmade_producer r (subst (λ x. is_made x ≡ false) is refl))))
comp_moves s d past Program (Peek r n es) is history legal shown few =
    let given = strays_given s d (own Program past) in
    omega (
      arith,
      few,
      is_true (is_ring (Comp d) r) (given - strays_in s (new_of (back_of s r (own Program past)) es)) given (subst (λ x. is_ring (Comp d) x ≡ true) is (is_ring-self (Comp d))),
      strays_shown s (back_of s r (own Program past)) (ring_at r past).out es shown,
    )
comp_moves s d past Program (Release r n) is history legal shown few = refl
comp_moves s d past Program (Cancel r n) is history legal shown few =
    let back = back_of s r (own Program past) in let more = put_back s (own Program past) r n in
    omega (
      arith,
      ap (λ xs. strays_in s (drop (length (more ++ back)) xs)) (out_put_back s past r n (subst (λ x. is_made x ≡ false) is refl) (rings_sound s past history r)),
      ap (strays_in s) (behind-append more back (ring_at r past).out),
    )
comp_moves s d past Kernel (Reserve r n answer) is history legal shown few = refl
comp_moves s d past Kernel (Free r n places) is history legal shown few = refl
comp_moves s d past Kernel (Submit r es) is history legal shown few =
    let taken = strays_taken s d (own Kernel past) in let back = back_of s r (own Program past) in let out = (ring_at r past).out in
    let may = subst (λ x. MayCome s (source_of s (own Kernel past)) (strays_taken s (pair_of s x) (own Kernel past)) x es) (sym is) legal.put in
    let rest = (given_sound s past history).rest r (subst (λ x. is_made x ≡ false) is refl) in
    omega (
      arith,
      is_true (is_ring (Comp d) r) (taken - strays_in s es) taken (subst (λ x. is_ring (Comp d) x ≡ true) is (is_ring-self (Comp d))),
      may.1,
      ap (strays_in s) (drop-append-le (length back) out es (length-front back out rest.front)),
      strays-append s (drop (length back) out) es,
    )
comp_moves s d past Kernel (Peek r n es) is history legal shown few =
    absurd (two_parties (legal.role ∙ unmade_consumer r (subst (λ x. is_made x ≡ false) is refl)))
comp_moves s d past Kernel (Release r n) is history legal shown few = refl
comp_moves s d past Kernel (Cancel r n) is history legal shown few = absurd (two_parties legal.role)

pub strays_sound : (s : Setting) (d : ℕ) (h : List Entry) → IsHistory s h
    → strays_given s d (own Program h) ≡ on_tx s d h + strays_taken s d (own Kernel h) + strays_in s (behind s h (Comp d))
strays_sound s d [] legal = omega (arith, none s d (length s.sockets))
  where
    nothing : (b : Bool) → ◌≡◌ {A = ℕ} (cond b 0 0) 0
    nothing true = refl
    nothing false = refl

    none : (s : Setting) (d n : ℕ) → total (λ t. cond (is_tx_of s d (Tx t)) (strays_in s (ring_at (Tx t) []).out) 0) n ≡ 0
    none s d zero = refl
    none s d (suc n) = omega (arith, none s d n, nothing (is_tx_of s d (Tx n)))
strays_sound s d (e ∷ past) legal =
    let before = strays_sound s d past legal.0 in
    let q = ring_of e.call in
    let shown = is_shown (size_of s q) past e.call legal.2 in
    let moves = on_tx_moves s d past e.who e.call q refl legal.1.known in
    let now = ap (λ (ring : RingState). ring.out) (ring_here past e.who e.call) in
    ⊎_elim
    (λ (is : Comp d ≡ q).
    let same : strays_in s (behind s past q) ≡ strays_in s (behind s past (Comp d)) = ap (λ x. strays_in s (behind s past x)) (sym is) in
    let here : strays_in s (behind s (e ∷ past) (Comp d)) ≡ strays_in s (drop (length (back_by e.who s past (back_of s q (own Program past)) e.call)) (ring_after (ring_at q past) e.call).out)
    = ap (λ x. strays_in s (behind s (e ∷ past) x)) is
    ∙ ap (λ xs. strays_in s (drop (length xs) (ring_at q (e ∷ past)).out)) (back_here s past e.who e.call)
    ∙ ap (λ xs. strays_in s (drop (length (back_by e.who s past (back_of s q (own Program past)) e.call)) xs)) now in
    omega (
      arith,
      before,
      moves,
      part_unmade s d q (ring_at q past).out (ring_at q (e ∷ past)).out (subst (λ x. is_made x ≡ false) is refl),
      same,
      here,
      comp_moves s d past e.who e.call is legal.0 legal.1 shown (omega (arith, before, same)),
    ))
    (λ (off : is_ring (Comp d) q ≡ false).
    omega (
      arith,
      before,
      moves,
      tx_moves s d past e.who e.call off legal.1 shown,
      ap (part s d q) now,
      ap (λ xs. strays_in s (drop (length xs) (ring_at (Comp d) (e ∷ past)).out)) (back_else s past e.who e.call (Comp d) off),
      ap (λ (ring : RingState). strays_in s (drop (length (back_of s (Comp d) (own Program past))) ring.out)) (ring_else (Comp d) past e.who e.call off),
    ))
    (same_or (Comp d) q)
