-- What is possible fits: the program's calls in a history, each after those before it.
use Rattle.std.proofs.Common.{◌≡◌, ℕ, zero, suc, ◌-◌, ◌≤◌, true, false, Option, List, [], ◌∷◌, length, take, drop, refl, sym, ap, ◌∙◌, subst, arith, ⊎_elim, inl, inr}
use Rattle.std.proofs.lemmas.List.{length-map}
use Rattle.std.proofs.lemmas.List.Elements.{All-take}
use Rattle.xsk_umem.specs.declared.batch.XdpDesc.{XdpDesc}
use Rattle.xsk_model.specs.declared.call.Ring.{Ring}
use Rattle.xsk_model.specs.declared.call.Ring.TheVariants.{Fill, Comp, Rx, Tx}
use Rattle.xsk_side.specs.Setting.{Setting, size_of, pair_of}
use Rattle.xsk_side.specs.Entries.{strays_in}
use Rattle.xsk_side.specs.Object.{Entry, ring_of, ring_at, producer, consumer, is_made, Replies}
use Rattle.xsk_side.specs.Own.{room_of, held_of, entry_of}
use Rattle.xsk_side.specs.Legal.{IsLegal, IsReceived, IsCompleted, MayCome}
use Rattle.xsk_side.specs.Possible.{IsHistory, Possible, own}
use Rattle.xsk_side.specs.Local.{back_of, given_of, strays_given, FitsReply, AllFit}
use Rattle.xsk_side.specs.declared.call.Party.{Party}
use Rattle.xsk_side.specs.declared.call.Party.TheVariants.{Program, Kernel}
use Rattle.xsk_side.specs.declared.call.Answer.TheVariants.{Granted, Full, Refused}
use Rattle.xsk_side.specs.declared.call.Call.{Call}
use Rattle.xsk_side.specs.declared.call.Call.TheVariants.{Reserve, Free, Submit, Peek, Release, Cancel}
use Rattle.xsk_side.proofs.Lists.{times-split, times-front, strays-split, length-front}
use Rattle.xsk_side.proofs.Rings.{entry, rings_sound}
use Rattle.xsk_side.proofs.Frames.{frames_sound}
use Rattle.xsk_side.proofs.Bounds.{sure_sound}
use Rattle.xsk_side.proofs.Given.{Comes, given_sound, behind, front-nil}
use Rattle.xsk_side.proofs.Strays.{drop-front, strays_sound}

pub made_by : (r : Ring) → Program ≡ producer r → is_made r ≡ true
made_by (Fill d) h = refl
made_by (Comp d) h = absurd (cc)
made_by (Rx k) h = absurd (cc)
made_by (Tx k) h = refl

pub shown_to : (r : Ring) → Program ≡ consumer r → is_made r ≡ false
shown_to (Fill d) h = absurd (cc)
shown_to (Comp d) h = refl
shown_to (Rx k) h = refl
shown_to (Tx k) h = absurd (cc)

pub is_producer : (r : Ring) → is_made r ≡ true → Program ≡ producer r
is_producer (Fill d) h = refl
is_producer (Comp d) h = absurd (cc)
is_producer (Rx k) h = absurd (cc)
is_producer (Tx k) h = refl

-- the ring's room is the program's
pub room_is : (s : Setting) (past : List Entry) (r : Ring) → IsHistory s past → Program ≡ producer r → (ring_at r past).room ≡ room_of r (own Program past)
room_is s past r legal role = (rings_sound s past legal r).room ∙ ap (λ w. room_of r (own w past)) (sym role)

pub held_is : (s : Setting) (past : List Entry) (r : Ring) → IsHistory s past → Program ≡ consumer r → length (ring_at r past).held ≡ length (held_of s r (own Program past))
held_is s past r legal role =
    ap length (rings_sound s past legal r).held
    ∙ length-map (held_of s r (own (consumer r) past)) entry_of
    ∙ ap (λ w. length (held_of s r (own w past))) (sym role)

take_turns : {X : Type 0} (m n : ℕ) (xs : List X) → take m (take n xs) ≡ take n (take m xs)
take_turns zero zero xs = refl
take_turns zero (suc n) xs = refl
take_turns (suc m) zero xs = refl
take_turns (suc m) (suc n) [] = refl
take_turns (suc m) (suc n) (x ∷ xs) = ap (λ ys. x ∷ ys) (take_turns m n xs)

-- the first of what may come, where the addresses that name no frame are so many at most
first_come : (s : Setting) (from : ℕ → Option Ring) (strays n : ℕ) (r : Ring) (es : List XdpDesc) → Comes s from r es
    → ((d : ℕ) → r ≡ Comp d → strays_in s es ≤ strays) → MayCome s from strays r (take n es)
first_come s from strays n (Fill d) es h few = tt
first_come s from strays n (Comp d) es h few = (All-take (IsCompleted s from d) n es h.0, omega (arith, few d refl, strays-split s n es))
first_come s from strays n (Rx k) es h few = All-take (IsReceived s from k) n es h
first_come s from strays n (Tx k) es h few = tt

few_strays : (s : Setting) (past : List Entry) (r : Ring) (d : ℕ) → IsHistory s past → r ≡ Comp d
    → strays_in s (behind s past r) ≤ strays_given s (pair_of s r) (own Program past)
few_strays s past r d legal is =
    subst (λ x. strays_in s (behind s past x) ≤ strays_given s (pair_of s x) (own Program past)) (sym is) (omega (arith, strays_sound s d past legal))

fits_entries : (s : Setting) (past : List Entry) (r : Ring) (n : ℕ) (es : List XdpDesc) → IsHistory s past → Program ≡ consumer r
    → Replies (size_of s r) (ring_at r past) (Peek r n es) → FitsReply s (own Program past) (Peek r n es)
fits_entries s past r n es legal role reply =
    let mine = own Program past in let back = back_of s r mine in let out = (ring_at r past).out in
    let rest = (given_sound s past legal).rest r (shown_to r role) in
    record {
      few = reply.0;
      none = λ nothing. ⊎_elim (λ (a : n ≡ 0). inl a) (λ (b : out ≡ []). inr (front-nil back (rest.front ∙ ap (take (length back)) b))) (reply.2 nothing);
      again = ap (take (length back)) reply.1 ∙ take_turns (length back) (length es) out ∙ ap (take (length es)) (sym rest.front);
      places = omega (arith, held_is s past r legal role, length-front es out reply.1, (rings_sound s past legal r).within);
      once = λ f. omega (arith, times-split s f (length back) es, times-front s f es out reply.1, (frames_sound s past f legal).place.alone r);
      new = subst (λ xs. MayCome s (given_of s mine) (strays_given s (pair_of s r) mine) r xs) (sym (drop-front (length back) es out reply.1))
          (first_come s (given_of s mine) (strays_given s (pair_of s r) mine) (length es - length back) r (drop (length back) out) rest.comes
          (λ d is. few_strays s past r d legal is));
    }

fits_reply : (s : Setting) (past : List Entry) (call : Call) → IsHistory s past → IsLegal s Program (own Program past) call
    → Replies (size_of s (ring_of call)) (ring_at (ring_of call) past) call → FitsReply s (own Program past) call
fits_reply s past (Reserve r n Granted) legal now reply = omega (arith, reply, room_is s past r legal now.role)
fits_reply s past (Reserve r n (Full told)) legal now reply =
    (reply.1, omega (arith, reply.0, sure_sound s past r legal (made_by r now.role)), omega (arith, reply.0, room_is s past r legal now.role))
fits_reply s past (Reserve r n Refused) legal now reply = omega (arith, reply, sure_sound s past r legal (made_by r now.role))
fits_reply s past (Free r n places) legal now reply = (
  omega (arith, reply.0, room_is s past r legal (is_producer r now.role.1)),
  λ less. omega (arith, reply.1 less, sure_sound s past r legal now.role.1),
)
fits_reply s past (Submit r es) legal now reply = tt
fits_reply s past (Peek r n es) legal now reply = fits_entries s past r n es legal now.role reply
fits_reply s past (Release r n) legal now reply = tt
fits_reply s past (Cancel r n) legal now reply = tt

pub all_fit : (s : Setting) (h : List Entry) → IsHistory s h → AllFit s (own Program h)
all_fit s [] legal = legal
all_fit s (e ∷ past) legal = fit_by s e.who e.call past (all_fit s past legal.0) legal
  where
    fit_by : (s : Setting) (who : Party) (call : Call) (past : List Entry) → AllFit s (own Program past) → IsHistory s (entry who call ∷ past)
        → AllFit s (own Program (entry who call ∷ past))
    fit_by s Program call past before legal = (before, record { legal = legal.1; reply = fits_reply s past call legal.0 legal.1 legal.2 })
    fit_by s Kernel call past before legal = before

pub possible_fits : (s : Setting) (calls : List Call) → Possible s calls → AllFit s calls
possible_fits s calls possible = subst (AllFit s) possible.own (all_fit s possible.history possible.legal)
