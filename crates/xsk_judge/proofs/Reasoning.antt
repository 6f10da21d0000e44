-- The reason by what is kept is the reason by what the calls leave.
use Rattle.std.proofs.Common.{◌≡◌, ℕ, ◌+◌, ◌-◌, ◌<◌, ◌≤◌, Bool, true, false, not, ◌||◌, List, [], length, take, drop, get_or, refl, sym, ap, ◌∙◌, subst, arith, ⊎_elim, inl, inr, length-drop}
use Rattle.std.specs.Prelude.{IsTrue}
use Rattle.std.proofs.lemmas.List.{get_or-drop, get_or-take, length-take-le}
use Rattle.xsk_umem.specs.declared.batch.XdpDesc.{XdpDesc}
use Rattle.xsk_model.specs.declared.call.Ring.{Ring}
use Rattle.xsk_model.specs.declared.call.Ring.TheVariants.{Fill, Comp, Rx, Tx}
use Rattle.xsk_model.specs.Descriptor.{is_inside}
use Rattle.xsk_side.specs.Setting.{Setting, HasRing, size_of, pair_of}
use Rattle.xsk_side.specs.Entries.{frame, strays_in, is_received, last}
use Rattle.xsk_side.specs.Object.{is_made, ring_of}
use Rattle.xsk_side.specs.Own.{Held, fresh, room_of, held_of, has_frame}
use Rattle.xsk_side.specs.Legal.{HasRole}
use Rattle.xsk_side.specs.Local.{most_of, back_of, given_of, strays_given}
use Rattle.xsk_side.specs.declared.call.Party.TheVariants.{Program}
use Rattle.xsk_side.specs.declared.call.Call.{Call}
use Rattle.xsk_side.specs.declared.call.Call.TheVariants.{Reserve, Free, Submit, Peek, Release, Cancel}
use Rattle.xsk_side.proofs.Rings.{is_true, is_false}
use Rattle.xsk_side.proofs.Fits.{made_by, shown_to, is_producer}
use Rattle.xsk_judge.specs.declared.known.Known.{Known}
use Rattle.xsk_judge.specs.declared.why.Why.{Why}
use Rattle.xsk_judge.specs.declared.why.Why.TheVariants.{Rule as Broken, Kernel as Denied, TooMany}
use Rattle.xsk_judge.specs.declared.why.Rule.{Rule}
use Rattle.xsk_judge.specs.declared.why.Rule.TheVariants as a_rule
use Rattle.xsk_judge.specs.declared.why.Denial.{Denial}
use Rattle.xsk_judge.specs.declared.why.Denial.TheVariants as a_denial
use Rattle.xsk_judge.specs.Kept.{Kept, is_as, known_in, numbered, end_at, queue_at, strays_at, standing}
use Rattle.xsk_judge.specs.Judging.{Agrees, IsFor, MayCall, given_in, is_latest, marked, peeked}
use Rattle.xsk_judge.specs.Stands.{Line, IsKnown, StandsFor, again_since, calls_of, shown_of}
use Rattle.xsk_judge.specs.Reasons.{AnswersNot, Breaks, ComesNot, ComesWrong, Denies, FreesNot, IsReasonOf, ShowsNot, StopsAt, entry_at}
use Rattle.xsk_judge.specs.Refusing.{IsBroken, IsDenied, IsIn, IsReason, NoPlace, PassesOn, PutsNotBack, Stops, SubmitsNot, mine_in}
use Rattle.xsk_judge.proofs.Marking.{inside_below, nothing}
use Rattle.xsk_judge.proofs.Coming.{named_below, received_inside}
use Rattle.xsk_judge.proofs.Standing.{shown_by, mine_is, held_entry, most_is, given_is, standing_is, pair_below, come_as}
use Rattle.xsk_judge.proofs.Behind.{more, known_peek}

-- ---- rules

no_place : (s : Setting) (lines : List Line) (call : Call) (made : Bool) (rule : Rule) → (HasRole Program call → is_made (ring_of call) ≡ made) → NoPlace s made (ring_of call) rule
    → Breaks s lines call rule
no_place s lines call made a_rule.Ring role h = h
no_place s lines call made a_rule.Side role h = (h.0, λ is. h.1 (role is))
no_place s lines call made (a_rule.Places room) role h = absurd h
no_place s lines call made (a_rule.Twice i) role h = absurd h
no_place s lines call made (a_rule.Frame i known) role h = absurd h
no_place s lines call made (a_rule.Release held) role h = absurd h
no_place s lines call made (a_rule.Cancel kept) role h = absurd h
no_place s lines call made (a_rule.PassedOn entry known) role h = absurd h

stops_so : (s : Setting) (kept : Kept) (lines : List Line) (es : List XdpDesc) (i : ℕ) → StandsFor s kept lines → StopsAt s (mine_in kept.frames) es i
    → StopsAt s (λ f. has_frame s f (calls_of lines)) es i
stops_so s kept lines es i now h = record { low = h.low; before = (mine_is s kept lines (take i es) now).0 h.before; names = h.names }

submits_not : (s : Setting) (kept : Kept) (lines : List Line) (r : Ring) (es : List XdpDesc) (rule : Rule) → StandsFor s kept lines → HasRing s r → is_made r ≡ true
    → SubmitsNot s kept.frames (end_at s kept r).room es rule → Breaks s lines (Submit r es) rule
submits_not s kept lines r es a_rule.Ring now has made h = absurd h.1
submits_not s kept lines r es a_rule.Side now has made h = absurd h.1
submits_not s kept lines r es (a_rule.Places room) now has made h = ((has, is_producer r made), h.0 ∙ now.room r has made, h.1)
submits_not s kept lines r es (a_rule.Twice i) now has made h =
    ((has, is_producer r made), omega (arith, h.0, now.room r has made), (stops_so s kept lines es i now h.1.0, h.1.1))
submits_not s kept lines r es (a_rule.Frame i known) now has made h =
    let f = frame s (entry_at es i) in
    let there = now.frames f (inside_below s (entry_at es i) h.1.0.names) in (
      (has, is_producer r made),
      omega (arith, h.0, now.room r has made),
      (stops_so s kept lines es i now h.1.0, sym there.mine ∙ h.1.1, subst (IsKnown s lines f) (sym h.1.2) there),
    )
submits_not s kept lines r es (a_rule.Release held) now has made h = absurd h.1
submits_not s kept lines r es (a_rule.Cancel k) now has made h = absurd h.1
submits_not s kept lines r es (a_rule.PassedOn entry known) now has made h = absurd h.1

passed_inside : (s : Setting) (frames : List Known) (r : Ring) (i : ℕ) (e : XdpDesc) → is_latest s frames r i e ≡ false → IsTrue (is_inside s.geometry e)
passed_inside s frames r i e h = by (is_inside s.geometry e) (is_as r i (known_in frames (frame s e)).place) h
  where
    by : (a b : Bool) → (not a || b) ≡ false → a ≡ true
    by true b h = refl
    by false b h = absurd (cc)

passes_so : (s : Setting) (kept : Kept) (lines : List Line) (r : Ring) (n : ℕ) (entry : XdpDesc) (known : Known) → StandsFor s kept lines → HasRing s r → is_made r ≡ false
    → n ≤ (queue_at s kept r).held → PassesOn s kept.frames r (queue_at s kept r) n (a_rule.PassedOn entry known)
    → Breaks s lines (Cancel r n) (a_rule.PassedOn entry known)
passes_so s kept lines r n entry known now has unmade few h =
    let queue = queue_at s kept r in
    let is = now.queues r has unmade in
    let held = held_of s r (calls_of lines) in
    let none : Held = fresh nothing in
    let i = h.0 in
    let k = i - (length held - n) in
    let back = last n held in
    let at : get_or back k none ≡ get_or held i none =
    get_or-drop (length held - n) held k none ∙ ap (λ j. get_or held j none) (omega (arith, h.1, h.2, is.held, few)) in
    let its : entry ≡ (get_or held i none).entry = h.4 ∙ held_entry s (calls_of lines) kept.frames r queue i nothing none is h.2 in
    let low : frame s entry < s.geometry.frames = inside_below s entry (passed_inside s kept.frames r (numbered queue.first i) entry h.5) in (
      has,
      unmade,
      omega (arith, few, is.held),
      record {
        at = k;
        low = omega (arith, h.1, h.2, is.held, few, length-drop (length held - n) held);
        before = λ j d less.
            let short : j < k = omega (arith, less, length-take-le k back (omega (arith, h.1, h.2, is.held, few, length-drop (length held - n) held))) in
            let j' = length held - n + j in
            let low_j : j' < queue.held = omega (arith, short, h.2, is.held, few) in
            subst (λ (x : Held). IsTrue x.untouched) (sym (get_or-take k back j d short ∙ get_or-drop (length held - n) held j d))
            (sym (is.latest j' d low_j)
            ∙ ap (is_latest s kept.frames r (numbered queue.first j')) (sym (held_entry s (calls_of lines) kept.frames r queue j' d.entry d is low_j))
            ∙ h.3 j' d.entry (omega (arith, is.held, few)) (omega (arith, short, h.1, is.held, few)));
        touched = ap (λ (x : Held). x.untouched) at ∙ sym (is.latest i none h.2) ∙ ap (is_latest s kept.frames r (numbered queue.first i)) (sym its) ∙ h.5;
        is = its ∙ ap (λ (x : Held). x.entry) (sym at);
        there = subst (IsKnown s lines (frame s entry)) (sym h.6) (now.frames (frame s entry) low);
      },
    )

puts_not_back : (s : Setting) (kept : Kept) (lines : List Line) (r : Ring) (n : ℕ) (rule : Rule) → StandsFor s kept lines → HasRing s r → is_made r ≡ false
    → PutsNotBack s kept.frames r (queue_at s kept r) n rule → Breaks s lines (Cancel r n) rule
puts_not_back s kept lines r n a_rule.Ring now has unmade h = absurd h.1
puts_not_back s kept lines r n a_rule.Side now has unmade h = absurd h.1
puts_not_back s kept lines r n (a_rule.Places room) now has unmade h = absurd h.1
puts_not_back s kept lines r n (a_rule.Twice i) now has unmade h = absurd h.1
puts_not_back s kept lines r n (a_rule.Frame i known) now has unmade h = absurd h.1
puts_not_back s kept lines r n (a_rule.Release held) now has unmade h = absurd h.1
puts_not_back s kept lines r n (a_rule.Cancel k) now has unmade h =
    (has, h.0 ∙ (now.queues r has unmade).held ∙ sym (is_false (is_made r) (room_of r (calls_of lines)) (length (held_of s r (calls_of lines))) unmade), h.1)
puts_not_back s kept lines r n (a_rule.PassedOn entry known) now has unmade h = passes_so s kept lines r n entry known now has unmade h.0 h.1

broken : (s : Setting) (kept : Kept) (lines : List Line) (call : Call) (rule : Rule) → StandsFor s kept lines → IsBroken s kept call rule → Breaks s lines call rule
broken s kept lines (Reserve r n answer) rule now h = no_place s lines (Reserve r n answer) true rule (made_by r) h
broken s kept lines (Free r n places) rule now h = no_place s lines (Free r n places) true rule (λ role. role.1) h
broken s kept lines (Submit r es) rule now h =
    ⊎_elim (no_place s lines (Submit r es) true rule (made_by r)) (λ x. submits_not s kept lines r es rule now x.0 x.1 x.2) h
broken s kept lines (Peek r n es) rule now h = no_place s lines (Peek r n es) false rule (shown_to r) h
broken s kept lines (Release r n) rule now h = ⊎_elim
    (no_place s lines (Release r n) false rule (shown_to r))
    (λ x. subst (Breaks s lines (Release r n)) (sym x.2) ((x.0, shown_by r x.1), (now.queues r x.0 x.1).held, x.3))
    h
broken s kept lines (Cancel r n) rule now h = ⊎_elim
    (λ x. subst (Breaks s lines (Cancel r n)) (sym x.0) x.1)
    (⊎_elim
    (λ x. subst (Breaks s lines (Cancel r n)) (sym x.2)
    (x.0, now.room r x.0 x.1 ∙ sym (is_true (is_made r) (room_of r (calls_of lines)) (length (held_of s r (calls_of lines))) x.1), x.3))
    (λ x. puts_not_back s kept lines r n rule now x.0 x.1 x.2))
    h

-- ---- entries that come

comes_so : (s : Setting) (r : Ring) (Is Is' : Known → Type 0) (left left' i i' : ℕ) (e : XdpDesc) (denial : Denial) → i ≡ i' → ((d : ℕ) → r ≡ Comp d → left ≡ left')
    → (IsTrue (is_inside s.geometry e) → (k : Known) → Is k → Is' k) → (IsTrue (is_received s e) → IsTrue (is_inside s.geometry e))
    → ComesNot s r Is left i e denial → ComesNot s r Is' left' i' e denial
comes_so s (Fill d) Is Is' left left' i i' e denial at same also valid h = absurd h
comes_so s (Tx k) Is Is' left left' i i' e denial at same also valid h = absurd h
comes_so s (Rx k) Is Is' left left' i i' e (a_denial.Granted most) at same also valid h = absurd h
comes_so s (Rx k) Is Is' left left' i i' e (a_denial.Refused places since) at same also valid h = absurd h
comes_so s (Rx k) Is Is' left left' i i' e (a_denial.Taken places) at same also valid h = absurd h
comes_so s (Rx k) Is Is' left left' i i' e (a_denial.FewerFree places since) at same also valid h = absurd h
comes_so s (Rx k) Is Is' left left' i i' e a_denial.More at same also valid h = absurd h
comes_so s (Rx k) Is Is' left left' i i' e (a_denial.Full held) at same also valid h = absurd h
comes_so s (Rx k) Is Is' left left' i i' e (a_denial.Empty count since) at same also valid h = absurd h
comes_so s (Rx k) Is Is' left left' i i' e (a_denial.Other j stood since) at same also valid h = absurd h
comes_so s (Rx k) Is Is' left left' i i' e (a_denial.Outside j) at same also valid h = (h.0 ∙ at, h.1)
comes_so s (Rx k) Is Is' left left' i i' e (a_denial.Entry j) at same also valid h = (h.0 ∙ at, h.1, h.2)
comes_so s (Rx k) Is Is' left left' i i' e (a_denial.NotFilled j known) at same also valid h = (h.0 ∙ at, h.1, also (valid h.1) known h.2, h.3)
comes_so s (Rx k) Is Is' left left' i i' e (a_denial.NotSent j known) at same also valid h = absurd h
comes_so s (Rx k) Is Is' left left' i i' e (a_denial.OtherPair j known) at same also valid h = (h.0 ∙ at, h.1, also (valid h.1) known h.2, h.3, h.4, h.5, h.6)
comes_so s (Rx k) Is Is' left left' i i' e (a_denial.NeverSent j) at same also valid h = absurd h
comes_so s (Comp d) Is Is' left left' i i' e (a_denial.Granted most) at same also valid h = absurd h
comes_so s (Comp d) Is Is' left left' i i' e (a_denial.Refused places since) at same also valid h = absurd h
comes_so s (Comp d) Is Is' left left' i i' e (a_denial.Taken places) at same also valid h = absurd h
comes_so s (Comp d) Is Is' left left' i i' e (a_denial.FewerFree places since) at same also valid h = absurd h
comes_so s (Comp d) Is Is' left left' i i' e a_denial.More at same also valid h = absurd h
comes_so s (Comp d) Is Is' left left' i i' e (a_denial.Full held) at same also valid h = absurd h
comes_so s (Comp d) Is Is' left left' i i' e (a_denial.Empty count since) at same also valid h = absurd h
comes_so s (Comp d) Is Is' left left' i i' e (a_denial.Other j stood since) at same also valid h = absurd h
comes_so s (Comp d) Is Is' left left' i i' e (a_denial.Outside j) at same also valid h = absurd h
comes_so s (Comp d) Is Is' left left' i i' e (a_denial.Entry j) at same also valid h = (h.0 ∙ at, h.1)
comes_so s (Comp d) Is Is' left left' i i' e (a_denial.NotFilled j known) at same also valid h = absurd h
comes_so s (Comp d) Is Is' left left' i i' e (a_denial.NotSent j known) at same also valid h = (h.0 ∙ at, h.1, h.2, also h.2 known h.3, h.4)
comes_so s (Comp d) Is Is' left left' i i' e (a_denial.OtherPair j known) at same also valid h = (h.0 ∙ at, h.1, h.2, also h.2 known h.3, h.4, h.5, h.6)
comes_so s (Comp d) Is Is' left left' i i' e (a_denial.NeverSent j) at same also valid h = (h.0 ∙ at, h.1, h.2, sym (same d refl) ∙ h.3)

comes_wrong : (s : Setting) (kept : Kept) (lines : List Line) (line : ℕ) (r : Ring) (n at : ℕ) (es : List XdpDesc) (denial : Denial) → IsFor s kept → StandsFor s kept lines
    → HasRing s r → is_made r ≡ false → Agrees (queue_at s kept r) n es
    → Stops s kept.frames r (queue_at s kept r).first line at (length (standing (queue_at s kept r))) (strays_at kept (pair_of s r)) (drop (length (standing (queue_at s kept r))) es) denial
    → ComesWrong s lines line r n es denial
comes_wrong s kept lines line r n at es denial for now has unmade agrees stop =
    let queue = queue_at s kept r in let calls = calls_of lines in
    let is = now.queues r has unmade in
    let same : standing queue ≡ back_of s r calls = standing_is s calls kept.frames r queue is in
    let new = drop (length (standing queue)) es in
    let j = stop.0 in
    let front = take j new in
    let e = entry_at new j in
    let waiting = λ (d : ℕ) (c : r ≡ Comp d). now.strays (pair_of s r) (pair_below s r d c has) in
    record {
      few = agrees.0;
      places = omega (arith, agrees.3, is.held, for.size r has unmade);
      again = subst (λ xs. take (length xs) es ≡ take (length es) xs) same agrees.2;
      new = new;
      new_is = ap (λ xs. drop (length xs) es) same;
      at = j;
      low = stop.1;
      before = (
        stop.2.0,
        come_as s (given_in kept.frames) (given_of s calls) (strays_at kept (pair_of s r)) (strays_given s (pair_of s r) calls) r front waiting
            (λ g q some was. sym (given_is s kept lines g now (named_below s g front some)) ∙ was) stop.2.1,
      );
      wrong =
          comes_so s r (IsIn (marked s (peeked r queue.first line) at front kept.frames) (frame s e)) (IsKnown s (more line (Peek r n front) lines) (frame s e))
          (strays_at kept (pair_of s r) - strays_in s front) (strays_given s (pair_of s r) calls - strays_in s front)
          (length (standing queue) + j) (length (back_of s r calls) + j) e denial (ap (λ xs. length xs + j) same)
          (λ d c. ap (λ k. k - strays_in s front) (waiting d c))
          (λ inside k there. subst (IsKnown s (more line (Peek r n front) lines) (frame s e)) (sym there)
          (known_peek s kept lines line r n front [] front queue.first 0 at (frame s e) for now refl (inside_below s e inside)))
          (received_inside s e) stop.3;
    }

-- ---- replies

denied : (s : Setting) (line : ℕ) (kept : Kept) (lines : List Line) (call : Call) (denial : Denial) → IsFor s kept → StandsFor s kept lines → MayCall s kept call
    → IsDenied s line kept call denial → Denies s lines line call denial
denied s line kept lines (Reserve r n answer) denial for now may h =
    subst (λ k. AnswersNot k (shown_of s r lines) (most_of s r (calls_of lines)) line n answer denial) (now.sure r may.0 may.1)
    (subst (λ k. AnswersNot (end_at s kept r).sure k (most_of s r (calls_of lines)) line n answer denial) (now.shown r may.0 may.1)
    (subst (λ k. AnswersNot (end_at s kept r).sure (end_at s kept r).shown k line n answer denial) (most_is s kept lines r now may.0 may.1) h))
denied s line kept lines (Free r n places) denial for now may h =
    subst (λ k. FreesNot k (shown_of s r lines) (most_of s r (calls_of lines)) n places denial) (now.sure r may.0 may.1)
    (subst (λ k. FreesNot (end_at s kept r).sure k (most_of s r (calls_of lines)) n places denial) (now.shown r may.0 may.1)
    (subst (λ k. FreesNot (end_at s kept r).sure (end_at s kept r).shown k n places denial) (most_is s kept lines r now may.0 may.1) h))
denied s line kept lines (Submit r es) denial for now may h = absurd h
denied s line kept lines (Peek r n es) denial for now may h =
    let queue = queue_at s kept r in let calls = calls_of lines in
    let is = now.queues r may.0 may.1 in
    ⊎_elim
    (λ x. inl
    (subst (λ xs. ShowsNot xs (length (held_of s r calls)) (size_of s r) (again_since r lines) n es denial) (standing_is s calls kept.frames r queue is)
    (subst (λ k. ShowsNot (standing queue) k (size_of s r) (again_since r lines) n es denial) is.held
    (subst (λ k. ShowsNot (standing queue) queue.held k (again_since r lines) n es denial) (for.size r may.0 may.1)
    (subst (λ k. ShowsNot (standing queue) queue.held queue.size k n es denial) (now.again r may.0 may.1) x)))))
    (λ x. inr (comes_wrong s kept lines line r n x.1 es denial for now may.0 may.1 x.0 x.2))
    h
denied s line kept lines (Release r n) denial for now may h = absurd h
denied s line kept lines (Cancel r n) denial for now may h = absurd h

pub reason_of : (s : Setting) (line : ℕ) (kept : Kept) (call : Call) (why : Why) → IsFor s kept → IsReason s line kept call why → (lines : List Line) → StandsFor s kept lines
    → IsReasonOf s lines line call why
reason_of s line kept call (Broken rule) for h lines now = broken s kept lines call rule now h.1
reason_of s line kept call (Denied denial) for h lines now = denied s line kept lines call denial for now h.0 h.2
reason_of s line kept call TooMany for h lines now = tt
