-- What a line comes to: the judge goes on, or the verdict is settled.
use Rattle.std.proofs.Common.{◌≡◌, ◌≢◌, ℕ, ◌+◌, ◌^◌, ◌≤◌, Option, Some, None, List, [], ◌∷◌, ◌++◌, length, refl, sym, ap, subst, ◌∙◌, arith, false}
use Rattle.std.specs.Prelude.{unwrap_or}
use Rattle.xsk_model.specs.declared.call.Ring.TheVariants.{Fill, Comp, Rx, Tx}
use Rattle.xsk_side.specs.Setting.{Setting, pair_of}
use Rattle.xsk_side.specs.Local.{strays_given}
use Rattle.xsk_side.specs.Possible.{Possible}
use Rattle.xsk_side.specs.declared.setting.SettingError.{SettingError}
use Rattle.xsk_side.specs.declared.call.Call.{Call}
use Rattle.xsk_side.specs.declared.call.Call.TheVariants.{Reserve, Free, Submit, Peek, Release, Cancel}
use Rattle.xsk_side.proofs.Fits.{possible_fits}
use Rattle.xsk_judge.specs.Stands.{Line, IsWhy, StandsFor as StandsForLines, calls_of as calls_in}
use Rattle.xsk_judge.specs.Reasons.{IsReasonOf}
use Rattle.xsk_judge.specs.declared.why.Why.{Why}
use Rattle.xsk_judge.specs.declared.why.Why.TheVariants.{Rule, Kernel, TooMany}
use Rattle.xsk_lines.specs.Lines.{lines_of}
use Rattle.xsk_recording.specs.Header.{Header}
use Rattle.xsk_recording.specs.Text.{Beside, Numbered, Read, line_after}
use Rattle.xsk_recording.specs.Feeding.{is_calls}
use Rattle.xsk_recording.specs.Verdict.{IsSound, calls_of}
use Rattle.xsk_recording.specs.declared.head.Next.{Next}
use Rattle.xsk_recording.specs.declared.head.Next.TheVariants.{Title, Umem, Pairs, Sockets, Mark, Calls}
use Rattle.xsk_recording.specs.declared.reading.Event.TheVariants as an_event
use Rattle.xsk_recording.specs.declared.wakeup.Wakeup.{Wakeup}
use Rattle.xsk_recording.specs.declared.verdict.Verdict.TheVariants as a_verdict
use Rattle.xsk_check.specs.Checking.{Checked, lines_of_calls, IsOpen, Follows, Judges, IsBare, IsHeard, Heard, HasTold, IsFoundAt}
use Rattle.xsk_recording.specs.Counts.{IsCounted}
use Rattle.xsk_check.specs.declared.check.Court.{Court}
use Rattle.xsk_recording.proofs.Small.{IsSmallCall}
use Rattle.xsk_recording.proofs.Going.{Leads, line-step}
use Rattle.xsk_recording.proofs.Counting.{strays-few, longer, call-small-of}

some-value : {A : Type 0} (x y : A) → ◌≡◌ {A = Option A} (Some x) (Some y) → x ≡ y
some-value {A} x y e = ap (λ (r : Option A). unwrap_or r x) e

-- ---- a judge's calls, and a reader's

pub same-calls : (calls : List Numbered) → calls_in (lines_of_calls calls) ≡ calls_of calls
same-calls [] = refl
same-calls (n ∷ calls) = ap (λ (cs : List Call). n.call ∷ cs) (same-calls calls)

judges-sound : (r : Read) (court : Option Court) → Judges r court → Possible r.header.setting (calls_of r.calls)
judges-sound r None judges = absurd judges
judges-sound r (Some court) judges =
    subst (λ (s : Setting). Possible s (calls_of r.calls)) judges.0 (subst (Possible court.setting) (same-calls r.calls) judges.3.stands.possible)

pub heard-sound : (next : Next) (r : Read) (court : Option Court) → IsHeard next r court → IsSound next r
heard-sound Title r court heard = tt
heard-sound Umem r court heard = tt
heard-sound Pairs r court heard = tt
heard-sound Sockets r court heard = tt
heard-sound Mark r court heard = judges-sound r court heard.0
heard-sound Calls r court heard = judges-sound r court heard

-- ---- a line of the header

early-heard : (next : Next) (n : Read) (court : Option Court) → is_calls next ≡ false → (next ≡ Mark → ⊥) → court ≡ None → IsBare n → IsHeard next n court
early-heard Title n court early other none calls = (none, calls)
early-heard Umem n court early other none calls = (none, calls)
early-heard Pairs n court early other none calls = (none, calls)
early-heard Sockets n court early other none calls = (none, calls)
early-heard Mark n court early other none calls = absurd (other refl)
early-heard Calls n court early other none calls = cc early

-- the calls, looks and wakes are the same
record IsSame (r n : Read) : Type 0 where
  pub calls : n.calls ≡ r.calls
  pub asides : n.asides ≡ r.asides

followed : (r n : Read) (court : Court) → IsSame r n → Follows court (lines_of_calls r.calls) r.asides → Follows court (lines_of_calls n.calls) n.asides
followed r n court same follows =
    subst (λ (beside : List Beside). Follows court (lines_of_calls n.calls) beside) (sym same.asides)
    (subst (λ (cs : List Numbered). Follows court (lines_of_calls cs) r.asides) (sym same.calls) follows)

still-bare : (r n : Read) → IsSame r n → IsBare r → IsBare n
still-bare r n same bare = record { calls = same.calls ∙ bare.calls; asides = same.asides ∙ bare.asides }

-- the judge is the same where what the header tells is
judges-same : (r n : Read) (court : Option Court) → n.header.setting ≡ r.header.setting → n.header.metadata ≡ r.header.metadata → IsSame r n
    → Judges r court → Judges n court
judges-same r n None setting metadata same judges = judges
judges-same r n (Some court) setting metadata same judges =
    (judges.0 ∙ sym setting, judges.1 ∙ sym metadata, judges.2, followed r n court same judges.3)

calls-heard : (n : Read) (court : Option Court) → n.header.next ≡ Calls → Judges n court → IsHeard n.header.next n court
calls-heard n court calls judges = subst (λ (k : Next). IsHeard k n court) (sym calls) judges

passed-heard : (next : Next) (r n : Read) (court : Option Court) → r.header.next ≡ next → Leads next r n → IsSame r n → (n.header.next ≡ Mark → ⊥)
    → IsHeard next r court → IsHeard n.header.next n court
passed-heard Title r n court is leads same other heard = early-heard n.header.next n court leads.0 other heard.0 (still-bare r n same heard.1)
passed-heard Umem r n court is leads same other heard = early-heard n.header.next n court leads.0 other heard.0 (still-bare r n same heard.1)
passed-heard Pairs r n court is leads same other heard = early-heard n.header.next n court leads.0 other heard.0 (still-bare r n same heard.1)
passed-heard Sockets r n court is leads same other heard = early-heard n.header.next n court leads.0 other heard.0 (still-bare r n same heard.1)
passed-heard Mark r n court is leads same other heard =
    calls-heard n court (ap (λ (h : Header). h.next) leads.0)
    (judges-same r n court (ap (λ (h : Header). h.setting) leads.0) (ap (λ (h : Header). h.metadata) leads.0) same heard.0)
passed-heard Calls r n court is leads same other heard =
    calls-heard n court (ap (λ (h : Header). h.next) leads ∙ is)
    (judges-same r n court (ap (λ (h : Header). h.setting) leads) (ap (λ (h : Header). h.metadata) leads) same heard)

-- the same line leaves the same
pub same-next : (r n m : Read) (xs : List ℕ) → line_after r xs ≡ Some n → line_after r xs ≡ Some m → n ≡ m
same-next r n m xs one two = some-value n m (sym one ∙ two)

same-told : (r m n : Read) → m ≡ n → m.calls ≡ r.calls → m.asides ≡ r.asides → IsSame r n
same-told r m n same calls asides = record {
  calls = ap (λ (x : Read). x.calls) (sym same) ∙ calls;
  asides = ap (λ (x : Read). x.asides) (sym same) ∙ asides;
}

pub passed : (old new : Checked) (r n : Read) (xs : List ℕ) → new.court ≡ old.court → new.calls ≡ old.calls → Heard old r → HasTold r xs an_event.Passed
    → line_after r xs ≡ Some n → Heard new n
passed old new r n xs court calls heard told after =
    let same = same-next r told.read n xs told.is after in
    let as_before : IsSame r n = same-told r told.read n same told.calls_are told.rest.2 in
    record {
      court =
          subst (IsHeard n.header.next n) (sym court)
          (passed-heard r.header.next r n old.court refl (line-step r n xs after).leads as_before
          (λ mark. told.rest.1 (ap (λ (x : Read). x.header.next) same ∙ mark)) heard.court);
      calls = calls ∙ heard.calls ∙ ap (λ (l : List Numbered). length l) (sym as_before.calls);
    }

-- ---- the setting is told

early-bare : (next : Next) (r n : Read) (court : Option Court) → r.header.next ≡ next → Leads next r n → n.header.next ≡ Mark → IsHeard next r court → IsBare r
early-bare Title r n court is leads mark heard = heard.1
early-bare Umem r n court is leads mark heard = heard.1
early-bare Pairs r n court is leads mark heard = heard.1
early-bare Sockets r n court is leads mark heard = heard.1
early-bare Mark r n court is leads mark heard = heard.1
early-bare Calls r n court is leads mark heard = cc (sym mark ∙ ap (λ (h : Header). h.next) leads ∙ is)

bare-followed : (n : Read) (court : Court) → IsBare n → Follows court [] [] → Follows court (lines_of_calls n.calls) n.asides
bare-followed n court bare follows =
    subst (λ (beside : List Beside). Follows court (lines_of_calls n.calls) beside) (sym bare.asides)
    (subst (λ (cs : List Numbered). Follows court (lines_of_calls cs) []) (sym bare.calls) follows)

pub told-setting : (old new : Checked) (court : Court) (r n : Read) (xs : List ℕ) → new.court ≡ Some court → new.calls ≡ old.calls
    → IsOpen court → Follows court [] [] → Heard old r → HasTold r xs (an_event.Setting court.setting court.hints.metadata) → line_after r xs ≡ Some n
    → Heard new n
told-setting old new court r n xs is calls opens follows heard told after =
    let same = same-next r told.read n xs told.is after in
    let as_before : IsSame r n = same-told r told.read n same told.calls_are told.rest.4 in
    let mark : n.header.next ≡ Mark = ap (λ (x : Read). x.header.next) (sym same) ∙ told.rest.1 in
    let setting : n.header.setting ≡ court.setting = ap (λ (x : Read). x.header.setting) (sym same) ∙ told.rest.2 in
    let metadata : n.header.metadata ≡ court.hints.metadata = ap (λ (x : Read). x.header.metadata) (sym same) ∙ told.rest.3 in
    let none : IsBare n = still-bare r n as_before (early-bare r.header.next r n old.court refl (line-step r n xs after).leads mark heard.court) in
    record {
      court =
          subst (IsHeard n.header.next n) (sym is)
          (subst (λ (k : Next). IsHeard k n (Some court)) (sym mark) ((sym setting, sym metadata, opens, bare-followed n court none follows), none));
      calls = calls ∙ heard.calls ∙ ap (λ (l : List Numbered). length l) (sym as_before.calls);
    }

-- ---- a call

told-next : (next : Next) (r n : Read) (x : Numbered) → Leads next r n → n.calls ≡ x ∷ r.calls → next ≡ Calls
told-next Title r n x leads is = absurd (longer r.calls x (sym leads.1 ∙ is))
told-next Umem r n x leads is = absurd (longer r.calls x (sym leads.1 ∙ is))
told-next Pairs r n x leads is = absurd (longer r.calls x (sym leads.1 ∙ is))
told-next Sockets r n x leads is = absurd (longer r.calls x (sym leads.1 ∙ is))
told-next Mark r n x leads is = absurd (longer r.calls x (sym leads.1 ∙ is))
told-next Calls r n x leads is = refl

-- it stands behind the line `calls`
in-calls : (r : Read) (xs : List ℕ) (call : Call) → HasTold r xs (an_event.Call call) → r.header.next ≡ Calls
in-calls r xs call told =
    told-next r.header.next r told.read (record { line = r.lines + 1; call = call }) (line-step r told.read xs told.is).leads told.calls_are

-- and leaves the header as it was
same-header : (r n : Read) (xs : List ℕ) (call : Call) → HasTold r xs (an_event.Call call) → line_after r xs ≡ Some n → n.header ≡ r.header
same-header r n xs call told after = subst (λ (k : Next). Leads k r n) (in-calls r xs call told) (line-step r n xs after).leads

judges-calls : (r : Read) (court : Option Court) → r.header.next ≡ Calls → IsHeard r.header.next r court → Judges r court
judges-calls r court is heard = subst (λ (k : Next). IsHeard k r court) is heard

pub told-judges : (checked : Checked) (r : Read) (xs : List ℕ) (call : Call) → Heard checked r → HasTold r xs (an_event.Call call) → Judges r checked.court
told-judges checked r xs call heard told = judges-calls r checked.court (in-calls r xs call told) heard.court

pub called : (old new : Checked) (court after : Court) (r n : Read) (xs : List ℕ) (line : ℕ) (call : Call) → old.court ≡ Some court → new.court ≡ Some after
    → new.calls ≡ old.calls + 1 → after.setting ≡ court.setting → after.hints.metadata ≡ court.hints.metadata → IsOpen after
    → ((lines : List Line) (asides : List Beside) → Follows court lines asides → Follows after (record { line = line; call = call } ∷ lines) asides)
    → line ≡ r.lines + 1 → Heard old r → HasTold r xs (an_event.Call call) → line_after r xs ≡ Some n → Heard new n
called old new court after r n xs line call was is calls setting metadata opens follows number heard told next =
    let same = same-next r told.read n xs told.is next in
    let header = same-header r n xs call told next in
    let judges : Judges r (Some court) = subst (Judges r) was (told-judges old r xs call heard told) in
    let told_calls : n.calls ≡ record { line = r.lines + 1; call = call } ∷ r.calls = ap (λ (x : Read). x.calls) (sym same) ∙ told.calls_are in
    let told_asides : n.asides ≡ r.asides = ap (λ (x : Read). x.asides) (sym same) ∙ told.rest.1 in
    let goes_on : Follows after (record { line = r.lines + 1; call = call } ∷ lines_of_calls r.calls) n.asides =
    subst (λ (k : ℕ). Follows after (record { line = k; call = call } ∷ lines_of_calls r.calls) n.asides) number
    (subst (λ (beside : List Beside). Follows after (record { line = line; call = call } ∷ lines_of_calls r.calls) beside) (sym told_asides)
    (follows (lines_of_calls r.calls) r.asides judges.3)) in
    record {
      court =
          calls-heard n new.court (ap (λ (h : Header). h.next) header ∙ in-calls r xs call told)
          (subst (Judges n) (sym is) (
            setting ∙ judges.0 ∙ ap (λ (h : Header). h.setting) (sym header),
            metadata ∙ judges.1 ∙ ap (λ (h : Header). h.metadata) (sym header),
            opens,
            subst (λ (cs : List Numbered). Follows after (lines_of_calls cs) n.asides) (sym told_calls) goes_on,
          ));
      calls = calls ∙ ap (λ k. k + 1) heard.calls ∙ sym (ap (λ (l : List Numbered). length l) told_calls ∙ omega arith);
    }

-- ---- a look or a wake

pub aside-judges : (checked : Checked) (r : Read) (xs : List ℕ) (wakeup : Wakeup) → Heard checked r → HasTold r xs (an_event.Aside wakeup) → Judges r checked.court
aside-judges checked r xs wakeup heard told = judges-calls r checked.court told.rest.1 heard.court

pub woken : (old new : Checked) (court after : Court) (r n : Read) (xs : List ℕ) (line : ℕ) (wakeup : Wakeup) → old.court ≡ Some court → new.court ≡ Some after
    → new.calls ≡ old.calls → after.setting ≡ court.setting → after.hints.metadata ≡ court.hints.metadata → (IsOpen court → IsOpen after)
    → ((lines : List Line) (asides : List Beside) → Follows court lines asides → Follows after lines (record { line = line; wakeup = wakeup } ∷ asides))
    → line ≡ r.lines + 1 → Heard old r → HasTold r xs (an_event.Aside wakeup) → line_after r xs ≡ Some n → Heard new n
woken old new court after r n xs line wakeup was is calls setting metadata opens follows number heard told next =
    let same = same-next r told.read n xs told.is next in
    let header : n.header ≡ r.header = subst (λ (k : Next). Leads k r n) told.rest.1 (line-step r n xs next).leads in
    let judges : Judges r (Some court) = subst (Judges r) was (aside-judges old r xs wakeup heard told) in
    let told_calls : n.calls ≡ r.calls = ap (λ (x : Read). x.calls) (sym same) ∙ told.calls_are in
    let told_asides : n.asides ≡ record { line = r.lines + 1; wakeup = wakeup } ∷ r.asides = ap (λ (x : Read). x.asides) (sym same) ∙ told.rest.2 in
    let goes_on : Follows after (lines_of_calls r.calls) (record { line = r.lines + 1; wakeup = wakeup } ∷ r.asides) =
    subst (λ (k : ℕ). Follows after (lines_of_calls r.calls) (record { line = k; wakeup = wakeup } ∷ r.asides)) number (follows (lines_of_calls r.calls) r.asides judges.3) in
    record {
      court =
          calls-heard n new.court (ap (λ (h : Header). h.next) header ∙ told.rest.1)
          (subst (Judges n) (sym is) (
            setting ∙ judges.0 ∙ ap (λ (h : Header). h.setting) (sym header),
            metadata ∙ judges.1 ∙ ap (λ (h : Header). h.metadata) (sym header),
            opens judges.2,
            subst (λ (cs : List Numbered). Follows after (lines_of_calls cs) n.asides) (sym told_calls)
                (subst (λ (beside : List Beside). Follows after (lines_of_calls r.calls) beside) (sym told_asides) goes_on),
          ));
      calls = calls ∙ heard.calls ∙ ap (λ (l : List Numbered). length l) (sym told_calls);
    }

-- ---- why a call isn't possible

why-not : (s : Setting) (past : List Line) (call : Call) (why : Why) → IsWhy s past call why → ((d : ℕ) → strays_given s d (calls_in past) + 32 + 1 ≤ 2 ^ 64)
    → IsSmallCall call → Possible s (call ∷ calls_in past) → ⊥
why-not s past call (Rule rule) is few small possible = is (possible_fits s (call ∷ calls_in past) possible).1.legal
why-not s past call (Kernel denial) is few small possible = is.1 possible
why-not s past (Reserve r n answer) TooMany is few small possible = is
why-not s past (Free r n places) TooMany is few small possible = is
why-not s past (Submit (Fill d) entries) TooMany is few small possible = is
why-not s past (Submit (Comp d) entries) TooMany is few small possible = is
why-not s past (Submit (Rx k) entries) TooMany is few small possible = is
why-not s past (Submit (Tx k) entries) TooMany is few small possible = omega (arith, is, few (pair_of s (Tx k)), strays-few s entries, small)
why-not s past (Peek r n entries) TooMany is few small possible = is
why-not s past (Release r n) TooMany is few small possible = is
why-not s past (Cancel r n) TooMany is few small possible = is

few-strays : (s : Setting) (r : Read) → IsCounted r → (d : ℕ) → strays_given s d (calls_in (lines_of_calls r.calls)) + 32 + 1 ≤ 2 ^ 64
few-strays s r counted d = rw (same-calls r.calls) (omega (arith, counted.1, counted.2 s d))

pub found-call : (checked : Checked) (court : Court) (r : Read) (xs : List ℕ) (line : ℕ) (call : Call) (why : Why) → checked.court ≡ Some court
    → ((lines : List Line) → StandsForLines court.setting court.judge lines → IsWhy court.setting lines call why × IsReasonOf court.setting lines line call why)
    → line ≡ r.lines + 1 → Heard checked r → IsCounted r → HasTold r xs (an_event.Call call)
    → IsFoundAt r xs (record { verdict = a_verdict.NotPossible line; blame = Some (record { call = call; why = why }) })
found-call checked court r xs line call why was reason number heard counted told text later begins =
    let n = told.read in
    let step = line-step r n xs told.is in
    let header = same-header r n xs call told told.is in
    let setting : n.header.setting ≡ r.header.setting = ap (λ (h : Header). h.setting) header in
    let judges : Judges r (Some court) = subst (Judges r) was (told-judges checked r xs call heard told) in
    let is : IsWhy n.header.setting (lines_of_calls r.calls) call why × IsReasonOf n.header.setting (lines_of_calls r.calls) line call why =
    subst (λ (s : Setting). IsWhy s (lines_of_calls r.calls) call why × IsReasonOf s (lines_of_calls r.calls) line call why) (judges.0 ∙ sym setting)
    (reason (lines_of_calls r.calls) judges.3.stands) in
    let calls : calls_of n.calls ≡ call ∷ calls_in (lines_of_calls r.calls) =
    ap calls_of told.calls_are ∙ ap (λ (cs : List Call). call ∷ cs) (sym (same-calls r.calls)) in (
      (
        r,
        xs,
        later,
        n,
        begins,
        told.is,
        ap (λ (h : Header). h.next) header ∙ in-calls r xs call told,
        λ possible.
            why-not n.header.setting (lines_of_calls r.calls) call why is.0 (few-strays n.header.setting r counted)
            (call-small-of r n xs (record { line = r.lines + 1; call = call }) told.is told.calls_are)
            (subst (Possible n.header.setting) calls possible),
        number ∙ sym step.lines,
      ),
      record {
        read = r;
        last = xs;
        later = later;
        next = n;
        begins = begins;
        after = told.is;
        calls = subst (λ (k : ℕ). n.calls ≡ record { line = k; call = call } ∷ r.calls) (sym number) told.calls_are;
        why = is.0;
        reason = is.1;
      },
    )

-- ---- no setting, and no recording

pub found-setting : (r : Read) (xs : List ℕ) (line : ℕ) (error : SettingError) → line ≡ r.lines + 1 → HasTold r xs (an_event.NoSetting error)
    → IsFoundAt r xs (record { verdict = a_verdict.NoSetting line error; blame = None })
found-setting r xs line error number told text later begins =
    let step = line-step r told.read xs told.is in
    ((r, xs, later, told.read, begins, told.is, told.rest.1, told.rest.2, number ∙ sym step.lines), refl)

no-line : (before : List (List ℕ)) (line : List ℕ) (later : List (List ℕ)) → [] ≡ before ++ line ∷ later → ⊥
no-line [] line later is = cc is
no-line (l ∷ before) line later is = cc is

some-text : (text : List ℕ) (before : List (List ℕ)) (line : List ℕ) (later : List (List ℕ)) → lines_of text ≡ before ++ line ∷ later → text ≢ []
unfolding lines_of
some-text text before line later is none = no-line before line later (ap lines_of (sym none) ∙ is)

pub found-fault : (r : Read) (xs : List ℕ) (line : ℕ) → line ≡ r.lines + 1 → HasTold r xs an_event.Fault
    → IsFoundAt r xs (record { verdict = a_verdict.NoRecording line; blame = None })
found-fault r xs line number told text later begins = ((r, xs ∷ later, begins, told, some-text text begins.before xs later begins.lines_are, number), refl)
