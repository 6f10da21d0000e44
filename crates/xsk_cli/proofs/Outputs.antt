-- The outputs, written one after another.
use Rattle.std.proofs.Common.{◌≡◌, ℕ, ◌+◌, ◌<◌, ◌≤◌, ltb, true, false, List, [], ◌++◌, Option, Some, None, inl, inr, length, take, get_or, sym, ap, ◌∙◌, subst, ⊎_elim, arith}
use Rattle.std.specs.Prelude.{◌≢◌, IfSome}
use Rattle.std.proofs.lemmas.Bool.{cases_eq}
use Rattle.xsk_io.specs.Bay.{Adds, AddsNoneBut, CountsOnly, Grows, GrowsByPart, IsOffered, Same, SameBut, Moment}
use Rattle.xsk_io.proofs.Steps.{Adds-none, Adds-then, AddsNoneBut-then, IsOffered-later, IsOffered-earlier, Same-then, SameBut-then}
use Rattle.xsk_io.specs.declared.bay.Kind.TheVariants.{Open}
use Rattle.xsk_io.specs.declared.bay.Offer.{Offer}
use Rattle.xsk_io.specs.declared.bay.Stream.{Stream}
use Rattle.xsk_io.specs.declared.bay.Stream.TheVariants.{Output}
use Rattle.xsk_cli.specs.Cause.{NeverFalls}
use Rattle.xsk_cli.specs.Streams.{IsTold, IsFront, AreWritten, Rewritten}
use Rattle.xsk_cli.specs.Steps.{FailsOutput, FailsOutputs}
use Rattle.xsk_cli.specs.declared.failure.WriteFailure.{WriteFailure}
use Rattle.xsk_cli.specs.declared.failure.WriteFailure.TheVariants.{Unopened, Unwritten}
use Rattle.xsk_cli.proofs.Counting.{never_falls_by, never_falls_then}
use Rattle.xsk_cli.proofs.Ports.{step, not_below_itself, below_next, below_as_before}

pub no_offers : (f g : Stream → Option (List Offer)) (one : Stream) → Same f g → AddsNoneBut one f g
no_offers f g one same stream other = subst (λ o. Adds (f stream) o []) (sym (same stream)) (Adds-none (f stream))

-- a stream was opened, or asked for in vain
pub opened_only : (one : Stream) (old new : Moment) → SameBut one old.is_open new.is_open → SameBut one old.asked new.asked → Same old.left new.left → SameBut one old.held new.held → Same old.offers new.offers
    → CountsOnly Open one old.faults new.faults → old.faults Open one ≤ new.faults Open one → Rewritten one old new
opened_only one old new opened asked left held offers counts low = record {
  opened = opened;
  asked = asked;
  left = left;
  held = held;
  offers = no_offers old.offers new.offers one offers;
  falls = never_falls_by Open one old.faults new.faults counts low;
}

-- and then written
pub Rewritten-then : (one : Stream) (old mid new : Moment) → Rewritten one old mid → Same mid.is_open new.is_open → Same mid.asked new.asked → Same mid.left new.left → SameBut one mid.held new.held → AddsNoneBut one mid.offers new.offers
    → NeverFalls mid.faults new.faults → Rewritten one old new
Rewritten-then one old mid new first opened asked left held offers falls = record {
  opened = λ stream other. opened stream ∙ first.opened stream other;
  asked = λ stream other. asked stream ∙ first.asked stream other;
  left = Same-then old.left mid.left new.left first.left left;
  held = SameBut-then one old.held mid.held new.held first.held held;
  offers = AddsNoneBut-then one old.offers mid.offers new.offers first.offers offers;
  falls = never_falls_then old.faults mid.faults new.faults first.falls falls;
}

-- what an empty output holds that got a text, or a front of one
pub whole_in : (mid new : Option (List ℕ)) (text : List ℕ) → IfSome mid (λ bytes. bytes ≡ []) → Grows mid new text → IsTold new text
whole_in mid None text empty grows = tt
whole_in mid (Some bytes) text empty (inl lost) = cc
whole_in None (Some bytes) text empty (inr is) = cc
whole_in (Some before) (Some bytes) text empty (inr is) = (let e : bytes ≡ before ++ text = cc in e) ∙ ap (λ b. b ++ text) empty

pub front_in : (mid new : Option (List ℕ)) (text : List ℕ) → IfSome mid (λ bytes. bytes ≡ []) → GrowsByPart mid new text → IsFront new text
front_in mid None text empty part = tt
front_in mid (Some bytes) text empty part = (part.0, whole_in mid (Some bytes) (take part.0 text) empty part.2)

other_output : (port n : ℕ) → (port ≡ n → ⊥) → Output port ≢ Output n
other_output port n h e = h (let i : port ≡ n = cc in i)

lower_output : (port n : ℕ) → port < n → Output port ≢ Output n
lower_output port n h = other_output port n (λ e. omega (arith, e, h))

higher_output : (port n : ℕ) → n + 1 ≤ port → Output port ≢ Output n
higher_output port n h = other_output port n (λ e. omega (arith, e, h))

-- one more output
module _ (names texts : List (List ℕ)) (n : ℕ) (old mid new : Moment) (are : AreWritten names texts n n old mid) (touched : Rewritten (Output n) mid new) (told : IsTold (new.asked (Output n)) (get_or names n [])) where
  open_more : new.is_open (Output n) ≡ true → (port : ℕ) → new.is_open (Output port) ≡ ltb port (n + 1)
  open_more is_open port = ⊎_elim
      (λ (e : port ≡ n). subst (λ k. new.is_open (Output k) ≡ true) (sym e) is_open ∙ below_next n port e)
      (λ (ne : port ≡ n → ⊥). touched.opened (Output port) (other_output port n ne) ∙ are.open_now port ∙ below_as_before n port ne)
      (cases_eq port n)

  open_same : new.is_open (Output n) ≡ false → (port : ℕ) → new.is_open (Output port) ≡ ltb port n
  open_same closed port = ⊎_elim
      (λ (e : port ≡ n). subst (λ k. new.is_open (Output k) ≡ false) (sym e) closed ∙ not_below_itself n port e)
      (λ (ne : port ≡ n → ⊥). touched.opened (Output port) (other_output port n ne) ∙ are.open_now port)
      (cases_eq port n)

  asked_before : (port : ℕ) → port < n → IsTold (new.asked (Output port)) (get_or names port [])
  asked_before port h = subst (λ a. IsTold a (get_or names port [])) (sym (touched.asked (Output port) (lower_output port n h))) (are.asked port h)

  asked_more : (port : ℕ) → port < n + 1 → IsTold (new.asked (Output port)) (get_or names port [])
  asked_more = step (λ port. IsTold (new.asked (Output port)) (get_or names port [])) n asked_before told

  wholes_before : (port : ℕ) → port < n → IsTold (new.held (Output port)) (get_or texts port [])
  wholes_before port h = subst (λ a. IsTold a (get_or texts port [])) (sym (touched.held (Output port) (lower_output port n h))) (are.wholes port h)

  later_more : (port : ℕ) → n + 1 ≤ port → new.held (Output port) ≡ old.held (Output port)
  later_more port h = touched.held (Output port) (higher_output port n h) ∙ are.later port (omega (arith, h))

  offered_before : (port : ℕ) → port < n → IsOffered (old.offers (Output port)) (new.offers (Output port)) (length (get_or texts port []))
  offered_before port h = IsOffered-later _ _ _ _ (are.offered port h) (touched.offers (Output port) (lower_output port n h))

  offered_more : IsOffered (mid.offers (Output n)) (new.offers (Output n)) (length (get_or texts n []))
      → (port : ℕ) → port < n + 1 → IsOffered (old.offers (Output port)) (new.offers (Output port)) (length (get_or texts port []))
  offered_more here =
      step (λ port. IsOffered (old.offers (Output port)) (new.offers (Output port)) (length (get_or texts port []))) n offered_before
      (IsOffered-earlier _ _ _ _ (are.unoffered n (omega arith)) here)

  unoffered_more : (port : ℕ) → n + 1 ≤ port → Adds (old.offers (Output port)) (new.offers (Output port)) []
  unoffered_more port h = Adds-then _ _ _ [] [] (are.unoffered port (omega (arith, h))) (touched.offers (Output port) (higher_output port n h))

  pub write_more : new.is_open (Output n) ≡ true → IsTold (new.held (Output n)) (get_or texts n []) → IsOffered (mid.offers (Output n)) (new.offers (Output n)) (length (get_or texts n []))
      → AreWritten names texts (n + 1) (n + 1) old new
  write_more is_open whole offered = record {
    open_now = open_more is_open;
    asked = asked_more;
    wholes = step (λ port. IsTold (new.held (Output port)) (get_or texts port [])) n wholes_before whole;
    fronts = λ port h l. absurd (omega (arith, h, l));
    later = later_more;
    offered = offered_more offered;
    unoffered = unoffered_more;
  }

  -- it is open, and wasn't written whole
  unwritten : new.is_open (Output n) ≡ true → IsFront (new.held (Output n)) (get_or texts n []) → IsOffered (mid.offers (Output n)) (new.offers (Output n)) (length (get_or texts n []))
      → AreWritten names texts (n + 1) n old new
  unwritten is_open front offered = record {
    open_now = open_more is_open;
    asked = asked_more;
    wholes = wholes_before;
    fronts = λ port h l.
        let here : port ≡ n = omega (arith, h, l) in
        subst (λ k. IsFront (new.held (Output k)) (get_or texts k [])) (sym here) front;
    later = later_more;
    offered = offered_more offered;
    unoffered = unoffered_more;
  }

  later_same : new.held (Output n) ≡ mid.held (Output n) → (port : ℕ) → n ≤ port → new.held (Output port) ≡ old.held (Output port)
  later_same held port h = ⊎_elim
      (λ (e : port ≡ n). subst (λ k. new.held (Output k) ≡ mid.held (Output k)) (sym e) held ∙ are.later port h)
      (λ (ne : port ≡ n → ⊥). touched.held (Output port) (other_output port n ne) ∙ are.later port h)
      (cases_eq port n)

  none_same : Adds (mid.offers (Output n)) (new.offers (Output n)) [] → (port : ℕ) → n ≤ port → Adds (old.offers (Output port)) (new.offers (Output port)) []
  none_same none port h = ⊎_elim
      (λ (e : port ≡ n). Adds-then _ _ _ [] [] (are.unoffered port h) (subst (λ k. Adds (mid.offers (Output k)) (new.offers (Output k)) []) (sym e) none))
      (λ (ne : port ≡ n → ⊥). Adds-then _ _ _ [] [] (are.unoffered port h) (touched.offers (Output port) (other_output port n ne)))
      (cases_eq port n)

  -- it isn't open
  unopened : new.is_open (Output n) ≡ false → new.held (Output n) ≡ mid.held (Output n) → Adds (mid.offers (Output n)) (new.offers (Output n)) [] → AreWritten names texts n n old new
  unopened closed held none = record {
    open_now = open_same closed;
    asked = asked_before;
    wholes = wholes_before;
    fronts = λ port h l. absurd (omega (arith, h, l));
    later = later_same held;
    offered = offered_before;
    unoffered = none_same none;
  }

  pub writing_fails : (failure : WriteFailure) → n < length names → FailsOutput n (get_or texts n []) mid new failure → FailsOutputs names texts old new failure
  writing_fails (Unopened at) known h =
      subst (λ k. (k < length names) × AreWritten names texts k k old new × IsTold (new.asked (Output k)) (get_or names k [])) (sym h.0) (known, unopened h.1 h.2 h.4, told)
  writing_fails (Unwritten stream) known h =
      subst (λ s. FailsOutputs names texts old new (Unwritten s)) (sym h.0) (known, unwritten h.1 h.2 h.4)
