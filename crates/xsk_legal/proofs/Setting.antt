-- What is asked of a Swap, and of a ring that is to be fed, is what makes the call legal.
use Rattle.std.proofs.Common.{◌≡◌, ◌↔◌, ℕ, suc, ◌≤◌, Bool, true, false, List, Option, Some, None, refl, sym, ap, subst, ◌∙◌, arith, eq-eqb, eqb-true}
use Rattle.std.specs.Prelude.{unwrap_or}
use Rattle.xsk_umem.specs.Limits.{most_items}
use Rattle.xsk_model.specs.Config.{Config, IsConfig, HasRing}
use Rattle.xsk_model.specs.Rings.{port_of, producer}
use Rattle.xsk_model.specs.Marks.{HoldsClosing, IsMarkOwner}
use Rattle.xsk_model.specs.Entry.{Told}
use Rattle.xsk_model.specs.Swaps.{last_set, last_seen, IsTimely, IsFed}
use Rattle.xsk_model.specs.Legal.{IsLegal}
use Rattle.xsk_model.specs.declared.call.Ring.{Ring}
use Rattle.xsk_model.specs.declared.call.Ring.TheVariants.{Fill, Comp, Rx, Tx}
use Rattle.xsk_model.specs.declared.call.Mark.{Mark}
use Rattle.xsk_model.specs.declared.call.Mark.TheVariants.{NeedFill, NeedTx, Kick, RxDone, Gone, TxDone, Cell, Closing, Acked, Bounced}
use Rattle.xsk_model.specs.declared.call.Call.TheVariants.{Reserve, Swap}
use Rattle.xsk_model.proofs.MarkPlaces.{cell_below}
use Rattle.xsk_legal.specs.Noted.{Noted}
use Rattle.xsk_legal.specs.Marked.{is_number}
use Rattle.xsk_legal.specs.Setting.{IsTime, MaySet, IsOpen}
use Rattle.xsk_legal.specs.Standing.{StandsFor}
use Rattle.xsk_legal.proofs.Marks.{one_socket, closing_rx}

pub number_true : (n : ℕ) (o : Option ℕ) → is_number n o ≡ true → o ≡ Some n
number_true n None e = absurd (cc)
number_true n (Some m) e = ap Some (sym (eqb-true n m e))

pub true_number : (n : ℕ) (o : Option ℕ) → o ≡ Some n → is_number n o ≡ true
true_number n o e = ap (is_number n) e ∙ eq-eqb n n refl

never_true : (b : Bool) → (b ≡ true → ⊥) → b ≡ false
never_true true other = absurd (other refl)
never_true false other = refl

-- ---- rings

module _ (c : Config) (kept : Noted) (mine : List Told) (h : StandsFor c kept mine) where
  open_fed : (r : Ring) → IsOpen c kept.marked r → IsFed c mine r
  open_fed (Fill d) may = tt
  open_fed (Comp d) may = tt
  open_fed (Rx s) may = λ is set.
      let both : false ≡ true = sym (may is) ∙ h.keeps.marked.acked s is ∙ true_number 1 (last_set (Acked s) mine) set in
      absurd (cc)
  open_fed (Tx s) may = λ is set.
      let both : false ≡ true = sym (may is) ∙ h.keeps.marked.closed s is ∙ true_number 1 (last_set (Closing s) mine) set in
      absurd (cc)

  fed_open : (r : Ring) → IsFed c mine r → IsOpen c kept.marked r
  fed_open (Fill d) fed = tt
  fed_open (Comp d) fed = tt
  fed_open (Rx s) fed = λ is. never_true kept.marked.acked (λ yes. fed is (number_true 1 (last_set (Acked s) mine) (sym (h.keeps.marked.acked s is) ∙ yes)))
  fed_open (Tx s) fed = λ is. never_true kept.marked.closed (λ yes. fed is (number_true 1 (last_set (Closing s) mine) (sym (h.keeps.marked.closed s is) ∙ yes)))

  pub open_is_fed : (r : Ring) → IsOpen c kept.marked r ↔ IsFed c mine r
  open_is_fed r = (open_fed r, fed_open r)

  pub reserve_legal : (r : Ring) (n : ℕ) → (1 ≤ n) × (n ≤ most_items) → HasRing c r × (kept.who ≡ producer c r) × IsOpen c kept.marked r → IsLegal c mine kept.who (Reserve r n)
  reserve_legal r n few may = record {
    caller = h.caller;
    known = may.0;
    role = may.1;
    counted = few;
    frames = λ k. omega arith;
    items = tt;
    packets = tt;
    feeds = open_fed r may.2;
  }

  pub legal_reserve : (r : Ring) (n : ℕ) → IsLegal c mine kept.who (Reserve r n) → HasRing c r × (kept.who ≡ producer c r) × IsOpen c kept.marked r
  legal_reserve r n legal = (legal.known, legal.role, fed_open r legal.feeds)

-- ---- marks

module _ (c : Config) (kept : Noted) (mine : List Told) (config : IsConfig c) (h : StandsFor c kept mine) where
  pub time_timely : (m : Mark) (value : ℕ) → IsMarkOwner c kept.who m → IsTime c kept m value → IsTimely c mine m value
  time_timely (NeedFill d) value owner time = tt
  time_timely (NeedTx s) value owner time = tt
  time_timely (Kick d) value owner time = tt
  time_timely (RxDone d) value owner time = tt
  time_timely (Gone d) value owner time = tt
  time_timely (TxDone a) value owner time = tt
  time_timely (Cell port index) value owner time = time
  time_timely (Closing s) value owner time = (
    time.0,
    λ index has holds.
        number_true 0 (last_set (Cell (port_of c (Rx s)) index) mine)
        (sym (h.keeps.marked.lowered s index owner.0 (cell_below c (port_of c (Rx s)) index config has)) ∙ time.1 index has s holds),
  )
  time_timely (Acked s) value owner time = (
    time.0,
    number_true 1 (last_seen (Closing s) mine) (sym (h.keeps.marked.seen s owner.0) ∙ time.1),
    sym (h.keeps.room (Rx s) (closing_rx c s config owner.0)) ∙ time.2,
  )
  time_timely (Bounced d) value owner time = time ∙ ap suc (h.keeps.marked.bounced ∙ ap (λ w. unwrap_or (last_set (Bounced w) mine) 0) owner)

  pub timely_time : (m : Mark) (value : ℕ) → IsMarkOwner c kept.who m → IsTimely c mine m value → IsTime c kept m value
  timely_time (NeedFill d) value owner time = tt
  timely_time (NeedTx s) value owner time = tt
  timely_time (Kick d) value owner time = tt
  timely_time (RxDone d) value owner time = tt
  timely_time (Gone d) value owner time = tt
  timely_time (TxDone a) value owner time = tt
  timely_time (Cell port index) value owner time = time
  timely_time (Closing s) value owner time = (
    time.0,
    λ index has t holds.
        let here : HoldsClosing c (port_of c (Rx s)) index s = subst (HoldsClosing c (port_of c (Rx s)) index) (one_socket c.closing t s holds.0 owner.0) holds in
        h.keeps.marked.lowered s index owner.0 (cell_below c (port_of c (Rx s)) index config has)
        ∙ true_number 0 (last_set (Cell (port_of c (Rx s)) index) mine) (time.1 index has here),
  )
  timely_time (Acked s) value owner time = (
    time.0,
    h.keeps.marked.seen s owner.0 ∙ true_number 1 (last_seen (Closing s) mine) time.1,
    h.keeps.room (Rx s) (closing_rx c s config owner.0) ∙ time.2,
  )
  timely_time (Bounced d) value owner time = time ∙ ap suc (sym (h.keeps.marked.bounced ∙ ap (λ w. unwrap_or (last_set (Bounced w) mine) 0) owner))

  pub set_legal : (m : Mark) (value : ℕ) → MaySet c kept m value → IsLegal c mine kept.who (Swap m value)
  set_legal m value may = record {
    caller = h.caller;
    known = may.known;
    role = (may.owner, time_timely m value may.owner may.time);
    counted = may.number;
    frames = λ k. omega arith;
    items = tt;
    packets = tt;
    feeds = tt;
  }

  pub legal_set : (m : Mark) (value : ℕ) → IsLegal c mine kept.who (Swap m value) → MaySet c kept m value
  legal_set m value legal = record { known = legal.known; owner = legal.role.0; number = legal.counted; time = timely_time m value legal.role.0 legal.role.1 }
