-- What a step of one caller leaves as it was: one lemma for all kinds of step.
use Rattle.std.proofs.Common.{◌≡◌, ◌≢◌, ℕ, ◌+◌, ◌%◌, ◌<◌, Bool, true, false, List, [], ◌∷◌, ◌++◌, length, get_or, set, ap, sym, ◌∙◌, arith, subst, ⊎_elim, get_or-set_same, get_or-set_other}
use Rattle.std.specs.Prelude.{Option}
use mathlib.Core.Option.{some}
use lib.ListN.{get_elem?}
use Rattle.std.proofs.lemmas.Bool.{cases_eq, cases_Bool}
use Rattle.std.proofs.lemmas.List.{length-set}
use Rattle.atomic_table.specs.Table.{State}
use Rattle.xsk_umem.specs.Frame.{Frame}
use Rattle.xsk_model.specs.Config.{HasRing, size_of, callers_of}
use Rattle.xsk_model.specs.Numbers.{times, numbers}
use Rattle.xsk_model.specs.Rings as rings
use Rattle.xsk_model.specs.Marks.{HasMark}
use Rattle.xsk_model.specs.Object as object
use Rattle.xsk_model.specs.Object.{RingState, ring_at, mark_at}
use Rattle.xsk_model.specs.Entry.{Told, Entry, own}
use Rattle.xsk_model.specs.History.{IsHistory, state_after}
use Rattle.xsk_model.specs.declared.call.Ring.{Ring}
use Rattle.xsk_model.specs.declared.call.Mark.{Mark}
use Rattle.xsk_table.specs.Layout.{mark}
use Rattle.xsk_table.specs.View.{Basis, Flight, idle, placing, writing, taking, fetching, View}
use Rattle.xsk_table.specs.Rule.{at, given, released, Written, written, lying, aloft, Homes, IsVacant, AllHome, RingHolds, HasAll, IsInFlight, StartsWith, Knows, Rule}
use Rattle.xsk_table.proofs.WordRows.{SameWords, ring_size}
use Rattle.xsk_table.proofs.Seating.{seats_after, apart_after}

below_size : (n size : ℕ) → 0 < size → n % size < size
below_size n size h = omega arith

-- a ring whose words, state and counts stay
pub same_ring : (k : Basis) (words words' : List ℕ) (r : Ring) (q q' : RingState) (a a' b b' : ℕ) (l l' : Written) → 0 < size_of k.config r → SameWords k.config words words' r
    → q' ≡ q → a' ≡ a → b' ≡ b → l' ≡ l → RingHolds k words r q a b l → RingHolds k words' r q' a' b' l'
same_ring k words words' r q q' a a' b b' l l' some_size same eq ea eb el ok =
    let P : RingState × ℕ × ℕ × Written → Type 0 = λ t. RingHolds k words' r t.0 t.1 t.2 t.3 in
    let size : ℕ = size_of k.config r in
    subst P (λ i. (sym eq i, sym ea i, sym eb i, sym el i)) record {
      producer_is = same.producer_is ∙ ok.producer_is;
      consumer_is = same.consumer_is ∙ ok.consumer_is;
      within = ok.within;
      entries = λ j x there. let e = ok.entries j x there in record {
        address = same.entries ((k.first + b + j) % size) (below_size (k.first + b + j) size some_size) ∙ e.address;
        other = λ two. same.seconds ((k.first + b + j) % size) (below_size (k.first + b + j) size some_size) two ∙ e.other two;
        lawful = e.lawful;
      };
      half = λ x there two. same.seconds ((k.first + (a + length l.whole)) % size) (below_size (k.first + (a + length l.whole)) size some_size) two ∙ ok.half x there two;
    }

module _ (k : Basis) (s : State (Option Frame) View) (rule : Rule k s) where
  -- the object as the rule has it, its rings, and the calls in flight
  abbrev pub now : object.State
  now = state_after k.config k.frames rule.log

  abbrev pub ring_now : Ring → RingState
  ring_now r = ring_at k.config now r

  abbrev pub flight_of : ℕ → Flight
  flight_of w = get_or rule.flights w idle

-- one step of a caller on some rings, or on none: the history, words, slots and flight afterwards
pub record Change (k : Basis) (s : State (Option Frame) View) (rule : Rule k s) (who : ℕ) (on : Ring → Bool) (words' : List ℕ) (homes' : Homes)
    (log' : List Entry) (fl' : Flight) : Type 0 where
  pub caller : who < callers_of k.config
  pub legal : IsHistory k.config k.frames log'
  pub grows : StartsWith log' rule.log
  pub others : (n : ℕ) → n ≢ who → own n log' ≡ own n rule.log
  pub words_len : length words' ≡ length s.words
  pub homes_len : length homes' ≡ length s.homes
  pub words_same : (r : Ring) → HasRing k.config r → on r ≡ false → SameWords k.config s.words words' r
  pub rings_same : (r : Ring) → HasRing k.config r → on r ≡ false → ring_at k.config (state_after k.config k.frames log') r ≡ ring_now k s rule r
  pub counts_same : (r : Ring) → HasRing k.config r → on r ≡ false → (given k r log' ≡ given k r rule.log) × (released k r log' ≡ released k r rule.log)
  pub written_same : (r : Ring) → HasRing k.config r → on r ≡ false → written r fl' ≡ written r (flight_of k s rule who)
  pub held_same : (r : Ring) → HasRing k.config r → rings.consumer k.config r ≢ who → (ring_at k.config (state_after k.config k.frames log') r).held ≡ (ring_now k s rule r).held
  pub here : (r : Ring) → HasRing k.config r → on r ≡ true
      → RingHolds k words' r (ring_at k.config (state_after k.config k.frames log') r) (given k r log') (released k r log') (written r (get_or (set rule.flights who fl') (rings.producer k.config r) idle))
  pub marks : (m : Mark) → HasMark k.config m → at k.config words' (mark m) ≡ mark_at k.config (state_after k.config k.frames log') m
  pub mine : IsInFlight k (state_after k.config k.frames log') (own who log') who fl'
  pub outs : (r : Ring) → HasRing k.config r → AllHome homes' (ring_at k.config (state_after k.config k.frames log') r).out
  pub lie_mine : AllHome homes' (lying fl')
  pub lie_else : (w : ℕ) → w ≢ who → AllHome homes' (lying (flight_of k s rule w))
  pub vacant : (n : ℕ) → n < k.config.geometry.frames
      → ((r : Ring) → HasRing k.config r → times n (numbers (ring_at k.config (state_after k.config k.frames log') r).out) ≡ 0)
      → times n (numbers (aloft fl')) ≡ 0 → ((w : ℕ) → w ≢ who → times n (numbers (aloft (flight_of k s rule w))) ≡ 0) → IsVacant homes' n

flight_stays : (k : Basis) (s s' : object.State) (mine mine' : List Told) (w : ℕ) (f : Flight) → mine' ≡ mine
    → ((r : Ring) → HasRing k.config r → rings.consumer k.config r ≡ w → (ring_at k.config s' r).held ≡ (ring_at k.config s r).held)
    → IsInFlight k s mine w f → IsInFlight k s' mine' w f
flight_stays k s s' mine mine' w idle e same h = tt
flight_stays k s s' mine mine' w (placing r items) e same h = (h.0, h.1, subst (HasAll items) (sym e) h.2)
flight_stays k s s' mine mine' w (writing r items x) e same h = (h.0, h.1, subst (HasAll (items ++ x ∷ [])) (sym e) h.2)
flight_stays k s s' mine mine' w (taking r items) e same h = (h.0, h.1, subst (HasAll items) (sym e) h.2, (h.3.0, same r h.0 (sym h.1) ∙ h.3.1))
flight_stays k s s' mine mine' w (fetching r x left) e same h = (h.0, h.1, subst (HasAll (x ∷ left)) (sym e) h.2, (h.3.0, same r h.0 (sym h.1) ∙ h.3.1))

pub changed : (k : Basis) (s : State (Option Frame) View) (rule : Rule k s) (who id : ℕ) (on : Ring → Bool) (words' : List ℕ) (homes' : Homes) (log' : List Entry) (fl' : Flight) (v w : View)
    → Change k s rule who on words' homes' log' fl'
    → get_elem? s.views id ≡ some v → v.callers ≡ who ∷ [] → w.callers ≡ v.callers → w.others ≡ v.others → Knows log' (set rule.flights who fl') w
    → Rule k (record { words = words'; homes = homes'; views = set s.views id w })
changed k s rule who id on words' homes' log' fl' v w ch at one same same_others knows =
    let c = k.config in
    let flights' : List Flight = set rule.flights who fl' in
    let new : object.State = state_after c k.frames log' in
    let lt : who < length rule.flights = omega (arith, rule.flights_len, ch.caller) in
    let mine_is : get_or flights' who idle ≡ fl' = get_or-set_same rule.flights who fl' idle lt in
    let else_is : (n : ℕ) → n ≢ who → get_or flights' n idle ≡ get_or rule.flights n idle = λ n off. get_or-set_other rule.flights who n fl' idle off in
    record {
      log = log';
      flights = flights';
      legal = ch.legal;
      words_len = ch.words_len ∙ rule.words_len;
      homes_len = ch.homes_len ∙ rule.homes_len;
      flights_len = length-set rule.flights who fl' ∙ rule.flights_len;
      seats = seats_after rule.log log' rule.flights fl' s.views id who v w at one rule.apart ch.grows ch.others knows rule.seats;
      apart = apart_after s.views id v w at same same_others rule.apart;
      in_flight = λ n below. ⊎_elim
          (λ (e : n ≡ who). subst (λ (m : ℕ). IsInFlight k new (own m log') m (get_or flights' m idle)) (sym e)
          (subst (IsInFlight k new (own who log') who) (sym mine_is) ch.mine))
          (λ (e : n ≢ who). subst (IsInFlight k new (own n log') n) (sym (else_is n e))
          (flight_stays k (now k s rule) new (own n rule.log) (own n log') n (get_or rule.flights n idle) (ch.others n e)
          (λ r has is. ch.held_same r has (λ mine. e (sym is ∙ mine))) (rule.in_flight n below)))
          (cases_eq n who);
      rings = λ r has. ⊎_elim
          (λ (e : on r ≡ true). ch.here r has e)
          (λ (e : on r ≡ false).
          let written_is : written r (get_or flights' (rings.producer c r) idle) ≡ written r (get_or rule.flights (rings.producer c r) idle) = ⊎_elim
          (λ (p : rings.producer c r ≡ who). ap (λ n. written r (get_or flights' n idle)) p ∙ ap (written r) mine_is
          ∙ ch.written_same r has e ∙ ap (λ n. written r (get_or rule.flights n idle)) (sym p))
          (λ (p : rings.producer c r ≢ who). ap (written r) (else_is (rings.producer c r) p))
          (cases_eq (rings.producer c r) who) in
          let size = ring_size c r rule.legal.opened.config has in
          same_ring k s.words words' r _ _ _ _ _ _ _ _ (let least = size.least in omega arith) (ch.words_same r has e) (ch.rings_same r has e)
          (ch.counts_same r has e).0 (ch.counts_same r has e).1 written_is (rule.rings r has))
          (cases_Bool (on r));
      marks = ch.marks;
      outs = ch.outs;
      lie = λ n. ⊎_elim
          (λ (e : n ≡ who). subst (λ (m : ℕ). AllHome homes' (lying (get_or flights' m idle))) (sym e)
          (subst (λ (f : Flight). AllHome homes' (lying f)) (sym mine_is) ch.lie_mine))
          (λ (e : n ≢ who). subst (λ (f : Flight). AllHome homes' (lying f)) (sym (else_is n e)) (ch.lie_else n e))
          (cases_eq n who);
      vacant = λ n lt no_ring no_call. ch.vacant n lt no_ring
          (ap (λ (f : Flight). times n (numbers (aloft f))) (sym mine_is) ∙ no_call who)
          (λ w off. ap (λ (f : Flight). times n (numbers (aloft f))) (sym (else_is w off)) ∙ no_call w);
    }
