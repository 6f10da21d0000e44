-- What a seat of one caller knows of the rule, and what the rule's history says of a ring.
use Rattle.std.proofs.Common.{◌≡◌, ℕ, ◌+◌, ◌<◌, ◌≤◌, List, [], ◌∷◌, length, get_or, set, ap, sym, ◌∙◌, arith, subst, append-nil, get_or-set_same}
use Rattle.std.specs.Prelude.{Option}
use mathlib.Core.Option.{some}
use lib.ListN.{get_elem?}
use Rattle.atomic_table.specs.Table.{State}
use Rattle.xsk_umem.specs.Frame.{Frame}
use Rattle.xsk_model.specs.Config.{HasRing, size_of, callers_of}
use Rattle.xsk_model.specs.Numbers.{times}
use Rattle.xsk_model.specs.Rings as rings
use Rattle.xsk_model.specs.Rings.{is_ring}
use Rattle.xsk_model.specs.Entry.{Told, Entry, own}
use Rattle.xsk_model.specs.Own.{given_of, released_of, room_of, held_of}
use Rattle.xsk_model.specs.Legal.{IsLegal}
use Rattle.xsk_model.specs.declared.call.Ring.{Ring}
use Rattle.xsk_model.specs.declared.call.Call.{Call}
use Rattle.xsk_model.proofs.Theorems.{parts_by_own, within_size, counts_agree}
use Rattle.xsk_table.specs.View.{Basis, Flight, idle, View}
use Rattle.xsk_table.specs.Rule.{opened, given, released, StartsWith, Knows, Rule}
use Rattle.xsk_table.proofs.Seating.{sole, sole_counts}
use Rattle.xsk_table.proofs.Changed.{ring_now, flight_of}

-- one caller's seat
module _ (log : List Entry) (flights : List Flight) (who : ℕ) (v : View) (one : v.callers ≡ who ∷ []) (knows : Knows log flights v) where
  counts : 0 < times who v.callers
  counts = subst (λ (l : List ℕ). 0 < times who l) (sym one) (sole_counts who)

  pub own_is : own who log ≡ own who v.seen
  own_is = (knows.mine who counts).0

  pub flight_is : get_or flights who idle ≡ v.flight
  flight_is = (knows.mine who counts).1

-- a seat that has another call in flight, or has seen more
pub knows_now : (log : List Entry) (flights : List Flight) (fl : Flight) (who : ℕ) (w : View) → w.callers ≡ who ∷ [] → w.others ≡ [] → w.flight ≡ fl → who < length flights
    → StartsWith log w.seen → StartsWith log w.told → own who log ≡ own who w.seen → Knows log (set flights who fl) w
knows_now log flights fl who w one nobody flight lt seen told mine = record {
  seen = seen;
  told = told;
  mine = λ n p. let is : n ≡ who = sole n who (subst (λ (l : List ℕ). 0 < times n l) one p) in
      (ap (λ m. own m log) is ∙ mine ∙ ap (λ m. own m w.seen) (sym is), ap (λ m. get_or (set flights who fl) m idle) is ∙ get_or-set_same flights who fl idle lt ∙ sym flight);
  others = λ n p. absurd (let e = ap (times n) nobody in omega arith);
}

pub whole_log : (log : List Entry) → StartsWith log log
whole_log log = ([], sym (append-nil log))

-- what a seat of one caller knows before its call
pub record Known (k : Basis) (s : State (Option Frame) View) (rule : Rule k s) (who : ℕ) (v : View) : Type 0 where
  pub mine : own who rule.log ≡ own who v.seen
  pub flight : flight_of k s rule who ≡ v.flight
  pub below : who < length rule.flights

pub known : (k : Basis) (s : State (Option Frame) View) (rule : Rule k s) (id who : ℕ) (v : View) → get_elem? s.views id ≡ some v → v.callers ≡ who ∷ [] → who < callers_of k.config → Known k s rule who v
known k s rule id who v at one caller = let knows = rule.seats id v at in record {
  mine = own_is rule.log rule.flights who v one knows;
  flight = flight_is rule.log rule.flights who v one knows;
  below = omega (arith, caller, rule.flights_len);
}

pub legal_now : (k : Basis) (s : State (Option Frame) View) (rule : Rule k s) (who : ℕ) (call : Call) (v : View) → Known k s rule who v
    → IsLegal k.config (own who v.seen) who call → IsLegal k.config (own who rule.log) who call
legal_now k s rule who call v kn legal = subst (λ (l : List Told). IsLegal k.config l who call) (sym kn.mine) legal

-- the numbers of a ring
pub record Numbers (k : Basis) (s : State (Option Frame) View) (rule : Rule k s) (r : Ring) : Type 0 where
  pub room : (ring_now k s rule r).room ≡ room_of r (own (rings.producer k.config r) rule.log)
  pub held : length (ring_now k s rule r).held ≡ held_of r (own (rings.consumer k.config r) rule.log)
  pub within : length (ring_now k s rule r).out + length (ring_now k s rule r).held + (ring_now k s rule r).room ≤ size_of k.config r
  pub counts : given k r rule.log ≡ released k r rule.log + length (ring_now k s rule r).held + length (ring_now k s rule r).out

pub numbers_are : (k : Basis) (s : State (Option Frame) View) (rule : Rule k s) (r : Ring) → HasRing k.config r → Numbers k s rule r
numbers_are k s rule r has = record {
  room = (parts_by_own k.config k.frames rule.log r rule.legal has).0;
  held = (parts_by_own k.config k.frames rule.log r rule.legal has).1;
  within = within_size k.config k.frames rule.log r rule.legal has;
  counts = counts_agree k.config k.frames rule.log r rule.legal has;
}

-- what a ring's producer and its consumer know of its numbers
module _ (k : Basis) (s : State (Option Frame) View) (rule : Rule k s) (who : ℕ) (v : View) (kn : Known k s rule who v) (r : Ring) (has : HasRing k.config r) where
  pub given_seen : who ≡ rings.producer k.config r → given k r rule.log ≡ opened k r + given_of r (own who v.seen)
  given_seen role = ap (λ n. opened k r + given_of r (own n rule.log)) (sym role) ∙ ap (λ l. opened k r + given_of r l) kn.mine

  pub room_seen : who ≡ rings.producer k.config r → (ring_now k s rule r).room ≡ room_of r (own who v.seen)
  room_seen role = (numbers_are k s rule r has).room ∙ ap (λ n. room_of r (own n rule.log)) (sym role) ∙ ap (room_of r) kn.mine

  pub released_seen : who ≡ rings.consumer k.config r → released k r rule.log ≡ released_of r (own who v.seen)
  released_seen role = ap (λ n. released_of r (own n rule.log)) (sym role) ∙ ap (released_of r) kn.mine

  pub held_seen : who ≡ rings.consumer k.config r → length (ring_now k s rule r).held ≡ held_of r (own who v.seen)
  held_seen role = (numbers_are k s rule r has).held ∙ ap (λ n. held_of r (own n rule.log)) (sym role) ∙ ap (held_of r) kn.mine

  -- the producer's own flight
  pub flight_here : who ≡ rings.producer k.config r → flight_of k s rule (rings.producer k.config r) ≡ v.flight
  flight_here role = ap (flight_of k s rule) (sym role) ∙ kn.flight

  pub flight_then : (fl : Flight) → who ≡ rings.producer k.config r → get_or (set rule.flights who fl) (rings.producer k.config r) idle ≡ fl
  flight_then fl role = ap (λ n. get_or (set rule.flights who fl) n idle) (sym role) ∙ get_or-set_same rule.flights who fl idle kn.below
