-- A step of a call in flight that adds no entry: it moves one frame's slot, and may write words of its ring.
use Rattle.std.proofs.Common.{◌≡◌, ◌≢◌, ℕ, ◌<◌, false, List, [], ◌∷◌, length, get_or, set, refl, ap, sym, ◌∙◌, subst, ⊎_elim, append-nil}
use Rattle.std.specs.Prelude.{Option}
use mathlib.Core.Option.{some}
use mathlib.Core.Option as maybe
use lib.ListN.{get_elem?}
use Rattle.std.proofs.lemmas.Bool.{cases_eq}
use Rattle.atomic_table.specs.Table.{State}
use Rattle.xsk_umem.specs.Frame.{Frame}
use Rattle.xsk_model.specs.Config.{HasRing, callers_of}
use Rattle.xsk_model.specs.Numbers.{times, numbers}
use Rattle.xsk_model.specs.Rings as rings
use Rattle.xsk_model.specs.Rings.{is_ring}
use Rattle.xsk_model.specs.Marks.{HasMark}
use Rattle.xsk_model.specs.Entry.{own}
use Rattle.xsk_model.specs.declared.call.Ring.{Ring}
use Rattle.xsk_model.specs.declared.call.Mark.{Mark}
use Rattle.xsk_model.proofs.Places.{is_ring-true}
use Rattle.xsk_table.specs.Layout.{mark}
use Rattle.xsk_table.specs.View.{Basis, Flight, idle, View}
use Rattle.xsk_table.specs.Rule.{at, given, released, written, lying, aloft, IsVacant, AllHome, RingHolds, IsInFlight, Rule}
use Rattle.xsk_table.proofs.WordRows.{SameWords}
use Rattle.xsk_table.proofs.Changed.{Change, changed, now, ring_now, flight_of}
use Rattle.xsk_table.proofs.Slots.{Has, homes_put, put_len, put_else, free_ring, free_call}
use Rattle.xsk_table.proofs.Knowing.{Known, knows_now}

module _ (k : Basis) (s : State (Option Frame) View) (rule : Rule k s) (id who : ℕ) (r : Ring) (v : View) (at_id : get_elem? s.views id ≡ some v) (one : v.callers ≡ who ∷ []) (nobody : v.others ≡ [])
    (caller : who < callers_of k.config) (kn : Known k s rule who v) (there : HasRing k.config r) where
  pub shifted : (words' : List ℕ) (fl' : Flight) (f : Option Frame) (y : Frame → maybe.Option (Option Frame)) → Has f (own who rule.log)
      → length words' ≡ length s.words
      → ((r' : Ring) → HasRing k.config r' → is_ring r' r ≡ false → SameWords k.config s.words words' r')
      → ((m : Mark) → HasMark k.config m → at k.config words' (mark m) ≡ at k.config s.words (mark m))
      → ((r' : Ring) → HasRing k.config r' → is_ring r' r ≡ false → written r' fl' ≡ written r' v.flight)
      → RingHolds k words' r (ring_now k s rule r) (given k r rule.log) (released k r rule.log) (written r (get_or (set rule.flights who fl') (rings.producer k.config r) idle))
      → IsInFlight k (now k s rule) (own who rule.log) who fl'
      → AllHome (homes_put s.homes f y) (lying fl')
      → ((n : ℕ) → n < k.config.geometry.frames → times n (numbers (aloft fl')) ≡ 0 → (times n (numbers (aloft v.flight)) ≡ 0 → IsVacant s.homes n) → IsVacant (homes_put s.homes f y) n)
      → Rule k (record { words = words'; homes = homes_put s.homes f y; views = set s.views id (record v { flight = fl' }) })
  shifted words' fl' f y has words_len words_same marks_same written_same ok mine lies empties =
      let c = k.config in
      let homes' = homes_put s.homes f y in
      let knows = rule.seats id v at_id in
      let ch : Change k s rule who (λ r'. is_ring r' r) words' homes' rule.log fl' = record {
        caller = caller;
        legal = rule.legal;
        grows = ([], sym (append-nil rule.log));
        others = λ n off. refl;
        words_len = words_len;
        homes_len = put_len s.homes f y;
        words_same = words_same;
        rings_same = λ r' has' off. refl;
        counts_same = λ r' has' off. (refl, refl);
        written_same = λ r' has' off. written_same r' has' off ∙ sym (ap (written r') kn.flight);
        held_same = λ r' has' off. refl;
        here = λ r' has' on. subst (λ (q : Ring). RingHolds k words' q (ring_now k s rule q) (given k q rule.log) (released k q rule.log) (written q (get_or (set rule.flights who fl') (rings.producer c q) idle)))
            (sym (is_ring-true r' r on)) ok;
        marks = λ m has'. marks_same m has' ∙ rule.marks m has';
        mine = mine;
        outs = λ r' has'. put_else s.homes f y (ring_now k s rule r').out (free_ring k s rule who f has r') (rule.outs r' has');
        lie_mine = lies;
        lie_else = λ w off. put_else s.homes f y (lying (flight_of k s rule w)) (free_call k s rule who f has w off) (rule.lie w);
        vacant = λ n lt no_ring no_mine no_call. empties n lt no_mine (λ no_more. rule.vacant n lt no_ring
            (λ w. ⊎_elim (λ (is : w ≡ who). ap (λ m. times n (numbers (aloft (flight_of k s rule m)))) is ∙ ap (λ (g : Flight). times n (numbers (aloft g))) kn.flight ∙ no_more) (λ (off : w ≢ who). no_call w off) (cases_eq w who)));
      } in
      let w : View = record v { flight = fl' } in
      changed k s rule who id (λ r'. is_ring r' r) words' homes' rule.log fl' v w ch at_id one refl refl
      (knows_now rule.log rule.flights fl' who w one nobody refl kn.below knows.seen knows.told kn.mine)
