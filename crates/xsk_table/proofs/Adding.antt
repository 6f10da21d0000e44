-- A step that adds an entry on a ring: what is left to show is the ring, the caller's flight and the frames.
use Rattle.std.proofs.Common.{◌≡◌, ◌≢◌, ℕ, ◌+◌, true, false, List, [], ◌∷◌, ◌++◌, length, get_or, set, refl, ap, sym, ◌∙◌, arith, subst, ⊎_elim, nat_le}
use Rattle.std.specs.Prelude.{Option}
use mathlib.Core.Option.{some}
use lib.ListN.{get_elem?}
use Rattle.std.proofs.lemmas.Bool.{cases_eq, cases_Bool}
use Rattle.atomic_table.specs.Table.{State}
use Rattle.xsk_umem.specs.Frame.{Frame}
use Rattle.xsk_model.specs.Config.{Config, HasRing, size_of}
use Rattle.xsk_model.specs.Numbers.{times, numbers}
use Rattle.xsk_model.specs.Rings as rings
use Rattle.xsk_model.specs.Rings.{is_ring}
use Rattle.xsk_model.specs.Marks.{HasMark}
use Rattle.xsk_model.specs.Object as object
use Rattle.xsk_model.specs.Object.{RingState, ring_at, mark_at, free, ring_after, reply_at, after, submitted}
use Rattle.xsk_model.specs.Entry.{Told, Entry, own, told}
use Rattle.xsk_model.specs.Own as own_words
use Rattle.xsk_model.specs.Own.{is_on, given_step, released_step}
use Rattle.xsk_model.specs.Opening.{opening}
use Rattle.xsk_model.specs.History.{IsHistory, state_after}
use Rattle.xsk_model.specs.Legal.{HasRole, IsLegal}
use Rattle.xsk_model.specs.declared.call.Ring.{Ring}
use Rattle.xsk_model.specs.declared.call.Mark.{Mark}
use Rattle.xsk_model.specs.declared.call.Call.{Call}
use Rattle.xsk_model.specs.declared.call.Call.TheVariants.{Reserve, Submit, Peek, Release, Swap, Look}
use Rattle.xsk_model.proofs.Places.{is_ring-true, is_ring-self, place_below}
use Rattle.xsk_model.proofs.Folds.{own-push_same, own-push_other, part_of_own-push, part_of_own-push_other}
use Rattle.xsk_model.proofs.Moves.{ring_at-after_same, ring_at-after_other, not_producer, not_consumer, cond-held}
use Rattle.xsk_model.proofs.Histories.{history_sound, after_all-append}
use Rattle.xsk_model.proofs.CallTheorems.{one_more}
use Rattle.xsk_table.specs.Layout.{mark}
use Rattle.xsk_table.specs.View.{Basis, Flight, idle, View}
use Rattle.xsk_table.specs.Rule.{at, opened, given, released, written, lying, aloft, AllHome, RingHolds, IsInFlight, Rule}
use Rattle.xsk_table.specs.Plays.{Extends, entry}
use Rattle.xsk_table.proofs.WordRows.{SameWords}
use Rattle.xsk_table.proofs.Seating.{longer}
use Rattle.xsk_table.proofs.Changed.{Change, changed, now, ring_now, flight_of}
use Rattle.xsk_table.proofs.Knowing.{Known, knows_now, whole_log}

held_stays : (c : Config) (size : ℕ) (q : RingState) (mine : List Told) (who : ℕ) (call : Call) (r : Ring) → HasRole c mine who call → is_on r call ≡ true → rings.consumer c r ≢ who
    → (ring_after size q call).held ≡ q.held
held_stays c size q mine who (Reserve s n) r role on other = cond-held (nat_le n (free size q)) q n
held_stays c size q mine who (Submit s items) r role on other = refl
held_stays c size q mine who (Peek s n) r role on other = absurd (other (ap (rings.consumer c) (is_ring-true r s on) ∙ sym role))
held_stays c size q mine who (Release s n) r role on other = absurd (other (ap (rings.consumer c) (is_ring-true r s on) ∙ sym role))
held_stays c size q mine who (Swap m value) r role on other = refl
held_stays c size q mine who (Look m) r role on other = refl

module _ (k : Basis) (s : State (Option Frame) View) (rule : Rule k s) (e : Entry) (legal : IsLegal k.config (own e.who rule.log) e.who e.call) where
  abbrev pub later : object.State
  later = state_after k.config k.frames (rule.log ++ e ∷ [])

  pub later_is : later ≡ after k.config (now k s rule) e.who e.call
  later_is = after_all-append k.config (opening k.config k.frames) rule.log (e ∷ [])

  ring_there : (r : Ring) → HasRing k.config r → is_on r e.call ≡ true → ring_at k.config later r ≡ ring_after (size_of k.config r) (ring_now k s rule r) e.call
  ring_there r has on =
      let sound = history_sound k.config k.frames rule.log rule.legal in
      ap (λ t. ring_at k.config t r) later_is
      ∙ ring_at-after_same k.config (now k s rule) e.who e.call r has legal.known (omega (arith, sound.rings, place_below k.config r has)) on

  pub ring_else : (r : Ring) → HasRing k.config r → is_on r e.call ≡ false → ring_at k.config later r ≡ ring_now k s rule r
  ring_else r has off = ap (λ t. ring_at k.config t r) later_is ∙ ring_at-after_other k.config (now k s rule) e.who e.call r has legal.known off

  given_there : (r : Ring) → is_on r e.call ≡ true → given k r (rule.log ++ e ∷ []) ≡ given k r rule.log + length (submitted e.call)
  given_there r on =
      let n : ℕ = own_words.given_of r (own (rings.producer k.config r) rule.log) in
      ap (λ m. opened k r + m) (part_of_own-push given_step r 0 (rings.producer k.config r) rule.log e on
      (λ other. ap (λ l. n + length l) (not_producer k.config (own e.who rule.log) e.who e.call r legal.role on other).0 ∙ omega arith)) ∙ omega arith

  released_there : (r : Ring) → is_on r e.call ≡ true → released k r (rule.log ++ e ∷ []) ≡ released k r rule.log + own_words.released e.call
  released_there r on =
      let n : ℕ = own_words.released_of r (own (rings.consumer k.config r) rule.log) in
      part_of_own-push released_step r 0 (rings.consumer k.config r) rule.log e on
      (λ other. ap (λ m. n + m) (not_consumer k.config (now k s rule) (own e.who rule.log) e.who e.call r legal.role on other).1 ∙ omega arith)

  held_else : (r : Ring) → HasRing k.config r → rings.consumer k.config r ≢ e.who → (ring_at k.config later r).held ≡ (ring_now k s rule r).held
  held_else r has other = ⊎_elim
      (λ (on : is_on r e.call ≡ true). ap (λ (q : RingState). q.held) (ring_there r has on)
      ∙ held_stays k.config (size_of k.config r) (ring_now k s rule r) (own e.who rule.log) e.who e.call r legal.role on other)
      (λ (off : is_on r e.call ≡ false). ap (λ (q : RingState). q.held) (ring_else r has off))
      (cases_Bool (is_on r e.call))

  module _ (rc : Ring) (there : HasRing k.config rc) (on_is : (r : Ring) → is_on r e.call ≡ is_ring r rc) where
    pub on_here : is_on rc e.call ≡ true
    on_here = on_is rc ∙ is_ring-self rc

    pub ring_here : ring_at k.config later rc ≡ ring_after (size_of k.config rc) (ring_now k s rule rc) e.call
    ring_here = ring_there rc there on_here

    same_here : (r : Ring) → is_on r e.call ≡ true → r ≡ rc
    same_here r on = is_ring-true r rc (sym (on_is r) ∙ on)

    pub adds : (words' : List ℕ) (fl' : Flight)
        → e.reply ≡ reply_at k.config (now k s rule) e.call
        → length words' ≡ length s.words
        → ((r : Ring) → HasRing k.config r → is_ring r rc ≡ false → SameWords k.config s.words words' r)
        → ((m : Mark) → HasMark k.config m → at k.config words' (mark m) ≡ at k.config s.words (mark m))
        → ((m : Mark) → mark_at k.config (after k.config (now k s rule) e.who e.call) m ≡ mark_at k.config (now k s rule) m)
        → ((r : Ring) → HasRing k.config r → is_ring r rc ≡ false → written r fl' ≡ written r (flight_of k s rule e.who))
        → RingHolds k words' rc (ring_after (size_of k.config rc) (ring_now k s rule rc) e.call) (given k rc rule.log + length (submitted e.call)) (released k rc rule.log + own_words.released e.call)
        (written rc (get_or (set rule.flights e.who fl') (rings.producer k.config rc) idle))
        → IsInFlight k later (own e.who (rule.log ++ e ∷ [])) e.who fl'
        → AllHome s.homes (ring_after (size_of k.config rc) (ring_now k s rule rc) e.call).out
        → AllHome s.homes (lying fl')
        → ((n : ℕ) → times n (numbers (ring_after (size_of k.config rc) (ring_now k s rule rc) e.call).out) ≡ 0 → times n (numbers (aloft fl')) ≡ 0
        → (times n (numbers (ring_now k s rule rc).out) ≡ 0) × (times n (numbers (aloft (flight_of k s rule e.who))) ≡ 0))
        → Change k s rule e.who (λ r. is_on r e.call) words' s.homes (rule.log ++ e ∷ []) fl'
    adds words' fl' reply words_len words_same marks_same marks_stay written_same ok mine outs lie moved =
        let c = k.config in
        let log' = rule.log ++ e ∷ [] in
        record {
          caller = legal.caller;
          legal = one_more c k.frames rule.log e rule.legal legal reply;
          grows = (e ∷ [], refl);
          others = λ n off. own-push_other n rule.log e (λ is. off (sym is));
          words_len = words_len;
          homes_len = refl;
          words_same = λ r has off. words_same r has (sym (on_is r) ∙ off);
          rings_same = ring_else;
          counts_same = λ r has off. (
            ap (λ n. opened k r + n) (part_of_own-push_other given_step r 0 (rings.producer c r) rule.log e off),
            part_of_own-push_other released_step r 0 (rings.consumer c r) rule.log e off,
          );
          written_same = λ r has off. written_same r has (sym (on_is r) ∙ off);
          held_same = held_else;
          here = λ r has on.
              let H : Ring → Type 0 = λ q. RingHolds k words' q (ring_at c later q) (given k q log') (released k q log') (written q (get_or (set rule.flights e.who fl') (rings.producer c q) idle)) in
              let P : RingState × ℕ × ℕ → Type 0 = λ t. RingHolds k words' rc t.0 t.1 t.2 (written rc (get_or (set rule.flights e.who fl') (rings.producer c rc) idle)) in
              subst H (sym (same_here r on)) (subst P (λ i. (sym ring_here i, sym (given_there rc on_here) i, sym (released_there rc on_here) i)) ok);
          marks = λ m has. marks_same m has ∙ rule.marks m has ∙ sym (ap (λ t. mark_at c t m) later_is ∙ marks_stay m);
          mine = mine;
          outs = λ r has. ⊎_elim
              (λ (on : is_on r e.call ≡ true). subst (λ (q : Ring). AllHome s.homes (ring_at c later q).out) (sym (same_here r on)) (subst (λ (q : RingState). AllHome s.homes q.out) (sym ring_here) outs))
              (λ (off : is_on r e.call ≡ false). subst (λ (q : RingState). AllHome s.homes q.out) (sym (ring_else r has off)) (rule.outs r has))
              (cases_Bool (is_on r e.call));
          lie_mine = lie;
          lie_else = λ w off. rule.lie w;
          vacant = λ n lt no_ring no_mine no_call.
              let t = moved n (ap (λ (q : RingState). times n (numbers q.out)) (sym ring_here) ∙ no_ring rc there) no_mine in
              rule.vacant n lt
              (λ r has. ⊎_elim
              (λ (on : is_on r e.call ≡ true). ap (λ q. times n (numbers (ring_now k s rule q).out)) (same_here r on) ∙ t.0)
              (λ (off : is_on r e.call ≡ false). ap (λ (q : RingState). times n (numbers q.out)) (sym (ring_else r has off)) ∙ no_ring r has)
              (cases_Bool (is_on r e.call)))
              (λ w. ⊎_elim (λ (is : w ≡ e.who). ap (λ x. times n (numbers (aloft (flight_of k s rule x)))) is ∙ t.1) (λ (off : w ≢ e.who). no_call w off) (cases_eq w e.who));
        }

-- what a call with one more entry tells
extends_now : (k : Basis) (s : State (Option Frame) View) (rule : Rule k s) (id who : ℕ) (call : Call) (v w : View) → get_elem? s.views id ≡ some v → Known k s rule who v
    → IsLegal k.config (own who rule.log) who call → w.seen ≡ rule.log ++ entry who call (reply_at k.config (now k s rule) call) ∷ []
    → w.callers ≡ v.callers → w.others ≡ v.others → w.setup ≡ v.setup → Extends k who call (reply_at k.config (now k s rule) call) v w
extends_now k s rule id who call v w at_id kn legal seen callers others setup =
    let reply = reply_at k.config (now k s rule) call in
    let knows = rule.seats id v at_id in
    record {
      between = knows.seen.0;
      seen = seen ∙ ap (λ l. l ++ entry who call reply ∷ []) knows.seen.1;
      legal = subst (IsHistory k.config k.frames) (sym seen) (one_more k.config k.frames rule.log (entry who call reply) rule.legal legal refl);
      mine = ap (own who) seen ∙ own-push_same who rule.log (entry who call reply) refl ∙ ap (λ l. l ++ told (entry who call reply) ∷ []) kn.mine;
      given = ap (λ l. reply_at k.config (state_after k.config k.frames l) call) knows.seen.1;
      callers = callers;
      others = others;
      setup = setup;
    }

-- the rule after the step, and what the step tells
pub acts : (k : Basis) (s : State (Option Frame) View) (rule : Rule k s) (id who : ℕ) (call : Call) (v : View) (words' : List ℕ) (fl' : Flight)
    → get_elem? s.views id ≡ some v → v.callers ≡ who ∷ [] → v.others ≡ [] → Known k s rule who v → IsLegal k.config (own who rule.log) who call
    → Change k s rule who (λ r. is_on r call) words' s.homes (rule.log ++ entry who call (reply_at k.config (now k s rule) call) ∷ []) fl'
    → let w : View = record v { seen = rule.log ++ entry who call (reply_at k.config (now k s rule) call) ∷ []; flight = fl' } in
    Rule k (record { words = words'; homes = s.homes; views = set s.views id w }) × Extends k who call (reply_at k.config (now k s rule) call) v w
acts k s rule id who call v words' fl' at_id one nobody kn legal ch =
    let log' = rule.log ++ entry who call (reply_at k.config (now k s rule) call) ∷ [] in
    let w : View = record v { seen = log'; flight = fl' } in
    let knows = rule.seats id v at_id in (
      changed k s rule who id (λ r. is_on r call) words' s.homes log' fl' v w ch at_id one refl refl
          (knows_now log' rule.flights fl' who w one nobody refl kn.below (whole_log log') (longer rule.log log' v.told ch.grows knows.told) refl),
      extends_now k s rule id who call v w at_id kn legal refl refl refl refl,
    )
