-- What a pass keeps, after its calls.
use Rattle.std.proofs.Common.{◌≡◌, ℕ, ◌+◌, ◌-◌, ◌%◌, ◌^◌, ◌<◌, ◌≤◌, suc, zero, true, false, List, [], ◌∷◌, length, get_or, set, refl, ap, ap₂, sym, ◌∙◌, arith, subst, ⊎_elim, Option, get_or-set_same, get_or-set_other}
use Rattle.std.proofs.lemmas.Bool.{cases_Bool}
use Rattle.std.proofs.lemmas.List.{length-set}
use Rattle.xsk_umem.specs.Frame.{Frame}
use Rattle.xsk_umem.specs.declared.batch.Item.{Item}
use Rattle.xsk_model.specs.Config.{IsConfig, HasRing, callers_of}
use Rattle.xsk_model.specs.Rings.{is_ring, place, producer, consumer}
use Rattle.xsk_model.specs.Object.{submitted, taken}
use Rattle.xsk_model.specs.Entry.{Told, own, with_told}
use Rattle.xsk_model.specs.Own.{is_on, granted, released, given_step, released_step, room_step, held_step, given_of, released_of, room_of, held_of}
use Rattle.xsk_model.specs.History.{IsHistory}
use Rattle.xsk_model.specs.Legal.{IsLegal}
use Rattle.xsk_model.specs.declared.call.Ring.{Ring}
use Rattle.xsk_model.specs.declared.call.Call.{Call}
use Rattle.xsk_model.specs.declared.call.Call.TheVariants.{Reserve, Submit, Peek, Release}
use Rattle.xsk_model.specs.declared.call.Reply.{Reply}
use Rattle.xsk_model.specs.declared.call.Reply.TheVariants.{Submitted, Released}
use Rattle.xsk_model.proofs.Places.{is_ring-true, is_ring-self, place_below, places_apart}
use Rattle.xsk_model.proofs.Folds.{part_of-push_same, part_of-push_other}
use Rattle.xsk_model.proofs.Roles.{two_owners}
use Rattle.xsk_table.specs.View.{Basis, Flight, idle, taking, View}
use Rattle.xsk_table.specs.Rule.{wrapped, opened, lying}
use Rattle.xsk_table.specs.Plays.{Extends, still, items_reply}
use Rattle.xsk_table.specs.Held.{AreLeft, EndHolds, EndsHold, PassHolds, no_end}
use Rattle.xsk_table.specs.Layout.{most_ring_words}
use Rattle.xsk_table.specs.declared.end.End.{End}
use Rattle.xsk_table.proofs.Peeking.{lying_still}

more : (k : Basis) (a n : ℕ) → (wrapped k a + n) % 2 ^ 32 ≡ wrapped k (a + n)
more k a n = omega arith

stays : (k : Basis) (a n : ℕ) → n ≡ wrapped k a → n ≡ (n + 0) % 2 ^ 32
stays k a n is = omega (arith, is)

module _ (k : Basis) (who : ℕ) (mine : List Told) (r : Ring) (call : Call) (reply : Reply) where
  abbrev then_told : List Told
  then_told = with_told mine call reply

  -- the counts on another ring
  pub end_else : (e : End) → is_on r call ≡ false → EndHolds k who mine r e → EndHolds k who then_told r e
  end_else e off ok =
      let t : Told = record { call = call; reply = reply } in
      let a = part_of-push_other given_step r 0 mine t off in
      let b = part_of-push_other room_step r 0 mine t off in
      let d = part_of-push_other released_step r 0 mine t off in
      let h = part_of-push_other held_step r 0 mine t off in
      record {
        base_is = ok.base_is;
        base_few = ok.base_few;
        mask_is = ok.mask_is;
        fills = λ is. ((ok.fills is).0 ∙ ap (λ n. wrapped k (opened k r + n)) (sym a), (ok.fills is).1 ∙ ap₂ (λ n m. wrapped k (opened k r + n + m)) (sym a) (sym b));
        empties = λ is. ((ok.empties is).0 ∙ ap (wrapped k) (sym d), (ok.empties is).1 ∙ ap₂ (λ n m. wrapped k (n + m)) (sym d) (sym h));
      }

  -- those on the call's ring
  pub end_on : (e new : End) → is_on r call ≡ true → EndHolds k who mine r e → new.base ≡ e.base → new.mask ≡ e.mask
      → (who ≡ producer k.config r → (new.near ≡ (e.near + length (submitted call)) % 2 ^ 32) × (new.far ≡ (e.far + granted call reply) % 2 ^ 32) × (length (submitted call) ≤ room_of r mine))
      → (who ≡ consumer k.config r → (new.near ≡ (e.near + released call) % 2 ^ 32) × (new.far ≡ (e.far + length (taken reply)) % 2 ^ 32) × (released call ≤ held_of r mine))
      → EndHolds k who then_told r new
  end_on e new on ok base mask fills empties =
      let t : Told = record { call = call; reply = reply } in
      let a = part_of-push_same given_step r 0 mine t on in
      let b = part_of-push_same room_step r 0 mine t on in
      let d = part_of-push_same released_step r 0 mine t on in
      let h = part_of-push_same held_step r 0 mine t on in
      let n : ℕ = length (submitted call) in
      let g : ℕ = granted call reply in
      let given : ℕ = given_of r mine in
      let room : ℕ = room_of r mine in
      let gone : ℕ = released call in
      let came : ℕ = length (taken reply) in
      let back : ℕ = released_of r mine in
      let held : ℕ = held_of r mine in
      record {
        base_is = base ∙ ok.base_is;
        base_few = subst (λ (m : ℕ). m ≤ most_ring_words) (sym base) ok.base_few;
        mask_is = ap (λ m. m + 1) mask ∙ ok.mask_is;
        fills = λ is.
            let f = fills is in
            let le : n ≤ room = f.2 in (
              f.0 ∙ ap (λ x. (x + n) % 2 ^ 32) (ok.fills is).0 ∙ more k (opened k r + given) n ∙ ap (wrapped k) (let z : opened k r + given + n ≡ opened k r + (given + n) = omega arith in z) ∙ ap (λ x. wrapped k (opened k r + x)) (sym a),
              f.1 ∙ ap (λ x. (x + g) % 2 ^ 32) (ok.fills is).1 ∙ more k (opened k r + given + room) g
                  ∙ ap (wrapped k) (let z : opened k r + given + room + g ≡ opened k r + (given + n) + (room + g - n) = omega arith in z) ∙ ap₂ (λ x y. wrapped k (opened k r + x + y)) (sym a) (sym b),
            );
        empties = λ is.
            let f = empties is in
            let le : gone ≤ held = f.2 in (
              f.0 ∙ ap (λ x. (x + gone) % 2 ^ 32) (ok.empties is).0 ∙ more k back gone ∙ ap (wrapped k) (sym d),
              f.1 ∙ ap (λ x. (x + came) % 2 ^ 32) (ok.empties is).1 ∙ more k (back + held) came
                  ∙ ap (wrapped k) (let z : back + held + came ≡ (back + gone) + (held + came - gone) = omega arith in z) ∙ ap₂ (λ x y. wrapped k (x + y)) (sym d) (sym h),
            );
      }

-- all counts after a call on one ring
ends_on : (k : Basis) (who : ℕ) (mine : List Told) (ends : List End) (call : Call) (reply : Reply) (rc : Ring) (new : End) → HasRing k.config rc → ((r : Ring) → is_on r call ≡ is_ring r rc)
    → EndHolds k who (with_told mine call reply) rc new → EndsHold k who mine ends → EndsHold k who (with_told mine call reply) (set ends (place k.config rc) new)
ends_on k who mine ends call reply rc new has on_is ok all =
    let c = k.config in
    let lt = place_below c rc has in
    let wide = all.wide in
    record {
      wide = length-set ends (place c rc) new ∙ all.wide;
      each = λ r there. ⊎_elim
          (λ (is : is_ring r rc ≡ true). subst (λ (x : Ring). EndHolds k who (with_told mine call reply) x (get_or (set ends (place c rc) new) (place c x) no_end)) (sym (is_ring-true r rc is))
          (subst (EndHolds k who (with_told mine call reply) rc) (sym (get_or-set_same ends (place c rc) new no_end (omega arith))) ok))
          (λ (off : is_ring r rc ≡ false). subst (EndHolds k who (with_told mine call reply) r) (sym (get_or-set_other ends (place c rc) (place c r) new no_end (places_apart c r rc there has off)))
          (end_else k who mine r call reply (get_or ends (place c r) no_end) (on_is r ∙ off) (all.each r there)))
          (cases_Bool (is_ring r rc));
    }

-- what is read within the list hangs on no default
any_default : (ends : List End) (i : ℕ) (a b : End) → i < length ends → get_or ends i a ≡ get_or ends i b
any_default [] i a b lt = absurd (omega arith)
any_default (x ∷ xs) zero a b lt = refl
any_default (x ∷ xs) (suc i) a b lt = any_default xs i a b (omega arith)

pub idle_taking : (r : Ring) (items : List Item) → idle ≡ taking r items → ⊥
idle_taking r items e = cc

pub still_taking : (r r' : Ring) (items others : List Item) → still r items ≡ taking r' others → (r ≡ r') × (items ≡ others)
still_taking r r' [] others e = absurd (cc)
still_taking r r' (x ∷ xs) others e = ((cc), (cc))

module _ (v : View) (slots : List (ℕ × Option Frame)) (who : ℕ) (ends : List End) (flying : ℕ) (ok : PassHolds v slots who ends flying) (r : Ring) (p : ℕ) (e : End)
    (has : HasRing v.setup.config r) (at_place : p ≡ place v.setup.config r) (is : e ≡ get_or ends p e) where
  -- what an index of the counts gives
  pub end_holds : EndHolds v.setup who (own who v.seen) r e
  end_holds =
      let lt = place_below v.setup.config r has in
      let wide = ok.ends_hold.wide in
      let same : e ≡ get_or ends (place v.setup.config r) no_end = is ∙ ap (λ i. get_or ends i e) at_place ∙ any_default ends (place v.setup.config r) e no_end (omega arith) in
      subst (EndHolds v.setup who (own who v.seen) r) (sym same) (ok.ends_hold.each r has)

  -- a pass after a call on a ring
  pass_after : (w : View) (slots' : List (ℕ × Option Frame)) (flying' : ℕ) (call : Call) (reply : Reply) (new : End) → Extends v.setup who call reply v w → slots' ≡ slots → ((s : Ring) → is_on s call ≡ is_ring s r)
      → EndHolds v.setup who (with_told (own who v.seen) call reply) r new → flying' ≡ length (lying w.flight)
      → ((s : Ring) (items : List Item) → w.flight ≡ taking s items → AreLeft v.setup.config who (with_told (own who v.seen) call reply) s items)
      → PassHolds w slots' who (set ends p new) flying'
  pass_after w slots' flying' call reply new ex same on_is end flies left =
      let k = v.setup in
      let mine = with_told (own who v.seen) call reply in
      let all = ends_on k who (own who v.seen) ends call reply r new has on_is end ok.ends_hold in
      record {
        one = ex.callers ∙ ok.one;
        alone = ex.others ∙ ok.alone;
        few = subst (λ (t : Basis). who < callers_of t.config) (sym ex.setup) ok.few;
        ends_hold = let P : Basis × List Told × ℕ → Type 0 = λ t. EndsHold t.0 who t.1 (set ends t.2 new) in subst P (λ i. (sym ex.setup i, sym ex.mine i, sym at_place i)) all;
        flying_is = flies;
        slots_are = same ∙ ok.slots_are;
        left = λ s items is_taking. let P : Basis × List Told → Type 0 = λ t. AreLeft t.0.config who t.1 s items in subst P (λ i. (sym ex.setup i, sym ex.mine i)) (left s items is_taking);
        history = subst (λ (t : Basis). IsHistory t.config t.frames w.seen) (sym ex.setup) ex.legal;
      }

  config : IsConfig v.setup.config
  config = ok.history.opened.config

  pub pass_reserved : (w : View) (slots' : List (ℕ × Option Frame)) (n g f : ℕ) (reply : Reply) → IsLegal v.setup.config (own who v.seen) who (Reserve r n) → Extends v.setup who (Reserve r n) reply v w
      → slots' ≡ slots → v.flight ≡ idle → w.flight ≡ idle → g ≡ granted (Reserve r n) reply
      → PassHolds w slots' who (set ends p (record { near = e.near; far = (e.far + g) % 2 ^ 32; base = e.base; mask = e.mask; known = f })) flying
  pass_reserved w slots' n g f reply legal ex same rests now_idle got =
      let k = v.setup in
      let mine = own who v.seen in
      let new : End = record { near = e.near; far = (e.far + g) % 2 ^ 32; base = e.base; mask = e.mask; known = f } in
      pass_after w slots' flying (Reserve r n) reply new ex same (λ s. refl)
      (end_on k who mine r (Reserve r n) reply e new (is_ring-self r) end_holds refl refl
      (λ fills. (stays k (opened k r + given_of r mine) e.near (end_holds.fills fills).0, ap (λ x. (e.far + x) % 2 ^ 32) got, omega arith))
      (λ empties. absurd ((two_owners k.config r config has).2 (sym legal.role ∙ empties))))
      (ok.flying_is ∙ ap (λ (f : Flight). length (lying f)) (rests ∙ sym now_idle))
      (λ s items is_taking. absurd (idle_taking s items (sym now_idle ∙ is_taking)))

  pub pass_raised : (w : View) (slots' : List (ℕ × Option Frame)) → IsLegal v.setup.config (own who v.seen) who (Submit r (lying v.flight)) → Extends v.setup who (Submit r (lying v.flight)) Submitted v w
      → slots' ≡ slots → w.flight ≡ idle
      → PassHolds w slots' who (set ends p (record { near = (e.near + flying) % 2 ^ 32; far = e.far; base = e.base; mask = e.mask; known = e.known })) 0
  pass_raised w slots' legal ex same now_idle =
      let k = v.setup in
      let mine = own who v.seen in
      let items = lying v.flight in
      let new : End = record { near = (e.near + flying) % 2 ^ 32; far = e.far; base = e.base; mask = e.mask; known = e.known } in
      pass_after w slots' 0 (Submit r items) Submitted new ex same (λ s. refl)
      (end_on k who mine r (Submit r items) Submitted e new (is_ring-self r) end_holds refl refl
      (λ fills. (ap (λ x. (e.near + x) % 2 ^ 32) ok.flying_is, stays k (opened k r + given_of r mine + room_of r mine) e.far (end_holds.fills fills).1, legal.counted.2))
      (λ empties. absurd ((two_owners k.config r config has).2 (sym legal.role ∙ empties))))
      (ap (λ (f : Flight). length (lying f)) (sym now_idle))
      (λ s others is_taking. absurd (idle_taking s others (sym now_idle ∙ is_taking)))

  reply_items : (items : List Item) → taken (items_reply items) ≡ items
  reply_items [] = refl
  reply_items (x ∷ xs) = refl

  pub pass_peeked : (w : View) (slots' : List (ℕ × Option Frame)) (n m f : ℕ) (items : List Item) → IsLegal v.setup.config (own who v.seen) who (Peek r n) → Extends v.setup who (Peek r n) (items_reply items) v w
      → slots' ≡ slots → w.flight ≡ still r items → length items ≡ m
      → PassHolds w slots' who (set ends p (record { near = e.near; far = (e.far + m) % 2 ^ 32; base = e.base; mask = e.mask; known = f })) m
  pass_peeked w slots' n m f items legal ex same flies len =
      let k = v.setup in
      let mine = own who v.seen in
      let new : End = record { near = e.near; far = (e.far + m) % 2 ^ 32; base = e.base; mask = e.mask; known = f } in
      let came : length (taken (items_reply items)) ≡ m = ap (length {A = Item}) (reply_items items) ∙ len in
      pass_after w slots' m (Peek r n) (items_reply items) new ex same (λ s. refl)
      (end_on k who mine r (Peek r n) (items_reply items) e new (is_ring-self r) end_holds refl refl
      (λ fills. absurd ((two_owners k.config r config has).2 (sym fills ∙ legal.role)))
      (λ empties. (stays k (released_of r mine) e.near (end_holds.empties empties).0, ap (λ x. (e.far + x) % 2 ^ 32) (sym came), omega arith)))
      (sym len ∙ ap (length {A = Item}) (sym (ap lying flies ∙ lying_still r items)))
      (λ s others is_taking.
      let t = still_taking r s items others (sym flies ∙ is_taking) in
      let h = part_of-push_same held_step r 0 mine (record { call = Peek r n; reply = items_reply items }) (is_ring-self r) in
      subst (λ (y : Ring). AreLeft k.config who (with_told mine (Peek r n) (items_reply items)) y others) t.0 (has, legal.role, omega (arith, h, came, len, ap (length {A = Item}) t.1)))

  pub pass_released : (w : View) (slots' : List (ℕ × Option Frame)) (n : ℕ) → IsLegal v.setup.config (own who v.seen) who (Release r n) → Extends v.setup who (Release r n) Released v w
      → slots' ≡ slots → v.flight ≡ idle → w.flight ≡ idle
      → PassHolds w slots' who (set ends p (record { near = (e.near + n) % 2 ^ 32; far = e.far; base = e.base; mask = e.mask; known = e.known })) flying
  pass_released w slots' n legal ex same rests now_idle =
      let k = v.setup in
      let mine = own who v.seen in
      let new : End = record { near = (e.near + n) % 2 ^ 32; far = e.far; base = e.base; mask = e.mask; known = e.known } in
      pass_after w slots' flying (Release r n) Released new ex same (λ s. refl)
      (end_on k who mine r (Release r n) Released e new (is_ring-self r) end_holds refl refl
      (λ fills. absurd ((two_owners k.config r config has).2 (sym fills ∙ legal.role)))
      (λ empties. (refl, stays k (released_of r mine + held_of r mine) e.far (end_holds.empties empties).1, legal.counted.2)))
      (ok.flying_is ∙ ap (λ (f : Flight). length (lying f)) (rests ∙ sym now_idle))
      (λ s items is_taking. absurd (idle_taking s items (sym now_idle ∙ is_taking)))
