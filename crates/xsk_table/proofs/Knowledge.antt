-- What a pass knows of the other side of its rings is there, after each of its calls.
use Rattle.std.proofs.Common.{◌≡◌, ℕ, ◌+◌, ◌-◌, ◌<◌, ◌≤◌, true, false, List, [], ◌∷◌, ◌++◌, length, get_or, set, min, ap, sym, ◌∙◌, arith, subst, ⊎_elim, append_assoc, get_or-set_same, get_or-set_other}
use lib.Seq.{map-set, map-set_same}
use Rattle.std.proofs.lemmas.Bool.{cases_Bool}
use Rattle.std.proofs.lemmas.List.{length-map, get_or-map}
use Rattle.xsk_umem.specs.declared.batch.Item.{Item}
use Rattle.xsk_model.specs.Config.{Config, HasRing}
use Rattle.xsk_model.specs.Rings.{is_ring, place, producer, consumer}
use Rattle.xsk_model.specs.Object.{submitted, taken, reserve_reply}
use Rattle.xsk_model.specs.Entry.{Told, Entry, own}
use Rattle.xsk_model.specs.Own as own_words
use Rattle.xsk_model.specs.Own.{is_on, granted, given_step, released_step, room_step, held_step, given_of, released_of, room_of, held_of}
use Rattle.xsk_model.specs.History.{IsHistory}
use Rattle.xsk_model.specs.Legal.{IsCounted, IsLegal}
use Rattle.xsk_model.specs.declared.call.Ring.{Ring}
use Rattle.xsk_model.specs.declared.call.Call.{Call}
use Rattle.xsk_model.specs.declared.call.Call.TheVariants.{Reserve, Submit, Peek, Release, Swap, Look}
use Rattle.xsk_model.specs.declared.call.Reply.{Reply}
use Rattle.xsk_model.proofs.Places.{is_ring-true, is_ring-self, place_below, places_apart}
use Rattle.xsk_model.proofs.Folds.{part_of-push_same, part_of-push_other}
use Rattle.xsk_model.proofs.Theorems.{parts_by_own, within_size, counts_agree}
use Rattle.xsk_table.specs.View.{Basis, View}
use Rattle.xsk_table.specs.Rule.{opened, given, released, StartsWith}
use Rattle.xsk_table.specs.Known.{free_after, out_after, IsSure, AreSure}
use Rattle.xsk_table.specs.Plays.{Extends, HasRoom, HasItems, ask_for, items_reply, entry}
use Rattle.xsk_table.specs.Held.{EndsHold, known_in}
use Rattle.xsk_table.specs.declared.end.End.{End}
use Rattle.xsk_table.proofs.Growing.{given_grows, released_grows}

-- ---- one ring

-- what a legal history leaves on a ring is there
pub sure_now : (k : Basis) (who : ℕ) (seen : List Entry) (r : Ring) (n : ℕ) → IsHistory k.config k.frames seen → HasRing k.config r
    → (who ≡ producer k.config r → n ≤ free_after k seen r) → (who ≡ consumer k.config r → n ≤ out_after k seen r) → IsSure k who seen r n
sure_now k who seen r n history has few_free few_out =
    let parts = parts_by_own k.config k.frames seen r history has in
    let within = within_size k.config k.frames seen r history has in
    let counts = counts_agree k.config k.frames seen r history has in
    record {
      fills = λ is. let few = few_free is in let room = parts.0 ∙ ap (λ w. room_of r (own w seen)) (sym is) in omega arith;
      empties = λ is. let few = few_out is in let held = parts.1 ∙ ap (λ w. held_of r (own w seen)) (sym is) in omega arith;
    }

-- so is what was there before, less what the caller has had since
pub sure_later : (k : Basis) (who : ℕ) (seen seen' : List Entry) (r : Ring) (n n' : ℕ) → StartsWith seen' seen
    → (who ≡ producer k.config r → given_of r (own who seen') + room_of r (own who seen') + n' ≤ given_of r (own who seen) + room_of r (own who seen) + n)
    → (who ≡ consumer k.config r → released_of r (own who seen') + held_of r (own who seen') + n' ≤ released_of r (own who seen) + held_of r (own who seen) + n)
    → IsSure k who seen r n → IsSure k who seen' r n'
sure_later k who seen seen' r n n' grows fill empty sure = record {
  fills = λ is.
      let few = fill is in
      let before = sure.fills is in
      let more = released_grows k r seen' seen grows in
      let now : given k r seen' ≡ opened k r + given_of r (own who seen') = ap (λ w. opened k r + given_of r (own w seen')) (sym is) in
      let then : given k r seen ≡ opened k r + given_of r (own who seen) = ap (λ w. opened k r + given_of r (own w seen)) (sym is) in
      omega arith;
  empties = λ is.
      let few = empty is in
      let before = sure.empties is in
      let more = given_grows k r seen' seen grows in
      let now : released k r seen' ≡ released_of r (own who seen') = ap (λ w. released_of r (own w seen')) (sym is) in
      let then : released k r seen ≡ released_of r (own who seen) = ap (λ w. released_of r (own w seen)) (sym is) in
      omega arith;
}

-- ---- a call

few_on : (c : Config) (mine : List Told) (call : Call) (r : Ring) → IsCounted c mine call → is_on r call ≡ true → (length (submitted call) ≤ room_of r mine) × (own_words.released call ≤ held_of r mine)
few_on c mine (Reserve s n) r counted on = (omega arith, omega arith)
few_on c mine (Submit s items) r counted on = (subst (λ (q : Ring). length items ≤ room_of q mine) (sym (is_ring-true r s on)) counted.2, omega arith)
few_on c mine (Peek s n) r counted on = (omega arith, omega arith)
few_on c mine (Release s n) r counted on = (omega arith, subst (λ (q : Ring). n ≤ held_of q mine) (sym (is_ring-true r s on)) counted.2)
few_on c mine (Swap m value) r counted on = absurd (cc)
few_on c mine (Look m) r counted on = absurd (cc)

module _ (k : Basis) (who : ℕ) (call : Call) (reply : Reply) (v w : View) (ex : Extends k who call reply v w) where
  pub starts : StartsWith w.seen v.seen
  starts = (ex.between ++ entry who call reply ∷ [], ex.seen ∙ append_assoc v.seen ex.between (entry who call reply ∷ []))

  -- a ring after a call on it
  pub sure_on : (r : Ring) (n n' : ℕ) → IsLegal k.config (own who v.seen) who call → is_on r call ≡ true
      → (who ≡ producer k.config r → n' + granted call reply ≤ n) → (who ≡ consumer k.config r → n' + length (taken reply) ≤ n) → IsSure k who v.seen r n → IsSure k who w.seen r n'
  sure_on r n n' legal on fill empty sure =
      let mine = own who v.seen in
      let t : Told = record { call = call; reply = reply } in
      let few = few_on k.config mine call r legal.counted on in
      let few_given = few.0 in
      let few_gone = few.1 in
      let a = ap (given_of r) ex.mine ∙ part_of-push_same given_step r 0 mine t on in
      let b = ap (room_of r) ex.mine ∙ part_of-push_same room_step r 0 mine t on in
      let d = ap (released_of r) ex.mine ∙ part_of-push_same released_step r 0 mine t on in
      let h = ap (held_of r) ex.mine ∙ part_of-push_same held_step r 0 mine t on in
      sure_later k who v.seen w.seen r n n' starts (λ is. let f = fill is in omega arith) (λ is. let f = empty is in omega arith) sure

  -- another ring
  pub sure_else : (r : Ring) (n : ℕ) → is_on r call ≡ false → IsSure k who v.seen r n → IsSure k who w.seen r n
  sure_else r n off sure =
      let mine = own who v.seen in
      let t : Told = record { call = call; reply = reply } in
      let a = ap (given_of r) ex.mine ∙ part_of-push_other given_step r 0 mine t off in
      let b = ap (room_of r) ex.mine ∙ part_of-push_other room_step r 0 mine t off in
      let d = ap (released_of r) ex.mine ∙ part_of-push_other released_step r 0 mine t off in
      let h = ap (held_of r) ex.mine ∙ part_of-push_other held_step r 0 mine t off in
      sure_later k who v.seen w.seen r n n starts (λ is. omega arith) (λ is. omega arith) sure

  -- all rings after a call that gets neither places nor items
  pub sure_kept : (known : List ℕ) → IsLegal k.config (own who v.seen) who call → granted call reply ≡ 0 → taken reply ≡ [] → AreSure k who v.seen known → AreSure k who w.seen known
  sure_kept known legal no_place no_item sure r has =
      let n : ℕ = get_or known (place k.config r) 0 in
      let none : length (taken reply) ≡ 0 = ap (length {A = Item}) no_item in
      ⊎_elim
      (λ (on : is_on r call ≡ true). sure_on r n n legal on (λ is. omega arith) (λ is. omega arith) (sure r has))
      (λ (off : is_on r call ≡ false). sure_else r n off (sure r has))
      (cases_Bool (is_on r call))

  -- and after one that leaves another number on its ring
  pub sure_set : (known : List ℕ) (rc : Ring) (m : ℕ) → HasRing k.config rc → ((r : Ring) → is_on r call ≡ is_ring r rc) → place k.config rc < length known
      → IsSure k who w.seen rc m → AreSure k who v.seen known → AreSure k who w.seen (set known (place k.config rc) m)
  sure_set known rc m there on_is wide now sure r has = ⊎_elim
      (λ (is : is_ring r rc ≡ true). subst (λ (q : Ring). IsSure k who w.seen q (get_or (set known (place k.config rc) m) (place k.config q) 0)) (sym (is_ring-true r rc is))
      (subst (IsSure k who w.seen rc) (sym (get_or-set_same known (place k.config rc) m 0 wide)) now))
      (λ (off : is_ring r rc ≡ false). subst (IsSure k who w.seen r) (sym (get_or-set_other known (place k.config rc) (place k.config r) m 0 (places_apart k.config r rc has there off)))
      (sure_else r (get_or known (place k.config r) 0) (on_is r ∙ off) (sure r has)))
      (cases_Bool (is_ring r rc))

-- after a meet
pub sure_met : (k : Basis) (who : ℕ) (seen seen' : List Entry) (known : List ℕ) → StartsWith seen' seen → own who seen' ≡ own who seen → AreSure k who seen known → AreSure k who seen' known
sure_met k who seen seen' known grows same sure r has =
    sure_later k who seen seen' r _ _ grows
    (λ is. let a = ap (given_of r) same in let b = ap (room_of r) same in omega arith)
    (λ is. let a = ap (released_of r) same in let b = ap (held_of r) same in omega arith)
    (sure r has)

-- ---- what a pass keeps of it

-- a change of an end that leaves what is known
pub known_stays : (ends : List End) (p : ℕ) (e new : End) → e ≡ get_or ends p e → new.known ≡ e.known → known_in (set ends p new) ≡ known_in ends
known_stays ends p e new is same = map-set_same (λ (x : End). x.known) ends p new e (same ∙ ap (λ (x : End). x.known) is)

pub known_set : (ends : List End) (p : ℕ) (new : End) → known_in (set ends p new) ≡ set (known_in ends) p new.known
known_set ends p new = map-set (λ (x : End). x.known) ends p new

pub in_row : (k : Basis) (who : ℕ) (mine : List Told) (ends : List End) (r : Ring) (p : ℕ) → EndsHold k who mine ends → HasRing k.config r → p ≡ place k.config r → p < length ends
in_row k who mine ends r p all has at_place = let lt = place_below k.config r has in let wide = all.wide in omega arith

-- what is known of the ring of an end
pub known_at : (ends : List End) (p q : ℕ) (e : End) → e ≡ get_or ends p e → p < length ends → p ≡ q → e.known ≡ get_or (known_in ends) q 0
known_at ends p q e is wide at_place = ap (λ (x : End). x.known) is ∙ sym (get_or-map (λ (x : End). x.known) ends p e 0 wide) ∙ ap (λ i. get_or (known_in ends) i 0) at_place

-- so a call of no more has what it asks for
pub has_room : (k : Basis) (who : ℕ) (r : Ring) (n known : ℕ) (v : View) → who ≡ producer k.config r → n ≤ known → IsSure k who v.seen r known → HasRoom (ask_for k who r n) v
has_room k who r n known v role few sure =
    let h = sure.fills role in
    let is : given k r v.seen ≡ opened k r + given_of r (own who v.seen) = ap (λ w. opened k r + given_of r (own w v.seen)) (sym role) in
    omega arith

pub has_items : (k : Basis) (who : ℕ) (r : Ring) (n known : ℕ) (v : View) → who ≡ consumer k.config r → n ≤ known → IsSure k who v.seen r known → HasItems (ask_for k who r n) v
has_items k who r n known v role few sure =
    let h = sure.empties role in
    let is : released k r v.seen ≡ released_of r (own who v.seen) = ap (λ w. released_of r (own w v.seen)) (sym role) in
    omega arith

-- what a look leaves: the free places that it found less those that it granted, and the items that it found less those
-- that it took
pub places_left : (k t : Basis) (seen : List Entry) (r : Ring) (n places got : ℕ) (reply : Reply) → t ≡ k → places ≡ free_after k seen r + granted (Reserve r n) (reserve_reply n places) → reply ≡ reserve_reply n places
    → got ≡ granted (Reserve r n) reply → places - got ≡ free_after t seen r
places_left k t seen r n places got reply setup left is got_is =
    let g : ℕ = granted (Reserve r n) (reserve_reply n places) in
    let same : got ≡ g = got_is ∙ ap (granted (Reserve r n)) is in
    let h : ℕ = free_after k seen r in
    let left' : places ≡ h + g = left in
    let less : places - got ≡ h = omega arith in
    less ∙ ap (λ (s : Basis). free_after s seen r) (sym setup)

pub items_left : (k t : Basis) (seen : List Entry) (r : Ring) (n out got : ℕ) → t ≡ k → out ≡ min n out + out_after k seen r → got ≡ min n out → out - got ≡ out_after t seen r
items_left k t seen r n out got setup left is =
    let h : ℕ = out_after k seen r in
    let less : out - got ≡ h = omega arith in
    less ∙ ap (λ (s : Basis). out_after s seen r) (sym setup)

module _ (v w : View) (who : ℕ) (ends : List End) (call : Call) (reply : Reply) (ex : Extends v.setup who call reply v w) (legal : IsLegal v.setup.config (own who v.seen) who call)
    (sure : AreSure v.setup who v.seen (known_in ends)) where
  setup_now : (known : List ℕ) → AreSure v.setup who w.seen known → AreSure w.setup who w.seen known
  setup_now known h = subst (λ (t : Basis). AreSure t who w.seen known) (sym ex.setup) h

  -- a call that gets neither places nor items, and leaves the ends
  pub pass_quiet : granted call reply ≡ 0 → taken reply ≡ [] → AreSure w.setup who w.seen (known_in ends)
  pass_quiet no_place no_item = setup_now (known_in ends) (sure_kept v.setup who call reply v w ex (known_in ends) legal no_place no_item sure)

  -- one that changes an end, but not what is known
  pub pass_kept : (p : ℕ) (e new : End) → granted call reply ≡ 0 → taken reply ≡ [] → e ≡ get_or ends p e → new.known ≡ e.known → AreSure w.setup who w.seen (known_in (set ends p new))
  pass_kept p e new no_place no_item is same = subst (AreSure w.setup who w.seen) (sym (known_stays ends p e new is same)) (pass_quiet no_place no_item)

  module _ (rc : Ring) (p : ℕ) (new : End) (has : HasRing v.setup.config rc) (on_is : (r : Ring) → is_on r call ≡ is_ring r rc) (at_place : p ≡ place v.setup.config rc) (wide : p < length ends) where
    set_on : IsSure v.setup who w.seen rc new.known → AreSure w.setup who w.seen (known_in (set ends p new))
    set_on now =
        let is = known_set ends p new ∙ ap (λ i. set (known_in ends) i new.known) at_place in
        setup_now (known_in (set ends p new)) (subst (AreSure v.setup who w.seen) (sym is) (sure_set v.setup who call reply v w ex (known_in ends) rc new.known has on_is (subst (λ n. n < length (known_in ends)) at_place (omega (arith, length-map ends (λ (x : End). x.known)))) now sure))

    -- a look, after which so much is left
    pub pass_looked : (who ≡ producer v.setup.config rc → new.known ≤ free_after v.setup w.seen rc) → (who ≡ consumer v.setup.config rc → new.known ≤ out_after v.setup w.seen rc)
        → AreSure w.setup who w.seen (known_in (set ends p new))
    pass_looked few_free few_out = set_on (sure_now v.setup who w.seen rc new.known ex.legal has few_free few_out)

    -- a call that is covered, of places or of items
    pub pass_covered : (e : End) (n : ℕ) → e ≡ get_or ends p e → new.known + n ≡ e.known → (who ≡ producer v.setup.config rc → granted call reply ≤ n) → (who ≡ consumer v.setup.config rc → length (taken reply) ≤ n)
        → AreSure w.setup who w.seen (known_in (set ends p new))
    pass_covered e n is less few_places few_items =
        let before = known_at ends p (place v.setup.config rc) e is wide at_place in
        let places : who ≡ producer v.setup.config rc → new.known + granted call reply ≤ get_or (known_in ends) (place v.setup.config rc) 0 = λ r. let few = few_places r in omega arith in
        let items : who ≡ consumer v.setup.config rc → new.known + length (taken reply) ≤ get_or (known_in ends) (place v.setup.config rc) 0 = λ r. let few = few_items r in omega arith in
        set_on (sure_on v.setup who call reply v w ex rc (get_or (known_in ends) (place v.setup.config rc) 0) new.known legal (on_is rc ∙ is_ring-self rc) places items (sure rc has))

pub items_had : (items : List Item) (n : ℕ) → length items ≡ n → length (taken (items_reply items)) ≤ n
items_had [] n len = omega arith
items_had (x ∷ xs) n len = omega arith

pub items_are : (items : List Item) (n : ℕ) → length items ≡ n → length (taken (items_reply items)) ≡ n
items_are [] n len = len
items_are (x ∷ xs) n len = len
