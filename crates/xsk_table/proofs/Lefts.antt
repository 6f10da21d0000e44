-- What a pass knows of the other side of its rings is what its last look found, less what it had since, after each call.
use Rattle.std.proofs.Common.{◌≡◌, ◌≢◌, ℕ, ◌+◌, ◌<◌, true, false, cond, List, [], ◌∷◌, ◌++◌, length, get_or, set, refl, ap, sym, ◌∙◌, arith, subst, ⊎_elim, inl, inr, append_assoc, append-nil, eq-eqb, ne_eqb, get_or-set_same, get_or-set_other}
use Rattle.std.proofs.lemmas.Bool.{cases_Bool}
use Rattle.std.proofs.lemmas.List.{length-map}
use Rattle.xsk_umem.specs.declared.batch.Item.{Item}
use Rattle.xsk_model.specs.Config.{HasRing}
use Rattle.xsk_model.specs.Rings.{is_ring, place, producer}
use Rattle.xsk_model.specs.Object.{taken}
use Rattle.xsk_model.specs.Entry.{Told, Entry, own}
use Rattle.xsk_model.specs.Own.{is_on, granted}
use Rattle.xsk_model.specs.declared.call.Ring.{Ring}
use Rattle.xsk_model.specs.declared.call.Call.{Call}
use Rattle.xsk_model.specs.declared.call.Reply.{Reply}
use Rattle.xsk_model.proofs.Places.{is_ring-true, is_ring-self, places_apart}
use Rattle.xsk_model.proofs.Folds.{part_of-push_same, part_of-push_other}
use Rattle.xsk_table.specs.View.{Basis, View}
use Rattle.xsk_table.specs.Rule.{StartsWith}
use Rattle.xsk_table.specs.Known.{free_after, out_after, got_step, got_of, gets_on, found, IsLeft, AllIsLeft}
use Rattle.xsk_table.specs.Plays.{Extends, entry}
use Rattle.xsk_table.specs.Held.{known_in}
use Rattle.xsk_table.specs.declared.end.End.{End}
use Rattle.xsk_table.proofs.Knowledge.{starts, known_stays, known_set, known_at}

-- ---- what a look finds

nothing_snoc : (before : List Entry) (e : Entry) → [] ≡ before ++ e ∷ [] → ⊥
nothing_snoc [] e is = cc
nothing_snoc (x ∷ before) e is = cc

module _ (k : Basis) (who : ℕ) (r : Ring) (before : List Entry) (e : Entry) where
  pub found_free : (seen : List Entry) → seen ≡ before ++ e ∷ [] → who ≡ producer k.config r → found k who r seen ≡ free_after k seen r
  found_free [] is role = absurd (nothing_snoc before e is)
  found_free (x ∷ xs) is role = ap (λ b. cond b (free_after k (x ∷ xs) r) (out_after k (x ∷ xs) r)) (eq-eqb who (producer k.config r) role)

  pub found_out : (seen : List Entry) → seen ≡ before ++ e ∷ [] → who ≢ producer k.config r → found k who r seen ≡ out_after k seen r
  found_out [] is other = absurd (nothing_snoc before e is)
  found_out (x ∷ xs) is other = ap (λ b. cond b (free_after k (x ∷ xs) r) (out_after k (x ∷ xs) r)) (ne_eqb who (producer k.config r) other)

-- ---- one ring

-- what the caller had since is taken off
pub left_later : (k : Basis) (who : ℕ) (seen seen' : List Entry) (r : Ring) (n n' : ℕ) → StartsWith seen' seen → n' + got_of r (own who seen') ≡ n + got_of r (own who seen) → IsLeft k who seen r n → IsLeft k who seen' r n'
left_later k who seen seen' r n n' grows same l = record {
  upto = l.upto;
  later = l.later ++ grows.0;
  split = grows.1 ∙ ap (λ (es : List Entry). es ++ grows.0) l.split ∙ append_assoc l.upto l.later grows.0;
  looked = l.looked;
  left = same ∙ l.left;
}

module _ (k : Basis) (who : ℕ) (call : Call) (reply : Reply) (v w : View) (ex : Extends k who call reply v w) where
  -- a ring after a call on it
  left_on : (r : Ring) (n n' : ℕ) → is_on r call ≡ true → n' + (granted call reply + length (taken reply)) ≡ n → IsLeft k who v.seen r n → IsLeft k who w.seen r n'
  left_on r n n' on less l =
      let t : Told = record { call = call; reply = reply } in
      let mine = own who v.seen in
      let got : got_of r (own who w.seen) ≡ got_of r mine + (granted call reply + length (taken reply)) = ap (got_of r) ex.mine ∙ part_of-push_same got_step r 0 mine t on in
      left_later k who v.seen w.seen r n n' (starts k who call reply v w ex) (omega arith) l

  -- another ring
  left_else : (r : Ring) (n : ℕ) → is_on r call ≡ false → IsLeft k who v.seen r n → IsLeft k who w.seen r n
  left_else r n off l =
      let t : Told = record { call = call; reply = reply } in
      let mine = own who v.seen in
      let got : got_of r (own who w.seen) ≡ got_of r mine = ap (got_of r) ex.mine ∙ part_of-push_other got_step r 0 mine t off in
      left_later k who v.seen w.seen r n n (starts k who call reply v w ex) (omega arith) l

  -- a ring after a look
  left_now : (r : Ring) (n : ℕ) → gets_on r call ≡ true → n ≡ found k who r w.seen → IsLeft k who w.seen r n
  left_now r n gets is = record {
    upto = w.seen;
    later = [];
    split = sym (append-nil w.seen);
    looked = inr (v.seen ++ ex.between, entry who call reply, ex.seen, refl, gets);
    left = ap (λ (m : ℕ). m + got_of r (own who w.seen)) is;
  }

  -- all rings after a call that gets neither places nor items
  all_kept : (known : List ℕ) → granted call reply ≡ 0 → taken reply ≡ [] → AllIsLeft k who v.seen known → AllIsLeft k who w.seen known
  all_kept known no_place no_item left r has =
      let n : ℕ = get_or known (place k.config r) 0 in
      let none : length (taken reply) ≡ 0 = ap (length {A = Item}) no_item in
      ⊎_elim
      (λ (on : is_on r call ≡ true). left_on r n n on (omega arith) (left r has))
      (λ (off : is_on r call ≡ false). left_else r n off (left r has))
      (cases_Bool (is_on r call))

  -- and after one that leaves another number on its ring
  all_set : (known : List ℕ) (rc : Ring) (m : ℕ) → HasRing k.config rc → ((r : Ring) → is_on r call ≡ is_ring r rc) → place k.config rc < length known
      → IsLeft k who w.seen rc m → AllIsLeft k who v.seen known → AllIsLeft k who w.seen (set known (place k.config rc) m)
  all_set known rc m there on_is wide now left r has = ⊎_elim
      (λ (is : is_ring r rc ≡ true). subst (λ (q : Ring). IsLeft k who w.seen q (get_or (set known (place k.config rc) m) (place k.config q) 0)) (sym (is_ring-true r rc is))
      (subst (IsLeft k who w.seen rc) (sym (get_or-set_same known (place k.config rc) m 0 wide)) now))
      (λ (off : is_ring r rc ≡ false). subst (IsLeft k who w.seen r) (sym (get_or-set_other known (place k.config rc) (place k.config r) m 0 (places_apart k.config r rc has there off)))
      (left_else r (get_or known (place k.config r) 0) (on_is r ∙ off) (left r has)))
      (cases_Bool (is_ring r rc))

-- after a meet
pub left_met : (k : Basis) (who : ℕ) (seen seen' : List Entry) (known : List ℕ) → StartsWith seen' seen → own who seen' ≡ own who seen → AllIsLeft k who seen known → AllIsLeft k who seen' known
left_met k who seen seen' known grows same left r has =
    left_later k who seen seen' r _ _ grows (ap (λ (l : List Told). get_or known (place k.config r) 0 + got_of r l) same) (left r has)

-- before the first call
pub left_new : (k : Basis) (who : ℕ) (r : Ring) (n : ℕ) → n ≡ 0 → IsLeft k who [] r n
left_new k who r n none = record { upto = []; later = []; split = refl; looked = inl refl; left = ap (λ (m : ℕ). m + got_of r []) none }

-- ---- what a pass keeps of it

module _ (v w : View) (who : ℕ) (ends : List End) (call : Call) (reply : Reply) (ex : Extends v.setup who call reply v w) (left : AllIsLeft v.setup who v.seen (known_in ends)) where
  setup_now : (known : List ℕ) → AllIsLeft v.setup who w.seen known → AllIsLeft w.setup who w.seen known
  setup_now known h = subst (λ (t : Basis). AllIsLeft t who w.seen known) (sym ex.setup) h

  -- a call that gets neither places nor items, and leaves the ends
  pub left_quiet : granted call reply ≡ 0 → taken reply ≡ [] → AllIsLeft w.setup who w.seen (known_in ends)
  left_quiet no_place no_item = setup_now (known_in ends) (all_kept v.setup who call reply v w ex (known_in ends) no_place no_item left)

  -- one that changes an end, but not what is known
  pub left_kept : (p : ℕ) (e new : End) → granted call reply ≡ 0 → taken reply ≡ [] → e ≡ get_or ends p e → new.known ≡ e.known → AllIsLeft w.setup who w.seen (known_in (set ends p new))
  left_kept p e new no_place no_item is same = subst (AllIsLeft w.setup who w.seen) (sym (known_stays ends p e new is same)) (left_quiet no_place no_item)

  module _ (rc : Ring) (p : ℕ) (new : End) (has : HasRing v.setup.config rc) (on_is : (r : Ring) → is_on r call ≡ is_ring r rc) (at_place : p ≡ place v.setup.config rc) (wide : p < length ends) where
    set_on : IsLeft v.setup who w.seen rc new.known → AllIsLeft w.setup who w.seen (known_in (set ends p new))
    set_on now =
        let is = known_set ends p new ∙ ap (λ i. set (known_in ends) i new.known) at_place in
        setup_now (known_in (set ends p new)) (subst (AllIsLeft v.setup who w.seen) (sym is)
        (all_set v.setup who call reply v w ex (known_in ends) rc new.known has on_is (subst (λ n. n < length (known_in ends)) at_place (omega (arith, length-map ends (λ (x : End). x.known)))) now left))

    -- a look
    pub left_looked : gets_on rc call ≡ true → new.known ≡ found v.setup who rc w.seen → AllIsLeft w.setup who w.seen (known_in (set ends p new))
    left_looked gets is = set_on (left_now v.setup who call reply v w ex rc new.known gets is)

    -- a call that is covered
    pub left_covered : (e : End) (n : ℕ) → e ≡ get_or ends p e → new.known + n ≡ e.known → granted call reply + length (taken reply) ≡ n → AllIsLeft w.setup who w.seen (known_in (set ends p new))
    left_covered e n is less got =
        let before = known_at ends p (place v.setup.config rc) e is wide at_place in
        let rest : new.known + (granted call reply + length (taken reply)) ≡ get_or (known_in ends) (place v.setup.config rc) 0 = omega arith in
        set_on (left_on v.setup who call reply v w ex rc (get_or (known_in ends) (place v.setup.config rc) 0) new.known (on_is rc ∙ is_ring-self rc) rest (left rc has))
