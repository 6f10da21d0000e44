-- The end of a table: one seat of all callers has seen the whole history, and what lies in the slots is what is out.
use Rattle.std.proofs.Common.{◌≡◌, ℕ, ◌+◌, ◌<◌, ◌≤◌, suc, zero, List, [], ◌∷◌, ◌++◌, length, take, get_or, flat_map, cond, eq-eqb, refl, ap, sym, ◌∙◌, arith, subst, ◌⊎◌, inl, inr, ⊎_elim, append-nil, Option, Some, None, All, AllPairs, Contains}
use Rattle.std.specs.Prelude.{IsSome}
use Rattle.std.specs.List.{range_with_len}
use mathlib.Core.Option.{some, some-injective, some-ne-none}
use lib.ListN.{get_elem?}
use Rattle.std.proofs.lemmas.Bool.{cases_lt}
use Rattle.std.proofs.lemmas.List.{take_more}
use Rattle.std.proofs.lemmas.Grind.{flat_map-append}
use Rattle.atomic_table.specs.Table.{State, Final, Seen}
use Rattle.xsk_umem.specs.Frame.{Frame}
use Rattle.xsk_umem.specs.declared.batch.Item.{Item}
use Rattle.xsk_model.specs.Config.{Config, HasRing, callers_of, socket_at}
use Rattle.xsk_model.specs.Numbers.{times, numbers, number_of}
use Rattle.xsk_model.specs.Object as object
use Rattle.xsk_model.specs.Object.{ring_at}
use Rattle.xsk_model.specs.Entry.{Told, Entry, own, told}
use Rattle.xsk_model.specs.Opening.{opening}
use Rattle.xsk_model.specs.History.{GoesOn, IsHistory, state_after, after_all}
use Rattle.xsk_model.specs.declared.call.Ring.{Ring}
use Rattle.xsk_model.specs.declared.call.Ring.TheVariants.{Fill, Comp, Rx, Tx}
use Rattle.xsk_model.proofs.Counting.{times-append, range-push, times-range_within}
use Rattle.xsk_model.proofs.Folds.{own-append}
use Rattle.xsk_model.proofs.Histories.{goes_rest}
use Rattle.xsk_table.specs.View.{Basis, Flight, idle, View, told_of}
use Rattle.xsk_table.specs.Rule.{StartsWith, aloft, Homes, IsHome, AllHome, Rule}
use Rattle.xsk_table.specs.Plays.{Seated}
use Rattle.xsk_table.specs.Held.{Board, Holder}
use Rattle.xsk_table.specs.Meeting.{Met}
use Rattle.xsk_table.specs.Opening.{list_of}
use Rattle.xsk_table.specs.Closing.{EndsIn, IsOut, AreFramesOut, Joined, IsThere, AllThere, Rests}
use Rattle.xsk_table.proofs.Seating.{sole, sole_counts, longer}
use Rattle.xsk_table.proofs.Knowing.{whole_log}

-- ---- lists

pub at_some : {X : Type 0} (xs : List (Option X)) (w : ℕ) (x : X) → get_or xs w None ≡ Some x → get_elem? xs w ≡ some (Some x)
at_some [] w x e = absurd (cc)
at_some (y ∷ xs) zero x e = ap some e
at_some (y ∷ xs) (suc w) x e = at_some xs w x e

pub at_or : {X : Type 0} (xs : List X) (w : ℕ) (x d : X) → get_elem? xs w ≡ some x → get_or xs w d ≡ x
at_or [] w x d e = absurd (some-ne-none x (sym e))
at_or (y ∷ xs) zero x d e = some-injective y x e
at_or (y ∷ xs) (suc w) x d e = at_or xs w x d e

at_below : {X : Type 0} (xs : List X) (w : ℕ) (x : X) → get_elem? xs w ≡ some x → w < length xs
at_below [] w x e = absurd (some-ne-none x (sym e))
at_below (y ∷ xs) zero x e = omega arith
at_below (y ∷ xs) (suc w) x e = let lt = at_below xs w x e in omega arith

past_end : {X : Type 0} (xs : List X) (w : ℕ) (d : X) → length xs ≤ w → get_or xs w d ≡ d
past_end [] w d le = refl
past_end (x ∷ xs) zero d le = absurd (omega arith)
past_end (x ∷ xs) (suc w) d le = past_end xs w d (omega arith)

-- ---- the whole history

nothing_more : (xs ys : List Told) → xs ≡ xs ++ ys → ys ≡ []
nothing_more [] ys e = sym e
nothing_more (x ∷ xs) ys e = nothing_more xs ys (cc)

-- the entries of a history are those of its callers
only_callers : (c : Config) (s : object.State) (past h : List Entry) → GoesOn c s past h → ((w : ℕ) → w < callers_of c → own w h ≡ []) → h ≡ []
only_callers c s past [] go nobody = refl
only_callers c s past (e ∷ h) go nobody =
    let some_one : own e.who (e ∷ h) ≡ told e ∷ own e.who h = ap (λ b. cond b (told e ∷ own e.who h) (own e.who h)) (eq-eqb e.who e.who refl) in
    let it = nobody e.who go.0.caller in absurd (cc)

-- a seat of all callers has seen the whole history
longest : (k : Basis) (s : State (Option Frame) View) (rule : Rule k s) (id : ℕ) (v : View) → get_elem? s.views id ≡ some v → ((w : ℕ) → w < callers_of k.config → 0 < times w v.callers) → v.seen ≡ rule.log
longest k s rule id v at every =
    let knows = rule.seats id v at in
    let more = knows.seen.0 in
    let go = goes_rest k.config (opening k.config k.frames) [] v.seen more (subst (GoesOn k.config (opening k.config k.frames) []) knows.seen.1 rule.legal.legal) in
    let none_left = only_callers k.config (after_all k.config (opening k.config k.frames) v.seen) ([] ++ v.seen) more go
    (λ w lt. nothing_more (own w v.seen) (own w more) (sym (knows.mine w (every w lt)).0 ∙ ap (own w) knows.seen.1 ∙ own-append w v.seen more)) in
    sym (knows.seen.1 ∙ ap (λ l. v.seen ++ l) none_left ∙ append-nil v.seen)

-- ---- seats that are put together

pub joined_first : (passes : List (Option Holder)) (h : Holder) (v : View) → get_or passes 0 None ≡ Some h → v ≡ h.view → (h.view.callers ≡ 0 ∷ []) × (h.view.others ≡ []) × (h.view.flight ≡ idle) → Joined passes 1 v
joined_first passes h v at is ok =
    let same : (w : ℕ) (g : Holder) → w < 1 → get_or passes w None ≡ Some g → h ≡ g = λ w g lt e. let zero_is : w ≡ 0 = omega arith in
    let there : get_or passes 0 None ≡ Some g = subst (λ (n : ℕ). get_or passes n None ≡ Some g) zero_is e in cc in
    subst (Joined passes 1) (sym is) record {
      callers = ok.0;
      alone = ok.1;
      rests = ok.2;
      fronts = λ w g lt e. subst (λ (x : Holder). StartsWith h.view.seen x.view.seen) (same w g lt e) (whole_log h.view.seen);
      of_each = λ w g lt e. ap (λ (x : Holder). own w x.view.seen) (same w g lt e);
    }

in_range : (w n : ℕ) → w < n → 0 < times w (range_with_len 0 n)
in_range w n lt = omega (arith, times-range_within w 0 n (omega arith) (omega arith))

pub joined_more : (k : Basis) (passes : List (Option Holder)) (who : ℕ) (h : Holder) (v : View) (slots : List (ℕ × Option Frame)) (m : Seated) → Joined passes who v → get_or passes who None ≡ Some h
    → h.view.callers ≡ who ∷ [] → Met k (told_of v h.view, slots) m → Joined passes (who + 1) m.0
joined_more k passes who h v slots m all at one did =
    let same : (w : ℕ) (g : Holder) → w ≡ who → get_or passes w None ≡ Some g → h ≡ g = λ w g is e.
    let there : get_or passes who None ≡ Some g = subst (λ (n : ℕ). get_or passes n None ≡ Some g) is e in cc in
    let mine : (w : ℕ) → w < who → 0 < times w v.callers = λ w lt. subst (λ (l : List ℕ). 0 < times w l) (sym all.callers) (in_range w who lt) in
    let its : (w : ℕ) → w ≡ who → 0 < times w h.view.callers = λ w is. subst (λ (l : List ℕ). 0 < times w l) (sym one) (subst (λ (n : ℕ). 0 < times n (who ∷ [])) (sym is) (sole_counts who)) in
    record {
      callers = ap (λ (x : View). x.callers) did.view ∙ (λ i. all.callers i ++ one i) ∙ sym (ap (range_with_len 0) (let z : who + 1 ≡ suc who = omega arith in z) ∙ range-push 0 who ∙ ap (λ n. range_with_len 0 who ++ n ∷ []) (let z : 0 + who ≡ who = omega arith in z));
      alone = ap (λ (x : View). x.others) did.view;
      rests = ap (λ (x : View). x.flight) did.view ∙ all.rests;
      fronts = λ w g lt e. ⊎_elim
          (λ (l : w < who). longer v.seen m.0.seen g.view.seen did.seen (all.fronts w g l e))
          (λ (l : who ≤ w). subst (λ (x : Holder). StartsWith m.0.seen x.view.seen) (same w g (omega arith) e) did.told)
          (cases_lt w who);
      of_each = λ w g lt e. ⊎_elim
          (λ (l : w < who). did.mine w (mine w l) ∙ all.of_each w g l e)
          (λ (l : who ≤ w). did.others w (its w (omega arith)) ∙ ap (λ (x : Holder). own w x.view.seen) (same w g (omega arith) e))
          (cases_lt w who);
    }

pub every_caller : (passes : List (Option Holder)) (n : ℕ) (v : View) → Joined passes n v → (w : ℕ) → w < n → 0 < times w v.callers
every_caller passes n v all w lt = subst (λ (l : List ℕ). 0 < times w l) (sym all.callers) (in_range w n lt)

pub ends_in : (b : Board) (passes : List (Option Holder)) (n : ℕ) (v : View) → n ≡ callers_of b.setup.config → Joined passes n v → IsHistory b.setup.config b.setup.frames v.seen → EndsIn b passes v.seen
ends_in b passes n v is all legal = record {
  legal = legal;
  fronts = λ w h lt e. all.fronts w h (omega arith) e;
  of_each = λ w h lt e. all.of_each w h (omega arith) e;
}

-- ---- the slots

module _ (homes : Homes) (xs : List (Option Frame)) (same : (n : ℕ) (y : Option Frame) → get_elem? homes n ≡ some (some y) → get_elem? xs n ≡ some y) where
  is_there : (f : Option Frame) → IsHome homes f → IsThere xs f
  is_there None h = tt
  is_there (Some f) h = same f.number (Some f) h

  all_there : (items : List Item) → AllHome homes items → AllThere xs items
  all_there [] h = tt
  all_there (x ∷ items) h = (is_there x.frame h.0, all_there items h.1)

-- where one seat has all callers and none has a call in flight
pub ends : (k : Basis) (id : ℕ) (v : View) (words : List ℕ) (xs : List (Option Frame)) → ((w : ℕ) → w < callers_of k.config → 0 < times w v.callers) → v.flight ≡ idle → Final (Seen (Rule k) id v) words xs
    → Rests k v.seen xs
ends k id v words xs every rests final =
    let s = final.0 in
    let rule = final.1.0 in
    let at = final.1.1 in
    let same = final.4 in
    let knows = rule.seats id v at in
    let resting : (w : ℕ) → get_or rule.flights w idle ≡ idle = λ w. ⊎_elim
    (λ (l : w < callers_of k.config). (knows.mine w (every w l)).1 ∙ rests)
    (λ (l : callers_of k.config ≤ w). past_end rule.flights w idle (let m = rule.flights_len in omega arith))
    (cases_lt w (callers_of k.config)) in
    subst (λ (log : List Entry). Rests k log xs) (sym (longest k s rule id v at every)) record {
      legal = rule.legal;
      count = sym final.3 ∙ rule.homes_len;
      outs = λ r has. all_there s.homes xs same _ (rule.outs r has);
      others = λ n lt no_ring. same n None (rule.vacant n lt no_ring (λ w. ap (λ (f : Flight). times n (numbers (aloft f))) (resting w)));
    }

-- ---- the frames

-- some ring has it, or none has
some_below : (n : ℕ) (f : ℕ → ℕ) → ((i : ℕ) × (i < n) × (0 < f i)) ⊎ ((i : ℕ) → i < n → f i ≡ 0)
some_below zero f = inr (λ i lt. absurd (omega arith))
some_below (suc n) f = ⊎_elim
    (λ (t : (i : ℕ) × (i < n) × (0 < f i)). inl (t.0, (let lt = t.1 in omega arith), t.2))
    (λ (none : (i : ℕ) → i < n → f i ≡ 0). ⊎_elim
    (λ (p : 0 < f n). inl (n, omega arith, p))
    (λ (z : f n ≤ 0). inr (λ i lt. ⊎_elim (λ (l : i < n). none i l) (λ (l : n ≤ i). let is : i ≡ n = omega arith in ap f is ∙ omega arith) (cases_lt i n)))
    (cases_lt 0 (f n)))
    (some_below n f)

abbrev weighs : Option ℕ → ℕ → ℕ
weighs None n = 0
weighs (Some size) n = n

weighs_some : (o : Option ℕ) (n : ℕ) → 0 < weighs o n → IsSome o × (0 < n)
weighs_some None n p = absurd (omega arith)
weighs_some (Some size) n p = (refl, p)

weighs_none : (o : Option ℕ) (n : ℕ) → weighs o n ≡ 0 → IsSome o → n ≡ 0
weighs_none None n z h = absurd (cc)
weighs_none (Some size) n z h = z

none_of : (c : Config) (f : Ring → ℕ) → ((d : ℕ) → d < length c.pairs → f (Fill d) ≡ 0) → ((d : ℕ) → d < length c.pairs → f (Comp d) ≡ 0)
    → ((s : ℕ) → s < length c.sockets → weighs (socket_at c.sockets s).rx (f (Rx s)) ≡ 0) → ((s : ℕ) → s < length c.sockets → weighs (socket_at c.sockets s).tx (f (Tx s)) ≡ 0)
    → (r : Ring) → HasRing c r → f r ≡ 0
none_of c f a b d e (Fill i) h = a i h
none_of c f a b d e (Comp i) h = b i h
none_of c f a b d e (Rx i) h = weighs_none (socket_at c.sockets i).rx (f (Rx i)) (d i h.0) h.1
none_of c f a b d e (Tx i) h = weighs_none (socket_at c.sockets i).tx (f (Tx i)) (e i h.0) h.1

some_ring : (c : Config) (f : Ring → ℕ) → ((r : Ring) × HasRing c r × (0 < f r)) ⊎ ((r : Ring) → HasRing c r → f r ≡ 0)
some_ring c f =
    let Found : Type 0 = (r : Ring) × HasRing c r × (0 < f r) in
    let Goal : Type 0 = Found ⊎ ((r : Ring) → HasRing c r → f r ≡ 0) in
    let rx : ℕ → ℕ = λ s. weighs (socket_at c.sockets s).rx (f (Rx s)) in
    let tx : ℕ → ℕ = λ s. weighs (socket_at c.sockets s).tx (f (Tx s)) in
    let left : Found → Goal = λ t. inl t in
    ⊎_elim
    (λ (t : (d : ℕ) × (d < length c.pairs) × (0 < f (Fill d))). left (Fill t.0, t.1, t.2))
    (λ (no_fill : (d : ℕ) → d < length c.pairs → f (Fill d) ≡ 0). ⊎_elim
    (λ (t : (d : ℕ) × (d < length c.pairs) × (0 < f (Comp d))). left (Comp t.0, t.1, t.2))
    (λ (no_comp : (d : ℕ) → d < length c.pairs → f (Comp d) ≡ 0). ⊎_elim
    (λ (t : (s : ℕ) × (s < length c.sockets) × (0 < rx s)). let h = weighs_some (socket_at c.sockets t.0).rx (f (Rx t.0)) t.2 in left (Rx t.0, (t.1, h.0), h.1))
    (λ (no_rx : (s : ℕ) → s < length c.sockets → rx s ≡ 0). ⊎_elim
    (λ (t : (s : ℕ) × (s < length c.sockets) × (0 < tx s)). let h = weighs_some (socket_at c.sockets t.0).tx (f (Tx t.0)) t.2 in left (Tx t.0, (t.1, h.0), h.1))
    (λ (no_tx : (s : ℕ) → s < length c.sockets → tx s ≡ 0). inr (none_of c f no_fill no_comp no_rx no_tx))
    (some_below (length c.sockets) tx))
    (some_below (length c.sockets) rx))
    (some_below (length c.pairs) (λ d. f (Comp d))))
    (some_below (length c.pairs) (λ d. f (Fill d)))

-- a number that stands among items is that of an item's frame
record Bears (n : ℕ) (items : List Item) : Type 0 where
  item : Item
  frame : Frame
  stands : Contains items item
  frame_is : item.frame ≡ Some frame
  number_is : frame.number ≡ n

one_bears : (n : ℕ) (x : Item) (items : List Item) (o : Option Frame) → x.frame ≡ o → 0 < times n (number_of o) → Bears n (x ∷ items)
one_bears n x items None e p = absurd (omega arith)
one_bears n x items (Some f) e p = record { item = x; frame = f; stands = (0, omega arith, refl); frame_is = e; number_is = sym (sole n f.number p) }

bears : (n : ℕ) (items : List Item) → 0 < times n (numbers items) → Bears n items
bears n [] p = absurd (omega arith)
bears n (x ∷ items) p =
    let h : (0 < times n (number_of x.frame)) ⊎ (0 < times n (numbers items)) = let t = times-append n (number_of x.frame) (numbers items) in grind arith in
    ⊎_elim
    (λ (q : 0 < times n (number_of x.frame)). one_bears n x items x.frame refl q)
    (λ (q : 0 < times n (numbers items)). let t = bears n items q in let s = t.stands in record { item = t.item; frame = t.frame; stands = (suc s.0, (let lt = s.1 in omega arith), s.2); frame_is = t.frame_is; number_is = t.number_is })
    h

there_at : (xs : List (Option Frame)) (items : List Item) (j : ℕ) (x : Item) → j < length items → get_or items j x ≡ x → AllThere xs items → IsThere xs x.frame
there_at xs [] j x lt is all = absurd (omega arith)
there_at xs (y ∷ items) zero x lt is all = subst (λ (z : Item). IsThere xs z.frame) is all.0
there_at xs (y ∷ items) (suc j) x lt is all = there_at xs items j x (omega arith) is all.1

there_by : (xs : List (Option Frame)) (items : List Item) (x : Item) (f : Frame) → Contains items x → x.frame ≡ Some f → AllThere xs items → get_elem? xs f.number ≡ some (Some f)
there_by xs items x f stands is all = subst (IsThere xs) is (there_at xs items stands.0 x stands.1 stands.2 all)

contains_slot : (xs : List (Option Frame)) (n : ℕ) (f : Frame) → get_elem? xs n ≡ some (Some f) → Contains (flat_map list_of xs) f
contains_slot [] n f e = absurd (some-ne-none (Some f) (sym e))
contains_slot (x ∷ xs) zero f e = subst (λ (y : Option Frame). Contains (list_of y ++ flat_map list_of xs) f) (sym (some-injective x (Some f) e)) (0, omega arith, refl)
contains_slot (None ∷ xs) (suc n) f e = contains_slot xs n f e
contains_slot (Some g ∷ xs) (suc n) f e = let t = contains_slot xs n f e in (suc t.0, (let lt = t.1 in omega arith), t.2)

slot_of : (xs : List (Option Frame)) (f : Frame) (j : ℕ) → j < length (flat_map list_of xs) → get_or (flat_map list_of xs) j f ≡ f → (n : ℕ) × (get_elem? xs n ≡ some (Some f))
slot_of [] f j lt is = absurd (omega arith)
slot_of (None ∷ xs) f j lt is = let t = slot_of xs f j lt is in (suc t.0, t.1)
slot_of (Some g ∷ xs) f zero lt is = (0, ap (λ (x : Frame). some (Some x)) is)
slot_of (Some g ∷ xs) f (suc j) lt is = let t = slot_of xs f j (omega arith) is in (suc t.0, t.1)

abbrev IsLess : Frame → Frame → Type 0
IsLess f g = f.number < g.number

rising_cons : (f : Frame) (fs : List Frame) (a : ℕ) → f.number < a → All (λ (g : Frame). a ≤ g.number) fs → AllPairs IsLess fs → AllPairs IsLess (f ∷ fs)
rising_cons f fs a lt all rise zero zero d i_j below = absurd (omega arith)
rising_cons f fs a lt all rise zero (suc j) d i_j below = let le = all j d (omega arith) in omega arith
rising_cons f fs a lt all rise (suc i) zero d i_j below = absurd (omega arith)
rising_cons f fs a lt all rise (suc i) (suc j) d i_j below = rise i j d (omega arith) (omega arith)

least_cons : (f : Frame) (fs : List Frame) (a : ℕ) → a ≤ f.number → All (λ (g : Frame). a + 1 ≤ g.number) fs → All (λ (g : Frame). a ≤ g.number) (f ∷ fs)
least_cons f fs a le all zero d lt = le
least_cons f fs a le all (suc j) d lt = let h = all j d (omega arith) in omega arith

rises : (xs : List (Option Frame)) (a : ℕ) → ((n : ℕ) (f : Frame) → get_elem? xs n ≡ some (Some f) → f.number ≡ a + n) → AllPairs IsLess (flat_map list_of xs) × All (λ (g : Frame). a ≤ g.number) (flat_map list_of xs)
rises [] a h = ((λ i j d i_j below. absurd (omega arith)), (λ j d lt. absurd (omega arith)))
rises (None ∷ xs) a h = let t = rises xs (a + 1) (λ n f e. let z = h (suc n) f e in omega arith) in (t.0, (λ j d lt. let le = t.1 j d lt in omega arith))
rises (Some g ∷ xs) a h =
    let t = rises xs (a + 1) (λ n f e. let z = h (suc n) f e in omega arith) in
    let is = h 0 g refl in
    (rising_cons g (flat_map list_of xs) (a + 1) (omega arith) t.1 t.0, least_cons g (flat_map list_of xs) a (omega arith) t.1)

-- what lies in a slot is out in a ring
slot_is_out : (k : Basis) (log : List Entry) (xs : List (Option Frame)) → Rests k log xs → (n : ℕ) (f : Frame) → get_elem? xs n ≡ some (Some f)
    → IsOut k.config (state_after k.config k.frames log) f × (f.number ≡ n)
slot_is_out k log xs ok n f e =
    let c = k.config in
    let s : object.State = state_after c k.frames log in
    let lt : n < c.geometry.frames = (let below = at_below xs n (Some f) e in let len = ok.count in omega arith) in
    ⊎_elim
    (λ (t : (r : Ring) × HasRing c r × (0 < times n (numbers (ring_at c s r).out))).
    let b = bears n (ring_at c s t.0).out t.2 in
    let there = there_by xs (ring_at c s t.0).out b.item b.frame b.stands b.frame_is (ok.outs t.0 t.1) in
    let same_slot : some (Some f) ≡ some (Some b.frame) = sym e ∙ ap (get_elem? xs) (sym b.number_is) ∙ there in
    let same : b.frame ≡ f = (let z : Some f ≡ Some b.frame = some-injective (Some f) (Some b.frame) same_slot in cc) in
    (record { ring = t.0; item = b.item; has = t.1; stands = b.stands; frame = b.frame_is ∙ ap (λ (x : Frame). Some x) same }, ap (λ (x : Frame). x.number) (sym same) ∙ b.number_is))
    (λ (none : (r : Ring) → HasRing c r → times n (numbers (ring_at c s r).out) ≡ 0).
    absurd (let z : None ≡ Some f = some-injective None (Some f) (sym (ok.others n lt none) ∙ e) in cc))
    (some_ring c (λ r. times n (numbers (ring_at c s r).out)))

pub frames_are_out : (k : Basis) (log : List Entry) (xs : List (Option Frame)) → Rests k log xs → AreFramesOut k.config (state_after k.config k.frames log) (flat_map list_of xs)
frames_are_out k log xs ok = record {
  all = λ f o. contains_slot xs f.number f (there_by xs (ring_at k.config (state_after k.config k.frames log) o.ring).out o.item f o.stands o.frame (ok.outs o.ring o.has));
  only = λ f h. let t = slot_of xs f h.0 h.1 h.2 in (slot_is_out k log xs ok t.0 f t.1).0;
  rising = (rises xs 0 (λ n f e. (slot_is_out k log xs ok n f e).1 ∙ omega arith)).0;
}

-- ---- frames that move home

pub home_more : (xs : List (Option Frame)) (n : ℕ) (x : Option Frame) → get_elem? xs n ≡ some x → flat_map list_of (take (n + 1) xs) ≡ flat_map list_of (take n xs) ++ list_of x
home_more xs n x e =
    ap (flat_map list_of) (take_more xs n None (at_below xs n x e) ∙ ap (λ y. take n xs ++ y ∷ []) (at_or xs n x None e))
    ∙ flat_map-append list_of (take n xs) (x ∷ []) ∙ ap (λ l. flat_map list_of (take n xs) ++ l) (append-nil (list_of x))

pub one_slot : (x : Option Frame) → length (list_of x) ≤ 1
one_slot None = omega arith
one_slot (Some f) = omega arith
