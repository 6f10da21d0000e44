-- A Submit item by item, and a Peek item by item.
use Rattle.std.proofs.Common.{◌≡◌, ℕ, ◌+◌, ◌<◌, ◌≤◌, List, [], ◌∷◌, ◌++◌, length, take, refl, ap, sym, ◌∙◌, arith, subst, append_assoc, append-nil, length-append, length-take}
use Rattle.xsk_umem.specs.declared.batch.Item.{Item}
use Rattle.xsk_model.specs.Object.{peek_reply, reply_at, taken}
use Rattle.xsk_model.specs.Entry.{Entry, own, with_told}
use Rattle.xsk_model.specs.History.{IsHistory, state_after}
use Rattle.xsk_model.specs.Legal.{IsLegal}
use Rattle.xsk_model.specs.declared.call.Ring.{Ring}
use Rattle.xsk_model.specs.declared.call.Call.{Call}
use Rattle.xsk_model.specs.declared.call.Call.TheVariants.{Submit, Peek}
use Rattle.xsk_model.specs.declared.call.Reply.{Reply}
use Rattle.xsk_model.specs.declared.call.Reply.TheVariants.{Items, Empty}
use Rattle.xsk_table.specs.View.{Basis, Flight, idle, placing, writing, taking, fetching, View}
use Rattle.xsk_table.specs.Rule.{lying}
use Rattle.xsk_table.specs.Plays.{Extends, IsPlacing, entry, still, items_reply}
use Rattle.xsk_table.specs.Held.{Board, Holder, Belongs}
use Rattle.xsk_rings.specs.Serving.{Served, known_after}

-- ---- Submit

-- what a pass has done of a Submit: the items that it has placed and those that are left are all
pub record Submits (p q : Holder) (r : Ring) (all rest : List Item) : Type 0 where
  pub table : q.table ≡ p.table
  pub who : q.who ≡ p.who
  pub setup : q.view.setup ≡ p.view.setup
  pub callers : q.view.callers ≡ p.view.callers
  pub others : q.view.others ≡ p.view.others
  pub seen : q.view.seen ≡ p.view.seen
  pub flight : IsPlacing r q.view.flight
  pub items : lying q.view.flight ++ rest ≡ all
  pub known : q.known ≡ p.known

pub submits_begin : (p : Holder) (r : Ring) (all : List Item) → p.view.flight ≡ idle → Submits p p r all all
submits_begin p r all rests = record {
  table = refl;
  who = refl;
  setup = refl;
  callers = refl;
  others = refl;
  seen = refl;
  flight = subst (IsPlacing r) (sym rests) tt;
  items = ap (λ (f : Flight). lying f ++ all) rests;
  known = refl;
}

pub submits_more : (p q q' : Holder) (r : Ring) (all rest rest' : List Item) (x : Item) → Submits p q r all rest → rest ≡ x ∷ rest' → q'.table ≡ q.table → q'.who ≡ q.who
    → q'.view ≡ record q.view { flight = placing r (lying q.view.flight ++ x ∷ []) } → q'.known ≡ q.known → Submits p q' r all rest'
submits_more p q q' r all rest rest' x s is table who view known = record {
  table = table ∙ s.table;
  who = who ∙ s.who;
  setup = ap (λ (v : View). v.setup) view ∙ s.setup;
  callers = ap (λ (v : View). v.callers) view ∙ s.callers;
  others = ap (λ (v : View). v.others) view ∙ s.others;
  seen = ap (λ (v : View). v.seen) view ∙ s.seen;
  flight = let P : View → Type 0 = λ v. IsPlacing r v.flight in subst P (sym view) refl;
  items = ap (λ (v : View). lying v.flight ++ rest') view ∙ append_assoc (lying q.view.flight) (x ∷ []) rest' ∙ ap (λ l. lying q.view.flight ++ l) (sym is) ∙ s.items;
  known = known ∙ s.known;
}

pub submits_belongs : (b : Board) (p q : Holder) (r : Ring) (all rest : List Item) → Belongs b p → Submits p q r all rest → Belongs b q
submits_belongs b p q r all rest of s = record { table = s.table ∙ of.table; setup = s.setup ∙ of.setup }

-- so the Submit is still legal
pub submits_legal : (p q : Holder) (r : Ring) (all rest : List Item) → IsLegal p.view.setup.config (own p.who p.view.seen) p.who (Submit r all) → Submits p q r all rest
    → IsLegal q.view.setup.config (own q.who q.view.seen) q.who (Submit r (lying q.view.flight ++ rest))
submits_legal p q r all rest legal s =
    let P : Basis × ℕ × List Entry × List Item → Type 0 = λ t. IsLegal t.0.config (own t.1 t.2) t.1 (Submit r t.3) in
    subst P (λ i. (sym s.setup i, sym s.who i, sym s.seen i, sym s.items i)) legal

is_placing : (r : Ring) (f : Flight) → IsPlacing r f → 0 < length (lying f) → f ≡ placing r (lying f)
is_placing r idle h some_item = absurd (omega arith)
is_placing r (placing s items) h some_item = ap (λ x. placing x items) h
is_placing r (writing s items x) h some_item = absurd h
is_placing r (taking s items) h some_item = absurd h
is_placing r (fetching s x left) h some_item = absurd h

pub all_placed : (p q : Holder) (r : Ring) (all rest : List Item) → Submits p q r all rest → rest ≡ [] → lying q.view.flight ≡ all
all_placed p q r all rest s none = sym (append-nil (lying q.view.flight)) ∙ ap (λ l. lying q.view.flight ++ l) (sym none) ∙ s.items

pub placing_all : (p q : Holder) (r : Ring) (all rest : List Item) → IsLegal p.view.setup.config (own p.who p.view.seen) p.who (Submit r all) → Submits p q r all rest → rest ≡ []
    → q.view.flight ≡ placing r (lying q.view.flight)
placing_all p q r all rest legal s none =
    is_placing r q.view.flight s.flight (let n : 1 ≤ length all = legal.counted.0 in omega (arith, ap (length {A = Item}) (all_placed p q r all rest s none)))

extends_from : (k : Basis) (who : ℕ) (call : Call) (reply : Reply) (v v' w : View) → v'.seen ≡ v.seen → v'.callers ≡ v.callers → v'.setup ≡ v.setup → v'.others ≡ v.others
    → Extends k who call reply v' w → Extends k who call reply v w
extends_from k who call reply v v' w seen callers setup others ex = record {
  between = ex.between;
  seen = ex.seen ∙ ap (λ l. (l ++ ex.between) ++ entry who call reply ∷ []) seen;
  legal = ex.legal;
  mine = ex.mine ∙ ap (λ l. with_told (own who l) call reply) seen;
  given = ex.given ∙ ap (λ l. reply_at k.config (state_after k.config k.frames (l ++ ex.between)) call) seen;
  callers = ex.callers ∙ callers;
  others = ex.others ∙ others;
  setup = ex.setup ∙ setup;
}

pub submits_served : (p q z : Holder) (r : Ring) (all rest : List Item) (reply : Reply) → Submits p q r all rest → rest ≡ [] → z.table ≡ q.table → z.who ≡ q.who → z.view.flight ≡ idle
    → Extends q.view.setup q.who (Submit r (lying q.view.flight)) reply q.view z.view → Served p z (Submit r all) reply
submits_served p q z r all rest reply s none table who rests ex =
    let P : Basis × ℕ × List Item → Type 0 = λ t. Extends t.0 t.1 (Submit r t.2) reply q.view z.view in
    let now : Extends p.view.setup p.who (Submit r all) reply q.view z.view = subst P (λ i. (s.setup i, s.who i, all_placed p q r all rest s none i)) ex in
    record {
      table = table ∙ s.table;
      who = who ∙ s.who;
      rests = rests;
      history = extends_from p.view.setup p.who (Submit r all) reply p.view q.view z.view s.seen s.callers s.setup s.others now;
    }

-- ---- Peek

-- what a pass has done of a Peek: the items that it has got and those that are left are the reply's
pub record Peeks (p q : Holder) (r : Ring) (n count : ℕ) (got : List Item) : Type 0 where
  pub left : List Item
  pub table : q.table ≡ p.table
  pub who : q.who ≡ p.who
  pub setup : q.view.setup ≡ p.view.setup
  pub flight : q.view.flight ≡ still r left
  pub count_is : length got + length left ≡ count
  pub known : q.known ≡ known_after p q.view (Peek r n)
  pub extends : Extends p.view.setup p.who (Peek r n) (items_reply (got ++ left)) p.view q.view

pub peeks_begin : (p q : Holder) (r : Ring) (n count : ℕ) (got : List Item) → got ≡ [] → q.table ≡ p.table → q.who ≡ p.who
    → (items : List Item) → length items ≡ count → q.view.flight ≡ still r items → Extends p.view.setup p.who (Peek r n) (items_reply items) p.view q.view
    → q.known ≡ known_after p q.view (Peek r n) → Peeks p q r n count got
peeks_begin p q r n count got none table who items len flight ex known =
    subst (Peeks p q r n count) (sym none) (record { left = items; table = table; who = who; setup = ex.setup; flight = flight; count_is = omega arith; known = known; extends = ex })

peeks_one : (p q q' : Holder) (r : Ring) (n count : ℕ) (got : List Item) (x : Item) (left : List Item) → Extends p.view.setup p.who (Peek r n) (items_reply (got ++ x ∷ left)) p.view q.view → q.table ≡ p.table → q.who ≡ p.who → q.view.setup ≡ p.view.setup
    → length got + length (x ∷ left) ≡ count → q.known ≡ known_after p q.view (Peek r n) → q'.table ≡ q.table → q'.who ≡ q.who → q'.view ≡ record q.view { flight = still r left } → q'.known ≡ q.known
    → Peeks p q' r n count (got ++ x ∷ [])
peeks_one p q q' r n count got x left ex table who setup count_is known table' who' view known' = record {
  left = left;
  table = table' ∙ table;
  who = who' ∙ who;
  setup = ap (λ (v : View). v.setup) view ∙ setup;
  flight = ap (λ (v : View). v.flight) view;
  count_is = omega (arith, length-append got (x ∷ []));
  known = known' ∙ known ∙ ap (λ (v : View). known_after p v (Peek r n)) (sym view);
  extends =
      let same : got ++ x ∷ left ≡ (got ++ x ∷ []) ++ left = sym (append_assoc got (x ∷ []) left) in
      let P : List Item → Type 0 = λ l. Extends p.view.setup p.who (Peek r n) (items_reply l) p.view q'.view in
      subst P same (record {
        between = ex.between;
        seen = ap (λ (v : View). v.seen) view ∙ ex.seen;
        legal = let Q : List Entry → Type 0 = λ l. IsHistory p.view.setup.config p.view.setup.frames l in subst Q (ap (λ (v : View). v.seen) (sym view)) ex.legal;
        mine = ap (λ (v : View). own p.who v.seen) view ∙ ex.mine;
        given = ex.given;
        callers = ap (λ (v : View). v.callers) view ∙ ex.callers;
        setup = ap (λ (v : View). v.setup) view ∙ ex.setup;
        others = ap (λ (v : View). v.others) view ∙ ex.others;
      });
}

taking_still : (r : Ring) (f : Flight) (got left : List Item) (count : ℕ) → length got + length left ≡ count → length got < count → f ≡ still r left → (x : Item) × (more : List Item) × (f ≡ taking r (x ∷ more))
taking_still r f got [] count len lt is = absurd (omega arith)
taking_still r f got (x ∷ more) count len lt is = (x, more, is)

-- an item is left, so it may be fetched
pub peeks_left : (p q : Holder) (r : Ring) (n count : ℕ) (got : List Item) → Peeks p q r n count got → length got < count → (x : Item) × (left : List Item) × (q.view.flight ≡ taking r (x ∷ left))
peeks_left p q r n count got s lt = taking_still r q.view.flight got s.left count s.count_is lt s.flight

peeks_at : (p q q' : Holder) (r : Ring) (n count : ℕ) (got got' : List Item) (result : Item) (left : List Item) → Extends p.view.setup p.who (Peek r n) (items_reply (got ++ left)) p.view q.view → q.table ≡ p.table → q.who ≡ p.who → q.view.setup ≡ p.view.setup
    → q.view.flight ≡ still r left → length got + length left ≡ count → length got < count → q.known ≡ known_after p q.view (Peek r n) → q'.table ≡ q.table → q'.who ≡ q.who → q'.known ≡ q.known
    → ((x : Item) (more : List Item) → q.view.flight ≡ taking r (x ∷ more) → (result ≡ x) × (q'.view ≡ record q.view { flight = still r more }))
    → got' ≡ got ++ result ∷ [] → Peeks p q' r n count got'
peeks_at p q q' r n count got got' result [] ex table who setup flight count_is lt known table' who' known' taken pushed = absurd (omega arith)
peeks_at p q q' r n count got got' result (x ∷ left) ex table who setup flight count_is lt known table' who' known' taken pushed =
    let t = taken x left flight in
    subst (Peeks p q' r n count) (sym (pushed ∙ ap (λ y. got ++ y ∷ []) t.0)) (peeks_one p q q' r n count got x left ex table who setup count_is known table' who' t.1 known')

pub peeks_more : (p q q' : Holder) (r : Ring) (n count : ℕ) (got got' : List Item) (result : Item) → Peeks p q r n count got → length got < count → q'.table ≡ q.table → q'.who ≡ q.who → q'.known ≡ q.known
    → ((x : Item) (more : List Item) → q.view.flight ≡ taking r (x ∷ more) → (result ≡ x) × (q'.view ≡ record q.view { flight = still r more }))
    → got' ≡ got ++ result ∷ [] → Peeks p q' r n count got'
peeks_more p q q' r n count got got' result s lt table' who' known' taken pushed =
    peeks_at p q q' r n count got got' result s.left s.extends s.table s.who s.setup s.flight s.count_is lt s.known table' who' known' taken pushed

pub peeks_belongs : (b : Board) (p q : Holder) (r : Ring) (n count : ℕ) (got : List Item) → Belongs b p → Peeks p q r n count got → Belongs b q
peeks_belongs b p q r n count got of s = record { table = s.table ∙ of.table; setup = s.setup ∙ of.setup }

none_left : (xs : List Item) → length xs ≤ 0 → xs ≡ []
none_left [] h = refl
none_left (x ∷ xs) h = absurd (omega arith)

some_items : (xs : List Item) → 1 ≤ length xs → items_reply xs ≡ Items xs
some_items [] h = absurd (omega arith)
some_items (x ∷ xs) h = refl

-- all items are there
pub peeks_served : (p q : Holder) (r : Ring) (n count : ℕ) (got : List Item) → Peeks p q r n count got → 1 ≤ count → count ≤ length got → Served p q (Peek r n) (Items got)
peeks_served p q r n count got s some_count enough =
    let none : s.left ≡ [] = none_left s.left (let c = s.count_is in omega arith) in
    let all : got ++ s.left ≡ got = ap (λ l. got ++ l) none ∙ append-nil got in
    record {
      table = s.table;
      who = s.who;
      rests = s.flight ∙ ap (still r) none;
      history = subst (λ (reply : Reply). Extends p.view.setup p.who (Peek r n) reply p.view q.view) (ap items_reply all ∙ some_items got (omega arith)) s.extends;
    }

-- no item is there
pub empty_served : (p q : Holder) (r : Ring) (n count : ℕ) → q.table ≡ p.table → q.who ≡ p.who → (items : List Item) → length items ≡ count → count ≡ 0 → q.view.flight ≡ still r items
    → Extends p.view.setup p.who (Peek r n) (items_reply items) p.view q.view → Served p q (Peek r n) Empty
empty_served p q r n count table who items len zero flight ex =
    let none : items ≡ [] = none_left items (omega arith) in
    record {
      table = table;
      who = who;
      rests = flight ∙ ap (still r) none;
      history = subst (λ (reply : Reply). Extends p.view.setup p.who (Peek r n) reply p.view q.view) (ap items_reply none) ex;
    }

taken_few : (n : ℕ) (out items : List Item) → items_reply items ≡ peek_reply n out → length items ≤ n
taken_few n out [] e = omega arith
taken_few n [] (x ∷ xs) e = absurd (cc)
taken_few n (y ∷ out) (x ∷ xs) e = let same : x ∷ xs ≡ take n (y ∷ out) = ap taken e in omega (arith, ap (length {A = Item}) same, length-take n (y ∷ out))

-- they are no more than were asked for
pub peeks_few : (k : Basis) (who : ℕ) (r : Ring) (n : ℕ) (items : List Item) (v w : View) → Extends k who (Peek r n) (items_reply items) v w → length items ≤ n
peeks_few k who r n items v w ex = taken_few n _ items ex.given
