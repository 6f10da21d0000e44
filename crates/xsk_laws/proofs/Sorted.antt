-- All that a driver sent, with the class of each packet that it completed.
use Rattle.std.proofs.Common.{◌≡◌, ℕ, zero, suc, ◌+◌, ◌<◌, Bool, true, false, cond, Option, Some, None, IfSome, List, [], ◌∷◌, ◌++◌, map, All, refl, sym, ap, subst, ◌∙◌, arith, append-nil}
use Rattle.std.specs.List.{filter}
use Rattle.std.specs.Option.{is_none}
use Rattle.std.proofs.lemmas.Bool.{eq-eqb, ne_eqb}
use Rattle.std.proofs.lemmas.List.{map-append}
use Rattle.std.proofs.lemmas.List.Elements.{All-nil, All-cons, All-append}
use Rattle.xsk_umem.specs.declared.batch.Item.{Item}
use Rattle.xsk_model.specs.Config.{Config, classes_of}
use Rattle.xsk_model.specs.Packets.{bytes_of}
use Rattle.xsk_model.specs.Entry.{Told}
use Rattle.xsk_model.specs.Sent.{completed_in, sent_from, bounced_in, bounced_of, all_sent_from}
use Rattle.xsk_model.specs.declared.call.Call.{Call}
use Rattle.xsk_laws.specs.Laws.{Departure, packets_in, is_of, AreOfClasses}
use Rattle.xsk_laws.proofs.Totals.{run_of, none_completed, completed_parts}

-- packets that went by the socket of a class, or bounced
abbrev tagged : Option ℕ → List (List ℕ) → List Departure
tagged class ps = map (λ (p : List ℕ). record { class = class; packet = p }) ps

-- the packets whose class is so
abbrev pick : (Option ℕ → Bool) → List Departure → List (List ℕ)
pick test xs = packets_in (filter (λ (x : Departure). test x.class) xs)

pick-append : (test : Option ℕ → Bool) (xs ys : List Departure) → pick test (xs ++ ys) ≡ pick test xs ++ pick test ys
pick-append test [] ys = refl
pick-append test (x ∷ xs) ys = one (pick-append test xs ys) (test x.class)
  where
    one : pick test (xs ++ ys) ≡ pick test xs ++ pick test ys → (b : Bool) → packets_in (cond b (x ∷ filter (λ (s : Departure). test s.class) (xs ++ ys)) (filter (λ (s : Departure). test s.class) (xs ++ ys)))
        ≡ packets_in (cond b (x ∷ filter (λ (s : Departure). test s.class) xs) (filter (λ (s : Departure). test s.class) xs)) ++ pick test ys
    one e true = ap (λ l. x.packet ∷ l) e
    one e false = e

pick-same : (test : Option ℕ → Bool) (class : Option ℕ) (ps : List (List ℕ)) → test class ≡ true → pick test (tagged class ps) ≡ ps
pick-same test class [] e = refl
pick-same test class (p ∷ ps) e =
    let others = filter (λ (s : Departure). test s.class) (tagged class ps) in
    ap (λ b. packets_in (cond b (record { class = class; packet = p } ∷ others) others)) e ∙ ap (λ l. p ∷ l) (pick-same test class ps e)

pick-other : (test : Option ℕ → Bool) (class : Option ℕ) (ps : List (List ℕ)) → test class ≡ false → pick test (tagged class ps) ≡ []
pick-other test class [] e = refl
pick-other test class (p ∷ ps) e =
    let others = filter (λ (s : Departure). test s.class) (tagged class ps) in
    ap (λ b. packets_in (cond b (record { class = class; packet = p } ∷ others) others)) e ∙ pick-other test class ps e

packets-tagged : (class : Option ℕ) (ps : List (List ℕ)) → packets_in (tagged class ps) ≡ ps
packets-tagged class [] = refl
packets-tagged class (p ∷ ps) = ap (λ l. p ∷ l) (packets-tagged class ps)

-- a class below a number, or none
abbrev IsKnown : ℕ → Departure → Type 0
IsKnown n x = IfSome x.class (λ class. class < n)

tagged-known : (n : ℕ) (class : Option ℕ) (ps : List (List ℕ)) → IfSome class (λ k. k < n) → All (IsKnown n) (tagged class ps)
tagged-known n class [] h = All-nil (IsKnown n)
tagged-known n class (p ∷ ps) h = All-cons (IsKnown n) (record { class = class; packet = p }) (tagged class ps) h (tagged-known n class ps h)

-- ---- one call

abbrev bytes : Config → List (List Item) → List (List ℕ)
bytes c packets = map (bytes_of c.geometry c.sg) packets

-- what a call completes of some sockets, the first of which is of the class k, and so on
abbrev call_departures : Config → List Told → Call → ℕ → List ℕ → List Departure
call_departures c past call k [] = []
call_departures c past call k (s ∷ ss) = tagged (Some k) (bytes c (completed_in c (s ∷ []) past call)) ++ call_departures c past call (k + 1) ss

call_packets : (c : Config) (past : List Told) (call : Call) (k : ℕ) (ss : List ℕ) → packets_in (call_departures c past call k ss) ≡ bytes c (completed_in c ss past call)
call_packets c past call k [] = ap (bytes c) (sym (none_completed c past call))
call_packets c past call k (s ∷ ss) =
    let one = bytes c (completed_in c (s ∷ []) past call) in
    map-append (λ (x : Departure). x.packet) (tagged (Some k) one) (call_departures c past call (k + 1) ss)
    ∙ ap (λ l. l ++ packets_in (call_departures c past call (k + 1) ss)) (packets-tagged (Some k) one)
    ∙ ap (λ l. one ++ l) (call_packets c past call (k + 1) ss)
    ∙ sym (map-append (bytes_of c.geometry c.sg) (completed_in c (s ∷ []) past call) (completed_in c ss past call))
    ∙ ap (bytes c) (sym (completed_parts c s ss past call))

call_known : (c : Config) (past : List Told) (call : Call) (k n m : ℕ) → All (IsKnown (k + m)) (call_departures c past call k (run_of n m))
call_known c past call k n zero = All-nil (IsKnown (k + 0))
call_known c past call k n (suc m) =
    let one = bytes c (completed_in c (n ∷ []) past call) in
    let next : k + 1 + m ≡ k + suc m = omega arith in
    let below : k < k + suc m = omega arith in
    All-append (IsKnown (k + suc m)) (tagged (Some k) one) (call_departures c past call (k + 1) (run_of (n + 1) m)) (tagged-known (k + suc m) (Some k) one below)
    (subst (λ most. All (IsKnown most) (call_departures c past call (k + 1) (run_of (n + 1) m))) next (call_known c past call (k + 1) (n + 1) m))

-- of a class below the first there is none
call_below : (c : Config) (past : List Told) (call : Call) (j k n m : ℕ) → j < k → pick (is_of j) (call_departures c past call k (run_of n m)) ≡ []
call_below c past call j k n zero h = refl
call_below c past call j k n (suc m) h =
    let one = bytes c (completed_in c (n ∷ []) past call) in
    pick-append (is_of j) (tagged (Some k) one) (call_departures c past call (k + 1) (run_of (n + 1) m))
    ∙ ap (λ l. l ++ pick (is_of j) (call_departures c past call (k + 1) (run_of (n + 1) m))) (pick-other (is_of j) (Some k) one (ne_eqb k j (λ e. omega (arith, e, h))))
    ∙ call_below c past call j (k + 1) (n + 1) m (omega (arith, h))

-- of each other there is what the call completes of its socket
call_at : (c : Config) (past : List Told) (call : Call) (i k n m : ℕ) → i < m
    → pick (is_of (k + i)) (call_departures c past call k (run_of n m)) ≡ bytes c (completed_in c ((n + i) ∷ []) past call)
call_at c past call i k n zero h = absurd (omega (arith, h))
call_at c past call zero k n (suc m) h =
    let one = bytes c (completed_in c (n ∷ []) past call) in
    pick-append (is_of (k + 0)) (tagged (Some k) one) (call_departures c past call (k + 1) (run_of (n + 1) m))
    ∙ ap (λ l. l ++ pick (is_of (k + 0)) (call_departures c past call (k + 1) (run_of (n + 1) m))) (pick-same (is_of (k + 0)) (Some k) one (eq-eqb k (k + 0) (omega arith)))
    ∙ ap (λ l. one ++ l) (call_below c past call (k + 0) (k + 1) (n + 1) m (omega arith))
    ∙ append-nil one
    ∙ ap (λ x. bytes c (completed_in c (x ∷ []) past call)) first
  where
    first : n ≡ n + 0
    first = omega arith
call_at c past call (suc i) k n (suc m) h =
    let one = bytes c (completed_in c (n ∷ []) past call) in
    let next : k + suc i ≡ k + 1 + i = omega arith in
    let number : n + 1 + i ≡ n + suc i = omega arith in
    pick-append (is_of (k + suc i)) (tagged (Some k) one) (call_departures c past call (k + 1) (run_of (n + 1) m))
    ∙ ap (λ l. l ++ pick (is_of (k + suc i)) (call_departures c past call (k + 1) (run_of (n + 1) m))) (pick-other (is_of (k + suc i)) (Some k) one (ne_eqb k (k + suc i) (λ e. omega (arith, e))))
    ∙ ap (λ x. pick (is_of x) (call_departures c past call (k + 1) (run_of (n + 1) m))) next
    ∙ call_at c past call i (k + 1) (n + 1) m (omega (arith, h))
    ∙ ap (λ x. bytes c (completed_in c (x ∷ []) past call)) number

-- none of them bounced
call_bounced : (c : Config) (past : List Told) (call : Call) (k : ℕ) (ss : List ℕ) → pick is_none (call_departures c past call k ss) ≡ []
call_bounced c past call k [] = refl
call_bounced c past call k (s ∷ ss) =
    let one = bytes c (completed_in c (s ∷ []) past call) in
    pick-append is_none (tagged (Some k) one) (call_departures c past call (k + 1) ss)
    ∙ ap (λ l. l ++ pick is_none (call_departures c past call (k + 1) ss)) (pick-other is_none (Some k) one refl)
    ∙ call_bounced c past call (k + 1) ss

-- ---- all calls

module _ (c : Config) (bounces : List (List ℕ)) where
  -- what a call completes, and what it bounces
  abbrev with_bounced : List Told → Call → List ℕ → List Departure
  with_bounced past call ss = call_departures c past call 0 ss ++ tagged None (bounced_in bounces call)

  abbrev all_departures : List ℕ → List Told → List Told → List Departure
  all_departures ss past [] = []
  all_departures ss past (t ∷ mine) = with_bounced past t.call ss ++ all_departures ss (past ++ t ∷ []) mine

  all_packets : (ss : List ℕ) (past mine : List Told) → packets_in (all_departures ss past mine) ≡ all_sent_from c ss bounces past mine
  all_packets ss past [] = refl
  all_packets ss past (t ∷ mine) =
      let completed = call_departures c past t.call 0 ss in
      let bounced = tagged None (bounced_in bounces t.call) in
      let later = all_departures ss (past ++ t ∷ []) mine in
      let here : packets_in (completed ++ bounced) ≡ bytes c (completed_in c ss past t.call) ++ bounced_in bounces t.call =
      map-append (λ (x : Departure). x.packet) completed bounced
      ∙ ap (λ l. l ++ packets_in bounced) (call_packets c past t.call 0 ss)
      ∙ ap (λ l. bytes c (completed_in c ss past t.call) ++ l) (packets-tagged None (bounced_in bounces t.call)) in
      map-append (λ (x : Departure). x.packet) (completed ++ bounced) later
      ∙ ap (λ l. l ++ packets_in later) here
      ∙ ap (λ l. (bytes c (completed_in c ss past t.call) ++ bounced_in bounces t.call) ++ l) (all_packets ss (past ++ t ∷ []) mine)

  all_known : (n m : ℕ) (past mine : List Told) → All (IsKnown m) (all_departures (run_of n m) past mine)
  all_known n m past [] = All-nil (IsKnown m)
  all_known n m past (t ∷ mine) =
      let none : 0 + m ≡ m = omega arith in
      let completed = call_departures c past t.call 0 (run_of n m) in
      let bounced = tagged None (bounced_in bounces t.call) in
      All-append (IsKnown m) (completed ++ bounced) (all_departures (run_of n m) (past ++ t ∷ []) mine)
      (All-append (IsKnown m) completed bounced
      (subst (λ most. All (IsKnown most) completed) none (call_known c past t.call 0 n m))
      (tagged-known m None (bounced_in bounces t.call) tt))
      (all_known n m (past ++ t ∷ []) mine)

  -- the packets whose class is so, of one call and all later ones
  picks : (test : Option ℕ → Bool) (ss : List ℕ) (past mine : List Told) (t : Told)
      → pick test (all_departures ss past (t ∷ mine)) ≡ pick test (call_departures c past t.call 0 ss) ++ pick test (tagged None (bounced_in bounces t.call)) ++ pick test (all_departures ss (past ++ t ∷ []) mine)
  picks test ss past mine t =
      let later = all_departures ss (past ++ t ∷ []) mine in
      pick-append test (with_bounced past t.call ss) later
      ∙ ap (λ l. l ++ pick test later) (pick-append test (call_departures c past t.call 0 ss) (tagged None (bounced_in bounces t.call)))

  all_at : (j n m : ℕ) (past mine : List Told) → j < m → pick (is_of j) (all_departures (run_of n m) past mine) ≡ sent_from c ((n + j) ∷ []) past mine
  all_at j n m past [] h = refl
  all_at j n m past (t ∷ mine) h =
      let none : j ≡ 0 + j = omega arith in
      let completed = pick (is_of j) (call_departures c past t.call 0 (run_of n m)) in
      let here : completed ≡ bytes c (completed_in c ((n + j) ∷ []) past t.call) =
      ap (λ x. pick (is_of x) (call_departures c past t.call 0 (run_of n m))) none ∙ call_at c past t.call j 0 n m h in
      picks (is_of j) (run_of n m) past mine t
      ∙ ap (λ l. completed ++ l ++ pick (is_of j) (all_departures (run_of n m) (past ++ t ∷ []) mine)) (pick-other (is_of j) None (bounced_in bounces t.call) refl)
      ∙ ap (λ l. l ++ pick (is_of j) (all_departures (run_of n m) (past ++ t ∷ []) mine)) (append-nil completed ∙ here)
      ∙ ap (λ l. bytes c (completed_in c ((n + j) ∷ []) past t.call) ++ l) (all_at j n m (past ++ t ∷ []) mine h)

  all_bounced : (ss : List ℕ) (past mine : List Told) → pick is_none (all_departures ss past mine) ≡ bounced_of bounces mine
  all_bounced ss past [] = refl
  all_bounced ss past (t ∷ mine) =
      let later = pick is_none (all_departures ss (past ++ t ∷ []) mine) in
      picks is_none ss past mine t
      ∙ ap (λ l. l ++ pick is_none (tagged None (bounced_in bounces t.call)) ++ later) (call_bounced c past t.call 0 ss)
      ∙ ap (λ l. l ++ later) (pick-same is_none None (bounced_in bounces t.call) refl)
      ∙ ap (λ l. bounced_in bounces t.call ++ l) (all_bounced ss (past ++ t ∷ []) mine)

  pub sorted : (of_class : ℕ → List (List ℕ)) (n : ℕ) (mine : List Told) (bounced packets : List (List ℕ))
      → packets ≡ all_sent_from c (run_of n (classes_of c)) bounces [] mine
      → bounced_of bounces mine ≡ bounced
      → ((class : ℕ) → class < classes_of c → sent_from c ((n + class) ∷ []) [] mine ≡ of_class class)
      → AreOfClasses c of_class bounced packets
  sorted of_class n mine bounced packets is others each = record {
    departures = all_departures (run_of n (classes_of c)) [] mine;
    all = is ∙ sym (all_packets (run_of n (classes_of c)) [] mine);
    known = all_known n (classes_of c) [] mine;
    each = λ class h. all_at class n (classes_of c) [] mine h ∙ each class h;
    others = all_bounced (run_of n (classes_of c)) [] mine ∙ others;
  }
