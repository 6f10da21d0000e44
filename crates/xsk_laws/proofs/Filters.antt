-- The packets that are delivered to a socket are those that are expected there: the two filters make the same tests.
use Rattle.std.proofs.Common.{◌≡◌, ℕ, ◌+◌, ◌-◌, ◌<◌, ◌≤◌, Bool, true, false, cond, eqb, ltb, leb, not, ◌&&◌, ◌||◌, Option, Some, None, List, [], ◌∷◌, length, refl, sym, ap, ◌∙◌, ⊎_elim, arith}
use Rattle.std.specs.Prelude.{slice_index, Ok, Err}
use Rattle.std.specs.List.{filter}
use Rattle.std.specs.Result.{result_ok}
use Rattle.std.proofs.lemmas.Bool.{cases_eq, cases_lt, eq-eqb, ne_eqb, lt-ltb, le-ltb, le-leb, lt-leb, eqb-false}
use Rattle.xsk_model.specs.Config.{Config, socket_at, classes_of, batch_of, map_of}
use Rattle.xsk_model.specs.Steering.{packet_limit, socket_on}
use Rattle.xsk_prog.specs.declared.cell.Miss.TheVariants.{EmptyCell, OtherQueue}
use Rattle.xsk_prog.specs.declared.rule.Verdict.{Verdict}
use Rattle.xsk_prog.specs.declared.rule.Verdict.TheVariants.{Drop, Pass, Redirect, Bounce}
use Rattle.xsk_turns.specs.Turns.{Seat, Judged, settled_or, redirect_to, limit_of}
use Rattle.xsk_turns.specs.Disposals.{disposal_to, disposal_in, is_to, delivered_to}
use Rattle.xsk_turns.specs.declared.wire.Wire.{Wire}
use Rattle.xsk_turns.specs.declared.disposal.Disposal.{Disposal}
use Rattle.xsk_turns.specs.declared.disposal.Disposal.TheVariants.{Delivered, TooLong, Runt, Missed, Passed, Dropped, Bounced}
use Rattle.xsk_laws.specs.Expected.{has_length, leads_to, is_redirected}

-- ---- one packet, by plain tests

-- whether an optional number is this one
abbrev names : Option ℕ → ℕ → Bool
names None s = false
names (Some t) s = eqb t s

abbrev goes_to : Bool → Option ℕ → Disposal
goes_to long None = Missed
goes_to long (Some t) = cond long TooLong (Delivered t)

goes : (s : ℕ) (short missing long : Bool) (r : Option ℕ)
    → is_to s (cond short Runt (cond missing Missed (goes_to long r))) ≡ (not short && (not long && (not missing && names r s)))
goes s true missing long r = refl
goes s false true true r = refl
goes s false true false r = refl
goes s false false true None = refl
goes s false false false None = refl
goes s false false true (Some t) = refl
goes s false false false (Some t) = refl

disposal_goes : (seat : Seat) (packet : List ℕ) (r : Option ℕ) → disposal_to seat packet r ≡ goes_to (ltb (limit_of seat) (length packet)) r
disposal_goes seat packet None = refl
disposal_goes seat packet (Some t) = refl

leb_not : (m n : ℕ) → leb m n ≡ not (ltb n m)
leb_not m n = ⊎_elim
    (λ (h : n < m). lt-leb m n h ∙ ap not (sym (lt-ltb n m h)))
    (λ (h : m ≤ n). le-leb m n h ∙ ap not (sym (le-ltb n m h)))
    (cases_lt n m)

ltb_not : (m n : ℕ) → ltb m n ≡ not (leb n m)
ltb_not m n = ⊎_elim
    (λ (h : m < n). lt-ltb m n h ∙ ap not (sym (lt-leb n m h)))
    (λ (h : n ≤ m). le-ltb m n h ∙ ap not (sym (le-leb n m h)))
    (cases_lt m n)

-- a socket that is bound to a port and queue
pub record IsBoundTo (c : Config) (o q s : ℕ) : Type 0 where
  pub known : s < length c.sockets
  pub on_port : (socket_at c.sockets s).port ≡ o
  pub on_queue : (socket_at c.sockets s).queue ≡ q

-- where a cell's number leads, by the tests: that it is 0, and above all sockets, and that its socket is bound to the port, and to
-- the queue
abbrev led_to : Bool → Bool → Bool → Bool → ℕ → Option ℕ
led_to none above port queue t = result_ok (cond (none || above) (Err EmptyCell) (cond (not (port && queue)) (Err OtherQueue) (Ok t)))

-- a cell's number names the socket exactly where it is the socket's, counted from 1
named : (c : Config) (o q s number : ℕ) → IsBoundTo c o q s → names (redirect_to c o q number) s ≡ eqb number (s + 1)
named c o q s number bound = ⊎_elim
    (λ (e : number ≡ s + 1).
    let less : number - 1 ≡ s = omega arith in
    let some : eqb number 0 ≡ false = ne_eqb number 0 (λ none. omega arith) in
    let here : ltb (length c.sockets) number ≡ false = le-ltb (length c.sockets) number (omega (arith, bound.known)) in
    let port : eqb (socket_at c.sockets (number - 1)).port o ≡ true = eq-eqb (socket_at c.sockets (number - 1)).port o (ap (λ n. (socket_at c.sockets n).port) less ∙ bound.on_port) in
    let queue : eqb (socket_at c.sockets (number - 1)).queue q ≡ true = eq-eqb (socket_at c.sockets (number - 1)).queue q (ap (λ n. (socket_at c.sockets n).queue) less ∙ bound.on_queue) in
    kept (eqb number 0) (ltb (length c.sockets) number) (eqb (socket_at c.sockets (number - 1)).port o) (eqb (socket_at c.sockets (number - 1)).queue q) (number - 1) s some here port queue less
    ∙ sym (eq-eqb number (s + 1) e))
    (λ (e : number ≡ s + 1 → ⊥).
    missed (eqb number 0) (ltb (length c.sockets) number) (eqb (socket_at c.sockets (number - 1)).port o) (eqb (socket_at c.sockets (number - 1)).queue q) (number - 1) s
    (λ f g. e (omega (arith, eqb-false number 0 f, g)))
    ∙ sym (ne_eqb number (s + 1) e))
    (cases_eq number (s + 1))
  where
    kept : (w x y z : Bool) (t s : ℕ) → w ≡ false → x ≡ false → y ≡ true → z ≡ true → t ≡ s → names (led_to w x y z t) s ≡ true
    kept false false true true t s a b c d e = eq-eqb t s e
    kept false false true false t s a b c d e = absurd (cc)
    kept false false false z t s a b c d e = absurd (cc)
    kept false true y z t s a b c d e = absurd (cc)
    kept true x y z t s a b c d e = absurd (cc)

    missed : (w x y z : Bool) (t s : ℕ) → (w ≡ false → t ≡ s → ⊥) → names (led_to w x y z t) s ≡ false
    missed false false true true t s h = ne_eqb t s (h refl)
    missed false false true false t s h = refl
    missed false false false z t s h = refl
    missed false true y z t s h = refl
    missed true x y z t s h = refl

-- ---- one packet

abbrev pub seat_at : Wire → Config → ℕ → ℕ → ℕ → Seat
seat_at wire c d o q = record { config = c; pair = d; port = o; queue = q; classes = classes_of c; batch = batch_of c; wire = wire }

same_and : (x x' y y' z z' w w' : Bool) → x ≡ x' → y ≡ y' → z ≡ z' → w ≡ w' → (x && (y && (z && w))) ≡ (x' && (y' && (z' && w')))
same_and x x' y y' z z' w w' e f g h = cc

and_four : (x y z w : Bool) → (x && (y && (z && w))) ≡ ((x && y) && (z && w))
and_four true y z w = refl
and_four false y z w = refl

and_none : (x : Bool) → false ≡ (x && false)
and_none true = refl
and_none false = refl

-- a packet for which no cell is looked at goes to no socket
stays : (s : ℕ) (short : Bool) (d to : Disposal) → is_to s d ≡ false → is_to s (settled_or (cond short (Some Runt) (Some d)) (λ d. d) to) ≡ false
stays s true d to e = refl
stays s false d to e = e

-- a packet that bounces neither
bounces_off : (s : ℕ) (short : Bool) → is_to s (settled_or (cond short (Some Runt) None) (λ d. d) Bounced) ≡ false
bounces_off s true = refl
bounces_off s false = refl

looks : (short missing : Bool) (to : Disposal) → settled_or (cond short (Some Runt) (cond missing (Some Missed) None)) (λ d. d) to ≡ cond short Runt (cond missing Missed to)
looks true missing to = refl
looks false true to = refl
looks false false to = refl

-- a packet of a port and queue goes to a socket there by its length and its verdict
abbrev pub is_fit : Config → ℕ → ℕ → Judged → Bool
is_fit c o s packet = has_length c packet.bytes && leads_to (map_of c o) s packet.verdict

pub to_fit : (wire : Wire) (c : Config) (d o q s : ℕ) (packet : Judged) → IsBoundTo c o q s → is_to s (disposal_in (seat_at wire c d o q) packet) ≡ is_fit c o s packet
to_fit wire c d o q s packet bound = by packet.verdict
  where
    by : (verdict : Verdict) → (let p : Judged = record { bytes = packet.bytes; verdict = verdict } in is_to s (disposal_in (seat_at wire c d o q) p) ≡ is_fit c o s p)
    by Drop = stays s (ltb (length packet.bytes) 14) Dropped _ refl ∙ and_none (has_length c packet.bytes)
    by Pass = stays s (ltb (length packet.bytes) 14) Passed _ refl ∙ and_none (has_length c packet.bytes)
    by Bounce = bounces_off s (ltb (length packet.bytes) 14) ∙ and_none (has_length c packet.bytes)
    by (Redirect cell) =
        let number = slice_index (map_of c o) cell in
        let r = redirect_to c o q number in
        let short = ltb (length packet.bytes) 14 in
        let missing = leb (length (map_of c o)) cell in
        ap (is_to s) (looks short missing (disposal_to (seat_at wire c d o q) packet.bytes r))
        ∙ ap (λ (x : Disposal). is_to s (cond short Runt (cond missing Missed x))) (disposal_goes (seat_at wire c d o q) packet.bytes r)
        ∙ goes s short missing (ltb (packet_limit c) (length packet.bytes)) r
        ∙ same_and _ _ _ _ _ _ _ _ (sym (leb_not 14 (length packet.bytes))) (sym (leb_not (length packet.bytes) (packet_limit c))) (sym (ltb_not cell (length (map_of c o)))) (named c o q s number bound)
        ∙ and_four (leb 14 (length packet.bytes)) (leb (length packet.bytes) (packet_limit c)) (ltb cell (length (map_of c o))) (eqb number (s + 1))

-- ---- all packets

pub same_filter : {X : Type 0} (f g : X → Bool) (xs : List X) → ((x : X) → f x ≡ g x) → filter f xs ≡ filter g xs
same_filter f g [] h = refl
same_filter f g (x ∷ xs) h =
    ap (λ b. cond b (x ∷ filter f xs) (filter f xs)) (h x) ∙ ap (λ l. cond (g x) (x ∷ l) l) (same_filter f g xs h)

pub delivered_is : (wire : Wire) (c : Config) (d o q k : ℕ) (ps : List Judged) → IsBoundTo c o q (socket_on c o q k)
    → delivered_to (seat_at wire c d o q) (socket_on c o q k) ps ≡ filter (is_redirected c o q k) ps
delivered_is wire c d o q k ps bound =
    same_filter (λ packet. is_to (socket_on c o q k) (disposal_in (seat_at wire c d o q) packet)) (is_redirected c o q k) ps (λ packet. to_fit wire c d o q (socket_on c o q k) packet bound)
