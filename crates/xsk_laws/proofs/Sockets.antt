-- The sockets of a queue in a regular configuration follow one another.
use Rattle.std.proofs.Common.{◌≡◌, ℕ, zero, suc, ◌+◌, ◌-◌, ◌*◌, ◌/◌, ◌%◌, ◌<◌, ◌≤◌, Bool, true, false, cond, eqb, ◌&&◌, List, [], ◌∷◌, length, refl, sym, ap, ◌∙◌, arith, mul-le-mul_right}
use Rattle.std.proofs.lemmas.Nat.{div-mul-add, mod-mul-add, div-add-mod'}
use Rattle.std.proofs.lemmas.Bool.{and_parts, and_from, eqb-true, eq-eqb, false_from_ne_true}
use Rattle.xsk_model.specs.Config.{Config, IsConfig, IsRegular, socket_at, classes_of}
use Rattle.xsk_model.specs.Sent.{sockets_from}
use Rattle.xsk_model.specs.Steering.{driver_on}
use Rattle.xsk_model.specs.declared.config.SocketInfo.{SocketInfo}
use Rattle.xsk_laws.proofs.Totals.{run_of}

-- whether a socket is bound to a port and queue
abbrev is_here : ℕ → ℕ → SocketInfo → Bool
is_here p q socket = eqb socket.port p && eqb socket.queue q

-- from the number n on, those from lo to below hi are bound there and no others
record AreHere (p q lo hi n : ℕ) (xs : List SocketInfo) : Type 0 where
  pub inside : (i : ℕ) → i < length xs → lo ≤ n + i → n + i < hi → is_here p q (socket_at xs i) ≡ true
  pub before : (i : ℕ) → i < length xs → n + i < lo → is_here p q (socket_at xs i) ≡ false
  pub behind : (i : ℕ) → i < length xs → hi ≤ n + i → is_here p q (socket_at xs i) ≡ false
  pub enough : hi ≤ n + length xs

tail_here : (p q lo hi n : ℕ) (x : SocketInfo) (xs : List SocketInfo) → AreHere p q lo hi n (x ∷ xs) → AreHere p q lo hi (n + 1) xs
tail_here p q lo hi n x xs h = record {
  inside = λ i k e f. h.inside (suc i) (omega (arith, k)) (omega (arith, e)) (omega (arith, f));
  before = λ i k e. h.before (suc i) (omega (arith, k)) (omega (arith, e));
  behind = λ i k e. h.behind (suc i) (omega (arith, k)) (omega (arith, e));
  enough = (let enough = h.enough in omega (arith, enough));
}

sockets_cons : (p q n : ℕ) (x : SocketInfo) (xs : List SocketInfo) (b : Bool) → is_here p q x ≡ b
    → sockets_from n (x ∷ xs) p q ≡ cond b (n ∷ sockets_from (n + 1) xs p q) (sockets_from (n + 1) xs p q)
sockets_cons p q n x xs b e = ap (λ c. cond c (n ∷ sockets_from (n + 1) xs p q) (sockets_from (n + 1) xs p q)) e

none_behind : (p q lo hi n : ℕ) (xs : List SocketInfo) → AreHere p q lo hi n xs → hi ≤ n → sockets_from n xs p q ≡ []
none_behind p q lo hi n [] h e = refl
none_behind p q lo hi n (x ∷ xs) h e =
    sockets_cons p q n x xs false (h.behind 0 (omega arith) (omega (arith, e)))
    ∙ none_behind p q lo hi (n + 1) xs (tail_here p q lo hi n x xs h) (omega (arith, e))

those_inside : (p q lo hi n m : ℕ) (xs : List SocketInfo) → AreHere p q lo hi n xs → lo ≤ n → n + m ≡ hi → sockets_from n xs p q ≡ run_of n m
those_inside p q lo hi n zero xs h e f = none_behind p q lo hi n xs h (omega (arith, f))
those_inside p q lo hi n (suc m) [] h e f = let enough = h.enough in absurd (omega (arith, f, enough))
those_inside p q lo hi n (suc m) (x ∷ xs) h e f =
    sockets_cons p q n x xs true (h.inside 0 (omega arith) (omega (arith, e)) (omega (arith, f)))
    ∙ ap (λ (ns : List ℕ). n ∷ ns) (those_inside p q lo hi (n + 1) m xs (tail_here p q lo hi n x xs h) (omega (arith, e)) (omega (arith, f)))

those_from : (p q lo hi n m k : ℕ) (xs : List SocketInfo) → AreHere p q lo hi n xs → n + k ≡ lo → lo + m ≡ hi → sockets_from n xs p q ≡ run_of lo m
those_from p q lo hi n m zero xs h e f =
    those_inside p q lo hi n m xs h (omega (arith, e)) (omega (arith, e, f)) ∙ ap (λ x. run_of x m) (omega (arith, e))
those_from p q lo hi n m (suc k) [] h e f = let enough = h.enough in absurd (omega (arith, e, f, enough))
those_from p q lo hi n m (suc k) (x ∷ xs) h e f =
    sockets_cons p q n x xs false (h.before 0 (omega arith) (omega (arith, e)))
    ∙ those_from p q lo hi (n + 1) m k xs (tail_here p q lo hi n x xs h) (omega (arith, e)) f

-- ---- the sockets of a regular configuration

abbrev first_of : Config → ℕ → ℕ → ℕ
first_of c p q = driver_on c p q * classes_of c

module _ (c : Config) (p q : ℕ) (config : IsConfig c) (regular : IsRegular c) (port : p < c.ports) (queue : q < c.queues) where
  -- a socket that is bound there has a number of that pair
  pub at_pair : (s : ℕ) → s < length c.sockets → is_here p q (socket_at c.sockets s) ≡ true → s / classes_of c ≡ driver_on c p q
  at_pair s h e =
      let at = regular.places s h in
      let both = and_parts (eqb (socket_at c.sockets s).port p) (eqb (socket_at c.sockets s).queue q) e in
      let on_port : (s / classes_of c) / c.queues ≡ p = sym at.0 ∙ eqb-true _ p both.0 in
      let on_queue : (s / classes_of c) % c.queues ≡ q = sym at.1 ∙ eqb-true _ q both.1 in
      sym (div-add-mod' (s / classes_of c) c.queues) ∙ ap (λ n. n * c.queues + (s / classes_of c) % c.queues) on_port ∙ ap (λ n. p * c.queues + n) on_queue

  some : 1 ≤ classes_of c
  some = let classes = regular.classes in omega (arith, classes)

  bounds : (s : ℕ) → s / classes_of c ≡ driver_on c p q → (first_of c p q ≤ s) × (s < first_of c p q + classes_of c)
  bounds s e =
      let whole = div-add-mod' s (classes_of c) in
      let same : (s / classes_of c) * classes_of c ≡ first_of c p q = ap (λ n. n * classes_of c) e in
      let few : s % classes_of c < classes_of c = let h = some in omega arith in
      (omega (arith, whole, same), omega (arith, whole, same, few))

  apart : (s : ℕ) → s < length c.sockets → ((first_of c p q ≤ s) × (s < first_of c p q + classes_of c) → ⊥) → is_here p q (socket_at c.sockets s) ≡ false
  apart s h other = false_from_ne_true (is_here p q (socket_at c.sockets s)) (λ e. other (bounds s (at_pair s h e)))

  inside : (s : ℕ) → s < length c.sockets → first_of c p q ≤ s → s < first_of c p q + classes_of c → is_here p q (socket_at c.sockets s) ≡ true
  inside s h e f =
      let k : ℕ = s - first_of c p q in
      let is : first_of c p q + k ≡ s = omega arith in
      let pair : s / classes_of c ≡ driver_on c p q = ap (λ n. n / classes_of c) (sym is) ∙ div-mul-add (driver_on c p q) (classes_of c) k (omega arith) in
      let at = regular.places s h in
      let on_port : (socket_at c.sockets s).port ≡ p = at.0 ∙ ap (λ n. n / c.queues) pair ∙ div-mul-add p c.queues q queue in
      let on_queue : (socket_at c.sockets s).queue ≡ q = at.1 ∙ ap (λ n. n % c.queues) pair ∙ mod-mul-add p c.queues q queue in
      and_from _ _ (eq-eqb _ p on_port) (eq-eqb _ q on_queue)

  here : AreHere p q (first_of c p q) (first_of c p q + classes_of c) 0 c.sockets
  here =
      let ports : suc p * c.queues ≤ c.ports * c.queues = mul-le-mul_right c.queues port in
      let next : suc p * c.queues ≡ p * c.queues + c.queues = grind arith in
      let known : suc (driver_on c p q) ≤ length c.pairs = omega (arith, ports, next, regular.pairs, queue) in
      let most : suc (driver_on c p q) * classes_of c ≤ length c.pairs * classes_of c = mul-le-mul_right (classes_of c) known in
      let more : suc (driver_on c p q) * classes_of c ≡ first_of c p q + classes_of c = suc_times (driver_on c p q) (classes_of c) in
      record {
        inside = λ i h e f. inside i h (omega (arith, e)) (omega (arith, f));
        before = λ i h e. apart i h (λ both. let low = both.0 in omega (arith, e, low));
        behind = λ i h e. apart i h (λ both. let high = both.1 in omega (arith, e, high));
        enough = omega (arith, most, more, regular.sockets);
      }
    where
      suc_times : (x n : ℕ) → suc x * n ≡ x * n + n
      suc_times x n = grind arith

  pub sockets_are : sockets_from 0 c.sockets p q ≡ run_of (first_of c p q) (classes_of c)
  sockets_are = those_from p q (first_of c p q) (first_of c p q + classes_of c) 0 (classes_of c) (first_of c p q) c.sockets here (omega arith) refl
