-- The configuration of a sound setup whose sockets are all bound.
use Rattle.std.proofs.Common.{◌≡◌, ℕ, zero, suc, ◌+◌, ◌-◌, ◌<◌, ◌≤◌, ◌&&◌, Bool, true, false, cond, eqb, ltb, List, [], ◌∷◌, ◌++◌, length, map, get_or, refl, sym, ap, ap₂, ◌∙◌, subst, inl, inr, arith, Option, Some, None, append-nil}
use Rattle.std.specs.Prelude.{All, count_by, filter, IfSome, is_some}
use Rattle.std.specs.List.{flat_map, list_all, range_with_len, sum_by}
use Rattle.std.proofs.lemmas.Bool.{cases_Bool}
use Rattle.std.proofs.lemmas.Bool.Decides.{nat_tests}
use Rattle.std.proofs.lemmas.Grind.{flat_map-append}
use Rattle.std.proofs.lemmas.List.{length-append, length-map, get_or-map}
use Rattle.std.proofs.lemmas.List.Elements.{All-append, All-cons, All-get_or, All-head, All-map, All-nil, All-tail, All-weaker}
use Rattle.std.proofs.lemmas.List.FromFn.{filter_of_map_range_with_len_more}
use Rattle.std.proofs.lemmas.List.Sums.{AllPass-from_list_all, count_by-le-length, length-filter, sum_by-cons}
use Rattle.xsk_model.specs.Config.{IsBound, IsConfig, IsMap, IsServed, pairs_at}
use Rattle.xsk_model.specs.declared.config.PairInfo.{PairInfo}
use Rattle.xsk_model.proofs.Counting.{range-push}
use Rattle.xsk_socket.specs.declared.socket.Binding.{Binding}
use Rattle.xsk_socket.specs.declared.socket.Socket.{Socket}
use Rattle.xsk_socket.specs.Bound.{bound_in, info_in, map_on}
use Rattle.xsk_socket.specs.Regular.{numbered}
use Rattle.xsk_socket.specs.Sealed.{info_of, is_on, on_port, on_queue, placed}
use Rattle.xsk_socket.specs.Setup.{Made, State, has_pair, is_bound, no_socket, place_of, socket_at, socket_of, sockets_of}
use Rattle.xsk_socket.specs.Sound.{IsPair, IsPlaced, IsSetup, IsSocket}
use Rattle.xsk_socket.proofs.Numbered.{all_numbered, get_or-numbered, length-numbered, numbered_same}
use Rattle.xsk_socket.proofs.Setups.{some_counted}

-- ---- lists

range_more : (n : ℕ) → range_with_len 0 (n + 1) ≡ range_with_len 0 n ++ n ∷ []
range_more n =
    let next : suc n ≡ n + 1 = omega arith in
    let last : 0 + n ≡ n = omega arith in
    subst (λ k. range_with_len 0 k ≡ range_with_len 0 n ++ n ∷ []) next (range-push 0 n ∙ ap (λ k. range_with_len 0 n ++ k ∷ []) last)

pub filter_more : {A : Type 0} (p : A → Bool) (n : ℕ) (f : ℕ → A) → filter p (numbered (n + 1) f) ≡ filter p (numbered n f) ++ cond (p (f n)) (f n ∷ []) []
filter_more p n f = filter_of_map_range_with_len_more p f 0 n n (omega arith)

filter_same : {A : Type 0} (p q : A → Bool) (n : ℕ) (f : ℕ → A) → ((i : ℕ) → i < n → p (f i) ≡ q (f i)) → filter p (numbered n f) ≡ filter q (numbered n f)
filter_same p q zero f same = refl
filter_same p q (suc n) f same =
    let next : n + 1 ≡ suc n = omega arith in
    subst (λ k. filter p (numbered k f) ≡ filter q (numbered k f)) next
    (filter_more p n f
    ∙ ap₂ (λ xs b. xs ++ cond b (f n ∷ []) []) (filter_same p q n f (λ i below. same i (omega (arith, below)))) (same n (omega arith))
    ∙ sym (filter_more q n f))

map_numbered : {A B : Type 0} (h : A → B) (n : ℕ) (f : ℕ → A) → map h (numbered n f) ≡ numbered n (λ i. h (f i))
map_numbered h n f = maps h f (range_with_len 0 n)
  where
    maps : {A B : Type 0} (h : A → B) (f : ℕ → A) (xs : List ℕ) → map h (map f xs) ≡ map (λ i. h (f i)) xs
    maps h f [] = refl
    maps h f (x ∷ xs) = ap (λ ys. h (f x) ∷ ys) (maps h f xs)

flat_map_same : {A : Type 0} (f g : ℕ → List A) (xs : List ℕ) → ((x : ℕ) → f x ≡ g x) → flat_map f xs ≡ flat_map g xs
flat_map_same f g [] same = refl
flat_map_same f g (x ∷ xs) same = ap₂ (λ ys zs. ys ++ zs) (same x) (flat_map_same f g xs same)

-- ---- cells

pub map_more : (sockets : List Socket) (queue port : ℕ) → map_on sockets (queue + 1) port ≡ map_on sockets queue port ++ bound_in sockets port queue
map_more sockets queue port =
    ap (flat_map (bound_in sockets port)) (range_more queue)
    ∙ flat_map-append (bound_in sockets port) (range_with_len 0 queue) (queue ∷ [])
    ∙ rw append-nil refl

-- on one of a port's first queues
below_queue : ℕ → ℕ → Option Binding → Bool
below_queue port queues None = false
below_queue port queues (Some place) = eqb place.port port && ltb place.queue queues

split : (port queues : ℕ) (place : Option Binding) → cond (below_queue port queues place) 1 0 + cond (is_on port queues place) 1 0 ≡ cond (below_queue port (queues + 1) place) 1 0
unfolding below_queue
split port queues None = refl
split port queues (Some place) = grind (arith, nat_tests)

counts : {A : Type 0} (f g h : A → ℕ) (xs : List A) → ((x : A) → f x + g x ≡ h x) → sum_by f xs + sum_by g xs ≡ sum_by h xs
counts f g h [] same = refl
counts f g h (x ∷ xs) same = omega (arith, sum_by-cons f x xs, sum_by-cons g x xs, sum_by-cons h x xs, counts f g h xs same, same x)

none_below : (port : ℕ) (place : Option Binding) → below_queue port 0 place ≡ false
unfolding below_queue
none_below port None = refl
none_below port (Some place) = grind (arith, nat_tests)

map_counted : (sockets : List Socket) (queues port : ℕ)
    → length (map_on sockets queues port) ≤ count_by (λ v. below_queue port queues (socket_at sockets (v - 1)).bound) (numbered (length sockets) (λ s. s + 1))
map_counted sockets zero port = omega arith
map_counted sockets (suc n) port =
    let next : n + 1 ≡ suc n = omega arith in
    let all = numbered (length sockets) (λ s. s + 1) in
    subst (λ k. length (map_on sockets k port) ≤ count_by (λ v. below_queue port k (socket_at sockets (v - 1)).bound) all) next
    (let before = map_counted sockets n port in
    let here = length-filter (λ v. is_on port n (socket_at sockets (v - 1)).bound) all in
    let both = counts (λ v. cond (below_queue port n (socket_at sockets (v - 1)).bound) 1 0) (λ v. cond (is_on port n (socket_at sockets (v - 1)).bound) 1 0)
    (λ v. cond (below_queue port (n + 1) (socket_at sockets (v - 1)).bound) 1 0) all (λ v. split port n (socket_at sockets (v - 1)).bound) in
    rw (map_more sockets n port, length-append) (omega (arith, before, here, both)))

map_few : (sockets : List Socket) (queues port : ℕ) → length (map_on sockets queues port) ≤ length sockets
map_few sockets queues port =
    let all = numbered (length sockets) (λ s. s + 1) in
    omega (arith, map_counted sockets queues port, count_by-le-length (λ v. below_queue port queues (socket_at sockets (v - 1)).bound) all, length-numbered (length sockets) (λ s. s + 1))

-- what passes a filter of a list was in it
filter_kept : {A : Type 0} (P : A → Type 0) (p : A → Bool) (xs : List A) → All P xs → All P (filter p xs)
filter_kept P p [] all = all
filter_kept P p (x ∷ xs) all =
    elim (cases_Bool (p x)) [
      | inl holds ↦ rw holds (All-cons P x (filter p xs) (All-head P x xs all) (filter_kept P p xs (All-tail P x xs all)))
      | inr fails ↦ rw fails (filter_kept P p xs (All-tail P x xs all))
    ]

flat_kept : {A : Type 0} (P : A → Type 0) (f : ℕ → List A) (xs : List ℕ) → ((x : ℕ) → All P (f x)) → All P (flat_map f xs)
flat_kept P f [] all = All-nil P
flat_kept P f (x ∷ xs) all = All-append P (f x) (flat_map f xs) (all x) (flat_kept P f xs all)

map_is : (sockets : List Socket) (queues port : ℕ) → length sockets ≤ 64 → IsMap (length (map info_in sockets)) (map_on sockets queues port)
map_is sockets queues port few = record {
  few = (let short = map_few sockets queues port in omega (arith, short));
  known = rw length-map (flat_kept (λ v. v ≤ length sockets) (bound_in sockets port) (range_with_len 0 queues)
      (λ queue. filter_kept (λ v. v ≤ length sockets) (λ v. is_on port queue (socket_at sockets (v - 1)).bound) (numbered (length sockets) (λ s. s + 1))
      (all_numbered (λ v. v ≤ length sockets) (length sockets) (λ s. s + 1) (λ i below. omega arith))));
}

-- ---- the configuration

one_pair : (pairs : List PairInfo) (port queue : ℕ) → pairs_at pairs port queue ≤ 1 → has_pair pairs port queue ≡ true → pairs_at pairs port queue ≡ 1
one_pair pairs port queue few has =
    let some = some_counted (λ (p : PairInfo). eqb p.port port && eqb p.queue queue) pairs has in
    omega (arith, few, some)

bound_info : (ports queues : ℕ) (pairs : List PairInfo) (x : Socket) (place : Binding) → ((p q : ℕ) → pairs_at pairs p q ≤ 1) → IsSocket ports queues pairs x
    → IsPlaced ports queues pairs x place → x.bound ≡ Some place → IsBound ports queues pairs (info_in x)
bound_info ports queues pairs x place apart is at there = rw there (record {
  port = at.port;
  queue = at.queue;
  pair = one_pair pairs place.port place.queue (apart place.port place.queue) at.pair;
  ring = at.ring;
  rx = is.rx;
  tx = is.tx;
})

bound_one : (ports queues : ℕ) (pairs : List PairInfo) (x : Socket) → ((p q : ℕ) → pairs_at pairs p q ≤ 1) → (bound : Option Binding) → x.bound ≡ bound
    → is_some bound ≡ true → IsSocket ports queues pairs x → IsBound ports queues pairs (info_in x)
bound_one ports queues pairs x apart None there some is = absurd (cc)
bound_one ports queues pairs x apart (Some place) there some is =
    bound_info ports queues pairs x place apart is (subst (λ b. IfSome b (IsPlaced ports queues pairs x)) there is.bound) there

served_one : (sockets : List Socket) (pair : PairInfo) → IsPair sockets pair → IsServed (map info_in sockets) pair
served_one sockets pair is =
    let k = is.socket.0 in
    let x = is.socket.1 in
    let at = is.socket.4 in
    record {
      socket = (
        k,
        info_in x,
        rw length-map is.socket.2,
        get_or-map info_in sockets k x (info_in x) is.socket.2 ∙ ap info_in is.socket.3,
        (ap (λ b. (placed b).port) at, ap (λ b. (placed b).queue) at),
      );
      fill = is.fill;
      comp = is.comp;
    }

pub setup-config : (s : State) → IsSetup s → (0 < length s.sockets) → list_all is_bound s.sockets ≡ true → (sg wakeup : Bool)
    → IsConfig (record {
      geometry = s.geometry;
      ports = s.ports;
      queues = s.queues;
      sockets = map info_in s.sockets;
      pairs = s.pairs;
      cells = numbered s.ports (map_on s.sockets s.queues);
      sg = sg;
      wakeup = wakeup;
      closing = None;
    })
setup-config s is some bound sg wakeup =
    let each = AllPass-from_list_all is_bound s.sockets bound in
    let all_few = count_by-le-length is_bound s.sockets in
    let pairs_few = is.pairs_few in
    let sockets_few = is.few in
    let first = All-get_or (IsSocket s.ports s.queues s.pairs) s.sockets 0 no_socket some is.sockets in
    let first_bound = each 0 no_socket some in
    record {
      ports = is.ports;
      queues = is.queues;
      some = rw length-map (omega (arith, some));
      few = rw length-map is.few;
      pairs_some = some_pair s.ports s.queues s.pairs (socket_at s.sockets 0) (socket_at s.sockets 0).bound first_bound first.bound;
      pairs_few = omega (arith, all_few, pairs_few, sockets_few);
      bound = All-map (IsBound s.ports s.queues s.pairs) info_in s.sockets (λ k d within.
          bound_one s.ports s.queues s.pairs (get_or s.sockets k d) is.apart (get_or s.sockets k d).bound refl (each k d within) (is.sockets k d within));
      served = All-weaker (IsPair s.sockets) (IsServed (map info_in s.sockets)) (λ p. served_one s.sockets p) s.pairs is.pairs;
      maps = length-numbered s.ports (map_on s.sockets s.queues);
      cells = all_numbered (IsMap (length (map info_in s.sockets))) s.ports (map_on s.sockets s.queues) (λ port below. map_is s.sockets s.queues port is.few);
      closing = tt;
    }
  where
    some_pair : (ports queues : ℕ) (pairs : List PairInfo) (x : Socket) (bound : Option Binding) → is_some bound ≡ true → IfSome bound (IsPlaced ports queues pairs x) → 1 ≤ length pairs
    some_pair ports queues pairs x None some at = absurd (cc)
    some_pair ports queues pairs x (Some place) some at =
        let counted = some_counted (λ (p : PairInfo). eqb p.port place.port && eqb p.queue place.queue) pairs at.pair in
        let few = count_by-le-length (λ (p : PairInfo). eqb p.port place.port && eqb p.queue place.queue) pairs in
        omega (arith, counted, few)

-- ---- by the calls

pub infos_are : (calls : List Made) (sockets : List Socket) → sockets ≡ numbered (sockets_of calls) (socket_of calls)
    → map info_in sockets ≡ numbered (sockets_of calls) (info_of calls)
infos_are calls sockets are = ap (map info_in) are ∙ map_numbered info_in (sockets_of calls) (socket_of calls)

queue_is : (calls : List Made) (port queue : ℕ) → bound_in (numbered (sockets_of calls) (socket_of calls)) port queue ≡ on_queue calls port queue
queue_is calls port queue =
    let n = sockets_of calls in
    let sockets = numbered n (socket_of calls) in
    ap (λ k. filter (λ v. is_on port queue (socket_at sockets (v - 1)).bound) (numbered k (λ s. s + 1))) (length-numbered n (socket_of calls))
    ∙ filter_same (λ v. is_on port queue (socket_at sockets (v - 1)).bound) (λ v. is_on port queue (place_of (v - 1) calls)) n (λ s. s + 1)
    (λ i below.
    let back : i + 1 - 1 ≡ i = omega arith in
    let here : socket_at sockets (i + 1 - 1) ≡ socket_of calls (i + 1 - 1)
    = subst (λ k. socket_at sockets k ≡ socket_of calls k) (sym back) (get_or-numbered n (socket_of calls) i no_socket below) in
    ap (λ (x : Socket). is_on port queue x.bound) here)

pub maps_are : (calls : List Made) (sockets : List Socket) (ports queues : ℕ) → sockets ≡ numbered (sockets_of calls) (socket_of calls)
    → numbered ports (map_on sockets queues) ≡ numbered ports (on_port calls queues)
maps_are calls sockets ports queues are =
    ap (λ xs. numbered ports (map_on xs queues)) are
    ∙ numbered_same ports (map_on (numbered (sockets_of calls) (socket_of calls)) queues) (on_port calls queues)
    (λ port below. flat_map_same (bound_in (numbered (sockets_of calls) (socket_of calls)) port) (on_queue calls port) (range_with_len 0 queues) (queue_is calls port))
