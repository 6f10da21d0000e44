-- What holds of a setup holds after each call.
use Rattle.std.proofs.Common.{◌≡◌, ℕ, ◌+◌, ◌<◌, ◌≤◌, ◌≢◌, ◌⊎◌, ◌&&◌, ◌||◌, Bool, true, false, cond, eqb, List, [], ◌∷◌, ◌++◌, length, get_or, set, refl, sym, ap, ◌∙◌, subst, inl, inr, arith, leb, not, Option, Some, None}
use Rattle.std.specs.Prelude.{All, Any, count_by, IfSome, IsSome, is_some, unwrap_or}
use Rattle.std.specs.List.{list_any}
use Rattle.std.proofs.lemmas.Bool.{and_parts, cases_Bool, eq-eqb, eqb-true}
use Rattle.std.proofs.lemmas.Bool.Decides.{nat_tests}
use Rattle.std.proofs.lemmas.List.{length-set, length-append, get_or-set_other, get_or_append_left}
use Rattle.std.proofs.lemmas.List.Elements.{All-get_or, All-push, All-set, All-weaker, at_read}
use Rattle.std.proofs.lemmas.List.Folds.{list_any-append}
use Rattle.std.proofs.lemmas.List.Quantifiers.{any-set}
use Rattle.std.proofs.lemmas.List.Sums.{sum_by-cons, sum_by-set, sum_by_push}
use Rattle.xsk_model.specs.Config.{IsRingSize, pairs_at}
use Rattle.xsk_model.specs.declared.config.PairInfo.{PairInfo}
use Rattle.xsk_model.proofs.RingSizes.{some_size}
use Rattle.xsk_socket.specs.declared.socket.Binding.{Binding}
use Rattle.xsk_socket.specs.declared.socket.RingKind.{RingKind}
use Rattle.xsk_socket.specs.declared.socket.RingKind.TheVariants.{Rx, Tx, Fill, Comp}
use Rattle.xsk_socket.specs.declared.socket.Socket.{Socket}
use Rattle.xsk_socket.specs.Refusals.{bind_refusal, on_flags, on_place, on_socket}
use Rattle.xsk_socket.specs.Rings.{paired, with_ring}
use Rattle.xsk_socket.specs.Setup.{State, has_pair, is_bound, no_socket, socket_at}
use Rattle.xsk_socket.proofs.Refused.{clear, none_of, not_past}
use Rattle.xsk_socket.specs.Sound.{IsPair, IsPlaced, IsSetup, IsSocket, is_at}

-- ---- lists

pub own_is : (sockets : List Socket) (s : ℕ) (own : Socket) → s < length sockets → own ≡ get_or sockets s own → socket_at sockets s ≡ own
own_is sockets s own within is = at_read sockets (λ x. x ≡ own) s own within is refl no_socket

kept_by_push : {A : Type 0} (P : A → Type 0) (xs : List A) (y : A) → Any P xs → Any P (xs ++ y ∷ [])
kept_by_push P xs y found =
    (found.0, found.1, rw length-append (omega (arith, found.2)), get_or_append_left xs (y ∷ []) found.1 found.0 found.2 ∙ found.3, found.4)

kept_by_set : {A : Type 0} (P : A → Type 0) (xs : List A) (i : ℕ) (y d : A) → (P (get_or xs i d) → ⊥) → Any P xs → Any P (set xs i y)
kept_by_set P xs i y d other found =
    let k = found.0 in
    let x = found.1 in
    let apart : k ≢ i = λ is. other (subst (λ j. P (get_or xs j d)) is (at_read xs P k x found.2 (sym found.3) found.4 d)) in
    (k, x, rw length-set found.2, get_or-set_other xs i k y x apart ∙ found.3, found.4)

none_counted : {A : Type 0} (p : A → Bool) (xs : List A) → list_any p xs ≡ false → count_by p xs ≡ 0
none_counted p [] none = refl
none_counted p (x ∷ xs) none =
    elim (cases_Bool (p x)) [
      | inl holds ↦ let is : true ≡ false = rw holds at none in absurd (cc)
      | inr fails ↦
          let rest : list_any p xs ≡ false = rw fails at none in
          sum_by-cons (λ y. cond (p y) 1 0) x xs ∙ rw (fails, none_counted p xs rest) refl
    ]

pub some_counted : {A : Type 0} (p : A → Bool) (xs : List A) → list_any p xs ≡ true → 1 ≤ count_by p xs
some_counted p [] some = absurd (cc)
some_counted p (x ∷ xs) some =
    elim (cases_Bool (p x)) [
      | inl holds ↦ rw (sum_by-cons (λ y. cond (p y) 1 0) x xs, holds) (omega arith)
      | inr fails ↦
          let rest : list_any p xs ≡ true = rw fails at some in
          let more = some_counted p xs rest in
          rw (sum_by-cons (λ y. cond (p y) 1 0) x xs, fails) (omega (arith, more))
    ]

-- ---- a socket more

pub more_socket : (s : State) → IsSetup s → length s.sockets < 64 → IsSetup (record s { sockets = s.sockets ++ no_socket ∷ [] })
more_socket s is few = record {
  ports = is.ports;
  queues = is.queues;
  few = rw length-append (omega (arith, few));
  pairs_few = rw (sum_by_push (λ x. cond (is_bound x) 1 0) s.sockets no_socket) (let old = is.pairs_few in omega (arith, old));
  apart = is.apart;
  sockets = All-push (IsSocket s.ports s.queues s.pairs) s.sockets no_socket is.sockets (record { rx = tt; tx = tt; fill = tt; comp = tt; bound = tt });
  pairs = All-weaker (IsPair s.sockets) (IsPair (s.sockets ++ no_socket ∷ [])) (λ p pair. record {
    socket = kept_by_push (is_at p.port p.queue) s.sockets no_socket pair.socket;
    fill = pair.fill;
    comp = pair.comp;
  }) s.pairs is.pairs;
}

-- ---- a ring more

same_bound : (kind : RingKind) (size : ℕ) (x : Socket) → (with_ring kind size x).bound ≡ x.bound
same_bound Rx size x = refl
same_bound Tx size x = refl
same_bound Fill size x = refl
same_bound Comp size x = refl

ringed : (kind : RingKind) (size ports queues : ℕ) (pairs : List PairInfo) (x : Socket) → IsRingSize size → x.bound ≡ None
    → IsSocket ports queues pairs x → IsSocket ports queues pairs (with_ring kind size x)
ringed Rx size ports queues pairs x ring unbound is = record { rx = ring; tx = is.tx; fill = is.fill; comp = is.comp; bound = rw unbound tt }
ringed Tx size ports queues pairs x ring unbound is = record { rx = is.rx; tx = ring; fill = is.fill; comp = is.comp; bound = rw unbound tt }
ringed Fill size ports queues pairs x ring unbound is = record { rx = is.rx; tx = is.tx; fill = ring; comp = is.comp; bound = rw unbound tt }
ringed Comp size ports queues pairs x ring unbound is = record { rx = is.rx; tx = is.tx; fill = is.fill; comp = ring; bound = rw unbound tt }

-- an unbound socket is at no place
nowhere : (port queue : ℕ) (x : Socket) → x.bound ≡ None → is_at port queue x → ⊥
nowhere port queue x none some = cc

pub more_ring : (s : State) (i size : ℕ) (kind : RingKind) (own : Socket) → IsSetup s → i < length s.sockets → socket_at s.sockets i ≡ own
    → own.bound ≡ None → IsRingSize size → IsSetup (record s { sockets = set s.sockets i (with_ring kind size own) })
more_ring s i size kind own is within here unbound ring =
    let y = with_ring kind size own in
    let own_sound : IsSocket s.ports s.queues s.pairs own = subst (IsSocket s.ports s.queues s.pairs) here
    (All-get_or (IsSocket s.ports s.queues s.pairs) s.sockets i no_socket within is.sockets) in
    let free : (socket_at s.sockets i).bound ≡ None = ap (λ (x : Socket). x.bound) here ∙ unbound in
    let free_before : is_bound (socket_at s.sockets i) ≡ false = ap (is_some {T = Binding}) free in
    let free_after : is_bound y ≡ false = ap (is_some {T = Binding}) (same_bound kind size own ∙ unbound) in
    let counted : count_by is_bound (set s.sockets i y) + cond (is_bound (socket_at s.sockets i)) 1 0 ≡ count_by is_bound s.sockets + cond (is_bound y) 1 0
    = sum_by-set (λ x. cond (is_bound x) 1 0) s.sockets i y no_socket within in
    let counted_now : count_by is_bound (set s.sockets i y) + 0 ≡ count_by is_bound s.sockets + 0
    = rw (free_before, free_after) at counted in
    let old = is.pairs_few in
    record {
      ports = is.ports;
      queues = is.queues;
      few = rw length-set is.few;
      pairs_few = omega (arith, counted_now, old);
      apart = is.apart;
      sockets = All-set (IsSocket s.ports s.queues s.pairs) s.sockets i y (ringed kind size s.ports s.queues s.pairs own ring unbound own_sound) is.sockets;
      pairs = All-weaker (IsPair s.sockets) (IsPair (set s.sockets i y)) (λ p pair. record {
        socket = kept_by_set (is_at p.port p.queue) s.sockets i y no_socket (nowhere p.port p.queue (socket_at s.sockets i) free) pair.socket;
        fill = pair.fill;
        comp = pair.comp;
      }) s.pairs is.pairs;
    }

-- ---- a bind more

-- pairs stay where others come
grown : (pairs : List PairInfo) (own : Socket) (port queue p q : ℕ) → has_pair pairs p q ≡ true → has_pair (paired pairs own port queue) p q ≡ true
grown pairs own port queue p q has =
    elim (cases_Bool (has_pair pairs port queue)) [
      | inl there ↦ rw there has
      | inr missing ↦
          let new : PairInfo = record { port = port; queue = queue; fill = unwrap_or own.fill 0; comp = unwrap_or own.comp 0 } in
          rw missing (list_any-append (λ (x : PairInfo). eqb x.port p && eqb x.queue q) pairs (new ∷ []) ∙ rw has refl)
    ]

has_own : (port queue : ℕ) → (eqb port port && eqb queue queue) ≡ true
has_own port queue = rw (eq-eqb port port refl, eq-eqb queue queue refl) refl

paired_here : (pairs : List PairInfo) (own : Socket) (port queue : ℕ) → has_pair (paired pairs own port queue) port queue ≡ true
paired_here pairs own port queue =
    elim (cases_Bool (has_pair pairs port queue)) [
      | inl there ↦ rw there there
      | inr missing ↦
          let new : PairInfo = record { port = port; queue = queue; fill = unwrap_or own.fill 0; comp = unwrap_or own.comp 0 } in
          rw missing (list_any-append (λ (x : PairInfo). eqb x.port port && eqb x.queue queue) pairs (new ∷ []) ∙ rw (missing, has_own port queue) refl)
    ]

still_apart : (pairs : List PairInfo) (own : Socket) (port queue : ℕ) → ((p q : ℕ) → pairs_at pairs p q ≤ 1) → (p q : ℕ) → pairs_at (paired pairs own port queue) p q ≤ 1
still_apart pairs own port queue apart p q =
    elim (cases_Bool (has_pair pairs port queue)) [
      | inl there ↦ rw there (apart p q)
      | inr missing ↦
          let new : PairInfo = record { port = port; queue = queue; fill = unwrap_or own.fill 0; comp = unwrap_or own.comp 0 } in
          let at : ℕ → ℕ → PairInfo → Bool = λ m n x. eqb x.port m && eqb x.queue n in
          let pushed : count_by (at p q) (pairs ++ new ∷ []) ≡ count_by (at p q) pairs + cond (eqb port p && eqb queue q) 1 0
          = sum_by_push (λ x. cond (at p q x) 1 0) pairs new in
          let few : count_by (at p q) (pairs ++ new ∷ []) ≤ 1 = elim (cases_Bool (eqb port p && eqb queue q)) [
            | inl here ↦
                let both = and_parts (eqb port p) (eqb queue q) here in
                let on_port : port ≡ p = eqb-true port p both.0 in
                let on_queue : queue ≡ q = eqb-true queue q both.1 in
                let none : count_by (at p q) pairs ≡ 0 = subst (λ m. count_by (at m q) pairs ≡ 0) on_port
                (subst (λ n. count_by (at port n) pairs ≡ 0) on_queue (none_counted (at port queue) pairs missing)) in
                let now : count_by (at p q) (pairs ++ new ∷ []) ≡ 0 + 1 = pushed ∙ rw (here, none) refl in
                omega (arith, now)
            | inr other ↦
                let now : count_by (at p q) (pairs ++ new ∷ []) ≡ count_by (at p q) pairs + 0 = pushed ∙ rw other refl in
                let old : count_by (at p q) pairs ≤ 1 = apart p q in
                omega (arith, now, old)
          ] in
          rw missing few
    ]

one_more : (pairs : List PairInfo) (own : Socket) (port queue : ℕ) → length (paired pairs own port queue) ≤ length pairs + 1
one_more pairs own port queue =
    elim (cases_Bool (has_pair pairs port queue)) [
      | inl there ↦ rw there (omega arith)
      | inr missing ↦ rw (missing, length-append) (omega arith)
    ]

wider : (ports queues port queue : ℕ) (pairs : List PairInfo) (own x : Socket) (bound : Option Binding) → IfSome bound (IsPlaced ports queues pairs x)
    → IfSome bound (IsPlaced ports queues (paired pairs own port queue) x)
wider ports queues port queue pairs own x None is = tt
wider ports queues port queue pairs own x (Some place) is = record {
  port = is.port;
  queue = is.queue;
  pair = grown pairs own port queue place.port place.queue is.pair;
  ring = is.ring;
}

pub record MayBind (s : State) (own : Socket) (p q : ℕ) : Type 0 where
  pub port : p < s.ports
  pub queue : q < s.queues
  pub unbound : own.bound ≡ None
  pub ring : IsSome own.rx ⊎ IsSome own.tx
  pub pair : has_pair s.pairs p q ≡ false → (IsSome own.fill × IsSome own.comp)

pub more_bind : (s : State) (i port queue : ℕ) (first : Option ℕ) (own : Socket) → IsSetup s → i < length s.sockets → socket_at s.sockets i ≡ own
    → MayBind s own port queue
    → IsSetup (record s { sockets = set s.sockets i (record own { bound = Some (record { port = port; queue = queue }) }); pairs = paired s.pairs own port queue; flags = first })
more_bind s i port queue first own is within here may =
    let y : Socket = record own { bound = Some (record { port = port; queue = queue }) } in
    let pairs = paired s.pairs own port queue in
    let sound : IsSocket s.ports s.queues s.pairs own = subst (IsSocket s.ports s.queues s.pairs) here
    (All-get_or (IsSocket s.ports s.queues s.pairs) s.sockets i no_socket within is.sockets) in
    let free : (socket_at s.sockets i).bound ≡ None = ap (λ (x : Socket). x.bound) here ∙ may.unbound in
    let free_before : is_bound (socket_at s.sockets i) ≡ false = ap (is_some {T = Binding}) free in
    let counted : count_by is_bound (set s.sockets i y) + cond (is_bound (socket_at s.sockets i)) 1 0 ≡ count_by is_bound s.sockets + 1
    = sum_by-set (λ x. cond (is_bound x) 1 0) s.sockets i y no_socket within in
    let counted_now : count_by is_bound (set s.sockets i y) + 0 ≡ count_by is_bound s.sockets + 1 = rw free_before at counted in
    let old = is.pairs_few in
    let more = one_more s.pairs own port queue in
    let kept : All (IsPair (set s.sockets i y)) s.pairs = All-weaker (IsPair s.sockets) (IsPair (set s.sockets i y)) (λ p pair. record {
      socket = kept_by_set (is_at p.port p.queue) s.sockets i y no_socket (nowhere p.port p.queue (socket_at s.sockets i) free) pair.socket;
      fill = pair.fill;
      comp = pair.comp;
    }) s.pairs is.pairs in
    record {
      ports = is.ports;
      queues = is.queues;
      few = rw length-set is.few;
      pairs_few = omega (arith, counted_now, old, more);
      apart = still_apart s.pairs own port queue is.apart;
      sockets = All-set (IsSocket s.ports s.queues pairs) s.sockets i y
          (record {
            rx = sound.rx;
            tx = sound.tx;
            fill = sound.fill;
            comp = sound.comp;
            bound = record {
              port = may.port;
              queue = may.queue;
              pair = paired_here s.pairs own port queue;
              ring = may.ring;
            };
          })
          (All-weaker (IsSocket s.ports s.queues s.pairs) (IsSocket s.ports s.queues pairs)
          (λ x so. record { rx = so.rx; tx = so.tx; fill = so.fill; comp = so.comp; bound = wider s.ports s.queues port queue s.pairs own x x.bound so.bound })
          s.sockets is.sockets);
      pairs = elim (cases_Bool (has_pair s.pairs port queue)) [
        | inl there ↦ rw there kept
        | inr missing ↦
            let new : PairInfo = record { port = port; queue = queue; fill = unwrap_or own.fill 0; comp = unwrap_or own.comp 0 } in
            let both = may.pair missing in
            rw missing (All-push (IsPair (set s.sockets i y)) s.pairs new kept (record {
              socket = any-set (is_at port queue) s.sockets i y within refl;
              fill = some_size own.fill both.0 sound.fill;
              comp = some_size own.comp both.1 sound.comp;
            }))
      ];
    }

-- a bind that isn't refused may be made

inside_of : (a b c d : ℕ) → (leb a b || leb c d) ≡ false → (b < a) × (d < c)
inside_of a b c d is = grind (arith, nat_tests)

one_ring : (rx tx : Option ℕ) → not (is_some rx || is_some tx) ≡ false → IsSome rx ⊎ IsSome tx
one_ring (Some x) tx is = inl refl
one_ring None (Some x) is = inr refl
one_ring None None is = absurd (cc)

both_rings : (has : Bool) (fill comp : Option ℕ) → (not has && not (is_some fill && is_some comp)) ≡ false → has ≡ false → IsSome fill × IsSome comp
both_rings true fill comp is missing = absurd (cc)
both_rings false (Some x) (Some y) is missing = (refl, refl)
both_rings false (Some x) None is missing = absurd (cc)
both_rings false None comp is missing = absurd (cc)

pub may_bind : (s : State) (number port queue flags : ℕ) (shared : Option ℕ) (own : Socket) → None ≡ bind_refusal s number port queue flags shared
    → socket_at s.sockets number ≡ own → (number < length s.sockets) × MayBind s own port queue
may_bind s number port queue flags shared own none here =
    let x = socket_at s.sockets number in
    let all = clear (on_socket s number ++ on_flags s flags shared ++ on_place s x port queue) none in
    let place = all.1.1.1.1.1 in
    let place_is = inside_of s.ports port s.queues queue place.0 in
    let may : MayBind s x port queue = record {
      port = place_is.0;
      queue = place_is.1;
      unbound = none_of x.bound all.1.0;
      ring = one_ring x.rx x.tx place.1.0;
      pair = both_rings (has_pair s.pairs port queue) x.fill x.comp place.1.1.0;
    } in
    (not_past (length s.sockets) number all.0, subst (λ y. MayBind s y port queue) here may)
