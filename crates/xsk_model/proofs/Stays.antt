-- Frames stay with one application: whoever moves one serves the application of its home pair, and so does each ring in
-- which it stands.
use Rattle.std.proofs.Common.{◌≡◌, ℕ, ◌+◌, ◌*◌, ◌/◌, ◌<◌, ◌≤◌, true, false, cond, nat_le, List, [], ◌∷◌, ◌++◌, length, refl, sym, ap, ◌∙◌, ⊎_elim, arith, lt-ltb, le-ltb, suc-mul, None}
use Rattle.std.specs.List.{range_with_len}
use Rattle.std.proofs.lemmas.Bool.{cases_Bool, cases_eq, cases_lt}
use Rattle.std.proofs.Math.Nat.{div-eq_of_lt-le}
use Rattle.xsk_umem.specs.Frame.{Frame}
use Rattle.xsk_model.specs.Config.{Config, IsConfig, HasRing, size_of, pool_of}
use Rattle.xsk_model.specs.Numbers.{times, numbers, without}
use Rattle.xsk_model.specs.Rings.{place, port_of, queue_of, driver_of, application_on, caller_of, app_of, producer, consumer}
use Rattle.xsk_model.specs.Object.{State, ring_at, free, reply_at, submitted, taken, after}
use Rattle.xsk_model.specs.Entry.{Entry, told, own}
use Rattle.xsk_model.specs.Own.{had_of, is_on}
use Rattle.xsk_model.specs.Legal.{IsLegal, IsKnown, HasRole}
use Rattle.xsk_model.specs.Opening.{IsOpened, opening}
use Rattle.xsk_model.specs.History.{after_all, IsHistory, IsHistoryFrom, state_after}
use Rattle.xsk_model.specs.Holders.{out_numbers}
use Rattle.xsk_model.specs.Homes.{home_app, serves}
use Rattle.xsk_model.specs.declared.call.Ring.{Ring}
use Rattle.xsk_model.specs.declared.call.Ring.TheVariants.{Fill, Comp, Rx, Tx}
use Rattle.xsk_model.specs.declared.call.Call.{Call}
use Rattle.xsk_model.specs.declared.call.Call.TheVariants.{Reserve, Submit, Peek, Release, Swap, Look}
use Rattle.xsk_model.proofs.Counting.{times-append, times-without, times-range_below, times-range_past}
use Rattle.xsk_model.proofs.Places.{is_ring-true, place_below}
use Rattle.xsk_model.proofs.Folds.{own-push_same, own-push_other, had_of-push}
use Rattle.xsk_model.proofs.Moves.{taken-peek, cond-taken, ring_count, ring_at-after_same, ring_at-after_other}
use Rattle.xsk_model.proofs.Roles.{pair_on_found, ring_placed}
use Rattle.xsk_model.proofs.Replies.{times-take}
use Rattle.xsk_model.proofs.FirstState.{opening_numbers, opening_ring_is}
use Rattle.xsk_model.proofs.Along.{KeepsFrom, along, along_from}

-- ---- the application of a caller

serves_driver : (c : Config) (d : ℕ) → d < length c.pairs → serves c d ≡ app_of c (Fill d)
serves_driver c d h = ap (λ b. cond b (app_of c (Fill d)) d) (lt-ltb d (length c.pairs) h)

pub serves_itself : (c : Config) (app : ℕ) → serves c (caller_of c app) ≡ caller_of c app
serves_itself c app =
    let past : length c.pairs ≤ caller_of c app = omega arith in
    ap (λ b. cond b (app_of c (Fill (caller_of c app))) (caller_of c app)) (le-ltb (caller_of c app) (length c.pairs) past)

-- the pair of a socket's queue has the socket's application
pair_app : (c : Config) (s port queue : ℕ) → IsConfig c → s < length c.sockets → port ≡ port_of c (Rx s) → queue ≡ queue_of c (Rx s)
    → app_of c (Fill (driver_of c (Rx s))) ≡ caller_of c (application_on c port queue)
pair_app c s port queue config h p q =
    let bound = config.bound s (record { port = 0; queue = 0; rx = None; tx = None }) h in
    let at = (pair_on_found c.pairs (port_of c (Rx s)) (queue_of c (Rx s)) (omega (arith, bound.pair))).1 in
    ap (λ x. caller_of c (application_on c x (queue_of c (Fill (driver_of c (Rx s)))))) (at.0 ∙ sym p)
    ∙ ap (λ x. caller_of c (application_on c port x)) (at.1 ∙ sym q)

driver_app : (c : Config) (r : Ring) → IsConfig c → HasRing c r → app_of c (Fill (driver_of c r)) ≡ app_of c r
driver_app c (Fill d) config h = refl
driver_app c (Comp d) config h = refl
driver_app c (Rx s) config h = pair_app c s (port_of c (Rx s)) (queue_of c (Rx s)) config h.0 refl refl
driver_app c (Tx s) config h = pair_app c s (port_of c (Tx s)) (queue_of c (Tx s)) config h.0 refl refl

serves_driver_of : (c : Config) (r : Ring) → IsConfig c → HasRing c r → serves c (driver_of c r) ≡ app_of c r
serves_driver_of c r config h = serves_driver c (driver_of c r) (ring_placed c r config h).driver ∙ driver_app c r config h

serves_app_of : (c : Config) (r : Ring) → serves c (app_of c r) ≡ app_of c r
serves_app_of c r = serves_itself c (application_on c (port_of c r) (queue_of c r))

-- both owners of a ring serve its application
pub serves_producer : (c : Config) (r : Ring) → IsConfig c → HasRing c r → serves c (producer c r) ≡ app_of c r
serves_producer c (Fill d) config h = serves_app_of c (Fill d)
serves_producer c (Comp d) config h = serves_driver_of c (Comp d) config h
serves_producer c (Rx s) config h = serves_driver_of c (Rx s) config h
serves_producer c (Tx s) config h = serves_app_of c (Tx s)

pub serves_consumer : (c : Config) (r : Ring) → IsConfig c → HasRing c r → serves c (consumer c r) ≡ app_of c r
serves_consumer c (Fill d) config h = serves_driver_of c (Fill d) config h
serves_consumer c (Comp d) config h = serves_app_of c (Comp d)
serves_consumer c (Rx s) config h = serves_app_of c (Rx s)
serves_consumer c (Tx s) config h = serves_driver_of c (Tx s) config h

-- ---- one entry

-- all frames are with the application of their home pair
pub record IsHomed (c : Config) (s : State) (past : List Entry) : Type 0 where
  pub callers : (who n : ℕ) → 1 ≤ times n (had_of (own who past)) → serves c who ≡ home_app c n
  pub rings : (r : Ring) (n : ℕ) → HasRing c r → 1 ≤ times n (out_numbers (ring_at c s r)) → app_of c r ≡ home_app c n

-- what a Peek takes comes from a ring of the caller's application
taken_homed : (c : Config) (s : State) (past : List Entry) (who : ℕ) (call : Call) (n : ℕ) → IsConfig c → IsHomed c s past → IsKnown c call → HasRole c (own who past) who call
    → 1 ≤ times n (numbers (taken (reply_at c s call))) → serves c who ≡ home_app c n
taken_homed c s past who (Reserve q k) n config h known role some =
    let none = ap (λ xs. times n (numbers xs)) (cond-taken (nat_le k (free (size_of c q) (ring_at c s q))) (free (size_of c q) (ring_at c s q))) in
    absurd (omega (arith, some, none))
taken_homed c s past who (Submit q items) n config h known role some = absurd (omega (arith, some))
taken_homed c s past who (Peek q k) n config h known role some =
    let front = ap (λ xs. times n (numbers xs)) (taken-peek k (ring_at c s q).out) in
    let out : 1 ≤ times n (out_numbers (ring_at c s q)) = omega (arith, some, front, times-take n k (ring_at c s q).out) in
    ap (serves c) role ∙ serves_consumer c q config known ∙ h.rings q n known out
taken_homed c s past who (Release q k) n config h known role some = absurd (omega (arith, some))
taken_homed c s past who (Swap m value) n config h known role some = absurd (omega (arith, some))
taken_homed c s past who (Look m) n config h known role some = absurd (omega (arith, some))

-- what a Submit puts into a ring comes from the ring's application
submitted_homed : (c : Config) (s : State) (past : List Entry) (who : ℕ) (call : Call) (r : Ring) (n : ℕ) → IsConfig c → IsHomed c s past
    → IsLegal c (own who past) who call → is_on r call ≡ true → 1 ≤ times n (numbers (submitted call)) → app_of c r ≡ home_app c n
submitted_homed c s past who (Reserve q k) r n config h legal on some = absurd (omega (arith, some))
submitted_homed c s past who (Submit q items) r n config h legal on some =
    let mine : 1 ≤ times n (had_of (own who past)) = omega (arith, some, legal.frames n) in
    ap (app_of c) (is_ring-true r q on) ∙ sym (serves_producer c q config legal.known) ∙ ap (serves c) (sym legal.role) ∙ h.callers who n mine
submitted_homed c s past who (Peek q k) r n config h legal on some = absurd (omega (arith, some))
submitted_homed c s past who (Release q k) r n config h legal on some = absurd (omega (arith, some))
submitted_homed c s past who (Swap m value) r n config h legal on some = absurd (omega (arith, some))
submitted_homed c s past who (Look m) r n config h legal on some = absurd (omega (arith, some))

module _ (c : Config) (s : State) (past : List Entry) (e : Entry) (config : IsConfig c) (legal : IsLegal c (own e.who past) e.who e.call)
    (reply : e.reply ≡ reply_at c s e.call) (h : IsHomed c s past) where
  callers_homed : (who n : ℕ) → 1 ≤ times n (had_of (own who (past ++ e ∷ []))) → serves c who ≡ home_app c n
  callers_homed who n some = ⊎_elim
      (λ (one : e.who ≡ who).
      let now = ap (times n) (ap had_of (own-push_same who past e one) ∙ had_of-push (own who past) (told e))
      ∙ times-append n (without (numbers (submitted e.call)) (had_of (own who past))) (numbers (taken e.reply)) in
      let less = times-without n (numbers (submitted e.call)) (had_of (own who past)) in
      ⊎_elim
      (λ (before : 0 < times n (had_of (own who past))). h.callers who n (omega (arith, before)))
      (λ (none : times n (had_of (own who past)) ≤ 0).
      let got = ap (λ x. times n (numbers (taken x))) reply in
      ap (serves c) (sym one)
      ∙ taken_homed c s past e.who e.call n config h legal.known legal.role (omega (arith, some, now, less, none, got)))
      (cases_lt 0 (times n (had_of (own who past)))))
      (λ (other : e.who ≡ who → ⊥).
      h.callers who n (omega (arith, some, ap (λ mine. times n (had_of mine)) (own-push_other who past e other))))
      (cases_eq e.who who)

  rings_homed : (r : Ring) (n : ℕ) → HasRing c r → place c r < length s.rings → 1 ≤ times n (out_numbers (ring_at c (after c s e.who e.call) r)) → app_of c r ≡ home_app c n
  rings_homed r n has within some = ⊎_elim
      (λ (on : is_on r e.call ≡ true).
      let now = ap (λ x. times n (out_numbers x)) (ring_at-after_same c s e.who e.call r has legal.known within on) in
      let moved = ring_count n (size_of c r) (ring_at c s r) e.call in
      ⊎_elim
      (λ (before : 0 < times n (out_numbers (ring_at c s r))). h.rings r n has (omega (arith, before)))
      (λ (none : times n (out_numbers (ring_at c s r)) ≤ 0).
      submitted_homed c s past e.who e.call r n config h legal on (omega (arith, some, now, moved, none)))
      (cases_lt 0 (times n (out_numbers (ring_at c s r)))))
      (λ (off : is_on r e.call ≡ false).
      h.rings r n has (omega (arith, some, ap (λ x. times n (out_numbers x)) (ring_at-after_other c s e.who e.call r has legal.known off))))
      (cases_Bool (is_on r e.call))

keeps_homed : (c : Config) (start : State) → IsConfig c → KeepsFrom c start (IsHomed c)
keeps_homed c start config s past e sound legal reply h =
    record {
      callers = λ who n some. callers_homed c s past e config legal reply h who n some;
      rings = λ r n has some. rings_homed c s past e config legal reply h r n has (omega (arith, sound.rings, place_below c r has)) some;
    }

-- ---- the opening

-- a number of a pool has its pair as home
pub in_pool : (pool d n : ℕ) → 1 ≤ times n (range_with_len (d * pool) pool) → n / pool ≡ d
in_pool pool d n some =
    let low : d * pool ≤ n = ⊎_elim
    (λ (h : n < d * pool). absurd (omega (arith, some, times-range_below n (d * pool) pool h)))
    (λ (h : d * pool ≤ n). h)
    (cases_lt n (d * pool)) in
    let high : n < d * pool + pool = ⊎_elim
    (λ (h : n < d * pool + pool). h)
    (λ (h : d * pool + pool ≤ n). absurd (omega (arith, some, times-range_past n (d * pool) pool h)))
    (cases_lt n (d * pool + pool)) in
    let next : n < (d + 1) * pool = omega (arith, high, suc-mul d pool) in
    div-eq_of_lt-le pool low next

pub opening_homed : (c : Config) (frames : List Frame) → IsOpened c frames → IsHomed c (opening c frames) []
opening_homed c frames opened =
    record {
      callers = λ who n some. absurd (omega (arith, some));
      rings = first_homed;
    }
  where
    first_homed : (r : Ring) (n : ℕ) → HasRing c r → 1 ≤ times n (out_numbers (ring_at c (opening c frames) r)) → app_of c r ≡ home_app c n
    first_homed (Fill d) n has some =
        let pool = ap (times n) (opening_numbers c frames d opened has) in
        ap (λ k. app_of c (Fill k)) (sym (in_pool (pool_of c) d n (omega (arith, some, pool))))
    first_homed (Comp d) n has some = absurd (omega (arith, some, ap (λ x. times n (out_numbers x)) (opening_ring_is c frames (Comp d) has)))
    first_homed (Rx s) n has some = absurd (omega (arith, some, ap (λ x. times n (out_numbers x)) (opening_ring_is c frames (Rx s) has)))
    first_homed (Tx s) n has some = absurd (omega (arith, some, ap (λ x. times n (out_numbers x)) (opening_ring_is c frames (Tx s) has)))

-- ---- a history

pub frames_homed : (c : Config) (frames : List Frame) (h : List Entry) → IsHistory c frames h → IsHomed c (state_after c frames h) h
frames_homed c frames h history = along (IsHomed c) c frames h history (keeps_homed c (opening c frames) history.opened.config) (opening_homed c frames history.opened)

pub homed_from : (c : Config) (start : State) (h : List Entry) → IsHistoryFrom c start h → IsHomed c (after_all c start h) h
homed_from c start h history =
    let first : IsHomed c start [] = record {
      callers = λ who n some. absurd (omega (arith, some));
      rings = λ r n has some. (history.begins.ring r has).home n some;
    } in
    along_from (IsHomed c) c start h history (keeps_homed c start history.begins.config) first
