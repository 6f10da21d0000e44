-- The ring from which a driver last got a frame: FILL where it was a Peek there, and TX of its socket for the frames of packets that
-- are not yet completed.
use Rattle.std.proofs.Common.{◌≡◌, ℕ, zero, suc, ◌+◌, ◌<◌, ◌≤◌, Bool, true, false, cond, eqb, ◌&&◌, nat_lt, Option, Some, None, List, [], ◌∷◌, ◌++◌, length, get_or, fold, sym, ap, subst, ◌∙◌, ⊎_elim, inl, inr, arith, lt-ltb, le-ltb, eq-eqb}
use Rattle.std.proofs.lemmas.Bool.{cases_lt, cases_Bool, and_from}
use Rattle.std.proofs.lemmas.List.Sums.{fold_push}
use Rattle.xsk_model.specs.Config.{Config, pair_at, socket_at}
use Rattle.xsk_model.specs.Numbers.{times, numbers}
use Rattle.xsk_model.specs.Rings.{is_ring}
use Rattle.xsk_model.specs.Object.{taken, call_ring}
use Rattle.xsk_model.specs.Entry.{Told}
use Rattle.xsk_model.specs.Own.{TxWork, had_of, is_fill_peek, is_from_fill, tx_work_after, tx_work_of}
use Rattle.xsk_model.specs.Legal.{IsLegal, HasRole}
use Rattle.xsk_model.specs.History.{Fits, OwnGoesOn}
use Rattle.xsk_model.specs.Sent.{sockets_from}
use Rattle.xsk_model.specs.declared.config.SocketInfo.{SocketInfo}
use Rattle.xsk_model.specs.declared.call.Ring.{Ring}
use Rattle.xsk_model.specs.declared.call.Ring.TheVariants.{Fill, Comp, Rx, Tx}
use Rattle.xsk_model.specs.declared.call.Call.{Call}
use Rattle.xsk_model.specs.declared.call.Call.TheVariants.{Reserve, Submit, Peek, Release, Swap, Look}
use Rattle.xsk_model.specs.declared.call.Reply.{Reply}
use Rattle.xsk_model.proofs.Places.{is_ring-true}
use Rattle.xsk_model.proofs.OwnRuns.{own_all, own_push, fits_taken}
use Rattle.xsk_model.proofs.Sendings.{wholes, tx_work_of-push}
use Rattle.xsk_model.proofs.Completions.{IsKept, kept, kept-peek, kept-comp, total, from_fill-push, own_kept}

abbrev pub got_step : ℕ → Option Ring → Told → Option Ring
got_step f before t = cond (nat_lt 0 (times f (numbers (taken t.reply)))) (call_ring t.call) before

-- the ring from which a caller last got a frame
abbrev pub got_on : ℕ → List Told → Option Ring
got_on f mine = fold (got_step f) None mine

pub got_on-push : (f : ℕ) (mine : List Told) (t : Told) → got_on f (mine ++ t ∷ []) ≡ cond (nat_lt 0 (times f (numbers (taken t.reply)))) (call_ring t.call) (got_on f mine)
got_on-push f mine t = fold_push (got_step f) None mine t

pub got_new : (f : ℕ) (mine : List Told) (t : Told) → 0 < times f (numbers (taken t.reply)) → got_on f (mine ++ t ∷ []) ≡ call_ring t.call
got_new f mine t new = got_on-push f mine t ∙ ap (λ b. cond b (call_ring t.call) (got_on f mine)) (lt-ltb 0 (times f (numbers (taken t.reply))) new)

pub got_old : (f : ℕ) (mine : List Told) (t : Told) → times f (numbers (taken t.reply)) ≤ 0 → got_on f (mine ++ t ∷ []) ≡ got_on f mine
got_old f mine t old = got_on-push f mine t ∙ ap (λ b. cond b (call_ring t.call) (got_on f mine)) (le-ltb 0 (times f (numbers (taken t.reply))) old)

-- ---- FILL

fill_ring : (c : Config) (mine : List Told) (d : ℕ) (call : Call) → HasRole c mine d call → is_fill_peek call ≡ true → call_ring call ≡ Some (Fill d)
fill_ring c mine d (Reserve r n) role h = absurd (cc)
fill_ring c mine d (Submit r items) role h = absurd (cc)
fill_ring c mine d (Peek (Fill e) n) role h = ap (λ k. Some (Fill k)) (sym role)
fill_ring c mine d (Peek (Comp e) n) role h = absurd (cc)
fill_ring c mine d (Peek (Rx s) n) role h = absurd (cc)
fill_ring c mine d (Peek (Tx s) n) role h = absurd (cc)
fill_ring c mine d (Release r n) role h = absurd (cc)
fill_ring c mine d (Swap m value) role h = absurd (cc)
fill_ring c mine d (Look m) role h = absurd (cc)

new_or_old : (b x y : Bool) (u v w : Option Ring) → (x ≡ true → u ≡ w) → (y ≡ true → v ≡ w) → cond b x y ≡ true → cond b u v ≡ w
new_or_old true x y u v w new old h = new h
new_or_old false x y u v w new old h = old h

-- what came from FILL came from that of the driver's own pair
pub filled : (c : Config) (d f : ℕ) (mine : List Told) → OwnGoesOn c d [] mine → is_from_fill f mine ≡ true → got_on f mine ≡ Some (Fill d)
filled c d f mine goes =
    own_all (λ l. is_from_fill f l ≡ true → got_on f l ≡ Some (Fill d)) c d [] mine
    (λ before t legal fits h from. got_on-push f before t
    ∙ new_or_old (nat_lt 0 (times f (numbers (taken t.reply)))) (is_fill_peek t.call) (is_from_fill f before) (call_ring t.call) (got_on f before) (Some (Fill d))
    (fill_ring c before d t.call legal.role) h (sym (from_fill-push f before t) ∙ from))
    goes
    (λ (h : false ≡ true). absurd (cc))

-- ---- TX

-- what is kept of a TX ring grows by what is taken alone
grown : (f : ℕ) (c : Config) (t : ℕ) (u : TxWork) (call : Call) (reply : Reply) → u.completed ≤ length (wholes c u)
    → times f (kept c (tx_work_after c t u call reply)) ≤ times f (kept c u) + times f (numbers (taken reply))
grown f c t u (Reserve r n) reply h = omega arith
grown f c t u (Submit (Fill d) items) reply h = omega arith
grown f c t u (Submit (Comp d) items) reply h = omega (arith, kept-comp f c u items)
grown f c t u (Submit (Rx s) items) reply h = omega arith
grown f c t u (Submit (Tx s) items) reply h = omega arith
grown f c t u (Peek r n) reply h = by (is_ring (Tx t) r)
  where
    by : (b : Bool) → times f (kept c (cond b (record u { peeked = u.peeked ++ taken reply }) u)) ≤ times f (kept c u) + times f (numbers (taken reply))
    by true = kept-peek f c u (taken reply) h
    by false = omega arith
grown f c t u (Release r n) reply h = omega arith
grown f c t u (Swap m value) reply h = omega arith
grown f c t u (Look m) reply h = omega arith

-- only a Peek on TX itself brings a frame there
on_tx : (f : ℕ) (c : Config) (t : ℕ) (u : TxWork) (r : Ring) (n : ℕ) (reply : Reply) → times f (kept c u) ≤ 0
    → 1 ≤ times f (kept c (tx_work_after c t u (Peek r n) reply)) → r ≡ Tx t
on_tx f c t u r n reply none some = ⊎_elim
    (λ (e : is_ring (Tx t) r ≡ true). sym (is_ring-true (Tx t) r e))
    (λ (e : is_ring (Tx t) r ≡ false).
    let same : times f (kept c (tx_work_after c t u (Peek r n) reply)) ≡ times f (kept c u) =
    ap (λ b. times f (kept c (cond b (record u { peeked = u.peeked ++ taken reply }) u))) e in
    absurd (omega (arith, none, some, same)))
    (cases_Bool (is_ring (Tx t) r))

-- the frames of one socket of a queue are among those of all
kept_in : (c : Config) (mine : List Told) (f n k : ℕ) (sockets : List SocketInfo) (port queue : ℕ) (d : SocketInfo) → k < length sockets
    → (get_or sockets k d).port ≡ port → (get_or sockets k d).queue ≡ queue
    → times f (kept c (tx_work_of c (n + k) mine)) ≤ total c (sockets_from n sockets port queue) mine f
kept_in c mine f n k [] port queue d low at on = absurd (omega (arith, low))
kept_in c mine f n zero (socket ∷ sockets) port queue d low at on =
    let test : (eqb socket.port port && eqb socket.queue queue) ≡ true = and_from (eqb socket.port port) (eqb socket.queue queue) (eq-eqb socket.port port at) (eq-eqb socket.queue queue on) in
    let is = ap (λ b. total c (cond b (n ∷ sockets_from (n + 1) sockets port queue) (sockets_from (n + 1) sockets port queue)) mine f) test in
    let same = ap (λ m. times f (kept c (tx_work_of c m mine))) (add_zero n) in
    omega (arith, is, same)
  where
    add_zero : (m : ℕ) → m + 0 ≡ m
    add_zero m = omega arith
kept_in c mine f n (suc k) (socket ∷ sockets) port queue d low at on =
    let rest = kept_in c mine f (n + 1) k sockets port queue d (omega (arith, low)) at on in
    let same : n + suc k ≡ (n + 1) + k = omega arith in
    let more = longer (eqb socket.port port && eqb socket.queue queue) n (sockets_from (n + 1) sockets port queue) in
    omega (arith, rest, ap (λ m. times f (kept c (tx_work_of c m mine))) same, more)
  where
    longer : (b : Bool) (m : ℕ) (xs : List ℕ) → total c xs mine f ≤ total c (cond b (m ∷ xs) xs) mine f
    longer true m xs = omega arith
    longer false m xs = omega arith

-- a socket of a pair's queue
abbrev pub IsOn : Config → ℕ → ℕ → Type 0
IsOn c d t = (t < length c.sockets) × ((socket_at c.sockets t).port ≡ (pair_at c.pairs d).port) × ((socket_at c.sockets t).queue ≡ (pair_at c.pairs d).queue)

kept_had : (c : Config) (d : ℕ) (mine : List Told) (f t : ℕ) → IsOn c d t → IsKept c d mine → times f (kept c (tx_work_of c t mine)) ≤ times f (had_of mine)
kept_had c d mine f t on is =
    let among = kept_in c mine f 0 t c.sockets (pair_at c.pairs d).port (pair_at c.pairs d).queue (record { port = 0; queue = 0; rx = None; tx = None }) on.0 on.1 on.2 in
    let zero_add : 0 + t ≡ t = omega arith in
    omega (arith, among, is.had f, ap (λ k. times f (kept c (tx_work_of c k mine))) zero_add)

abbrev IsSent : Config → ℕ → ℕ → List Told → Type 0
IsSent c f t mine = 1 ≤ times f (kept c (tx_work_of c t mine)) → got_on f mine ≡ Some (Tx t)

sent_step : (c : Config) (d f t : ℕ) → d < length c.pairs → IsOn c d t → (before : List Told) (e : Told) → OwnGoesOn c d [] before → IsLegal c before d e.call → Fits c before e.call e.reply
    → IsSent c f t before → IsSent c f t (before ++ e ∷ [])
sent_step c d f t low on before e goes legal fits h some =
    let u : TxWork = tx_work_of c t before in
    let is : IsKept c d before = own_kept c d low before goes in
    let now : 1 ≤ times f (kept c (tx_work_after c t u e.call e.reply)) = subst (λ (v : TxWork). 1 ≤ times f (kept c v)) (tx_work_of-push c t before e) some in
    ⊎_elim
    (λ (new : 0 < times f (numbers (taken e.reply))). elim (fits_taken c before e.call e.reply fits) [
      | inl none ↦ absurd (omega (arith, new, ap (λ items. times f (numbers items)) none))
      | inr peeked ↦
          let none : times f (kept c u) ≤ 0 = omega (arith, kept_had c d before f t on is, peeked.3.fresh f, new) in
          let there : peeked.0 ≡ Tx t = on_tx f c t u peeked.0 peeked.1 e.reply none (subst (λ (call : Call). 1 ≤ times f (kept c (tx_work_after c t u call e.reply))) peeked.2 now) in
          got_new f before e new ∙ ap call_ring peeked.2 ∙ ap Some there
    ])
    (λ (old : times f (numbers (taken e.reply)) ≤ 0). got_old f before e old ∙ h (omega (arith, old, now, grown f c t u e.call e.reply (is.within t))))
    (cases_lt 0 (times f (numbers (taken e.reply))))

-- the frames of a TX ring's packets that are not yet completed came from there
pub sent : (c : Config) (d f t : ℕ) → d < length c.pairs → IsOn c d t → (mine : List Told) → OwnGoesOn c d [] mine → IsSent c f t mine
sent c d f t low on mine goes =
    (own_all (λ l. OwnGoesOn c d [] l × IsSent c f t l) c d [] mine
    (λ before e legal fits h. (own_push c d [] before e h.0 legal fits, sent_step c d f t low on before e h.0 legal fits h.1))
    goes
    (tt, λ none. absurd (omega (arith, none)))).1
