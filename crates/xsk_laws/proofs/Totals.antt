-- What a driver sent by all sockets of its queue is, in number and in bytes, what it sent by each; and what is delivered to
-- different sockets is no more than all.
use Rattle.std.proofs.Common.{◌≡◌, ℕ, zero, suc, ◌+◌, ◌<◌, ◌≤◌, Bool, true, false, cond, leb, List, [], ◌∷◌, ◌++◌, length, map, refl, sym, ap, subst, ◌∙◌, ⊎_elim, arith, append-nil, length-append}
use Rattle.std.specs.List.{concat}
use Rattle.std.proofs.lemmas.Bool.{cases_eq, cases_lt, eq-eqb, ne_eqb, le-leb, lt-leb}
use Rattle.std.proofs.lemmas.List.{map-append}
use Rattle.xsk_umem.specs.declared.batch.Item.{Item}
use Rattle.xsk_model.specs.Config.{Config}
use Rattle.xsk_model.specs.Packets.{bytes_of}
use Rattle.xsk_model.specs.Entry.{Told}
use Rattle.xsk_model.specs.Sent.{completed_in, sent_from}
use Rattle.xsk_model.specs.declared.call.Ring.TheVariants.{Fill, Comp, Rx, Tx}
use Rattle.xsk_model.specs.declared.call.Call.{Call}
use Rattle.xsk_model.specs.declared.call.Call.TheVariants.{Reserve, Submit, Peek, Release, Swap, Look}
use Rattle.xsk_prog.specs.declared.rule.Verdict.{Verdict}
use Rattle.xsk_turns.specs.Totals.{total}
use Rattle.xsk_turns.specs.Turns.{Judged}
use Rattle.xsk_turns.specs.Verdicts.{judged}
use Rattle.xsk_turns.specs.Disposals.{is_to, with_disposal}
use Rattle.xsk_turns.specs.declared.disposal.Disposal.{Disposal}
use Rattle.xsk_turns.specs.declared.disposal.Disposal.TheVariants.{Delivered, NoFrames, RxFull, TooLong, Runt, Missed, Passed, Dropped, Bounced}
use Rattle.xsk_turns.proofs.Totals.{total-append}

-- ---- how many packets, and their bytes

pub total-one : (xs : List (List ℕ)) → total (λ _. 1) xs ≡ length xs
total-one [] = refl
total-one (x ∷ xs) = omega (arith, total-one xs)

pub total-bytes : (xs : List (List ℕ)) → total (λ (x : List ℕ). length x) xs ≡ length (concat xs)
total-bytes [] = refl
total-bytes (x ∷ xs) = omega (arith, total-bytes xs, length-append x (concat xs))

-- ---- what is sent by several sockets

-- numbers from one on
abbrev pub run_of : ℕ → ℕ → List ℕ
run_of n zero = []
run_of n (suc m) = n ∷ run_of (n + 1) m

-- a call completes nothing of no socket
pub none_completed : (c : Config) (past : List Told) (call : Call) → completed_in c [] past call ≡ []
none_completed c past (Reserve r n) = refl
none_completed c past (Submit (Fill d) items) = refl
none_completed c past (Submit (Comp d) items) = refl
none_completed c past (Submit (Rx s) items) = refl
none_completed c past (Submit (Tx s) items) = refl
none_completed c past (Peek r n) = refl
none_completed c past (Release r n) = refl
none_completed c past (Swap m value) = refl
none_completed c past (Look m) = refl

sent_none : (f : List ℕ → ℕ) (c : Config) (past mine : List Told) → total f (sent_from c [] past mine) ≡ 0
sent_none f c past [] = refl
sent_none f c past (t ∷ mine) =
    total-append f (map (bytes_of c.geometry c.sg) (completed_in c [] past t.call)) (sent_from c [] (past ++ t ∷ []) mine)
    ∙ omega (arith, ap (λ (xs : List (List Item)). total f (map (bytes_of c.geometry c.sg) xs)) (none_completed c past t.call), sent_none f c (past ++ t ∷ []) mine)

-- of several sockets it completes what it does of each, in turn
pub completed_parts : (c : Config) (s : ℕ) (ss : List ℕ) (past : List Told) (call : Call) → completed_in c (s ∷ ss) past call ≡ completed_in c (s ∷ []) past call ++ completed_in c ss past call
completed_parts c s ss past (Reserve r n) = refl
completed_parts c s ss past (Submit (Fill d) items) = refl
completed_parts c s ss past (Submit (Comp d) items) = ap (λ (xs : List (List Item)). xs ++ completed_in c ss past (Submit (Comp d) items)) (sym (append-nil _))
completed_parts c s ss past (Submit (Rx t) items) = refl
completed_parts c s ss past (Submit (Tx t) items) = refl
completed_parts c s ss past (Peek r n) = refl
completed_parts c s ss past (Release r n) = refl
completed_parts c s ss past (Swap m value) = refl
completed_parts c s ss past (Look m) = refl

pub sent_parts : (f : List ℕ → ℕ) (c : Config) (s : ℕ) (ss : List ℕ) (past mine : List Told)
    → total f (sent_from c (s ∷ ss) past mine) ≡ total f (sent_from c (s ∷ []) past mine) + total f (sent_from c ss past mine)
sent_parts f c s ss past [] = refl
sent_parts f c s ss past (t ∷ mine) =
    let bytes : List (List Item) → List (List ℕ) = map (bytes_of c.geometry c.sg) in
    let one = completed_in c (s ∷ []) past t.call in
    let others = completed_in c ss past t.call in
    let here : total f (bytes (completed_in c (s ∷ ss) past t.call)) ≡ total f (bytes one) + total f (bytes others) =
    ap (λ (xs : List (List Item)). total f (bytes xs)) (completed_parts c s ss past t.call) ∙ ap (total f) (map-append (bytes_of c.geometry c.sg) one others) ∙ total-append f (bytes one) (bytes others) in
    let later = sent_parts f c s ss (past ++ t ∷ []) mine in
    let all = total-append f (bytes (completed_in c (s ∷ ss) past t.call)) (sent_from c (s ∷ ss) (past ++ t ∷ []) mine) in
    let first = total-append f (bytes one) (sent_from c (s ∷ []) (past ++ t ∷ []) mine) in
    let rest = total-append f (bytes others) (sent_from c ss (past ++ t ∷ []) mine) in
    omega (arith, here, later, all, first, rest)

-- ---- what is delivered to several sockets

-- whether a disposal is that a packet was delivered to a socket with at least this number
abbrev pub is_from : ℕ → Disposal → Bool
is_from n (Delivered socket) = leb n socket
is_from n disposal = false

-- the packets with such a disposal, where the disposals are those of the packets
abbrev pub delivered_from : ℕ → List Judged → List Disposal → List (List ℕ)
delivered_from n [] disposals = []
delivered_from n (packet ∷ packets) [] = []
delivered_from n (packet ∷ packets) (disposal ∷ disposals) = cond (is_from n disposal) (packet.bytes ∷ delivered_from n packets disposals) (delivered_from n packets disposals)

-- one packet is delivered to this socket or to a later one
one_socket : (n bytes : ℕ) (x : Disposal) → cond (is_to n x) bytes 0 + cond (is_from (n + 1) x) bytes 0 ≤ cond (is_from n x) bytes 0
one_socket n bytes (Delivered socket) = ⊎_elim
    (λ (h : socket < n). sum (ne_eqb socket n (λ e. omega arith)) (lt-leb (n + 1) socket (omega arith)) (lt-leb n socket h) (omega arith))
    (λ (h : n ≤ socket). ⊎_elim
    (λ (e : socket ≡ n). sum (eq-eqb socket n e) (lt-leb (n + 1) socket (omega arith)) (le-leb n socket h) (omega arith))
    (λ (e : socket ≡ n → ⊥). sum (ne_eqb socket n e) (le-leb (n + 1) socket (omega arith)) (le-leb n socket h) (omega arith))
    (cases_eq socket n))
    (cases_lt socket n)
  where
    sum : {x y z x' y' z' : Bool} → x ≡ x' → y ≡ y' → z ≡ z' → cond x' bytes 0 + cond y' bytes 0 ≤ cond z' bytes 0 → cond x bytes 0 + cond y bytes 0 ≤ cond z bytes 0
    sum {x} {y} {z} {x'} {y'} {z'} e f g h =
        subst (λ b. cond b bytes 0 + cond y bytes 0 ≤ cond z bytes 0) (sym e)
        (subst (λ b. cond x' bytes 0 + cond b bytes 0 ≤ cond z bytes 0) (sym f)
        (subst (λ b. cond x' bytes 0 + cond y' bytes 0 ≤ cond b bytes 0) (sym g) h))
one_socket n bytes NoFrames = omega arith
one_socket n bytes RxFull = omega arith
one_socket n bytes TooLong = omega arith
one_socket n bytes Runt = omega arith
one_socket n bytes Missed = omega arith
one_socket n bytes Passed = omega arith
one_socket n bytes Dropped = omega arith
one_socket n bytes Bounced = omega arith

pub total-cond : {X : Type 0} (f : X → ℕ) (b : Bool) (x : X) (xs : List X) → total f (cond b (x ∷ xs) xs) ≡ cond b (f x) 0 + total f xs
total-cond f true x xs = refl
total-cond f false x xs = omega arith

pub delivered_parts : (f : List ℕ → ℕ) (n : ℕ) (input : List Judged) (disposals : List Disposal)
    → total f (with_disposal n input disposals) + total f (delivered_from (n + 1) input disposals) ≤ total f (delivered_from n input disposals)
delivered_parts f n [] disposals = omega arith
delivered_parts f n (x ∷ input) [] = omega arith
delivered_parts f n (x ∷ input) (disposal ∷ disposals) =
    omega (
      arith,
      one_socket n (f x.bytes) disposal,
      delivered_parts f n input disposals,
      total-cond f (is_to n disposal) x.bytes (with_disposal n input disposals),
      total-cond f (is_from (n + 1) disposal) x.bytes (delivered_from (n + 1) input disposals),
      total-cond f (is_from n disposal) x.bytes (delivered_from n input disposals),
    )

pub cond_few : (b : Bool) (n : ℕ) → cond b n 0 ≤ n
cond_few true n = omega arith
cond_few false n = omega arith

-- packets with their verdicts are no more than the packets
pub judged_within : (f : List ℕ → ℕ) (packets : List (List ℕ)) (verdicts : List Verdict) → total (λ (x : Judged). f x.bytes) (judged packets verdicts) ≤ total f packets
judged_within f [] verdicts = omega arith
judged_within f (packet ∷ packets) [] = omega arith
judged_within f (packet ∷ packets) (verdict ∷ verdicts) = omega (arith, judged_within f packets verdicts)

-- where each of so many sockets sent no more than what is delivered to its own, all sent no more than what is delivered
pub sent_few : (f : List ℕ → ℕ) (c : Config) (mine : List Told) (input : List Judged) (disposals : List Disposal) (t s classes i m : ℕ) → i + m ≡ classes
    → ((k : ℕ) → k < classes → total f (sent_from c ((t + k) ∷ []) [] mine) ≤ total f (with_disposal (s + k) input disposals))
    → total f (sent_from c (run_of (t + i) m) [] mine) ≤ total f (delivered_from (s + i) input disposals)
sent_few f c mine input disposals t s classes i zero e h = omega (arith, sent_none f c [] mine)
sent_few f c mine input disposals t s classes i (suc m) e h =
    let here : total f (sent_from c ((t + i) ∷ []) [] mine) ≤ total f (with_disposal (s + i) input disposals) = h i (omega (arith, e)) in
    let next : t + (i + 1) ≡ t + i + 1 = omega arith in
    let after : s + (i + 1) ≡ s + i + 1 = omega arith in
    let later : total f (sent_from c (run_of (t + (i + 1)) m) [] mine) ≤ total f (delivered_from (s + (i + 1)) input disposals) =
    sent_few f c mine input disposals t s classes (i + 1) m (omega (arith, e)) h in
    let moved : total f (sent_from c (run_of (t + i + 1) m) [] mine) ≤ total f (delivered_from (s + i + 1) input disposals) =
    subst (λ n. total f (sent_from c (run_of n m) [] mine) ≤ total f (delivered_from (s + i + 1) input disposals)) next
    (subst (λ n. total f (sent_from c (run_of (t + (i + 1)) m) [] mine) ≤ total f (delivered_from n input disposals)) after later) in
    omega (arith, here, moved, sent_parts f c (t + i) (run_of (t + i + 1) m) [] mine, delivered_parts f (s + i) input disposals)
