-- Which calls are legal, in other words than the folds.
use Rattle.std.proofs.Common.{◌≡◌, ℕ, ◌+◌, ◌≤◌, ◌⊎◌, inl, inr, Bool, true, false, cond, nat_lt, List, [], ◌∷◌, ◌++◌, length, take, drop, All, refl, sym, ap, ◌∙◌, arith, eq-eqb, length-take, length-drop, take-append-drop}
use Rattle.std.specs.List.{fold}
use Rattle.std.proofs.lemmas.Bool.{ltb-true, ltb-false}
use Rattle.std.proofs.lemmas.List.{length-map}
use Rattle.std.proofs.lemmas.List.Elements.{All-nil, All-cons}
use Rattle.xsk_umem.specs.Frame.{Frame}
use Rattle.xsk_umem.specs.declared.batch.Item.{Item}
use Rattle.xsk_model.specs.Config.{Config}
use Rattle.xsk_model.specs.Packets.{packets, whole_packets, bytes_of}
use Rattle.xsk_model.specs.Numbers.{times, numbers}
use Rattle.xsk_model.specs.Object.{taken}
use Rattle.xsk_model.specs.Entry.{Told, Entry, own}
use Rattle.xsk_model.specs.Own.{is_fill_peek, fill_step, tx_work_of, peeked_of}
use Rattle.xsk_model.specs.Legal.{IsLegal, AreReceived, AreCompleted}
use Rattle.xsk_model.specs.History.{IsHistory, Fits}
use Rattle.xsk_model.specs.Sent.{sent_by}
use Rattle.xsk_model.specs.OtherWords.{IsFew, WasLastOnFill, IsNextToSend}
use Rattle.xsk_model.specs.declared.call.Ring.TheVariants.{Fill, Comp, Rx, Tx}
use Rattle.xsk_model.specs.declared.call.Call.{Call}
use Rattle.xsk_model.specs.declared.call.Call.TheVariants.{Reserve, Submit, Peek, Release, Swap, Look}
use Rattle.xsk_model.specs.declared.call.Reply.TheVariants.{Items}
use Rattle.xsk_model.proofs.Theorems.{sent_in_order}
use Rattle.xsk_model.proofs.OwnRuns.{history_own}
use Rattle.xsk_model.proofs.Sendings.{peeked_is}

-- ---- numbers

pub few_given : (c : Config) (mine : List Told) (who : ℕ) (call : Call) (items : List Item) → IsLegal c mine who call → Fits c mine call (Items items)
    → IsFew (length items)
few_given c mine who (Reserve r n) items legal fits = absurd fits
few_given c mine who (Submit r more) items legal fits = absurd fits
few_given c mine who (Peek r n) items legal fits = (fits.some, omega (arith, fits.few, legal.counted.1))
few_given c mine who (Release r n) items legal fits = absurd fits
few_given c mine who (Swap m value) items legal fits = absurd fits
few_given c mine who (Look m) items legal fits = absurd fits

-- ---- frames from FILL

is_peek : (call : Call) → is_fill_peek call ≡ true → (pair : ℕ) × (most : ℕ) × (call ≡ Peek (Fill pair) most)
is_peek (Reserve r n) h = absurd (cc)
is_peek (Submit r items) h = absurd (cc)
is_peek (Peek (Fill d) n) h = (d, n, refl)
is_peek (Peek (Comp d) n) h = absurd (cc)
is_peek (Peek (Rx s) n) h = absurd (cc)
is_peek (Peek (Tx s) n) h = absurd (cc)
is_peek (Release r n) h = absurd (cc)
is_peek (Swap m value) h = absurd (cc)
is_peek (Look m) h = absurd (cc)

abbrev TakesNone : ℕ → Told → Type 0
TakesNone n t = times n (numbers (taken t.reply)) ≡ 0

-- what is so after some entries was so before them, where none took the frame, or it comes from the last that did
last_take : (n : ℕ) (before : Bool) (mine : List Told) → fold (fill_step n) before mine ≡ true
    → WasLastOnFill n mine ⊎ ((before ≡ true) × All (TakesNone n) mine)
last_take n before [] h = inr (h, All-nil (TakesNone n))
last_take n before (t ∷ mine) h =
    elim (last_take n (fill_step n before t) mine h) [
      | inl w ↦ inl (record {
        before = t ∷ w.before;
        t = w.t;
        later = w.later;
        split = ap (λ ts. t ∷ ts) w.split;
        peek = w.peek;
        took = w.took;
        last = w.last;
      })
      | inr none ↦ here (nat_lt 0 (times n (numbers (taken t.reply)))) refl none.0 none.1
    ]
  where
    here : (b : Bool) → b ≡ nat_lt 0 (times n (numbers (taken t.reply))) → cond b (is_fill_peek t.call) before ≡ true → All (TakesNone n) mine
        → WasLastOnFill n (t ∷ mine) ⊎ ((before ≡ true) × All (TakesNone n) (t ∷ mine))
    here true e was none = inl (record {
      before = [];
      t = t;
      later = mine;
      split = refl;
      peek = is_peek t.call was;
      took = ltb-true 0 (times n (numbers (taken t.reply))) (sym e);
      last = none;
    })
    here false e was none = inr (was, All-cons (TakesNone n) t mine (omega (arith, ltb-false 0 (times n (numbers (taken t.reply))) (sym e))) none)

pub from_fill_last : (n : ℕ) (mine : List Told) → fold (fill_step n) false mine ≡ true → WasLastOnFill n mine
from_fill_last n mine h = elim (last_take n false mine h) [ inl w ↦ w | inr none ↦ absurd (cc (none.0)) ]

-- what holds of each number that a list has
all_by_times : (P : ℕ → Type 0) (xs : List ℕ) → ((n : ℕ) → 1 ≤ times n xs → P n) → All P xs
all_by_times P [] h = All-nil P
all_by_times P (x ∷ xs) h = All-cons P x xs (h x (self x xs)) (all_by_times P xs (λ n k. h n (more n x xs k)))
  where
    self : (y : ℕ) (ys : List ℕ) → 1 ≤ times y (y ∷ ys)
    self y ys = omega (arith, ap (λ b. cond b 1 0 + times y ys) (eq-eqb y y refl))

    more : (n y : ℕ) (ys : List ℕ) → 1 ≤ times n ys → 1 ≤ times n (y ∷ ys)
    more n y ys k = omega (arith, k)

pub received_from_fill : (c : Config) (mine : List Told) (items : List Item) → AreReceived c mine items → All (λ n. WasLastOnFill n mine) (numbers items)
received_from_fill c mine items received =
    all_by_times (λ n. WasLastOnFill n mine) (numbers items) (λ n some. from_fill_last n mine (received.from_fill n some))

-- ---- the packet that is completed

-- what stands before the rest of a list behind some of its packets
split_at : {X : Type 0} (n : ℕ) (xs : List X) (x : X) (later : List X) → drop n xs ≡ x ∷ later → (xs ≡ take n xs ++ x ∷ later) × (length (take n xs) ≡ n)
split_at n xs x later h = (
  sym (take-append-drop n xs) ∙ ap (λ ys. take n xs ++ ys) h,
  omega (arith, length-take n xs, length-drop n xs, ap length h),
)

pub completed_next : (c : Config) (frames : List Frame) (past : List Entry) (d : ℕ) (items : List Item) → IsHistory c frames past → AreCompleted c (own d past) (Comp d) items
    → IsNextToSend c past d items
completed_next c frames past d items history done =
    let s : ℕ = done.socket in
    let n : ℕ = (tx_work_of c s (own d past)).completed in
    let wholes : List (List Item) = whole_packets (packets c.geometry c.sg (peeked_of (Tx s) (own d past))) in
    let peeked = peeked_is c d s (own d past) (history_own c frames past d history) in
    let next : drop n wholes ≡ done.packet ∷ done.later = ap (λ xs. drop n (whole_packets (packets c.geometry c.sg xs))) (sym peeked) ∙ done.next in
    let parts = split_at n wholes done.packet done.later next in
    let sent : length (sent_by c past d s) ≡ length (take n wholes) = ap length (sent_in_order c frames past d s history) ∙ length-map (take n wholes) (bytes_of c.geometry c.sg) in
    record {
      socket = s;
      tx = done.tx;
      port = done.port;
      queue = done.queue;
      front = take n wholes;
      packet = done.packet;
      rest = done.later;
      packets = parts.0;
      sent = sym sent;
      frames = done.frames;
      addresses = done.addresses;
    }
