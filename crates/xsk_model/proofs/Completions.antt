-- Each Submit on COMPLETION completes one packet of one TX ring: the frames of the packets that wait, on all TX rings of
-- a driver, are with that driver, each once.
use Rattle.std.proofs.Common.{◌≡◌, ℕ, zero, suc, ◌+◌, ◌-◌, ◌*◌, ◌<◌, ◌≤◌, inl, inr, Bool, true, false, cond, eqb, ◌&&◌, nat_lt, List, [], ◌∷◌, ◌++◌, length, get_or, drop, map, flat_map, All, Option, Some, None, refl, sym, ap, subst, ◌∙◌, ⊎_elim, arith, length-append, take-append-drop, drop-drop, add-mul, mul-le-mul_right, mul-le-mul_left, eq-eqb, ne_eqb, lt-ltb, le-ltb, eqb-true, ◌/◌}
use Rattle.std.specs.Prelude.{IsTrue}
use Rattle.std.specs.Option.{option_map}
use Rattle.std.proofs.lemmas.Bool.{cases_eq, cases_lt, and_parts, and_from}
use Rattle.std.proofs.lemmas.List.{drop-append-le, get_or-map, get_or_at, length-map}
use Rattle.std.proofs.lemmas.List.Concat.{flat_map-append}
use Rattle.std.proofs.lemmas.List.Elements.{All-nil, All-cons, All-head, All-tail, All-drop}
use Rattle.std.proofs.lemmas.List.Sums.{fold_push}
use Rattle.xsk_umem.specs.Frame.{Frame}
use Rattle.xsk_umem.specs.Geometry.{Geometry, area_of, frame_of}
use Rattle.xsk_umem.specs.declared.batch.Item.{Item}
use Rattle.xsk_model.specs.Config.{Config, pair_at}
use Rattle.xsk_model.specs.Descriptor.{is_valid, is_inside, has_bytes, fits_chunk, has_known_options}
use Rattle.xsk_model.specs.Packets.{Packet, whole, bad, packets, packets_from, rest, whole_packets, items_of, IsWhole, IsPacket}
use Rattle.xsk_model.specs.Numbers.{times, without, number_of, numbers}
use Rattle.xsk_model.specs.Rings.{is_ring}
use Rattle.xsk_model.specs.Object.{submitted, taken}
use Rattle.xsk_model.specs.Entry.{Told}
use Rattle.xsk_model.specs.Own.{TxWork, had_of, is_fill_peek, fill_step, is_from_fill, is_same, waiting, completed_by, tx_work_after, tx_work_of}
use Rattle.xsk_model.specs.Legal.{IsLegal, IsItemOn, AreCompleted}
use Rattle.xsk_model.specs.History.{Fits, OwnGoesOn}
use Rattle.xsk_model.specs.Sent.{sockets_from, sockets_of, completed_in}
use Rattle.xsk_model.specs.declared.config.SocketInfo.{SocketInfo}
use Rattle.xsk_model.specs.declared.call.Ring.{Ring}
use Rattle.xsk_model.specs.declared.call.Ring.TheVariants.{Fill, Comp, Rx, Tx}
use Rattle.xsk_model.specs.declared.call.Call.{Call}
use Rattle.xsk_model.specs.declared.call.Call.TheVariants.{Reserve, Submit, Peek, Release, Swap, Look}
use Rattle.xsk_model.specs.declared.call.Reply.{Reply}
use Rattle.xsk_model.specs.declared.call.Reply.TheVariants.{Submitted}
use Rattle.xsk_model.proofs.PacketsLaws.{packets_from-append, packets-items, packets-made}
use Rattle.xsk_model.proofs.Counting.{times-append, times-without, numbers-append}
use Rattle.xsk_model.proofs.Folds.{had_of-push}
use Rattle.xsk_model.proofs.OwnRuns.{own_all, fits_taken}
use Rattle.xsk_model.proofs.Sendings.{wholes, wholes-append, tx_work_of-push, completed_by-front, IsWithin, within-push}

-- ---- the frames of one TX ring that are not yet completed

-- those of the Whole packets that wait, and those of the packet that isn't at its end
abbrev pub kept : Config → TxWork → List ℕ
kept c u = flat_map numbers (waiting c u) ++ numbers (rest c.geometry c.sg u.peeked)

-- Whole packets have no more frames than all packets
whole_part : (n : ℕ) (ps : List Packet) → times n (flat_map numbers (whole_packets ps)) ≤ times n (numbers (flat_map items_of ps))
whole_part n [] = omega arith
whole_part n (whole items ∷ ps) =
    omega (
      arith,
      whole_part n ps,
      times-append n (numbers items) (flat_map numbers (whole_packets ps)),
      ap (times n) (numbers-append items (flat_map items_of ps)),
      times-append n (numbers items) (numbers (flat_map items_of ps)),
    )
whole_part n (bad items ∷ ps) =
    omega (arith, whole_part n ps, ap (times n) (numbers-append items (flat_map items_of ps)), times-append n (numbers items) (numbers (flat_map items_of ps)))

pub times-numbers-append : (n : ℕ) (xs ys : List Item) → times n (numbers (xs ++ ys)) ≡ times n (numbers xs) + times n (numbers ys)
times-numbers-append n xs ys = ap (times n) (numbers-append xs ys) ∙ times-append n (numbers xs) (numbers ys)

-- each item stands in one packet or in the rest
times-packets : (n : ℕ) (c : Config) (xs : List Item)
    → times n (numbers (flat_map items_of (packets c.geometry c.sg xs))) + times n (numbers (rest c.geometry c.sg xs)) ≡ times n (numbers xs)
times-packets n c xs =
    sym (times-numbers-append n (flat_map items_of (packets c.geometry c.sg xs)) (rest c.geometry c.sg xs))
    ∙ ap (λ items. times n (numbers items)) (packets-items c.geometry c.sg xs)

-- items that are peeked bring no frames but their own
pub kept-peek : (n : ℕ) (c : Config) (u : TxWork) (items : List Item) → u.completed ≤ length (wholes c u)
    → times n (kept c (record u { peeked = u.peeked ++ items })) ≤ times n (kept c u) + times n (numbers items)
kept-peek n c u items h =
    let before : List Packet = packets c.geometry c.sg u.peeked in
    let later : List Packet = packets_from c.geometry c.sg (rest c.geometry c.sg u.peeked) items in
    let now : List Item = rest c.geometry c.sg (u.peeked ++ items) in
    let split : packets c.geometry c.sg (u.peeked ++ items) ≡ before ++ later = packets_from-append c.geometry c.sg [] u.peeked items in
    let waits : drop u.completed (whole_packets (packets c.geometry c.sg (u.peeked ++ items))) ≡ waiting c u ++ whole_packets later =
    ap (drop u.completed) (wholes-append c u.peeked items) ∙ drop-append-le u.completed (wholes c u) (whole_packets later) h in
    let new = ap (λ ws. times n (flat_map numbers ws)) waits
    ∙ ap (times n) (flat_map-append numbers (waiting c u) (whole_packets later))
    ∙ times-append n (flat_map numbers (waiting c u)) (flat_map numbers (whole_packets later)) in
    let all = ap (λ ps. times n (numbers (flat_map items_of ps))) split
    ∙ ap (λ xs. times n (numbers xs)) (flat_map-append items_of before later)
    ∙ times-numbers-append n (flat_map items_of before) (flat_map items_of later) in
    omega (
      arith,
      new,
      all,
      whole_part n later,
      times-packets n c (u.peeked ++ items),
      times-packets n c u.peeked,
      times-numbers-append n u.peeked items,
      times-append n (flat_map numbers (drop u.completed (whole_packets (packets c.geometry c.sg (u.peeked ++ items))))) (numbers now),
      times-append n (flat_map numbers (waiting c u)) (numbers (rest c.geometry c.sg u.peeked)),
    )

-- what is completed takes its frames away
pub kept-comp : (n : ℕ) (c : Config) (u : TxWork) (items : List Item)
    → times n (kept c (record u { completed = u.completed + length (completed_by items (waiting c u)) })) + times n (flat_map numbers (completed_by items (waiting c u))) ≡ times n (kept c u)
kept-comp n c u items =
    let done : List (List Item) = completed_by items (waiting c u) in
    let left : drop (u.completed + length done) (wholes c u) ≡ drop (length done) (waiting c u) = sym (drop-drop (length done) u.completed (wholes c u)) in
    let parts : done ++ drop (length done) (waiting c u) ≡ waiting c u =
    ap (λ ws. ws ++ drop (length done) (waiting c u)) (completed_by-front items (waiting c u)) ∙ take-append-drop (length done) (waiting c u) in
    let count = sym (ap (λ ws. times n (flat_map numbers ws)) parts)
    ∙ ap (times n) (flat_map-append numbers done (drop (length done) (waiting c u)))
    ∙ times-append n (flat_map numbers done) (flat_map numbers (drop (length done) (waiting c u))) in
    omega (
      arith,
      count,
      ap (λ ws. times n (flat_map numbers ws)) left,
      times-append n (flat_map numbers (drop (u.completed + length done) (wholes c u))) (numbers (rest c.geometry c.sg u.peeked)),
      times-append n (flat_map numbers (waiting c u)) (numbers (rest c.geometry c.sg u.peeked)),
    )

-- ---- those of all TX rings of some sockets

abbrev pub total : Config → List ℕ → List Told → ℕ → ℕ
total c [] mine n = 0
total c (s ∷ sockets) mine n = times n (kept c (tx_work_of c s mine)) + total c sockets mine n

total-quiet : (n : ℕ) (c : Config) (sockets : List ℕ) (mine : List Told) (t : Told)
    → ((s : ℕ) → tx_work_after c s (tx_work_of c s mine) t.call t.reply ≡ tx_work_of c s mine) → total c sockets (mine ++ t ∷ []) n ≡ total c sockets mine n
total-quiet n c [] mine t h = refl
total-quiet n c (s ∷ sockets) mine t h =
    omega (arith, total-quiet n c sockets mine t h, ap (λ u. times n (kept c u)) (tx_work_of-push c s mine t ∙ h s))

total-comp : (n : ℕ) (c : Config) (sockets : List ℕ) (mine : List Told) (d : ℕ) (items : List Item) (reply : Reply)
    → total c sockets (mine ++ (record { call = Submit (Comp d) items; reply = reply }) ∷ []) n + times n (flat_map numbers (completed_in c sockets mine (Submit (Comp d) items)))
    ≡ total c sockets mine n
total-comp n c [] mine d items reply = omega arith
total-comp n c (s ∷ sockets) mine d items reply =
    let done : List (List Item) = completed_by items (waiting c (tx_work_of c s mine)) in
    let others : List (List Item) = completed_in c sockets mine (Submit (Comp d) items) in
    omega (
      arith,
      total-comp n c sockets mine d items reply,
      kept-comp n c (tx_work_of c s mine) items,
      ap (λ u. times n (kept c u)) (tx_work_of-push c s mine (record { call = Submit (Comp d) items; reply = reply })),
      ap (times n) (flat_map-append numbers done others),
      times-append n (flat_map numbers done) (flat_map numbers others),
    )

peeked_at : (c : Config) (s k : ℕ) (mine : List Told) (socket : ℕ) (reply : Reply) (b : Bool) → is_ring (Tx s) (Tx socket) ≡ b
    → tx_work_of c s (mine ++ (record { call = Peek (Tx socket) k; reply = reply }) ∷ [])
    ≡ cond b (record (tx_work_of c s mine) { peeked = (tx_work_of c s mine).peeked ++ taken reply }) (tx_work_of c s mine)
peeked_at c s k mine socket reply b e =
    tx_work_of-push c s mine (record { call = Peek (Tx socket) k; reply = reply })
    ∙ ap (λ x. cond x (record (tx_work_of c s mine) { peeked = (tx_work_of c s mine).peeked ++ taken reply }) (tx_work_of c s mine)) e

here : (s : ℕ) (sockets : List ℕ) (socket : ℕ) → s ≡ socket → times socket (s ∷ sockets) ≡ 1 + times socket sockets
here s sockets socket e = ap (λ b. cond b 1 0 + times socket sockets) (eq-eqb s socket e)

elsewhere : (s : ℕ) (sockets : List ℕ) (socket : ℕ) → (s ≡ socket → ⊥) → times socket (s ∷ sockets) ≡ 0 + times socket sockets
elsewhere s sockets socket e = ap (λ b. cond b 1 0 + times socket sockets) (ne_eqb s socket e)

module _ (n : ℕ) (c : Config) (mine : List Told) (socket k : ℕ) (reply : Reply) where
  total-peek_none : (sockets : List ℕ) → times socket sockets ≡ 0
      → total c sockets (mine ++ (record { call = Peek (Tx socket) k; reply = reply }) ∷ []) n ≡ total c sockets mine n
  total-peek_none [] h = refl
  total-peek_none (s ∷ sockets) h = ⊎_elim
      (λ (e : s ≡ socket). absurd (omega (arith, h, here s sockets socket e)))
      (λ (e : s ≡ socket → ⊥).
      omega (
        arith,
        total-peek_none sockets (omega (arith, h, elsewhere s sockets socket e)),
        ap (λ u. times n (kept c u)) (peeked_at c s k mine socket reply false (ne_eqb s socket e)),
      ))
      (cases_eq s socket)

  total-peek : (sockets : List ℕ) → times socket sockets ≤ 1 → ((s : ℕ) → IsWithin c s mine)
      → total c sockets (mine ++ (record { call = Peek (Tx socket) k; reply = reply }) ∷ []) n ≤ total c sockets mine n + times n (numbers (taken reply))
  total-peek [] h within = omega arith
  total-peek (s ∷ sockets) h within = ⊎_elim
      (λ (e : s ≡ socket).
      omega (
        arith,
        total-peek_none sockets (omega (arith, h, here s sockets socket e)),
        ap (λ u. times n (kept c u)) (peeked_at c s k mine socket reply true (eq-eqb s socket e)),
        kept-peek n c (tx_work_of c s mine) (taken reply) (within s),
      ))
      (λ (e : s ≡ socket → ⊥).
      omega (
        arith,
        total-peek sockets (omega (arith, h, elsewhere s sockets socket e)) within,
        ap (λ u. times n (kept c u)) (peeked_at c s k mine socket reply false (ne_eqb s socket e)),
      ))
      (cases_eq s socket)

-- ---- the sockets of a queue

cond-times : (b : Bool) (n k : ℕ) (xs : List ℕ) → times n (cond b (k ∷ xs) xs) ≤ times n (k ∷ xs)
cond-times true n k xs = omega arith
cond-times false n k xs = omega arith

sockets_from-below : (k n : ℕ) (sockets : List SocketInfo) (port queue : ℕ) → k < n → times k (sockets_from n sockets port queue) ≡ 0
sockets_from-below k n [] port queue h = refl
sockets_from-below k n (socket ∷ sockets) port queue h =
    omega (
      arith,
      sockets_from-below k (n + 1) sockets port queue (omega arith),
      cond-times (eqb socket.port port && eqb socket.queue queue) k n (sockets_from (n + 1) sockets port queue),
      elsewhere n (sockets_from (n + 1) sockets port queue) k (λ e. omega arith),
    )

sockets_from-once : (k n : ℕ) (sockets : List SocketInfo) (port queue : ℕ) → times k (sockets_from n sockets port queue) ≤ 1
sockets_from-once k n [] port queue = omega arith
sockets_from-once k n (socket ∷ sockets) port queue =
    let some = cond-times (eqb socket.port port && eqb socket.queue queue) k n (sockets_from (n + 1) sockets port queue) in
    ⊎_elim
    (λ (e : n ≡ k). omega (arith, some, here n (sockets_from (n + 1) sockets port queue) k e, sockets_from-below k (n + 1) sockets port queue (omega arith)))
    (λ (e : n ≡ k → ⊥). omega (arith, some, elsewhere n (sockets_from (n + 1) sockets port queue) k e, sockets_from-once k (n + 1) sockets port queue))
    (cases_eq n k)

-- a part of a joined list is no longer than it
part_of_sockets : (f : ℕ → List (List Item)) (n k : ℕ) (sockets : List SocketInfo) (port queue : ℕ) (d : SocketInfo) → k < length sockets
    → (get_or sockets k d).port ≡ port → (get_or sockets k d).queue ≡ queue → length (f (n + k)) ≤ length (flat_map f (sockets_from n sockets port queue))
part_of_sockets f n k [] port queue d h at on = absurd (omega arith)
part_of_sockets f n zero (socket ∷ sockets) port queue d h at on =
    let test : (eqb socket.port port && eqb socket.queue queue) ≡ true = and_from (eqb socket.port port) (eqb socket.queue queue) (eq-eqb socket.port port at) (eq-eqb socket.queue queue on) in
    let is = ap (λ b. length (flat_map f (cond b (n ∷ sockets_from (n + 1) sockets port queue) (sockets_from (n + 1) sockets port queue)))) test in
    let same = ap (λ m. length (f m)) (add_zero n) in
    omega (arith, is, same, length-append (f n) (flat_map f (sockets_from (n + 1) sockets port queue)))
  where
    add_zero : (m : ℕ) → m + 0 ≡ m
    add_zero m = omega arith
part_of_sockets f n (suc k) (socket ∷ sockets) port queue d h at on =
    let rest = part_of_sockets f (n + 1) k sockets port queue d (omega arith) at on in
    let same : n + suc k ≡ (n + 1) + k = omega arith in
    let more = longer (eqb socket.port port && eqb socket.queue queue) n (sockets_from (n + 1) sockets port queue) in
    omega (arith, rest, ap (λ m. length (f m)) same, more)
  where
    longer : (b : Bool) (m : ℕ) (xs : List ℕ) → length (flat_map f xs) ≤ length (flat_map f (cond b (m ∷ xs) xs))
    longer true m xs = omega (arith, length-append (f m) (flat_map f xs))
    longer false m xs = omega arith

-- ---- what a driver's own entries keep

pub record IsKept (c : Config) (d : ℕ) (mine : List Told) : Type 0 where
  pub once : (n : ℕ) → times n (had_of mine) ≤ 1
  pub within : (s : ℕ) → IsWithin c s mine
  pub had : (n : ℕ) → total c (sockets_of c d) mine n ≤ times n (had_of mine)
  pub apart : (n : ℕ) → is_from_fill n mine ≡ true → total c (sockets_of c d) mine n ≡ 0

pub times-had_of-push : (n : ℕ) (mine : List Told) (t : Told)
    → times n (had_of (mine ++ t ∷ [])) ≡ times n (had_of mine) - times n (numbers (submitted t.call)) + times n (numbers (taken t.reply))
times-had_of-push n mine t =
    let now = ap (times n) (had_of-push mine t) in
    omega (arith, now, times-append n (without (numbers (submitted t.call)) (had_of mine)) (numbers (taken t.reply)), times-without n (numbers (submitted t.call)) (had_of mine))

pub from_fill-push : (n : ℕ) (mine : List Told) (t : Told)
    → is_from_fill n (mine ++ t ∷ []) ≡ cond (nat_lt 0 (times n (numbers (taken t.reply)))) (is_fill_peek t.call) (is_from_fill n mine)
from_fill-push n mine t = fold_push (fill_step n) false mine t

-- a call that takes nothing leaves where frames came from
from_fill-none : (n : ℕ) (mine : List Told) (t : Told) → taken t.reply ≡ [] → is_from_fill n (mine ++ t ∷ []) ≡ is_from_fill n mine
from_fill-none n mine t h =
    from_fill-push n mine t ∙ ap (λ items. cond (nat_lt 0 (times n (numbers items))) (is_fill_peek t.call) (is_from_fill n mine)) h

once-push : (c : Config) (mine : List Told) (t : Told) → Fits c mine t.call t.reply → ((n : ℕ) → times n (had_of mine) ≤ 1)
    → (n : ℕ) → times n (had_of (mine ++ t ∷ [])) ≤ 1
once-push c mine t fits once n = elim (fits_taken c mine t.call t.reply fits) [
  | inl e ↦ omega (arith, once n, times-had_of-push n mine t, ap (λ items. times n (numbers items)) e)
  | inr peeked ↦ omega (arith, times-had_of-push n mine t, peeked.3.fresh n)
]

-- a call that brings and completes nothing, and submits frames from FILL alone
quiet : (c : Config) (d : ℕ) (mine : List Told) (t : Told) → Fits c mine t.call t.reply → taken t.reply ≡ []
    → ((s : ℕ) → tx_work_after c s (tx_work_of c s mine) t.call t.reply ≡ tx_work_of c s mine)
    → ((n : ℕ) → 1 ≤ times n (numbers (submitted t.call)) → is_from_fill n mine ≡ true) → IsKept c d mine → IsKept c d (mine ++ t ∷ [])
quiet c d mine t fits none still from h = record {
  once = once-push c mine t fits h.once;
  within = λ s. within-push c s mine t (h.within s);
  had = λ n.
      let now = times-had_of-push n mine t in
      let same = total-quiet n c (sockets_of c d) mine t still in
      ⊎_elim
      (λ (some : 0 < times n (numbers (submitted t.call))). omega (arith, same, h.apart n (from n some)))
      (λ (few : times n (numbers (submitted t.call)) ≤ 0). omega (arith, same, now, h.had n, few))
      (cases_lt 0 (times n (numbers (submitted t.call))));
  apart = λ n e. total-quiet n c (sockets_of c d) mine t still ∙ h.apart n (sym (from_fill-none n mine t none) ∙ e);
}

nothing : (n : ℕ) (mine : List Told) → 1 ≤ times n [] → is_from_fill n mine ≡ true
nothing n mine h = absurd (omega arith)

not_lt : (n : ℕ) → n ≤ 0 → nat_lt 0 n ≡ false
not_lt n h = le-ltb 0 n h

-- the frames of a Peek on a ring that isn't TX
peek_other : (c : Config) (d : ℕ) (mine : List Told) (r : Ring) (k : ℕ) (reply : Reply) → Fits c mine (Peek r k) reply
    → ((s : ℕ) → is_ring (Tx s) r ≡ false) → IsKept c d mine → IsKept c d (mine ++ (record { call = Peek r k; reply = reply }) ∷ [])
peek_other c d mine r k reply fits off h =
    let t : Told = record { call = Peek r k; reply = reply } in
    let still : (s : ℕ) → tx_work_after c s (tx_work_of c s mine) (Peek r k) reply ≡ tx_work_of c s mine =
    λ s. ap (λ b. cond b (record (tx_work_of c s mine) { peeked = (tx_work_of c s mine).peeked ++ taken reply }) (tx_work_of c s mine)) (off s) in
    record {
      once = once-push c mine t fits h.once;
      within = λ s. within-push c s mine t (h.within s);
      had = λ n. omega (arith, total-quiet n c (sockets_of c d) mine t still, times-had_of-push n mine t, h.had n);
      apart = λ n e. ⊎_elim
          (λ (some : 0 < times n (numbers (taken reply))).
          elim (fits_taken c mine (Peek r k) reply fits) [
            | inl none ↦ absurd (omega (arith, some, ap (λ items. times n (numbers items)) none))
            | inr peeked ↦ omega (arith, total-quiet n c (sockets_of c d) mine t still, h.had n, peeked.3.fresh n, some)
          ])
          (λ (none : times n (numbers (taken reply)) ≤ 0).
          let before : is_from_fill n mine ≡ true =
          ap (λ b. cond b (is_fill_peek (Peek r k)) (is_from_fill n mine)) (sym (not_lt (times n (numbers (taken reply))) none)) ∙ sym (from_fill-push n mine t) ∙ e in
          total-quiet n c (sockets_of c d) mine t still ∙ h.apart n before)
          (cases_lt 0 (times n (numbers (taken reply))));
    }

-- of one on TX
peek_tx : (c : Config) (d : ℕ) (mine : List Told) (socket k : ℕ) (reply : Reply) → Fits c mine (Peek (Tx socket) k) reply
    → IsKept c d mine → IsKept c d (mine ++ (record { call = Peek (Tx socket) k; reply = reply }) ∷ [])
peek_tx c d mine socket k reply fits h =
    let t : Told = record { call = Peek (Tx socket) k; reply = reply } in
    let few : times socket (sockets_of c d) ≤ 1 = sockets_from-once socket 0 c.sockets (pair_at c.pairs d).port (pair_at c.pairs d).queue in
    record {
      once = once-push c mine t fits h.once;
      within = λ s. within-push c s mine t (h.within s);
      had = λ n. omega (arith, total-peek n c mine socket k reply (sockets_of c d) few h.within, times-had_of-push n mine t, h.had n);
      apart = λ n e. ⊎_elim
          (λ (some : 0 < times n (numbers (taken reply))).
          let not_fill : false ≡ true =
          ap (λ b. cond b false (is_from_fill n mine)) (sym (lt-ltb 0 (times n (numbers (taken reply))) some)) ∙ sym (from_fill-push n mine t) ∙ e in
          absurd (cc))
          (λ (none : times n (numbers (taken reply)) ≤ 0).
          let before : is_from_fill n mine ≡ true =
          ap (λ b. cond b false (is_from_fill n mine)) (sym (not_lt (times n (numbers (taken reply))) none)) ∙ sym (from_fill-push n mine t) ∙ e in
          omega (arith, total-peek n c mine socket k reply (sockets_of c d) few h.within, h.apart n before))
          (cases_lt 0 (times n (numbers (taken reply))));
    }

-- ---- completed packets

pub is_same-true : (xs ys : List ℕ) → is_same xs ys ≡ true → xs ≡ ys
is_same-true [] [] h = refl
is_same-true [] (y ∷ ys) h = absurd (cc)
is_same-true (x ∷ xs) [] h = absurd (cc)
is_same-true (x ∷ xs) (y ∷ ys) h =
    let both = and_parts (eqb x y) (is_same xs ys) h in
    let head : x ≡ y = eqb-true x y both.0 in
    let tail : xs ≡ ys = is_same-true xs ys both.1 in
    cc

pub is_same-self : (xs : List ℕ) → is_same xs xs ≡ true
is_same-self [] = refl
is_same-self (x ∷ xs) = and_from (eqb x x) (is_same xs xs) (eq-eqb x x refl) (is_same-self xs)

each_done : (n : ℕ) (items : List Item) (b : Bool) (packet : List Item) → b ≡ is_same (numbers items) (numbers packet)
    → times n (flat_map numbers (cond b (packet ∷ []) [])) ≡ length (cond b (packet ∷ []) []) * times n (numbers items)
each_done n items true packet e =
    let same = ap (times n) (is_same-true (numbers items) (numbers packet) (sym e)) in
    let one : 1 * times n (numbers items) ≡ times n (numbers items) = omega arith in
    omega (arith, same, one, times-append n (numbers packet) [])
each_done n items false packet e = omega arith

-- each packet that a Submit completes has the frames of its items
done_by : (n : ℕ) (items : List Item) (waits : List (List Item))
    → times n (flat_map numbers (completed_by items waits)) ≡ length (completed_by items waits) * times n (numbers items)
done_by n items [] = omega arith
done_by n items (packet ∷ later) = each_done n items (is_same (numbers items) (numbers packet)) packet refl

done_in : (n : ℕ) (c : Config) (sockets : List ℕ) (mine : List Told) (d : ℕ) (items : List Item)
    → times n (flat_map numbers (completed_in c sockets mine (Submit (Comp d) items))) ≡ length (completed_in c sockets mine (Submit (Comp d) items)) * times n (numbers items)
done_in n c [] mine d items = omega arith
done_in n c (s ∷ sockets) mine d items =
    let done : List (List Item) = completed_by items (waiting c (tx_work_of c s mine)) in
    let others : List (List Item) = completed_in c sockets mine (Submit (Comp d) items) in
    let len = ap (λ k. k * times n (numbers items)) (length-append done others) ∙ add-mul (length done) (length others) (times n (numbers items)) in
    omega (
      arith,
      len,
      done_by n items (waiting c (tx_work_of c s mine)),
      done_in n c sockets mine d items,
      ap (times n) (flat_map-append numbers done others),
      times-append n (flat_map numbers done) (flat_map numbers others),
    )

done_here : (items packet : List Item) (later waits : List (List Item)) → waits ≡ packet ∷ later → numbers items ≡ numbers packet
    → length (completed_by items waits) ≡ 1
done_here items packet later waits e h =
    ap (λ ws. length (completed_by items ws)) e
    ∙ ap (λ ns. length (cond (is_same (numbers items) ns) (packet ∷ []) [])) (sym h)
    ∙ ap (λ b. length (cond b (packet ∷ []) [])) (is_same-self (numbers items))

-- a legal Submit on COMPLETION completes a packet of a socket of its queue
done_some : (c : Config) (d : ℕ) (mine : List Told) (items : List Item) → AreCompleted c mine (Comp d) items
    → 1 ≤ length (completed_in c (sockets_of c d) mine (Submit (Comp d) items))
done_some c d mine items h =
    let here = done_here items h.packet h.later (waiting c (tx_work_of c h.socket mine)) h.next h.frames in
    let part = part_of_sockets (λ s. completed_by items (waiting c (tx_work_of c s mine))) 0 h.socket c.sockets (pair_at c.pairs d).port (pair_at c.pairs d).queue
    (record { port = 0; queue = 0; rx = None; tx = None }) h.tx.0 h.port h.queue in
    let zero_add : 0 + h.socket ≡ h.socket = omega arith in
    omega (arith, here, part, ap (λ s. length (completed_by items (waiting c (tx_work_of c s mine)))) zero_add)

submit_comp : (c : Config) (d : ℕ) (mine : List Told) (items : List Item) (reply : Reply) → Fits c mine (Submit (Comp d) items) reply → taken reply ≡ []
    → AreCompleted c mine (Comp d) items → IsKept c d mine → IsKept c d (mine ++ (record { call = Submit (Comp d) items; reply = reply }) ∷ [])
submit_comp c d mine items reply fits none completed h =
    let t : Told = record { call = Submit (Comp d) items; reply = reply } in
    record {
      once = once-push c mine t fits h.once;
      within = λ s. within-push c s mine t (h.within s);
      had = λ n.
          let some = mul-le-mul_right (times n (numbers items)) (done_some c d mine items completed) in
          omega (arith, total-comp n c (sockets_of c d) mine d items reply, done_in n c (sockets_of c d) mine d items, some, times-had_of-push n mine t, h.had n);
      apart = λ n e.
          let before : is_from_fill n mine ≡ true = sym (from_fill-none n mine t none) ∙ e in
          omega (arith, total-comp n c (sockets_of c d) mine d items reply, h.apart n before);
    }

-- ---- one call

no_items_taken : (c : Config) (mine : List Told) (call : Call) (reply : Reply) → Fits c mine call reply → ((r : Ring) (n : ℕ) → call ≡ Peek r n → ⊥) → taken reply ≡ []
no_items_taken c mine call reply fits other = elim (fits_taken c mine call reply fits) [
  | inl none ↦ none
  | inr peeked ↦ absurd (other peeked.0 peeked.1 peeked.2)
]

module _ (c : Config) (d : ℕ) (below : d < length c.pairs) where
  kept_step : (mine : List Told) (call : Call) (reply : Reply) → IsLegal c mine d call → Fits c mine call reply → IsKept c d mine
      → IsKept c d (mine ++ (record { call = call; reply = reply }) ∷ [])
  kept_step mine (Reserve r n) reply legal fits h =
      quiet c d mine (record { call = Reserve r n; reply = reply }) fits (no_items_taken c mine (Reserve r n) reply fits (λ q k e. cc)) (λ s. refl) (λ k. nothing k mine) h
  kept_step mine (Submit (Fill e) items) reply legal fits h = absurd (omega (arith, below, legal.role))
  kept_step mine (Submit (Comp e) items) reply legal fits h =
      let none : taken reply ≡ [] = no_items_taken c mine (Submit (Comp e) items) reply fits (λ q k p. cc) in
      let same : d ≡ e = legal.role in
      subst (λ p. IsKept c d (mine ++ (record { call = Submit (Comp p) items; reply = reply }) ∷ [])) same
      (submit_comp c d mine items reply (subst (λ p. Fits c mine (Submit (Comp p) items) reply) (sym same) fits) none
      (subst (λ p. AreCompleted c mine (Comp p) items) (sym same) legal.packets) h)
  kept_step mine (Submit (Rx s) items) reply legal fits h =
      quiet c d mine (record { call = Submit (Rx s) items; reply = reply }) fits (no_items_taken c mine (Submit (Rx s) items) reply fits (λ q k e. cc)) (λ s. refl) legal.packets.from_fill h
  kept_step mine (Submit (Tx s) items) reply legal fits h = absurd (omega (arith, below, legal.role))
  kept_step mine (Peek (Fill e) k) reply legal fits h = peek_other c d mine (Fill e) k reply fits (λ s. refl) h
  kept_step mine (Peek (Comp e) k) reply legal fits h = peek_other c d mine (Comp e) k reply fits (λ s. refl) h
  kept_step mine (Peek (Rx s) k) reply legal fits h = peek_other c d mine (Rx s) k reply fits (λ s. refl) h
  kept_step mine (Peek (Tx s) k) reply legal fits h = peek_tx c d mine s k reply fits h
  kept_step mine (Release r n) reply legal fits h =
      quiet c d mine (record { call = Release r n; reply = reply }) fits (no_items_taken c mine (Release r n) reply fits (λ q k e. cc)) (λ s. refl) (λ k. nothing k mine) h
  kept_step mine (Swap m value) reply legal fits h =
      quiet c d mine (record { call = Swap m value; reply = reply }) fits (no_items_taken c mine (Swap m value) reply fits (λ q k e. cc)) (λ s. refl) (λ k. nothing k mine) h
  kept_step mine (Look m) reply legal fits h =
      quiet c d mine (record { call = Look m; reply = reply }) fits (no_items_taken c mine (Look m) reply fits (λ q k e. cc)) (λ s. refl) (λ k. nothing k mine) h

  total-none : (sockets : List ℕ) (n : ℕ) → total c sockets [] n ≡ 0
  total-none [] n = refl
  total-none (s ∷ sockets) n = omega (arith, total-none sockets n)

  pub own_kept : (mine : List Told) → OwnGoesOn c d [] mine → IsKept c d mine
  own_kept mine goes =
      own_all (IsKept c d) c d [] mine (λ before t legal fits h. kept_step before t.call t.reply legal fits h) goes
      (record {
        once = λ n. omega arith;
        within = λ s. omega arith;
        had = λ n. omega (arith, total-none (sockets_of c d) n);
        apart = λ n e. total-none (sockets_of c d) n;
      })

-- ---- a packet has a frame

pub whole_of_packets : (c : Config) (ps : List Packet) → All (IsPacket c.geometry c.sg) ps → All (IsWhole c.geometry c.sg) (whole_packets ps)
whole_of_packets c [] h = All-nil (IsWhole c.geometry c.sg)
whole_of_packets c (whole items ∷ ps) h =
    All-cons (IsWhole c.geometry c.sg) items (whole_packets ps) (All-head (IsPacket c.geometry c.sg) (whole items) ps h)
    (whole_of_packets c ps (All-tail (IsPacket c.geometry c.sg) (whole items) ps h))
whole_of_packets c (bad items ∷ ps) h = whole_of_packets c ps (All-tail (IsPacket c.geometry c.sg) (bad items) ps h)

pub waiting_whole : (c : Config) (u : TxWork) (packet : List Item) (later : List (List Item)) → waiting c u ≡ packet ∷ later → IsWhole c.geometry c.sg packet
waiting_whole c u packet later e =
    let all = whole_of_packets c (packets c.geometry c.sg u.peeked) (packets-made c.geometry c.sg u.peeked).0 in
    All-head (IsWhole c.geometry c.sg) packet later (subst (λ ws. All (IsWhole c.geometry c.sg) ws) e (All-drop (IsWhole c.geometry c.sg) u.completed (wholes c u) all))

framed : (g : Geometry) (frame : Option Frame) (address : ℕ) → option_map (λ (f : Frame). f.number) frame ≡ frame_of g address → nat_lt address (area_of g) ≡ true
    → 1 ≤ length (number_of frame)
framed g None address is inside =
    let some : None ≡ Some (address / g.chunk) = is ∙ ap (λ b. cond b (Some (address / g.chunk)) None) inside in
    absurd (cc)
framed g (Some f) address is inside = omega arith

times-numbers-at : (n : ℕ) (items : List Item) (k : ℕ) (d : Item) → k < length items → times n (number_of (get_or items k d).frame) ≤ times n (numbers items)
times-numbers-at n [] k d h = absurd (omega arith)
times-numbers-at n (item ∷ items) zero d h = omega (arith, times-append n (number_of item.frame) (numbers items))
times-numbers-at n (item ∷ items) (suc k) d h = omega (arith, times-append n (number_of item.frame) (numbers items), times-numbers-at n items k d (omega arith))

some_number : (ns : List ℕ) → 1 ≤ length ns → (n : ℕ) × (1 ≤ times n ns)
some_number [] h = absurd (omega arith)
some_number (n ∷ ns) h = (n, omega (arith, ap {B = ℕ} (λ b. cond b 1 0) (eq-eqb n n refl)))

-- the items have the addresses of a whole packet, so one of them has a frame
completed_frame : (c : Config) (d : ℕ) (items packet : List Item) → All (IsItemOn c.geometry (Comp d)) items → IsWhole c.geometry c.sg packet
    → map (λ (i : Item). i.desc.addr) items ≡ map (λ (i : Item). i.desc.addr) packet → (n : ℕ) × (1 ≤ times n (numbers items))
completed_frame c d items packet lawful w same =
    let size : length packet ≡ length w.front + 1 = omega (arith, ap length w.is, length-append w.front (w.last ∷ [])) in
    let as_long : length items ≡ length packet =
    omega (arith, ap length same, length-map items (λ (i : Item). i.desc.addr), length-map packet (λ (i : Item). i.desc.addr)) in
    let in_items : length w.front < length items = omega arith in
    let in_packet : length w.front < length packet = omega arith in
    let last_is : get_or packet (length w.front) w.last ≡ w.last =
    ap (λ xs. get_or xs (length w.front) w.last) w.is ∙ get_or_at w.front w.last [] w.last (length w.front) refl in
    let address : (get_or items (length w.front) w.last).desc.addr ≡ w.last.desc.addr =
    sym (get_or-map (λ (i : Item). i.desc.addr) items (length w.front) w.last 0 in_items)
    ∙ ap (λ xs. get_or xs (length w.front) 0) same
    ∙ get_or-map (λ (i : Item). i.desc.addr) packet (length w.front) w.last 0 in_packet
    ∙ ap (λ (i : Item). i.desc.addr) last_is in
    let inside : nat_lt w.last.desc.addr (area_of c.geometry) ≡ true = valid_inside c w.last w.valid in
    let mine : IsItemOn c.geometry (Comp d) (get_or items (length w.front) w.last) = lawful (length w.front) w.last in_items in
    let has : 1 ≤ length (number_of (get_or items (length w.front) w.last).frame) =
    framed c.geometry (get_or items (length w.front) w.last).frame (get_or items (length w.front) w.last).desc.addr mine.frame
    (ap (λ a. nat_lt a (area_of c.geometry)) address ∙ inside) in
    let some = some_number (number_of (get_or items (length w.front) w.last).frame) has in
    (some.0, omega (arith, some.1, times-numbers-at some.0 items (length w.front) w.last in_items))
  where
    valid_inside : (c : Config) (item : Item) → IsTrue (is_valid c.geometry c.sg item.desc) → nat_lt item.desc.addr (area_of c.geometry) ≡ true
    valid_inside c item h =
        let three = and_parts (is_inside c.geometry item.desc && has_bytes item.desc && fits_chunk c.geometry item.desc) (has_known_options c.sg item.desc) h in
        let two = and_parts (is_inside c.geometry item.desc && has_bytes item.desc) (fits_chunk c.geometry item.desc) three.0 in
        (and_parts (is_inside c.geometry item.desc) (has_bytes item.desc) two.0).0

pub one_completion : (c : Config) (d : ℕ) (mine : List Told) (items : List Item) → OwnGoesOn c d [] mine → IsLegal c mine d (Submit (Comp d) items)
    → length (completed_in c (sockets_of c d) mine (Submit (Comp d) items)) ≡ 1
one_completion c d mine items goes legal =
    let completed : AreCompleted c mine (Comp d) items = legal.packets in
    let kept : IsKept c d mine = own_kept c d legal.known mine goes in
    let packet_whole = waiting_whole c (tx_work_of c completed.socket mine) completed.packet completed.later completed.next in
    let frame : (n : ℕ) × (1 ≤ times n (numbers items)) = completed_frame c d items completed.packet legal.items packet_whole completed.addresses in
    let most = mul-le-mul_left (length (completed_in c (sockets_of c d) mine (Submit (Comp d) items))) frame.1 in
    omega (
      arith,
      done_some c d mine items completed,
      most,
      total-comp frame.0 c (sockets_of c d) mine d items Submitted,
      done_in frame.0 c (sockets_of c d) mine d items,
      kept.had frame.0,
      kept.once frame.0,
    )
