-- A visit to a lane, call by call.
use Rattle.std.proofs.Common.{◌≡◌, ℕ, List, [], ◌∷◌, length, refl, sym, ap, ◌∙◌, subst, arith, get_or-set_same, length-set, Option, None, set, ◌/◌}
use Rattle.std.proofs.lemmas.List.{set-set, set-get_or}
use Rattle.xsk_umem.specs.declared.batch.Item.{Item}
use Rattle.xsk_model.specs.Config.{Config, batch_of, classes_of}
use Rattle.xsk_model.specs.declared.call.Call.TheVariants.{Reserve, Submit, Peek, Release}
use Rattle.xsk_model.specs.declared.call.Mark.TheVariants.{NeedTx}
use Rattle.xsk_model.specs.declared.call.Reply.{Reply}
use Rattle.xsk_model.specs.declared.call.Reply.TheVariants.{Granted}
use Rattle.xsk_model.specs.declared.call.Ring.TheVariants.{Rx, Tx}
use Rattle.xsk_turns.specs.Mangling.{given_by, back_by, number_by}
use Rattle.xsk_turns.specs.Script.{Script, ask, again, granted_or_full, on_submitted, items_or_empty, on_released}
use Rattle.xsk_turns.specs.AppTurns.{AppKept, tx_of, rx_of, tx_pair, pending_at, with_pending, awaited_after, cut_after, received, wake, pass_on, receive_lane}
use Rattle.xsk_table.specs.Held.{Holder}
use Rattle.xsk_app.specs.declared.machine.Way.{Way}
use Rattle.xsk_shared_ends.specs.Standing.{Origin, At, VisitsLane, PassesOn, Wakes, next}
use Rattle.xsk_shared_ends.specs.declared.visiting.Step.{Step}
use Rattle.xsk_shared_ends.specs.declared.visiting.Step.TheVariants.{Moved}

pub with_pending-again : (kept : AppKept) (lane : ℕ) (xs ys : List Item) → with_pending (with_pending kept lane xs) lane ys ≡ with_pending kept lane ys
with_pending-again kept lane xs ys = ap (λ (p : List (List Item)). let k : AppKept = record kept { pending = p } in k) (set-set kept.pending lane xs ys)

pub with_pending-same : (kept : AppKept) (lane : ℕ) → with_pending kept lane (pending_at kept lane) ≡ kept
with_pending-same kept lane = ap (λ (p : List (List Item)). let k : AppKept = record kept { pending = p } in k) (set-get_or kept.pending lane [])

-- the same lane with the same items
pub same_kept : (kept : AppKept) (lane : ℕ) (items : List Item) → items ≡ pending_at kept lane → kept ≡ with_pending kept lane items
same_kept kept lane items e = sym (with_pending-same kept lane) ∙ ap (with_pending kept lane) (sym e)

-- where no socket is closed, nothing else is kept of what a lane received
received_open : (c : Config) (a lane : ℕ) (kept : AppKept) (items : List Item) → c.closing ≡ None → received c a lane kept items ≡ with_pending kept lane items
received_open c a lane kept items none = ap by_closing none
  where
    by_closing : Option ℕ → AppKept
    by_closing closing = record kept {
      pending = set kept.pending lane items;
      awaited = awaited_after c a lane closing items kept.awaited;
      cut = cut_after c a lane closing items kept.cut;
    }

module _ (o : Origin) (lane : ℕ) (k : AppKept) where
  -- what is left once places were asked for, and once the items were put there
  abbrev pub sent : Script AppKept
  sent = wake o.config (NeedTx (tx_of o.config o.app lane)) (tx_pair o.config o.app lane) (with_pending k lane []) (again (with_pending k lane []))

  abbrev pub on_tx : Reply → Script AppKept
  on_tx = granted_or_full (ask (with_pending k lane []) (Submit (Tx (tx_of o.config o.app lane)) (pending_at k lane)) (on_submitted sent)) (again k)

  -- nothing is changed
  as_they_are : k.manner.mangle ≡ None → pass_on o.config o.app lane k next ≡ ask k (Reserve (Tx (tx_of o.config o.app lane)) (length (pending_at k lane))) on_tx
  as_they_are e = ap (λ m. by_manner m) e
    where
      kept_by : Option ℕ → AppKept
      kept_by m = record k {
        pending = set k.pending lane [];
        back = back_by m k.number (pending_at k lane) (lane / classes_of o.config) k.back;
        number = number_by m k.number (length (pending_at k lane));
      }

      by_manner : Option ℕ → Script AppKept
      by_manner m =
          ask k (Reserve (Tx (tx_of o.config o.app lane)) (length (pending_at k lane)))
          (granted_or_full
          (ask (kept_by m) (Submit (Tx (tx_of o.config o.app lane)) (given_by o.config.geometry m k.number (pending_at k lane)))
          (on_submitted (wake o.config (NeedTx (tx_of o.config o.app lane)) (tx_pair o.config o.app lane) (kept_by m) (again (kept_by m)))))
          (again k))

  pub asks_tx : (p : Holder) (tx n : ℕ) → k.manner.mangle ≡ None → tx ≡ tx_of o.config o.app lane → n ≡ length (pending_at k lane) → At o p (pass_on o.config o.app lane k next) Moved
      → At o p (ask k (Reserve (Tx tx) n) on_tx) Moved
  asks_tx p tx n plain e f at =
      let there = subst (λ s. At o p s Moved) (as_they_are plain) at in
      subst (λ (t : ℕ). At o p (ask k (Reserve (Tx t) n) on_tx) Moved) (sym e) (subst (λ (m : ℕ). At o p (ask k (Reserve (Tx (tx_of o.config o.app lane)) m) on_tx) Moved) (sym f) there)

  pub submits_tx : (p : Holder) (tx : ℕ) (items : List Item) → tx ≡ tx_of o.config o.app lane → items ≡ pending_at k lane
      → At o p (ask (with_pending k lane []) (Submit (Tx (tx_of o.config o.app lane)) (pending_at k lane)) (on_submitted sent)) Moved
      → At o p (ask (with_pending k lane []) (Submit (Tx tx) items) (on_submitted sent)) Moved
  submits_tx p tx items e f at =
      subst (λ (t : ℕ). At o p (ask (with_pending k lane []) (Submit (Tx t) items) (on_submitted sent)) Moved) (sym e)
      (subst (λ xs. At o p (ask (with_pending k lane []) (Submit (Tx (tx_of o.config o.app lane)) xs) (on_submitted sent)) Moved) (sym f) at)

  -- a full TX ring
  pub stays_pending : (p : Holder) (items : List Item) (came : Step) → items ≡ pending_at k lane → At o p (again k) came → At o p (again (with_pending k lane items)) came
  stays_pending p items came e at = subst (λ kept. At o p (again kept) came) (same_kept k lane items e) at

  -- what is left once the lane's RX ring was peeked, and the items that it gave are kept
  abbrev pub on_rx : Reply → Script AppKept
  on_rx = items_or_empty (receive_lane o.config o.app lane k next) (again k)

  pub asks_rx : (p : Holder) (rx batch : ℕ) → rx ≡ rx_of o.config o.app lane → batch ≡ batch_of o.config → At o p (ask k (Peek (Rx (rx_of o.config o.app lane)) (batch_of o.config)) on_rx) Moved
      → At o p (ask k (Peek (Rx rx) batch) on_rx) Moved
  asks_rx p rx batch e f at =
      subst (λ (t : ℕ). At o p (ask k (Peek (Rx t) batch) on_rx) Moved) (sym e) (subst (λ (m : ℕ). At o p (ask k (Peek (Rx (rx_of o.config o.app lane)) m) on_rx) Moved) (sym f) at)

  pub releases_rx : (p : Holder) (rx n : ℕ) (items : List Item) → rx ≡ rx_of o.config o.app lane → n ≡ length items → At o p (receive_lane o.config o.app lane k next items) Moved
      → At o p (ask (with_pending k lane items) (Release (Rx rx) n) (on_released (pass_on o.config o.app lane (with_pending k lane items) next))) Moved
  releases_rx p rx n items e f at =
      let there = subst (λ (kept : AppKept). At o p (ask kept (Release (Rx (rx_of o.config o.app lane)) (length items)) (on_released (pass_on o.config o.app lane kept next))) Moved)
      (received_open o.config o.app lane k items at.begins.closes) at in
      subst (λ (t : ℕ). At o p (ask (with_pending k lane items) (Release (Rx t) n) (on_released (pass_on o.config o.app lane (with_pending k lane items) next))) Moved) (sym e)
      (subst (λ (m : ℕ). At o p (ask (with_pending k lane items) (Release (Rx (rx_of o.config o.app lane)) m) (on_released (pass_on o.config o.app lane (with_pending k lane items) next))) Moved) (sym f) there)

module _ (c : Config) (way : Way) (o : Origin) (lane : ℕ) (k : AppKept) where
  -- a visit where items are pending, and where none is
  pub lane_full : (items : List Item) (p : Holder) → (items ≡ [] → ⊥) → VisitsLane c way o lane k items p → PassesOn c way o lane k items p
  lane_full [] p some v = absurd (some refl)
  lane_full (item ∷ items) p some v = record { config = v.config; way_is = v.way_is; items_are = v.items_are; lanes = v.lanes; plain = v.plain; at = v.at }

  pub lane_peeks : (items : List Item) (p : Holder) (batch : ℕ) → items ≡ [] → batch ≡ batch_of c → VisitsLane c way o lane k items p
      → At o p (ask k (Peek (Rx way.rx) batch) (on_rx o lane k)) Moved
  lane_peeks [] p batch none few v = asks_rx o lane k p way.rx batch v.way_is.rx (few ∙ ap batch_of v.config) v.at
  lane_peeks (item ∷ items) p batch none few v = absurd (cc)

  pub lane_releases : (items got : List Item) (p q : Holder) (n : ℕ) → n ≡ length got → VisitsLane c way o lane k items p → At o q (receive_lane o.config o.app lane k next got) Moved
      → At o q (ask (with_pending k lane got) (Release (Rx way.rx) n) (on_released (pass_on o.config o.app lane (with_pending k lane got) next))) Moved
  lane_releases items got p q n count v at = releases_rx o lane k q way.rx n got v.way_is.rx count at

  pub lane_passes : (items got now : List Item) (p q : Holder) → now ≡ got → VisitsLane c way o lane k items p → At o q (pass_on o.config o.app lane (with_pending k lane got) next) Moved
      → PassesOn c way o lane (with_pending k lane got) now q
  lane_passes items got now p q same v at = record {
    config = v.config;
    way_is = v.way_is;
    items_are = same ∙ sym (get_or-set_same k.pending lane got [] v.lanes);
    lanes = omega (arith, v.lanes, length-set k.pending lane got);
    plain = v.plain;
    at = at;
  }

  pub lane_stays : (items : List Item) (p q : Holder) (came : Step) → VisitsLane c way o lane k items p → At o q (again k) came → At o q (again (with_pending k lane items)) came
  lane_stays items p q came v at = stays_pending o lane k q items came v.items_are at

  -- its items go on
  pub asks_places : (items : List Item) (p : Holder) (n : ℕ) → n ≡ length items → PassesOn c way o lane k items p → At o p (ask k (Reserve (Tx way.tx) n) (on_tx o lane k)) Moved
  asks_places items p n count h = asks_tx o lane k p way.tx n h.plain h.way_is.tx (count ∙ ap length h.items_are) h.at

  pub puts_items : (items put : List Item) (p q : Holder) → put ≡ items → PassesOn c way o lane k items p → At o q (on_tx o lane k Granted) Moved
      → At o q (ask (with_pending k lane []) (Submit (Tx way.tx) put) (on_submitted (sent o lane k))) Moved
  puts_items items put p q same h at = submits_tx o lane k q way.tx put h.way_is.tx (same ∙ h.items_are) at

  pub wakes_lane : (items : List Item) (p q : Holder) → PassesOn c way o lane k items p → At o q (sent o lane k) Moved
      → Wakes c o (NeedTx way.tx) way.pair (with_pending k lane []) (again (with_pending k lane [])) Moved q
  wakes_lane items p q h at = record {
    config = h.config;
    at = subst (λ (t : ℕ). At o q (wake o.config (NeedTx t) way.pair (with_pending k lane []) (again (with_pending k lane []))) Moved) (sym h.way_is.tx)
        (subst (λ (d : ℕ). At o q (wake o.config (NeedTx (tx_of o.config o.app lane)) d (with_pending k lane []) (again (with_pending k lane []))) Moved) (sym h.way_is.pair) at);
  }

pub pending_now : (o : Origin) (lane : ℕ) (k : AppKept) (xs ys : List Item) (q : Holder) (came : Step) → xs ≡ ys → At o q (again (with_pending k lane ys)) came → At o q (again (with_pending k lane xs)) came
pending_now o lane k xs ys q came e at = subst (λ zs. At o q (again (with_pending k lane zs)) came) (sym e) at

pub pending_again : (o : Origin) (lane : ℕ) (k : AppKept) (xs ys : List Item) (q : Holder) (came : Step) → At o q (again (with_pending (with_pending k lane xs) lane ys)) came → At o q (again (with_pending k lane ys)) came
pending_again o lane k xs ys q came at = subst (λ kept. At o q (again kept) came) (with_pending-again k lane xs ys) at
