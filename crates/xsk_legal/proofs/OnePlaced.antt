-- One more item of a Submit: what it leaves, and what is kept then.
use Rattle.std.proofs.Common.{◌≡◌, ℕ, ◌+◌, ◌-◌, ◌<◌, Bool, true, false, cond, eqb, nat_lt, List, [], ◌∷◌, ◌++◌, length, map, get_or, set, drop, Option, Some, None, refl, sym, ap, subst, ◌∙◌, ⊎_elim, arith, append-nil, length-append, eq-eqb, ne_eqb, get_or-set_same, get_or-set_other}
use Rattle.std.specs.List.{slice_index_or}
use Rattle.std.proofs.lemmas.Bool.{cases_eq}
use Rattle.std.proofs.lemmas.List.{length-set}
use Rattle.xsk_umem.specs.declared.batch.Item.{Item}
use Rattle.xsk_model.specs.Config.{Config, HasRing}
use Rattle.xsk_model.specs.Packets.{rest}
use Rattle.xsk_model.specs.Numbers.{times, number_of, numbers}
use Rattle.xsk_model.specs.Rings.{is_ring, place, places_of}
use Rattle.xsk_model.specs.Entry.{Told, with_told}
use Rattle.xsk_model.specs.Own.{room_of, held_of, room_step, held_step, tx_work_of}
use Rattle.xsk_model.specs.declared.call.Ring.{Ring}
use Rattle.xsk_model.specs.declared.call.Ring.TheVariants.{Fill, Comp, Rx, Tx}
use Rattle.xsk_model.specs.declared.call.Call.TheVariants.{Submit}
use Rattle.xsk_model.specs.declared.call.Reply.TheVariants.{Submitted}
use Rattle.xsk_model.proofs.Places.{place_below, get_or-set-place, cond-is_ring}
use Rattle.xsk_model.proofs.Folds.{part_of-push}
use Rattle.xsk_legal.specs.declared.standing.Places.{Places}
use Rattle.xsk_legal.specs.Noted.{Queue, Noted}
use Rattle.xsk_legal.specs.Queue.{first_off}
use Rattle.xsk_legal.specs.Standing.{source_of, desc_of, uncompleted, places_at, no_queue, queue_at, Keeps, placing}
use Rattle.xsk_legal.specs.Pieces.{item_source}
use Rattle.xsk_legal.specs.ItemNotes.{one_filled, queues_of_source, queues_without, placed_item}
use Rattle.xsk_legal.proofs.Marks.{SameMarks, same_itself, same_told, same_between, marks_same}
use Rattle.xsk_legal.proofs.Sources.{source_of-push}
use Rattle.xsk_legal.proofs.OneFetched.{same_either, source_more, one_number, length-sources, source-with}

-- ---- what a Submit leaves

pub record HasPlaced (r : Ring) (items : List Item) (mine after : List Told) : Type 0 where
  pub room : (q : Ring) → room_of q after ≡ cond (is_ring q r) (room_of q mine - length items) (room_of q mine)
  pub held : (q : Ring) → held_of q after ≡ held_of q mine
  pub sources : (n : ℕ) → source_of n after ≡ cond (nat_lt 0 (times n (numbers items))) None (source_of n mine)
  pub marks : SameMarks mine after

pub told_placed : (r : Ring) (items : List Item) (mine : List Told) → HasPlaced r items mine (with_told mine (Submit r items) Submitted)
told_placed r items mine =
    let t : Told = record { call = Submit r items; reply = Submitted } in
    record {
      room = λ q.
          let less : room_step (room_of q mine) t ≡ room_of q mine - length items = omega arith in
          part_of-push room_step q 0 mine t ∙ ap (λ k. cond (is_ring q r) k (room_of q mine)) less;
      held = λ q. part_of-push held_step q 0 mine t ∙ same_either (is_ring q r) (held_of q mine) (held_step (held_of q mine) t) (omega arith);
      sources = λ n. source_of-push n mine t;
      marks = same_told mine t (λ m b. refl) (λ m b. refl);
    }

nothing_placed : (r : Ring) (mine : List Told) → HasPlaced r [] mine mine
nothing_placed r mine = record {
  room = λ q. sym (same_either (is_ring q r) (room_of q mine) (room_of q mine - 0) (omega arith));
  held = λ q. refl;
  sources = λ n. refl;
  marks = same_itself mine;
}

pub placing_placed : (r : Ring) (items : List Item) (mine : List Told) → HasPlaced r items mine (mine ++ placing r items)
placing_placed r [] mine = subst (HasPlaced r [] mine) (sym (append-nil mine)) (nothing_placed r mine)
placing_placed r (item ∷ items) mine = told_placed r (item ∷ items) mine

-- ---- what one more item leaves

pub record IsPlaced (r : Ring) (item : Item) (before after : List Told) : Type 0 where
  pub room : (q : Ring) → room_of q after ≡ cond (is_ring q r) (room_of q before - 1) (room_of q before)
  pub held : (q : Ring) → held_of q after ≡ held_of q before
  pub sources : (n : ℕ) → source_of n after ≡ cond (nat_lt 0 (times n (number_of item.frame))) None (source_of n before)
  pub marks : SameMarks before after

room_less : (b : Bool) (h len x y : ℕ) → x ≡ cond b (h - len) h → y ≡ cond b (h - (len + 1)) h → y ≡ cond b (x - 1) x
room_less true h len x y e f = omega (arith, e, f)
room_less false h len x y e f = f ∙ sym e

pub one_placed : (r : Ring) (done : List Item) (item : Item) (mine before after : List Told) → HasPlaced r done mine before
    → HasPlaced r (done ++ item ∷ []) mine after → IsPlaced r item before after
one_placed r done item mine before after h k = record {
  room = λ q.
      let size : length (done ++ item ∷ []) ≡ length done + 1 = omega (arith, length-append done (item ∷ [])) in
      room_less (is_ring q r) (room_of q mine) (length done) (room_of q before) (room_of q after) (h.room q)
      (k.room q ∙ ap (λ len. cond (is_ring q r) (room_of q mine - len) (room_of q mine)) size);
  held = λ q. k.held q ∙ sym (h.held q);
  sources = λ n. source_more None (source_of n mine) (source_of n before) (source_of n after) (times n (numbers done)) (times n (number_of item.frame))
      (times n (numbers (done ++ item ∷ []))) (one_number n done item) (h.sources n) (k.sources n);
  marks = same_between mine before after h.marks k.marks;
}

-- ---- what is kept

length-first : (kept : Noted) (source : Option Ring) → length (queues_of_source kept source) ≡ length kept.queues
length-first kept None = refl
length-first kept (Some (Fill d)) = refl
length-first kept (Some (Comp d)) = refl
length-first kept (Some (Rx s)) = refl
length-first kept (Some (Tx s)) = length-set kept.queues s (first_off (queue_at kept s))

length-without : (kept : Noted) (r : Ring) (source : Option Ring) → length (queues_without kept r source) ≡ length kept.queues
length-without kept (Fill d) source = refl
length-without kept (Comp d) source = length-first kept source
length-without kept (Rx s) source = refl
length-without kept (Tx s) source = refl

pub queue-first : (kept : Noted) (t s : ℕ) → s < length kept.queues
    → slice_index_or (queues_of_source kept (Some (Tx t))) s no_queue ≡ cond (eqb s t) (first_off (queue_at kept s)) (queue_at kept s)
queue-first kept t s h = ⊎_elim
    (λ (e : s ≡ t).
    ap (λ k. get_or (set kept.queues k (first_off (queue_at kept k))) s no_queue) (sym e)
    ∙ get_or-set_same kept.queues s (first_off (queue_at kept s)) no_queue h
    ∙ sym (ap (λ b. cond b (first_off (queue_at kept s)) (queue_at kept s)) (eq-eqb s t e)))
    (λ (e : s ≡ t → ⊥).
    get_or-set_other kept.queues t s (first_off (queue_at kept t)) no_queue e
    ∙ sym (ap (λ b. cond b (first_off (queue_at kept s)) (queue_at kept s)) (ne_eqb s t e)))
    (cases_eq s t)

limit_first : (kept : Noted) (source : Option Ring) (s : ℕ) → s < length kept.queues
    → (slice_index_or (queues_of_source kept source) s no_queue).limit ≡ (queue_at kept s).limit
limit_first kept None s h = refl
limit_first kept (Some (Fill d)) s h = refl
limit_first kept (Some (Comp d)) s h = refl
limit_first kept (Some (Rx t)) s h = refl
limit_first kept (Some (Tx t)) s h = ap (λ (q : Queue). q.limit) (queue-first kept t s h) ∙ either (eqb s t) (queue_at kept s)
  where
    either : (b : Bool) (q : Queue) → (cond b (first_off q) q).limit ≡ q.limit
    either true q = refl
    either false q = refl

limit_without : (kept : Noted) (r : Ring) (source : Option Ring) (s : ℕ) → s < length kept.queues
    → (slice_index_or (queues_without kept r source) s no_queue).limit ≡ (queue_at kept s).limit
limit_without kept (Fill d) source s h = refl
limit_without kept (Comp d) source s h = limit_first kept source s h
limit_without kept (Rx t) source s h = refl
limit_without kept (Tx t) source s h = refl

abbrev no_places : Places
no_places = record { room = 0; held = 0 }

abbrev filled : Places → Places
filled p = record p { room = p.room - 1 }

room_cond : (b : Bool) (p : Places) → (cond b (filled p) p).room ≡ cond b (p.room - 1) p.room
room_cond true p = refl
room_cond false p = refl

held_cond : (b : Bool) (p : Places) → (cond b (filled p) p).held ≡ p.held
held_cond true p = refl
held_cond false p = refl

module _ (c : Config) (kept : Noted) (r : Ring) (item : Item) where
  -- the descriptors of a TX ring that are kept then are those that some calls leave, without the first ones
  pub record IsLeft (s : ℕ) (queued : List Told) (back : ℕ) : Type 0 where
    pub descs : (slice_index_or (queues_without kept r (item_source kept.sources item)) s no_queue).descs ≡ drop back (map desc_of (uncompleted c (tx_work_of c s queued)))
    pub begun : (slice_index_or (queues_without kept r (item_source kept.sources item)) s no_queue).begun ≡ length (rest c.geometry c.sg (tx_work_of c s queued).peeked)

  filled_place : (q : Ring) → HasRing c q → HasRing c r → length kept.places ≡ places_of c
      → slice_index_or (one_filled kept (place c r)) (place c q) (record { room = 0; held = 0 }) ≡ cond (is_ring q r) (filled (places_at kept (place c q))) (places_at kept (place c q))
  filled_place q has on rings =
      get_or-set-place c kept.places q r (filled (places_at kept (place c r))) no_places has on (omega (arith, rings, place_below c q has))
      ∙ cond-is_ring (λ p. filled (places_at kept (place c p))) q r (places_at kept (place c q))

  pub placed_keeps : (before after was queued : List Told) (gone back : ℕ → ℕ) → HasRing c r → IsPlaced r item before after → Keeps c kept before was gone
      → ((s : ℕ) → HasRing c (Tx s) → IsLeft s queued (back s)) → Keeps c (placed_item c r item kept) after queued back
  placed_keeps before after was queued gone back on step h left = record {
    rings = length-set kept.places (place c r) (filled (places_at kept (place c r))) ∙ h.rings;
    frames = length-sources kept.sources item.frame None ∙ h.frames;
    sockets = length-without kept r (item_source kept.sources item) ∙ h.sockets;
    limits = λ s has who. limit_without kept r (item_source kept.sources item) s (omega (arith, has.0, h.sockets)) ∙ h.limits s has who;
    room = λ q has.
        ap (λ (p : Places). p.room) (filled_place q has on h.rings)
        ∙ room_cond (is_ring q r) (places_at kept (place c q))
        ∙ ap (λ k. cond (is_ring q r) (k - 1) k) (h.room q has)
        ∙ sym (step.room q);
    held = λ q has.
        ap (λ (p : Places). p.held) (filled_place q has on h.rings) ∙ held_cond (is_ring q r) (places_at kept (place c q)) ∙ h.held q has ∙ sym (step.held q);
    sources = λ n below.
        source-with kept.sources item.frame None n (omega (arith, below, h.frames))
        ∙ ap (λ old. cond (nat_lt 0 (times n (number_of item.frame))) None old) (h.sources n below)
        ∙ sym (step.sources n);
    descs = λ s has. (left s has).descs;
    begun = λ s has. (left s has).begun;
    marked = marks_same c kept.who kept.marked before after step.marks h.marked;
  }
