-- One more item of a Peek's reply.
use Rattle.std.proofs.Common.{◌≡◌, ℕ, ◌+◌, ◌-◌, ◌<◌, ◌≤◌, Bool, true, false, cond, eqb, not, ◌||◌, nat_lt, List, [], ◌∷◌, ◌++◌, length, map, get_or, set, take, Option, Some, None, refl, sym, ap, subst, ◌∙◌, ⊎_elim, arith, append_assoc, append-nil, length-append, eq-eqb, ne_eqb, lt-ltb, le-ltb, get_or-set_same, get_or-set_other}
use Rattle.std.specs.List.{slice_index_or}
use Rattle.std.specs.Prelude.{nat_le}
use Rattle.std.proofs.lemmas.Bool.{cases_eq, cases_lt}
use Rattle.std.proofs.lemmas.List.{length-set}
use Rattle.xsk_umem.specs.Frame.{Frame}
use Rattle.xsk_umem.specs.Geometry.{Geometry}
use Rattle.xsk_umem.specs.declared.batch.Item.{Item}
use Rattle.xsk_umem.specs.declared.batch.XdpDesc.{XdpDesc}
use Rattle.xsk_model.specs.Config.{Config, HasRing}
use Rattle.xsk_model.specs.Descriptor.{is_valid}
use Rattle.xsk_model.specs.Packets.{rest}
use Rattle.xsk_model.specs.Numbers.{times, number_of, numbers}
use Rattle.xsk_model.specs.Rings.{is_ring, place, places_of}
use Rattle.xsk_model.specs.Entry.{Told}
use Rattle.xsk_model.specs.Own.{TxWork, room_of, held_of, room_step, held_step, tx_work_of}
use Rattle.xsk_model.specs.declared.call.Ring.{Ring}
use Rattle.xsk_model.specs.declared.call.Ring.TheVariants.{Fill, Comp, Rx, Tx}
use Rattle.xsk_model.specs.declared.call.Call.TheVariants.{Peek}
use Rattle.xsk_model.specs.declared.call.Reply.TheVariants.{Items}
use Rattle.xsk_model.proofs.Counting.{times-append, its_own}
use Rattle.xsk_model.proofs.Completions.{times-numbers-append}
use Rattle.xsk_model.proofs.Places.{place_below, get_or-set-place, cond-is_ring}
use Rattle.xsk_model.proofs.Folds.{part_of-push}
use Rattle.xsk_model.proofs.Sendings.{wholes, tx_work_of-push, IsWithin}
use Rattle.xsk_legal.specs.declared.standing.Places.{Places}
use Rattle.xsk_legal.specs.Noted.{Queue, Noted}
use Rattle.xsk_legal.specs.Queue.{pushed}
use Rattle.xsk_legal.specs.Standing.{source_of, desc_of, uncompleted, places_at, no_queue, queue_at, none_back, Keeps, fetching}
use Rattle.xsk_legal.specs.ItemNotes.{one_held, sources_with, queues_with, fetched_item}
use Rattle.xsk_legal.proofs.Marks.{SameMarks, same_itself, same_told, same_between, marks_same}
use Rattle.xsk_legal.proofs.Sources.{source_of-push}
use Rattle.xsk_legal.proofs.Pushing.{pushed_is}

-- ---- what a Peek leaves

abbrev with_peeked : TxWork → List Item → TxWork
with_peeked u items = record u { peeked = u.peeked ++ items }

pub record HasPeeked (c : Config) (r : Ring) (items : List Item) (mine after : List Told) : Type 0 where
  pub room : (q : Ring) → room_of q after ≡ room_of q mine
  pub held : (q : Ring) → held_of q after ≡ cond (is_ring q r) (held_of q mine + length items) (held_of q mine)
  pub sources : (n : ℕ) → source_of n after ≡ cond (nat_lt 0 (times n (numbers items))) (Some r) (source_of n mine)
  pub sendings : (s : ℕ) → tx_work_of c s after ≡ cond (is_ring (Tx s) r) (with_peeked (tx_work_of c s mine) items) (tx_work_of c s mine)
  pub marks : SameMarks mine after

pub same_either : (b : Bool) (x y : ℕ) → y ≡ x → cond b y x ≡ x
same_either true x y h = h
same_either false x y h = refl

pub told_peeked : (c : Config) (r : Ring) (n : ℕ) (items : List Item) (mine : List Told)
    → HasPeeked c r items mine (mine ++ (record { call = Peek r n; reply = Items items }) ∷ [])
told_peeked c r n items mine =
    let t : Told = record { call = Peek r n; reply = Items items } in
    record {
      room = λ q. part_of-push room_step q 0 mine t ∙ same_either (is_ring q r) (room_of q mine) (room_step (room_of q mine) t) (omega arith);
      held = λ q.
          let more : held_step (held_of q mine) t ≡ held_of q mine + length items = omega arith in
          part_of-push held_step q 0 mine t ∙ ap (λ k. cond (is_ring q r) k (held_of q mine)) more;
      sources = λ k. source_of-push k mine t;
      sendings = λ s. tx_work_of-push c s mine t;
      marks = same_told mine t (λ m b. refl) (λ m b. refl);
    }

same_sending : (b : Bool) (u : TxWork) → u ≡ cond b (with_peeked u []) u
same_sending true u = ap (λ xs. record u { peeked = xs }) (sym (append-nil u.peeked))
same_sending false u = refl

nothing_peeked : (c : Config) (r : Ring) (mine : List Told) → HasPeeked c r [] mine mine
nothing_peeked c r mine = record {
  room = λ q. refl;
  held = λ q. sym (same_either (is_ring q r) (held_of q mine) (held_of q mine + 0) (omega arith));
  sources = λ n. refl;
  sendings = λ s. same_sending (is_ring (Tx s) r) (tx_work_of c s mine);
  marks = same_itself mine;
}

pub fetching_peeked : (c : Config) (r : Ring) (items : List Item) (mine : List Told) → HasPeeked c r items mine (mine ++ fetching r items)
fetching_peeked c r [] mine = subst (HasPeeked c r [] mine) (sym (append-nil mine)) (nothing_peeked c r mine)
fetching_peeked c r (item ∷ items) mine = told_peeked c r (length (item ∷ items)) (item ∷ items) mine

-- ---- what one more item leaves

pub record IsFetched (c : Config) (r : Ring) (item : Item) (before after : List Told) : Type 0 where
  pub room : (q : Ring) → room_of q after ≡ room_of q before
  pub held : (q : Ring) → held_of q after ≡ cond (is_ring q r) (held_of q before + 1) (held_of q before)
  pub sources : (n : ℕ) → source_of n after ≡ cond (nat_lt 0 (times n (number_of item.frame))) (Some r) (source_of n before)
  pub sendings : (s : ℕ) → tx_work_of c s after ≡ cond (is_ring (Tx s) r) (with_peeked (tx_work_of c s before) (item ∷ [])) (tx_work_of c s before)
  pub marks : SameMarks before after

held_more : (b : Bool) (h len x y : ℕ) → x ≡ cond b (h + len) h → y ≡ cond b (h + (len + 1)) h → y ≡ cond b (x + 1) x
held_more true h len x y e f = omega (arith, e, f)
held_more false h len x y e f = f ∙ sym e

pub source_more : (some old x y : Option Ring) (before item all : ℕ) → all ≡ before + item → x ≡ cond (nat_lt 0 before) some old → y ≡ cond (nat_lt 0 all) some old
    → y ≡ cond (nat_lt 0 item) some x
source_more some old x y before item all sum e f = ⊎_elim
    (λ (here : 0 < item).
    f ∙ ap (λ b. cond b some old) (lt-ltb 0 all (omega (arith, sum, here))) ∙ sym (ap (λ b. cond b some x) (lt-ltb 0 item here)))
    (λ (none : item ≤ 0).
    let same : all ≡ before = omega (arith, sum, none) in
    f ∙ ap (λ k. cond (nat_lt 0 k) some old) same ∙ sym e ∙ sym (ap (λ b. cond b some x) (le-ltb 0 item none)))
    (cases_lt 0 item)

sending_more : (b : Bool) (u v w : TxWork) (done : List Item) (item : Item) → v ≡ cond b (with_peeked u done) u → w ≡ cond b (with_peeked u (done ++ item ∷ [])) u
    → w ≡ cond b (with_peeked v (item ∷ [])) v
sending_more true u v w done item e f =
    f ∙ ap (λ xs. record u { peeked = xs }) (sym (append_assoc u.peeked done (item ∷ []))) ∙ ap (λ x. with_peeked x (item ∷ [])) (sym e)
sending_more false u v w done item e f = f ∙ sym e

pub one_number : (n : ℕ) (done : List Item) (item : Item) → times n (numbers (done ++ item ∷ [])) ≡ times n (numbers done) + times n (number_of item.frame)
one_number n done item = omega (arith, times-numbers-append n done (item ∷ []), times-append n (number_of item.frame) [])

pub one_fetched : (c : Config) (r : Ring) (done : List Item) (item : Item) (mine before after : List Told) → HasPeeked c r done mine before
    → HasPeeked c r (done ++ item ∷ []) mine after → IsFetched c r item before after
one_fetched c r done item mine before after h k = record {
  room = λ q. k.room q ∙ sym (h.room q);
  held = λ q.
      let size : length (done ++ item ∷ []) ≡ length done + 1 = omega (arith, length-append done (item ∷ [])) in
      held_more (is_ring q r) (held_of q mine) (length done) (held_of q before) (held_of q after) (h.held q)
      (k.held q ∙ ap (λ len. cond (is_ring q r) (held_of q mine + len) (held_of q mine)) size);
  sources = λ n. source_more (Some r) (source_of n mine) (source_of n before) (source_of n after) (times n (numbers done)) (times n (number_of item.frame))
      (times n (numbers (done ++ item ∷ []))) (one_number n done item) (h.sources n) (k.sources n);
  sendings = λ s. sending_more (is_ring (Tx s) r) (tx_work_of c s mine) (tx_work_of c s before) (tx_work_of c s after) done item (h.sendings s) (k.sendings s);
  marks = same_between mine before after h.marks k.marks;
}

-- ---- what is kept

pub length-sources : (sources : List (Option Ring)) (frame : Option Frame) (source : Option Ring) → length (sources_with sources frame source) ≡ length sources
length-sources sources None source = refl
length-sources sources (Some f) source = length-set sources f.number source

pub source-with : (sources : List (Option Ring)) (frame : Option Frame) (source : Option Ring) (n : ℕ) → n < length sources
    → slice_index_or (sources_with sources frame source) n None ≡ cond (nat_lt 0 (times n (number_of frame))) source (slice_index_or sources n None)
source-with sources None source n h = refl
source-with sources (Some f) source n h = ⊎_elim
    (λ (e : f.number ≡ n).
    let once : times n (number_of (Some f)) ≡ 1 = omega (arith, its_own f.number n e) in
    ap (λ k. get_or (set sources k source) n None) e ∙ get_or-set_same sources n source None h
    ∙ sym (ap (λ b. cond b source (get_or sources n None)) (lt-ltb 0 (times n (number_of (Some f))) (omega (arith, once)))))
    (λ (e : f.number ≡ n → ⊥).
    let never : times n (number_of (Some f)) ≡ 0 = omega (arith, ap {B = ℕ} (λ b. cond b 1 0) (ne_eqb f.number n e)) in
    get_or-set_other sources f.number n source None (λ same. e (sym same))
    ∙ sym (ap (λ b. cond b source (get_or sources n None)) (le-ltb 0 (times n (number_of (Some f))) (omega (arith, never)))))
    (cases_eq f.number n)

length-queues : (g : Geometry) (sg : Bool) (kept : Noted) (r : Ring) (desc : XdpDesc) → length (queues_with g sg kept r desc) ≡ length kept.queues
length-queues g sg kept (Fill d) desc = refl
length-queues g sg kept (Comp d) desc = refl
length-queues g sg kept (Rx s) desc = refl
length-queues g sg kept (Tx s) desc = length-set kept.queues s (pushed g sg (queue_at kept s) desc)

queue-with : (g : Geometry) (sg : Bool) (kept : Noted) (r : Ring) (desc : XdpDesc) (s : ℕ) → s < length kept.queues
    → slice_index_or (queues_with g sg kept r desc) s no_queue ≡ cond (is_ring (Tx s) r) (pushed g sg (queue_at kept s) desc) (queue_at kept s)
queue-with g sg kept (Fill d) desc s h = refl
queue-with g sg kept (Comp d) desc s h = refl
queue-with g sg kept (Rx t) desc s h = refl
queue-with g sg kept (Tx t) desc s h = ⊎_elim
    (λ (e : s ≡ t).
    ap (λ k. get_or (set kept.queues k (pushed g sg (queue_at kept k) desc)) s no_queue) (sym e)
    ∙ get_or-set_same kept.queues s (pushed g sg (queue_at kept s) desc) no_queue h
    ∙ sym (ap (λ b. cond b (pushed g sg (queue_at kept s) desc) (queue_at kept s)) (eq-eqb s t e)))
    (λ (e : s ≡ t → ⊥).
    get_or-set_other kept.queues t s (pushed g sg (queue_at kept t) desc) no_queue e
    ∙ sym (ap (λ b. cond b (pushed g sg (queue_at kept s) desc) (queue_at kept s)) (ne_eqb s t e)))
    (cases_eq s t)

bit_limit : (b c : Bool) (q : Queue) (x y : List XdpDesc) (k m : ℕ) → (cond b (cond c (record q { descs = x; begun = k }) (record q { descs = y; begun = m })) q).limit ≡ q.limit
bit_limit true true q x y k m = refl
bit_limit true false q x y k m = refl
bit_limit false c q x y k m = refl

-- one more descriptor where the ring is the TX ring
desc_more : (b : Bool) (c : Config) (q : Queue) (u w : TxWork) (item : Item) → w ≡ cond b (with_peeked u (item ∷ [])) u → (b ≡ true → u.completed ≤ length (wholes c u))
    → q.descs ≡ map desc_of (uncompleted c u) → q.begun ≡ length (rest c.geometry c.sg u.peeked)
    → ((cond b (pushed c.geometry c.sg q item.desc) q).descs ≡ map desc_of (uncompleted c w))
    × ((cond b (pushed c.geometry c.sg q item.desc) q).begun ≡ length (rest c.geometry c.sg w.peeked))
desc_more true c q u w item e within h k =
    let now = pushed_is c u item q (within refl) (h, k) in (
      now.0 ∙ ap (λ x. map desc_of (uncompleted c x)) (sym e),
      now.1 ∙ ap (λ (x : TxWork). length (rest c.geometry c.sg x.peeked)) (sym e),
    )
desc_more false c q u w item e within h k = (
  h ∙ ap (λ x. map desc_of (uncompleted c x)) (sym e),
  k ∙ ap (λ (x : TxWork). length (rest c.geometry c.sg x.peeked)) (sym e),
)

abbrev no_places : Places
no_places = record { room = 0; held = 0 }

abbrev held_one : Places → Places
held_one p = record p { held = p.held + 1 }

room_cond : (b : Bool) (p : Places) → (cond b (held_one p) p).room ≡ p.room
room_cond true p = refl
room_cond false p = refl

held_cond : (b : Bool) (p : Places) → (cond b (held_one p) p).held ≡ cond b (p.held + 1) p.held
held_cond true p = refl
held_cond false p = refl

module _ (c : Config) (kept : Noted) (r : Ring) (item : Item) (before after : List Told) where
  held_place : (q : Ring) → HasRing c q → HasRing c r → length kept.places ≡ places_of c
      → slice_index_or (one_held kept (place c r)) (place c q) (record { room = 0; held = 0 }) ≡ cond (is_ring q r) (held_one (places_at kept (place c q))) (places_at kept (place c q))
  held_place q has on rings =
      get_or-set-place c kept.places q r (held_one (places_at kept (place c r))) no_places has on (omega (arith, rings, place_below c q has))
      ∙ cond-is_ring (λ p. held_one (places_at kept (place c p))) q r (places_at kept (place c q))

  pub fetched_keeps : HasRing c r → IsFetched c r item before after → ((s : ℕ) → is_ring (Tx s) r ≡ true → IsWithin c s before)
      → Keeps c kept before before none_back → Keeps c (fetched_item c r item kept) after after none_back
  fetched_keeps on step within h = record {
    rings = length-set kept.places (place c r) (held_one (places_at kept (place c r))) ∙ h.rings;
    frames = length-sources kept.sources item.frame (Some r) ∙ h.frames;
    sockets = length-queues c.geometry c.sg kept r item.desc ∙ h.sockets;
    limits = λ s has who.
        ap (λ (q : Queue). q.limit) (queue-with c.geometry c.sg kept r item.desc s (omega (arith, has.0, h.sockets)))
        ∙ limit_same (is_ring (Tx s) r) (queue_at kept s)
        ∙ h.limits s has who;
    room = λ q has.
        ap (λ (p : Places). p.room) (held_place q has on h.rings) ∙ room_cond (is_ring q r) (places_at kept (place c q)) ∙ h.room q has ∙ sym (step.room q);
    held = λ q has.
        ap (λ (p : Places). p.held) (held_place q has on h.rings)
        ∙ held_cond (is_ring q r) (places_at kept (place c q))
        ∙ ap (λ k. cond (is_ring q r) (k + 1) k) (h.held q has)
        ∙ sym (step.held q);
    sources = λ n below.
        source-with kept.sources item.frame (Some r) n (omega (arith, below, h.frames))
        ∙ ap (λ old. cond (nat_lt 0 (times n (number_of item.frame))) (Some r) old) (h.sources n below)
        ∙ sym (step.sources n);
    descs = λ s has.
        ap (λ (q : Queue). q.descs) (queue-with c.geometry c.sg kept r item.desc s (omega (arith, has.0, h.sockets)))
        ∙ (desc_more (is_ring (Tx s) r) c (queue_at kept s) (tx_work_of c s before) (tx_work_of c s after) item (step.sendings s) (within s) (h.descs s has) (h.begun s has)).0;
    begun = λ s has.
        ap (λ (q : Queue). q.begun) (queue-with c.geometry c.sg kept r item.desc s (omega (arith, has.0, h.sockets)))
        ∙ (desc_more (is_ring (Tx s) r) c (queue_at kept s) (tx_work_of c s before) (tx_work_of c s after) item (step.sendings s) (within s) (h.descs s has) (h.begun s has)).1;
    marked = marks_same c kept.who kept.marked before after step.marks h.marked;
  }
    where
      limit_same : (b : Bool) (q : Queue) → (cond b (pushed c.geometry c.sg q item.desc) q).limit ≡ q.limit
      limit_same b q =
          bit_limit b (nat_le 18 q.begun || not (is_valid c.geometry c.sg item.desc)) q (take (length q.descs - q.begun) q.descs) (q.descs ++ item.desc ∷ []) 0 (cond (eqb item.desc.options 1) (q.begun + 1) 0)
