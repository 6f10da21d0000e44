-- The frames of the packets of a TX ring that are not completed, and of the packet that is not at its end: the driver
-- has each of them, it stands there once, and the driver last got it from that ring.
use Rattle.std.proofs.Common.{◌≡◌, ℕ, zero, suc, ◌+◌, ◌*◌, ◌/◌, ◌<◌, ◌≤◌, inl, inr, Bool, true, false, cond, ◌&&◌, nat_lt, List, [], ◌∷◌, ◌++◌, length, drop, flat_map, All, Option, Some, None, refl, sym, ap, subst, ◌∙◌, ⊎_elim, arith, length-append, lt-ltb, le-ltb, ltb-true}
use Rattle.std.specs.Prelude.{IsTrue}
use Rattle.std.specs.Option.{option_map}
use Rattle.std.proofs.lemmas.Bool.{cases_lt, and_parts}
use Rattle.std.proofs.lemmas.List.Elements.{All-nil, All-cons, All-head, All-tail, All-drop, All-append}
use Rattle.std.proofs.Math.Nat.{div-lt_iff_lt-mul}
use Rattle.xsk_umem.specs.Frame.{Frame}
use Rattle.xsk_umem.specs.Geometry.{Geometry, area_of, frame_of}
use Rattle.xsk_umem.specs.declared.batch.Item.{Item}
use Rattle.xsk_model.specs.Config.{Config}
use Rattle.xsk_model.specs.Descriptor.{is_valid, is_inside, has_bytes, fits_chunk, has_known_options}
use Rattle.xsk_model.specs.Packets.{Packet, whole, bad, packets, rest, whole_packets, items_of, Continues, IsWhole}
use Rattle.xsk_model.specs.Numbers.{times, number_of, numbers}
use Rattle.xsk_model.specs.Rings.{is_ring}
use Rattle.xsk_model.specs.Object.{call_ring, submitted, taken}
use Rattle.xsk_model.specs.Entry.{Told}
use Rattle.xsk_model.specs.Own.{TxWork, is_from_fill, is_same, waiting, completed_by, tx_work_after, tx_work_of}
use Rattle.xsk_model.specs.Legal.{IsLegal, IsItemOn, AreCompleted}
use Rattle.xsk_model.specs.History.{Fits, OwnGoesOn}
use Rattle.xsk_model.specs.declared.call.Ring.{Ring}
use Rattle.xsk_model.specs.declared.call.Ring.TheVariants.{Fill, Comp, Rx, Tx}
use Rattle.xsk_model.specs.declared.call.Call.{Call}
use Rattle.xsk_model.specs.declared.call.Call.TheVariants.{Reserve, Submit, Peek, Release, Swap, Look}
use Rattle.xsk_model.specs.declared.call.Reply.{Reply}
use Rattle.xsk_model.proofs.PacketsLaws.{packets-items, packets-made}
use Rattle.xsk_model.proofs.Counting.{times-append, numbers-append, length-by_times, not_yet}
use Rattle.xsk_model.proofs.Places.{is_ring-true}
use Rattle.xsk_model.proofs.OwnRuns.{own_all, fits_taken}
use Rattle.xsk_model.proofs.Sendings.{wholes, tx_work_of-push, IsWithin, within-push}
use Rattle.xsk_model.proofs.Completions.{kept, kept-peek, kept-comp, is_same-self, whole_of_packets}
use Rattle.xsk_legal.specs.Standing.{source_of, uncompleted}
use Rattle.xsk_legal.proofs.Sources.{once, is_fill_ring, IsSource, source_of-push, source_step_holds}
use Rattle.xsk_legal.proofs.Steps.{all_first, all_later}

-- ---- what one call leaves of these frames

-- a number of the next packet that waits
kept-first : (n : ℕ) (c : Config) (u : TxWork) (packet : List Item) (later : List (List Item)) → waiting c u ≡ packet ∷ later
    → times n (numbers packet) ≤ times n (kept c u)
kept-first n c u packet later e =
    omega (
      arith,
      ap (λ ws. times n (flat_map numbers ws)) e,
      times-append n (numbers packet) (flat_map numbers later),
      times-append n (flat_map numbers (waiting c u)) (numbers (rest c.geometry c.sg u.peeked)),
    )

-- ---- along own entries

-- a number stands among these once at most, and then the ring is its source
pub record IsSent (n s : ℕ) (here : ℕ) (mine : List Told) : Type 0 where
  pub few : here ≤ 1
  pub source : 1 ≤ here → source_of n mine ≡ Some (Tx s)

pub record IsWaiting (c : Config) (mine : List Told) : Type 0 where
  pub within : (s : ℕ) → IsWithin c s mine
  pub from : (n : ℕ) → IsSource n mine
  pub sent : (s n : ℕ) → IsSent n s (times n (kept c (tx_work_of c s mine))) mine
  pub lawful : (s : ℕ) → All (IsItemOn c.geometry (Tx s)) (tx_work_of c s mine).peeked

-- a frame with a source is had, so it can't be brought
not_brought : (c : Config) (mine : List Told) (t : Told) (n : ℕ) (r : Ring) → Fits c mine t.call t.reply → IsSource n mine → source_of n mine ≡ Some r
    → times n (numbers (taken t.reply)) ≤ 0
not_brought c mine t n r fits from source = elim (fits_taken c mine t.call t.reply fits) [
  | inl none ↦ omega (arith, ap (λ items. times n (numbers items)) none)
  | inr peeked ↦ omega (arith, peeked.3.fresh n, from.had, ap once source)
]

-- what stays of a TX ring keeps its source
stays : (c : Config) (mine : List Told) (t : Told) (s n before now : ℕ) → Fits c mine t.call t.reply → IsSource n mine → IsSent n s before mine
    → now ≤ before → (1 ≤ now → times n (numbers (submitted t.call)) ≤ 0) → IsSent n s now (mine ++ t ∷ [])
stays c mine t s n before now fits from h fewer kept_here = record {
  few = omega (arith, h.few, fewer);
  source = λ some.
      let was : source_of n mine ≡ Some (Tx s) = h.source (omega (arith, some, fewer)) in
      source_of-push n mine t
      ∙ ap (λ b. cond b (call_ring t.call) (cond (nat_lt 0 (times n (numbers (submitted t.call)))) None (source_of n mine)))
      (le-ltb 0 (times n (numbers (taken t.reply))) (not_brought c mine t n (Tx s) fits from was))
      ∙ ap (λ b. cond b None (source_of n mine)) (le-ltb 0 (times n (numbers (submitted t.call))) (kept_here some))
      ∙ was;
}

-- a Peek on the ring brings frames that it hadn't
comes : (c : Config) (mine : List Told) (s k n before now : ℕ) (reply : Reply) → Fits c mine (Peek (Tx s) k) reply → IsSource n mine → IsSent n s before mine
    → now ≤ before + times n (numbers (taken reply)) → IsSent n s now (mine ++ (record { call = Peek (Tx s) k; reply = reply }) ∷ [])
comes c mine s k n before now reply fits from h most =
    let t : Told = record { call = Peek (Tx s) k; reply = reply } in
    ⊎_elim
    (λ (some : 0 < times n (numbers (taken reply))).
    elim (fits_taken c mine (Peek (Tx s) k) reply fits) [
      | inl none ↦ absurd (omega (arith, some, ap (λ items. times n (numbers items)) none))
      | inr peeked ↦
          let none_before : before ≤ 0 = ⊎_elim
          (λ (kept_here : 0 < before). absurd (omega (arith, some, not_brought c mine t n (Tx s) fits from (h.source (omega (arith, kept_here))))))
          (λ (none : before ≤ 0). none)
          (cases_lt 0 before) in
          record {
            few = omega (arith, most, none_before, peeked.3.fresh n);
            source = λ now_some.
                source_of-push n mine t
                ∙ ap (λ b. cond b (Some (Tx s)) (cond (nat_lt 0 (times n (numbers (submitted t.call)))) None (source_of n mine)))
                (lt-ltb 0 (times n (numbers (taken reply))) some);
          }
    ])
    (λ (none : times n (numbers (taken reply)) ≤ 0).
    stays c mine t s n before now fits from h (omega (arith, most, none)) (λ now_some. omega arith))
    (cases_lt 0 (times n (numbers (taken reply))))

-- the frames of a completed packet go
goes_back : (c : Config) (mine : List Told) (d s n : ℕ) (items : List Item) → AreCompleted c mine (Comp d) items → IsWaiting c mine
    → 1 ≤ times n (kept c (record (tx_work_of c s mine) { completed = (tx_work_of c s mine).completed + length (completed_by items (waiting c (tx_work_of c s mine))) }))
    → times n (numbers items) ≤ 0
goes_back c mine d s n items h waits some = ⊎_elim
    (λ (given : 0 < times n (numbers items)).
    let there : 1 ≤ times n (kept c (tx_work_of c h.socket mine)) =
    omega (arith, given, ap (times n) h.frames, kept-first n c (tx_work_of c h.socket mine) h.packet h.later h.next) in
    let count = kept-comp n c (tx_work_of c s mine) items in
    let here : source_of n mine ≡ Some (Tx s) = (waits.sent s n).source (omega (arith, some, count)) in
    let other : source_of n mine ≡ Some (Tx h.socket) = (waits.sent h.socket n).source there in
    let one : s ≡ h.socket = same_ring s h.socket (sym here ∙ other) in
    let done : completed_by items (waiting c (tx_work_of c s mine)) ≡ h.packet ∷ [] =
    ap (λ k. completed_by items (waiting c (tx_work_of c k mine))) one
    ∙ ap (completed_by items) h.next
    ∙ ap (λ ns. cond (is_same (numbers items) ns) (h.packet ∷ []) []) (sym h.frames)
    ∙ ap (λ b. cond b (h.packet ∷ []) []) (is_same-self (numbers items)) in
    absurd (omega (
      arith,
      some,
      count,
      given,
      ap (times n) h.frames,
      ap (λ ws. times n (flat_map numbers ws)) done,
      times-append n (numbers h.packet) [],
      (waits.sent s n).few,
    )))
    (λ (none : times n (numbers items) ≤ 0). none)
    (cases_lt 0 (times n (numbers items)))
  where
    same_ring : (s k : ℕ) → Some (Tx s) ≡ Some (Tx k) → s ≡ k
    same_ring s k e = cc

not_fill : (n s : ℕ) (mine : List Told) → IsSource n mine → source_of n mine ≡ Some (Tx s) → is_from_fill n mine ≡ true → ⊥
not_fill n s mine from source fill =
    let no : true ≡ false = sym fill ∙ from.fill (omega (arith, from.had, ap once source)) ∙ ap is_fill_ring source in
    cc

module _ (c : Config) (d : ℕ) (below : d < length c.pairs) where
  -- where a TX ring's packets stay as they are
  same_sent : (mine : List Told) (t : Told) (s n : ℕ) → Fits c mine t.call t.reply → IsWaiting c mine
      → tx_work_after c s (tx_work_of c s mine) t.call t.reply ≡ tx_work_of c s mine
      → (1 ≤ times n (kept c (tx_work_of c s mine)) → times n (numbers (submitted t.call)) ≤ 0)
      → IsSent n s (times n (kept c (tx_work_after c s (tx_work_of c s mine) t.call t.reply))) (mine ++ t ∷ [])
  same_sent mine t s n fits h same few =
      subst (λ u. IsSent n s (times n (kept c u)) (mine ++ t ∷ [])) (sym same)
      (stays c mine t s n (times n (kept c (tx_work_of c s mine))) (times n (kept c (tx_work_of c s mine))) fits (h.from n) (h.sent s n) (omega arith) few)

  sent_peek : (mine : List Told) (r : Ring) (k : ℕ) (reply : Reply) (s n : ℕ) (b : Bool) → is_ring (Tx s) r ≡ b → Fits c mine (Peek r k) reply → IsWaiting c mine
      → IsSent n s (times n (kept c (cond b (record (tx_work_of c s mine) { peeked = (tx_work_of c s mine).peeked ++ taken reply }) (tx_work_of c s mine))))
      (mine ++ (record { call = Peek r k; reply = reply }) ∷ [])
  sent_peek mine r k reply s n true e fits h =
      let one : Tx s ≡ r = is_ring-true (Tx s) r e in
      subst (λ q. IsSent n s (times n (kept c (record (tx_work_of c s mine) { peeked = (tx_work_of c s mine).peeked ++ taken reply }))) (mine ++ (record { call = Peek q k; reply = reply }) ∷ [])) one
      (comes c mine s k n (times n (kept c (tx_work_of c s mine))) (times n (kept c (record (tx_work_of c s mine) { peeked = (tx_work_of c s mine).peeked ++ taken reply }))) reply
      (subst (λ q. Fits c mine (Peek q k) reply) (sym one) fits) (h.from n) (h.sent s n) (kept-peek n c (tx_work_of c s mine) (taken reply) (h.within s)))
  sent_peek mine r k reply s n false e fits h =
      stays c mine (record { call = Peek r k; reply = reply }) s n (times n (kept c (tx_work_of c s mine))) (times n (kept c (tx_work_of c s mine))) fits (h.from n) (h.sent s n)
      (omega arith) (λ some. omega arith)

  sent_step : (mine : List Told) (call : Call) (reply : Reply) (s n : ℕ) → IsLegal c mine d call → Fits c mine call reply → IsWaiting c mine
      → IsSent n s (times n (kept c (tx_work_after c s (tx_work_of c s mine) call reply))) (mine ++ (record { call = call; reply = reply }) ∷ [])
  sent_step mine (Reserve r k) reply s n legal fits h = same_sent mine (record { call = Reserve r k; reply = reply }) s n fits h refl (λ some. omega arith)
  sent_step mine (Submit (Fill e) items) reply s n legal fits h = absurd (omega (arith, below, legal.role))
  sent_step mine (Submit (Comp e) items) reply s n legal fits h =
      let fewer = kept-comp n c (tx_work_of c s mine) items in
      stays c mine (record { call = Submit (Comp e) items; reply = reply }) s n (times n (kept c (tx_work_of c s mine)))
      (times n (kept c (record (tx_work_of c s mine) { completed = (tx_work_of c s mine).completed + length (completed_by items (waiting c (tx_work_of c s mine))) })))
      fits (h.from n) (h.sent s n) (omega (arith, fewer)) (λ some. goes_back c mine e s n items legal.packets h some)
  sent_step mine (Submit (Rx t) items) reply s n legal fits h =
      same_sent mine (record { call = Submit (Rx t) items; reply = reply }) s n fits h refl
      (λ some. ⊎_elim
      (λ (given : 0 < times n (numbers items)). absurd (not_fill n s mine (h.from n) ((h.sent s n).source some) (legal.packets.from_fill n given)))
      (λ (none : times n (numbers items) ≤ 0). none)
      (cases_lt 0 (times n (numbers items))))
  sent_step mine (Submit (Tx t) items) reply s n legal fits h = absurd (omega (arith, below, legal.role))
  sent_step mine (Peek r k) reply s n legal fits h = sent_peek mine r k reply s n (is_ring (Tx s) r) refl fits h
  sent_step mine (Release r k) reply s n legal fits h = same_sent mine (record { call = Release r k; reply = reply }) s n fits h refl (λ some. omega arith)
  sent_step mine (Swap m value) reply s n legal fits h = same_sent mine (record { call = Swap m value; reply = reply }) s n fits h refl (λ some. omega arith)
  sent_step mine (Look m) reply s n legal fits h = same_sent mine (record { call = Look m; reply = reply }) s n fits h refl (λ some. omega arith)

  -- ---- items that may stand in the ring

  lawful_peek : (mine : List Told) (r : Ring) (k : ℕ) (reply : Reply) (s : ℕ) (b : Bool) → is_ring (Tx s) r ≡ b → Fits c mine (Peek r k) reply
      → All (IsItemOn c.geometry (Tx s)) (tx_work_of c s mine).peeked
      → All (IsItemOn c.geometry (Tx s)) (cond b (record (tx_work_of c s mine) { peeked = (tx_work_of c s mine).peeked ++ taken reply }) (tx_work_of c s mine)).peeked
  lawful_peek mine r k reply s true e fits h =
      All-append (IsItemOn c.geometry (Tx s)) (tx_work_of c s mine).peeked (taken reply) h (elim (fits_taken c mine (Peek r k) reply fits) [
        | inl none ↦ subst (All (IsItemOn c.geometry (Tx s))) (sym none) (All-nil (IsItemOn c.geometry (Tx s)))
        | inr peeked ↦
            let one : Tx s ≡ r = is_ring-true (Tx s) r e in
            let same : r ≡ peeked.0 = cc (peeked.2) in
            subst (λ q. All (IsItemOn c.geometry q) (taken reply)) (sym (one ∙ same)) peeked.3.lawful
      ])
  lawful_peek mine r k reply s false e fits h = h

  lawful_step : (mine : List Told) (call : Call) (reply : Reply) (s : ℕ) → Fits c mine call reply → All (IsItemOn c.geometry (Tx s)) (tx_work_of c s mine).peeked
      → All (IsItemOn c.geometry (Tx s)) (tx_work_after c s (tx_work_of c s mine) call reply).peeked
  lawful_step mine (Reserve r k) reply s fits h = h
  lawful_step mine (Submit (Fill e) items) reply s fits h = h
  lawful_step mine (Submit (Comp e) items) reply s fits h = h
  lawful_step mine (Submit (Rx t) items) reply s fits h = h
  lawful_step mine (Submit (Tx t) items) reply s fits h = h
  lawful_step mine (Peek r k) reply s fits h = lawful_peek mine r k reply s (is_ring (Tx s) r) refl fits h
  lawful_step mine (Release r k) reply s fits h = h
  lawful_step mine (Swap m value) reply s fits h = h
  lawful_step mine (Look m) reply s fits h = h

  waiting_step : (mine : List Told) (t : Told) → IsLegal c mine d t.call → Fits c mine t.call t.reply → IsWaiting c mine → IsWaiting c (mine ++ t ∷ [])
  waiting_step mine t legal fits h = record {
    within = λ s. within-push c s mine t (h.within s);
    from = λ n. source_step_holds c d n mine t legal fits (h.from n);
    sent = λ s n. subst (λ u. IsSent n s (times n (kept c u)) (mine ++ t ∷ [])) (sym (tx_work_of-push c s mine t)) (sent_step mine t.call t.reply s n legal fits h);
    lawful = λ s. subst (λ (u : TxWork). All (IsItemOn c.geometry (Tx s)) u.peeked) (sym (tx_work_of-push c s mine t)) (lawful_step mine t.call t.reply s fits (h.lawful s));
  }

  pub own_waiting : (mine : List Told) → OwnGoesOn c d [] mine → IsWaiting c mine
  own_waiting mine goes = own_all (IsWaiting c) c d [] mine (λ before t legal fits h. waiting_step before t legal fits h) goes (record {
    within = λ s. omega arith;
    from = λ n. record { had = refl; fill = λ some. absurd (omega (arith, some)) };
    sent = λ s n. record { few = omega arith; source = λ some. absurd (omega (arith, some)) };
    lawful = λ s. All-nil (IsItemOn c.geometry (Tx s));
  })

-- ---- how many there are

abbrev joined : List (List Item) → List Item
joined packets = flat_map (λ (packet : List Item). packet) packets

all_wholes : (P : Item → Type 0) (ps : List Packet) → All P (flat_map items_of ps) → All P (joined (whole_packets ps))
all_wholes P [] h = h
all_wholes P (whole items ∷ ps) h =
    All-append P items (joined (whole_packets ps)) (all_first P items (flat_map items_of ps) h) (all_wholes P ps (all_later P items (flat_map items_of ps) h))
all_wholes P (bad items ∷ ps) h = all_wholes P ps (all_later P items (flat_map items_of ps) h)

all_drop : (P : Item → Type 0) (k : ℕ) (groups : List (List Item)) → All P (joined groups) → All P (joined (drop k groups))
all_drop P zero groups h = h
all_drop P (suc k) [] h = h
all_drop P (suc k) (group ∷ groups) h = all_drop P k groups (all_later P group (joined groups) h)

-- what holds of all items that were peeked
pub all_uncompleted : (P : Item → Type 0) (c : Config) (u : TxWork) → All P u.peeked → All P (uncompleted c u)
all_uncompleted P c u h =
    let both : All P (flat_map items_of (packets c.geometry c.sg u.peeked) ++ rest c.geometry c.sg u.peeked) =
    subst (All P) (sym (packets-items c.geometry c.sg u.peeked)) h in
    All-append P (joined (waiting c u)) (rest c.geometry c.sg u.peeked)
    (all_drop P u.completed (wholes c u) (all_wholes P (packets c.geometry c.sg u.peeked) (all_first P (flat_map items_of (packets c.geometry c.sg u.peeked)) (rest c.geometry c.sg u.peeked) both)))
    (all_later P (flat_map items_of (packets c.geometry c.sg u.peeked)) (rest c.geometry c.sg u.peeked) both)

-- a valid item's address lies in the UMEM
abbrev pub IsInside : Geometry → Item → Type 0
IsInside g item = nat_lt item.desc.addr (area_of g) ≡ true

valid_inside : (g : Geometry) (sg : Bool) (item : Item) → IsTrue (is_valid g sg item.desc) → IsInside g item
valid_inside g sg item h =
    let three = and_parts (is_inside g item.desc && has_bytes item.desc && fits_chunk g item.desc) (has_known_options sg item.desc) h in
    let two = and_parts (is_inside g item.desc && has_bytes item.desc) (fits_chunk g item.desc) three.0 in
    (and_parts (is_inside g item.desc) (has_bytes item.desc) two.0).0

continued_inside : (g : Geometry) (sg : Bool) (items : List Item) → All (Continues g sg) items → All (IsInside g) items
continued_inside g sg [] h = All-nil (IsInside g)
continued_inside g sg (item ∷ items) h =
    All-cons (IsInside g) item items (valid_inside g sg item (All-head (Continues g sg) item items h).valid) (continued_inside g sg items (All-tail (Continues g sg) item items h))

pub whole_inside : (g : Geometry) (sg : Bool) (items : List Item) → IsWhole g sg items → All (IsInside g) items
whole_inside g sg items w =
    subst (All (IsInside g)) (sym w.is)
    (All-append (IsInside g) w.front (w.last ∷ []) (continued_inside g sg w.front w.continued) (All-cons (IsInside g) w.last [] (valid_inside g sg w.last w.valid) (All-nil (IsInside g))))

wholes_inside : (g : Geometry) (sg : Bool) (groups : List (List Item)) → All (IsWhole g sg) groups → All (IsInside g) (joined groups)
wholes_inside g sg [] h = All-nil (IsInside g)
wholes_inside g sg (group ∷ groups) h =
    All-append (IsInside g) group (joined groups) (whole_inside g sg group (All-head (IsWhole g sg) group groups h)) (wholes_inside g sg groups (All-tail (IsWhole g sg) group groups h))

pub uncompleted_inside : (c : Config) (u : TxWork) → All (IsInside c.geometry) (uncompleted c u)
uncompleted_inside c u =
    let made = packets-made c.geometry c.sg u.peeked in
    All-append (IsInside c.geometry) (joined (waiting c u)) (rest c.geometry c.sg u.peeked)
    (wholes_inside c.geometry c.sg (waiting c u) (All-drop (IsWhole c.geometry c.sg) u.completed (wholes c u) (whole_of_packets c (packets c.geometry c.sg u.peeked) made.0)))
    (continued_inside c.geometry c.sg (rest c.geometry c.sg u.peeked) made.1.continued)

-- so it has a frame, and one of the UMEM's
framed_at : (g : Geometry) (frame : Option Frame) (address : ℕ) → option_map (λ (f : Frame). f.number) frame ≡ frame_of g address → nat_lt address (area_of g) ≡ true
    → (f : Frame) × (frame ≡ Some f)
framed_at g None address is inside =
    let some : None ≡ Some (address / g.chunk) = is ∙ ap (λ b. cond b (Some (address / g.chunk)) None) inside in
    absurd (cc)
framed_at g (Some f) address is inside = (f, refl)

pub framed : (g : Geometry) (r : Ring) (item : Item) → IsItemOn g r item → IsInside g item → (f : Frame) × (item.frame ≡ Some f)
framed g r item lawful inside = framed_at g item.frame item.desc.addr lawful.frame inside

numbered_from : (g : Geometry) (frame : Option Frame) (address n : ℕ) → option_map (λ (f : Frame). f.number) frame ≡ frame_of g address
    → option_map (λ (f : Frame). f.number) frame ≡ Some n → n < g.frames
numbered_from g frame address n is this = inside_or (nat_lt address (area_of g)) refl
  where
    some_chunk : address < g.frames * g.chunk → 0 < g.chunk
    some_chunk within = ⊎_elim
        (λ (some : 0 < g.chunk). some)
        (λ (none : g.chunk ≤ 0).
        let zero_chunk : g.chunk ≡ 0 = omega (arith, none) in
        absurd (omega (arith, within, ap (λ k. g.frames * k) zero_chunk)))
        (cases_lt 0 g.chunk)

    inside_or : (b : Bool) → nat_lt address (area_of g) ≡ b → n < g.frames
    inside_or true e =
        let same : Some (address / g.chunk) ≡ Some n = ap (λ b. cond b (Some (address / g.chunk)) None) (sym e) ∙ sym is ∙ this in
        let number : address / g.chunk ≡ n = cc in
        let within : address < g.frames * g.chunk = ltb-true address (area_of g) e in
        subst (λ k. k < g.frames) number ((div-lt_iff_lt-mul {k = g.chunk} {x = address} {y = g.frames} (some_chunk within)).1 within)
    inside_or false e =
        let none : None ≡ Some n = ap (λ b. cond b (Some (address / g.chunk)) None) (sym e) ∙ sym is ∙ this in
        absurd (cc)

-- the number of an item's frame is below that of the frames
pub number_below : (g : Geometry) (r : Ring) (item : Item) (f : Frame) → IsItemOn g r item → item.frame ≡ Some f → f.number < g.frames
number_below g r item f lawful e = numbered_from g item.frame item.desc.addr f.number lawful.frame (ap (option_map (λ (o : Frame). o.number)) e)

no_number : (g : Geometry) (r : Ring) (item : Item) (n : ℕ) (frame : Option Frame) → IsItemOn g r item → item.frame ≡ frame → g.frames ≤ n → times n (number_of frame) ≡ 0
no_number g r item n None lawful e past = refl
no_number g r item n (Some f) lawful e past = omega (arith, not_yet f.number n (omega (arith, past, number_below g r item f lawful e)))

pub none_past : (g : Geometry) (r : Ring) (items : List Item) (n : ℕ) → All (IsItemOn g r) items → g.frames ≤ n → times n (numbers items) ≡ 0
none_past g r [] n h past = refl
none_past g r (item ∷ items) n h past =
    omega (
      arith,
      times-append n (number_of item.frame) (numbers items),
      no_number g r item n item.frame (All-head (IsItemOn g r) item items h) refl past,
      none_past g r items n (All-tail (IsItemOn g r) item items h) past,
    )

-- each item has a frame
one_number : (frame : Option Frame) (f : Frame) → frame ≡ Some f → length (number_of frame) ≡ 1
one_number frame f e = ap (λ (o : Option Frame). length (number_of o)) e

pub as_many : (g : Geometry) (r : Ring) (items : List Item) → All (IsItemOn g r) items → All (IsInside g) items → length (numbers items) ≡ length items
as_many g r [] lawful inside = refl
as_many g r (item ∷ items) lawful inside =
    let frame = framed g r item (All-head (IsItemOn g r) item items lawful) (All-head (IsInside g) item items inside) in
    omega (
      arith,
      length-append (number_of item.frame) (numbers items),
      one_number item.frame frame.0 frame.1,
      as_many g r items (All-tail (IsItemOn g r) item items lawful) (All-tail (IsInside g) item items inside),
    )

numbers_joined : (groups : List (List Item)) → numbers (joined groups) ≡ flat_map numbers groups
numbers_joined [] = refl
numbers_joined (group ∷ groups) = numbers-append group (joined groups) ∙ ap (λ ns. numbers group ++ ns) (numbers_joined groups)

pub kept_numbers : (c : Config) (u : TxWork) → numbers (uncompleted c u) ≡ kept c u
kept_numbers c u = numbers-append (joined (waiting c u)) (rest c.geometry c.sg u.peeked) ∙ ap (λ ns. ns ++ numbers (rest c.geometry c.sg u.peeked)) (numbers_joined (waiting c u))

-- the items that are not completed are no more than the frames
pub uncompleted_few : (c : Config) (s : ℕ) (mine : List Told) → IsWaiting c mine → length (uncompleted c (tx_work_of c s mine)) ≤ c.geometry.frames
uncompleted_few c s mine h =
    let u : TxWork = tx_work_of c s mine in
    let lawful = all_uncompleted (IsItemOn c.geometry (Tx s)) c u (h.lawful s) in
    omega (
      arith,
      as_many c.geometry (Tx s) (uncompleted c u) lawful (uncompleted_inside c u),
      length-by_times c.geometry.frames (numbers (uncompleted c u))
          (λ n. omega (arith, ap (times n) (kept_numbers c u), (h.sent s n).few))
          (λ n past. none_past c.geometry (Tx s) (uncompleted c u) n lawful past),
    )
