-- A standing after one more item of a Peek's reply.
use Rattle.std.proofs.Common.{◌≡◌, ℕ, ◌+◌, ◌<◌, ◌≤◌, Bool, true, cond, List, [], ◌∷◌, ◌++◌, length, map, Option, Some, None, refl, sym, ap, subst, ◌∙◌, arith, append_assoc, append-nil, length-append}
use Rattle.std.specs.Prelude.{IfSome}
use Rattle.std.specs.List.{slice_index_or}
use Rattle.std.proofs.lemmas.List.{length-map}
use Rattle.std.proofs.lemmas.List.Elements.{All-head}
use Rattle.xsk_umem.specs.Frame.{Frame}
use Rattle.xsk_umem.specs.Geometry.{Geometry}
use Rattle.xsk_umem.specs.declared.batch.Item.{Item}
use Rattle.xsk_umem.specs.declared.batch.XdpDesc.{XdpDesc}
use Rattle.xsk_model.specs.Config.{Config, HasRing}
use Rattle.xsk_model.specs.Rings.{is_ring, place, consumer}
use Rattle.xsk_model.specs.Entry.{Told, with_told}
use Rattle.xsk_model.specs.Own.{held_of, tx_work_of}
use Rattle.xsk_model.specs.Legal.{IsLegal, IsItemOn}
use Rattle.xsk_model.specs.History.{MayGive, AreFresh, OwnGoesOn}
use Rattle.xsk_model.specs.declared.call.Ring.{Ring}
use Rattle.xsk_model.specs.declared.call.Ring.TheVariants.{Fill, Comp, Rx, Tx}
use Rattle.xsk_model.specs.declared.call.Call.TheVariants.{Peek}
use Rattle.xsk_model.specs.declared.call.Reply.TheVariants.{Items}
use Rattle.xsk_model.proofs.Completions.{times-numbers-append}
use Rattle.xsk_model.proofs.Places.{is_ring-true, is_ring-self}
use Rattle.xsk_model.proofs.Sendings.{IsWithin}
use Rattle.xsk_legal.specs.declared.standing.Places.{Places}
use Rattle.xsk_legal.specs.Noted.{Noted}
use Rattle.xsk_legal.specs.Queue.{pushed}
use Rattle.xsk_legal.specs.Standing.{StandsFor, IsFetching, fetching, places_at, no_queue, queue_at, desc_of, uncompleted}
use Rattle.xsk_legal.specs.ItemNotes.{one_held, sources_with, queues_with, fetched_item, HasRoom}
use Rattle.xsk_legal.proofs.Drivers.{driver_at}
use Rattle.xsk_legal.proofs.Going.{gift_goes, gift_legal, gift_fits, held_few}
use Rattle.xsk_legal.proofs.Steps.{all_first, all_later}
use Rattle.xsk_legal.proofs.Waiting.{own_waiting, uncompleted_few, number_below}
use Rattle.xsk_legal.proofs.Pushing.{pushed_is}
use Rattle.xsk_legal.proofs.OneFetched.{told_peeked, fetching_peeked, one_fetched, fetched_keeps}
use Rattle.xsk_model.proofs.OwnRuns.{own_push}

-- the first items of a reply would be a reply too
fetching_own : (c : Config) (who : ℕ) (mine : List Told) (r : Ring) (n : ℕ) (items more : List Item) → OwnGoesOn c who [] mine → IsLegal c mine who (Peek r n)
    → AreFresh c mine r n (items ++ more) → OwnGoesOn c who [] (mine ++ fetching r items)
fetching_own c who mine r n [] more goes legal fresh = subst (OwnGoesOn c who []) (sym (append-nil mine)) goes
fetching_own c who mine r n (item ∷ items) more goes legal fresh =
    own_push c who [] mine (record { call = Peek r (length (item ∷ items)); reply = Items (item ∷ items) }) goes
    (record {
      caller = legal.caller;
      known = legal.known;
      role = legal.role;
      counted = (omega arith, omega (arith, legal.counted.1, fresh.few, length-append (item ∷ items) more));
      frames = legal.frames;
      items = tt;
      packets = tt;
      feeds = tt;
    })
    (record {
      some = omega arith;
      few = omega arith;
      lawful = all_first (IsItemOn c.geometry r) (item ∷ items) more fresh.lawful;
      fresh = λ k. omega (arith, fresh.fresh k, times-numbers-append k (item ∷ items) more);
    })

module _ (c : Config) (kept : Noted) (mine : List Told) (r : Ring) (n : ℕ) (done : List Item) (item : Item) (later : List Item)
    (h : IsFetching c kept mine r done) (gift : MayGive c mine kept.who (Peek r n) (Items (done ++ item ∷ later))) where
  legal : IsLegal c mine kept.who (Peek r n)
  legal = gift_legal c mine kept.who (Peek r n) (Items (done ++ item ∷ later)) gift

  fresh : AreFresh c mine r n (done ++ item ∷ later)
  fresh = gift_fits c mine kept.who (Peek r n) (Items (done ++ item ∷ later)) gift

  lawful : IsItemOn c.geometry r item
  lawful = All-head (IsItemOn c.geometry r) item later (all_later (IsItemOn c.geometry r) done (item ∷ later) fresh.lawful)

  before_own : OwnGoesOn c kept.who [] (mine ++ fetching r done)
  before_own = fetching_own c kept.who mine r n done (item ∷ later) h.own legal fresh

  after_own : OwnGoesOn c kept.who [] (mine ++ fetching r (done ++ item ∷ []))
  after_own = fetching_own c kept.who mine r n (done ++ item ∷ []) later h.own legal (subst (AreFresh c mine r n) (sym (append_assoc done (item ∷ []) later)) fresh)

  -- the caller is a driver, where the ring is a TX ring
  is_driver : (s : ℕ) → is_ring (Tx s) r ≡ true → kept.who < length c.pairs
  is_driver s e =
      let one : Tx s ≡ r = is_ring-true (Tx s) r e in
      let has : HasRing c (Tx s) = subst (HasRing c) (sym one) legal.known in
      let who : kept.who ≡ consumer c (Tx s) = subst (λ q. kept.who ≡ consumer c q) (sym one) legal.role in
      ((driver_at c (Tx s) kept.who gift.legal.opened.config has).1 who).0

  within : (s : ℕ) → is_ring (Tx s) r ≡ true → IsWithin c s (mine ++ fetching r done)
  within s e = (own_waiting c kept.who (is_driver s e) (mine ++ fetching r done) before_own).within s

  pub fetched_goes : IsFetching c (fetched_item c r item kept) mine r (done ++ item ∷ [])
  fetched_goes = record {
    caller = h.caller;
    own = h.own;
    keeps = fetched_keeps c kept r item (mine ++ fetching r done) (mine ++ fetching r (done ++ item ∷ [])) legal.known
        (one_fetched c r done item mine (mine ++ fetching r done) (mine ++ fetching r (done ++ item ∷ [])) (fetching_peeked c r done mine) (fetching_peeked c r (done ++ item ∷ []) mine))
        within h.keeps;
  }

  pub fetched_ring : HasRing c r
  fetched_ring = legal.known

  pub fetched_held : (places_at kept (place c r)).held < 2048
  fetched_held =
      let t = told_peeked c r n (done ++ item ∷ later) mine in
      let self : is_ring r r ≡ true = is_ring-self r in
      let all : held_of r (with_told mine (Peek r n) (Items (done ++ item ∷ later))) ≡ held_of r mine + length (done ++ item ∷ later) =
      t.held r ∙ ap (λ b. cond b (held_of r mine + length (done ++ item ∷ later)) (held_of r mine)) self in
      let now : held_of r (mine ++ fetching r done) ≡ held_of r mine + length done =
      (fetching_peeked c r done mine).held r ∙ ap (λ b. cond b (held_of r mine + length done) (held_of r mine)) self in
      omega (
        arith,
        all,
        now,
        h.keeps.held r legal.known,
        length-append done (item ∷ later),
        held_few c mine kept.who (Peek r n) (Items (done ++ item ∷ later)) gift r legal.known legal.role,
      )

  pub fetched_frame : IfSome item.frame (λ (f : Frame). f.number < length kept.sources)
  fetched_frame = some_frame item.frame refl
    where
      some_frame : (frame : Option Frame) → item.frame ≡ frame → IfSome frame (λ (f : Frame). f.number < length kept.sources)
      some_frame None e = tt
      some_frame (Some f) e = omega (arith, h.keeps.frames, number_below c.geometry r item f lawful e)

  -- the descriptor finds room
  pub fetched_room : (q : Ring) → q ≡ r → HasRoom c.geometry c.sg kept q item.desc
  fetched_room (Fill d) one = tt
  fetched_room (Comp d) one = tt
  fetched_room (Rx s) one = tt
  fetched_room (Tx s) one =
      let on : is_ring (Tx s) r ≡ true = ap (is_ring (Tx s)) (sym one) ∙ is_ring-self (Tx s) in
      let has : HasRing c (Tx s) = subst (HasRing c) (sym one) legal.known in
      let who : kept.who ≡ consumer c (Tx s) = subst (λ q. kept.who ≡ consumer c q) (sym one) legal.role in
      let before : List Told = mine ++ fetching r done in
      let after : List Told = mine ++ fetching r (done ++ item ∷ []) in
      let step = one_fetched c r done item mine (mine ++ fetching r done) (mine ++ fetching r (done ++ item ∷ [])) (fetching_peeked c r done mine) (fetching_peeked c r (done ++ item ∷ []) mine) in
      let now : tx_work_of c s after ≡ record (tx_work_of c s (mine ++ fetching r done)) { peeked = (tx_work_of c s (mine ++ fetching r done)).peeked ++ item ∷ [] } =
      step.sendings s ∙ ap (λ b. cond b (record (tx_work_of c s (mine ++ fetching r done)) { peeked = (tx_work_of c s (mine ++ fetching r done)).peeked ++ item ∷ [] }) (tx_work_of c s (mine ++ fetching r done))) on in
      let descs = (pushed_is c (tx_work_of c s (mine ++ fetching r done)) item (queue_at kept s) (within s on) (h.keeps.descs s has, h.keeps.begun s has)).0
      ∙ ap (λ u. map desc_of (uncompleted c u)) (sym now) in
      let few = uncompleted_few c s (mine ++ fetching r (done ++ item ∷ [])) (own_waiting c kept.who (is_driver s on) (mine ++ fetching r (done ++ item ∷ [])) after_own) in (
        omega (arith, has.0, h.keeps.sockets),
        omega (
          arith,
          ap length descs,
          length-map (uncompleted c (tx_work_of c s (mine ++ fetching r (done ++ item ∷ [])))) desc_of,
          few,
          h.keeps.limits s has who,
        ),
      )

-- the last item
pub fetched_ends : (c : Config) (kept : Noted) (mine : List Told) (r : Ring) (n : ℕ) (done : List Item) (item : Item) → IsFetching c kept mine r done
    → MayGive c mine kept.who (Peek r n) (Items (done ++ item ∷ [])) → StandsFor c (fetched_item c r item kept) (with_told mine (Peek r n) (Items (done ++ item ∷ [])))
fetched_ends c kept mine r n done item h gift = record {
  caller = h.caller;
  own = gift_goes c mine kept.who (Peek r n) (Items (done ++ item ∷ [])) gift;
  keeps = fetched_keeps c kept r item (mine ++ fetching r done) (with_told mine (Peek r n) (Items (done ++ item ∷ [])))
      (gift_legal c mine kept.who (Peek r n) (Items (done ++ item ∷ [])) gift).known
      (one_fetched c r done item mine (mine ++ fetching r done) (with_told mine (Peek r n) (Items (done ++ item ∷ []))) (fetching_peeked c r done mine) (told_peeked c r n (done ++ item ∷ []) mine))
      (within c kept mine r n done item [] h gift) h.keeps;
}

-- ---- step by step

pub room_same : (g : Geometry) (sg : Bool) (a b : Noted) (r : Ring) (desc : XdpDesc) → a.queues ≡ b.queues → HasRoom g sg b r desc → HasRoom g sg a r desc
room_same g sg a b (Fill d) desc e h = tt
room_same g sg a b (Comp d) desc e h = tt
room_same g sg a b (Rx s) desc e h = tt
room_same g sg a b (Tx s) desc e h =
    subst (λ qs. (s < length qs) × (length (pushed g sg (slice_index_or qs s no_queue) desc).descs ≤ (slice_index_or qs s no_queue).limit)) (sym e) h

queues_same : (g : Geometry) (sg : Bool) (kept : Noted) (places : List Places) (sources : List (Option Ring)) (r : Ring) (desc : XdpDesc)
    → queues_with g sg (record { who = kept.who; places = places; sources = sources; queues = kept.queues; marked = kept.marked }) r desc ≡ queues_with g sg kept r desc
queues_same g sg kept places sources (Fill d) desc = refl
queues_same g sg kept places sources (Comp d) desc = refl
queues_same g sg kept places sources (Rx s) desc = refl
queues_same g sg kept places sources (Tx s) desc = refl

pub fetched_steps : (c : Config) (r : Ring) (item : Item) (kept held sourced now : Noted) → held ≡ record kept { places = one_held kept (place c r) }
    → sourced ≡ record held { sources = sources_with held.sources item.frame (Some r) }
    → now ≡ record sourced { queues = queues_with c.geometry c.sg sourced r item.desc } → now ≡ fetched_item c r item kept
fetched_steps c r item kept held sourced now e f g =
    let two : sourced ≡ record kept { places = one_held kept (place c r); sources = sources_with kept.sources item.frame (Some r) } =
    f ∙ ap (λ (k : Noted). record k { sources = sources_with k.sources item.frame (Some r) }) e in
    g
    ∙ ap (λ (k : Noted). record k { queues = queues_with c.geometry c.sg k r item.desc }) two
    ∙ ap (λ qs. record kept { places = one_held kept (place c r); sources = sources_with kept.sources item.frame (Some r); queues = qs })
    (queues_same c.geometry c.sg kept (one_held kept (place c r)) (sources_with kept.sources item.frame (Some r)) r item.desc)
