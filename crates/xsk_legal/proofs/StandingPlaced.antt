-- A standing after one more item of a Submit.
use Rattle.std.proofs.Common.{◌≡◌, ℕ, ◌+◌, ◌-◌, ◌<◌, ◌≤◌, Bool, true, false, cond, eqb, nat_lt, List, [], ◌∷◌, ◌++◌, length, map, drop, Option, Some, None, refl, sym, ap, subst, ◌∙◌, arith, append_assoc, length-append, length-drop, drop-drop, eq-eqb}
use Rattle.std.specs.Prelude.{IfSome}
use Rattle.std.specs.List.{slice_index_or}
use Rattle.std.proofs.lemmas.List.{length-map}
use Rattle.std.proofs.lemmas.List.Elements.{All-head}
use Rattle.xsk_umem.specs.Frame.{Frame}
use Rattle.xsk_umem.specs.declared.batch.Item.{Item}
use Rattle.xsk_umem.specs.declared.batch.XdpDesc.{XdpDesc}
use Rattle.xsk_model.specs.Config.{Config, HasRing}
use Rattle.xsk_model.specs.Packets.{rest}
use Rattle.xsk_model.specs.Rings.{place}
use Rattle.xsk_model.specs.Entry.{Told, with_told}
use Rattle.xsk_model.specs.Own.{TxWork, room_of, tx_work_of}
use Rattle.xsk_model.specs.Legal.{IsLegal, IsItemOn}
use Rattle.xsk_model.specs.declared.call.Ring.{Ring}
use Rattle.xsk_model.specs.declared.call.Ring.TheVariants.{Fill, Comp, Rx, Tx}
use Rattle.xsk_model.specs.declared.call.Call.TheVariants.{Submit}
use Rattle.xsk_model.specs.declared.call.Reply.TheVariants.{Submitted}
use Rattle.xsk_model.proofs.Places.{is_ring-self}
use Rattle.xsk_model.proofs.Sendings.{tx_work_of-push}
use Rattle.xsk_legal.specs.declared.standing.Places.{Places}
use Rattle.xsk_legal.specs.Noted.{Queue, Noted}
use Rattle.xsk_legal.specs.Queue.{first_off}
use Rattle.xsk_legal.specs.Standing.{StandsFor, IsPlacing, placing, source_of, given_back, places_at, no_queue, queue_at, none_back, desc_of, uncompleted}
use Rattle.xsk_legal.specs.Pieces.{frame_source, item_source}
use Rattle.xsk_legal.specs.ItemNotes.{one_filled, sources_with, queues_of_source, queues_without, placed_item, HasFirst, HasGiven}
use Rattle.xsk_legal.proofs.Steps.{all_later}
use Rattle.xsk_legal.proofs.Waiting.{IsWaiting, own_waiting, number_below}
use Rattle.xsk_legal.proofs.OnePlaced.{told_placed, placing_placed, one_placed, queue-first, IsLeft, placed_keeps}
use Rattle.xsk_legal.proofs.Completing.{item_framed, item_from, not_earlier, given_is, some_left, told_sending, left_is}
use Rattle.xsk_model.proofs.OwnRuns.{own_push}

-- ---- on COMPLETION

first_descs : (b : Bool) (q : Queue) (n : ℕ) (all : List XdpDesc) → q.descs ≡ drop (cond b n 0) all → (cond b (first_off q) q).descs ≡ drop (cond b (n + 1) 0) all
first_descs true q n all h = ap (drop 1) h ∙ drop-drop 1 n all
first_descs false q n all h = h

first_begun : (b : Bool) (q : Queue) → (cond b (first_off q) q).begun ≡ q.begun
first_begun true q = refl
first_begun false q = refl

some_first : (done : List Item) (item : Item) → (first : Item) × (others : List Item) × (done ++ item ∷ [] ≡ first ∷ others)
some_first [] item = (item, [], refl)
some_first (x ∷ xs) item = (x, xs ++ item ∷ [], refl)

module _ (c : Config) (kept : Noted) (mine : List Told) (d : ℕ) (done : List Item) (item : Item) (later : List Item)
    (h : IsPlacing c kept mine (Comp d) done) (legal : IsLegal c mine kept.who (Submit (Comp d) (done ++ item ∷ later))) where
  waits : IsWaiting c mine
  waits = own_waiting c kept.who (omega (arith, legal.role, legal.known)) mine h.own

  -- the frame came from the TX ring whose packet is completed
  source_is : item_source kept.sources item ≡ Some (Tx legal.packets.socket)
  source_is =
      let frame : (f : Frame) × (item.frame ≡ Some f) = item_framed c mine d (done ++ item ∷ later) waits legal.items legal.frames legal.packets done item later refl in
      let n : ℕ = frame.0.number in
      let below : n < c.geometry.frames =
      number_below c.geometry (Comp d) item frame.0 (All-head (IsItemOn c.geometry (Comp d)) item later (all_later (IsItemOn c.geometry (Comp d)) done (item ∷ later) legal.items)) frame.1 in
      ap (frame_source kept.sources) frame.1
      ∙ h.keeps.sources n below
      ∙ (placing_placed (Comp d) done mine).sources n
      ∙ ap (λ k. cond (nat_lt 0 k) None (source_of n mine)) (not_earlier c mine d (done ++ item ∷ later) waits legal.items legal.frames legal.packets done item later refl)
      ∙ item_from c mine d (done ++ item ∷ later) waits legal.items legal.frames legal.packets done item later refl

  queue_now : (s : ℕ) → HasRing c (Tx s)
      → slice_index_or (queues_without kept (Comp d) (item_source kept.sources item)) s no_queue ≡ cond (eqb s legal.packets.socket) (first_off (queue_at kept s)) (queue_at kept s)
  queue_now s has =
      ap (λ source. slice_index_or (queues_of_source kept source) s no_queue) source_is ∙ queue-first kept legal.packets.socket s (omega (arith, has.0, h.keeps.sockets))

  descs_now : (s : ℕ) → HasRing c (Tx s) → (slice_index_or (queues_without kept (Comp d) (item_source kept.sources item)) s no_queue).descs
      ≡ drop (cond (eqb s legal.packets.socket) (length (done ++ item ∷ [])) 0) (map desc_of (uncompleted c (tx_work_of c s mine)))
  descs_now s has =
      let size : length done + 1 ≡ length (done ++ item ∷ []) = omega (arith, length-append done (item ∷ [])) in
      let before = h.keeps.descs s has
      ∙ ap (λ k. drop k (map desc_of (uncompleted c (tx_work_of c s mine))))
      (given_is c mine d (done ++ item ∷ later) waits legal.items legal.frames legal.packets done (item ∷ later) refl s) in
      ap (λ (q : Queue). q.descs) (queue_now s has)
      ∙ first_descs (eqb s legal.packets.socket) (queue_at kept s) (length done) (map desc_of (uncompleted c (tx_work_of c s mine))) before
      ∙ ap (λ k. drop (cond (eqb s legal.packets.socket) k 0) (map desc_of (uncompleted c (tx_work_of c s mine)))) size

  begun_now : (s : ℕ) → HasRing c (Tx s) → (slice_index_or (queues_without kept (Comp d) (item_source kept.sources item)) s no_queue).begun
      ≡ length (rest c.geometry c.sg (tx_work_of c s mine).peeked)
  begun_now s has = ap (λ (q : Queue). q.begun) (queue_now s has) ∙ first_begun (eqb s legal.packets.socket) (queue_at kept s) ∙ h.keeps.begun s has

  comp_left : (s : ℕ) → HasRing c (Tx s) → IsLeft c kept (Comp d) item s mine (given_back c mine (Comp d) (done ++ item ∷ []) s)
  comp_left s has = record {
    descs = descs_now s has
        ∙ ap (λ k. drop k (map desc_of (uncompleted c (tx_work_of c s mine))))
        (sym (given_is c mine d (done ++ item ∷ later) waits legal.items legal.frames legal.packets (done ++ item ∷ []) later (sym (append_assoc done (item ∷ []) later)) s));
    begun = begun_now s has;
  }

  comp_given : HasFirst kept (item_source kept.sources item)
  comp_given =
      let s : ℕ = legal.packets.socket in
      let size = ap length (h.keeps.descs legal.packets.socket legal.packets.tx
      ∙ ap (λ k. drop k (map desc_of (uncompleted c (tx_work_of c legal.packets.socket mine))))
      (given_is c mine d (done ++ item ∷ later) waits legal.items legal.frames legal.packets done (item ∷ later) refl legal.packets.socket
      ∙ ap (λ b. cond b (length done) 0) (eq-eqb s s refl))) in
      subst (HasFirst kept) (sym source_is) (
        omega (arith, legal.packets.tx.0, h.keeps.sockets),
        omega (
          arith,
          size,
          length-drop (length done) (map desc_of (uncompleted c (tx_work_of c legal.packets.socket mine))),
          length-map (uncompleted c (tx_work_of c legal.packets.socket mine)) desc_of,
          some_left c mine d (done ++ item ∷ later) waits legal.items legal.frames legal.packets,
          length-append done (item ∷ later),
          h.keeps.begun legal.packets.socket legal.packets.tx,
        ),
      )

comp_ends : (c : Config) (kept : Noted) (mine : List Told) (d : ℕ) (done : List Item) (item : Item) → IsPlacing c kept mine (Comp d) done
    → IsLegal c mine kept.who (Submit (Comp d) (done ++ item ∷ [])) → (s : ℕ) → HasRing c (Tx s)
    → IsLeft c kept (Comp d) item s (with_told mine (Submit (Comp d) (done ++ item ∷ [])) Submitted) 0
comp_ends c kept mine d done item h legal s has =
    let first = some_first done item in
    record {
      descs = descs_now c kept mine d done item [] h legal s has
          ∙ sym (left_is c mine d (done ++ item ∷ []) (waits c kept mine d done item [] h legal) legal.items legal.frames legal.packets first.0 first.1 first.2 s);
      begun = begun_now c kept mine d done item [] h legal s has
          ∙ ap (λ (u : TxWork). length (rest c.geometry c.sg u.peeked))
          (sym (told_sending c mine d (done ++ item ∷ []) (waits c kept mine d done item [] h legal) legal.items legal.frames legal.packets s));
    }

-- ---- on each ring

placed_left : (c : Config) (kept : Noted) (mine : List Told) (r : Ring) (done : List Item) (item : Item) (later : List Item) → IsPlacing c kept mine r done
    → IsLegal c mine kept.who (Submit r (done ++ item ∷ later)) → (s : ℕ) → HasRing c (Tx s) → IsLeft c kept r item s mine (given_back c mine r (done ++ item ∷ []) s)
placed_left c kept mine (Fill d) done item later h legal s has = record { descs = h.keeps.descs s has; begun = h.keeps.begun s has }
placed_left c kept mine (Comp d) done item later h legal s has = comp_left c kept mine d done item later h legal s has
placed_left c kept mine (Rx t) done item later h legal s has = record { descs = h.keeps.descs s has; begun = h.keeps.begun s has }
placed_left c kept mine (Tx t) done item later h legal s has = record { descs = h.keeps.descs s has; begun = h.keeps.begun s has }

ends_left : (c : Config) (kept : Noted) (mine : List Told) (r : Ring) (done : List Item) (item : Item) → IsPlacing c kept mine r done
    → IsLegal c mine kept.who (Submit r (done ++ item ∷ [])) → (s : ℕ) → HasRing c (Tx s) → IsLeft c kept r item s (with_told mine (Submit r (done ++ item ∷ [])) Submitted) 0
ends_left c kept mine (Fill d) done item h legal s has =
    let same : tx_work_of c s (with_told mine (Submit (Fill d) (done ++ item ∷ [])) Submitted) ≡ tx_work_of c s mine =
    tx_work_of-push c s mine (record { call = Submit (Fill d) (done ++ item ∷ []); reply = Submitted }) in
    record {
      descs = h.keeps.descs s has ∙ ap (λ u. map desc_of (uncompleted c u)) (sym same);
      begun = h.keeps.begun s has ∙ ap (λ (u : TxWork). length (rest c.geometry c.sg u.peeked)) (sym same);
    }
ends_left c kept mine (Comp d) done item h legal s has = comp_ends c kept mine d done item h legal s has
ends_left c kept mine (Rx t) done item h legal s has =
    let same : tx_work_of c s (with_told mine (Submit (Rx t) (done ++ item ∷ [])) Submitted) ≡ tx_work_of c s mine =
    tx_work_of-push c s mine (record { call = Submit (Rx t) (done ++ item ∷ []); reply = Submitted }) in
    record {
      descs = h.keeps.descs s has ∙ ap (λ u. map desc_of (uncompleted c u)) (sym same);
      begun = h.keeps.begun s has ∙ ap (λ (u : TxWork). length (rest c.geometry c.sg u.peeked)) (sym same);
    }
ends_left c kept mine (Tx t) done item h legal s has =
    let same : tx_work_of c s (with_told mine (Submit (Tx t) (done ++ item ∷ [])) Submitted) ≡ tx_work_of c s mine =
    tx_work_of-push c s mine (record { call = Submit (Tx t) (done ++ item ∷ []); reply = Submitted }) in
    record {
      descs = h.keeps.descs s has ∙ ap (λ u. map desc_of (uncompleted c u)) (sym same);
      begun = h.keeps.begun s has ∙ ap (λ (u : TxWork). length (rest c.geometry c.sg u.peeked)) (sym same);
    }

pub placed_given : (c : Config) (kept : Noted) (mine : List Told) (r : Ring) (done : List Item) (item : Item) (later : List Item) → IsPlacing c kept mine r done
    → IsLegal c mine kept.who (Submit r (done ++ item ∷ later)) → HasGiven kept r (item_source kept.sources item)
placed_given c kept mine (Fill d) done item later h legal = tt
placed_given c kept mine (Comp d) done item later h legal = comp_given c kept mine d done item later h legal
placed_given c kept mine (Rx t) done item later h legal = tt
placed_given c kept mine (Tx t) done item later h legal = tt

module _ (c : Config) (kept : Noted) (mine : List Told) (r : Ring) (done : List Item) (item : Item) (later : List Item)
    (h : IsPlacing c kept mine r done) (legal : IsLegal c mine kept.who (Submit r (done ++ item ∷ later))) where
  pub placed_goes : IsPlacing c (placed_item c r item kept) mine r (done ++ item ∷ [])
  placed_goes = record {
    caller = h.caller;
    own = h.own;
    keeps = placed_keeps c kept r item (mine ++ placing r done) (mine ++ placing r (done ++ item ∷ [])) mine mine (given_back c mine r done) (given_back c mine r (done ++ item ∷ [])) legal.known
        (one_placed r done item mine (mine ++ placing r done) (mine ++ placing r (done ++ item ∷ [])) (placing_placed r done mine) (placing_placed r (done ++ item ∷ []) mine))
        h.keeps (placed_left c kept mine r done item later h legal);
  }

  pub placed_ring : HasRing c r
  placed_ring = legal.known

  pub placed_room : 1 ≤ (places_at kept (place c r)).room
  placed_room =
      let now : room_of r (mine ++ placing r done) ≡ room_of r mine - length done =
      (placing_placed r done mine).room r ∙ ap (λ b. cond b (room_of r mine - length done) (room_of r mine)) (is_ring-self r) in
      omega (arith, now, h.keeps.room r legal.known, legal.counted.2, length-append done (item ∷ later))

  pub placed_frame : IfSome item.frame (λ (f : Frame). f.number < length kept.sources)
  placed_frame = some_frame item.frame refl
    where
      some_frame : (frame : Option Frame) → item.frame ≡ frame → IfSome frame (λ (f : Frame). f.number < length kept.sources)
      some_frame None e = tt
      some_frame (Some f) e =
          omega (
            arith,
            h.keeps.frames,
            number_below c.geometry r item f (All-head (IsItemOn c.geometry r) item later (all_later (IsItemOn c.geometry r) done (item ∷ later) legal.items)) e,
          )

-- the last item
pub placed_ends : (c : Config) (kept : Noted) (mine : List Told) (r : Ring) (done : List Item) (item : Item) → IsPlacing c kept mine r done
    → IsLegal c mine kept.who (Submit r (done ++ item ∷ [])) → StandsFor c (placed_item c r item kept) (with_told mine (Submit r (done ++ item ∷ [])) Submitted)
placed_ends c kept mine r done item h legal = record {
  caller = h.caller;
  own = own_push c kept.who [] mine (record { call = Submit r (done ++ item ∷ []); reply = Submitted }) h.own legal tt;
  keeps = placed_keeps c kept r item (mine ++ placing r done) (with_told mine (Submit r (done ++ item ∷ [])) Submitted) mine (with_told mine (Submit r (done ++ item ∷ [])) Submitted)
      (given_back c mine r done) none_back legal.known
      (one_placed r done item mine (mine ++ placing r done) (with_told mine (Submit r (done ++ item ∷ [])) Submitted) (placing_placed r done mine) (told_placed r (done ++ item ∷ []) mine))
      h.keeps (ends_left c kept mine r done item h legal);
}

-- ---- step by step

pub first_same : (a b : Noted) (source : Option Ring) → a.queues ≡ b.queues → HasFirst b source → HasFirst a source
first_same a b None e h = tt
first_same a b (Some (Fill d)) e h = tt
first_same a b (Some (Comp d)) e h = tt
first_same a b (Some (Rx s)) e h = tt
first_same a b (Some (Tx s)) e h = subst (λ qs. (s < length qs) × ((slice_index_or qs s no_queue).begun < length (slice_index_or qs s no_queue).descs)) (sym e) h

pub given_same : (a b : Noted) (r : Ring) (source : Option Ring) → a.queues ≡ b.queues → HasGiven b r source → HasGiven a r source
given_same a b (Fill d) source e h = tt
given_same a b (Comp d) source e h = first_same a b source e h
given_same a b (Rx s) source e h = tt
given_same a b (Tx s) source e h = tt

off_same : (kept : Noted) (places : List Places) (sources : List (Option Ring)) (source : Option Ring)
    → queues_of_source (record { who = kept.who; places = places; sources = sources; queues = kept.queues; marked = kept.marked }) source ≡ queues_of_source kept source
off_same kept places sources None = refl
off_same kept places sources (Some (Fill d)) = refl
off_same kept places sources (Some (Comp d)) = refl
off_same kept places sources (Some (Rx s)) = refl
off_same kept places sources (Some (Tx s)) = refl

without_same : (kept : Noted) (places : List Places) (sources : List (Option Ring)) (r : Ring) (source : Option Ring)
    → queues_without (record { who = kept.who; places = places; sources = sources; queues = kept.queues; marked = kept.marked }) r source ≡ queues_without kept r source
without_same kept places sources (Fill d) source = refl
without_same kept places sources (Comp d) source = off_same kept places sources source
without_same kept places sources (Rx s) source = refl
without_same kept places sources (Tx s) source = refl

pub placed_steps : (c : Config) (r : Ring) (item : Item) (kept filled sourced now : Noted) (source : Option Ring) → filled ≡ record kept { places = one_filled kept (place c r) }
    → source ≡ item_source filled.sources item → sourced ≡ record filled { sources = sources_with filled.sources item.frame None }
    → now ≡ record sourced { queues = queues_without sourced r source } → now ≡ placed_item c r item kept
placed_steps c r item kept filled sourced now source e is f g =
    let two : sourced ≡ record kept { places = one_filled kept (place c r); sources = sources_with kept.sources item.frame None } =
    f ∙ ap (λ (k : Noted). record k { sources = sources_with k.sources item.frame None }) e in
    let from : source ≡ item_source kept.sources item = is ∙ ap (λ (k : Noted). item_source k.sources item) e in
    g
    ∙ ap (λ (k : Noted). record k { queues = queues_without k r source }) two
    ∙ ap (λ qs. record kept { places = one_filled kept (place c r); sources = sources_with kept.sources item.frame None; queues = qs })
    (without_same kept (one_filled kept (place c r)) (sources_with kept.sources item.frame None) r source ∙ ap (queues_without kept r) from)
