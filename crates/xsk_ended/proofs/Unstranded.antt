-- Where no item is changed no frame is stranded at the end, whether or not a socket is closed: what a driver peeked on a TX ring are the
-- layouts that the paired driver submitted, or the first of them, up to the end of a packet.
use Rattle.std.proofs.Common.{◌≡◌, ℕ, ◌+◌, ◌<◌, ◌≤◌, ◌⊎◌, ⊎_elim, Bool, true, false, cond, not, ◌||◌, eqb, eq-eqb, Some, None, List, [], ◌∷◌, ◌++◌, length, nat_le, is_some, refl, sym, ap, ◌∙◌, subst, arith}
use Rattle.std.proofs.lemmas.Bool.{eqb-true}
use Rattle.xsk_umem.specs.Frame.{Frame}
use Rattle.xsk_umem.specs.Geometry.{Geometry}
use Rattle.xsk_umem.specs.PacketList.{PacketList}
use Rattle.xsk_umem.specs.declared.batch.Item.{Item}
use Rattle.xsk_model.specs.Config.{Config, IsConfig, classes_of}
use Rattle.xsk_model.specs.Rings.{caller_of}
use Rattle.xsk_model.specs.Entry.{Told, Entry, own}
use Rattle.xsk_model.specs.History.{OwnGoesOn}
use Rattle.xsk_model.specs.Own.{peeked_of, submitted_of}
use Rattle.xsk_model.specs.Descriptor.{is_valid}
use Rattle.xsk_model.specs.Limits.{most_fragments}
use Rattle.xsk_model.specs.Packets.{Packet, whole, bad, packets, packets_from, rest, rest_from, group_after, bad_items}
use Rattle.xsk_model.specs.Steering.{paired_port, driver_on, socket_on}
use Rattle.xsk_model.specs.declared.call.Ring.TheVariants.{Rx, Tx}
use Rattle.xsk_model.proofs.PacketsLaws.{packets_from-append, bad_items-append}
use Rattle.xsk_model.proofs.Seats.{IsAt, is_at}
use Rattle.xsk_model.proofs.Theorems.{own_entries}
use Rattle.xsk_prog.specs.declared.rule.Verdict.{Verdict}
use Rattle.xsk_turns.specs.AppLaw.{StaysOpen, AreAltered}
use Rattle.xsk_turns.specs.AppOwned.{IsApp}
use Rattle.xsk_turns.specs.AppTurns.{rx_of, tx_of, is_closed, is_cut, IsWholeAppRunBy}
use Rattle.xsk_turns.specs.Owned.{IsSeat}
use Rattle.xsk_turns.specs.Stranded.{stranded_in, sent_count, completed_count}
use Rattle.xsk_turns.specs.declared.manner.Manner.{Manner}
use Rattle.xsk_turns.specs.declared.wire.Wire.{Wire}
use Rattle.xsk_turns.proofs.AppClosing.{set_at_end}
use Rattle.xsk_turns.proofs.AppLanes.{lanes_passed_on}
use Rattle.xsk_turns.proofs.Mangling.{altered_same}
use Rattle.xsk_turns.proofs.Stranding.{keeps_stranded_at_end, none_stranded}
use Rattle.xsk_laws.specs.Laws.{received_by, AreEndedRunsBy, IsPlace}
use Rattle.xsk_laws.proofs.Joined as joined
use Rattle.xsk_laws.proofs.Laid.{laid_items}
use Rattle.xsk_laws.proofs.Machines.{workers}
use Rattle.xsk_laws.proofs.Places.{ArePaired, app_on, lane_on, lane_below, lane_rx, lane_tx}
use Rattle.xsk_ended.specs.Laws.{EndedStrandNone}
use Rattle.xsk_ended.proofs.Cutting.{ends_whole}
use Rattle.xsk_ended.proofs.Lanes.{one_or_open, came_first}

-- ---- the first of some items, up to the end of a packet

module _ (g : Geometry) (sg : Bool) where
  abbrev HasNoRest : List Item → Type 0
  HasNoRest items = (bad_items (packets g sg items) ≡ 0) × (rest g sg items ≡ [])

  ended_so : (b c d : Bool) (x y z : Packet) → d ≡ false → is_some (cond b (Some x) (cond c (Some y) (cond d None (Some z)))) ≡ true
  ended_so true c d x y z e = refl
  ended_so false true d x y z e = refl
  ended_so false false true x y z e = absurd (cc)
  ended_so false false false x y z e = refl

  whole_off : (n : ℕ) → not (eqb n 0) ≡ false → eqb n 1 ≡ false
  whole_off n e = ap (λ (k : ℕ). eqb k 1) (eqb-true n 0 (off (eqb n 0) e))
    where
      off : (b : Bool) → not b ≡ false → b ≡ true
      off true f = refl
      off false f = absurd (cc)

  -- no group is left behind an item whose packet doesn't go on
  none_left : (group items : List Item) → 1 ≤ length items → is_cut items ≡ false → rest_from g sg group items ≡ []
  none_left group [] some e = absurd (omega (arith, some))
  none_left group (item ∷ []) some e =
      let more : List Item = group ++ item ∷ [] in
      ap (λ b. cond b [] (group ++ item ∷ [])) (ended_so (nat_le most_fragments (length group)) (not (is_valid g sg item.desc)) (eqb item.desc.options 1) (bad more) (bad more) (whole more) (whole_off item.desc.options e))
  none_left group (item ∷ next ∷ items) some e = none_left (group_after g sg group item) (next ∷ items) (omega arith) e

  no_rest : (items : List Item) → is_cut items ≡ false → rest g sg items ≡ []
  no_rest [] e = refl
  no_rest (item ∷ items) e = none_left [] (item ∷ items) (omega arith) e

  first_whole : (out more all : List Item) → out ++ more ≡ all → bad_items (packets g sg all) ≡ 0 → is_cut out ≡ false → HasNoRest out
  first_whole out more all e none cut =
      let parts : bad_items (packets g sg (out ++ more)) ≡ bad_items (packets g sg out) + bad_items (packets_from g sg (rest g sg out) more) =
      ap bad_items (packets_from-append g sg [] out more) ∙ bad_items-append (packets g sg out) (packets_from g sg (rest g sg out) more) in
      (omega (arith, parts, ap (λ items. bad_items (packets g sg items)) e, none), no_rest out cut)

-- ---- a lane

module _ (hands : ℕ) (manner : Manner) (wire : Wire) (c : Config) (lists : List PacketList) (verdicts : List (List Verdict)) (frames : List Frame) (h : List Entry) (p q k : ℕ) (run : AreEndedRunsBy hands manner wire c lists verdicts frames h) (place : IsPlace c p q k) where
  abbrev peeked : List Item
  peeked = peeked_of (Tx (socket_on c p q k)) (own (driver_on c p q) h)

  abbrev given : List Item
  given = submitted_of (Rx (socket_on c (paired_port p) q k)) (own (driver_on c (paired_port p) q) h)

  made : HasNoRest c.geometry c.sg given
  made =
      laid_items c.geometry c.sg run.history.opened.geometry _ given (joined.laid workers hands manner wire c lists verdicts frames h p q k run place)
      (joined.few workers hands manner wire c lists verdicts frames h p q k run place)

  -- where all were passed on
  all_passed : peeked ≡ given → HasNoRest c.geometry c.sg peeked
  all_passed same = subst (HasNoRest c.geometry c.sg) (sym same) made

module _ (manner : Manner) (none : manner.mangle ≡ None) (wire : Wire) (c : Config) (lists : List PacketList) (verdicts : List (List Verdict)) (frames : List Frame) (h : List Entry) (p q k : ℕ) (run : AreEndedRunsBy 1 manner wire c lists verdicts frames h) (place : IsPlace c p q k) where
  abbrev a : ℕ
  a = app_on c p q

  abbrev lane : ℕ
  lane = lane_on c (paired_port p) k

  abbrev mine : List Told
  mine = own (caller_of c a) h

  abbrev out : List Item
  out = submitted_of (Tx (socket_on c p q k)) mine

  one : IsApp c a
  one = joined.one workers 1 manner wire c lists verdicts frames h p q k run place

  pair : ArePaired c.ports p (paired_port p)
  pair = joined.pair workers 1 manner wire c lists verdicts frames h p q k run place

  ended : IsWholeAppRunBy manner c a mine
  ended = run.apps a one.known

  -- an open lane
  opened : StaysOpen c a lane mine → HasNoRest c.geometry c.sg (peeked 1 manner wire c lists verdicts frames h p q k run place)
  opened stays =
      let from : ℕ = socket_on c (paired_port p) q k in
      let on_lane : out ≡ peeked_of (Rx from) mine =
      subst (λ n. submitted_of (Tx n) mine ≡ peeked_of (Rx from) mine) (lane_tx c p q k (paired_port p) place.in_queues place.in_classes pair.here)
      (subst (λ n. submitted_of (Tx (tx_of c a lane)) mine ≡ peeked_of (Rx n) mine) (lane_rx c p q k (paired_port p) place.in_queues place.in_classes pair.there)
      (lanes_passed_on manner c a mine lane none one ended (lane_below c (paired_port p) k place.in_classes) stays)) in
      all_passed 1 manner wire c lists verdicts frames h p q k run place (joined.peeked_sent workers 1 manner wire c lists verdicts frames h p q k run place ∙ on_lane ∙ joined.received_all workers 1 manner wire c lists verdicts frames h p q k run place)

  never_closed : ended.0.begun ≡ false → StaysOpen c a lane mine
  never_closed off s closing here set = absurd (let no : None ≡ Some 1 = sym ((set_at_end manner c a one mine ended.0 ended.1).fed off s) ∙ set in cc)

  not_closed : is_closed c a lane c.closing ≡ false → StaysOpen c a lane mine
  not_closed off s closing here set = absurd (let no : false ≡ true = sym off ∙ ap (is_closed c a lane) closing ∙ either_on here in cc)
    where
      or_on : (b : Bool) → (b || true) ≡ true
      or_on true = refl
      or_on false = refl

      either_on : (rx_of c a lane ≡ s) ⊎ (tx_of c a lane ≡ s) → (eqb (rx_of c a lane) s || eqb (tx_of c a lane) s) ≡ true
      either_on x = ⊎_elim (λ (e : rx_of c a lane ≡ s). ap (λ b. b || eqb (tx_of c a lane) s) (eq-eqb (rx_of c a lane) s e))
          (λ (e : tx_of c a lane ≡ s). ap (λ b. eqb (rx_of c a lane) s || b) (eq-eqb (tx_of c a lane) s e) ∙ or_on (eqb (rx_of c a lane) s)) x

  -- and one that was closed
  closed : ended.0.begun ≡ true → is_closed c a lane c.closing ≡ true → HasNoRest c.geometry c.sg (peeked 1 manner wire c lists verdicts frames h p q k run place)
  closed begun on =
      let came = came_first manner wire c lists verdicts frames h p q k run place in
      let all = given 1 manner wire c lists verdicts frames h p q k run place in
      let same : out ≡ came.1.front = altered_same c.geometry came.1.front out (subst (λ x. AreAltered c.geometry x came.1.front out) none came.1.altered) in
      let cut : is_cut out ≡ false =
      subst (λ n. is_cut (submitted_of (Tx n) mine) ≡ false) (lane_tx c p q k (paired_port p) place.in_queues place.in_classes pair.here)
      (ends_whole manner none c a one lane (lane_below c (paired_port p) k place.in_classes) on mine ended.0 (joined.fit workers 1 manner wire c lists verdicts frames h p q k run place (caller_of c a)) ended.1 begun) in
      subst (HasNoRest c.geometry c.sg) (sym (joined.peeked_sent workers 1 manner wire c lists verdicts frames h p q k run place))
      (first_whole c.geometry c.sg out came.0 all (ap (λ xs. xs ++ came.0) same ∙ came.1.whole) (made 1 manner wire c lists verdicts frames h p q k run place).0 cut)

  pub by_one : HasNoRest c.geometry c.sg (peeked 1 manner wire c lists verdicts frames h p q k run place)
  by_one = by ended.0.begun (is_closed c a lane c.closing) refl refl
    where
      by : (begun on : Bool) → ended.0.begun ≡ begun → is_closed c a lane c.closing ≡ on → HasNoRest c.geometry c.sg (peeked 1 manner wire c lists verdicts frames h p q k run place)
      by false on e f = opened (never_closed e)
      by true false e f = opened (not_closed f)
      by true true e f = closed e f

-- ---- the driver

pub ended_strand_none : EndedStrandNone
ended_strand_none hands manner wire c lists verdicts frames h p q none run port queue =
    let d : ℕ = driver_on c p q in
    let config : IsConfig c = run.history.opened.config in
    let some : 0 < classes_of c = (let classes = run.regular.classes in omega (arith, classes)) in
    let at : IsAt c p q 0 d (socket_on c p q 0) = is_at c p q 0 config run.regular port queue some in
    let seat : IsSeat c d = record { config = config; regular = run.regular; geometry = run.history.opened.geometry; known = at.pair_known } in
    let goes : OwnGoesOn c d [] (own d h) = own_entries c frames h d run.history in
    let whole = run.drivers d at.pair_known in
    let nothing : stranded_in whole.0 ≡ 0 = none_stranded wire c d (received_by c lists verdicts d) (own d h) whole.0 seat goes whole.1
    (λ k within.
    let place : IsPlace c p q k = record { in_ports = port; in_queues = queue; in_classes = within } in
    ⊎_elim
    (λ (one : hands ≡ 1). by_one manner none wire c lists verdicts frames h p q k (subst (λ n. AreEndedRunsBy n manner wire c lists verdicts frames h) one run) place)
    (λ (closes : c.closing ≡ None). all_passed hands manner wire c lists verdicts frames h p q k run place (joined.peeked_all workers hands manner wire c lists verdicts frames h p q k run place closes none))
    (one_or_open hands manner wire c lists verdicts frames h p q run port queue)) in
    let kept : sent_count (own d h) ≡ stranded_in whole.0 + completed_count (own d h) = keeps_stranded_at_end wire c d (received_by c lists verdicts d) (own d h) whole.0 seat goes whole.1 in
    omega (arith, nothing, kept)
