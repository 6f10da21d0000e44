-- What a driver sent by one socket is no more than what was forwarded there, whatever is changed and whatever socket is closed.
use Rattle.std.proofs.Common.{◌≡◌, ℕ, zero, suc, ◌<◌, ◌≤◌, ◌⊎◌, inl, inr, ⊎_elim, Bool, Option, Some, None, List, [], ◌∷◌, ◌++◌, map, refl, ap, subst, ◌∙◌, arith}
use Rattle.std.proofs.lemmas.List.{map-append}
use Rattle.xsk_umem.specs.Frame.{Frame}
use Rattle.xsk_umem.specs.Geometry.{Geometry, IsGeometry}
use Rattle.xsk_umem.specs.PacketList.{PacketList}
use Rattle.xsk_umem.specs.declared.batch.Item.{Item}
use Rattle.xsk_model.specs.Config.{Config}
use Rattle.xsk_model.specs.Rings.{caller_of}
use Rattle.xsk_model.specs.Entry.{Told, Entry, own}
use Rattle.xsk_model.specs.Own.{peeked_of, submitted_of}
use Rattle.xsk_model.specs.Packets.{packets, packets_from, rest_from, whole_packets, bytes_of}
use Rattle.xsk_model.specs.Sent.{sent_by}
use Rattle.xsk_model.specs.Steering.{paired_port, driver_on, socket_on}
use Rattle.xsk_model.specs.declared.call.Ring.TheVariants.{Rx, Tx}
use Rattle.xsk_model.proofs.PacketsLaws.{packets_from-append, whole_packets-append}
use Rattle.xsk_prog.specs.declared.rule.Verdict.{Verdict}
use Rattle.xsk_turns.specs.AppLaw.{AreAltered}
use Rattle.xsk_turns.specs.AppOwned.{IsApp}
use Rattle.xsk_turns.specs.AppTurns.{rx_of, app_turn, app_start_by, IsWholeAppRunBy}
use Rattle.xsk_turns.specs.Law.{IsLaidOut}
use Rattle.xsk_turns.specs.declared.manner.Manner.{Manner}
use Rattle.xsk_turns.specs.declared.wire.Wire.{Wire}
use Rattle.xsk_turns.proofs.AppLanes as lanes
use Rattle.xsk_turns.proofs.AppWalk as walk
use Rattle.xsk_turns.proofs.Mangling.{altered_append}
use Rattle.xsk_turns.proofs.Walks.{Anything, meet_anything}
use Rattle.xsk_laws.specs.Forwarded.{forwarded}
use Rattle.xsk_laws.specs.Laws.{AreEndedRunsBy, IsPlace}
use Rattle.xsk_laws.proofs.Altered.{IsMeasured, altered_few}
use Rattle.xsk_laws.proofs.Joined as joined
use Rattle.xsk_laws.proofs.Machines.{workers}
use Rattle.xsk_laws.proofs.Places.{ArePaired, app_on, app_below, lane_on, lane_below, lane_rx, lane_tx}
use Rattle.xsk_turns.specs.Totals.{total}
use Rattle.xsk_turns.proofs.Totals.{total-append}

-- ---- several hands

-- where several hands make an application's calls no socket is to be closed
pub one_or_open : (hands : ℕ) (manner : Manner) (wire : Wire) (c : Config) (lists : List PacketList) (verdicts : List (List Verdict)) (frames : List Frame) (h : List Entry) (port queue : ℕ)
    → AreEndedRunsBy hands manner wire c lists verdicts frames h → port < c.ports → queue < c.queues → (hands ≡ 1) ⊎ (c.closing ≡ None)
one_or_open zero manner wire c lists verdicts frames h port queue run in_ports in_queues =
    inr (run.apps (app_on c port queue) (app_below c port queue run.history.opened.config in_ports in_queues)).1.closes
one_or_open (suc zero) manner wire c lists verdicts frames h port queue run in_ports in_queues = inl refl
one_or_open (suc (suc hands)) manner wire c lists verdicts frames h port queue run in_ports in_queues =
    inr (run.apps (app_on c port queue) (app_below c port queue run.history.opened.config in_ports in_queues)).1.closes

-- ---- items of which the first were passed on

same_altered : (g : Geometry) (mangle : Option ℕ) (items : List Item) → AreAltered g mangle items items
same_altered g None [] = tt
same_altered g (Some every) [] = tt
same_altered g None (item ∷ items) = (refl, same_altered g None items)
same_altered g (Some every) (item ∷ items) = (inl refl, same_altered g (Some every) items)

-- they make no more whole packets than those of which all were the layouts, and with no more bytes
front_few : (g : Geometry) (sg : Bool) (mangle : Option ℕ) → IsGeometry g → (f : List ℕ → ℕ) → IsMeasured f → (ps : List (List ℕ)) (out pending all : List Item) → IsLaidOut g sg ps all
    → lanes.Follows g mangle out pending all → total f (map (bytes_of g sg) (whole_packets (packets g sg out))) ≤ total f ps
front_few g sg mangle lawful f m ps out pending all laid follows =
    let altered = altered_append g mangle follows.front out pending pending follows.altered (same_altered g mangle pending) in
    let few = altered_few g sg mangle lawful f m ps all (out ++ pending) laid (subst (λ xs. AreAltered g mangle xs (out ++ pending)) follows.whole altered) in
    let first = whole_packets (packets g sg out) in
    let later = whole_packets (packets_from g sg (rest_from g sg [] out) pending) in
    let parts : whole_packets (packets g sg (out ++ pending)) ≡ first ++ later =
    ap whole_packets (packets_from-append g sg [] out pending) ∙ whole_packets-append (packets g sg out) (packets_from g sg (rest_from g sg [] out) pending) in
    omega (
      arith,
      few,
      ap (λ (l : List (List Item)). total f (map (bytes_of g sg) l)) parts,
      ap (total f) (map-append (bytes_of g sg) first later),
      total-append f (map (bytes_of g sg) first) (map (bytes_of g sg) later),
    )

-- ---- a lane

-- on each lane of an application of one hand, what was submitted is the first of what was peeked, each item as it was or changed
fronts : (manner : Manner) (c : Config) (a : ℕ) (one : IsApp c a) (l : List Told) → IsWholeAppRunBy manner c a l → lanes.Lawful manner c a l
fronts manner c a one l whole =
    (walk.at_end c a one Anything (lanes.At manner c a one) (lanes.Asked manner c a one) (lanes.Ended manner c a one) (lanes.law manner c a one) (app_start_by manner c) (lanes.first manner c a one l) l
    (meet_anything (app_turn c a) (app_turn c a (app_start_by manner c)) [] l) whole.0 whole.1).lawful

-- by one hand, no more is sent than was delivered
module _ (manner : Manner) (wire : Wire) (c : Config) (lists : List PacketList) (verdicts : List (List Verdict)) (frames : List Frame) (h : List Entry) (p q k : ℕ) (run : AreEndedRunsBy 1 manner wire c lists verdicts frames h) (place : IsPlace c p q k) where
  abbrev a : ℕ
  a = app_on c p q

  abbrev lane : ℕ
  lane = lane_on c (paired_port p) k

  abbrev s : ℕ
  s = socket_on c (paired_port p) q k

  abbrev t : ℕ
  t = socket_on c p q k

  abbrev mine : List Told
  mine = own (caller_of c a) h

  abbrev out : List Item
  out = submitted_of (Tx t) mine

  abbrev came : List Item
  came = submitted_of (Rx s) (own (driver_on c (paired_port p) q) h)

  one : IsApp c a
  one = joined.one workers 1 manner wire c lists verdicts frames h p q k run place

  pair : ArePaired c.ports p (paired_port p)
  pair = joined.pair workers 1 manner wire c lists verdicts frames h p q k run place

  abbrev AreFront : ℕ → ℕ → Type 0
  AreFront from to = (pending : List Item) × lanes.Follows c.geometry manner.mangle (submitted_of (Tx to) mine) pending (peeked_of (Rx from) mine)

  first : AreFront s t
  first =
      subst (λ n. AreFront n t) (lane_rx c p q k (paired_port p) place.in_queues place.in_classes pair.there)
      (subst (AreFront (rx_of c a lane)) (lane_tx c p q k (paired_port p) place.in_queues place.in_classes pair.here)
      ((fronts manner c a one mine (run.apps a one.known)).fronts lane (lane_below c (paired_port p) k place.in_classes)))

  pub came_first : (pending : List Item) × lanes.Follows c.geometry manner.mangle out pending came
  came_first = (first.0, subst (lanes.Follows c.geometry manner.mangle out first.0) (joined.received_all workers 1 manner wire c lists verdicts frames h p q k run place) first.1)

  pub sent_fewer_by_one : (f : List ℕ → ℕ) → IsMeasured f → total f (sent_by c h (driver_on c p q) t) ≤ total f (forwarded wire c h lists verdicts p q k)
  sent_fewer_by_one f is =
      omega (
        arith,
        ap (total f) (joined.sent_wholes workers 1 manner wire c lists verdicts frames h p q k run place),
        ap (λ (l : List Item). total f (map (bytes_of c.geometry c.sg) (whole_packets (packets c.geometry c.sg l)))) (joined.peeked_sent workers 1 manner wire c lists verdicts frames h p q k run place),
        front_few c.geometry c.sg manner.mangle run.history.opened.geometry f is (forwarded wire c h lists verdicts p q k) out came_first.0 came (joined.laid workers 1 manner wire c lists verdicts frames h p q k run place) came_first.1,
      )

-- and so by any number of hands
pub sent_fewer : (hands : ℕ) (manner : Manner) (wire : Wire) (c : Config) (lists : List PacketList) (verdicts : List (List Verdict)) (frames : List Frame) (h : List Entry) (p q k : ℕ)
    → AreEndedRunsBy hands manner wire c lists verdicts frames h → IsPlace c p q k → (f : List ℕ → ℕ) → IsMeasured f
    → total f (sent_by c h (driver_on c p q) (socket_on c p q k)) ≤ total f (forwarded wire c h lists verdicts p q k)
sent_fewer hands manner wire c lists verdicts frames h p q k run place f is = ⊎_elim
    (λ (one : hands ≡ 1). sent_fewer_by_one manner wire c lists verdicts frames h p q k (subst (λ n. AreEndedRunsBy n manner wire c lists verdicts frames h) one run) place f is)
    (λ (closes : c.closing ≡ None). joined.sent_fewer workers hands manner wire c lists verdicts frames h p q k run place closes f is)
    (one_or_open hands manner wire c lists verdicts frames h p q run place.in_ports place.in_queues)
