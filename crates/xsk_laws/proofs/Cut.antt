-- What is sent where a socket is closed: on its two lanes the first packets, as many as its application passed on; on the others all.
use Rattle.std.proofs.Common.{◌≡◌, ◌≢◌, ℕ, ◌+◌, ◌<◌, ◌≤◌, ◌⊎◌, inl, inr, ⊎_elim, Bool, true, false, cond, ◌&&◌, ◌||◌, eqb, eq-eqb, ne_eqb, Option, Some, None, All, List, [], ◌∷◌, ◌++◌, length, map, take, slice_index, refl, sym, ap, ◌∙◌, subst, arith, append-nil, append_assoc}
use Rattle.std.proofs.Math.Seq.{take-append_seam}
use Rattle.std.proofs.lemmas.Bool.{cases_eq}
use Rattle.std.proofs.lemmas.List.{length-map, map-append}
use Rattle.std.proofs.lemmas.List.Elements.{All-weaker, filter-append}
use Rattle.xsk_umem.specs.Frame.{Frame}
use Rattle.xsk_umem.specs.Geometry.{Geometry}
use Rattle.xsk_umem.specs.PacketList.{PacketList}
use Rattle.xsk_umem.specs.declared.batch.Item.{Item}
use Rattle.xsk_model.specs.Config.{Config, IsConfig, HasRing, pair_at, socket_at, classes_of, map_of}
use Rattle.xsk_model.specs.Rings.{app_of, caller_of, application_on}
use Rattle.xsk_model.specs.Marks.{HasMark, HoldsClosing, IsMarkOwner}
use Rattle.xsk_model.specs.Object.{State, ring_at, mark_at, reply_at, after}
use Rattle.xsk_model.specs.Packets.{packets, packets_from, rest_from, whole_packets, bytes_of}
use Rattle.xsk_model.specs.Entry.{Told, Entry, told, own, all_told}
use Rattle.xsk_model.specs.Legal.{IsLegal}
use Rattle.xsk_model.specs.History.{Fits, IsHistory, state_after}
use Rattle.xsk_model.specs.Own.{peeked_of, submitted_of}
use Rattle.xsk_model.specs.Ends.{Telling}
use Rattle.xsk_model.specs.Sent.{sent_by}
use Rattle.xsk_model.specs.Steering.{packet_limit, paired_port, driver_on, socket_on}
use Rattle.xsk_model.specs.Swaps.{last_set}
use Rattle.xsk_model.specs.declared.call.Mark.TheVariants.{Cell, Closing}
use Rattle.xsk_model.specs.declared.call.Ring.TheVariants.{Rx, Tx}
use Rattle.xsk_model.specs.declared.call.Call.{Call}
use Rattle.xsk_model.specs.declared.call.Call.TheVariants.{Look}
use Rattle.xsk_model.specs.declared.call.Reply.{Reply}
use Rattle.xsk_model.specs.declared.call.Reply.TheVariants.{Old}
use Rattle.xsk_model.proofs.Along.{Keeps, along}
use Rattle.xsk_model.proofs.Changes.{mark_stays}
use Rattle.xsk_model.proofs.Closings.{sets_or_leaves}
use Rattle.xsk_model.proofs.Folds.{own-append, own-push_same, own-push_other}
use Rattle.xsk_model.proofs.Histories.{history_first}
use Rattle.xsk_model.proofs.MarkNumbers.{first_cell}
use Rattle.xsk_model.proofs.Seats.{IsAt}
use Rattle.xsk_model.proofs.PacketsLaws.{packets_from-append, whole_packets-append}
use Rattle.xsk_model.proofs.Theorems.{in_order, items_by_own}
use Rattle.xsk_prog.specs.declared.rule.Verdict.{Verdict}
use Rattle.xsk_turns.specs.Turns.{Seat, Judged, drops, seat_of, start, turn, redirect_to, IsDriverRun, IsWholeDriverRun}
use Rattle.xsk_turns.specs.AppLaw.{IsFront, StaysOpen}
use Rattle.xsk_turns.specs.AppOwned.{IsApp}
use Rattle.xsk_turns.specs.AppTurns.{rx_of, tx_of, lanes_of, is_closed, app_turn, app_start_by, IsAppRunBy, IsWholeAppRunBy}
use Rattle.xsk_turns.specs.Disposals.{disposal_in, is_to, delivered_to, bytes_in}
use Rattle.xsk_turns.specs.Law.{IsSized}
use Rattle.xsk_turns.specs.Owned.{IsSeat, AllFit}
use Rattle.xsk_turns.specs.declared.manner.Manner.{Manner}
use Rattle.xsk_turns.specs.declared.wire.Wire.{Wire}
use Rattle.xsk_turns.specs.declared.wire.Wire.TheVariants.{Wait}
use Rattle.xsk_turns.proofs.Acknowledging.{redirects}
use Rattle.xsk_turns.proofs.AppClosing.{set_at_end}
use Rattle.xsk_turns.proofs.AppLanes.{lanes_in_order}
use Rattle.xsk_turns.proofs.Fitting.{fit_in_history}
use Rattle.xsk_turns.proofs.Owned.{none_submitted}
use Rattle.xsk_turns.proofs.ScriptLemmas.{run_front, whole_run}
use Rattle.xsk_laws.specs.Cut.{is_one, is_cut_by, is_cut, until_cut, NothingIsCut, SentIsForwardedUntil, SentIsExpectedUntil}
use Rattle.xsk_laws.specs.Closed.{passed_count}
use Rattle.xsk_laws.specs.Expected.{received_judged, expected}
use Rattle.xsk_laws.specs.Forwarded.{forwarded}
use Rattle.xsk_laws.specs.Laws.{AreEndedRunsBy, IsPlace}
use Rattle.xsk_laws.proofs.Filters.{IsBoundTo, delivered_is}
use Rattle.xsk_laws.proofs.Machines.{workers}
use Rattle.xsk_laws.proofs.Passed.{opening_empty}
use Rattle.xsk_laws.proofs.Theorems.{first_are_sent}
use Rattle.xsk_laws.proofs.Places.{ArePaired, app_on, lane_on, lane_below, lane_rx, lane_tx}
use Rattle.xsk_laws.proofs.Wholes.{wholes}
use Rattle.xsk_laws.proofs.CutApp.{lowering_of, lowering_after, lowering_told, told_front, lowers_only, none_behind, lowered_late}
use Rattle.xsk_laws.proofs.CutDriver.{leads, LeadsAs, AllLead, IsFirst, delivered_first, delivered_all}
use Rattle.xsk_laws.proofs.Joined as joined

pub nothing_is_cut : NothingIsCut
nothing_is_cut c h port queue class packets none =
    ap (λ o. cond (is_cut_by h c (socket_on c (paired_port port) queue class) (socket_on c port queue class) o) (take (passed_count c h (socket_on c port queue class)) packets) packets) none

-- ---- the whole packets of a front

module _ (g : Geometry) (sg : Bool) where
  abbrev of_items : List Item → List (List ℕ)
  of_items items = map (bytes_of g sg) (whole_packets (packets g sg items))

  abbrev more_of : List Item → List Item → List (List ℕ)
  more_of front rest = map (bytes_of g sg) (whole_packets (packets_from g sg (rest_from g sg [] front) rest))

  front_parts : (front rest all : List Item) → front ++ rest ≡ all → of_items all ≡ of_items front ++ more_of front rest
  front_parts front rest all e =
      ap of_items (sym e) ∙ ap (λ ps. map (bytes_of g sg) (whole_packets ps)) (packets_from-append g sg [] front rest)
      ∙ ap (map (bytes_of g sg)) (whole_packets-append (packets g sg front) (packets_from g sg (rest_from g sg [] front) rest))
      ∙ map-append (bytes_of g sg) (whole_packets (packets g sg front)) (whole_packets (packets_from g sg (rest_from g sg [] front) rest))

  -- they are the first so many
  first_taken : (front : List Item) (more : List (List ℕ)) → of_items front ≡ take (length (whole_packets (packets g sg front))) (of_items front ++ more)
  first_taken front more =
      sym (take-append_seam (of_items front) more) ∙ ap (λ n. take n (of_items front ++ more)) (length-map (whole_packets (packets g sg front)) (bytes_of g sg))

-- ---- cells that lead to a socket as they are configured

all_lead_push : (c : Config) (o q s : ℕ) (l : List Told) (t : Told) → AllLead c o q s l → LeadsAs c o q s t.call t.reply → AllLead c o q s (l ++ t ∷ [])
all_lead_push c o q s [] t h k = (k, tt)
all_lead_push c o q s (x ∷ l) t h k = (h.0, all_lead_push c o q s l t h.1 k)

as_configured : (c : Config) (o q s port index n : ℕ) → n ≡ slice_index (map_of c port) index → LeadsAs c o q s (Look (Cell port index)) (Old n)
as_configured c o q s port index n e = λ same. ap (λ m. leads (redirect_to c o q m) s) (e ∙ ap (λ p. slice_index (map_of c p) index) same)

module _ (c : Config) (d s : ℕ) (is : IsSeat c d) where
  abbrev o : ℕ
  o = (pair_at c.pairs d).port

  abbrev q : ℕ
  q = (pair_at c.pairs d).queue

  -- the number of another socket leads there neither way
  leads_off : (x : ℕ) → x ≢ s → leads (redirect_to c o q (x + 1)) s ≡ false
  leads_off x other = by (redirect_to c o q (x + 1)) refl
    where
      by : (r : Option ℕ) → redirect_to c o q (x + 1) ≡ r → leads r s ≡ false
      by None e = refl
      by (Some t) e =
          let number : x + 1 ≡ t + 1 = (let to = (redirects c d (x + 1) t e).1 in omega (arith, to)) in
          ne_eqb t s (λ (f : t ≡ s). other (omega (arith, number, f)))

  -- so a socket that isn't to be closed is found as it is configured
  lead_apart : ((x : ℕ) → c.closing ≡ Some x → x ≢ s) → (past l : List Told) → AllFit c past l → AllLead c o q s l
  lead_apart apart past [] fit = tt
  lead_apart apart past (t ∷ l) fit = (by t.call t.reply fit.0.0, lead_apart apart (past ++ t ∷ []) l fit.1)
    where
      by : (call : Call) (reply : Reply) → Fits c past call reply → LeadsAs c o q s call reply
      by (Look (Cell port index)) (Old n) h = ⊎_elim
          (λ (same : n ≡ slice_index (map_of c port) index). as_configured c o q s port index n same)
          (λ (low : (n ≡ 0) × (x : ℕ) × HoldsClosing c port index x).
          λ (here : port ≡ o).
          let x = low.1 in
          let held : slice_index (map_of c o) index ≡ x + 1 = ap (λ p. slice_index (map_of c p) index) (sym here) ∙ (let number = low.2.1 in omega (arith, number)) in
          ap (λ m. leads (redirect_to c o q m) s) low.0 ∙ sym (leads_off x (apart x low.2.0)) ∙ ap (λ m. leads (redirect_to c o q m) s) (sym held))
          h
      by call reply h = tt

  -- and each is as long as no cell was lowered by the application that may do so
  module _ (frames : List Frame) (config : IsConfig c) (w t : ℕ) (owner : (who index : ℕ) → IsMarkOwner c who (Cell o index) → who ≡ w) where
    abbrev IsUp : List Entry → Type 0
    IsUp past = (lowering_of t (own w past)).told ≡ false

    abbrev Stands : State → List Entry → Type 0
    Stands x past = IsUp past → ((index : ℕ) → HasMark c (Cell o index) → mark_at c x (Cell o index) ≡ slice_index (map_of c o) index) × AllLead c o q s (own d past)

    up_before : (past : List Entry) (e : Entry) → IsUp (past ++ e ∷ []) → IsUp past
    up_before past e up = by (lowering_of t (own w past)).told refl
      where
        by : (b : Bool) → (lowering_of t (own w past)).told ≡ b → b ≡ false
        by true f = absurd (let no : true ≡ false = sym (told_front t (own w past) (own w (e ∷ [])) f) ∙ ap (λ l. (lowering_of t l).told) (sym (own-append w past (e ∷ []))) ∙ up in cc)
        by false f = refl

    keeps : Keeps c frames Stands
    keeps x past e sound legal reply h up =
        let before = h (up_before past e up) in
        (λ index has. cells index has before.0, ⊎_elim (mine before) (others before) (cases_eq e.who d))
      where
        cells : (index : ℕ) → HasMark c (Cell o index) → ((index : ℕ) → HasMark c (Cell o index) → mark_at c x (Cell o index) ≡ slice_index (map_of c o) index)
            → mark_at c (after c x e.who e.call) (Cell o index) ≡ slice_index (map_of c o) index
        cells index has before =
            elim (sets_or_leaves (Cell o index) e.call) [
              | inl sets ↦
                  let who : e.who ≡ w = owner e.who index (subst (IsLegal c (own e.who past) e.who) sets.1.0 legal).role.0 in
                  let now : (lowering_of t (own w (past ++ e ∷ []))).told ≡ true =
                  ap (λ l. (lowering_of t l).told) (own-push_same w past e who) ∙ ap (λ (u : Telling). u.told) (lowering_told t (own w past) e.call e.reply) ∙ ap (λ k. (lowering_after t (lowering_of t (own w past)) k).told) sets.1.0 in
                  absurd (let no : true ≡ false = sym now ∙ up in cc)
              | inr leaves ↦ mark_stays c x (own e.who past) e.who e.call (Cell o index) config has legal leaves.0 ∙ before index has
            ]

        shows : ((index : ℕ) → HasMark c (Cell o index) → mark_at c x (Cell o index) ≡ slice_index (map_of c o) index) → (call : Call) (answer : Reply) → IsLegal c (own e.who past) e.who call → answer ≡ reply_at c x call
            → LeadsAs c o q s call answer
        shows before (Look (Cell port index)) (Old n) lawful is = λ (same : port ≡ o).
            let here : HasMark c (Cell o index) = subst (λ p. HasMark c (Cell p index)) same lawful.known in
            let number : n ≡ mark_at c x (Cell port index) = cc in
            ap (λ m. leads (redirect_to c o q m) s) (number ∙ ap (λ p. mark_at c x (Cell p index)) same ∙ before index here)
        shows before call answer lawful is = tt

        mine : ((index : ℕ) → HasMark c (Cell o index) → mark_at c x (Cell o index) ≡ slice_index (map_of c o) index) × AllLead c o q s (own d past) → e.who ≡ d → AllLead c o q s (own d (past ++ e ∷ []))
        mine before same = subst (AllLead c o q s) (sym (own-push_same d past e same)) (all_lead_push c o q s (own d past) (told e) before.1 (shows before.0 e.call e.reply legal reply))

        others : ((index : ℕ) → HasMark c (Cell o index) → mark_at c x (Cell o index) ≡ slice_index (map_of c o) index) × AllLead c o q s (own d past) → (e.who ≡ d → ⊥) → AllLead c o q s (own d (past ++ e ∷ []))
        others before other = subst (AllLead c o q s) (sym (own-push_other d past e other)) before.1

    lead_up : (h : List Entry) → IsHistory c frames h → IsUp h → AllLead c o q s (own d h)
    lead_up h history up = (along Stands c frames h history keeps (λ none. (λ index has. first_cell c frames o index config has, tt)) up).1

-- ---- a history before the first cell was lowered

pub record IsSplit (t w : ℕ) (h : List Entry) : Type 0 where
  pub first : List Entry
  pub at : Entry
  pub later : List Entry
  pub whole : first ++ at ∷ later ≡ h
  pub up : (lowering_of t (own w first)).told ≡ false
  pub down : (lowering_of t (own w (first ++ at ∷ []))).told ≡ true

-- it was lowered in none of it, or first by some entry
abbrev Lowers : ℕ → ℕ → List Entry → Type 0
Lowers t w h = ((lowering_of t (own w h)).told ≡ false) ⊎ IsSplit t w h

split_at : (t w : ℕ) (past rest : List Entry) → (lowering_of t (own w past)).told ≡ false → Lowers t w (past ++ rest)
split_at t w past [] up = inl (ap (λ h. (lowering_of t (own w h)).told) (append-nil past) ∙ up)
split_at t w past (e ∷ rest) up = by (lowering_of t (own w (past ++ e ∷ []))).told refl (λ next. split_at t w (past ++ e ∷ []) rest next)
  where
    by : (b : Bool) → (lowering_of t (own w (past ++ e ∷ []))).told ≡ b → ((lowering_of t (own w (past ++ e ∷ []))).told ≡ false → Lowers t w ((past ++ e ∷ []) ++ rest)) → Lowers t w (past ++ e ∷ rest)
    by true down go = inr (record { first = past; at = e; later = rest; whole = refl; up = up; down = down })
    by false next go = subst (Lowers t w) (append_assoc past (e ∷ []) rest) (go next)

-- by the entry that lowers it nothing is submitted
same_submitted : (t w : ℕ) (past : List Entry) (e : Entry) → (lowering_of t (own w past)).told ≡ false → (lowering_of t (own w (past ++ e ∷ []))).told ≡ true
    → submitted_of (Tx t) (own w (past ++ e ∷ [])) ≡ submitted_of (Tx t) (own w past)
same_submitted t w past e up down = ⊎_elim
    (λ (mine : e.who ≡ w).
    let more = own-push_same w past e mine in
    let lowers : (lowering_after t (lowering_of t (own w past)) e.call).told ≡ true = ap (λ (u : Telling). u.told) (sym (lowering_told t (own w past) e.call e.reply)) ∙ ap (λ l. (lowering_of t l).told) (sym more) ∙ down in
    ap (submitted_of (Tx t)) more ∙ none_submitted (Tx t) (own w past) e.call e.reply (lowers_only t (lowering_of t (own w past)) e.call up lowers))
    (λ (other : e.who ≡ w → ⊥). ap (submitted_of (Tx t)) (own-push_other w past e other))
    (cases_eq e.who w)

-- ---- a lane

module _ (manner : Manner) (wire : Wire) (c : Config) (lists : List PacketList) (verdicts : List (List Verdict)) (frames : List Frame) (h : List Entry) (p queue k : ℕ) (run : AreEndedRunsBy 1 manner wire c lists verdicts frames h) (place : IsPlace c p queue k) (none : manner.mangle ≡ None) where
  abbrev there : ℕ
  there = paired_port p

  -- the sending driver and its socket, the receiving driver and its socket, and the application with its lane
  abbrev d : ℕ
  d = driver_on c p queue

  abbrev t : ℕ
  t = socket_on c p queue k

  abbrev e : ℕ
  e = driver_on c there queue

  abbrev s : ℕ
  s = socket_on c there queue k

  abbrev a : ℕ
  a = app_on c p queue

  abbrev lane : ℕ
  lane = lane_on c there k

  abbrev w : ℕ
  w = caller_of c a

  abbrev bytes : List Item → List (List ℕ)
  bytes items = map (bytes_of c.geometry c.sg) (whole_packets (packets c.geometry c.sg items))

  abbrev out : List Item
  out = submitted_of (Tx t) (own w h)

  abbrev sent : List (List ℕ)
  sent = sent_by c h d t

  abbrev delivered : List (List ℕ)
  delivered = forwarded wire c h lists verdicts p queue k

  one : IsApp c a
  one = joined.one workers 1 manner wire c lists verdicts frames h p queue k run place

  at_o : IsAt c there queue k e s
  at_o = joined.at_o workers 1 manner wire c lists verdicts frames h p queue k run place

  pair : ArePaired c.ports p there
  pair = joined.pair workers 1 manner wire c lists verdicts frames h p queue k run place

  whole_a : IsWholeAppRunBy manner c a (own w h)
  whole_a = run.apps a one.known

  below : lane < lanes_of c
  below = lane_below c there k place.in_classes

  rx_is : rx_of c a lane ≡ s
  rx_is = lane_rx c p queue k there place.in_queues place.in_classes pair.there

  tx_is : tx_of c a lane ≡ t
  tx_is = lane_tx c p queue k there place.in_queues place.in_classes pair.here

  -- what the application submitted on a lane so far are the first of the items that it peeked
  in_front : (l : List Told) → IsAppRunBy manner c a l → IsFront (submitted_of (Tx t) l) (peeked_of (Rx s) l)
  in_front l is =
      subst (λ n. IsFront (submitted_of (Tx n) l) (peeked_of (Rx s) l)) tx_is (subst (λ n. IsFront (submitted_of (Tx (tx_of c a lane)) l) (peeked_of (Rx n) l)) rx_is (lanes_in_order manner c a l lane none one is below))

  -- the whole packets of what it submitted are sent
  sent_here : sent ≡ bytes out
  sent_here =
      joined.sent_wholes workers 1 manner wire c lists verdicts frames h p queue k run place
      ∙ ap (λ (l : List Item). bytes l) (joined.peeked_sent workers 1 manner wire c lists verdicts frames h p queue k run place)

  abbrev count : ℕ
  count = length (whole_packets (packets c.geometry c.sg out))

  count_is : passed_count c h t ≡ count
  count_is = ap (λ n. length (whole_packets (packets c.geometry c.sg (submitted_of (Tx t) (own n h))))) (joined.app_at_p workers 1 manner wire c lists verdicts frames h p queue k run place)

  -- ---- whether it was cut

  -- the lane's sockets are the application's
  app_of_rx : (x : ℕ) → (s ≡ x) ⊎ (t ≡ x) → app_of c (Rx x) ≡ w
  app_of_rx x here = ⊎_elim
      (λ (e : s ≡ x). subst (λ n. app_of c (Rx n) ≡ w) e (joined.app_at_o workers 1 manner wire c lists verdicts frames h p queue k run place))
      (λ (e : t ≡ x). subst (λ n. app_of c (Rx n) ≡ w) e (joined.app_at_p workers 1 manner wire c lists verdicts frames h p queue k run place))
      here

  one_if : (o : Option ℕ) → o ≡ Some 1 → is_one o ≡ true
  one_if o e = ap is_one e

  either_on : (x : ℕ) → (s ≡ x) ⊎ (t ≡ x) → (eqb s x || eqb t x) ≡ true
  either_on x here = ⊎_elim (λ (e : s ≡ x). ap (λ b. b || eqb t x) (eq-eqb s x e)) (λ (e : t ≡ x). ap (λ b. eqb s x || b) (eq-eqb t x e) ∙ or_on (eqb s x)) here
    where
      or_on : (b : Bool) → (b || true) ≡ true
      or_on true = refl
      or_on false = refl

  -- a lane of a socket that was closed is cut
  cut_so : (x : ℕ) → c.closing ≡ Some x → (s ≡ x) ⊎ (t ≡ x) → last_set (Closing x) (own w h) ≡ Some 1 → is_cut c h p queue k ≡ true
  cut_so x closing here set =
      ap (λ o. is_cut_by h c s t o) closing ∙ ap (λ b. b && is_one (last_set (Closing x) (own (app_of c (Rx x)) h))) (either_on x here)
      ∙ one_if (last_set (Closing x) (own (app_of c (Rx x)) h)) (ap (λ n. last_set (Closing x) (own n h)) (app_of_rx x here) ∙ set)

  stays_open : is_cut c h p queue k ≡ false → StaysOpen c a lane (own w h)
  stays_open off x closing here set =
      let mine : (s ≡ x) ⊎ (t ≡ x) = ⊎_elim (λ (e : rx_of c a lane ≡ x). inl (sym rx_is ∙ e)) (λ (e : tx_of c a lane ≡ x). inr (sym tx_is ∙ e)) here in
      absurd (let no : false ≡ true = sym off ∙ cut_so x closing mine set in cc)

  sent_forwarded : sent ≡ until_cut c h p queue k delivered
  sent_forwarded = by (is_cut c h p queue k) refl
    where
      by : (b : Bool) → is_cut c h p queue k ≡ b → sent ≡ cond b (take (passed_count c h t) delivered) delivered
      by true e = first_are_sent manner wire c lists verdicts frames h p queue k none run place
      by false e = joined.open_forwarded workers 1 manner wire c lists verdicts frames h p queue k run place (stays_open e) none

  -- ---- what is expected

  module _ (waits : wire ≡ Wait) where
    abbrev input : List Judged
    input = received_judged c lists verdicts there queue

    abbrev goal : List (List ℕ)
    goal = expected c lists verdicts p queue k

    seat_e : IsSeat c e
    seat_e = joined.seat_e workers 1 manner wire c lists verdicts frames h p queue k run place

    fit : (who : ℕ) → AllFit c [] (own who h)
    fit = joined.fit workers 1 manner wire c lists verdicts frames h p queue k run place

    never_drops : drops wire ≡ false
    never_drops = ap drops waits

    goal_is : bytes_in (delivered_to (seat_of wire c e) s input) ≡ goal
    goal_is =
        let bound : IsBoundTo c there queue s = record { known = at_o.known; on_port = at_o.on_port; on_queue = at_o.on_queue } in
        ap (λ (x : Seat). bytes_in (delivered_to x s input)) (joined.seat_is wire c there queue k e s at_o) ∙ ap bytes_in (delivered_is wire c e there queue k input bound)

    whole_e : IsWholeDriverRun wire c e input (own e h)
    whole_e = joined.whole_e workers 1 manner wire c lists verdicts frames h p queue k run place

    short : (ps : List (List ℕ)) → All (IsSized c) ps → All (λ (packet : List ℕ). length packet ≤ packet_limit c) ps
    short ps sized = All-weaker (IsSized c) (λ (packet : List ℕ). length packet ≤ packet_limit c) (λ packet one. one.few) ps sized

    -- where each cell led there as configured, all that is expected was delivered
    delivered_goal : AllLead c (pair_at c.pairs e).port (pair_at c.pairs e).queue s (own e h) → delivered ≡ goal
    delivered_goal lead =
        let all = delivered_all wire c e s seat_e input never_drops (own e h) (fit e) lead whole_e in
        sym (joined.delivered_wholes workers 1 manner wire c lists verdicts frames h p queue k run place)
        ∙ wholes c.geometry c.sg (bytes_in (delivered_to (seat_of wire c e) s input)) (submitted_of (Rx s) (own e h)) run.history.opened.geometry all.0 (short _ all.1) ∙ goal_is

    -- before a cell was lowered, the first of what is expected
    module _ (split : IsSplit t w h) (lead : AllLead c (pair_at c.pairs e).port (pair_at c.pairs e).queue s (own e split.first)) (late : (lowering_of t (own w h)).late ≡ false) where
      before : IsHistory c frames split.first
      before = history_first c frames split.first (split.at ∷ split.later) (subst (IsHistory c frames) (sym split.whole) run.history)

      parts_of : (who : ℕ) → own who h ≡ own who split.first ++ own who (split.at ∷ split.later)
      parts_of who = ap (own who) (sym split.whole) ∙ own-append who split.first (split.at ∷ split.later)

      -- nothing more was submitted on TX
      out_before : out ≡ submitted_of (Tx t) (own w split.first)
      out_before =
          let past = split.first ++ split.at ∷ [] in
          let all : own w h ≡ own w past ++ own w split.later = ap (own w) (sym split.whole ∙ sym (append_assoc split.first (split.at ∷ []) split.later)) ∙ own-append w past split.later in
          ap (submitted_of (Tx t)) all ∙ none_behind t (own w past) (own w split.later) split.down (ap (λ l. (lowering_of t l).late) (sym all) ∙ late)
          ∙ same_submitted t w split.first split.at split.up split.down

      ring : HasRing c (Rx s)
      ring = (at_o.known, at_o.rx)

      -- of the items that the driver had submitted, the application had peeked the first, and submitted the first of those
      rx_front : peeked_of (Rx s) (own w split.first) ++ (ring_at c (state_after c frames split.first) (Rx s)).out ≡ submitted_of (Rx s) (own e split.first)
      rx_front =
          let rest = (ring_at c (state_after c frames split.first) (Rx s)).out in
          let mine = items_by_own c frames split.first (Rx s) before ring in
          ap (λ n. peeked_of (Rx s) (own n split.first) ++ rest) (sym (joined.app_at_o workers 1 manner wire c lists verdicts frames h p queue k run place))
          ∙ ap (λ xs. xs ++ rest) (sym mine.0) ∙ in_order c frames split.first (Rx s) before ring
          ∙ ap (λ xs. xs ++ submitted_of (Rx s) (all_told split.first)) (opening_empty c frames (Rx s) (omega arith)) ∙ mine.1 ∙ ap (λ n. submitted_of (Rx s) (own n split.first)) at_o.driver

      run_a : IsAppRunBy manner c a (own w split.first)
      run_a =
          run_front (app_turn c a) (app_start_by manner c) (own w split.first) (own w (split.at ∷ split.later))
          (subst (IsAppRunBy manner c a) (parts_of w) (whole_run (app_turn c a) (app_start_by manner c) (own w h) whole_a))

      run_e : IsDriverRun wire c e input (own e split.first)
      run_e =
          run_front (turn (seat_of wire c e)) (start (classes_of c) input) (own e split.first) (own e (split.at ∷ split.later))
          (subst (IsDriverRun wire c e input) (parts_of e) (whole_run (turn (seat_of wire c e)) (start (classes_of c) input) (own e h) whole_e))

      first : IsFirst wire c e s seat_e input never_drops (own e split.first)
      first = delivered_first wire c e s seat_e input never_drops (own e split.first) (fit_in_history c frames split.first e before) lead run_e

      first_sent : sent ≡ take count goal
      first_sent =
          let seat = seat_of wire c e in
          let front = in_front (own w split.first) run_a in
          let rest = (ring_at c (state_after c frames split.first) (Rx s)).out in
          let all : out ++ (front.0 ++ rest) ≡ submitted_of (Rx s) (own e split.first) =
          ap (λ xs. xs ++ (front.0 ++ rest)) out_before ∙ sym (append_assoc (submitted_of (Tx t) (own w split.first)) front.0 rest) ∙ ap (λ xs. xs ++ rest) front.1 ∙ rx_front in
          let had = bytes_in (delivered_to seat s first.done) in
          let later = bytes_in (delivered_to seat s first.coming) in
          let more = more_of c.geometry c.sg out (front.0 ++ rest) in
          let here : had ≡ bytes out ++ more =
          sym (wholes c.geometry c.sg had (submitted_of (Rx s) (own e split.first)) run.history.opened.geometry first.laid (short had first.sized)) ∙ front_parts c.geometry c.sg out (front.0 ++ rest) _ all in
          let split_goal : goal ≡ had ++ later =
          sym goal_is ∙ ap (λ ps. bytes_in (delivered_to seat s ps)) (sym first.parts) ∙ ap bytes_in (filter-append (λ packet. is_to s (disposal_in seat packet)) first.done first.coming)
          ∙ map-append (λ (packet : Judged). packet.bytes) (delivered_to seat s first.done) (delivered_to seat s first.coming) in
          sent_here ∙ first_taken c.geometry c.sg out (more ++ later)
          ∙ ap (take count) (sym (append_assoc (bytes out) more later) ∙ ap (λ xs. xs ++ later) (sym here) ∙ sym split_goal)

    -- ---- the socket that is to be closed, where it is the lane's

    owner_is : (x : ℕ) → c.closing ≡ Some x → x ≡ s → (who index : ℕ) → IsMarkOwner c who (Cell (pair_at c.pairs e).port index) → who ≡ w
    owner_is x closing same who index owns =
        let holds = owns.1 in
        let two : owns.0 ≡ s = (let both : Some owns.0 ≡ Some x = sym holds.0 ∙ closing in let one : owns.0 ≡ x = cc in one ∙ same) in
        owns.2 ∙ ap (λ n. caller_of c (application_on c n (socket_at c.sockets owns.0).queue)) at_o.pair_port
        ∙ ap (λ n. caller_of c (application_on c there (socket_at c.sockets n).queue)) two
        ∙ ap (λ n. caller_of c (application_on c n (socket_at c.sockets s).queue)) (sym at_o.on_port)
        ∙ joined.app_at_o workers 1 manner wire c lists verdicts frames h p queue k run place

    lead_or_cut : (AllLead c (pair_at c.pairs e).port (pair_at c.pairs e).queue s (own e h)) ⊎ ((is_cut c h p queue k ≡ true) × (sent ≡ take count goal))
    lead_or_cut = by c.closing refl
      where
        apart : ((x : ℕ) → c.closing ≡ Some x → x ≢ s) → AllLead c (pair_at c.pairs e).port (pair_at c.pairs e).queue s (own e h)
        apart other = lead_apart c e s seat_e other [] (own e h) (fit e)

        -- it was lowered, so it was closed
        closes : (x : ℕ) → c.closing ≡ Some x → x ≡ s → IsSplit t w h → (is_cut c h p queue k ≡ true) × (sent ≡ take count goal)
        closes x closing same split =
            let closed : is_closed c a lane c.closing ≡ true =
            ap (is_closed c a lane) closing ∙ ap (λ b. b || eqb (tx_of c a lane) x) (eq-eqb (rx_of c a lane) x (rx_is ∙ sym same)) in
            let late = subst (λ n. ((lowering_of n (own w h)).late ≡ false) × ((lowering_of n (own w h)).told ≡ true → whole_a.0.begun ≡ true)) tx_is (lowered_late c a one lane below closed manner (own w h) whole_a) in
            let parts : own w h ≡ own w (split.first ++ split.at ∷ []) ++ own w split.later =
            ap (own w) (sym split.whole ∙ sym (append_assoc split.first (split.at ∷ []) split.later)) ∙ own-append w (split.first ++ split.at ∷ []) split.later in
            let told_at_end : (lowering_of t (own w h)).told ≡ true = ap (λ l. (lowering_of t l).told) parts ∙ told_front t (own w (split.first ++ split.at ∷ [])) (own w split.later) split.down in
            let set = (set_at_end manner c a one (own w h) whole_a.0 whole_a.1).closed (late.1 told_at_end) in
            let socket : set.0.socket ≡ x = (let two : Some set.0.socket ≡ Some x = sym set.1.closing ∙ closing in cc) in
            let lead = lead_up c e s seat_e frames run.history.opened.config w t (owner_is x closing same) split.first
            (history_first c frames split.first (split.at ∷ split.later) (subst (IsHistory c frames) (sym split.whole) run.history)) split.up in
            (cut_so x closing (inl (sym same)) (subst (λ n. last_set (Closing n) (own w h) ≡ Some 1) socket set.2), first_sent split lead late.0)

        by : (o : Option ℕ) → c.closing ≡ o → (AllLead c (pair_at c.pairs e).port (pair_at c.pairs e).queue s (own e h)) ⊎ ((is_cut c h p queue k ≡ true) × (sent ≡ take count goal))
        by None f = inl (apart (λ x g. absurd (let no : None ≡ Some x = sym f ∙ g in cc)))
        by (Some x) f = ⊎_elim
            (λ (same : x ≡ s). ⊎_elim
            (λ (up : (lowering_of t (own w h)).told ≡ false). inl (lead_up c e s seat_e frames run.history.opened.config w t (owner_is x f same) h run.history up))
            (λ (split : IsSplit t w h). inr (closes x f same split))
            (split_at t w [] h refl))
            (λ (other : x ≡ s → ⊥). inl (apart (λ y g. let two : Some y ≡ Some x = sym g ∙ f in let here : y ≡ x = cc in λ (e : y ≡ s). other (sym here ∙ e))))
            (cases_eq x s)

    sent_expected : sent ≡ until_cut c h p queue k goal
    sent_expected = ⊎_elim
        (λ (lead : AllLead c (pair_at c.pairs e).port (pair_at c.pairs e).queue s (own e h)). sent_forwarded ∙ ap (until_cut c h p queue k) (delivered_goal lead))
        (λ (cut : (is_cut c h p queue k ≡ true) × (sent ≡ take count goal)).
        cut.1 ∙ ap (λ n. take n goal) (sym count_is) ∙ sym (ap (λ b. cond b (take (passed_count c h t) goal) goal) cut.0))
        lead_or_cut

pub sent_is_forwarded_until : SentIsForwardedUntil
sent_is_forwarded_until manner wire c lists verdicts frames h port queue class none run place = sent_forwarded manner wire c lists verdicts frames h port queue class run place none

pub sent_is_expected_until : SentIsExpectedUntil
sent_is_expected_until manner wire c lists verdicts frames h port queue class none waits run place = sent_expected manner wire c lists verdicts frames h port queue class run place none waits
