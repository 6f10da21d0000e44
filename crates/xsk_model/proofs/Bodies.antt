-- What the frames of earlier calls and replies hold says nothing of which call is legal.
use Rattle.std.proofs.Common.{◌≡◌, ℕ, suc, ◌+◌, ◌-◌, ◌≤◌, Bool, true, false, cond, not, eqb, nat_le, nat_lt, Option, Some, None, List, [], ◌∷◌, ◌++◌, length, map, drop, refl, sym, ap, subst, ◌∙◌}
use Rattle.std.specs.Prelude.{IsTrue, is_some, option_to_list, unwrap_or}
use Rattle.std.specs.Option.{option_map}
use Rattle.std.specs.List.{fold}
use Rattle.std.proofs.lemmas.List.{length-map, map-append, drop-map}
use Rattle.xsk_umem.specs.Frame.{Frame}
use Rattle.xsk_umem.specs.Geometry.{Geometry}
use Rattle.xsk_umem.specs.declared.batch.Item.{Item}
use Rattle.xsk_model.specs.Config.{Config}
use Rattle.xsk_model.specs.Descriptor.{is_valid}
use Rattle.xsk_model.specs.Packets.{Packet, whole, bad, packets, packets_from, ended_by, group_after, whole_packets}
use Rattle.xsk_model.specs.Numbers.{times, number_of, numbers, without}
use Rattle.xsk_model.specs.Rings.{is_ring, port_of}
use Rattle.xsk_model.specs.Object.{submitted, taken}
use Rattle.xsk_model.specs.Entry.{Told}
use Rattle.xsk_model.specs.Own.{had_step, had_of, is_fill_peek, fill_step, is_from_fill, is_on, part_of, granted, released, room_step, held_step, room_of, held_of, TxWork, waiting, is_same, completed_by, tx_work_after, tx_work_step, tx_work_of}
use Rattle.xsk_model.specs.Marks.{is_mark}
use Rattle.xsk_model.specs.Swaps.{set_after, set_step, last_set, number_in, seen_after, seen_step, last_seen, IsTimely, IsFed, MayFeed}
use Rattle.xsk_model.specs.Legal.{HasRole, IsCounted, HasFrames, ArePackets, AreReceived, AreCompleted, IsLegal}
use Rattle.xsk_model.specs.OtherWords.{bare_frame, bare_item, bare_call, bare_reply, bare}
use Rattle.xsk_model.specs.declared.call.Ring.{Ring}
use Rattle.xsk_model.specs.declared.call.Ring.TheVariants.{Fill, Comp, Rx, Tx}
use Rattle.xsk_model.specs.declared.call.Mark.{Mark}
use Rattle.xsk_model.specs.declared.call.Mark.TheVariants.{NeedFill, NeedTx, Kick, RxDone, Gone, TxDone, Cell, Closing, Acked, Bounced}
use Rattle.xsk_model.specs.declared.call.Call.{Call}
use Rattle.xsk_model.specs.declared.call.Call.TheVariants.{Reserve, Submit, Peek, Release, Swap, Look}
use Rattle.xsk_model.specs.declared.call.Reply.{Reply}
use Rattle.xsk_model.specs.declared.call.Reply.TheVariants.{Granted, Full, Submitted, Items, Empty, Released, Old}

abbrev pub bare_items : List Item → List Item
bare_items items = map bare_item items

-- ---- numbers and addresses

pub number_of-bare : (frame : Option Frame) → number_of (option_map bare_frame frame) ≡ number_of frame
number_of-bare None = refl
number_of-bare (Some frame) = refl

pub numbers-bare : (items : List Item) → numbers (bare_items items) ≡ numbers items
numbers-bare [] = refl
numbers-bare (item ∷ items) =
    ap (λ ns. ns ++ numbers (bare_items items)) (number_of-bare item.frame) ∙ ap (λ ns. number_of item.frame ++ ns) (numbers-bare items)

addresses-bare : (items : List Item) → map (λ (i : Item). i.desc.addr) (bare_items items) ≡ map (λ (i : Item). i.desc.addr) items
addresses-bare [] = refl
addresses-bare (item ∷ items) = ap (λ addresses. item.desc.addr ∷ addresses) (addresses-bare items)

pub submitted-bare : (call : Call) → submitted (bare_call call) ≡ bare_items (submitted call)
submitted-bare (Reserve r n) = refl
submitted-bare (Submit r items) = refl
submitted-bare (Peek r n) = refl
submitted-bare (Release r n) = refl
submitted-bare (Swap m value) = refl
submitted-bare (Look m) = refl

pub taken-bare : (reply : Reply) → taken (bare_reply reply) ≡ bare_items (taken reply)
taken-bare Granted = refl
taken-bare (Full places) = refl
taken-bare Submitted = refl
taken-bare (Items items) = refl
taken-bare Empty = refl
taken-bare Released = refl
taken-bare (Old number) = refl

numbers-submitted : (call : Call) → numbers (submitted (bare_call call)) ≡ numbers (submitted call)
numbers-submitted call = ap numbers (submitted-bare call) ∙ numbers-bare (submitted call)

numbers-taken : (reply : Reply) → numbers (taken (bare_reply reply)) ≡ numbers (taken reply)
numbers-taken reply = ap numbers (taken-bare reply) ∙ numbers-bare (taken reply)

pub length-submitted : (call : Call) → length (submitted (bare_call call)) ≡ length (submitted call)
length-submitted call = ap length (submitted-bare call) ∙ length-map (submitted call) bare_item

pub length-taken : (reply : Reply) → length (taken (bare_reply reply)) ≡ length (taken reply)
length-taken reply = ap length (taken-bare reply) ∙ length-map (taken reply) bare_item

-- ---- folds

fold-bare : {A : Type 0} (f : A → Told → A) → ((a : A) (t : Told) → f a (bare t) ≡ f a t) → (a : A) (mine : List Told) → fold f a (map bare mine) ≡ fold f a mine
fold-bare f h a [] = refl
fold-bare f h a (t ∷ mine) = ap (λ x. fold f x (map bare mine)) (h a t) ∙ fold-bare f h (f a t) mine

pub is_on-bare : (r : Ring) (call : Call) → is_on r (bare_call call) ≡ is_on r call
is_on-bare r (Reserve s n) = refl
is_on-bare r (Submit s items) = refl
is_on-bare r (Peek s n) = refl
is_on-bare r (Release s n) = refl
is_on-bare r (Swap m value) = refl
is_on-bare r (Look m) = refl

part_of-bare : {A : Type 0} (change : A → Told → A) → ((a : A) (t : Told) → change a (bare t) ≡ change a t) → (r : Ring) (a : A) (mine : List Told)
    → part_of change r a (map bare mine) ≡ part_of change r a mine
part_of-bare change h r a [] = refl
part_of-bare change h r a (t ∷ mine) =
    ap (λ b. part_of change r (cond b (change a (bare t)) a) (map bare mine)) (is_on-bare r t.call)
    ∙ ap (λ x. part_of change r (cond (is_on r t.call) x a) (map bare mine)) (h a t)
    ∙ part_of-bare change h r (cond (is_on r t.call) (change a t) a) mine

granted-bare : (call : Call) (reply : Reply) → granted (bare_call call) (bare_reply reply) ≡ granted call reply
granted-bare (Reserve r n) Granted = refl
granted-bare (Reserve r n) (Full places) = refl
granted-bare (Reserve r n) Submitted = refl
granted-bare (Reserve r n) (Items items) = refl
granted-bare (Reserve r n) Empty = refl
granted-bare (Reserve r n) Released = refl
granted-bare (Reserve r n) (Old number) = refl
granted-bare (Submit r items) reply = refl
granted-bare (Peek r n) reply = refl
granted-bare (Release r n) reply = refl
granted-bare (Swap m value) reply = refl
granted-bare (Look m) reply = refl

released-bare : (call : Call) → released (bare_call call) ≡ released call
released-bare (Reserve r n) = refl
released-bare (Submit r items) = refl
released-bare (Peek r n) = refl
released-bare (Release r n) = refl
released-bare (Swap m value) = refl
released-bare (Look m) = refl

is_fill_peek-bare : (call : Call) → is_fill_peek (bare_call call) ≡ is_fill_peek call
is_fill_peek-bare (Reserve r n) = refl
is_fill_peek-bare (Submit r items) = refl
is_fill_peek-bare (Peek (Fill d) n) = refl
is_fill_peek-bare (Peek (Comp d) n) = refl
is_fill_peek-bare (Peek (Rx s) n) = refl
is_fill_peek-bare (Peek (Tx s) n) = refl
is_fill_peek-bare (Release r n) = refl
is_fill_peek-bare (Swap m value) = refl
is_fill_peek-bare (Look m) = refl

pub had-bare : (mine : List Told) → had_of (map bare mine) ≡ had_of mine
had-bare mine = fold-bare had_step
    (λ had t.
    ap (λ ns. without ns had ++ numbers (taken (bare_reply t.reply))) (numbers-submitted t.call)
    ∙ ap (λ ns. without (numbers (submitted t.call)) had ++ ns) (numbers-taken t.reply))
    [] mine

room-bare : (r : Ring) (mine : List Told) → room_of r (map bare mine) ≡ room_of r mine
room-bare r mine = part_of-bare room_step
    (λ room t.
    ap (λ n. room + n - length (submitted (bare_call t.call))) (granted-bare t.call t.reply)
    ∙ ap (λ n. room + granted t.call t.reply - n) (length-submitted t.call))
    r 0 mine

held-bare : (r : Ring) (mine : List Told) → held_of r (map bare mine) ≡ held_of r mine
held-bare r mine = part_of-bare held_step
    (λ held t.
    ap (λ n. held + n - released (bare_call t.call)) (length-taken t.reply)
    ∙ ap (λ n. held + length (taken t.reply) - n) (released-bare t.call))
    r 0 mine

fill-bare : (n : ℕ) (mine : List Told) → is_from_fill n (map bare mine) ≡ is_from_fill n mine
fill-bare n mine = fold-bare (fill_step n)
    (λ before t.
    ap (λ ns. cond (nat_lt 0 (times n ns)) (is_fill_peek (bare_call t.call)) before) (numbers-taken t.reply)
    ∙ ap (λ b. cond (nat_lt 0 (times n (numbers (taken t.reply)))) b before) (is_fill_peek-bare t.call))
    false mine

-- ---- marks

set-bare : (m : Mark) (before : Option ℕ) (call : Call) → set_after m before (bare_call call) ≡ set_after m before call
set-bare m before (Reserve r n) = refl
set-bare m before (Submit r items) = refl
set-bare m before (Peek r n) = refl
set-bare m before (Release r n) = refl
set-bare m before (Swap n value) = refl
set-bare m before (Look n) = refl

number_in-bare : (before : Option ℕ) (reply : Reply) → number_in before (bare_reply reply) ≡ number_in before reply
number_in-bare before Granted = refl
number_in-bare before (Full places) = refl
number_in-bare before Submitted = refl
number_in-bare before (Items items) = refl
number_in-bare before Empty = refl
number_in-bare before Released = refl
number_in-bare before (Old number) = refl

seen-bare : (m : Mark) (before : Option ℕ) (call : Call) (reply : Reply) → seen_after m before (bare_call call) (bare_reply reply) ≡ seen_after m before call reply
seen-bare m before (Reserve r n) reply = refl
seen-bare m before (Submit r items) reply = refl
seen-bare m before (Peek r n) reply = refl
seen-bare m before (Release r n) reply = refl
seen-bare m before (Swap n value) reply = refl
seen-bare m before (Look n) reply = ap (λ x. cond (is_mark m n) x before) (number_in-bare before reply)

last_set-bare : (m : Mark) (mine : List Told) → last_set m (map bare mine) ≡ last_set m mine
last_set-bare m mine = fold-bare (set_step m) (λ before t. set-bare m before t.call) None mine

last_seen-bare : (m : Mark) (mine : List Told) → last_seen m (map bare mine) ≡ last_seen m mine
last_seen-bare m mine = fold-bare (seen_step m) (λ before t. seen-bare m before t.call t.reply) None mine

-- ---- packets

bare_packet : Packet → Packet
bare_packet (whole items) = whole (bare_items items)
bare_packet (bad items) = bad (bare_items items)

ended_cond : (full broken goes : Bool) (items other : List Item) → other ≡ bare_items items
    → cond full (Some (bad other)) (cond broken (Some (bad other)) (cond goes None (Some (whole other))))
    ≡ option_map bare_packet (cond full (Some (bad items)) (cond broken (Some (bad items)) (cond goes None (Some (whole items)))))
unfolding bare_packet
ended_cond true broken goes items other h = ap (λ xs. Some (bad xs)) h
ended_cond false true goes items other h = ap (λ xs. Some (bad xs)) h
ended_cond false false true items other h = refl
ended_cond false false false items other h = ap (λ xs. Some (whole xs)) h

is_some-map : (o : Option Packet) → is_some (option_map bare_packet o) ≡ is_some o
is_some-map None = refl
is_some-map (Some p) = refl

list-map : (o : Option Packet) → option_to_list (option_map bare_packet o) ≡ map bare_packet (option_to_list o)
list-map None = refl
list-map (Some p) = refl

cond-bare : (b : Bool) (xs : List Item) → cond b [] (bare_items xs) ≡ bare_items (cond b [] xs)
cond-bare true xs = refl
cond-bare false xs = refl

whole_packets-bare : (ps : List Packet) → whole_packets (map bare_packet ps) ≡ map bare_items (whole_packets ps)
unfolding bare_packet
whole_packets-bare [] = refl
whole_packets-bare (whole items ∷ ps) = ap (λ ws. bare_items items ∷ ws) (whole_packets-bare ps)
whole_packets-bare (bad items ∷ ps) = whole_packets-bare ps

module _ (g : Geometry) (sg : Bool) where
  ended-bare : (group : List Item) (item : Item) → ended_by g sg (bare_items group) (bare_item item) ≡ option_map bare_packet (ended_by g sg group item)
  ended-bare group item =
      let other : List Item = bare_items group ++ bare_item item ∷ [] in
      ap (λ n. cond (nat_le 18 n) (Some (bad other)) (cond (not (is_valid g sg item.desc)) (Some (bad other)) (cond (eqb item.desc.options 1) None (Some (whole other)))))
      (length-map group bare_item)
      ∙ ended_cond (nat_le 18 (length group)) (not (is_valid g sg item.desc)) (eqb item.desc.options 1) (group ++ item ∷ []) other (sym (map-append bare_item group (item ∷ [])))

  group-bare : (group : List Item) (item : Item) → group_after g sg (bare_items group) (bare_item item) ≡ bare_items (group_after g sg group item)
  group-bare group item =
      ap (λ o. cond (is_some o) [] (bare_items group ++ bare_item item ∷ [])) (ended-bare group item)
      ∙ ap (λ b. cond b [] (bare_items group ++ bare_item item ∷ [])) (is_some-map (ended_by g sg group item))
      ∙ ap (λ xs. cond (is_some (ended_by g sg group item)) [] xs) (sym (map-append bare_item group (item ∷ [])))
      ∙ cond-bare (is_some (ended_by g sg group item)) (group ++ item ∷ [])

  packets-bare : (group items : List Item) → packets_from g sg (bare_items group) (bare_items items) ≡ map bare_packet (packets_from g sg group items)
  packets-bare group [] = refl
  packets-bare group (item ∷ items) =
      ap (λ o. option_to_list o ++ packets_from g sg (group_after g sg (bare_items group) (bare_item item)) (bare_items items)) (ended-bare group item)
      ∙ ap (λ ps. ps ++ packets_from g sg (group_after g sg (bare_items group) (bare_item item)) (bare_items items)) (list-map (ended_by g sg group item))
      ∙ ap (λ xs. map bare_packet (option_to_list (ended_by g sg group item)) ++ packets_from g sg xs (bare_items items)) (group-bare group item)
      ∙ ap (λ ps. map bare_packet (option_to_list (ended_by g sg group item)) ++ ps) (packets-bare (group_after g sg group item) items)
      ∙ sym (map-append bare_packet (option_to_list (ended_by g sg group item)) (packets_from g sg (group_after g sg group item) items))

-- ---- what a driver has done with a TX ring

bare_sending : TxWork → TxWork
bare_sending u = record { peeked = bare_items u.peeked; completed = u.completed }

waiting-bare : (c : Config) (u : TxWork) → waiting c (bare_sending u) ≡ map bare_items (waiting c u)
unfolding bare_sending
waiting-bare c u =
    ap (λ ps. drop u.completed (whole_packets ps)) (packets-bare c.geometry c.sg [] u.peeked)
    ∙ ap (drop u.completed) (whole_packets-bare (packets c.geometry c.sg u.peeked))
    ∙ drop-map bare_items u.completed (whole_packets (packets c.geometry c.sg u.peeked))

length-cond : {X Y : Type 0} (b : Bool) (x : X) (y : Y) → length (cond b (x ∷ []) []) ≡ length (cond b (y ∷ []) [])
length-cond true x y = refl
length-cond false x y = refl

completed-bare : (items : List Item) (ws : List (List Item)) → length (completed_by (bare_items items) (map bare_items ws)) ≡ length (completed_by items ws)
completed-bare items [] = refl
completed-bare items (packet ∷ later) =
    ap (λ ns. length (cond (is_same ns (numbers (bare_items packet))) (bare_items packet ∷ []) [])) (numbers-bare items)
    ∙ ap (λ ns. length (cond (is_same (numbers items) ns) (bare_items packet ∷ []) [])) (numbers-bare packet)
    ∙ length-cond (is_same (numbers items) (numbers packet)) (bare_items packet) packet

peek-bare : (b : Bool) (u : TxWork) (items other : List Item) → other ≡ bare_items items
    → cond b (record (bare_sending u) { peeked = (bare_sending u).peeked ++ other }) (bare_sending u) ≡ bare_sending (cond b (record u { peeked = u.peeked ++ items }) u)
unfolding bare_sending
peek-bare true u items other h =
    ap (λ (xs : List Item). record (bare_sending u) { peeked = xs }) (ap (λ xs. bare_items u.peeked ++ xs) h ∙ sym (map-append bare_item u.peeked items))
peek-bare false u items other h = refl

step-bare : (c : Config) (s : ℕ) (u : TxWork) (call : Call) (reply : Reply)
    → tx_work_after c s (bare_sending u) (bare_call call) (bare_reply reply) ≡ bare_sending (tx_work_after c s u call reply)
unfolding bare_sending
step-bare c s u (Reserve r n) reply = refl
step-bare c s u (Submit (Fill d) items) reply = refl
step-bare c s u (Submit (Comp d) items) reply =
    ap (λ (n : ℕ). record (bare_sending u) { completed = u.completed + n })
    (ap (λ ws. length (completed_by (bare_items items) ws)) (waiting-bare c u) ∙ completed-bare items (waiting c u))
step-bare c s u (Submit (Rx t) items) reply = refl
step-bare c s u (Submit (Tx t) items) reply = refl
step-bare c s u (Peek r n) reply = peek-bare (is_ring (Tx s) r) u (taken reply) (taken (bare_reply reply)) (taken-bare reply)
step-bare c s u (Release r n) reply = refl
step-bare c s u (Swap m value) reply = refl
step-bare c s u (Look m) reply = refl

all_steps-bare : (c : Config) (s : ℕ) (u : TxWork) (mine : List Told) → fold (tx_work_step c s) (bare_sending u) (map bare mine) ≡ bare_sending (fold (tx_work_step c s) u mine)
all_steps-bare c s u [] = refl
all_steps-bare c s u (t ∷ mine) =
    ap (λ v. fold (tx_work_step c s) v (map bare mine)) (step-bare c s u t.call t.reply) ∙ all_steps-bare c s (tx_work_step c s u t) mine

waits-bare : (c : Config) (s : ℕ) (mine : List Told) → waiting c (tx_work_of c s (map bare mine)) ≡ map bare_items (waiting c (tx_work_of c s mine))
unfolding bare_sending
waits-bare c s mine = ap (waiting c) (all_steps-bare c s (record { peeked = []; completed = 0 }) mine) ∙ waiting-bare c (tx_work_of c s mine)

-- ---- legality

-- a value that bare entries have too is that of all entries that are alike but for bytes
alike : {A : Type 0} (f : List Told → A) → ((mine : List Told) → f (map bare mine) ≡ f mine) → (mine other : List Told) → map bare mine ≡ map bare other → f mine ≡ f other
alike f h mine other e = sym (h mine) ∙ ap f e ∙ h other

module _ (c : Config) (mine other : List Told) (e : map bare mine ≡ map bare other) where
  same_set : (m : Mark) → last_set m mine ≡ last_set m other
  same_set m = alike (last_set m) (last_set-bare m) mine other e

  same_time : (m : Mark) (value : ℕ) → IsTimely c mine m value → IsTimely c other m value
  same_time (NeedFill d) value h = h
  same_time (NeedTx s) value h = h
  same_time (Kick d) value h = h
  same_time (RxDone d) value h = h
  same_time (Gone d) value h = h
  same_time (TxDone a) value h = h
  same_time (Cell port index) value h = h
  same_time (Closing s) value h = (h.0, λ index has holds. sym (same_set (Cell (port_of c (Rx s)) index)) ∙ h.1 index has holds)
  same_time (Acked s) value h = (
    h.0,
    sym (alike (last_seen (Closing s)) (last_seen-bare (Closing s)) mine other e) ∙ h.1,
    sym (alike (room_of (Rx s)) (room-bare (Rx s)) mine other e) ∙ h.2,
  )
  same_time (Bounced d) value h = h ∙ ap (λ last. suc (unwrap_or last 0)) (same_set (Bounced d))

  same_fed : (r : Ring) → IsFed c mine r → IsFed c other r
  same_fed (Fill d) h = h
  same_fed (Comp d) h = h
  same_fed (Rx s) h = λ is set. h is (same_set (Acked s) ∙ set)
  same_fed (Tx s) h = λ is set. h is (same_set (Closing s) ∙ set)

  pub same_feeds : (call : Call) → MayFeed c mine call → MayFeed c other call
  same_feeds (Reserve r n) h = same_fed r h
  same_feeds (Submit r items) h = same_fed r h
  same_feeds (Peek r n) h = h
  same_feeds (Release r n) h = h
  same_feeds (Swap m value) h = h
  same_feeds (Look m) h = h

  pub same_role : (who : ℕ) (call : Call) → HasRole c mine who call → HasRole c other who call
  same_role who (Reserve r n) h = h
  same_role who (Submit r items) h = h
  same_role who (Peek r n) h = h
  same_role who (Release r n) h = h
  same_role who (Swap m value) h = (h.0, same_time m value h.1)
  same_role who (Look m) h = h

  pub same_room : (r : Ring) → room_of r mine ≡ room_of r other
  same_room r = alike (room_of r) (room-bare r) mine other e

  pub same_held : (r : Ring) → held_of r mine ≡ held_of r other
  same_held r = alike (held_of r) (held-bare r) mine other e

  pub same_frames : (call : Call) → HasFrames mine call → HasFrames other call
  same_frames call h = λ n. subst (λ had. times n (numbers (submitted call)) ≤ times n had) (alike had_of had-bare mine other e) (h n)

  pub same_counted : (call : Call) → IsCounted c mine call → IsCounted c other call
  same_counted (Reserve r n) h = h
  same_counted (Submit r items) h = (h.0, h.1, subst (λ n. length items ≤ n) (same_room r) h.2)
  same_counted (Peek r n) h = h
  same_counted (Release r n) h = (h.0, h.1, subst (λ k. n ≤ k) (same_held r) h.2)
  same_counted (Swap m value) h = h
  same_counted (Look m) h = h

  same_received : (items : List Item) → AreReceived c mine items → AreReceived c other items
  same_received items h = record {
    layouts = h.layouts;
    joined = h.joined;
    laid_out = h.laid_out;
    from_fill = λ n some. subst IsTrue (alike (is_from_fill n) (fill-bare n) mine other e) (h.from_fill n some);
  }

  same_waits : (s : ℕ) → map bare_items (waiting c (tx_work_of c s mine)) ≡ map bare_items (waiting c (tx_work_of c s other))
  same_waits s = sym (waits-bare c s mine) ∙ ap (λ l. waiting c (tx_work_of c s l)) e ∙ waits-bare c s other

  -- the packet that waits there too
  completed_there : (r : Ring) (items : List Item) (h : AreCompleted c mine r items) (ws : List (List Item)) → ws ≡ waiting c (tx_work_of c h.socket other)
      → bare_items h.packet ∷ map bare_items h.later ≡ map bare_items ws → AreCompleted c other r items
  completed_there r items h [] is waits = absurd (cc)
  completed_there r items h (packet ∷ later) is waits =
      let one : bare_items h.packet ≡ bare_items packet = cc in
      record {
        socket = h.socket;
        tx = h.tx;
        port = h.port;
        queue = h.queue;
        packet = packet;
        later = later;
        next = sym is;
        frames = h.frames ∙ sym (numbers-bare h.packet) ∙ ap numbers one ∙ numbers-bare packet;
        addresses = h.addresses ∙ sym (addresses-bare h.packet) ∙ ap (map (λ (i : Item). i.desc.addr)) one ∙ addresses-bare packet;
      }

  same_completed : (r : Ring) (items : List Item) → AreCompleted c mine r items → AreCompleted c other r items
  same_completed r items h =
      completed_there r items h (waiting c (tx_work_of c h.socket other)) refl (sym (ap (map bare_items) h.next) ∙ same_waits h.socket)

  pub same_packets : (call : Call) → ArePackets c mine call → ArePackets c other call
  same_packets (Reserve r n) h = h
  same_packets (Submit (Fill d) items) h = h
  same_packets (Submit (Comp d) items) h = same_completed (Comp d) items h
  same_packets (Submit (Rx s) items) h = same_received items h
  same_packets (Submit (Tx s) items) h = h
  same_packets (Peek r n) h = h
  same_packets (Release r n) h = h
  same_packets (Swap m value) h = h
  same_packets (Look m) h = h

  pub same_legal : (who : ℕ) (call : Call) → IsLegal c mine who call → IsLegal c other who call
  same_legal who call h = record {
    caller = h.caller;
    known = h.known;
    role = same_role who call h.role;
    counted = same_counted call h.counted;
    frames = same_frames call h.frames;
    items = h.items;
    packets = same_packets call h.packets;
    feeds = same_feeds call h.feeds;
  }
