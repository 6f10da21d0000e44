-- The calls of the bench are legal.
use Rattle.std.proofs.Common.{◌≡◌, ℕ, suc, ◌+◌, ◌-◌, ◌*◌, ◌/◌, ◌<◌, ◌≤◌, Bool, true, false, cond, nat_lt, List, [], ◌∷◌, ◌++◌, length, map, flat_map, refl, ap, sym, ◌∙◌, arith, subst, lit≤, lit<, inl, inr, lt-ltb, leb-true}
use Rattle.std.specs.Prelude.{All, IfSome, Option, Some, None, unwrap_or}
use Rattle.std.proofs.lemmas.List.Elements.{All-cons, All-nil, All-weaker, All-map}
use Rattle.std.proofs.lemmas.List.Sums.{fold_push}
use Rattle.xsk_umem.specs.Frame.{Frame}
use Rattle.xsk_umem.specs.Limits.{most_items}
use Rattle.xsk_umem.specs.Geometry.{IsGeometry, frame_of, data_of, payload_of}
use Rattle.xsk_umem.specs.declared.batch.Item.{Item}
use Rattle.xsk_umem.specs.declared.batch.XdpDesc.{XdpDesc}
use Rattle.xsk_model.specs.Config.{Config}
use Rattle.xsk_model.specs.Numbers.{times, numbers}
use Rattle.xsk_model.specs.Rings.{is_ring}
use Rattle.xsk_model.specs.Object.{submitted}
use Rattle.xsk_model.specs.Entry.{Told, own, with_told}
use Rattle.xsk_model.specs.Own.{had_of, granted, is_on, room_step, room_of, held_step, held_of, fill_step, is_from_fill}
use Rattle.xsk_model.specs.History.{IsHistory, AreFresh}
use Rattle.xsk_model.specs.Swaps.{IsFed}
use Rattle.xsk_model.specs.Legal.{IsItemOn, IsPlainOn, ArePackets, AreReceived}
use Rattle.xsk_model.specs.OtherWords.{NamesItsData, IsShaped}
use Rattle.xsk_model.specs.Packets.{IsLayout}
use Rattle.xsk_model.specs.declared.call.Ring.{Ring}
use Rattle.xsk_model.specs.declared.call.Ring.TheVariants.{Fill, Comp, Rx, Tx}
use Rattle.xsk_model.specs.declared.call.Call.{Call}
use Rattle.xsk_model.specs.declared.call.Call.TheVariants.{Reserve, Submit, Peek, Release}
use Rattle.xsk_model.specs.declared.call.Reply.{Reply}
use Rattle.xsk_model.specs.declared.call.Reply.TheVariants.{Granted, Full, Items}
use Rattle.xsk_model.proofs.Places.{is_ring-self}
use Rattle.xsk_model.proofs.Folds.{part_of-push_same, part_of-push_other}
use Rattle.xsk_model.proofs.Theorems.{fitting_replies}
use Rattle.xsk_model.proofs.Completions.{times-had_of-push}
use Rattle.xsk_model.proofs.CallTheorems.{shapes_decide}
use Rattle.xsk_table.specs.View.{Basis}
use Rattle.xsk_table.specs.Plays.{entry}
use Rattle.xsk_table.specs.Held.{Board, Holder}
use Rattle.xsk_rings.specs.Serving.{MayAsk, Served}
use Rattle.xsk_rings.specs.Rounds.{Rests, mine_of, IsProducer, IsConsumer}
use Rattle.xsk_rings.proofs.Rounds.{may_ask, mine_after}
use Rattle.bench_rings.specs.Moving.{moving, geometry, Took, IsWhole, IsMoved, Moved}

-- ---- calls without items

no_socket : (s : ℕ) → Some s ≡ None → ⊥
no_socket s e = cc

-- where no socket is to be closed no ring is ended
fed : (c : Config) (mine : List Told) (r : Ring) → c.closing ≡ None → IsFed c mine r
fed c mine (Fill d) none = tt
fed c mine (Comp d) none = tt
fed c mine (Rx s) none = λ is. absurd (no_socket s (sym is ∙ none))
fed c mine (Tx s) none = λ is. absurd (no_socket s (sym is ∙ none))

pub may_reserve : (b : Board) (p : Holder) (r : Ring) (n : ℕ) → Rests b p → IsProducer b.setup.config p.who r → 1 ≤ n → n ≤ most_items → MayAsk b p (Reserve r n)
may_reserve b p r n rests h some few = may_ask b p (Reserve r n) rests record { caller = h.0; known = h.1; role = h.2; counted = (some, few); frames = λ k. omega arith; items = tt; packets = tt; feeds = fed b.setup.config (mine_of p) r h.3 }

pub may_peek : (b : Board) (p : Holder) (r : Ring) (n : ℕ) → Rests b p → IsConsumer b.setup.config p.who r → 1 ≤ n → n ≤ most_items → MayAsk b p (Peek r n)
may_peek b p r n rests h some few = may_ask b p (Peek r n) rests record { caller = h.0; known = h.1; role = h.2; counted = (some, few); frames = λ k. omega arith; items = tt; packets = tt; feeds = tt }

pub may_release : (b : Board) (p : Holder) (r : Ring) (n : ℕ) → Rests b p → IsConsumer b.setup.config p.who r → 1 ≤ n → n ≤ most_items → n ≤ held_of r (mine_of p) → MayAsk b p (Release r n)
may_release b p r n rests h some few held = may_ask b p (Release r n) rests record { caller = h.0; known = h.1; role = h.2; counted = (some, few, held); frames = λ k. omega arith; items = tt; packets = tt; feeds = tt }

-- ---- what a call leaves of the room and of what is held

pub room_on : (p q : Holder) (r : Ring) (call : Call) (reply : Reply) → is_on r call ≡ true → Served p q call reply → room_of r (mine_of q) ≡ room_of r (mine_of p) + granted call reply - length (submitted call)
room_on p q r call reply on s = ap (room_of r) (mine_after p q call reply s) ∙ part_of-push_same room_step r 0 (mine_of p) (record { call = call; reply = reply }) on

pub room_off : (p q : Holder) (r : Ring) (call : Call) (reply : Reply) → is_on r call ≡ false → Served p q call reply → room_of r (mine_of q) ≡ room_of r (mine_of p)
room_off p q r call reply off s = ap (room_of r) (mine_after p q call reply s) ∙ part_of-push_other room_step r 0 (mine_of p) (record { call = call; reply = reply }) off

pub held_off : (p q : Holder) (r : Ring) (call : Call) (reply : Reply) → is_on r call ≡ false → Served p q call reply → held_of r (mine_of q) ≡ held_of r (mine_of p)
held_off p q r call reply off s = ap (held_of r) (mine_after p q call reply s) ∙ part_of-push_other held_step r 0 (mine_of p) (record { call = call; reply = reply }) off

pub room_granted : (p q : Holder) (r : Ring) (n most : ℕ) → Served p q (Reserve r n) Granted → most ≤ room_of r (mine_of p) + n → most ≤ room_of r (mine_of q)
room_granted p q r n most s h =
    let now : room_of r (mine_of q) ≡ room_of r (mine_of p) + n - 0 = room_on p q r (Reserve r n) Granted (is_ring-self r) s in
    let before : ℕ = room_of r (mine_of p) in
    omega arith

pub room_waits : (p q : Holder) (r : Ring) (n most free : ℕ) → Served p q (Reserve r n) (Full free) → most ≤ room_of r (mine_of p) + n → most ≤ room_of r (mine_of q) + n
room_waits p q r n most free s h =
    let now : room_of r (mine_of q) ≡ room_of r (mine_of p) + 0 - 0 = room_on p q r (Reserve r n) (Full free) (is_ring-self r) s in
    let before : ℕ = room_of r (mine_of p) in
    omega arith

pub room_put : (p q : Holder) (r : Ring) (items : List Item) (reply : Reply) (most : ℕ) → Served p q (Submit r items) reply → most ≤ room_of r (mine_of p) → most ≤ room_of r (mine_of q) + length items
room_put p q r items reply most s h =
    let now : room_of r (mine_of q) ≡ room_of r (mine_of p) + 0 - length items = room_on p q r (Submit r items) reply (is_ring-self r) s in
    let before : ℕ = room_of r (mine_of p) in
    omega arith

pub room_taken : (p q : Holder) (source sink : Ring) (n most : ℕ) (reply : Reply) → is_ring sink source ≡ false → Served p q (Peek source n) reply → most ≤ room_of sink (mine_of p) → most ≤ room_of sink (mine_of q)
room_taken p q source sink n most reply apart s h = subst (λ k. most ≤ k) (sym (room_off p q sink (Peek source n) reply apart s)) h

pub room_freed : (p q : Holder) (source sink : Ring) (n most count : ℕ) (reply : Reply) → is_ring sink source ≡ false → Served p q (Release source n) reply → most ≤ room_of sink (mine_of p) + count → most ≤ room_of sink (mine_of q) + count
room_freed p q source sink n most count reply apart s h = subst (λ k. most ≤ k + count) (sym (room_off p q sink (Release source n) reply apart s)) h

pub held_put : (p q : Holder) (source sink : Ring) (items : List Item) (n : ℕ) (reply : Reply) → is_ring source sink ≡ false → Served p q (Submit sink items) reply → n ≤ held_of source (mine_of p) → n ≤ held_of source (mine_of q)
held_put p q source sink items n reply apart s h = subst (λ k. n ≤ k) (sym (held_off p q source (Submit sink items) reply apart s)) h

-- ---- the items of a Peek

fresh_items : (p q : Holder) (r : Ring) (n : ℕ) (items : List Item) (s : Served p q (Peek r n) (Items items)) → AreFresh p.view.setup.config (own p.who (p.view.seen ++ s.history.between)) r n items
fresh_items p q r n items s =
    let h = s.history in
    let k : Basis = p.view.setup in
    fitting_replies k.config k.frames (p.view.seen ++ h.between) [] (entry p.who (Peek r n) (Items items)) (subst (IsHistory k.config k.frames) h.seen h.legal)

pub took : (p q : Holder) (r : Ring) (n : ℕ) (items : List Item) → Served p q (Peek r n) (Items items) → Took q r n items
took p q r n items s =
    let fresh = fresh_items p q r n items s in
    record {
      before = mine_of p;
      mine = mine_after p q (Peek r n) (Items items) s;
      lawful = subst (λ (k : Basis). All (IsItemOn k.config.geometry r) items) (sym s.history.setup) fresh.lawful;
      some = fresh.some;
      few = fresh.few;
    }

pub held_took : (p : Holder) (r : Ring) (n : ℕ) (items : List Item) → Took p r n items → length items ≤ held_of r (mine_of p)
held_took p r n items t =
    let now : held_of r (mine_of p) ≡ held_of r t.before + length items - 0 = ap (held_of r) t.mine ∙ part_of-push_same held_step r 0 t.before (record { call = Peek r n; reply = Items items }) (is_ring-self r) in
    let before : ℕ = held_of r t.before in
    omega arith

-- ---- items whose frames go on

number_by : (b : Bool) (n address : ℕ) → nat_lt address 4194304 ≡ b → Some n ≡ cond b (Some (address / 2048)) None → n < 2048
number_by true n address e is =
    let lt : suc address ≤ 4194304 = leb-true (suc address) 4194304 e in
    let same : n ≡ address / 2048 = ap (λ (o : Option ℕ). unwrap_or o 0) is in
    omega arith
number_by false n address e is = absurd (cc)

whole_by : (r : Ring) (frame : Option Frame) (desc : XdpDesc) → IsItemOn geometry r (record { frame = frame; desc = desc }) → IsWhole (record { frame = frame; desc = desc })
whole_by r None desc h = tt
whole_by r (Some f) desc h = (number_by (nat_lt desc.addr 4194304) f.number desc.addr refl h.frame, h.body)

-- what was taken has whole frames
pub whole_took : (b : Board) (p : Holder) (r : Ring) (n : ℕ) (items : List Item) → b.setup.config ≡ moving → Rests b p → Took p r n items → All IsWhole items
whole_took b p r n items opened rests t =
    let lawful : All (IsItemOn geometry r) items = subst (λ (c : Config). All (IsItemOn c.geometry r) items) (ap (λ (k : Basis). k.config) rests.0.setup ∙ opened) t.lawful in
    All-weaker (IsItemOn geometry r) IsWhole (λ x h. whole_by r x.frame x.desc h) items lawful

frame_at : (n off address : ℕ) → address ≡ n * 2048 + off → n < 2048 → off < 2048 → frame_of geometry address ≡ Some n
frame_at n off address is lt small =
    let inside : address < 4194304 = omega arith in
    let whole : address / 2048 ≡ n = omega arith in
    ap (λ b. cond b (Some (address / 2048)) None) (lt-ltb address 4194304 inside) ∙ ap Some whole

moved_lawful : (r : Ring) (offset len : ℕ) (y : Item) → offset < 2048 → len < 2048 → ((d : XdpDesc) → d.len ≡ len → d.options ≡ 0 → IsPlainOn r d) → IsMoved offset len y → IsItemOn geometry r y
moved_lawful r offset len y off short plain h =
    let f : Frame = h.frame in
    let n : ℕ = f.number in
    let lt : n < 2048 = h.number in
    let desc : XdpDesc = record { addr = n * 2048 + offset; len = len; options = 0 } in
    let there : IsItemOn geometry r (record { frame = Some f; desc = desc }) = record {
      address = (let a : ℕ = n * 2048 + offset in omega arith);
      len = omega arith;
      options = lit< tt;
      frame = sym (frame_at n offset (n * 2048 + offset) refl lt off);
      body = h.body;
      plain = plain desc refl refl;
    } in
    let P : Option Frame × XdpDesc → Type 0 = λ t. IsItemOn geometry r (record { frame = t.0; desc = t.1 }) in
    subst P (λ i. (sym h.is i, sym h.desc i)) there

is_geometry : IsGeometry geometry
is_geometry = record { some = lit≤ tt; few = lit≤ tt; chunk = inl refl; headroom = lit< tt }

received_shaped : (y : Item) → IsMoved 256 60 y → IsShaped geometry false (y ∷ [])
received_shaped y h = record {
  named = All-cons (NamesItsData geometry) y [] (h.frame, h.is, h.number, ap (λ (d : XdpDesc). d.addr) h.desc ∙ (let n : ℕ = h.frame.number in let e : n * 2048 + 256 ≡ data_of geometry n = omega arith in e)) (All-nil (NamesItsData geometry));
  lengths = (
    subst (λ n. 1 ≤ n) (sym (ap (λ (d : XdpDesc). d.len) h.desc)) (lit≤ tt),
    subst (λ n. n ≤ payload_of geometry) (sym (ap (λ (d : XdpDesc). d.len) h.desc)) (lit≤ tt),
    ap (λ (d : XdpDesc). d.options) h.desc,
  );
  single = inr refl;
}

-- each is a packet of its own
abbrev Laid : List Item → Type 0
Laid l = (packet : List ℕ) × IsLayout geometry false packet l

abbrev alone : Item → List Item
alone y = y ∷ []

laid : (y : Item) → IsMoved 256 60 y → Laid (alone y)
laid y h =
    let Whole : Item → Type 0 = λ i. IfSome i.frame (λ (f : Frame). length f.bytes ≡ geometry.chunk) in
    let whole : Whole y = subst (λ (f : Option Frame). IfSome f (λ (g : Frame). length g.bytes ≡ geometry.chunk)) (sym h.is) h.body in
    (shapes_decide geometry false (y ∷ []) is_geometry (All-cons Whole y [] whole (All-nil Whole))).1 (received_shaped y h)

flat_alone : (ys : List Item) → ys ≡ flat_map (λ (layout : List Item). layout) (map alone ys)
flat_alone [] = refl
flat_alone (y ∷ ys) = ap (λ l. y ∷ l) (flat_alone ys)

from_fill : (n : ℕ) (before : List Told) (most : ℕ) (xs : List Item) → 1 ≤ times n (numbers xs) → is_from_fill n (with_told before (Peek (Fill 0) most) (Items xs)) ≡ true
from_fill n before most xs some =
    let t : Told = record { call = Peek (Fill 0) most; reply = Items xs } in
    fold_push (fill_step n) false before t ∙ ap (λ b. cond b true (is_from_fill n before)) (lt-ltb 0 (times n (numbers xs)) some)

received : (p : Holder) (most : ℕ) (xs ys : List Item) → Took p (Fill 0) most xs → Moved 256 60 xs ys → AreReceived moving (mine_of p) ys
received p most xs ys t h = record {
  layouts = map alone ys;
  joined = flat_alone ys;
  laid_out = All-map Laid alone ys (All-weaker (IsMoved 256 60) (λ y. Laid (alone y)) laid ys h.all);
  from_fill = λ n some. ap (is_from_fill n) t.mine ∙ from_fill n t.before most xs (subst (λ k. 1 ≤ k) (h.same n) some);
}

-- ---- a Submit of them

may_submit : (b : Board) (p : Holder) (source sink : Ring) (offset len most : ℕ) (xs ys : List Item) → Rests b p → IsProducer b.setup.config p.who sink → Took p source most xs → Moved offset len xs ys
    → most ≤ most_items → most ≤ room_of sink (mine_of p) → All (IsItemOn b.setup.config.geometry sink) ys → ArePackets b.setup.config (mine_of p) (Submit sink ys) → MayAsk b p (Submit sink ys)
may_submit b p source sink offset len most xs ys rests h t m few room lawful packets = may_ask b p (Submit sink ys) rests record {
  caller = h.0;
  known = h.1;
  role = h.2;
  counted = (let c = m.count in let s = t.some in let f = t.few in let r : ℕ = room_of sink (mine_of p) in (omega arith, omega arith, omega arith));
  frames = λ n.
      let had : times n (had_of (mine_of p)) ≡ times n (had_of t.before) - 0 + times n (numbers xs) = ap (λ l. times n (had_of l)) t.mine ∙ times-had_of-push n t.before (record { call = Peek source most; reply = Items xs }) in
      let same = m.same n in
      omega arith;
  items = lawful;
  packets = packets;
  feeds = fed b.setup.config (mine_of p) sink h.3;
}

driver_sink : IsProducer moving 0 (Rx 0)
driver_sink = (lit< tt, (lit< tt, refl), refl, refl)

driver_source : IsConsumer moving 0 (Fill 0)
driver_source = (lit< tt, lit< tt, refl)

application_sink : IsProducer moving 2 (Fill 0)
application_sink = (lit< tt, lit< tt, refl, refl)

application_source : IsConsumer moving 2 (Rx 0)
application_source = (lit< tt, (lit< tt, refl), refl)

module _ (b : Board) (who : ℕ) (opened : b.setup.config ≡ moving) where
  pub driver_gives : who ≡ 0 → IsProducer b.setup.config who (Rx 0)
  driver_gives is = subst (λ (t : Config × ℕ). IsProducer t.0 t.1 (Rx 0)) (λ i. (sym opened i, sym is i)) driver_sink

  pub driver_takes : who ≡ 0 → IsConsumer b.setup.config who (Fill 0)
  driver_takes is = subst (λ (t : Config × ℕ). IsConsumer t.0 t.1 (Fill 0)) (λ i. (sym opened i, sym is i)) driver_source

  pub application_gives : who ≡ 2 → IsProducer b.setup.config who (Fill 0)
  application_gives is = subst (λ (t : Config × ℕ). IsProducer t.0 t.1 (Fill 0)) (λ i. (sym opened i, sym is i)) application_sink

  pub application_takes : who ≡ 2 → IsConsumer b.setup.config who (Rx 0)
  application_takes is = subst (λ (t : Config × ℕ). IsConsumer t.0 t.1 (Rx 0)) (λ i. (sym opened i, sym is i)) application_source

module _ (b : Board) (p : Holder) (most : ℕ) (xs ys : List Item) (opened : b.setup.config ≡ moving) (rests : Rests b p) (few : most ≤ most_items) where
  pub driver_submits : p.who ≡ 0 → Took p (Fill 0) most xs → Moved 256 60 xs ys → most ≤ room_of (Rx 0) (mine_of p) → MayAsk b p (Submit (Rx 0) ys)
  driver_submits is t m room =
      let lawful : All (IsItemOn geometry (Rx 0)) ys = All-weaker (IsMoved 256 60) (IsItemOn geometry (Rx 0)) (λ y h. moved_lawful (Rx 0) 256 60 y (lit< tt) (lit< tt) (λ d a e. tt) h) ys m.all in
      may_submit b p (Fill 0) (Rx 0) 256 60 most xs ys rests (driver_gives b p.who opened is) t m few room
      (subst (λ (c : Config). All (IsItemOn c.geometry (Rx 0)) ys) (sym opened) lawful)
      (subst (λ (c : Config). AreReceived c (mine_of p) ys) (sym opened) (received p most xs ys t m))

  pub application_submits : p.who ≡ 2 → Took p (Rx 0) most xs → Moved 0 0 xs ys → most ≤ room_of (Fill 0) (mine_of p) → MayAsk b p (Submit (Fill 0) ys)
  application_submits is t m room =
      let lawful : All (IsItemOn geometry (Fill 0)) ys = All-weaker (IsMoved 0 0) (IsItemOn geometry (Fill 0)) (λ y h. moved_lawful (Fill 0) 0 0 y (lit< tt) (lit< tt) (λ d a e. (a, e)) h) ys m.all in
      may_submit b p (Rx 0) (Fill 0) 0 0 most xs ys rests (application_gives b p.who opened is) t m few room
      (subst (λ (c : Config). All (IsItemOn c.geometry (Fill 0)) ys) (sym opened) lawful) tt
