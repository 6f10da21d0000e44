-- A step of one ring's store as a step of the object.
use Rattle.std.proofs.Common.{◌≡◌, ℕ, ◌+◌, ◌*◌, ◌<◌, ◌≤◌, ◌↔◌, cond, nat_le, List, [], ◌++◌, length, get_or, set, map, Some, Ok, Err, refl, sym, ap, subst, ◌∙◌, arith, length-append}
use Rattle.std.specs.Prelude.{Result, IsOk, OnOk, OnErr}
use Rattle.std.proofs.lemmas.List.{length-map, get_or-map, map-set, set-get_or}
use Rattle.std.proofs.lemmas.List.Elements.{All-set, All-get_or, All-same}
use Rattle.std.proofs.lemmas.Bool.Decides.{nat_tests}
use Rattle.xsk_model.specs.Config.{Config, HasRing, size_of, socket_at}
use Rattle.xsk_model.specs.Rings.{place, places_of}
use Rattle.xsk_model.specs.declared.config.SocketInfo.{SocketInfo}
use Rattle.xsk_model.specs.declared.call.Ring.{Ring}
use Rattle.xsk_model.specs.declared.call.Ring.TheVariants.{Fill, Comp, Rx, Tx}
use Rattle.xsk_model.specs.declared.call.Call.{Call}
use Rattle.xsk_model.specs.declared.call.Call.TheVariants.{Reserve}
use Rattle.xsk_plain.specs.declared.ring_store.RingStore.{RingStore}
use Rattle.xsk_plain.specs.declared.ring_store.Stored.{Stored}
use Rattle.xsk_plain.specs.Engine.{Part, no_part, part_in}
use Rattle.xsk_plain.specs.Steps.{free_in, part_after, parts_after}
use Rattle.xsk_model.specs.Sizes.{sizes_of, fill_size, comp_size, rx_size, tx_size}
use Rattle.xsk_plain.specs.Stores.{stored_item_of, part_of, parts_of, size_in, sizes_in, Has}
use Rattle.xsk_log.specs.Notes.{Notes}
use Rattle.xsk_plain.specs.Kept.{IsKept, AreKept, AllKept}
use Rattle.xsk_model.proofs.InRow.{in_first, in_second, in_third, in_fourth}

-- ---- the size of a ring, by its place

pub length-sizes_of : (c : Config) → length (sizes_of c) ≡ places_of c
length-sizes_of c =
    omega (
      arith,
      length-append (map fill_size c.pairs ++ map comp_size c.pairs ++ map rx_size c.sockets) (map tx_size c.sockets),
      length-append (map fill_size c.pairs ++ map comp_size c.pairs) (map rx_size c.sockets),
      length-append (map fill_size c.pairs) (map comp_size c.pairs),
      length-map c.pairs fill_size,
      length-map c.pairs comp_size,
      length-map c.sockets rx_size,
      length-map c.sockets tx_size,
    )

pub length-rings : (c : Config) (rings : List RingStore) → sizes_in rings ≡ sizes_of c → length rings ≡ places_of c
length-rings c rings sizes = sym (length-map rings size_in) ∙ ap length sizes ∙ length-sizes_of c

pub size_at : (c : Config) (r : Ring) → HasRing c r → get_or (sizes_of c) (place c r) 0 ≡ size_of c r
size_at c (Fill d) h =
    in_first (map fill_size c.pairs) (map comp_size c.pairs) (map rx_size c.sockets) (map tx_size c.sockets) d (omega (arith, h, length-map c.pairs fill_size))
    ∙ get_or-map fill_size c.pairs d (record { port = 0; queue = 0; fill = 0; comp = 0 }) 0 h
size_at c (Comp d) h =
    in_second (map fill_size c.pairs) (map comp_size c.pairs) (map rx_size c.sockets) (map tx_size c.sockets) (length c.pairs + d) d
    (omega (arith, h, length-map c.pairs comp_size)) (omega (arith, length-map c.pairs fill_size))
    ∙ get_or-map comp_size c.pairs d (record { port = 0; queue = 0; fill = 0; comp = 0 }) 0 h
size_at c (Rx s) h =
    in_third (map fill_size c.pairs) (map comp_size c.pairs) (map rx_size c.sockets) (map tx_size c.sockets) (2 * length c.pairs + s) s
    (omega (arith, h.0, length-map c.sockets rx_size)) (omega (arith, length-map c.pairs fill_size, length-map c.pairs comp_size))
    ∙ get_or-map rx_size c.sockets s (socket_at [] s) 0 h.0
size_at c (Tx s) h =
    in_fourth (map fill_size c.pairs) (map comp_size c.pairs) (map rx_size c.sockets) (map tx_size c.sockets) (2 * length c.pairs + length c.sockets + s) s
    (omega (arith, length-map c.pairs fill_size, length-map c.pairs comp_size, length-map c.sockets rx_size))
    ∙ get_or-map tx_size c.sockets s (socket_at [] s) 0 h.0

-- what a socket tells of it
module _ (c : Config) where
  pub rx_at : (p i : ℕ) (d : SocketInfo) → p ≡ 2 * length c.pairs + i → i < length c.sockets → rx_size (get_or c.sockets i d) ≡ get_or (sizes_of c) p 0
  rx_at p i d at h =
      sym (get_or-map rx_size c.sockets i d 0 h)
      ∙ sym (in_third (map fill_size c.pairs) (map comp_size c.pairs) (map rx_size c.sockets) (map tx_size c.sockets) p i
      (omega (arith, h, length-map c.sockets rx_size)) (omega (arith, at, length-map c.pairs fill_size, length-map c.pairs comp_size)))

  pub tx_at : (p i : ℕ) (d : SocketInfo) → p ≡ 2 * length c.pairs + length c.sockets + i → i < length c.sockets → tx_size (get_or c.sockets i d) ≡ get_or (sizes_of c) p 0
  tx_at p i d at h =
      sym (get_or-map tx_size c.sockets i d 0 h)
      ∙ sym (in_fourth (map fill_size c.pairs) (map comp_size c.pairs) (map rx_size c.sockets) (map tx_size c.sockets) p i
      (omega (arith, at, length-map c.pairs fill_size, length-map c.pairs comp_size, length-map c.sockets rx_size)))

-- ---- one store among all

module _ (c : Config) (rings : List RingStore) (p : ℕ) (before after : RingStore) (within : p < length rings) (is : before ≡ get_or rings p before) where
  pub sizes-set : after.size ≡ before.size → sizes_in (set rings p after) ≡ sizes_in rings
  sizes-set same =
      let there : get_or (map size_in rings) p 0 ≡ before.size = get_or-map size_in rings p before 0 within ∙ sym (ap size_in is) in
      map-set size_in rings p after ∙ ap (set (map size_in rings) p) (same ∙ sym there) ∙ set-get_or (map size_in rings) p 0

  pub kept-set : (notes : Notes) → AllKept c notes rings → (AreKept c notes before → AreKept c notes after) → AllKept c notes (set rings p after)
  kept-set notes all step =
      All-set (AreKept c notes) rings p after (step (subst (AreKept c notes) (sym is) (All-get_or (AreKept c notes) rings p before within all))) all

  pub kept_here : (notes : Notes) → AllKept c notes rings → AreKept c notes before
  kept_here notes all = subst (AreKept c notes) (sym is) (All-get_or (AreKept c notes) rings p before within all)

  pub part_here : (r : Ring) → p ≡ place c r → part_in c (parts_of rings) r ≡ part_of before
  part_here r at = ap (λ k. get_or (map part_of rings) k no_part) (sym at) ∙ get_or-map part_of rings p before no_part within ∙ sym (ap part_of is)

  pub room_here : (r : Ring) (n : ℕ) → p ≡ place c r → n ≤ (part_in c (parts_of rings) r).room → n ≤ before.room
  room_here r n at h = subst (λ (q : Part). n ≤ q.room) (part_here r at) h

  pub size_here : (r : Ring) → HasRing c r → p ≡ place c r → sizes_in rings ≡ sizes_of c → size_of c r ≡ before.size
  size_here r has at sizes =
      sym (size_at c r has) ∙ ap (λ k. get_or (sizes_of c) k 0) (sym at) ∙ ap (λ ns. get_or ns p 0) (sym sizes) ∙ get_or-map size_in rings p before 0 within
      ∙ sym (ap size_in is)

  pub parts-set : (r : Ring) (call : Call) → HasRing c r → p ≡ place c r → sizes_in rings ≡ sizes_of c → part_of after ≡ part_after before.size (part_of before) call
      → parts_of (set rings p after) ≡ parts_after c (parts_of rings) (Some r) call
  parts-set r call has at sizes step =
      let size = size_here r has at sizes in
      let part = part_here r at in
      map-set part_of rings p after ∙ ap (set (map part_of rings) p) step
      ∙ ap (λ k. set (map part_of rings) k (part_after before.size (part_of before) call)) at
      ∙ ap (λ n. set (map part_of rings) (place c r) (part_after n (part_of before) call)) (sym size)
      ∙ ap (λ (q : Part). set (map part_of rings) (place c r) (part_after (size_of c r) q call)) (sym part)

-- ---- one store

pub part_has : (store : RingStore) (items : List Stored) (peeked reserved entries : ℕ) → Has store items peeked reserved entries
    → part_of store ≡ record { out = map stored_item_of items; held = peeked; room = reserved }
part_has store items peeked reserved entries h =
    let out : map stored_item_of store.out.items ≡ map stored_item_of items = ap (map stored_item_of) h.out in
    let held = h.held in
    let room = h.room in
    ap (λ xs. record { out = xs; held = store.held; room = store.room }) out
    ∙ ap (λ n. record { out = map stored_item_of items; held = n; room = store.room }) held
    ∙ ap (λ n. record { out = map stored_item_of items; held = peeked; room = n }) room

pub kept_same : (c : Config) (notes : Notes) (before after : RingStore) → after.out.items ≡ before.out.items → AreKept c notes before → AreKept c notes after
kept_same c notes before after same kept = All-same (IsKept c notes) after.out.items before.out.items same kept

pub reserve_yes : {X : Type 0} (n places : ℕ) (x y : X) → n ≤ places → cond (nat_le n places) x y ≡ x
reserve_yes n places x y h = grind (arith, nat_tests)

pub reserve_no : {X : Type 0} (n places : ℕ) (x y : X) → (n ≤ places → ⊥) → cond (nat_le n places) x y ≡ y
reserve_no n places x y h = grind (arith, nat_tests)

-- a Reserve on one store, by its answer
pub reserved : {X : Type 0} (before after : RingStore) (r : Ring) (n : ℕ) (answer : Result X ℕ) → (IsOk answer ↔ (n ≤ free_in before.size (part_of before)))
    → OnOk answer (Has after before.out.items before.held (before.room + n) before.size) → OnErr answer (Has after before.out.items before.held before.room before.size)
    → part_of after ≡ part_after before.size (part_of before) (Reserve r n)
reserved before after r n (Ok x) fits ok err =
    part_has after before.out.items before.held (before.room + n) before.size ok
    ∙ sym (reserve_yes n (free_in before.size (part_of before)) (record { out = map stored_item_of before.out.items; held = before.held; room = before.room + n }) (part_of before) (fits.0 refl))
reserved before after r n (Err e) fits ok err =
    part_has after before.out.items before.held before.room before.size err
    ∙ sym (reserve_no n (free_in before.size (part_of before)) (record { out = map stored_item_of before.out.items; held = before.held; room = before.room + n }) (part_of before) (λ k. let no = fits.1 k in cc))

pub reserved_items : {X : Type 0} (before after : RingStore) (n : ℕ) (answer : Result X ℕ)
    → OnOk answer (Has after before.out.items before.held (before.room + n) before.size) → OnErr answer (Has after before.out.items before.held before.room before.size)
    → (after.out.items ≡ before.out.items) × (after.size ≡ before.size)
reserved_items before after n (Ok x) ok err = (ok.out, ok.size)
reserved_items before after n (Err e) ok err = (err.out, err.size)
