-- What a driver submits on COMPLETION may come there: addresses alone, each in a frame that came from TX of that pair.
use Rattle.std.proofs.Common.{◌≡◌, ℕ, ◌+◌, ◌<◌, ◌≤◌, Bool, true, cond, ◌&&◌, nat_lt, Option, None, List, [], ◌∷◌, length, map, get_or, flat_map, All, refl, sym, ap, ◌∙◌, subst, arith}
use Rattle.std.specs.Prelude.{IsTrue}
use Rattle.std.proofs.lemmas.Bool.{and_parts}
use Rattle.std.proofs.lemmas.List.Elements.{All-head, All-tail, All-map, All-push, All-weaker}
use Rattle.xsk_umem.specs.Geometry.{Geometry, area_of}
use Rattle.xsk_umem.specs.declared.batch.Item.{Item}
use Rattle.xsk_umem.specs.declared.batch.XdpDesc.{XdpDesc}
use Rattle.xsk_model.specs.Config.{Config, IsConfig, IsBound, socket_at}
use Rattle.xsk_model.specs.Numbers.{times, numbers}
use Rattle.xsk_model.specs.Rings.{port_of, queue_of}
use Rattle.xsk_model.specs.Descriptor.{is_valid, is_inside, has_bytes, fits_chunk, has_known_options}
use Rattle.xsk_model.specs.Packets.{Continues, IsWhole, rest}
use Rattle.xsk_model.specs.Entry.{Told}
use Rattle.xsk_model.specs.Own.{TxWork, waiting, tx_work_of}
use Rattle.xsk_model.specs.Legal.{IsItemOn, AreCompleted}
use Rattle.xsk_model.specs.History.{OwnGoesOn}
use Rattle.xsk_model.specs.declared.call.Ring.{Ring}
use Rattle.xsk_model.specs.declared.call.Ring.TheVariants.{Comp, Tx}
use Rattle.xsk_model.proofs.Counting.{times-append}
use Rattle.xsk_model.proofs.Roles.{pair_on_only}
use Rattle.xsk_model.proofs.Completions.{kept, waiting_whole}
use Rattle.xsk_side.specs.Setting.{pair_of}
use Rattle.xsk_side.specs.Entries.{frame, strays_in}
use Rattle.xsk_side.specs.Legal.{IsCompleted}
use Rattle.xsk_side.proofs.Lists.{times-some}
use Rattle.xsk_sides.specs.Sides.{entries, desc_in, setting_of}
use Rattle.xsk_sides.proofs.Items.{same_times}
use Rattle.xsk_sides.proofs.Places.{same_pair}
use Rattle.xsk_sides.proofs.Sources.{got_on, sent}

abbrev addresses : List Item → List ℕ
addresses items = map (λ (i : Item). i.desc.addr) items

abbrev IsIn : Geometry → Item → Type 0
IsIn g item = nat_lt item.desc.addr (area_of g) ≡ true

-- ---- the packet

valid_in : (g : Geometry) (sg : Bool) (item : Item) → IsTrue (is_valid g sg item.desc) → IsIn g item
valid_in g sg item h =
    let three = (and_parts (is_inside g item.desc && has_bytes item.desc && fits_chunk g item.desc) (has_known_options sg item.desc) h).0 in
    let two = (and_parts (is_inside g item.desc && has_bytes item.desc) (fits_chunk g item.desc) three).0 in
    (and_parts (is_inside g item.desc) (has_bytes item.desc) two).0

whole_in : (g : Geometry) (sg : Bool) (items : List Item) → IsWhole g sg items → All (IsIn g) items
whole_in g sg items w =
    subst (λ (l : List Item). All (IsIn g) l) (sym w.is)
    (All-push (IsIn g) w.front w.last (All-weaker (Continues g sg) (IsIn g) (λ item h. valid_in g sg item h.valid) w.front w.continued) (valid_in g sg w.last w.valid))

-- entries with the addresses of such items name frames
no_strays : (c : Config) (items packet : List Item) → addresses items ≡ addresses packet → All (IsIn c.geometry) packet → strays_in (setting_of c) (entries items) ≡ 0
no_strays c [] packet h all = refl
no_strays c (item ∷ items) [] h all = absurd (cc)
no_strays c (item ∷ items) (first ∷ packet) h all =
    let inside : nat_lt item.desc.addr (area_of c.geometry) ≡ true = ap (λ a. nat_lt a (area_of c.geometry)) (head item.desc.addr first.desc.addr (addresses items) (addresses packet) h) ∙ All-head (IsIn c.geometry) first packet all in
    omega (
      arith,
      ap (λ b. cond b 0 1 + strays_in (setting_of c) (entries items)) inside,
      no_strays c items packet (tail item.desc.addr first.desc.addr (addresses items) (addresses packet) h) (All-tail (IsIn c.geometry) first packet all),
    )
  where
    head : (x y : ℕ) (xs ys : List ℕ) → x ∷ xs ≡ y ∷ ys → x ≡ y
    head x y xs ys e = cc

    tail : (x y : ℕ) (xs ys : List ℕ) → x ∷ xs ≡ y ∷ ys → xs ≡ ys
    tail x y xs ys e = cc

packet_kept : (c : Config) (f : ℕ) (u : TxWork) (packet : List Item) (later : List (List Item)) → waiting c u ≡ packet ∷ later → times f (numbers packet) ≤ times f (kept c u)
packet_kept c f u packet later next =
    let waits = ap (λ (ws : List (List Item)). times f (flat_map numbers ws)) next ∙ times-append f (numbers packet) (flat_map numbers later) in
    omega (arith, waits, times-append f (flat_map numbers (waiting c u)) (numbers (rest c.geometry c.sg u.peeked)))

-- ---- the entries

pub may_come_on_comp : (c : Config) (d : ℕ) (items : List Item) (mine : List Told) (from : ℕ → Option Ring) (strays : ℕ) → IsConfig c → d < length c.pairs
    → OwnGoesOn c d [] mine → AreCompleted c mine (Comp d) items → All (IsItemOn c.geometry (Comp d)) items
    → ((f : ℕ) → 1 ≤ times f (numbers items) → from f ≡ got_on f mine)
    → All (IsCompleted (setting_of c) from d) (entries items) × (strays_in (setting_of c) (entries items) ≤ strays)
may_come_on_comp c d items mine from strays config low goes completed on is =
    let t : ℕ = completed.socket in
    let u : TxWork = tx_work_of c t mine in
    let bound : IsBound c.ports c.queues c.pairs (socket_at c.sockets t) = config.bound t (record { port = 0; queue = 0; rx = None; tx = None }) completed.tx.0 in
    let pair : pair_of (setting_of c) (Tx t) ≡ d =
    same_pair c (Tx t) completed.tx
    ∙ pair_on_only c.pairs (port_of c (Tx t)) (queue_of c (Tx t)) d bound.pair low (sym completed.port, sym completed.queue) in
    let none : strays_in (setting_of c) (entries items) ≡ 0 =
    no_strays c items completed.packet completed.addresses (whole_in c.geometry c.sg completed.packet (waiting_whole c u completed.packet completed.later completed.next)) in (
      λ i x within.
          let e : XdpDesc = get_or (entries items) i x in
          record {
            len = All-map (λ (y : XdpDesc). y.len ≡ 0) desc_in items (λ j z h. (on j z h).plain.0) i x within;
            options = All-map (λ (y : XdpDesc). y.options ≡ 0) desc_in items (λ j z h. (on j z h).plain.1) i x within;
            sent = λ inside.
                let f : ℕ = frame (setting_of c) e in
                let some : 1 ≤ times f (numbers items) = subst (λ n. 1 ≤ n) (same_times c (Comp d) f items on) (times-some (setting_of c) (entries items) i x within inside) in
                let waits : 1 ≤ times f (kept c u) = omega (arith, some, ap (times f) completed.frames, packet_kept c f u completed.packet completed.later completed.next) in
                (t, is f some ∙ sent c d f t low (completed.tx.0, completed.port, completed.queue) mine goes waits, pair);
          },
      omega (arith, none),
    )
