-- Items give back the first packet of a TX ring's descriptors exactly where they complete its next packet that waits.
use Rattle.std.proofs.Common.{◌≡◌, ℕ, ◌<◌, ◌≤◌, Bool, List, [], ◌∷◌, ◌++◌, length, get_or, map, flat_map, All, Option, Some, None, refl, sym, ap, subst, ◌∙◌, arith, append_assoc, length-append}
use Rattle.std.specs.Option.{option_map}
use Rattle.std.proofs.lemmas.List.{length-map, map-append}
use Rattle.std.proofs.lemmas.List.Elements.{All-head, All-tail}
use Rattle.xsk_umem.specs.Frame.{Frame}
use Rattle.xsk_umem.specs.Geometry.{Geometry, frame_of}
use Rattle.xsk_umem.specs.declared.batch.Item.{Item}
use Rattle.xsk_umem.specs.declared.batch.XdpDesc.{XdpDesc}
use Rattle.xsk_model.specs.Config.{Config, HasRing}
use Rattle.xsk_model.specs.Packets.{rest, Continues, IsUnfinished, IsWhole}
use Rattle.xsk_model.specs.Numbers.{times, number_of, numbers}
use Rattle.xsk_model.specs.Entry.{Told}
use Rattle.xsk_model.specs.Own.{TxWork, waiting, tx_work_of}
use Rattle.xsk_model.specs.Legal.{IsItemOn, AreCompleted}
use Rattle.xsk_model.specs.declared.call.Ring.{Ring}
use Rattle.xsk_model.specs.declared.call.Ring.TheVariants.{Comp, Tx}
use Rattle.xsk_model.proofs.PacketsLaws.{packets-made}
use Rattle.xsk_model.proofs.Counting.{times-append, its_own}
use Rattle.xsk_model.proofs.Completions.{kept as kept_frames, waiting_whole}
use Rattle.xsk_legal.specs.Noted.{Noted}
use Rattle.xsk_legal.specs.Standing.{StandsFor, queue_at, desc_of, uncompleted}
use Rattle.xsk_legal.specs.Queue.{IsPacket}
use Rattle.xsk_legal.specs.Pieces.{frame_source, first_source, GivesBack}
use Rattle.xsk_legal.proofs.Steps.{all_first}
use Rattle.xsk_legal.proofs.Waiting.{IsWaiting, all_uncompleted, uncompleted_inside, IsInside, framed, number_below}

abbrev addr_of : Item → ℕ
addr_of item = item.desc.addr

abbrev joined : List (List Item) → List Item
joined groups = flat_map (λ (packet : List Item). packet) groups

-- ---- the first packet of some descriptors

module _ (g : Geometry) (sg : Bool) where
  -- a packet that isn't finished is none
  no_packet : (group items : List Item) → All (Continues g sg) group → 1 ≤ length items → IsPacket (map desc_of group) items → ⊥
  no_packet group [] h some p = absurd (omega (arith, some))
  no_packet [] (item ∷ items) h some p = p
  no_packet (x ∷ group) (item ∷ []) h some p = p.1 (All-head (Continues g sg) x group h).bit
  no_packet (x ∷ group) (item ∷ next ∷ items) h some p = no_packet group (next ∷ items) (All-tail (Continues g sg) x group h) (omega arith) p.2

  packet_addresses : (front : List Item) (last : Item) (more : List XdpDesc) (items : List Item) → All (Continues g sg) front → last.desc.options ≡ 0 → 1 ≤ length items
      → IsPacket (map desc_of (front ++ last ∷ []) ++ more) items → map addr_of items ≡ map addr_of (front ++ last ∷ [])
  packet_addresses front last more [] h bit some p = absurd (omega (arith, some))
  packet_addresses [] last more (item ∷ []) h bit some p = ap (λ a. a ∷ []) (sym p.0)
  packet_addresses [] last more (item ∷ next ∷ items) h bit some p = absurd (omega (arith, bit, p.1))
  packet_addresses (x ∷ front) last more (item ∷ []) h bit some p = absurd (p.1 (All-head (Continues g sg) x front h).bit)
  packet_addresses (x ∷ front) last more (item ∷ next ∷ items) h bit some p =
      ap (λ a. a ∷ map addr_of (next ∷ items)) (sym p.0)
      ∙ ap (λ others. x.desc.addr ∷ others) (packet_addresses front last more (next ∷ items) (All-tail (Continues g sg) x front h) bit (omega arith) p.2)

  addresses_packet : (front : List Item) (last : Item) (more : List XdpDesc) (items : List Item) → All (Continues g sg) front → last.desc.options ≡ 0
      → map addr_of items ≡ map addr_of (front ++ last ∷ []) → IsPacket (map desc_of (front ++ last ∷ []) ++ more) items
  addresses_packet front last more [] h bit e = tt
  addresses_packet [] last more (item ∷ []) h bit e =
      let same : last.desc.addr ≡ item.desc.addr = cc in
      (same, λ one. absurd (omega (arith, one, bit)))
  addresses_packet [] last more (item ∷ next ∷ items) h bit e = absurd (cc)
  addresses_packet (x ∷ front) last more (item ∷ []) h bit e =
      absurd (omega (arith, ap length e, length-map (front ++ last ∷ []) addr_of, length-append front (last ∷ [])))
  addresses_packet (x ∷ front) last more (item ∷ next ∷ items) h bit e =
      let same : x.desc.addr ≡ item.desc.addr = cc in
      let later : map addr_of (next ∷ items) ≡ map addr_of (front ++ last ∷ []) = cc in
      (same, (All-head (Continues g sg) x front h).bit, addresses_packet front last more (next ∷ items) (All-tail (Continues g sg) x front h) bit later)

  -- items with the same addresses have the same frames
  same_number : (frame other : Option Frame) → option_map (λ (f : Frame). f.number) frame ≡ option_map (λ (f : Frame). f.number) other → number_of frame ≡ number_of other
  same_number None None e = refl
  same_number None (Some f) e = absurd (cc)
  same_number (Some f) None e = absurd (cc)
  same_number (Some f) (Some o) e = let same : f.number ≡ o.number = cc in ap (λ n. n ∷ []) same

  same_numbers : (r q : Ring) (items others : List Item) → All (IsItemOn g r) items → All (IsItemOn g q) others → map addr_of items ≡ map addr_of others → numbers items ≡ numbers others
  same_numbers r q [] [] h k e = refl
  same_numbers r q [] (o ∷ others) h k e = absurd (cc)
  same_numbers r q (item ∷ items) [] h k e = absurd (cc)
  same_numbers r q (item ∷ items) (o ∷ others) h k e =
      let address : item.desc.addr ≡ o.desc.addr = cc in
      let later : map addr_of items ≡ map addr_of others = cc in
      let frame = (All-head (IsItemOn g r) item items h).frame ∙ ap (frame_of g) address ∙ sym (All-head (IsItemOn g q) o others k).frame in
      ap (λ ns. ns ++ numbers items) (same_number item.frame o.frame frame)
      ∙ ap (λ ns. number_of o.frame ++ ns) (same_numbers r q items others (All-tail (IsItemOn g r) item items h) (All-tail (IsItemOn g q) o others k) later)

-- ---- what waits

-- the descriptors that are kept, by the next packet
descs_next : (c : Config) (u : TxWork) (packet : List Item) (later : List (List Item)) → waiting c u ≡ packet ∷ later
    → map desc_of (uncompleted c u) ≡ map desc_of packet ++ map desc_of (joined later ++ rest c.geometry c.sg u.peeked)
descs_next c u packet later e =
    ap (λ ws. map desc_of (joined ws ++ rest c.geometry c.sg u.peeked)) e
    ∙ ap (map desc_of) (append_assoc packet (joined later) (rest c.geometry c.sg u.peeked))
    ∙ map-append desc_of packet (joined later ++ rest c.geometry c.sg u.peeked)

descs_none : (c : Config) (u : TxWork) → waiting c u ≡ [] → map desc_of (uncompleted c u) ≡ map desc_of (rest c.geometry c.sg u.peeked)
descs_none c u e = ap (λ ws. map desc_of (joined ws ++ rest c.geometry c.sg u.peeked)) e

pub all_next : (P : Item → Type 0) (c : Config) (u : TxWork) (packet : List Item) (later : List (List Item)) → waiting c u ≡ packet ∷ later → All P (uncompleted c u) → All P packet
all_next P c u packet later e h =
    all_first P packet (joined later) (all_first P (packet ++ joined later) (rest c.geometry c.sg u.peeked) (subst (λ ws. All P (joined ws ++ rest c.geometry c.sg u.peeked)) e h))

-- ---- the source of the first item

source_by : (sources : List (Option Ring)) (frame : Option Frame) (n : ℕ) → option_map (λ (f : Frame). f.number) frame ≡ Some n → frame_source sources frame ≡ get_or sources n None
source_by sources None n e = absurd (cc)
source_by sources (Some f) n e = let same : f.number ≡ n = cc in ap (λ k. get_or sources k None) same

module _ (c : Config) (kept : Noted) (mine : List Told) (d : ℕ) (items : List Item) (h : StandsFor c kept mine) (waits : IsWaiting c mine) where
  descs_are : (s : ℕ) → HasRing c (Tx s) → (queue_at kept s).descs ≡ map desc_of (uncompleted c (tx_work_of c s mine))
  descs_are s tx = h.keeps.descs s tx

  lawful_next : (s : ℕ) (packet : List Item) (later : List (List Item)) → waiting c (tx_work_of c s mine) ≡ packet ∷ later → All (IsItemOn c.geometry (Tx s)) packet
  lawful_next s packet later e = all_next (IsItemOn c.geometry (Tx s)) c (tx_work_of c s mine) packet later e (all_uncompleted (IsItemOn c.geometry (Tx s)) c (tx_work_of c s mine) (waits.lawful s))

  -- ---- what is given back is completed

  complete_next : (back : GivesBack c kept d items) (packet : List Item) (later : List (List Item)) → waiting c (tx_work_of c back.socket mine) ≡ packet ∷ later
      → 1 ≤ length items → All (IsItemOn c.geometry (Comp d)) items → AreCompleted c mine (Comp d) items
  complete_next back packet later next some lawful =
      let s : ℕ = back.socket in
      let u : TxWork = tx_work_of c s mine in
      let w : IsWhole c.geometry c.sg packet = waiting_whole c u packet later next in
      let more : List XdpDesc = map desc_of (joined later ++ rest c.geometry c.sg u.peeked) in
      let first : IsPacket (map desc_of packet ++ more) items = subst (λ ds. IsPacket ds items) (descs_are s back.tx ∙ descs_next c u packet later next) back.packet in
      let same : map addr_of items ≡ map addr_of packet =
      packet_addresses c.geometry c.sg w.front w.last more items w.continued w.bit some (subst (λ (xs : List Item). IsPacket (map desc_of xs ++ more) items) w.is first)
      ∙ ap (map addr_of) (sym w.is) in
      record {
        socket = s;
        tx = back.tx;
        port = back.port;
        queue = back.queue;
        packet = packet;
        later = later;
        next = next;
        frames = same_numbers c.geometry c.sg (Comp d) (Tx s) items packet lawful (lawful_next s packet later next) same;
        addresses = same;
      }

  by_next : (back : GivesBack c kept d items) (ws : List (List Item)) → waiting c (tx_work_of c back.socket mine) ≡ ws
      → 1 ≤ length items → All (IsItemOn c.geometry (Comp d)) items → AreCompleted c mine (Comp d) items
  by_next back [] next some lawful =
      let u : TxWork = tx_work_of c back.socket mine in
      let unfinished : IsUnfinished c.geometry c.sg (rest c.geometry c.sg u.peeked) = (packets-made c.geometry c.sg u.peeked).1 in
      absurd (no_packet c.geometry c.sg (rest c.geometry c.sg u.peeked) items unfinished.continued some
      (subst (λ ds. IsPacket ds items) (descs_are back.socket back.tx ∙ descs_none c u next) back.packet))
  by_next back (packet ∷ later) next some lawful = complete_next back packet later next some lawful

  pub back_completed : 1 ≤ length items → All (IsItemOn c.geometry (Comp d)) items → GivesBack c kept d items → AreCompleted c mine (Comp d) items
  back_completed some lawful back = by_next back (waiting c (tx_work_of c back.socket mine)) refl some lawful

  -- ---- what is completed is given back

  -- the frames of the next packet came from its ring
  next_source : (s : ℕ) (p : Item) (ps : List Item) (later : List (List Item)) → waiting c (tx_work_of c s mine) ≡ (p ∷ ps) ∷ later
      → (f : Frame) → p.frame ≡ Some f → get_or kept.sources f.number None ≡ Some (Tx s)
  next_source s p ps later next f e =
      let u : TxWork = tx_work_of c s mine in
      let n : ℕ = f.number in
      let some : 1 ≤ times n (kept_frames c u) =
      omega (
        arith,
        ap (λ ws. times n (flat_map numbers ws ++ numbers (rest c.geometry c.sg u.peeked))) next,
        times-append n (numbers (p ∷ ps) ++ flat_map numbers later) (numbers (rest c.geometry c.sg u.peeked)),
        times-append n (numbers (p ∷ ps)) (flat_map numbers later),
        times-append n (number_of p.frame) (numbers ps),
        ap (λ o. times n (number_of o)) e,
        its_own n n refl,
      ) in
      let below : n < c.geometry.frames =
      number_below c.geometry (Tx s) p f (All-head (IsItemOn c.geometry (Tx s)) p ps (lawful_next s (p ∷ ps) later next)) e in
      h.keeps.sources n below ∙ (waits.sent s n).source some

  first_from : (s : ℕ) (xs packet : List Item) (later : List (List Item)) → waiting c (tx_work_of c s mine) ≡ packet ∷ later → 1 ≤ length xs
      → All (IsItemOn c.geometry (Comp d)) xs → map addr_of xs ≡ map addr_of packet → first_source kept.sources xs ≡ Some (Tx s)
  first_from s [] packet later next some lawful same = absurd (omega (arith, some))
  first_from s (x ∷ xs) [] later next some lawful same = absurd (cc)
  first_from s (x ∷ xs) (p ∷ ps) later next some lawful same =
      let address : x.desc.addr ≡ p.desc.addr = cc in
      let on : IsItemOn c.geometry (Tx s) p = All-head (IsItemOn c.geometry (Tx s)) p ps (lawful_next s (p ∷ ps) later next) in
      let inside : IsInside c.geometry p =
      All-head (IsInside c.geometry) p ps (all_next (IsInside c.geometry) c (tx_work_of c s mine) (p ∷ ps) later next (uncompleted_inside c (tx_work_of c s mine))) in
      let frame = framed c.geometry (Tx s) p on inside in
      let number : option_map (λ (f : Frame). f.number) x.frame ≡ Some frame.0.number =
      (All-head (IsItemOn c.geometry (Comp d)) x xs lawful).frame ∙ ap (frame_of c.geometry) address ∙ sym on.frame ∙ ap (option_map (λ (f : Frame). f.number)) frame.1 in
      source_by kept.sources x.frame frame.0.number number ∙ next_source s p ps later next frame.0 frame.1

  pub completed_back : 1 ≤ length items → All (IsItemOn c.geometry (Comp d)) items → AreCompleted c mine (Comp d) items → GivesBack c kept d items
  completed_back some lawful done =
      let s : ℕ = done.socket in
      let u : TxWork = tx_work_of c s mine in
      let w : IsWhole c.geometry c.sg done.packet = waiting_whole c u done.packet done.later done.next in
      let more : List XdpDesc = map desc_of (joined done.later ++ rest c.geometry c.sg u.peeked) in
      let first : IsPacket (map desc_of done.packet ++ more) items =
      subst (λ (xs : List Item). IsPacket (map desc_of xs ++ more) items) (sym w.is)
      (addresses_packet c.geometry c.sg w.front w.last more items w.continued w.bit (done.addresses ∙ ap (map addr_of) w.is)) in
      record {
        socket = s;
        source = first_from s items done.packet done.later done.next some lawful done.addresses;
        tx = done.tx;
        port = done.port;
        queue = done.queue;
        packet = subst (λ ds. IsPacket ds items) (sym (descs_are s done.tx ∙ descs_next c u done.packet done.later done.next)) first;
      }
