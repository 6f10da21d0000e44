-- Items that an application changed make no more whole packets than those of which they were the layouts, and with no more bytes:
-- a whole packet still ends only at an item that ended a packet, and its items have their true lengths.
use Rattle.std.proofs.Common.{◌≡◌, ℕ, ◌+◌, ◌*◌, ◌%◌, ◌≤◌, ⊎_elim, Bool, true, false, cond, ◌&&◌, eqb, nat_le, Option, Some, None, List, [], ◌∷◌, length, map, flat_map, take, drop, All, refl, sym, ap, subst, ◌∙◌, arith, length-append, length-take, eq-eqb}
use Rattle.std.specs.List.{concat}
use Rattle.std.proofs.Math.Bool.{and-false}
use Rattle.std.proofs.lemmas.Nat.{mod-mul-add}
use Rattle.std.proofs.lemmas.Bool.Decides.{nat_tests}
use Rattle.std.proofs.lemmas.List.Elements.{All-nil, All-cons, All-head, All-tail, All-append}
use Rattle.xsk_umem.specs.Geometry.{Geometry, IsGeometry, data_of}
use Rattle.xsk_umem.specs.declared.batch.Item.{Item}
use Rattle.xsk_model.specs.Descriptor.{is_valid, is_inside, has_bytes, fits_chunk, has_known_options, body_of, payload}
use Rattle.xsk_model.specs.Packets.{HoldPieces, IsLayout, IsWhole, IsPacket, Packet, whole, bad, packets, rest, items_of, whole_packets, bytes_of}
use Rattle.xsk_model.proofs.PacketsLaws.{packets-items, packets-made}
use Rattle.xsk_turns.specs.AppLaw.{IsAltered, AreAltered}
use Rattle.xsk_turns.specs.Law.{AreLayouts, IsLaidOut}
use Rattle.xsk_turns.specs.Mangling.{made_of}
use Rattle.xsk_turns.proofs.Mangling.{outside_umem}
use Rattle.xsk_turns.specs.declared.manner.Change.{Change}
use Rattle.xsk_turns.specs.declared.manner.Change.TheVariants.{NoBytes, WholeChunk, UnknownOption, Outside, GoesOn}
use Rattle.xsk_turns.specs.Totals.{total}
use Rattle.xsk_turns.proofs.Totals.{total-append}

-- an item that was laid out stands behind the headroom of its chunk
pub record IsPiece (g : Geometry) (item : Item) : Type 0 where
  pub number : ℕ
  pub address : item.desc.addr ≡ data_of g number

-- a measure of packets: a whole packet of altered items has no more of it than its items together, each of these no more than
-- the item that was laid out in its place, and a layout no more than its packet
pub record IsMeasured (f : List ℕ → ℕ) : Type 0 where
  pub sent : Geometry → Bool → Item → ℕ
  pub was : Item → ℕ
  pub wholes : (g : Geometry) (sg : Bool) (items : List Item) → IsWhole g sg items → f (bytes_of g sg items) ≤ total (sent g sg) items
  pub each : (g : Geometry) (sg : Bool) (mangle : Option ℕ) (before after : Item) → IsGeometry g → IsPiece g before → IsAltered g mangle before after → sent g sg after ≤ was before
  pub layout : (g : Geometry) (sg : Bool) (packet : List ℕ) (items : List Item) → IsLayout g sg packet items → total was items ≤ f packet

-- ---- which changes leave an item valid

-- no chunk holds as many bytes as it has behind its headroom
past_chunk : (g : Geometry) (item : Item) → IsGeometry g → IsPiece g item → nat_le (item.desc.addr % g.chunk + g.chunk) g.chunk ≡ false
past_chunk g item lawful piece =
    let at : data_of g piece.number % g.chunk ≡ g.headroom + 256 =
    ap (λ n. n % g.chunk) (sum piece.number g.chunk g.headroom) ∙ mod-mul-add piece.number g.chunk (g.headroom + 256) (omega (arith, lawful.headroom)) in
    let here : item.desc.addr % g.chunk ≡ g.headroom + 256 = ap (λ n. n % g.chunk) piece.address ∙ at in
    grind (arith, nat_tests, here)
  where
    sum : (n chunk headroom : ℕ) → n * chunk + headroom + 256 ≡ n * chunk + (headroom + 256)
    sum n chunk headroom = omega arith

no_bytes : (g : Geometry) (sg : Bool) (item : Item) → is_valid g sg (made_of g NoBytes item).desc ≡ false
no_bytes g sg item =
    let desc = (made_of g NoBytes item).desc in
    ap (λ b. (b && fits_chunk g desc) && has_known_options sg desc) (and-false (is_inside g desc))

whole_chunk : (g : Geometry) (sg : Bool) (item : Item) → IsGeometry g → IsPiece g item → is_valid g sg (made_of g WholeChunk item).desc ≡ false
whole_chunk g sg item lawful piece =
    let desc = (made_of g WholeChunk item).desc in
    ap (λ b. ((is_inside g desc && has_bytes desc) && b) && has_known_options sg desc) (past_chunk g item lawful piece)
    ∙ ap (λ b. b && has_known_options sg desc) (and-false (is_inside g desc && has_bytes desc))

unknown_option : (g : Geometry) (sg : Bool) (item : Item) → is_valid g sg (made_of g UnknownOption item).desc ≡ false
unknown_option g sg item =
    let desc = (made_of g UnknownOption item).desc in
    ap (λ b. ((is_inside g desc && has_bytes desc) && fits_chunk g desc) && b) (and-false sg) ∙ and-false ((is_inside g desc && has_bytes desc) && fits_chunk g desc)

outside : (g : Geometry) (sg : Bool) (item : Item) → IsGeometry g → is_valid g sg (made_of g Outside item).desc ≡ false
outside g sg item lawful =
    let desc = (made_of g Outside item).desc in
    ap (λ b. ((b && has_bytes desc) && fits_chunk g desc) && has_known_options sg desc) (outside_umem g item.desc.addr lawful)

-- ---- packets

abbrev ends_packet : Geometry → Bool → Item → ℕ
ends_packet g sg item = cond (is_valid g sg item.desc && eqb item.desc.options 0) 1 0

none_ends : (valid last : Bool) → valid ≡ false → ◌≡◌ {A = ℕ} (cond (valid && last) 1 0) 0
none_ends valid last e = ap {B = ℕ} (λ b. cond (b && last) 1 0) e

few_end : (valid last : Bool) → cond (valid && last) 1 0 ≤ cond last 1 0
few_end true last = omega arith
few_end false true = omega arith
few_end false false = omega arith

changed_ends : (g : Geometry) (sg : Bool) (change : Change) (item : Item) → IsGeometry g → IsPiece g item → ends_packet g sg (made_of g change item) ≡ 0
changed_ends g sg NoBytes item lawful piece = none_ends _ _ (no_bytes g sg item)
changed_ends g sg WholeChunk item lawful piece = none_ends _ _ (whole_chunk g sg item lawful piece)
changed_ends g sg UnknownOption item lawful piece = none_ends _ _ (unknown_option g sg item)
changed_ends g sg Outside item lawful piece = none_ends _ _ (outside g sg item lawful)
changed_ends g sg GoesOn item lawful piece = ap {B = ℕ} (λ b. cond b 1 0) (and-false (is_valid g sg (made_of g GoesOn item).desc))

-- an item ends a packet only where the one that was laid out in its place did
ends_before : (g : Geometry) (sg : Bool) (mangle : Option ℕ) (before after : Item) → IsGeometry g → IsPiece g before → IsAltered g mangle before after
    → ends_packet g sg after ≤ cond (eqb before.desc.options 0) 1 0
ends_before g sg None before after lawful piece e = subst (λ x. ends_packet g sg x ≤ cond (eqb before.desc.options 0) 1 0) (sym e) (few_end (is_valid g sg before.desc) (eqb before.desc.options 0))
ends_before g sg (Some every) before after lawful piece e = ⊎_elim
    (λ (same : after ≡ before). subst (λ x. ends_packet g sg x ≤ cond (eqb before.desc.options 0) 1 0) (sym same) (few_end (is_valid g sg before.desc) (eqb before.desc.options 0)))
    (λ (made : (change : Change) × (after ≡ made_of g change before)).
    let none = changed_ends g sg made.0 before lawful piece in
    subst (λ x. ends_packet g sg x ≤ cond (eqb before.desc.options 0) 1 0) (sym made.1) (omega (arith, none)))
    e

whole_ends : (g : Geometry) (sg : Bool) (items : List Item) → IsWhole g sg items → 1 ≤ total (ends_packet g sg) items
whole_ends g sg items h =
    let last : ends_packet g sg h.last ≡ 1 = ap {B = ℕ} (λ b. cond (b && eqb h.last.desc.options 0) 1 0) h.valid ∙ ap {B = ℕ} (λ b. cond b 1 0) (eq-eqb h.last.desc.options 0 h.bit) in
    omega (arith, last, ap (total (ends_packet g sg)) h.is, total-append (ends_packet g sg) h.front (h.last ∷ []))

abbrev was_last : Item → ℕ
was_last item = cond (eqb item.desc.options 0) 1 0

layout_ends : (g : Geometry) (items : List Item) (pieces : List (List ℕ)) → HoldPieces g items pieces → total was_last items ≤ 1
layout_ends g [] [] h = omega arith
layout_ends g [] (piece ∷ pieces) h = absurd h
layout_ends g (item ∷ items) [] h = absurd h
layout_ends g (item ∷ []) (piece ∷ []) h = omega (arith, one (eqb item.desc.options 0))
  where
    one : (b : Bool) → cond b 1 0 ≤ 1
    one true = omega arith
    one false = omega arith
layout_ends g (item ∷ next ∷ items) (piece ∷ []) h = absurd h.1
layout_ends g (item ∷ items) (piece ∷ more ∷ pieces) h =
    let on : was_last item ≡ 0 = ap was_last h.0.is in
    omega (arith, on, layout_ends g items (more ∷ pieces) h.1)

pub counts : IsMeasured (λ _. 1)
counts = record {
  sent = ends_packet;
  was = was_last;
  wholes = whole_ends;
  each = ends_before;
  layout = λ g sg packet items h. layout_ends g items h.pieces h.held;
}

-- ---- bytes

payload_few : (g : Geometry) (sg : Bool) (item : Item) → length (payload g sg item) ≤ item.desc.len
payload_few g sg item = by (is_valid g sg item.desc)
  where
    by : (b : Bool) → length (cond b (take item.desc.len (drop (item.desc.addr % g.chunk) (body_of item.frame))) []) ≤ item.desc.len
    by true = omega (arith, length-take item.desc.len (drop (item.desc.addr % g.chunk) (body_of item.frame)))
    by false = omega arith

changed_bytes : (g : Geometry) (sg : Bool) (change : Change) (item : Item) → IsGeometry g → IsPiece g item → length (payload g sg (made_of g change item)) ≤ item.desc.len
changed_bytes g sg NoBytes item lawful piece = let few = payload_few g sg (made_of g NoBytes item) in omega (arith, few)
changed_bytes g sg WholeChunk item lawful piece =
    let y = made_of g WholeChunk item in
    let none = ap (λ b. length (cond b (take y.desc.len (drop (y.desc.addr % g.chunk) (body_of y.frame))) [])) (whole_chunk g sg item lawful piece) in
    omega (arith, none)
changed_bytes g sg UnknownOption item lawful piece = payload_few g sg (made_of g UnknownOption item)
changed_bytes g sg Outside item lawful piece = payload_few g sg (made_of g Outside item)
changed_bytes g sg GoesOn item lawful piece = payload_few g sg (made_of g GoesOn item)

bytes_before : (g : Geometry) (sg : Bool) (mangle : Option ℕ) (before after : Item) → IsGeometry g → IsPiece g before → IsAltered g mangle before after → length (payload g sg after) ≤ before.desc.len
bytes_before g sg None before after lawful piece e = subst (λ x. length (payload g sg x) ≤ before.desc.len) (sym e) (payload_few g sg before)
bytes_before g sg (Some every) before after lawful piece e = ⊎_elim
    (λ (same : after ≡ before). subst (λ x. length (payload g sg x) ≤ before.desc.len) (sym same) (payload_few g sg before))
    (λ (made : (change : Change) × (after ≡ made_of g change before)). subst (λ x. length (payload g sg x) ≤ before.desc.len) (sym made.1) (changed_bytes g sg made.0 before lawful piece))
    e

all_bytes : (g : Geometry) (sg : Bool) (items : List Item) → length (bytes_of g sg items) ≤ total (λ (x : Item). length (payload g sg x)) items
all_bytes g sg [] = omega arith
all_bytes g sg (item ∷ items) = omega (arith, all_bytes g sg items, length-append (payload g sg item) (bytes_of g sg items))

layout_bytes : (g : Geometry) (items : List Item) (pieces : List (List ℕ)) → HoldPieces g items pieces → total (λ (x : Item). x.desc.len) items ≡ length (concat pieces)
layout_bytes g [] [] h = refl
layout_bytes g [] (piece ∷ pieces) h = absurd h
layout_bytes g (item ∷ items) [] h = absurd h
layout_bytes g (item ∷ items) (piece ∷ pieces) h =
    omega (arith, layout_bytes g items pieces h.1, ap (λ (x : Item). x.desc.len) h.0.is, length-append piece (concat pieces))

pub sizes : IsMeasured (λ (x : List ℕ). length x)
sizes = record {
  sent = λ g sg item. length (payload g sg item);
  was = λ item. item.desc.len;
  wholes = λ g sg items h. all_bytes g sg items;
  each = bytes_before;
  layout = λ g sg packet items h. let bytes = layout_bytes g items h.pieces h.held in omega (arith, bytes, ap length h.cut.joined);
}

-- ---- all items

held_pieces : (g : Geometry) (items : List Item) (pieces : List (List ℕ)) → HoldPieces g items pieces → All (IsPiece g) items
held_pieces g [] [] h = All-nil (IsPiece g)
held_pieces g [] (piece ∷ pieces) h = absurd h
held_pieces g (item ∷ items) [] h = absurd h
held_pieces g (item ∷ items) (piece ∷ pieces) h =
    All-cons (IsPiece g) item items (record { number = h.0.frame.number; address = ap (λ (x : Item). x.desc.addr) h.0.is }) (held_pieces g items pieces h.1)

module _ (g : Geometry) (sg : Bool) (mangle : Option ℕ) (lawful : IsGeometry g) (f : List ℕ → ℕ) (m : IsMeasured f) where
  all_wholes : (ps : List Packet) → All (IsPacket g sg) ps → total f (map (bytes_of g sg) (whole_packets ps)) ≤ total (m.sent g sg) (flat_map items_of ps)
  all_wholes [] h = omega arith
  all_wholes (whole items ∷ ps) h =
      omega (
        arith,
        m.wholes g sg items (All-head (IsPacket g sg) (whole items) ps h),
        all_wholes ps (All-tail (IsPacket g sg) (whole items) ps h),
        total-append (m.sent g sg) items (flat_map items_of ps),
      )
  all_wholes (bad items ∷ ps) h = omega (arith, all_wholes ps (All-tail (IsPacket g sg) (bad items) ps h), total-append (m.sent g sg) items (flat_map items_of ps))

  all_altered : (befores afters : List Item) → All (IsPiece g) befores → AreAltered g mangle befores afters → total (m.sent g sg) afters ≤ total m.was befores
  all_altered [] [] pieces h = omega arith
  all_altered [] (after ∷ afters) pieces h = absurd h
  all_altered (before ∷ befores) [] pieces h = absurd h
  all_altered (before ∷ befores) (after ∷ afters) pieces h =
      omega (
        arith,
        m.each g sg mangle before after lawful (All-head (IsPiece g) before befores pieces) h.0,
        all_altered befores afters (All-tail (IsPiece g) before befores pieces) h.1,
      )

  all_layouts : (ps : List (List ℕ)) (layouts : List (List Item)) → AreLayouts g sg ps layouts
      → All (IsPiece g) (flat_map (λ (layout : List Item). layout) layouts) × (total m.was (flat_map (λ (layout : List Item). layout) layouts) ≤ total f ps)
  all_layouts [] [] h = (All-nil (IsPiece g), omega arith)
  all_layouts [] (layout ∷ layouts) h = absurd h
  all_layouts (p ∷ ps) [] h = absurd h
  all_layouts (p ∷ ps) (layout ∷ layouts) h =
      let later = all_layouts ps layouts h.1 in
      let items : List Item = flat_map (λ (layout : List Item). layout) layouts in (
        All-append (IsPiece g) layout items (held_pieces g layout h.0.pieces h.0.held) later.0,
        omega (arith, later.1, m.layout g sg p layout h.0, total-append m.was layout items),
      )

pub altered_few : (g : Geometry) (sg : Bool) (mangle : Option ℕ) → IsGeometry g → (f : List ℕ → ℕ) → IsMeasured f → (ps : List (List ℕ)) (befores afters : List Item) → IsLaidOut g sg ps befores
    → AreAltered g mangle befores afters → total f (map (bytes_of g sg) (whole_packets (packets g sg afters))) ≤ total f ps
altered_few g sg mangle lawful f m ps befores afters laid altered =
    let ws = packets g sg afters in
    let all = all_layouts g sg mangle lawful f m ps laid.0 laid.2 in
    let pieces = subst (All (IsPiece g)) (sym laid.1) all.0 in
    let whole = all_wholes g sg mangle lawful f m ws (packets-made g sg afters).0 in
    let sent = total-append (m.sent g sg) (flat_map items_of ws) (rest g sg afters) in
    omega (
      arith,
      whole,
      sent,
      ap (total (m.sent g sg)) (packets-items g sg afters),
      all_altered g sg mangle lawful f m befores afters pieces altered,
      ap (total m.was) laid.1,
      all.1,
    )
