-- What a driver submits on RX may come there by the rule of copy mode: each entry is valid and laid at its frame's data, in a frame from
-- FILL of the socket's own pair.
use Rattle.std.proofs.Common.{◌≡◌, ℕ, suc, ◌+◌, ◌*◌, ◌/◌, ◌%◌, ◌<◌, ◌≤◌, ◌⊎◌, inl, inr, true, ◌&&◌, ◌||◌, nat_eq, Option, Some, List, [], ◌∷◌, length, get_or, flat_map, All, refl, sym, ap, ◌∙◌, subst, arith, add_assoc, lt-ltb, le-leb, ne_eqb, eq-eqb}
use Rattle.std.specs.Prelude.{IsTrue}
use Rattle.std.proofs.lemmas.Bool.{and_from, and_parts, or_left, or_right, not_from_false}
use Rattle.std.proofs.lemmas.Nat.{div-mul-add, mod-mul-add}
use Rattle.std.proofs.lemmas.List.Elements.{All-nil, All-cons, All-head, All-tail, All-append, All-map}
use Rattle.std.proofs.Math.Nat.{mul-le-mul_right}
use Rattle.xsk_umem.specs.Geometry.{IsGeometry, area_of, payload_of, data_of}
use Rattle.xsk_umem.specs.declared.batch.Item.{Item}
use Rattle.xsk_umem.specs.declared.batch.XdpDesc.{XdpDesc}
use Rattle.xsk_model.specs.Config.{Config}
use Rattle.xsk_model.specs.Numbers.{times, numbers}
use Rattle.xsk_model.specs.Descriptor.{is_valid, is_inside, has_bytes, fits_chunk, has_known_options}
use Rattle.xsk_model.specs.Packets.{HavePieceLengths, HoldsPiece, HoldPieces, IsLayout}
use Rattle.xsk_model.specs.Entry.{Told}
use Rattle.xsk_model.specs.Legal.{IsItemOn, AreReceived}
use Rattle.xsk_model.specs.declared.call.Ring.{Ring}
use Rattle.xsk_model.specs.declared.call.Ring.TheVariants.{Fill, Rx}
use Rattle.xsk_side.specs.Setting.{pair_of}
use Rattle.xsk_side.specs.Entries.{frame, is_laid, is_received}
use Rattle.xsk_side.specs.Legal.{IsReceived}
use Rattle.xsk_side.proofs.Lists.{times-some}
use Rattle.xsk_sides.specs.Sides.{entries, desc_in, setting_of}
use Rattle.xsk_sides.proofs.Items.{same_times}

abbrev MayBe : Config → XdpDesc → Type 0
MayBe c desc = is_received (setting_of c) desc ≡ true

-- the options of an item of a layout
abbrev GoesOn : Config → ℕ → ℕ → Type 0
GoesOn c len options = (options ≡ 0) ⊎ (IsTrue c.sg × (options ≡ 1) × (len ≡ payload_of c.geometry))

module _ (c : Config) (lawful : IsGeometry c.geometry) where
  abbrev at_data : ℕ → ℕ
  at_data n = data_of c.geometry n

  data-frame : (n : ℕ) → at_data n / c.geometry.chunk ≡ n
  data-frame n =
      let within : c.geometry.headroom + 256 < c.geometry.chunk = omega (arith, lawful.headroom) in
      ap (λ k. k / c.geometry.chunk) (add_assoc (n * c.geometry.chunk) c.geometry.headroom 256) ∙ div-mul-add n c.geometry.chunk (c.geometry.headroom + 256) within

  data-mod : (n : ℕ) → at_data n % c.geometry.chunk ≡ c.geometry.headroom + 256
  data-mod n =
      let within : c.geometry.headroom + 256 < c.geometry.chunk = omega (arith, lawful.headroom) in
      ap (λ k. k % c.geometry.chunk) (add_assoc (n * c.geometry.chunk) c.geometry.headroom 256) ∙ mod-mul-add n c.geometry.chunk (c.geometry.headroom + 256) within

  data-inside : (n : ℕ) → n < c.geometry.frames → at_data n < area_of c.geometry
  data-inside n known =
      let rows : suc n * c.geometry.chunk ≤ c.geometry.frames * c.geometry.chunk = mul-le-mul_right c.geometry.chunk known in
      let next : suc n * c.geometry.chunk ≡ n * c.geometry.chunk + c.geometry.chunk = grind arith in
      omega (arith, lawful.headroom, rows, next)

  known_options : (len options : ℕ) → GoesOn c len options → (nat_eq options 0 || (c.sg && nat_eq options 1)) ≡ true
  known_options len options (inl none) = or_left (nat_eq options 0) (c.sg && nat_eq options 1) (eq-eqb options 0 none)
  known_options len options (inr bit) = or_right (nat_eq options 0) (c.sg && nat_eq options 1) (and_from c.sg (nat_eq options 1) bit.0 (eq-eqb options 1 bit.1))

  full : (len options : ℕ) → GoesOn c len options → (nat_eq options 0 || nat_eq len (payload_of c.geometry)) ≡ true
  full len options (inl none) = or_left (nat_eq options 0) (nat_eq len (payload_of c.geometry)) (eq-eqb options 0 none)
  full len options (inr bit) = or_right (nat_eq options 0) (nat_eq len (payload_of c.geometry)) (eq-eqb len (payload_of c.geometry) bit.2)

  laid_entry : (n len options : ℕ) → n < c.geometry.frames → 1 ≤ len → len ≤ payload_of c.geometry → GoesOn c len options
      → MayBe c (record { addr = at_data n; len = len; options = options })
  laid_entry n len options known some most option =
      let desc : XdpDesc = record { addr = at_data n; len = len; options = options } in
      let inside : is_inside c.geometry desc ≡ true = lt-ltb (at_data n) (area_of c.geometry) (data-inside n known) in
      let bytes : has_bytes desc ≡ true = not_from_false (nat_eq len 0) (ne_eqb len 0 (λ e. omega (arith, e, some))) in
      let sum : at_data n % c.geometry.chunk + len ≤ c.geometry.chunk = omega (arith, data-mod n, lawful.headroom, most) in
      let fits : fits_chunk c.geometry desc ≡ true = le-leb (at_data n % c.geometry.chunk + len) c.geometry.chunk sum in
      let two = and_from (is_inside c.geometry desc) (has_bytes desc) inside bytes in
      let three = and_from (is_inside c.geometry desc && has_bytes desc) (fits_chunk c.geometry desc) two fits in
      let valid : is_valid c.geometry c.sg desc ≡ true =
      and_from (is_inside c.geometry desc && has_bytes desc && fits_chunk c.geometry desc) (has_known_options c.sg desc) three (known_options len options option) in
      let there : nat_eq (at_data n) (at_data (at_data n / c.geometry.chunk)) ≡ true =
      eq-eqb (at_data n) (at_data (at_data n / c.geometry.chunk)) (ap at_data (sym (data-frame n))) in
      let laid : is_laid (setting_of c) desc ≡ true =
      and_from (nat_eq (at_data n) (at_data (at_data n / c.geometry.chunk))) (nat_eq options 0 || nat_eq len (payload_of c.geometry)) there (full len options option) in
      and_from (is_valid c.geometry c.sg desc) (is_laid (setting_of c) desc) valid laid

  laid_item : (item : Item) (piece : List ℕ) (options : ℕ) → HoldsPiece c.geometry item piece options → 1 ≤ length piece → length piece ≤ payload_of c.geometry
      → GoesOn c (length piece) options → MayBe c item.desc
  laid_item item piece options h some most option =
      subst (λ (i : Item). MayBe c i.desc) (sym h.is) (laid_entry h.frame.number (length piece) options h.in_umem some most option)

  abbrev ItemMayBe : Item → Type 0
  ItemMayBe item = MayBe c item.desc

  laid_items : (items : List Item) (pieces : List (List ℕ)) → HavePieceLengths (payload_of c.geometry) pieces → HoldPieces c.geometry items pieces
      → IsTrue c.sg ⊎ (length items ≡ 1) → All ItemMayBe items
  laid_items items [] k h single = absurd k
  laid_items [] (piece ∷ pieces) k h single = absurd h
  laid_items (item ∷ []) (piece ∷ []) k h single = All-cons ItemMayBe item [] (laid_item item piece 0 h.0 k.0 k.1 (inl refl)) (All-nil ItemMayBe)
  laid_items (item ∷ next ∷ items) (piece ∷ []) k h single = absurd h.1
  laid_items (item ∷ []) (piece ∷ other ∷ pieces) k h single = absurd h.1
  laid_items (item ∷ next ∷ items) (piece ∷ other ∷ pieces) k h (inl scattered) =
      let some : 1 ≤ length piece = omega (arith, k.0, lawful.headroom) in
      let most : length piece ≤ payload_of c.geometry = omega (arith, k.0) in
      All-cons ItemMayBe item (next ∷ items) (laid_item item piece 1 h.0 some most (inr (scattered, refl, k.0)))
      (laid_items (next ∷ items) (other ∷ pieces) k.1 h.1 (inl scattered))
  laid_items (item ∷ next ∷ items) (piece ∷ other ∷ pieces) k h (inr one) = absurd (omega (arith, one))

  abbrev IsLayoutOf : List Item → Type 0
  IsLayoutOf layout = (packet : List ℕ) × IsLayout c.geometry c.sg packet layout

  laid_layouts : (layouts : List (List Item)) → All IsLayoutOf layouts → All ItemMayBe (flat_map (λ (layout : List Item). layout) layouts)
  laid_layouts [] all = All-nil ItemMayBe
  laid_layouts (layout ∷ layouts) all =
      let first : IsLayoutOf layout = All-head IsLayoutOf layout layouts all in
      All-append ItemMayBe layout (flat_map (λ (x : List Item). x) layouts)
      (laid_items layout first.1.pieces first.1.cut.lengths first.1.held first.1.single)
      (laid_layouts layouts (All-tail IsLayoutOf layout layouts all))

  pub may_come_on_rx : (k : ℕ) (items : List Item) (mine : List Told) (from : ℕ → Option Ring) → AreReceived c mine items → All (IsItemOn c.geometry (Rx k)) items
      → ((f : ℕ) → 1 ≤ times f (numbers items) → from f ≡ Some (Fill (pair_of (setting_of c) (Rx k))))
      → All (IsReceived (setting_of c) from k) (entries items)
  may_come_on_rx k items mine from received on filled = λ i d low.
      let e : XdpDesc = get_or (entries items) i d in
      let all : All (MayBe c) (entries items) =
      All-map (MayBe c) desc_in items (subst (λ (l : List Item). All ItemMayBe l) (sym received.joined) (laid_layouts received.layouts received.laid_out)) in
      let may : MayBe c e = all i d low in
      let four = (and_parts (is_valid c.geometry c.sg e) (is_laid (setting_of c) e) may).0 in
      let three = (and_parts (is_inside c.geometry e && has_bytes e && fits_chunk c.geometry e) (has_known_options c.sg e) four).0 in
      let two = (and_parts (is_inside c.geometry e && has_bytes e) (fits_chunk c.geometry e) three).0 in
      let inside : is_inside c.geometry e ≡ true = (and_parts (is_inside c.geometry e) (has_bytes e) two).0 in
      let some : 1 ≤ times (frame (setting_of c) e) (numbers items) =
      subst (λ n. 1 ≤ n) (same_times c (Rx k) (frame (setting_of c) e) items on) (times-some (setting_of c) (entries items) i d low inside) in
      record {
        lawful = may;
        pair = pair_of (setting_of c) (Rx k);
        filled = filled (frame (setting_of c) e) some;
        feeds = λ own. refl;
      }
