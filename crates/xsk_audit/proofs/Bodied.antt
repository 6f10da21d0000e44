-- A legal call stays legal where its frames have other bytes, as many.
use Rattle.std.proofs.Common.{◌≡◌, ℕ, ◌≤◌, ◌<◌, ◌^◌, ◌⊎◌, Bool, Option, Some, None, List, [], ◌∷◌, ◌++◌, length, map, take, drop, All, flat_map, refl, sym, ap, subst, ◌∙◌}
use Rattle.std.specs.Prelude.{IfSome, IsTrue}
use Rattle.std.specs.Option.{option_map}
use Rattle.std.proofs.lemmas.List.{length-map, map-append, take-map, drop-map, take-append-drop}
use Rattle.std.proofs.lemmas.List.Elements.{All-nil, All-cons, All-head, All-tail, All-take, All-drop}
use Rattle.std.proofs.Math.Seq.{take-append_seam, drop-append_seam}
use Rattle.xsk_umem.specs.Frame.{Frame}
use Rattle.xsk_umem.specs.Geometry.{Geometry, IsGeometry, data_of, frame_of}
use Rattle.xsk_umem.specs.declared.batch.Item.{Item}
use Rattle.xsk_umem.specs.declared.batch.XdpDesc.{XdpDesc}
use Rattle.xsk_model.specs.Config.{Config}
use Rattle.xsk_model.specs.Numbers.{times, numbers}
use Rattle.xsk_model.specs.Packets.{IsLayout}
use Rattle.xsk_model.specs.Object.{submitted}
use Rattle.xsk_model.specs.Entry.{Told}
use Rattle.xsk_model.specs.Own.{room_of, had_of}
use Rattle.xsk_model.specs.Legal.{IsPlainOn, IsItemOn, AreReceived, AreCompleted, ArePackets, IsLegal}
use Rattle.xsk_model.specs.OtherWords.{bare_frame, bare_item, bare_call, NamesItsData, HaveLayoutLengths, IsShaped}
use Rattle.xsk_model.specs.declared.call.Ring.{Ring}
use Rattle.xsk_model.specs.declared.call.Ring.TheVariants.{Fill, Comp, Rx, Tx}
use Rattle.xsk_model.specs.declared.call.Call.{Call}
use Rattle.xsk_model.specs.declared.call.Call.TheVariants.{Reserve, Submit, Peek, Release, Swap, Look}
use Rattle.xsk_model.proofs.Shapes.{layout_shape, shape_layout}
use Rattle.xsk_model.proofs.Bodies.{bare_items, numbers-bare}

abbrev pub descs : List Item → List XdpDesc
descs items = map (λ (i : Item). i.desc) items

-- an item has the frame of its address, whole
abbrev pub HasItsFrame : Geometry → Item → Type 0
HasItsFrame g item = (option_map (λ (f : Frame). f.number) item.frame ≡ frame_of g item.desc.addr) × IfSome item.frame (λ (f : Frame). length f.bytes ≡ g.chunk)

module _ (g : Geometry) where
  -- ---- an item is its descriptor, but for bytes

  abbrev numbered : ℕ → Frame
  numbered n = record { number = n; bytes = [] }

  abbrev named : XdpDesc → Item
  named d = record { frame = option_map numbered (frame_of g d.addr); desc = d }

  bare_by_number : (frame : Option Frame) → option_map bare_frame frame ≡ option_map numbered (option_map (λ (f : Frame). f.number) frame)
  bare_by_number None = refl
  bare_by_number (Some f) = refl

  item-named : (item : Item) → option_map (λ (f : Frame). f.number) item.frame ≡ frame_of g item.desc.addr → bare_item item ≡ named item.desc
  item-named item is = ap (λ (frame : Option Frame). record { frame = frame; desc = item.desc }) (bare_by_number item.frame ∙ ap (option_map numbered) is)

  pub items-named : (items : List Item) → All (HasItsFrame g) items → bare_items items ≡ map named (descs items)
  items-named [] all = refl
  items-named (item ∷ items) all =
      (λ i. item-named item (All-head (HasItsFrame g) item items all).0 i ∷ items-named items (All-tail (HasItsFrame g) item items all) i)

  pub its-frame : (r : Ring) (items : List Item) → All (IsItemOn g r) items → All (HasItsFrame g) items
  its-frame r [] all = All-nil (HasItsFrame g)
  its-frame r (item ∷ items) all =
      let one = All-head (IsItemOn g r) item items all in
      All-cons (HasItsFrame g) item items (one.frame, one.body) (its-frame r items (All-tail (IsItemOn g r) item items all))

  pub same-bare : (items xs : List Item) → descs xs ≡ descs items → All (HasItsFrame g) items → All (HasItsFrame g) xs → bare_items xs ≡ bare_items items
  same-bare items xs same are too = items-named xs too ∙ ap (map named) same ∙ sym (items-named items are)

  abbrev IsBodied : Item → Type 0
  IsBodied i = IfSome i.frame (λ (f : Frame). length f.bytes ≡ g.chunk)

  whole-body : (items : List Item) → All (HasItsFrame g) items → All IsBodied items
  whole-body [] all = All-nil IsBodied
  whole-body (item ∷ items) all = All-cons IsBodied item items (All-head (HasItsFrame g) item items all).1 (whole-body items (All-tail (HasItsFrame g) item items all))

  lawful-again : (r : Ring) (items xs : List Item) → descs xs ≡ descs items → All (IsItemOn g r) items → All (HasItsFrame g) xs → All (IsItemOn g r) xs
  lawful-again r items [] same all has = All-nil (IsItemOn g r)
  lawful-again r [] (x ∷ xs) same all has = absurd (cc)
  lawful-again r (item ∷ items) (x ∷ xs) same all has =
      let d : item.desc ≡ x.desc = cc in
      let more : descs xs ≡ descs items = cc in
      let one = All-head (IsItemOn g r) item items all in
      let its = All-head (HasItsFrame g) x xs has in
      All-cons (IsItemOn g r) x xs (record {
        address = subst (λ (y : XdpDesc). y.addr < 2 ^ 64) d one.address;
        len = subst (λ (y : XdpDesc). y.len < 2 ^ 32) d one.len;
        options = subst (λ (y : XdpDesc). y.options < 2 ^ 32) d one.options;
        frame = its.0;
        body = its.1;
        plain = subst (IsPlainOn r) d one.plain;
      }) (lawful-again r items xs more (All-tail (IsItemOn g r) item items all) (All-tail (HasItsFrame g) x xs has))

  -- ---- shapes

  some_frame : (item : Item) (f : Frame) → option_map bare_frame item.frame ≡ Some f → (frame : Frame) × (item.frame ≡ Some frame) × (bare_frame frame ≡ f)
  some_frame item f is = by item.frame is
    where
      by : (o : Option Frame) → option_map bare_frame o ≡ Some f → (frame : Frame) × (o ≡ Some frame) × (bare_frame frame ≡ f)
      by None is = absurd (cc)
      by (Some frame) is = (frame, refl, cc)

  names-again : (item x : Item) → bare_item item ≡ bare_item x → NamesItsData g item → NamesItsData g x
  names-again item x same h =
      let d : item.desc ≡ x.desc = ap (λ (i : Item). i.desc) same in
      let o : option_map bare_frame x.frame ≡ Some (bare_frame h.0) = sym (ap (λ (i : Item). i.frame) same) ∙ ap (option_map bare_frame) h.1 in
      let f = some_frame x (bare_frame h.0) o in
      let n : f.0.number ≡ h.0.number = ap (λ (y : Frame). y.number) f.2 in
      (f.0, f.1, subst (λ m. m < g.frames) (sym n) h.2, ap (λ (y : XdpDesc). y.addr) (sym d) ∙ h.3 ∙ ap (data_of g) (sym n))

  all-names : (items xs : List Item) → bare_items items ≡ bare_items xs → All (NamesItsData g) items → All (NamesItsData g) xs
  all-names items [] same all = All-nil (NamesItsData g)
  all-names [] (x ∷ xs) same all = absurd (cc)
  all-names (item ∷ items) (x ∷ xs) same all =
      let one : bare_item item ≡ bare_item x = cc in
      let more : bare_items items ≡ bare_items xs = cc in
      All-cons (NamesItsData g) x xs (names-again item x one (All-head (NamesItsData g) item items all)) (all-names items xs more (All-tail (NamesItsData g) item items all))

  lengths-again : (items xs : List Item) → bare_items items ≡ bare_items xs → HaveLayoutLengths g items → HaveLayoutLengths g xs
  lengths-again items xs same h = bare-lengths xs (subst (HaveLayoutLengths g) same (lengths-bare items h))
    where
      lengths-bare : (items : List Item) → HaveLayoutLengths g items → HaveLayoutLengths g (bare_items items)
      lengths-bare [] h = h
      lengths-bare (item ∷ []) h = h
      lengths-bare (item ∷ next ∷ items) h = (h.0, h.1, lengths-bare (next ∷ items) h.2)

      bare-lengths : (items : List Item) → HaveLayoutLengths g (bare_items items) → HaveLayoutLengths g items
      bare-lengths [] h = h
      bare-lengths (item ∷ []) h = h
      bare-lengths (item ∷ next ∷ items) h = (h.0, h.1, bare-lengths (next ∷ items) h.2)

  same-length : (items xs : List Item) → bare_items items ≡ bare_items xs → length items ≡ length xs
  same-length items xs same = sym (length-map items bare_item) ∙ ap length same ∙ length-map xs bare_item

  shape-again : (sg : Bool) (items xs : List Item) → bare_items items ≡ bare_items xs → IsShaped g sg items → IsShaped g sg xs
  shape-again sg items xs same h = record {
    named = all-names items xs same h.named;
    lengths = lengths-again items xs same h.lengths;
    single = subst (λ n. IsTrue sg ⊎ (n ≡ 1)) (same-length items xs same) h.single;
  }

  -- ---- layouts, cut again

  abbrev recut : List (List Item) → List Item → List (List Item)
  recut [] xs = []
  recut (layout ∷ layouts) xs = take (length layout) xs ∷ recut layouts (drop (length layout) xs)

  abbrev joined : List (List Item) → List Item
  joined layouts = flat_map (λ (layout : List Item). layout) layouts

  first-bare : (layout more xs : List Item) → bare_items (layout ++ more) ≡ bare_items xs → bare_items layout ≡ bare_items (take (length layout) xs)
  first-bare layout more xs same =
      sym (take-append_seam (bare_items layout) (bare_items more))
      ∙ ap (λ n. take n (bare_items layout ++ bare_items more)) (length-map layout bare_item)
      ∙ ap (take (length layout)) (sym (map-append bare_item layout more) ∙ same)
      ∙ take-map bare_item (length layout) xs

  later-bare : (layout more xs : List Item) → bare_items (layout ++ more) ≡ bare_items xs → bare_items more ≡ bare_items (drop (length layout) xs)
  later-bare layout more xs same =
      sym (drop-append_seam (bare_items layout) (bare_items more))
      ∙ ap (λ n. drop n (bare_items layout ++ bare_items more)) (length-map layout bare_item)
      ∙ ap (drop (length layout)) (sym (map-append bare_item layout more) ∙ same)
      ∙ drop-map bare_item (length layout) xs

  none-left : (xs : List Item) → [] ≡ bare_items xs → [] ≡ xs
  none-left [] same = refl
  none-left (x ∷ xs) same = absurd (cc)

  recut-joined : (layouts : List (List Item)) (xs : List Item) → bare_items (joined layouts) ≡ bare_items xs → joined (recut layouts xs) ≡ xs
  recut-joined [] xs same = none-left xs same
  recut-joined (layout ∷ layouts) xs same =
      ap (λ (l : List Item). take (length layout) xs ++ l) (recut-joined layouts (drop (length layout) xs) (later-bare layout (joined layouts) xs same))
      ∙ take-append-drop (length layout) xs

  abbrev IsLaid : Bool → List Item → Type 0
  IsLaid sg layout = (packet : List ℕ) × IsLayout g sg packet layout

  laid-again : (sg : Bool) (layouts : List (List Item)) (xs : List Item) → IsGeometry g → All (IsLaid sg) layouts → All IsBodied xs → bare_items (joined layouts) ≡ bare_items xs
      → All (IsLaid sg) (recut layouts xs)
  laid-again sg [] xs lawful all body same = All-nil (IsLaid sg)
  laid-again sg (layout ∷ layouts) xs lawful all body same =
      let one : IsLaid sg layout = All-head (IsLaid sg) layout layouts all in
      let n = length layout in
      All-cons (IsLaid sg) (take n xs) (recut layouts (drop n xs))
      (shape_layout g sg (take n xs) lawful (All-take IsBodied n xs body) (shape-again sg layout (take n xs) (first-bare layout (joined layouts) xs same) (layout_shape g sg one.0 layout one.1)))
      (laid-again sg layouts (drop n xs) lawful (All-tail (IsLaid sg) layout layouts all) (All-drop IsBodied n xs body) (later-bare layout (joined layouts) xs same))

  addresses-of : (items : List Item) → map (λ (i : Item). i.desc.addr) items ≡ map (λ (d : XdpDesc). d.addr) (descs items)
  addresses-of [] = refl
  addresses-of (item ∷ items) = ap (λ (l : List ℕ). item.desc.addr ∷ l) (addresses-of items)

-- ---- calls

same-numbers : (items xs : List Item) → bare_items xs ≡ bare_items items → numbers xs ≡ numbers items
same-numbers items xs same = sym (numbers-bare xs) ∙ ap numbers same ∙ numbers-bare items

module _ (c : Config) (mine : List Told) where
  received-again : (items xs : List Item) → IsGeometry c.geometry → bare_items xs ≡ bare_items items → All (HasItsFrame c.geometry) xs → AreReceived c mine items → AreReceived c mine xs
  received-again items xs lawful same has h =
      let there : bare_items (joined c.geometry h.layouts) ≡ bare_items xs = ap bare_items (sym h.joined) ∙ sym same in
      record {
        layouts = recut c.geometry h.layouts xs;
        joined = sym (recut-joined c.geometry h.layouts xs there);
        laid_out = laid-again c.geometry c.sg h.layouts xs lawful h.laid_out (whole-body c.geometry xs has) there;
        from_fill = λ n some. h.from_fill n (subst (λ (ns : List ℕ). 1 ≤ times n ns) (same-numbers items xs same) some);
      }

  completed-again : (r : Ring) (items xs : List Item) → bare_items xs ≡ bare_items items → descs xs ≡ descs items → AreCompleted c mine r items → AreCompleted c mine r xs
  completed-again r items xs same alike h =
      record {
        socket = h.socket;
        tx = h.tx;
        port = h.port;
        queue = h.queue;
        packet = h.packet;
        later = h.later;
        next = h.next;
        frames = same-numbers items xs same ∙ h.frames;
        addresses = addresses-of c.geometry xs ∙ ap (map (λ (d : XdpDesc). d.addr)) alike ∙ sym (addresses-of c.geometry items) ∙ h.addresses;
      }

  packets-again : (r : Ring) (items xs : List Item) → IsGeometry c.geometry → bare_items xs ≡ bare_items items → descs xs ≡ descs items → All (HasItsFrame c.geometry) xs
      → ArePackets c mine (Submit r items) → ArePackets c mine (Submit r xs)
  packets-again (Fill d) items xs lawful same alike has h = h
  packets-again (Comp d) items xs lawful same alike has h = completed-again (Comp d) items xs same alike h
  packets-again (Rx s) items xs lawful same alike has h = received-again items xs lawful same has h
  packets-again (Tx s) items xs lawful same alike has h = h

  submit-again : (who : ℕ) (r : Ring) (items xs : List Item) → IsGeometry c.geometry → descs xs ≡ descs items → All (HasItsFrame c.geometry) xs
      → IsLegal c mine who (Submit r items) → IsLegal c mine who (Submit r xs)
  submit-again who r items xs lawful alike has h =
      let same = same-bare c.geometry items xs alike (its-frame c.geometry r items h.items) has in
      let count : length xs ≡ length items = same-length c.geometry xs items same in
      record {
        caller = h.caller;
        known = h.known;
        role = h.role;
        counted = subst (λ (n : ℕ). (1 ≤ n) × (n ≤ 32) × (n ≤ room_of r mine)) (sym count) h.counted;
        frames = λ n. subst (λ (ns : List ℕ). times n ns ≤ times n (had_of mine)) (sym (same-numbers items xs same)) (h.frames n);
        items = lawful-again c.geometry r items xs alike h.items has;
        packets = packets-again r items xs lawful same alike has h.packets;
        feeds = h.feeds;
      }

-- the call with other items, where it has any
abbrev pub with_items : Call → List Item → Call
with_items (Reserve r n) xs = Reserve r n
with_items (Submit r items) xs = Submit r xs
with_items (Peek r n) xs = Peek r n
with_items (Release r n) xs = Release r n
with_items (Swap m value) xs = Swap m value
with_items (Look m) xs = Look m

-- the items were given their frames
pub legal-again : (c : Config) (mine : List Told) (who : ℕ) (call : Call) (xs : List Item) → IsGeometry c.geometry → descs xs ≡ descs (submitted call) → All (HasItsFrame c.geometry) xs
    → IsLegal c mine who call → IsLegal c mine who (with_items call xs)
legal-again c mine who (Reserve r n) xs lawful alike has h = h
legal-again c mine who (Submit r items) xs lawful alike has h = submit-again c mine who r items xs lawful alike has h
legal-again c mine who (Peek r n) xs lawful alike has h = h
legal-again c mine who (Release r n) xs lawful alike has h = h
legal-again c mine who (Swap m value) xs lawful alike has h = h
legal-again c mine who (Look m) xs lawful alike has h = h

-- legal calls with the same descriptors are alike
pub calls-alike : (c : Config) (mine : List Told) (who : ℕ) (call : Call) (xs : List Item) → descs xs ≡ descs (submitted call) → All (HasItsFrame c.geometry) xs
    → IsLegal c mine who call → bare_call (with_items call xs) ≡ bare_call call
calls-alike c mine who (Reserve r n) xs alike has h = refl
calls-alike c mine who (Submit r items) xs alike has h =
    ap (Submit r) (same-bare c.geometry items xs alike (its-frame c.geometry r items h.items) has)
calls-alike c mine who (Peek r n) xs alike has h = refl
calls-alike c mine who (Release r n) xs alike has h = refl
calls-alike c mine who (Swap m value) xs alike has h = refl
calls-alike c mine who (Look m) xs alike has h = refl
