-- The calls that fill FILL are a history of the program alone, and leave the rings as the object is opened with them.
use Rattle.std.proofs.Common.{◌≡◌, ℕ, zero, suc, ◌+◌, ◌-◌, ◌*◌, ◌<◌, ◌≤◌, false, cond, List, [], ◌∷◌, length, map, take, drop, All, refl, sym, ap, ◌∙◌, subst, arith, length-take, length-drop, take-append-drop, drop-drop, suc-mul, ne_eqb}
use Rattle.std.proofs.lemmas.List.{length-map, map-append}
use Rattle.std.proofs.lemmas.List.Elements.{All-map, All-take, All-drop, All-weaker}
use Rattle.xsk_umem.specs.Frame.{Frame}
use Rattle.xsk_umem.specs.Geometry.{Geometry}
use Rattle.xsk_model.specs.Config.{Config, HasRing, pool_of}
use Rattle.xsk_model.specs.Numbers.{times}
use Rattle.xsk_model.specs.Rings.{is_ring}
use Rattle.xsk_model.specs.Object.{ring_at}
use Rattle.xsk_model.specs.Legal.{IsItemOn}
use Rattle.xsk_model.specs.Opening.{IsOpened, home_item, opening}
use Rattle.xsk_model.specs.Homes.{pool_at}
use Rattle.xsk_model.specs.declared.call.Ring.{Ring}
use Rattle.xsk_model.specs.declared.call.Ring.TheVariants.{Fill, Comp, Rx, Tx}
use Rattle.xsk_model.proofs.Counting.{times-append}
use Rattle.xsk_model.proofs.Places.{is_ring-self}
use Rattle.xsk_model.proofs.Replies.{times-row}
use Rattle.xsk_model.proofs.Opened.{IsWhole, whole_frames, length-frames, home_item_lawful, numbers-home, all_pools}
use Rattle.xsk_model.proofs.FirstState.{opening_ring_is}
use Rattle.xsk_side.specs.Setting.{size_of as side_size}
use Rattle.xsk_side.specs.Entries.{times as times_of}
use Rattle.xsk_side.specs.Object.{RingState as SideRing, Entry as SideEntry, ring_at as side_at, ring_after as side_after, free as side_free}
use Rattle.xsk_side.specs.Own.{has_frame, room_of}
use Rattle.xsk_side.specs.Possible.{IsHistory as IsSideHistory, own as side_own}
use Rattle.xsk_side.specs.declared.call.Party.TheVariants.{Program}
use Rattle.xsk_side.specs.declared.call.Answer.TheVariants as an_answer
use Rattle.xsk_side.specs.declared.call.Call.{Call as SideCall}
use Rattle.xsk_side.specs.declared.call.Call.TheVariants as a_side
use Rattle.xsk_side.proofs.Lists.{number, gone}
use Rattle.xsk_side.proofs.Rings.{entry, ring_here, ring_else}
use Rattle.xsk_sides.specs.Sides.{entries, setting_of, base_entry, opening_calls, by_program}
use Rattle.xsk_sides.proofs.Rings.{IsSame, side_ring}
use Rattle.xsk_sides.proofs.Setting.{is_setting}
use Rattle.xsk_sides.proofs.Items.{same_times}
use Rattle.xsk_sides.proofs.Places.{has_ring, same_size}

-- ---- the calls

abbrev reserves : ℕ → ℕ → SideCall
reserves pool d = a_side.Reserve (Fill d) pool an_answer.Granted

abbrev submits : Geometry → ℕ → ℕ → List Frame → SideCall
submits g pool d frames = a_side.Submit (Fill d) (map (base_entry g) (take pool frames))

-- one pool is put on FILL
abbrev fills : Geometry → ℕ → ℕ → List Frame → List SideEntry → List SideEntry
fills g pool d frames past = entry Program (submits g pool d frames) ∷ entry Program (reserves pool d) ∷ past

abbrev pub fills_all : Geometry → ℕ → ℕ → ℕ → List Frame → List SideEntry → List SideEntry
fills_all g pool d zero frames past = past
fills_all g pool d (suc pairs) frames past = fills_all g pool (d + 1) pairs (drop pool frames) (fills g pool d frames past)

pub fills_of : (g : Geometry) (pool d pairs : ℕ) (frames : List Frame) (calls : List SideCall)
    → fills_all g pool d pairs frames (map by_program calls) ≡ map by_program (opening_calls g pool d pairs frames calls)
fills_of g pool d zero frames calls = refl
fills_of g pool d (suc pairs) frames calls =
    fills_of g pool (d + 1) pairs (drop pool frames) (submits g pool d frames ∷ reserves pool d ∷ calls)

-- ---- the rings

abbrev none : SideRing
none = record { out = []; held = []; room = 0 }

abbrev home : Geometry → List Frame → SideRing
home g frames = record { out = map (base_entry g) frames; held = []; room = 0 }

module _ (g : Geometry) (pool : ℕ) where
  fills_else : (d : ℕ) (frames : List Frame) (past : List SideEntry) (r : Ring) → is_ring r (Fill d) ≡ false → side_at r (fills g pool d frames past) ≡ side_at r past
  fills_else d frames past r off =
      ring_else r (entry Program (reserves pool d) ∷ past) Program (submits g pool d frames) off ∙ ring_else r past Program (reserves pool d) off

  fills_here : (d : ℕ) (frames : List Frame) (past : List SideEntry) → pool ≤ length frames → side_at (Fill d) past ≡ none
      → side_at (Fill d) (fills g pool d frames past) ≡ home g (take pool frames)
  fills_here d frames past enough empty =
      let left : 0 + pool - length (map (base_entry g) (take pool frames)) ≡ 0 =
      omega (arith, enough, length-map (take pool frames) (base_entry g), length-take pool frames) in
      ring_here (entry Program (reserves pool d) ∷ past) Program (submits g pool d frames)
      ∙ ap (λ (ring : SideRing). side_after ring (submits g pool d frames))
      (ring_here past Program (reserves pool d) ∙ ap (λ (ring : SideRing). side_after ring (reserves pool d)) empty)
      ∙ ap (λ k. record (home g (take pool frames)) { room = k }) left

  later_else : (d pairs : ℕ) (frames : List Frame) (past : List SideEntry) (r : Ring) → ((x : ℕ) → d ≤ x → is_ring r (Fill x) ≡ false)
      → side_at r (fills_all g pool d pairs frames past) ≡ side_at r past
  later_else d zero frames past r off = refl
  later_else d (suc pairs) frames past r off =
      later_else (d + 1) pairs (drop pool frames) (fills g pool d frames past) r (λ x le. off x (omega (arith, le)))
      ∙ fills_else d frames past r (off d (omega arith))

  pool_ring : (d pairs : ℕ) (frames : List Frame) (past : List SideEntry) (k j e : ℕ) → k < pairs → k * pool ≡ j → d + k ≡ e → pairs * pool ≤ length frames
      → side_at (Fill e) past ≡ none → side_at (Fill e) (fills_all g pool d pairs frames past) ≡ home g (take pool (drop j frames))
  pool_ring d zero frames past k j e low at is enough empty = absurd (omega (arith, low))
  pool_ring d (suc pairs) frames past zero j e low at is enough empty =
      let here : d ≡ e = omega (arith, is) in
      let start : 0 ≡ j = omega (arith, at) in
      later_else (d + 1) pairs (drop pool frames) (fills g pool d frames past) (Fill e) (λ x le. ne_eqb e x (λ q. omega (arith, le, q, here)))
      ∙ subst (λ x. side_at (Fill x) past ≡ none → side_at (Fill x) (fills g pool d frames past) ≡ home g (take pool frames)) here
      (fills_here d frames past (omega (arith, enough, suc-mul pairs pool))) empty
      ∙ ap (λ n. home g (take pool (drop n frames))) start
  pool_ring d (suc pairs) frames past (suc k) j e low at is enough empty =
      pool_ring (d + 1) pairs (drop pool frames) (fills g pool d frames past) k (k * pool) e (omega (arith, low)) refl (omega (arith, is))
      (omega (arith, enough, suc-mul pairs pool, length-drop pool frames))
      (fills_else d frames past (Fill e) (ne_eqb e d (λ q. omega (arith, q, is))) ∙ empty)
      ∙ ap (λ fs. home g (take pool fs)) (drop-drop (k * pool) pool frames ∙ ap (λ n. drop n frames) (omega (arith, at, suc-mul k pool)))

-- ---- that the calls are legal

entries_home : (g : Geometry) (frames : List Frame) → entries (map (home_item g) frames) ≡ map (base_entry g) frames
entries_home g [] = refl
entries_home g (frame ∷ frames) = ap (λ es. base_entry g frame ∷ es) (entries_home g frames)

module _ (c : Config) (frames : List Frame) (opened : IsOpened c frames) where
  -- where the next pool is that of pair d, and these frames are left
  record Opens (d : ℕ) (left : List Frame) (past : List SideEntry) : Type 0 where
    pub legal : IsSideHistory (setting_of c) past
    pub empty : (x : ℕ) → d ≤ x → side_at (Fill x) past ≡ none
    pub whole : All (IsWhole c.geometry) left
    pub had : (f : ℕ) → times f (map (λ (x : Frame). x.number) left) ≤ number (has_frame (setting_of c) f (side_own Program past))

  abbrev pool : ℕ
  pool = pool_of c

  same_count : (d f : ℕ) (pooled : List Frame) → All (IsWhole c.geometry) pooled
      → times_of (setting_of c) f (map (base_entry c.geometry) pooled) ≡ times f (map (λ (x : Frame). x.number) pooled)
  same_count d f pooled whole =
      ap (times_of (setting_of c) f) (sym (entries_home c.geometry pooled))
      ∙ same_times c (Fill d) f (map (home_item c.geometry) pooled)
      (All-map (IsItemOn c.geometry (Fill d)) (home_item c.geometry) pooled
      (All-weaker (IsWhole c.geometry) (λ (x : Frame). IsItemOn c.geometry (Fill d) (home_item c.geometry x)) (λ x h. home_item_lawful c.geometry d x opened.geometry h) pooled whole))
      ∙ ap (times f) (numbers-home c.geometry pooled)

  split_count : (f : ℕ) (left : List Frame)
      → times f (map (λ (x : Frame). x.number) (take pool left)) + times f (map (λ (x : Frame). x.number) (drop pool left)) ≡ times f (map (λ (x : Frame). x.number) left)
  split_count f left =
      sym (times-append f (map (λ (x : Frame). x.number) (take pool left)) (map (λ (x : Frame). x.number) (drop pool left)))
      ∙ ap (times f) (sym (map-append (λ (x : Frame). x.number) (take pool left) (drop pool left)) ∙ ap (map (λ (x : Frame). x.number)) (take-append-drop pool left))

  module _ (d : ℕ) (left : List Frame) (past : List SideEntry) (low : d < length c.pairs) (opens : Opens d left past) where
    abbrev calls : List SideCall
    calls = side_own Program past

    count : (f : ℕ) → times_of (setting_of c) f (map (base_entry c.geometry) (take pool left)) ≡ times f (map (λ (x : Frame). x.number) (take pool left))
    count f = same_count d f (take pool left) (All-take (IsWhole c.geometry) pool left opens.whole)

    fits : pool ≤ side_free (side_size (setting_of c) (Fill d)) (side_at (Fill d) past)
    fits =
        subst (λ (ring : SideRing). pool ≤ side_free (side_size (setting_of c) (Fill d)) ring) (sym (opens.empty d (omega arith)))
        (omega (arith, same_size c (Fill d) low, opened.lawful.fits d (record { port = 0; queue = 0; fill = 0; comp = 0 }) low))

    reserved : IsSideHistory (setting_of c) (entry Program (reserves pool d) ∷ past)
    reserved = (opens.legal, record { known = has_ring c (Fill d) low; role = refl; counted = tt; frames = tt; untouched = tt; put = tt }, fits)

    few : length (map (base_entry c.geometry) (take pool left)) ≤ room_of (Fill d) (reserves pool d ∷ calls)
    few =
        let room = ap (λ b. cond b (room_of (Fill d) calls + pool) (room_of (Fill d) calls)) (is_ring-self (Fill d)) in
        omega (arith, room, length-map (take pool left) (base_entry c.geometry), length-take pool left)

    filled : IsSideHistory (setting_of c) (fills c.geometry pool d left past)
    filled = (
      reserved,
      record {
        known = has_ring c (Fill d) low;
        role = refl;
        counted = few;
        frames = λ f. omega (arith, count f, split_count f left, opens.had f);
        untouched = tt;
        put = tt;
      },
      tt,
    )

    opens_next : Opens (d + 1) (drop pool left) (fills c.geometry pool d left past)
    opens_next = record {
      legal = filled;
      empty = λ x le. fills_else c.geometry pool d left past (Fill x) (ne_eqb x d (λ e. omega (arith, e, le))) ∙ opens.empty x (omega (arith, le));
      whole = All-drop (IsWhole c.geometry) pool left opens.whole;
      had = λ f.
          let taken : ℕ = times_of (setting_of c) f (map (base_entry c.geometry) (take pool left)) in
          omega (arith, count f, split_count f left, opens.had f, gone taken (has_frame (setting_of c) f calls) (omega (arith, count f, split_count f left, opens.had f)));
    }

  opens_all : (d pairs : ℕ) (left : List Frame) (past : List SideEntry) → d + pairs ≤ length c.pairs → Opens d left past
      → IsSideHistory (setting_of c) (fills_all c.geometry pool d pairs left past)
  opens_all d zero left past few opens = opens.legal
  opens_all d (suc pairs) left past few opens =
      opens_all (d + 1) pairs (drop pool left) (fills c.geometry pool d left past) (omega (arith, few)) (opens_next d left past (omega (arith, few)) opens)

  -- ---- all of them

  abbrev pub first : List SideEntry
  first = fills_all c.geometry pool 0 (length c.pairs) frames []

  pub first_legal : IsSideHistory (setting_of c) first
  first_legal = opens_all 0 (length c.pairs) frames [] (omega arith) (record {
    legal = is_setting c opened.geometry opened.config;
    empty = λ x le. refl;
    whole = whole_frames c.geometry frames opened.umem;
    had = λ f. omega (arith, ap (times f) opened.umem.numbers, times-row f c.geometry.frames);
  })

  enough : length c.pairs * pool ≤ length frames
  enough = omega (arith, length-frames c.geometry frames opened.umem, all_pools c.geometry.frames (length c.pairs) opened.lawful.divides)

  first_ring_is : (r : Ring) → HasRing c r → side_at r first ≡ side_ring (ring_at c (opening c frames) r)
  first_ring_is (Fill d) has =
      pool_ring c.geometry pool 0 (length c.pairs) frames [] d (d * pool) d has refl (omega arith) enough refl
      ∙ ap (λ out. record { out = out; held = []; room = 0 }) (sym (entries_home c.geometry (pool_at c frames d)))
      ∙ ap side_ring (sym (opening_ring_is c frames (Fill d) has))
  first_ring_is (Comp d) has =
      later_else c.geometry pool 0 (length c.pairs) frames [] (Comp d) (λ x le. refl) ∙ ap side_ring (sym (opening_ring_is c frames (Comp d) has))
  first_ring_is (Rx k) has =
      later_else c.geometry pool 0 (length c.pairs) frames [] (Rx k) (λ x le. refl) ∙ ap side_ring (sym (opening_ring_is c frames (Rx k) has))
  first_ring_is (Tx k) has =
      later_else c.geometry pool 0 (length c.pairs) frames [] (Tx k) (λ x le. refl) ∙ ap side_ring (sym (opening_ring_is c frames (Tx k) has))

  pub first_same : IsSame c (opening c frames) first
  first_same = record { rings = first_ring_is }
