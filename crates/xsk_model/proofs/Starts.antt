-- The opening is a start, and so is the state in which COMPLETION has the frames.
use Rattle.std.proofs.Common.{◌≡◌, ℕ, ◌+◌, ◌-◌, ◌*◌, ◌<◌, ◌≤◌, List, [], ◌++◌, length, get_or, drop, replicate, flat_map, All, refl, sym, ap, subst, ◌∙◌, arith, append-nil, length-append, length-take}
use Rattle.std.specs.List.{range_with_len}
use Rattle.std.proofs.lemmas.List.{length-map, length-replicate, nil_from_length, get_or-replicate, get_or_append_left, get_or-append_right, get_or_past}
use Rattle.std.proofs.lemmas.List.Concat.{flat_map-append}
use Rattle.std.proofs.lemmas.List.Elements.{All-nil, All-map, All-take, All-drop}
use Rattle.xsk_umem.specs.Frame.{Frame}
use Rattle.xsk_model.specs.Config.{Config, HasRing, size_of, pool_of, callers_of}
use Rattle.xsk_model.specs.Numbers.{times}
use Rattle.xsk_model.specs.Rings.{place, app_of, places_of}
use Rattle.xsk_model.specs.Object.{RingState, State, empty_ring, ring_at}
use Rattle.xsk_model.specs.Legal.{IsItemOn}
use Rattle.xsk_model.specs.Opening.{IsOpened, home_item, home_ring, home_rings, opening, IsReturnable, returned}
use Rattle.xsk_model.specs.Holders.{HasOneHolder, holders, out_numbers}
use Rattle.xsk_model.specs.Homes.{pool_at}
use Rattle.xsk_model.specs.Starts.{IsStartRing, IsStart, returned_ring}
use Rattle.xsk_model.specs.StartLaws.{OpeningStarts, ReturnedStarts}
use Rattle.xsk_model.specs.declared.call.Ring.{Ring}
use Rattle.xsk_model.specs.declared.call.Ring.TheVariants.{Fill, Comp, Rx, Tx}
use Rattle.xsk_model.proofs.Counting.{times-range_past, times-range_within}
use Rattle.xsk_model.proofs.Opened.{get_or-blanks, flat_map-blanks, length-frames, whole_frames, home_item_on, length-home_rings, flat_map-home_rings, all_pools, opening-rings, opening-callers, opening-had, opening-holders, opening-ring, opening-marks}
use Rattle.xsk_model.proofs.MarkNumbers.{opening_mark_is}
use Rattle.xsk_model.proofs.FirstState.{home_rings-pool, pool_numbers}
use Rattle.xsk_model.proofs.Stays.{in_pool, opening_homed}

-- whose numbers are a row of all frames have one holder
one_in_row : (frames : ℕ) (s : State) → ((n : ℕ) → times n (holders s) ≡ times n (range_with_len 0 frames)) → HasOneHolder frames s
one_in_row frames s h = record {
  one = λ n low. h n ∙ times-range_within n 0 frames (omega arith) (omega arith);
  none = λ n high. h n ∙ times-range_past n 0 frames (omega arith);
}

-- ---- the opening

opening_ring_starts : (c : Config) (frames : List Frame) → IsOpened c frames → (r : Ring) → HasRing c r → IsStartRing c r (ring_at c (opening c frames) r)
opening_ring_starts c frames opened r has =
    let sound = opening-ring c frames opened r has in
    record {
      few = omega (arith, sound.within);
      lawful = sound.items;
      home = λ n some. (opening_homed c frames opened).rings r n has some;
      held = nil_from_length (ring_at c (opening c frames) r).held sound.held;
      room = sound.room;
    }

opening_start : (c : Config) (frames : List Frame) → IsOpened c frames → IsStart c (opening c frames)
opening_start c frames opened =
    record {
      geometry = opened.geometry;
      config = opened.config;
      ring = opening_ring_starts c frames opened;
      mark = λ m has. opening_mark_is c frames m opened.config has;
      had = opening-had c frames opened;
      holder = one_in_row c.geometry.frames (opening c frames) (opening-holders c frames opened);
      rings = opening-rings c frames opened;
      marks = opening-marks c frames opened.config;
      callers = opening-callers c frames opened;
    }

pub opening_starts : OpeningStarts
opening_starts c frames = (
  λ opened. opening_start c frames opened,
  λ h history. record { begins = opening_start c frames history.opened; legal = history.legal },
)

-- ---- frames on COMPLETION

-- the rings before those of COMPLETION, these, and those behind them
before : Config → List RingState
before c = replicate (length c.pairs) empty_ring

pools : Config → List Frame → List RingState
pools c frames = home_rings c.geometry (pool_of c) (length c.pairs) frames

abbrev behind : Config → ℕ
behind c = 2 * length c.sockets

length-before : (c : Config) → length (before c) ≡ length c.pairs
unfolding before
length-before c = length-replicate (length c.pairs) empty_ring

length-pools : (c : Config) (frames : List Frame) → length (pools c frames) ≡ length c.pairs
unfolding pools
length-pools c frames = length-home_rings c.geometry (pool_of c) (length c.pairs) frames

module _ (c : Config) (frames : List Frame) where
  returned_at : (r : Ring) → ring_at c (returned c frames) r ≡ get_or (before c ++ pools c frames) (place c r) empty_ring
  unfolding before pools
  returned_at r = get_or-blanks (before c ++ pools c frames) (behind c) (place c r) empty_ring

  returned_fill : (d : ℕ) → d < length c.pairs → ring_at c (returned c frames) (Fill d) ≡ empty_ring
  unfolding before
  returned_fill d h =
      returned_at (Fill d) ∙ get_or_append_left (before c) (pools c frames) empty_ring d (omega (arith, length-before c, h))
      ∙ get_or-replicate (length c.pairs) d empty_ring empty_ring h

  returned_comp : (d : ℕ) → d < length c.pairs → ring_at c (returned c frames) (Comp d) ≡ home_ring c.geometry (pool_at c frames d)
  unfolding pools
  returned_comp d h =
      let back : length c.pairs + d - length c.pairs ≡ d = omega arith in
      returned_at (Comp d) ∙ get_or-append_right (before c) (pools c frames) (length c.pairs) (length c.pairs + d) empty_ring (length-before c) (omega arith)
      ∙ ap (λ k. get_or (pools c frames) k empty_ring) back
      ∙ home_rings-pool c.geometry (pool_of c) (length c.pairs) frames d (d * pool_of c) h refl

  returned_empty : (r : Ring) → 2 * length c.pairs ≤ place c r → ring_at c (returned c frames) r ≡ empty_ring
  returned_empty r h =
      returned_at r ∙ get_or_past (before c ++ pools c frames) (place c r) empty_ring
      (omega (arith, length-append (before c) (pools c frames), length-before c, length-pools c frames, h))

  returned_ring_is : (r : Ring) → HasRing c r → ring_at c (returned c frames) r ≡ returned_ring c frames r
  returned_ring_is (Fill d) has = returned_fill d has
  returned_ring_is (Comp d) has = returned_comp d has
  returned_ring_is (Rx s) has = returned_empty (Rx s) (omega arith)
  returned_ring_is (Tx s) has = returned_empty (Tx s) (omega arith)

empty_starts : (c : Config) (r : Ring) → IsStartRing c r empty_ring
empty_starts c r = record {
  few = omega arith;
  lawful = All-nil (IsItemOn c.geometry r);
  home = λ n some. absurd (omega (arith, some));
  held = refl;
  room = refl;
}

module _ (c : Config) (frames : List Frame) (h : IsReturnable c frames) where
  comp_starts : (d : ℕ) → d < length c.pairs → IsStartRing c (Comp d) (home_ring c.geometry (pool_at c frames d))
  comp_starts d has =
      let pool : List Frame = pool_at c frames d in
      let fits : pool_of c ≤ size_of c (Comp d) = h.fits d (record { port = 0; queue = 0; fill = 0; comp = 0 }) has in
      let whole : All (λ f. IsItemOn c.geometry (Comp d) (home_item c.geometry f)) frames =
      λ k e within. home_item_on c.geometry (Comp d) (get_or frames k e) h.opened.geometry (whole_frames c.geometry frames h.opened.umem k e within) (refl, refl) in
      record {
        few = omega (arith, fits, length-map pool (home_item c.geometry), length-take (pool_of c) (drop (d * pool_of c) frames));
        lawful =
            All-map (IsItemOn c.geometry (Comp d)) (home_item c.geometry) pool
            (All-take (λ f. IsItemOn c.geometry (Comp d) (home_item c.geometry f)) (pool_of c) (drop (d * pool_of c) frames)
            (All-drop (λ f. IsItemOn c.geometry (Comp d) (home_item c.geometry f)) (d * pool_of c) frames whole));
        home = λ n some.
            let own = ap (times n) (pool_numbers c frames d h.opened has) in
            ap (λ k. app_of c (Fill k)) (sym (in_pool (pool_of c) d n (omega (arith, some, own))));
        held = refl;
        room = refl;
      }

  ring_starts : (r : Ring) → HasRing c r → IsStartRing c r (returned_ring c frames r)
  ring_starts (Fill d) has = empty_starts c (Fill d)
  ring_starts (Comp d) has = comp_starts d has
  ring_starts (Rx s) has = empty_starts c (Rx s)
  ring_starts (Tx s) has = empty_starts c (Tx s)

  returned-rings : length (returned c frames).rings ≡ places_of c
  unfolding before pools
  returned-rings =
      omega (
        arith,
        length-append (before c ++ pools c frames) (replicate (behind c) empty_ring),
        length-append (before c) (pools c frames),
        length-before c,
        length-pools c frames,
        length-replicate (behind c) empty_ring,
      )

  returned-holders : (n : ℕ) → times n (holders (returned c frames)) ≡ times n (range_with_len 0 c.geometry.frames)
  unfolding before pools
  returned-holders n =
      let blanks : List RingState = replicate (behind c) empty_ring in
      let len : length frames ≡ length c.pairs * pool_of c =
      length-frames c.geometry frames h.opened.umem ∙ all_pools c.geometry.frames (length c.pairs) h.opened.lawful.divides in
      let callers : flat_map (λ (had : List ℕ). had) (replicate (callers_of c) []) ≡ [] = flat_map-blanks (λ (had : List ℕ). had) (callers_of c) [] refl in
      let none : flat_map out_numbers (before c) ≡ [] = flat_map-blanks out_numbers (length c.pairs) empty_ring refl in
      let empty : flat_map out_numbers blanks ≡ [] = flat_map-blanks out_numbers (behind c) empty_ring refl in
      let all : flat_map out_numbers (pools c frames) ≡ range_with_len 0 c.geometry.frames =
      flat_map-home_rings c.geometry (pool_of c) (length c.pairs) frames len ∙ h.opened.umem.numbers in
      let rings : flat_map out_numbers (before c ++ pools c frames ++ blanks) ≡ range_with_len 0 c.geometry.frames =
      flat_map-append out_numbers (before c ++ pools c frames) blanks ∙ ap (λ xs. flat_map out_numbers (before c ++ pools c frames) ++ xs) empty
      ∙ append-nil (flat_map out_numbers (before c ++ pools c frames))
      ∙ flat_map-append out_numbers (before c) (pools c frames) ∙ ap (λ xs. xs ++ flat_map out_numbers (pools c frames)) none ∙ all in
      ap (λ xs. times n (xs ++ flat_map out_numbers (before c ++ pools c frames ++ blanks))) callers ∙ ap (times n) rings

  returned_start : IsStart c (returned c frames)
  returned_start =
      record {
        geometry = h.opened.geometry;
        config = h.opened.config;
        ring = λ r has. subst (IsStartRing c r) (sym (returned_ring_is c frames r has)) (ring_starts r has);
        mark = λ m has. opening_mark_is c frames m h.opened.config has;
        had = opening-had c frames h.opened;
        holder = one_in_row c.geometry.frames (returned c frames) returned-holders;
        rings = returned-rings;
        marks = opening-marks c frames h.opened.config;
        callers = opening-callers c frames h.opened;
      }

pub returned_starts : ReturnedStarts
returned_starts c frames h = (returned_start c frames h, λ r has. returned_ring_is c frames r has)
