-- A driver has no more than 128 finished packets: it peeks TX once they are completed, but for the second look, which is at
-- most at four rings.
use Rattle.std.proofs.Common.{◌≡◌, ℕ, ◌+◌, ◌*◌, ◌<◌, ◌≤◌, Bool, false, Option, Some, None, List, [], ◌∷◌, length, option_to_list, refl, ap, arith, length-append}
use Rattle.xsk_turns.proofs.Object.{Geometry, Config, classes_of, Packet, whole, bad, ended_by, group_after, whole_packets, packets_from}
use Rattle.xsk_turns.proofs.Calls.{Item, Told}
use Rattle.xsk_model.proofs.PacketsLaws.{whole_packets-append}
use Rattle.xsk_turns.specs.Turns.{Seat, Kept, group_at, gathered, seat_of, start, turn}
use Rattle.xsk_turns.specs.Owned.{IsSeat, FinishedFew}
use Rattle.xsk_turns.specs.declared.wire.Wire.{Wire}
use Rattle.xsk_turns.proofs.Places.{batch_few}
use Rattle.xsk_turns.proofs.Counting.{four_classes}
use Rattle.xsk_turns.proofs.Walks.{Fitting, meet_fitting}
use Rattle.xsk_turns.proofs.DriverStages.{Family, Idling, Arming, Which, Turning, Again, Trying, Lacking, Sending, PeekFill, ReleaseFill, PeekTx, ReleaseTx, comp_full, comp_submitted, tx_empty, tx_items, looked_tx_done, armed_fill, found_end, found_none, visited, idles, arms, seeks, looks, finds, parks, Said, AtCalls, AtEntries, AtSilent, IsLaw, SubmitComp, LookTxDone, TellGone, ArmFill, ArmTx, LookEnd}
use Rattle.xsk_turns.proofs.DriverWalk.{at_call}

-- each item ends one packet at most
one_ended : (o : Option Packet) → length (whole_packets (option_to_list o)) ≤ 1
one_ended None = omega arith
one_ended (Some (whole items)) = omega arith
one_ended (Some (bad items)) = omega arith

wholes_few : (g : Geometry) (sg : Bool) (group items : List Item) → length (whole_packets (packets_from g sg group items)) ≤ length items
wholes_few g sg group [] = omega arith
wholes_few g sg group (item ∷ items) =
    let one = ended_by g sg group item in
    let later = packets_from g sg (group_after g sg group item) items in
    omega (
      arith,
      ap length (whole_packets-append (option_to_list one) later),
      length-append (whole_packets (option_to_list one)) (whole_packets later),
      one_ended one,
      wholes_few g sg (group_after g sg group item) items,
    )

gathered_few : (seat : Seat) (k : ℕ) (kept : Kept) (items : List Item) → length (gathered seat k kept items).finished ≤ length kept.finished + length items
gathered_few seat k kept items =
    let more = whole_packets (packets_from seat.config.geometry seat.config.sg (group_at kept k) items) in
    omega (arith, length-append kept.finished more, wholes_few seat.config.geometry seat.config.sg (group_at kept k) items)

module _ (wire : Wire) (c : Config) (pair : ℕ) (is : IsSeat c pair) where
  abbrev seat : Seat
  seat = seat_of wire c pair

  abbrev Few : Kept → Type 0
  Few kept = length kept.finished ≤ 128

  -- and in the second look a batch for each class
  abbrev FewIn : Which → ℕ → List (List Item) → Type 0
  FewIn Turning k packets = length packets ≤ 128
  FewIn Again k packets = (k ≤ classes_of c) × (length packets ≤ 32 * k)

  abbrev At : Family
  At Idling noted kept l = (noted.full ≡ false → kept.finished ≡ []) × Few kept
  At (Arming k) noted kept l = kept.finished ≡ []
  At (Trying look packet s due) noted kept l = FewIn look 0 kept.finished
  At (Lacking look packet s full) noted kept l = FewIn look 0 kept.finished
  At (Sending look k due) noted kept l = FewIn look k kept.finished
  At place noted kept l = Few kept

  abbrev Asked : Said
  Asked kept call l = Few kept

  abbrev Ended : Kept → List Told → Type 0
  Ended kept l = Unit {0}

  few_in : (look : Which) (k : ℕ) (kept : Kept) → FewIn look k kept.finished → Few kept
  few_in Turning k kept h = h
  few_in Again k kept h = omega (arith, h.0, h.1, four_classes c is.regular.classes)

  more_in : (look : Which) (k : ℕ) (old new : List (List Item)) → (k < classes_of c) × (look ≡ Turning → old ≡ []) → length new ≤ length old + 32 → FewIn look k old → FewIn look (k + 1) new
  more_in Turning k old new known more h = omega (arith, ap length (known.1 refl), more)
  more_in Again k old new known more h = (omega (arith, known.0), omega (arith, h.1, more))

  few_none : (kept : Kept) → kept.finished ≡ [] → Few kept
  few_none kept none = omega (arith, ap length none)

  first_look : (kept : Kept) → kept.finished ≡ [] → FewIn Again 0 kept.finished
  first_look kept none = (omega arith, omega (arith, ap length none))

  calls : AtCalls seat (Fitting c) At Asked
  calls LookTxDone noted kept l known h = h.1
  calls TellGone noted kept l known h = h.1
  calls ArmFill noted kept l known h = h.1
  calls (ArmTx k) noted kept l known h = few_none kept h
  calls (PeekFill look packet s) noted kept l known h = few_in look 0 kept h
  calls (ReleaseFill look packet s n) noted kept l known h = few_in look 0 kept h
  calls (PeekTx look k) noted kept l known h = few_in look k kept h
  calls (ReleaseTx look k n) noted kept l known h = few_in look (k + 1) kept h
  calls LookEnd noted kept l known h = few_in Again (classes_of c) kept h
  calls (SubmitComp k packet later) noted kept l known h = omega (arith, ap length known, h)
  calls p noted kept l known h = h

  entries : AtEntries seat (Fitting c) At Asked
  entries (tx_empty look k) noted kept l known found h a q = more_in look k kept.finished kept.finished known (omega arith) h
  entries (tx_items look k items) noted kept l known found h a q = more_in look k kept.finished (gathered seat k kept items).finished known (omega (arith, gathered_few seat k kept items, q.few, batch_few c)) h
  entries (comp_full k packet later free) noted kept l known found h a q = ((λ e. absurd (cc)), h)
  entries (comp_submitted k packet later) noted kept l known found h a q = omega (arith, ap length known, h)
  entries (looked_tx_done n) noted kept l known found h a q = h.1
  entries (armed_fill n) noted kept l known found h a q = h.0 known.0
  entries (found_end n) noted kept l known found h a q = few_in Again (classes_of c) kept h
  entries (found_none n) noted kept l known found h a q = few_in Again (classes_of c) kept h
  entries e noted kept l known found h a q = h

  silent : AtSilent seat (Fitting c) At
  silent visited noted kept l = λ h none. ((λ e. none), h)
  silent idles noted kept l = λ h e. h.1
  silent arms noted kept l = λ h e. h.0 e.0
  silent (seeks packet s) noted kept l = λ h e. first_look kept h
  silent looks noted kept l = λ h e. first_look kept h
  silent finds noted kept l = λ h e. few_in Again (classes_of c) kept h
  silent parks noted kept l = λ h e. few_in Again (classes_of c) kept h
  silent p noted kept l = λ h e. h

  law : IsLaw seat (Fitting c) At Asked Ended
  law = record { calls = calls; entries = entries; silent = silent; ends = λ noted kept l n known h a q. tt }

pub finished_few : FinishedFew
finished_few wire c pair input l kept call rest is fit asks =
    let s = seat_of wire c pair in
    at_call s (Fitting c) (At wire c pair is) (Asked wire c pair is) (Ended wire c pair is) (law wire c pair is) (start (classes_of c) input) (omega arith) l
    (meet_fitting (turn s) c (turn s (start (classes_of c) input)) [] l fit) kept call rest asks
