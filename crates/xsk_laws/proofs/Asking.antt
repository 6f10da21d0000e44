-- Why a packet was lost, as a law along a driver's turns: the frames that it has are counted, and while a packet is tried what was
-- asked for it is told.
use Rattle.std.proofs.Common.{◌≡◌, ◌⊎◌, inl, inr, ℕ, ◌+◌, ◌-◌, ◌<◌, true, false, cond, nat_le, All, Some, List, [], ◌∷◌, ◌++◌, length, take, drop, slice_get, refl, sym, ap, ◌∙◌, arith, append-nil, append_assoc, length-append, leb-true, leb-false, length-take-le}
use Rattle.std.proofs.lemmas.List.{length-drop}
use Rattle.std.proofs.lemmas.List.Elements.{All-nil, All-cons, All-append}
use Rattle.std.proofs.lemmas.List.Sums.{fold_push}
use Rattle.xsk_umem.specs.Frame.{Frame}
use Rattle.xsk_model.specs.Config.{classes_of}
use Rattle.xsk_turns.proofs.Calls.{Item, Told, with_told, Fill, Rx, Gone, Cell, Call, Reserve, Submit, Peek, Release, Swap, Look, Reply, Granted, Full, Submitted, Items, Empty, Released, Old}
use Rattle.xsk_turns.proofs.Disposing.{passed-next}
use Rattle.xsk_turns.proofs.Layouts.{length-laid_out}
use Rattle.xsk_turns.proofs.Object.{Config, Fits}
use Rattle.xsk_turns.proofs.Rooms.{all_whole}
use Rattle.xsk_turns.proofs.Walks.{Premise, Due, nothing_due, submit_due, release_due}
use Rattle.xsk_turns.proofs.DriverStages.{Trying, Lacking, Turning, Again, Family, HasTaken, IsNext, PeekFill, ReleaseFill, ReserveRx, SubmitRx, call_at, told_bounced, looked_none, looked_long, looked_some, fill_empty, fill_items, fill_released, rx_granted, rx_full, rx_submitted, point_of, reply_of, untried, too_few, waits, drops_full, drops_frameless, Said, AtCalls, AtEntries, AtSilent, IsLaw}
use Rattle.xsk_turns.specs.Disposals.{Disposed, passed, attempts_of, disposals_of, goes_on}
use Rattle.xsk_turns.specs.KeptDisposals.{HasDisposed, finished_with}
use Rattle.xsk_turns.specs.Turns.{Seat, Judged, Kept, seat_of, start, settled, supplied, redirect_to, pieces_of, laid_out, whole_frames, cell_of}
use Rattle.xsk_turns.specs.declared.disposal.Disposal.{Disposal}
use Rattle.xsk_turns.specs.declared.disposal.Disposal.TheVariants.{Delivered, NoFrames, RxFull, TooLong, Missed, Bounced}
use Rattle.xsk_turns.specs.declared.wire.Wire.{Wire}
use Rattle.xsk_laws.specs.Lost.{is_lost}
use Rattle.xsk_laws.proofs.LastCalls.{same_last}
use Rattle.xsk_laws.specs.Reasons.{frames_given, spare_after, spare_of, IsReason, look_at, WasLost, AreReasoned}
use Rattle.xsk_laws.proofs.Reasons.{first_dropped, untried_unlost, still_lost, still_reasoned, one_more, one_unlost}

-- the frames after one call more
spare_told : (l : List Told) (call : Call) (reply : Reply) → spare_of (with_told l call reply) ≡ spare_after (spare_of l) call reply
spare_told l call reply = fold_push (λ (n : ℕ) (t : Told). spare_after n t.call t.reply) 0 l (record { call = call; reply = reply })

module _ (wire : Wire) (c : Config) (pair : ℕ) (input : List Judged) where
  abbrev pub seat : Seat
  seat = seat_of wire c pair

  -- what each call and its reply meet
  abbrev pub Meets : Premise Kept
  Meets kept past call reply = HasDisposed seat input kept (finished_with past call) × Fits c past call reply

  -- each packet that was lost has its reason, and the frames are counted
  pub record IsGood (ds : List Disposal) (spare : List Frame) (l : List Told) : Type 0 where
    pub reasoned : AreReasoned seat input l ds
    pub count : length spare ≡ spare_of l

  abbrev pub Good : Kept → List Told → Type 0
  Good kept l = IsGood kept.disposals kept.spare l

  -- the attempt at the next packet so far: the look at its cell, and these calls
  pub record IsTrying (ds : List Disposal) (packet : Judged) (number : ℕ) (before calls l : List Told) : Type 0 where
    pub is : l ≡ before ++ (look_at seat packet number ∷ calls)
    pub here : slice_get input (length ds) ≡ Some packet
    pub at : length (disposals_of seat input (attempts_of before)) ≡ length ds
    pub on : All (λ (t : Told). goes_on t.call ≡ true) calls

  -- with too few frames for the packet it is lost
  abbrev pub LosesIfFew : List Disposal → Judged → List Frame → List Told → Type 0
  LosesIfFew ds packet spare l = nat_le (pieces_of seat packet.bytes) (length spare) ≡ false → WasLost seat input l (length ds) NoFrames

  -- nothing was asked for it yet, or FILL was asked for what it lacked; where a Submit is due it has enough
  abbrev pub HasAskedFor : Due → List Disposal → Judged → List Frame → List Told → List Told → List Told → Type 0
  HasAskedFor nothing_due ds packet spare before calls l = ((calls ≡ []) × (length spare ≡ spare_of before)) ⊎ LosesIfFew ds packet spare l
  HasAskedFor (submit_due r n) ds packet spare before calls l = Unit {0}
  HasAskedFor (release_due r n) ds packet spare before calls l = LosesIfFew ds packet spare l

  pub record IsAttempt (due : Due) (packet : Judged) (s : ℕ) (ds : List Disposal) (spare : List Frame) (l : List Told) : Type 0 where
    pub number : ℕ
    pub before : List Told
    pub calls : List Told
    pub target : redirect_to seat.config seat.port seat.queue number ≡ Some s
    pub tries : IsTrying ds packet number before calls l
    pub asked : HasAskedFor due ds packet spare before calls l

  abbrev pub At : Family
  At (Trying Turning packet s due) noted kept l = Good kept l × IsAttempt due packet s kept.disposals kept.spare l
  At (Lacking Turning packet s full) noted kept l = Good kept l × WasLost seat input l (length kept.disposals) (cond full RxFull NoFrames)
  At place noted kept l = Good kept l

  abbrev pub Asked : Said
  Asked kept call l = AreReasoned seat input l kept.disposals

  abbrev pub Ended : Kept → List Told → Type 0
  Ended kept l = AreReasoned seat input l kept.disposals

  pub first : Good (start (classes_of c) input) []
  first = record { reasoned = λ index d e lost. absurd (cc); count = refl }

  -- a call that brings no frame and submits none
  on : (kept : Kept) (call : Call) (reply : Reply) (l : List Told) → spare_after (spare_of l) call reply ≡ spare_of l → Good kept l → Good kept (with_told l call reply)
  on kept call reply l e h = record {
    reasoned = still_reasoned seat input l ((record { call = call; reply = reply }) ∷ []) kept.disposals h.reasoned;
    count = h.count ∙ sym (spare_told l call reply ∙ e);
  }

  -- the next packet has its disposal
  settles : (kept : Kept) (d : Disposal) (l : List Told) → is_lost d ≡ false → Good kept l → Good (settled kept d) l
  settles kept d l e h = record { reasoned = one_unlost seat input l kept.disposals d h.reasoned e; count = h.count }

  loses : (kept : Kept) (d : Disposal) (l : List Told) → WasLost seat input l (length kept.disposals) d → Good kept l → Good (settled kept d) l
  loses kept d l lost h = record { reasoned = one_more seat input l kept.disposals d h.reasoned (λ e. lost); count = h.count }

  -- FILL gives the frames of the items
  supplies : (n : ℕ) (items : List Item) (kept : Kept) (l : List Told) → Fits c l (Peek (Fill pair) n) (Items items) → Good kept l → Good (supplied seat kept items) (with_told l (Peek (Fill pair) n) (Items items))
  supplies n items kept l fits h = record {
    reasoned = still_reasoned seat input l ((record { call = Peek (Fill pair) n; reply = Items items }) ∷ []) kept.disposals h.reasoned;
    count = omega (
      arith,
      length-append kept.spare (whole_frames c.geometry.chunk items),
      ap (λ (fs : List Frame). length fs) (all_whole c.geometry (Fill pair) items fits.lawful),
      h.count,
      spare_told l (Peek (Fill pair) n) (Items items),
    );
  }

  -- ---- a packet that is tried

  tries_on : (ds : List Disposal) (packet : Judged) (number : ℕ) (before calls l : List Told) (call : Call) (reply : Reply) → goes_on call ≡ true → IsTrying ds packet number before calls l
      → IsTrying ds packet number before (calls ++ (record { call = call; reply = reply }) ∷ []) (with_told l call reply)
  tries_on ds packet number before calls l call reply e h =
      let t : Told = record { call = call; reply = reply } in
      let P : Told → Type 0 = λ (t : Told). goes_on t.call ≡ true in
      record {
        is = ap (λ xs. xs ++ t ∷ []) h.is ∙ append_assoc before (look_at seat packet number ∷ calls) (t ∷ []);
        here = h.here;
        at = h.at;
        on = All-append P calls (t ∷ []) h.on (All-cons P t [] e (All-nil P));
      }

  -- a reason among its calls
  was_lost : (ds : List Disposal) (packet : Judged) (number : ℕ) (before calls l : List Told) (d : Disposal) → IsReason seat packet.bytes before number calls d → IsTrying ds packet number before calls l
      → WasLost seat input l (length ds) d
  was_lost ds packet number before calls l d reason h = record {
    packet = packet;
    here = h.here;
    before = before;
    number = number;
    calls = calls;
    later = [];
    is = h.is ∙ ap (λ xs. before ++ (look_at seat packet number ∷ xs)) (sym (append-nil calls));
    at = h.at;
    on = h.on;
    reason = reason;
  }

  module _ (packet : Judged) (s : ℕ) where
    abbrev pieces : ℕ
    pieces = pieces_of seat packet.bytes

    abbrev Tried : Due → Kept → List Told → Type 0
    Tried due kept l = IsAttempt due packet s kept.disposals kept.spare l

    -- FILL was asked for the frames that are lacking, and gave too few
    gave_few : (reply : Reply) (kept : Kept) (l : List Told) → Tried nothing_due kept l → nat_le pieces (length kept.spare) ≡ false → length kept.spare + frames_given reply < pieces
        → WasLost seat input (with_told l (Peek (Fill pair) (pieces - length kept.spare)) reply) (length kept.disposals) NoFrames
    gave_few reply kept l h lacks few =
        let call = Peek (Fill pair) (pieces - length kept.spare) in
        let told : ℕ → List Told = λ n. (record { call = Peek (Fill pair) (pieces - n); reply = reply }) ∷ [] in
        elim h.asked [
          | inl fresh ↦
              was_lost kept.disposals packet h.number h.before (h.calls ++ told (length kept.spare)) (with_told l call reply) NoFrames
              (record { reply = reply; asked = ap (λ xs. xs ++ told (length kept.spare)) fresh.0 ∙ ap told fresh.1; few = omega (arith, few, fresh.1) })
              (tries_on kept.disposals packet h.number h.before h.calls l call reply refl h.tries)
          | inr lost ↦ still_lost seat input l (told (length kept.spare)) (length kept.disposals) NoFrames (lost lacks)
        ]

    -- what FILL gave may be enough
    gave : (items : List Item) (kept : Kept) (l : List Told) → Fits c l (Peek (Fill pair) (pieces - length kept.spare)) (Items items) → nat_le pieces (length kept.spare) ≡ false → Tried nothing_due kept l
        → Tried (release_due (Fill pair) (length items)) (supplied seat kept items) (with_told l (Peek (Fill pair) (pieces - length kept.spare)) (Items items))
    gave items kept l fits lacks h =
        let call = Peek (Fill pair) (pieces - length kept.spare) in
        let more : Kept = supplied seat kept items in
        record {
          number = h.number;
          before = h.before;
          calls = h.calls ++ (record { call = call; reply = Items items }) ∷ [];
          target = h.target;
          tries = tries_on kept.disposals packet h.number h.before h.calls l call (Items items) refl h.tries;
          asked = λ f.
              gave_few (Items items) kept l h lacks
              (omega (arith, leb-false pieces (length more.spare) f, length-append kept.spare (whole_frames c.geometry.chunk items), ap (λ (fs : List Frame). length fs) (all_whole c.geometry (Fill pair) items fits.lawful)));
        }

    gave_back : (n : ℕ) (kept : Kept) (l : List Told) → Tried (release_due (Fill pair) n) kept l → Tried nothing_due kept (with_told l (Release (Fill pair) n) Released)
    gave_back n kept l h =
        let t : Told = record { call = Release (Fill pair) n; reply = Released } in
        record {
          number = h.number;
          before = h.before;
          calls = h.calls ++ t ∷ [];
          target = h.target;
          tries = tries_on kept.disposals packet h.number h.before h.calls l (Release (Fill pair) n) Released refl h.tries;
          asked = inr (λ f. still_lost seat input l (t ∷ []) (length kept.disposals) NoFrames (h.asked f));
        }

    -- and where it wasn't, the packet is lost
    lacks_still : (kept : Kept) (l : List Told) → nat_le pieces (length kept.spare) ≡ false → HasTaken seat l → Tried nothing_due kept l → WasLost seat input l (length kept.disposals) NoFrames
    lacks_still kept l lacks taken h =
        elim h.asked [
          | inl fresh ↦
              let look = look_at seat packet h.number in
              let give : Told = record { call = Release (Fill seat.pair) taken.1; reply = Released } in
              let alone : l ≡ h.before ++ look ∷ [] = h.tries.is ∙ ap (λ xs. h.before ++ (look ∷ xs)) fresh.0 in
              let same : look ≡ give = same_last h.before taken.0 look give (sym alone ∙ taken.2) in
              let never : Look (Cell seat.port (cell_of packet.verdict)) ≡ Release (Fill seat.pair) taken.1 = ap (λ (t : Told). t.call) same in
              absurd (cc)
          | inr lost ↦ lost lacks
        ]

    found_full : (free : ℕ) (kept : Kept) (l : List Told) → Fits c l (Reserve (Rx s) pieces) (Full free) → Tried nothing_due kept l
        → WasLost seat input (with_told l (Reserve (Rx s) pieces) (Full free)) (length kept.disposals) RxFull
    found_full free kept l fits h =
        let t : Told = record { call = Reserve (Rx s) pieces; reply = Full free } in
        was_lost kept.disposals packet h.number h.before (h.calls ++ t ∷ []) (with_told l (Reserve (Rx s) pieces) (Full free)) RxFull
        (record { socket = s; target = h.target; earlier = h.calls; free = free; asked = refl; few = fits })
        (tries_on kept.disposals packet h.number h.before h.calls l (Reserve (Rx s) pieces) (Full free) refl h.tries)

    granted : (kept : Kept) (l : List Told) → Tried nothing_due kept l → Tried (submit_due (Rx s) pieces) kept (with_told l (Reserve (Rx s) pieces) Granted)
    granted kept l h = record {
      number = h.number;
      before = h.before;
      calls = h.calls ++ (record { call = Reserve (Rx s) pieces; reply = Granted }) ∷ [];
      target = h.target;
      tries = tries_on kept.disposals packet h.number h.before h.calls l (Reserve (Rx s) pieces) Granted refl h.tries;
      asked = tt;
    }

    -- what is submitted on RX are as many frames as the packet needs
    delivers : (kept : Kept) (l : List Told) → nat_le pieces (length kept.spare) ≡ true → Good kept l
        → Good (settled (record kept { spare = drop pieces kept.spare }) (Delivered s)) (with_told l (Submit (Rx s) (laid_out c.geometry packet.bytes (take pieces kept.spare))) Submitted)
    delivers kept l enough h =
        let items = laid_out c.geometry packet.bytes (take pieces kept.spare) in
        let give = Submit (Rx s) items in
        record {
          reasoned = one_unlost seat input (with_told l give Submitted) kept.disposals (Delivered s) (still_reasoned seat input l ((record { call = give; reply = Submitted }) ∷ []) kept.disposals h.reasoned) refl;
          count = omega (
            arith,
            length-drop pieces kept.spare,
            length-laid_out c.geometry packet.bytes (take pieces kept.spare),
            length-take-le pieces kept.spare (leb-true pieces (length kept.spare) enough),
            h.count,
            spare_told l give Submitted,
          );
        }

    -- the look at its cell begins an attempt
    looks_some : (n : ℕ) (kept : Kept) (l : List Told) → IsNext seat kept.coming packet → redirect_to seat.config seat.port seat.queue n ≡ Some s → HasDisposed seat input kept (attempts_of l) → Good kept l
        → Tried nothing_due kept (with_told l (Look (Cell seat.port (cell_of packet.verdict))) (Old n))
    looks_some n kept l next target has h = record {
      number = n;
      before = l;
      calls = [];
      target = target;
      tries = record {
        is = refl;
        here = first_dropped (length kept.disposals) input next.later packet (sym has.coming ∙ next.is);
        at = ap (λ (d : Disposed). length d.disposals) (sym has.all ∙ ap (passed seat kept.disposals) next.is ∙ passed-next seat kept.disposals packet next.later next.none);
        on = All-nil (λ (t : Told). goes_on t.call ≡ true);
      };
      asked = inl (refl, h.count);
    }

  -- ---- the law

  calls : AtCalls seat Meets At Asked
  calls (PeekFill Turning packet s) noted kept l known h = h.0.reasoned
  calls (ReleaseFill Turning packet s n) noted kept l known h = h.0.reasoned
  calls (ReserveRx packet s) noted kept l known h = h.0.reasoned
  calls (SubmitRx packet s) noted kept l known h = h.0.reasoned
  calls p noted kept l known h = h.reasoned

  entries : AtEntries seat Meets At Asked
  entries (told_bounced packet n) noted kept l known found h a q = let e = told_bounced packet n in settles kept Bounced _ refl (on kept (call_at seat (point_of e) kept) (Old n) l refl h)
  entries (looked_none packet n) noted kept l known found h a q = let e = looked_none packet n in settles kept Missed _ refl (on kept (call_at seat (point_of e) kept) (Old n) l refl h)
  entries (looked_long packet n s) noted kept l known found h a q = let e = looked_long packet n s in settles kept TooLong _ refl (on kept (call_at seat (point_of e) kept) (Old n) l refl h)
  entries (looked_some packet n s) noted kept l known found h a q =
      let e = looked_some packet n s in (on kept (call_at seat (point_of e) kept) (Old n) l refl h, looks_some packet s n kept l known found.0 q.0 h)
  entries (fill_empty Turning packet s) noted kept l known found h a q = (
    on kept (Peek (Fill pair) (pieces_of seat packet.bytes - length kept.spare)) Empty l (omega arith) h.0,
    gave_few packet s Empty kept l h.1 known.1 (omega (arith, leb-false (pieces_of seat packet.bytes) (length kept.spare) known.1)),
  )
  entries (fill_items Turning packet s items) noted kept l known found h a q =
      (supplies (pieces_of seat packet.bytes - length kept.spare) items kept l q.1 h.0, gave packet s items kept l q.1 known.1 h.1)
  entries (fill_released Turning packet s n) noted kept l known found h a q = (on kept (Release (Fill pair) n) Released l refl h.0, gave_back packet s n kept l h.1)
  entries (fill_empty Again packet s) noted kept l known found h a q = on kept (Peek (Fill pair) (pieces_of seat packet.bytes - length kept.spare)) Empty l (omega arith) h
  entries (fill_items Again packet s items) noted kept l known found h a q = supplies (pieces_of seat packet.bytes - length kept.spare) items kept l q.1 h
  entries (fill_released Again packet s n) noted kept l known found h a q = on kept (Release (Fill pair) n) Released l refl h
  entries (rx_granted packet s) noted kept l known found h a q = let e = rx_granted packet s in (on kept (call_at seat (point_of e) kept) Granted l refl h.0, granted packet s kept l h.1)
  entries (rx_full packet s free) noted kept l known found h a q = let e = rx_full packet s free in (on kept (call_at seat (point_of e) kept) (Full free) l refl h.0, found_full packet s free kept l q.1 h.1)
  entries (rx_submitted packet s) noted kept l known found h a q = delivers packet s kept l known.1 h.0
  entries e noted kept l known found h a q = on kept (call_at seat (point_of e) kept) (reply_of e) l refl h

  silent : AtSilent seat Meets At
  silent (untried packet later d) noted kept l = λ h e. settles kept d l (untried_unlost seat packet d e.1) h
  silent (too_few packet s) noted kept l = λ h e. (h.0, lacks_still packet s kept l e.2 e.3 h.1)
  silent (waits packet s full) noted kept l = λ h e. h.0
  silent (drops_full packet s) noted kept l = λ h e. loses kept RxFull l h.1 h.0
  silent (drops_frameless packet s) noted kept l = λ h e. loses kept NoFrames l h.1 h.0
  silent p noted kept l = λ h e. h

  pub law : IsLaw seat Meets At Asked Ended
  law = record { calls = calls; entries = entries; silent = silent; ends = λ noted kept l n known h a q. (on kept (Swap (Gone pair) 1) (Old n) l refl h).reasoned }
