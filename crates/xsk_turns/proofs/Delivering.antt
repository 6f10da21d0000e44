-- In a whole run what was submitted on an RX ring are the layouts of the packets that were delivered there, in order.
use Rattle.std.proofs.Common.{◌≡◌, ℕ, ◌-◌, ◌*◌, ◌≤◌, ◌⊎◌, inl, inr, Bool, true, false, cond, eqb, nat_lt, nat_le, List, [], ◌∷◌, ◌++◌, length, map, flat_map, take, drop, All, refl, sym, ap, ◌∙◌, subst, append-nil, append_assoc, length-append, length-take-le, arith, IsTrue, if◌then◌else◌, leb-true}
use Rattle.xsk_turns.proofs.Owned.{none_submitted, other_submitted}
use Rattle.std.proofs.lemmas.Bool.{ltb-false}
use Rattle.std.proofs.lemmas.Bool.Decides.{nat_tests}
use Rattle.std.proofs.lemmas.List.Concat.{flat_map-append}
use Rattle.std.proofs.lemmas.List.Elements.{All-nil, All-cons, All-append, All-take, All-drop}
use Rattle.xsk_turns.proofs.Object.{Geometry, Frame, payload_of, Config, classes_of, IsLayout, submitted, submitted_step, submitted_of, Fits}
use Rattle.xsk_turns.proofs.Calls.{Item, Told, with_told, Fill, Comp, Rx, RxDone, Gone, TxDone, Call, Submit, Peek, Swap, Look, Reply, Submitted, Items, Old}
use Rattle.xsk_model.proofs.Folds.{part_of-push}
use Rattle.xsk_turns.specs.Script.{Script, Asks}
use Rattle.xsk_turns.specs.Turns.{Seat, Judged, Kept, IsWholeDriverRun, seat_of, start, turn, settled, application_of, limit_of, pieces_of, laid_out, frames_in, returned, supplied}
use Rattle.xsk_turns.specs.Disposals.{attempts_of, disposals_of, disposal_in, is_to, with_disposal, delivered_to, bytes_in}
use Rattle.xsk_turns.specs.Owned.{IsSeat, AllFit}
use Rattle.xsk_turns.specs.Law.{AreLayouts, IsLaidOut, IsSized, DeliversInOrder, DeliversSized, DeliversAsSaid}
use Rattle.xsk_model.specs.Steering.{packet_limit}
use Rattle.xsk_turns.specs.declared.wire.Wire.{Wire}
use Rattle.xsk_turns.specs.declared.disposal.Disposal.{Disposal}
use Rattle.xsk_turns.specs.declared.disposal.Disposal.TheVariants.{Delivered, NoFrames, RxFull, TooLong, Missed, Bounced}
use Rattle.xsk_turns.proofs.Rooms.{IsOwnFrame, own_frames, all_whole}
use Rattle.xsk_turns.proofs.Layouts.{layout, one_piece, length-laid_out}
use Rattle.xsk_turns.proofs.Disposing.{IsOver, over_later, disposes_all}
use Rattle.xsk_turns.proofs.Saying.{disposed_as_said}
use Rattle.xsk_turns.proofs.Walks.{Fitting, meet_fitting}
use Rattle.xsk_turns.proofs.DriverStages.{Family, Begins, TellRxDone, IsTried, call_at, told_rx_done, told_bounced, looked_none, looked_long, fill_items, rx_submitted, comp_submitted, looked_tx_done, found_end, point_of, reply_of, untried, drops_full, drops_frameless, parks, untried_has, AtCalls, AtEntries, AtSilent, IsLaw}
use Rattle.xsk_turns.proofs.DriverWalk.{at_call, at_end}

-- ---- lists of layouts

layouts-append : (g : Geometry) (sg : Bool) (packets : List (List ℕ)) (layouts : List (List Item)) (packet : List ℕ) (items : List Item)
    → AreLayouts g sg packets layouts → IsLayout g sg packet items → AreLayouts g sg (packets ++ packet ∷ []) (layouts ++ items ∷ [])
layouts-append g sg [] [] packet items h k = (k, tt)
layouts-append g sg [] (x ∷ layouts) packet items h k = absurd h
layouts-append g sg (p ∷ packets) [] packet items h k = absurd h
layouts-append g sg (p ∷ packets) (x ∷ layouts) packet items h k = (h.0, layouts-append g sg packets layouts packet items h.1 k)

laid_out-more : (g : Geometry) (sg : Bool) (packets : List (List ℕ)) (all : List Item) (packet : List ℕ) (items : List Item)
    → IsLaidOut g sg packets all → IsLayout g sg packet items → IsLaidOut g sg (packets ++ packet ∷ []) (all ++ items)
laid_out-more g sg packets all packet items h k =
    let id : List Item → List Item = λ (layout : List Item). layout in (
      h.0 ++ items ∷ [],
      ap (λ xs. xs ++ items) h.1 ∙ ap (λ xs. flat_map (λ (layout : List Item). layout) h.0 ++ xs) (sym (append-nil items))
          ∙ sym (flat_map-append (λ (layout : List Item). layout) h.0 (items ∷ [])),
      layouts-append g sg packets h.0 packet items h.2 k,
    )

-- ---- what holds

-- packets that have their disposals, and what was submitted of them
pub record IsGiven (c : Config) (s : ℕ) (input coming : List Judged) (ds : List Disposal) (items : List Item) : Type 0 where
  pub done : List Judged
  pub parts : done ++ coming ≡ input
  pub each : length done ≡ length ds
  pub laid : IsLaidOut c.geometry c.sg (with_disposal s done ds) items
  pub sized : All (IsSized c) (with_disposal s done ds)

behind_if : (b : Bool) (packet : List ℕ) (front back : List (List ℕ)) → cond b (packet ∷ front ++ back) (front ++ back) ≡ cond b (packet ∷ front) front ++ back
behind_if true packet front back = refl
behind_if false packet front back = refl

with_disposal-push : (s : ℕ) (done : List Judged) (ds : List Disposal) (packet : Judged) (d : Disposal) → length done ≡ length ds
    → with_disposal s (done ++ packet ∷ []) (ds ++ d ∷ []) ≡ with_disposal s done ds ++ cond (is_to s d) (packet.bytes ∷ []) []
with_disposal-push s [] [] packet d e = refl
with_disposal-push s [] (x ∷ ds) packet d e = absurd (omega (arith, e))
with_disposal-push s (p ∷ done) [] packet d e = absurd (omega (arith, e))
with_disposal-push s (p ∷ done) (x ∷ ds) packet d e =
    ap (λ ps. cond (is_to s x) (p.bytes ∷ ps) ps) (with_disposal-push s done ds packet d (omega (arith, e)))
    ∙ behind_if (is_to s x) p.bytes (with_disposal s done ds) (cond (is_to s d) (packet.bytes ∷ []) [])

parts_more : (done coming input : List Judged) (packet : Judged) (later : List Judged) → coming ≡ packet ∷ later → done ++ coming ≡ input
    → (done ++ packet ∷ []) ++ drop 1 coming ≡ input
parts_more done coming input packet later e h =
    ap (λ xs. (done ++ packet ∷ []) ++ drop 1 xs) e ∙ append_assoc done (packet ∷ []) later ∙ ap (λ xs. done ++ xs) (sym e) ∙ h

module _ (c : Config) (s : ℕ) (input coming : List Judged) (ds : List Disposal) (items : List Item) (packet : Judged) (later : List Judged) (is : coming ≡ packet ∷ later) (h : IsGiven c s input coming ds items) where
  one_more : (d : Disposal) → length (h.done ++ packet ∷ []) ≡ length (ds ++ d ∷ [])
  one_more d = omega (arith, length-append h.done (packet ∷ []), length-append ds (d ∷ []), h.each)

  -- a packet that isn't delivered to the socket
  passes_by : (d : Disposal) → is_to s d ≡ false → IsGiven c s input (drop 1 coming) (ds ++ d ∷ []) items
  passes_by d off =
      let same : with_disposal s (h.done ++ packet ∷ []) (ds ++ d ∷ []) ≡ with_disposal s h.done ds =
      with_disposal-push s h.done ds packet d h.each ∙ ap (λ b. with_disposal s h.done ds ++ cond b (packet.bytes ∷ []) []) off ∙ append-nil (with_disposal s h.done ds) in
      record {
        done = h.done ++ packet ∷ [];
        parts = parts_more h.done coming input packet later is h.parts;
        each = one_more d;
        laid = subst (λ ps. IsLaidOut c.geometry c.sg ps items) (sym same) h.laid;
        sized = subst (All (IsSized c)) (sym same) h.sized;
      }

  -- one that is
  comes : (d : Disposal) (more : List Item) → is_to s d ≡ true → IsLayout c.geometry c.sg packet.bytes more → IsSized c packet.bytes → IsGiven c s input (drop 1 coming) (ds ++ d ∷ []) (items ++ more)
  comes d more on layout sized =
      let one : with_disposal s (h.done ++ packet ∷ []) (ds ++ d ∷ []) ≡ with_disposal s h.done ds ++ packet.bytes ∷ [] =
      with_disposal-push s h.done ds packet d h.each ∙ ap (λ b. with_disposal s h.done ds ++ cond b (packet.bytes ∷ []) []) on in
      record {
        done = h.done ++ packet ∷ [];
        parts = parts_more h.done coming input packet later is h.parts;
        each = one_more d;
        laid = subst (λ ps. IsLaidOut c.geometry c.sg ps (items ++ more)) (sym one) (laid_out-more c.geometry c.sg (with_disposal s h.done ds) items packet.bytes more h.laid layout);
        sized = subst (All (IsSized c)) (sym one)
            (All-append (IsSized c) (with_disposal s h.done ds) (packet.bytes ∷ []) h.sized (All-cons (IsSized c) packet.bytes [] sized (All-nil (IsSized c))));
      }

  either : (t : ℕ) (more : List Item) (same : Bool) → is_to s (Delivered t) ≡ same → IsLayout c.geometry c.sg packet.bytes more → IsSized c packet.bytes
      → IsGiven c s input (drop 1 coming) (ds ++ Delivered t ∷ []) (cond same (items ++ more) items)
  either t more true e layout sized = comes (Delivered t) more e layout sized
  either t more false e layout sized = passes_by (Delivered t) e

same_number : (s t : ℕ) (x y : Bool) → eqb t s ≡ x → eqb s t ≡ y → x ≡ y
same_number s t true true e f = refl
same_number s t true false e f = absurd (grind (arith, nat_tests))
same_number s t false true e f = absurd (grind (arith, nat_tests))
same_number s t false false e f = refl

short_enough : (sg : Bool) (len payload : ℕ) → nat_lt ((if sg then 18 else 1) * payload) len ≡ false → IsTrue sg ⊎ (len ≤ 1 * payload)
short_enough true len payload e = inl refl
short_enough false len payload e = inr (ltb-false (1 * payload) len e)

long_some : (n : ℕ) → nat_lt n 14 ≡ false → 1 ≤ n
long_some n e = omega (arith, ltb-false n 14 e)

module _ (wire : Wire) (c : Config) (d s : ℕ) (is : IsSeat c d) (input : List Judged) where
  abbrev seat : Seat
  seat = seat_of wire c d

  pub record IsSettled (kept : Kept) (l : List Told) : Type 0 where
    pub given : IsGiven c s input kept.coming kept.disposals (submitted_of (Rx s) l)
    pub spare : All (IsOwnFrame c.geometry) kept.spare
    pub over : IsOver kept.rx_done kept.tx_done kept.coming

  abbrev pub At : Family
  At place noted kept l = IsSettled kept l

  abbrev pub Asked : Kept → Call → List Told → Type 0
  Asked kept call l = IsGiven c s input kept.coming kept.disposals (submitted_of (Rx s) l)

  abbrev pub Ended : Kept → List Told → Type 0
  Ended kept l = IsGiven c s input kept.coming kept.disposals (submitted_of (Rx s) l) × (kept.coming ≡ [])

  still : (kept : Kept) (l : List Told) (call : Call) (reply : Reply) → submitted call ≡ [] → IsSettled kept l → IsSettled kept (with_told l call reply)
  still kept l call reply e h = record {
    given = subst (IsGiven c s input kept.coming kept.disposals) (sym (none_submitted (Rx s) l call reply e)) h.given;
    spare = h.spare;
    over = h.over;
  }

  -- the packet laid out in spare frames is its layout
  is_layout : (kept : Kept) (packet : List ℕ) → nat_lt (length packet) 14 ≡ false → nat_lt (limit_of seat) (length packet) ≡ false
      → nat_le (pieces_of seat packet) (length kept.spare) ≡ true → All (IsOwnFrame c.geometry) kept.spare
      → IsLayout c.geometry c.sg packet (laid_out c.geometry packet (take (pieces_of seat packet) kept.spare))
  is_layout kept packet long fits enough own =
      let frames = take (pieces_of seat packet) kept.spare in
      let count : length frames ≡ pieces_of seat packet = length-take-le (pieces_of seat packet) kept.spare (leb-true (pieces_of seat packet) (length kept.spare) enough) in
      let some : 1 ≤ length packet = long_some (length packet) long in
      let single : IsTrue c.sg ⊎ (length (laid_out c.geometry packet frames) ≡ 1) =
      elim (short_enough c.sg (length packet) (payload_of c.geometry) fits) [
        | inl sg ↦ inl sg
        | inr few ↦ inr (length-laid_out c.geometry packet frames ∙ count ∙ one_piece c.geometry is.geometry packet some few)
      ] in
      layout c.geometry is.geometry c.sg packet frames some count (All-take (IsOwnFrame c.geometry) (pieces_of seat packet) kept.spare own) single

  is_delivered : (kept : Kept) (l : List Told) (packet : Judged) (t : ℕ) → IsTried seat (Fitting c) kept.coming packet t → nat_le (pieces_of seat packet.bytes) (length kept.spare) ≡ true → IsSettled kept l
      → IsGiven c s input (drop 1 kept.coming) (kept.disposals ++ Delivered t ∷ []) (submitted_of (Rx s) (with_told l (Submit (Rx t) (laid_out c.geometry packet.bytes (take (pieces_of seat packet.bytes) kept.spare))) Submitted))
  is_delivered kept l packet t tried enough h =
      let items = laid_out c.geometry packet.bytes (take (pieces_of seat packet.bytes) kept.spare) in
      let told : Told = record { call = Submit (Rx t) items; reply = Submitted } in
      let same : is_to s (Delivered t) ≡ eqb s t = same_number s t (eqb t s) (eqb s t) refl refl in
      subst (IsGiven c s input (drop 1 kept.coming) (kept.disposals ++ Delivered t ∷ [])) (sym (part_of-push submitted_step (Rx s) [] l told))
      (either c s input kept.coming kept.disposals (submitted_of (Rx s) l) packet tried.next.later tried.next.is h.given t items (eqb s t) same
      (is_layout kept packet.bytes tried.next.long tried.fits enough h.spare) (record { long = ltb-false _ 14 tried.next.long; few = ltb-false (packet_limit c) _ tried.fits }))

  all_given : (kept : Kept) (l : List Told) → kept.tx_done ≡ true → IsSettled kept l → Ended kept l
  all_given kept l done h = (h.given, h.over.none (h.over.first done))

  -- a packet that isn't delivered
  skips : (kept : Kept) (packet : Judged) (later : List Judged) (x : Disposal) (l : List Told) → kept.coming ≡ packet ∷ later → is_to s x ≡ false → IsSettled kept l
      → IsSettled (settled kept x) l
  skips kept packet later x l e off h = record {
    given = passes_by c s input kept.coming kept.disposals (submitted_of (Rx s) l) packet later e h.given x off;
    spare = h.spare;
    over = over_later kept.rx_done kept.tx_done kept.coming h.over;
  }

  -- frames that come by FILL are whole
  supplies : (kept : Kept) (l : List Told) (n : ℕ) (items : List Item) → Fits c l (Peek (Fill d) n) (Items items) → IsSettled kept l → IsSettled (supplied seat kept items) (with_told l (Peek (Fill d) n) (Items items))
  supplies kept l n items q h =
      let now = still kept l (Peek (Fill d) n) (Items items) refl h in
      record {
        given = now.given;
        spare = subst (λ (fs : List Frame). All (IsOwnFrame c.geometry) (kept.spare ++ fs)) (sym (all_whole c.geometry (Fill d) items q.lawful))
            (All-append (IsOwnFrame c.geometry) kept.spare (frames_in items) now.spare (own_frames c.geometry (Fill d) items q.lawful));
        over = now.over;
      }

  calls : AtCalls seat (Fitting c) At Asked
  calls TellRxDone noted kept l known h = h.given
  calls p noted kept l known h = h.given

  entries : AtEntries seat (Fitting c) At Asked
  entries (told_rx_done n) noted kept l known found h a q =
      let now = still kept l (Swap (RxDone d) 1) (Old n) refl h in record { given = now.given; spare = now.spare; over = record { none = λ x. known.0; first = λ x. refl } }
  entries (told_bounced packet n) noted kept l known found h a q = skips kept packet known.later Bounced _ known.is refl (still kept l _ (Old n) refl h)
  entries (looked_none packet n) noted kept l known found h a q = skips kept packet known.later Missed _ known.is refl (still kept l _ (Old n) refl h)
  entries (looked_long packet n t) noted kept l known found h a q =
      let now = skips kept packet known.later TooLong _ known.is refl (still kept l _ (Old n) refl h) in
      record { given = now.given; spare = now.spare; over = now.over }
  entries (fill_items look packet t items) noted kept l known found h a q = supplies kept l (pieces_of seat packet.bytes - length kept.spare) items q h
  entries (rx_submitted packet t) noted kept l known found h a q = record {
    given = is_delivered kept l packet t known.0 known.1 h;
    spare = All-drop (IsOwnFrame c.geometry) (pieces_of seat packet.bytes) kept.spare h.spare;
    over = over_later kept.rx_done kept.tx_done kept.coming h.over;
  }
  entries (comp_submitted k packet later) noted kept l known found h a q = record {
    given = subst (IsGiven c s input kept.coming kept.disposals) (sym (other_submitted (Rx s) l (Submit (Comp d) (map returned packet)) Submitted refl)) h.given;
    spare = h.spare;
    over = h.over;
  }
  entries (looked_tx_done n) noted kept l known found h a q =
      let now = still kept l (Look (TxDone (application_of seat))) (Old n) refl h in record { given = now.given; spare = now.spare; over = record { none = now.over.none; first = λ x. known.0 } }
  entries (found_end n) noted kept l known found h a q =
      let now = still kept l (Look (TxDone (application_of seat))) (Old n) refl h in record { given = now.given; spare = now.spare; over = record { none = now.over.none; first = λ x. known.1 } }
  entries e noted kept l known found h a q =
      let now = still kept l (call_at seat (point_of e) kept) (reply_of e) refl h in record { given = now.given; spare = now.spare; over = now.over }

  silent : AtSilent seat (Fitting c) At
  silent (untried packet later x) noted kept l = λ h e. skips kept packet later x l e.0 (untried_has (λ x. is_to s x ≡ false) refl refl refl refl seat packet x e.1) h
  silent (drops_full packet t) noted kept l = λ h e. skips kept packet e.0.next.later RxFull l e.0.next.is refl h
  silent (drops_frameless packet t) noted kept l = λ h e.
      let now = skips kept packet e.0.next.later NoFrames l e.0.next.is refl h in record { given = now.given; spare = now.spare; over = now.over }
  silent parks noted kept l = λ h e. record { given = h.given; spare = h.spare; over = h.over }
  silent p noted kept l = λ h e. h

  pub law : IsLaw seat (Fitting c) At Asked Ended
  law = record {
    calls = calls;
    entries = entries;
    silent = silent;
    ends = λ noted kept l n known h a q. all_given kept (with_told l (Swap (Gone d) 1) (Old n)) known.2 (still kept l (Swap (Gone d) 1) (Old n) refl h);
  }

  pub at_first : Begins At (start (classes_of c) input) []
  at_first = record {
    given = record { done = []; parts = refl; each = refl; laid = ([], refl, tt); sized = All-nil (IsSized c) };
    spare = All-nil (IsOwnFrame c.geometry);
    over = record { none = λ e. absurd (cc); first = λ e. absurd (cc) };
  }

-- so what was submitted so far are layouts at each call
pub laid_at : (wire : Wire) (c : Config) (d s : ℕ) (input : List Judged) (l : List Told) (kept : Kept) (call : Call) (rest : Reply → Script Kept) → IsSeat c d → AllFit c [] l
    → Asks (turn (seat_of wire c d)) (start (classes_of c) input) l kept call rest
    → (packets : List (List ℕ)) × IsLaidOut c.geometry c.sg packets (submitted_of (Rx s) l) × All (IsSized c) packets
laid_at wire c d s input l kept call rest is fit asks =
    let at = seat_of wire c d in
    let given = at_call at (Fitting c) (At wire c d s is input) (Asked wire c d s is input) (Ended wire c d s is input) (law wire c d s is input) (start (classes_of c) input) (at_first wire c d s is input) l
    (meet_fitting (turn at) c _ [] l fit) kept call rest asks in
    (with_disposal s given.done kept.disposals, given.laid, given.sized)

module _ (wire : Wire) (c : Config) (d s : ℕ) (input : List Judged) (l : List Told) (is : IsSeat c d) (fit : AllFit c [] l) (whole : IsWholeDriverRun wire c d input l) where
  abbrev all_delivered : List (List ℕ)
  all_delivered = with_disposal s input (disposals_of (seat_of wire c d) input (attempts_of l))

  at_last : IsLaidOut c.geometry c.sg all_delivered (submitted_of (Rx s) l) × All (IsSized c) all_delivered
  at_last =
      let at = seat_of wire c d in
      let over = at_end at (Fitting c) (At wire c d s is input) (Asked wire c d s is input) (Ended wire c d s is input) (law wire c d s is input) (start (classes_of c) input) (at_first wire c d s is input) l
      (meet_fitting (turn at) c _ [] l fit) whole.0 whole.1 in
      let given = over.0 in
      let all : given.done ≡ input = sym (append-nil given.done) ∙ ap (λ xs. given.done ++ xs) (sym over.1) ∙ given.parts in
      subst (λ ds. IsLaidOut c.geometry c.sg (with_disposal s input ds) (submitted_of (Rx s) l) × All (IsSized c) (with_disposal s input ds)) (disposes_all wire c d input l whole.0 whole.1).disposals
      (subst (λ ps. IsLaidOut c.geometry c.sg (with_disposal s ps whole.0.disposals) (submitted_of (Rx s) l) × All (IsSized c) (with_disposal s ps whole.0.disposals)) all (given.laid, given.sized))

pub delivers_in_order : DeliversInOrder
delivers_in_order wire c d s input l is fit whole = (at_last wire c d s input l is fit whole).0

pub delivers_sized : DeliversSized
delivers_sized wire c d s input l is fit whole = (at_last wire c d s input l is fit whole).1

-- ---- where the wire waits

pub bytes_if : (b : Bool) (p : Judged) (l : List Judged) → cond b (p.bytes ∷ bytes_in l) (bytes_in l) ≡ bytes_in (cond b (p ∷ l) l)
bytes_if true p l = refl
bytes_if false p l = refl

-- the packets that the configuration delivers to a socket
pub with_disposal_is : (seat : Seat) (s : ℕ) (ps : List Judged) → with_disposal s ps (map (disposal_in seat) ps) ≡ bytes_in (delivered_to seat s ps)
with_disposal_is at s [] = refl
with_disposal_is at s (packet ∷ ps) =
    ap (λ l. cond (is_to s (disposal_in at packet)) (packet.bytes ∷ l) l) (with_disposal_is at s ps)
    ∙ bytes_if (is_to s (disposal_in at packet)) packet (delivered_to at s ps)

pub delivers_as_said : DeliversAsSaid
delivers_as_said wire c d s input l waits closes is fit whole =
    subst (λ ps. IsLaidOut c.geometry c.sg ps (submitted_of (Rx s) l))
    (ap (with_disposal s input) (disposed_as_said wire c d input l waits closes fit whole) ∙ with_disposal_is (seat_of wire c d) s input)
    (delivers_in_order wire c d s input l is fit whole)
