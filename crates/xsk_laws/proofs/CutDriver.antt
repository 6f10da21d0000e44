-- What a driver that waits has delivered to a socket after the first of its calls: where each cell that it looked at led there exactly if
-- it was configured so, these are the first of the packets that go there.
use Rattle.std.proofs.Common.{◌≡◌, ℕ, Bool, true, false, cond, eqb, nat_lt, Option, Some, None, List, [], ◌∷◌, ◌++◌, length, map, drop, slice_index, All, refl, sym, ap, ◌∙◌, subst, arith, append-nil, append_assoc}
use Rattle.std.specs.List.{filter}
use Rattle.std.proofs.lemmas.List.{length-map, map-append}
use Rattle.xsk_model.specs.Config.{Config, pair_at, classes_of, map_of}
use Rattle.xsk_model.specs.Entry.{Told}
use Rattle.xsk_model.specs.History.{Fits}
use Rattle.xsk_model.specs.Own.{submitted_of}
use Rattle.xsk_turns.proofs.Calls.{Rx, Cell, Call, Look, Reply, Old}
use Rattle.xsk_turns.specs.Script.{Script, ask, begun}
use Rattle.xsk_turns.specs.Turns.{Seat, Judged, Kept, Noted, drops, seat_of, start, turn, cell_of, redirect_to, limit_of, IsDriverRun, IsWholeDriverRun}
use Rattle.xsk_turns.specs.Disposals.{disposal_to, disposal_in, is_to, with_disposal, delivered_to, bytes_in}
use Rattle.xsk_turns.specs.Owned.{IsSeat, AllFit}
use Rattle.xsk_turns.specs.Law.{IsLaidOut, IsSized}
use Rattle.xsk_turns.specs.declared.wire.Wire.{Wire}
use Rattle.xsk_turns.specs.declared.disposal.Disposal.{Disposal}
use Rattle.xsk_turns.specs.declared.disposal.Disposal.TheVariants.{Delivered, TooLong, Missed, Bounced}
use Rattle.xsk_turns.proofs.Saying.{in-untried, in-bounced, in-cell}
use Rattle.xsk_turns.proofs.Delivering.{IsGiven, bytes_if}
use Rattle.xsk_turns.proofs.Delivering as delivering
use Rattle.xsk_turns.proofs.Walks.{Premise, MeetAlong, Fitting}
use Rattle.xsk_turns.proofs.DriverStages.{Family, Point, Known, TellRxDone, PeekFill, ReleaseFill, ReserveRx, SubmitRx, asked, call_at, kept_at, IsNext, IsTried, told_bounced, looked_none, looked_long, rx_submitted, point_of, untried, too_few, waits, drops_full, drops_frameless, seeks, Said, AtEntries, AtSilent, IsLaw, together}
use Rattle.xsk_turns.proofs.DriverWalk.{at_end, of_run}

-- ---- a law stands under a stronger premise

module _ (seat : Seat) (P Q : Premise Kept) (weaker : (kept : Kept) (l : List Told) (call : Call) (reply : Reply) → Q kept l call reply → P kept l call reply) where
  tried_weaker : (coming : List Judged) (packet : Judged) (s : ℕ) → IsTried seat Q coming packet s → IsTried seat P coming packet s
  tried_weaker coming packet s h = record {
    next = h.next;
    number = h.number;
    looked = (h.looked.0, h.looked.1, weaker h.looked.0 h.looked.1 _ _ h.looked.2);
    target = h.target;
    fits = h.fits;
  }

  known_weaker : (p : Point) (noted : Noted) (kept : Kept) → Known seat Q p noted kept → Known seat P p noted kept
  known_weaker (PeekFill look packet s) noted kept h = (tried_weaker kept.coming packet s h.0, h.1)
  known_weaker (ReleaseFill look packet s n) noted kept h = tried_weaker kept.coming packet s h
  known_weaker (ReserveRx packet s) noted kept h = (tried_weaker kept.coming packet s h.0, h.1)
  known_weaker (SubmitRx packet s) noted kept h = (tried_weaker kept.coming packet s h.0, h.1)
  known_weaker p noted kept h = h

  module _ (At : Family) (A : Said) (E : Kept → List Told → Type 0) (is : IsLaw seat P At A E) where
    passes_weaker : AtSilent seat Q At
    passes_weaker (too_few packet s) noted kept l = λ h e. is.silent (too_few packet s) noted kept l h (tried_weaker kept.coming packet s e.0, e.1, e.2, e.3)
    passes_weaker (waits packet s full) noted kept l = λ h e. is.silent (waits packet s full) noted kept l h (tried_weaker kept.coming packet s e.0, e.1)
    passes_weaker (drops_full packet s) noted kept l = λ h e. is.silent (drops_full packet s) noted kept l h (tried_weaker kept.coming packet s e.0, e.1)
    passes_weaker (drops_frameless packet s) noted kept l = λ h e. is.silent (drops_frameless packet s) noted kept l h (tried_weaker kept.coming packet s e.0, e.1, e.2)
    passes_weaker (seeks packet s) noted kept l = λ h e. is.silent (seeks packet s) noted kept l h (tried_weaker kept.coming packet s e.0, e.1)
    passes_weaker p noted kept l = λ h e. is.silent p noted kept l h e

    law_weaker : IsLaw seat Q At A E
    law_weaker = record {
      calls = λ p noted kept l known h. is.calls p noted kept l (known_weaker p noted kept known) h;
      entries = λ e noted kept l known found h a q. is.entries e noted kept l (known_weaker (point_of e) noted kept known) found h a (weaker _ _ _ _ q);
      silent = passes_weaker;
      ends = λ noted kept l n known h a q. is.ends noted kept l n known h a (weaker _ _ _ _ q);
    }

-- ---- cells that lead to a socket exactly if they are configured so

abbrev pub leads : Option ℕ → ℕ → Bool
leads None s = false
leads (Some t) s = eqb t s

-- on a port and queue
abbrev pub LeadsAs : Config → ℕ → ℕ → ℕ → Call → Reply → Type 0
LeadsAs c o q s (Look (Cell port index)) (Old n) = port ≡ o → leads (redirect_to c o q n) s ≡ leads (redirect_to c o q (slice_index (map_of c o) index)) s
LeadsAs c o q s call reply = Unit {0}

abbrev pub AllLead : Config → ℕ → ℕ → ℕ → List Told → Type 0
AllLead c o q s [] = Unit {0}
AllLead c o q s (t ∷ l) = LeadsAs c o q s t.call t.reply × AllLead c o q s l

-- a reply that fits, and does so
record IsShown (c : Config) (o q s : ℕ) (past : List Told) (call : Call) (reply : Reply) : Type 0 where
  pub fits : Fits c past call reply
  pub leads : LeadsAs c o q s call reply

abbrev Leading : Config → ℕ → ℕ → ℕ → Premise Kept
Leading c o q s kept past call reply = IsShown c o q s past call reply

meet_leading : (turn : Kept → Script Kept) (c : Config) (o q s : ℕ) (script : Script Kept) (past l : List Told) → AllFit c past l → AllLead c o q s l → MeetAlong turn (Leading c o q s) script past l
meet_leading turn c o q s (ask kept call rest) past [] fit lead = tt
meet_leading turn c o q s (ask kept call rest) past (t ∷ l) fit lead =
    (record { fits = fit.0.0; leads = lead.0 }, meet_leading turn c o q s (begun turn (rest t.reply)) (past ++ t ∷ []) l fit.1 lead.1)
meet_leading turn c o q s script past l fit lead = tt

-- then what becomes of the packet is to be delivered there or not, as it is configured
goes_so : (seat : Seat) (packet : List ℕ) (s : ℕ) (r : Option ℕ) → is_to s (disposal_to seat packet r) ≡ cond (nat_lt (limit_of seat) (length packet)) false (leads r s)
goes_so seat packet s None = by (nat_lt (limit_of seat) (length packet))
  where
    by : (b : Bool) → false ≡ cond b false false
    by true = refl
    by false = refl
goes_so seat packet s (Some t) = by (nat_lt (limit_of seat) (length packet))
  where
    by : (b : Bool) → is_to s (cond b TooLong (Delivered t)) ≡ cond b false (eqb t s)
    by true = refl
    by false = refl

goes_alike : (seat : Seat) (packet : List ℕ) (s : ℕ) (r x : Option ℕ) → leads r s ≡ leads x s → is_to s (disposal_to seat packet r) ≡ is_to s (disposal_to seat packet x)
goes_alike seat packet s r x e = goes_so seat packet s r ∙ ap (λ b. cond (nat_lt (limit_of seat) (length packet)) false b) e ∙ sym (goes_so seat packet s x)

-- ---- the law

module _ (wire : Wire) (c : Config) (d s : ℕ) (is : IsSeat c d) (input : List Judged) (none_drop : drops wire ≡ false) where
  abbrev seat : Seat
  seat = seat_of wire c d

  abbrev Shown : Premise Kept
  Shown kept past call reply = Leading c (pair_at c.pairs d).port (pair_at c.pairs d).queue s kept past call reply

  -- whether a packet is to be delivered to the socket
  abbrev goes : Judged → Bool
  goes packet = is_to s (disposal_in seat packet)

  record IsSaid (ds : List Disposal) (coming : List Judged) : Type 0 where
    pub said : map (is_to s) ds ++ map goes coming ≡ map goes input

  abbrev At : Family
  At place noted kept l = IsSaid kept.disposals kept.coming

  abbrev Asked : Said
  Asked kept call l = IsSaid kept.disposals kept.coming

  abbrev Ended : Kept → List Told → Type 0
  Ended kept l = IsSaid kept.disposals kept.coming

  settles : (ds : List Disposal) (coming later : List Judged) (packet : Judged) (x : Disposal) → coming ≡ packet ∷ later → is_to s x ≡ goes packet → IsSaid ds coming → IsSaid (ds ++ x ∷ []) (drop 1 coming)
  settles ds coming later packet x e f h = record {
    said = ap (λ xs. map (is_to s) (ds ++ x ∷ []) ++ map goes (drop 1 xs)) e ∙ ap (λ bs. bs ++ map goes later) (map-append (is_to s) ds (x ∷ []))
        ∙ append_assoc (map (is_to s) ds) (is_to s x ∷ []) (map goes later) ∙ ap (λ b. map (is_to s) ds ++ b ∷ map goes later) f
        ∙ ap (λ xs. map (is_to s) ds ++ map goes xs) (sym e) ∙ h.said;
  }

  -- the packet's cell was found to have this number
  found_so : (coming : List Judged) (packet : Judged) (next : IsNext seat coming packet) (n : ℕ)
      → (seat.port ≡ seat.port → leads (redirect_to c seat.port seat.queue n) s ≡ leads (redirect_to c seat.port seat.queue (slice_index (map_of c seat.port) (cell_of packet.verdict))) s)
      → is_to s (disposal_to seat packet.bytes (redirect_to c seat.port seat.queue n)) ≡ goes packet
  found_so coming packet next n q =
      let configured = slice_index (map_of c seat.port) (cell_of packet.verdict) in
      goes_alike seat packet.bytes s (redirect_to c seat.port seat.queue n) (redirect_to c seat.port seat.queue configured) (q refl)
      ∙ sym (ap (is_to s) (in-cell seat packet configured next.none next.stays refl))

  calls : (p : Point) (noted : Noted) (kept : Kept) (l : List Told) → Known seat Shown p noted kept → delivering.At wire c d s is input (asked seat p kept).0 noted kept l → At (asked seat p kept).0 noted kept l → Asked (kept_at seat p kept) (call_at seat p kept) l
  calls TellRxDone noted kept l known given h = h
  calls p noted kept l known given h = h

  entries : AtEntries seat Shown At Asked
  entries (told_bounced packet n) noted kept l known found h a q = settles kept.disposals kept.coming known.later packet Bounced known.is (ap (is_to s) (sym (in-bounced seat packet known.none known.bounces))) h
  entries (looked_none packet n) noted kept l known found h a q =
      settles kept.disposals kept.coming known.later packet Missed known.is (ap (λ r. is_to s (disposal_to seat packet.bytes r)) (sym found) ∙ found_so kept.coming packet known n q.leads) h
  entries (looked_long packet n t) noted kept l known found h a q =
      settles kept.disposals kept.coming known.later packet TooLong known.is
      (ap (λ b. is_to s (cond b TooLong (Delivered t))) (sym found.1) ∙ ap (λ r. is_to s (disposal_to seat packet.bytes r)) (sym found.0) ∙ found_so kept.coming packet known n q.leads) h
  entries (rx_submitted packet t) noted kept l known found h a q =
      let tried = known.0 in
      settles kept.disposals kept.coming tried.next.later packet (Delivered t) tried.next.is
      (ap (λ b. is_to s (cond b TooLong (Delivered t))) (sym tried.fits) ∙ ap (λ r. is_to s (disposal_to seat packet.bytes r)) (sym tried.target) ∙ found_so kept.coming packet tried.next tried.number tried.looked.2.leads) h
  entries e noted kept l known found h a q = h

  silent : AtSilent seat Shown At
  silent (untried packet later x) noted kept l = λ h e. settles kept.disposals kept.coming later packet x e.0 (ap (is_to s) (sym (in-untried seat packet x e.1))) h
  silent (drops_full packet t) noted kept l = λ h e. absurd (let no : false ≡ true = sym none_drop ∙ e.1 in cc)
  silent (drops_frameless packet t) noted kept l = λ h e. absurd (let no : false ≡ true = sym none_drop ∙ e.1 in cc)
  silent p noted kept l = λ h e. h

  -- with what was delivered
  abbrev Both : Family
  Both place noted kept l = delivering.At wire c d s is input place noted kept l × At place noted kept l

  abbrev BothAsked : Said
  BothAsked kept call l = delivering.Asked wire c d s is input kept call l × Asked kept call l

  abbrev BothEnded : Kept → List Told → Type 0
  BothEnded kept l = delivering.Ended wire c d s is input kept l × Ended kept l

  law : IsLaw seat Shown Both BothAsked BothEnded
  law = together seat Shown (delivering.At wire c d s is input) At (delivering.Asked wire c d s is input) Asked (delivering.Ended wire c d s is input) Ended
      (law_weaker seat (Fitting c) Shown (λ kept l call reply h. h.fits) (delivering.At wire c d s is input) (delivering.Asked wire c d s is input) (delivering.Ended wire c d s is input) (delivering.law wire c d s is input))
      calls entries silent (λ noted kept l n known h a q. h)

  -- ---- what was delivered

  same_front : (xs ys zs ws : List Bool) → length xs ≡ length ys → xs ++ zs ≡ ys ++ ws → xs ≡ ys
  same_front [] [] zs ws e f = refl
  same_front [] (y ∷ ys) zs ws e f = absurd (omega (arith, e))
  same_front (x ∷ xs) [] zs ws e f = absurd (omega (arith, e))
  same_front (x ∷ xs) (y ∷ ys) zs ws e f =
      let head : x ≡ y = cc in
      let tail : xs ++ zs ≡ ys ++ ws = cc in
      ap (λ b. b ∷ xs) head ∙ ap (λ l. y ∷ l) (same_front xs ys zs ws (omega (arith, e)) tail)

  with_said : (done : List Judged) (ds : List Disposal) → length done ≡ length ds → map (is_to s) ds ≡ map goes done → with_disposal s done ds ≡ bytes_in (filter goes done)
  with_said [] [] e f = refl
  with_said [] (x ∷ ds) e f = absurd (omega (arith, e))
  with_said (p ∷ done) [] e f = absurd (omega (arith, e))
  with_said (p ∷ done) (x ∷ ds) e f =
      let head : is_to s x ≡ goes p = cc in
      let tail : map (is_to s) ds ≡ map goes done = cc in
      ap (λ b. cond b (p.bytes ∷ with_disposal s done ds) (with_disposal s done ds)) head ∙ ap (λ l. cond (goes p) (p.bytes ∷ l) l) (with_said done ds (omega (arith, e)) tail) ∙ bytes_if (goes p) p (filter goes done)

  -- the layouts of the first packets that go there, of those of the input that had their disposals
  pub record IsFirst (l : List Told) : Type 0 where
    pub done : List Judged
    pub coming : List Judged
    pub parts : done ++ coming ≡ input
    pub laid : IsLaidOut c.geometry c.sg (bytes_in (delivered_to seat s done)) (submitted_of (Rx s) l)
    pub sized : All (IsSized c) (bytes_in (delivered_to seat s done))

  laid_first : (l : List Told) (ds : List Disposal) (coming : List Judged) (given : IsGiven c s input coming ds (submitted_of (Rx s) l)) → IsSaid ds coming
      → IsLaidOut c.geometry c.sg (bytes_in (delivered_to seat s given.done)) (submitted_of (Rx s) l) × All (IsSized c) (bytes_in (delivered_to seat s given.done))
  laid_first l ds coming given h =
      let all : map goes given.done ++ map goes coming ≡ map goes input = sym (map-append goes given.done coming) ∙ ap (map goes) given.parts in
      let fronts : map (is_to s) ds ≡ map goes given.done =
      same_front (map (is_to s) ds) (map goes given.done) (map goes coming) (map goes coming) (omega (arith, length-map ds (is_to s), length-map given.done goes, given.each)) (h.said ∙ sym all) in
      let same = with_said given.done ds given.each fronts in
      (subst (λ ps. IsLaidOut c.geometry c.sg ps (submitted_of (Rx s) l)) same given.laid, subst (All (IsSized c)) same given.sized)

  first_of : (l : List Told) (ds : List Disposal) (coming : List Judged) → IsGiven c s input coming ds (submitted_of (Rx s) l) → IsSaid ds coming → IsFirst l
  first_of l ds coming given h =
      let laid = laid_first l ds coming given h in record { done = given.done; coming = coming; parts = given.parts; laid = laid.0; sized = laid.1 }

  module _ (l : List Told) (fit : AllFit c [] l) (lead : AllLead c (pair_at c.pairs d).port (pair_at c.pairs d).queue s l) where
    abbrev begins : Kept
    begins = start (classes_of c) input

    meets : MeetAlong (turn seat) Shown (turn seat begins) [] l
    meets = meet_leading (turn seat) c (pair_at c.pairs d).port (pair_at c.pairs d).queue s (turn seat begins) [] l fit lead

    -- after the first of its calls
    pub delivered_first : IsDriverRun wire c d input l → IsFirst l
    delivered_first run =
        of_run seat Shown Both BothAsked BothEnded law begins (delivering.at_first wire c d s is input, record { said = refl }) l meets IsFirst
        (λ kept m h. first_of m kept.disposals kept.coming h.0.given h.1) (λ kept call m h. first_of m kept.disposals kept.coming h.0 h.1) (λ kept m h. first_of m kept.disposals kept.coming h.0.0 h.1) run

    -- and at its end
    pub delivered_all : (whole : IsWholeDriverRun wire c d input l) → IsLaidOut c.geometry c.sg (bytes_in (delivered_to seat s input)) (submitted_of (Rx s) l) × All (IsSized c) (bytes_in (delivered_to seat s input))
    delivered_all whole =
        let over = at_end seat Shown Both BothAsked BothEnded law begins (delivering.at_first wire c d s is input, record { said = refl }) l meets whole.0 whole.1 in
        let given = over.0.0 in
        let all : given.done ≡ input = sym (append-nil given.done) ∙ ap (λ ps. given.done ++ ps) (sym over.0.1) ∙ given.parts in
        subst (λ ps. IsLaidOut c.geometry c.sg (bytes_in (delivered_to seat s ps)) (submitted_of (Rx s) l) × All (IsSized c) (bytes_in (delivered_to seat s ps))) all
        (laid_first l whole.0.disposals whole.0.coming given over.1)
