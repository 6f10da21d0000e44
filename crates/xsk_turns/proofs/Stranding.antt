-- What a driver keeps of the frames that it peeked on TX are those that it didn't submit on COMPLETION.
use Rattle.std.proofs.Common.{◌≡◌, ℕ, zero, suc, ◌+◌, ◌/◌, ◌<◌, ◌⊎◌, inl, inr, ⊎_elim, Bool, true, false, not, cond, nat_le, eqb, Option, Some, None, option_map, List, [], ◌∷◌, ◌++◌, length, get_or, set, map, take, replicate, All, refl, sym, ap, ◌∙◌, subst, arith, length-append}
use Rattle.std.specs.Prelude.{is_some, option_to_list, ◌&&◌}
use Rattle.std.proofs.lemmas.Bool.{and_parts}
use Rattle.std.proofs.lemmas.List.{take_all}
use Rattle.std.proofs.lemmas.List.Elements.{All-nil, All-cons, All-head, All-tail, All-append}
use Rattle.xsk_turns.proofs.Object.{Geometry, Frame, Config, classes_of, Packet, whole, bad, is_valid, is_inside, has_bytes, fits_chunk, has_known_options, ended_by, packets, rest, packets_from, rest_from, whole_packets, bad_items, is_on, taken, peeked_of, IsItemOn, IsLegal, Fits}
use Rattle.xsk_turns.proofs.Calls.{Item, Told, with_told, Comp, Tx, Gone, Call, Submit, Peek, Swap, Reply, Submitted, Items, Old}
use Rattle.xsk_turns.specs.Turns.{Seat, Judged, Kept, seat_of, start, turn, group_at, gathered, returned, frame_in, frames_in, bad_ones}
use Rattle.xsk_model.specs.History.{OwnGoesOn}
use Rattle.xsk_turns.specs.Stranded.{frames_sent, frames_completed, sent_count, completed_count, items_in, stranded_in, KeepsStranded, KeepsStrandedAtEnd, NoneStranded}
use Rattle.xsk_turns.specs.Owned.{IsSeat, socket_at_class, Owned}
use Rattle.xsk_turns.specs.Script.{Ends as RunEnds}
use Rattle.xsk_turns.specs.declared.wire.Wire.{Wire}
use Rattle.xsk_model.proofs.Places.{is_ring-self}
use Rattle.xsk_turns.proofs.AppOwned.{at_set}
use Rattle.xsk_turns.proofs.Counting.{peeked-push, bad_more}
use Rattle.xsk_turns.proofs.LegalCalls.{had_told}
use Rattle.xsk_turns.proofs.Owned.{has_tx}
use Rattle.xsk_turns.proofs.Owning.{meet_owned, no_group, has_ended}
use Rattle.xsk_turns.proofs.Rooms.{lost_few}
use Rattle.xsk_turns.proofs.Walks.{Premise}
use Rattle.xsk_turns.proofs.DriverStages.{Family, SubmitComp, call_at, comp_submitted, tx_items, point_of, reply_of, visited, Said, AtCalls, AtEntries, AtSilent, IsLaw}
use Rattle.xsk_turns.proofs.DriverWalk.{at_call, at_end}

-- ---- items with frames

abbrev HasFrame : Item → Type 0
HasFrame item = length (frame_in item.frame) ≡ 1

count_frames : (items : List Item) → All HasFrame items → length (frames_in items) ≡ length items
count_frames [] h = refl
count_frames (item ∷ items) h =
    omega (arith, length-append (frame_in item.frame) (frames_in items), All-head HasFrame item items h, count_frames items (All-tail HasFrame item items h))

frames-returned : (items : List Item) → frames_in (map returned items) ≡ frames_in items
frames-returned [] = refl
frames-returned (item ∷ items) = ap (λ (fs : List Frame). frame_in item.frame ++ fs) (frames-returned items)

frames_in-push : (xs : List Item) (x : Item) → length (frames_in (xs ++ x ∷ [])) ≡ length (frames_in xs) + length (frame_in x.frame)
frames_in-push [] x = omega (arith, length-append (frame_in x.frame) [])
frames_in-push (y ∷ xs) x =
    omega (arith, frames_in-push xs x, length-append (frame_in y.frame) (frames_in xs), length-append (frame_in y.frame) (frames_in (xs ++ x ∷ [])))

frames_in-more : (xs ys : List Item) → length (frames_in (xs ++ ys)) ≡ length (frames_in xs) + length (frames_in ys)
frames_in-more [] ys = omega arith
frames_in-more (x ∷ xs) ys = omega (arith, frames_in-more xs ys, length-append (frame_in x.frame) (frames_in xs), length-append (frame_in x.frame) (frames_in (xs ++ ys)))

-- a valid item has one, for its address lies in the UMEM
has_one : (o : Option Frame) (n : ℕ) → option_map (λ (f : Frame). f.number) o ≡ Some n → length (frame_in o) ≡ 1
has_one None n e = absurd (cc)
has_one (Some frame) n e = refl

valid_frame : (g : Geometry) (sg : Bool) (s : ℕ) (item : Item) → is_valid g sg item.desc ≡ true → IsItemOn g (Tx s) item → HasFrame item
valid_frame g sg s item valid h =
    let desc = item.desc in
    let known = and_parts (is_inside g desc && has_bytes desc && fits_chunk g desc) (has_known_options sg desc) valid in
    let fits = and_parts (is_inside g desc && has_bytes desc) (fits_chunk g desc) known.0 in
    let inside = (and_parts (is_inside g desc) (has_bytes desc) fits.0).0 in
    has_one item.frame (desc.addr / g.chunk) (h.frame ∙ ap (λ (b : Bool). cond b (Some (desc.addr / g.chunk)) None) inside)

-- ---- what an item ends

abbrev Ends : Geometry → Bool → List Item → Item → Option Packet → Type 0
Ends g sg group item o =
    ((o ≡ None) × (is_valid g sg item.desc ≡ true))
    ⊎ ((o ≡ Some (whole (group ++ item ∷ []))) × (is_valid g sg item.desc ≡ true))
    ⊎ (o ≡ Some (bad (group ++ item ∷ [])))

ends : (g : Geometry) (sg : Bool) (group : List Item) (item : Item) → Ends g sg group item (ended_by g sg group item)
ends g sg group item = by (nat_le 18 (length group)) (is_valid g sg item.desc) (eqb item.desc.options 1) refl
  where
    by : (full valid more : Bool) → is_valid g sg item.desc ≡ valid
        → Ends g sg group item (cond full (Some (bad (group ++ item ∷ []))) (cond (not valid) (Some (bad (group ++ item ∷ []))) (cond more None (Some (whole (group ++ item ∷ []))))))
    by true valid more e = inr (inr refl)
    by false false more e = inr (inr refl)
    by false true true e = inl (refl, e)
    by false true false e = inr (inl (refl, e))

-- ---- the packets of further items, where each item of the group has a frame

pub record Parts (group items : List Item) (ps : List Packet) (left : List Item) : Type 0 where
  pub wholes : All (All HasFrame) (whole_packets ps)
  pub left_frames : All HasFrame left
  pub count : length (frames_in items) + length group ≡ items_in (whole_packets ps) + length (frames_in (bad_ones ps)) + length left

push_frame : (group : List Item) (item : Item) → All HasFrame group → HasFrame item → All HasFrame (group ++ item ∷ [])
push_frame group item h one = All-append HasFrame group (item ∷ []) h (All-cons HasFrame item [] one (All-nil HasFrame))

module _ (g : Geometry) (sg : Bool) (s : ℕ) where
  parts : (group items : List Item) → All HasFrame group → All (IsItemOn g (Tx s)) items → Parts group items (packets_from g sg group items) (rest_from g sg group items)
  parts group [] h k = record { wholes = All-nil (All HasFrame); left_frames = h; count = omega arith }
  parts group (item ∷ items) h k =
      let own = All-head (IsItemOn g (Tx s)) item items k in
      let later = All-tail (IsItemOn g (Tx s)) item items k in
      let frames = length-append (frame_in item.frame) (frames_in items) in
      let grown = length-append group (item ∷ []) in
      let more = parts [] items (All-nil HasFrame) later in
      let o = ended_by g sg group item in
      let goal : Option Packet → Type 0 = λ o. Parts group (item ∷ items) (option_to_list o ++ packets_from g sg (cond (is_some o) [] (group ++ item ∷ [])) items) (rest_from g sg (cond (is_some o) [] (group ++ item ∷ [])) items) in
      ⊎_elim
      (λ (e : (o ≡ None) × (is_valid g sg item.desc ≡ true)).
      let one = valid_frame g sg s item e.1 own in
      let on = parts (group ++ item ∷ []) items (push_frame group item h one) later in
      subst goal (sym e.0) (record { wholes = on.wholes; left_frames = on.left_frames; count = omega (arith, on.count, frames, grown, one) }))
      (λ (rest : ((o ≡ Some (whole (group ++ item ∷ []))) × (is_valid g sg item.desc ≡ true)) ⊎ (o ≡ Some (bad (group ++ item ∷ [])))). ⊎_elim
      (λ (e : (o ≡ Some (whole (group ++ item ∷ []))) × (is_valid g sg item.desc ≡ true)).
      let one = valid_frame g sg s item e.1 own in
      subst goal (sym e.0)
      (record { wholes = All-cons (All HasFrame) (group ++ item ∷ []) (whole_packets (packets_from g sg [] items)) (push_frame group item h one) more.wholes; left_frames = more.left_frames; count = omega (arith, more.count, frames, grown, one) }))
      (λ (e : o ≡ Some (bad (group ++ item ∷ []))).
      subst goal (sym e)
      (record {
        wholes = more.wholes;
        left_frames = more.left_frames;
        count = omega (arith, more.count, frames, grown, frames_in-more (group ++ item ∷ []) (bad_ones (packets_from g sg [] items)), frames_in-push group item, count_frames group h);
      }))
      rest)
      (ends g sg group item)

-- ---- lists of lists

items_in-append : (xss yss : List (List Item)) → items_in (xss ++ yss) ≡ items_in xss + items_in yss
items_in-append [] yss = omega arith
items_in-append (xs ∷ xss) yss = omega (arith, items_in-append xss yss)

items_in-set : (xss : List (List Item)) (i : ℕ) (xs : List Item) → i < length xss → items_in (set xss i xs) + length (get_or xss i []) ≡ items_in xss + length xs
items_in-set [] i xs h = absurd (omega (arith, h))
items_in-set (ys ∷ xss) zero xs h = omega arith
items_in-set (ys ∷ xss) (suc i) xs h = omega (arith, items_in-set xss i xs (omega (arith, h)))

items_in-none : (k : ℕ) → items_in (replicate k []) ≡ 0
items_in-none zero = refl
items_in-none (suc k) = omega (arith, items_in-none k)

no_items : (xs : List Item) → length xs ≡ 0 → xs ≡ []
no_items [] e = refl
no_items (x ∷ xs) e = absurd (omega (arith, e))

none_bad : (ps : List Packet) → bad_items ps ≡ 0 → bad_ones ps ≡ []
none_bad [] e = refl
none_bad (whole items ∷ ps) e = none_bad ps e
none_bad (bad items ∷ ps) e = ap (λ xs. xs ++ bad_ones ps) (no_items items (omega (arith, e))) ∙ none_bad ps (omega (arith, e))

sent-push : (l : List Told) (t : Told) → sent_count (l ++ t ∷ []) ≡ sent_count l + frames_sent t.call (taken t.reply)
sent-push [] t = omega arith
sent-push (x ∷ l) t = omega (arith, sent-push l t)

completed-push : (l : List Told) (t : Told) → completed_count (l ++ t ∷ []) ≡ completed_count l + frames_completed t.call
completed-push [] t = omega arith
completed-push (x ∷ l) t = omega (arith, completed-push l t)

-- ---- the law

module _ (wire : Wire) (c : Config) (pair : ℕ) (is : IsSeat c pair) where
  abbrev seat : Seat
  seat = seat_of wire c pair

  abbrev NoneBad : List Told → Type 0
  NoneBad l = (class : ℕ) → class < classes_of c → bad_items (packets c.geometry c.sg (peeked_of (Tx (socket_at_class c pair class)) l)) ≡ 0

  pub record Strands (kept : Kept) (l : List Told) : Type 0 where
    pub groups : (class : ℕ) → All HasFrame (group_at kept class)
    pub finished : All (All HasFrame) kept.finished
    pub count : sent_count l ≡ stranded_in kept + completed_count l
    pub none : NoneBad l → kept.lost ≡ []

  abbrev At : Family
  At place noted kept l = Strands kept l

  abbrev Says : Said
  Says kept call l = sent_count l ≡ stranded_in kept + frames_completed call + completed_count l

  abbrev Given : Premise Kept
  Given kept l call reply = (Owned c pair kept call l × IsLegal c l pair call) × Fits c l call reply

  earlier : (l : List Told) (t : Told) → NoneBad (l ++ t ∷ []) → NoneBad l
  earlier l t h class within =
      let r = Tx (socket_at_class c pair class) in
      omega (arith, h class within, ap (λ (xs : List Item). bad_items (packets c.geometry c.sg xs)) (peeked-push r l t), bad_more c.geometry c.sg (peeked_of r l) (cond (is_on r t.call) (taken t.reply) []))

  same : (kept now : Kept) (l : List Told) (call : Call) (reply : Reply) → now.groups ≡ kept.groups → now.finished ≡ kept.finished → now.lost ≡ kept.lost
      → frames_sent call (taken reply) ≡ 0 → frames_completed call ≡ 0 → Strands kept l → Strands now (with_told l call reply)
  same kept now l call reply groups finished lost none quiet h =
      let t : Told = record { call = call; reply = reply } in
      record {
        groups = λ class. subst (λ gs. All HasFrame (get_or gs class [])) (sym groups) (h.groups class);
        finished = subst (All (All HasFrame)) (sym finished) h.finished;
        count = omega (arith, h.count, sent-push l t, completed-push l t, none, quiet, ap items_in groups, ap items_in finished, ap length lost);
        none = λ all. lost ∙ h.none (earlier l t all);
      }

  calls : AtCalls seat Given At Says
  calls (SubmitComp k packet later) noted kept l known h =
      let packets : All (All HasFrame) (packet ∷ later) = subst (All (All HasFrame)) known h.finished in
      omega (arith, h.count, ap items_in known, ap length (frames-returned packet), count_frames packet (All-head (All HasFrame) packet later packets))
  calls p noted kept l known h = omega (arith, h.count)

  entries : AtEntries seat Given At Says
  entries (comp_submitted k packet later) noted kept l known found h a q =
      let packets : All (All HasFrame) (packet ∷ later) = subst (All (All HasFrame)) known h.finished in
      let t : Told = record { call = Submit (Comp pair) (map returned packet); reply = Submitted } in
      record {
        groups = h.groups;
        finished = All-tail (All HasFrame) packet later packets;
        count = omega (arith, a, sent-push l t, completed-push l t);
        none = λ all. h.none (earlier l t all);
      }
  entries (tx_items look k items) noted kept l known found h a q =
      let g = c.geometry in
      let s = socket_at_class c pair k in
      let call = Peek (Tx s) seat.batch in
      let t : Told = record { call = call; reply = Items items } in
      let group = group_at kept k in
      let ps = packets_from g c.sg group items in
      let left = rest_from g c.sg group items in
      let got = gathered seat k kept items in
      let lost = kept.lost ++ frames_in (bad_ones ps) in
      let has = has_tx wire c pair k seat.batch kept items l is known.0 q.0.0 q.0.1 q.1 in
      let few = lost_few c pair kept.spare got.groups got.finished lost (with_told l call (Items items)) has (λ n. omega (arith, had_told l call (Items items) n, q.1.fresh n)) in
      let whole : take g.frames lost ≡ lost = take_all g.frames lost few in
      let inside : k < length kept.groups = omega (arith, known.0, q.0.0.classes) in
      let parts = parts g c.sg s group items (h.groups k) q.1.lawful in
      record {
        groups = λ class. at_set (All HasFrame) kept.groups k class left inside parts.left_frames (h.groups class);
        finished = All-append (All HasFrame) kept.finished (whole_packets ps) h.finished parts.wholes;
        count = omega (
          arith,
          h.count,
          sent-push l t,
          completed-push l t,
          parts.count,
          items_in-set kept.groups k left inside,
          items_in-append kept.finished (whole_packets ps),
          ap length whole,
          length-append kept.lost (frames_in (bad_ones ps)),
        );
        none = λ all.
            let before = h.none (earlier l t all) in
            let peeked = peeked_of (Tx s) l in
            let ended : bad_items ps ≡ 0 =
            ap (λ (xs : List Item). bad_items (packets_from g c.sg xs items)) (q.0.0.groups k known.0)
            ∙ omega (arith, all k known.0, ap (λ (xs : List Item). bad_items (packets g c.sg xs)) (peeked-push (Tx s) l t ∙ ap (λ (b : Bool). peeked ++ cond b items []) (is_ring-self (Tx s))), bad_more g c.sg peeked items) in
            whole ∙ ap (λ (fs : List Frame). fs ++ frames_in (bad_ones ps)) before ∙ ap (λ (xs : List Item). frames_in xs) (none_bad ps ended);
      }
  entries e noted kept l known found h a q = same kept _ l (call_at seat (point_of e) kept) (reply_of e) refl refl refl refl refl h

  silent : AtSilent seat Given At
  silent visited noted kept l = λ h e. h
  silent p noted kept l = λ h e. record { groups = h.groups; finished = h.finished; count = h.count; none = h.none }

  law : IsLaw seat Given At Says Strands
  law = record { calls = calls; entries = entries; silent = silent; ends = λ noted kept l n known h a q. same kept kept l (Swap (Gone pair) 1) (Old n) refl refl refl refl refl h }

first : (wire : Wire) (c : Config) (pair : ℕ) (is : IsSeat c pair) (input : List Judged) → Strands wire c pair is (start (classes_of c) input) []
first wire c pair is input = record {
  groups = λ class. subst (All HasFrame) (sym (no_group (classes_of c) class)) (All-nil HasFrame);
  finished = All-nil (All HasFrame);
  count = omega (arith, items_in-none (classes_of c));
  none = λ all. refl;
}

pub keeps_stranded : KeepsStranded
keeps_stranded wire c pair input l kept call rest is fit asks =
    at_call (seat_of wire c pair) (Given wire c pair is) (At wire c pair is) (Says wire c pair is) (Strands wire c pair is) (law wire c pair is) (start (classes_of c) input) (first wire c pair is input) l (meet_owned wire c pair input l is fit _ asks) kept call rest asks

strands_at_end : (wire : Wire) (c : Config) (pair : ℕ) (input : List Judged) (l : List Told) (kept : Kept) (is : IsSeat c pair) → OwnGoesOn c pair [] l
    → RunEnds (turn (seat_of wire c pair)) (start (classes_of c) input) l kept → Strands wire c pair is kept l
strands_at_end wire c pair input l kept is fit ends =
    at_end (seat_of wire c pair) (Given wire c pair is) (At wire c pair is) (Says wire c pair is) (Strands wire c pair is) (law wire c pair is) (start (classes_of c) input) (first wire c pair is input) l (meet_owned wire c pair input l is fit _ ends) kept ends

pub keeps_stranded_at_end : KeepsStrandedAtEnd
keeps_stranded_at_end wire c pair input l kept is fit ends = (strands_at_end wire c pair input l kept is fit ends).count

-- where all groups are empty they have no items
all_empty : (xss : List (List Item)) → ((i : ℕ) → i < length xss → get_or xss i [] ≡ []) → items_in xss ≡ 0
all_empty [] h = refl
all_empty (xs ∷ xss) h = omega (arith, ap length (h 0 (omega arith)), all_empty xss (λ i k. h (suc i) (omega (arith, k))))

pub none_stranded : NoneStranded
none_stranded wire c pair input l kept is fit ends each =
    let strands = strands_at_end wire c pair input l kept is fit ends in
    let has = has_ended wire c pair input l is fit kept ends in
    let groups = all_empty kept.groups (λ i k. let within : i < classes_of c = omega (arith, k, has.0.classes) in has.0.at i within ∙ (each i within).1) in
    omega (arith, groups, ap items_in has.1, ap length (strands.none (λ class within. (each class within).0)))
