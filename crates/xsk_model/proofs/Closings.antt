-- How cells fall, sockets are closed and packets are bounced.
use Rattle.std.proofs.Common.{◌≡◌, ◌≢◌, ◌↔◌, ℕ, zero, suc, ◌+◌, ◌-◌, ◌≤◌, ◌&&◌, ◌||◌, ◌⊎◌, inl, inr, Bool, true, false, cond, eqb, List, [], ◌∷◌, ◌++◌, length, take, drop, map, Option, Some, None, refl, sym, ap, subst, ◌∙◌, ⊎_elim, arith, append-nil, append_assoc}
use Rattle.std.specs.Prelude.{unwrap_or, All}
use Rattle.std.proofs.Math.Seq.{take-add}
use Rattle.std.proofs.lemmas.Bool.{cases_Bool, cases_eq, and_parts, eqb-true, eq-eqb}
use Rattle.std.proofs.lemmas.List.Elements.{All-nil, All-cons}
use Rattle.std.proofs.lemmas.List.Sums.{fold_push}
use Rattle.std.proofs.lemmas.List.Concat.{flat_map-append}
use Rattle.xsk_umem.specs.Frame.{Frame}
use Rattle.xsk_umem.specs.declared.batch.Item.{Item}
use Rattle.xsk_model.specs.Config.{Config, IsConfig}
use Rattle.xsk_model.specs.Packets.{bytes_of}
use Rattle.xsk_model.specs.Rings.{is_ring, port_of, producer}
use Rattle.xsk_model.specs.Marks.{HasMark, is_mark, mark_places_of, HoldsClosing}
use Rattle.xsk_model.specs.Object.{State, mark_at, submitted, reply_at, after}
use Rattle.xsk_model.specs.Entry.{Told, Entry, told, own, all_told}
use Rattle.xsk_model.specs.Own.{is_on, part_of, granted, room_step, room_of, submitted_step, submitted_of}
use Rattle.xsk_model.specs.Swaps.{set_after, set_step, last_set, number_in, seen_after, seen_step, last_seen, MaySwap, IsFed, MayFeed}
use Rattle.xsk_model.specs.Legal.{HasRole, IsLegal}
use Rattle.xsk_model.specs.Opening.{opening}
use Rattle.xsk_model.specs.History.{OwnGoesOn, GoesOn, after_all, IsHistory, IsHistoryFrom, state_after}
use Rattle.xsk_model.specs.StartLaws.{ClosedCellsFrom}
use Rattle.xsk_model.specs.Ends.{Telling, telling_after, telling_step, telling_of}
use Rattle.xsk_model.specs.OtherWords.{HasOpenRole, IsLegalOpen}
use Rattle.xsk_model.specs.Sent.{sockets_of, completed_in, sent_from, bounced_in, bounced_of, all_sent_from}
use Rattle.xsk_model.specs.Laws.{CellsFall, ClosedCells, AckedIsClosed, EndedRings, NothingReserved, NeverLate, NothingCloses, BouncedInOrder, SentGrows, AllCompleted}
use Rattle.xsk_model.specs.declared.call.Ring.{Ring}
use Rattle.xsk_model.specs.declared.call.Ring.TheVariants.{Fill, Comp, Rx, Tx}
use Rattle.xsk_model.specs.declared.call.Mark.{Mark}
use Rattle.xsk_model.specs.declared.call.Mark.TheVariants.{NeedFill, NeedTx, Kick, RxDone, Gone, TxDone, Cell, Closing, Acked, Bounced}
use Rattle.xsk_model.specs.declared.call.Call.{Call}
use Rattle.xsk_model.specs.declared.call.Call.TheVariants.{Reserve, Submit, Peek, Release, Swap, Look}
use Rattle.xsk_model.specs.declared.call.Reply.{Reply}
use Rattle.xsk_model.proofs.Places.{is_ring-true}
use Rattle.xsk_model.proofs.Folds.{own-push_same, own-push_other, part_of-push_same, part_of_own-push_other}
use Rattle.xsk_model.proofs.Changes.{mark_set, mark_stays}
use Rattle.xsk_model.proofs.MarkNumbers.{opening_mark_is}
use Rattle.xsk_model.proofs.Histories.{IsSound, sound_step, history_first, history_sound, goes_rest, after_all-append}
use Rattle.xsk_model.proofs.Along.{Keeps, KeepsFrom, along, along_from}
use Rattle.xsk_model.proofs.OwnRuns.{own_all}
use Rattle.xsk_model.proofs.Theorems.{mark_numbers}

-- ---- what one call sets

pub is_mark-true : (m n : Mark) → is_mark m n ≡ true → m ≡ n
is_mark-true (NeedFill d) (NeedFill e) h = ap NeedFill (eqb-true d e h)
is_mark-true (NeedTx s) (NeedTx t) h = ap NeedTx (eqb-true s t h)
is_mark-true (Kick d) (Kick e) h = ap Kick (eqb-true d e h)
is_mark-true (RxDone d) (RxDone e) h = ap RxDone (eqb-true d e h)
is_mark-true (Gone d) (Gone e) h = ap Gone (eqb-true d e h)
is_mark-true (TxDone a) (TxDone b) h = ap TxDone (eqb-true a b h)
is_mark-true (Cell p i) (Cell q j) h =
    let both = and_parts (eqb p q) (eqb i j) h in
    ap (λ k. Cell k i) (eqb-true p q both.0) ∙ ap (Cell q) (eqb-true i j both.1)
is_mark-true (Closing s) (Closing t) h = ap Closing (eqb-true s t h)
is_mark-true (Acked s) (Acked t) h = ap Acked (eqb-true s t h)
is_mark-true (Bounced d) (Bounced e) h = ap Bounced (eqb-true d e h)
is_mark-true m n h = absurd (cc)

pub is_mark-self : (m : Mark) → is_mark m m ≡ true
is_mark-self (NeedFill d) = eq-eqb d d refl
is_mark-self (NeedTx s) = eq-eqb s s refl
is_mark-self (Kick d) = eq-eqb d d refl
is_mark-self (RxDone d) = eq-eqb d d refl
is_mark-self (Gone d) = eq-eqb d d refl
is_mark-self (TxDone a) = eq-eqb a a refl
is_mark-self (Cell p i) = ap (λ b. b && eqb i i) (eq-eqb p p refl) ∙ eq-eqb i i refl
is_mark-self (Closing s) = eq-eqb s s refl
is_mark-self (Acked s) = eq-eqb s s refl
is_mark-self (Bounced d) = eq-eqb d d refl

abbrev Sets : Mark → Call → ℕ → Type 0
Sets m call value = (call ≡ Swap m value) × ((before : Option ℕ) → set_after m before call ≡ Some value)

abbrev Leaves : Mark → Call → Type 0
Leaves m call = ((value : ℕ) → call ≢ Swap m value) × ((before : Option ℕ) → set_after m before call ≡ before)

-- a call sets the mark, or leaves it
pub sets_or_leaves : (m : Mark) (call : Call) → ((value : ℕ) × Sets m call value) ⊎ Leaves m call
sets_or_leaves m (Reserve r n) = inr (λ value e. absurd (cc), λ before. refl)
sets_or_leaves m (Submit r items) = inr (λ value e. absurd (cc), λ before. refl)
sets_or_leaves m (Peek r n) = inr (λ value e. absurd (cc), λ before. refl)
sets_or_leaves m (Release r n) = inr (λ value e. absurd (cc), λ before. refl)
sets_or_leaves m (Look n) = inr (λ value e. absurd (cc), λ before. refl)
sets_or_leaves m (Swap n value) = ⊎_elim
    (λ (same : is_mark m n ≡ true).
    inl (value, (ap (λ q. Swap q value) (sym (is_mark-true m n same)), λ before. ap (λ b. cond b (Some value) before) same)))
    (λ (other : is_mark m n ≡ false).
    inr (
      λ v e.
          let one : n ≡ m = cc in
          let no : false ≡ true = sym other ∙ ap (is_mark m) one ∙ is_mark-self m in
          absurd (cc),
      λ before. ap (λ b. cond b (Some value) before) other,
    ))
    (cases_Bool (is_mark m n))

pub set_push : (m : Mark) (mine : List Told) (t : Told) → last_set m (mine ++ t ∷ []) ≡ set_after m (last_set m mine) t.call
set_push m mine t = fold_push (set_step m) None mine t

-- what a caller set last is as it was after an entry that leaves the mark
set_left : (m : Mark) (who : ℕ) (past : List Entry) (e : Entry) → Leaves m e.call → last_set m (own who (past ++ e ∷ [])) ≡ last_set m (own who past)
set_left m who past e leaves = ⊎_elim
    (λ (h : e.who ≡ who). ap (last_set m) (own-push_same who past e h) ∙ set_push m (own who past) (told e) ∙ leaves.1 (last_set m (own who past)))
    (λ (h : e.who ≡ who → ⊥). ap (last_set m) (own-push_other who past e h))
    (cases_eq e.who who)

may_set : (c : Config) (mine : List Told) (who : ℕ) (call : Call) (m : Mark) (value : ℕ) → IsLegal c mine who call → call ≡ Swap m value → MaySwap c mine who m value
may_set c mine who call m value legal is = (subst (IsLegal c mine who) is legal).role

-- ---- cells

cell_falls : (c : Config) (s : State) (mine : List Told) (who : ℕ) (call : Call) (port index : ℕ) → IsConfig c → HasMark c (Cell port index) → length s.marks ≡ mark_places_of c
    → IsLegal c mine who call → mark_at c (after c s who call) (Cell port index) ≤ mark_at c s (Cell port index)
cell_falls c s mine who call port index config has len legal =
    elim (sets_or_leaves (Cell port index) call) [
      | inl set ↦
          let down : set.0 ≡ 0 = (may_set c mine who call (Cell port index) set.0 legal set.1.0).1 in
          let now : mark_at c (after c s who call) (Cell port index) ≡ set.0 =
          ap (λ x. mark_at c (after c s who x) (Cell port index)) set.1.0 ∙ mark_set c s who (Cell port index) set.0 config has len in
          omega (arith, down, now)
      | inr leaves ↦ omega (arith, mark_stays c s mine who call (Cell port index) config has legal leaves.0)
    ]

falls_on : (c : Config) (frames : List Frame) (s : State) (past later : List Entry) (port index : ℕ) → IsConfig c → HasMark c (Cell port index) → IsSound c frames s past → GoesOn c s past later
    → mark_at c (after_all c s later) (Cell port index) ≤ mark_at c s (Cell port index)
falls_on c frames s past [] port index config has sound goes = omega arith
falls_on c frames s past (e ∷ es) port index config has sound goes =
    let first = cell_falls c s (own e.who past) e.who e.call port index config has sound.marks goes.0 in
    let rest = falls_on c frames (after c s e.who e.call) (past ++ e ∷ []) es port index config has (sound_step c frames s past e config sound goes.0 goes.1) goes.2 in
    omega (arith, first, rest)

pub cells_fall : CellsFall
cells_fall c frames past later port index history has =
    let before : IsHistory c frames past = history_first c frames past later history in
    let rest = falls_on c frames (state_after c frames past) past later port index history.opened.config has (history_sound c frames past before)
    (goes_rest c (opening c frames) [] past later history.legal) in
    omega (arith, rest, ap (λ (x : State). mark_at c x (Cell port index)) (after_all-append c (opening c frames) past later))

-- ---- closing

-- a cell that a caller has lowered is 0, and so is each where Closing is 1
record IsCleared (c : Config) (x index : ℕ) (s : State) (past : List Entry) : Type 0 where
  lowered : (who : ℕ) → last_set (Cell (port_of c (Rx x)) index) (own who past) ≡ Some 0 → mark_at c s (Cell (port_of c (Rx x)) index) ≡ 0
  closed : mark_at c s (Closing x) ≡ 1 → mark_at c s (Cell (port_of c (Rx x)) index) ≡ 0

module _ (c : Config) (start : State) (x index : ℕ) (config : IsConfig c) (has : HasMark c (Closing x)) (cell : HasMark c (Cell (port_of c (Rx x)) index))
    (holds : HoldsClosing c (port_of c (Rx x)) index x) where
  abbrev here : Mark
  here = Cell (port_of c (Rx x)) index

  keeps_cleared : KeepsFrom c start (IsCleared c x index)
  keeps_cleared s past e sound legal reply h =
      elim (sets_or_leaves here e.call) [
        | inl set ↦
            let down : set.0 ≡ 0 = (may_set c (own e.who past) e.who e.call here set.0 legal set.1.0).1 in
            let now : mark_at c (after c s e.who e.call) here ≡ 0 =
            ap (λ y. mark_at c (after c s e.who y) here) set.1.0 ∙ mark_set c s e.who here set.0 config cell sound.marks ∙ down in
            record { lowered = λ who is. now; closed = λ is. now }
        | inr leaves ↦
            let stays : mark_at c (after c s e.who e.call) here ≡ mark_at c s here = mark_stays c s (own e.who past) e.who e.call here config cell legal leaves.0 in
            record {
              lowered = λ who is. stays ∙ h.lowered who (sym (set_left here who past e leaves) ∙ is);
              closed = λ is.
                  elim (sets_or_leaves (Closing x) e.call) [
                    | inl closes ↦ stays ∙ h.lowered e.who ((may_set c (own e.who past) e.who e.call (Closing x) closes.0 legal closes.1.0).1.1 index cell holds)
                    | inr open_still ↦
                        stays ∙ h.closed (sym (mark_stays c s (own e.who past) e.who e.call (Closing x) config has legal open_still.0) ∙ is)
                  ];
            }
      ]

pub closed_cells : ClosedCells
closed_cells c frames h x index history has closed cell holds =
    let first : mark_at c (opening c frames) (Closing x) ≡ 0 = opening_mark_is c frames (Closing x) history.opened.config has in
    let start : IsCleared c x index (opening c frames) [] = record { lowered = λ who is. absurd (cc); closed = λ is. absurd (omega (arith, first, is)) } in
    (along (IsCleared c x index) c frames h history (keeps_cleared c (opening c frames) x index history.opened.config has cell holds) start).closed closed

pub closed_from : ClosedCellsFrom
closed_from c start h x index history has closed cell holds =
    let first : mark_at c start (Closing x) ≡ 0 = history.begins.mark (Closing x) has in
    let cleared : IsCleared c x index start [] = record { lowered = λ who is. absurd (cc); closed = λ is. absurd (omega (arith, first, is)) } in
    (along_from (IsCleared c x index) c start h history (keeps_cleared c start x index history.begins.config has cell holds) cleared).closed closed

-- a caller's last look at Closing was answered 1 only where it is 1, and so it is where Acked is 1
record IsSeen (c : Config) (x : ℕ) (s : State) (past : List Entry) : Type 0 where
  seen : (who : ℕ) → last_seen (Closing x) (own who past) ≡ Some 1 → mark_at c s (Closing x) ≡ 1
  acked : mark_at c s (Acked x) ≡ 1 → mark_at c s (Closing x) ≡ 1

pub seen_push : (m : Mark) (mine : List Told) (t : Told) → last_seen m (mine ++ t ∷ []) ≡ seen_after m (last_seen m mine) t.call t.reply
seen_push m mine t = fold_push (seen_step m) None mine t

-- what a call leaves as seen was seen before, or is so now
pub seen_now : (c : Config) (s : State) (m : Mark) (before : Option ℕ) (call : Call) (reply : Reply) → reply ≡ reply_at c s call → (before ≡ Some 1 → mark_at c s m ≡ 1)
    → seen_after m before call reply ≡ Some 1 → mark_at c s m ≡ 1
seen_now c s m before (Reserve r n) reply is was h = was h
seen_now c s m before (Submit r items) reply is was h = was h
seen_now c s m before (Peek r n) reply is was h = was h
seen_now c s m before (Release r n) reply is was h = was h
seen_now c s m before (Swap n value) reply is was h = was h
seen_now c s m before (Look n) reply is was h = by (is_mark m n) refl (ap (λ y. cond (is_mark m n) (number_in before y) before) (sym is) ∙ h)
  where
    by : (b : Bool) → b ≡ is_mark m n → cond b (Some (mark_at c s n)) before ≡ Some 1 → mark_at c s m ≡ 1
    by true e k =
        let one : mark_at c s n ≡ 1 = cc in
        ap (mark_at c s) (is_mark-true m n (sym e)) ∙ one
    by false e k = was k

module _ (c : Config) (start : State) (x : ℕ) (config : IsConfig c) (has : HasMark c (Closing x)) where
  keeps_seen : KeepsFrom c start (IsSeen c x)
  keeps_seen s past e sound legal reply h =
      elim (sets_or_leaves (Closing x) e.call) [
        | inl set ↦
            let now : mark_at c (after c s e.who e.call) (Closing x) ≡ 1 =
            ap (λ y. mark_at c (after c s e.who y) (Closing x)) set.1.0 ∙ mark_set c s e.who (Closing x) set.0 config has sound.marks
            ∙ (may_set c (own e.who past) e.who e.call (Closing x) set.0 legal set.1.0).1.0 in
            record { seen = λ who is. now; acked = λ is. now }
        | inr leaves ↦
            let stays = mark_stays c s (own e.who past) e.who e.call (Closing x) config has legal leaves.0 in
            record {
              seen = λ who is. stays ∙ ⊎_elim
                  (λ (by : e.who ≡ who).
                  seen_now c s (Closing x) (last_seen (Closing x) (own who past)) e.call e.reply reply (h.seen who)
                  (sym (ap (last_seen (Closing x)) (own-push_same who past e by) ∙ seen_push (Closing x) (own who past) (told e)) ∙ is))
                  (λ (other : e.who ≡ who → ⊥). h.seen who (sym (ap (last_seen (Closing x)) (own-push_other who past e other)) ∙ is))
                  (cases_eq e.who who);
              acked = λ is.
                  elim (sets_or_leaves (Acked x) e.call) [
                    | inl acks ↦ stays ∙ h.seen e.who (may_set c (own e.who past) e.who e.call (Acked x) acks.0 legal acks.1.0).1.1
                    | inr still ↦ stays ∙ h.acked (sym (mark_stays c s (own e.who past) e.who e.call (Acked x) config has legal still.0) ∙ is)
                  ];
            }
      ]

is_seen : (c : Config) (frames : List Frame) (h : List Entry) (x : ℕ) → IsHistory c frames h → HasMark c (Acked x) → IsSeen c x (state_after c frames h) h
is_seen c frames h x history has =
    let first : mark_at c (opening c frames) (Acked x) ≡ 0 = opening_mark_is c frames (Acked x) history.opened.config has in
    along (IsSeen c x) c frames h history (keeps_seen c (opening c frames) x history.opened.config has)
    (record { seen = λ who is. absurd (cc); acked = λ is. absurd (omega (arith, first, is)) })

pub acked_is_closed : AckedIsClosed
acked_is_closed c frames h x history has acked = (is_seen c frames h x history has).acked acked

pub seen_is_closed : (c : Config) (frames : List Frame) (h : List Entry) (x who : ℕ) → IsHistory c frames h → HasMark c (Closing x) → last_seen (Closing x) (own who h) ≡ Some 1
    → mark_at c (state_after c frames h) (Closing x) ≡ 1
seen_is_closed c frames h x who history has is = (is_seen c frames h x history has).seen who is

pub seen_from : (c : Config) (start : State) (h : List Entry) (x who : ℕ) → IsHistoryFrom c start h → HasMark c (Closing x) → last_seen (Closing x) (own who h) ≡ Some 1
    → mark_at c (after_all c start h) (Closing x) ≡ 1
seen_from c start h x who history has is =
    let first : mark_at c start (Acked x) ≡ 0 = history.begins.mark (Acked x) has in
    (along_from (IsSeen c x) c start h history (keeps_seen c start x history.begins.config has)
    (record { seen = λ who is. absurd (cc); acked = λ is. absurd (omega (arith, first, is)) })).seen who is

-- ---- ended rings

module _ (c : Config) (m : Mark) (r : Ring)
    (ended : (mine : List Told) → last_set m mine ≡ Some 1 → IsFed c mine r → ⊥)
    (once : (mine : List Told) (who value : ℕ) → MaySwap c mine who m value → value ≡ 1) where
  not_submitted : (past : List Entry) (e : Entry) → IsLegal c (own e.who past) e.who e.call → last_set m (own (producer c r) past) ≡ Some 1
      → cond (is_on r e.call) ([] ++ submitted e.call) [] ≡ []
  not_submitted past e legal set = by e.call legal
    where
      nothing : (b : Bool) → cond {A = List Item} b ([] ++ []) [] ≡ []
      nothing true = refl
      nothing false = refl

      by : (call : Call) → IsLegal c (own e.who past) e.who call → cond (is_on r call) ([] ++ submitted call) [] ≡ []
      by (Reserve q n) l = nothing (is_ring r q)
      by (Submit q items) l = ⊎_elim
          (λ (same : is_ring r q ≡ true).
          let one : r ≡ q = is_ring-true r q same in
          let mine : e.who ≡ producer c r = l.role ∙ ap (producer c) (sym one) in
          absurd (ended (own e.who past) (ap (λ w. last_set m (own w past)) mine ∙ set) (subst (IsFed c (own e.who past)) (sym one) l.feeds)))
          (λ (other : is_ring r q ≡ false). ap (λ b. cond b ([] ++ items) []) other)
          (cases_Bool (is_ring r q))
      by (Peek q n) l = nothing (is_ring r q)
      by (Release q n) l = nothing (is_ring r q)
      by (Swap n value) l = refl
      by (Look n) l = refl

  still_set : (past : List Entry) (e : Entry) (who : ℕ) → IsLegal c (own e.who past) e.who e.call → last_set m (own who past) ≡ Some 1
      → last_set m (own who (past ++ e ∷ [])) ≡ Some 1
  still_set past e who legal set =
      elim (sets_or_leaves m e.call) [
        | inl sets ↦ ⊎_elim
            (λ (by : e.who ≡ who).
            let one : sets.0 ≡ 1 = once (own e.who past) e.who sets.0 (may_set c (own e.who past) e.who e.call m sets.0 legal sets.1.0) in
            ap (last_set m) (own-push_same who past e by) ∙ set_push m (own who past) (told e) ∙ sets.1.1 (last_set m (own who past)) ∙ ap Some one)
            (λ (other : e.who ≡ who → ⊥). ap (last_set m) (own-push_other who past e other) ∙ set)
            (cases_eq e.who who)
        | inr leaves ↦ set_left m who past e leaves ∙ set
      ]

  nothing_more : (s : State) (past later : List Entry) → GoesOn c s past later → last_set m (own (producer c r) past) ≡ Some 1 → submitted_of r (all_told later) ≡ []
  nothing_more s past [] goes set = refl
  nothing_more s past (e ∷ es) goes set =
      ap (λ items. part_of submitted_step r items (all_told es)) (not_submitted past e goes.0 set)
      ∙ nothing_more (after c s e.who e.call) (past ++ e ∷ []) es goes.2 (still_set past e (producer c r) goes.0 set)

  not_reserved : (past : List Entry) (e : Entry) → IsLegal c (own e.who past) e.who e.call → last_set m (own (producer c r) past) ≡ Some 1 → (n : ℕ) → e.call ≢ Reserve r n
  not_reserved past e legal set n is =
      let here : IsLegal c (own e.who past) e.who (Reserve r n) = subst (IsLegal c (own e.who past) e.who) is legal in
      ended (own e.who past) (ap (λ w. last_set m (own w past)) here.role ∙ set) here.feeds

  none_reserved : (s : State) (past later : List Entry) → GoesOn c s past later → last_set m (own (producer c r) past) ≡ Some 1
      → All (λ (x : Entry). (n : ℕ) → x.call ≢ Reserve r n) later
  none_reserved s past [] goes set = All-nil (λ (x : Entry). (n : ℕ) → x.call ≢ Reserve r n)
  none_reserved s past (e ∷ es) goes set =
      All-cons (λ (x : Entry). (n : ℕ) → x.call ≢ Reserve r n) e es (not_reserved past e goes.0 set)
      (none_reserved (after c s e.who e.call) (past ++ e ∷ []) es goes.2 (still_set past e (producer c r) goes.0 set))

  -- a call of the ring leaves no room where there is none
  no_room : (past : List Entry) (who : ℕ) (call : Call) (reply : Reply) → IsLegal c (own who past) who call → last_set m (own (producer c r) past) ≡ Some 1
      → is_on r call ≡ true → (granted call reply ≡ 0) × (length (submitted call) ≡ 0)
  no_room past who (Reserve q n) reply legal set on =
      let one : r ≡ q = is_ring-true r q on in
      let mine : who ≡ producer c r = legal.role ∙ ap (producer c) (sym one) in
      absurd (ended (own who past) (ap (λ w. last_set m (own w past)) mine ∙ set) (subst (IsFed c (own who past)) (sym one) legal.feeds))
  no_room past who (Submit q items) reply legal set on =
      let one : r ≡ q = is_ring-true r q on in
      let mine : who ≡ producer c r = legal.role ∙ ap (producer c) (sym one) in
      absurd (ended (own who past) (ap (λ w. last_set m (own w past)) mine ∙ set) (subst (IsFed c (own who past)) (sym one) legal.feeds))
  no_room past who (Peek q n) reply legal set on = (refl, refl)
  no_room past who (Release q n) reply legal set on = (refl, refl)
  no_room past who (Swap n value) reply legal set on = (refl, refl)
  no_room past who (Look n) reply legal set on = (refl, refl)

  room_stays : (past : List Entry) (e : Entry) → IsLegal c (own e.who past) e.who e.call → last_set m (own (producer c r) past) ≡ Some 1
      → room_of r (own (producer c r) past) ≡ 0 → room_of r (own (producer c r) (past ++ e ∷ [])) ≡ 0
  room_stays past e legal set none = ⊎_elim
      (λ (on : is_on r e.call ≡ true). ⊎_elim
      (λ (by : e.who ≡ producer c r).
      let idle = no_room past e.who e.call e.reply legal set on in
      let push : room_of r (own (producer c r) (past ++ e ∷ [])) ≡ room_of r (own (producer c r) past) + granted e.call e.reply - length (submitted e.call) =
      ap (room_of r) (own-push_same (producer c r) past e by) ∙ part_of-push_same room_step r 0 (own (producer c r) past) (told e) on in
      omega (arith, push, idle.0, idle.1, none))
      (λ (other : e.who ≡ producer c r → ⊥). ap (room_of r) (own-push_other (producer c r) past e other) ∙ none)
      (cases_eq e.who (producer c r)))
      (λ (off : is_on r e.call ≡ false). part_of_own-push_other room_step r 0 (producer c r) past e off ∙ none)
      (cases_Bool (is_on r e.call))

  room_stays_on : (s : State) (past later : List Entry) → GoesOn c s past later → last_set m (own (producer c r) past) ≡ Some 1
      → room_of r (own (producer c r) past) ≡ 0 → room_of r (own (producer c r) (past ++ later)) ≡ 0
  room_stays_on s past [] goes set none = ap (λ h. room_of r (own (producer c r) h)) (append-nil past) ∙ none
  room_stays_on s past (e ∷ es) goes set none =
      ap (λ h. room_of r (own (producer c r) h)) (sym (append_assoc past (e ∷ []) es))
      ∙ room_stays_on (after c s e.who e.call) (past ++ e ∷ []) es goes.2 (still_set past e (producer c r) goes.0 set) (room_stays past e goes.0 set none)

  set_by : (past : List Entry) (e : Entry) (value : ℕ) → e.call ≡ Swap m value → MaySwap c (own e.who past) e.who m value → e.who ≡ producer c r
      → last_set m (own (producer c r) (past ++ e ∷ [])) ≡ Some 1
  set_by past e value is may by =
      ap (last_set m) (own-push_same (producer c r) past e by) ∙ set_push m (own (producer c r) past) (told e)
      ∙ ap (set_after m (last_set m (own (producer c r) past))) is ∙ ap (λ b. cond b (Some value) (last_set m (own (producer c r) past))) (is_mark-self m)
      ∙ ap Some (once (own e.who past) e.who value may)

  after_end : (frames : List Frame) (past later : List Entry) (e : Entry) (value : ℕ) → IsHistory c frames (past ++ e ∷ later) → e.call ≡ Swap m value
      → ((mine : List Told) (who : ℕ) → MaySwap c mine who m value → who ≡ producer c r) → submitted_of r (all_told later) ≡ []
  after_end frames past later e value history is owner =
      let goes = goes_rest c (opening c frames) [] past (e ∷ later) history.legal in
      let may = may_set c (own e.who past) e.who e.call m value goes.0 is in
      let by : e.who ≡ producer c r = owner (own e.who past) e.who may in
      nothing_more (after c (state_after c frames past) e.who e.call) (past ++ e ∷ []) later goes.2 (set_by past e value is may by)

  none_after_end : (frames : List Frame) (past later : List Entry) (e : Entry) (value : ℕ) → IsHistory c frames (past ++ e ∷ later) → e.call ≡ Swap m value
      → ((mine : List Told) (who : ℕ) → MaySwap c mine who m value → who ≡ producer c r) → All (λ (x : Entry). (n : ℕ) → x.call ≢ Reserve r n) later
  none_after_end frames past later e value history is owner =
      let goes = goes_rest c (opening c frames) [] past (e ∷ later) history.legal in
      let may = may_set c (own e.who past) e.who e.call m value goes.0 is in
      none_reserved (after c (state_after c frames past) e.who e.call) (past ++ e ∷ []) later goes.2 (set_by past e value is may (owner (own e.who past) e.who may))

  room_after_end : (frames : List Frame) (past later : List Entry) (e : Entry) (value : ℕ) → IsHistory c frames (past ++ e ∷ later) → e.call ≡ Swap m value
      → ((mine : List Told) (who : ℕ) → MaySwap c mine who m value → (who ≡ producer c r) × (room_of r mine ≡ 0))
      → room_of r (own (producer c r) (past ++ e ∷ later)) ≡ 0
  room_after_end frames past later e value history is owner =
      let goes = goes_rest c (opening c frames) [] past (e ∷ later) history.legal in
      let may = may_set c (own e.who past) e.who e.call m value goes.0 is in
      let so = owner (own e.who past) e.who may in
      let off : is_on r e.call ≡ false = ap (is_on r) is in
      let empty : room_of r (own (producer c r) past) ≡ 0 = ap (λ w. room_of r (own w past)) (sym so.0) ∙ so.1 in
      ap (λ h. room_of r (own (producer c r) h)) (sym (append_assoc past (e ∷ []) later))
      ∙ room_stays_on (after c (state_after c frames past) e.who e.call) (past ++ e ∷ []) later goes.2 (set_by past e value is may so.0)
      (part_of_own-push_other room_step r 0 (producer c r) past e off ∙ empty)

-- the socket to close is one that an entry names
pub ended_rings : EndedRings
ended_rings c frames past later e x value history =
    let goes = goes_rest c (opening c frames) [] past (e ∷ later) history.legal in (
      λ is.
          let which = (may_set c (own e.who past) e.who e.call (Acked x) value goes.0 is).0.0 in
          after_end c (Acked x) (Rx x) (λ mine set fed. fed which set) (λ mine who v may. may.1.0) frames past later e value history is (λ mine who may. may.0.1),
      λ is.
          let which = (may_set c (own e.who past) e.who e.call (Closing x) value goes.0 is).0.0 in
          after_end c (Closing x) (Tx x) (λ mine set fed. fed which set) (λ mine who v may. may.1.0) frames past later e value history is (λ mine who may. may.0.1),
    )

pub nothing_reserved : NothingReserved
nothing_reserved c frames past later e x value history =
    let goes = goes_rest c (opening c frames) [] past (e ∷ later) history.legal in (
      λ is.
          let which = (may_set c (own e.who past) e.who e.call (Acked x) value goes.0 is).0.0 in
          none_after_end c (Acked x) (Rx x) (λ mine set fed. fed which set) (λ mine who v may. may.1.0) frames past later e value history is (λ mine who may. may.0.1),
      λ is.
          let which = (may_set c (own e.who past) e.who e.call (Acked x) value goes.0 is).0.0 in
          room_after_end c (Acked x) (Rx x) (λ mine set fed. fed which set) (λ mine who v may. may.1.0) frames past later e value history is (λ mine who may. (may.0.1, may.1.2)),
      λ is.
          let which = (may_set c (own e.who past) e.who e.call (Closing x) value goes.0 is).0.0 in
          none_after_end c (Closing x) (Tx x) (λ mine set fed. fed which set) (λ mine who v may. may.1.0) frames past later e value history is (λ mine who may. may.0.1),
    )

-- what a caller's own calls leave: nothing was late, and where it ever set the mark to 1, that stands
record IsInTime (c : Config) (s : ℕ) (m : Mark) (r : Ring) (mine : List Told) : Type 0 where
  late : (telling_of m r mine).late ≡ false
  told : (telling_of m r mine).told ≡ true → (c.closing ≡ Some s) × (last_set m mine ≡ Some 1)

module _ (c : Config) (who s : ℕ) (m : Mark) (r : Ring)
    (once : (mine : List Told) (value : ℕ) → MaySwap c mine who m value → (c.closing ≡ Some s) × (value ≡ 1))
    (ended : (mine : List Told) → c.closing ≡ Some s → last_set m mine ≡ Some 1 → IsFed c mine r → ⊥) where
  abbrev Next : List Told → Telling → Call → Type 0
  Next mine u call = ((telling_after m r u call).late ≡ false) × ((telling_after m r u call).told ≡ true → (c.closing ≡ Some s) × (set_after m (last_set m mine) call ≡ Some 1))

  one_call : (mine : List Told) (call : Call) (u : Telling) → u.late ≡ false → (u.told ≡ true → (c.closing ≡ Some s) × (last_set m mine ≡ Some 1)) → IsLegal c mine who call → Next mine u call
  one_call mine (Reserve q n) u late told legal = (late, told)
  one_call mine (Peek q n) u late told legal = (late, told)
  one_call mine (Release q n) u late told legal = (late, told)
  one_call mine (Look q) u late told legal = (late, told)
  one_call mine (Submit q items) u late told legal = (ap (λ b. b || (u.told && is_ring r q)) late ∙ not_both u.told (is_ring r q) refl refl, told)
    where
      not_both : (a b : Bool) → a ≡ u.told → b ≡ is_ring r q → (a && b) ≡ false
      not_both true true e f =
          let one : r ≡ q = is_ring-true r q (sym f) in
          let was = told (sym e) in
          absurd (ended mine was.0 was.1 (subst (IsFed c mine) (sym one) legal.feeds))
      not_both true false e f = refl
      not_both false b e f = refl
  one_call mine (Swap q value) u late told legal = (late, by (is_mark m q) refl)
    where
      or_none : (a : Bool) → (a || false) ≡ true → a ≡ true
      or_none true k = refl
      or_none false k = k

      by : (b : Bool) → b ≡ is_mark m q → (u.told || (b && eqb value 1)) ≡ true → (c.closing ≡ Some s) × (cond b (Some value) (last_set m mine) ≡ Some 1)
      by true e t =
          let one : m ≡ q = is_mark-true m q (sym e) in
          let may = once mine value (subst (λ p. MaySwap c mine who p value) (sym one) legal.role) in
          (may.0, ap Some may.1)
      by false e t = told (or_none u.told t)

  in_time : (mine : List Told) → OwnGoesOn c who [] mine → IsInTime c s m r mine
  in_time mine goes =
      own_all (IsInTime c s m r) c who [] mine
      (λ before t legal fits h.
      let next = one_call before t.call (telling_of m r before) h.late h.told legal in
      let push : telling_of m r (before ++ t ∷ []) ≡ telling_after m r (telling_of m r before) t.call = fold_push (telling_step m r) (record { told = false; late = false }) before t in
      record {
        late = ap (λ (v : Telling). v.late) push ∙ next.0;
        told = λ is. let so = next.1 (sym (ap (λ (v : Telling). v.told) push) ∙ is) in (so.0, set_push m before t ∙ so.1);
      })
      goes (record { late = refl; told = λ is. absurd (cc) })

pub never_late : NeverLate
never_late c who s mine goes = (
  (in_time c who s (Acked s) (Rx s) (λ l value may. (may.0.0, may.1.0)) (λ l which set fed. fed which set) mine goes).late,
  (in_time c who s (Closing s) (Tx s) (λ l value may. (may.0.0, may.1.0)) (λ l which set fed. fed which set) mine goes).late,
)

-- ---- nothing to close

module _ (c : Config) (none : c.closing ≡ None) where
  no_socket : (s : ℕ) → c.closing ≡ Some s → ⊥
  no_socket s is = let e : None ≡ Some s = sym none ∙ is in absurd (cc)

  open_role : (mine : List Told) (who : ℕ) (call : Call) → HasRole c mine who call ↔ HasOpenRole c mine who call
  open_role mine who (Reserve r n) = (λ h. h, λ h. h)
  open_role mine who (Submit r items) = (λ h. h, λ h. h)
  open_role mine who (Peek r n) = (λ h. h, λ h. h)
  open_role mine who (Release r n) = (λ h. h, λ h. h)
  open_role mine who (Look m) = (λ h. h, λ h. h)
  open_role mine who (Swap (NeedFill d) value) = (λ h. (refl, h.0), λ h. (h.1, tt))
  open_role mine who (Swap (NeedTx s) value) = (λ h. (refl, h.0), λ h. (h.1, tt))
  open_role mine who (Swap (Kick d) value) = (λ h. (refl, h.0), λ h. (h.1, tt))
  open_role mine who (Swap (RxDone d) value) = (λ h. (refl, h.0), λ h. (h.1, tt))
  open_role mine who (Swap (Gone d) value) = (λ h. (refl, h.0), λ h. (h.1, tt))
  open_role mine who (Swap (TxDone a) value) = (λ h. (refl, h.0), λ h. (h.1, tt))
  open_role mine who (Swap (Cell port index) value) = (λ h. absurd (no_socket h.0.0 h.0.1.0), λ h. let e : false ≡ true = h.0 in absurd (cc))
  open_role mine who (Swap (Closing s) value) = (λ h. absurd (no_socket s h.0.0), λ h. let e : false ≡ true = h.0 in absurd (cc))
  open_role mine who (Swap (Acked s) value) = (λ h. absurd (no_socket s h.0.0), λ h. let e : false ≡ true = h.0 in absurd (cc))
  open_role mine who (Swap (Bounced d) value) = (λ h. h, λ h. h)

  open_fed : (mine : List Told) (r : Ring) → IsFed c mine r
  open_fed mine (Fill d) = tt
  open_fed mine (Comp d) = tt
  open_fed mine (Rx s) = λ is. absurd (no_socket s is)
  open_fed mine (Tx s) = λ is. absurd (no_socket s is)

  open_feeds : (mine : List Told) (call : Call) → MayFeed c mine call
  open_feeds mine (Reserve r n) = open_fed mine r
  open_feeds mine (Submit r items) = open_fed mine r
  open_feeds mine (Peek r n) = tt
  open_feeds mine (Release r n) = tt
  open_feeds mine (Swap m value) = tt
  open_feeds mine (Look m) = tt

  open_legal : (mine : List Told) (who : ℕ) (call : Call) → IsLegal c mine who call ↔ IsLegalOpen c mine who call
  open_legal mine who call = (
    λ h. record { caller = h.caller; known = h.known; role = (open_role mine who call).0 h.role; counted = h.counted; frames = h.frames; items = h.items; packets = h.packets },
    λ h. record { caller = h.caller; known = h.known; role = (open_role mine who call).1 h.role; counted = h.counted; frames = h.frames; items = h.items; packets = h.packets; feeds = open_feeds mine call },
  )

pub nothing_closes : NothingCloses
nothing_closes c none = (
  open_legal c none,
  λ frames h port index history has.
      elim (mark_numbers c frames h (Cell port index) history has) [ inl is ↦ is | inr low ↦ absurd (no_socket c none low.1 low.2.0) ],
)

-- ---- bounces

pub all_completed : AllCompleted
all_completed c h d = from (sockets_of c d) [] (own d h)
  where
    none : (call : Call) → bounced_in [] call ≡ []
    none (Reserve r n) = refl
    none (Submit r items) = refl
    none (Peek r n) = refl
    none (Release r n) = refl
    none (Look m) = refl
    none (Swap (Bounced e) value) = ap (take 1) (nothing_left (value - 1))
      where
        nothing_left : (k : ℕ) → drop {A = List ℕ} k [] ≡ []
        nothing_left zero = refl
        nothing_left (suc k) = refl
    none (Swap m value) = refl

    from : (sockets : List ℕ) (past mine : List Told) → all_sent_from c sockets [] past mine ≡ sent_from c sockets past mine
    from sockets past [] = refl
    from sockets past (t ∷ mine) =
        let here : List (List ℕ) = map (bytes_of c.geometry c.sg) (completed_in c sockets past t.call) in
        ap (λ xs. here ++ xs ++ all_sent_from c sockets [] (past ++ t ∷ []) mine) (none t.call)
        ∙ ap (λ xs. xs ++ all_sent_from c sockets [] (past ++ t ∷ []) mine) (append-nil here)
        ∙ ap (λ xs. here ++ xs) (from sockets (past ++ t ∷ []) mine)

pub all_sent-push : (c : Config) (sockets : List ℕ) (bounces : List (List ℕ)) (past mine : List Told) (t : Told)
    → all_sent_from c sockets bounces past (mine ++ t ∷ [])
    ≡ all_sent_from c sockets bounces past mine ++ (map (bytes_of c.geometry c.sg) (completed_in c sockets (past ++ mine) t.call) ++ bounced_in bounces t.call)
all_sent-push c sockets bounces past [] t =
    let new : List Told → List (List ℕ) = λ l. map (bytes_of c.geometry c.sg) (completed_in c sockets l t.call) ++ bounced_in bounces t.call in
    append-nil (new past) ∙ ap new (sym (append-nil past))
all_sent-push c sockets bounces past (u ∷ mine) t =
    let here : List (List ℕ) = map (bytes_of c.geometry c.sg) (completed_in c sockets past u.call) ++ bounced_in bounces u.call in
    let rest : List (List ℕ) = all_sent_from c sockets bounces (past ++ u ∷ []) mine in
    let new : List Told → List (List ℕ) = λ l. map (bytes_of c.geometry c.sg) (completed_in c sockets l t.call) ++ bounced_in bounces t.call in
    ap (λ xs. here ++ xs) (all_sent-push c sockets bounces (past ++ u ∷ []) mine t)
    ∙ ap (λ l. here ++ (rest ++ new l)) (append_assoc past (u ∷ []) mine)
    ∙ sym (append_assoc here rest (new (past ++ u ∷ mine)))

pub sent_grows : SentGrows
sent_grows c bounces h e d = (
  λ by. ap (all_sent_from c (sockets_of c d) bounces []) (own-push_same d h e by) ∙ all_sent-push c (sockets_of c d) bounces [] (own d h) (told e),
  λ other. ap (all_sent_from c (sockets_of c d) bounces []) (own-push_other d h e other),
)

-- a driver's count is what it last set, and so many of the packets that it is to bounce are sent
record AreCounted (c : Config) (d : ℕ) (bounces : List (List ℕ)) (s : State) (past : List Entry) : Type 0 where
  last : unwrap_or (last_set (Bounced d) (own d past)) 0 ≡ mark_at c s (Bounced d)
  order : bounced_of bounces (own d past) ≡ take (mark_at c s (Bounced d)) bounces

bounced-push : (bounces : List (List ℕ)) (mine : List Told) (t : Told) → bounced_of bounces (mine ++ t ∷ []) ≡ bounced_of bounces mine ++ bounced_in bounces t.call
bounced-push bounces mine t =
    flat_map-append (λ (u : Told). bounced_in bounces u.call) mine (t ∷ []) ∙ ap (λ xs. bounced_of bounces mine ++ xs) (append-nil (bounced_in bounces t.call))

-- a driver's call that leaves its own count bounces nothing
unbounced : (c : Config) (mine : List Told) (d : ℕ) (bounces : List (List ℕ)) (call : Call) → IsLegal c mine d call → Leaves (Bounced d) call → bounced_in bounces call ≡ []
unbounced c mine d bounces (Reserve r n) legal leaves = refl
unbounced c mine d bounces (Submit r items) legal leaves = refl
unbounced c mine d bounces (Peek r n) legal leaves = refl
unbounced c mine d bounces (Release r n) legal leaves = refl
unbounced c mine d bounces (Look m) legal leaves = refl
unbounced c mine d bounces (Swap (Bounced e) value) legal leaves = absurd (leaves.0 value (ap (λ x. Swap (Bounced x) value) (sym legal.role.0)))
unbounced c mine d bounces (Swap m value) legal leaves = refl

module _ (c : Config) (frames : List Frame) (d : ℕ) (bounces : List (List ℕ)) (config : IsConfig c) (has : HasMark c (Bounced d)) where
  keeps_counted : Keeps c frames (AreCounted c d bounces)
  keeps_counted s past e sound legal reply h =
      elim (sets_or_leaves (Bounced d) e.call) [
        | inl set ↦
            let may = may_set c (own e.who past) e.who e.call (Bounced d) set.0 legal set.1.0 in
            let more : set.0 ≡ suc (mark_at c s (Bounced d)) = may.1 ∙ ap (λ w. suc (unwrap_or (last_set (Bounced d) (own w past)) 0)) may.0 ∙ ap suc h.last in
            let now : mark_at c (after c s e.who e.call) (Bounced d) ≡ set.0 =
            ap (λ y. mark_at c (after c s e.who y) (Bounced d)) set.1.0 ∙ mark_set c s e.who (Bounced d) set.0 config has sound.marks in
            let own_now : own d (past ++ e ∷ []) ≡ own d past ++ told e ∷ [] = own-push_same d past e may.0 in
            let count : mark_at c s (Bounced d) + 1 ≡ mark_at c (after c s e.who e.call) (Bounced d) = omega (arith, more, now) in
            let before : set.0 - 1 ≡ mark_at c s (Bounced d) = omega (arith, more) in
            record {
              last = ap (λ l. unwrap_or (last_set (Bounced d) l) 0) own_now
                  ∙ ap (λ o. unwrap_or o 0) (set_push (Bounced d) (own d past) (told e) ∙ set.1.1 (last_set (Bounced d) (own d past))) ∙ sym now;
              order = ap (bounced_of bounces) own_now ∙ bounced-push bounces (own d past) (told e)
                  ∙ ap (λ y. bounced_of bounces (own d past) ++ bounced_in bounces y) set.1.0
                  ∙ ap (λ k. bounced_of bounces (own d past) ++ take 1 (drop k bounces)) before
                  ∙ ap (λ xs. xs ++ take 1 (drop (mark_at c s (Bounced d)) bounces)) h.order
                  ∙ sym (take-add (mark_at c s (Bounced d)) 1 bounces) ∙ ap (λ k. take k bounces) count;
            }
        | inr leaves ↦
            let stays : mark_at c (after c s e.who e.call) (Bounced d) ≡ mark_at c s (Bounced d) = mark_stays c s (own e.who past) e.who e.call (Bounced d) config has legal leaves.0 in
            let same : bounced_of bounces (own d (past ++ e ∷ [])) ≡ bounced_of bounces (own d past) = ⊎_elim
            (λ (by : e.who ≡ d).
            ap (bounced_of bounces) (own-push_same d past e by) ∙ bounced-push bounces (own d past) (told e)
            ∙ ap (λ xs. bounced_of bounces (own d past) ++ xs) (unbounced c (own d past) d bounces e.call (subst (λ w. IsLegal c (own w past) w e.call) by legal) leaves)
            ∙ append-nil (bounced_of bounces (own d past)))
            (λ (other : e.who ≡ d → ⊥). ap (bounced_of bounces) (own-push_other d past e other))
            (cases_eq e.who d) in
            record {
              last = ap (λ o. unwrap_or o 0) (set_left (Bounced d) d past e leaves) ∙ h.last ∙ sym stays;
              order = same ∙ h.order ∙ ap (λ k. take k bounces) (sym stays);
            }
      ]

pub bounced_in_order : BouncedInOrder
bounced_in_order c frames h d bounces history has =
    let first : mark_at c (opening c frames) (Bounced d) ≡ 0 = opening_mark_is c frames (Bounced d) history.opened.config has in
    (along (AreCounted c d bounces) c frames h history (keeps_counted c frames d bounces history.opened.config has)
    (record { last = sym first; order = ap (λ k. take k bounces) (sym first) })).order
