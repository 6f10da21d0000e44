-- How the frames that callers have follow the calls.
use Rattle.std.proofs.Common.{◌≤◌, ◌≡◌, ℕ, zero, suc, ◌+◌, ◌<◌, ◌&&◌, Bool, true, false, cond, eqb, Option, Some, None, List, [], ◌∷◌, ◌++◌, length, take, drop, map, slice_get, get_or, refl, sym, ap, subst, ◌∙◌, arith, append-nil, append_assoc}
use Rattle.std.specs.List.{fold}
use Rattle.std.proofs.lemmas.Bool.{eq-eqb, eqb-true}
use Rattle.std.proofs.lemmas.List.{drop_more, take_more}
use Rattle.xsk_umem.specs.declared.batch.Item.{Item}
use Rattle.xsk_model.specs.Asks.{ask_of}
use Rattle.xsk_model.specs.Entry.{Entry, own, told}
use Rattle.xsk_model.specs.Numbers.{numbers, without, without_one}
use Rattle.xsk_model.specs.Object.{had_after, submitted, taken}
use Rattle.xsk_model.specs.Own.{had_of, had_step}
use Rattle.xsk_model.specs.declared.call.Call.{Call}
use Rattle.xsk_model.specs.declared.call.Call.TheVariants.{Reserve, Submit, Peek, Release, Swap, Look}
use Rattle.xsk_log.specs.Items.{items_of}
use Rattle.xsk_log.specs.Line.{TakesLine}
use Rattle.xsk_log.specs.Log.{call_of, entries_from, entries_of, entry_with, item_of, reply_of}
use Rattle.xsk_log.specs.Repeats.{of_option}
use Rattle.xsk_log.specs.declared.log.Event.{Event}
use Rattle.xsk_log.specs.declared.log.Event.TheVariants.{Granted as WasGranted, Full as WasFull, Submitted as WasSubmitted, Items as HadItems, Empty as WasEmpty, Released as WasReleased, Swapped, Looked}
use Rattle.xsk_log.specs.declared.log.Log.{Log}
use Rattle.xsk_log.specs.declared.log.Row.{Row}
use Rattle.xsk_why.specs.KeptFrames.{all_by, had_by, had_next, held_by, is_held, is_submit, without_all, without_held}
use Rattle.xsk_why.specs.declared.held.Held.{Held}
use Rattle.xsk_why.proofs.Noting.{drop_end, here}

-- ---- the frames of one caller

differs : (a b : ℕ) → (a ≡ b → ⊥) → eqb a b ≡ false
differs a b other = by_cases (eqb a b) refl
  where
    by_cases : (x : Bool) → eqb a b ≡ x → x ≡ false
    by_cases true is = absurd (other (eqb-true a b is))
    by_cases false is = refl

had-append : (w : ℕ) (xs ys : List Held) → had_by w (xs ++ ys) ≡ had_by w xs ++ had_by w ys
had-append w [] ys = refl
had-append w (h ∷ xs) ys = by_cases (eqb h.who w) (had-append w xs ys)
  where
    by_cases : (b : Bool) → had_by w (xs ++ ys) ≡ had_by w xs ++ had_by w ys
        → cond b (h.frame ∷ had_by w (xs ++ ys)) (had_by w (xs ++ ys)) ≡ cond b (h.frame ∷ had_by w xs) (had_by w xs) ++ had_by w ys
    by_cases true later = ap (λ (ns : List ℕ). h.frame ∷ ns) later
    by_cases false later = later

by_own : (who : ℕ) (ns : List ℕ) → had_by who (all_by who ns) ≡ ns
by_own who [] = refl
by_own who (n ∷ ns) =
    ap (λ (b : Bool). cond b (n ∷ had_by who (all_by who ns)) (had_by who (all_by who ns))) (eq-eqb who who refl)
    ∙ ap (λ (later : List ℕ). n ∷ later) (by_own who ns)

by_other : (w who : ℕ) (ns : List ℕ) → eqb who w ≡ false → had_by w (all_by who ns) ≡ []
by_other w who [] other = refl
by_other w who (n ∷ ns) other =
    ap (λ (b : Bool). cond b (n ∷ had_by w (all_by who ns)) (had_by w (all_by who ns))) other ∙ by_other w who ns other

-- ---- without a frame

one_own : (who n : ℕ) (held : List Held) → had_by who (without_held who n held) ≡ without_one n (had_by who held)
one_own who n [] = refl
one_own who n (h ∷ held) = by_cases (eqb h.who who) (eqb h.frame n) refl refl (one_own who n held)
  where
    by_cases : (b c : Bool) → eqb h.who who ≡ b → eqb h.frame n ≡ c → had_by who (without_held who n held) ≡ without_one n (had_by who held)
        → had_by who (cond (b && c) held (h ∷ without_held who n held)) ≡ without_one n (cond b (h.frame ∷ had_by who held) (had_by who held))
    by_cases true true mine same later = sym (ap (λ (x : Bool). cond x (had_by who held) (h.frame ∷ without_one n (had_by who held))) same)
    by_cases true false mine same later =
        ap (λ (x : Bool). cond x (h.frame ∷ had_by who (without_held who n held)) (had_by who (without_held who n held))) mine
        ∙ ap (λ (ns : List ℕ). h.frame ∷ ns) later
        ∙ sym (ap (λ (x : Bool). cond x (had_by who held) (h.frame ∷ without_one n (had_by who held))) same)
    by_cases false c mine same later =
        ap (λ (x : Bool). cond x (h.frame ∷ had_by who (without_held who n held)) (had_by who (without_held who n held))) mine ∙ later

one_other : (w who n : ℕ) (held : List Held) → (who ≡ w → ⊥) → had_by w (without_held who n held) ≡ had_by w held
one_other w who n [] differ = refl
one_other w who n (h ∷ held) differ = by_cases (eqb h.who who) (eqb h.frame n) refl (ap (λ (ns : List ℕ). cond (eqb h.who w) (h.frame ∷ ns) ns) (one_other w who n held differ))
  where
    by_cases : (b c : Bool) → eqb h.who who ≡ b → had_by w (h ∷ without_held who n held) ≡ had_by w (h ∷ held)
        → had_by w (cond (b && c) held (h ∷ without_held who n held)) ≡ had_by w (h ∷ held)
    by_cases true true mine later =
        let other : eqb h.who w ≡ false = differs h.who w (λ same. differ (sym (eqb-true h.who who mine) ∙ same)) in
        sym (ap (λ (x : Bool). cond x (h.frame ∷ had_by w held) (had_by w held)) other)
    by_cases true false mine later = later
    by_cases false c mine later = later

all_own : (who : ℕ) (ns : List ℕ) (held : List Held) → had_by who (without_all who ns held) ≡ without ns (had_by who held)
all_own who [] held = refl
all_own who (n ∷ ns) held = all_own who ns (without_held who n held) ∙ ap (without ns) (one_own who n held)

all_other : (w who : ℕ) (ns : List ℕ) (held : List Held) → (who ≡ w → ⊥) → had_by w (without_all who ns held) ≡ had_by w held
all_other w who [] held differ = refl
all_other w who (n ∷ ns) held differ = all_other w who ns (without_held who n held) differ ∙ one_other w who n held differ

-- ---- a call

-- one that is no Submit brings the items that its entry shows
pub took : (e : Entry) (who : ℕ) (old new : List Held) → e.who ≡ who → submitted e.call ≡ [] → new ≡ old ++ all_by who (numbers (items_of e))
    → (w : ℕ) → had_by w new ≡ had_next w (had_by w old) e
took e who old new mine none is w = by_cases (eqb e.who w) refl
  where
    brought : List ℕ
    brought = numbers (taken e.reply)

    grown : had_by w new ≡ had_by w old ++ had_by w (all_by who (numbers (taken e.reply)))
    grown = ap (had_by w) is ∙ had-append w old (all_by who (numbers (items_of e)))
        ∙ ap (λ (items : List Item). had_by w old ++ had_by w (all_by who (numbers (items ++ taken e.reply)))) none

    by_cases : (b : Bool) → eqb e.who w ≡ b → had_by w new ≡ cond b (had_after (had_by w old) e.call e.reply) (had_by w old)
    by_cases true on =
        let same : who ≡ w = sym mine ∙ eqb-true e.who w on in
        grown ∙ ap (λ (x : ℕ). had_by w old ++ had_by w (all_by x (numbers (taken e.reply)))) same ∙ ap (λ (ns : List ℕ). had_by w old ++ ns) (by_own w (numbers (taken e.reply)))
        ∙ sym (ap (λ (items : List Item). without (numbers items) (had_by w old) ++ numbers (taken e.reply)) none)
    by_cases false off =
        let other : eqb who w ≡ false = ap (λ (x : ℕ). eqb x w) (sym mine) ∙ off in
        grown ∙ ap (λ (ns : List ℕ). had_by w old ++ ns) (by_other w who (numbers (taken e.reply)) other) ∙ append-nil (had_by w old)

-- and a Submit gives them away
pub gave : (e : Entry) (who : ℕ) (old new : List Held) → e.who ≡ who → taken e.reply ≡ [] → new ≡ without_all who (numbers (items_of e)) old
    → (w : ℕ) → had_by w new ≡ had_next w (had_by w old) e
gave e who old new mine none is w = by_cases (eqb e.who w) refl
  where
    less : new ≡ without_all who (numbers (submitted e.call)) old
    less = is ∙ ap (λ (items : List Item). without_all who (numbers items) old) (ap (λ (items : List Item). submitted e.call ++ items) none ∙ append-nil (submitted e.call))

    by_cases : (b : Bool) → eqb e.who w ≡ b → had_by w new ≡ cond b (had_after (had_by w old) e.call e.reply) (had_by w old)
    by_cases true on =
        let same : who ≡ w = sym mine ∙ eqb-true e.who w on in
        ap (had_by w) less ∙ ap (λ (x : ℕ). had_by w (without_all x (numbers (submitted e.call)) old)) same ∙ all_own w (numbers (submitted e.call)) old
        ∙ sym (append-nil (without (numbers (submitted e.call)) (had_by w old)))
        ∙ sym (ap (λ (items : List Item). without (numbers (submitted e.call)) (had_by w old) ++ numbers items) none)
    by_cases false off =
        let differ : who ≡ w → ⊥ = λ same. let one = eq-eqb e.who w (mine ∙ same) in cc (one, off) in
        ap (had_by w) less ∙ all_other w who (numbers (submitted e.call)) old differ

pub gives_none : (call : Call) → is_submit (ask_of call) ≡ false → submitted call ≡ []
gives_none (Reserve r n) is = refl
gives_none (Submit r items) is = absurd (cc)
gives_none (Peek r n) is = refl
gives_none (Release r n) is = refl
gives_none (Swap m value) is = refl
gives_none (Look m) is = refl

-- a Submit of a log brings none
of_event : (event : Event) (items : List Item) → is_submit (ask_of (call_of event items)) ≡ true → taken (reply_of event items) ≡ []
of_event (WasGranted r n) items is = refl
of_event (WasFull r n free) items is = refl
of_event (WasSubmitted r) items is = refl
of_event (HadItems r n) items is = absurd (cc)
of_event (WasEmpty r n) items is = refl
of_event (WasReleased r n) items is = refl
of_event (Swapped m value old) items is = refl
of_event (Looked m old) items is = refl

of_rows : (rows : List Row) (items : List Item) (i : ℕ) (e : Entry) → slice_get (entries_from rows items) i ≡ Some e → is_submit (ask_of e.call) ≡ true → taken e.reply ≡ []
of_rows [] items i e at = absurd (cc)
of_rows (row ∷ rows) items zero e at =
    let same : entry_with row.who row.event (take row.items items) ≡ e = cc in
    subst (λ (x : Entry). is_submit (ask_of x.call) ≡ true → taken x.reply ≡ []) same (of_event row.event (take row.items items))
of_rows (row ∷ rows) items (suc i) e at = of_rows rows (drop row.items items) i e at

pub brings_none : (log : Log) (i : ℕ) (e : Entry) → slice_get (entries_of log) i ≡ Some e → is_submit (ask_of e.call) ≡ true → taken e.reply ≡ []
brings_none log i e at = of_rows log.rows.items (map (item_of log.bytes.items) log.pieces.items) i e at

-- one entry more
pub held_more : (log : List Entry) (i : ℕ) (e : Entry) (later : List Entry) (old new : List Held) → drop i log ≡ e ∷ later → ((w : ℕ) → had_by w new ≡ had_next w (had_by w old) e)
    → ((w : ℕ) → fold had_step (had_by w old) (own w (drop i log)) ≡ had_of (own w log)) → (w : ℕ) → fold had_step (had_by w new) (own w (drop (i + 1) log)) ≡ had_of (own w log)
held_more log i e later old new is next before w =
    let on : i + 1 ≡ suc i = omega arith in
    let rest : drop (i + 1) log ≡ later = ap (λ (k : ℕ). drop k log) on ∙ (here log i e later is).1 in
    ap (λ (had : List ℕ). fold had_step had (own w (drop (i + 1) log))) (next w)
    ∙ ap (λ (es : List Entry). fold had_step (had_next w (had_by w old) e) (own w es)) rest
    ∙ by_cases (eqb e.who w)
    ∙ sym (ap (λ (es : List Entry). fold had_step (had_by w old) (own w es)) is) ∙ before w
  where
    by_cases : (b : Bool) → fold had_step (cond b (had_after (had_by w old) e.call e.reply) (had_by w old)) (own w later)
        ≡ fold had_step (had_by w old) (cond b (told e ∷ own w later) (own w later))
    by_cases true = refl
    by_cases false = refl

-- ---- places

-- what stands at a place is the frame that is looked for, or it isn't
pub found_at : (who n : ℕ) (held : List Held) (i : ℕ) (d : Held) → i < length held → is_held who n (get_or held i d) ≡ true → without_held who n (drop i held) ≡ drop (i + 1) held
found_at who n held i d within same =
    ap (without_held who n) (drop_more held i d within) ∙ ap (λ (b : Bool). cond b (drop (i + 1) held) (get_or held i d ∷ without_held who n (drop (i + 1) held))) same

pub not_at : (who n : ℕ) (held : List Held) (i : ℕ) (d : Held) → i < length held → is_held who n (get_or held i d) ≡ false
    → take i held ++ without_held who n (drop i held) ≡ take (i + 1) held ++ without_held who n (drop (i + 1) held)
not_at who n held i d within other =
    let h : Held = get_or held i d in
    let later : List Held = without_held who n (drop (i + 1) held) in
    ap (λ (hs : List Held). take i held ++ without_held who n hs) (drop_more held i d within)
    ∙ ap (λ (b : Bool). take i held ++ cond b (drop (i + 1) held) (h ∷ later)) other
    ∙ sym (append_assoc (take i held) (h ∷ []) later) ∙ sym (ap (λ (hs : List Held). hs ++ later) (take_more held i d within))

-- ---- lines

pub had_at : (w : ℕ) (held : List Held) (i : ℕ) (d : Held) → i < length held → had_by w (drop i held) ≡ had_by w (get_or held i d ∷ drop (i + 1) held)
had_at w held i d within = ap (had_by w) (drop_more held i d within)

-- ---- a walk

-- an entry that is left
pub first_left : (log : List Entry) (i : ℕ) → i < length log → (e : Entry) × (later : List Entry) × (drop i log ≡ e ∷ later)
first_left [] i within = absurd (omega (arith, within))
first_left (x ∷ log) zero within = (x, log, refl)
first_left (x ∷ log) (suc i) within = first_left log i (omega (arith, within))

-- and is passed
pub passed : (pairs : ℕ) (left after : List Entry) (before line : List ℕ) (told : Option ℕ) (e : Entry) (later : List Entry) → TakesLine pairs left after before line told → left ≡ e ∷ later → after ≡ later
passed pairs [] after before line told e later takes is = let none : [] ≡ e ∷ later = is in absurd (cc)
passed pairs (x ∷ xs) after before line told e later takes is =
    let rest : xs ≡ later = cc in
    takes.1 ∙ rest

-- ---- item by item

all-append : (who : ℕ) (xs ys : List ℕ) → all_by who (xs ++ ys) ≡ all_by who xs ++ all_by who ys
all-append who [] ys = refl
all-append who (x ∷ xs) ys = ap (λ (hs : List Held). held_by who x ∷ hs) (all-append who xs ys)

pub take_next : (who : ℕ) (frame : Option ℕ) (later : List ℕ) (old new : List Held) → new ≡ old ++ all_by who (of_option frame)
    → new ++ all_by who later ≡ old ++ all_by who (of_option frame ++ later)
take_next who frame later old new is =
    ap (λ (hs : List Held). hs ++ all_by who later) is ∙ append_assoc old (all_by who (of_option frame)) (all_by who later)
    ∙ ap (λ (hs : List Held). old ++ hs) (sym (all-append who (of_option frame) later))

pub give_next : (who : ℕ) (frame : Option ℕ) (later : List ℕ) (held : List Held) → without_all who later (without_all who (of_option frame) held) ≡ without_all who (of_option frame ++ later) held
give_next who None later held = refl
give_next who (Some n) later held = refl

-- at the end nothing was found
pub none_after : (who n : ℕ) (held : List Held) (i : ℕ) → length held ≤ i → take i held ++ without_held who n (drop i held) ≡ without_held who n held → held ≡ without_held who n held
none_after who n held i end is =
    sym (append-nil held) ∙ ap (λ (hs : List Held). hs ++ []) (sym (take_all held i end)) ∙ sym (ap (λ (hs : List Held). take i held ++ without_held who n hs) (drop_end held i end)) ∙ is
  where
    take_all : (xs : List Held) (k : ℕ) → length xs ≤ k → take k xs ≡ xs
    take_all [] zero all = refl
    take_all [] (suc k) all = refl
    take_all (x ∷ xs) zero all = absurd (omega (arith, all))
    take_all (x ∷ xs) (suc k) all = ap (λ (hs : List Held). x ∷ hs) (take_all xs k (omega (arith, all)))
