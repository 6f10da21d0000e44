-- How what is waited for follows the calls.
use Rattle.std.proofs.Common.{◌≡◌, ◌↔◌, ℕ, zero, suc, ◌+◌, Bool, true, false, cond, IsTrue, Some, None, ◌<◌, ◌≤◌, List, [], ◌∷◌, ◌++◌, length, drop, map, slice_get, get_or, refl, sym, ap, ◌∙◌, arith}
use Rattle.std.proofs.lemmas.List.{drop_more}
use Rattle.xsk_umem.specs.declared.batch.Item.{Item}
use Rattle.xsk_model.specs.Asks.{ask_of, answer_of, joined_call, joined_reply}
use Rattle.xsk_model.specs.Entry.{Entry}
use Rattle.xsk_model.specs.Object.{submitted, taken}
use Rattle.xsk_model.specs.OtherWords.{changes}
use Rattle.xsk_model.specs.Own.{is_same}
use Rattle.xsk_model.specs.declared.ask.Ask.{Ask}
use Rattle.xsk_model.specs.declared.ask.Answer.{Answer}
use Rattle.xsk_model.specs.declared.call.Call.{Call}
use Rattle.xsk_model.specs.declared.call.Call.TheVariants.{Reserve, Submit, Peek, Release, Swap, Look}
use Rattle.xsk_model.specs.declared.call.Reply.{Reply}
use Rattle.xsk_model.specs.declared.call.Reply.TheVariants.{Granted, Full, Submitted, Items, Empty, Released, Old}
use Rattle.xsk_model.proofs.Completions.{is_same-self, is_same-true}
use Rattle.xsk_log.specs.Line.{line_of, TakesLine}
use Rattle.xsk_log.specs.Log.{calls_of, entries_of, entries_from, item_of}
use Rattle.xsk_log.specs.declared.log.Log.{Log}
use Rattle.xsk_log.specs.declared.log.Row.{Row}
use Rattle.xsk_why.specs.Waiting.{Waiting, is_told, told_once, waits_after, waits_from, waits_of, waiting_by}
use Rattle.xsk_why.specs.KeptWaits.{shown, waiting_in}
use Rattle.xsk_why.specs.declared.waits.Wait.{Wait}

-- ---- a call and its items

joined_is : (call : Call) → joined_call (ask_of call) (submitted call) ≡ call
joined_is (Reserve r n) = refl
joined_is (Submit r items) = refl
joined_is (Peek r n) = refl
joined_is (Release r n) = refl
joined_is (Swap m value) = refl
joined_is (Look m) = refl

answered_is : (reply : Reply) → joined_reply (answer_of reply) (taken reply) ≡ reply
answered_is Granted = refl
answered_is (Full places) = refl
answered_is Submitted = refl
answered_is (Items items) = refl
answered_is Empty = refl
answered_is Released = refl
answered_is (Old value) = refl

-- a call is quiet exactly where it changes nothing
pub quiet_by : (e : Entry) (ask : Ask) (answer : Answer) (quiet : Bool) → ask_of e.call ≡ ask → answer_of e.reply ≡ answer
    → ((items later : List Item) → IsTrue quiet ↔ ((changes (joined_call ask items) (joined_reply answer later) ≡ false) × (◌≡◌ {A = ℕ} 0 0)))
    → IsTrue quiet ↔ (changes e.call e.reply ≡ false)
quiet_by e ask answer quiet asked answered is =
    let call : joined_call ask (submitted e.call) ≡ e.call = ap (λ (a : Ask). joined_call a (submitted e.call)) (sym asked) ∙ joined_is e.call in
    let reply : joined_reply answer (taken e.reply) ≡ e.reply = ap (λ (a : Answer). joined_reply a (taken e.reply)) (sym answered) ∙ answered_is e.reply in
    let same : changes (joined_call ask (submitted e.call)) (joined_reply answer (taken e.reply)) ≡ changes e.call e.reply =
    ap (λ (x : Call). changes x (joined_reply answer (taken e.reply))) call ∙ ap (changes e.call) reply in
    let both = is (submitted e.call) (taken e.reply) in
    (λ yes. sym same ∙ (both.0 yes).0, λ no. both.1 (same ∙ no, refl))

pub changed : (pairs : ℕ) (waits : List Waiting) (e : Entry) → (changes e.call e.reply ≡ false → ⊥) → [] ≡ waits_after pairs waits e
changed pairs waits e some = by_cases (changes e.call e.reply) refl
  where
    by_cases : (b : Bool) → changes e.call e.reply ≡ b → [] ≡ cond b [] (told_once waits (waiting_by pairs e))
    by_cases true is = refl
    by_cases false is = absurd (some is)

pub unchanged : (pairs : ℕ) (waits after : List Waiting) (e : Entry) → changes e.call e.reply ≡ false → after ≡ told_once waits (waiting_by pairs e) → after ≡ waits_after pairs waits e
unchanged pairs waits after e none is = is ∙ ap (λ b. cond b [] (told_once waits (waiting_by pairs e))) (sym none)

-- ---- lines

same_line : (a b : List ℕ) → a ≡ b → is_same a b ≡ true
same_line a b is = ap (is_same a) (sym is) ∙ is_same-self a

other_line : (a b : List ℕ) → (a ≡ b → ⊥) → is_same a b ≡ false
other_line a b differ = by_cases (is_same a b) refl
  where
    by_cases : (x : Bool) → is_same a b ≡ x → x ≡ false
    by_cases true is = absurd (differ (is_same-true a b is))
    by_cases false is = refl

pub told_here : (line : List ℕ) (w : Waiting) (waits : List Waiting) → w.line ≡ line → is_told line (w ∷ waits) ≡ true
told_here line w waits is = ap (λ b. cond b true (is_told line waits)) (same_line w.line line is)

pub told_later : (line : List ℕ) (w : Waiting) (waits : List Waiting) → (w.line ≡ line → ⊥) → is_told line (w ∷ waits) ≡ is_told line waits
told_later line w waits differ = ap (λ b. cond b true (is_told line waits)) (other_line w.line line differ)

pub told_same : (waits : List Waiting) (w : Waiting) → is_told w.line waits ≡ true → waits ≡ told_once waits w
told_same waits w told = ap (λ b. cond b waits (waits ++ w ∷ [])) (sym told)

pub told_more : (waits : List Waiting) (w : Waiting) → is_told w.line waits ≡ false → waits ++ w ∷ [] ≡ told_once waits w
told_more waits w none = ap (λ b. cond b waits (waits ++ w ∷ [])) (sym none)

-- ---- a walk

drop_next : {A : Type 0} (xs : List A) (i : ℕ) (x : A) → i < length xs → x ≡ get_or xs i x → drop i xs ≡ x ∷ drop (i + 1) xs
drop_next xs i x within is = drop_more xs i x within ∙ ap (λ y. y ∷ drop (i + 1) xs) (sym is)

pub drop_end : {A : Type 0} (xs : List A) (i : ℕ) → length xs ≤ i → drop i xs ≡ []
drop_end [] zero all = refl
drop_end [] (suc i) all = refl
drop_end (x ∷ xs) zero all = absurd (omega (arith, all))
drop_end (x ∷ xs) (suc i) all = drop_end xs i (omega (arith, all))

pub told_at : (line : List ℕ) (waits : List Wait) (i : ℕ) (wait : Wait) → i < length waits → wait ≡ get_or waits i wait → wait.line.items ≡ line
    → is_told line (shown (drop i waits)) ≡ true
told_at line waits i wait within is same =
    ap (λ (ws : List Wait). is_told line (shown ws)) (drop_next waits i wait within is) ∙ told_here line (waiting_in wait) (shown (drop (i + 1) waits)) same

pub told_past : (line : List ℕ) (waits : List Wait) (i : ℕ) (wait : Wait) → i < length waits → wait ≡ get_or waits i wait → (wait.line.items ≡ line → ⊥)
    → is_told line (shown (drop i waits)) ≡ is_told line (shown (drop (i + 1) waits))
told_past line waits i wait within is differ =
    ap (λ (ws : List Wait). is_told line (shown ws)) (drop_next waits i wait within is) ∙ told_later line (waiting_in wait) (shown (drop (i + 1) waits)) differ

-- the entry that is passed stands at its place in the log
pub here : (log : List Entry) (i : ℕ) (e : Entry) (later : List Entry) → drop i log ≡ e ∷ later → (slice_get log i ≡ Some e) × (drop (suc i) log ≡ later)
here [] zero e later is = let none : [] ≡ e ∷ later = is in absurd (cc)
here [] (suc i) e later is = let none : [] ≡ e ∷ later = is in absurd (cc)
here (x ∷ log) zero e later is = let one : x ≡ e = cc in let rest : log ≡ later = cc in (ap Some one, rest)
here (x ∷ log) (suc i) e later is = here log i e later is

-- the first entry that was left, with its line
pub taken_line : (pairs who : ℕ) (left later : List Entry) (before line : List ℕ) → TakesLine pairs left later before line (Some who)
    → (e : Entry) × (left ≡ e ∷ later) × (e.who ≡ who) × (line ≡ line_of pairs e)
taken_line pairs who [] later before line takes = let none : Some who ≡ None = takes.0 in absurd (cc)
taken_line pairs who (e ∷ es) later before line takes =
    let told : Some who ≡ Some e.who = takes.0 in
    let mine : e.who ≡ who = cc in
    (e, ap (λ l. e ∷ l) (sym takes.1), mine, takes.2)

abbrev pub waiting : ℕ → List ℕ → Waiting
waiting who line = record { who = who; line = line }

-- an entry's caller and line are what is noted of it
pub waiting_is : (pairs who : ℕ) (line : List ℕ) (e : Entry) → e.who ≡ who → line ≡ line_of pairs e → waiting who line ≡ waiting_by pairs e
waiting_is pairs who line e mine is = ap (λ k. waiting k line) (sym mine) ∙ ap (waiting e.who) is

-- one entry more
pub waits_more : (pairs : ℕ) (waits after : List Waiting) (log : List Entry) (i : ℕ) (e : Entry) (later : List Entry) → drop i log ≡ e ∷ later → after ≡ waits_after pairs waits e
    → waits_from pairs waits (drop i log) ≡ waits_of pairs log → waits_from pairs after (drop (i + 1) log) ≡ waits_of pairs log
waits_more pairs waits after log i e later is next before =
    let on : i + 1 ≡ suc i = omega arith in
    let rest : drop (i + 1) log ≡ later = ap (λ k. drop k log) on ∙ (here log i e later is).1 in
    ap (λ ws. waits_from pairs ws (drop (i + 1) log)) next ∙ ap (waits_from pairs (waits_after pairs waits e)) rest
    ∙ ap (waits_from pairs waits) (sym is) ∙ before

rows_count : (rows : List Row) (items : List Item) → length rows ≡ length (entries_from rows items)
rows_count [] items = refl
rows_count (row ∷ rows) items = ap suc (rows_count rows (drop row.items items))

-- a log has as many entries as it tells
pub log_count : (log : Log) → calls_of log ≡ length (entries_of log)
log_count log = rows_count log.rows.items (map (item_of log.bytes.items) log.pieces.items)
