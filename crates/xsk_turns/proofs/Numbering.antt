-- Items are changed by their numbers among all that an application submits on TX, though these are counted round.
use Rattle.std.proofs.Common.{◌≡◌, ℕ, zero, suc, ◌+◌, ◌-◌, ◌*◌, ◌/◌, ◌%◌, Bool, true, false, cond, eqb, Option, Some, None, List, [], ◌∷◌, ◌++◌, length, set, refl, sym, ap, ◌∙◌, arith}
use Rattle.std.proofs.Math.Nat.{div-add-mod, mul-add-mod_self_left, mul-add-div}
use Rattle.xsk_turns.proofs.Object.{Geometry, Config}
use Rattle.xsk_turns.proofs.Calls.{Item, Told, with_told, Call, Reply, Submit, Tx, Submitted}
use Rattle.xsk_turns.specs.AppLaw.{sends_count, items_sent, IsNumbered, ChangesByNumber, ChangesRepeat}
use Rattle.xsk_turns.specs.AppTurns.{AppKept, tx_of, pending_at, given_on, app_turn, app_start_by}
use Rattle.xsk_turns.specs.Mangling.{change_of, change_at, made_by, mangled, given_by, number_by, round_of}
use Rattle.xsk_turns.specs.declared.manner.Manner.{Manner}
use Rattle.xsk_turns.specs.declared.manner.Change.{Change}
use Rattle.xsk_turns.specs.declared.manner.Change.TheVariants.{GoesOn}
use Rattle.xsk_turns.proofs.Mangling.{length-given}
use Rattle.xsk_turns.proofs.Walks.{Anything, meet_anything}
use Rattle.xsk_turns.proofs.AppWalk.{Family, SubmitTx, call_at, kept_before, tx_submitted, looked_rx_done, looked_gone, point_of, reply_of, no_lanes, begins, Said, AtCalls, AtEntries, AtSilent, IsLaw, at_call}

-- ---- the changes come round

abbrev change_by : ℕ → ℕ → ℕ → Option Change
change_by every place turn = cond (eqb every 0) (Some GoesOn) (cond (eqb place (every - 1)) (Some (change_of turn)) None)

pub changes_repeat : ChangesRepeat
changes_repeat zero number = refl
changes_repeat (suc k) number =
    let every = suc k in
    let r = number % (5 * every) in
    let q = number / (5 * every) in
    let round : round_of every ≡ 5 * every = omega arith in
    let whole : every * (5 * q) + r ≡ number = swap every q r ∙ div-add-mod number (5 * every) in
    let left : number % every ≡ r % every = ap (λ n. n % every) (sym whole) ∙ mul-add-mod_self_left every (5 * q) r in
    let turn : number / every % 5 ≡ r / every % 5 = ap (λ n. n / every % 5) (sym whole) ∙ ap (λ n. n % 5) (mul-add-div (omega arith) (5 * q) r) ∙ mul-add-mod_self_left 5 q (r / every) in
    ap (λ m. change_at every (number % m)) round
    ∙ ap (λ n. change_by every n (r / every % 5)) (sym left)
    ∙ ap (λ n. change_by every (number % every) n) (sym turn)
  where
    swap : (every q r : ℕ) → every * (5 * q) + r ≡ 5 * every * q + r
    swap every q r = grind arith

same_change : (every a b : ℕ) → a % round_of every ≡ b % round_of every → change_at every a ≡ change_at every b
same_change every a b e = sym (changes_repeat every a) ∙ ap (change_at every) e ∙ changes_repeat every b

add-mod_first : (a n m : ℕ) → (a % m + n) % m ≡ (a + n) % m
add-mod_first a n m =
    let whole : m * (a / m) + (a % m + n) ≡ a + n = omega (arith, div-add-mod a m) in
    sym (mul-add-mod_self_left m (a / m) (a % m + n)) ∙ ap (λ x. x % m) whole

mod-mod : (n m : ℕ) → n % m % m ≡ n % m
mod-mod n m = sym (mul-add-mod_self_left m (n / m) (n % m)) ∙ ap (λ x. x % m) (div-add-mod n m)

next_same : (m a b n : ℕ) → a % m ≡ b % m → (a + n) % m ≡ (b + n) % m
next_same m a b n e = sym (add-mod_first a n m) ∙ ap (λ x. (x + n) % m) e ∙ add-mod_first b n m

same_mangled : (g : Geometry) (every a b : ℕ) (items : List Item) → a % round_of every ≡ b % round_of every → mangled g every a items ≡ mangled g every b items
same_mangled g every a b [] e = refl
same_mangled g every a b (item ∷ items) e =
    ap (λ change. made_by g change item ∷ mangled g every (a + 1) items) (same_change every a b e)
    ∙ ap (λ items'. made_by g (change_at every b) item ∷ items') (same_mangled g every (a + 1) (b + 1) items (next_same (round_of every) a b 1 e))

-- ---- the law

sent-push : (l : List Told) (t : Told) → items_sent (l ++ t ∷ []) ≡ items_sent l + sends_count t.call
sent-push [] t = omega arith
sent-push (x ∷ l) t = omega (arith, sent-push l t)

module _ (c : Config) (a every : ℕ) where
  pub record Numbers (kept : AppKept) (l : List Told) : Type 0 where
    pub mangle : kept.manner.mangle ≡ Some every
    pub number : kept.number % round_of every ≡ items_sent l % round_of every

  abbrev At : Family
  At place noted kept l = Numbers kept l

  abbrev Asked : Said
  Asked kept call l = IsNumbered c.geometry every l call

  still : (kept now : AppKept) (l : List Told) (call : Call) (reply : Reply) → now.manner ≡ kept.manner → now.number ≡ kept.number → sends_count call ≡ 0 → Numbers kept l → Numbers now (with_told l call reply)
  still kept now l call reply e f none h = record {
    mangle = ap (λ (m : Manner). m.mangle) e ∙ h.mangle;
    number = ap (λ n. n % round_of every) f ∙ h.number ∙ ap (λ n. n % round_of every) (let push = sent-push l (record { call = call; reply = reply }) in omega (arith, push, none));
  }

  flagged : (b : Bool) (now kept : AppKept) (l : List Told) → now.manner ≡ kept.manner → now.number ≡ kept.number → Numbers kept l → Numbers (cond b now kept) l
  flagged true now kept l e f h = record { mangle = ap (λ (m : Manner). m.mangle) e ∙ h.mangle; number = ap (λ n. n % round_of every) f ∙ h.number }
  flagged false now kept l e f h = h

  calls : AtCalls c a At Asked
  calls (SubmitTx lane) noted kept l known h = (
    pending_at kept lane,
    ap (λ mangle. given_by c.geometry mangle kept.number (pending_at kept lane)) h.mangle ∙ same_mangled c.geometry every kept.number (items_sent l) (pending_at kept lane) h.number,
  )
  calls p noted kept l known h = tt

  entries : AtEntries c a Anything At Asked
  entries (tx_submitted lane) noted kept l known h asked q =
      let n = length (pending_at kept lane) in
      let m = round_of every in
      let t : Told = record { call = Submit (Tx (tx_of c a lane)) (given_on c lane kept); reply = Submitted } in
      let push : items_sent l + n ≡ items_sent (l ++ t ∷ []) = omega (arith, sent-push l t, length-given c.geometry kept.manner.mangle kept.number (pending_at kept lane)) in
      record {
        mangle = h.mangle;
        number = ap (λ mangle. number_by mangle kept.number n % m) h.mangle ∙ mod-mod (kept.number + n) m ∙ next_same m kept.number (items_sent l) n h.number ∙ ap (λ k. k % m) push;
      }
  entries (looked_rx_done side n) noted kept l known h asked q = flagged (eqb n 1) (record kept { seen = set kept.seen side true }) kept _ refl refl (still kept kept l _ _ refl refl refl h)
  entries (looked_gone side n) noted kept l known h asked q = flagged (eqb n 1) (record kept { gone = set kept.gone side true }) kept _ refl refl (still kept kept l _ _ refl refl refl h)
  entries e noted kept l known h asked q = still (kept_before (point_of e) kept) _ l (call_at c a (point_of e) kept) (reply_of e) refl refl refl h

  silent : AtSilent c a At
  silent no_lanes noted kept l = λ h e. h
  silent begins noted kept l = λ h e. h
  silent p noted kept l = λ h e. h

  law : IsLaw c a Anything At Asked (λ kept l. Unit {0})
  law = record { calls = calls; entries = entries; silent = silent; ends = λ noted kept l done h. tt }

pub changes_by_number : ChangesByNumber
changes_by_number m every c a l kept call rest is one asks =
    at_call c a one Anything (At c a every) (Asked c a every) (λ kept l. Unit {0}) (law c a every) (app_start_by m c) (record { mangle = is; number = refl }) l
    (meet_anything (app_turn c a) (app_turn c a (app_start_by m c)) [] l) kept call rest asks
