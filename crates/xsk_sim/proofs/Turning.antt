-- Turns of callers, one after the other.
use Rattle.std.proofs.Common.{◌≡◌, ◌↔◌, Bool, true, IsTrue, ℕ, ◌+◌, ◌-◌, ◌<◌, ◌≤◌, List, [], ◌∷◌, ◌++◌, length, take, get_or, refl, sym, subst, ap, ◌∙◌, arith, append_assoc, append-nil, length-append, vec_len, ◌⊎◌, inl, inr, ⊎_elim}
use Rattle.std.proofs.Math.ListN.{get_or-append}
use Rattle.std.proofs.lemmas.List.{take_more, take_all, get_or-append_right}
use Rattle.std.proofs.lemmas.List.FromFn.{length-range_with_len, get_or-range_with_len}
use Rattle.std.specs.List.{range_with_len}
use Rattle.xsk_umem.specs.Frame.{Frame}
use Rattle.xsk_model.proofs.Few.{apps_few}
use Rattle.xsk_model.specs.Entry.{Told, Entry, own}
use Rattle.xsk_model.proofs.Folds.{own-push_other}
use Rattle.xsk_model.specs.declared.call.Act.{Act}
use Rattle.xsk_sim.specs.Server.{Seen, OnlyRoom}
use Rattle.xsk_sim.specs.Order.{rotated}
use Rattle.xsk_sim.specs.Rounds.{IsTurn, AreTurns}
use Rattle.xsk_turns.specs.Workers.{Setting, IsWholeRun}
use Rattle.xsk_machine.specs.Acts.{IsActAfter}
use Rattle.xsk_machine.specs.Workers.{Stands}
use Rattle.xsk_machine.specs.declared.worker.AnyWorker.{AnyWorker}
use Rattle.xsk_sim.specs.Seats.{AreGoing, Sits, IsNoted, own_in, AreSeated, HadTurns}
use Rattle.xsk_sim.specs.Stalls.{settled_of}
use Rattle.xsk_sim.specs.declared.rounds.Workers.{Workers}
use Rattle.xsk_sim.proofs.RunSteps.{run_same}
use Rattle.xsk_sim.proofs.Stalling.{told_both}

-- the own calls and replies of a caller whose turn it isn't stay
pub own_turn : (Whole : ℕ → List Told → Type 0) (h : List Entry) (who other : ℕ) (es : List Entry) → IsTurn Whole h who es → (other ≡ who → ⊥)
    → own other (h ++ es) ≡ own other h
own_turn Whole h who other es turn differs = ⊎_elim
    (λ (past : Whole who (own who h) × (es ≡ [])). subst (λ fs. own other (h ++ fs) ≡ own other h) (sym past.1) (ap (own other) (append-nil h)))
    (λ (made : (Whole who (own who h) → ⊥) × ((e : Entry) × (e.who ≡ who) × (es ≡ e ∷ []))).
    subst (λ fs. own other (h ++ fs) ≡ own other h) (sym made.1.2) (own-push_other other h made.1.0 (λ is. differs (sym is ∙ made.1.1))))
    turn

-- one turn
pub one_turn : (Whole : ℕ → List Told → Type 0) (h : List Entry) (who : ℕ) (es : List Entry) → IsTurn Whole h who es → AreTurns Whole h (who ∷ []) es
one_turn Whole h who es turn = (es, [], sym (append-nil es), turn, refl)

-- turns after turns
pub turns_both : (Whole : ℕ → List Told → Type 0) (past : List Entry) (ws vs : List ℕ) (es fs : List Entry) → AreTurns Whole past ws es
    → AreTurns Whole (past ++ es) vs fs → AreTurns Whole past (ws ++ vs) (es ++ fs)
turns_both Whole past [] vs es fs first rest =
    subst (λ gs. AreTurns Whole past vs (gs ++ fs)) (sym first) (subst (λ p. AreTurns Whole p vs fs) (ap (λ gs. past ++ gs) first ∙ append-nil past) rest)
turns_both Whole past (w ∷ ws) vs es fs first rest =
    let more : AreTurns Whole ((past ++ first.0) ++ first.1) vs fs =
    subst (λ p. AreTurns Whole p vs fs) (ap (λ gs. past ++ gs) first.2 ∙ sym (append_assoc past first.0 first.1)) rest in (
      first.0,
      first.1 ++ fs,
      ap (λ gs. gs ++ fs) first.2 ∙ append_assoc first.0 first.1 fs,
      first.3,
      turns_both Whole (past ++ first.0) ws vs first.1 fs first.4 more,
    )

-- a worker that stands for its own calls and replies does so after further entries that aren't its own
pub sits_on : (s : Setting) (h later : List Entry) (who : ℕ) (m : AnyWorker) (act : Act) → own who later ≡ own who h → Sits s (own_in h) who m act → Sits s (own_in later) who m act
sits_on s h later who m act same sits = subst (λ l. Stands s who m act l × IsActAfter s who act l) (sym same) sits

-- and as many of a driver's packets have their disposals
pub noted_on : (s : Setting) (h later : List Entry) (who noted : ℕ) → own who later ≡ own who h → IsNoted s h who noted → IsNoted s later who noted
noted_on s h later who noted same is = record { driver = λ below. is.driver below ∙ ap (settled_of s who) (sym same); app = is.app }

-- callers who had their turns, and then further ones
pub had_both : (s : Setting) (frames : List Frame) (h : List Entry) (ws vs : List ℕ) (w v : Workers) (object later : Seen) (a b c : Bool) → IsTrue c ↔ (IsTrue a × IsTrue b)
    → (had : HadTurns s frames h ws w object a) → HadTurns s frames (h ++ had.entries) vs v later b → HadTurns s frames h (ws ++ vs) v later c
had_both s frames h ws vs w v object later a b c both had more = record {
  entries = had.entries ++ more.entries;
  turns = turns_both (IsWholeRun s) h ws vs had.entries more.entries had.turns more.turns;
  seated = subst (λ l. AreSeated s frames l v later) (append_assoc h had.entries more.entries) more.seated;
  quiet = told_both s frames h had.entries more.entries a b c both had.quiet more.quiet;
}

pub had_none : (s : Setting) (frames : List Frame) (h : List Entry) (w : Workers) (object : Seen) → AreSeated s frames h w object → HadTurns s frames h [] w object true
had_none s frames h w object seated =
    record { entries = []; turns = refl; seated = subst (λ l. AreSeated s frames l w object) (sym (append-nil h)) seated; quiet = (λ yes. tt, λ none. refl) }

-- ---- callers in turn

-- the caller after so many turns of a round, whose first caller is the start
pub record InTurn (callers start turn who : ℕ) : Type 0 where
  pub below : who < callers
  pub at : (who ≡ start + turn) ⊎ (who + callers ≡ start + turn)

pub turn_first : (callers start : ℕ) → start < callers → InTurn callers start 0 start
turn_first callers start below = record { below = below; at = inl (omega arith) }

pub turn_next : (callers start turn who : ℕ) → InTurn callers start turn who → (who + 1 ≡ callers → ⊥) → InTurn callers start (turn + 1) (who + 1)
turn_next callers start turn who is other = record {
  below = omega (arith, is.below, other);
  at = ⊎_elim (λ (up : who ≡ start + turn). inl (omega (arith, up))) (λ (over : who + callers ≡ start + turn). inr (omega (arith, over))) is.at;
}

pub turn_round : (callers start turn who : ℕ) → start < callers → turn < callers → InTurn callers start turn who → who + 1 ≡ callers → InTurn callers start (turn + 1) 0
turn_round callers start turn who below within is last = record {
  below = omega (arith, below);
  at = ⊎_elim (λ (up : who ≡ start + turn). inr (omega (arith, up, last))) (λ (over : who + callers ≡ start + turn). absurd (omega (arith, over, last, below, within))) is.at;
}

length_rotated : (callers start : ℕ) → start < callers → length (rotated callers start) ≡ callers
length_rotated callers start below =
    omega (arith, below, length-append (range_with_len start (callers - start)) (range_with_len 0 start), length-range_with_len start (callers - start), length-range_with_len 0 start)

rotated_at : (callers start turn who : ℕ) → start < callers → turn < callers → InTurn callers start turn who → get_or (rotated callers start) turn 0 ≡ who
rotated_at callers start turn who below within is =
    let first = range_with_len start (callers - start) in
    let count : length first ≡ callers - start = length-range_with_len start (callers - start) in
    ⊎_elim
    (λ (up : who ≡ start + turn).
    let low : turn < callers - start = omega (arith, up, is.below, below) in
    get_or-append first (range_with_len 0 start) 0 turn (omega (arith, low, count)) ∙ get_or-range_with_len start (callers - start) turn 0 low ∙ sym up)
    (λ (over : who + callers ≡ start + turn).
    let at : 0 + (turn - (callers - start)) ≡ who = omega (arith, over, below) in
    get_or-append_right first (range_with_len 0 start) (callers - start) turn 0 count (omega (arith, over, below))
    ∙ get_or-range_with_len 0 start (turn - (callers - start)) 0 (omega (arith, over, below, within)) ∙ at)
    is.at

-- the callers of one turn more
pub rotated_more : (callers start turn who : ℕ) → start < callers → turn < callers → InTurn callers start turn who
    → take turn (rotated callers start) ++ who ∷ [] ≡ take (turn + 1) (rotated callers start)
rotated_more callers start turn who below within is =
    let all = rotated callers start in
    let known : turn < length all = omega (arith, within, length_rotated callers start below) in
    sym (take_more all turn 0 known ∙ ap (λ (w : ℕ). take turn all ++ w ∷ []) (rotated_at callers start turn who below within is))

-- and those of all turns
pub rotated_all : (callers start : ℕ) → start < callers → take callers (rotated callers start) ≡ rotated callers start
rotated_all callers start below = take_all callers (rotated callers start) (omega (arith, length_rotated callers start below))

-- ---- rounds

-- room for calls leaves the workers where they are
pub seated_same : (s : Setting) (frames : List Frame) (h : List Entry) (w : Workers) (old new : Seen) → AreSeated s frames h w old
    → OnlyRoom old new → AreSeated s frames h w new
seated_same s frames h w old new seated same = record {
  run = run_same s frames h old new seated.run same;
  seats = seated.seats;
  noted = seated.noted;
  count = seated.count;
}

-- workers that had turns go on
pub going_on : {w v : Workers} {before after : Seen} {callers : List ℕ} {still : Bool} → (g : AreGoing w before) → HadTurns g.setting g.frames g.history callers v after still → AreGoing v after
going_on g had = record { setting = g.setting; frames = g.frames; history = g.history ++ had.entries; seated = had.seated }

-- and are 1 at least, and few
pub going_few : {w : Workers} {object : Seen} → AreGoing w object → (vec_len w.seats ≤ 72) × (0 < vec_len w.seats)
going_few g =
    let config = g.seated.run.legal.opened.config in
    let apps = apps_few g.setting.config config in
    (omega (arith, config.pairs_few, apps, g.seated.count), omega (arith, config.pairs_some, g.seated.count))
