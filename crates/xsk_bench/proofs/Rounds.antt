-- Turns of drivers, one after the other, and rounds of all of them.
use Rattle.std.proofs.Common.{◌≡◌, ◌↔◌, ℕ, suc, ◌+◌, ◌<◌, ◌≤◌, Bool, true, false, IsTrue, Ok, Err, List, [], ◌∷◌, ◌++◌, length, refl, sym, subst, ap, ◌∙◌, arith, ⊎_elim, inl, inr, append-nil, append_assoc, vec_len}
use Rattle.std.specs.List.{range_with_len}
use Rattle.xsk_umem.specs.Frame.{Frame}
use Rattle.xsk_umem.specs.declared.memory.OutOfMemory.{OutOfMemory}
use Rattle.xsk_model.specs.Entry.{Entry, own}
use Rattle.xsk_model.proofs.Counting.{range-push}
use Rattle.xsk_turns.specs.Workers.{Setting, IsWholeRun}
use Rattle.xsk_sim.specs.Stalls.{settled_of, AreQuiet}
use Rattle.xsk_sim.specs.Server.{logged_seen}
use Rattle.xsk_sim.proofs.RunSteps.{run_same}
use Rattle.xsk_sim.proofs.Stalling.{told_both}
use Rattle.xsk_sim.proofs.Standing.{decided}
use Rattle.xsk_sim.proofs.Turning.{turns_both}
use Rattle.xsk_machine.specs.declared.inputs.Amount.{Amount}
use Rattle.xsk_bench.specs.Drives.{Drives}
use Rattle.xsk_bench.specs.Played.{act_of, IsSeated, HasPlayed, IsGoing, IsStillFor, AreDriversRounds}
use Rattle.xsk_bench.specs.DriverRounds.{HadTurns, HadRounds}
use Rattle.xsk_bench.specs.declared.play.Play.{Play}
use Rattle.xsk_bench.specs.declared.seat.Seat.{Seat}

-- a driver that stands for its own entries does so after further ones that aren't its own
pub seated_on : (s : Setting) (room : Amount) (h later : List Entry) (who : ℕ) (seat : Seat) → own who later ≡ own who h → IsSeated s room h who seat → IsSeated s room later who seat
seated_on s room h later who seat same is = record {
  drives = subst (Drives s who seat.driver (act_of seat)) (sym same) is.drives;
  noted = is.noted ∙ ap (settled_of s who) (sym same);
  given = is.given;
  packets = is.packets;
  bytes = is.bytes;
}

-- room in the log leaves all where it was
pub played_same : (s : Setting) (frames : List Frame) (h : List Entry) (p q : Play) → HasPlayed s frames h p
    → q ≡ record p { checked = q.checked } → q.checked ≡ record p.checked { spare_entries = q.checked.spare_entries; spare_bytes = q.checked.spare_bytes } → HasPlayed s frames h q
played_same s frames h p q played same log =
    subst (HasPlayed s frames h) (sym same)
    (record { run = run_same s frames h (logged_seen p.checked) (logged_seen q.checked) played.run (record { keeps = refl; engine = log }); count = played.count; seats = played.seats })

-- ---- turns

pub had_none : (s : Setting) (frames : List Frame) (h : List Entry) (p : Play) → HasPlayed s frames h p → HadTurns s frames h [] p true
had_none s frames h p played =
    record { entries = []; turns = refl; played = subst (λ l. HasPlayed s frames l p) (sym (append-nil h)) played; quiet = (λ yes. tt, λ none. refl) }

pub had_both : (s : Setting) (frames : List Frame) (h : List Entry) (ws vs : List ℕ) (p q : Play) (a b c : Bool) → IsTrue c ↔ (IsTrue a × IsTrue b)
    → (had : HadTurns s frames h ws p a) → HadTurns s frames (h ++ had.entries) vs q b → HadTurns s frames h (ws ++ vs) q c
had_both s frames h ws vs p q a b c both had more = record {
  entries = had.entries ++ more.entries;
  turns = turns_both (IsWholeRun s) h ws vs had.entries more.entries had.turns more.turns;
  played = subst (λ l. HasPlayed s frames l q) (append_assoc h had.entries more.entries) more.played;
  quiet = told_both s frames h had.entries more.entries a b c both had.quiet more.quiet;
}

-- one driver more
pub had_more : (s : Setting) (frames : List Frame) (h : List Entry) (who : ℕ) (p q : Play) (a b c : Bool) → IsTrue c ↔ (IsTrue a × IsTrue b)
    → (had : HadTurns s frames h (range_with_len 0 who) p a) → HadTurns s frames (h ++ had.entries) (who ∷ []) q b → HadTurns s frames h (range_with_len 0 (who + 1)) q c
had_more s frames h who p q a b c both had more =
    let e : suc who ≡ who + 1 = omega arith in
    let f : 0 + who ≡ who = omega arith in
    let all : range_with_len 0 who ++ who ∷ [] ≡ range_with_len 0 (who + 1) =
    ap (λ (k : ℕ). range_with_len 0 who ++ k ∷ []) (sym f) ∙ sym (range-push 0 who) ∙ ap (range_with_len 0) e in
    subst (λ ws. HadTurns s frames h ws q c) all (had_both s frames h (range_with_len 0 who) (who ∷ []) p q a b c both had more)

-- drivers that had turns go on
pub going_on : {p q : Play} {callers : List ℕ} {still : Bool} → (g : IsGoing p) → HadTurns g.setting g.frames g.history callers q still → IsGoing q
going_on g had = record { setting = g.setting; frames = g.frames; history = g.history ++ had.entries; played = had.played }

-- and are few
pub going_few : {p : Play} → IsGoing p → (vec_len p.seats ≤ 64) × (1 ≤ vec_len p.seats)
going_few g =
    let config = g.played.run.legal.opened.config in
    (omega (arith, config.pairs_few, g.played.count), omega (arith, config.pairs_some, g.played.count))

-- ---- rounds

-- so many rounds after a history, of which nothing changed in the last ones, so many
pub record Gone (s : Setting) (frames : List Frame) (h : List Entry) (count still : ℕ) (p : Play) : Type 0 where
  pub entries : List Entry
  pub rounds : AreDriversRounds s frames h count still entries
  pub played : HasPlayed s frames (h ++ entries) p

pub gone_none : (s : Setting) (frames : List Frame) (h : List Entry) (p : Play) → HasPlayed s frames h p → Gone s frames h 0 0 p
gone_none s frames h p played = record { entries = []; rounds = (refl, refl); played = subst (λ l. HasPlayed s frames l p) (sym (append-nil h)) played }

pub gone_more : (s : Setting) (frames : List Frame) (h : List Entry) (count still now : ℕ) (quiet : Bool) (p q : Play) → (gone : Gone s frames h count still p) → still < 64
    → HadTurns s frames (h ++ gone.entries) (range_with_len 0 (length s.config.pairs)) q quiet → (IsTrue quiet → now ≡ still + 1) → ((IsTrue quiet → ⊥) → now ≡ 0)
    → Gone s frames h (count + 1) now q
gone_more s frames h count still now quiet p q gone few had more none =
    let e : suc count ≡ count + 1 = omega arith in
    let for : IsStillFor (AreQuiet s frames (h ++ gone.entries) had.entries) still now = ⊎_elim
    (λ (yes : IsTrue quiet). inl (had.quiet.0 yes, more yes))
    (λ (no : IsTrue quiet → ⊥). inr (λ all. no (had.quiet.1 all), none no))
    (decided quiet) in
    let rounds : AreDriversRounds s frames h (suc count) now (gone.entries ++ had.entries) = (gone.entries, had.entries, still, refl, gone.rounds, few, had.turns, for) in
    record {
      entries = gone.entries ++ had.entries;
      rounds = subst (λ (n : ℕ). AreDriversRounds s frames h n now (gone.entries ++ had.entries)) e rounds;
      played = subst (λ l. HasPlayed s frames l q) (append_assoc h gone.entries had.entries) had.played;
    }

pub gone_going : {p q : Play} {count still : ℕ} → (g : IsGoing p) → Gone g.setting g.frames g.history count still q → IsGoing q
gone_going g gone = record { setting = g.setting; frames = g.frames; history = g.history ++ gone.entries; played = gone.played }

pub few_still : (quiet : Bool) (still now : ℕ) → still < 64 → (IsTrue quiet → now ≡ still + 1) → ((IsTrue quiet → ⊥) → now ≡ 0) → now ≤ 64
few_still quiet still now few more none = ⊎_elim
    (λ (yes : IsTrue quiet). let e = more yes in omega (arith, e, few))
    (λ (no : IsTrue quiet → ⊥). let e = none no in omega (arith, e))
    (decided quiet)

-- how rounds end, so many at most
module _ (s : Setting) (frames : List Frame) (h : List Entry) (most count still : ℕ) (p q : Play) (gone : Gone s frames h count still p) where
  pub ends_still : still ≡ 64 → count ≤ most → HadRounds s frames h most p (Ok true)
  ends_still is few = record { count = count; still = still; few = few; entries = gone.entries; rounds = gone.rounds; played = gone.played; ends = is }

  pub ends_going : still < 64 → count ≡ most → HadRounds s frames h most p (Ok false)
  ends_going low all = record { count = count; still = still; few = omega (arith, all); entries = gone.entries; rounds = gone.rounds; played = gone.played; ends = (low, all) }

  pub ends_short : (e : OutOfMemory) → still < 64 → count < most → HasPlayed s frames (h ++ gone.entries) q → HadRounds s frames h most q (Err e)
  ends_short e low few played = record { count = count; still = still; few = omega (arith, few); entries = gone.entries; rounds = gone.rounds; played = played; ends = (low, few) }
