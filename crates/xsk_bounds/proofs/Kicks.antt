-- Kicks: each time that a driver clears its kick the kick was set, so it is cleared no more often than it was set.
use Rattle.std.proofs.Common.{◌≡◌, ◌≢◌, ℕ, ◌+◌, ◌<◌, ◌≤◌, ◌⊎◌, Bool, true, false, cond, eqb, ◌&&◌, List, [], ◌∷◌, ◌++◌, length, refl, sym, ap, subst, ◌∙◌, ⊎_elim, arith, append_assoc, eqb-true}
use Rattle.std.proofs.lemmas.Bool.{cases_Bool, cases_eq, and_parts}
use Rattle.std.proofs.lemmas.List.Sums.{fold_push}
use Rattle.xsk_umem.specs.Frame.{Frame}
use Rattle.xsk_model.specs.Config.{Config, IsConfig}
use Rattle.xsk_model.specs.Marks.{is_mark}
use Rattle.xsk_model.specs.Object.{State, mark_at, reply_at, after}
use Rattle.xsk_model.specs.Entry.{Entry, told, own, all_told}
use Rattle.xsk_model.specs.Legal.{IsLegal}
use Rattle.xsk_model.specs.Opening.{opening}
use Rattle.xsk_model.specs.History.{IsHistory}
use Rattle.xsk_model.specs.declared.call.Mark.{Mark}
use Rattle.xsk_model.specs.declared.call.Mark.TheVariants.{Kick}
use Rattle.xsk_model.specs.declared.call.Call.{Call}
use Rattle.xsk_model.specs.declared.call.Call.TheVariants.{Reserve, Submit, Peek, Release, Swap, Look}
use Rattle.xsk_model.specs.declared.call.Reply.{Reply}
use Rattle.xsk_model.proofs.Along.{Keeps, along}
use Rattle.xsk_model.proofs.Changes.{mark_set, mark_stays}
use Rattle.xsk_model.proofs.Folds.{all_told-append, own-push_same, own-push_other}
use Rattle.xsk_model.proofs.FrameTheorems.{opening_is}
use Rattle.xsk_model.proofs.Histories.{IsSound}
use Rattle.xsk_model.proofs.Closings.{is_mark-true, is_mark-self}
use Rattle.xsk_turns.specs.Totals.{total}
use Rattle.xsk_bounds.specs.Totals.{old_of, looks_at_kick, saw_kick, saw_last, swaps_kick, kick_swaps}
use Rattle.xsk_bounds.proofs.Totals.{total-push}

-- whoever sets the kick of a pair, to whatever number: it is set to 1, or cleared by the driver, whose last look saw it set
abbrev pub KeepsKicks : ℕ → List Entry → Type 0
KeepsKicks d h = (past later : List Entry) (e : Entry) (value : ℕ) → h ≡ past ++ e ∷ later → e.call ≡ Swap (Kick d) value
    → (value ≡ 1) ⊎ ((value ≡ 0) × (e.who ≡ d) × (saw_last d (own d past) ≡ true))

keeps_front : (d : ℕ) (past : List Entry) (e : Entry) → KeepsKicks d (past ++ e ∷ []) → KeepsKicks d past
keeps_front d past e keeps before later x value split is =
    keeps before (later ++ e ∷ []) x value (ap (λ p. p ++ e ∷ []) split ∙ append_assoc before (x ∷ later) (e ∷ [])) is

abbrev one_or_zero : Bool → ℕ
one_or_zero b = cond b 1 0

module _ (c : Config) (frames : List Frame) (d : ℕ) (has : d < length c.pairs) where
  abbrev kick : State → ℕ
  kick s = mark_at c s (Kick d)

  -- what a driver's last call saw
  saw_mine : (past : List Entry) (e : Entry) → e.who ≡ d → saw_last d (own d (past ++ e ∷ [])) ≡ saw_kick d (told e)
  saw_mine past e mine = ap (saw_last d) (own-push_same d past e mine) ∙ fold_push (λ before t. saw_kick d t) false (own d past) (told e)

  saw_others : (past : List Entry) (e : Entry) → e.who ≢ d → saw_last d (own d (past ++ e ∷ [])) ≡ saw_last d (own d past)
  saw_others past e other = ap (saw_last d) (own-push_other d past e other)

  abbrev Cleared : State → List Entry → Type 0
  Cleared s past = KeepsKicks d past
      → (total (kick_swaps d 0) (all_told past) + kick s ≤ total (kick_swaps d 1) (all_told past)) × (saw_last d (own d past) ≡ true → kick s ≡ 1)

  -- from what one call makes of the kick
  push : (past : List Entry) (e : Entry) (value : ℕ) → total (kick_swaps d value) (all_told (past ++ e ∷ [])) ≡ total (kick_swaps d value) (all_told past) + kick_swaps d value (told e)
  push past e value = ap (total (kick_swaps d value)) (all_told-append past (e ∷ [])) ∙ total-push (kick_swaps d value) (all_told past) (told e)

  -- a call that leaves the kick alone
  stays : (s : State) (past : List Entry) (e : Entry) → swaps_kick d 0 e.call ≡ false → swaps_kick d 1 e.call ≡ false → kick (after c s e.who e.call) ≡ kick s
      → (saw_kick d (told e) ≡ true → kick s ≡ 1) → Cleared s past → Cleared (after c s e.who e.call) (past ++ e ∷ [])
  stays s past e none nor same seen holds keeps =
      let before = holds (keeps_front d past e keeps) in (
        omega (arith, before.0, same, push past e 0, push past e 1, ap one_or_zero none, ap one_or_zero nor),
        λ saw. same ∙ ⊎_elim
            (λ (mine : e.who ≡ d). seen (sym (saw_mine past e mine) ∙ saw))
            (λ (other : e.who ≡ d → ⊥). before.1 (sym (saw_others past e other) ∙ saw))
            (cases_eq e.who d),
      )

  -- a call that sets it
  sets : (s : State) (past : List Entry) (e : Entry) (value : ℕ) → e.call ≡ Swap (Kick d) value → kick (after c s e.who e.call) ≡ value
      → Cleared s past → Cleared (after c s e.who e.call) (past ++ e ∷ [])
  sets s past e value is now holds keeps =
      let before = holds (keeps_front d past e keeps) in
      let counts : (number : ℕ) → kick_swaps d number (told e) ≡ one_or_zero (eqb value number) =
      λ number. ap (λ (call : Call). one_or_zero (swaps_kick d number call)) is ∙ ap (λ b. one_or_zero (b && eqb value number)) (is_mark-self (Kick d)) in
      let unseen : saw_kick d (told e) ≡ false = ap (λ (call : Call). looks_at_kick d call && eqb (old_of e.reply) 1) is in
      ⊎_elim
      (λ (up : value ≡ 1). (
        omega (arith, before.0, now, up, push past e 0, push past e 1, counts 0, counts 1, ap (λ v. one_or_zero (eqb v 0)) up, ap (λ v. one_or_zero (eqb v 1)) up),
        λ saw. now ∙ up,
      ))
      (λ (down : (value ≡ 0) × (e.who ≡ d) × (saw_last d (own d past) ≡ true)). (
        omega (arith, before.0, before.1 down.2, now, down.0, push past e 0, push past e 1, counts 0, counts 1, ap (λ v. one_or_zero (eqb v 0)) down.0, ap (λ v. one_or_zero (eqb v 1)) down.0),
        λ saw. let no : true ≡ false = sym saw ∙ saw_mine past e down.1 ∙ unseen in absurd (cc),
      ))
      (keeps past [] e value refl is)

  swap_step : (s : State) (past : List Entry) (who : ℕ) (m : Mark) (value : ℕ) (reply : Reply) → IsConfig c → IsSound c frames s past
      → IsLegal c (own who past) who (Swap m value)
      → Cleared s past → Cleared (after c s who (Swap m value)) (past ++ (record { who = who; call = Swap m value; reply = reply }) ∷ [])
  swap_step s past who m value reply config sound legal holds = ⊎_elim
      (λ (same : is_mark (Kick d) m ≡ true).
      let is : Swap m value ≡ Swap (Kick d) value = ap (λ q. Swap q value) (sym (is_mark-true (Kick d) m same)) in
      let now : kick (after c s who (Swap m value)) ≡ value =
      ap (λ (call : Call). kick (after c s who call)) is ∙ mark_set c s who (Kick d) value config has sound.marks in
      sets s past (record { who = who; call = Swap m value; reply = reply }) value is now holds)
      (λ (apart : is_mark (Kick d) m ≡ false).
      let other : (v : ℕ) → Swap m value ≢ Swap (Kick d) v = λ v e. let one : m ≡ Kick d = cc in
      let itself : is_mark (Kick d) m ≡ true = subst (λ q. is_mark (Kick d) q ≡ true) (sym one) (is_mark-self (Kick d)) in cc in
      stays s past (record { who = who; call = Swap m value; reply = reply })
      (ap (λ b. b && eqb value 0) apart) (ap (λ b. b && eqb value 1) apart)
      (mark_stays c s (own who past) who (Swap m value) (Kick d) config has legal other) (λ saw. let no : false ≡ true = saw in absurd (cc)) holds)
      (cases_Bool (is_mark (Kick d) m))

  look_step : (s : State) (past : List Entry) (who : ℕ) (m : Mark) (reply : Reply) → reply ≡ reply_at c s (Look m)
      → Cleared s past → Cleared (after c s who (Look m)) (past ++ (record { who = who; call = Look m; reply = reply }) ∷ [])
  look_step s past who m reply is holds =
      stays s past (record { who = who; call = Look m; reply = reply }) refl refl refl
      (λ saw.
      let both = and_parts (is_mark (Kick d) m) (eqb (old_of reply) 1) saw in
      ap (mark_at c s) (is_mark-true (Kick d) m both.0) ∙ sym (ap old_of is) ∙ eqb-true (old_of reply) 1 both.1) holds

  call_step : (s : State) (past : List Entry) (who : ℕ) (call : Call) (reply : Reply) → IsConfig c → IsSound c frames s past → IsLegal c (own who past) who call
      → reply ≡ reply_at c s call → Cleared s past → Cleared (after c s who call) (past ++ (record { who = who; call = call; reply = reply }) ∷ [])
  call_step s past who (Reserve r n) reply config sound legal is holds =
      stays s past (record { who = who; call = Reserve r n; reply = reply }) refl refl refl (λ saw. let no : false ≡ true = saw in absurd (cc)) holds
  call_step s past who (Submit r items) reply config sound legal is holds =
      stays s past (record { who = who; call = Submit r items; reply = reply }) refl refl refl (λ saw. let no : false ≡ true = saw in absurd (cc)) holds
  call_step s past who (Peek r n) reply config sound legal is holds =
      stays s past (record { who = who; call = Peek r n; reply = reply }) refl refl refl (λ saw. let no : false ≡ true = saw in absurd (cc)) holds
  call_step s past who (Release r n) reply config sound legal is holds =
      stays s past (record { who = who; call = Release r n; reply = reply }) refl refl refl (λ saw. let no : false ≡ true = saw in absurd (cc)) holds
  call_step s past who (Swap m value) reply config sound legal is holds = swap_step s past who m value reply config sound legal holds
  call_step s past who (Look m) reply config sound legal is holds = look_step s past who m reply is holds

-- so a driver clears its kick no more often than it is set
pub cleared_few : (c : Config) (frames : List Frame) (h : List Entry) (d : ℕ) → d < length c.pairs → IsHistory c frames h → KeepsKicks d h
    → total (kick_swaps d 0) (all_told h) ≤ total (kick_swaps d 1) (all_told h)
cleared_few c frames h d has history keeps =
    let first : mark_at c (opening c frames) (Kick d) ≡ 0 = (opening_is c frames history.opened).mark (Kick d) has in
    let few = along (Cleared c frames d has) c frames h history steps (λ none. (omega (arith, first), λ saw. let no : false ≡ true = saw in absurd (cc))) in
    omega (arith, (few keeps).0)
  where
    steps : Keeps c frames (Cleared c frames d has)
    steps s past e sound legal reply holds = call_step c frames d has s past e.who e.call e.reply history.opened.config sound legal reply holds
