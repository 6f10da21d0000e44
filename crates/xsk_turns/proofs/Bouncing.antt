-- A driver last set the mark that counts its bounced packets to the number of those that bounced, so it may set it to one more.
use Rattle.std.proofs.Common.{◌≡◌, ℕ, suc, Bool, cond, Option, Some, None, List, [], ◌∷◌, ◌++◌, refl, ap, ◌∙◌, arith}
use Rattle.std.specs.Prelude.{unwrap_or}
use Rattle.std.proofs.lemmas.List.Sums.{fold_push, sum_by_push}
use Rattle.xsk_model.specs.Swaps.{set_after, set_step, last_set}
use Rattle.xsk_model.proofs.Closings.{is_mark-self}
use Rattle.xsk_turns.proofs.Calls.{Told, with_told, BouncedMark, Call, Swap, Reply, Submitted, Old}
use Rattle.xsk_turns.specs.Turns.{Seat, Kept, bounce_of, bounced_among}
use Rattle.xsk_turns.specs.declared.disposal.Disposal.{Disposal}
use Rattle.xsk_turns.specs.declared.disposal.Disposal.TheVariants.{Delivered, NoFrames, RxFull, TooLong, Missed, Bounced}
use Rattle.xsk_turns.proofs.Walks.{Premise}
use Rattle.xsk_turns.proofs.DriverStages.{Family, SubmitRx, TellRxDone, call_at, told_bounced, looked_none, looked_long, rx_submitted, point_of, reply_of, untried, drops_full, drops_frameless, untried_has, Said, AtCalls, AtEntries, AtSilent, IsLaw}

module _ (seat : Seat) (Q : Premise Kept) where
  abbrev pub counted : List Told → ℕ
  counted l = unwrap_or (last_set (BouncedMark seat.pair) l) 0

  abbrev pub Counts : List Disposal → List Told → Type 0
  Counts ds l = counted l ≡ bounced_among ds

  abbrev pub At : Family
  At place noted kept l = Counts kept.disposals l

  abbrev pub Nothing : Said
  Nothing kept call l = Unit {0}

  abbrev pub Ended : Kept → List Told → Type 0
  Ended kept l = Unit {0}

  told : (l : List Told) (call : Call) (reply : Reply) → last_set (BouncedMark seat.pair) (with_told l call reply) ≡ set_after (BouncedMark seat.pair) (last_set (BouncedMark seat.pair) l) call
  told l call reply = fold_push (set_step (BouncedMark seat.pair)) None l (record { call = call; reply = reply })

  -- a call that sets another mark, or none
  still : (ds : List Disposal) (l : List Told) (call : Call) (reply : Reply) → ((before : Option ℕ) → set_after (BouncedMark seat.pair) before call ≡ before) → Counts ds l → Counts ds (with_told l call reply)
  still ds l call reply e h = ap (λ (o : Option ℕ). unwrap_or o 0) (told l call reply ∙ e (last_set (BouncedMark seat.pair) l)) ∙ h

  settles : (ds : List Disposal) (x : Disposal) (l : List Told) → bounce_of x ≡ 0 → Counts ds l → Counts (ds ++ x ∷ []) l
  settles ds x l none h = omega (arith, h, sum_by_push bounce_of ds x, none)

  looks_on : (ds : List Disposal) (x : Disposal) (l : List Told) (call : Call) (reply : Reply) → bounce_of x ≡ 0 → ((before : Option ℕ) → set_after (BouncedMark seat.pair) before call ≡ before) → Counts ds l
      → Counts (ds ++ x ∷ []) (with_told l call reply)
  looks_on ds x l call reply none e h = settles ds x (with_told l call reply) none (still ds l call reply e h)

  sets : (ds : List Disposal) (l : List Told) (reply : Reply) → Counts (ds ++ Bounced ∷ []) (with_told l (Swap (BouncedMark seat.pair) (suc (bounced_among ds))) reply)
  sets ds l reply =
      let call = Swap (BouncedMark seat.pair) (suc (bounced_among ds)) in
      let now : counted (with_told l call reply) ≡ suc (bounced_among ds) =
      ap (λ (o : Option ℕ). unwrap_or o 0) (told l call reply)
      ∙ ap (λ (b : Bool). unwrap_or (cond b (Some (suc (bounced_among ds))) (last_set (BouncedMark seat.pair) l)) 0) (is_mark-self (BouncedMark seat.pair)) in
      omega (arith, now, sum_by_push bounce_of ds Bounced)

  calls : AtCalls seat Q At Nothing
  calls TellRxDone noted kept l known h = tt
  calls p noted kept l known h = tt

  entries : AtEntries seat Q At Nothing
  entries (told_bounced packet n) noted kept l known found h a q = sets kept.disposals l (Old n)
  entries (looked_none packet n) noted kept l known found h a q = looks_on kept.disposals Missed l (call_at seat (point_of (looked_none packet n)) kept) (Old n) refl (λ b. refl) h
  entries (looked_long packet n s) noted kept l known found h a q = looks_on kept.disposals TooLong l (call_at seat (point_of (looked_long packet n s)) kept) (Old n) refl (λ b. refl) h
  entries (rx_submitted packet s) noted kept l known found h a q =
      let call = call_at seat (SubmitRx packet s) kept in
      settles kept.disposals (Delivered s) (with_told l call Submitted) refl (still kept.disposals l call Submitted (λ b. refl) h)
  entries e noted kept l known found h a q = still kept.disposals l (call_at seat (point_of e) kept) (reply_of e) (λ b. refl) h

  silent : AtSilent seat Q At
  silent (untried packet later d) noted kept l = λ h e. settles kept.disposals d l (untried_has (λ d. bounce_of d ≡ 0) refl refl refl refl seat packet d e.1) h
  silent (drops_full packet s) noted kept l = λ h e. settles kept.disposals RxFull l refl h
  silent (drops_frameless packet s) noted kept l = λ h e. settles kept.disposals NoFrames l refl h
  silent p noted kept l = λ h e. h

  pub law : IsLaw seat Q At Nothing Ended
  law = record { calls = calls; entries = entries; silent = silent; ends = λ noted kept l n known h a q. tt }
