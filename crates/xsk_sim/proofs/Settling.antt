-- How many packets of a driver have their disposal: never fewer at a later call, and never more than it has.
use Rattle.std.proofs.Common.{◌≡◌, ℕ, ◌≤◌, List, [], ◌∷◌, ◌++◌, length, drop, refl, sym, subst, arith, length-append}
use Rattle.xsk_model.specs.Config.{classes_of}
use Rattle.xsk_model.specs.Entry.{Told, with_told}
use Rattle.xsk_model.specs.declared.call.Call.{Call}
use Rattle.xsk_model.specs.declared.call.Reply.{Reply}
use Rattle.xsk_model.specs.declared.call.Reply.TheVariants.{Submitted}
use Rattle.xsk_turns.specs.Script.{Script, ask, again, ended, never, begun, Leaves, Asks, IsRun}
use Rattle.xsk_turns.specs.Turns.{Seat, Kept, settled, dropped, pieces_of, seat_of, start, turn, IsDriverRun}
use Rattle.xsk_turns.specs.Workers.{Setting, input_of}
use Rattle.xsk_turns.specs.declared.disposal.Disposal.{Disposal}
use Rattle.xsk_turns.specs.declared.disposal.Disposal.TheVariants.{Delivered, NoFrames, RxFull, TooLong, Missed, Bounced}
use Rattle.xsk_turns.proofs.Disposing.{keeps_disposals}
use Rattle.xsk_turns.proofs.ScriptLemmas.{leaves_on, leaves_front, asked_last}
use Rattle.xsk_turns.proofs.Walks.{Premise, MeetAlong}
use Rattle.xsk_turns.proofs.DriverStages as walk
use Rattle.xsk_turns.proofs.DriverWalk as along
use Rattle.xsk_sim.specs.Stalls.{settled_of}
use Rattle.xsk_sim.proofs.Stalling.{settled_at}

-- ---- each call is one that is asked

abbrev IsAsked : {K : Type 0} → (K → Script K) → K → Premise K
IsAsked turn begins kept past call reply = (rest : Reply → Script _) × Asks turn begins past kept call rest

module _ {K : Type 0} (turn : K → Script K) (begins : K) where
  meet_asked : (script : Script K) (past l : List Told) (left : Script K) → Leaves turn (turn begins) past script → Leaves turn script l left → MeetAlong turn (IsAsked turn begins) script past l
  meet_asked (ask kept call rest) past [] left before after = tt
  meet_asked (again kept) past [] left before after = tt
  meet_asked (ended kept) past [] left before after = tt
  meet_asked never past [] left before after = tt
  meet_asked (ask kept call rest) past (t ∷ l) left before after = (
    (rest, subst (λ (x : Call). Leaves turn (turn begins) past (ask kept x rest)) (sym after.0) before),
    meet_asked (begun turn (rest t.reply)) (past ++ t ∷ []) l left
        (leaves_on turn (turn begins) past (t ∷ []) (ask kept call rest) (begun turn (rest t.reply)) before (after.0, refl)) after.1,
  )
  meet_asked (again kept) past (t ∷ l) left before after = absurd after
  meet_asked (ended kept) past (t ∷ l) left before after = absurd after
  meet_asked never past (t ∷ l) left before after = absurd after

-- ---- the law

module _ (s : Setting) (d : ℕ) where
  abbrev seat : Seat
  seat = seat_of s.wire s.config d

  abbrev begins : Kept
  begins = start (classes_of s.config) (input_of s d)

  abbrev Q : Premise Kept
  Q kept past call reply = IsAsked (turn seat) begins kept past call reply

  abbrev At : walk.Family
  At place noted kept l = settled_of s d l ≤ length kept.disposals

  abbrev Asked : walk.Said
  Asked kept call l = settled_of s d l ≤ length kept.disposals

  -- at a call that was asked as many are settled as were kept there
  told : (l : List Told) (kept : Kept) (call : Call) (reply : Reply) → Q kept l call reply → settled_of s d (with_told l call reply) ≡ length kept.disposals
  told l kept call reply q = settled_at (turn seat) (turn seat begins) l 0 kept call q.0 (record { call = call; reply = reply }) q.1

  same : (l : List Told) (kept now : Kept) (call : Call) (reply : Reply) → length kept.disposals ≤ length now.disposals → Q kept l call reply
      → settled_of s d (with_told l call reply) ≤ length now.disposals
  same l kept now call reply more q = omega (arith, more, told l kept call reply q)

  one_more : (kept : Kept) (x : Disposal) → length kept.disposals ≤ length (settled kept x).disposals
  one_more kept x = omega (arith, length-append kept.disposals (x ∷ []))

  calls : walk.AtCalls seat Q At Asked
  calls (walk.SubmitRx packet t) noted kept l known h = h
  calls p noted kept l known h = h

  entries : walk.AtEntries seat Q At Asked
  entries (walk.told_bounced packet n) noted kept l known found h a q = same l kept (settled kept Bounced) _ _ (one_more kept Bounced) q
  entries (walk.looked_none packet n) noted kept l known found h a q = same l kept (settled kept Missed) _ _ (one_more kept Missed) q
  entries (walk.looked_long packet n t) noted kept l known found h a q = same l kept (dropped kept TooLong) _ _ (one_more kept TooLong) q
  entries (walk.rx_submitted packet t) noted kept l known found h a q =
      let left : Kept = record kept { spare = drop (pieces_of seat packet.bytes) kept.spare } in
      same l left (settled left (Delivered t)) (walk.call_at seat (walk.SubmitRx packet t) kept) Submitted (one_more left (Delivered t)) q
  entries e noted kept l known found h a q = same l (walk.kept_at seat (walk.point_of e) kept) (walk.leads seat e noted kept).2 (walk.call_at seat (walk.point_of e) kept) (walk.reply_of e) (omega arith) q

  silent : walk.AtSilent seat Q At
  silent (walk.untried packet later x) noted kept l = λ h e. omega (arith, h, one_more kept x)
  silent (walk.drops_full packet t) noted kept l = λ h e. omega (arith, h, one_more kept RxFull)
  silent (walk.drops_frameless packet t) noted kept l = λ h e. omega (arith, h, one_more kept NoFrames)
  silent p noted kept l = λ h e. h

  law : walk.IsLaw seat Q At Asked (λ kept l. Unit {0})
  law = record { calls = calls; entries = entries; silent = silent; ends = λ noted kept l n known h a q. tt }

  settles_more : (l : List Told) (kept : Kept) (call : Call) (rest : Reply → Script Kept) → Asks (turn seat) begins l kept call rest → settled_of s d l ≤ length kept.disposals
  settles_more l kept call rest asks =
      along.at_call seat Q At Asked (λ kept l. Unit {0}) law begins (omega arith) l
      (meet_asked (turn seat) begins (turn seat begins) [] l (ask kept call rest) refl asks) kept call rest asks

  -- one call more
  asked_last_of : (l : List Told) (t : Told) → IsRun (turn seat) begins (l ++ t ∷ []) → (kept : Kept) × (rest : Reply → Script Kept) × Asks (turn seat) begins l kept t.call rest
  asked_last_of l t run =
      let all = leaves_front (turn seat) (turn seat begins) l (t ∷ []) run.0 run.1 in
      let asks = asked_last (turn seat) all.0 t run.0 all.2 in
      (asks.0, asks.1, subst (Leaves (turn seat) (turn seat begins) l) asks.2 all.1)

  pub settled_grows : (l : List Told) (t : Told) → IsDriverRun s.wire s.config d (input_of s d) (l ++ t ∷ []) → settled_of s d l ≤ settled_of s d (l ++ t ∷ [])
  settled_grows l t run =
      let asks = asked_last_of l t run in
      omega (arith, settles_more l asks.0 t.call asks.1 asks.2, told l asks.0 t.call t.reply (asks.1, asks.2))

  pub settled_few : (l : List Told) (t : Told) → IsDriverRun s.wire s.config d (input_of s d) (l ++ t ∷ []) → settled_of s d (l ++ t ∷ []) ≤ length (input_of s d)
  settled_few l t run =
      let asks = asked_last_of l t run in
      omega (arith, told l asks.0 t.call t.reply (asks.1, asks.2), (keeps_disposals s.wire s.config d (input_of s d) l asks.0 t.call asks.1 asks.2).each)
