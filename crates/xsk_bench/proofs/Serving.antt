-- A call that is served.
use Rattle.std.proofs.Common.{◌≡◌, ◌↔◌, ℕ, List, [], ◌∷◌, ◌++◌, refl, sym, subst, arith}
use Rattle.xsk_umem.specs.Frame.{Frame}
use Rattle.xsk_model.specs.Config.{Config}
use Rattle.xsk_model.specs.Rings.{caller_of}
use Rattle.xsk_model.specs.Entry.{Entry, own}
use Rattle.xsk_model.specs.Legal.{IsLegal}
use Rattle.xsk_model.specs.History.{state_after}
use Rattle.xsk_model.specs.Object.{reply_at}
use Rattle.xsk_model.specs.declared.call.Call.{Call}
use Rattle.xsk_model.specs.declared.call.Reply.{Reply}
use Rattle.xsk_model.proofs.Folds.{own-push_other}
use Rattle.xsk_plain.specs.Engine.{Engine}
use Rattle.xsk_plain.proofs.Bare.{log_decides}
use Rattle.xsk_turns.specs.Workers.{Setting}
use Rattle.xsk_sim.specs.Turning.{HasRun}
use Rattle.xsk_sim.specs.Server.{Serves, logged_seen}
use Rattle.xsk_sim.proofs.RunSteps.{run_step}
use Rattle.xsk_sim.proofs.Seating.{each_change}
use Rattle.xsk_bench.specs.Played.{HasPlayed}
use Rattle.xsk_bench.specs.Serving.{entry_by}
use Rattle.xsk_bench.specs.declared.play.Play.{Play}
use Rattle.xsk_bench.proofs.Rounds.{seated_on}

-- what is legal after the log is so after the history
pub legal_in : (s : Setting) (frames : List Frame) (h : List Entry) (engine : Engine) (who : ℕ) (call : Call) → HasRun s frames h (logged_seen engine)
    → IsLegal engine.config (own who engine.log) who call ↔ IsLegal s.config (own who h) who call
legal_in s frames h engine who call run =
    subst (λ (c : Config). IsLegal c (own who engine.log) who call ↔ IsLegal s.config (own who h) who call) (sym run.config)
    (subst (λ (l : List Entry). IsLegal s.config (own who l) who call ↔ IsLegal s.config (own who h) who call) (sym (run.log refl)) (log_decides s.config h who call))

-- an application's call goes on with the history, and the drivers stay at their seats
pub played_on : (s : Setting) (frames : List Frame) (h : List Entry) (app : ℕ) (call : Call) (reply : Reply) (p q : Play) → HasPlayed s frames h p
    → IsLegal p.checked.config (own (caller_of s.config app) p.checked.log) (caller_of s.config app) call → Serves (logged_seen p.checked) (logged_seen q.checked) (caller_of s.config app) call reply
    → q ≡ record p { checked = q.checked }
    → (reply ≡ reply_at s.config (state_after s.config frames h) call) × HasPlayed s frames (h ++ entry_by (caller_of s.config app) call reply ∷ []) q
played_on s frames h app call reply p q played legal serves same =
    let who = caller_of s.config app in
    let e = entry_by who call reply in
    let mine : IsLegal s.config (own who h) who call = (legal_in s frames h p.checked who call played.run).0 legal in (
      subst (λ (c : Config). reply ≡ reply_at c (state_after s.config frames h) call) played.run.config (serves.reply (state_after s.config frames h) played.run.shows),
      subst (HasPlayed s frames (h ++ e ∷ [])) (sym same) (record {
        run = run_step s frames h (logged_seen p.checked) (logged_seen q.checked) who call reply played.run mine serves;
        count = played.count;
        seats = each_change p.seats.items 0 _ _ played.seats
            (λ k seat low high is. seated_on s p.room h (h ++ e ∷ []) k seat (own-push_other k h e (λ same. omega (arith, same, high, played.count))) is);
      }),
    )
