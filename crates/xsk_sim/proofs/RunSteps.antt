-- What a call on the engine does to a run.
use Rattle.std.proofs.Common.{◌≡◌, ◌↔◌, Option, None, Some, Bool, true, false, IsTrue, ℕ, List, [], ◌∷◌, ◌++◌, refl, sym, subst, ap, ◌∙◌, inl, inr, append-nil, length-append, arith}
use Rattle.std.proofs.lemmas.List.{map-append}
use Rattle.xsk_umem.specs.Frame.{Frame}
use Rattle.xsk_umem.specs.declared.batch.Item.{Item}
use Rattle.xsk_turns.specs.Stepping.{joined_ask}
use Rattle.xsk_model.specs.Config.{Config}
use Rattle.xsk_model.specs.Object.{reply_at, after}
use Rattle.xsk_model.specs.Entry.{Told, Entry, own, with_told}
use Rattle.xsk_model.specs.Legal.{IsLegal}
use Rattle.xsk_model.specs.Opening.{opening}
use Rattle.xsk_model.specs.History.{IsHistory, state_after, MayGive}
use Rattle.xsk_model.specs.Stored.{stored_entry}
use Rattle.xsk_model.specs.OtherWords.{changes}
use Rattle.xsk_model.specs.declared.ask.Ask.{Ask}
use Rattle.xsk_model.specs.declared.call.Call.{Call}
use Rattle.xsk_model.specs.declared.call.Reply.{Reply}
use Rattle.xsk_model.specs.declared.call.Act.{Act}
use Rattle.xsk_model.specs.declared.call.Act.TheVariants.{Call as Calls, Ended as IsEnd}
use Rattle.xsk_model.proofs.Folds.{own-push_same}
use Rattle.xsk_model.proofs.Histories.{goes_push, after_all-append}
use Rattle.xsk_plain.specs.Engine.{Engine, Shows, CanPerform}
use Rattle.xsk_plain.proofs.Legality.{legal_can_perform}
use Rattle.xsk_turns.specs.Workers.{Setting}
use Rattle.xsk_machine.specs.Acts.{IsActAfter}
use Rattle.xsk_sim.specs.Server.{Seen, Serves, OnlyRoom}
use Rattle.xsk_sim.specs.Turning.{HasRun, TakesTurn, Notes}

abbrev entry : ℕ → Call → Reply → Entry
entry who call reply = record { who = who; call = call; reply = reply }

-- a legal call goes on with the history
pub history_step : (c : Config) (frames : List Frame) (h : List Entry) (who : ℕ) (call : Call) (reply : Reply) → IsHistory c frames h → IsLegal c (own who h) who call
    → reply ≡ reply_at c (state_after c frames h) call → IsHistory c frames (h ++ entry who call reply ∷ [])
history_step c frames h who call reply history legal is =
    record { opened = history.opened; legal = goes_push c (opening c frames) [] h (entry who call reply) history.legal legal is }

pub run_step : (s : Setting) (frames : List Frame) (h : List Entry) (old new : Seen) (who : ℕ) (call : Call) (reply : Reply) → HasRun s frames h old
    → IsLegal s.config (own who h) who call → Serves old new who call reply → HasRun s frames (h ++ entry who call reply ∷ []) new
run_step s frames h old new who call reply run legal serves =
    let e = entry who call reply in
    let is : reply ≡ reply_at s.config (state_after s.config frames h) call =
    subst (λ (c : Config). reply ≡ reply_at c (state_after s.config frames h) call) run.config (serves.reply (state_after s.config frames h) run.shows) in
    let left : Shows new.engine (after s.config (state_after s.config frames h) who call) =
    subst (λ (c : Config). Shows new.engine (after c (state_after s.config frames h) who call)) run.config (serves.state (state_after s.config frames h) run.shows) in
    record {
      config = serves.config ∙ run.config;
      legal = history_step s.config frames h who call reply run.legal legal is;
      shows = subst (Shows new.engine) (sym (after_all-append s.config (opening s.config frames) h (e ∷ []))) left;
      calls = omega (arith, serves.calls, run.calls, length-append h (e ∷ []));
      log = λ kept.
          let before : IsTrue old.keeps = sym serves.keeps ∙ kept in
          serves.log before
          ∙ ap (λ (c : Config). old.engine.log ++ stored_entry c.geometry c.sg e ∷ []) run.config
          ∙ ap (λ (l : List Entry). l ++ stored_entry s.config.geometry s.config.sg e ∷ []) (run.log before)
          ∙ sym (map-append (stored_entry s.config.geometry s.config.sg) h (e ∷ []));
    }

-- a worker's act after its own calls and replies can be performed
pub can_make : (s : Setting) (frames : List Frame) (h : List Entry) (object : Seen) (who : ℕ) (act : Act) (call : Call) → HasRun s frames h object
    → IsActAfter s who act (own who h) → act ≡ Calls call → CanPerform object.engine.config object.engine.rings call
can_make s frames h object who act call run after is =
    let engine = object.engine in
    let given : IsActAfter s who (Calls call) (own who h) = subst (λ (a : Act). IsActAfter s who a (own who h)) is after in
    let history : IsHistory engine.config frames h = subst (λ (c : Config). IsHistory c frames h) (sym run.config) run.legal in
    let shows : Shows engine (state_after engine.config frames h) = subst (λ (c : Config). Shows engine (state_after c frames h)) (sym run.config) run.shows in
    let mine : IsLegal engine.config (own who h) who call = subst (λ (c : Config). IsLegal c (own who h) who call) (sym run.config) given.0 in
    legal_can_perform frames h engine who call history shows mine

pub may_give : (c : Config) (frames : List Frame) (h : List Entry) (who : ℕ) (call : Call) (reply : Reply) → IsHistory c frames (h ++ entry who call reply ∷ [])
    → MayGive c (own who h) who call reply
may_give c frames h who call reply history =
    record { frames = frames; history = h ++ entry who call reply ∷ []; legal = history; entries = own-push_same who h (entry who call reply) refl }

-- a worker that makes its call takes its turn
pub turn_made : (s : Setting) (frames : List Frame) (h : List Entry) (old new : Seen) (who : ℕ) (call : Call) (reply : Reply) (gave act : Act) (before settled noted : ℕ) (still : Bool) (Stands : List Told → Type 0)
    → HasRun s frames h old → IsActAfter s who (Calls call) (own who h) → Serves old new who call reply
    → (MayGive s.config (own who h) who call reply → Stands (with_told (own who h) call reply) × IsActAfter s who act (with_told (own who h) call reply))
    → gave ≡ Calls call → noted ≡ settled → IsTrue still ↔ ((changes call reply ≡ false) × (settled ≡ before))
    → (t : TakesTurn s frames who h Stands act new) × Notes gave before settled noted still t.entries
turn_made s frames h old new who call reply gave act before settled noted still Stands run given serves goes is notes quiet =
    let e = entry who call reply in
    let made : HasRun s frames (h ++ e ∷ []) new = run_step s frames h old new who call reply run given.0 serves in
    let stands = goes (may_give s.config frames h who call reply made.legal) in
    let mine : own who (h ++ e ∷ []) ≡ with_told (own who h) call reply = own-push_same who h e refl in (
      record {
        entries = e ∷ [];
        turn = inr (given.1, (e, refl, refl));
        run = made;
        stands = subst Stands (sym mine) stands.0;
        after = subst (IsActAfter s who act) (sym mine) stands.1;
      },
      (is, notes, quiet),
    )

-- one that has ended makes none
pub turn_past : (s : Setting) (frames : List Frame) (h : List Entry) (object : Seen) (who : ℕ) (wants : Option Ask) (items : List Item) (before settled : ℕ) (Stands : Act → List Told → Type 0)
    → wants ≡ None → HasRun s frames h object → Stands (joined_ask wants items) (own who h) → IsActAfter s who (joined_ask wants items) (own who h)
    → (t : TakesTurn s frames who h (Stands (joined_ask wants items)) (joined_ask wants items) object) × Notes (joined_ask wants items) before settled before true t.entries
turn_past s frames h object who None items before settled Stands is run stands whole =
    let e : h ≡ h ++ [] = sym (append-nil h) in (
      record {
        entries = [];
        turn = inl (whole, refl);
        run = subst (λ l. HasRun s frames l object) e run;
        stands = subst (λ l. Stands IsEnd (own who l)) e stands;
        after = subst (λ l. IsActAfter s who IsEnd (own who l)) e whole;
      },
      (refl, refl),
    )
turn_past s frames h object who (Some wanted) items before settled Stands is run stands whole = let no : Some wanted ≡ None = is in cc

-- room for calls changes nothing of a run
pub run_same : (s : Setting) (frames : List Frame) (h : List Entry) (old new : Seen) → HasRun s frames h old → OnlyRoom old new → HasRun s frames h new
run_same s frames h old new run room =
    let same = room.engine in
    record {
      config = ap (λ (e : Engine). e.config) same ∙ run.config;
      legal = run.legal;
      shows = record { rings = run.shows.rings ∙ sym (ap (λ (e : Engine). e.rings) same); marks = run.shows.marks ∙ sym (ap (λ (e : Engine). e.marks) same) };
      calls = ap (λ (e : Engine). e.calls) same ∙ run.calls;
      log = λ kept. ap (λ (e : Engine). e.log) same ∙ run.log (sym room.keeps ∙ kept);
    }
