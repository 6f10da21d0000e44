-- From a step of the machine to the list for which a resumed application stands, and what is promised of it there.
use Rattle.std.proofs.Common.{◌≡◌, ℕ, None, List, [], ◌++◌, refl, sym, ap, ◌∙◌, subst}
use Rattle.xsk_turns.proofs.Object.{Config, Fits}
use Rattle.xsk_turns.proofs.Calls.{Told, with_told, Call, Reply, Act}
use Rattle.xsk_model.specs.declared.call.Act.TheVariants.{Call as Calls, Ended as IsEnded}
use Rattle.xsk_turns.specs.Script.{Script, ask, again, ended, begun, Leaves}
use Rattle.xsk_turns.specs.Owned.{AllFit}
use Rattle.xsk_turns.specs.AppTurns.{AppKept, app_turn}
use Rattle.xsk_turns.specs.AppOwned.{IsApp}
use Rattle.xsk_turns.specs.AppSplit.{HasLeft}
use Rattle.xsk_turns.proofs.ScriptLemmas.{leaves_told, run_asks, asks_more}
use Rattle.xsk_turns.proofs.Fitting.{lowered_of_none}
use Rattle.xsk_turns.proofs.AppSplit.{fit_join, later_calls_legal, later_frames_at_end}
use Rattle.xsk_app.specs.Shown.{Shown}
use Rattle.xsk_app.specs.Stands.{noted_by, kept_by, left, GoesOn, IsSame}
use Rattle.xsk_app.specs.Resumed.{IsResumed, StandsFrom, HasEndedFrom, StandsFromWith, TellsFrom, TellsAllFrom, ResumedTells}
use Rattle.xsk_app.specs.declared.machine.Machine.{Machine}
use Rattle.xsk_app.proofs.Runs.{Shows}

module _ (c : Config) (app : ℕ) (start : AppKept) (past : List Told) where
  abbrev AreLeft : List Told → Script AppKept → Type 0
  AreLeft l script = Leaves (app_turn c app) (app_turn c app start) l script

  stands_with : (now : Machine) (s : Shown) (act : Act) (script : Script AppKept) (l : List Told) → Shows s now → now.config.now ≡ c → now.app ≡ app → IsApp c app → c.closing ≡ None → HasLeft c start past → AllFit c past l
      → AreLeft l (begun (app_turn c app) script) → GoesOn c app now act script → StandsFromWith c app start past s act l
  stands_with now s (Calls call) script l shows config same one closes begins fit leaves goes =
      let there : ask s.kept call (left c app s.wait s.noted s.kept) ≡ begun (app_turn c app) script =
      ap (λ k. ask k call (left c app s.wait s.noted s.kept)) shows.kept ∙ ap (ask (kept_by now) call) (shows.left c app) ∙ goes in
      record { config = shows.config ∙ config; app = shows.app ∙ same; one = one; closes = closes; begins = begins; fit = fit; asks = subst (AreLeft l) (sym there) leaves }
  stands_with now s IsEnded script l shows config same one closes begins fit leaves goes =
      let there : ended s.kept ≡ begun (app_turn c app) script = ap (λ k. ended k) shows.kept ∙ goes in
      record { config = shows.config ∙ config; app = shows.app ∙ same; one = one; closes = closes; begins = begins; fit = fit; ends = subst (AreLeft l) (sym there) leaves }

  module _ (old now : Machine) (before s : Shown) (act : Act) (shows : Shows before old) (shown : Shows s now) (same : IsSame old now) where
    moved : before.config ≡ c → before.app ≡ app → (script : Script AppKept) → GoesOn old.config.now old.app now act script → GoesOn c app now act script
    moved e f script goes =
        subst (λ k. GoesOn k app now act script) (sym shows.config ∙ e) (subst (λ n. GoesOn old.config.now n now act script) (sym shows.app ∙ f) goes)

    pub stands_resumed : IsResumed c app start past before → GoesOn old.config.now old.app now act (again (kept_by old)) → StandsFromWith c app start past s act []
    stands_resumed new goes =
        stands_with now s act (again start) [] shown (ap (λ r. r.now) same.config ∙ sym shows.config ∙ new.config) (same.app ∙ sym shows.app ∙ new.app) new.one new.closes new.begins tt refl
        (subst (λ k. GoesOn c app now act (again k)) (sym shows.kept ∙ new.kept) (moved new.config new.app (again (kept_by old)) goes))

    pub stands_later : (call : Call) (reply : Reply) (l : List Told) → StandsFrom c app start past before call l → Fits c (past ++ l) call reply
        → GoesOn old.config.now old.app now act (left old.config.now old.app old.wait (noted_by old.turn) (kept_by old) reply) → StandsFromWith c app start past s act (with_told l call reply)
    stands_later call reply l stands fits goes =
        let rest = left c app before.wait before.noted before.kept in
        let there : left old.config.now old.app old.wait (noted_by old.turn) (kept_by old) ≡ rest =
        ap (λ k. left k old.app old.wait (noted_by old.turn) (kept_by old)) (sym shows.config ∙ stands.config)
        ∙ ap (λ n. left c n old.wait (noted_by old.turn) (kept_by old)) (sym shows.app ∙ stands.app) ∙ sym (shows.left c app) in
        stands_with now s act (rest reply) (with_told l call reply) shown (ap (λ r. r.now) same.config ∙ sym shows.config ∙ stands.config) (same.app ∙ sym shows.app ∙ stands.app) stands.one stands.closes stands.begins
        (fit_join c past l _ stands.fit ((fits, lowered_of_none c (past ++ l) call reply stands.closes), tt)) (leaves_told (app_turn c app) start before.kept call rest reply l stands.asks)
        (subst (λ f. GoesOn c app now act (f reply)) there (moved stands.config stands.app (left old.config.now old.app old.wait (noted_by old.turn) (kept_by old) reply) goes))

-- ---- what is promised of it

tells : (c : Config) (a : ℕ) (start : AppKept) (past : List Told) (s : Shown) (call : Call) (l : List Told) → StandsFrom c a start past s call l → TellsFrom c a start past s call l
tells c a start past s call l stands =
    let rest = left c a s.wait s.noted s.kept in
    let at = later_calls_legal c a past start l s.kept call rest stands.one stands.closes stands.begins stands.fit stands.asks in
    record {
      run = run_asks (app_turn c a) start s.kept call rest l stands.asks;
      more = asks_more (app_turn c a) start s.kept call rest l stands.asks;
      owned = at.0;
      legal = at.1;
    }

tells_all : (c : Config) (a : ℕ) (start : AppKept) (past : List Told) (s : Shown) (l : List Told) → HasEndedFrom c a start past s l → TellsAllFrom c a start past s l
tells_all c a start past s l e = record { whole = (s.kept, e.ends); frames = later_frames_at_end c a past start l s.kept e.one e.closes e.begins e.fit e.ends }

pub resumed_tells : ResumedTells
resumed_tells c a start past s (Calls call) l stands = tells c a start past s call l stands
resumed_tells c a start past s IsEnded l stands = tells_all c a start past s l stands
