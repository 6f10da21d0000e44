-- From a step of the machine to the list for which the application stands, and all that is promised of it there.
use Rattle.std.proofs.Common.{◌≡◌, ℕ, List, [], refl, sym, ap, ◌∙◌, subst}
use Rattle.xsk_turns.proofs.Object.{Config}
use Rattle.xsk_turns.proofs.Calls.{Told, with_told, Call, Reply, Act}
use Rattle.xsk_model.specs.declared.call.Act.TheVariants.{Call as Calls, Ended as IsEnded}
use Rattle.xsk_turns.specs.Script.{Script, ask, again, ended, begun, Leaves}
use Rattle.xsk_turns.specs.Owned.{AllFit, Suits}
use Rattle.xsk_turns.specs.AppTurns.{AppKept, app_turn, app_start_by}
use Rattle.xsk_turns.specs.AppOwned.{IsApp}
use Rattle.xsk_turns.specs.declared.manner.Manner.{Manner}
use Rattle.xsk_turns.proofs.ScriptLemmas.{leaves_told, run_asks, asks_more}
use Rattle.xsk_turns.proofs.Owning.{fit_push}
use Rattle.xsk_app.specs.Shown.{Shown}
use Rattle.xsk_app.specs.Stands.{noted_by, kept_by, left, GoesOn, IsSame}
use Rattle.xsk_app.specs.Runs.{IsNew, Stands, StandsWith, HasEnded, Tells, TellsAll, TellsWith}
use Rattle.xsk_app.specs.declared.machine.Machine.{Machine}
use Rattle.xsk_turns.proofs.AppOwning.{app_keeps_frames, app_calls_legal, app_keeps_frames_at_end}

-- what is shown of a machine
pub record Shows (s : Shown) (m : Machine) : Type 0 where
  pub config : s.config ≡ m.config.now
  pub app : s.app ≡ m.app
  pub left : (c : Config) (app : ℕ) → left c app s.wait s.noted s.kept ≡ left c app m.wait (noted_by m.turn) (kept_by m)
  pub kept : s.kept ≡ kept_by m

module _ (manner : Manner) (c : Config) (app : ℕ) where
  abbrev AreLeft : List Told → Script AppKept → Type 0
  AreLeft l script = Leaves (app_turn c app) (app_turn c app (app_start_by manner c)) l script

  stands_with : (now : Machine) (s : Shown) (act : Act) (script : Script AppKept) (l : List Told) → Shows s now → now.config.now ≡ c → now.app ≡ app → IsApp c app → AllFit c [] l
      → AreLeft l (begun (app_turn c app) script) → GoesOn c app now act script → StandsWith manner c app s act l
  stands_with now s (Calls call) script l shows config same one fit leaves goes =
      let there : ask s.kept call (left c app s.wait s.noted s.kept) ≡ begun (app_turn c app) script =
      ap (λ k. ask k call (left c app s.wait s.noted s.kept)) shows.kept ∙ ap (ask (kept_by now) call) (shows.left c app) ∙ goes in
      record { config = shows.config ∙ config; app = shows.app ∙ same; one = one; fit = fit; asks = subst (AreLeft l) (sym there) leaves }
  stands_with now s IsEnded script l shows config same one fit leaves goes =
      let there : ended s.kept ≡ begun (app_turn c app) script = ap (λ k. ended k) shows.kept ∙ goes in
      record { config = shows.config ∙ config; app = shows.app ∙ same; one = one; fit = fit; ends = subst (AreLeft l) (sym there) leaves }

  module _ (old now : Machine) (before s : Shown) (act : Act) (shows : Shows before old) (shown : Shows s now) (same : IsSame old now) where
    moved : before.config ≡ c → before.app ≡ app → (script : Script AppKept) → GoesOn old.config.now old.app now act script → GoesOn c app now act script
    moved e f script goes =
        subst (λ k. GoesOn k app now act script) (sym shows.config ∙ e) (subst (λ n. GoesOn old.config.now n now act script) (sym shows.app ∙ f) goes)

    pub stands_new : IsNew manner c app before → GoesOn old.config.now old.app now act (again (kept_by old)) → StandsWith manner c app s act []
    stands_new new goes =
        stands_with now s act (again (app_start_by manner c)) [] shown (ap (λ r. r.now) same.config ∙ sym shows.config ∙ new.config) (same.app ∙ sym shows.app ∙ new.app) new.one tt refl
        (subst (λ k. GoesOn c app now act (again k)) (sym shows.kept ∙ new.kept) (moved new.config new.app (again (kept_by old)) goes))

    pub stands_next : (call : Call) (reply : Reply) (l : List Told) → Stands manner c app before call l → Suits c l call reply
        → GoesOn old.config.now old.app now act (left old.config.now old.app old.wait (noted_by old.turn) (kept_by old) reply) → StandsWith manner c app s act (with_told l call reply)
    stands_next call reply l stands fits goes =
        let rest = left c app before.wait before.noted before.kept in
        let there : left old.config.now old.app old.wait (noted_by old.turn) (kept_by old) ≡ rest =
        ap (λ k. left k old.app old.wait (noted_by old.turn) (kept_by old)) (sym shows.config ∙ stands.config)
        ∙ ap (λ n. left c n old.wait (noted_by old.turn) (kept_by old)) (sym shows.app ∙ stands.app) ∙ sym (shows.left c app) in
        stands_with now s act (rest reply) (with_told l call reply) shown (ap (λ r. r.now) same.config ∙ sym shows.config ∙ stands.config) (same.app ∙ sym shows.app ∙ stands.app) stands.one
        (fit_push c [] l call reply stands.fit fits) (leaves_told (app_turn c app) (app_start_by manner c) before.kept call rest reply l stands.asks)
        (subst (λ f. GoesOn c app now act (f reply)) there (moved stands.config stands.app (left old.config.now old.app old.wait (noted_by old.turn) (kept_by old) reply) goes))

pub tells : (manner : Manner) (c : Config) (a : ℕ) (s : Shown) (call : Call) (l : List Told) → Stands manner c a s call l → Tells manner c a s call l
tells manner c a s call l stands =
    let rest = left c a s.wait s.noted s.kept in
    record {
      run = run_asks (app_turn c a) (app_start_by manner c) s.kept call rest l stands.asks;
      more = asks_more (app_turn c a) (app_start_by manner c) s.kept call rest l stands.asks;
      owned = app_keeps_frames manner c a l s.kept call rest stands.one stands.fit stands.asks;
      legal = λ own. app_calls_legal manner c a l s.kept call rest stands.one own stands.fit stands.asks;
    }

pub tells_all : (manner : Manner) (c : Config) (a : ℕ) (s : Shown) (l : List Told) → HasEnded manner c a s l → TellsAll manner c a s l
tells_all manner c a s l e = record { whole = (s.kept, e.ends); frames = app_keeps_frames_at_end manner c a l s.kept e.one e.fit e.ends }

pub tells_with : (manner : Manner) (c : Config) (a : ℕ) (s : Shown) (act : Act) (l : List Told) → StandsWith manner c a s act l → TellsWith manner c a s act l
tells_with manner c a s (Calls call) l stands = tells manner c a s call l stands
tells_with manner c a s IsEnded l stands = tells_all manner c a s l stands
