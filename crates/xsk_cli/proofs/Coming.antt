-- What words come to.
use Rattle.std.proofs.Common.{◌≡◌, ℕ, false, List, Option, Some, None, inl, inr, refl, sym, ap, ◌∙◌, subst, arith}
use Rattle.std.specs.Prelude.{Result, Ok, Err, IsErrAnd, unwrap_or}
use Rattle.std.proofs.lemmas.Option.{same_Some}
use Rattle.xsk_io.specs.declared.bay.Stream.{Stream}
use Rattle.xsk_io.specs.declared.bay.Stream.TheVariants.{Report}
use Rattle.xsk_io.proofs.Steps.{Adds-none}
use Rattle.xsk_socket.specs.declared.layout.Unlawful.{Unlawful}
use Rattle.xsk_cli.specs.Cause.{IsCaused, NeverFalls, NoOthers}
use Rattle.xsk_cli.specs.Ends.{ComesOf, Ends, TellsBy}
use Rattle.xsk_cli.specs.Line.{line_of}
use Rattle.xsk_cli.specs.Outcome.{Written}
use Rattle.xsk_cli.specs.Steps.{ComesTo, Comes, args_status}
use Rattle.xsk_args.specs.declared.error.ArgsError.{ArgsError}
use Rattle.xsk_args.specs.declared.error.ArgsError.TheVariants.{Usage as IsUsage, OutOfMemory as NoMemory}
use Rattle.xsk_io.specs.Bay.{Moment}
use Rattle.xsk_cli.specs.Streams.{HasLine, IsAtOnce, IsSilent}
use Rattle.xsk_cli.specs.declared.failure.Refusal.{Refusal}
use Rattle.xsk_cli.specs.declared.failure.Refusal.TheVariants.{Bare}
use Rattle.xsk_cli.specs.declared.words.Work.{Work}
use Rattle.xsk_cli.specs.Words.{Plan, fault_in, no_plan}
use Rattle.xsk_cli.specs.declared.status.Status.{Status}
use Rattle.xsk_cli.specs.declared.status.Status.TheVariants.{Usage, Refused, OutOfMemory}
use Rattle.xsk_cli.proofs.Reading.{ends_at_once, refused_ends, usage_ends}
use Rattle.xsk_cli.proofs.Telling.{bare}

module _ (planned : Option Plan) (old : Moment) (closed : (stream : Stream) → old.is_open stream ≡ false) where
  pub usage_comes : planned ≡ None → Comes planned old old (Err (Bare Usage))
  usage_comes none = record {
    usage = λ _. none;
    unplanned = λ _. inl refl;
    refused = λ plan unlawful is fault. let no = sym is ∙ none in absurd cc;
    ends = bare (ComesOf (unwrap_or planned no_plan).work) (unwrap_or planned no_plan) old old Usage (usage_ends (unwrap_or planned no_plan) old closed) refl;
    silent = λ _. (refl, Adds-none (old.offers Report));
    cause = tt;
    falls = λ kind stream. omega arith;
    others = λ kind stream other. refl;
    uncounted = λ _ kind stream. refl;
  }

  pub memory_comes : Comes planned old old (Err (Bare OutOfMemory))
  memory_comes = record {
    usage = λ e. absurd cc;
    unplanned = λ _. inr refl;
    refused = λ plan unlawful is fault. inr refl;
    ends = bare (ComesOf (unwrap_or planned no_plan).work) (unwrap_or planned no_plan) old old OutOfMemory (ends_at_once (unwrap_or planned no_plan) old closed) refl;
    silent = λ _. (refl, Adds-none (old.offers Report));
    cause = tt;
    falls = λ kind stream. omega arith;
    others = λ kind stream other. refl;
    uncounted = λ no. absurd no;
  }

  pub args_comes : (error : ArgsError) → (error ≡ IsUsage → planned ≡ None) → Comes planned old old (Err (Bare (args_status error)))
  args_comes IsUsage none = usage_comes (none refl)
  args_comes NoMemory none = memory_comes

  pub refused_comes : (plan : Plan) (unlawful : Unlawful) → planned ≡ Some plan → fault_in plan.work ≡ Some unlawful → Comes planned old old (Err (Bare (Refused unlawful)))
  refused_comes plan unlawful is fault = record {
    usage = λ e. absurd cc;
    unplanned = λ none. let no = sym is ∙ none in absurd cc;
    refused = λ other reason same faulty.
        let plans : plan ≡ other = same_Some plan other (sym is ∙ same) in
        let reasons : unlawful ≡ reason = same_Some unlawful reason (sym fault ∙ subst (λ (p : Plan). fault_in p.work ≡ Some reason) (sym plans) faulty) in
        inl (subst (λ u. Refused unlawful ≡ Refused u) reasons refl);
    ends = bare (ComesOf (unwrap_or planned no_plan).work) (unwrap_or planned no_plan) old old (Refused unlawful)
        (subst (λ o. Ends (unwrap_or o no_plan) old old (Refused unlawful)) (sym is) (refused_ends plan old unlawful closed fault)) refl;
    silent = λ _. (refl, Adds-none (old.offers Report));
    cause = tt;
    falls = λ kind stream. omega arith;
    others = λ kind stream other. refl;
    uncounted = λ _ kind stream. refl;
  }

pub plan_comes_to : (Coming : Work → List (List ℕ) → Written → Moment → Status → Type 0) (planned : Option Plan) (plan : Plan) (old new : Moment) (status : Status) (text : List ℕ) → planned ≡ Some plan → fault_in plan.work ≡ None
    → (IsAtOnce status → ⊥) → TellsBy (Coming plan.work) plan old new status text
    → (HasLine status → IsSilent old new) → IsCaused old.faults new.faults status → NeverFalls old.faults new.faults → NoOthers old.faults new.faults status → ComesTo Coming planned old new status text
plan_comes_to Coming planned plan old new status text is accepted begun ends silent cause falls others = record {
  usage = λ e. absurd (begun (subst IsAtOnce (sym e) tt));
  unplanned = λ none. let no = sym is ∙ none in absurd cc;
  refused = λ other reason same faulty.
      let plans : plan ≡ other = same_Some plan other (sym is ∙ same) in
      let no = sym accepted ∙ subst (λ (p : Plan). fault_in p.work ≡ Some reason) (sym plans) faulty in
      absurd cc;
  ends = subst (λ (o : Option Plan). TellsBy (Coming (unwrap_or o no_plan).work) (unwrap_or o no_plan) old new status text) (sym is) ends;
  silent = silent;
  cause = cause;
  falls = falls;
  others = others;
  uncounted = λ at_once. absurd (begun at_once);
}

pub plan_comes : (planned : Option Plan) (plan : Plan) (old new : Moment) (status : Status) (text : List ℕ) → planned ≡ Some plan → fault_in plan.work ≡ None → (IsAtOnce status → ⊥) → TellsBy (ComesOf plan.work) plan old new status text
    → (HasLine status → IsSilent old new) → IsCaused old.faults new.faults status → NeverFalls old.faults new.faults → NoOthers old.faults new.faults status → ComesTo ComesOf planned old new status text
plan_comes planned plan old new status text is accepted begun ends silent cause falls others =
    plan_comes_to ComesOf planned plan old new status text is accepted begun ends silent cause falls others

-- an early return, whose error is made of another one
pub err_is : {T E : Type 0} (answer : Result T E) (error : E) → IsErrAnd answer (λ e. e ≡ error) → answer ≡ Err error
err_is (Ok x) error is = absurd is
err_is (Err e) error is = ap Err is

-- an answer with such a refusal
pub comes_as : (answer : Result Unit Refusal) (refusal : Refusal) (planned : Option Plan) (old new : Moment) → answer ≡ Err refusal → Comes planned old new (Err refusal) → Comes planned old new answer
comes_as answer refusal planned old new is comes = subst (λ r. Comes planned old new r) (sym is) comes
