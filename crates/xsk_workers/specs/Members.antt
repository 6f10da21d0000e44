-- A member of a crew: a worker, or an application by several hands.
use Rattle.std.specs.Prelude.{ℕ, Option, Some, None, List, []}
use Rattle.xsk_model.specs.Entry.{Told, own}
use Rattle.xsk_model.specs.declared.call.Act.{Act}
use Rattle.xsk_model.specs.declared.call.Act.TheVariants.{Ended}
use Rattle.xsk_turns.specs.Workers.{Setting}
use Rattle.xsk_machine.specs.Workers.{Stands, kept_of, figures_kept}
use Rattle.xsk_machine.specs.declared.figures.DriverFigures.{DriverFigures}
use Rattle.xsk_machine.specs.declared.worker.AnyWorker.{AnyWorker}
use Rattle.xsk_table.specs.Held.{Holder}
use Rattle.xsk_workers.specs.Crew.{Seat}
use Rattle.xsk_workers.specs.Shown.{WorkerShown, seat_of, HasRun}
use Rattle.xsk_workers.specs.Hands.{TeamShown, team_seat, TeamHasRun}
use Rattle.xsk_workers.specs.declared.member.Member.{Member}
use Rattle.xsk_workers.specs.declared.member.Member.TheVariants.{One, Several}

-- what holds of either kind
module _ {A B : Type 0} where
  abbrev pub either_seat : (A → Seat) → (B → Seat) → Member A B → Seat
  either_seat one several (One w) = one w
  either_seat one several (Several t) = several t

  abbrev pub either_pass : (A → Holder) → (B → Holder) → Member A B → Holder
  either_pass one several (One w) = one w
  either_pass one several (Several t) = several t

  abbrev pub EitherIs : (A → Type 0) → (B → Type 0) → Member A B → Type 0
  EitherIs One' Several' (One w) = One' w
  EitherIs One' Several' (Several t) = Several' t

  abbrev pub EitherLeaves : (A → Option AnyWorker → Type 0) → (B → Option AnyWorker → Type 0) → Member A B → Option AnyWorker → Type 0
  EitherLeaves One' Several' (One w) left = One' w left
  EitherLeaves One' Several' (Several t) left = Several' t left

-- of a worker its machine is left, which has ended where the worker has; of several hands none
abbrev pub IsLeftOfWorker : (Setting → ℕ → AnyWorker → Act → List Told → Type 0) → WorkerShown → Option AnyWorker → Type 0
IsLeftOfWorker Stands w None = ⊥
IsLeftOfWorker Stands w (Some machine) = HasRun w → Stands w.setting w.pass.who machine Ended (own w.pass.who w.pass.view.seen)

abbrev pub IsLeftOfTeam : TeamShown → Option AnyWorker → Type 0
IsLeftOfTeam t None = Unit {0}
IsLeftOfTeam t (Some machine) = ⊥

-- a member of a run
abbrev pub member_seat : Member WorkerShown TeamShown → Seat
member_seat m = either_seat seat_of team_seat m

abbrev pub MemberHasRun : Member WorkerShown TeamShown → Type 0
MemberHasRun m = EitherIs HasRun TeamHasRun m

abbrev pub pass_in : Member WorkerShown TeamShown → Holder
pass_in m = either_pass (λ w. w.pass) (λ t. t.last.pass) m

abbrev pub IsLeftOf : Member WorkerShown TeamShown → Option AnyWorker → Type 0
IsLeftOf m left = EitherLeaves (IsLeftOfWorker Stands) IsLeftOfTeam m left

-- what is kept of it
abbrev pub kept_left : Option AnyWorker → List (List (List ℕ))
kept_left None = []
kept_left (Some w) = kept_of w

abbrev pub figures_left : ℕ → Option AnyWorker → List DriverFigures
figures_left classes None = []
figures_left classes (Some w) = figures_kept classes w
