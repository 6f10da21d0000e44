-- Rules that leave one setting, and the runs of it.
use Rattle.std.proofs.Common.{subst}
use Rattle.std.specs.Prelude.{IfOk, Result, Ok, Err}
use Rattle.xsk_turns.proofs.Verdicts.{one_setting}
use Rattle.xsk_sim.specs.Runs.{HasEnded, HasStalled, EndsAsRuled, StallsAsRuled}

pub ends_as_ruled : EndsAsRuled
ends_as_ruled rules s frames order run exact is ended = subst (λ t. HasEnded t frames order run) (one_setting rules s exact is) ended

pub stalls_as_ruled : StallsAsRuled
stalls_as_ruled rules s frames order round exact is stalled = subst (λ t. HasStalled t frames order round) (one_setting rules s exact is) stalled

pub if_ok : {A E : Type 0} (r : Result A E) (P Q : A → Type 0) → ((a : A) → P a → Q a) → IfOk r P → IfOk r Q
if_ok (Ok a) P Q f h = f a h
if_ok (Err e) P Q f h = tt
