-- How often the object changes in a history in which each caller's own calls are a run.
use Rattle.std.proofs.Common.{◌≡◌, ℕ, ◌<◌, ◌≤◌, length, refl, ap, ⊎_elim, arith}
use Rattle.xsk_model.specs.Config.{Config, IsRegular, classes_of}
use Rattle.xsk_model.specs.Marks.{apps_of}
use Rattle.xsk_model.specs.Rings.{caller_of}
use Rattle.xsk_model.specs.Entry.{own}
use Rattle.xsk_model.proofs.OwnRuns.{history_own}
use Rattle.xsk_turns.specs.Turns.{closing_on, IsDriverRun}
use Rattle.xsk_turns.specs.AppTurns.{shut_of, IsAppRunBy}
use Rattle.xsk_turns.specs.AppOwned.{IsApp}
use Rattle.xsk_turns.specs.Workers.{input_of}
use Rattle.xsk_bounds.specs.Totals.{number_of}
use Rattle.xsk_bounds.specs.Bounds.{closing_changes, FewChanges, FewChangesWithClosings}
use Rattle.xsk_bounds.proofs.Closing.{app_closes, driver_acks, one_acks, one_closes}
use Rattle.xsk_bounds.proofs.Sums.{AreClosed, few_changes, closing_few}
use Rattle.xsk_bounds.proofs.AppSpending.{app_applies}
use Rattle.xsk_bounds.proofs.DriverSpending.{driver_drives}
use Rattle.xsk_bounds.proofs.Clearing.{keeps_kicks}

few_classes : (c : Config) → IsRegular c → classes_of c ≤ 4
few_classes c regular = ⊎_elim (λ (e : classes_of c ≡ 1). omega (arith, e)) (λ rest. ⊎_elim (λ (e : classes_of c ≡ 2). omega (arith, e)) (λ (e : classes_of c ≡ 4). omega (arith, e)) rest) regular.classes

pub bounded_with_closings : FewChangesWithClosings
bounded_with_closings s frames h regular history runs =
    omega (
      arith,
      few_changes s.config frames h (λ d. length (input_of s d)) history (number_of s.config.closing) closed
          (λ d lt. driver_drives s.wire s.config d (input_of s d) (own d h) (few_classes s.config regular) history.opened.geometry (history_own s.config frames h d history) (drivers d lt))
          (λ a lt. app_applies s.manner s.config a (caller_of s.config a) (own (caller_of s.config a) h) (one a lt) (history_own s.config frames h (caller_of s.config a) history) (apps a lt))
          (keeps_kicks s.manner s.wire s.config frames h (input_of s) regular history drivers apps),
      closing_few s.config.closing,
    )
  where
    drivers : (d : ℕ) → d < length s.config.pairs → IsDriverRun s.wire s.config d (input_of s d) (own d h)
    drivers d lt = (runs d (omega (arith, lt))).driver lt

    apps : (a : ℕ) → a < apps_of s.config → IsAppRunBy s.manner s.config a (own (caller_of s.config a) h)
    apps a lt = (runs (caller_of s.config a) (omega (arith, lt))).app a refl

    one : (a : ℕ) → a < apps_of s.config → IsApp s.config a
    one a lt = record { config = history.opened.config; regular = regular; geometry = history.opened.geometry; known = lt }

    closed : AreClosed s.config (number_of s.config.closing) h
    closed = record {
      acked = λ d. number_of (closing_on d (classes_of s.config) s.config.closing);
      shut = λ a. number_of (shut_of s.config a);
      acks = λ d lt. driver_acks s.wire s.config d (input_of s d) (own d h) (drivers d lt);
      closings = λ a lt. (app_closes s.manner s.config a (one a lt) (own (caller_of s.config a) h) (apps a lt)).0;
      cells = λ a lt. (app_closes s.manner s.config a (one a lt) (own (caller_of s.config a) h) (apps a lt)).1;
      one_acks = one_acks s.config;
      one_closes = one_closes s.config history.opened.config regular history.opened.geometry;
    }

-- where no socket is closed there are none beside
pub changes_bounded : FewChanges
changes_bounded s frames h steady history runs = omega (arith, bounded_with_closings s frames h steady.regular history runs, ap closing_changes steady.closes)
