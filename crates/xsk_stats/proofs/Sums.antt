-- How sums grow.
use Rattle.std.proofs.Common.{◌≡◌, ◌∙◌, sym, ap, ℕ, ◌+◌, ◌<◌, List, [], ◌∷◌, ◌++◌, length, take, slice_get, Some}
use Rattle.std.proofs.lemmas.Option.{slice_get-get_or}
use Rattle.std.proofs.lemmas.List.{take_more}
use Rattle.xsk_machine.specs.declared.figures.DriverFigures.{DriverFigures}
use Rattle.xsk_stats.specs.Report.{figures_at, totals_of}
use Rattle.xsk_stats.specs.declared.totals.Statistics.{Statistics}

-- the totals of one driver more
pub total_more : (classes : ℕ) (drivers : List DriverFigures) (i : ℕ) (driver : DriverFigures) (total : Statistics) → i < length drivers → slice_get drivers i ≡ Some driver
    → total ≡ totals_of classes (take i drivers ++ driver ∷ []) → total ≡ totals_of classes (take (i + 1) drivers)
total_more classes drivers i driver total here is e =
    let same : Some driver ≡ Some (figures_at drivers i) = sym is ∙ slice_get-get_or drivers i _ here in
    let one : driver ≡ figures_at drivers i = cc in
    e ∙ ap (λ (x : DriverFigures). totals_of classes (take i drivers ++ x ∷ [])) one
    ∙ ap (totals_of classes) (sym (take_more drivers i _ here))
