use Rattle.std.proofs.Common.{◌≤◌, [], ◌∷◌, refl, ap, ◌∙◌, lit≤}
use Rattle.std.proofs.lemmas.List.Elements.{All-cons, All-nil}
use Rattle.xsk_model.specs.Config.{IsLawful, pool_of}
use Rattle.xsk_model.specs.declared.config.PairInfo.{PairInfo}
use Rattle.xsk_table.specs.View.{Basis}
use Rattle.xsk_model.proofs.Opened.{fresh-frames}
use Rattle.bench_rings.specs.Moving.{moving, moving_on, pair_on}
use Rattle.bench_rings.proofs.opening.opened.Goals as goal

is_lawful : IsLawful moving
is_lawful =
    let Fits : PairInfo → Type 0 = λ p. pool_of moving ≤ p.fill in
    record { divides = refl; some = lit≤ tt; fits = All-cons Fits (pair_on 0) (pair_on 1 ∷ []) (lit≤ tt) (All-cons Fits (pair_on 1) [] (lit≤ tt) (All-nil Fits)) }

pub open-requires-clause-lawful : goal.open-requires-clause-lawful
open-requires-clause-lawful c = rw (c.in-Ok-config_on.ensures, c.in-Ok.ensures.geometry) is_lawful

pub open-requires-clause-frames : goal.open-requires-clause-frames
open-requires-clause-frames c = rw (c.in-Ok-config_on.ensures, c.in-Ok.ensures.geometry, c.in-Ok.ensures.frames) (fresh-frames _)

pub returns-clause-config : goal.returns-clause-config
returns-clause-config c = ap (λ (k : Basis). k.config) c.in-Ok-open.ensures.setup ∙ c.in-Ok-config_on.ensures ∙ ap moving_on c.in-Ok.ensures.geometry
