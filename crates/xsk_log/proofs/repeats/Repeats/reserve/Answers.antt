use Rattle.std.proofs.Common.{◌≡◌, length, rules}
use Rattle.xsk_log.specs.Repeats.{values_at}
use Rattle.xsk_log.proofs.Places.{length-values}
use Rattle.xsk_log.proofs.repeats.Repeats.reserve.Goals as goal

pub returns-clause-few : goal.returns-clause-few
returns-clause-few g c =
    let count : length (values_at c.self.inside.values.items c.self.inside.places.items) ≡ length c.self.inside.places.items =
    length-values c.self.inside.values.items c.self.inside.places.items c.self.invariant.0 in
    search rules
