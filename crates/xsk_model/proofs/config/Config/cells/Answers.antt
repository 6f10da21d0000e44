use Rattle.std.proofs.Common.{◌≡◌, ◌<◌, length, arith}
use Rattle.std.proofs.lemmas.List.{length-map}
use Rattle.xsk_model.proofs.Maps.{map_known}
use Rattle.xsk_model.proofs.config.Config.cells.Goals as goal

pub overflow_cast-result : goal.overflow_cast-result
overflow_cast-result c =
    let port : c.args.port < c.self.inside.ports = rw (← c.self.view_is) at c.requires in
    let count : length c.self.inside.cells.items ≡ c.self.inside.ports = rw length-map at c.self.invariant.maps in
    let within : c.args.port < length c.self.inside.cells.items = omega arith in
    omega (arith, (map_known _ _ _ c.index.result.now c.self.invariant.cells within c.index.ensures).few)
