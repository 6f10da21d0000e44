use Rattle.std.proofs.Common.{◌≡◌, ◌<◌, ◌≤◌, length, map, set, arith, refl}
use Rattle.std.specs.Vec.{vec_items, with_item}
use Rattle.std.proofs.lemmas.List.{length-map, length-set, map-set}
use Rattle.std.proofs.lemmas.List.Elements.{All-set}
use Rattle.xsk_model.specs.Config.{IsMap}
use Rattle.xsk_model.proofs.Maps.{map_known, map_written, map-set_map}
use Rattle.xsk_model.proofs.config.Config.set_cell.Goals as goal

pub invariant_of-self : goal.invariant_of-self
invariant_of-self c =
    let port : c.args.port < c.self.inside.ports = rw (← c.self.view_is) at c.requires.port in
    let known : c.args.value ≤ length c.self.inside.sockets.items = rw (← c.self.view_is) at c.requires.known in
    let count : length c.self.inside.cells.items ≡ c.self.inside.ports = rw length-map at c.self.invariant.maps in
    let within : c.args.port < length c.self.inside.cells.items = omega arith in
    let here : IsMap (length c.self.inside.sockets.items) c.index_mut.result.now.items = map_known _ _ _ c.index_mut.result.now c.self.invariant.cells within c.index_mut.ensures.value in
    record {
      closing = c.self.invariant.closing;
      ports = c.self.invariant.ports;
      queues = c.self.invariant.queues;
      some = c.self.invariant.some;
      few = c.self.invariant.few;
      pairs_some = c.self.invariant.pairs_some;
      pairs_few = c.self.invariant.pairs_few;
      bound = c.self.invariant.bound;
      served = c.self.invariant.served;
      maps = rw (length-map, length-set) count;
      cells = rw (map-set vec_items c.self.inside.cells.items c.args.port (with_item c.index_mut.result.now c.args.index c.args.value))
          (All-set (IsMap (length c.self.inside.sockets.items)) (map vec_items c.self.inside.cells.items) c.args.port (set c.index_mut.result.now.items c.args.index c.args.value) (map_written _ _ _ _ here known) c.self.invariant.cells);
    }

pub returns : goal.returns
returns c =
    let port : c.args.port < c.self.inside.ports = rw (← c.self.view_is) at c.requires.port in
    let count : length c.self.inside.cells.items ≡ c.self.inside.ports = rw length-map at c.self.invariant.maps in
    let within : c.args.port < length c.self.inside.cells.items = omega arith in
    rw (← c.self.view_is, map-set_map c.self.inside.cells.items c.args.port c.index_mut.result.now (with_item c.index_mut.result.now c.args.index c.args.value) c.args.index c.args.value within c.index_mut.ensures.value refl) refl
