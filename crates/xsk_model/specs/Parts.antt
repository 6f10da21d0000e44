-- What a configuration's fields show.
use Rattle.std.specs.Prelude.{map}
use Rattle.std.specs.Vec.{vec_items}
use Rattle.xsk_model.specs.Config.{Config}
use Rattle.xsk_model.specs.declared.config.Config.TheInside.{Inside}

abbrev pub parts_of : Inside → Config
parts_of c = record {
  geometry = c.geometry;
  ports = c.ports;
  queues = c.queues;
  sockets = c.sockets.items;
  pairs = c.pairs.items;
  cells = map vec_items c.cells.items;
  sg = c.sg;
  wakeup = c.wakeup;
  closing = c.closing;
}
