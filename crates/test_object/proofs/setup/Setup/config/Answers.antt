use Rattle.std.proofs.Common.{List, None, map, subst}
use Rattle.std.specs.Vec.{vec_items}
use Rattle.xsk_model.specs.declared.config.PairInfo.{PairInfo}
use Rattle.xsk_model.specs.declared.config.SocketInfo.{SocketInfo}
use Rattle.xsk_model.specs.Config.{IsConfig}
use Rattle.test_object.proofs.setup.Setup.config.Goals as goal

pub of_parts-config-requires : goal.of_parts-config-requires
of_parts-config-requires c =
    let s = c.args.self in
    subst (λ (ss : List SocketInfo). IsConfig (record { geometry = c.args.geometry; ports = s.ports; queues = s.queues; sockets = ss; pairs = s.pairs.items; cells = map vec_items s.cells.items; sg = s.sg; wakeup = s.wakeup; closing = None })) c.as_slice.ensures.value
    (subst (λ (ps : List PairInfo). IsConfig (record { geometry = c.args.geometry; ports = s.ports; queues = s.queues; sockets = c.as_slice.result.now; pairs = ps; cells = map vec_items s.cells.items; sg = s.sg; wakeup = s.wakeup; closing = None })) c.as_slice-2.ensures.value
    (subst (λ vs. IsConfig (record { geometry = c.args.geometry; ports = s.ports; queues = s.queues; sockets = c.as_slice.result.now; pairs = c.as_slice-2.result.now; cells = map vec_items vs; sg = s.sg; wakeup = s.wakeup; closing = None })) c.as_slice-3.ensures.value
    ((c.are_parts.ensures c.args.geometry s.sg s.wakeup).0 c.if-not-are_parts.false)))
