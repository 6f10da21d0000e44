use Rattle.std.proofs.Common.{◌∙◌, map, [], ◌∷◌, ◌++◌, sym, ap, ap₂}
use Rattle.std.specs.Vec.{vec_items}
use Rattle.std.proofs.lemmas.List.{map-append}
use Rattle.xsk_socket.specs.Bound.{map_on}
use Rattle.xsk_socket.proofs.Numbered.{numbered_more}
use Rattle.xsk_socket.proofs.seal.maps.Goals as goal

pub loop-port-preserved : goal.loop-port-preserved
loop-port-preserved c =
    let old = c.loop-port.maps.items in
    let new = c.in_ok-port_map.field-0 in
    ap (map vec_items) c.in_ok-push.ensures.items
    ∙ map-append vec_items old (new ∷ [])
    ∙ ap₂ (λ maps one. maps ++ one ∷ []) c.loop-port.invariant c.in_ok-port_map.ensures
    ∙ sym (numbered_more c.loop-port.port (map_on c.args.sockets.now c.args.queues))
