use Rattle.std.proofs.Common.{rules, ◌≡◌, ◌∙◌, ◌<◌, true, length, map, refl, ap, sym, subst}
use Rattle.std.specs.List.{list_all}
use Rattle.std.specs.Prelude.{unwrap_or}
use Rattle.std.specs.Vec.{vec_items}
use Rattle.xsk_socket.specs.Bound.{info_in, map_on}
use Rattle.xsk_socket.specs.Regular.{numbered}
use Rattle.xsk_socket.specs.Sealed.{info_of, on_port, sealed}
use Rattle.xsk_socket.specs.Setup.{State, StandsFor, flags_of, is_bound, sockets_of}
use Rattle.xsk_socket.proofs.Sealing.{infos_are, maps_are, setup-config}
use Rattle.xsk_socket.proofs.setup.Setup.seal.Goals as goal

pub of_parts-requires : goal.of_parts-requires
of_parts-requires c =
    let inside = c.self.inside in
    let s : State = record { geometry = inside.geometry; ports = inside.ports; queues = inside.queues; sockets = inside.sockets.items; pairs = inside.pairs.items; flags = inside.flags } in
    let some : 0 < length s.sockets = search rules in
    let bound : list_all is_bound s.sockets ≡ true = search rules in
    let sockets : c.in-Ok.sockets.items ≡ map info_in s.sockets = search rules in
    let cells : map vec_items c.in-Ok-maps.cells.items ≡ numbered s.ports (map_on s.sockets s.queues) = search rules in
    rw (sockets, cells) (setup-config s c.self.invariant some bound c.has_flag-sg.result c.has_flag-wakeup.result)

pub returns-clause-config : goal.returns-clause-config
returns-clause-config c = λ calls stands.
    let inside = c.self.inside in
    let s : State = record { geometry = inside.geometry; ports = inside.ports; queues = inside.queues; sockets = inside.sockets.items; pairs = inside.pairs.items; flags = inside.flags } in
    let stands_now : StandsFor calls s = subst (StandsFor calls) (sym c.self.view_is) stands in
    let infos : c.in-Ok.sockets.items ≡ map info_in s.sockets = search rules in
    let cells : map vec_items c.in-Ok-maps.cells.items ≡ numbered s.ports (map_on s.sockets s.queues) = search rules in
    let flags : c.unwrap_or-flags.result ≡ unwrap_or s.flags 0 = search rules in
    let sockets_now : c.in-Ok.sockets.items ≡ numbered (sockets_of calls) (info_of calls) = infos ∙ infos_are calls s.sockets stands_now.sockets in
    let cells_now : map vec_items c.in-Ok-maps.cells.items ≡ numbered s.ports (on_port calls s.queues) = cells ∙ maps_are calls s.sockets s.ports s.queues stands_now.sockets in
    let flags_now : c.unwrap_or-flags.result ≡ unwrap_or (flags_of calls) 0 = flags ∙ ap (λ f. unwrap_or f 0) stands_now.flags in
    let made : c.of_parts.result ≡ sealed s.geometry s.ports s.queues calls =
    c.of_parts.ensures ∙ rw (sockets_now, stands_now.pairs, cells_now, c.has_flag-sg.ensures, c.has_flag-wakeup.ensures, flags_now) refl in
    subst (λ (t : State). c.of_parts.result ≡ sealed t.geometry t.ports t.queues calls) c.self.view_is made
