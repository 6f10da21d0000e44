use Rattle.std.proofs.Common.{rules, ◌≡◌, ◌∙◌, ◌<◌, None, true, length, set, ap}
use Rattle.xsk_socket.specs.declared.socket.Socket.{Socket}
use Rattle.xsk_socket.specs.Layout.{is_ring_size}
use Rattle.xsk_socket.specs.Setup.{State, socket_at}
use Rattle.xsk_model.proofs.RingSizes.{size_of_power}
use Rattle.xsk_socket.proofs.Outcomes.{more_rings}
use Rattle.xsk_socket.proofs.Setups.{more_ring, own_is}
use Rattle.xsk_socket.proofs.setup.Setup.ring.Goals as goal

pub invariant_of-self : goal.invariant_of-self
invariant_of-self c =
    let inside = c.self.inside in
    let s : State = record { geometry = inside.geometry; ports = inside.ports; queues = inside.queues; sockets = inside.sockets.items; pairs = inside.pairs.items; flags = inside.flags } in
    let own : Socket = c.index.result.now in
    let within : c.args.socket < length s.sockets = search rules in
    let here : socket_at s.sockets c.args.socket ≡ own = own_is s.sockets c.args.socket own within c.index.ensures in
    let unbound : own.bound ≡ None = search rules in
    let size : is_ring_size c.args.size ≡ true = search rules in
    rw c.with_ring.ensures (more_ring s c.args.socket c.args.size c.args.kind own c.self.invariant within here unbound (size_of_power c.args.size size))

pub returns-clause-calls : goal.returns-clause-calls
returns-clause-calls c = λ calls stands.
    let sockets = c.self.inside.sockets.items in
    let own : Socket = c.index.result.now in
    let within : c.args.socket < length sockets = search rules in
    let here : socket_at sockets c.args.socket ≡ own = own_is sockets c.args.socket own within c.index.ensures in
    record {
      sockets = ap (set sockets c.args.socket) c.with_ring.ensures
          ∙ more_rings calls sockets c.args.kind c.args.socket c.args.size own within here (ap (λ (s : State). s.sockets) c.self.view_is ∙ stands.sockets);
      pairs = ap (λ (s : State). s.pairs) c.self.view_is ∙ stands.pairs;
      flags = ap (λ (s : State). s.flags) c.self.view_is ∙ stands.flags;
    }
