use Rattle.std.proofs.Common.{rules, ◌≡◌, ◌∙◌, ◌<◌, [], ◌∷◌, ◌++◌, length, ap}
use Rattle.xsk_socket.specs.Setup.{State, no_socket}
use Rattle.xsk_socket.proofs.Outcomes.{more_sockets}
use Rattle.xsk_socket.proofs.Setups.{more_socket}
use Rattle.xsk_socket.proofs.setup.Setup.socket.Goals as goal

pub invariant_of-self-2 : goal.invariant_of-self-2
invariant_of-self-2 c =
    let inside = c.self.inside in
    let s : State = record { geometry = inside.geometry; ports = inside.ports; queues = inside.queues; sockets = inside.sockets.items; pairs = inside.pairs.items; flags = inside.flags } in
    let few : length s.sockets < 64 = search rules in
    let pushed : c.push.new.self.items ≡ s.sockets ++ no_socket ∷ [] = search rules in
    rw pushed (more_socket s c.self.invariant few)

pub returns-clause-calls : goal.returns-clause-calls
returns-clause-calls c = λ calls stands.
    let pushed : c.push.new.self.items ≡ c.self.inside.sockets.items ++ no_socket ∷ [] = search rules in
    record {
      sockets = pushed ∙ more_sockets calls c.self.inside.sockets.items (ap (λ (s : State). s.sockets) c.self.view_is ∙ stands.sockets);
      pairs = ap (λ (s : State). s.pairs) c.self.view_is ∙ stands.pairs;
      flags = ap (λ (s : State). s.flags) c.self.view_is ∙ stands.flags;
    }
