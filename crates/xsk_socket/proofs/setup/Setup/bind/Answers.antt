use Rattle.std.proofs.Common.{◌≡◌, ℕ, refl, ◌∙◌, ◌<◌, Option, Some, None, get_or, length, set, ap, ap₂, sym, subst}
use Rattle.std.specs.Prelude.{unwrap_or}
use Rattle.xsk_socket.specs.declared.socket.Socket.{Socket}
use Rattle.xsk_socket.specs.Refusals.{bind_refusal}
use Rattle.xsk_socket.specs.Rings.{paired}
use Rattle.xsk_socket.specs.Setup.{State, StandsFor, socket_at}
use Rattle.xsk_socket.proofs.Outcomes.{more_binds, own_rings}
use Rattle.xsk_socket.proofs.Setups.{MayBind, may_bind, more_bind, own_is}
use Rattle.xsk_socket.proofs.setup.Setup.bind.Goals as goal

-- what the check tells, of any setup and socket
told : (s : State) (number port queue flags : ℕ) (shared : Option ℕ) (own : Socket) → None ≡ bind_refusal s number port queue flags shared
    → own ≡ get_or s.sockets number own → (number < length s.sockets) × (socket_at s.sockets number ≡ own) × MayBind s own port queue
told s number port queue flags shared own none there =
    let first = may_bind s number port queue flags shared (socket_at s.sockets number) none refl in
    let here : socket_at s.sockets number ≡ own = own_is s.sockets number own first.0 there in
    (first.0, here, (may_bind s number port queue flags shared own none here).1)

pub pair_up-requires : goal.pair_up-requires
pair_up-requires c =
    let inside = c.self.inside in
    let s : State = record { geometry = inside.geometry; ports = inside.ports; queues = inside.queues; sockets = inside.sockets.items; pairs = inside.pairs.items; flags = inside.flags } in
    let none : None ≡ bind_refusal s c.args.socket c.args.port c.args.queue c.args.flags c.args.shared
    = subst (λ (t : State). None ≡ bind_refusal t c.args.socket c.args.port c.args.queue c.args.flags c.args.shared) (sym c.self.view_is) c.in_ok-check_bind.ensures in
    (told s c.args.socket c.args.port c.args.queue c.args.flags c.args.shared c.index-own.result.now none c.index-own.ensures).2.pair

pub invariant_of-self-2 : goal.invariant_of-self-2
invariant_of-self-2 c =
    let inside = c.self.inside in
    let s : State = record { geometry = inside.geometry; ports = inside.ports; queues = inside.queues; sockets = inside.sockets.items; pairs = inside.pairs.items; flags = inside.flags } in
    let own = c.index-own.result.now in
    let none : None ≡ bind_refusal s c.args.socket c.args.port c.args.queue c.args.flags c.args.shared
    = subst (λ (t : State). None ≡ bind_refusal t c.args.socket c.args.port c.args.queue c.args.flags c.args.shared) (sym c.self.view_is) c.in_ok-check_bind.ensures in
    let is = told s c.args.socket c.args.port c.args.queue c.args.flags c.args.shared own none c.index-own.ensures in
    rw (c.bound_to.ensures, c.in_ok-pair_up.ensures.paired)
    (more_bind s c.args.socket c.args.port c.args.queue (Some c.unwrap_or.result) own c.self.invariant is.0 is.1 is.2)

pub returns-clause-calls : goal.returns-clause-calls
returns-clause-calls c = λ calls stands.
    let inside = c.self.inside in
    let s : State = record { geometry = inside.geometry; ports = inside.ports; queues = inside.queues; sockets = inside.sockets.items; pairs = inside.pairs.items; flags = inside.flags } in
    let own = c.index-own.result.now in
    let none : None ≡ bind_refusal s c.args.socket c.args.port c.args.queue c.args.flags c.args.shared
    = subst (λ (t : State). None ≡ bind_refusal t c.args.socket c.args.port c.args.queue c.args.flags c.args.shared) (sym c.self.view_is) c.in_ok-check_bind.ensures in
    let is = told s c.args.socket c.args.port c.args.queue c.args.flags c.args.shared own none c.index-own.ensures in
    let stands_now : StandsFor calls s = subst (StandsFor calls) (sym c.self.view_is) stands in
    record {
      sockets = ap (set s.sockets c.args.socket) c.bound_to.ensures
          ∙ more_binds calls s.sockets c.args.socket c.args.port c.args.queue c.args.flags own is.0 is.1 stands_now.sockets;
      pairs = c.in_ok-pair_up.ensures.paired
          ∙ ap₂ (λ pairs x. paired pairs x c.args.port c.args.queue) stands_now.pairs (own_rings calls s.sockets c.args.socket own is.0 is.1 stands_now.sockets);
      flags = ap Some (c.unwrap_or.ensures ∙ ap (λ f. unwrap_or f c.args.flags) stands_now.flags);
    }
