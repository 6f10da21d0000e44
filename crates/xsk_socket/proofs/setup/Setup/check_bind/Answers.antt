use Rattle.std.proofs.Common.{rules, ◌≡◌, ◌∙◌, ◌++◌, None, ap, sym, subst, ◌<◌, length, get_or}
use Rattle.std.specs.Prelude.{IsSome}
use Rattle.std.specs.Result.{result_err}
use Rattle.xsk_socket.specs.declared.socket.Socket.{Socket}
use Rattle.xsk_socket.specs.Refusals.{first_of, on_flags, on_place, on_socket}
use Rattle.xsk_socket.specs.Setup.{State, socket_at}
use Rattle.xsk_socket.proofs.Refused.{before, behind, clear, not_past}
use Rattle.xsk_socket.proofs.Setups.{own_is}
use Rattle.xsk_socket.proofs.setup.Setup.check_bind.Goals as goal

pub returns-in_err-check_flags : goal.returns-in_err-check_flags
returns-in_err-check_flags c =
    let s = c.args.self.now in
    let r = result_err c.from_residual-in_err-check_flags.result in
    let some : IsSome r = search rules in
    let is : r ≡ first_of (on_flags s c.args.flags c.args.shared) = search rules in
    before (on_socket s c.args.socket ++ on_flags s c.args.flags c.args.shared) (on_place s (socket_at s.sockets c.args.socket) c.args.port c.args.queue) r some
    (behind (on_socket s c.args.socket) (on_flags s c.args.flags c.args.shared) r c.in_ok-check_socket.ensures is)

pub returns : goal.returns
returns c =
    let s = c.args.self.now in
    let r = result_err c.check_place.result in
    let clear_so_far = clear (on_socket s c.args.socket) c.in_ok-check_socket.ensures in
    let within : c.args.socket < length s.sockets = not_past (length s.sockets) c.args.socket clear_so_far.0 in
    let sockets : c.self.inside.sockets.items ≡ s.sockets = ap (λ (s : State). s.sockets) c.self.view_is in
    let x : Socket = c.index.result.now in
    let there : x ≡ get_or s.sockets c.args.socket x = subst (λ xs. x ≡ get_or xs c.args.socket x) sockets c.index.ensures in
    let own : x ≡ socket_at s.sockets c.args.socket = sym (own_is s.sockets c.args.socket x within there) in
    let is : r ≡ first_of (on_place s (socket_at s.sockets c.args.socket) c.args.port c.args.queue)
    = c.check_place.ensures ∙ ap (λ (x : Socket). first_of (on_place s x c.args.port c.args.queue)) own in
    behind (on_socket s c.args.socket ++ on_flags s c.args.flags c.args.shared) (on_place s (socket_at s.sockets c.args.socket) c.args.port c.args.queue) r
    (behind (on_socket s c.args.socket) (on_flags s c.args.flags c.args.shared) None c.in_ok-check_socket.ensures c.in_ok-check_flags.ensures) is
