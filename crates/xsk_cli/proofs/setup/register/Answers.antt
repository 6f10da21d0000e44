use Rattle.std.proofs.Common.{rules, ◌≡◌, ◌∙◌, ◌/◌, ◌*◌, ◌<◌, ap, arith}
use Rattle.std.proofs.Math.Nat.{mul-div_cancel}
use Rattle.xsk_umem.specs.Registration.{fresh}
use Rattle.xsk_socket.proofs.Accepted.{chunk_is}
use Rattle.xsk_cli.proofs.setup.register.Goals as goal

pub returns-in-Ok-clause-frames : goal.returns-in-Ok-clause-frames
returns-in-Ok-clause-frames c =
    let layout = c.args.layout.now in
    let len : c.from.result * c.from-2.result ≡ layout.frames * layout.chunk = search rules in
    let some : 0 < layout.chunk = omega (arith, chunk_is layout c.requires) in
    let count : (c.from.result * c.from-2.result) / layout.chunk ≡ layout.frames = ap (λ n. n / layout.chunk) len ∙ mul-div_cancel layout.frames some in
    let shown : c.in-Ok.made.1.items ≡ fresh layout.chunk ((c.from.result * c.from-2.result) / layout.chunk) = search rules in
    shown ∙ ap (fresh layout.chunk) count
