use Rattle.std.proofs.Common.{◌∙◌, ◌++◌, ◌∷◌, [], List, ap, sym}
use Rattle.xsk_model.specs.declared.config.SocketInfo.{SocketInfo}
use Rattle.xsk_socket.specs.Regular.{socket_in}
use Rattle.xsk_socket.proofs.Numbered.{numbered_more}
use Rattle.xsk_socket.proofs.Counts.{fits_counts}
use Rattle.xsk_socket.proofs.numbering.number_sockets.Goals as goal

pub sockets_of-number-end-requires : goal.sockets_of-number-end-requires
sockets_of-number-end-requires c = fits_counts c.args.layout.now c.requires

pub loop-number-preserved : goal.loop-number-preserved
loop-number-preserved c =
    c.in_ok-push.ensures.items
    ∙ ap (λ (xs : List SocketInfo). xs ++ socket_in c.args.layout.now c.loop-number.number ∷ []) c.loop-number.invariant
    ∙ sym (numbered_more c.loop-number.number (socket_in c.args.layout.now))
