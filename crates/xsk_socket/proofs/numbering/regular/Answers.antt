use Rattle.std.proofs.Common.{◌∙◌, ap, sym, subst}
use Rattle.std.specs.Prelude.{IfSome, List}
use Rattle.xsk_model.specs.Config.{Config, IsClosable}
use Rattle.xsk_model.specs.declared.config.SocketInfo.{SocketInfo}
use Rattle.xsk_socket.proofs.Accepted.{fits}
use Rattle.xsk_socket.proofs.Regularity.{is_closable, open-config, regular-regular}
use Rattle.xsk_socket.proofs.numbering.regular.Goals as goal

pub number_sockets-requires : goal.number_sockets-requires
number_sockets-requires c = fits c.args.layout.now c.requires.accepted

pub number_pairs-requires : goal.number_pairs-requires
number_pairs-requires c = fits c.args.layout.now c.requires.accepted

pub number_maps-requires : goal.number_maps-requires
number_maps-requires c = fits c.args.layout.now c.requires.accepted

pub of_parts-config-requires : goal.of_parts-config-requires
of_parts-config-requires c =
    rw (c.requires.geometry, c.in_ok-sockets.ensures, c.in_ok-pairs.ensures, c.in_ok-cells.ensures)
    (open-config c.args.layout.now (fits c.args.layout.now c.requires.accepted))

pub closing-requires-clause-socket : goal.closing-requires-clause-socket
closing-requires-clause-socket c =
    subst (λ (sockets : List SocketInfo). IfSome c.args.layout.now.close (IsClosable sockets)) (sym (ap (λ (k : Config). k.sockets) c.of_parts-config.ensures ∙ c.in_ok-sockets.ensures))
    (is_closable c.args.layout.now (fits c.args.layout.now c.requires.accepted))

pub returns-clause-regular : goal.returns-clause-regular
returns-clause-regular c =
    rw (c.closing.ensures, c.of_parts-config.ensures, c.requires.geometry, c.in_ok-sockets.ensures, c.in_ok-pairs.ensures, c.in_ok-cells.ensures)
    (regular-regular c.args.layout.now (fits c.args.layout.now c.requires.accepted))
