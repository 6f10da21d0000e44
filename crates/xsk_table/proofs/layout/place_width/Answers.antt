use Rattle.std.proofs.Common.{◌∙◌}
use Rattle.xsk_table.proofs.Rows.{rx_width_here, tx_width_here}
use Rattle.xsk_table.proofs.layout.place_width.Goals as goal

pub returns-then-place-both-2-clause-value : goal.returns-then-place-both-2-clause-value
returns-then-place-both-2-clause-value c = c.socket_width.ensures ∙ rx_width_here c.args.config.now c.args.place _ _ _ c.pairs-pairs.ensures.value c.sockets-sockets.ensures.value c.if-place-both.false c.if-place-both-2.true

pub returns-else-place-both-2-clause-value : goal.returns-else-place-both-2-clause-value
returns-else-place-both-2-clause-value c = c.socket_width-else-place-both-2.ensures ∙ tx_width_here c.args.config.now c.args.place _ _ _ c.pairs-pairs.ensures.value c.sockets-sockets.ensures.value c.if-place-both-2.false c.requires
