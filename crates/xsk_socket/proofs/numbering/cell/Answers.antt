use Rattle.xsk_socket.proofs.Counts.{fits_counts}
use Rattle.xsk_socket.proofs.numbering.cell.Goals as goal

pub cells_of-requires : goal.cells_of-requires
cells_of-requires c = fits_counts c.args.layout.now c.requires.fits
