use Rattle.std.proofs.Common.{ℕ, ◌∙◌, ◌++◌, ◌∷◌, [], List, ap₂, sym}
use Rattle.xsk_socket.specs.Regular.{cell_in}
use Rattle.xsk_socket.proofs.Numbered.{numbered_more}
use Rattle.xsk_socket.proofs.Counts.{fits_counts}
use Rattle.xsk_socket.proofs.numbering.number_cells.Goals as goal

pub cells_of-index-end-requires : goal.cells_of-index-end-requires
cells_of-index-end-requires c = fits_counts c.args.layout.now c.requires.fits

pub loop-index-preserved : goal.loop-index-preserved
loop-index-preserved c =
    c.in_ok-push.ensures.items
    ∙ ap₂ (λ (xs : List ℕ) (x : ℕ). xs ++ x ∷ []) c.loop-index.invariant c.cell.ensures
    ∙ sym (numbered_more c.loop-index.index (cell_in c.args.layout.now c.args.port))
