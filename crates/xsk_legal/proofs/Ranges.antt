-- The marks of a range of their own are cells.
use Rattle.std.proofs.Common.{◌≡◌, refl}
use Rattle.xsk_model.specs.MarkKinds.{kind_of, number_of, index_of, columns_of}
use Rattle.xsk_model.specs.declared.call.Mark.{Mark}
use Rattle.xsk_model.specs.declared.call.Mark.TheVariants.{NeedFill, NeedTx, Kick, RxDone, Gone, TxDone, Cell, Closing, Acked, Bounced}
use Rattle.xsk_model.specs.declared.marks.Range.TheVariants as range

pub cell_is : (m : Mark) → (columns_of (kind_of m)).range ≡ range.Cell → m ≡ Cell (number_of m) (index_of m)
cell_is (NeedFill d) h = absurd (cc)
cell_is (NeedTx s) h = absurd (cc)
cell_is (Kick d) h = absurd (cc)
cell_is (RxDone d) h = absurd (cc)
cell_is (Gone d) h = absurd (cc)
cell_is (TxDone a) h = absurd (cc)
cell_is (Cell port index) h = refl
cell_is (Closing s) h = absurd (cc)
cell_is (Acked s) h = absurd (cc)
cell_is (Bounced d) h = absurd (cc)
