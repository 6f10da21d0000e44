-- A mark and its kind, number and index tell the same.
use Rattle.std.proofs.Common.{refl, arith}
use Rattle.xsk_model.specs.MarkKinds.{PartsMake, MadeOfParts, RowsOfKinds, BelongsTells, RangeTells}
use Rattle.xsk_model.specs.declared.call.Mark.TheVariants as mark
use Rattle.xsk_model.specs.declared.marks.MarkKind.TheVariants.{NeedFill, NeedTx, Kick, RxDone, Gone, TxDone, Cell, Closing, Acked, Bounced}

pub parts_make : PartsMake
parts_make (mark.NeedFill d) = refl
parts_make (mark.NeedTx s) = refl
parts_make (mark.Kick d) = refl
parts_make (mark.RxDone d) = refl
parts_make (mark.Gone d) = refl
parts_make (mark.TxDone a) = refl
parts_make (mark.Cell port index) = refl
parts_make (mark.Closing s) = refl
parts_make (mark.Acked s) = refl
parts_make (mark.Bounced d) = refl

pub made_of_parts : MadeOfParts
made_of_parts NeedFill number index = (refl, refl)
made_of_parts NeedTx number index = (refl, refl)
made_of_parts Kick number index = (refl, refl)
made_of_parts RxDone number index = (refl, refl)
made_of_parts Gone number index = (refl, refl)
made_of_parts TxDone number index = (refl, refl)
made_of_parts Cell number index = (refl, refl)
made_of_parts Closing number index = (refl, refl)
made_of_parts Acked number index = (refl, refl)
made_of_parts Bounced number index = (refl, refl)

pub rows_of_kinds : RowsOfKinds
rows_of_kinds NeedFill = (omega arith, refl)
rows_of_kinds NeedTx = (omega arith, refl)
rows_of_kinds Kick = (omega arith, refl)
rows_of_kinds RxDone = (omega arith, refl)
rows_of_kinds Gone = (omega arith, refl)
rows_of_kinds TxDone = (omega arith, refl)
rows_of_kinds Cell = (omega arith, refl)
rows_of_kinds Closing = (omega arith, refl)
rows_of_kinds Acked = (omega arith, refl)
rows_of_kinds Bounced = (omega arith, refl)

pub belongs_tells : BelongsTells
belongs_tells c (mark.NeedFill d) = (λ h. h, λ h. h)
belongs_tells c (mark.NeedTx s) = (λ h. h, λ h. h)
belongs_tells c (mark.Kick d) = (λ h. h, λ h. h)
belongs_tells c (mark.RxDone d) = (λ h. h, λ h. h)
belongs_tells c (mark.Gone d) = (λ h. h, λ h. h)
belongs_tells c (mark.TxDone a) = (λ h. h, λ h. h)
belongs_tells c (mark.Cell port index) = (λ h. h, λ h. h)
belongs_tells c (mark.Closing s) = (λ h. h, λ h. h)
belongs_tells c (mark.Acked s) = (λ h. h, λ h. h)
belongs_tells c (mark.Bounced d) = (λ h. h, λ h. h)

pub range_tells : RangeTells
range_tells c (mark.NeedFill d) value = (λ h. h, λ h. h)
range_tells c (mark.NeedTx s) value = (λ h. h, λ h. h)
range_tells c (mark.Kick d) value = (λ h. h, λ h. h)
range_tells c (mark.RxDone d) value = (λ h. h, λ h. h)
range_tells c (mark.Gone d) value = (λ h. h, λ h. h)
range_tells c (mark.TxDone a) value = (λ h. h, λ h. h)
range_tells c (mark.Cell port index) value = (λ h. h, λ h. h)
range_tells c (mark.Closing s) value = (λ h. h, λ h. h)
range_tells c (mark.Acked s) value = (λ h. h, λ h. h)
range_tells c (mark.Bounced d) value = (λ h. h, λ h. h)
