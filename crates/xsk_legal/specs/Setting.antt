-- When the owner of a mark may set it, and which rings a caller may feed, in the words of what a standing keeps.
use Rattle.std.specs.Prelude.{◌≡◌, ℕ, suc, true, false, Some}
use Rattle.std.specs.List.{slice_index_or}
use Rattle.xsk_model.specs.Config.{Config}
use Rattle.xsk_model.specs.Rings.{place, port_of}
use Rattle.xsk_model.specs.Marks.{HasMark, HoldsClosing, IsMarkNumber, IsMarkOwner}
use Rattle.xsk_model.specs.declared.call.Ring.{Ring}
use Rattle.xsk_model.specs.declared.call.Ring.TheVariants.{Fill, Comp, Rx, Tx}
use Rattle.xsk_model.specs.declared.call.Mark.{Mark}
use Rattle.xsk_model.specs.declared.call.Mark.TheVariants.{NeedFill, NeedTx, Kick, RxDone, Gone, TxDone, Cell, Closing, Acked, Bounced}
use Rattle.xsk_legal.specs.declared.marked.Marked.{Marked}
use Rattle.xsk_legal.specs.Noted.{Noted}
use Rattle.xsk_legal.specs.Standing.{places_at}

-- a cell was lowered, or it doesn't hold the socket to close; and so it is with all cells of a port
abbrev pub IsCleared : Config → Marked → ℕ → ℕ → Type 0
IsCleared c marked port index = (s : ℕ) → HoldsClosing c port index s → slice_index_or marked.lowered index false ≡ true

abbrev pub AreCleared : Config → Marked → ℕ → Type 0
AreCleared c marked port = (index : ℕ) → HasMark c (Cell port index) → IsCleared c marked port index

abbrev pub IsTime : Config → Noted → Mark → ℕ → Type 0
IsTime c kept (NeedFill d) value = Unit {0}
IsTime c kept (NeedTx s) value = Unit {0}
IsTime c kept (Kick d) value = Unit {0}
IsTime c kept (RxDone d) value = Unit {0}
IsTime c kept (Gone d) value = Unit {0}
IsTime c kept (TxDone a) value = Unit {0}
IsTime c kept (Cell port index) value = value ≡ 0
IsTime c kept (Closing s) value = (value ≡ 1) × AreCleared c kept.marked (port_of c (Rx s))
IsTime c kept (Acked s) value = (value ≡ 1) × (kept.marked.seen ≡ true) × ((places_at kept (place c (Rx s))).room ≡ 0)
IsTime c kept (Bounced d) value = value ≡ suc kept.marked.bounced

-- all that is asked of a Swap
pub record MaySet (c : Config) (kept : Noted) (m : Mark) (value : ℕ) : Type 0 where
  pub known : HasMark c m
  pub owner : IsMarkOwner c kept.who m
  pub number : IsMarkNumber c m value
  pub time : IsTime c kept m value

-- the caller has not ended the ring
abbrev pub IsOpen : Config → Marked → Ring → Type 0
IsOpen c marked (Fill d) = Unit {0}
IsOpen c marked (Comp d) = Unit {0}
IsOpen c marked (Rx s) = c.closing ≡ Some s → marked.acked ≡ false
IsOpen c marked (Tx s) = c.closing ≡ Some s → marked.closed ≡ false
