-- Each mark has a place of its own.
use Rattle.std.proofs.Common.{◌≡◌, ℕ, ◌+◌, ◌*◌, ◌<◌, [], length, ap, arith}
use Rattle.xsk_model.specs.Config.{Config, IsConfig, IsMap, map_of}
use Rattle.xsk_model.specs.Marks.{HasMark, mark_place, mark_places_of}
use Rattle.xsk_model.specs.declared.call.Mark.{Mark}
use Rattle.xsk_model.specs.declared.call.Mark.TheVariants.{NeedFill, NeedTx, Kick, RxDone, Gone, TxDone, Cell, Closing, Acked, Bounced}

-- a port has at most 64 cells
pub cell_below : (c : Config) (port index : ℕ) → IsConfig c → HasMark c (Cell port index) → index < 64
cell_below c port index config h =
    let cells : IsMap (length c.sockets) (map_of c port) = config.cells port [] (omega (arith, h.0, config.maps)) in
    omega (arith, h.1, cells.few)

pub mark_place_below : (c : Config) (m : Mark) → IsConfig c → HasMark c m → mark_place c m < mark_places_of c
mark_place_below c (NeedFill d) config h = omega (arith, h)
mark_place_below c (NeedTx s) config h = omega (arith, h.0)
mark_place_below c (Kick d) config h = omega (arith, h)
mark_place_below c (RxDone d) config h = omega (arith, h)
mark_place_below c (Gone d) config h = omega (arith, h)
mark_place_below c (TxDone a) config h = omega (arith, h)
mark_place_below c (Cell port index) config h = omega (arith, h.0, cell_below c port index config h)
mark_place_below c (Closing s) config h = omega (arith, h)
mark_place_below c (Acked s) config h = omega (arith, h)
mark_place_below c (Bounced d) config h = omega (arith, h)

same_cell : (p i q j : ℕ) → i < 64 → j < 64 → 64 * p + i ≡ 64 * q + j → Cell p i ≡ Cell q j
same_cell p i q j h k e =
    let port : p ≡ q = omega arith in
    let index : i ≡ j = omega arith in
    cc

same_NeedFill : (x y : ℕ) → x ≡ y → NeedFill x ≡ NeedFill y
same_NeedFill x y e = ap NeedFill e

same_NeedTx : (x y : ℕ) → x ≡ y → NeedTx x ≡ NeedTx y
same_NeedTx x y e = ap NeedTx e

same_Kick : (x y : ℕ) → x ≡ y → Kick x ≡ Kick y
same_Kick x y e = ap Kick e

same_RxDone : (x y : ℕ) → x ≡ y → RxDone x ≡ RxDone y
same_RxDone x y e = ap RxDone e

same_Gone : (x y : ℕ) → x ≡ y → Gone x ≡ Gone y
same_Gone x y e = ap Gone e

same_TxDone : (x y : ℕ) → x ≡ y → TxDone x ≡ TxDone y
same_TxDone x y e = ap TxDone e

same_Closing : (x y : ℕ) → x ≡ y → Closing x ≡ Closing y
same_Closing x y e = ap Closing e

same_Acked : (x y : ℕ) → x ≡ y → Acked x ≡ Acked y
same_Acked x y e = ap Acked e

same_Bounced : (x y : ℕ) → x ≡ y → Bounced x ≡ Bounced y
same_Bounced x y e = ap Bounced e

pub mark_place_injective : (c : Config) (m n : Mark) → IsConfig c → HasMark c m → HasMark c n → mark_place c m ≡ mark_place c n → m ≡ n
mark_place_injective c (NeedFill x) (NeedFill y) config h k e = same_NeedFill x y (omega (arith, e))
mark_place_injective c (NeedFill x) (NeedTx y) config h k e = absurd (omega (arith, e, h, k.0))
mark_place_injective c (NeedFill x) (Kick y) config h k e = absurd (omega (arith, e, h, k))
mark_place_injective c (NeedFill x) (RxDone y) config h k e = absurd (omega (arith, e, h, k))
mark_place_injective c (NeedFill x) (Gone y) config h k e = absurd (omega (arith, e, h, k))
mark_place_injective c (NeedFill x) (TxDone y) config h k e = absurd (omega (arith, e, h, k))
mark_place_injective c (NeedFill x) (Cell q j) config h k e = absurd (omega (arith, e, h, k.0))
mark_place_injective c (NeedFill x) (Closing y) config h k e = absurd (omega (arith, e, h, k))
mark_place_injective c (NeedFill x) (Acked y) config h k e = absurd (omega (arith, e, h, k))
mark_place_injective c (NeedFill x) (Bounced y) config h k e = absurd (omega (arith, e, h, k))
mark_place_injective c (NeedTx x) (NeedFill y) config h k e = absurd (omega (arith, e, h.0, k))
mark_place_injective c (NeedTx x) (NeedTx y) config h k e = same_NeedTx x y (omega (arith, e))
mark_place_injective c (NeedTx x) (Kick y) config h k e = absurd (omega (arith, e, h.0, k))
mark_place_injective c (NeedTx x) (RxDone y) config h k e = absurd (omega (arith, e, h.0, k))
mark_place_injective c (NeedTx x) (Gone y) config h k e = absurd (omega (arith, e, h.0, k))
mark_place_injective c (NeedTx x) (TxDone y) config h k e = absurd (omega (arith, e, h.0, k))
mark_place_injective c (NeedTx x) (Cell q j) config h k e = absurd (omega (arith, e, h.0, k.0))
mark_place_injective c (NeedTx x) (Closing y) config h k e = absurd (omega (arith, e, h.0, k))
mark_place_injective c (NeedTx x) (Acked y) config h k e = absurd (omega (arith, e, h.0, k))
mark_place_injective c (NeedTx x) (Bounced y) config h k e = absurd (omega (arith, e, h.0, k))
mark_place_injective c (Kick x) (NeedFill y) config h k e = absurd (omega (arith, e, h, k))
mark_place_injective c (Kick x) (NeedTx y) config h k e = absurd (omega (arith, e, h, k.0))
mark_place_injective c (Kick x) (Kick y) config h k e = same_Kick x y (omega (arith, e))
mark_place_injective c (Kick x) (RxDone y) config h k e = absurd (omega (arith, e, h, k))
mark_place_injective c (Kick x) (Gone y) config h k e = absurd (omega (arith, e, h, k))
mark_place_injective c (Kick x) (TxDone y) config h k e = absurd (omega (arith, e, h, k))
mark_place_injective c (Kick x) (Cell q j) config h k e = absurd (omega (arith, e, h, k.0))
mark_place_injective c (Kick x) (Closing y) config h k e = absurd (omega (arith, e, h, k))
mark_place_injective c (Kick x) (Acked y) config h k e = absurd (omega (arith, e, h, k))
mark_place_injective c (Kick x) (Bounced y) config h k e = absurd (omega (arith, e, h, k))
mark_place_injective c (RxDone x) (NeedFill y) config h k e = absurd (omega (arith, e, h, k))
mark_place_injective c (RxDone x) (NeedTx y) config h k e = absurd (omega (arith, e, h, k.0))
mark_place_injective c (RxDone x) (Kick y) config h k e = absurd (omega (arith, e, h, k))
mark_place_injective c (RxDone x) (RxDone y) config h k e = same_RxDone x y (omega (arith, e))
mark_place_injective c (RxDone x) (Gone y) config h k e = absurd (omega (arith, e, h, k))
mark_place_injective c (RxDone x) (TxDone y) config h k e = absurd (omega (arith, e, h, k))
mark_place_injective c (RxDone x) (Cell q j) config h k e = absurd (omega (arith, e, h, k.0))
mark_place_injective c (RxDone x) (Closing y) config h k e = absurd (omega (arith, e, h, k))
mark_place_injective c (RxDone x) (Acked y) config h k e = absurd (omega (arith, e, h, k))
mark_place_injective c (RxDone x) (Bounced y) config h k e = absurd (omega (arith, e, h, k))
mark_place_injective c (Gone x) (NeedFill y) config h k e = absurd (omega (arith, e, h, k))
mark_place_injective c (Gone x) (NeedTx y) config h k e = absurd (omega (arith, e, h, k.0))
mark_place_injective c (Gone x) (Kick y) config h k e = absurd (omega (arith, e, h, k))
mark_place_injective c (Gone x) (RxDone y) config h k e = absurd (omega (arith, e, h, k))
mark_place_injective c (Gone x) (Gone y) config h k e = same_Gone x y (omega (arith, e))
mark_place_injective c (Gone x) (TxDone y) config h k e = absurd (omega (arith, e, h, k))
mark_place_injective c (Gone x) (Cell q j) config h k e = absurd (omega (arith, e, h, k.0))
mark_place_injective c (Gone x) (Closing y) config h k e = absurd (omega (arith, e, h, k))
mark_place_injective c (Gone x) (Acked y) config h k e = absurd (omega (arith, e, h, k))
mark_place_injective c (Gone x) (Bounced y) config h k e = absurd (omega (arith, e, h, k))
mark_place_injective c (TxDone x) (NeedFill y) config h k e = absurd (omega (arith, e, h, k))
mark_place_injective c (TxDone x) (NeedTx y) config h k e = absurd (omega (arith, e, h, k.0))
mark_place_injective c (TxDone x) (Kick y) config h k e = absurd (omega (arith, e, h, k))
mark_place_injective c (TxDone x) (RxDone y) config h k e = absurd (omega (arith, e, h, k))
mark_place_injective c (TxDone x) (Gone y) config h k e = absurd (omega (arith, e, h, k))
mark_place_injective c (TxDone x) (TxDone y) config h k e = same_TxDone x y (omega (arith, e))
mark_place_injective c (TxDone x) (Cell q j) config h k e = absurd (omega (arith, e, h, k.0))
mark_place_injective c (TxDone x) (Closing y) config h k e = absurd (omega (arith, e, h, k))
mark_place_injective c (TxDone x) (Acked y) config h k e = absurd (omega (arith, e, h, k))
mark_place_injective c (TxDone x) (Bounced y) config h k e = absurd (omega (arith, e, h, k))
mark_place_injective c (Cell p i) (NeedFill y) config h k e = absurd (omega (arith, e, h.0, k))
mark_place_injective c (Cell p i) (NeedTx y) config h k e = absurd (omega (arith, e, h.0, k.0))
mark_place_injective c (Cell p i) (Kick y) config h k e = absurd (omega (arith, e, h.0, k))
mark_place_injective c (Cell p i) (RxDone y) config h k e = absurd (omega (arith, e, h.0, k))
mark_place_injective c (Cell p i) (Gone y) config h k e = absurd (omega (arith, e, h.0, k))
mark_place_injective c (Cell p i) (TxDone y) config h k e = absurd (omega (arith, e, h.0, k))
mark_place_injective c (Cell p i) (Cell q j) config h k e = same_cell p i q j (cell_below c p i config h) (cell_below c q j config k) (omega (arith, e))
mark_place_injective c (Cell p i) (Closing y) config h k e = absurd (omega (arith, e, h.0, cell_below c p i config h, k))
mark_place_injective c (Cell p i) (Acked y) config h k e = absurd (omega (arith, e, h.0, cell_below c p i config h, k))
mark_place_injective c (Cell p i) (Bounced y) config h k e = absurd (omega (arith, e, h.0, cell_below c p i config h, k))
mark_place_injective c (Closing x) (NeedFill y) config h k e = absurd (omega (arith, e, h, k))
mark_place_injective c (Closing x) (NeedTx y) config h k e = absurd (omega (arith, e, h, k.0))
mark_place_injective c (Closing x) (Kick y) config h k e = absurd (omega (arith, e, h, k))
mark_place_injective c (Closing x) (RxDone y) config h k e = absurd (omega (arith, e, h, k))
mark_place_injective c (Closing x) (Gone y) config h k e = absurd (omega (arith, e, h, k))
mark_place_injective c (Closing x) (TxDone y) config h k e = absurd (omega (arith, e, h, k))
mark_place_injective c (Closing x) (Cell q j) config h k e = absurd (omega (arith, e, h, k.0, cell_below c q j config k))
mark_place_injective c (Closing x) (Closing y) config h k e = same_Closing x y (omega (arith, e))
mark_place_injective c (Closing x) (Acked y) config h k e = absurd (omega (arith, e, h, k))
mark_place_injective c (Closing x) (Bounced y) config h k e = absurd (omega (arith, e, h, k))
mark_place_injective c (Acked x) (NeedFill y) config h k e = absurd (omega (arith, e, h, k))
mark_place_injective c (Acked x) (NeedTx y) config h k e = absurd (omega (arith, e, h, k.0))
mark_place_injective c (Acked x) (Kick y) config h k e = absurd (omega (arith, e, h, k))
mark_place_injective c (Acked x) (RxDone y) config h k e = absurd (omega (arith, e, h, k))
mark_place_injective c (Acked x) (Gone y) config h k e = absurd (omega (arith, e, h, k))
mark_place_injective c (Acked x) (TxDone y) config h k e = absurd (omega (arith, e, h, k))
mark_place_injective c (Acked x) (Cell q j) config h k e = absurd (omega (arith, e, h, k.0, cell_below c q j config k))
mark_place_injective c (Acked x) (Closing y) config h k e = absurd (omega (arith, e, h, k))
mark_place_injective c (Acked x) (Acked y) config h k e = same_Acked x y (omega (arith, e))
mark_place_injective c (Acked x) (Bounced y) config h k e = absurd (omega (arith, e, h, k))
mark_place_injective c (Bounced x) (NeedFill y) config h k e = absurd (omega (arith, e, h, k))
mark_place_injective c (Bounced x) (NeedTx y) config h k e = absurd (omega (arith, e, h, k.0))
mark_place_injective c (Bounced x) (Kick y) config h k e = absurd (omega (arith, e, h, k))
mark_place_injective c (Bounced x) (RxDone y) config h k e = absurd (omega (arith, e, h, k))
mark_place_injective c (Bounced x) (Gone y) config h k e = absurd (omega (arith, e, h, k))
mark_place_injective c (Bounced x) (TxDone y) config h k e = absurd (omega (arith, e, h, k))
mark_place_injective c (Bounced x) (Cell q j) config h k e = absurd (omega (arith, e, h, k.0, cell_below c q j config k))
mark_place_injective c (Bounced x) (Closing y) config h k e = absurd (omega (arith, e, h, k))
mark_place_injective c (Bounced x) (Acked y) config h k e = absurd (omega (arith, e, h, k))
mark_place_injective c (Bounced x) (Bounced y) config h k e = same_Bounced x y (omega (arith, e))
