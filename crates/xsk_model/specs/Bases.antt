-- Where the rings and the marks of each kind begin among all of a configuration, in the order of `place` and `mark_place`.
use Rattle.std.specs.Prelude.{ℕ, ◌+◌, ◌*◌, List, [], ◌∷◌, length}
use Rattle.xsk_model.specs.Config.{Config}
use Rattle.xsk_model.specs.Marks.{flags_of, cells_end_of}

-- FILL, COMPLETION, RX and TX
abbrev pub ring_bases : Config → List ℕ
ring_bases c = 0 ∷ length c.pairs ∷ (2 * length c.pairs) ∷ (2 * length c.pairs + length c.sockets) ∷ []

-- NeedFill, NeedTx, Kick, RxDone, Gone and TxDone, the cells, Closing, Acked and Bounced
abbrev pub mark_bases : Config → List ℕ
mark_bases c = 0 ∷ length c.pairs ∷ (length c.pairs + length c.sockets) ∷ (2 * length c.pairs + length c.sockets) ∷ (3 * length c.pairs + length c.sockets)
    ∷ (4 * length c.pairs + length c.sockets) ∷ flags_of c ∷ cells_end_of c ∷ (cells_end_of c + length c.sockets) ∷ (cells_end_of c + 2 * length c.sockets) ∷ []
